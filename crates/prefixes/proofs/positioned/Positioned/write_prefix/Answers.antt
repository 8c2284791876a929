use Rattle.std.proofs.Common.{◌≡◌, Err, ap, ◌∙◌, arith}
use Rattle.std.proofs.lemmas.Result.{err_from_is_err_and}
use Rattle.numbers.specs.Refusals.{outcome}
use Rattle.blocks.proofs.Answering.{answered, no_block, refused_by}
use Rattle.prefixes.specs.Bytes.{prefix_size}
use Rattle.prefixes.proofs.Prefixing.{no_block_there, wrote_block, wrote_none}
use Rattle.prefixes.proofs.positioned.Positioned.write_prefix.Goals as goal

pub returns-in_err-coordinates-in-Ok : goal.returns-in_err-coordinates-in-Ok
returns-in_err-coordinates-in-Ok g c =
    let s = c.args.self.now in
    let m = g.S.Scheme.meaning s.scheme in
    let at = answered m c.args.number c.in-Ok.block c.in-Ok.ensures.answer in
    let p = err_from_is_err_and c.from_residual.result c.from_residual.ensures.1 in
    let why = c.in_err-coordinates-in-Ok.field-0.0 in
    let is : c.from_residual.result ≡ Err why = p.1 ∙ ap Err p.2 in
    let w = wrote_none m s.position c.args.number c.args.data_length c.args.buffer.now c.args.buffer.now why c.in-Ok.block at c.in_err-coordinates-in-Ok.ensures in
    record { answer = ap outcome is ∙ w.answer; buffer = w.buffer; back = rw is tt }

pub returns-in_ok-coordinates-in-Ok : goal.returns-in_ok-coordinates-in-Ok
returns-in_ok-coordinates-in-Ok g c =
    let s = c.args.self.now in
    let m = g.S.Scheme.meaning s.scheme in
    let at = answered m c.args.number c.in-Ok.block c.in-Ok.ensures.answer in
    let w = wrote_block m s.position c.args.number c.args.data_length c.args.buffer.now c.write.new.buffer c.write.result c.in-Ok.block c.in_ok-coordinates-in-Ok.coordinates at
    c.in_ok-coordinates-in-Ok.ensures c.write.ensures.answer c.write.ensures.buffer c.write.ensures.back in
    record { answer = w.answer; buffer = w.buffer; back = w.back }

pub returns-in-Err-2 : goal.returns-in-Err-2
returns-in-Err-2 g c =
    let m = g.S.Scheme.meaning c.args.self.now.scheme in
    let sized : c.prefix_size.result ≡ prefix_size m.naming = c.prefix_size.ensures ∙ ap prefix_size c.naming.ensures in
    let e = c.in-Err.ensures.answer in
    let w = no_block_there m c.args.self.now.position c.args.number c.args.data_length c.args.buffer.now c.args.buffer.now c.in-Err.field-0 (no_block m c.args.number _ e) (omega arith) (ap Err (refused_by m c.args.number _ e)) in
    record { answer = w.answer; buffer = w.buffer; back = w.back }
