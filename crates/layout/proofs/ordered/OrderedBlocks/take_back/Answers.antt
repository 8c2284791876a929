use Rattle.std.proofs.Common.{◌≡◌, ◌-◌, ◌<◌, length, take, sym, ap, ◌∙◌, arith}
use Rattle.std.specs.List.{slice_get}
use Rattle.layout.specs.Layers.{laid}
use Rattle.layout.specs.Waiting.{in_order, waiting}
use Rattle.layout.proofs.Taking.{in_order_length, stretch_before, stretch_last, stretch_length}
use Rattle.layout.proofs.ordered.OrderedBlocks.take_back.Goals as goal

pub returns : goal.returns
returns c =
    let o = c.args.self.now in
    let l = laid o.layer in
    let xs = in_order l in
    let some : o.front < o.back = omega (arith, o.between) in
    let many : length (waiting o) ≡ o.back - o.front = stretch_length xs o.front o.back o.between (omega (arith, o.within, in_order_length l.order l.scheme)) in
    record {
      answer = c.at.ensures ∙ sym (ap (λ n. slice_get (waiting o) (n - 1)) many ∙ stretch_last xs o.front o.back some);
      left = stretch_before xs o.front o.back some ∙ sym (ap (λ n. take (n - 1) (waiting o)) many);
    }
