use Rattle.std.proofs.Common.{sym, arith}
use Rattle.layout.specs.Layers.{laid}
use Rattle.layout.specs.Waiting.{in_order}
use Rattle.layout.proofs.Taking.{in_order_length, stretch_length}
use Rattle.layout.proofs.ordered.OrderedBlocks.len.Goals as goal

pub returns : goal.returns
returns c =
    let o = c.args.self.now in
    let l = laid o.layer in
    sym (stretch_length (in_order l) o.front o.back o.between (omega (arith, o.within, in_order_length l.order l.scheme)))
