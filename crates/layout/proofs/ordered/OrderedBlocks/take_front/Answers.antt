use Rattle.std.proofs.Common.{◌<◌, arith}
use Rattle.layout.specs.Layers.{laid}
use Rattle.layout.specs.Waiting.{in_order}
use Rattle.layout.proofs.Taking.{stretch_behind}
use Rattle.layout.proofs.ordered.OrderedBlocks.take_front.Goals as goal

pub returns-clause-left : goal.returns-clause-left
returns-clause-left c =
    let o = c.args.self.now in
    let xs = in_order (laid o.layer) in
    let some : o.front < o.back = omega (arith, o.between) in
    stretch_behind xs o.front o.back some
