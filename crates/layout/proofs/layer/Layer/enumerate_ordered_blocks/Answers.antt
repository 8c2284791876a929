use Rattle.std.proofs.Common.{sym, ◌∙◌}
use Rattle.layout.specs.Layers.{laid}
use Rattle.layout.specs.Waiting.{in_order}
use Rattle.layout.proofs.Taking.{in_order_length, stretch_all}
use Rattle.layout.proofs.layer.Layer.enumerate_ordered_blocks.Goals as goal

pub returns : goal.returns
returns c =
    let l = laid c.args.self.now in
    stretch_all (in_order l) c.chunk_count.result (c.chunk_count.ensures ∙ sym (in_order_length l.order l.scheme))
