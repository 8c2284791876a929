use Rattle.std.proofs.Common.{◌≡◌, drop}
use Rattle.std.specs.List.{slice_get}
use Rattle.schemes.specs.Meanings.{block_size}
use Rattle.blocks.specs.Numbering.{all_blocks, blocks_from}
use Rattle.blocks.specs.declared.line_order.LineOrder.TheVariants.{Increasing}
use Rattle.blocks.proofs.numbering.find_block.Given as goal

-- what is left of the number leads to its block in what is left of the levels
abbrev pub invariant-loop-position : goal.invariant-loop-position
invariant-loop-position g l =
    let m = g.S.Scheme.meaning l.scheme in
    slice_get (blocks_from Increasing (block_size m) l.position (drop l.position m.levels)) l.rest ≡ slice_get (all_blocks m) l.number
