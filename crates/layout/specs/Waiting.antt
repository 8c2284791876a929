-- The blocks of a layer in line order that were not taken yet, from either end.
use Rattle.std.specs.Prelude.{ℕ, ◌-◌, List, take, drop}
use Rattle.blocks.specs.Orders.{ordered_blocks}
use Rattle.blocks.specs.declared.tile.TileIndices.{TileIndices}
use Rattle.layout.specs.Acceptance.{Laid}
use Rattle.layout.specs.Layers.{laid}
use Rattle.layout.specs.declared.ordered.OrderedBlocks.{OrderedBlocks}

-- all blocks of a layer in its line order, each with its number
abbrev pub in_order : Laid → List (ℕ × TileIndices)
in_order l = ordered_blocks l.order l.scheme

-- behind those taken from the front, and before those taken from the back
abbrev pub waiting : OrderedBlocks → List (ℕ × TileIndices)
waiting o = take (o.back - o.front) (drop o.front (in_order (laid o.layer)))
