-- The pixels of a block: cut from its level's corner, and clipped at the far edges.
use Rattle.std.specs.Prelude.{ℕ, ◌*◌, pos}
use Rattle.numbers.specs.Counts.{clipped}
use Rattle.numbers.specs.declared.vec2.Vec2.{Vec2}
use Rattle.blocks.specs.declared.block.Block.{Block}
use Rattle.blocks.specs.declared.bounds.IntegerBounds.{IntegerBounds}
use Rattle.blocks.specs.declared.tile.TileCoordinates.{TileCoordinates}
use Rattle.blocks.specs.declared.tile.TileIndices.{TileIndices}

-- the pixels before a block on each axis
abbrev pub corner : Vec2 ℕ → Block → Vec2 ℕ
corner size b = record { 0 = size.0 * b.column; 1 = size.1 * b.row }

-- a whole block, or what is left of the level from the corner on where that is less
abbrev pub extent : Vec2 ℕ → Block → Vec2 ℕ
extent size b = record { 0 = clipped b.level.width size.0 (size.0 * b.column); 1 = clipped b.level.height size.1 (size.1 * b.row) }

abbrev pub bounds_of : Vec2 ℕ → Block → IntegerBounds
bounds_of size b = record { position = record { 0 = pos (corner size b).0; 1 = pos (corner size b).1 }; size = extent size b }

-- column and row, and the level's pair
abbrev pub tile_of : Block → TileCoordinates ℕ
tile_of b = record { tile_index = record { 0 = b.column; 1 = b.row }; level_index = b.level.pair }

-- the same, with the size of the bounds
abbrev pub indices_of : Vec2 ℕ → Block → TileIndices
indices_of size b = record { location = tile_of b; size = extent size b }
