-- The coordinates of a block.
use Rattle.std.specs.Prelude.{ℕ, Bool, cond, ◌&&◌, List, map, ℤ, pos, negsuc, ◌+ℤ◌, Some, None, Ok, Err, Option, Result, int_le}
use Rattle.std.specs.List.{slice_get}
use Rattle.numbers.specs.Refusals.{Told, refused}
use Rattle.numbers.specs.declared.vec2.Vec2.{Vec2}
use Rattle.schemes.specs.Meanings.{Meaning, block_size}
use Rattle.schemes.specs.declared.level.Naming.{Naming}
use Rattle.schemes.specs.declared.level.Naming.TheVariants as by
use Rattle.blocks.specs.Bounds.{corner, tile_of}
use Rattle.blocks.specs.Numbering.{all_blocks}
use Rattle.blocks.specs.declared.block.Block.{Block}
use Rattle.blocks.specs.declared.tile.TileCoordinates.{TileCoordinates}
use Rattle.prefixes.specs.declared.coordinates.BlockCoordinates.{BlockCoordinates}
use Rattle.prefixes.specs.declared.coordinates.BlockCoordinates.TheVariants.{Line, Tile}

-- the layer's y plus the block's first row
abbrev pub first_line : Meaning → Vec2 ℤ → Block → ℤ
first_line m position b = position.1 +ℤ pos (corner (block_size m) b).1

-- numbers as signed ones
abbrev pub signed : Vec2 ℕ → Vec2 ℤ
signed p = record { 0 = pos p.0; 1 = pos p.1 }

abbrev pub signed_all : TileCoordinates ℕ → TileCoordinates ℤ
signed_all t = record { tile_index = signed t.tile_index; level_index = signed t.level_index }

-- under line naming the first line; under tile naming the column and row, and the level's pair
abbrev pub coordinates_by : Naming → Meaning → Vec2 ℤ → Block → BlockCoordinates
coordinates_by by.Line m position b = Line (first_line m position b)
coordinates_by by.Tile m position b = Tile (signed_all (tile_of b))

abbrev pub coordinates_of : Meaning → Vec2 ℤ → Block → BlockCoordinates
coordinates_of m position b = coordinates_by m.naming m position b

-- the coordinates of all blocks, in the order of their numbers
abbrev pub all_coordinates : Meaning → Vec2 ℤ → List BlockCoordinates
all_coordinates m position = map (coordinates_of m position) (all_blocks m)

-- whether a signed 32-bit field holds the number
abbrev pub small : ℤ → Bool
small z = int_le (negsuc 2147483647) z && int_le z (pos 2147483647)

abbrev pub small_pair : Vec2 ℤ → Bool
small_pair p = small p.0 && small p.1

-- whether the fields of a prefix hold the coordinates
abbrev pub fits_fields : BlockCoordinates → Bool
fits_fields (Line y) = small y
fits_fields (Tile t) = small_pair t.tile_index && small_pair t.level_index

-- the coordinates as a prefix tells them: 16 where a field does not hold them
abbrev pub telling : BlockCoordinates → Result BlockCoordinates Told
telling c = cond (fits_fields c) (Ok c) (Err (refused 16 5 0))

-- the coordinates of the block with a number
abbrev pub told_by : Meaning → Vec2 ℤ → Option Block → Result BlockCoordinates Told
told_by m position None = Err (refused 23 3 0)
told_by m position (Some b) = telling (coordinates_of m position b)

abbrev pub coordinates_told : Meaning → Vec2 ℤ → ℕ → Result BlockCoordinates Told
coordinates_told m position number = told_by m position (slice_get (all_blocks m) number)
