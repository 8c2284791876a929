-- Tile coordinates as they are stored, and as they are counted with.
use Rattle.std.specs.Prelude.{ℕ, ◌+◌, List, ℤ, Some, None, Option}
use Rattle.numbers.specs.Pairs.{naturals, signed_pair}
use Rattle.numbers.specs.declared.vec2.Vec2.{Vec2}
use Rattle.fields.specs.Bytes.{int_at, pair_at}
use Rattle.blocks.specs.declared.tile.TileCoordinates.{TileCoordinates}

-- in bytes, from a place on: the tile's pair, and behind it the level's
abbrev pub tile_at : {T : Type 0} → ℕ → (List ℕ → ℕ → T) → List ℕ → ℕ → TileCoordinates T
tile_at width part bytes at = record { tile_index = pair_at width part bytes at; level_index = pair_at width part bytes (at + (width + width)) }

-- in four bytes a number, the signed ones
abbrev pub tile_ints_at : List ℕ → ℕ → TileCoordinates ℤ
tile_ints_at bytes at = tile_at 4 int_at bytes at

-- tile and level, where both are there
abbrev pub tile_and_level : {T : Type 0} → Option (Vec2 T) → Option (Vec2 T) → Option (TileCoordinates T)
tile_and_level (Some tile) (Some level) = Some (record { tile_index = tile; level_index = level })
tile_and_level (Some tile) None = None
tile_and_level None (Some level) = None
tile_and_level None None = None

-- in signed 32-bit numbers, where they hold all four
abbrev pub signed_tile : TileCoordinates ℕ → Option (TileCoordinates ℤ)
signed_tile t = tile_and_level (signed_pair t.tile_index) (signed_pair t.level_index)

-- in unsigned numbers, where none of the four is negative
abbrev pub natural_tile : TileCoordinates ℤ → Option (TileCoordinates ℕ)
natural_tile t = tile_and_level (naturals t.tile_index) (naturals t.level_index)
