-- What the lookups compute, step by step. That it is the block asked for is a law of its own.
use Rattle.std.specs.Prelude.{ℕ, ◌/◌, ◌%◌, cond, ℤ, ◌-ℤ◌, Some, None, Ok, Err, Option, Result, ◌==◌}
use Rattle.numbers.specs.Pairs.{natural}
use Rattle.numbers.specs.Refusals.{Told}
use Rattle.numbers.specs.declared.vec2.Vec2.{Vec2}
use Rattle.schemes.specs.Meanings.{Meaning, position_of}
use Rattle.schemes.specs.declared.level.Naming.{Naming}
use Rattle.schemes.specs.declared.level.Naming.TheVariants.{Line, Tile}
use Rattle.blocks.specs.Numbering.{number_at}
use Rattle.blocks.specs.Stored.{natural_tile}
use Rattle.blocks.specs.declared.tile.TileCoordinates.{TileCoordinates}
use Rattle.prefixes.specs.declared.coordinates.BlockCoordinates.{BlockCoordinates}
use Rattle.prefixes.specs.declared.coordinates.BlockCoordinates.TheVariants as coordinates

abbrev pub and_then : {A B : Type 0} → Option A → (A → Option B) → Option B
and_then None f = None
and_then (Some a) f = f a

-- the number that was told
abbrev pub answer : Result ℕ Told → Option ℕ
answer (Ok n) = Some n
answer (Err why) = None

abbrev pub under_lines : Naming → Option ℕ → Option ℕ
under_lines Line o = o
under_lines Tile o = None

abbrev pub under_tiles : Naming → Option ℕ → Option ℕ
under_tiles Line o = None
under_tiles Tile o = o

-- a line that is a whole number of blocks below the top
abbrev pub row_of : Meaning → ℕ → Option ℕ
row_of m distance = cond (distance % m.block_height == 0) (answer (number_at m 0 (distance / m.block_height) 0)) None

abbrev pub line_search : Meaning → ℤ → ℤ → Option ℕ
line_search m top y = under_lines m.naming (and_then (natural (y -ℤ top)) (row_of m))

-- the block at the column and row of the level with the pair
abbrev pub in_level : Meaning → TileCoordinates ℕ → Option ℕ
in_level m t = and_then (position_of m.levels t.level_index) (λ p. answer (number_at m p t.tile_index.1 t.tile_index.0))

abbrev pub tile_search : Meaning → TileCoordinates ℤ → Option ℕ
tile_search m tile = under_tiles m.naming (and_then (natural_tile tile) (in_level m))

abbrev pub search_for : Meaning → Vec2 ℤ → BlockCoordinates → Option ℕ
search_for m position (coordinates.Line y) = line_search m position.1 y
search_for m position (coordinates.Tile tile) = tile_search m tile
