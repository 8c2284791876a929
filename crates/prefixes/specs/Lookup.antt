-- Blocks found by their coordinates.
use Rattle.std.specs.Prelude.{ℕ, ◌+◌, Bool, false, cond, ◌&&◌, List, [], ◌∷◌, ℤ, pos, negsuc, Some, None, Ok, Err, Option, Result, ◌==◌}
use Rattle.numbers.specs.Refusals.{Told, refused}
use Rattle.numbers.specs.declared.vec2.Vec2.{Vec2}
use Rattle.schemes.specs.Meanings.{Meaning}
use Rattle.prefixes.specs.Coordinates.{all_coordinates}
use Rattle.prefixes.specs.declared.coordinates.BlockCoordinates.{BlockCoordinates}
use Rattle.prefixes.specs.declared.coordinates.BlockCoordinates.TheVariants.{Line, Tile}

-- whether two coordinates are the same
abbrev pub same_int : ℤ → ℤ → Bool
same_int (pos a) (pos b) = a == b
same_int (pos a) (negsuc b) = false
same_int (negsuc a) (pos b) = false
same_int (negsuc a) (negsuc b) = a == b

abbrev pub same_ints : Vec2 ℤ → Vec2 ℤ → Bool
same_ints a b = same_int a.0 b.0 && same_int a.1 b.1

abbrev pub same_coordinates : BlockCoordinates → BlockCoordinates → Bool
same_coordinates (Line y) (Line z) = same_int y z
same_coordinates (Line y) (Tile t) = false
same_coordinates (Tile t) (Line y) = false
same_coordinates (Tile t) (Tile u) = same_ints t.tile_index u.tile_index && same_ints t.level_index u.level_index

-- the place of the first element that passes, the first of the list being at k
abbrev pub first_from : {A : Type 0} → ℕ → (A → Bool) → List A → Option ℕ
first_from k passes [] = None
first_from k passes (x ∷ xs) = cond (passes x) (Some k) (first_from (k + 1) passes xs)

-- the number of the block that has the coordinates, and 21 where none has them
abbrev pub looked_up : Meaning → Vec2 ℤ → BlockCoordinates → Result ℕ Told
looked_up m position c = elim (first_from 0 (same_coordinates c) (all_coordinates m position)) [ Some number ↦ Ok number | None ↦ Err (refused 21 5 0) ]
