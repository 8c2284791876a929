-- Making sides.
use Rattle.std.specs.Prelude.{ℕ, Bool, cond, ◌&&◌, Some, None, Option, nat_le}
use Rattle.numbers.specs.declared.vec2.Vec2.{Vec2}
use Rattle.schemes.specs.declared.side.Side.{Side}

abbrev pub pixels_of : Side → ℕ
pixels_of s = s.pixels

-- whether a number is a side: from 1 to 2,147,483,647
abbrev pub is_side : ℕ → Bool
is_side n = nat_le 1 n && nat_le n 2147483647

-- the number where it is a side
abbrev pub side_of : ℕ → Option ℕ
side_of n = cond (is_side n) (Some n) None

-- both numbers of a pair, where both are sides
abbrev pub both_sides : Vec2 ℕ → Option (Vec2 ℕ)
both_sides size = cond (is_side size.0 && is_side size.1) (Some size) None

abbrev pub pixels_of_both : Vec2 Side → Vec2 ℕ
pixels_of_both sides = record { 0 = sides.0.pixels; 1 = sides.1.pixels }
