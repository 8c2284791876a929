-- What the numbers of a line stand for.
use Rattle.std.specs.Prelude.{ℕ, ◌&&◌, cond, pos, negsuc, ℤ, int_le}

-- a number of 32 bits, and the largest for one that they do not hold
abbrev pub int : ℤ → ℤ
int n = cond (int_le (negsuc 2147483647) n && int_le n (pos 2147483647)) n (pos 2147483647)

-- a size, and 0 for a number that is none
abbrev pub size : ℤ → ℕ
size (pos n) = n
size (negsuc n) = 0
