-- Reading what was written gives it back.
use Rattle.std.proofs.Common.{◌≡◌, ℕ, ◌+◌, ◌*◌, ◌/◌, ◌%◌, ◌<◌, List, ◌++◌, ℤ, ap, ◌∙◌, to_z-of_z, w32, SFits, to_z, of_z, rules}
use mir.Facts.{Fits-of_z}
use Rattle.fields.specs.Bytes.{int_at, int_bytes}

-- a number of four bytes is the sum of its bytes, each at its weight
digits : (n : ℕ) → n < 4294967296 → n % 256 + n / 256 % 256 * 256 + n / 65536 % 256 * 65536 + n / 16777216 % 256 * 16777216 ≡ n
digits n small = search rules

-- the first four bytes read as the number that they write, whatever follows them
pub int_back : (z : ℤ) (rest : List ℕ) → SFits w32 z → int_at (int_bytes z ++ rest) 0 ≡ z
int_back z rest fits = ap (to_z w32) (digits (of_z w32 z) (Fits-of_z fits).fits) ∙ to_z-of_z fits
