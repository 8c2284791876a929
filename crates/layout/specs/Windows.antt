-- What divides a layer's window, and the limits of the blocks that cut it.
use Rattle.std.specs.Prelude.{ℕ, ◌%◌, Bool, ◌&&◌, ◌||◌, ℤ, ◌==◌, unsigned_abs}
use Rattle.schemes.specs.Making.{is_side}

-- on one axis: whether a factor divides position and size
abbrev pub divides : ℕ → ℤ → ℕ → Bool
divides factor position size = unsigned_abs position % factor == 0 && size % factor == 0

-- the lines that a scan line block may have
abbrev pub good_lines : ℕ → Bool
good_lines lines = lines == 1 || (lines == 16 || (lines == 32 || lines == 256))

-- from 1 to 2,147,483,647
abbrev pub good_side : ℕ → Bool
good_side n = is_side n
