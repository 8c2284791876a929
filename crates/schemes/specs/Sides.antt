-- Sides in pixels, of layers, levels and blocks.
use Rattle.std.specs.Prelude.{ℕ, ◌≤◌}

-- a side runs from 1 to 2,147,483,647
abbrev pub IsSide : ℕ → Type 0
IsSide n = (1 ≤ n) × (n ≤ 2147483647)
