-- The lists of levels, by the formulas of the OpenEXR documents.
use Rattle.std.specs.Prelude.{ℕ, max, List, [], ◌∷◌, ◌++◌, map}
use Rattle.std.specs.List.{range_with_len}
use Rattle.numbers.specs.Counts.{levels_of, side_at}
use Rattle.numbers.specs.declared.rounding.RoundingMode.{RoundingMode}
use Rattle.schemes.specs.declared.level.Level.{Level}

-- level (x, y) of a w by h image: rf(w / 2^x) by rf(h / 2^y), each at least 1
abbrev pub level_at : RoundingMode → ℕ → ℕ → ℕ → ℕ → Level
level_at mode w h x y = record { pair = record { 0 = x; 1 = y }; width = side_at mode w x; height = side_at mode h y }

-- level (0, 0) alone
abbrev pub one_level : ℕ → ℕ → List Level
one_level w h = record { pair = record { 0 = 0; 1 = 0 }; width = w; height = h } ∷ []

-- (0, 0), (1, 1), .., as many as the longer side has: rf(log2 (max (w, h))) + 1
abbrev pub mip_levels : RoundingMode → ℕ → ℕ → List Level
mip_levels mode w h = map (λ l. level_at mode w h l l) (range_with_len 0 (levels_of mode (max w h)))

-- the list of each element in turn, end to end
abbrev pub for_each : {A B : Type 0} → List A → (A → List B) → List B
for_each [] f = []
for_each (x ∷ xs) f = f x ++ for_each xs f

-- (0, 0), (1, 0), .., (0, 1), (1, 1), ..: for each y level, each x level
abbrev pub rip_levels : RoundingMode → ℕ → ℕ → List Level
rip_levels mode w h = for_each (range_with_len 0 (levels_of mode h)) (λ y. map (λ x. level_at mode w h x y) (range_with_len 0 (levels_of mode w)))
