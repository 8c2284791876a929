-- Levels found by their pairs.
use Rattle.std.specs.Prelude.{◌≡◌, ℕ, List, Some, None, Option}
use Rattle.std.specs.List.{slice_get}
use Rattle.numbers.specs.declared.vec2.Vec2.{Vec2}
use Rattle.schemes.specs.Meanings.{position_of}
use Rattle.schemes.specs.declared.level.Level.{Level}

-- the level at a position that may be absent
abbrev pub level_at_place : List Level → Option ℕ → Option Level
level_at_place levels None = None
level_at_place levels (Some position) = slice_get levels position

-- the level that has the pair
abbrev pub level_with : List Level → Vec2 ℕ → Option Level
level_with levels pair = level_at_place levels (position_of levels pair)

-- the level at position i has the pair
abbrev pub HasPairAt : List Level → Vec2 ℕ → ℕ → Type 0
HasPairAt levels p i = (l : Level) × (slice_get levels i ≡ Some l) × (l.pair.0 ≡ p.0) × (l.pair.1 ≡ p.1)

-- the answer is a level of the list that has the pair; where nothing is answered, no level of the list has it
abbrev pub IsLevelWith : List Level → Vec2 ℕ → Option Level → Type 0
IsLevelWith levels p (Some l) = (i : ℕ) × (slice_get levels i ≡ Some l) × (l.pair.0 ≡ p.0) × (l.pair.1 ≡ p.1)
IsLevelWith levels p None = (i : ℕ) → HasPairAt levels p i → ⊥
