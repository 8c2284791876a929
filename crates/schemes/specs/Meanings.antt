-- What a level scheme means, and the rules that its meaning keeps.
use Rattle.std.specs.Prelude.{◌≡◌, ℕ, ◌+◌, ◌-◌, ◌*◌, ◌<◌, ◌≤◌, Bool, cond, ◌&&◌, List, [], ◌∷◌, length, Some, None, sum_by, Option, ◌==◌}
use Rattle.std.specs.List.{slice_get}
use Rattle.numbers.specs.declared.vec2.Vec2.{Vec2}
use Rattle.schemes.specs.Sides.{IsSide}
use Rattle.schemes.specs.declared.level.Level.{Level}
use Rattle.schemes.specs.declared.level.Naming.{Naming}
use Rattle.schemes.specs.declared.level.Naming.TheVariants.{Line}

-- the sides of every unclipped block, how blocks are named, and the levels in their order
pub record Meaning : Type 0 where
  pub block_width : ℕ
  pub block_height : ℕ
  pub naming : Naming
  pub levels : List Level

abbrev pub block_size : Meaning → Vec2 ℕ
block_size m = record { 0 = m.block_width; 1 = m.block_height }

-- the pixels of a level
abbrev pub area : Level → ℕ
area l = l.width * l.height

-- P holds of each level of the list
abbrev pub EachLevel : (Level → Type 0) → List Level → Type 0
EachLevel P levels = (i : ℕ) (l : Level) → slice_get levels i ≡ Some l → P l

abbrev pub HasSides : Level → Type 0
HasSides l = IsSide l.width × IsSide l.height

-- x level and y level, each from 0 to 31
abbrev pub LowPair : Level → Type 0
LowPair l = (l.pair.0 ≤ 31) × (l.pair.1 ≤ 31)

-- no pair stands twice
abbrev pub DistinctPairs : List Level → Type 0
DistinctPairs levels = (i j : ℕ) (l k : Level) → slice_get levels i ≡ Some l → slice_get levels j ≡ Some k → l.pair.0 ≡ k.pair.0 → l.pair.1 ≡ k.pair.1 → i ≡ j

-- level (0,0), as wide as its blocks
abbrev pub WholeLines : ℕ → Level → Type 0
WholeLines block_width l = (l.pair.0 ≡ 0) × (l.pair.1 ≡ 0) × (l.width ≡ block_width)

-- the rules of every list of levels
pub record LawfulLevels (levels : List Level) : Type 0 where
  pub some : 1 ≤ length levels
  pub few : length levels ≤ 1024
  pub sides : EachLevel HasSides levels
  pub pairs : EachLevel LowPair levels
  pub distinct : DistinctPairs levels
  -- all level areas add up to at most 2^64 − 1
  pub fits : sum_by area levels ≤ 18446744073709551615

-- the rules of every scheme
pub record Lawful (m : Meaning) : Type 0 where
  pub block_wide : IsSide m.block_width
  pub block_high : IsSide m.block_height
  pub levels : LawfulLevels m.levels
  -- under line naming there is one level, and it is (0,0) in whole lines
  pub one_by_lines : m.naming ≡ Line → length m.levels ≡ 1
  pub whole_lines : m.naming ≡ Line → EachLevel (WholeLines m.block_width) m.levels

-- whether two level pairs are the same
abbrev pub same_pair : Vec2 ℕ → Vec2 ℕ → Bool
same_pair a b = a.0 == b.0 && a.1 == b.1

-- where the level with this pair stands, the first of the list being at k
abbrev pub position_from : ℕ → List Level → Vec2 ℕ → Option ℕ
position_from k [] p = None
position_from k (l ∷ ls) p = cond (same_pair l.pair p) (Some k) (position_from (k + 1) ls p)

abbrev pub position_of : List Level → Vec2 ℕ → Option ℕ
position_of levels p = position_from 0 levels p

-- a level that is there, and is one pixel
abbrev pub OneByOne : Option Level → Type 0
OneByOne (Some l) = (l.width ≡ 1) × (l.height ≡ 1)
OneByOne None = ⊥

-- the last level is one pixel, and no earlier one is
pub record EndsAtOnePixel (levels : List Level) : Type 0 where
  pub some : 1 ≤ length levels
  pub pixel : OneByOne (slice_get levels (length levels - 1))
  pub earlier : (i : ℕ) → i < length levels - 1 → OneByOne (slice_get levels i) → ⊥
