-- Lawful levels in tiles make a lawful scheme.
use Rattle.std.specs.Prelude.{◌≡◌, ℕ, List}
use Rattle.std.proofs.Common.{arith}
use Rattle.schemes.specs.Sides.{IsSide}
use Rattle.schemes.specs.Meanings.{Lawful, LawfulLevels}
use Rattle.schemes.specs.Schemes.{in_tiles}
use Rattle.schemes.specs.declared.level.Level.{Level}
use Rattle.schemes.specs.declared.level.Naming.TheVariants.{Line, Tile}

-- tiles are not lines
not_lines : {P : Type 0} → Tile ≡ Line → P
not_lines e = let z : ◌≡◌ {A = ℕ} 0 1 = cc in let none : ⊥ = omega arith in elim none [ ]

pub tiles_lawful : (tw th : ℕ) (levels : List Level) → IsSide tw → IsSide th → LawfulLevels levels → Lawful (in_tiles tw th levels)
tiles_lawful tw th levels st su ok = record {
  block_wide = st;
  block_high = su;
  levels = ok;
  one_by_lines = λ e. not_lines e;
  whole_lines = λ e. not_lines e;
}
