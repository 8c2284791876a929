-- What is known of a level that was cut, and that counts of its blocks fit.
use Rattle.std.proofs.Common.{◌≡◌, ℕ, ◌*◌, ◌^◌, ◌<◌, Some, None, Option, refl, ap, ◌∙◌, subst, arith}
use Rattle.std.specs.List.{slice_get}
use Rattle.numbers.specs.Wholes.{optional}
use Rattle.numbers.specs.declared.vec2.Vec2.{Vec2}
use Rattle.schemes.specs.Blocks.{blocks_in}
use Rattle.schemes.specs.Meanings.{Meaning, Lawful, block_size}
use Rattle.schemes.specs.declared.level.Level.{Level}
use Rattle.schemes.proofs.Counting.{chunks_le, one_fits}
use Rattle.blocks.specs.Cuts.{cut_of}
use Rattle.blocks.specs.Numbering.{across, down}
use Rattle.blocks.specs.declared.cut.Cut.{Cut}

pub record IsCut (size : Vec2 ℕ) (o : Option Level) (k : Cut) : Type 0 where
  pub there : Some k.level ≡ o
  pub across_is : k.across ≡ across size k.level
  pub down_is : k.down ≡ down size k.level

pub is_cut : (size : Vec2 ℕ) (o : Option Level) (k : Cut) → Some k ≡ optional (cut_of size) o → IsCut size o k
is_cut size (Some l) k e =
    let f : cut_of size l ≡ k = cc in
    subst (λ (x : Cut). IsCut size (Some l) x) f (record { there = refl; across_is = refl; down_is = refl })
is_cut size None k e = let z : ◌≡◌ {A = ℕ} 0 1 = cc in let none : ⊥ = omega arith in elim none [ ]

pub no_cut : (size : Vec2 ℕ) (o : Option Level) → None ≡ optional (cut_of size) o → None ≡ o
no_cut size (Some l) e = let z : ◌≡◌ {A = ℕ} 0 1 = cc in let none : ⊥ = omega arith in elim none [ ]
no_cut size None e = refl

-- the product is the blocks of the level
pub cut_blocks : (size : Vec2 ℕ) (o : Option Level) (k : Cut) → IsCut size o k → k.across * k.down ≡ blocks_in size k.level
cut_blocks size o k c = ap (λ n. n * k.down) c.across_is ∙ ap (λ n. across size k.level * n) c.down_is

pub cut_fits : (m : Meaning) → Lawful m → (i : ℕ) (k : Cut) → IsCut (block_size m) (slice_get m.levels i) k → k.across * k.down < 2 ^ 64
cut_fits m ok i k c =
    omega (arith, cut_blocks (block_size m) (slice_get m.levels i) k c, chunks_le (block_size m) ok.block_wide.0 ok.block_high.0 k.level, one_fits m ok i k.level c.there)
