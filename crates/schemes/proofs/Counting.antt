-- Lists by their places, and sums over levels that fit.
use Rattle.std.specs.Prelude.{◌≡◌, ℕ, zero, suc, ◌+◌, ◌/◌, ◌^◌, ◌<◌, ◌≤◌, List, [], ◌∷◌, length, take, Some, None, sum_by, slice_index_or, refl}
use Rattle.std.proofs.Common.{sym, ◌∙◌, ap, zero-le, suc-le-suc, le-mul_of_pos_right, mul-le-mul, arith}
use Rattle.std.proofs.Math.Nat.{div-add-mod}
use Rattle.std.specs.List.{slice_get}
use Rattle.std.proofs.lemmas.List.Sums.{sum_by-cons, sum_by-take-le, get_or-le-sum_by}
use Rattle.numbers.specs.Rounding.{ceiling}
use Rattle.numbers.specs.declared.vec2.Vec2.{Vec2}
use Rattle.schemes.specs.Blocks.{blocks_in}
use Rattle.schemes.specs.Meanings.{Meaning, Lawful, area}
use Rattle.schemes.specs.Rows.{nth_some}
use Rattle.schemes.specs.declared.level.Level.{Level}

pub ceiling_le : (a b : ℕ) → 0 < b → ceiling a b ≤ a
ceiling_le a b h = omega (arith, div-add-mod a b, le-mul_of_pos_right (a / b) h)

pub chunks_le : (b : Vec2 ℕ) → 0 < b.0 → 0 < b.1 → (l : Level) → blocks_in b l ≤ area l
chunks_le b w h l = mul-le-mul (ceiling_le l.width _ w) (ceiling_le l.height _ h)

pub sumBy_mono : {X : Type 0} (f g : X → ℕ) → ((x : X) → f x ≤ g x) → (xs : List X) → sum_by f xs ≤ sum_by g xs
sumBy_mono f g h [] = zero-le
sumBy_mono f g h (x ∷ xs) = omega (arith, sum_by-cons f x xs, sum_by-cons g x xs, h x, sumBy_mono f g h xs)

pub nth_none : {X : Type 0} (xs : List X) (i : ℕ) → None ≡ slice_get xs i → length xs ≤ i
nth_none [] i e = zero-le
nth_none (y ∷ ys) zero e = let z : ◌≡◌ {A = ℕ} 0 1 = cc in omega arith
nth_none (y ∷ ys) (suc i) e = suc-le-suc (nth_none ys i e)

pub one_fits : (m : Meaning) → Lawful m → (i : ℕ) (l : Level) → Some l ≡ slice_get m.levels i → area l < 2 ^ 64
one_fits m ok i l e =
    let k = nth_some m.levels i l (sym e) in
    let n : area (slice_index_or m.levels i l) ≤ sum_by area m.levels = get_or-le-sum_by area m.levels i l k.0 in
    let s : area (slice_index_or m.levels i l) ≡ area l = ap area k.1 in
    let b = ok.levels.fits in
    omega arith

pub so_far_fits : (m : Meaning) → Lawful m → (b : Vec2 ℕ) → 0 < b.0 → 0 < b.1 → (i : ℕ) → sum_by (blocks_in b) (take i m.levels) < 2 ^ 64
so_far_fits m ok b w h i =
    let front : sum_by (blocks_in b) (take i m.levels) ≤ sum_by (blocks_in b) m.levels = sum_by-take-le (blocks_in b) m.levels i in
    let whole : sum_by (blocks_in b) m.levels ≤ sum_by area m.levels = sumBy_mono (blocks_in b) area (chunks_le b w h) m.levels in
    let fits = ok.levels.fits in
    omega arith

pub nth_past : {X : Type 0} (xs : List X) (i : ℕ) → length xs ≤ i → None ≡ slice_get xs i
nth_past [] i h = refl
nth_past (y ∷ ys) zero h = let none : ⊥ = omega arith in elim none [ ]
nth_past (y ∷ ys) (suc i) h = nth_past ys i (omega arith)
