-- A stretch of a list, taken from either end.
use Rattle.std.proofs.Common.{◌≡◌, ℕ, zero, suc, ◌+◌, ◌-◌, ◌<◌, ◌≤◌, List, [], ◌∷◌, length, take, drop, sym, refl, ap, ◌∙◌, zero-add, arith, length-drop, take_all, drop-drop}
use Rattle.std.proofs.lemmas.List.{drop-take, length-map, length-take-le, take-take}
use Rattle.std.specs.List.{slice_get}
use Rattle.schemes.specs.Blocks.{chunks_in}
use Rattle.schemes.specs.Meanings.{Meaning}
use Rattle.blocks.specs.Numbering.{blocks_by}
use Rattle.blocks.specs.Orders.{ordered_blocks}
use Rattle.blocks.specs.declared.line_order.LineOrder.{LineOrder}
use Rattle.blocks.proofs.Numbers.{by_length}
use Rattle.blocks.proofs.Ordering.{entry}

pub in_order_length : (o : LineOrder) (m : Meaning) → length (ordered_blocks o m) ≡ chunks_in m
in_order_length o m = length-map (blocks_by o m) (entry m) ∙ by_length o m

nth_drop : {X : Type 0} (xs : List X) (n k : ℕ) → slice_get (drop n xs) k ≡ slice_get xs (n + k)
nth_drop xs zero k = ap (slice_get xs) (sym (zero-add k))
nth_drop [] (suc n) k = refl
nth_drop (x ∷ xs) (suc n) k = let e : suc n + k ≡ suc (n + k) = omega arith in nth_drop xs n k ∙ ap (slice_get (x ∷ xs)) (sym e)

nth_take : {X : Type 0} (xs : List X) (n k : ℕ) → k < n → slice_get (take n xs) k ≡ slice_get xs k
nth_take xs zero k h = let none : ⊥ = omega arith in elim none [ ]
nth_take [] (suc n) k h = refl
nth_take (x ∷ xs) (suc n) zero h = refl
nth_take (x ∷ xs) (suc n) (suc k) h = nth_take xs n k (omega arith)

-- from one place up to another
abbrev pub stretch : {X : Type 0} → List X → ℕ → ℕ → List X
stretch xs front back = take (back - front) (drop front xs)

pub stretch_all : {X : Type 0} (xs : List X) (n : ℕ) → n ≡ length xs → stretch xs 0 n ≡ xs
stretch_all xs n e = take_all (n - 0) xs (omega arith)

pub stretch_length : {X : Type 0} (xs : List X) (f b : ℕ) → f ≤ b → b ≤ length xs → length (stretch xs f b) ≡ b - f
stretch_length xs f b h k = length-take-le (b - f) (drop f xs) (simp length-drop (omega arith))

pub stretch_last : {X : Type 0} (xs : List X) (f b : ℕ) → f < b → slice_get (stretch xs f b) (b - f - 1) ≡ slice_get xs (b - 1)
stretch_last xs f b h =
    let e : f + (b - f - 1) ≡ b - 1 = omega arith in
    nth_take (drop f xs) (b - f) (b - f - 1) (omega arith) ∙ nth_drop xs f (b - f - 1) ∙ ap (slice_get xs) e

pub stretch_behind : {X : Type 0} (xs : List X) (f b : ℕ) → f < b → stretch xs (f + 1) b ≡ drop 1 (stretch xs f b)
stretch_behind xs f b h =
    let e : b - f ≡ 1 + (b - (f + 1)) = omega arith in
    sym (ap (λ n. drop 1 (take n (drop f xs))) e ∙ drop-take 1 (b - (f + 1)) (drop f xs) ∙ ap (take (b - (f + 1))) (drop-drop 1 f xs))

pub stretch_before : {X : Type 0} (xs : List X) (f b : ℕ) → f < b → stretch xs f (b - 1) ≡ take (b - f - 1) (stretch xs f b)
stretch_before xs f b h =
    let e : b - 1 - f ≡ b - f - 1 = omega arith in
    ap (λ n. take n (drop f xs)) e ∙ sym (take-take (b - f - 1) (b - f) (drop f xs) (omega arith))
