-- Counting the elements of a list that pass a test.
use Rattle.std.proofs.Common.{◌≡◌, ℕ, zero, suc, Bool, true, cond, ◌⊎◌, List, [], ◌∷◌, map, Some, None, count_by, Option, refl, ap, ◌∙◌, inl, inr, arith}
use Rattle.std.specs.List.{slice_get}
use Rattle.std.proofs.lemmas.List.Sums.{sum_by-cons}
use Rattle.std.proofs.lemmas.Bool.{cases_Bool}
use Rattle.numbers.specs.Wholes.{optional}

count_none : {X : Type 0} (p : X → Bool) (xs : List X) → ((j : ℕ) (y : X) → slice_get xs j ≡ Some y → p y ≡ true → ⊥) → count_by p xs ≡ 0
count_none p [] none = refl
count_none p (x ∷ xs) none =
    let s = sum_by-cons (λ y. cond (p y) 1 0) x xs in
    let rest = count_none p xs (λ j y e t. none (suc j) y e t) in
    elim (cases_Bool (p x)) [
      | inl t ↦ let no : ⊥ = none 0 x refl t in elim no [ ]
      | inr f ↦ let z : ◌≡◌ {A = ℕ} (cond (p x) 1 0) 0 = ap (λ b. cond b 1 0) f in omega arith
    ]

-- one place passes, and no other: one
pub count_one : {X : Type 0} (p : X → Bool) (xs : List X) (k : ℕ) (x : X) → slice_get xs k ≡ Some x → p x ≡ true → ((j : ℕ) (y : X) → slice_get xs j ≡ Some y → p y ≡ true → j ≡ k) → count_by p xs ≡ 1
count_one p [] k x e t only = let z : ◌≡◌ {A = ℕ} 0 1 = cc in omega arith
count_one p (y ∷ ys) zero x e t only =
    let s = sum_by-cons (λ v. cond (p v) 1 0) y ys in
    let same : y ≡ x = cc in
    let z : ◌≡◌ {A = ℕ} (cond (p y) 1 0) 1 = ap (λ v. cond (p v) 1 0) same ∙ ap (λ b. cond b 1 0) t in
    let rest = count_none p ys (λ j v f u. let a = only (suc j) v f u in omega arith) in
    omega arith
count_one p (y ∷ ys) (suc k) x e t only =
    let s = sum_by-cons (λ v. cond (p v) 1 0) y ys in
    let rest = count_one p ys k x e t (λ j v f u. let a = only (suc j) v f u in omega arith) in
    elim (cases_Bool (p y)) [
      | inl u ↦ let a = only 0 y refl u in omega arith
      | inr f ↦ let z : ◌≡◌ {A = ℕ} (cond (p y) 1 0) 0 = ap (λ b. cond b 1 0) f in omega arith
    ]

pub nth_map : {X Y : Type 0} (f : X → Y) (xs : List X) (n : ℕ) → slice_get (map f xs) n ≡ optional f (slice_get xs n)
nth_map f [] n = refl
nth_map f (x ∷ xs) zero = refl
nth_map f (x ∷ xs) (suc n) = nth_map f xs n

pub some_cases : {X : Type 0} (o : Option X) → (o ≡ None) ⊎ ((x : X) × (o ≡ Some x))
some_cases None = inl refl
some_cases (Some x) = inr (x, refl)
