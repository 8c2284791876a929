-- Coordinates that are the same, and the first of a list that passes a test.
use Rattle.std.proofs.Common.{◌≡◌, ℕ, zero, suc, ◌+◌, Bool, true, false, List, [], ◌∷◌, ℤ, pos, negsuc, Some, None, sym, refl, ap, ◌∙◌, inl, inr, add-zero, arith}
use Rattle.std.proofs.lemmas.Bool.{and_from, and_parts, cases_Bool, cond-false, cond-true, eq-eqb, eqb-true}
use Rattle.std.specs.List.{slice_get}
use Rattle.numbers.specs.declared.vec2.Vec2.{Vec2}
use Rattle.prefixes.specs.Lookup.{first_from, same_coordinates, same_int, same_ints}
use Rattle.prefixes.specs.declared.coordinates.BlockCoordinates.{BlockCoordinates}
use Rattle.prefixes.specs.declared.coordinates.BlockCoordinates.TheVariants.{Line, Tile}

never : {P : Type 0} → false ≡ true → P
never e = let z : ◌≡◌ {A = ℕ} 0 1 = cc in let none : ⊥ = omega arith in elim none [ ]

int_same : (a b : ℤ) → same_int a b ≡ true → a ≡ b
int_same (pos a) (pos b) e = ap pos (eqb-true a b e)
int_same (pos a) (negsuc b) e = never e
int_same (negsuc a) (pos b) e = never e
int_same (negsuc a) (negsuc b) e = ap negsuc (eqb-true a b e)

int_self : (a : ℤ) → same_int a a ≡ true
int_self (pos a) = eq-eqb a a refl
int_self (negsuc a) = eq-eqb a a refl

ints_self : (a : Vec2 ℤ) → same_ints a a ≡ true
ints_self a = and_from _ _ (int_self a.0) (int_self a.1)

ints_same : (a b : Vec2 ℤ) → same_ints a b ≡ true → a ≡ b
ints_same a b e =
    let p = and_parts (same_int a.0 b.0) (same_int a.1 b.1) e in
    let make : ℤ → ℤ → Vec2 ℤ = λ x y. record { 0 = x; 1 = y } in
    ap (λ x. make x a.1) (int_same _ _ p.0) ∙ ap (make b.0) (int_same _ _ p.1)

pub same : (a b : BlockCoordinates) → same_coordinates a b ≡ true → a ≡ b
same (Line y) (Line z) e = ap Line (int_same y z e)
same (Line y) (Tile t) e = never e
same (Tile t) (Line y) e = never e
same (Tile t) (Tile u) e =
    let p = and_parts (same_ints t.tile_index u.tile_index) (same_ints t.level_index u.level_index) e in
    let make : Vec2 ℤ → Vec2 ℤ → BlockCoordinates = λ x y. Tile (record { tile_index = x; level_index = y }) in
    ap (λ v. make v t.level_index) (ints_same _ _ p.0) ∙ ap (make u.tile_index) (ints_same _ _ p.1)

pub self_same : (a : BlockCoordinates) → same_coordinates a a ≡ true
self_same (Line y) = int_self y
self_same (Tile t) = and_from _ _ (ints_self t.tile_index) (ints_self t.level_index)

-- one place passes, and no other
first_one : {A : Type 0} (p : A → Bool) (k : ℕ) (xs : List A) (n : ℕ) (x : A) → slice_get xs n ≡ Some x → p x ≡ true → ((j : ℕ) (y : A) → slice_get xs j ≡ Some y → p y ≡ true → j ≡ n) → first_from k p xs ≡ Some (k + n)
first_one p k [] n x e t only = let z : ◌≡◌ {A = ℕ} 0 1 = cc in let none : ⊥ = omega arith in elim none [ ]
first_one p k (y ∷ ys) zero x e t only =
    let is : y ≡ x = cc in
    cond-true _ _ _ (ap p is ∙ t) ∙ ap Some (sym (add-zero k))
first_one p k (y ∷ ys) (suc n) x e t only = elim (cases_Bool (p y)) [
  | inl u ↦ let a = only 0 y refl u in let none : ⊥ = omega arith in elim none [ ]
  | inr f ↦
      let on : k + 1 + n ≡ k + suc n = omega arith in
      cond-false _ _ _ f ∙ first_one p (k + 1) ys n x e t (λ j v g u. let a = only (suc j) v g u in omega arith) ∙ ap Some on
]

pub first_at : {A : Type 0} (p : A → Bool) (xs : List A) (n : ℕ) (x : A) → slice_get xs n ≡ Some x → p x ≡ true → ((j : ℕ) (y : A) → slice_get xs j ≡ Some y → p y ≡ true → j ≡ n) → first_from 0 p xs ≡ Some n
first_at p xs n x e t only = first_one p 0 xs n x e t only ∙ (let z : 0 + n ≡ n = omega arith in ap Some z)

-- no place passes
pub first_none : {A : Type 0} (p : A → Bool) (k : ℕ) (xs : List A) → ((j : ℕ) (y : A) → slice_get xs j ≡ Some y → p y ≡ true → ⊥) → first_from k p xs ≡ None
first_none p k [] none = refl
first_none p k (y ∷ ys) none = elim (cases_Bool (p y)) [
  | inl u ↦ let no : ⊥ = none 0 y refl u in elim no [ ]
  | inr f ↦ cond-false _ _ _ f ∙ first_none p (k + 1) ys (λ j v g u. none (suc j) v g u)
]
