-- Where a level pair stands in a list.
use Rattle.std.proofs.Common.{◌≡◌, ℕ, zero, suc, ◌+◌, ◌<◌, true, false, eqb, List, [], ◌∷◌, Some, None, sym, refl, ap, ◌∙◌, subst, inl, inr, add-zero, arith}
use Rattle.std.specs.List.{slice_get}
use Rattle.std.proofs.lemmas.Bool.{cases_Bool, cond-true, cond-false, and_parts, and_from, eqb-true, eq-eqb}
use Rattle.numbers.specs.declared.vec2.Vec2.{Vec2}
use Rattle.schemes.specs.Finding.{HasPairAt}
use Rattle.schemes.specs.Meanings.{same_pair, position_from, position_of, DistinctPairs}
use Rattle.schemes.specs.declared.level.Level.{Level}

same_from : (a b : Vec2 ℕ) → a.0 ≡ b.0 → a.1 ≡ b.1 → same_pair a b ≡ true
same_from a b p q = and_from _ _ (eq-eqb _ _ p) (eq-eqb _ _ q)

other_from : (a b : Vec2 ℕ) → (a.0 ≡ b.0 → a.1 ≡ b.1 → ⊥) → same_pair a b ≡ false
other_from a b n = elim (cases_Bool (same_pair a b)) [
  | inl e ↦
      let p = and_parts (eqb a.0 b.0) (eqb a.1 b.1) e in
      let none : ⊥ = n (eqb-true _ _ p.0) (eqb-true _ _ p.1) in
      elim none [ ]
  | inr e ↦ e
]

hit : (ls : List Level) (k i : ℕ) (l : Level) (p : Vec2 ℕ) → slice_get ls i ≡ Some l → same_pair l.pair p ≡ true → ((j : ℕ) (o : Level) → j < i → slice_get ls j ≡ Some o → same_pair o.pair p ≡ false) → Some (k + i) ≡ position_from k ls p
hit [] k i l p e s o = let z : ◌≡◌ {A = ℕ} 0 1 = cc in let none : ⊥ = omega arith in elim none [ ]
hit (x ∷ ls) k zero l p e s o =
    let same : x ≡ l = cc in
    ap Some (add-zero k) ∙ sym (cond-true _ _ _ (ap (λ (y : Level). same_pair y.pair p) same ∙ s))
hit (x ∷ ls) k (suc i) l p e s o =
    let n : k + suc i ≡ (k + 1) + i = omega arith in
    ap Some n ∙ hit ls (k + 1) i l p e s (λ j q h f. o (suc j) q (omega arith) f) ∙ sym (cond-false _ _ _ (o 0 x (omega arith) refl))

miss : (ls : List Level) (k : ℕ) (p : Vec2 ℕ) → ((j : ℕ) (o : Level) → slice_get ls j ≡ Some o → same_pair o.pair p ≡ false) → None ≡ position_from k ls p
miss [] k p o = refl
miss (x ∷ ls) k p o = miss ls (k + 1) p (λ j q f. o (suc j) q f) ∙ sym (cond-false _ _ _ (o 0 x refl))

-- a level's pair leads back to it
pub placed : (ls : List Level) (i : ℕ) (l : Level) (p : Vec2 ℕ) → DistinctPairs ls → slice_get ls i ≡ Some l → l.pair.0 ≡ p.0 → l.pair.1 ≡ p.1 → Some i ≡ position_of ls p
placed ls i l p d e a b =
    let z : i ≡ 0 + i = omega arith in
    ap Some z ∙ hit ls 0 i l p e (same_from _ _ a b)
    (λ j o h f. other_from _ _ (λ s t. let same : i ≡ j = d i j l o e f (a ∙ sym s) (b ∙ sym t) in omega (arith, h, same)))

-- and a pair that no level has leads nowhere
pub unplaced : (ls : List Level) (p : Vec2 ℕ) → ((i : ℕ) (l : Level) → slice_get ls i ≡ Some l → l.pair.0 ≡ p.0 → l.pair.1 ≡ p.1 → ⊥) → None ≡ position_of ls p
unplaced ls p n = miss ls 0 p (λ j o f. other_from _ _ (n j o f))

there_from : (ls : List Level) (k i : ℕ) (p : Vec2 ℕ) → position_from k ls p ≡ Some i → (j : ℕ) × (i ≡ k + j) × HasPairAt ls p j
there_from [] k i p e = let z : ◌≡◌ {A = ℕ} 0 1 = cc in let none : ⊥ = omega arith in elim none [ ]
there_from (x ∷ ls) k i p e = elim (cases_Bool (same_pair x.pair p)) [
  | inl s ↦
      let q = and_parts (eqb x.pair.0 p.0) (eqb x.pair.1 p.1) s in
      let f : Some k ≡ Some i = sym (cond-true _ _ _ s) ∙ e in
      let same : k ≡ i = cc in
      (0, omega arith, (x, refl, eqb-true _ _ q.0, eqb-true _ _ q.1))
  | inr s ↦
      let f : position_from (k + 1) ls p ≡ Some i = sym (cond-false _ _ _ s) ∙ e in
      let r = there_from ls (k + 1) i p f in
      (suc r.0, omega (arith, r.1), r.2)
]

-- what is found stands there
pub there : (ls : List Level) (i : ℕ) (p : Vec2 ℕ) → position_of ls p ≡ Some i → HasPairAt ls p i
there ls i p e =
    let r = there_from ls 0 i p e in
    let z : r.0 ≡ i = omega (arith, r.1) in
    subst (λ (x : ℕ). HasPairAt ls p x) z r.2

-- where nothing is found, no level has the pair
pub nowhere : (ls : List Level) (p : Vec2 ℕ) → DistinctPairs ls → position_of ls p ≡ None → (i : ℕ) → HasPairAt ls p i → ⊥
nowhere ls p d e i h =
    let f : Some i ≡ position_of ls p = placed ls i h.0 p d h.1 h.2 h.3 in
    let z : ◌≡◌ {A = ℕ} 0 1 = cc in
    omega arith
