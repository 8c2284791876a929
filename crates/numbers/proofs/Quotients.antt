-- Rounded quotients of signed numbers.
use Rattle.std.proofs.Common.{◌≡◌, ℕ, zero, suc, ◌+◌, ◌/◌, ◌^◌, ◌<◌, true, false, ◌&&◌, ℤ, pos, negsuc, ◌+ℤ◌, ◌-ℤ◌, Some, sym, refl, ap, ◌∙◌, zero-le, add-mul, div-le_self, arith, w32, SFits, to_z, of_z}
use lib.Signed.{le_z, lt_z, quot_z}
use Rattle.std.proofs.lemmas.Int.{ints, to_z_pos}
use Rattle.std.proofs.lemmas.Bool.{and_from, le-leb, cond-true}
use Rattle.numbers.specs.Rounding.{ceiling, rounded, quotient}
use Rattle.numbers.specs.declared.rounding.RoundingMode.{RoundingMode}
use Rattle.numbers.specs.declared.rounding.RoundingMode.TheVariants.{Down, Up}
use Rattle.numbers.proofs.Powers.{rounded_is, only_one}

may_divide : (a b : ℕ) → (le_z (pos 0) (pos a) && le_z (pos 1) (pos (suc b))) ≡ true
may_divide a b = and_from _ _ (le-leb 0 a zero-le) (le-leb 1 (suc b) (omega arith))

quotient_there : (m : RoundingMode) (a b : ℕ) → quotient m (pos a) (pos (suc b)) ≡ Some (pos (rounded m a (suc b)))
quotient_there m a b = cond-true _ _ _ (may_divide a b)

less : (x : ℤ) (a : ℕ) → x ≡ pos (suc a) → x -ℤ pos 1 ≡ pos a
less x a e = omega (arith, ints)

-- one more than the quotient of one less is the quotient rounded up
one_less : (a b : ℕ) → 0 < b → a / b + 1 ≡ ceiling (suc a) b
one_less a b h =
    let d = rounded_is Down a b h in
    sym (only_one Up (suc a) b (a / b + 1) h (omega (arith, d.0, d.1, add-mul (a / b) 1 b), omega (arith, d.0, add-mul (a / b) 1 b)))

pub up_by_one_less : (x y : ℤ) → SFits w32 x → SFits w32 y → lt_z x (pos 0) ≡ false → lt_z y (pos 1) ≡ false → (of_z w32 x ≡ 0 → ⊥) → Some (to_z w32 (of_z w32 (to_z w32 (of_z w32 (quot_z (to_z w32 (of_z w32 (x -ℤ pos 1))) y)) +ℤ pos 1))) ≡ quotient Up x y
up_by_one_less (pos (suc a)) (pos (suc b)) f g l m n =
    let small : suc a < 2 ^ 31 = f.sfits in
    let e1 : pos (suc a) -ℤ pos 1 ≡ pos a = less _ a refl in
    let h1 : a < 2 ^ 31 = omega arith in
    let h2 : a / suc b < 2 ^ 31 = omega (arith, div-le_self a (suc b)) in
    let h3 : a / suc b + 1 < 2 ^ 31 = omega (arith, div-le_self a (suc b)) in
    ap (λ z. Some (to_z w32 (of_z w32 (to_z w32 (of_z w32 (quot_z (to_z w32 (of_z w32 z)) (pos (suc b)))) +ℤ pos 1)))) e1
    ∙ ap (λ z. Some (to_z w32 (of_z w32 (to_z w32 (of_z w32 (quot_z z (pos (suc b)))) +ℤ pos 1)))) (to_z_pos w32 a h1)
    ∙ ap (λ z. Some (to_z w32 (of_z w32 (z +ℤ pos 1)))) (to_z_pos w32 _ h2)
    ∙ ap Some (to_z_pos w32 _ h3)
    ∙ ap (λ n. Some (pos n)) (one_less a (suc b) (omega arith))
    ∙ sym (quotient_there Up (suc a) b)
up_by_one_less (pos (suc a)) (pos zero) f g l m n = grind arith
up_by_one_less (pos zero) y f g l m n = elim (n refl) [ ]
up_by_one_less (pos (suc a)) (negsuc b) f g l m n = grind arith
up_by_one_less (negsuc a) y f g l m n = grind arith
