-- Blocks along one side: each pixel lies in one of them, and each begins inside the side.
use Rattle.std.proofs.Common.{◌≡◌, ℕ, zero, suc, ◌+◌, ◌*◌, ◌/◌, ◌%◌, ◌<◌, ◌≤◌, min, true, ◌&&◌, ltb, leb, sym, ap, ◌∙◌, inl, inr, zero-le, mul-le-mul_right, mod-lt, mul_comm, div-lt_iff_lt-mul, add-mul, one-mul, div-add-mod', div-mul-le_self, arith}
use native.Mathlib.Nat.{div-eq_of_lt-le}
use Rattle.std.proofs.lemmas.Bool.{cases_eq, and_from, and_parts, le-leb, leb-true, lt-ltb, ltb-true}
use Rattle.numbers.specs.Counts.{blocks_along, clipped}

-- block q of this size begins inside the side
pub edge : (size q side : ℕ) → 0 < size → q < blocks_along side size → size * q < side
edge size q side p h = elim (cases_eq (side % size) 0) [
  | inl z ↦
      let k : q + 1 ≤ side / size = omega arith in
      omega (arith, mul_comm size q, mul-le-mul_right size k, add-mul q 1 size, one-mul size, div-add-mod' side size)
  | inr n ↦
      let k : q ≤ side / size = omega arith in
      omega (arith, mul_comm size q, mul-le-mul_right size k, div-add-mod' side size)
]

remainder : (r s : ℕ) → r < s → r ≤ min 1 r * s
remainder zero s h = zero-le
remainder (suc n) s h = let one : min 1 (suc n) ≡ 1 = omega arith in rw (one, one-mul) (omega arith)

-- the block of a pixel of the side is among those that are counted
pub counted : (size x side : ℕ) → 0 < size → x < side → x / size < blocks_along side size
counted size x side h k =
    let q = side / size in
    let r = side % size in
    let big : x < blocks_along side size * size = omega (arith, add-mul q (min 1 r) size, div-add-mod' side size, remainder r size (mod-lt side h)) in
    (div-lt_iff_lt-mul h).1 big

next : (size q : ℕ) → (q + 1) * size ≡ size * q + size
next size q = add-mul q 1 size ∙ ap (λ n. q * size + n) (one-mul size) ∙ ap (λ n. n + size) (mul_comm q size)

-- a pixel lies in the block of its quotient
pub inside : (size x side : ℕ) → 0 < size → x < side → (leb (size * (x / size)) x && ltb x (size * (x / size) + clipped side size (size * (x / size)))) ≡ true
inside size x side p h =
    let q = x / size in
    let low : size * q ≤ x = omega (arith, mul_comm size q, div-mul-le_self x size) in
    let high : x < size * q + size = omega (arith, mul_comm size q, div-add-mod' x size, mod-lt x p) in
    and_from _ _ (le-leb (size * q) x low) (lt-ltb x (size * q + clipped side size (size * q)) (omega arith))

-- and in no other
pub only : (size q x side : ℕ) → 0 < size → (leb (size * q) x && ltb x (size * q + clipped side size (size * q))) ≡ true → q ≡ x / size
only size q x side p t =
    let both = and_parts _ _ t in
    let a = leb-true (size * q) x both.0 in
    let b = ltb-true x (size * q + clipped side size (size * q)) both.1 in
    let low : q * size ≤ x = omega (arith, mul_comm size q) in
    let high : x < (q + 1) * size = omega (arith, next size q) in
    sym (div-eq_of_lt-le size low high)
