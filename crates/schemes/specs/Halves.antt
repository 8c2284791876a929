-- A side from level to level: when it is one pixel, how many levels it has, and that all its levels add up to less than 2^32.
use Rattle.std.specs.Prelude.{◌≡◌, ℕ, zero, suc, ◌+◌, ◌*◌, ◌/◌, ◌^◌, ◌<◌, ◌≤◌, true, false, sum_by}
use Rattle.std.proofs.Common.{subst, inl, inr, pow-suc, mul-le-mul_left, mul-le-mul_right, add-mul, one-mul, div-lt_iff_lt-mul, le-div_iff_mul-le, div-le_self, arith, pow_pos, pow_mono, pow-add}
use Rattle.std.specs.List.{range_with_len}
use Rattle.std.proofs.lemmas.List.Sums.{sum_by-cons}
use Rattle.std.proofs.lemmas.Bool.{ltb-true, ltb-false, leb-true, leb-false, lt-ltb, le-leb, both_ways, cases_lt}
use Rattle.numbers.specs.Rounding.{ceiling}
use Rattle.numbers.specs.Logs.{covers, log2}
use Rattle.numbers.specs.Counts.{side_at, levels_of}
use Rattle.numbers.specs.declared.rounding.RoundingMode.{RoundingMode}
use Rattle.numbers.specs.declared.rounding.RoundingMode.TheVariants.{Down, Up}
use Rattle.numbers.proofs.Powers.{double, log_before, up_is}
use Rattle.schemes.specs.Sides.{IsSide}

-- at most c blocks where c blocks suffice
pub up_le : (n b c : ℕ) → 0 < b → n ≤ c * b → ceiling n b ≤ c
up_le n b c h e = elim (cases_lt c (ceiling n b)) [
  | inl l ↦
      let big : (c + 1) * b ≤ ceiling n b * b = mul-le-mul_right b (omega arith) in
      let grown = add-mul c 1 b in
      let none : ⊥ = omega (arith, up_is n b h, one-mul b) in
      elim none [ ]
  | inr g ↦ g
]

-- a covered side shrinks to 1, and no other does
pub size_one : (m : RoundingMode) (n l : ℕ) → covers m n l ≡ true → side_at m n l ≡ 1
size_one Down n l e =
    let small : n / 2 ^ l < 2 = (div-lt_iff_lt-mul (pow_pos l)).1 (omega (arith, ltb-true _ _ e, double l)) in
    omega arith
size_one Up n l e =
    let small : ceiling n (2 ^ l) ≤ 1 = up_le n (2 ^ l) 1 (pow_pos l) (omega (arith, leb-true _ _ e)) in
    omega arith

pub size_two : (m : RoundingMode) (n l : ℕ) → covers m n l ≡ false → 2 ≤ side_at m n l
size_two Down n l e =
    let big : 2 ≤ n / 2 ^ l = (le-div_iff_mul-le (pow_pos l)).1 (omega (arith, ltb-false _ _ e, double l)) in
    omega arith
size_two Up n l e = elim (cases_lt 1 (ceiling n (2 ^ l))) [
  | inl h ↦ omega arith
  | inr g ↦
      let small : ceiling n (2 ^ l) * 2 ^ l ≤ 1 * 2 ^ l = mul-le-mul_right (2 ^ l) g in
      let none : ⊥ = omega (arith, up_is n (2 ^ l) (pow_pos l), leb-false _ _ e) in
      elim none [ ]
]

pub covers_more : (m : RoundingMode) (n o k l : ℕ) → o ≤ n → k ≤ l → covers m n k ≡ true → covers m o l ≡ true
covers_more Down n o k l a b e =
    let p : 2 ^ (k + 1) ≤ 2 ^ (l + 1) = pow_mono (omega arith) in
    lt-ltb _ _ (omega (arith, ltb-true _ _ e))
covers_more Up n o k l a b e =
    let p : 2 ^ k ≤ 2 ^ l = pow_mono b in
    le-leb _ _ (omega (arith, leb-true _ _ e))

-- sides of levels
up_below : (n b : ℕ) → 0 < b → ceiling n b ≤ n
up_below n b h = up_le n b n h (let e : n * 1 ≤ n * b = mul-le-mul_left n h in omega arith)

pub size_side : (m : RoundingMode) (n l : ℕ) → IsSide n → IsSide (side_at m n l)
size_side Down n l s = omega (arith, div-le_self n (2 ^ l))
size_side Up n l s = omega (arith, up_below n (2 ^ l) (pow_pos l))

pub size_below : (m : RoundingMode) (n l : ℕ) → 1 ≤ n → side_at m n l ≤ n
size_below Down n l s = omega (arith, div-le_self n (2 ^ l))
size_below Up n l s = omega (arith, up_below n (2 ^ l) (pow_pos l))

pub few_levels : (m : RoundingMode) (n k : ℕ) → covers m n k ≡ true → levels_of m n ≤ k + 1
few_levels m n k e = elim (cases_lt k (log2 m n)) [
  | inl l ↦ let none : ⊥ = both_ways _ (log_before m n k l) e in elim none [ ]
  | inr g ↦ omega arith
]

side_covers : (m : RoundingMode) (n : ℕ) → n ≤ 2147483648 → covers m n 31 ≡ true
side_covers Down n h = lt-ltb _ _ (omega arith)
side_covers Up n h = le-leb _ _ (omega arith)

long_covers : (m : RoundingMode) (n : ℕ) → n ≤ 4294967295 → covers m n 32 ≡ true
long_covers Down n h = lt-ltb _ _ (omega arith)
long_covers Up n h = le-leb _ _ (omega arith)

pub side_levels : (m : RoundingMode) (n : ℕ) → n ≤ 2147483648 → levels_of m n ≤ 32
side_levels m n h = few_levels m n 31 (side_covers m n h)

pub long_levels : (m : RoundingMode) (n : ℕ) → n ≤ 4294967295 → levels_of m n ≤ 33
long_levels m n h = few_levels m n 32 (long_covers m n h)

-- a level is at most the power that is left
pub size_le : (m : RoundingMode) (n l k : ℕ) → n ≤ 2 ^ (k + l) → side_at m n l ≤ 2 ^ k
size_le m n l k h =
    let e : n ≤ 2 ^ k * 2 ^ l = subst (λ (x : ℕ). n ≤ x) (pow-add 2 k l) h in
    let u = up_le n (2 ^ l) (2 ^ k) (pow_pos l) e in
    let p = pow_pos k in
    by m u
  where
    by : (m : RoundingMode) → ceiling n (2 ^ l) ≤ 2 ^ k → side_at m n l ≤ 2 ^ k
    by Down u = let p = pow_pos k in omega arith
    by Up u = let p = pow_pos k in omega arith

-- a side and its halvings add up to less than 2^32
pub sum_halves : (m : RoundingMode) (w n k a : ℕ) → w ≤ 2147483648 → a + k ≡ 32 → n ≤ k → sum_by (side_at m w) (range_with_len a n) < 2 ^ k
sum_halves m w zero k a h e l = pow_pos k
sum_halves m w (suc n) zero a h e l = let none : ⊥ = omega arith in elim none [ ]
sum_halves m w (suc n) (suc k) a h e l =
    let at : 31 ≡ k + a = omega arith in
    let here : side_at m w a ≤ 2 ^ k = size_le m w a k (subst (λ (x : ℕ). w ≤ 2 ^ x) at h) in
    let rest : sum_by (side_at m w) (range_with_len (a + 1) n) < 2 ^ k = sum_halves m w n k (a + 1) h (omega arith) (omega arith) in
    omega (arith, sum_by-cons (side_at m w) a (range_with_len (a + 1) n), pow-suc 2 k)
