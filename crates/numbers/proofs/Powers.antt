-- Logarithms as the first power that covers a number, and quotients as the only numbers that meet their inequalities.
use Rattle.std.proofs.Common.{◌≡◌, ℕ, zero, suc, ◌+◌, ◌-◌, ◌*◌, ◌/◌, ◌%◌, ◌^◌, ◌<◌, ◌≤◌, min, Bool, true, false, sym, ap, ◌∙◌, subst, inl, inr, zero-le, add-zero, mul-le-mul_right, mod-lt, add-mul, one-mul, pow-suc, div-add-mod', div-mul-le_self, add-one, arith, pow_mono}
use native.Mathlib.Nat.{div-eq_of_lt-le}
use Rattle.std.proofs.lemmas.Bool.{cases_Bool, ltb-true, ltb-false, leb-true, lt-ltb, le-ltb, le-leb, lt-leb, both_ways, cases_lt}
use Rattle.numbers.specs.Rounding.{ceiling, rounded, Rounded}
use Rattle.numbers.specs.Logs.{first, covers, log2, Greatest, Least}
use Rattle.numbers.specs.declared.rounding.RoundingMode.{RoundingMode}
use Rattle.numbers.specs.declared.rounding.RoundingMode.TheVariants.{Down, Up}

stop : (p : ℕ → Bool) (k f : ℕ) → p k ≡ true → first p k (suc f) ≡ k
stop p k f e = ap (λ b. elim b [ true ↦ k | false ↦ first p (k + 1) f ]) e

go_on : (p : ℕ → Bool) (k f : ℕ) → p k ≡ false → first p k (suc f) ≡ first p (k + 1) f
go_on p k f e = ap (λ b. elim b [ true ↦ k | false ↦ first p (k + 1) f ]) e

pub first_holds : (p : ℕ → Bool) (k f : ℕ) → p (k + f) ≡ true → p (first p k f) ≡ true
first_holds p k zero h = subst (λ (n : ℕ). p n ≡ true) (add-zero k) h
first_holds p k (suc f) h = elim (cases_Bool (p k)) [
  | inl e ↦ ap p (stop p k f e) ∙ e
  | inr e ↦
      let n : k + suc f ≡ (k + 1) + f = omega arith in
      ap p (go_on p k f e) ∙ first_holds p (k + 1) f (subst (λ (x : ℕ). p x ≡ true) n h)
]

pub first_before : (p : ℕ → Bool) (k f j : ℕ) → k ≤ j → j < first p k f → p j ≡ false
first_before p k zero j a b = let none : ⊥ = omega arith in elim none [ ]
first_before p k (suc f) j a b = elim (cases_Bool (p k)) [
  | inl e ↦
      let c = stop p k f e in
      let none : ⊥ = omega arith in
      elim none [ ]
  | inr e ↦
      let c = go_on p k f e in
      elim (cases_lt k j) [
        | inl l ↦ first_before p (k + 1) f j (omega arith) (omega arith)
        | inr g ↦ let s : k ≡ j = omega arith in ap p (sym s) ∙ e
      ]
]

pub below_pow : (n : ℕ) → n < 2 ^ n
below_pow zero = omega arith
below_pow (suc n) = omega (arith, below_pow n, pow-suc 2 n)

-- a power one up
pub double : (k : ℕ) → 2 ^ (k + 1) ≡ 2 ^ k * 2
double k = rw (add-one, pow-suc)

pub covers_far : (m : RoundingMode) (n : ℕ) → covers m n (0 + n) ≡ true
covers_far Down n =
    let z : 0 + n ≡ n = omega arith in
    rw z (lt-ltb _ _ (omega (arith, below_pow n, double n)))
covers_far Up n =
    let z : 0 + n ≡ n = omega arith in
    rw z (le-leb _ _ (omega (arith, below_pow n)))

pub log_covers : (m : RoundingMode) (n : ℕ) → covers m n (log2 m n) ≡ true
log_covers m n = first_holds (covers m n) 0 n (covers_far m n)

pub log_before : (m : RoundingMode) (n j : ℕ) → j < log2 m n → covers m n j ≡ false
log_before m n j h = first_before (covers m n) 0 n j zero-le h

-- the first is known by itself and the one before
pub log_is : (m : RoundingMode) (n k : ℕ) → ((j : ℕ) → j < k → covers m n j ≡ false) → covers m n k ≡ true → k ≡ log2 m n
log_is m n k below here = elim (cases_lt k (log2 m n)) [
  | inl l ↦ let none : ⊥ = both_ways _ (log_before m n k l) here in elim none [ ]
  | inr g ↦ elim (cases_lt (log2 m n) k) [
    | inl l ↦ let none : ⊥ = both_ways _ (below _ l) (log_covers m n) in elim none [ ]
    | inr e ↦ omega arith
  ]
]

pub floor_is_log : (n k : ℕ) → 2 ^ k ≤ n → n < 2 ^ (k + 1) → k ≡ log2 Down n
floor_is_log n k a b =
    log_is Down n k (λ j h. let p : 2 ^ (j + 1) ≤ 2 ^ k = pow_mono (omega arith) in le-ltb _ _ (omega arith)) (lt-ltb _ _ b)

pub ceil_is_log : (n k : ℕ) → 2 ^ k < n → n ≤ 2 ^ (k + 1) → k + 1 ≡ log2 Up n
ceil_is_log n k a b =
    log_is Up n (k + 1) (λ j h. let p : 2 ^ j ≤ 2 ^ k = pow_mono (omega arith) in lt-leb _ _ (omega arith)) (le-leb _ _ b)

pub log_greatest : (n : ℕ) → 0 < n → Greatest n (log2 Down n)
log_greatest n h =
    record {
      holds = elim (cases_lt 0 (log2 Down n)) [
        | inl l ↦
            let k = log2 Down n - 1 in
            let b : covers Down n k ≡ false = log_before Down n k (omega arith) in
            let up : k + 1 ≡ log2 Down n = omega arith in
            subst (λ (x : ℕ). 2 ^ x ≤ n) up (ltb-false _ _ b)
        | inr g ↦ let z : 0 ≡ log2 Down n = omega arith in subst (λ (x : ℕ). 2 ^ x ≤ n) z h
      ];
      most = λ j e. elim (cases_lt (log2 Down n) j) [
        | inl l ↦
            let p : 2 ^ (log2 Down n + 1) ≤ 2 ^ j = pow_mono (omega arith) in
            let c = ltb-true _ _ (log_covers Down n) in
            let none : ⊥ = omega arith in
            elim none [ ]
        | inr g ↦ g
      ];
    }

pub log_least : (n : ℕ) → Least n (log2 Up n)
log_least n =
    record {
      holds = leb-true _ _ (log_covers Up n);
      least = λ j e. elim (cases_lt j (log2 Up n)) [
        | inl l ↦ let none : ⊥ = both_ways _ (log_before Up n j l) (le-leb _ _ e) in elim none [ ]
        | inr g ↦ g
      ];
    }

-- a / b is a divided, rounded down
pub down_is : (a b : ℕ) → 0 < b → Rounded Down a b (a / b)
down_is a b h = (div-mul-le_self a b, omega (arith, div-add-mod' a b, mod-lt a h, add-mul (a / b) 1 b, one-mul b))

part : (r s : ℕ) → r < s → (r ≤ min 1 r * s) × (min 1 r * s < r + s)
part zero s h = let z : min 1 0 * s ≡ 0 = omega arith in (omega arith, omega arith)
part (suc n) s h = let one : min 1 (suc n) ≡ 1 = omega arith in rw (one, one-mul) (omega arith, omega arith)

pub up_is : (a b : ℕ) → 0 < b → Rounded Up a b (ceiling a b)
up_is a b h =
    let p = part (a % b) b (mod-lt a h) in
    (omega (arith, div-add-mod' a b, add-mul (a / b) (min 1 (a % b)) b), omega (arith, div-add-mod' a b, add-mul (a / b) (min 1 (a % b)) b))

pub rounded_is : (m : RoundingMode) (a b : ℕ) → 0 < b → Rounded m a b (rounded m a b)
rounded_is Down a b h = down_is a b h
rounded_is Up a b h = up_is a b h

not_less : (a b q r : ℕ) → Rounded Up a b q → Rounded Up a b r → q ≤ r
not_less a b q r s t = elim (cases_lt r q) [
  | inl l ↦
      let big : (r + 1) * b ≤ q * b = mul-le-mul_right b (omega arith) in
      let none : ⊥ = omega (arith, add-mul r 1 b, one-mul b, s.1, t.0) in
      elim none [ ]
  | inr g ↦ g
]

pub only_one : (m : RoundingMode) (a b q : ℕ) → 0 < b → Rounded m a b q → rounded m a b ≡ q
only_one Down a b q h s = div-eq_of_lt-le b s.0 s.1
only_one Up a b q h s =
    let t = up_is a b h in
    omega (arith, not_less a b q (ceiling a b) s t, not_less a b (ceiling a b) q t s)
