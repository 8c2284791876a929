-- Logarithms to base 2, and the levels of one side that are counted and sized by them.
use Rattle.std.specs.Prelude.{ℕ, zero, suc, ◌+◌, ◌^◌, ◌≤◌, Bool, true, false, nat_le, nat_lt}
use Rattle.numbers.specs.declared.rounding.RoundingMode.{RoundingMode}
use Rattle.numbers.specs.declared.rounding.RoundingMode.TheVariants.{Down, Up}

-- k is the greatest with 2^k ≤ n
pub record Greatest (n k : ℕ) : Type 0 where
  pub holds : 2 ^ k ≤ n
  pub most : (j : ℕ) → 2 ^ j ≤ n → j ≤ k

-- k is the least with n ≤ 2^k
pub record Least (n k : ℕ) : Type 0 where
  pub holds : n ≤ 2 ^ k
  pub least : (j : ℕ) → n ≤ 2 ^ j → k ≤ j

-- the first of k, k + 1, .. that passes the test, looking at most f steps on
abbrev pub first : (ℕ → Bool) → ℕ → ℕ → ℕ
first passes k zero = k
first passes k (suc f) = elim (passes k) [ true ↦ k | false ↦ first passes (k + 1) f ]

-- whether k is large enough: rounded down n < 2^(k+1), rounded up n ≤ 2^k
abbrev pub covers : RoundingMode → ℕ → ℕ → Bool
covers Down n k = nat_lt n (2 ^ (k + 1))
covers Up n k = nat_le n (2 ^ k)

-- the logarithm of n, rounded; 0 at 0
abbrev pub log2 : RoundingMode → ℕ → ℕ
log2 mode n = first (covers mode n) 0 n
