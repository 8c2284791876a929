-- Quotients rounded down or up.
use Rattle.std.specs.Prelude.{ℕ, ◌+◌, ◌*◌, ◌/◌, ◌%◌, ◌<◌, ◌≤◌, min, cond, ◌&&◌, ℤ, pos, Some, None, Ok, Err, Option, Result, int_le, unsigned_abs}
use Rattle.numbers.specs.Refusals.{Told, refused}
use Rattle.numbers.specs.declared.refusal.Refusal.{Refusal}
use Rattle.numbers.specs.declared.rounding.RoundingMode.{RoundingMode}
use Rattle.numbers.specs.declared.rounding.RoundingMode.TheVariants.{Down, Up}

-- the quotient rounded up: one more than the quotient rounded down where a remainder is left
abbrev pub ceiling : ℕ → ℕ → ℕ
ceiling a b = a / b + min 1 (a % b)

abbrev pub rounded : RoundingMode → ℕ → ℕ → ℕ
rounded Down a b = a / b
rounded Up a b = ceiling a b

-- q is the greatest whole number not above the true quotient a / b, or the least not below it
abbrev pub Rounded : RoundingMode → ℕ → ℕ → ℕ → Type 0
Rounded Down a b q = (q * b ≤ a) × (a < (q + 1) * b)
Rounded Up a b q = (a ≤ q * b) × (q * b < a + b)

-- the rounded quotient, where the dividend is not negative and the divisor at least 1
abbrev pub quotient : RoundingMode → ℤ → ℤ → Option ℤ
quotient mode a b = cond (int_le (pos 0) a && int_le (pos 1) b) (Some (pos (rounded mode (unsigned_abs a) (unsigned_abs b)))) None

-- the same, or the refusal by number 1 of the module of numbers
abbrev pub divided : RoundingMode → ℤ → ℤ → Result ℤ Told
divided mode a b = cond (int_le (pos 0) a && int_le (pos 1) b) (Ok (pos (rounded mode (unsigned_abs a) (unsigned_abs b)))) (Err (refused 1 1 0))

-- a quotient that was answered meets its inequalities
abbrev pub AnswersRounded : {T : Type 0} → (T → ℤ) → RoundingMode → T → T → Result T Refusal → Type 0
AnswersRounded number mode a b (Ok q) = Rounded mode (unsigned_abs (number a)) (unsigned_abs (number b)) (unsigned_abs (number q))
AnswersRounded number mode a b (Err e) = Unit {0}
