-- Whole numbers in the range of a kind.
use Rattle.std.specs.Prelude.{cond, ◌&&◌, ℤ, Some, None, Option, int_le}

-- the number where the range holds it, and nothing where the range does not
abbrev pub within : ℤ → ℤ → ℤ → Option ℤ
within least greatest z = cond (int_le least z && int_le z greatest) (Some z) None

-- what may be absent, seen through `f`
abbrev pub optional : {A B : Type 0} → (A → B) → Option A → Option B
optional f (Some a) = Some (f a)
optional f None = None
