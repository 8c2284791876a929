-- Bytes that stand for the cases of a type.
use Rattle.std.specs.Prelude.{ℕ, cond, List, ◌++◌, Some, None, Option, Result, ◌==◌, codes, decimal}
use Rattle.std.specs.Option.{ok_or}
use Rattle.numbers.specs.declared.code.UnknownCode.{UnknownCode}
use Rattle.numbers.specs.declared.rounding.RoundingMode.{RoundingMode}
use Rattle.numbers.specs.declared.rounding.RoundingMode.TheVariants.{Down, Up}

-- the case that a byte names, and the byte itself where it names none
abbrev pub decoded : {A : Type 0} → (ℕ → Option A) → ℕ → Result A UnknownCode
decoded named b = ok_or (named b) (record { 0 = b })

-- what a byte stands for where it names a case; any other byte can't be read
abbrev pub rounding_mode : ℕ → Option RoundingMode
rounding_mode b = cond (b == 0) (Some Down) (cond (b == 1) (Some Up) None)

-- how an unknown code is told
abbrev pub unknown_text : UnknownCode → List ℕ
unknown_text unknown = codes "no case has the code " ++ decimal unknown.0
