-- Bytes as hexadecimal digits.
use Rattle.std.specs.Prelude.{ℕ, ◌+◌, ◌-◌, ◌*◌, cond, ◌&&◌, List, [], ◌∷◌, Some, None, Option, nat_le}

-- 0 to 9, and a to f
abbrev pub digit_of : ℕ → Option ℕ
digit_of letter = cond (nat_le 48 letter && nat_le letter 57) (Some (letter - 48)) (cond (nat_le 97 letter && nat_le letter 102) (Some (letter - 97 + 10)) None)

-- the byte that two digits write
abbrev pub byte_by : Option ℕ → Option ℕ → Option ℕ
byte_by (Some high) (Some low) = Some (high * 16 + low)
byte_by (Some high) None = None
byte_by None low = None

-- the byte that a pair of letters writes; nothing where one of them is no digit
abbrev pub byte_of : List ℕ → Option ℕ
byte_of [] = None
byte_of (high ∷ []) = None
byte_of (high ∷ (low ∷ [])) = byte_by (digit_of high) (digit_of low)
byte_of (high ∷ (low ∷ (other ∷ more))) = None
