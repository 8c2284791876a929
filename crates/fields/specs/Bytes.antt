-- Fields as bytes: little-endian, signed ones in two's complement.
use Rattle.std.specs.Prelude.{ℕ, ◌+◌, ◌*◌, ◌/◌, ◌%◌, cond, List, [], ◌∷◌, ◌++◌, length, drop, ℤ, Some, None, Option, nat_le, slice_index}
use Rattle.std.specs.Borrow.{Bor}
use Rattle.std.specs.Int.{w32}
use Rattle.std.proofs.Common.{of_z, to_z}
use Rattle.numbers.specs.Wholes.{optional}
use Rattle.numbers.specs.declared.vec2.Vec2.{Vec2}

abbrev pub byte_at : List ℕ → ℕ → ℕ
byte_at bytes at = slice_index bytes at

-- the numbers that two, four and eight bytes write, from a place on
abbrev pub half_at : List ℕ → ℕ → ℕ
half_at bytes at = byte_at bytes at + byte_at bytes (at + 1) * 256

abbrev pub word_at : List ℕ → ℕ → ℕ
word_at bytes at = byte_at bytes at + byte_at bytes (at + 1) * 256 + byte_at bytes (at + 2) * 65536 + byte_at bytes (at + 3) * 16777216

abbrev pub long_at : List ℕ → ℕ → ℕ
long_at bytes at = word_at bytes at + word_at bytes (at + 4) * 4294967296

-- four bytes as a signed number
abbrev pub int_at : List ℕ → ℕ → ℤ
int_at bytes at = to_z w32 (word_at bytes at)

-- two values and three, one behind another, each but the last with its width
abbrev pub both_at : {A B : Type 0} → ℕ → (List ℕ → ℕ → A) → (List ℕ → ℕ → B) → List ℕ → ℕ → A × B
both_at width first second bytes at = (first bytes at, second bytes (at + width))

abbrev pub three_at : {A B C : Type 0} → ℕ → ℕ → (List ℕ → ℕ → A) → (List ℕ → ℕ → B) → (List ℕ → ℕ → C) → List ℕ → ℕ → A × B × C
three_at width next first second third bytes at = (first bytes at, second bytes (at + width), third bytes (at + (width + next)))

-- two values of one kind and width
abbrev pub pair_at : {T : Type 0} → ℕ → (List ℕ → ℕ → T) → List ℕ → ℕ → Vec2 T
pair_at width part bytes at = record { 0 = part bytes at; 1 = part bytes (at + width) }

-- two signed numbers, and two unsigned ones, from a place on
abbrev pub ints_at : List ℕ → ℕ → Vec2 ℤ
ints_at bytes at = pair_at 4 int_at bytes at

abbrev pub words_at : List ℕ → ℕ → Vec2 ℕ
words_at bytes at = pair_at 4 word_at bytes at

-- what a reader answers, with the reference to the bytes that are left seen as these bytes
abbrev pub seen : {A : Type 0} → Option (A × Bor (List ℕ)) → Option (A × List ℕ)
seen r = optional (λ p. (p.0, p.1.now)) r

-- a value that the first n bytes write, and the bytes after them; nothing where there are fewer
abbrev pub taken : {A : Type 0} → ℕ → A → List ℕ → Option (A × List ℕ)
taken n value bytes = cond (nat_le n (length bytes)) (Some (value, drop n bytes)) None

-- the four bytes that write a signed number, the least first
abbrev pub int_bytes : ℤ → List ℕ
int_bytes z = (of_z w32 z % 256) ∷ (of_z w32 z / 256 % 256) ∷ (of_z w32 z / 65536 % 256) ∷ (of_z w32 z / 16777216 % 256) ∷ []

-- the bytes that write signed numbers, one number after another
abbrev pub ints_bytes : List ℤ → List ℕ
ints_bytes [] = []
ints_bytes (z ∷ zs) = int_bytes z ++ ints_bytes zs

-- the bytes of `new` in the place of the first of `old`, the later ones as they were; `old` itself where it is shorter than `new`
abbrev pub over : List ℕ → List ℕ → List ℕ
over new old = cond (nat_le (length new) (length old)) (new ++ drop (length new) old) old
