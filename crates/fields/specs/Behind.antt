-- Fields behind the first n bytes stand n places further on in the whole.
use Rattle.std.specs.Prelude.{◌≡◌, ℕ, ◌+◌, List, drop}
use Rattle.std.specs.Int.{w32}
use Rattle.std.proofs.Common.{ap, add_assoc, get_or-drop, to_z}
use Rattle.fields.specs.Bytes.{both_at, byte_at, half_at, int_at, long_at, pair_at, three_at, word_at}

-- a place behind the first n bytes is n places further on
abbrev pub ReadsBehind : {A : Type 0} → (List ℕ → ℕ → A) → Type 0
ReadsBehind value = (n : ℕ) (bytes : List ℕ) (at : ℕ) → value (drop n bytes) at ≡ value bytes (n + at)

pub byte_behind : ReadsBehind byte_at
byte_behind n bytes at = get_or-drop n bytes at 0

pub half_behind : ReadsBehind half_at
half_behind n bytes at = simp (get_or-drop, add_assoc)

pub word_behind : ReadsBehind word_at
word_behind n bytes at = simp (get_or-drop, add_assoc)

pub long_behind : ReadsBehind long_at
long_behind n bytes at = simp (get_or-drop, add_assoc)

pub int_behind : ReadsBehind int_at
int_behind n bytes at = ap (to_z w32) (word_behind n bytes at)

pub both_behind : {A B : Type 0} (width : ℕ) (first : List ℕ → ℕ → A) (second : List ℕ → ℕ → B) → ReadsBehind first → ReadsBehind second → ReadsBehind (both_at width first second)
both_behind width first second f s n bytes at = rw (f n bytes at, s n bytes (at + width), add_assoc)

pub three_behind : {A B C : Type 0} (width next : ℕ) (first : List ℕ → ℕ → A) (second : List ℕ → ℕ → B) (third : List ℕ → ℕ → C) → ReadsBehind first → ReadsBehind second → ReadsBehind third → ReadsBehind (three_at width next first second third)
three_behind width next first second third f s t n bytes at =
    rw (f n bytes at, s n bytes (at + width), t n bytes (at + (width + next)), add_assoc n at width, add_assoc n at (width + next))

pub pair_behind : {T : Type 0} (width : ℕ) (part : List ℕ → ℕ → T) → ReadsBehind part → ReadsBehind (pair_at width part)
pair_behind width part f n bytes at = rw (f n bytes at, f n bytes (at + width), add_assoc)
