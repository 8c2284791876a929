-- Sums, differences and products of pairs, part by part.
use Rattle.std.specs.Prelude.{ℕ, cond, ◌&&◌, ℤ, pos, negsuc, Some, None, Option, nat_le}
use Rattle.numbers.specs.Wholes.{within, optional}
use Rattle.numbers.specs.declared.vec2.Vec2.{Vec2}

-- a pair where both parts are there
abbrev pub both : Option ℤ → Option ℤ → Option (Vec2 ℤ)
both (Some x) (Some y) = Some (record { 0 = x; 1 = y })
both (Some x) None = None
both None (Some y) = None
both None None = None

-- the whole numbers of a pair that may be absent
abbrev pub numbers_of : {T : Type 0} → (T → ℤ) → Option (Vec2 T) → Option (Vec2 ℤ)
numbers_of number = optional (λ p. record { 0 = number p.0; 1 = number p.1 })

-- the operation on the first parts and on the second parts, each within the kind's range
abbrev pub by_parts : {T : Type 0} → (ℤ → ℤ → ℤ) → (T → ℤ) → ℤ → ℤ → Vec2 T → Vec2 T → Option (Vec2 ℤ)
by_parts op number least greatest a b = both (within least greatest (op (number a.0) (number b.0))) (within least greatest (op (number a.1) (number b.1)))

-- the pair in signed 32-bit numbers, where they hold both parts
abbrev pub signed_pair : Vec2 ℕ → Option (Vec2 ℤ)
signed_pair p = cond (nat_le p.0 2147483647 && nat_le p.1 2147483647) (Some (record { 0 = pos p.0; 1 = pos p.1 })) None

-- the whole number that is not negative
abbrev pub natural : ℤ → Option ℕ
natural (pos n) = Some n
natural (negsuc n) = None

abbrev pub naturals_from : Option ℕ → Option ℕ → Option (Vec2 ℕ)
naturals_from (Some x) (Some y) = Some (record { 0 = x; 1 = y })
naturals_from (Some x) None = None
naturals_from None (Some y) = None
naturals_from None None = None

-- the pair in unsigned numbers, where no part is negative
abbrev pub naturals : Vec2 ℤ → Option (Vec2 ℕ)
naturals p = naturals_from (natural p.0) (natural p.1)
