-- The bytes of fields, written one after another over what a buffer held.
use Rattle.std.proofs.Common.{◌≡◌, ◌*◌, List, [], ◌∷◌, ◌++◌, length, ℤ, refl, ap, arith, of_z, w32}
use Rattle.std.specs.List.{flat_map}
use Rattle.byteorder.specs.Endian.{little_bytes}
use Rattle.fields.specs.Bytes.{int_bytes, ints_bytes}

-- four bytes to a field
pub length_ints : (zs : List ℤ) → length (ints_bytes zs) ≡ 4 * length zs
length_ints [] = omega arith
length_ints (z ∷ zs) = let h = length_ints zs in omega arith

-- the fields' bytes as the library writes them
pub flat_ints : (zs : List ℤ) → flat_map (λ z. little_bytes 4 (of_z w32 z)) zs ≡ ints_bytes zs
flat_ints [] = refl
flat_ints (z ∷ zs) = ap (λ bytes. int_bytes z ++ bytes) (flat_ints zs)
