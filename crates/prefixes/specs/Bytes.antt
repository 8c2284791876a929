-- Prefixes as bytes.
use Rattle.std.specs.Prelude.{◌≡◌, ℕ, cond, List, [], ◌∷◌, length, ℤ, pos, negsuc, Some, None, Ok, Err, Option, Result, nat_le}
use Rattle.std.specs.List.{slice_get}
use Rattle.numbers.specs.Refusals.{Told, refused}
use Rattle.numbers.specs.declared.refusal.Refusal.{Refusal}
use Rattle.numbers.specs.declared.vec2.Vec2.{Vec2}
use Rattle.fields.specs.Bytes.{int_at, ints_bytes, over}
use Rattle.schemes.specs.Meanings.{Meaning}
use Rattle.schemes.specs.declared.level.Naming.{Naming}
use Rattle.schemes.specs.declared.level.Naming.TheVariants as by
use Rattle.blocks.specs.Numbering.{all_blocks}
use Rattle.blocks.specs.declared.block.Block.{Block}
use Rattle.blocks.specs.Stored.{tile_ints_at}
use Rattle.prefixes.specs.Coordinates.{coordinates_of, fits_fields}
use Rattle.prefixes.specs.declared.coordinates.BlockCoordinates.{BlockCoordinates}
use Rattle.prefixes.specs.declared.coordinates.BlockCoordinates.TheVariants.{Line, Tile}
use Rattle.prefixes.specs.declared.prefix.Prefix.{Prefix}

-- the bytes that a prefix takes: y and data length; or tile x, tile y, level x, level y and data length
abbrev pub prefix_size : Naming → ℕ
prefix_size by.Line = 8
prefix_size by.Tile = 20

abbrev pub naming_of : BlockCoordinates → Naming
naming_of (Line y) = by.Line
naming_of (Tile t) = by.Tile

-- the fields in their order
abbrev pub prefix_fields : Prefix → List ℤ
prefix_fields p = elim p.coordinates [
  | Line y ↦ y ∷ (pos p.data_length ∷ [])
  | Tile t ↦ t.tile_index.0 ∷ (t.tile_index.1 ∷ (t.level_index.0 ∷ (t.level_index.1 ∷ (pos p.data_length ∷ []))))
]

abbrev pub size_of : Prefix → ℕ
size_of p = prefix_size (naming_of p.coordinates)

-- writing: 20 where the buffer is shorter than the prefix, then 28 where a signed field does not hold the data length
abbrev pub written : Prefix → List ℕ → Result ℕ Told
written p buffer = cond (nat_le (size_of p) (length buffer)) (cond (nat_le p.data_length 2147483647) (Ok (size_of p)) (Err (refused 28 5 0))) (Err (refused 20 5 0))

-- what the buffer then holds: the prefix before the later bytes; where it is refused, what it held
abbrev pub buffer_with : Prefix → List ℕ → List ℕ
buffer_with p buffer = cond (nat_le p.data_length 2147483647) (over (ints_bytes (prefix_fields p)) buffer) buffer

-- coordinates and data length at the front of the bytes, where there are enough of them
abbrev pub fields_read : Naming → List ℕ → Option (BlockCoordinates × ℤ)
fields_read by.Line bytes = cond (nat_le 8 (length bytes)) (Some (Line (int_at bytes 0), int_at bytes 4)) None
fields_read by.Tile bytes = cond (nat_le 20 (length bytes)) (Some (Tile (tile_ints_at bytes 0), int_at bytes 16)) None

-- reading: 20 where the bytes are too few, or the data length is negative; later bytes are not read
abbrev pub with_length : BlockCoordinates → ℤ → Result Prefix Told
with_length c (pos n) = Ok (record { coordinates = c; data_length = n })
with_length c (negsuc n) = Err (refused 20 5 0)

abbrev pub prefix_read : Naming → List ℕ → Result Prefix Told
prefix_read naming bytes = elim (fields_read naming bytes) [ Some fields ↦ with_length fields.0 fields.1 | None ↦ Err (refused 20 5 0) ]

-- what was written, where it was, is read again
abbrev pub ComesBack : Prefix → Result ℕ Refusal → List ℕ → Type 0
ComesBack p (Ok size) buffer = prefix_read (naming_of p.coordinates) buffer ≡ Ok p
ComesBack p (Err why) buffer = Unit {0}

-- the prefix of a block
abbrev pub prefix_of : Meaning → Vec2 ℤ → Block → ℕ → Prefix
prefix_of m position b data_length = record { coordinates = coordinates_of m position b; data_length = data_length }

-- writing the prefix of the block with a number: 16 where a field does not hold its coordinates, then 20, 23 and 28
abbrev pub written_for : Meaning → Vec2 ℤ → ℕ → List ℕ → Option Block → Result ℕ Told
written_for m position data_length buffer None = cond (nat_le (prefix_size m.naming) (length buffer)) (Err (refused 23 3 0)) (Err (refused 20 5 0))
written_for m position data_length buffer (Some b) = cond (fits_fields (coordinates_of m position b)) (written (prefix_of m position b data_length) buffer) (Err (refused 16 5 0))

abbrev pub buffer_for : Meaning → Vec2 ℤ → ℕ → List ℕ → Option Block → List ℕ
buffer_for m position data_length buffer None = buffer
buffer_for m position data_length buffer (Some b) = cond (fits_fields (coordinates_of m position b)) (buffer_with (prefix_of m position b data_length) buffer) buffer

-- reading a prefix that was written gives the coordinates of the block with that number, and the data length
abbrev pub ComesBackFor : Meaning → Vec2 ℤ → ℕ → ℕ → Result ℕ Refusal → List ℕ → Type 0
ComesBackFor m position number data_length (Ok size) buffer = (b : Block) × (slice_get (all_blocks m) number ≡ Some b) × (prefix_read m.naming buffer ≡ Ok (prefix_of m position b data_length))
ComesBackFor m position number data_length (Err why) buffer = Unit {0}
