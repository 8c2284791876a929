-- A prefix that was written is read again.
use Rattle.std.proofs.Common.{◌≡◌, ℕ, ◌≤◌, List, [], ◌∷◌, ◌++◌, length, drop, ℤ, pos, Some, None, Ok, Err, Option, Result, sym, ap, ◌∙◌, arith, w32, SFits}
use Rattle.std.proofs.lemmas.Bool.{cond-true, le-leb}
use Rattle.numbers.specs.Refusals.{Told, refused}
use Rattle.numbers.specs.declared.refusal.Refusal.{Refusal}
use Rattle.fields.specs.Bytes.{int_at, ints_bytes}
use Rattle.fields.proofs.Back.{int_back}
use Rattle.schemes.specs.declared.level.Naming.TheVariants as by
use Rattle.blocks.specs.declared.tile.TileCoordinates.{TileCoordinates}
use Rattle.prefixes.specs.Bytes.{ComesBack, buffer_with, naming_of, prefix_fields, prefix_read, size_of, with_length}
use Rattle.prefixes.specs.declared.coordinates.BlockCoordinates.{BlockCoordinates}
use Rattle.prefixes.specs.declared.coordinates.BlockCoordinates.TheVariants.{Line, Tile}
use Rattle.prefixes.specs.declared.prefix.Prefix.{Prefix}

abbrev with : Prefix → BlockCoordinates → Prefix
with p x = record { coordinates = x; data_length = p.data_length }

size_as : (p : Prefix) (c : BlockCoordinates) → p.coordinates ≡ c → size_of (with p c) ≡ size_of p
size_as p c is = ap (λ x. size_of (with p x)) (sym is)

few : (n : ℕ) → n ≤ 2147483647 → SFits w32 (pos n)
few n h = record { sfits = omega arith }

-- what is told of the fields that were read
abbrev told : Option (BlockCoordinates × ℤ) → Result Prefix Told
told o = elim o [ Some fields ↦ with_length fields.0 fields.1 | None ↦ Err (refused 20 5 0) ]

-- the fields of a tile are signed 32-bit numbers
pub record TileFits (tile : TileCoordinates ℤ) : Type 0 where
  pub column : SFits w32 tile.tile_index.0
  pub row : SFits w32 tile.tile_index.1
  pub level_x : SFits w32 tile.level_index.0
  pub level_y : SFits w32 tile.level_index.1

-- the bytes of a prefix, whatever follows, are read as the prefix
line_back : (y : ℤ) (n : ℕ) (rest : List ℕ) → SFits w32 y → n ≤ 2147483647 → prefix_read by.Line (ints_bytes (y ∷ (pos n ∷ [])) ++ rest) ≡ Ok (record { coordinates = Line y; data_length = n })
line_back y n rest fy h =
    let bytes = ints_bytes (y ∷ (pos n ∷ [])) ++ rest in
    ap told (cond-true _ _ _ (le-leb 8 (length bytes) (omega arith)))
    ∙ ap (λ z. with_length (Line z) (int_at bytes 4)) (int_back y rest fy)
    ∙ ap (with_length (Line y)) (int_back (pos n) rest (few n h))

tile_back : (tile : TileCoordinates ℤ) (n : ℕ) (rest : List ℕ) → TileFits tile → n ≤ 2147483647 → prefix_read by.Tile (ints_bytes (prefix_fields (record { coordinates = Tile tile; data_length = n })) ++ rest) ≡ Ok (record { coordinates = Tile tile; data_length = n })
tile_back tile n rest f h =
    let t = tile.tile_index in
    let l = tile.level_index in
    let bytes = ints_bytes (t.0 ∷ (t.1 ∷ (l.0 ∷ (l.1 ∷ (pos n ∷ []))))) ++ rest in
    let at : ℤ → ℤ → ℤ → ℤ → ℤ → Result Prefix Told = λ a b c d e. with_length (Tile (record { tile_index = record { 0 = a; 1 = b }; level_index = record { 0 = c; 1 = d } })) e in
    ap told (cond-true _ _ _ (le-leb 20 (length bytes) (omega arith)))
    ∙ ap (λ z. at z (int_at bytes 4) (int_at bytes 8) (int_at bytes 12) (int_at bytes 16)) (int_back t.0 rest f.column)
    ∙ ap (λ z. at t.0 z (int_at bytes 8) (int_at bytes 12) (int_at bytes 16)) (int_back t.1 rest f.row)
    ∙ ap (λ z. at t.0 t.1 z (int_at bytes 12) (int_at bytes 16)) (int_back l.0 rest f.level_x)
    ∙ ap (λ z. at t.0 t.1 l.0 z (int_at bytes 16)) (int_back l.1 rest f.level_y)
    ∙ ap (λ z. at t.0 t.1 l.0 l.1 z) (int_back (pos n) rest (few n h))

-- the buffer after a write begins with the fields
begins : (p : Prefix) (c : BlockCoordinates) (old new : List ℕ) → p.coordinates ≡ c → size_of p ≤ length old → p.data_length ≤ 2147483647 → length (ints_bytes (prefix_fields (with p c))) ≡ size_of p → new ≡ buffer_with p old → new ≡ ints_bytes (prefix_fields (with p c)) ++ drop (length (ints_bytes (prefix_fields (with p c)))) old
begins p c old new is room short many e =
    let bytes = ints_bytes (prefix_fields (with p c)) in
    e ∙ ap (λ x. buffer_with (with p x) old) is
    ∙ cond-true _ _ _ (le-leb p.data_length 2147483647 short)
    ∙ cond-true _ _ _ (le-leb (length bytes) (length old) (omega arith))

-- so a prefix that was written comes back
pub line_comes : (p : Prefix) (y : ℤ) (old new : List ℕ) (r : Result ℕ Refusal) → p.coordinates ≡ Line y → SFits w32 y → size_of p ≤ length old → p.data_length ≤ 2147483647 → new ≡ buffer_with p old → ComesBack p r new
line_comes p y old new (Err why) is fy room short e = tt
line_comes p y old new (Ok size) is fy room short e =
    ap (λ x. prefix_read (naming_of x) new) is
    ∙ ap (prefix_read by.Line) (begins p (Line y) old new is room short (size_as p (Line y) is) e)
    ∙ line_back y p.data_length _ fy short
    ∙ ap (λ x. Ok (with p x)) (sym is)

pub tile_comes : (p : Prefix) (tile : TileCoordinates ℤ) (old new : List ℕ) (r : Result ℕ Refusal) → p.coordinates ≡ Tile tile → TileFits tile → size_of p ≤ length old → p.data_length ≤ 2147483647 → new ≡ buffer_with p old → ComesBack p r new
tile_comes p tile old new (Err why) is f room short e = tt
tile_comes p tile old new (Ok size) is f room short e =
    ap (λ x. prefix_read (naming_of x) new) is
    ∙ ap (prefix_read by.Tile) (begins p (Tile tile) old new is room short (size_as p (Tile tile) is) e)
    ∙ tile_back tile p.data_length _ f short
    ∙ ap (λ x. Ok (with p x)) (sym is)
