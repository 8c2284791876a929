-- The row of blocks that a line falls in.
use Rattle.std.specs.Prelude.{◌≡◌, ℕ, ◌/◌, ℤ, pos, negsuc, ◌-ℤ◌, Some, None, Ok, Err, Result}
use Rattle.numbers.specs.Refusals.{Told, refused}
use Rattle.numbers.specs.Wholes.{within}
use Rattle.blocks.specs.declared.tile.TileCoordinates.{TileCoordinates}
use Rattle.numbers.specs.declared.refusal.Refusal.{Refusal}
use Rattle.layout.specs.Acceptance.{Laid}
use Rattle.layout.specs.declared.description.LayerDescription.{LayerDescription}
use Rattle.layout.specs.declared.layer.Layer.{Layer}

-- the lines of a scan line block of the layer
abbrev pub lines_of : Layer → ℕ
lines_of l = l.lines_per_block

-- a layer that was laid out has the lines of its description, also where it is cut into tiles
abbrev pub KeepsItsLines : LayerDescription → Result Layer Refusal → Type 0
KeepsItsLines d (Ok l) = lines_of l ≡ d.lines_per_block
KeepsItsLines d (Err refusal) = Unit {0}

-- the quotient rounded down, also below 0
abbrev pub floored : ℤ → ℕ → ℤ
floored (pos a) b = pos (a / b)
floored (negsuc a) b = negsuc (a / b)

-- tile (0, row) of level (0, 0)
abbrev pub line_tile : ℕ → TileCoordinates ℕ
line_tile row = record { tile_index = record { 0 = 0; 1 = row }; level_index = record { 0 = 0; 1 = 0 } }

-- 18 where the quotient is negative
abbrev pub at_row : ℤ → Result (TileCoordinates ℕ) Told
at_row (pos row) = Ok (line_tile row)
at_row (negsuc n) = Err (refused 18 8 0)

-- y minus the layer's y, divided by the lines of a block and rounded down; 17 where the difference leaves 32 signed bits
abbrev pub line_row : Laid → ℕ → ℤ → Result (TileCoordinates ℕ) Told
line_row l lines y = elim (within (negsuc 2147483647) (pos 2147483647) (y -ℤ l.position.1)) [ Some down ↦ at_row (floored down lines) | None ↦ Err (refused 17 8 0) ]
