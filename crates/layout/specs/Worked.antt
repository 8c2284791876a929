-- Worked layers: what the definitions come to on a few inputs.
use Rattle.std.specs.Prelude.{◌≡◌, ℕ, false, List, [], ◌∷◌, map, ℤ, pos, Some, None, Ok, Err, Option, Result}
use Rattle.numbers.specs.Counts.{levels_of}
use Rattle.numbers.specs.Refusals.{Told, refused}
use Rattle.numbers.specs.declared.rounding.RoundingMode.{RoundingMode}
use Rattle.numbers.specs.declared.rounding.RoundingMode.TheVariants.{Down, Up}
use Rattle.numbers.specs.declared.vec2.Vec2.{Vec2}
use Rattle.schemes.specs.Blocks.{chunks_in}
use Rattle.schemes.specs.Levels.{mip_levels, rip_levels}
use Rattle.schemes.specs.Meanings.{Meaning, block_size}
use Rattle.schemes.specs.declared.level.Level.{Level}
use Rattle.blocks.specs.Bounds.{bounds_of, indices_of}
use Rattle.blocks.specs.Numbering.{of_block}
use Rattle.blocks.specs.Orders.{line_order}
use Rattle.blocks.specs.declared.bounds.IntegerBounds.{IntegerBounds}
use Rattle.blocks.specs.declared.tile.TileCoordinates.{TileCoordinates}
use Rattle.blocks.specs.declared.tile.TileIndices.{TileIndices}
use Rattle.prefixes.specs.Lookup.{looked_up}
use Rattle.prefixes.specs.declared.coordinates.BlockCoordinates.TheVariants.{Line}
use Rattle.layout.specs.Acceptance.{Laid, accepted, meaning_of}
use Rattle.layout.specs.Lines.{line_row}
use Rattle.layout.specs.Pixels.{block_pixels}
use Rattle.layout.specs.Totals.{total_bytes}
use Rattle.layout.specs.declared.attribute.BlockDescription.TheVariants.{ScanLines, Tiles}
use Rattle.layout.specs.declared.attribute.ChannelDescription.{ChannelDescription}
use Rattle.layout.specs.declared.attribute.LevelMode.{LevelMode}
use Rattle.layout.specs.declared.attribute.LevelMode.TheVariants.{Singular, MipMap, RipMap}
use Rattle.blocks.specs.declared.line_order.LineOrder.TheVariants.{Increasing, Decreasing, Unspecified}
use Rattle.layout.specs.declared.attribute.SampleType.TheVariants.{F16}
use Rattle.layout.specs.declared.description.LayerDescription.{LayerDescription}

-- one channel of 16-bit floats, with a sample for each pixel
abbrev pub one_channel : List ChannelDescription
one_channel = record { sample_type = F16; sampling = record { 0 = 1; 1 = 1 } } ∷ []

abbrev pub what : Result Laid Told → (Laid → ℕ) → Option ℕ
what (Ok l) f = Some (f l)
what (Err told) f = None

-- the chunk count and the bytes of a description with that channel, where it is accepted
abbrev pub chunks_of : LayerDescription → Option ℕ
chunks_of d = what (accepted d one_channel) (λ l. chunks_in l.scheme)

abbrev pub bytes_of : LayerDescription → Option ℕ
bytes_of d = what (accepted d one_channel) total_bytes

-- the number by which a description is refused, 0 where it is accepted
abbrev pub refused_by : LayerDescription → ℕ
refused_by d = elim (accepted d one_channel) [ Ok l ↦ 0 | Err told ↦ told.number ]

-- 5 by 3 in tiles of 2 by 2
abbrev pub five_by_three : LevelMode → RoundingMode → LayerDescription
five_by_three mode rounding = record { layer_position = record { 0 = pos 0; 1 = pos 0 }; layer_size = record { 0 = 5; 1 = 3 }; blocks = Tiles (record { tile_size = record { 0 = 2; 1 = 2 }; level_mode = mode; rounding_mode = rounding }); lines_per_block = 1; line_order = Increasing; deep = false; chunk_count = None }

-- scan lines at position 0
abbrev pub lines : ℕ → ℕ → ℕ → LayerDescription
lines w h per_block = record { layer_position = record { 0 = pos 0; 1 = pos 0 }; layer_size = record { 0 = w; 1 = h }; blocks = ScanLines; lines_per_block = per_block; line_order = Increasing; deep = false; chunk_count = None }

abbrev pub thirty_three_lines : LayerDescription
thirty_three_lines = lines 1 33 32

-- pair, width and height of each level
abbrev pub shapes : List Level → List (List ℕ)
shapes = map (λ l. l.pair.0 ∷ (l.pair.1 ∷ (l.width ∷ (l.height ∷ []))))

abbrev pub four : ℕ → ℕ → ℕ → ℕ → List ℕ
four x y w h = x ∷ (y ∷ (w ∷ (h ∷ [])))

pub record WorkedLayers : Type 0 where
  -- 5 by 3 in tiles of 2 by 2
  pub single : chunks_of (five_by_three Singular Down) ≡ Some 6
  pub mip_down : chunks_of (five_by_three MipMap Down) ≡ Some 8
  pub mip_up : chunks_of (five_by_three MipMap Up) ≡ Some 10
  pub rip_down : chunks_of (five_by_three RipMap Down) ≡ Some 15
  pub rip_up : chunks_of (five_by_three RipMap Up) ≡ Some 28
  pub mip_down_bytes : bytes_of (five_by_three MipMap Down) ≡ Some 36
  pub mip_down_levels : shapes (mip_levels Down 5 3) ≡ four 0 0 5 3 ∷ (four 1 1 2 1 ∷ (four 2 2 1 1 ∷ []))
  -- 33 lines in blocks of 32
  pub two_blocks : chunks_of thirty_three_lines ≡ Some 2
  -- the longest side has 31 levels rounded down, 32 rounded up
  pub longest_down : levels_of Down 2147483644 ≡ 31
  pub longest_up : levels_of Up 2147483644 ≡ 32
  -- at position 0 a width of 1,073,741,822 passes, and one more is refused by 5
  pub widest : refused_by (lines 1073741822 1 1) ≡ 0
  pub too_wide : refused_by (lines 1073741823 1 1) ≡ 5
  -- the documents' own examples: 15 by 17 as a mip map, 4 by 4 as a rip map
  pub mip_15_17_down : shapes (mip_levels Down 15 17) ≡ four 0 0 15 17 ∷ (four 1 1 7 8 ∷ (four 2 2 3 4 ∷ (four 3 3 1 2 ∷ (four 4 4 1 1 ∷ []))))
  pub mip_15_17_up : shapes (mip_levels Up 15 17) ≡ four 0 0 15 17 ∷ (four 1 1 8 9 ∷ (four 2 2 4 5 ∷ (four 3 3 2 3 ∷ (four 4 4 1 2 ∷ (four 5 5 1 1 ∷ [])))))
  pub rip_4_4 : shapes (rip_levels Down 4 4) ≡ four 0 0 4 4 ∷ (four 1 0 2 4 ∷ (four 2 0 1 4 ∷ (four 0 1 4 2 ∷ (four 1 1 2 2 ∷ (four 2 1 1 2 ∷ (four 0 2 4 1 ∷ (four 1 2 2 1 ∷ (four 2 2 1 1 ∷ []))))))))

-- the blocks of 5 by 3 as a mip map rounded down, of 5 by 3 as tiles at one level, and of 33 lines
abbrev pub five_mip : Meaning
five_mip = meaning_of (five_by_three MipMap Down)

abbrev pub five_single : Meaning
five_single = meaning_of (five_by_three Singular Down)

abbrev pub in_two_blocks : Meaning
in_two_blocks = meaning_of thirty_three_lines

abbrev pub pair : ℕ → ℕ → Vec2 ℕ
pair x y = record { 0 = x; 1 = y }

abbrev pub place : ℤ → ℤ → Vec2 ℤ
place x y = record { 0 = x; 1 = y }

-- tile (x, y) of level (i, j)
abbrev pub tile : ℕ → ℕ → ℕ → ℕ → TileCoordinates ℕ
tile x y i j = record { tile_index = pair x y; level_index = pair i j }

-- the bounds of the block with a number, and its tile indices
abbrev pub bounds_in : Meaning → ℕ → Result IntegerBounds Told
bounds_in m number = of_block m number (bounds_of (block_size m))

abbrev pub indices_in : Meaning → ℕ → Result TileIndices Told
indices_in m number = of_block m number (indices_of (block_size m))

-- 33 lines in blocks of 32, at line 10
abbrev pub from_line_ten : Laid
from_line_ten = record { position = place (pos 0) (pos 10); order = Increasing; scheme = in_two_blocks; bytes = 2; chunks = 2 }

-- the blocks, bounds and orders of the worked layers
pub record WorkedBlocks : Type 0 where
  -- mip down: block 5 lies at (4, 2), 1 by 1; block 6 is level (1, 1), 2 by 1
  pub far_corner : bounds_in five_mip 5 ≡ Ok (record { position = place (pos 4) (pos 2); size = pair 1 1 })
  pub next_level : indices_in five_mip 6 ≡ Ok (record { location = tile 0 0 1 1; size = pair 2 1 })
  pub rising : line_order Increasing five_mip ≡ 0 ∷ (1 ∷ (2 ∷ (3 ∷ (4 ∷ (5 ∷ (6 ∷ (7 ∷ [])))))))
  pub falling : line_order Decreasing five_mip ≡ 3 ∷ (4 ∷ (5 ∷ (0 ∷ (1 ∷ (2 ∷ (6 ∷ (7 ∷ [])))))))
  pub unspecified : line_order Unspecified five_mip ≡ line_order Increasing five_mip
  -- tiles at one level have no level (1, 1)
  pub no_level : block_pixels five_single (tile 0 0 1 1) ≡ Err (refused 15 4 0)
  -- the second block of 33 lines has one line, and comes first from below
  pub last_line : bounds_in in_two_blocks 1 ≡ Ok (record { position = place (pos 0) (pos 32); size = pair 1 1 })
  pub from_below : line_order Decreasing in_two_blocks ≡ 1 ∷ (0 ∷ [])
  -- a line above the layer has no row and no block; the second block of the layer is at line 42
  pub above_row : line_row from_line_ten 32 (pos 9) ≡ Err (refused 18 8 0)
  pub above_block : looked_up in_two_blocks from_line_ten.position (Line (pos 9)) ≡ Err (refused 21 5 0)
  pub second_block : looked_up in_two_blocks from_line_ten.position (Line (pos 42)) ≡ Ok 1
