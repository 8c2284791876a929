-- Which descriptions are laid out, and by which number every other one is refused.
use Rattle.std.specs.Prelude.{ℕ, ◌+◌, Bool, true, false, cond, not, ◌&&◌, ◌||◌, List, [], ◌∷◌, length, ℤ, Some, None, Ok, Err, Option, Result, ◌==◌, nat_le}
use Rattle.numbers.specs.Refusals.{Told, refused}
use Rattle.numbers.specs.declared.rounding.RoundingMode.{RoundingMode}
use Rattle.numbers.specs.declared.vec2.Vec2.{Vec2}
use Rattle.schemes.specs.Blocks.{chunks_in}
use Rattle.schemes.specs.Levels.{one_level, mip_levels, rip_levels}
use Rattle.schemes.specs.Meanings.{Meaning}
use Rattle.schemes.specs.Schemes.{in_lines, in_tiles}
use Rattle.schemes.specs.declared.level.Level.{Level}
use Rattle.layout.specs.Channels.{pixel_bytes}
use Rattle.schemes.specs.Windows.{window_fits}
use Rattle.layout.specs.Windows.{divides, good_lines, good_side}
use Rattle.layout.specs.declared.attribute.BlockDescription.{BlockDescription}
use Rattle.layout.specs.declared.attribute.BlockDescription.TheVariants.{ScanLines, Tiles}
use Rattle.layout.specs.declared.attribute.ChannelDescription.{ChannelDescription}
use Rattle.layout.specs.declared.attribute.LevelMode.{LevelMode}
use Rattle.layout.specs.declared.attribute.LevelMode.TheVariants.{Singular, MipMap, RipMap}
use Rattle.blocks.specs.declared.line_order.LineOrder.{LineOrder}
use Rattle.blocks.specs.declared.line_order.LineOrder.TheVariants.{Increasing, Decreasing, Unspecified}
use Rattle.layout.specs.declared.description.LayerDescription.{LayerDescription}

-- the levels of a w by h image in this mode
abbrev pub mode_levels : LevelMode → RoundingMode → ℕ → ℕ → List Level
mode_levels Singular rounding w h = one_level w h
mode_levels MipMap rounding w h = mip_levels rounding w h
mode_levels RipMap rounding w h = rip_levels rounding w h

-- a w by h image cut into scan line blocks or tiles
abbrev pub cut_into : BlockDescription → ℕ → ℕ → ℕ → Meaning
cut_into ScanLines lines w h = in_lines w h lines
cut_into (Tiles t) lines w h = in_tiles t.tile_size.0 t.tile_size.1 (mode_levels t.level_mode t.rounding_mode w h)

-- the levels and blocks that a description asks for
abbrev pub meaning_of : LayerDescription → Meaning
meaning_of d = cut_into d.blocks d.lines_per_block d.layer_size.0 d.layer_size.1

abbrev pub is_unspecified : LineOrder → Bool
is_unspecified Increasing = false
is_unspecified Decreasing = false
is_unspecified Unspecified = true

abbrev pub is_tiled : BlockDescription → Bool
is_tiled ScanLines = false
is_tiled (Tiles t) = true

-- whether the sides of a tile are sides; scan lines have none
abbrev pub good_tile : BlockDescription → Bool
good_tile ScanLines = true
good_tile (Tiles t) = good_side t.tile_size.0 && good_side t.tile_size.1

-- the first rule on window, blocks and number of channels that a description breaks, by its number
abbrev pub broken_rule : LayerDescription → ℕ → Option ℕ
broken_rule d channels =
    cond d.deep (Some 4)
    (cond (not (window_fits d.layer_position d.layer_size)) (Some 5)
    (cond (not (is_tiled d.blocks) && is_unspecified d.line_order) (Some 6)
    (cond (d.layer_size.0 == 0 || d.layer_size.1 == 0) (Some 7)
    (cond (not (good_lines d.lines_per_block && good_tile d.blocks)) (Some 8)
    (cond (channels == 0 || not (nat_le channels 1024)) (Some 9)
    None)))))

-- whether the sampling of a channel is 1 on both axes
abbrev pub full : ChannelDescription → Bool
full c = c.sampling.0 == 1 && c.sampling.1 == 1

abbrev pub good_sampling : ChannelDescription → Bool
good_sampling c = good_side c.sampling.0 && good_side c.sampling.1

-- whether the sampling divides the window's position and size, on both axes
abbrev pub divides_window : LayerDescription → ChannelDescription → Bool
divides_window d c = divides c.sampling.0 d.layer_position.0 d.layer_size.0 && divides c.sampling.1 d.layer_position.1 d.layer_size.1

-- the first rule on channels that this one breaks
abbrev pub broken_channel_rule : LayerDescription → ChannelDescription → Option ℕ
broken_channel_rule d c =
    cond (not (good_sampling c)) (Some 10)
    (cond (is_tiled d.blocks && not (full c)) (Some 11)
    (cond (not (divides_window d c)) (Some 12)
    (cond (not (full c)) (Some 13)
    None)))

-- the first channel that breaks a rule, the first of the row being at k
abbrev pub broken_channel : LayerDescription → ℕ → List ChannelDescription → Option Told
broken_channel d k [] = None
broken_channel d k (c ∷ cs) = elim (broken_channel_rule d c) [ Some number ↦ Some (refused number 4 k) | None ↦ broken_channel d (k + 1) cs ]

-- whether a chunk count that is stated is the layer's
abbrev pub states : Option ℕ → ℕ → Bool
states None chunks = true
states (Some stated) chunks = stated == chunks

-- a layer that is laid out
pub record Laid : Type 0 where
  pub position : Vec2 ℤ
  pub order : LineOrder
  pub scheme : Meaning
  -- the bytes of one pixel, over all channels
  pub bytes : ℕ
  pub chunks : ℕ

abbrev pub laid_out : LayerDescription → List ChannelDescription → Laid
laid_out d cs = record { position = d.layer_position; order = d.line_order; scheme = meaning_of d; bytes = pixel_bytes cs; chunks = chunks_in (meaning_of d) }

-- a description is laid out, or refused by the first rule that it breaks, in rising order
abbrev pub accepted : LayerDescription → List ChannelDescription → Result Laid Told
accepted d cs =
    elim (broken_rule d (length cs)) [
      | Some number ↦ Err (refused number 4 0)
      | None ↦ elim (broken_channel d 0 cs) [
        | Some told ↦ Err told
        | None ↦ cond (states d.chunk_count (chunks_in (meaning_of d))) (Ok (laid_out d cs)) (Err (refused 14 4 0))
      ]
    ]
