-- The scheme that a description asks for, where its sides are sides.
use Rattle.std.specs.Prelude.{ℕ, Bool, cond, ◌&&◌, Some, None, Option}
use Rattle.schemes.specs.Meanings.{Meaning}
use Rattle.layout.specs.Acceptance.{cut_into, good_tile, meaning_of}
use Rattle.layout.specs.Windows.{good_side}
use Rattle.layout.specs.declared.attribute.BlockDescription.{BlockDescription}
use Rattle.layout.specs.declared.attribute.BlockDescription.TheVariants.{ScanLines, Tiles}
use Rattle.layout.specs.declared.attribute.TileDescription.{TileDescription}
use Rattle.layout.specs.declared.description.LayerDescription.{LayerDescription}

-- whether the blocks have sides in range
abbrev pub good_blocks : BlockDescription → ℕ → Bool
good_blocks ScanLines lines = good_side lines
good_blocks (Tiles t) lines = good_tile (Tiles t)

abbrev pub tile_scheme_of : ℕ → ℕ → TileDescription → Option Meaning
tile_scheme_of w h t = cond (good_tile (Tiles t)) (Some (cut_into (Tiles t) 1 w h)) None

abbrev pub scheme_of : LayerDescription → Option Meaning
scheme_of d = cond (good_side d.layer_size.0 && good_side d.layer_size.1) (cond (good_blocks d.blocks d.lines_per_block) (Some (meaning_of d)) None) None
