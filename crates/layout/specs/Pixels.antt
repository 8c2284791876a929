-- The pixels of a layer's block by its tile indices and level pair.
use Rattle.std.specs.Prelude.{◌≡◌, ℕ, Bool, false, cond, ◌||◌, ℤ, ◌+ℤ◌, Some, None, Ok, Err, Option, Result, nat_le}
use Rattle.std.specs.List.{slice_get}
use Rattle.numbers.specs.Refusals.{Told, outcome, refused}
use Rattle.numbers.specs.declared.refusal.Refusal.{Refusal}
use Rattle.numbers.specs.declared.vec2.Vec2.{Vec2}
use Rattle.schemes.specs.Finding.{level_with}
use Rattle.schemes.specs.Meanings.{Meaning, block_size}
use Rattle.schemes.specs.declared.level.Level.{Level}
use Rattle.schemes.specs.declared.level.Naming.{Naming}
use Rattle.schemes.specs.declared.level.Naming.TheVariants.{Line, Tile}
use Rattle.blocks.specs.Bounds.{bounds_of, tile_of}
use Rattle.blocks.specs.Numbering.{all_blocks}
use Rattle.blocks.specs.Tiles.{data_indices}
use Rattle.blocks.specs.declared.block.Block.{Block}
use Rattle.blocks.specs.declared.bounds.IntegerBounds.{IntegerBounds}
use Rattle.blocks.specs.declared.tile.TileCoordinates.{TileCoordinates}
use Rattle.layout.specs.Acceptance.{Laid}

-- a level index above 63, which tiles refuse first
abbrev pub too_deep : Naming → Vec2 ℕ → Bool
too_deep Line pair = false
too_deep Tile pair = nat_le 64 pair.0 || nat_le 64 pair.1

-- inside the level: 15 where the layer lacks the level, or where the tile lies outside it
abbrev pub in_level : Meaning → TileCoordinates ℕ → Option Level → Result IntegerBounds Told
in_level m t None = Err (refused 15 4 0)
in_level m t (Some l) = data_indices (block_size m) (record { 0 = l.width; 1 = l.height }) t

abbrev pub block_pixels : Meaning → TileCoordinates ℕ → Result IntegerBounds Told
block_pixels m t = cond (too_deep m.naming t.level_index) (Err (refused 3 4 0)) (in_level m t (level_with m.levels t.level_index))

-- in the plane of the layer: the layer's position is added
abbrev pub moved : Vec2 ℤ → IntegerBounds → IntegerBounds
moved origin k = record { position = record { 0 = k.position.0 +ℤ origin.0; 1 = k.position.1 +ℤ origin.1 }; size = k.size }

abbrev pub plane_pixels : Laid → TileCoordinates ℕ → Result IntegerBounds Told
plane_pixels l t = elim (block_pixels l.scheme t) [ Ok k ↦ Ok (moved l.position k) | Err why ↦ Err why ]

-- the tile indices of a block with a number lead to that block's bounds
abbrev pub BoundsByTile : Meaning → TileCoordinates ℕ → Result IntegerBounds Refusal → Type 0
BoundsByTile m t r = (number : ℕ) (b : Block) → slice_get (all_blocks m) number ≡ Some b → tile_of b ≡ t → outcome r ≡ Ok (bounds_of (block_size m) b)
