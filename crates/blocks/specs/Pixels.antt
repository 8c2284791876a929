-- Each pixel of each level lies under one block.
use Rattle.std.specs.Prelude.{◌≡◌, ℕ, ◌/◌, ◌<◌, Bool, true, ◌&&◌, ℤ, pos, ◌+ℤ◌, Some, count_by, ◌==◌, int_le, int_lt}
use Rattle.std.specs.List.{slice_get}
use Rattle.schemes.specs.Meanings.{Meaning, block_size}
use Rattle.schemes.specs.declared.level.Level.{Level}
use Rattle.blocks.specs.Bounds.{bounds_of}
use Rattle.blocks.specs.Numbering.{IsBlock, all_blocks}
use Rattle.blocks.specs.declared.block.Block.{Block}
use Rattle.blocks.specs.declared.bounds.IntegerBounds.{IntegerBounds}

-- from a first pixel on, so many
abbrev pub spans : ℤ → ℕ → ℕ → Bool
spans first size x = int_le first (pos x) && int_lt (pos x) (first +ℤ pos size)

abbrev pub holds : IntegerBounds → ℕ → ℕ → Bool
holds k x y = spans k.position.0 k.size.0 x && spans k.position.1 k.size.1 y

-- the pixel is one of the block's level, and the grid of whole blocks, laid from the level's corner, has it in the block's
-- column and row
pub record InCell (m : Meaning) (b : Block) (x y : ℕ) : Type 0 where
  pub wide : x < b.level.width
  pub high : y < b.level.height
  pub column : x / m.block_width ≡ b.column
  pub row : y / m.block_height ≡ b.row

-- the bounds of each block hold the pixels that are cut so, and no other
pub record CutFromCorner (m : Meaning) (b : Block) (x y : ℕ) : Type 0 where
  pub only : holds (bounds_of (block_size m) b) x y ≡ true → InCell m b x y
  pub all : InCell m b x y → holds (bounds_of (block_size m) b) x y ≡ true

abbrev pub BoundsCut : Meaning → Type 0
BoundsCut m = (b : Block) → IsBlock m b → (x y : ℕ) → CutFromCorner m b x y

-- the block stands in the level at this position, and its bounds hold the pixel
abbrev pub lies_over : Meaning → ℕ → ℕ → ℕ → Block → Bool
lies_over m position x y b = b.position == position && holds (bounds_of (block_size m) b) x y

-- of each pixel of each level: the number of blocks over it is one
abbrev pub PixelsOnce : Meaning → Type 0
PixelsOnce m = (position : ℕ) (l : Level) → slice_get m.levels position ≡ Some l → (x y : ℕ) → x < l.width → y < l.height → count_by (lies_over m position x y) (all_blocks m) ≡ 1
