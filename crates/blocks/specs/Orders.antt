-- Line order: levels rise, in each the rows rise, or fall for Decreasing, and in each row the columns rise.
use Rattle.std.specs.Prelude.{◌≡◌, ℕ, ◌-◌, ◌<◌, List, map, length, count_by, nat_eq}
use Rattle.schemes.specs.Blocks.{chunks_in}
use Rattle.schemes.specs.Meanings.{Meaning, block_size}
use Rattle.blocks.specs.Bounds.{indices_of}
use Rattle.blocks.specs.Numbering.{blocks_by, number_of}
use Rattle.blocks.specs.declared.line_order.LineOrder.{LineOrder}
use Rattle.blocks.specs.declared.line_order.LineOrder.TheVariants.{Increasing, Decreasing, Unspecified}
use Rattle.blocks.specs.declared.tile.TileIndices.{TileIndices}

-- the numbers of all blocks in line order
abbrev pub line_order : LineOrder → Meaning → List ℕ
line_order order m = map (number_of m) (blocks_by order m)

-- with the tile indices of each
abbrev pub ordered_blocks : LineOrder → Meaning → List (ℕ × TileIndices)
ordered_blocks order m = map (λ b. (number_of m b, indices_of (block_size m) b)) (blocks_by order m)

-- the row that comes r-th of so many
abbrev pub turned : LineOrder → ℕ → ℕ → ℕ
turned Increasing n r = r
turned Decreasing n r = n - 1 - r
turned Unspecified n r = r

-- A line order has each block number once, and no other.
pub record OrdersAll (order : LineOrder) (m : Meaning) : Type 0 where
  pub counted : length (line_order order m) ≡ chunks_in m
  pub once : (n : ℕ) → n < chunks_in m → count_by (nat_eq n) (line_order order m) ≡ 1
