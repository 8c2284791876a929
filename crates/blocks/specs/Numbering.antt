-- The blocks of a layer, listed in the order of their numbers, and the number of each.
use Rattle.std.specs.Prelude.{◌≡◌, ℕ, ◌+◌, ◌*◌, ◌<◌, cond, ◌&&◌, List, [], ◌∷◌, ◌++◌, map, reverse, length, take, Some, None, Ok, Err, sum_by, Option, Result, nat_lt}
use Rattle.std.specs.List.{range_with_len, slice_get}
use Rattle.numbers.specs.Counts.{blocks_along}
use Rattle.numbers.specs.Refusals.{Told, refused}
use Rattle.numbers.specs.declared.vec2.Vec2.{Vec2}
use Rattle.schemes.specs.Blocks.{blocks_in, chunks_in}
use Rattle.schemes.specs.Levels.{for_each}
use Rattle.schemes.specs.Meanings.{Meaning, block_size}
use Rattle.schemes.specs.declared.level.Level.{Level}
use Rattle.blocks.specs.declared.block.Block.{Block}
use Rattle.blocks.specs.declared.line_order.LineOrder.{LineOrder}
use Rattle.blocks.specs.declared.line_order.LineOrder.TheVariants.{Increasing, Decreasing, Unspecified}

-- the blocks in a row of a level, and its rows
abbrev pub across : Vec2 ℕ → Level → ℕ
across size l = blocks_along l.width size.0

abbrev pub down : Vec2 ℕ → Level → ℕ
down size l = blocks_along l.height size.1

abbrev pub block_at : ℕ → Level → ℕ → ℕ → Block
block_at position l row column = record { position = position; level = l; row = row; column = column }

-- the rows of a level that has so many: from above, and from below for Decreasing
abbrev pub rows : LineOrder → ℕ → List ℕ
rows Increasing n = range_with_len 0 n
rows Decreasing n = reverse (range_with_len 0 n)
rows Unspecified n = range_with_len 0 n

-- the blocks of a level: row after row, in each the columns rising
unfoldable pub level_blocks : LineOrder → Vec2 ℕ → ℕ → Level → List Block
level_blocks order size position l = for_each (rows order (down size l)) (λ row. map (λ column. block_at position l row column) (range_with_len 0 (across size l)))

-- level after level, the first of the list being at this position
unfoldable pub blocks_from : LineOrder → Vec2 ℕ → ℕ → List Level → List Block
blocks_from order size position [] = []
blocks_from order size position (l ∷ ls) = level_blocks order size position l ++ blocks_from order size (position + 1) ls

-- all blocks in a line order
abbrev pub blocks_by : LineOrder → Meaning → List Block
blocks_by order m = blocks_from order (block_size m) 0 m.levels

-- all blocks in the order of their numbers: a block's number is its place in this list
abbrev pub all_blocks : Meaning → List Block
all_blocks m = blocks_by Increasing m

-- what is told of the block with a number; there is no such block past the last
abbrev pub of_block : {A : Type 0} → Meaning → ℕ → (Block → A) → Result A Told
of_block m number f = elim (slice_get (all_blocks m) number) [ Some b ↦ Ok (f b) | None ↦ Err (refused 23 3 0) ]

-- the blocks of the levels before a position
abbrev pub blocks_before : Meaning → ℕ → ℕ
blocks_before m position = sum_by (blocks_in (block_size m)) (take position m.levels)

-- the number by counting: the blocks of earlier levels, of the rows above, and of the columns before
abbrev pub number_of : Meaning → Block → ℕ
number_of m b = blocks_before m b.position + (b.row * across (block_size m) b.level + b.column)

-- the number of the block in this row and column of the level at a position; there is no such block outside the level
abbrev pub number_in : Meaning → ℕ → ℕ → ℕ → Option Level → Result ℕ Told
number_in m position row column None = Err (refused 23 3 0)
number_in m position row column (Some l) =
    cond (nat_lt row (down (block_size m) l) && nat_lt column (across (block_size m) l)) (Ok (number_of m (block_at position l row column))) (Err (refused 23 3 0))

abbrev pub number_at : Meaning → ℕ → ℕ → ℕ → Result ℕ Told
number_at m position row column = number_in m position row column (slice_get m.levels position)

-- a block of the layer: its level stands at its position, and its row and column are among those of the level
pub record IsBlock (m : Meaning) (b : Block) : Type 0 where
  pub there : slice_get m.levels b.position ≡ Some b.level
  pub row_in : b.row < down (block_size m) b.level
  pub column_in : b.column < across (block_size m) b.level

-- The list has the blocks of the layer and no other, as many as the chunk count, each at its number.
pub record Numbered (m : Meaning) : Type 0 where
  pub counted : length (all_blocks m) ≡ chunks_in m
  pub listed : (n : ℕ) (b : Block) → slice_get (all_blocks m) n ≡ Some b → IsBlock m b × (number_of m b ≡ n)
  pub each : (b : Block) → IsBlock m b → slice_get (all_blocks m) (number_of m b) ≡ Some b
