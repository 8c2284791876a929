-- Counting along one side: its blocks, where they begin and end, its levels and their sizes.
use Rattle.std.specs.Prelude.{ℕ, ◌+◌, ◌-◌, ◌*◌, ◌^◌, min, max, cond, Ok, Err, Result, nat_le, nat_lt}
use Rattle.numbers.specs.Logs.{log2}
use Rattle.numbers.specs.Refusals.{Told, refused}
use Rattle.numbers.specs.Rounding.{ceiling, rounded}
use Rattle.numbers.specs.declared.rounding.RoundingMode.{RoundingMode}

-- the blocks that cut a side, the last of them perhaps clipped
abbrev pub blocks_along : ℕ → ℕ → ℕ
blocks_along side block = ceiling side block

-- what is left of the side from the position on, a block at most
abbrev pub clipped : ℕ → ℕ → ℕ → ℕ
clipped side block position = min block (side - position)

-- the levels that a side is halved into: the rounded logarithm, and one more
abbrev pub levels_of : RoundingMode → ℕ → ℕ
levels_of mode side = log2 mode side + 1

-- the side at a level: divided by 2^level, rounded, and at least 1
abbrev pub side_at : RoundingMode → ℕ → ℕ → ℕ
side_at mode side level = max 1 (rounded mode side (2 ^ level))

-- refused where the block side is 0, by the division
abbrev pub block_count : ℕ → ℕ → Result ℕ Told
block_count side block = cond (nat_le 1 block) (Ok (blocks_along side block)) (Err (refused 1 1 0))

-- refused where the position is not below the side
abbrev pub block_size_at : ℕ → ℕ → ℕ → Result ℕ Told
block_size_at side block position = cond (nat_lt position side) (Ok (clipped side block position)) (Err (refused 2 2 0))

-- the block of this index begins at index times block side
abbrev pub block_position_and_size : ℕ → ℕ → ℕ → Result (ℕ × ℕ) Told
block_position_and_size side block index = cond (nat_lt (block * index) side) (Ok (block * index, clipped side block (block * index))) (Err (refused 2 2 0))

-- refused where the side has more than 32 bits
abbrev pub level_count : RoundingMode → ℕ → Result ℕ Told
level_count mode side = cond (nat_le side 4294967295) (Ok (levels_of mode side)) (Err (refused 1 2 0))

-- refused where the level index is above 63
abbrev pub level_size : RoundingMode → ℕ → ℕ → Result ℕ Told
level_size mode side level = cond (nat_le level 63) (Ok (side_at mode side level)) (Err (refused 3 2 0))
