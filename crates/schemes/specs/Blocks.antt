-- How many blocks and pixels the levels of a layer have.
use Rattle.std.specs.Prelude.{ℕ, ◌*◌, sum_by}
use Rattle.numbers.specs.Counts.{blocks_along}
use Rattle.numbers.specs.declared.vec2.Vec2.{Vec2}
use Rattle.schemes.specs.Meanings.{Meaning, area, block_size}
use Rattle.schemes.specs.declared.level.Level.{Level}

-- across times down
abbrev pub blocks_in : Vec2 ℕ → Level → ℕ
blocks_in block l = blocks_along l.width block.0 * blocks_along l.height block.1

-- the blocks of all levels
abbrev pub chunks_in : Meaning → ℕ
chunks_in m = sum_by (blocks_in (block_size m)) m.levels

-- the pixels of all levels
abbrev pub pixel_count : Meaning → ℕ
pixel_count m = sum_by area m.levels
