-- The bounds of a block are those of its tile in its level.
use Rattle.std.proofs.Common.{◌≡◌, ℕ, ◌*◌, ◌<◌, Ok, ◌∙◌, arith}
use Rattle.std.proofs.lemmas.Bool.{and_from, cond-true, le-leb, lt-ltb}
use Rattle.numbers.specs.declared.vec2.Vec2.{Vec2}
use Rattle.schemes.specs.Meanings.{Meaning, Lawful, block_size}
use Rattle.schemes.specs.declared.level.Level.{Level}
use Rattle.blocks.specs.Bounds.{bounds_of, tile_of}
use Rattle.blocks.specs.Numbering.{IsBlock}
use Rattle.blocks.specs.Tiles.{data_indices}
use Rattle.blocks.specs.declared.block.Block.{Block}
use Rattle.blocks.proofs.Along.{edge}

abbrev pub level_size : Level → Vec2 ℕ
level_size l = record { 0 = l.width; 1 = l.height }

-- the corner of a block lies in its level
pub corner_in : (m : Meaning) → Lawful m → (b : Block) → IsBlock m b → (m.block_width * b.column < b.level.width) × (m.block_height * b.row < b.level.height)
corner_in m ok b k = (
  edge m.block_width b.column b.level.width ok.block_wide.0 k.column_in,
  edge m.block_height b.row b.level.height ok.block_high.0 k.row_in,
)

pub tile_bounds : (m : Meaning) → Lawful m → (b : Block) → IsBlock m b → data_indices (block_size m) (level_size b.level) (tile_of b) ≡ Ok (bounds_of (block_size m) b)
tile_bounds m ok b k =
    let c = corner_in m ok b k in
    let s = ok.levels.sides b.position b.level k.there in
    let x = m.block_width * b.column in
    let y = m.block_height * b.row in
    cond-true _ _ _ (and_from _ _ (lt-ltb _ _ c.0) (lt-ltb _ _ c.1))
    ∙ cond-true _ _ _ (and_from _ _ (le-leb x 2147483647 (omega arith)) (le-leb y 2147483647 (omega arith)))
