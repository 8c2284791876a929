-- The coordinates of a block of a lawful scheme are small.
use Rattle.std.proofs.Common.{◌≡◌, ℕ, ◌*◌, ◌≤◌, true, pos, arith}
use Rattle.std.proofs.lemmas.Bool.{and_from, le-leb}
use Rattle.numbers.specs.declared.vec2.Vec2.{Vec2}
use Rattle.schemes.specs.Meanings.{Meaning, Lawful}
use Rattle.schemes.proofs.Counting.{ceiling_le}
use Rattle.blocks.specs.Numbering.{IsBlock}
use Rattle.blocks.specs.declared.block.Block.{Block}
use Rattle.blocks.proofs.Clipping.{corner_in}
use Rattle.prefixes.specs.Coordinates.{small, small_pair, signed}

pub record Small (m : Meaning) (b : Block) : Type 0 where
  pub first_row : m.block_height * b.row ≤ 2147483647
  pub column : b.column ≤ 2147483647
  pub row : b.row ≤ 2147483647
  pub level_x : b.level.pair.0 ≤ 2147483647
  pub level_y : b.level.pair.1 ≤ 2147483647

pub small_block : (m : Meaning) → Lawful m → (b : Block) → IsBlock m b → Small m b
small_block m ok b k =
    let c = corner_in m ok b k in
    let s = ok.levels.sides b.position b.level k.there in
    let p = ok.levels.pairs b.position b.level k.there in
    let across = ceiling_le b.level.width m.block_width ok.block_wide.0 in
    let down = ceiling_le b.level.height m.block_height ok.block_high.0 in
    let r = k.row_in in
    let q = k.column_in in
    record { first_row = omega arith; column = omega arith; row = omega arith; level_x = omega arith; level_y = omega arith }

-- and fields hold them
small_pos : (n : ℕ) → n ≤ 2147483647 → small (pos n) ≡ true
small_pos n h = le-leb n 2147483647 h

pub small_signed : (p : Vec2 ℕ) → p.0 ≤ 2147483647 → p.1 ≤ 2147483647 → small_pair (signed p) ≡ true
small_signed p h k = and_from _ _ (small_pos p.0 h) (small_pos p.1 k)
