use Rattle.std.proofs.Common.{◌≤◌, mul-le-mul, arith}
use Rattle.schemes.proofs.Counting.{ceiling_le}
use Rattle.schemes.proofs.chunk_count.level_block_count.Goals as goal

pub overflow_mul-result : goal.overflow_mul-result
overflow_mul-result c =
    let w : c.blocks_along.result ≤ c.args.level.width = omega (arith, ceiling_le c.args.level.width c.args.block.0.pixels (omega arith)) in
    let h : c.blocks_along-2.result ≤ c.args.level.height = omega (arith, ceiling_le c.args.level.height c.args.block.1.pixels (omega arith)) in
    omega (arith, mul-le-mul w h)
