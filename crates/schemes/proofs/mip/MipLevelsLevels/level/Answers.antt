use Rattle.std.proofs.Common.{◌≡◌, ℕ, ◌<◌, ◌≤◌, length, arith}
use Rattle.schemes.specs.Levels.{mip_levels}
use Rattle.schemes.specs.declared.mip.MipLevels.{MipLevels}
use Rattle.schemes.proofs.Counting.{nth_past}
use Rattle.schemes.specs.Lists.{mip_length, mip_at, mip_low}
use Rattle.schemes.proofs.mip.MipLevelsLevels.level.Goals as goal

low : (s : MipLevels) (p n : ℕ) → p < n → n ≡ length (mip_levels s.rounding_mode s.size.0.pixels s.size.1.pixels) → p ≤ 31
low s p n h e = mip_low s.rounding_mode s.size.0.pixels s.size.1.pixels p s.size.0.ranged s.size.1.ranged (omega arith)

pub halved-requires-clause-across : goal.halved-requires-clause-across
halved-requires-clause-across c = low c.args.self.now _ _ c.if-position-count.true c.count.ensures

pub halved-requires-clause-down : goal.halved-requires-clause-down
halved-requires-clause-down c = low c.args.self.now _ _ c.if-position-count.true c.count.ensures

pub returns-then-position-count : goal.returns-then-position-count
returns-then-position-count c =
    let s = c.args.self.now in
    let len = mip_length s.rounding_mode s.size.0.pixels s.size.1.pixels in
    let here = mip_at s.rounding_mode s.size.0.pixels s.size.1.pixels c.args.position (omega (arith, c.count.ensures, c.if-position-count.true)) in
    cc

pub returns-else-position-count : goal.returns-else-position-count
returns-else-position-count c = nth_past _ c.args.position (omega (arith, c.count.ensures, c.if-position-count.false))
