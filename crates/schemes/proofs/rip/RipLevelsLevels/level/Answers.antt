use Rattle.std.proofs.Common.{ℕ, ◌*◌, ◌/◌, ◌<◌, ◌≤◌, ap, subst, le-div_iff_mul-le, arith}
use Rattle.numbers.specs.Counts.{levels_of}
use Rattle.schemes.proofs.Counting.{nth_past}
use Rattle.schemes.specs.Lists.{rip_length, rip_by}
use Rattle.schemes.proofs.rip.RipLevelsLevels.level.Goals as goal

pub returns-then-pair-down : goal.returns-then-pair-down
returns-then-pair-down c =
    let s = c.args.self.now in
    let i = c.args.position in
    let down = levels_of s.rounding_mode s.size.1.pixels in
    let low : i / c.counts-across.result.0 < down = omega (arith, c.if-pair-down.true, c.counts-across.ensures.down) in
    let here = rip_by s.rounding_mode s.size.0.pixels s.size.1.pixels i (subst (λ (k : ℕ). i / k < down) c.counts-across.ensures.across low) in
    cc

pub returns-else-pair-down : goal.returns-else-pair-down
returns-else-pair-down c =
    let s = c.args.self.now in
    let down = levels_of s.rounding_mode s.size.1.pixels in
    let far : down ≤ c.args.position / c.counts-across.result.0 = omega (arith, c.if-pair-down.false, c.counts-across.ensures.down) in
    let past = (le-div_iff_mul-le c.counts-across.ensures.some).0 far in
    let same = ap (λ k. down * k) c.counts-across.ensures.across in
    nth_past _ c.args.position (omega (arith, rip_length s.rounding_mode s.size.0.pixels s.size.1.pixels))
