use Rattle.std.proofs.Common.{ℕ, sym, subst, arith}
use Rattle.numbers.specs.Logs.{Greatest}
use Rattle.numbers.proofs.Powers.{floor_is_log, log_greatest, double}
use Rattle.numbers.proofs.logs.floor_log_2.Goals as goal

pub returns-else-number-eq0 : goal.returns-else-number-eq0
returns-else-number-eq0 c =
    let n = c.args.number in
    let k = c.ilog2.result in
    let is = floor_is_log n k c.ilog2.ensures.power_le (omega (arith, double k, c.ilog2.ensures.next_power_gt)) in
    record { value = is; greatest = λ h. subst (λ (j : ℕ). Greatest n j) (sym is) (log_greatest n h) }
