use Rattle.std.proofs.Common.{ℕ, sym, subst, arith}
use Rattle.numbers.specs.Logs.{Least}
use Rattle.numbers.proofs.Powers.{ceil_is_log, log_least, double}
use Rattle.numbers.proofs.logs.ceil_log_2.Goals as goal

pub returns-else-number-le1 : goal.returns-else-number-le1
returns-else-number-le1 c =
    let n = c.args.number in
    let k = c.ilog2.result in
    let low = c.ilog2.ensures.power_le in
    let high = c.ilog2.ensures.next_power_gt in
    let is = ceil_is_log n k (omega arith) (omega (arith, double k)) in
    record { value = is; least = subst (λ (j : ℕ). Least n j) (sym is) (log_least n) }
