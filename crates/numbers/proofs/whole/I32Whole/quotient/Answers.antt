use Rattle.std.proofs.Common.{sym, ap, ◌∙◌}
use Rattle.std.proofs.lemmas.Int.{to_z-of_z}
use Rattle.numbers.specs.Rounding.{quotient}
use Rattle.numbers.proofs.Quotients.{up_by_one_less}
use Rattle.numbers.proofs.whole.I32Whole.quotient.Goals as goal

pub returns-in-Up-2 : goal.returns-in-Up-2
returns-in-Up-2 c =
    let a = c.args.self in
    let b = c.args.divisor in
    let f = c.ranges.self in
    let g = c.ranges.divisor in
    simp to_z-of_z (up_by_one_less a b f g (simp to_z-of_z at c.if-self-lt0.false) (simp to_z-of_z at c.if-divisor-lt1.false) c.if-self-eq0.false)
    ∙ ap (λ m. quotient m a b) (sym c.in-Up-2.is)
