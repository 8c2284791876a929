use Rattle.std.proofs.Common.{◌≡◌, Some, Option, sym, ◌∙◌, subst}
use Rattle.schemes.specs.Finding.{IsLevelWith}
use Rattle.schemes.specs.declared.level.Level.{Level}
use Rattle.schemes.proofs.Placed.{there, nowhere}
use Rattle.schemes.proofs.find.find_level.Goals as goal

-- no level has the pair
pub returns-in_err-position-clause-law : goal.returns-in_err-position-clause-law
returns-in_err-position-clause-law g c =
    let m = g.S.Scheme.meaning c.args.scheme.now in
    rw c.from_residual.ensures (nowhere m.levels c.args.pair (g.met.S.Scheme.lawful c.args.scheme.now).levels.distinct (sym c.in_err-position.ensures))

-- the level at the position has it
pub returns-clause-law : goal.returns-clause-law
returns-clause-law g c =
    let m = g.S.Scheme.meaning c.args.scheme.now in
    let h = there m.levels c.in_ok-position.field-0 c.args.pair (sym c.in_ok-position.ensures) in
    let is : Some h.0 ≡ c.level.result = sym (c.level.ensures ∙ h.1) in
    subst (λ (r : Option Level). IsLevelWith m.levels c.args.pair r) is (c.in_ok-position.field-0, h.1, h.2, h.3)
