use Rattle.std.proofs.Common.{[], ◌∷◌, sym, ap, append_assoc, append-nil, arith}
use Rattle.std.proofs.lemmas.List.{nil_from_length}
use Rattle.session.specs.Sessions.{Held, Said}
use Rattle.session.specs.declared.line.Line.TheVariants.{Answered}
use Rattle.session.proofs.Running.{shorter}
use Rattle.session.proofs.transcript.transcript.Goals as goal

pub loop-rest-smaller : goal.loop-rest-smaller
loop-rest-smaller c = shorter c.loop-rest.rest.now c.in-Some.after.now c.in-Some.command (sym c.in-Some.ensures)

pub loop-rest-preserved : goal.loop-rest-preserved
loop-rest-preserved c =
    let less = shorter c.loop-rest.rest.now c.in-Some.after.now c.in-Some.command (sym c.in-Some.ensures) in (
      omega (arith, c.loop-rest.invariant.0),
      λ more k.
          rw (c.in_ok-push-2.ensures.items, append_assoc)
          (c.loop-rest.invariant.1 (Answered c.from-letter.result c.step-next.result.1 ∷ more) (
            c.in-Some.command,
            c.in-Some.after.now,
            sym c.in-Some.ensures,
            c.from-letter.ensures,
            ap (λ (s : Held × Said). s.1) c.step-next.ensures,
            rw (← c.step-next.ensures) k,
          )),
    )

pub returns : goal.returns
returns c =
    rw append-nil at (c.loop-rest.invariant.1 [] (nil_from_length c.loop-rest.rest.now (omega arith)))
