use Rattle.std.proofs.Common.{◌≡◌, ℕ, Some, None, Ok, Err, Option, Result, refl, ap, ◌∙◌}
use Rattle.std.specs.Option.{ok_or}
use Rattle.numbers.specs.Refusals.{Told, outcome, refused, told}
use Rattle.numbers.specs.declared.refusal.Refusal.{Refusal}
use Rattle.prefixes.proofs.Finding.{blocks_known, is_looked_up}
use Rattle.prefixes.proofs.positioned.Positioned.lookup.Goals as goal

abbrev answer_of : Option ℕ → Result ℕ Told
answer_of o = elim o [ Some number ↦ Ok number | None ↦ Err (refused 21 5 0) ]

answers : (o : Option ℕ) (why : Refusal) → told why ≡ refused 21 5 0 → outcome (ok_or o why) ≡ answer_of o
answers (Some number) why e = refl
answers None why e = ap Err e

pub returns : goal.returns
returns g c =
    let s = c.args.self.now in
    let m = g.S.Scheme.meaning s.scheme in
    let ok = g.met.S.Scheme.lawful s.scheme in
    record {
      answer =
          ap outcome c.ok_or.ensures.value ∙ answers c.find.result c.new.result (ap told c.new.ensures)
          ∙ ap answer_of c.find.ensures
          ∙ is_looked_up m ok s.position c.args.coordinates;
      law = blocks_known m ok s.position;
    }
