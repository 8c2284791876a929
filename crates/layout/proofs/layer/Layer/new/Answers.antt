use Rattle.std.proofs.Common.{◌≡◌, ℕ, ◌*◌, true, length, Ok, Err, Some, None, Option, refl, Result, sym, ap, ◌∙◌, subst, arith}
use Rattle.std.proofs.lemmas.Bool.{cond-true, cond-false}
use Rattle.std.specs.Option.{IsSome}
use Rattle.std.specs.Result.{is_ok, result_err}
use Rattle.numbers.specs.Refusals.{number_of, told}
use Rattle.numbers.specs.Wholes.{optional}
use Rattle.numbers.specs.declared.refusal.Reason.{Reason}
use Rattle.numbers.specs.declared.refusal.Refusal.{Refusal}
use Rattle.schemes.specs.Blocks.{chunks_in, pixel_count}
use Rattle.schemes.specs.Meanings.{Meaning}
use Rattle.schemes.specs.Schemes.{any_meaning}
use Rattle.schemes.specs.declared.any_scheme.AnyScheme.{AnyScheme}
use Rattle.layout.specs.Acceptance.{meaning_of, states}
use Rattle.schemes.specs.Windows.{Placed}
use Rattle.layout.proofs.Accepting.{kept, placed, meant, scheme_there, counted, few_lines, over_channels, same_laid, some_bytes}
use Rattle.layout.proofs.layer.Layer.new.Goals as goal

-- where the rules were kept, none is broken
unbroken : (r : Result (Unit {0}) Reason) (o : Option ℕ) → true ≡ is_ok r → optional number_of (result_err r) ≡ o → None ≡ o
unbroken (Ok x) o e f = f
unbroken (Err why) o e f = let z : ◌≡◌ {A = ℕ} 0 1 = cc in let none : ⊥ = omega arith in elim none [ ]

-- a scheme that means something is there
present : (o : Option AnyScheme) (m : Meaning) → optional any_meaning o ≡ Some m → IsSome o
present (Some s) m e = refl
present None m e = let z : ◌≡◌ {A = ℕ} 0 1 = cc in let none : ⊥ = omega arith in elim none [ ]

pub unwrap-scheme-requires : goal.unwrap-scheme-requires
unwrap-scheme-requires c =
    let d = c.args.description in
    let n = length c.args.channels.now in
    present _ _ (c.scheme.ensures ∙ scheme_there d n (kept d n (unbroken c.check.result _ c.in_ok-map_err.ensures.variant c.check.ensures)))

pub bytes_per_pixel-requires : goal.bytes_per_pixel-requires
bytes_per_pixel-requires c = (kept c.args.description (length c.args.channels.now) (unbroken c.check.result _ c.in_ok-map_err.ensures.variant c.check.ensures)).few

pub returns-then-not-is_stated-clause-value : goal.returns-then-not-is_stated-clause-value
returns-then-not-is_stated-clause-value c =
    let d = c.args.description in
    let cs = c.args.channels.now in
    let k = kept d (length cs) (unbroken c.check.result _ c.in_ok-map_err.ensures.variant c.check.ensures) in
    let m : any_meaning c.unwrap-scheme.result ≡ meaning_of d = meant d (length cs) k c.unwrap-scheme.result (ap (optional any_meaning) (sym c.unwrap-scheme.ensures) ∙ c.scheme.ensures) in
    let n : c.compute_chunk_count-chunk_count.result ≡ chunks_in (meaning_of d) = c.compute_chunk_count-chunk_count.ensures ∙ ap chunks_in m in
    ap (λ (why : Refusal). Err (told why)) c.new.ensures
    ∙ sym (counted d cs (unbroken c.check.result _ c.in_ok-map_err.ensures.variant c.check.ensures) c.in_ok-check_channels.ensures
    ∙ cond-false _ _ _ (ap (states d.chunk_count) (sym n) ∙ sym c.is_stated.ensures ∙ c.if-not-is_stated.true))

pub invariant_of-result : goal.invariant_of-result
invariant_of-result c =
    let d = c.args.description in
    let cs = c.args.channels.now in
    let k = kept d (length cs) (unbroken c.check.result _ c.in_ok-map_err.ensures.variant c.check.ensures) in
    let m : any_meaning c.unwrap-scheme.result ≡ meaning_of d = meant d (length cs) k c.unwrap-scheme.result (ap (optional any_meaning) (sym c.unwrap-scheme.ensures) ∙ c.scheme.ensures) in
    let some = some_bytes cs k.some in
    record {
      placed = subst (λ (x : Meaning). Placed d.layer_position x) (sym m) (placed d (length cs) k);
      lined = few_lines d.lines_per_block k.lines;
      sampled = omega (arith, c.bytes_per_pixel.ensures);
      counted = c.compute_chunk_count-chunk_count.ensures;
    }

pub returns-clause-value : goal.returns-clause-value
returns-clause-value c =
    let d = c.args.description in
    let cs = c.args.channels.now in
    let k = kept d (length cs) (unbroken c.check.result _ c.in_ok-map_err.ensures.variant c.check.ensures) in
    let m : any_meaning c.unwrap-scheme.result ≡ meaning_of d = meant d (length cs) k c.unwrap-scheme.result (ap (optional any_meaning) (sym c.unwrap-scheme.ensures) ∙ c.scheme.ensures) in
    let n : c.compute_chunk_count-chunk_count.result ≡ chunks_in (meaning_of d) = c.compute_chunk_count-chunk_count.ensures ∙ ap chunks_in m in
    ap Ok (same_laid d cs _ _ _ m c.bytes_per_pixel.ensures n)
    ∙ sym (counted d cs (unbroken c.check.result _ c.in_ok-map_err.ensures.variant c.check.ensures) c.in_ok-check_channels.ensures
    ∙ cond-true _ _ _ (ap (states d.chunk_count) (sym n) ∙ sym c.is_stated.ensures ∙ c.if-not-is_stated.false))

pub returns-clause-bytes : goal.returns-clause-bytes
returns-clause-bytes c =
    let pixels = pixel_count (any_meaning c.unwrap-scheme.result) in
    ap (λ b. pixels * b) c.bytes_per_pixel.ensures ∙ sym (over_channels pixels c.args.channels.now)
