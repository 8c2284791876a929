-- Writing the prefix of the block with a number.
use Rattle.std.proofs.Common.{◌≡◌, ℕ, ◌<◌, ◌≤◌, true, false, List, length, ℤ, Some, None, Ok, Err, Result, sym, refl, ap, ◌∙◌, inl, inr, arith}
use Rattle.std.proofs.lemmas.Bool.{cases_Bool, cond-false, cond-true, le-leb, lt-leb}
use Rattle.std.specs.List.{slice_get}
use Rattle.numbers.specs.Refusals.{Told, outcome, refused}
use Rattle.numbers.specs.declared.refusal.Refusal.{Refusal}
use Rattle.numbers.specs.declared.vec2.Vec2.{Vec2}
use Rattle.schemes.specs.Meanings.{Meaning}
use Rattle.schemes.specs.declared.level.Naming.{Naming}
use Rattle.schemes.specs.declared.level.Naming.TheVariants as by
use Rattle.blocks.specs.Numbering.{all_blocks}
use Rattle.blocks.specs.declared.block.Block.{Block}
use Rattle.prefixes.specs.Bytes.{ComesBack, ComesBackFor, buffer_for, buffer_with, naming_of, prefix_read, prefix_size, written, written_for}
use Rattle.prefixes.specs.Coordinates.{coordinates_by, coordinates_of, fits_fields, telling}
use Rattle.prefixes.specs.declared.coordinates.BlockCoordinates.{BlockCoordinates}
use Rattle.prefixes.specs.declared.prefix.Prefix.{Prefix}

-- what a telling tells
pub told_ok : (c d : BlockCoordinates) → Ok c ≡ telling d → (fits_fields d ≡ true) × (c ≡ d)
told_ok c d e = elim (cases_Bool (fits_fields d)) [
  | inl t ↦ let f : Ok c ≡ Ok d = e ∙ cond-true _ _ _ t in (t, cc)
  | inr t ↦
      let f : Ok c ≡ Err (refused 16 5 0) = e ∙ cond-false _ _ _ t in
      let z : ◌≡◌ {A = ℕ} 0 1 = cc in
      let none : ⊥ = omega arith in
      elim none [ ]
]

pub told_err : (why : Told) (d : BlockCoordinates) → Err why ≡ telling d → (fits_fields d ≡ false) × (why ≡ refused 16 5 0)
told_err why d e = elim (cases_Bool (fits_fields d)) [
  | inl t ↦
      let f : Err why ≡ Ok d = e ∙ cond-true _ _ _ t in
      let z : ◌≡◌ {A = ℕ} 0 1 = cc in
      let none : ⊥ = omega arith in
      elim none [ ]
  | inr t ↦ let f : ◌≡◌ {A = Result BlockCoordinates Told} (Err why) (Err (refused 16 5 0)) = e ∙ cond-false _ _ _ t in (t, cc)
]

named_by : (n : Naming) (m : Meaning) (position : Vec2 ℤ) (b : Block) → naming_of (coordinates_by n m position b) ≡ n
named_by by.Line m position b = refl
named_by by.Tile m position b = refl

abbrev with : BlockCoordinates → ℕ → Prefix
with c n = record { coordinates = c; data_length = n }

pub record Wrote (m : Meaning) (position : Vec2 ℤ) (number n : ℕ) (old new : List ℕ) (r : Result ℕ Refusal) : Type 0 where
  pub answer : outcome r ≡ written_for m position n old (slice_get (all_blocks m) number)
  pub buffer : new ≡ buffer_for m position n old (slice_get (all_blocks m) number)
  pub back : ComesBackFor m position number n r new

module _ (m : Meaning) (position : Vec2 ℤ) (number n : ℕ) (old new : List ℕ) where
  comes : (r : Result ℕ Refusal) (b : Block) (c : BlockCoordinates) → slice_get (all_blocks m) number ≡ Some b → c ≡ coordinates_of m position b → ComesBack (with c n) r new → ComesBackFor m position number n r new
  comes (Err why) b c at is e = tt
  comes (Ok size) b c at is e = (
    b,
    at,
    ap (λ v. prefix_read v new) (sym (ap naming_of is ∙ named_by m.naming m position b))
        ∙ e ∙ ap (λ x. Ok (with x n)) is,
  )

  -- a block whose coordinates the fields hold
  pub wrote_block : (r : Result ℕ Refusal) (b : Block) (c : BlockCoordinates) → slice_get (all_blocks m) number ≡ Some b → Ok c ≡ telling (coordinates_of m position b) → outcome r ≡ written (with c n) old → new ≡ buffer_with (with c n) old → ComesBack (with c n) r new → Wrote m position number n old new r
  wrote_block r b c at e ea eb ec =
      let t = told_ok c (coordinates_of m position b) e in
      record {
        answer = ea ∙ ap (λ x. written (with x n) old) t.1 ∙ sym (ap (written_for m position n old) at ∙ cond-true _ _ _ t.0);
        buffer = eb ∙ ap (λ x. buffer_with (with x n) old) t.1 ∙ sym (ap (buffer_for m position n old) at ∙ cond-true _ _ _ t.0);
        back = comes r b c at t.1 ec;
      }

  -- a block whose coordinates they don't
  pub wrote_none : (why : Refusal) (b : Block) → slice_get (all_blocks m) number ≡ Some b → outcome {A = BlockCoordinates} (Err why) ≡ telling (coordinates_of m position b) → Wrote m position number n old old (Err why)
  wrote_none why b at e =
      let t = told_err _ (coordinates_of m position b) e in
      record {
        answer = ap Err t.1 ∙ sym (ap (written_for m position n old) at ∙ cond-false _ _ _ t.0);
        buffer = sym (ap (buffer_for m position n old) at ∙ cond-false _ _ _ t.0);
        back = tt;
      }

  -- no block, in a short buffer and in one with room
  pub no_room : (why : Refusal) → slice_get (all_blocks m) number ≡ None → length old < prefix_size m.naming → outcome {A = ℕ} (Err why) ≡ Err (refused 20 5 0) → Wrote m position number n old old (Err why)
  no_room why at h e = record {
    answer = e ∙ sym (ap (written_for m position n old) at ∙ cond-false _ _ _ (lt-leb _ _ h));
    buffer = sym (ap (buffer_for m position n old) at);
    back = tt;
  }

  pub no_block_there : (why : Refusal) → slice_get (all_blocks m) number ≡ None → prefix_size m.naming ≤ length old → outcome {A = ℕ} (Err why) ≡ Err (refused 23 3 0) → Wrote m position number n old old (Err why)
  no_block_there why at h e = record {
    answer = e ∙ sym (ap (written_for m position n old) at ∙ cond-true _ _ _ (le-leb _ _ h));
    buffer = sym (ap (buffer_for m position n old) at);
    back = tt;
  }
