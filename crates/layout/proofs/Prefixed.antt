-- At a layer's position the fields of a prefix hold the coordinates of each block.
use Rattle.std.proofs.Common.{◌≡◌, ℕ, true, List, Some, None, Option, sym, refl, ap, ◌∙◌, inl, inr}
use Rattle.std.proofs.lemmas.Bool.{cond-true}
use Rattle.std.specs.List.{slice_get}
use Rattle.numbers.specs.Wholes.{optional}
use Rattle.schemes.specs.Meanings.{Lawful}
use Rattle.schemes.specs.Windows.{Placed}
use Rattle.blocks.specs.Numbering.{all_blocks}
use Rattle.blocks.specs.declared.block.Block.{Block}
use Rattle.blocks.proofs.Counts.{nth_map, some_cases}
use Rattle.prefixes.specs.Bytes.{buffer_for, written_for}
use Rattle.prefixes.specs.Coordinates.{coordinates_of, fits_fields}
use Rattle.prefixes.proofs.Finding.{blocks_known}
use Rattle.layout.specs.Acceptance.{Laid}
use Rattle.layout.specs.Prefixes.{buffer_in, layer_buffer, layer_written, written_in}

module _ (l : Laid) (ok : Lawful l.scheme) (p : Placed l.position l.scheme) (number n : ℕ) (old : List ℕ) where
  held : (b : Block) → slice_get (all_blocks l.scheme) number ≡ Some b → fits_fields (coordinates_of l.scheme l.position b) ≡ true
  held b e =
      (blocks_known l.scheme ok l.position).told p number (coordinates_of l.scheme l.position b)
      (nth_map (coordinates_of l.scheme l.position) (all_blocks l.scheme) number ∙ ap (optional (coordinates_of l.scheme l.position)) e)

  -- two tellings of the block with the number, where they agree on what it may be
  by_block : {A : Type 0} (f h : Option Block → A) → f None ≡ h None → ((b : Block) → slice_get (all_blocks l.scheme) number ≡ Some b → f (Some b) ≡ h (Some b)) → f (slice_get (all_blocks l.scheme) number) ≡ h (slice_get (all_blocks l.scheme) number)
  by_block f h e k = elim (some_cases (slice_get (all_blocks l.scheme) number)) [
    | inl none ↦ ap f none ∙ e ∙ sym (ap h none)
    | inr some ↦ ap f some.1 ∙ k some.0 some.1 ∙ sym (ap h some.1)
  ]

  pub written_as : written_for l.scheme l.position n old (slice_get (all_blocks l.scheme) number) ≡ layer_written l number n old
  written_as = by_block (written_for l.scheme l.position n old) (written_in l n old) refl (λ b e. cond-true _ _ _ (held b e))

  pub buffer_as : buffer_for l.scheme l.position n old (slice_get (all_blocks l.scheme) number) ≡ layer_buffer l number n old
  buffer_as = by_block (buffer_for l.scheme l.position n old) (buffer_in l n old) refl (λ b e. cond-true _ _ _ (held b e))
