use Rattle.std.proofs.Common.{◌≡◌, ℕ, List, [], ◌∷◌, Option, refl, ap, ◌∙◌}
use Rattle.blocks.specs.Numbering.{blocks_from, level_blocks}
use Rattle.layout.specs.Worked.{chunks_of}
use Rattle.layout.proofs.worked.worked_chunk_counts.Goals as goal

abbrev six : Option ℕ → Option ℕ → Option ℕ → Option ℕ → Option ℕ → Option ℕ → List (Option ℕ)
six a b c d e f = a ∷ (b ∷ (c ∷ (d ∷ (e ∷ (f ∷ [])))))

equal : (a b c d e f p q r s t u : Option ℕ) → a ≡ p → b ≡ q → c ≡ r → d ≡ s → e ≡ t → f ≡ u → six a b c d e f ≡ six p q r s t u
equal a b c d e f p q r s t u i j k l m n = cc

pub returns : goal.returns
unfolding level_blocks blocks_from
returns c =
    record {
      counts = equal _ _ _ _ _ _ _ _ _ _ _ _
          (c.chunks.ensures ∙ ap chunks_of c.five_by_three.ensures)
          (c.chunks-2.ensures ∙ ap chunks_of c.five_by_three-2.ensures)
          (c.chunks-3.ensures ∙ ap chunks_of c.five_by_three-3.ensures)
          (c.chunks-4.ensures ∙ ap chunks_of c.five_by_three-4.ensures)
          (c.chunks-5.ensures ∙ ap chunks_of c.five_by_three-5.ensures)
          (c.chunks-6.ensures ∙ ap chunks_of c.thirty_three_lines.ensures);
      stated = record {
        single = refl;
        mip_down = refl;
        mip_up = refl;
        rip_down = refl;
        rip_up = refl;
        mip_down_bytes = refl;
        mip_down_levels = refl;
        two_blocks = refl;
        longest_down = refl;
        longest_up = refl;
        widest = refl;
        too_wide = refl;
        mip_15_17_down = refl;
        mip_15_17_up = refl;
        rip_4_4 = refl;
      };
      blocks = record {
        far_corner = refl;
        next_level = refl;
        rising = refl;
        falling = refl;
        unspecified = refl;
        no_level = refl;
        last_line = refl;
        from_below = refl;
        above_row = refl;
        above_block = refl;
        second_block = refl;
      };
    }
