-- What holds of a description that breaks no rule.
use Rattle.std.proofs.Common.{◌≡◌, ℕ, zero, suc, ◌+◌, ◌*◌, ◌≤◌, Bool, true, false, cond, not, eqb, leb, List, [], ◌∷◌, length, ℤ, Some, None, Ok, Err, sum_by, Option, Result, sym, refl, ap, ◌∙◌, subst, mul-zero, mul-add, arith}
use Rattle.std.proofs.lemmas.Int.{ints}
use Rattle.std.proofs.lemmas.List.Sums.{sum_by-cons}
use Rattle.std.proofs.lemmas.Bool.{and_from, and_parts, or_parts, not-false, le-leb, leb-true, eqb-false, cond-true}
use Rattle.std.proofs.lemmas.Bool.Decides.{nat_tests}
use Rattle.numbers.specs.Refusals.{Told, refused}
use Rattle.numbers.specs.declared.rounding.RoundingMode.{RoundingMode}
use Rattle.schemes.specs.Blocks.{chunks_in}
use Rattle.schemes.specs.Levels.{one_level}
use Rattle.schemes.specs.Meanings.{Meaning, EachLevel}
use Rattle.schemes.specs.Schemes.{any_meaning}
use Rattle.schemes.specs.declared.any_scheme.AnyScheme.{AnyScheme}
use Rattle.schemes.specs.declared.level.Level.{Level}
use Rattle.schemes.specs.Halves.{size_below}
use Rattle.schemes.specs.Lists.{mip_is, rip_is}
use Rattle.layout.specs.Acceptance.{Laid, accepted, broken_channel, broken_rule, cut_into, good_tile, laid_out, meaning_of, mode_levels, states}
use Rattle.layout.specs.Asked.{good_blocks, scheme_of}
use Rattle.layout.specs.Channels.{pixel_bytes, sample_bytes}
use Rattle.schemes.specs.Windows.{axis_fits, window_fits, Placed}
use Rattle.layout.specs.Windows.{good_lines, good_side}
use Rattle.layout.specs.declared.attribute.BlockDescription.{BlockDescription}
use Rattle.layout.specs.declared.attribute.BlockDescription.TheVariants.{ScanLines, Tiles}
use Rattle.layout.specs.declared.attribute.ChannelDescription.{ChannelDescription}
use Rattle.layout.specs.declared.attribute.LevelMode.{LevelMode}
use Rattle.layout.specs.declared.attribute.LevelMode.TheVariants.{Singular, MipMap, RipMap}
use Rattle.layout.specs.declared.attribute.SampleType.{SampleType}
use Rattle.layout.specs.declared.attribute.SampleType.TheVariants.{U32, F16, F32}
use Rattle.layout.specs.declared.description.LayerDescription.{LayerDescription}

-- a rule that is not broken, and those after it
passed : (broken : Bool) (number : ℕ) (later : Option ℕ) → None ≡ cond broken (Some number) later → (broken ≡ false) × (None ≡ later)
passed false number later e = (refl, e)
passed true number later e = let z : ◌≡◌ {A = ℕ} 0 1 = cc in let none : ⊥ = omega arith in elim none [ ]

pub record Kept (d : LayerDescription) (channels : ℕ) : Type 0 where
  pub fits : window_fits d.layer_position d.layer_size ≡ true
  pub wide : 1 ≤ d.layer_size.0
  pub high : 1 ≤ d.layer_size.1
  pub lines : good_lines d.lines_per_block ≡ true
  pub tile : good_tile d.blocks ≡ true
  pub some : 1 ≤ channels
  pub few : channels ≤ 1024

not_zero : (n : ℕ) → eqb n 0 ≡ false → 1 ≤ n
not_zero zero e = let z : ◌≡◌ {A = ℕ} 0 1 = elim (eqb-false 0 0 e refl) [ ] in omega arith
not_zero (suc n) e = omega arith

pub kept : (d : LayerDescription) (channels : ℕ) → None ≡ broken_rule d channels → Kept d channels
kept d channels e =
    let p4 = passed _ _ _ e in
    let p5 = passed _ _ _ p4.1 in
    let p6 = passed _ _ _ p5.1 in
    let p7 = passed _ _ _ p6.1 in
    let p8 = passed _ _ _ p7.1 in
    let p9 = passed _ _ _ p8.1 in
    let sides = or_parts (eqb d.layer_size.0 0) (eqb d.layer_size.1 0) p7.0 in
    let blocks = and_parts (good_lines d.lines_per_block) (good_tile d.blocks) (not-false _ p8.0) in
    let count = or_parts (eqb channels 0) (not (leb channels 1024)) p9.0 in
    record {
      fits = not-false _ p5.0;
      wide = not_zero _ sides.0;
      high = not_zero _ sides.1;
      lines = blocks.0;
      tile = blocks.1;
      some = not_zero _ count.0;
      few = leb-true _ _ (not-false _ count.1);
    }

-- a size that fits at some position is at most the distance of the limits
fits_below : (p : ℤ) (n : ℕ) → axis_fits p n ≡ true → n ≤ 2147483646
fits_below p n e = grind (arith, ints, nat_tests)

-- and so does a smaller one
fits_less : (p : ℤ) (n k : ℕ) → k ≤ n → axis_fits p n ≡ true → axis_fits p k ≡ true
fits_less p n k h e = grind (arith, ints, nat_tests)

pub some_bytes : (cs : List ChannelDescription) → 1 ≤ length cs → 1 ≤ pixel_bytes cs
some_bytes [] h = let none : ⊥ = omega arith in elim none [ ]
some_bytes (c ∷ cs) h = omega (arith, sum_by-cons (λ (x : ChannelDescription). sample_bytes x.sample_type) c cs, two c.sample_type)
  where
    two : (t : SampleType) → 2 ≤ sample_bytes t
    two U32 = omega arith
    two F16 = omega arith
    two F32 = omega arith

good : (n : ℕ) → 1 ≤ n → n ≤ 2147483647 → good_side n ≡ true
good n a b = and_from _ _ (le-leb 1 n a) (le-leb n 2147483647 b)

lines_good : (n : ℕ) → good_lines n ≡ true → good_side n ≡ true
lines_good n e = grind (arith, nat_tests)

pub few_lines : (n : ℕ) → good_lines n ≡ true → (1 ≤ n) × (n ≤ 256)
few_lines n e = (grind (arith, nat_tests), grind (arith, nat_tests))

blocks_good : (b : BlockDescription) (lines : ℕ) → good_lines lines ≡ true → good_tile b ≡ true → good_blocks b lines ≡ true
blocks_good ScanLines lines l t = lines_good lines l
blocks_good (Tiles x) lines l t = t

-- the scheme is there
pub scheme_there : (d : LayerDescription) (channels : ℕ) → Kept d channels → scheme_of d ≡ Some (meaning_of d)
scheme_there d channels k =
    let fit = and_parts (axis_fits d.layer_position.0 d.layer_size.0) (axis_fits d.layer_position.1 d.layer_size.1) k.fits in
    let w = good d.layer_size.0 k.wide (omega (arith, fits_below d.layer_position.0 d.layer_size.0 fit.0)) in
    let h = good d.layer_size.1 k.high (omega (arith, fits_below d.layer_position.1 d.layer_size.1 fit.1)) in
    cond-true _ _ _ (and_from _ _ w h) ∙ cond-true _ _ _ (blocks_good d.blocks d.lines_per_block k.lines k.tile)

-- no level is larger than the image
abbrev Within : ℕ → ℕ → Level → Type 0
Within w h l = (l.width ≤ w) × (l.height ≤ h)

one_within : (w h : ℕ) → EachLevel (Within w h) (one_level w h)
one_within w h zero l e = let same : record { pair = record { 0 = 0; 1 = 0 }; width = w; height = h } ≡ l = cc in subst (Within w h) same (omega arith, omega arith)
one_within w h (suc i) l e = let z : ◌≡◌ {A = ℕ} 0 1 = cc in let none : ⊥ = omega arith in elim none [ ]

mode_within : (mode : LevelMode) (r : RoundingMode) (w h : ℕ) → 1 ≤ w → 1 ≤ h → EachLevel (Within w h) (mode_levels mode r w h)
mode_within Singular r w h a b i l e = one_within w h i l e
mode_within MipMap r w h a b i l e = subst (Within w h) (mip_is r w h i l e).1 (size_below r w i a, size_below r h i b)
mode_within RipMap r w h a b i l e = subst (Within w h) (rip_is r w h i l e).1 (size_below r w _ a, size_below r h _ b)

within : (b : BlockDescription) (lines w h : ℕ) → 1 ≤ w → 1 ≤ h → EachLevel (Within w h) (cut_into b lines w h).levels
within ScanLines lines w h a b = one_within w h
within (Tiles t) lines w h a b = mode_within t.level_mode t.rounding_mode w h a b

-- the position passes the window's limits at each level
pub placed : (d : LayerDescription) (channels : ℕ) → Kept d channels → Placed d.layer_position (meaning_of d)
placed d channels k i l e =
    let fit = and_parts (axis_fits d.layer_position.0 d.layer_size.0) (axis_fits d.layer_position.1 d.layer_size.1) k.fits in
    let small = within d.blocks d.lines_per_block d.layer_size.0 d.layer_size.1 k.wide k.high i l e in
    and_from _ _ (fits_less d.layer_position.0 _ l.width small.0 fit.0) (fits_less d.layer_position.1 _ l.height small.1 fit.1)

pub meant : (d : LayerDescription) (channels : ℕ) → Kept d channels → (s : AnyScheme) → Some (any_meaning s) ≡ scheme_of d → any_meaning s ≡ meaning_of d
meant d channels k s e =
    let f : Some (any_meaning s) ≡ Some (meaning_of d) = e ∙ scheme_there d channels k in
    cc

-- where no rule is broken, the chunk count decides
pub counted : (d : LayerDescription) (cs : List ChannelDescription) → None ≡ broken_rule d (length cs) → None ≡ broken_channel d 0 cs → accepted d cs ≡ cond (states d.chunk_count (chunks_in (meaning_of d))) (Ok (laid_out d cs)) (Err (refused 14 4 0))
counted d cs e f =
    let last : Result Laid Told = cond (states d.chunk_count (chunks_in (meaning_of d))) (Ok (laid_out d cs)) (Err (refused 14 4 0)) in
    let by_channel : Option Told → Result Laid Told = λ o. elim o [ Some t ↦ Err t | None ↦ last ] in
    let by_rule : Option ℕ → Result Laid Told = λ o. elim o [ Some number ↦ Err (refused number 4 0) | None ↦ by_channel (broken_channel d 0 cs) ] in
    ap by_rule (sym e) ∙ ap by_channel (sym f)

pub same_laid : (d : LayerDescription) (cs : List ChannelDescription) (m : Meaning) (bytes chunks : ℕ) → m ≡ meaning_of d → bytes ≡ pixel_bytes cs → chunks ≡ chunks_in (meaning_of d) → record { position = d.layer_position; order = d.line_order; scheme = m; bytes = bytes; chunks = chunks } ≡ laid_out d cs
same_laid d cs m bytes chunks p q r =
    let with : Meaning → ℕ → ℕ → Laid = λ m b n. record { position = d.layer_position; order = d.line_order; scheme = m; bytes = b; chunks = n } in
    ap (λ x. with x bytes chunks) p ∙ ap (λ x. with (meaning_of d) x chunks) q ∙ ap (with (meaning_of d) (pixel_bytes cs)) r

-- a product with the bytes of a pixel is the sum of the products with the bytes of the samples
pub over_channels : (pixels : ℕ) (cs : List ChannelDescription) → sum_by (λ (c : ChannelDescription). pixels * sample_bytes c.sample_type) cs ≡ pixels * pixel_bytes cs
over_channels pixels [] = sym (mul-zero pixels)
over_channels pixels (c ∷ cs) =
    let f : ChannelDescription → ℕ = λ x. sample_bytes x.sample_type in
    sum_by-cons (λ (x : ChannelDescription). pixels * f x) c cs
    ∙ ap (λ n. pixels * f c + n) (over_channels pixels cs)
    ∙ sym (mul-add pixels (f c) (pixel_bytes cs))
    ∙ ap (λ n. pixels * n) (sym (sum_by-cons f c cs))
