-- The bounds hold what is cut from the corner, and each pixel of each level lies under one block.
use Rattle.std.proofs.Common.{◌≡◌, ℕ, ◌+◌, ◌*◌, ◌/◌, ◌<◌, true, ◌&&◌, ltb, leb, Some, sym, refl, ap, ◌∙◌, subst, arith}
use Rattle.std.proofs.lemmas.Bool.{and_from, and_parts, eq-eqb, eqb-true, ltb-true}
use Rattle.numbers.specs.Counts.{clipped}
use Rattle.std.specs.List.{slice_get}
use Rattle.schemes.specs.Meanings.{Meaning, Lawful}
use Rattle.blocks.specs.Numbering.{all_blocks, block_at, number_of, IsBlock}
use Rattle.blocks.specs.Pixels.{lies_over, BoundsCut, PixelsOnce}
use Rattle.blocks.proofs.Along.{counted, inside, only}
use Rattle.blocks.proofs.Clipping.{corner_in}
use Rattle.blocks.proofs.Counts.{count_one}
use Rattle.blocks.proofs.Numbers.{numbered}

-- a pixel inside bounds lies in the level
inside_level : (size q x side : ℕ) → size * q < side → (leb (size * q) x && ltb x (size * q + clipped side size (size * q))) ≡ true → x < side
inside_level size q x side h t = let b : x < size * q + clipped side size (size * q) = ltb-true x (size * q + clipped side size (size * q)) (and_parts _ _ t).1 in omega arith

pub bounds_cut : (m : Meaning) → Lawful m → BoundsCut m
bounds_cut m ok b k x y =
    let bw = m.block_width in
    let bh = m.block_height in
    let pw = ok.block_wide.0 in
    let ph = ok.block_high.0 in
    let c = corner_in m ok b k in
    record {
      only = λ t.
          let sides = and_parts _ _ t in
          record {
            wide = inside_level bw b.column x b.level.width c.0 sides.0;
            high = inside_level bh b.row y b.level.height c.1 sides.1;
            column = sym (only bw b.column x b.level.width pw sides.0);
            row = sym (only bh b.row y b.level.height ph sides.1);
          };
      all = λ u.
          and_from _ _
          (subst (λ q. (leb (bw * q) x && ltb x (bw * q + clipped b.level.width bw (bw * q))) ≡ true) u.column (inside bw x b.level.width pw u.wide))
          (subst (λ q. (leb (bh * q) y && ltb y (bh * q + clipped b.level.height bh (bh * q))) ≡ true) u.row (inside bh y b.level.height ph u.high));
    }

pub pixels_once : (m : Meaning) → Lawful m → PixelsOnce m
pixels_once m ok p l e x y hx hy =
    let bw = m.block_width in
    let bh = m.block_height in
    let pw = ok.block_wide.0 in
    let ph = ok.block_high.0 in
    let b = block_at p l (y / bh) (x / bw) in
    let is_block : IsBlock m b = record { there = e; row_in = counted bh y l.height ph hy; column_in = counted bw x l.width pw hx } in
    let law = numbered m in
    count_one (lies_over m p x y) (all_blocks m) (number_of m b) b
    (law.each b is_block)
    (and_from _ _ (eq-eqb p p refl) (and_from _ _ (inside bw x l.width pw hx) (inside bh y l.height ph hy)))
    (λ j v f t.
    let k = law.listed j v f in
    let both = and_parts _ _ t in
    let sides = and_parts _ _ both.1 in
    let at_p : v.position ≡ p = eqb-true _ _ both.0 in
    let column : v.column ≡ x / bw = only bw v.column x v.level.width pw sides.0 in
    let row : v.row ≡ y / bh = only bh v.row y v.level.height ph sides.1 in
    let there = k.0.there in
    let moved : slice_get m.levels p ≡ Some v.level = ap (slice_get m.levels) (sym at_p) ∙ there in
    let level : v.level ≡ l = cc in
    sym k.1
    ∙ ap (λ i. number_of m (block_at i v.level v.row v.column)) at_p
    ∙ ap (λ i. number_of m (block_at p i v.row v.column)) level
    ∙ ap (λ i. number_of m (block_at p l i v.column)) row
    ∙ ap (λ i. number_of m (block_at p l (y / bh) i)) column)
