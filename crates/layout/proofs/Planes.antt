-- Bounds by tile indices: a block's own lead to its bounds, and at a layer's position they stay in range.
use Rattle.std.proofs.Common.{◌≡◌, ℕ, ◌<◌, ◌≤◌, true, false, ℤ, pos, negsuc, ◌+ℤ◌, Some, None, Ok, Err, Result, sym, refl, ap, ◌∙◌, inl, inr, arith}
use Rattle.std.proofs.lemmas.Int.{ints}
use Rattle.std.proofs.lemmas.Bool.{and_parts, cases_Bool, cond-false, cond-true, ltb-true}
use Rattle.std.proofs.lemmas.Bool.Decides.{nat_tests}
use Rattle.std.specs.List.{slice_get}
use Rattle.numbers.specs.Pairs.{both}
use Rattle.numbers.specs.Refusals.{Told}
use Rattle.numbers.specs.Wholes.{within}
use Rattle.numbers.specs.declared.vec2.Vec2.{Vec2}
use Rattle.schemes.specs.Finding.{level_at_place, level_with}
use Rattle.schemes.specs.Meanings.{Meaning, Lawful, block_size, position_of}
use Rattle.schemes.specs.Windows.{Placed, axis_fits}
use Rattle.schemes.specs.declared.level.Level.{Level}
use Rattle.schemes.specs.declared.level.Naming.{Naming}
use Rattle.schemes.specs.declared.level.Naming.TheVariants.{Line, Tile}
use Rattle.schemes.proofs.Placed as levels
use Rattle.blocks.specs.Bounds.{bounds_of, tile_of}
use Rattle.blocks.specs.Numbering.{all_blocks}
use Rattle.blocks.specs.Tiles.{both_below, both_small, clipped_tile, data_indices, position_from, tile_corner}
use Rattle.blocks.specs.declared.block.Block.{Block}
use Rattle.blocks.specs.declared.bounds.IntegerBounds.{IntegerBounds}
use Rattle.blocks.specs.declared.tile.TileCoordinates.{TileCoordinates}
use Rattle.blocks.proofs.Clipping.{level_size, tile_bounds}
use Rattle.blocks.proofs.Counts.{some_cases}
use Rattle.blocks.proofs.Numbers.{numbered}
use Rattle.layout.specs.Pixels.{block_pixels, in_level, moved, too_deep}

-- the pairs of a layer's levels are not too deep
not_deep : (n : Naming) (pair : Vec2 ℕ) → pair.0 ≤ 31 → pair.1 ≤ 31 → too_deep n pair ≡ false
not_deep Line pair a b = refl
not_deep Tile pair a b = grind (arith, nat_tests)

pub tile_pixels : (m : Meaning) → Lawful m → (n : ℕ) (b : Block) (t : TileCoordinates ℕ) → slice_get (all_blocks m) n ≡ Some b → tile_of b ≡ t → block_pixels m t ≡ Ok (bounds_of (block_size m) b)
tile_pixels m ok n b t e is =
    let k = ((numbered m).listed n b e).0 in
    let low = ok.levels.pairs b.position b.level k.there in
    let pair = b.level.pair in
    let found : position_of m.levels pair ≡ Some b.position = sym (levels.placed m.levels b.position b.level pair ok.levels.distinct k.there refl refl) in
    ap (block_pixels m) (sym is)
    ∙ cond-false _ _ _ (not_deep m.naming pair low.0 low.1)
    ∙ ap (λ o. in_level m (tile_of b) (level_at_place m.levels o)) found
    ∙ ap (in_level m (tile_of b)) k.there
    ∙ tile_bounds m ok b k

-- a level that was found is one of the list
level_from : (m : Meaning) (pair : Vec2 ℕ) (l : Level) → level_with m.levels pair ≡ Some l → (i : ℕ) × (slice_get m.levels i ≡ Some l)
level_from m pair l e = elim (some_cases (position_of m.levels pair)) [
  | inl none ↦
      let f : level_with m.levels pair ≡ None = ap (level_at_place m.levels) none in
      let z : ◌≡◌ {A = ℕ} 0 1 = cc in
      let no : ⊥ = omega arith in
      elim no [ ]
  | inr some ↦ (some.0, sym (ap (level_at_place m.levels) some.1) ∙ e)
]

never_ok : {P : Type 0} (k : IntegerBounds) (why : Told) (r : Result IntegerBounds Told) → r ≡ Ok k → r ≡ Err why → P
never_ok k why r e f = let z : ◌≡◌ {A = ℕ} 0 1 = cc in let none : ⊥ = omega arith in elim none [ ]

-- bounds that were answered begin inside the image
begins : (size max : Vec2 ℕ) (t : TileCoordinates ℕ) (k : IntegerBounds) → data_indices size max t ≡ Ok k → (x y : ℕ) × (k.position.0 ≡ pos x) × (k.position.1 ≡ pos y) × (x < max.0) × (y < max.1)
begins size max t k e =
    let corner = tile_corner size t in
    elim (cases_Bool (both_below corner max)) [
      | inr f ↦ never_ok k _ (data_indices size max t) e (cond-false _ _ _ f)
      | inl below ↦ elim (cases_Bool (both_small corner)) [
        | inr f ↦ never_ok k _ (data_indices size max t) e (cond-true _ _ _ below ∙ cond-false _ _ _ f)
        | inl fits ↦
            let g : data_indices size max t ≡ Ok (clipped_tile size max corner) = cond-true _ _ _ below ∙ cond-true _ _ _ fits in
            let same : clipped_tile size max corner ≡ k = cc in
            let sides = and_parts _ _ below in
            (corner.0, corner.1, ap (λ (v : IntegerBounds). v.position.0) (sym same), ap (λ (v : IntegerBounds). v.position.1) (sym same), ltb-true _ _ sides.0, ltb-true _ _ sides.1)
      ]
    ]

-- a pixel of a level at a position in range has a signed 32-bit place
sum_small : (p z : ℤ) (x n : ℕ) → axis_fits p n ≡ true → x < n → z ≡ pos x → within (negsuc 2147483647) (pos 2147483647) (z +ℤ p) ≡ Some (z +ℤ p)
sum_small p z x n e h is =
    let small : within (negsuc 2147483647) (pos 2147483647) (pos x +ℤ p) ≡ Some (pos x +ℤ p) = grind (arith, ints, nat_tests) in
    ap (λ v. within (negsuc 2147483647) (pos 2147483647) (v +ℤ p)) is ∙ small ∙ ap (λ v. Some (v +ℤ p)) (sym is)

pub in_plane : (m : Meaning) (position : Vec2 ℤ) → Placed position m → (t : TileCoordinates ℕ) (k : IntegerBounds) → Ok k ≡ block_pixels m t → position_from position k.position ≡ Some (moved position k).position
in_plane m position p t k e =
    let pair = t.level_index in
    elim (cases_Bool (too_deep m.naming pair)) [
      | inl deep ↦ never_ok k _ (block_pixels m t) (sym e) (cond-true _ _ _ deep)
      | inr shallow ↦
          let f : block_pixels m t ≡ in_level m t (level_with m.levels pair) = cond-false _ _ _ shallow in
          elim (some_cases (level_with m.levels pair)) [
            | inl none ↦ never_ok k _ (block_pixels m t) (sym e) (f ∙ ap (in_level m t) none)
            | inr some ↦
                let l = some.0 in
                let at = level_from m pair l some.1 in
                let b = begins (block_size m) (level_size l) t k (sym (ap (in_level m t) some.1) ∙ sym f ∙ sym e) in
                let window = and_parts (axis_fits position.0 l.width) (axis_fits position.1 l.height) (p at.0 l at.1) in
                let sx = sum_small position.0 k.position.0 b.0 l.width window.0 b.4 b.2 in
                let sy = sum_small position.1 k.position.1 b.1 l.height window.1 b.5 b.3 in
                ap (λ o. both o (within (negsuc 2147483647) (pos 2147483647) (k.position.1 +ℤ position.1))) sx
                ∙ ap (both (Some (k.position.0 +ℤ position.0))) sy
          ]
    ]
