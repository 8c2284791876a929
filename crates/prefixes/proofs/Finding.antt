-- The lookups find the block that has the coordinates, and nothing where none has.
use Rattle.std.proofs.Common.{◌≡◌, ℕ, ◌*◌, ◌/◌, ◌%◌, ◌<◌, true, eqb, ℤ, pos, negsuc, ◌+ℤ◌, ◌-ℤ◌, Some, None, Ok, Err, Option, Result, sym, refl, ap, ◌∙◌, inl, inr, mul_comm, div-add-mod', mul-div_cancel, arith}
use native.Mathlib.Nat.{div_self, mod_self, mul-mod_left}
use Rattle.std.proofs.lemmas.Int.{ints}
use Rattle.std.proofs.lemmas.Bool.{and_from, and_parts, cases_Bool, cond-false, cond-true, eq-eqb, eqb-true}
use Rattle.std.proofs.lemmas.Bool.Decides.{nat_tests}
use Rattle.std.specs.List.{slice_get}
use Rattle.numbers.specs.Counts.{blocks_along}
use Rattle.numbers.specs.Refusals.{Told, refused}
use Rattle.numbers.specs.declared.vec2.Vec2.{Vec2}
use Rattle.schemes.specs.Meanings.{Meaning, Lawful, position_of}
use Rattle.schemes.specs.Windows.{Placed, axis_fits}
use Rattle.schemes.specs.declared.level.Level.{Level}
use Rattle.schemes.specs.declared.level.Naming.TheVariants as by
use Rattle.schemes.specs.Rows.{nth_some}
use Rattle.schemes.proofs.Placed.{placed, there}
use Rattle.blocks.specs.Numbering.{block_at, number_at, number_of, IsBlock}
use Rattle.blocks.specs.Bounds.{tile_of}
use Rattle.blocks.specs.Stored.{natural_tile, tile_and_level}
use Rattle.blocks.specs.declared.block.Block.{Block}
use Rattle.blocks.specs.declared.tile.TileCoordinates.{TileCoordinates}
use Rattle.blocks.proofs.Clipping.{corner_in}
use Rattle.blocks.proofs.Counts.{some_cases}
use Rattle.blocks.proofs.Covering.{bounds_cut, pixels_once}
use Rattle.blocks.proofs.Numbers.{numbered}
use Rattle.prefixes.specs.Coordinates.{all_coordinates, coordinates_by, coordinates_of, fits_fields, signed, signed_all, small}
use Rattle.prefixes.specs.Laws.{BlocksKnown, HasCoordinates}
use Rattle.prefixes.specs.Lookup.{looked_up, same_coordinates}
use Rattle.numbers.specs.Pairs.{natural, naturals}
use Rattle.prefixes.specs.Searching.{and_then, answer, in_level, line_search, row_of, search_for, tile_search, under_lines, under_tiles}
use Rattle.prefixes.specs.declared.coordinates.BlockCoordinates.{BlockCoordinates}
use Rattle.prefixes.specs.declared.coordinates.BlockCoordinates.TheVariants.{Line, Tile}
use Rattle.prefixes.proofs.Fitting.{small_block, small_signed}
use Rattle.prefixes.proofs.Behind.{has_coordinates, named, naming_cases, never_some, number_there, stands}
use Rattle.prefixes.proofs.Same.{first_at, first_none, same, self_same}

-- the coordinates under a naming that is known
as_lines : (m : Meaning) (position : Vec2 ℤ) (b : Block) → m.naming ≡ by.Line → coordinates_of m position b ≡ Line (position.1 +ℤ pos (m.block_height * b.row))
as_lines m position b n = ap (λ v. coordinates_by v m position b) n

as_tiles : (m : Meaning) (position : Vec2 ℤ) (b : Block) → m.naming ≡ by.Tile → coordinates_of m position b ≡ Tile (signed_all (tile_of b))
as_tiles m position b n = ap (λ v. coordinates_by v m position b) n

-- tiles

tile_found : (m : Meaning) → Lawful m → (position : Vec2 ℤ) (b : Block) → IsBlock m b → m.naming ≡ by.Tile → tile_search m (signed_all (tile_of b)) ≡ Some (number_of m b)
tile_found m ok position b k n =
    ap (λ v. under_tiles v (in_level m (tile_of b))) n
    ∙ ap (λ o. and_then o (λ p. answer (number_at m p b.row b.column))) (sym (placed m.levels b.position b.level b.level.pair ok.levels.distinct k.there refl refl))
    ∙ ap answer (number_there m b k)

natural_pair : (a : Vec2 ℤ) (p : Vec2 ℕ) → naturals a ≡ Some p → a ≡ signed p
natural_pair a p e = ints_are a.0 a.1 p e where
  ints_are : (x y : ℤ) (q : Vec2 ℕ) → naturals (record { 0 = x; 1 = y }) ≡ Some q → record { 0 = x; 1 = y } ≡ signed q
  ints_are (pos x) (pos y) q f = let g : record { 0 = x; 1 = y } ≡ q = cc in ap signed g
  ints_are (pos x) (negsuc y) q f = never_some None q refl f
  ints_are (negsuc x) (pos y) q f = never_some None q refl f
  ints_are (negsuc x) (negsuc y) q f = never_some None q refl f

natural_tiles : (a : TileCoordinates ℤ) (t : TileCoordinates ℕ) → natural_tile a ≡ Some t → a ≡ signed_all t
natural_tiles a t e = elim (some_cases (naturals a.tile_index)) [
  | inl none ↦ elim (some_cases (naturals a.level_index)) [
    | inl none_l ↦ never_some (natural_tile a) t (ap (λ o. tile_and_level o (naturals a.level_index)) none ∙ ap (tile_and_level None) none_l) e
    | inr l ↦ never_some (natural_tile a) t (ap (λ o. tile_and_level o (naturals a.level_index)) none ∙ ap (tile_and_level None) l.1) e
  ]
  | inr c ↦ elim (some_cases (naturals a.level_index)) [
    | inl none ↦ never_some (natural_tile a) t (ap (λ o. tile_and_level o (naturals a.level_index)) c.1 ∙ ap (tile_and_level (Some c.0)) none) e
    | inr l ↦
        let is : Some t ≡ tile_and_level (Some c.0) (Some l.0) = sym e ∙ ap (λ o. tile_and_level o (naturals a.level_index)) c.1 ∙ ap (tile_and_level (Some c.0)) l.1 in
        let same : t ≡ record { tile_index = c.0; level_index = l.0 } = cc in
        ap (λ v. record { tile_index = v; level_index = a.level_index }) (natural_pair a.tile_index c.0 c.1)
        ∙ ap (λ v. record { tile_index = signed c.0; level_index = v }) (natural_pair a.level_index l.0 l.1)
        ∙ ap signed_all (sym same)
  ]
]

tile_sound : (m : Meaning) (position : Vec2 ℤ) (n : ℕ) (a : TileCoordinates ℤ) → tile_search m a ≡ Some n → HasCoordinates m position n (Tile a)
tile_sound m position n a e =
    let rest = and_then (natural_tile a) (in_level m) in
    elim (naming_cases m.naming) [
      | inl nm ↦ never_some (tile_search m a) n (ap (λ v. under_tiles v rest) nm) e
      | inr nm ↦
          let found : rest ≡ Some n = sym (ap (λ v. under_tiles v rest) nm) ∙ e in
          elim (some_cases (natural_tile a)) [
            | inl none ↦ never_some rest n (ap (λ o. and_then o (in_level m)) none) found
            | inr s ↦
                let t = s.0 in
                let found_t : in_level m t ≡ Some n = sym (ap (λ o. and_then o (in_level m)) s.1) ∙ found in
                let at : ℕ → Option ℕ = λ p. answer (number_at m p t.tile_index.1 t.tile_index.0) in
                elim (some_cases (position_of m.levels t.level_index)) [
                  | inl none ↦ never_some (in_level m t) n (ap (λ o. and_then o at) none) found_t
                  | inr p ↦
                      let k = stands m p.0 t.tile_index.1 t.tile_index.0 n (sym (ap (λ o. and_then o at) p.1) ∙ found_t) in
                      let b = block_at p.0 k.level t.tile_index.1 t.tile_index.0 in
                      let h = there m.levels p.0 t.level_index p.1 in
                      let at_p = h.1 in
                      let level_there = k.is_block.there in
                      let same_level : h.0 ≡ k.level = cc in
                      let x : k.level.pair.0 ≡ t.level_index.0 = ap (λ (v : Level). v.pair.0) (sym same_level) ∙ h.2 in
                      let y : k.level.pair.1 ≡ t.level_index.1 = ap (λ (v : Level). v.pair.1) (sym same_level) ∙ h.3 in
                      let make : ℕ → ℕ → Vec2 ℕ = λ i j. record { 0 = i; 1 = j } in
                      let pair : k.level.pair ≡ t.level_index = ap (λ v. make v k.level.pair.1) x ∙ ap (make t.level_index.0) y in
                      ap (λ i. slice_get (all_coordinates m position) i) (sym k.is)
                      ∙ has_coordinates m position b k.is_block
                      ∙ ap Some (as_tiles m position b nm
                      ∙ ap (λ v. Tile (record { tile_index = signed t.tile_index; level_index = signed v })) pair
                      ∙ ap Tile (sym (natural_tiles a t s.1)))
                ]
          ]
    ]

-- lines

-- under line naming there is one level and one column
sole : (m : Meaning) → Lawful m → m.naming ≡ by.Line → (b : Block) → IsBlock m b → (b.position ≡ 0) × (b.column ≡ 0)
sole m ok n b k =
    let one = ok.one_by_lines n in
    let p_in = (nth_some m.levels b.position b.level k.there).0 in
    let wide : b.level.width ≡ m.block_width = (ok.whole_lines n b.position b.level k.there).2 in
    let u : blocks_along b.level.width m.block_width ≡ 1 = ap (λ v. blocks_along v m.block_width) wide ∙ omega (arith, div_self ok.block_wide.0, mod_self m.block_width) in
    let c_in = k.column_in in
    (omega arith, omega arith)

line_found : (m : Meaning) → Lawful m → (position : Vec2 ℤ) (b : Block) → IsBlock m b → m.naming ≡ by.Line → line_search m position.1 (position.1 +ℤ pos (m.block_height * b.row)) ≡ Some (number_of m b)
line_found m ok position b k n =
    let high = m.block_height in
    let far = b.row * high in
    let swap : high * b.row ≡ far = mul_comm high b.row in
    let diff : (position.1 +ℤ pos (high * b.row)) -ℤ position.1 ≡ pos far = omega (arith, ints) in
    let one = sole m ok n b k in
    ap (λ v. under_lines v (and_then (natural ((position.1 +ℤ pos (high * b.row)) -ℤ position.1)) (row_of m))) n
    ∙ ap (λ z. and_then (natural z) (row_of m)) diff
    ∙ cond-true _ _ _ (eq-eqb _ _ (mul-mod_left b.row high))
    ∙ ap (λ r. answer (number_at m 0 r 0)) (mul-div_cancel b.row ok.block_high.0)
    ∙ sym (ap (λ p. answer (number_at m p b.row b.column)) one.0 ∙ ap (λ c. answer (number_at m 0 b.row c)) one.1)
    ∙ ap answer (number_there m b k)

natural_is : (z : ℤ) (d : ℕ) → natural z ≡ Some d → z ≡ pos d
natural_is (pos n) d e = let s : n ≡ d = cc in ap pos s
natural_is (negsuc n) d e = never_some None d refl e

line_sound : (m : Meaning) (position : Vec2 ℤ) (n : ℕ) (y : ℤ) → line_search m position.1 y ≡ Some n → HasCoordinates m position n (Line y)
line_sound m position n y e =
    let high = m.block_height in
    let rest = and_then (natural (y -ℤ position.1)) (row_of m) in
    elim (naming_cases m.naming) [
      | inr nm ↦ never_some (line_search m position.1 y) n (ap (λ v. under_lines v rest) nm) e
      | inl nm ↦
          let found : rest ≡ Some n = sym (ap (λ v. under_lines v rest) nm) ∙ e in
          elim (some_cases (natural (y -ℤ position.1))) [
            | inl none ↦ never_some rest n (ap (λ o. and_then o (row_of m)) none) found
            | inr d ↦
                let far = d.0 in
                let found_d : row_of m far ≡ Some n = sym (ap (λ o. and_then o (row_of m)) d.1) ∙ found in
                elim (cases_Bool (eqb (far % high) 0)) [
                  | inr f ↦ never_some (row_of m far) n (cond-false _ _ _ f) found_d
                  | inl t ↦
                      let s = stands m 0 (far / high) 0 n (sym (cond-true _ _ _ t) ∙ found_d) in
                      let b = block_at 0 s.level (far / high) 0 in
                      let z = eqb-true (far % high) 0 t in
                      let whole : high * (far / high) ≡ far = omega (arith, mul_comm high (far / high), div-add-mod' far high) in
                      let is = natural_is (y -ℤ position.1) far d.1 in
                      let sum : position.1 +ℤ pos far ≡ y = omega (arith, ints) in
                      ap (λ i. slice_get (all_coordinates m position) i) (sym s.is)
                      ∙ has_coordinates m position b s.is_block
                      ∙ ap Some (as_lines m position b nm ∙ ap (λ v. Line (position.1 +ℤ pos v)) whole ∙ ap Line sum)
                ]
          ]
    ]

-- both

sound : (m : Meaning) (position : Vec2 ℤ) (n : ℕ) (c : BlockCoordinates) → search_for m position c ≡ Some n → HasCoordinates m position n c
sound m position n (Line y) e = line_sound m position n y e
sound m position n (Tile t) e = tile_sound m position n t e

complete : (m : Meaning) → Lawful m → (position : Vec2 ℤ) (n : ℕ) (c : BlockCoordinates) → HasCoordinates m position n c → search_for m position c ≡ Some n
complete m ok position n c e =
    let k = named m position n c e in
    let b = k.block in
    elim (naming_cases m.naming) [
      | inl nm ↦
          ap (search_for m position) (sym k.has ∙ as_lines m position b nm)
          ∙ line_found m ok position b k.is_block nm ∙ ap Some k.is
      | inr nm ↦
          ap (search_for m position) (sym k.has ∙ as_tiles m position b nm)
          ∙ tile_found m ok position b k.is_block nm ∙ ap Some k.is
    ]

some_same : (n k : ℕ) → Some n ≡ Some k → n ≡ k
some_same n k e = cc

once : (m : Meaning) → Lawful m → (position : Vec2 ℤ) (n k : ℕ) (c : BlockCoordinates) → HasCoordinates m position n c → HasCoordinates m position k c → n ≡ k
once m ok position n k c e f = some_same n k (sym (complete m ok position n c e) ∙ complete m ok position k c f)

-- what a lookup tells of the place that was found
abbrev told : Option ℕ → Result ℕ Told
told o = elim o [ Some number ↦ Ok number | None ↦ Err (refused 21 5 0) ]

found : (m : Meaning) → Lawful m → (position : Vec2 ℤ) (n : ℕ) (c : BlockCoordinates) → HasCoordinates m position n c → looked_up m position c ≡ Ok n
found m ok position n c e =
    ap told (first_at (same_coordinates c) (all_coordinates m position) n c e (self_same c)
    (λ j y f t. once m ok position j n c (f ∙ ap Some (sym (same c y t))) e))

none : (m : Meaning) (position : Vec2 ℤ) (c : BlockCoordinates) → ((n : ℕ) → HasCoordinates m position n c → ⊥) → looked_up m position c ≡ Err (refused 21 5 0)
none m position c absent = ap told (first_none (same_coordinates c) 0 (all_coordinates m position) (λ j y f t. absent j (f ∙ ap Some (sym (same c y t)))))

-- the arithmetic is the lookup
pub is_looked_up : (m : Meaning) → Lawful m → (position : Vec2 ℤ) (c : BlockCoordinates) → told (search_for m position c) ≡ looked_up m position c
is_looked_up m ok position c = elim (some_cases (search_for m position c)) [
  | inl e ↦ ap told e ∙ sym (none m position c (λ n h. never_some (search_for m position c) n e (complete m ok position n c h)))
  | inr e ↦ ap told e.1 ∙ sym (found m ok position e.0 c (sound m position e.0 c e.1))
]

only : (m : Meaning) → Lawful m → (position : Vec2 ℤ) (n : ℕ) (c : BlockCoordinates) → looked_up m position c ≡ Ok n → HasCoordinates m position n c
only m ok position n c e = elim (some_cases (search_for m position c)) [
  | inl f ↦
      let g : looked_up m position c ≡ Err (refused 21 5 0) = sym (is_looked_up m ok position c) ∙ ap told f in
      let z : ◌≡◌ {A = ℕ} 0 1 = cc in
      let no : ⊥ = omega arith in
      elim no [ ]
  | inr f ↦
      let g : looked_up m position c ≡ Ok f.0 = sym (is_looked_up m ok position c) ∙ ap told f.1 in
      let is : f.0 ≡ n = cc in
      sound m position n c (f.1 ∙ ap Some is)
]

-- a line of a placed layer stays inside the limits
line_small : (p : ℤ) (far height : ℕ) → axis_fits p height ≡ true → far < height → small (p +ℤ pos far) ≡ true
line_small p far height e h = grind (arith, ints, nat_tests)

fits : (m : Meaning) → Lawful m → (position : Vec2 ℤ) → Placed position m → (n : ℕ) (c : BlockCoordinates) → HasCoordinates m position n c → fits_fields c ≡ true
fits m ok position p n c e =
    let k = named m position n c e in
    let b = k.block in
    let s = small_block m ok b k.is_block in
    elim (naming_cases m.naming) [
      | inl nm ↦
          let window = and_parts (axis_fits position.0 b.level.width) (axis_fits position.1 b.level.height) (p b.position b.level k.is_block.there) in
          ap fits_fields (sym k.has ∙ as_lines m position b nm)
          ∙ line_small position.1 (m.block_height * b.row) b.level.height window.1 (corner_in m ok b k.is_block).1
      | inr nm ↦
          ap fits_fields (sym k.has ∙ as_tiles m position b nm)
          ∙ and_from _ _ (small_signed (tile_of b).tile_index s.column s.row) (small_signed b.level.pair s.level_x s.level_y)
    ]

pub blocks_known : (m : Meaning) → Lawful m → (position : Vec2 ℤ) → BlocksKnown m position
blocks_known m ok position = record {
  numbered = numbered m;
  bounded = bounds_cut m ok;
  covered = pixels_once m ok;
  told = fits m ok position;
  once = once m ok position;
  found = found m ok position;
  only = only m ok position;
  none = none m position;
}
