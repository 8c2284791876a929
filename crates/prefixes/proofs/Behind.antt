-- Blocks behind coordinates and behind numbers.
use Rattle.std.proofs.Common.{◌≡◌, ℕ, ◌&&◌, ltb, ◌⊎◌, ℤ, Some, None, Ok, Option, sym, refl, ap, ◌∙◌, inl, inr, arith}
use Rattle.std.proofs.lemmas.Bool.{and_from, and_parts, cases_Bool, cond-false, cond-true, lt-ltb, ltb-true}
use Rattle.std.specs.List.{slice_get}
use Rattle.numbers.specs.Wholes.{optional}
use Rattle.numbers.specs.declared.vec2.Vec2.{Vec2}
use Rattle.schemes.specs.Meanings.{Meaning, block_size}
use Rattle.schemes.specs.declared.level.Level.{Level}
use Rattle.schemes.specs.declared.level.Naming.{Naming}
use Rattle.schemes.specs.declared.level.Naming.TheVariants as by
use Rattle.blocks.specs.Numbering.{across, all_blocks, block_at, down, number_at, number_in, number_of, IsBlock}
use Rattle.blocks.specs.declared.block.Block.{Block}
use Rattle.blocks.proofs.Counts.{nth_map, some_cases}
use Rattle.blocks.proofs.Numbers.{numbered}
use Rattle.prefixes.specs.Coordinates.{coordinates_of}
use Rattle.prefixes.specs.Laws.{HasCoordinates}
use Rattle.prefixes.specs.Searching.{answer}
use Rattle.prefixes.specs.declared.coordinates.BlockCoordinates.{BlockCoordinates}

pub naming_cases : (n : Naming) → (n ≡ by.Line) ⊎ (n ≡ by.Tile)
naming_cases by.Line = inl refl
naming_cases by.Tile = inr refl

pub never_some : {X P : Type 0} (o : Option X) (x : X) → o ≡ None → o ≡ Some x → P
never_some o x e f = let z : ◌≡◌ {A = ℕ} 0 1 = cc in let none : ⊥ = omega arith in elim none [ ]

-- the block behind coordinates
pub record Named (m : Meaning) (position : Vec2 ℤ) (n : ℕ) (c : BlockCoordinates) : Type 0 where
  pub block : Block
  pub is_block : IsBlock m block
  pub is : number_of m block ≡ n
  pub has : coordinates_of m position block ≡ c

pub named : (m : Meaning) (position : Vec2 ℤ) (n : ℕ) (c : BlockCoordinates) → HasCoordinates m position n c → Named m position n c
named m position n c e =
    let f = sym (nth_map (coordinates_of m position) (all_blocks m) n) ∙ e in
    elim (some_cases (slice_get (all_blocks m) n)) [
      | inl none ↦ never_some (optional (coordinates_of m position) (slice_get (all_blocks m) n)) c (ap (optional (coordinates_of m position)) none) f
      | inr some ↦
          let g : Some (coordinates_of m position some.0) ≡ Some c = sym (ap (optional (coordinates_of m position)) some.1) ∙ f in
          let k = (numbered m).listed n some.0 some.1 in
          record { block = some.0; is_block = k.0; is = k.1; has = cc }
    ]

pub has_coordinates : (m : Meaning) (position : Vec2 ℤ) (b : Block) → IsBlock m b → HasCoordinates m position (number_of m b) (coordinates_of m position b)
has_coordinates m position b k =
    nth_map (coordinates_of m position) (all_blocks m) (number_of m b) ∙ ap (optional (coordinates_of m position)) ((numbered m).each b k)

-- the number of a block by its place
pub number_there : (m : Meaning) (b : Block) → IsBlock m b → number_at m b.position b.row b.column ≡ Ok (number_of m b)
number_there m b k =
    ap (number_in m b.position b.row b.column) k.there
    ∙ cond-true _ _ _ (and_from _ _ (lt-ltb _ _ k.row_in) (lt-ltb _ _ k.column_in))

-- the block of a number that was found by its place
pub record Stands (m : Meaning) (p r c n : ℕ) : Type 0 where
  pub level : Level
  pub is_block : IsBlock m (block_at p level r c)
  pub is : number_of m (block_at p level r c) ≡ n

pub stands : (m : Meaning) (p r c n : ℕ) → answer (number_at m p r c) ≡ Some n → Stands m p r c n
stands m p r c n e = elim (some_cases (slice_get m.levels p)) [
  | inl none ↦ never_some (answer (number_at m p r c)) n (ap (λ o. answer (number_in m p r c o)) none) e
  | inr some ↦
      let l = some.0 in
      let f : answer (number_at m p r c) ≡ answer (number_in m p r c (Some l)) = ap (λ o. answer (number_in m p r c o)) some.1 in
      elim (cases_Bool (ltb r (down (block_size m) l) && ltb c (across (block_size m) l))) [
        | inl t ↦
            let g : answer (number_in m p r c (Some l)) ≡ Some (number_of m (block_at p l r c)) = ap answer (cond-true _ _ _ t) in
            let both = and_parts _ _ t in
            record {
              level = l;
              is_block = record { there = some.1; row_in = ltb-true _ _ both.0; column_in = ltb-true _ _ both.1 };
              is = cc;
            }
        | inr t ↦
            let g : answer (number_in m p r c (Some l)) ≡ None = ap answer (cond-false _ _ _ t) in
            never_some (answer (number_at m p r c)) n (f ∙ g) e
      ]
]
