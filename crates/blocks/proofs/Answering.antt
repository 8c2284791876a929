-- What an answer about a number tells of its block.
use Rattle.std.proofs.Common.{◌≡◌, ℕ, Some, None, Ok, Err, Option, Result, ap, ◌∙◌, inl, inr, arith}
use Rattle.std.specs.List.{slice_get}
use Rattle.std.specs.Result.{result_ok}
use Rattle.numbers.specs.Refusals.{Told, outcome, refused, told}
use Rattle.numbers.specs.declared.refusal.Refusal.{Refusal}
use Rattle.schemes.specs.Meanings.{Meaning}
use Rattle.blocks.specs.Numbering.{all_blocks, number_of, of_block, IsBlock}
use Rattle.blocks.specs.declared.block.Block.{Block}
use Rattle.blocks.proofs.Counts.{some_cases}
use Rattle.blocks.proofs.Numbers.{numbered}

abbrev of : {A : Type 0} → (Block → A) → Option Block → Result A Told
of f o = elim o [ Some b ↦ Ok (f b) | None ↦ Err (refused 23 3 0) ]

-- the block that was answered stands at the number
pub answered : (m : Meaning) (n : ℕ) (b : Block) → Ok b ≡ of_block m n (λ x. x) → slice_get (all_blocks m) n ≡ Some b
answered m n b e = elim (some_cases (slice_get (all_blocks m) n)) [
  | inl none ↦
      let f : of_block m n (λ x. x) ≡ Err (refused 23 3 0) = ap (of (λ x. x)) none in
      let z : ◌≡◌ {A = ℕ} 0 1 = cc in
      let no : ⊥ = omega arith in
      elim no [ ]
  | inr some ↦
      let f : of_block m n (λ x. x) ≡ Ok some.0 = ap (of (λ x. x)) some.1 in
      let same : some.0 ≡ b = cc in
      some.1 ∙ ap Some same
]

pub is_listed : (m : Meaning) (n : ℕ) (b : Block) → Ok b ≡ of_block m n (λ x. x) → IsBlock m b × (number_of m b ≡ n)
is_listed m n b e = (numbered m).listed n b (answered m n b e)

-- where no block was answered there is none, and anything else is refused alike
pub no_block : (m : Meaning) (n : ℕ) (why : Told) → Err why ≡ of_block m n (λ x. x) → slice_get (all_blocks m) n ≡ None
no_block m n why e = elim (some_cases (slice_get (all_blocks m) n)) [
  | inl none ↦ none
  | inr some ↦
      let f : of_block m n (λ x. x) ≡ Ok some.0 = ap (of (λ x. x)) some.1 in
      let z : ◌≡◌ {A = ℕ} 0 1 = cc in
      let no : ⊥ = omega arith in
      elim no [ ]
]

pub refused_by : (m : Meaning) (n : ℕ) (why : Told) → Err why ≡ of_block m n (λ x. x) → why ≡ refused 23 3 0
refused_by m n why e =
    let g : of_block m n (λ x. x) ≡ Err (refused 23 3 0) = ap (of (λ x. x)) (no_block m n why e) in
    cc

-- the same of an answer that was made an `Option`
pub kept : (m : Meaning) (n : ℕ) (r : Result Block Refusal) (b : Block) → Some b ≡ result_ok r → outcome r ≡ of_block m n (λ x. x) → Ok b ≡ of_block m n (λ x. x)
kept m n (Ok a) b s e = let same : b ≡ a = cc in ap Ok same ∙ e
kept m n (Err why) b s e = let z : ◌≡◌ {A = ℕ} 0 1 = cc in let no : ⊥ = omega arith in elim no [ ]

pub dropped : (m : Meaning) (n : ℕ) (r : Result Block Refusal) → None ≡ result_ok r → outcome r ≡ of_block m n (λ x. x) → slice_get (all_blocks m) n ≡ None
dropped m n (Ok a) s e = let z : ◌≡◌ {A = ℕ} 0 1 = cc in let no : ⊥ = omega arith in elim no [ ]
dropped m n (Err why) s e = no_block m n (told why) e
