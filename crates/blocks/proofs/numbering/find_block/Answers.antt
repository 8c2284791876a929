use Rattle.std.proofs.Common.{◌+◌, ◌-◌, ◌/◌, ◌%◌, ◌<◌, ◌≤◌, List, length, drop, Some, None, Ok, Err, Option, Result, sym, ap, ◌∙◌, subst, arith}
use Rattle.std.proofs.lemmas.List.{drop_all}
use Rattle.std.specs.List.{slice_get}
use Rattle.numbers.specs.Refusals.{Told, refused}
use Rattle.schemes.specs.Blocks.{blocks_in}
use Rattle.schemes.specs.Meanings.{Lawful, block_size}
use Rattle.schemes.specs.declared.level.Level.{Level}
use Rattle.schemes.proofs.Counting.{nth_none}
use Rattle.blocks.specs.Numbering.{block_at, blocks_from}
use Rattle.blocks.specs.declared.block.Block.{Block}
use Rattle.blocks.specs.declared.line_order.LineOrder.TheVariants.{Increasing}
use Rattle.blocks.proofs.Cutting.{is_cut, no_cut, cut_blocks, cut_fits}
use Rattle.blocks.proofs.Listing.{hit, miss}
use Rattle.blocks.proofs.Numbers.{numbered}
use Rattle.blocks.proofs.numbering.find_block.Goals as goal
use Rattle.blocks.proofs.numbering.find_block.Goals.{in-Some+else-rest-blocks, in_default}

abbrev answer : Option Block → Result Block Told
answer o = elim o [ Some b ↦ Ok b | None ↦ Err (refused 23 3 0) ]

pub overflow_mul-blocks : goal.overflow_mul-blocks
overflow_mul-blocks g c =
    let m = g.S.Scheme.meaning c.args.scheme.now in
    let ok : Lawful m = g.met.S.Scheme.lawful c.args.scheme.now in
    record { fits = cut_fits m ok c.loop-position.position c.in-Some.cut (is_cut (block_size m) _ _ c.in-Some.ensures) }

pub returns-then-rest-blocks : goal.returns-then-rest-blocks
returns-then-rest-blocks g c =
    let m = g.S.Scheme.meaning c.args.scheme.now in
    let size = block_size m in
    let i = c.loop-position.position in
    let k = c.in-Some.cut in
    let n = c.loop-position.rest in
    let cut = is_cut size (slice_get m.levels i) k c.in-Some.ensures in
    let less : n < blocks_in size k.level = subst (λ x. n < x) (cut_blocks size _ k cut) c.if-rest-blocks.true in
    record {
      answer =
          ap (λ a. Ok (block_at i k.level (n / a) (n % a))) cut.across_is
          ∙ ap answer (sym (hit size m.levels i k.level n cut.there less) ∙ c.loop-position.invariant);
      law = numbered m;
    }

pub loop-position-preserved : goal.loop-position-preserved
loop-position-preserved g c =
    let m = g.S.Scheme.meaning c.args.scheme.now in
    let size = block_size m in
    let i = c.loop-position.position in
    elim c.match-cut_level.branch [
      | in-Some+else-rest-blocks w ↦
          let k = w.in-Some.cut in
          let n = c.loop-position.rest in
          let cut = is_cut size (slice_get m.levels i) k w.in-Some.ensures in
          let is = cut_blocks size _ k cut in
          let more : blocks_in size k.level ≤ n = subst (λ x. x ≤ n) is w.if-rest-blocks.false in
          let next = slice_get (blocks_from Increasing size (i + 1) (drop (i + 1) m.levels)) in
          ap next w.rest-is ∙ ap (λ x. next (n - x)) is
          ∙ sym (miss size m.levels i k.level n cut.there more)
          ∙ c.loop-position.invariant
      | in_default w ↦
          let past = nth_none m.levels i (no_cut size _ w.in_default.ensures) in
          let none : ⊥ = omega (arith, c.level_count-position-end.ensures, c.loop-position-test.true) in
          elim none [ ]
    ]

pub returns : goal.returns
unfolding blocks_from
returns g c =
    let m = g.S.Scheme.meaning c.args.scheme.now in
    let past : length m.levels ≤ c.loop-position.position = omega (arith, c.level_count-position-end.ensures) in
    record {
      answer = ap answer (sym (ap (λ (ks : List Level). slice_get (blocks_from Increasing (block_size m) c.loop-position.position ks) c.loop-position.rest) (drop_all c.loop-position.position m.levels past)) ∙ c.loop-position.invariant);
      law = numbered m;
    }
