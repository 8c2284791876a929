use Rattle.std.proofs.Common.{◌≡◌, ℕ, Some, None, sym, ap, ◌∙◌, arith}
use Rattle.std.specs.List.{slice_get}
use Rattle.schemes.specs.Meanings.{block_size}
use Rattle.blocks.proofs.Answering.{dropped, is_listed, kept}
use Rattle.blocks.proofs.Cutting.{no_cut}
use Rattle.blocks.proofs.Ordering.{comes, comes_none, entry_from, found, orders_all}
use Rattle.blocks.proofs.Numbers.{turn}
use Rattle.blocks.proofs.order.ordered_block.Goals as goal

pub returns-in_err-risen : goal.returns-in_err-risen
returns-in_err-risen g c =
    let m = g.S.Scheme.meaning c.args.scheme.now in
    let o = c.args.line_order in
    record {
      answer = c.from_residual.ensures ∙ sym (comes_none o m c.args.index (dropped m c.args.index c.find_block.result c.in_err-risen.ensures.value c.find_block.ensures.answer));
      all = orders_all o m;
    }

-- the level of a block is there
pub returns-in_err-cut : goal.returns-in_err-cut
returns-in_err-cut g c =
    let m = g.S.Scheme.meaning c.args.scheme.now in
    let b = c.in_ok-risen.risen in
    let there = (is_listed m c.args.index b (kept m c.args.index c.find_block.result b c.in_ok-risen.ensures.value c.find_block.ensures.answer)).0.there in
    let absent : None ≡ slice_get m.levels b.position = no_cut (block_size m) _ c.in_err-cut.ensures in
    let z : ◌≡◌ {A = ℕ} 0 1 = cc in
    let none : ⊥ = omega arith in
    elim none [ ]

pub turned_row-row-requires : goal.turned_row-row-requires
turned_row-row-requires g c =
    let m = g.S.Scheme.meaning c.args.scheme.now in
    let b = c.in_ok-risen.risen in
    (found m c.args.index b c.in_ok-cut.cut (kept m c.args.index c.find_block.result b c.in_ok-risen.ensures.value c.find_block.ensures.answer) c.in_ok-cut.ensures).row_in

pub moved-number-requires : goal.moved-number-requires
moved-number-requires g c =
    let s = c.args.scheme.now in
    let m = g.S.Scheme.meaning s in
    let b = c.in_ok-risen.risen in
    let at = comes c.args.line_order m (g.met.S.Scheme.lawful s) c.args.index b c.in_ok-cut.cut c.turned_row-row.result (kept m c.args.index c.find_block.result b c.in_ok-risen.ensures.value c.find_block.ensures.answer) c.in_ok-cut.ensures c.turned_row-row.ensures in
    record { back = at.back; rows = at.small; fits = at.fits }

pub bounds-requires : goal.bounds-requires
bounds-requires g c =
    let s = c.args.scheme.now in
    let m = g.S.Scheme.meaning s in
    let b = c.in_ok-risen.risen in
    (comes c.args.line_order m (g.met.S.Scheme.lawful s) c.args.index b c.in_ok-cut.cut c.turned_row-row.result (kept m c.args.index c.find_block.result b c.in_ok-risen.ensures.value c.find_block.ensures.answer) c.in_ok-cut.ensures c.turned_row-row.ensures).is_block

pub returns : goal.returns
returns g c =
    let s = c.args.scheme.now in
    let m = g.S.Scheme.meaning s in
    let o = c.args.line_order in
    let b = c.in_ok-risen.risen in
    let at = comes o m (g.met.S.Scheme.lawful s) c.args.index b c.in_ok-cut.cut c.turned_row-row.result (kept m c.args.index c.find_block.result b c.in_ok-risen.ensures.value c.find_block.ensures.answer) c.in_ok-cut.ensures c.turned_row-row.ensures in
    record {
      answer =
          ap Some (entry_from m c.moved-number.result c.tile_coordinates-location.result c.bounds.result _ (turn o m b) (c.moved-number.ensures ∙ at.number) c.tile_coordinates-location.ensures c.bounds.ensures at.block)
          ∙ sym at.is;
      all = orders_all o m;
    }
