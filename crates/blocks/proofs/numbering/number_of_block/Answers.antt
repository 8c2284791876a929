use Rattle.std.proofs.Common.{sym, ◌∙◌, arith}
use Rattle.blocks.proofs.Numbers.{number_fits}
use Rattle.blocks.proofs.numbering.number_of_block.Goals as goal

pub overflow_mul-result : goal.overflow_mul-result
overflow_mul-result g c =
    omega (arith, number_fits (g.S.Scheme.meaning c.args.scheme.now) (g.met.S.Scheme.lawful c.args.scheme.now) c.args.position c.args.row c.args.column _ c.in_ok-cut.cut _ (sym c.in_ok-cut.ensures.ok_part ∙ c.cut_level.ensures) c.count_blocks-before.ensures c.block_size.ensures c.if-row-cut.true c.if-column-cut.true)

pub overflow_add-result : goal.overflow_add-result
overflow_add-result g c =
    omega (arith, number_fits (g.S.Scheme.meaning c.args.scheme.now) (g.met.S.Scheme.lawful c.args.scheme.now) c.args.position c.args.row c.args.column _ c.in_ok-cut.cut _ (sym c.in_ok-cut.ensures.ok_part ∙ c.cut_level.ensures) c.count_blocks-before.ensures c.block_size.ensures c.if-row-cut.true c.if-column-cut.true)

pub overflow_add-result-then-column-cut : goal.overflow_add-result-then-column-cut
overflow_add-result-then-column-cut g c =
    omega (arith, number_fits (g.S.Scheme.meaning c.args.scheme.now) (g.met.S.Scheme.lawful c.args.scheme.now) c.args.position c.args.row c.args.column _ c.in_ok-cut.cut _ (sym c.in_ok-cut.ensures.ok_part ∙ c.cut_level.ensures) c.count_blocks-before.ensures c.block_size.ensures c.if-row-cut.true c.if-column-cut.true)
