use Rattle.blocks.proofs.Answering.{is_listed}
use Rattle.blocks.proofs.Covering.{bounds_cut, pixels_once}
use Rattle.blocks.proofs.pixels.bounds_of_block.Goals as goal

pub bounds-requires : goal.bounds-requires
bounds-requires g c =
    (is_listed (g.S.Scheme.meaning c.args.scheme.now) c.args.number c.in_ok-block.block c.in_ok-block.ensures.answer).0

pub returns-in_err-block-clause-cut : goal.returns-in_err-block-clause-cut
returns-in_err-block-clause-cut g c = bounds_cut (g.S.Scheme.meaning c.args.scheme.now) (g.met.S.Scheme.lawful c.args.scheme.now)

pub returns-in_err-block-clause-once : goal.returns-in_err-block-clause-once
returns-in_err-block-clause-once g c = pixels_once (g.S.Scheme.meaning c.args.scheme.now) (g.met.S.Scheme.lawful c.args.scheme.now)

pub returns-clause-cut : goal.returns-clause-cut
returns-clause-cut g c = bounds_cut (g.S.Scheme.meaning c.args.scheme.now) (g.met.S.Scheme.lawful c.args.scheme.now)

pub returns-clause-once : goal.returns-clause-once
returns-clause-once g c = pixels_once (g.S.Scheme.meaning c.args.scheme.now) (g.met.S.Scheme.lawful c.args.scheme.now)
