use Rattle.std.proofs.Common.{◌∙◌, arith, rules}
use Rattle.schemes.specs.Blocks.{blocks_in}
use Rattle.schemes.specs.Making.{pixels_of_both}
use Rattle.schemes.proofs.Chains.{added, added_all}
use Rattle.schemes.proofs.Counting.{so_far_fits}
use Rattle.schemes.proofs.chunk_count.count_blocks.Goals as goal

pub sum-requires-clause-fits : goal.sum-requires-clause-fits
sum-requires-clause-fits g c s t e =
    let m = g.S.Scheme.meaning c.args.scheme.now in
    let block = pixels_of_both c.args.block in
    let p = c.map.ensures.runs s t e in
    let q = c.map_while.ensures.runs p.0 p.0.seen p.1 in
    let sum = added s p.0 q.0 (blocks_in block) m.levels c.args.levels q.1 q.2 p.2 (λ i r f' k. search rules) (λ x y f' k. search rules) in
    omega (arith, sum, so_far_fits m (g.met.S.Scheme.lawful c.args.scheme.now) block (omega arith) (omega arith) p.0.len)

pub returns : goal.returns
returns g c =
    let m = g.S.Scheme.meaning c.args.scheme.now in
    let s = c.sum.ensures.runs tt in
    let p = c.map.ensures.runs s.0 s.0.seen s.1 in
    let q = c.map_while.ensures.runs p.0 p.0.seen p.1 in
    s.3 ∙ added_all s.0 p.0 q.0 (blocks_in (pixels_of_both c.args.block)) m.levels c.args.levels q.1 q.2 p.2 (λ i r f' k. search rules) (λ x y f' k. search rules) s.2
