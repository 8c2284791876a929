use Rattle.std.proofs.Common.{◌≡◌, arith, rules}
use Rattle.numbers.specs.Counts.{levels_of}
use Rattle.schemes.specs.Halves.{side_levels}
use Rattle.schemes.proofs.side.Side.level_count.Goals as goal

pub returns-clause-few : goal.returns-clause-few
returns-clause-few c =
    let is : c.unwrap.result ≡ levels_of c.args.round c.args.self.pixels = search rules in
    omega (arith, side_levels c.args.round c.args.self.pixels (omega arith))
