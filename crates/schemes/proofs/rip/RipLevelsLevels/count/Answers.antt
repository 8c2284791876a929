use Rattle.std.proofs.Common.{◌*◌, sym, ap, ◌∙◌}
use Rattle.numbers.specs.Counts.{levels_of}
use Rattle.schemes.specs.Lists.{rip_length}
use Rattle.schemes.proofs.rip.RipLevelsLevels.count.Goals as goal

pub returns : goal.returns
returns c =
    let s = c.args.self.now in
    ap (λ x. x * c.counts-across.result.0) c.counts-across.ensures.down
    ∙ ap (λ x. levels_of s.rounding_mode s.size.1.pixels * x) c.counts-across.ensures.across
    ∙ sym (rip_length s.rounding_mode s.size.0.pixels s.size.1.pixels)
