use Rattle.std.proofs.Common.{sym, ap, ◌∙◌}
use Rattle.numbers.specs.Counts.{levels_of}
use Rattle.schemes.specs.Lists.{mip_length}
use Rattle.schemes.proofs.mip.MipLevelsLevels.count.Goals as goal

pub returns : goal.returns
returns c =
    let s = c.args.self.now in
    c.level_count.ensures.count ∙ ap (levels_of s.rounding_mode) c.longer-longer.ensures ∙ sym (mip_length s.rounding_mode s.size.0.pixels s.size.1.pixels)
