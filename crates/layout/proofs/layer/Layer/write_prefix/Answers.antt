use Rattle.std.proofs.Common.{◌∙◌}
use Rattle.schemes.specs.Chosen.{any_lawful}
use Rattle.layout.specs.Layers.{laid}
use Rattle.layout.proofs.Prefixed.{buffer_as, written_as}
use Rattle.layout.proofs.layer.Layer.write_prefix.Goals as goal

pub returns-clause-answer : goal.returns-clause-answer
returns-clause-answer c =
    let l = c.args.self.now in
    c.write_prefix.ensures.answer ∙ written_as (laid l) (any_lawful l.positioned.scheme) l.placed c.args.number c.args.data_length c.args.buffer.now

pub returns-clause-buffer : goal.returns-clause-buffer
returns-clause-buffer c =
    let l = c.args.self.now in
    c.write_prefix.ensures.buffer ∙ buffer_as (laid l) (any_lawful l.positioned.scheme) l.placed c.args.number c.args.data_length c.args.buffer.now
