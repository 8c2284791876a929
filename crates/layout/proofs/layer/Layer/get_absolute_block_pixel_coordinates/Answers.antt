use Rattle.std.proofs.Common.{◌∙◌}
use Rattle.schemes.specs.Schemes.{any_meaning}
use Rattle.schemes.specs.Chosen.{any_lawful}
use Rattle.layout.proofs.Planes.{tile_pixels}
use Rattle.layout.proofs.layer.Layer.get_absolute_block_pixel_coordinates.Goals as goal

pub returns-clause-block : goal.returns-clause-block
returns-clause-block c =
    let s = c.args.self.now.positioned.scheme in
    λ n b e is. c.level_pixels.ensures ∙ tile_pixels (any_meaning s) (any_lawful s) n b c.args.tile e is
