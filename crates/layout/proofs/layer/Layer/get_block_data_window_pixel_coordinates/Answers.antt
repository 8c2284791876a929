use Rattle.std.proofs.Common.{ℤ, Some, None, Ok, Err, Option, Result, ap, ◌∙◌}
use Rattle.numbers.specs.Refusals.{Told, refused}
use Rattle.numbers.specs.declared.vec2.Vec2.{Vec2}
use Rattle.schemes.specs.Schemes.{any_meaning}
use Rattle.blocks.specs.declared.bounds.IntegerBounds.{IntegerBounds}
use Rattle.layout.specs.Pixels.{moved}
use Rattle.layout.proofs.Planes.{in_plane}
use Rattle.layout.proofs.layer.Layer.get_block_data_window_pixel_coordinates.Goals as goal

abbrev in_the_plane : Vec2 ℤ → Result IntegerBounds Told → Result IntegerBounds Told
in_the_plane origin r = elim r [ Ok k ↦ Ok (moved origin k) | Err why ↦ Err why ]

abbrev at : IntegerBounds → Option (Vec2 ℤ) → Result IntegerBounds Told
at k o = elim o [ Some p ↦ Ok (record { position = p; size = k.size }) | None ↦ Err (refused 16 5 0) ]

pub returns : goal.returns
returns c =
    let l = c.args.self.now.positioned in
    let k = c.in_ok-data.data in
    c.with_origin.ensures
    ∙ ap (at k) (in_plane (any_meaning l.scheme) l.position c.args.self.now.placed c.args.tile k c.in_ok-data.ensures)
    ∙ ap (in_the_plane l.position) c.in_ok-data.ensures
