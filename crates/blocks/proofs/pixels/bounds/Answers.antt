use Rattle.std.proofs.Common.{◌≡◌, ℕ, Ok, Err, Result, refl, ap, ◌∙◌, arith}
use Rattle.std.specs.Result.{IsOk}
use Rattle.numbers.specs.Refusals.{outcome}
use Rattle.numbers.specs.declared.refusal.Refusal.{Refusal}
use Rattle.numbers.specs.declared.vec2.Vec2.{Vec2}
use Rattle.schemes.specs.Meanings.{block_size}
use Rattle.blocks.specs.Tiles.{data_indices}
use Rattle.blocks.specs.declared.bounds.IntegerBounds.{IntegerBounds}
use Rattle.blocks.proofs.Clipping.{level_size, tile_bounds}
use Rattle.blocks.proofs.pixels.bounds.Goals as goal

answered : (r : Result IntegerBounds Refusal) (k : IntegerBounds) → outcome r ≡ Ok k → IsOk r
answered (Ok b) k e = refl
answered (Err why) k e = let z : ◌≡◌ {A = ℕ} 0 1 = cc in let none : ⊥ = omega arith in elim none [ ]

pub unwrap-requires : goal.unwrap-requires
unwrap-requires g c =
    let m = g.S.Scheme.meaning c.args.scheme.now in
    let b = c.args.block in
    answered _ _
    (c.to_data_indices-bounds.ensures
    ∙ ap (λ (v : Vec2 ℕ). data_indices v (level_size b.level) c.tile_coordinates.result) (c.pixels_of-size.ensures ∙ c.block_size.ensures)
    ∙ ap (data_indices (block_size m) (level_size b.level)) c.tile_coordinates.ensures
    ∙ tile_bounds m (g.met.S.Scheme.lawful c.args.scheme.now) b c.requires)
