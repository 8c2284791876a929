use Rattle.std.proofs.Common.{◌≡◌, sym, refl, ap, ◌∙◌, arith}
use Rattle.schemes.specs.Levels.{mip_levels, level_at}
use Rattle.schemes.specs.declared.level.Level.{Level}
use Rattle.schemes.specs.Lists.{mip_length, mip_at, mip_is, mip_levels_lawful}
use Rattle.schemes.proofs.Placed.{placed, unplaced}
use Rattle.schemes.proofs.mip.MipLevelsLevels.position.Goals as goal
use Rattle.schemes.proofs.mip.MipLevelsLevels.position.Goals.{else-pair-via-then-pair+else-pair-count, else-pair-via-else-pair}

pub returns-then-pair-count : goal.returns-then-pair-count
returns-then-pair-count c =
    let s = c.args.self.now in
    let m = s.rounding_mode in
    let w = s.size.0.pixels in
    let h = s.size.1.pixels in
    let p = c.args.pair in
    let len = mip_length m w h in
    let ok = mip_levels_lawful m w h s.size.0.ranged s.size.1.ranged in
    placed (mip_levels m w h) p.0 (level_at m w h p.0 p.0) p
    ok.distinct (mip_at m w h p.0 (omega (arith, c.count.ensures, c.if-pair-count.true))) refl c.if-pair.true

pub returns-else-pair : goal.returns-else-pair
returns-else-pair c =
    let s = c.args.self.now in
    let m = s.rounding_mode in
    let w = s.size.0.pixels in
    let h = s.size.1.pixels in
    let p = c.args.pair in
    let len = mip_length m w h in
    unplaced (mip_levels m w h) p
    (λ i l e a b.
    let k = mip_is m w h i l e in
    let x : i ≡ p.0 = ap (λ (v : Level). v.pair.0) k.1 ∙ a in
    let y : i ≡ p.1 = ap (λ (v : Level). v.pair.1) k.1 ∙ b in
    elim c.else-pair.branch [
      | else-pair-via-then-pair+else-pair-count v ↦ omega (arith, v.count.ensures, v.if-pair-count.false, k.0)
      | else-pair-via-else-pair v ↦ v.if-pair.false (sym x ∙ y)
    ])
