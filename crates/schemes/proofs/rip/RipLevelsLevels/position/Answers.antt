use Rattle.std.proofs.Common.{◌≡◌, ◌+◌, ◌*◌, ◌/◌, ◌%◌, ◌<◌, Some, refl, ap, ◌∙◌, mod-lt, arith}
use Rattle.numbers.specs.Counts.{levels_of}
use Rattle.schemes.specs.Levels.{rip_levels, level_at}
use Rattle.schemes.specs.declared.level.Level.{Level}
use Rattle.schemes.specs.Lists.{rip_at, rip_is, rip_levels_lawful}
use Rattle.schemes.proofs.Placed.{placed, unplaced}
use Rattle.schemes.proofs.rip.RipLevelsLevels.position.Goals as goal
use Rattle.schemes.proofs.rip.RipLevelsLevels.position.Goals.{else-pair-across-via-then-pair-across+else-pair-down, else-pair-across-via-else-pair-across}

pub returns-then-pair-down : goal.returns-then-pair-down
returns-then-pair-down c =
    let s = c.args.self.now in
    let m = s.rounding_mode in
    let w = s.size.0.pixels in
    let h = s.size.1.pixels in
    let p = c.args.pair in
    let n : c.counts-across.result.0 ≡ levels_of m w = c.counts-across.ensures.across in
    let k : c.counts-across.result.1 ≡ levels_of m h = c.counts-across.ensures.down in
    let ok = rip_levels_lawful m w h s.size.0.ranged s.size.1.ranged in
    ap (λ x. Some (p.1 * x + p.0)) n
    ∙ placed (rip_levels m w h) (p.1 * levels_of m w + p.0) (level_at m w h p.0 p.1) p
    ok.distinct (rip_at m w h p.0 p.1 (omega (arith, c.if-pair-across.true)) (omega (arith, c.if-pair-down.true))) refl refl

pub returns-else-pair-across : goal.returns-else-pair-across
returns-else-pair-across c =
    let s = c.args.self.now in
    let m = s.rounding_mode in
    let w = s.size.0.pixels in
    let h = s.size.1.pixels in
    let p = c.args.pair in
    let n : c.counts-across.result.0 ≡ levels_of m w = c.counts-across.ensures.across in
    let k : c.counts-across.result.1 ≡ levels_of m h = c.counts-across.ensures.down in
    unplaced (rip_levels m w h) p
    (λ i l e a b.
    let is = rip_is m w h i l e in
    let x : i % levels_of m w ≡ p.0 = ap (λ (v : Level). v.pair.0) is.1 ∙ a in
    let y : i / levels_of m w ≡ p.1 = ap (λ (v : Level). v.pair.1) is.1 ∙ b in
    let in_row : i % levels_of m w < levels_of m w = mod-lt i (omega arith) in
    let in_list : i / levels_of m w < levels_of m h = is.0 in
    elim c.else-pair-across.branch [
      | else-pair-across-via-then-pair-across+else-pair-down v ↦ omega (arith, v.if-pair-down.false)
      | else-pair-across-via-else-pair-across v ↦ omega (arith, v.if-pair-across.false)
    ])
