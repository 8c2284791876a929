-- Each of the four schemes keeps the rules.
use Rattle.std.specs.Prelude.{ℕ}
use Rattle.std.proofs.Common.{rules}
use Rattle.numbers.specs.declared.rounding.RoundingMode.{RoundingMode}
use Rattle.schemes.specs.Levels.{mip_levels, rip_levels}
use Rattle.schemes.specs.Lists.{mip_levels_lawful, one_level_lawful, rip_levels_lawful}
use Rattle.schemes.specs.Meanings.{Lawful}
use Rattle.schemes.specs.Schemes.{any_meaning, in_tiles, scan_lines_meaning, single_meaning}
use Rattle.schemes.specs.Sides.{IsSide}
use Rattle.schemes.specs.Tiled.{tiles_lawful}
use Rattle.schemes.specs.declared.any_scheme.AnyScheme.{AnyScheme}
use Rattle.schemes.specs.declared.any_scheme.AnyScheme.TheVariants as any
use Rattle.schemes.specs.declared.scan_lines.ScanLines.{ScanLines}
use Rattle.schemes.specs.declared.single.OneLevel.{OneLevel}
use Rattle.schemes.specs.declared.tiles.Tiles.{Tiles}

pub scan_lines_lawful : (s : ScanLines) → Lawful (scan_lines_meaning s)
scan_lines_lawful s = search rules

pub single_lawful : (s : Tiles OneLevel) → Lawful (single_meaning s)
single_lawful s = tiles_lawful _ _ _ s.tile_size.0.ranged s.tile_size.1.ranged (one_level_lawful _ _ s.levels.size.0.ranged s.levels.size.1.ranged)

pub mip_lawful : (m : RoundingMode) (w h : ℕ) (tw th : ℕ) → IsSide w → IsSide h → IsSide tw → IsSide th → Lawful (in_tiles tw th (mip_levels m w h))
mip_lawful m w h tw th sw sh st su = tiles_lawful tw th _ st su (mip_levels_lawful m w h sw sh)

pub rip_lawful : (m : RoundingMode) (w h : ℕ) (tw th : ℕ) → IsSide w → IsSide h → IsSide tw → IsSide th → Lawful (in_tiles tw th (rip_levels m w h))
rip_lawful m w h tw th sw sh st su = tiles_lawful tw th _ st su (rip_levels_lawful m w h sw sh)

pub any_lawful : (s : AnyScheme) → Lawful (any_meaning s)
any_lawful (any.ScanLines s) = scan_lines_lawful s
any_lawful (any.Single s) = single_lawful s
any_lawful (any.Mip s) = mip_lawful _ _ _ _ _ s.levels.size.0.ranged s.levels.size.1.ranged s.tile_size.0.ranged s.tile_size.1.ranged
any_lawful (any.Rip s) = rip_lawful _ _ _ _ _ s.levels.size.0.ranged s.levels.size.1.ranged s.tile_size.0.ranged s.tile_size.1.ranged
