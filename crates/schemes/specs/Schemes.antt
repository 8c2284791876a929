-- The meanings of the four schemes.
use Rattle.std.specs.Prelude.{ℕ, List}
use Rattle.schemes.specs.Levels.{one_level, mip_levels, rip_levels}
use Rattle.schemes.specs.Meanings.{Meaning}
use Rattle.schemes.specs.declared.any_scheme.AnyScheme.{AnyScheme}
use Rattle.schemes.specs.declared.any_scheme.AnyScheme.TheVariants as any
use Rattle.schemes.specs.declared.level.Level.{Level}
use Rattle.schemes.specs.declared.level.Naming.TheVariants.{Line, Tile}
use Rattle.schemes.specs.declared.mip.MipLevels.{MipLevels}
use Rattle.schemes.specs.declared.rip.RipLevels.{RipLevels}
use Rattle.schemes.specs.declared.scan_lines.ScanLines.{ScanLines}
use Rattle.schemes.specs.declared.single.OneLevel.{OneLevel}
use Rattle.schemes.specs.declared.tiles.Tiles.{Tiles}

-- a w by h layer in blocks of whole lines
abbrev pub in_lines : ℕ → ℕ → ℕ → Meaning
in_lines w h lines = record { block_width = w; block_height = lines; naming = Line; levels = one_level w h }

-- these levels in tiles of this size
abbrev pub in_tiles : ℕ → ℕ → List Level → Meaning
in_tiles tile_width tile_height levels = record { block_width = tile_width; block_height = tile_height; naming = Tile; levels = levels }

abbrev pub scan_lines_meaning : ScanLines → Meaning
scan_lines_meaning s = in_lines s.size.0.pixels s.size.1.pixels s.lines.pixels

abbrev pub single_meaning : Tiles OneLevel → Meaning
single_meaning s = in_tiles s.tile_size.0.pixels s.tile_size.1.pixels (one_level s.levels.size.0.pixels s.levels.size.1.pixels)

abbrev pub mip_meaning : Tiles MipLevels → Meaning
mip_meaning s = in_tiles s.tile_size.0.pixels s.tile_size.1.pixels (mip_levels s.levels.rounding_mode s.levels.size.0.pixels s.levels.size.1.pixels)

abbrev pub rip_meaning : Tiles RipLevels → Meaning
rip_meaning s = in_tiles s.tile_size.0.pixels s.tile_size.1.pixels (rip_levels s.levels.rounding_mode s.levels.size.0.pixels s.levels.size.1.pixels)

abbrev pub any_meaning : AnyScheme → Meaning
any_meaning (any.ScanLines s) = scan_lines_meaning s
any_meaning (any.Single s) = single_meaning s
any_meaning (any.Mip s) = mip_meaning s
any_meaning (any.Rip s) = rip_meaning s
