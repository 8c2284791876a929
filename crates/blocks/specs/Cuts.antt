-- A level with its columns and rows of blocks.
use Rattle.std.specs.Prelude.{ℕ}
use Rattle.numbers.specs.declared.vec2.Vec2.{Vec2}
use Rattle.schemes.specs.declared.level.Level.{Level}
use Rattle.blocks.specs.Numbering.{across, down}
use Rattle.blocks.specs.declared.cut.Cut.{Cut}

abbrev pub cut_of : Vec2 ℕ → Level → Cut
cut_of size l = record { level = l; across = across size l; down = down size l }
