-- Bytes that stand for sample types and level modes.
use Rattle.std.specs.Prelude.{ℕ, cond, Some, None, Option, ◌==◌}
use Rattle.layout.specs.declared.attribute.LevelMode.{LevelMode}
use Rattle.layout.specs.declared.attribute.LevelMode.TheVariants.{Singular, MipMap, RipMap}
use Rattle.layout.specs.declared.attribute.SampleType.{SampleType}
use Rattle.layout.specs.declared.attribute.SampleType.TheVariants.{U32, F16, F32}

-- what a byte stands for where it names a case; any other byte can't be read
abbrev pub sample_type : ℕ → Option SampleType
sample_type b = cond (b == 0) (Some U32) (cond (b == 1) (Some F16) (cond (b == 2) (Some F32) None))

abbrev pub level_mode : ℕ → Option LevelMode
level_mode b = cond (b == 0) (Some Singular) (cond (b == 1) (Some MipMap) (cond (b == 2) (Some RipMap) None))
