-- The bytes that samples and pixels take.
use Rattle.std.specs.Prelude.{ℕ, List, sum_by}
use Rattle.layout.specs.declared.attribute.ChannelDescription.{ChannelDescription}
use Rattle.layout.specs.declared.attribute.SampleType.{SampleType}
use Rattle.layout.specs.declared.attribute.SampleType.TheVariants.{U32, F16, F32}

abbrev pub sample_bytes : SampleType → ℕ
sample_bytes U32 = 4
sample_bytes F16 = 2
sample_bytes F32 = 4

-- the bytes of one pixel, over all channels
abbrev pub pixel_bytes : List ChannelDescription → ℕ
pixel_bytes channels = sum_by (λ c. sample_bytes c.sample_type) channels
