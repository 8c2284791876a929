-- The bytes that a layer takes, and the refusal of a total past 64 bits.
use Rattle.std.specs.Prelude.{◌≡◌, ℕ, ◌+◌, ◌*◌, cond, List, Ok, Err, sum_by, Result, nat_le}
use Rattle.numbers.specs.Refusals.{Told, refused}
use Rattle.numbers.specs.declared.refusal.Refusal.{Refusal}
use Rattle.numbers.specs.declared.vec2.Vec2.{Vec2}
use Rattle.schemes.specs.Blocks.{chunks_in, pixel_count}
use Rattle.schemes.specs.Meanings.{Meaning, block_size}
use Rattle.layout.specs.Acceptance.{Laid}
use Rattle.layout.specs.Channels.{sample_bytes}
use Rattle.layout.specs.Layers.{laid}
use Rattle.layout.specs.declared.attribute.ChannelDescription.{ChannelDescription}
use Rattle.layout.specs.declared.layer.Layer.{Layer}

-- the total, refused where it is above 2^64 − 1
abbrev pub fitting : ℕ → Result ℕ Told
fitting total = cond (nat_le total 18446744073709551615) (Ok total) (Err (refused 19 8 0))

-- all pixels of all levels
abbrev pub total_bytes : Laid → ℕ
total_bytes l = pixel_count l.scheme * l.bytes

-- over the channels: all pixels of all levels, times the bytes of a sample
abbrev pub bytes_by_channel : List ChannelDescription → Meaning → ℕ
bytes_by_channel channels m = sum_by (λ c. pixel_count m * sample_bytes c.sample_type) channels

-- a layer that was laid out takes the bytes of its channels together
abbrev pub TakesItsChannels : List ChannelDescription → Result Layer Refusal → Type 0
TakesItsChannels channels (Ok l) = total_bytes (laid l) ≡ bytes_by_channel channels (laid l).scheme
TakesItsChannels channels (Err r) = Unit {0}

-- a block of this size
abbrev pub block_bytes : Laid → Vec2 ℕ → ℕ
block_bytes l size = (size.0 * size.1) * l.bytes

-- a block that is not clipped
abbrev pub most_block_bytes : Laid → ℕ
most_block_bytes l = block_bytes l (block_size l.scheme)

-- all pixels, and 64 bytes for each chunk
abbrev pub most_file_bytes : Laid → ℕ
most_file_bytes l = chunks_in l.scheme * 64 + total_bytes l
