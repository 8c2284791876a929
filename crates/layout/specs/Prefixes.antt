-- Prefixes of a layer's blocks. The layer's position is in range, so that the fields hold all coordinates.
use Rattle.std.specs.Prelude.{ℕ, cond, List, length, Some, None, Err, Option, Result, nat_le}
use Rattle.std.specs.List.{slice_get}
use Rattle.numbers.specs.Refusals.{Told, refused}
use Rattle.blocks.specs.Numbering.{all_blocks}
use Rattle.blocks.specs.declared.block.Block.{Block}
use Rattle.prefixes.specs.Bytes.{buffer_with, prefix_of, prefix_size, written}
use Rattle.layout.specs.Acceptance.{Laid}

-- 20 where the buffer is too short, then 23 where there is no such block, then 28 where the data length is too large
abbrev pub written_in : Laid → ℕ → List ℕ → Option Block → Result ℕ Told
written_in l data_length buffer None = cond (nat_le (prefix_size l.scheme.naming) (length buffer)) (Err (refused 23 3 0)) (Err (refused 20 5 0))
written_in l data_length buffer (Some b) = written (prefix_of l.scheme l.position b data_length) buffer

abbrev pub layer_written : Laid → ℕ → ℕ → List ℕ → Result ℕ Told
layer_written l number data_length buffer = written_in l data_length buffer (slice_get (all_blocks l.scheme) number)

-- what the buffer then holds
abbrev pub buffer_in : Laid → ℕ → List ℕ → Option Block → List ℕ
buffer_in l data_length buffer None = buffer
buffer_in l data_length buffer (Some b) = buffer_with (prefix_of l.scheme l.position b data_length) buffer

abbrev pub layer_buffer : Laid → ℕ → ℕ → List ℕ → List ℕ
layer_buffer l number data_length buffer = buffer_in l data_length buffer (slice_get (all_blocks l.scheme) number)
