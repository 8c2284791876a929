-- Tile coordinates behind the first n bytes stand n places further on in the whole.
use Rattle.std.specs.Prelude.{ℕ, ◌+◌, List}
use Rattle.std.proofs.Common.{add_assoc}
use Rattle.fields.specs.Behind.{ReadsBehind, pair_behind}
use Rattle.blocks.specs.Stored.{tile_at}

pub tile_behind : {T : Type 0} (width : ℕ) (part : List ℕ → ℕ → T) → ReadsBehind part → ReadsBehind (tile_at width part)
tile_behind width part f n bytes at =
    rw (pair_behind width part f n bytes at, pair_behind width part f n bytes (at + (width + width)), add_assoc n at (width + width))
