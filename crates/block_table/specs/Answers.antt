-- The texts of answers.
use Rattle.std.specs.Prelude.{ℕ, List, ◌++◌, Some, None, Option, Ok, Err, Result, codes, decimal}
use Rattle.std.specs.Fmt.{◌++?◌, signed_decimal}
use Rattle.numbers.specs.Refusals.{module_number, number_of}
use Rattle.numbers.specs.declared.refusal.Refusal.{Refusal}
use Rattle.blocks.specs.declared.bounds.IntegerBounds.{IntegerBounds}
use Rattle.blocks.specs.declared.tile.TileCoordinates.{TileCoordinates}
use Rattle.blocks.specs.declared.tile.TileIndices.{TileIndices}
use Rattle.block_table.specs.declared.answers.Answer.{Answer}
use Rattle.block_table.specs.declared.answers.Answer.TheVariants as answer

-- two texts with a space or a comma between them
abbrev pub spaced : List ℕ → List ℕ → List ℕ
spaced a b = a ++ (codes " " ++ b)

abbrev pub listed : List ℕ → List ℕ → List ℕ
listed a b = a ++ (codes "," ++ b)

-- the text of an answer, or `no` with number and module of the refusal in its place
abbrev pub told_text : {A : Type 0} → (A → Option (List ℕ)) → Result A Refusal → Option (List ℕ)
told_text text (Ok answer) = text answer
told_text text (Err why) = Some (codes "no " ++ spaced (decimal (number_of why.reason)) (decimal (module_number why.«module»)))

-- corner and size
abbrev pub bounds_text : IntegerBounds → List ℕ
bounds_text b = spaced (signed_decimal b.position.0) (spaced (signed_decimal b.position.1) (spaced (decimal b.size.0) (decimal b.size.1)))

-- tile indices, and the level's pair
abbrev pub coordinates_text : TileCoordinates ℕ → List ℕ
coordinates_text t = spaced (decimal t.tile_index.0) (spaced (decimal t.tile_index.1) (spaced (decimal t.level_index.0) (decimal t.level_index.1)))

-- tile indices, the level's pair, and the size in pixels
abbrev pub tile_text : TileIndices → List ℕ
tile_text t = listed (decimal t.location.tile_index.0) (listed (decimal t.location.tile_index.1) (listed (decimal t.location.level_index.0) (listed (decimal t.location.level_index.1) (listed (decimal t.size.0) (decimal t.size.1)))))

-- the text of an answer; of a prefix and of all blocks in order none is told
abbrev pub answer_text : Answer → Option (List ℕ)
answer_text (answer.Layer line chunks) = Some (line.now ++ (codes ": " ++ decimal chunks))
answer_text (answer.Number n) = Some (decimal n)
answer_text (answer.Bounds b) = Some (bounds_text b.0)
answer_text (answer.Coordinates t) = Some (coordinates_text t.0)
answer_text (answer.Block number bounds) = told_text (λ n. Some (decimal n)) number.0 ++? (Some (codes "\n") ++? told_text (λ b. Some (bounds_text b.0)) bounds.0)
answer_text (answer.Prefix p) = None
answer_text (answer.Blocks b) = None
