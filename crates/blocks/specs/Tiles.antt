-- The pixels of a tile by its indices, in a level or in a window.
use Rattle.std.specs.Prelude.{ℕ, ◌*◌, Bool, cond, ◌&&◌, ℤ, pos, negsuc, ◌+ℤ◌, Some, None, Ok, Err, Option, Result, nat_le, nat_lt}
use Rattle.numbers.specs.Counts.{clipped}
use Rattle.numbers.specs.Pairs.{both}
use Rattle.numbers.specs.Refusals.{Told, refused}
use Rattle.numbers.specs.Wholes.{within}
use Rattle.numbers.specs.declared.vec2.Vec2.{Vec2}
use Rattle.blocks.specs.declared.bounds.IntegerBounds.{IntegerBounds}
use Rattle.blocks.specs.declared.tile.TileCoordinates.{TileCoordinates}

-- the pixels before the tile
abbrev pub tile_corner : Vec2 ℕ → TileCoordinates ℕ → Vec2 ℕ
tile_corner size t = record { 0 = size.0 * t.tile_index.0; 1 = size.1 * t.tile_index.1 }

-- the tile from its corner on, clipped at the far edges
abbrev pub clipped_tile : Vec2 ℕ → Vec2 ℕ → Vec2 ℕ → IntegerBounds
clipped_tile size max corner = record { position = record { 0 = pos corner.0; 1 = pos corner.1 }; size = record { 0 = clipped max.0 size.0 corner.0; 1 = clipped max.1 size.1 corner.1 } }

-- whether both parts are below the others, and whether both are signed 32-bit numbers
abbrev pub both_below : Vec2 ℕ → Vec2 ℕ → Bool
both_below a b = nat_lt a.0 b.0 && nat_lt a.1 b.1

abbrev pub both_small : Vec2 ℕ → Bool
both_small a = nat_le a.0 2147483647 && nat_le a.1 2147483647

-- inside an image of this size: 15 where the tile begins past an edge, then 16 where its position leaves 32 signed bits
abbrev pub data_indices : Vec2 ℕ → Vec2 ℕ → TileCoordinates ℕ → Result IntegerBounds Told
data_indices size max t =
    cond (both_below (tile_corner size t) max)
    (cond (both_small (tile_corner size t)) (Ok (clipped_tile size max (tile_corner size t))) (Err (refused 16 5 0)))
    (Err (refused 15 5 0))

-- the position moved by an origin, where both parts stay signed 32-bit numbers
abbrev pub position_from : Vec2 ℤ → Vec2 ℤ → Option (Vec2 ℤ)
position_from origin p = both (within (negsuc 2147483647) (pos 2147483647) (p.0 +ℤ origin.0)) (within (negsuc 2147483647) (pos 2147483647) (p.1 +ℤ origin.1))

-- 16 where the moved position leaves 32 signed bits
abbrev pub with_origin : Vec2 ℤ → IntegerBounds → Result IntegerBounds Told
with_origin origin k = elim (position_from origin k.position) [ Some p ↦ Ok (record { position = p; size = k.size }) | None ↦ Err (refused 16 5 0) ]

-- in the plane of a window that lies at some position
abbrev pub absolute_indices : Vec2 ℕ → IntegerBounds → TileCoordinates ℕ → Result IntegerBounds Told
absolute_indices size window t = elim (data_indices size window.size t) [ Ok k ↦ with_origin window.position k | Err why ↦ Err why ]
