-- Every block of a layer is known: by its number, by its pixels, and by its coordinates.
use Rattle.std.specs.Prelude.{◌≡◌, ℕ, true, ℤ, Some, Ok, Err}
use Rattle.std.specs.List.{slice_get}
use Rattle.numbers.specs.Refusals.{refused}
use Rattle.numbers.specs.declared.vec2.Vec2.{Vec2}
use Rattle.schemes.specs.Meanings.{Meaning}
use Rattle.schemes.specs.Windows.{Placed}
use Rattle.blocks.specs.Numbering.{Numbered}
use Rattle.blocks.specs.Pixels.{BoundsCut, PixelsOnce}
use Rattle.prefixes.specs.Coordinates.{all_coordinates, fits_fields}
use Rattle.prefixes.specs.Lookup.{looked_up}
use Rattle.prefixes.specs.declared.coordinates.BlockCoordinates.{BlockCoordinates}

-- the block with the number has the coordinates
abbrev pub HasCoordinates : Meaning → Vec2 ℤ → ℕ → BlockCoordinates → Type 0
HasCoordinates m position number c = slice_get (all_coordinates m position) number ≡ Some c

pub record BlocksKnown (m : Meaning) (position : Vec2 ℤ) : Type 0 where
  -- the list of blocks has those of the layer, as many as the chunk count, each at its number
  pub numbered : Numbered m
  -- the bounds of a block are cut from its level's corner and clipped at the far edges
  pub bounded : BoundsCut m
  -- for each pixel of each level, the number of blocks over it is one
  pub covered : PixelsOnce m
  -- at a position in range the fields of a prefix hold the coordinates of every block
  pub told : Placed position m → (number : ℕ) (c : BlockCoordinates) → HasCoordinates m position number c → fits_fields c ≡ true
  -- at most one block has given coordinates
  pub once : (n k : ℕ) (c : BlockCoordinates) → HasCoordinates m position n c → HasCoordinates m position k c → n ≡ k
  -- lookup answers the block that has them, no other, and refuses exactly where none has
  pub found : (number : ℕ) (c : BlockCoordinates) → HasCoordinates m position number c → looked_up m position c ≡ Ok number
  pub only : (number : ℕ) (c : BlockCoordinates) → looked_up m position c ≡ Ok number → HasCoordinates m position number c
  pub none : (c : BlockCoordinates) → ((number : ℕ) → HasCoordinates m position number c → ⊥) → looked_up m position c ≡ Err (refused 21 5 0)
