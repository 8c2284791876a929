-- The limits of a window: where a layer and its levels may lie.
use Rattle.std.specs.Prelude.{◌≡◌, ℕ, Bool, true, ◌&&◌, ℤ, pos, negsuc, ◌+ℤ◌, int_lt}
use Rattle.numbers.specs.declared.vec2.Vec2.{Vec2}
use Rattle.schemes.specs.Meanings.{Meaning, EachLevel}

-- on one axis: position above −1,073,741,823, position plus size below 1,073,741,823
abbrev pub axis_fits : ℤ → ℕ → Bool
axis_fits position size = int_lt (negsuc 1073741822) position && int_lt (position +ℤ pos size) (pos 1073741823)

abbrev pub window_fits : Vec2 ℤ → Vec2 ℕ → Bool
window_fits position size = axis_fits position.0 size.0 && axis_fits position.1 size.1

-- the window of each level, at this position, stays inside the limits
abbrev pub Placed : Vec2 ℤ → Meaning → Type 0
Placed position m = EachLevel (λ l. window_fits position (record { 0 = l.width; 1 = l.height }) ≡ true) m.levels
