-- The lists of mip and rip levels: what stands where, that they are lawful, and that they end at one pixel.
use Rattle.std.specs.Prelude.{◌≡◌, ℕ, zero, suc, ◌+◌, ◌-◌, ◌*◌, ◌/◌, ◌%◌, ◌<◌, ◌≤◌, max, ◌⊎◌, map, length, Some, sum_by, refl}
use Rattle.std.proofs.Common.{sym, ◌∙◌, ap, subst, inl, inr, mul-le-mul, mul-le-mul_left, div-add-mod', mod-lt, div-lt_iff_lt-mul, add-mul, one-mul, arith, rules}
use Rattle.std.proofs.Math.Nat.{le-max_left, le-max_right}
use Rattle.std.specs.List.{slice_get, range_with_len}
use Rattle.std.proofs.lemmas.List.FromFn.{length-map-range_with_len}
use Rattle.std.proofs.lemmas.List.Sums.{sum_by-cons}
use Rattle.std.proofs.lemmas.Bool.{cases_lt}
use Rattle.numbers.specs.Logs.{log2}
use Rattle.numbers.specs.Counts.{side_at, levels_of}
use Rattle.numbers.specs.declared.rounding.RoundingMode.{RoundingMode}
use Rattle.numbers.proofs.Powers.{log_covers, log_before}
use Rattle.schemes.specs.Sides.{IsSide}
use Rattle.schemes.specs.Meanings.{EndsAtOnePixel, LawfulLevels, OneByOne, area}
use Rattle.schemes.specs.declared.level.Level.{Level}
use Rattle.schemes.specs.Rows.{grid_at, grid_length, grid_sum, nth_some, row_at}
use Rattle.schemes.specs.Levels.{level_at, mip_levels, one_level, rip_levels}
use Rattle.schemes.specs.Halves.{size_one, size_two, size_side, side_levels, covers_more, sum_halves}

-- one

pub one_level_lawful : (w h : ℕ) → IsSide w → IsSide h → LawfulLevels (one_level w h)
one_level_lawful w h sw sh = search rules

-- mip

pub mip_length : (m : RoundingMode) (w h : ℕ) → length (mip_levels m w h) ≡ levels_of m (max w h)
mip_length m w h = length-map-range_with_len (λ l. level_at m w h l l) 0 (levels_of m (max w h))

pub mip_at : (m : RoundingMode) (w h i : ℕ) → i < levels_of m (max w h) → slice_get (mip_levels m w h) i ≡ Some (level_at m w h i i)
mip_at m w h i l =
    let z : 0 + i ≡ i = omega arith in
    row_at (λ x. level_at m w h x x) 0 (levels_of m (max w h)) i l ∙ ap (λ x. Some (level_at m w h x x)) z

-- each level of the list is the one of its number
pub mip_is : (m : RoundingMode) (w h i : ℕ) (l : Level) → slice_get (mip_levels m w h) i ≡ Some l → (i < levels_of m (max w h)) × (level_at m w h i i ≡ l)
mip_is m w h i l e =
    let k = nth_some (mip_levels m w h) i l e in
    let n : i < levels_of m (max w h) = omega (arith, mip_length m w h, k.0) in
    let f : Some (level_at m w h i i) ≡ Some l = sym (mip_at m w h i n) ∙ e in
    (n, cc)

mip_areas : (m : RoundingMode) (w h a n : ℕ) → IsSide h → sum_by area (map (λ l. level_at m w h l l) (range_with_len a n)) ≤ sum_by (side_at m w) (range_with_len a n) * 2147483647
mip_areas m w h a zero s = omega arith
mip_areas m w h a (suc n) s =
    let here : side_at m w a * side_at m h a ≤ side_at m w a * 2147483647 = mul-le-mul_left (side_at m w a) (size_side m h a s).1 in
    let later = mip_areas m w h (a + 1) n s in
    let one = sum_by-cons area (level_at m w h a a) (map (λ l. level_at m w h l l) (range_with_len (a + 1) n)) in
    let two = sum_by-cons (side_at m w) a (range_with_len (a + 1) n) in
    omega arith

longer : (w h : ℕ) → IsSide w → IsSide h → max w h ≤ 2147483648
longer w h s t = omega arith

-- a position of the list is a level index of at most 31
pub mip_low : (m : RoundingMode) (w h i : ℕ) → IsSide w → IsSide h → i < length (mip_levels m w h) → i ≤ 31
mip_low m w h i sw sh l = omega (arith, mip_length m w h, side_levels m (max w h) (longer w h sw sh))

pub mip_levels_lawful : (m : RoundingMode) (w h : ℕ) → IsSide w → IsSide h → LawfulLevels (mip_levels m w h)
mip_levels_lawful m w h sw sh =
    let len = mip_length m w h in
    let n = levels_of m (max w h) in
    let few : n ≤ 32 = side_levels m (max w h) (longer w h sw sh) in
    record {
      some = omega arith;
      few = omega arith;
      sides = λ i l e. subst (λ (x : Level). IsSide x.width × IsSide x.height) (mip_is m w h i l e).1 (size_side m w i sw, size_side m h i sh);
      pairs = λ i l e. subst (λ (x : Level). (x.pair.0 ≤ 31) × (x.pair.1 ≤ 31)) (mip_is m w h i l e).1 (let k = (mip_is m w h i l e).0 in (omega arith, omega arith));
      distinct = λ i j l k e f a b.
          ap (λ (x : Level). x.pair.0) (mip_is m w h i l e).1 ∙ a ∙ sym (ap (λ (x : Level). x.pair.0) (mip_is m w h j k f).1);
      fits = omega (arith, mip_areas m w h 0 n sh, sum_halves m w n 32 0 (omega arith) (omega arith) few);
    }

pub mip_last : (m : RoundingMode) (w h : ℕ) → OneByOne (slice_get (mip_levels m w h) (log2 m (max w h)))
mip_last m w h =
    let n = log2 m (max w h) in
    let c = log_covers m (max w h) in
    let cw = covers_more m (max w h) w n n (le-max_left w h) (omega arith) c in
    let ch = covers_more m (max w h) h n n (le-max_right w h) (omega arith) c in
    subst OneByOne (sym (mip_at m w h n (omega arith))) (size_one m w n cw, size_one m h n ch)

longest : (w h : ℕ) → (max w h ≡ w) ⊎ (max w h ≡ h)
longest w h = elim (cases_lt w h) [ inl l ↦ inr (omega arith) | inr g ↦ inl (omega arith) ]

pub mip_earlier : (m : RoundingMode) (w h i : ℕ) → i < log2 m (max w h) → OneByOne (slice_get (mip_levels m w h) i) → ⊥
mip_earlier m w h i l one =
    let k : OneByOne (Some (level_at m w h i i)) = subst OneByOne (mip_at m w h i (omega arith)) one in
    let big : 2 ≤ side_at m (max w h) i = size_two m (max w h) i (log_before m (max w h) i l) in
    let kw : side_at m w i ≡ 1 = k.0 in
    let kh : side_at m h i ≡ 1 = k.1 in
    elim (longest w h) [
      | inl e ↦ let s : side_at m (max w h) i ≡ side_at m w i = ap (λ x. side_at m x i) e in omega arith
      | inr e ↦ let s : side_at m (max w h) i ≡ side_at m h i = ap (λ x. side_at m x i) e in omega arith
    ]

pub mip_ends : (m : RoundingMode) (w h : ℕ) → EndsAtOnePixel (mip_levels m w h)
mip_ends m w h =
    let len = mip_length m w h in
    let at : log2 m (max w h) ≡ length (mip_levels m w h) - 1 = omega arith in
    record {
      some = omega arith;
      pixel = subst (λ (x : ℕ). OneByOne (slice_get (mip_levels m w h) x)) at (mip_last m w h);
      earlier = λ i l one. mip_earlier m w h i (omega arith) one;
    }

-- rip

pub rip_length : (m : RoundingMode) (w h : ℕ) → length (rip_levels m w h) ≡ levels_of m h * levels_of m w
rip_length m w h = grid_length (level_at m w h) (levels_of m w) 0 (levels_of m h)

-- by row and column
pub rip_at : (m : RoundingMode) (w h x y : ℕ) → x < levels_of m w → y < levels_of m h → slice_get (rip_levels m w h) (y * levels_of m w + x) ≡ Some (level_at m w h x y)
rip_at m w h x y a b =
    let z : 0 + y ≡ y = omega arith in
    grid_at (level_at m w h) (levels_of m w) 0 (levels_of m h) y x a b ∙ ap (λ n. Some (level_at m w h x n)) z

-- by position
pub rip_by : (m : RoundingMode) (w h i : ℕ) → i / levels_of m w < levels_of m h → slice_get (rip_levels m w h) i ≡ Some (level_at m w h (i % levels_of m w) (i / levels_of m w))
rip_by m w h i l =
    let n = levels_of m w in
    ap (slice_get (rip_levels m w h)) (sym (div-add-mod' i n)) ∙ rip_at m w h (i % n) (i / n) (mod-lt i (omega arith)) l

pub rip_is : (m : RoundingMode) (w h i : ℕ) (l : Level) → slice_get (rip_levels m w h) i ≡ Some l → (i / levels_of m w < levels_of m h) × (level_at m w h (i % levels_of m w) (i / levels_of m w) ≡ l)
rip_is m w h i l e =
    let k = nth_some (rip_levels m w h) i l e in
    let some : 0 < levels_of m w = omega arith in
    let n : i / levels_of m w < levels_of m h = (div-lt_iff_lt-mul some).1 (omega (arith, rip_length m w h, k.0)) in
    let f : Some (level_at m w h (i % levels_of m w) (i / levels_of m w)) ≡ Some l = sym (rip_by m w h i n) ∙ e in
    (n, cc)

pub rip_levels_lawful : (m : RoundingMode) (w h : ℕ) → IsSide w → IsSide h → LawfulLevels (rip_levels m w h)
rip_levels_lawful m w h sw sh =
    let len = rip_length m w h in
    let nx = levels_of m w in
    let ny = levels_of m h in
    let fx : nx ≤ 32 = side_levels m w (omega arith) in
    let fy : ny ≤ 32 = side_levels m h (omega arith) in
    let least : 1 * 1 ≤ ny * nx = mul-le-mul {n₁ = 1} {m₁ = 1} {n₂ = ny} {m₂ = nx} (omega arith) (omega arith) in
    let most : ny * nx ≤ 32 * 32 = mul-le-mul fy fx in
    let sx : sum_by (side_at m w) (range_with_len 0 nx) ≤ 4294967295 = omega (arith, sum_halves m w nx 32 0 (omega arith) (omega arith) fx) in
    let sy : sum_by (side_at m h) (range_with_len 0 ny) ≤ 4294967295 = omega (arith, sum_halves m h ny 32 0 (omega arith) (omega arith) fy) in
    let total : sum_by area (rip_levels m w h) ≡ sum_by (side_at m w) (range_with_len 0 nx) * sum_by (side_at m h) (range_with_len 0 ny) =
    grid_sum area (level_at m w h) (side_at m w) (side_at m h) (λ x y. refl) nx 0 ny in
    record {
      some = omega arith;
      few = omega arith;
      sides = λ i l e. subst (λ (x : Level). IsSide x.width × IsSide x.height) (rip_is m w h i l e).1 (size_side m w (i % nx) sw, size_side m h (i / nx) sh);
      pairs = λ i l e. subst (λ (x : Level). (x.pair.0 ≤ 31) × (x.pair.1 ≤ 31)) (rip_is m w h i l e).1 (let k = (rip_is m w h i l e).0 in let r : i % nx < nx = mod-lt i (omega arith) in (omega arith, omega arith));
      distinct = λ i j l k e f a b.
          let p : i % nx ≡ j % nx = ap (λ (x : Level). x.pair.0) (rip_is m w h i l e).1 ∙ a ∙ sym (ap (λ (x : Level). x.pair.0) (rip_is m w h j k f).1) in
          let q : i / nx ≡ j / nx = ap (λ (x : Level). x.pair.1) (rip_is m w h i l e).1 ∙ b ∙ sym (ap (λ (x : Level). x.pair.1) (rip_is m w h j k f).1) in
          sym (div-add-mod' i nx) ∙ ap (λ n. n * nx + i % nx) q ∙ ap (λ n. j / nx * nx + n) p ∙ div-add-mod' j nx;
      fits = omega (arith, mul-le-mul sx sy);
    }

pub rip_last : (m : RoundingMode) (w h : ℕ) → OneByOne (slice_get (rip_levels m w h) (log2 m h * levels_of m w + log2 m w))
rip_last m w h =
    subst OneByOne (sym (rip_at m w h (log2 m w) (log2 m h) (omega arith) (omega arith))) (size_one m w _ (log_covers m w), size_one m h _ (log_covers m h))

pub rip_earlier : (m : RoundingMode) (w h i : ℕ) → i < log2 m h * levels_of m w + log2 m w → OneByOne (slice_get (rip_levels m w h) i) → ⊥
rip_earlier m w h i l one =
    let nx = levels_of m w in
    let y = i / nx in
    let x = i % nx in
    let split : y * nx + x ≡ i = div-add-mod' i nx in
    let in_row : x < nx = mod-lt i (omega arith) in
    elim (cases_lt (log2 m h) y) [
      | inl g ↦
          let more : (log2 m h + 1) * nx ≤ y * nx = mul-le-mul {m₁ = nx} (omega arith) (omega arith) in
          omega (arith, add-mul (log2 m h) 1 nx, one-mul nx)
      | inr g ↦
          let k : OneByOne (Some (level_at m w h x y)) = subst OneByOne (rip_by m w h i (omega arith)) one in
          let kw : side_at m w x ≡ 1 = k.0 in
          let kh : side_at m h y ≡ 1 = k.1 in
          elim (cases_lt y (log2 m h)) [
            | inl a ↦ omega (arith, size_two m h y (log_before m h y a))
            | inr a ↦
                let e : log2 m h ≡ y = omega arith in
                let s : log2 m h * nx ≡ y * nx = ap (λ n. n * nx) e in
                omega (arith, size_two m w x (log_before m w x (omega arith)))
          ]
    ]

pub rip_ends : (m : RoundingMode) (w h : ℕ) → EndsAtOnePixel (rip_levels m w h)
rip_ends m w h =
    let nx = levels_of m w in
    let k = log2 m h in
    let len = rip_length m w h in
    let at : k * nx + log2 m w ≡ length (rip_levels m w h) - 1 = omega (arith, add-mul k 1 nx, one-mul nx) in
    record {
      some = omega (arith, add-mul k 1 nx, one-mul nx);
      pixel = subst (λ (x : ℕ). OneByOne (slice_get (rip_levels m w h) x)) at (rip_last m w h);
      earlier = λ i l one. rip_earlier m w h i (omega (arith, add-mul k 1 nx, one-mul nx)) one;
    }
