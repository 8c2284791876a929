-- The list of blocks by levels: how long its parts are, and what stands where.
use Rattle.std.proofs.Common.{◌≡◌, ℕ, zero, suc, ◌+◌, ◌-◌, ◌*◌, ◌/◌, ◌%◌, ◌<◌, ◌≤◌, List, [], ◌∷◌, length, get_or, take, drop, Some, sum_by, sym, refl, ap, ◌∙◌, subst, inl, inr, add-zero, mod-lt, mul_comm, mul-zero, div-add-mod', zero-add, arith}
use Rattle.std.specs.List.{range_with_len, slice_get}
use Rattle.std.proofs.lemmas.Nat.{div_below}
use Rattle.std.proofs.lemmas.List.FromFn.{length-range_with_len, get_or-range_with_len}
use Rattle.std.proofs.lemmas.List.{length-append, length-reverse, get_or-reverse, drop_more}
use Rattle.std.proofs.lemmas.List.Sums.{sum_by-cons}
use Rattle.std.proofs.lemmas.Bool.{cases_lt}
use Rattle.numbers.specs.declared.vec2.Vec2.{Vec2}
use Rattle.schemes.specs.Blocks.{blocks_in}
use Rattle.schemes.specs.declared.level.Level.{Level}
use Rattle.schemes.specs.Rows.{listed_rows_at, listed_rows_length, nth_left, nth_right, nth_some}
use Rattle.blocks.specs.Numbering.{across, down, block_at, rows, level_blocks, blocks_from}
use Rattle.blocks.specs.Orders.{turned}
use Rattle.blocks.specs.declared.line_order.LineOrder.{LineOrder}
use Rattle.blocks.specs.declared.line_order.LineOrder.TheVariants.{Increasing, Decreasing, Unspecified}

pub turned_lt : (o : LineOrder) (d r : ℕ) → r < d → turned o d r < d
turned_lt Increasing d r h = h
turned_lt Decreasing d r h = omega arith
turned_lt Unspecified d r h = h

pub turned_turned : (o : LineOrder) (d r : ℕ) → r < d → turned o d (turned o d r) ≡ r
turned_turned Increasing d r h = refl
turned_turned Decreasing d r h = omega arith
turned_turned Unspecified d r h = refl

rows_length : (o : LineOrder) (d : ℕ) → length (rows o d) ≡ d
rows_length Increasing d = length-range_with_len 0 d
rows_length Decreasing d = length-reverse (range_with_len 0 d) ∙ length-range_with_len 0 d
rows_length Unspecified d = length-range_with_len 0 d

rows_at : (o : LineOrder) (d i : ℕ) → i < d → get_or (rows o d) i 0 ≡ turned o d i
rows_at Increasing d i h = get_or-range_with_len 0 d i 0 h ∙ zero-add i
rows_at Decreasing d i h =
    let k : length (range_with_len 0 d) ≡ d = length-range_with_len 0 d in
    get_or-reverse (range_with_len 0 d) i 0 (omega arith)
    ∙ ap (λ n. get_or (range_with_len 0 d) (n - 1 - i) 0) k
    ∙ get_or-range_with_len 0 d (d - 1 - i) 0 (omega arith)
    ∙ zero-add _
rows_at Unspecified d i h = get_or-range_with_len 0 d i 0 h ∙ zero-add i

-- a product with something below it has a factor
pub factor : (n d a : ℕ) → n < d * a → 0 < a
factor n d zero h = omega (arith, mul-zero d)
factor n d (suc a) h = omega arith

level_length : (o : LineOrder) (size : Vec2 ℕ) (p : ℕ) (l : Level) → length (level_blocks o size p l) ≡ blocks_in size l
unfolding level_blocks
level_length o size p l =
    listed_rows_length (λ column row. block_at p l row column) (across size l) (rows o (down size l))
    ∙ ap (λ n. n * across size l) (rows_length o (down size l))
    ∙ mul_comm (down size l) (across size l)

-- the block in place r of the rows, and column c
level_at : (o : LineOrder) (size : Vec2 ℕ) (p : ℕ) (l : Level) (r c : ℕ) → r < down size l → c < across size l → slice_get (level_blocks o size p l) (r * across size l + c) ≡ Some (block_at p l (turned o (down size l) r) c)
unfolding level_blocks
level_at o size p l r c hr hc =
    listed_rows_at (λ column row. block_at p l row column) (across size l) (rows o (down size l)) r c hc (subst (λ n. r < n) (sym (rows_length o (down size l))) hr)
    ∙ ap (λ row. Some (block_at p l row c)) (rows_at o (down size l) r hr)

pub blocks_length : (o : LineOrder) (size : Vec2 ℕ) (p : ℕ) (ls : List Level) → length (blocks_from o size p ls) ≡ sum_by (blocks_in size) ls
unfolding blocks_from
blocks_length o size p [] = refl
blocks_length o size p (l ∷ ls) =
    length-append (level_blocks o size p l) (blocks_from o size (p + 1) ls)
    ∙ ap (λ n. n + length (blocks_from o size (p + 1) ls)) (level_length o size p l)
    ∙ ap (λ n. blocks_in size l + n) (blocks_length o size (p + 1) ls)
    ∙ sym (sum_by-cons (blocks_in size) l ls)

-- in the first level
pub first_at : (o : LineOrder) (size : Vec2 ℕ) (p : ℕ) (l : Level) (ls : List Level) (r c : ℕ) → r < down size l → c < across size l → slice_get (blocks_from o size p (l ∷ ls)) (r * across size l + c) ≡ Some (block_at p l (turned o (down size l) r) c)
unfolding blocks_from
first_at o size p l ls r c hr hc =
    let k = (nth_some (level_blocks o size p l) (r * across size l + c) _ (level_at o size p l r c hr hc)).0 in
    nth_left (level_blocks o size p l) (blocks_from o size (p + 1) ls) (r * across size l + c) k ∙ level_at o size p l r c hr hc

-- behind the first level
pub later_at : (o : LineOrder) (size : Vec2 ℕ) (p : ℕ) (l : Level) (ls : List Level) (n : ℕ) → slice_get (blocks_from o size p (l ∷ ls)) (blocks_in size l + n) ≡ slice_get (blocks_from o size (p + 1) ls) n
unfolding blocks_from
later_at o size p l ls n =
    ap (λ k. slice_get (blocks_from o size p (l ∷ ls)) (k + n)) (sym (level_length o size p l))
    ∙ nth_right (level_blocks o size p l) (blocks_from o size (p + 1) ls) n

-- the list from a level on
drop_level : (ls : List Level) (i : ℕ) (l : Level) → Some l ≡ slice_get ls i → drop i ls ≡ l ∷ drop (i + 1) ls
drop_level ls i l e =
    let k = nth_some ls i l (sym e) in
    drop_more ls i l k.0 ∙ ap (λ x. x ∷ drop (i + 1) ls) k.1

-- a number that is split by a row's length
pub split_at : (n a d : ℕ) → n < a * d → (0 < a) × (n / a < d) × (n % a < a) × (n ≡ n / a * a + n % a)
split_at n a d h =
    let h' : n < d * a = subst (λ k. n < k) (mul_comm a d) h in
    let pa : 0 < a = factor n d a h' in
    (pa, div_below n a d pa h', mod-lt n pa, sym (div-add-mod' n a))

-- the walk over the levels: a number below the blocks of this level, and one behind them
pub hit : (size : Vec2 ℕ) (ls : List Level) (i : ℕ) (l : Level) (n : ℕ) → Some l ≡ slice_get ls i → n < blocks_in size l → slice_get (blocks_from Increasing size i (drop i ls)) n ≡ Some (block_at i l (n / across size l) (n % across size l))
hit size ls i l n e h =
    let s = split_at n (across size l) (down size l) h in
    ap (λ ks. slice_get (blocks_from Increasing size i ks) n) (drop_level ls i l e)
    ∙ ap (slice_get (blocks_from Increasing size i (l ∷ drop (i + 1) ls))) s.3
    ∙ first_at Increasing size i l (drop (i + 1) ls) (n / across size l) (n % across size l) s.1 s.2

pub miss : (size : Vec2 ℕ) (ls : List Level) (i : ℕ) (l : Level) (n : ℕ) → Some l ≡ slice_get ls i → blocks_in size l ≤ n → slice_get (blocks_from Increasing size i (drop i ls)) n ≡ slice_get (blocks_from Increasing size (i + 1) (drop (i + 1) ls)) (n - blocks_in size l)
miss size ls i l n e h =
    let s : n ≡ blocks_in size l + (n - blocks_in size l) = omega arith in
    ap (λ ks. slice_get (blocks_from Increasing size i ks) n) (drop_level ls i l e)
    ∙ ap (slice_get (blocks_from Increasing size i (l ∷ drop (i + 1) ls))) s
    ∙ later_at Increasing size i l (drop (i + 1) ls) (n - blocks_in size l)

-- in the level q places on, behind the blocks of those before it
pub level_on : (o : LineOrder) (size : Vec2 ℕ) (p : ℕ) (ls : List Level) (q : ℕ) (l : Level) (r c : ℕ) → slice_get ls q ≡ Some l → r < down size l → c < across size l → slice_get (blocks_from o size p ls) (sum_by (blocks_in size) (take q ls) + (r * across size l + c)) ≡ Some (block_at (p + q) l (turned o (down size l) r) c)
level_on o size p [] q l r c e hr hc = let z : ◌≡◌ {A = ℕ} 0 1 = cc in let none : ⊥ = omega arith in elim none [ ]
level_on o size p (k ∷ ks) zero l r c e hr hc =
    let same : k ≡ l = cc in
    ap (slice_get (blocks_from o size p (k ∷ ks))) (zero-add (r * across size l + c))
    ∙ ap (λ v. slice_get (blocks_from o size p (v ∷ ks)) (r * across size l + c)) same
    ∙ first_at o size p l ks r c hr hc
    ∙ ap (λ i. Some (block_at i l (turned o (down size l) r) c)) (sym (add-zero p))
level_on o size p (k ∷ ks) (suc q) l r c e hr hc =
    let s = sum_by (blocks_in size) (take q ks) in
    let rest = r * across size l + c in
    let is : sum_by (blocks_in size) (k ∷ take q ks) + rest ≡ blocks_in size k + (s + rest) = ap (λ i. i + rest) (sum_by-cons (blocks_in size) k (take q ks)) ∙ omega arith in
    let on : p + 1 + q ≡ p + suc q = omega arith in
    ap (slice_get (blocks_from o size p (k ∷ ks))) is
    ∙ later_at o size p k ks (s + rest)
    ∙ level_on o size (p + 1) ks q l r c e hr hc
    ∙ ap (λ i. Some (block_at i l (turned o (down size l) r) c)) on

-- every number below the sum lies in some level
pub record Split (size : Vec2 ℕ) (ls : List Level) (n : ℕ) : Type 0 where
  pub place : ℕ
  pub level : Level
  pub rest : ℕ
  pub there : slice_get ls place ≡ Some level
  pub is : n ≡ sum_by (blocks_in size) (take place ls) + rest
  pub less : rest < blocks_in size level

pub split : (size : Vec2 ℕ) (ls : List Level) (n : ℕ) → n < sum_by (blocks_in size) ls → Split size ls n
split size [] n h = let none : ⊥ = omega arith in elim none [ ]
split size (l ∷ ls) n h = elim (cases_lt n (blocks_in size l)) [
  | inl k ↦ record { place = 0; level = l; rest = n; there = refl; is = sym (zero-add n); less = k }
  | inr g ↦
      let c = sum_by-cons (blocks_in size) l ls in
      let s = split size ls (n - blocks_in size l) (omega arith) in
      let c2 = sum_by-cons (blocks_in size) l (take s.place ls) in
      let e = s.is in
      record { place = suc s.place; level = s.level; rest = s.rest; there = s.there; is = omega arith; less = s.less }
]
