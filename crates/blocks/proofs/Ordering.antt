-- Line order: what stands where, and that each block stands in it once.
use Rattle.std.proofs.Common.{◌≡◌, ℕ, ◌+◌, ◌-◌, ◌*◌, ◌^◌, ◌<◌, ◌≤◌, eqb, length, Some, None, Ok, sym, refl, ap, ◌∙◌, subst, arith}
use Rattle.std.proofs.lemmas.List.{length-map}
use Rattle.std.proofs.lemmas.Bool.{eq-eqb, eqb-true}
use Rattle.std.specs.List.{slice_get}
use Rattle.numbers.specs.Wholes.{optional}
use Rattle.schemes.specs.Blocks.{chunks_in}
use Rattle.schemes.specs.Meanings.{Meaning, Lawful, block_size}
use Rattle.schemes.proofs.Counting.{nth_none, nth_past}
use Rattle.schemes.specs.Rows.{nth_some}
use Rattle.blocks.specs.Numbering.{across, down, all_blocks, block_at, blocks_by, number_of, of_block, IsBlock}
use Rattle.blocks.specs.Bounds.{bounds_of, indices_of, tile_of}
use Rattle.blocks.specs.Cuts.{cut_of}
use Rattle.blocks.specs.Orders.{line_order, ordered_blocks, turned, OrdersAll}
use Rattle.blocks.specs.declared.block.Block.{Block}
use Rattle.blocks.specs.declared.bounds.IntegerBounds.{IntegerBounds}
use Rattle.blocks.specs.declared.cut.Cut.{Cut}
use Rattle.blocks.specs.declared.line_order.LineOrder.{LineOrder}
use Rattle.blocks.specs.declared.tile.TileCoordinates.{TileCoordinates}
use Rattle.blocks.specs.declared.tile.TileIndices.{TileIndices}
use Rattle.blocks.proofs.Answering.{is_listed}
use Rattle.blocks.proofs.Cutting.{is_cut}
use Rattle.blocks.proofs.Counts.{count_one, nth_map}
use Rattle.blocks.proofs.Listing.{turned_lt, turned_turned}
use Rattle.blocks.proofs.Numbers.{turn, by_length, by_number, count_fits, has, numbered, number_below}

-- a turned block is a block of the same layer
pub turn_is : (o : LineOrder) (m : Meaning) (b : Block) → IsBlock m b → IsBlock m (turn o m b)
turn_is o m b k = record { there = k.there; row_in = turned_lt o _ b.row k.row_in; column_in = k.column_in }

turn_turn : (o : LineOrder) (m : Meaning) (b : Block) → IsBlock m b → turn o m (turn o m b) ≡ b
turn_turn o m b k = ap (λ r. block_at b.position b.level r b.column) (turned_turned o _ b.row k.row_in)

line_length : (o : LineOrder) (m : Meaning) → length (line_order o m) ≡ chunks_in m
line_length o m = length-map (blocks_by o m) (number_of m) ∙ by_length o m

-- the number that stands at a block's own number
line_at : (o : LineOrder) (m : Meaning) (b : Block) → IsBlock m b → slice_get (line_order o m) (number_of m b) ≡ Some (number_of m (turn o m b))
line_at o m b k = nth_map (number_of m) (blocks_by o m) (number_of m b) ∙ ap (optional (number_of m)) (by_number o m b k)

same_block : (m : Meaning) (a b : Block) → IsBlock m a → IsBlock m b → number_of m a ≡ number_of m b → a ≡ b
same_block m a b j k e =
    let law = numbered m in
    let f = law.each a j in
    let g = law.each b k in
    let h = ap (slice_get (all_blocks m)) e in
    cc

pub orders_all : (o : LineOrder) (m : Meaning) → OrdersAll o m
orders_all o m = record {
  counted = line_length o m;
  once = λ n h.
      let k = has m n h in
      let t = turn o m k.block in
      let t_is = turn_is o m k.block k.is_block in
      count_one (eqb n) (line_order o m) (number_of m t) n
      (line_at o m t t_is ∙ ap (λ b. Some (number_of m b)) (turn_turn o m k.block k.is_block) ∙ ap Some k.is)
      (eq-eqb n n refl)
      (λ j y e u.
      let j_in : j < chunks_in m = subst (λ i. j < i) (line_length o m) (nth_some (line_order o m) j y e).0 in
      let i = has m j j_in in
      let at_j : slice_get (line_order o m) j ≡ Some (number_of m (turn o m i.block)) = ap (slice_get (line_order o m)) (sym i.is) ∙ line_at o m i.block i.is_block in
      let is_y : number_of m (turn o m i.block) ≡ y = cc in
      let same : n ≡ y = eqb-true n y u in
      let one : turn o m i.block ≡ k.block = same_block m _ _ (turn_is o m i.block i.is_block) k.is_block (is_y ∙ sym same ∙ sym k.is) in
      sym i.is ∙ ap (number_of m) (sym (turn_turn o m i.block i.is_block) ∙ ap (turn o m) one));
}

-- what is told of a block in line order
abbrev pub entry : Meaning → Block → ℕ × TileIndices
entry m b = (number_of m b, indices_of (block_size m) b)

-- a block that was found by number, and its level as it was cut
pub record Found (m : Meaning) (i : ℕ) (b : Block) (k : Cut) : Type 0 where
  pub is_block : IsBlock m b
  pub number : number_of m b ≡ i
  pub across_is : k.across ≡ across (block_size m) b.level
  pub down_is : k.down ≡ down (block_size m) b.level
  pub row_in : b.row < k.down

pub found : (m : Meaning) (i : ℕ) (b : Block) (k : Cut) → Ok b ≡ of_block m i (λ x. x) → Some k ≡ optional (cut_of (block_size m)) (slice_get m.levels b.position) → Found m i b k
found m i b k e f =
    let size = block_size m in
    let j = is_listed m i b e in
    let cut = is_cut size (slice_get m.levels b.position) k f in
    let there = j.0.there in
    let here = cut.there in
    let level : k.level ≡ b.level = cc in
    let d : k.down ≡ down size b.level = cut.down_is ∙ ap (down size) level in
    record {
      is_block = j.0;
      number = j.1;
      across_is = cut.across_is ∙ ap (across size) level;
      down_is = d;
      row_in = subst (λ n. b.row < n) (sym d) j.0.row_in;
    }

-- what comes at a block's own number, with that number and the turned row as the code has them
pub record Comes (o : LineOrder) (m : Meaning) (i : ℕ) (b : Block) (k : Cut) (row : ℕ) : Type 0 where
  pub block : block_at b.position b.level row b.column ≡ turn o m b
  pub is_block : IsBlock m (block_at b.position b.level row b.column)
  pub number : i - b.row * k.across + row * k.across ≡ number_of m (turn o m b)
  pub back : b.row * k.across ≤ i
  pub small : row * k.across < 2 ^ 64
  pub fits : i - b.row * k.across + row * k.across < 2 ^ 64
  pub is : slice_get (ordered_blocks o m) i ≡ Some (entry m (turn o m b))

pub comes : (o : LineOrder) (m : Meaning) → Lawful m → (i : ℕ) (b : Block) (k : Cut) (row : ℕ) → Ok b ≡ of_block m i (λ x. x) → Some k ≡ optional (cut_of (block_size m)) (slice_get m.levels b.position) → row ≡ turned o k.down b.row → Comes o m i b k row
comes o m ok i b k row e f r =
    let h = found m i b k e f in
    let j = h.is_block in
    let n = h.number in
    let a = h.across_is in
    let columns = across (block_size m) b.level in
    let t = turn o m b in
    let row_is : row ≡ t.row = r ∙ ap (λ x. turned o x b.row) h.down_is in
    let same : block_at b.position b.level row b.column ≡ t = ap (λ x. block_at b.position b.level x b.column) row_is in
    let mul_old : b.row * k.across ≡ b.row * columns = ap (λ x. b.row * x) a in
    let mul_new : row * k.across ≡ t.row * columns = ap (λ x. row * x) a ∙ ap (λ x. x * columns) row_is in
    let below = number_below m t (turn_is o m b j) in
    let all = count_fits m ok in
    let is_number : i - b.row * k.across + row * k.across ≡ number_of m t = omega arith in
    record {
      block = same;
      is_block = subst (λ (x : Block). IsBlock m x) (sym same) (turn_is o m b j);
      number = is_number;
      back = omega arith;
      small = omega arith;
      fits = omega arith;
      is = ap (slice_get (ordered_blocks o m)) (sym n) ∙ nth_map (entry m) (blocks_by o m) (number_of m b) ∙ ap (optional (entry m)) (by_number o m b j);
    }

-- an entry from its parts
pub entry_from : (m : Meaning) (n : ℕ) (t : TileCoordinates ℕ) (k : IntegerBounds) (x b : Block) → n ≡ number_of m b → t ≡ tile_of x → k ≡ bounds_of (block_size m) x → x ≡ b → ◌≡◌ {A = ℕ × TileIndices} (n, record { location = t; size = k.size }) (entry m b)
entry_from m n t k x b en et ek ex =
    let with : ℕ → TileCoordinates ℕ → IntegerBounds → ℕ × TileIndices = λ i u v. (i, record { location = u; size = v.size }) in
    ap (λ i. with i t k) en
    ∙ ap (λ u. with (number_of m b) u k) (et ∙ ap tile_of ex)
    ∙ ap (with (number_of m b) (tile_of b)) (ek ∙ ap (bounds_of (block_size m)) ex)

-- nothing comes past the last
pub comes_none : (o : LineOrder) (m : Meaning) (i : ℕ) → slice_get (all_blocks m) i ≡ None → slice_get (ordered_blocks o m) i ≡ None
comes_none o m i e =
    let past = nth_none (all_blocks m) i (sym e) in
    let same = by_length o m in
    let count = (numbered m).counted in
    nth_map (entry m) (blocks_by o m) i ∙ ap (optional (entry m)) (sym (nth_past (blocks_by o m) i (omega arith)))
