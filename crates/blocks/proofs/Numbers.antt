-- Each block stands at its number, and each number below the chunk count has a block.
use Rattle.std.proofs.Common.{◌≡◌, ℕ, ◌+◌, ◌*◌, ◌/◌, ◌%◌, ◌^◌, ◌<◌, length, take, sum_by, Some, sym, ap, ◌∙◌, subst, zero-add, arith}
use Rattle.std.specs.List.{slice_get}
use Rattle.numbers.specs.Wholes.{optional}
use Rattle.numbers.specs.declared.vec2.Vec2.{Vec2}
use Rattle.schemes.specs.Blocks.{blocks_in, chunks_in}
use Rattle.schemes.specs.Meanings.{Meaning, Lawful, area, block_size}
use Rattle.schemes.proofs.Counting.{chunks_le, sumBy_mono}
use Rattle.schemes.specs.Rows.{nth_some}
use Rattle.blocks.specs.Numbering.{across, down, block_at, all_blocks, blocks_by, blocks_before, number_of, IsBlock, Numbered}
use Rattle.blocks.specs.Cuts.{cut_of}
use Rattle.blocks.specs.Orders.{turned}
use Rattle.blocks.specs.declared.block.Block.{Block}
use Rattle.blocks.specs.declared.line_order.LineOrder.{LineOrder}
use Rattle.blocks.specs.declared.line_order.LineOrder.TheVariants.{Increasing}
use Rattle.blocks.specs.declared.cut.Cut.{Cut}
use Rattle.blocks.proofs.Cutting.{IsCut, is_cut}
use Rattle.blocks.proofs.Listing.{blocks_length, level_on, split_at, split}

-- the block whose row is counted in the line order
abbrev pub turn : LineOrder → Meaning → Block → Block
turn o m b = block_at b.position b.level (turned o (down (block_size m) b.level) b.row) b.column

-- at a block's number the line order has the turned block
pub by_number : (o : LineOrder) (m : Meaning) (b : Block) → IsBlock m b → slice_get (blocks_by o m) (number_of m b) ≡ Some (turn o m b)
by_number o m b k =
    level_on o (block_size m) 0 m.levels b.position b.level b.row b.column k.there k.row_in k.column_in
    ∙ ap (λ i. Some (block_at i b.level (turned o (down (block_size m) b.level) b.row) b.column)) (zero-add b.position)

-- the block of each number below the count
pub record Has (m : Meaning) (n : ℕ) : Type 0 where
  pub block : Block
  pub is_block : IsBlock m block
  pub is : number_of m block ≡ n

pub has : (m : Meaning) (n : ℕ) → n < chunks_in m → Has m n
has m n h =
    let size = block_size m in
    let s = split size m.levels n h in
    let a = across size s.level in
    let t = split_at s.rest a (down size s.level) s.less in
    record {
      block = block_at s.place s.level (s.rest / a) (s.rest % a);
      is_block = record { there = s.there; row_in = t.1; column_in = t.2 };
      is = sym (s.is ∙ ap (λ i. blocks_before m s.place + i) t.3);
    }

pub by_length : (o : LineOrder) (m : Meaning) → length (blocks_by o m) ≡ chunks_in m
by_length o m = blocks_length o (block_size m) 0 m.levels

pub listed_below : (o : LineOrder) (m : Meaning) (n : ℕ) (b : Block) → slice_get (blocks_by o m) n ≡ Some b → n < chunks_in m
listed_below o m n b e = subst (λ k. n < k) (by_length o m) (nth_some (blocks_by o m) n b e).0

pub numbered : (m : Meaning) → Numbered m
numbered m = record {
  counted = by_length Increasing m;
  listed = λ n b e.
      let h = has m n (listed_below Increasing m n b e) in
      let at_n : slice_get (all_blocks m) n ≡ Some h.block = ap (slice_get (all_blocks m)) (sym h.is) ∙ by_number Increasing m h.block h.is_block in
      let same : h.block ≡ b = cc in
      (subst (λ (x : Block). IsBlock m x) same h.is_block, ap (number_of m) (sym same) ∙ h.is);
  each = by_number Increasing m;
}

-- numbers are below the count, and that fits
pub number_below : (m : Meaning) (b : Block) → IsBlock m b → number_of m b < chunks_in m
number_below m b k = listed_below Increasing m (number_of m b) _ (by_number Increasing m b k)

pub count_fits : (m : Meaning) → Lawful m → chunks_in m < 2 ^ 64
count_fits m ok =
    let fits = ok.levels.fits in
    omega (arith, sumBy_mono (blocks_in (block_size m)) area (chunks_le (block_size m) ok.block_wide.0 ok.block_high.0) m.levels)

-- the block at a place of a level that was cut
pub placed : (m : Meaning) (p r c : ℕ) (k : Cut) → IsCut (block_size m) (slice_get m.levels p) k → r < k.down → c < k.across → IsBlock m (block_at p k.level r c)
placed m p r c k cut hr hc = record {
  there = sym cut.there;
  row_in = subst (λ n. r < n) cut.down_is hr;
  column_in = subst (λ n. c < n) cut.across_is hc;
}

-- with the blocks before a cut level counted, a block's number in it fits
pub number_fits : (m : Meaning) → Lawful m → (p r c before : ℕ) (k : Cut) (size : Vec2 ℕ) → Some k ≡ optional (cut_of (block_size m)) (slice_get m.levels p) → before ≡ sum_by (blocks_in size) (take p m.levels) → size ≡ block_size m → r < k.down → c < k.across → before + (r * k.across + c) < 2 ^ 64
number_fits m ok p r c before k size e counted sized hr hc =
    let cut = is_cut (block_size m) (slice_get m.levels p) k e in
    let all : before ≡ blocks_before m p = counted ∙ ap (λ b. sum_by (blocks_in b) (take p m.levels)) sized in
    let same : r * k.across ≡ r * across (block_size m) k.level = ap (λ n. r * n) cut.across_is in
    omega (arith, number_below m _ (placed m p r c k cut hr hc), count_fits m ok)
