-- Lists made row by row: what stands where, how long they are, and what they add up to.
use Rattle.std.specs.Prelude.{◌≡◌, ℕ, zero, suc, ◌+◌, ◌*◌, ◌<◌, List, [], ◌∷◌, ◌++◌, map, length, Some, sum_by, slice_index, slice_index_or, refl}
use Rattle.std.proofs.Common.{sym, ◌∙◌, ap, add-zero, suc-mul, zero-mul, add-mul, mul-add, arith, suc-le-suc, length-append}
use Rattle.std.specs.List.{slice_get, range_with_len}
use Rattle.std.proofs.lemmas.List.FromFn.{length-range_with_len, length-map-range_with_len, get_or-range_with_len}
use Rattle.std.proofs.lemmas.List.Sums.{sum_by-cons, sum_by-append}
use Rattle.schemes.specs.Levels.{for_each}

-- an element that is there
pub nth_some : {X : Type 0} (xs : List X) (i : ℕ) (x : X) → slice_get xs i ≡ Some x → (i < length xs) × (slice_index_or xs i x ≡ x)
nth_some [] i x e = let z : ◌≡◌ {A = ℕ} 0 1 = cc in (omega arith, cc)
nth_some (y ∷ ys) zero x e = (omega arith, cc)
nth_some (y ∷ ys) (suc i) x e = let k = nth_some ys i x e in (suc-le-suc k.0, k.1)

pub nth_left : {X : Type 0} (xs ys : List X) (k : ℕ) → k < length xs → slice_get (xs ++ ys) k ≡ slice_get xs k
nth_left [] ys k l = let none : ⊥ = omega arith in elim none [ ]
nth_left (x ∷ xs) ys zero l = refl
nth_left (x ∷ xs) ys (suc k) l = nth_left xs ys k (omega arith)

pub nth_right : {X : Type 0} (xs ys : List X) (k : ℕ) → slice_get (xs ++ ys) (length xs + k) ≡ slice_get ys k
nth_right [] ys k = let e : 0 + k ≡ k = omega arith in ap (slice_get ys) e
nth_right (x ∷ xs) ys k =
    let e : suc (length xs) + k ≡ suc (length xs + k) = omega arith in
    ap (slice_get (x ∷ xs ++ ys)) e ∙ nth_right xs ys k

pub row_at : {X : Type 0} (f : ℕ → X) (a n i : ℕ) → i < n → slice_get (map f (range_with_len a n)) i ≡ Some (f (a + i))
row_at f a zero i h = let none : ⊥ = omega arith in elim none [ ]
row_at f a (suc n) zero h = ap (λ x. Some (f x)) (sym (add-zero a))
row_at f a (suc n) (suc i) h =
    let e : (a + 1) + i ≡ a + suc i = omega arith in
    row_at f (a + 1) n i (omega arith) ∙ ap (λ x. Some (f x)) e

-- a grid with a row for each element of a list has them all, each as long as the others
pub listed_rows_length : {X : Type 0} (f : ℕ → ℕ → X) (w : ℕ) (rs : List ℕ) → length (for_each rs (λ y. map (λ x. f x y) (range_with_len 0 w))) ≡ length rs * w
listed_rows_length f w [] = sym (zero-mul w)
listed_rows_length f w (r ∷ rs) =
    let row = map (λ x. f x r) (range_with_len 0 w) in
    let rest = for_each rs (λ y. map (λ x. f x y) (range_with_len 0 w)) in
    omega (arith, length-append row rest, length-map-range_with_len (λ x. f x r) 0 w, listed_rows_length f w rs, suc-mul (length rs) w)

-- row r, column c
pub listed_rows_at : {X : Type 0} (f : ℕ → ℕ → X) (w : ℕ) (rs : List ℕ) (r c : ℕ) → c < w → r < length rs → slice_get (for_each rs (λ y. map (λ x. f x y) (range_with_len 0 w))) (r * w + c) ≡ Some (f c (slice_index rs r))
listed_rows_at f w [] r c h k = let none : ⊥ = omega arith in elim none [ ]
listed_rows_at {X} f w (s ∷ rs) zero c h k =
    let row = map (λ x. f x s) (range_with_len 0 w) in
    let rest = for_each rs (λ y. map (λ x. f x y) (range_with_len 0 w)) in
    let z : 0 * w + c ≡ c = omega (arith, zero-mul w) in
    let y : 0 + c ≡ c = omega arith in
    let in_row : c < length row = omega (arith, length-map-range_with_len (λ x. f x s) 0 w) in
    ap (slice_get (row ++ rest)) z ∙ nth_left row rest c in_row ∙ row_at (λ x. f x s) 0 w c h
    ∙ ap (λ x. Some (f x s)) y
listed_rows_at {X} f w (s ∷ rs) (suc r) c h k =
    let row = map (λ x. f x s) (range_with_len 0 w) in
    let rest = for_each rs (λ y. map (λ x. f x y) (range_with_len 0 w)) in
    let z : suc r * w + c ≡ length row + (r * w + c) = omega (arith, suc-mul r w, length-map-range_with_len (λ x. f x s) 0 w) in
    ap (slice_get (row ++ rest)) z ∙ nth_right row rest (r * w + c) ∙ listed_rows_at f w rs r c h (omega arith)

-- a grid whose rows are numbered from b on
pub grid_length : {X : Type 0} (f : ℕ → ℕ → X) (w b n : ℕ) → length (for_each (range_with_len b n) (λ y. map (λ x. f x y) (range_with_len 0 w))) ≡ n * w
grid_length f w b n = listed_rows_length f w (range_with_len b n) ∙ ap (λ k. k * w) (length-range_with_len b n)

pub grid_at : {X : Type 0} (f : ℕ → ℕ → X) (w b n r c : ℕ) → c < w → r < n → slice_get (for_each (range_with_len b n) (λ y. map (λ x. f x y) (range_with_len 0 w))) (r * w + c) ≡ Some (f c (b + r))
grid_at f w b n r c h k =
    listed_rows_at f w (range_with_len b n) r c h (omega (arith, length-range_with_len b n))
    ∙ ap (λ y. Some (f c y)) (get_or-range_with_len b n r 0 k)

-- a sum over a grid of products is the product of the sums
row_sum : {X : Type 0} (g : X → ℕ) (f : ℕ → X) (p : ℕ → ℕ) (q : ℕ) → ((x : ℕ) → g (f x) ≡ p x * q) → (a n : ℕ) → sum_by g (map f (range_with_len a n)) ≡ sum_by p (range_with_len a n) * q
row_sum g f p q e a zero = sym (zero-mul q)
row_sum g f p q e a (suc n) =
    let s = sum_by p (range_with_len (a + 1) n) in
    sum_by-cons g (f a) (map f (range_with_len (a + 1) n)) ∙ ap (λ x. x + sum_by g (map f (range_with_len (a + 1) n))) (e a)
    ∙ ap (λ x. p a * q + x) (row_sum g f p q e (a + 1) n) ∙ sym (add-mul (p a) s q)
    ∙ ap (λ x. x * q) (sym (sum_by-cons p a (range_with_len (a + 1) n)))

pub grid_sum : {X : Type 0} (g : X → ℕ) (f : ℕ → ℕ → X) (p q : ℕ → ℕ) → ((x y : ℕ) → g (f x y) ≡ p x * q y) → (w b n : ℕ) → sum_by g (for_each (range_with_len b n) (λ y. map (λ x. f x y) (range_with_len 0 w))) ≡ sum_by p (range_with_len 0 w) * sum_by q (range_with_len b n)
grid_sum g f p q e w b zero = omega arith
grid_sum g f p q e w b (suc n) =
    let row = map (λ x. f x b) (range_with_len 0 w) in
    let rest = for_each (range_with_len (b + 1) n) (λ y. map (λ x. f x y) (range_with_len 0 w)) in
    let s = sum_by p (range_with_len 0 w) in
    let t = sum_by q (range_with_len (b + 1) n) in
    let here : sum_by g row ≡ s * q b = row_sum g (λ x. f x b) p (q b) (λ x. e x b) 0 w in
    let later : sum_by g rest ≡ s * t = grid_sum g f p q e w (b + 1) n in
    let split : sum_by q (range_with_len b (suc n)) ≡ q b + t = sum_by-cons q b (range_with_len (b + 1) n) in
    sum_by-append g row rest ∙ ap (λ x. x + sum_by g rest) here ∙ ap (λ x. s * q b + x) later ∙ sym (mul-add s (q b) t) ∙ ap (λ x. s * x) (sym split)
