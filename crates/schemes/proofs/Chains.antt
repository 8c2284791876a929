-- What a chain adds up that goes over positions and looks each one up in a list.
use Rattle.std.proofs.Common.{◌≡◌, ℕ, suc, ◌+◌, List, [], ◌∷◌, length, take, Option, Some, true, IfSome, fold, sum_by, refl, sym, ◌∙◌, ap, subst, take_all, arith}
use Rattle.std.specs.List.{slice_get}
use Rattle.std.specs.Iterator.Runs.{Run, CallKeepsClosure, IsMapRun, IsMapWhileRun, ItemsCountUp}
use Rattle.std.specs.Iterator.{ActsAs}
use Rattle.std.specs.declared.ops.Range.{Range}
use Rattle.std.proofs.iter.Yields.{nat_range_steps}
use Rattle.std.proofs.iter.runs.Made.{at-is}
use Rattle.std.proofs.iter.runs.Sources.{range_runs}
use denote.Param.Members.{Mut}
use Rattle.schemes.proofs.Counting.{nth_none}

-- elements that stand where those of xs do are the front of xs
front : {X : Type 0} (xs ys : List X) → ((i : ℕ) → IfSome (slice_get ys i) (λ y. Some y ≡ slice_get xs i)) → ys ≡ take (length ys) xs
front xs [] h = refl
front [] (y ∷ ys) h = let z = h 0 in grind arith
front (x ∷ xs) (y ∷ ys) h = let z = h 0 in let r = front xs ys (λ i. h (suc i)) in cc

-- a chain over the positions below n that looks each one up in xs while there are any, and adds up what v gives of the elements
module _ {S T F G X : Type 0} {steps : S → Option ℕ → S → Type 0} {source : T → Option X → T → Type 0} {adds : Mut G (X × Unit {0}) ℕ} {looks : Mut F (ℕ × Unit {0}) (Option X)} {h : G} {f : F} (s : Run steps) (p : Run source) (q : Run nat_range_steps) (v : X → ℕ) (xs : List X) (n : ℕ)
    (from : q.from ≡ record { start = 0; end = n }) (while : IsMapWhileRun p q looks f) (mapped : IsMapRun s p adds h) (gets : ActsAs looks f (slice_get xs)) (gives : ActsAs adds h v) where
  up : ItemsCountUp q 0 n
  up = subst (λ (k : Range ℕ). ItemsCountUp q k.start k.end) from (range_runs q q.seen)

  keeps : CallKeepsClosure looks f
  keeps a r f' c = (gets a.0 r f' c).0

  pub added : fold (λ a x. a + x) 0 s.items ≡ sum_by v (take p.len xs)
  added =
      let items : p.items ≡ take (length p.items) xs = front xs p.items (λ k. let w = (while.1 keeps).0 k in let u = up.2 k in let i = at-is p k in grind (arith, gets)) in
      mapped.4 (λ a x. a + x) (λ a x. a + v x) 0 (λ x y f' a c. grind (arith, gives)) ∙ ap (sum_by v) (items ∙ ap (λ k. take k xs) (sym p.long))

  pub added_all : s.whole ≡ true → fold (λ a x. a + x) 0 s.items ≡ sum_by v (take n xs)
  added_all e =
      let w = while.0.2 (mapped.0 ∙ e) in
      let u = up.2 p.len in
      grind (arith, added, keeps, gets, nth_none, take_all, while, up)
