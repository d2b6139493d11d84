-- The answers of allocate, one by one. Assumes nothing.
use Prim.Native.Nat.{ℕ}
use mathlib.Core.Path.{◌≡◌, sym, ap, ap₂, ◌∙◌}
use mathlib.Core.Bool.{Bool, true, false, cond}
use mathlib.Core.List.{List}
use lib.Dec.{leb}
use lib.ListN.{length, replicate}
use borrow.Author.Tests.{eq-eqb, ne_eqb}
use Rattle.address.specs.declared.Address.{Address}
use Rattle.regions.specs.declared.Region.{Region}
use Rattle.regions.specs.declared.Kind.{Kind}
use Rattle.regions.specs.declared.Kind.TheVariants.{Taken}
use Rattle.regions.specs.declared.Change.TheVariants.{Fill}
use Rattle.block.specs.declared.Layout.{Layout}
use Rattle.block.specs.Block.{current, capacity, with_list, block_bytes, contents}
use Rattle.range.specs.Outcomes.{Outcome, outcome, store, tag, change_range}
use Rattle.fits.specs.declared.Query.{Query}
use Rattle.std.specs.Prelude.{Option, Some, None}
use Rattle.fits.specs.declared.Spot.{Spot}
use Rattle.seek.specs.Search.{found_place}
use Rattle.search.specs.Answers.{Answer, answer, refuse, slip_of, check_number, reserved, allocate, allocate_answer}
use Rattle.seek.specs.Steps.{Ready}
use Rattle.search.specs.Steps.{begun, Reservable}
use Rattle.search.proofs.Answering.{stopped, goes_on, still_zero, found_vacant}

-- a list that does not fit leaves the block
pub store_leaves : (L : Layout) (k : Kind) (xs : List Region) (b e : List ℕ) (n : ℕ) → outcome n e ≡ store L k xs b → (n ≡ 0 → ⊥) → e ≡ b
unfolding store
store_leaves L k xs b e n q d = go (leb (length xs) (capacity L k)) q
  where
    go : (t : Bool) → outcome n e ≡ cond t (outcome 0 (block_bytes L (with_list (contents L b) k xs))) (outcome 6 b) → e ≡ b
    go true p = absurd (d (ap (λ (o : Outcome). o.number) p))
    go false p = ap (λ (o : Outcome). o.block) p

-- ---- what was found is reserved

module _ (b : List ℕ) (a end : Address) (s : ℕ) (n : ℕ) (e : List ℕ) (w : outcome n e ≡ change_range current Taken (Fill (tag 0 0)) a.0 s b) where
  pub taken_full : (z : List ℕ) → z ≡ replicate 16 0 → (n ≡ 0 → ⊥)
      → answer n e z ≡ reserved b a.0 end.0 (change_range current Taken (Fill (tag 0 0)) a.0 s b)
  taken_full z p d =
      let k : e ≡ b = store_leaves current Taken _ b e n w d in
      let h : reserved b a.0 end.0 (outcome n e) ≡ refuse n b = rw (ne_eqb n 0 d) in
      ap₂ (λ (x y : List ℕ). answer n x y) k p ∙ sym h ∙ ap (reserved b a.0 end.0) w

  pub taken_done : (y : List ℕ) → y ≡ slip_of a.0 end.0 → n ≡ 0
      → answer 0 e y ≡ reserved b a.0 end.0 (change_range current Taken (Fill (tag 0 0)) a.0 s b)
  taken_done y p z =
      let h : reserved b a.0 end.0 (outcome n e) ≡ answer 0 e (slip_of a.0 end.0) = rw (eq-eqb n 0 z) in
      ap (answer 0 e) p ∙ sym h ∙ ap (reserved b a.0 end.0) w

-- ---- the checks and the search before it

module _ (b s : List ℕ) (q : Query) (n : ℕ) (z : List ℕ) (e : answer n b z ≡ begun (check_number current q b) b s) where
  abbrev inner : Answer
  inner = allocate_answer current b q.size.0 (found_place (contents current b) q)

  pub allocate_refused : (n ≡ 0 → ⊥) → answer n b z ≡ allocate current q b s
  unfolding allocate
  allocate_refused f = stopped (check_number current q b) b s n z e f inner

  module _ (f : n ≡ 0) (r : Option Spot) (o : r ≡ found_place (contents current b) q) where
    answered : allocate_answer current b q.size.0 r ≡ allocate current q b s
    unfolding allocate
    answered = ap (allocate_answer current b q.size.0) o ∙ goes_on (check_number current q b) b s n z e f inner

    pub allocate_none : r ≡ None → answer 5 b z ≡ allocate current q b s
    allocate_none g = ap (answer 5 b) (still_zero (check_number current q b) b s n z e f) ∙ ap (allocate_answer current b q.size.0) (sym g) ∙ answered

    pub allocate_some : (v : Spot) → r ≡ Some v → (t : Answer)
        → t ≡ reserved b v.at.0 v.run.end.0 (change_range current Taken (Fill (tag 0 0)) v.at.0 q.size.0 b) → t ≡ allocate current q b s
    allocate_some v g t w = w ∙ ap (allocate_answer current b q.size.0) (sym g) ∙ answered

-- what was found can be reserved
pub found_reservable : (b : List ℕ) (q : Query) → Ready b q → (r : Option Spot) → r ≡ found_place (contents current b) q → (v : Spot) → r ≡ Some v
    → (z : List ℕ) → z ≡ replicate 16 0 → Reservable b v.at.0 q.size.0 z
found_reservable b q p r o v g z e =
    let w = found_vacant b q p r o v g in
    record { good = p.good; some = p.size; end = w.0; vacant = w.1; zero = e }
