-- Demand 2's sentence on the searches holds of every answer of find, allocate and next free. Assumes nothing.
use Prim.Native.Nat.{ℕ, ◌≤◌, ◌<◌}
use mathlib.Core.Path.{◌≡◌, refl, sym, ap, subst, ◌∙◌}
use mathlib.Core.Bool.{Bool, true, false, cond}
use mathlib.Core.List.{List}
use mathlib.Core.Option.{Option, none, some}
use mathlib.Core.Logic.{◌⊎◌, inl, inr}
use native.Mathlib.Omega.{arith}
use lib.Dec.{leb, eqb}
use lib.ListN.{length}
use borrow.Author.Tests.{eqb-true, eqb-false}
use Rattle.address.specs.Numbers.{power_of_two}
use Rattle.address.proofs.Tests.{clash, le_or_lt}
use Rattle.regions.specs.declared.Kind.{Kind}
use Rattle.regions.specs.declared.Kind.TheVariants.{Memory, Taken}
use Rattle.regions.specs.declared.Region.{Region}
use Rattle.regions.specs.declared.Run.{Run}
use Rattle.regions.specs.declared.Change.TheVariants.{Fill}
use Rattle.regions.specs.Meaning.{top}
use Rattle.regions.specs.Runs.{run_at}
use Rattle.regions.specs.Bytes.{number}
use Rattle.regions.proofs.Rises.{Canonical}
use Rattle.regions.proofs.Good.{good_rises}
use Rattle.block.specs.declared.Layout.{Layout}
use Rattle.block.specs.declared.Settings.{Settings}
use Rattle.block.specs.Block.{capacity, with_list, block_bytes, contents, good}
use Rattle.block.proofs.Blocks.{lists_ok, good_contents_lem}
use Rattle.range.specs.Outcomes.{Outcome, outcome, store, tag, change_range}
use Rattle.fits.specs.declared.Query.{Query}
use Rattle.std.specs.Prelude.{Option as Maybe, Some, None}
use Rattle.fits.specs.declared.Spot.{Spot}
use Rattle.fits.specs.Eligible.{eligible, Gives}
use Rattle.fits.specs.Places.{hit_of, place_of}
use Rattle.fits.proofs.Extremes.{lowest_gives}
use Rattle.seek.specs.Search.{window, runs_of, found, found_place, free_from, lowest_free, next_place}
use Rattle.search.specs.Answers.{Answer, answer, refuse, slip_of, askable, check_number, next_number, asking, place_answer, find, reserved, allocate_answer, allocate, next_free}
use Rattle.search.specs.DemandTwo.{Eligible, FreeFrom, Lowest, Highest, AboveImage, ByDirection, Passed, Searched, OrFull, LooksEligible, FindSentence, AllocateSentence, NextFreeSentence}
use Rattle.search.proofs.Answering.{number_ready, slip_first, fine}
use Rattle.search.proofs.Eligible.{passes_eligible, eligible_ends, eligible_passes, passes_free, free_ends, free_passes}
use Rattle.seek.proofs.Found.{Beyond, found_gives}

-- ---- any search

-- E holds at x, and at no number beyond x
record Best (E : ℕ → Type 0) (beyond : ℕ → ℕ → Type 0) (x : ℕ) : Type 0 where
  holds : E x
  none_beyond : (y : ℕ) → E y → beyond y x → ⊥

-- past the checks: nothing is there, and the number is 5; or something is, the number is another, and where it is 0 the slip names the best
record Missed (E : ℕ → Type 0) (a : Answer) : Type 0 where
  five : a.number ≡ 5
  nothing : (x : ℕ) → E x → ⊥

record Met (E : ℕ → Type 0) (beyond : ℕ → ℕ → Type 0) (done : ℕ → Type 0) (a : Answer) : Type 0 where
  at : ℕ
  best : Best E beyond at
  so : done a.number
  other : a.number ≡ 5 → ⊥
  named : a.number ≡ 0 → number 8 a.slip ≡ at

module _ (n : ℕ) (b slip : List ℕ) (a : Answer) where
  -- numbers that are not the checks'
  pub passed : n ≤ 4 → (m : ℕ) → (m ≡ 0) ⊎ ((4 < m) × (m < 8)) → (asking n b slip a).number ≡ m → Passed n slip
  passed h m k e = go (eqb (length slip) 16) refl (eqb n 0) refl k e
    where
      go : (w : Bool) → eqb (length slip) 16 ≡ w → (t : Bool) → eqb n 0 ≡ t → (m ≡ 0) ⊎ ((4 < m) × (m < 8))
          → (cond w (cond t a (refuse n b)) (answer 8 b slip)).number ≡ m → Passed n slip
      go true i true j k e = record { of_16 = eqb-true (length slip) 16 i; fine = eqb-true n 0 j }
      go true i false j (inl k) e = absurd (eqb-false n 0 j (e ∙ k))
      go true i false j (inr k) e = absurd (omega (arith, k.0))
      go false i t j (inl k) e = absurd (omega arith)
      go false i t j (inr k) e = absurd (omega (arith, k.1))

  pub through : Passed n slip → asking n b slip a ≡ a
  through p = sym (fine n b slip p.of_16 p.fine a)

  module _ (E : ℕ → Type 0) (beyond : ℕ → ℕ → Type 0) (right : ℕ → Type 0) (best-right : (x : ℕ) → Best E beyond x → right x) (done : ℕ → Type 0) (h : n ≤ 4)
      (answered : Passed n slip → Missed E a ⊎ Met E beyond done a) where
    searched : Searched (Passed n slip) E right done (asking n b slip a)
    searched = record { five = five; none = none_given; some = some_given; given = given }
      where
        is : Passed n slip → (asking n b slip a).number ≡ a.number
        is p = ap (λ (x : Answer). x.number) (through p)

        five : (asking n b slip a).number ≡ 5 → Passed n slip × ((x : ℕ) → E x → ⊥)
        five e = let p = passed h 5 (inr (omega arith, omega arith)) e in (p, go p (answered p))
          where
            go : Passed n slip → Missed E a ⊎ Met E beyond done a → (x : ℕ) → E x → ⊥
            go p (inl m) = m.nothing
            go p (inr m) = absurd (m.other (sym (is p) ∙ e))

        none_given : Passed n slip → ((x : ℕ) → E x → ⊥) → (asking n b slip a).number ≡ 5
        none_given p f = go (answered p)
          where
            go : Missed E a ⊎ Met E beyond done a → (asking n b slip a).number ≡ 5
            go (inl m) = is p ∙ m.five
            go (inr m) = absurd (f m.at m.best.holds)

        some_given : Passed n slip → (x : ℕ) → E x → done (asking n b slip a).number
        some_given p x e = go (answered p)
          where
            go : Missed E a ⊎ Met E beyond done a → done (asking n b slip a).number
            go (inl m) = absurd (m.nothing x e)
            go (inr m) = subst done (sym (is p)) m.so

        given : (asking n b slip a).number ≡ 0 → right (number 8 (asking n b slip a).slip)
        given e = let p = passed h 0 (inl refl) e in go p (answered p)
          where
            go : Passed n slip → Missed E a ⊎ Met E beyond done a → right (number 8 (asking n b slip a).slip)
            go p (inl m) = absurd (omega (arith, sym m.five ∙ sym (is p) ∙ e))
            go p (inr m) =
                let k : number 8 (asking n b slip a).slip ≡ m.at = ap (λ (x : Answer). number 8 x.slip) (through p) ∙ m.named (sym (is p) ∙ e) in
                subst right (sym k) (best-right m.at m.best)

-- what a search answers for a spot, or none: 5, or another number, and where that is 0 the slip's first number is the address
pub record Answers (done : ℕ → Type 0) (answers : Maybe Spot → Answer) : Type 0 where
  pub nowhere : (answers None).number ≡ 5
  pub here : (s : Spot) → done (answers (Some s)).number
  pub other : done 5 → ⊥
  pub first : (s : Spot) → s.at.0 < top → (answers (Some s)).number ≡ 0 → number 8 (answers (Some s)).slip ≡ s.at.0

-- E holds where a test passes, all below the top, and the best that passes is answered
module _ (E : ℕ → Type 0) (test : ℕ → Bool) (passes : (x : ℕ) → test x ≡ true → E x) (holds : (x : ℕ) → E x → (test x ≡ true) × (x < top)) where
  fails : (x : ℕ) → E x → (x < top → test x ≡ false) → ⊥
  fails x e f = clash (test x) (holds x e).0 (f (holds x e).1)

  answered : (beyond : ℕ → ℕ → Type 0) (done : ℕ → Type 0) (answers : Maybe Spot → Answer) → Answers done answers → (w : ℕ → Run) (o : Option ℕ) → Gives test beyond top o
      → Missed E (answers (place_of (hit_of w o))) ⊎ Met E beyond done (answers (place_of (hit_of w o)))
  answered beyond done answers k w none g = inl (record { five = k.nowhere; nothing = λ x e. fails x e (g x) })
  answered beyond done answers k w (some x) g =
      let s : Spot = record { at = record { 0 = x }; run = w x } in
      let d = k.here s in
      let b : Best E beyond x = record { holds = passes x g.0; none_beyond = λ y e m. fails y e (λ l. g.1.1 y l m) } in
      inr (record { at = x; best = b; so = d; other = λ e. k.other (subst done e d); named = k.first s g.1.0 })

pub memory_rises : (L : Layout) (b : List ℕ) → good L b ≡ true → Canonical top (contents L b).memory
memory_rises L b g = good_rises Memory (contents L b).memory (lists_ok L (contents L b) (good_contents_lem L b g) Memory)

-- ---- the best by each search's order

-- what is not below is at or above
at_most : (a b : ℕ) → (b < a → ⊥) → a ≤ b
at_most a b h = go (le_or_lt a b)
  where
    go : (a ≤ b) ⊎ (b < a) → a ≤ b
    go (inl l) = l
    go (inr l) = absurd (h l)

-- below it none is left
best_lowest : (E : ℕ → Type 0) (x : ℕ) → Best E (λ y x. y < x) x → Lowest E x
best_lowest E x b = record { holds = b.holds; least = λ y e. at_most x y (b.none_beyond y e) }

module _ (s : Settings) (E : ℕ → Type 0) (x : ℕ) (b : Best E (Beyond s) x) where
  -- top-down above it none is left
  down_highest : s.direction ≡ 0 → Highest E x
  down_highest d = record { holds = b.holds; most = λ y e. at_most y x (λ l. b.none_beyond y e (inr (d, l))) }

  -- bottom-up, where one is at or above the image end, so is it, and none such is left below it
  up_lowest : s.direction ≡ 1 → (y : ℕ) → AboveImage s E y → Lowest (AboveImage s E) x
  up_lowest d y h =
      record {
        holds = (b.holds, at_most s.image.0 x (λ l. b.none_beyond y h.0 (inl (d, inl (h.1, inl l)))));
        least = λ z i. at_most x z (λ l. b.none_beyond z i.0 (inl (d, inl (i.1, inr l))));
      }

  -- and where none is, none is left above it
  other_highest : s.direction ≡ 1 → ((y : ℕ) → AboveImage s E y → ⊥) → Highest E x
  other_highest d n = record { holds = b.holds; most = λ y e. at_most y x (λ l. b.none_beyond y e (inl (d, inr (below y e (le_or_lt s.image.0 y), l)))) }
    where
      below : (y : ℕ) → E y → (s.image.0 ≤ y) ⊎ (y < s.image.0) → y < s.image.0
      below y e (inl k) = absurd (n y (e, k))
      below y e (inr k) = k

best_by_direction : (s : Settings) (E : ℕ → Type 0) (x : ℕ) → Best E (Beyond s) x → ByDirection s E x
best_by_direction s E x b = record { top_down = down_highest s E x b; bottom_up = up_lowest s E x b; other_way = other_highest s E x b }

-- ---- find and allocate

pub check_low : (L : Layout) (q : Query) (b : List ℕ) → check_number L q b ≤ 4
check_low L q b = go (good L b) (askable q.node q.wish) (power_of_two q.align.0) (eqb q.size.0 0)
  where
    go : (g k p z : Bool) → cond g (cond k (cond p (cond z 4 0) 3) 2) 1 ≤ 4
    go false k p z = omega arith
    go true false p z = omega arith
    go true true false z = omega arith
    go true true true true = omega arith
    go true true true false = omega arith

module _ (L : Layout) (q : Query) (b slip : List ℕ) (done : ℕ → Type 0) (answers : Maybe Spot → Answer) (k : Answers done answers) where
  found_answered : Passed (check_number L q b) slip
      → Missed (Eligible (contents L b) q) (answers (found_place (contents L b) q))
      ⊎ Met (Eligible (contents L b) q) (Beyond (contents L b).settings) done (answers (found_place (contents L b) q))
  unfolding found_place
  found_answered p =
      let s = contents L b in
      let r = number_ready L b q p.fine in
      let w = memory_rises L b r.0.0 in
      answered (Eligible s q) (eligible (window s.settings.limit.0 q) (runs_of s)) (passes_eligible s q r.1)
      (λ x e. (eligible_passes s q r.1 x w e, omega (arith, eligible_ends s q r.1 x w e, r.1))) (Beyond s.settings) done answers k (run_at (runs_of s)) (found s q)
      (found_gives s q)

  found_searched : LooksEligible L q b slip done (asking (check_number L q b) b slip (answers (found_place (contents L b) q)))
  found_searched =
      searched (check_number L q b) b slip (answers (found_place (contents L b) q)) (Eligible (contents L b) q) (Beyond (contents L b).settings)
      (ByDirection (contents L b).settings (Eligible (contents L b) q)) (best_by_direction (contents L b).settings (Eligible (contents L b) q)) done
      (check_low L q b) found_answered

-- so find and next free answer
pub place_answers : (b : List ℕ) → Answers (λ n. n ≡ 0) (place_answer b)
place_answers b = record { nowhere = refl; here = λ s. refl; other = λ e. omega arith; first = λ s l e. slip_first s.at.0 s.run.end.0 l }

pub find_sentence : FindSentence
unfolding find
find_sentence L q b slip = found_searched L q b slip (λ n. n ≡ 0) (place_answer b) (place_answers b)

-- a list is stored, or the table is full
stored : (L : Layout) (k : Kind) (xs : List Region) (b : List ℕ) → OrFull (store L k xs b).number
unfolding store
stored L k xs b = go (leb (length xs) (capacity L k))
  where
    go : (t : Bool) → OrFull (cond t (outcome 0 (block_bytes L (with_list (contents L b) k xs))) (outcome 6 b)).number
    go true = inl refl
    go false = inr refl

pub allocate_answers : (L : Layout) (b : List ℕ) (size : ℕ) → Answers OrFull (allocate_answer L b size)
allocate_answers L b size = record { nowhere = refl; here = λ s. here s.at.0 s.run.end.0 (taking s.at.0) (stored L Taken _ b); other = other; first = λ s l e. first s.at.0 s.run.end.0 (taking s.at.0) l e }
  where
    taking : ℕ → Outcome
    taking a = change_range L Taken (Fill (tag 0 0)) a size b

    here : (a end : ℕ) (o : Outcome) → OrFull o.number → OrFull (reserved b a end o).number
    here a end o n = go (eqb o.number 0)
      where
        go : (t : Bool) → OrFull (cond t (answer 0 o.block (slip_of a end)) (refuse o.number b)).number
        go true = inl refl
        go false = n

    other : OrFull 5 → ⊥
    other (inl e) = omega arith
    other (inr e) = omega arith

    first : (a end : ℕ) (o : Outcome) → a < top → (reserved b a end o).number ≡ 0 → number 8 (reserved b a end o).slip ≡ a
    first a end o l = go (eqb o.number 0) refl
      where
        go : (t : Bool) → eqb o.number 0 ≡ t → (cond t (answer 0 o.block (slip_of a end)) (refuse o.number b)).number ≡ 0
            → number 8 (cond t (answer 0 o.block (slip_of a end)) (refuse o.number b)).slip ≡ a
        go true f e = slip_first a end l
        go false f e = absurd (eqb-false o.number 0 f e)

pub allocate_sentence : AllocateSentence
unfolding allocate
allocate_sentence L q b slip = found_searched L q b slip OrFull (allocate_answer L b q.size.0) (allocate_answers L b q.size.0)

-- ---- next free

pub next_low : (g k : Bool) → cond g (cond k 0 2) 1 ≤ 4
next_low false k = omega arith
next_low true false = omega arith
next_low true true = omega arith

pub next_checked : (g k : Bool) → ◌≡◌ {A = ℕ} (cond g (cond k 0 2) 1) 0 → g ≡ true
next_checked true k e = refl
next_checked false k e = absurd (omega arith)

pub next_free_sentence : NextFreeSentence
unfolding next_free next_place lowest_free
next_free_sentence L p node wish b slip =
    let s = contents L b in
    let a = place_answer b (next_place s p node wish) in
    searched (next_number L node wish b) b slip a (FreeFrom s p node wish) (λ y x. y < x) (Lowest (FreeFrom s p node wish)) (best_lowest (FreeFrom s p node wish)) (λ n. n ≡ 0) (next_low (good L b) (askable node wish))
    (λ d. let w = memory_rises L b (next_checked (good L b) (askable node wish) d.fine) in
    answered (FreeFrom s p node wish) (free_from p node wish (runs_of s)) (passes_free s p node wish) (λ x e. (free_passes s p node wish x w e, free_ends s p node wish x w e)) (λ y x. y < x) (λ n. n ≡ 0)
    (place_answer b) (place_answers b) (run_at (runs_of s)) (lowest_free s p node wish) (lowest_gives (free_from p node wish (runs_of s)) top))
