-- The second number of a search's answer is the end of the free run that holds the first. Assumes nothing.
use Prim.Native.Nat.{ℕ, ◌+◌, ◌-◌, ◌≤◌, ◌<◌}
use mathlib.Core.Path.{◌≡◌, refl, sym, ap, subst, ◌∙◌}
use mathlib.Core.Bool.{Bool, true, false}
use mathlib.Core.List.{List}
use mathlib.Core.Logic.{◌⊎◌, inl, inr}
use mathlib.Core.Option.{Option, none, some}
use native.Mathlib.Omega.{arith}
use lib.Dec.{leb, eqb}
use lib.ListN.{drop}
use borrow.Author.Tests.{eqb-true, eqb-false}
use Rattle.address.proofs.Tests.{both, le_or_lt}
use Rattle.regions.specs.declared.Tag.{Tag}
use Rattle.regions.specs.declared.Run.{Run}
use Rattle.regions.specs.declared.State.TheVariants.{Present}
use Rattle.regions.specs.Meaning.{at, top}
use Rattle.regions.specs.Runs.{in_one, OneTag, run_at}
use Rattle.regions.specs.Bytes.{number}
use Rattle.regions.proofs.Free.{runs_at, free_canonical}
use Rattle.regions.proofs.Lying.{Lies, one_in, run_of_lem}
use Rattle.regions.proofs.Rises.{Canonical}
use Rattle.block.specs.Block.{Contents, contents, good}
use Rattle.fits.specs.declared.Query.{Query}
use Rattle.fits.specs.Eligible.{wanted, asks, eligible, Gives}
use Rattle.fits.specs.Places.{hit_of, place_of}
use Rattle.fits.proofs.Eligible.{eligible_lies}
use Rattle.fits.proofs.Extremes.{lowest_gives}
use Rattle.seek.specs.Search.{window, runs_of, found, found_place, free_from, lowest_free, next_place}
use Rattle.search.specs.Answers.{Answer, slip_of, askable, check_number, next_number, asking, place_answer, find, allocate, next_free}
use Rattle.search.specs.DemandTwo.{free_in, Passed, LooksThenReserves}
use Rattle.search.specs.RunEnd.{RunTo, NamesRun, FindRunSentence, AllocateRunSentence, NextFreeRunSentence}
use Rattle.search.proofs.Answering.{number_ready, slip_first, slip_second}
use Rattle.search.proofs.DemandTwo.{passed, through, memory_rises, check_low, next_low, next_checked}
use Rattle.search.proofs.Eligible.{free_below}
use Rattle.seek.proofs.Found.{Beyond, found_gives}
use Rattle.search.proofs.Reserving.{reserve_sentence}

-- ---- the run of an address that lies in one

module _ (s : Contents) (w : Canonical top s.memory) (p : Tag → Bool) (size x : ℕ) (pos : 0 < size) (e : in_one p size x (runs_of s) ≡ true) where
  runs : Canonical top (runs_of s)
  runs = free_canonical s.memory s.taken

  same : OneTag (at (runs_of s)) p size x
  same = (one_in p size x runs e).same

  lies : Lies (runs_of s) same.tag x
  lies = run_of_lem same.tag x runs (same.all x (omega arith) (omega arith))

  is_end_lem : lies.hi ≡ (run_at (runs_of s) x).end.0
  is_end_lem = ap (λ (r : Run). r.end.0) lies.is

  frees : (y : ℕ) → x ≤ y → y < lies.hi → free_in s y ≡ Present same.tag
  frees y i j = sym (runs_at s.memory s.taken w y) ∙ lies.run.all y (omega (arith, lies.low)) j

  run_to : RunTo s p x lies.hi
  run_to = record { tag = same.tag; asked = same.right; free = frees; over = λ f. lies.run.stops (runs_at s.memory s.taken w lies.hi ∙ f) }

  room : x + size ≤ lies.hi
  room = go (le_or_lt (x + size) lies.hi)
    where
      go : (x + size ≤ lies.hi) ⊎ (lies.hi < x + size) → x + size ≤ lies.hi
      go (inl h) = h
      go (inr h) = absurd (lies.run.stops (same.all lies.hi (omega (arith, lies.high)) h))

  below : lies.hi ≤ top
  below = omega (arith, lies.high, free_below s w (lies.hi - 1) same.tag (frees (lies.hi - 1) (omega (arith, lies.high)) (omega (arith, lies.high))))

  -- the slip that is written for it
  named : NamesRun s p size (slip_of x (run_at (runs_of s) x).end.0)
  named =
      let a : number 8 (slip_of x lies.hi) ≡ x = slip_first x lies.hi (omega (arith, lies.high, below)) in
      let z : number 8 (drop 8 (slip_of x lies.hi)) ≡ lies.hi = slip_second x lies.hi below in
      subst (λ (y : ℕ). NamesRun s p size (slip_of x y)) is_end_lem (record { run = rw (a, z) run_to; room = rw (a, z) room })

-- ---- a search that is done

module _ (n : ℕ) (b slip : List ℕ) (low : n ≤ 4) (s : Contents) (p : Tag → Bool) (size : ℕ) (test : ℕ → Bool) (beyond : ℕ → ℕ → Type 0)
    (ready : Passed n slip → Canonical top s.memory × (0 < size)) (lie : (x : ℕ) → test x ≡ true → in_one p size x (runs_of s) ≡ true) where
  names : (o : Option ℕ) → Gives test beyond top o → (asking n b slip (place_answer b (place_of (hit_of (run_at (runs_of s)) o)))).number ≡ 0
      → NamesRun s p size (asking n b slip (place_answer b (place_of (hit_of (run_at (runs_of s)) o)))).slip
  names o g e =
      let d = passed n b slip (place_answer b (place_of (hit_of (run_at (runs_of s)) o))) low 0 (inl refl) e in
      go d o g (through n b slip (place_answer b (place_of (hit_of (run_at (runs_of s)) o))) d) e
    where
      go : Passed n slip → (o : Option ℕ) → Gives test beyond top o → {a : Answer} → a ≡ place_answer b (place_of (hit_of (run_at (runs_of s)) o)) → a.number ≡ 0 → NamesRun s p size a.slip
      go d none g t e = absurd (omega (arith, sym (ap (λ (a : Answer). a.number) t) ∙ e))
      go d (some x) g t e = subst (NamesRun s p size) (sym (ap (λ (a : Answer). a.slip) t)) (named s (ready d).0 p size x (ready d).1 (lie x g.0))

pub find_run_sentence : FindRunSentence
unfolding find found_place
find_run_sentence L q b slip e =
    let s = contents L b in
    let w : Query = window s.settings.limit.0 q in
    names (check_number L q b) b slip (check_low L q b) s (asks q) q.size.0 (eligible w (runs_of s)) (Beyond s.settings)
    (λ d. let r = number_ready L b q d.fine in (memory_rises L b r.0.0, r.1)) (λ x t. (eligible_lies w (runs_of s) x t).run) (found s q) (found_gives s q) e

pub next_free_run_sentence : NextFreeRunSentence
unfolding next_free next_place lowest_free
next_free_run_sentence L p node wish b slip e =
    let s = contents L b in
    names (next_number L node wish b) b slip (next_low (good L b) (askable node wish)) s (wanted node wish) 1 (free_from p node wish (runs_of s)) (λ y x. y < x)
    (λ d. (memory_rises L b (next_checked (good L b) (askable node wish) d.fine), omega arith)) (λ x t. (both (leb p x) (in_one (wanted node wish) 1 x (runs_of s)) t).1)
    (lowest_free s p node wish) (lowest_gives (free_from p node wish (runs_of s)) top) e

-- what allocate writes is what find writes, of the block before the call
pub allocate_run_sentence : AllocateRunSentence
allocate_run_sentence L q b slip e = go (eqb (find L q b slip).number 0) refl
  where
    both_say : LooksThenReserves L q b slip
    both_say = reserve_sentence L q b slip

    go : (t : Bool) → eqb (find L q b slip).number 0 ≡ t → NamesRun (contents L b) (asks q) q.size.0 (allocate L q b slip).slip
    go true f = subst (NamesRun (contents L b) (asks q) q.size.0) (sym (both_say.written e)) (find_run_sentence L q b slip (eqb-true (find L q b slip).number 0 f))
    go false f =
        let d = eqb-false (find L q b slip).number 0 f in
        absurd (d (sym (ap (λ (a : Answer). a.number) (both_say.refused d)) ∙ e))
