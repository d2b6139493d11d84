-- The checks of a search, and the answers of find and next free, one by one. Assumes nothing.
use Prim.Native.Nat.{ℕ, ◌+◌, ◌≤◌, ◌<◌}
use mathlib.Core.Path.{◌≡◌, refl, sym, ap, ◌∙◌}
use mathlib.Core.Bool.{Bool, true, false, cond, not}
use mathlib.Core.List.{List, [], append-nil}
use mathlib.Core.Option.{Option, none, some}
use native.Mathlib.Omega.{arith}
use lib.Dec.{eqb, lit<}
use lib.ListN.{length, drop, replicate, length-append}
use lib.Seq.{sets, sets-eq, drop_at, drop-length}
use borrow.Author.Tests.{eq-eqb, ne_eqb, eqb-true, eqb-false, not-true, not-false}
use Rattle.address.proofs.Tests.{zero_not_one}
use Rattle.address.specs.Numbers.{power_of_two}
use Rattle.address.specs.declared.Address.{Address}
use Rattle.address.proofs.Powers.{power_of}
use Rattle.regions.specs.Meaning.{top, top_is}
use Rattle.regions.specs.Bytes.{number, bytes}
use Rattle.regions.proofs.Numbers.{number_bytes, bytes_length, sets_append}
use Rattle.block.specs.declared.Layout.{Layout}
use Rattle.block.specs.Block.{current, contents, good}
use Rattle.block.proofs.Blocks.{good_here}
use Rattle.regions.specs.Runs.{run_at}
use Rattle.fits.specs.declared.Query.{Query}
use Rattle.std.specs.Prelude.{Option as Maybe, Some, None}
use Rattle.fits.specs.declared.Spot.{Spot}
use Rattle.seek.specs.Search.{window, runs_of, found, found_place, next_place}
use Rattle.search.specs.Answers.{Answer, answer, refuse, slip_of, askable, refusal, check_number, next_number, asking, place_answer, find, next_free}
use Rattle.fits.specs.Places.{hit_of, place_of}
use Rattle.seek.specs.Steps.{Ready, next_query}
use Rattle.search.specs.Steps.{begun, Told}
use Rattle.change.specs.Steps.{Vacant}
use Rattle.seek.proofs.Found.{eligible_below, eligible_vacant, found_eligible}

-- ---- the checks

module _ (q : Query) (k : Bool) (y : k ≡ askable q.node q.wish) where
  pub refused_ask : not k ≡ true → 2 ≡ refusal q
  refused_ask i = rw (← y, not-true k i)

  module _ (i : not k ≡ false) (p : Bool) (z : p ≡ power_of_two q.align.0) where
    pub refused_power : not p ≡ true → 3 ≡ refusal q
    refused_power j = rw (← y, not-false k i, ← z, not-true p j)

    module _ (j : not p ≡ false) where
      pub refused_size : q.size.0 ≡ 0 → 4 ≡ refusal q
      refused_size e = rw (← y, not-false k i, ← z, not-false p j, eq-eqb q.size.0 0 e)

      pub refused_not : (q.size.0 ≡ 0 → ⊥) → 0 ≡ refusal q
      refused_not e = rw (← y, not-false k i, ← z, not-false p j, ne_eqb q.size.0 0 e)

module _ (L : Layout) (is : L ≡ current) (b : List ℕ) (q : Query) (g : Bool) (x : g ≡ good L b) where
  module _ (h : not g ≡ false) (k : Bool) (y : k ≡ askable q.node q.wish) where
    pub check_ask : not k ≡ true → 2 ≡ check_number current q b
    check_ask i = rw (good_here L is b g x h, ← y, not-true k i)

    module _ (i : not k ≡ false) (p : Bool) (z : p ≡ power_of_two q.align.0) where
      pub check_power : not p ≡ true → 3 ≡ check_number current q b
      check_power j = rw (good_here L is b g x h, ← y, not-false k i, ← z, not-true p j)

      module _ (j : not p ≡ false) where
        pub check_size : q.size.0 ≡ 0 → 4 ≡ check_number current q b
        check_size e = rw (good_here L is b g x h, ← y, not-false k i, ← z, not-false p j, eq-eqb q.size.0 0 e)

        pub check_fine : (q.size.0 ≡ 0 → ⊥) → 0 ≡ check_number current q b
        check_fine e = rw (good_here L is b g x h, ← y, not-false k i, ← z, not-false p j, ne_eqb q.size.0 0 e)

-- the number is 0 where the block is good, the node and the wish may be asked for, the alignment a power of two and the size not 0
passed : (g k p z : Bool) → ◌≡◌ {A = ℕ} (cond g (cond k (cond p (cond z 4 0) 3) 2) 1) 0 → ((g ≡ true) × (k ≡ true)) × ((p ≡ true) × (z ≡ false))
passed false k p z e = absurd (omega arith)
passed true false p z e = absurd (omega arith)
passed true true false z e = absurd (omega arith)
passed true true true true e = absurd (omega arith)
passed true true true false e = ((refl, refl), (refl, refl))

-- what the number 0 says of a query and a block
pub number_ready : (L : Layout) (b : List ℕ) (q : Query) → check_number L q b ≡ 0 → ((good L b ≡ true) × (power_of_two q.align.0 ≡ true)) × (0 < q.size.0)
number_ready L b q e =
    let t = passed (good L b) (askable q.node q.wish) (power_of_two q.align.0) (eqb q.size.0 0) e in
    let z = eqb-false q.size.0 0 t.1.1 in
    ((t.0.0, t.1.0), omega arith)

-- ---- the slip

pub slip_written : (s x y : List ℕ) (a e : ℕ) → length s ≡ 16 → x ≡ sets s 0 (bytes 8 a) → y ≡ sets x 8 (bytes 8 e) → y ≡ slip_of a e
slip_written s x y a e l f g =
    let n : length (slip_of a e) ≡ 16 = length-append (bytes 8 a) (bytes 8 e) ∙ omega (arith, bytes_length 8 a, bytes_length 8 e) in
    let d : drop (0 + length (slip_of a e)) s ≡ [] = rw (n, ← l) (drop-length s) in
    let h : sets s 0 (slip_of a e) ≡ slip_of a e = sets-eq (slip_of a e) s 0 (omega arith) ∙ rw d (append-nil (slip_of a e)) in
    g ∙ rw f (sym (sets_append s 0 (bytes 8 a) (bytes 8 e) ∙ rw bytes_length)) ∙ h

-- its two numbers, read back
pub slip_first : (x y : ℕ) → x < top → number 8 (slip_of x y) ≡ x
slip_first x y h = number_bytes 8 x (bytes 8 y) (omega (arith, top_is))

pub slip_second : (x y : ℕ) → y ≤ top → number 8 (drop 8 (slip_of x y)) ≡ y
slip_second x y h =
    ap (number 8) (drop_at (bytes 8 x) (bytes 8 y) 8 (bytes_length 8 x)) ∙ rw append-nil at (number_bytes 8 y [] (omega (arith, top_is)))

-- ---- the slip and the checks, and then the answer

module _ (k : ℕ) (b s : List ℕ) where
  -- once they have passed, what is answered then is the answer
  pub fine : length s ≡ 16 → k ≡ 0 → (a : Answer) → a ≡ asking k b s a
  fine l e a = rw (eq-eqb (length s) 16 l, eq-eqb k 0 e)

  -- the number n says whether they have
  module _ (n : ℕ) (z : List ℕ) (e : answer n b z ≡ begun k b s) where
    pub stopped : (n ≡ 0 → ⊥) → (a : Answer) → answer n b z ≡ asking k b s a
    stopped f a = go (eqb (length s) 16) e
      where
        go : (t : Bool) → answer n b z ≡ cond t (refuse k b) (answer 8 b s) → answer n b z ≡ cond t (cond (eqb k 0) a (refuse k b)) (answer 8 b s)
        go true h = let i : k ≡ 0 → ⊥ = λ x. f (ap (λ (y : Answer). y.number) h ∙ x) in rw (ne_eqb k 0 i) h
        go false h = h

    pub passed_on : n ≡ 0 → (length s ≡ 16) × ((k ≡ 0) × (z ≡ replicate 16 0))
    passed_on f = go (eqb (length s) 16) refl e
      where
        go : (t : Bool) → eqb (length s) 16 ≡ t → answer n b z ≡ cond t (refuse k b) (answer 8 b s) → (length s ≡ 16) × ((k ≡ 0) × (z ≡ replicate 16 0))
        go true l h = (eqb-true (length s) 16 l, (sym (ap (λ (y : Answer). y.number) h) ∙ f, ap (λ (y : Answer). y.slip) h))
        go false l h = absurd (omega (arith, ap (λ (y : Answer). y.number) h))

    pub goes_on : n ≡ 0 → (a : Answer) → a ≡ asking k b s a
    goes_on f = fine (passed_on f).0 (passed_on f).1.0

    pub still_zero : n ≡ 0 → z ≡ replicate 16 0
    still_zero f = (passed_on f).1.1

-- ---- what was found

module _ (p : Maybe Spot) (s : List ℕ) where
  pub told_none : s ≡ replicate 16 0 → p ≡ None → Told p 5 s
  told_none e f b = rw f (ap (answer 5 b) e)

  pub told_some : (v : Spot) → p ≡ Some v → s ≡ slip_of v.at.0 v.run.end.0 → Told p 0 s
  told_some v f e b = rw f (ap (answer 0 b) e)

-- ---- find

-- what is found in a good block ends at the top or below, and no address of it is taken
pub found_vacant : (b : List ℕ) (q : Query) → Ready b q → (f : Maybe Spot) → f ≡ found_place (contents current b) q → (v : Spot) → f ≡ Some v
    → (v.at.0 + q.size.0 ≤ top) × Vacant v.at.0 (v.at.0 + q.size.0) (contents current b).taken
unfolding found_place
found_vacant b q p f e v g = go (found (contents current b) q) refl (sym g ∙ e)
  where
    go : (o : Option ℕ) → found (contents current b) q ≡ o → Some v ≡ place_of (hit_of (run_at (runs_of (contents current b))) o)
        → (v.at.0 + q.size.0 ≤ top) × Vacant v.at.0 (v.at.0 + q.size.0) (contents current b).taken
    go none h i = absurd (zero_not_one cc)
    go (some x) h i =
        let s = contents current b in
        let y : v.at ≡ record { 0 = x } = cc in
        let l = found_eligible s q x h in
        rw y (eligible_below (window s.settings.limit.0 q) s x p.size l, eligible_vacant (window s.settings.limit.0 q) s x p.size l)

module _ (b s : List ℕ) (q : Query) (n : ℕ) (z : List ℕ) (e : answer n b z ≡ begun (check_number current q b) b s) where
  pub begun_ready : n ≡ 0 → Ready b q
  begun_ready f =
      let t = number_ready current b q (passed_on (check_number current q b) b s n z e f).1.0 in
      record { good = t.0.0; size = t.1; align = t.0.1 }

  pub find_refused : (n ≡ 0 → ⊥) → answer n b z ≡ find current q b s
  unfolding find
  find_refused f = stopped (check_number current q b) b s n z e f (place_answer b (found_place (contents current b) q))

  pub find_told : n ≡ 0 → (p : Maybe Spot) → p ≡ found_place (contents current b) q → (m : ℕ) (y : List ℕ) → Told p m y → answer m b y ≡ find current q b s
  unfolding find
  find_told f p o m y t = t b ∙ ap (place_answer b) o ∙ goes_on (check_number current q b) b s n z e f (place_answer b (found_place (contents current b) q))

-- ---- next free

-- it makes the checks of find: 1 is a power of two, and a size of 1 is not 0
next_checks : (b : List ℕ) (p : Address) (node wish : ℕ) → check_number current (next_query p node wish) b ≡ next_number current node wish b
next_checks b p node wish = let e : power_of_two 1 ≡ true = power_of 64 0 (lit< tt) in rw e

module _ (b s : List ℕ) (p : Address) (node wish : ℕ) (q : Query) (k : q ≡ next_query p node wish) (n : ℕ) (z : List ℕ) (e : answer n b z ≡ begun (check_number current q b) b s) where
  as_next : answer n b z ≡ begun (next_number current node wish b) b s
  as_next = rw (k, next_checks b p node wish) at e

  pub next_refused : (n ≡ 0 → ⊥) → answer n b z ≡ next_free current p.0 node wish b s
  unfolding next_free
  next_refused f = stopped (next_number current node wish b) b s n z as_next f (place_answer b (next_place (contents current b) p.0 node wish))

  pub next_good : n ≡ 0 → good current b ≡ true
  next_good f = (begun_ready b s q n z e f).good

  pub next_told : n ≡ 0 → (r : Maybe Spot) → r ≡ next_place (contents current b) p.0 node wish → (m : ℕ) (y : List ℕ) → Told r m y
      → answer m b y ≡ next_free current p.0 node wish b s
  unfolding next_free
  next_told f r o m y t = t b ∙ ap (place_answer b) o ∙ goes_on (next_number current node wish b) b s n z as_next f (place_answer b (next_place (contents current b) p.0 node wish))
