-- The ranges filled in turn into a scratch table come to what the definition says of all of them at once. Assumes nothing.
use Prim.Native.Nat.{ℕ, suc, ◌+◌, ◌*◌, ◌-◌, ◌/◌, ◌≤◌, ◌<◌}
use native.Mathlib.Numerals.{add-one}
use mathlib.Core.Path.{◌≡◌, refl, sym, ap, ◌∙◌}
use mathlib.Core.Bool.{Bool, true, false, cond, ◌||◌}
use mathlib.Core.List.{List, [], ◌++◌, append-nil}
use native.Mathlib.Omega.{arith}
use lib.Dec.{leb, ltb}
use lib.ListN.{length, take, drop, get_or, replicate, drop_of_length-le}
use lib.Seq.{take-length, take_at}
use borrow.Author.Tests.{le-leb, lt-leb, leb-true, ltb-true}
use Rattle.address.proofs.Tests.{both, and}
use Rattle.regions.specs.declared.Run.{Run}
use Rattle.regions.specs.declared.Region.{Region}
use Rattle.regions.specs.declared.Kind.TheVariants.{Taken}
use Rattle.regions.specs.declared.State.TheVariants.{Absent, Present}
use Rattle.regions.specs.declared.Change.TheVariants.{Fill}
use Rattle.regions.specs.Meaning.{at, shortest, top}
use Rattle.regions.specs.Lists.{legal_tag, good_list}
use Rattle.regions.specs.Changes.{change, after}
use Rattle.regions.specs.Bytes.{read_regions, table_bytes}
use Rattle.regions.specs.Runs.{run_of}
use Rattle.regions.proofs.Numbers.{Bytes}
use Rattle.regions.proofs.Count.{agree}
use Rattle.regions.proofs.RoundTrip.{canonical_shortest, at_shortest, round_trip}
use Rattle.regions.proofs.Rises.{Rises-rises}
use Rattle.regions.proofs.Good.{good_rises, good_legal, good_fits}
use Rattle.regions.proofs.Legal.{legal_state, legal_at, legal_shortest}
use Rattle.regions.proofs.Records.{read_regions_bytes, read_regions_length, regions_bytes_read}
use Rattle.records.specs.declared.table.Tally.{Tally}
use Rattle.records.specs.Totals.{tally}
use Rattle.records.specs.Steps.{Whole}
use Rattle.std.proofs.lemmas.List.{get_or_default}
use Rattle.std.proofs.lemmas.List.Folds.{list_any_more}
use Rattle.records.proofs.Tables.{good_table_lem}
use Rattle.records.proofs.Zeros.{drop_zeros}
use Rattle.change.specs.Steps.{Stored, stored_answer, stored_bytes, Vacant}
use Rattle.std.proofs.Common.{Result, Ok, Err, IsOk}
use Rattle.refusals.specs.declared.Refusal.{Refusal}
use Rattle.refusals.specs.declared.Refusal.TheVariants.{Full}
use Rattle.change.proofs.Filling.{filled_by_one}
use Rattle.block.proofs.Blocks.{table_length, table_longer, table_tail}
use Rattle.range.specs.Outcomes.{tag}
use Rattle.plan.specs.Plan.{lies, any, with_ranges}
use Rattle.plan.specs.Steps.{Apart, AllApart, Spells}

-- ---- a scratch table

module _ (t : List ℕ) (y : Tally) (xs : List Region) (s : Spells t y xs) where
  pub spells_length : length t ≡ 13824
  spells_length = ap (length {A = ℕ}) s.bytes ∙ table_length 576 xs s.room

  count_is : y.count ≡ length xs
  count_is = ap (λ (z : Tally). z.count) s.tally

  pub spells_read : read_regions y.count t ≡ xs
  unfolding table_bytes
  spells_read = rw (count_is, s.bytes) (read_regions_bytes xs (replicate (24 * (576 - length xs)) 0) (good_fits Taken xs s.good))

  pub spells_whole : Whole t y
  spells_whole =
      let n = spells_length in
      let h : 24 * y.count ≤ length t = omega (arith, count_is, s.room) in
      record {
        table = good_table_lem Taken y.count t h (rw spells_read s.good);
        even = omega arith;
        small = omega arith;
        rest = rw (count_is, s.bytes) (table_tail 576 xs);
        total = ap (λ (z : Tally). z.total.0) s.tally ∙ rw spells_read;
      }

-- ---- one range more

module _ (xs : List Region) (rs : List Run) where
  -- the list after the first i ranges
  abbrev pub list_at : ℕ → List Region
  list_at i = shortest (with_ranges (take i rs) (at xs)) top

  module _ (g : good_list Taken xs ≡ true) where
    pub list_first : list_at 0 ≡ xs
    list_first = round_trip top xs (good_rises Taken xs g)

    pub list_good : (i : ℕ) → good_list Taken (list_at i) ≡ true
    unfolding good_list legal_tag
    list_good i = and (Rises-rises (canonical_shortest (with_ranges (take i rs) (at xs)) top)) (legal_shortest Taken (with_ranges (take i rs) (at xs)) top legal)
      where
        legal : (a : ℕ) → legal_state Taken (with_ranges (take i rs) (at xs) a) ≡ true
        legal a = go (any (lies a) (take i rs)) (legal_at Taken xs (good_legal Taken xs g) a)
          where
            go : (b : Bool) → legal_state Taken (at xs a) ≡ true → legal_state Taken (cond b (Present (tag 0 0)) (at xs a)) ≡ true
            go true e = refl
            go false e = e

  module _ (i : ℕ) (l : i < length rs) (d : Run) (w : Apart xs (take i rs) (get_or rs i d)) where
    abbrev ranged : Run
    ranged = get_or rs i d

    -- no address of the range is in the list
    pub list_vacant : Vacant ranged.low.0 ranged.end.0 (list_at i)
    list_vacant a h k = at_shortest (with_ranges (take i rs) (at xs)) top a (omega (arith, w.end)) ∙ w.vacant a h k

    pub list_next : shortest (after (change (Fill (tag 0 0))) ranged.low.0 ranged.end.0 (at (list_at i))) top ≡ list_at (suc i)
    unfolding after change
    list_next = agree _ _ top same
      where
        same : (a : ℕ) → a < top → cond (lies a ranged) (change (Fill (tag 0 0)) (at (list_at i) a)) (at (list_at i) a) ≡ with_ranges (take (suc i) rs) (at xs) a
        same a h =
            rw (← add-one i, list_any_more (lies a) rs i d l, at_shortest (with_ranges (take i rs) (at xs)) top a h)
            (go (any (lies a) (take i rs)) (lies a ranged) (λ e. let p = both (leb ranged.low.0 a) (ltb a ranged.end.0) e in w.vacant a (leb-true ranged.low.0 a p.0) (ltb-true a ranged.end.0 p.1)))
          where
            go : (b c : Bool) → (c ≡ true → cond b (Present (tag 0 0)) (at xs a) ≡ Absent)
                → cond c (change (Fill (tag 0 0)) (cond b (Present (tag 0 0)) (at xs a))) (cond b (Present (tag 0 0)) (at xs a)) ≡ cond (b || c) (Present (tag 0 0)) (at xs a)
            go true true v = refl
            go true false v = refl
            go false true v = rw (v refl)
            go false false v = refl

    pub list_longer : length (list_at (suc i)) ≤ suc (length (list_at i))
    list_longer = rw list_next at (filled_by_one (tag 0 0) ranged.low.0 ranged.end.0 (list_at i) (canonical_shortest (with_ranges (take i rs) (at xs)) top) w.some w.end list_vacant)

-- ---- the loop

-- after i ranges
pub record Upto (t₀ : List ℕ) (y₀ : Tally) (rs : List Run) (t : List ℕ) (y : Tally) (i : ℕ) : Type 0 where
  pub spells : Spells t y (list_at (read_regions y₀.count t₀) rs i)
  pub longer : length (list_at (read_regions y₀.count t₀) rs i) ≤ y₀.count + i

module _ (t₀ : List ℕ) (y₀ : Tally) (rs : List Run) (u : Spells t₀ y₀ (read_regions y₀.count t₀)) (w : AllApart (read_regions y₀.count t₀) rs) where
  abbrev xs : List Region
  xs = read_regions y₀.count t₀

  pub upto_start : Upto t₀ y₀ rs t₀ y₀ 0
  upto_start =
      let e = list_first xs rs u.good in
      record { spells = rw e u; longer = rw e (omega (arith, read_regions_length y₀.count t₀)) }

  pub upto_end : (t : List ℕ) (y : Tally) (i : ℕ) → Upto t₀ y₀ rs t y i → i ≤ length rs → length rs ≤ i
      → Spells t y (shortest (with_ranges rs (at xs)) top)
  upto_end t y i v l m =
      let e : i ≡ length rs = omega arith in
      rw (e, take-length rs) at v.spells

  module _ (t : List ℕ) (y : Tally) (i : ℕ) (v : Upto t₀ y₀ rs t y i) (l : i < length rs) (d : Run) where
    abbrev r : Run
    r = get_or rs i d

    here : get_or rs i (run_of 0 0) ≡ r
    here = get_or_default rs i (run_of 0 0) d l

    apart : Apart xs (take i rs) r
    apart = rw here at (w i l)

    pub fill_whole : Whole t y
    fill_whole = spells_whole t y (list_at xs rs i) v.spells

    pub fill_some : r.low.0 < r.end.0
    fill_some = apart.some

    pub fill_end : r.end.0 ≤ top
    fill_end = apart.end

    pub fill_vacant : Vacant r.low.0 r.end.0 (read_regions y.count t)
    fill_vacant = rw (spells_read t y (list_at xs rs i) v.spells) (list_vacant xs rs i l d apart)

    module _ (full : y₀.count + length rs ≤ 576) (e : List ℕ) (a : Result Tally Refusal) (k : Stored t e (shortest (after (change (Fill (tag 0 0))) r.low.0 r.end.0 (at (read_regions y.count t))) top) a) where
      next : shortest (after (change (Fill (tag 0 0))) r.low.0 r.end.0 (at (read_regions y.count t))) top ≡ list_at xs rs (suc i)
      next = rw (spells_read t y (list_at xs rs i) v.spells) (list_next xs rs i l d apart)

      more : length (list_at xs rs (suc i)) ≤ y₀.count + suc i
      more = omega (arith, list_longer xs rs i l d apart, v.longer)

      room : length t / 24 ≡ 576
      room = omega (arith, spells_length t y (list_at xs rs i) v.spells)

      fits : leb (length (list_at xs rs (suc i))) (length t / 24) ≡ true
      fits = le-leb (length (list_at xs rs (suc i))) (length t / 24) (omega (arith, room, more))

      -- there is always room
      answer_is : a ≡ Ok (tally (list_at xs rs (suc i)))
      unfolding stored_answer
      answer_is = k.answer ∙ rw (next, fits)

      pub fills : IsOk a
      fills = rw answer_is refl

      pub upto_next : (z : Tally) → a ≡ Ok z → Upto t₀ y₀ rs e z (i + 1)
      unfolding stored_bytes
      upto_next z q =
          let b : e ≡ table_bytes 576 (list_at xs rs (suc i)) = k.after ∙ rw (next, fits, room) in
          let p = answer_is in
          let c : z ≡ tally (list_at xs rs (suc i)) = cc in
          rw add-one (record {
            spells = record { bytes = b; tally = c; room = omega (arith, more); good = list_good xs rs u.good (suc i) };
            longer = more;
          })

-- ---- from the table to the scratch table and back

module _ (t : List ℕ) (bs : Bytes t) (y : Tally) (w : Whole t y) (n : length t ≡ 12288) (g : good_list Taken (read_regions y.count t) ≡ true) (rs : List Run)
    (v : AllApart (read_regions y.count t) rs) (few : length rs ≤ 64) (m : ℕ) (em : m ≡ 24 * y.count) (u : List ℕ) (eu : u ≡ take m t ++ drop m (replicate 13824 0)) where
  abbrev old : List Region
  old = read_regions y.count t

  abbrev new : List Region
  new = shortest (with_ranges rs (at old)) top

  counted : length old ≡ y.count
  counted = read_regions_length y.count t

  counts : y.count ≤ 512
  counts = omega (arith, w.table.room)

  copied : u ≡ table_bytes 576 old
  unfolding table_bytes
  copied =
      let z : 13824 - m ≡ 24 * (576 - y.count) = omega (arith, counts) in
      eu ∙ rw (drop_zeros m 13824, z, em, counted, regions_bytes_read y.count t bs w.table.room)

  spelled : Spells u y old
  spelled =
      let c = counted in
      let q = w.total in
      record { bytes = copied; tally = λ i. record { count = sym c i; total = record { 0 = q i } }; room = omega (arith, counts); good = g }

  same : read_regions y.count u ≡ old
  same = spells_read u y old spelled

  pub copied_spells : Spells u y (read_regions y.count u)
  copied_spells = rw same spelled

  pub copied_room : y.count + length rs ≤ 576
  copied_room = omega (arith, counts)

  pub copied_apart : AllApart (read_regions y.count u) rs
  copied_apart = rw same v

  module _ (e : List ℕ) (z : Tally) (k : Spells e z (shortest (with_ranges rs (at (read_regions y.count u))) top)) where
    filled : Spells e z new
    filled = rw same at k

    size_is : z.count ≡ length new
    size_is = ap (λ (x : Tally). x.count) filled.tally

    pub placed_full : length t / 24 < z.count → Stored t t new (Err Full)
    unfolding stored_answer stored_bytes
    placed_full l = let f = lt-leb (length new) (length t / 24) (omega (arith, size_is)) in record { answer = rw f; after = rw f }

    pub placed_done : z.count ≤ length t / 24 → (x : List ℕ) → x ≡ take (length t) e ++ drop (length t) t → Stored t x new (Ok z)
    unfolding stored_answer stored_bytes
    placed_done l x q =
        let f = le-leb (length new) (length t / 24) (omega (arith, size_is)) in
        let c : length new ≤ 512 = omega (arith, size_is) in
        let r : length t / 24 ≡ 512 = omega arith in
        let b : take (length t) e ≡ table_bytes 512 new = rw (n, filled.bytes, table_longer 512 64 new c) (take_at (table_bytes 512 new) (replicate (24 * 64) 0) 12288 (table_length 512 new c)) in
        let d : drop (length t) t ≡ [] = drop_of_length-le t {i = length t} (omega arith) in
        record { answer = rw f (ap Ok filled.tally); after = q ∙ rw (b, d, append-nil, f, r) }
