-- A change builds only the records met anew, in a scratch table; where it leaves few of them a small one is enough. Assumes nothing.
use Prim.Native.Nat.{ℕ, zero, suc, ◌*◌, ◌-◌, ◌/◌, ◌≤◌, ◌<◌}
use mathlib.Core.Path.{◌≡◌, refl, sym, ap, ◌∙◌}
use mathlib.Core.Bool.{true}
use mathlib.Core.List.{List, [], ◌∷◌, ◌++◌}
use mathlib.Core.Logic.{◌⊎◌, inl, inr}
use native.Mathlib.Omega.{arith}
use lib.ListN.{length, take, drop, length-append}
use borrow.Author.Tests.{lt-leb}
use Rattle.regions.specs.declared.Region.{Region}
use Rattle.regions.specs.declared.State.{State}
use Rattle.regions.specs.declared.State.TheVariants.{Absent, Present}
use Rattle.regions.specs.declared.Tag.{Tag}
use Rattle.regions.specs.declared.Change.{Change}
use Rattle.regions.specs.declared.Change.TheVariants.{Fill, Clear, Mark, Unmark}
use Rattle.regions.specs.Meaning.{at, top}
use Rattle.regions.specs.Lists.{rises}
use Rattle.regions.specs.Changes.{change, after}
use Rattle.regions.specs.Bytes.{read_regions}
use Rattle.regions.proofs.Rises.{Canonical, Rises-rises}
use Rattle.regions.proofs.RoundTrip.{canonical_shortest}
use Rattle.regions.proofs.Few.{Ends, Begins, few}
use Rattle.regions.proofs.Middle.{update_apart}
use Rattle.records.specs.declared.table.Tally.{Tally}
use Rattle.lists.specs.declared.Edit.{Edit}
use Rattle.refusals.specs.declared.Refusal.{Refusal}
use Rattle.refusals.specs.declared.Refusal.TheVariants.{Full}
use Rattle.std.specs.Prelude.{Option, None, Some, Result, Err}
use Rattle.change.specs.declared.inplace.Met.{Met}
use Rattle.change.specs.Steps.{starting_by, AllTagged, Uniform, Meets, Stored, TriedAs, stored_answer, stored_bytes}
use Rattle.records.specs.Steps.{put, AllFlagsBounded, Table, Whole}
use Rattle.lists.specs.Steps.{finished, HoldsList}
use Rattle.records.proofs.Placing.{ending_reach}
use Rattle.lists.proofs.Pushing.{holds_count, holds_list, holds_full}
use Rattle.lists.proofs.Walking.{flags_bounded_drop}
use Rattle.change.proofs.Meeting.{starting_rest, starting_above, ending_starting, ending_ends, ends_take, starting_begins, begins_le}
use Rattle.change.proofs.Tagged.{filled_at}
use Rattle.std.proofs.lemmas.List.Elements.{All-take, All-drop}
use Rattle.change.proofs.Splicing.{mid, apart, mid_read, part_room, part_rises, split_rises, mid_rises}

-- ---- parts of a list

flags_bounded_take : (i : ℕ) (xs : List Region) → AllFlagsBounded xs → AllFlagsBounded (take i xs)
flags_bounded_take zero xs h = tt
flags_bounded_take (suc i) [] h = tt
flags_bounded_take (suc i) (r ∷ rs) h = (h.0, flags_bounded_take i rs h.1)

-- ---- few are left

-- a list of one tag that is filled with it, and any that is cleared, get one state everywhere
uniform_at : (c : Change) (xs ys : List Region) → Uniform c ys → ((t : Tag) → AllTagged t ys → AllTagged t xs) → (v : State) × ((a : ℕ) → change c (at xs a) ≡ v)
unfolding change
uniform_at (Fill t) xs ys h f = (Present t, λ a. filled_at t xs a (f t h))
uniform_at Clear xs ys h f = (Absent, λ a. refl)
uniform_at (Mark w) xs ys h f = absurd h
uniform_at (Unmark w) xs ys h f = absurd h

module _ (t : List ℕ) (y : Tally) (d : Edit) (m : Met) (w : Meets t y d m) where
  pub met_order : m.first ≤ m.stop
  met_order =
      omega (arith, w.from, w.to, w.changeable.edit.low, ending_starting (d.lo.0 - 1) d.hi.0 (read_regions y.count t) (omega (arith, w.changeable.edit.low)))

  pub met_most : m.stop ≤ y.count
  met_most = begins_le t y.count d.hi.0 m.stop w.to

  pub met_small : 24 * m.stop < 4294967296
  met_small = omega (arith, met_most, w.whole.table.room, w.whole.small)

  pub met_room : 24 * m.stop ≤ length t
  met_room = omega (arith, met_most, w.whole.table.room)

  -- the part that holds them, and what it says
  abbrev part : List ℕ
  part = take (24 * m.stop - 24 * m.first) (drop (24 * m.first) t)

  met : List Region
  met = mid t y.count m.first m.stop met_order met_most w.whole.table.room

  met_read : read_regions (m.stop - m.first) part ≡ met
  unfolding met
  met_read = mid_read t y.count m.first m.stop met_order met_most w.whole.table.room

  met_rises : Canonical top met
  unfolding met
  met_rises = mid_rises t y.count m.first m.stop met_order met_most w.whole.table.room w.whole.table.rising

  pub part_table : Table part (m.stop - m.first)
  unfolding met mid
  part_table =
      record {
        room = part_room t y.count m.first m.stop met_order met_most w.whole.table.room;
        rising = part_rises t y.count m.first m.stop met_order met_most w.whole.table.room w.whole.table.rising;
        flags_bounded = rw met_read (flags_bounded_take (m.stop - m.first) (drop m.first (read_regions y.count t)) (flags_bounded_drop m.first (read_regions y.count t) w.whole.table.flags_bounded));
      }

  met_ends : Ends (d.lo.0 - 1) met
  unfolding met mid
  met_ends = ends_take (d.lo.0 - 1) (m.stop - m.first) (drop m.first (read_regions y.count t)) (rw w.from (ending_ends (d.lo.0 - 1) (read_regions y.count t)))

  met_begins : Begins d.hi.0 met
  unfolding met mid
  met_begins =
      let x : List Region = read_regions y.count t in
      let s : m.stop - m.first ≡ starting_by d.hi.0 (drop m.first x) = omega (arith, w.to, starting_rest d.hi.0 m.first x (omega (arith, w.to, met_order))) in
      rw s (starting_begins d.hi.0 (drop m.first x))

  -- the finished list of these alone
  abbrev new : List Region
  new = finished d (read_regions (m.stop - m.first) part)

  -- where the change makes one state of a range it is short
  new_few : Uniform d.change (read_regions y.count t) → length new ≤ 3
  unfolding met mid
  new_few h =
      let x : List Region = read_regions y.count t in
      let u = uniform_at d.change met x h (λ g q. All-take (λ (r : Region). r.tag ≡ g) (m.stop - m.first) (drop m.first x) (All-drop (λ (r : Region). r.tag ≡ g) m.first x q)) in
      let e = w.changeable.edit in
      rw met_read (few (change d.change) d.lo.0 d.hi.0 top e.low e.high met u.0 met_rises met_ends met_begins u.1)

  -- the regions before and behind are as they were
  around : finished d (read_regions y.count t) ≡ put m.first m.stop new (read_regions y.count t)
  unfolding put met
  around =
      let x : List Region = read_regions y.count t in
      let k = change d.change in
      let c = split_rises t y.count m.first m.stop met_order met_most w.whole.table.room w.whole.table.rising in
      let e = apart t y.count m.first m.stop met_order met_most w.whole.table.room in
      let p = ending_reach (d.lo.0 - 1) 0 x (omega arith) in
      let q = starting_above d.hi.0 x in
      ap (finished d) e
      ∙ update_apart k d.lo.0 d.hi.0 top (take m.first x) met (drop m.stop x) w.changeable.edit.low w.changeable.edit.high c (rw w.from p) (rw w.to q)
      ∙ sym (ap (λ (z : List Region). take m.first x ++ (finished d z ++ drop m.stop x)) met_read)

  module _ (cap : ℕ) (s : List ℕ) (p : Option ℕ) (c : HoldsList s cap new p) where
    full : p ≡ None → (length t ≤ 3072) ⊎ Uniform d.change (read_regions y.count t) → 128 ≤ cap → Stored t t (finished d (read_regions y.count t)) (Err Full)
    unfolding put stored_answer stored_bytes
    full f (inr u) h = absurd (omega (arith, new_few u, holds_full s cap new p c f))
    full f (inl i) h =
        let x : List Region = read_regions y.count t in
        let u : length t / 24 < length (finished d x) =
        omega (
          arith,
          holds_full s cap new p c f,
          ap (length {A = Region}) around,
          length-append (take m.first x) (new ++ drop m.stop x),
          length-append new (drop m.stop x),
        ) in
        let v = lt-leb (length (finished d x)) (length t / 24) u in
        record { answer = rw v; after = rw v }

    -- what does not fit into the scratch table
    pub tried_full : p ≡ None → TriedAs cap None t t (finished d (read_regions y.count t))
    tried_full f = (refl, full f w.changeable.scratch)

    module _ (n : ℕ) (f : p ≡ Some n) where
      list : read_regions n s ≡ new
      list = holds_list s cap new p c n f

      done : finished d (read_regions y.count t) ≡ put m.first m.stop (read_regions n s) (read_regions y.count t)
      done = around ∙ ap (λ (z : List Region). put m.first m.stop z (read_regions y.count t)) (sym list)

      list_rises : rises 0 Absent top (read_regions n s) ≡ true
      list_rises = rw list (Rises-rises (canonical_shortest (after (change d.change) d.lo.0 d.hi.0 (at (read_regions (m.stop - m.first) part))) top))

      put_rises : rises 0 Absent top (put m.first m.stop (read_regions n s) (read_regions y.count t)) ≡ true
      put_rises = rw (← done) (Rises-rises (canonical_shortest (after (change d.change) d.lo.0 d.hi.0 (at (read_regions y.count t))) top))

      -- what splice asks, and what it makes of the table
      pub splice_ready : 24 * cap ≤ length s
          → Whole t y × (((m.first ≤ m.stop) × (m.stop ≤ y.count)) × ((24 * n ≤ length s) × ((rises 0 Absent top (read_regions n s) ≡ true) × (rises 0 Absent top (put m.first m.stop (read_regions n s) (read_regions y.count t)) ≡ true))))
      splice_ready h = (w.whole, ((met_order, met_most), (omega (arith, (holds_count s cap new p c n f).0), (list_rises, put_rises))))

      pub tried_spliced : (e : List ℕ) (r : Result Tally Refusal) → Stored t e (put m.first m.stop (read_regions n s) (read_regions y.count t)) r
          → TriedAs cap (Some r) t e (finished d (read_regions y.count t))
      tried_spliced e r q = rw done q
