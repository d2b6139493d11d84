-- A sweep over two tables' bytes: where it begins, and what each record read makes of it. Assumes nothing.
use Prim.Native.Nat.{ℕ, zero, suc, ◌+◌, ◌-◌, ◌*◌, ◌≤◌, ◌<◌, max}
use mathlib.Core.Path.{◌≡◌, refl, sym, ap, ◌∙◌}
use mathlib.Core.Bool.{Bool, true, false, not}
use mathlib.Core.List.{List, ◌∷◌}
use mathlib.Core.Logic.{◌⊎◌, inl, inr}
use native.Mathlib.Omega.{arith}
use lib.ListN.{drop}
use borrow.Author.Tests.{ne_eqb, le-leb, lt-leb, not-true, not-false}
use Rattle.std.specs.Prelude.{Some}
use Rattle.address.specs.declared.Address.{Address}
use Rattle.address.proofs.Tests.{le_or_lt, zero_not_one}
use Rattle.regions.specs.declared.Kind.TheVariants.{Memory, Taken}
use Rattle.regions.specs.declared.Region.{Region}
use Rattle.regions.specs.declared.State.TheVariants.{Absent, Present}
use Rattle.regions.specs.Meaning.{end, at, top, top_is}
use Rattle.regions.specs.Free.{usable, free_runs}
use Rattle.regions.specs.Changes.{has}
use Rattle.regions.specs.Bytes.{read_region}
use Rattle.regions.specs.Steps.{Parted}
use Rattle.regions.proofs.Rises.{Canonical}
use Rattle.regions.proofs.RoundTrip.{at_here, at_before, at_past, rises_end, rises_below, rises_above}
use Rattle.regions.proofs.Trim.{rises_apart}
use Rattle.regions.proofs.Free.{free_memory_lem}
use Rattle.regions.proofs.Good.{good_rises}
use Rattle.records.specs.declared.table.Records.{Records}
use Rattle.records.specs.Steps.{Table, ending_by}
use Rattle.records.proofs.Placing.{ending_above, place_le}
use Rattle.records.proofs.Parts.{table_rises, none_left, rest_begins, ends_by_top}
use Rattle.runs.specs.declared.Bounds.{Bounds}
use Rattle.runs.specs.declared.Tables.{Tables}
use Rattle.runs.specs.Steps.{bounds_of, bounds_low, bounds_high, regions_of, memory_of, taken_of, GoodTables}
use Rattle.runs.proofs.Steps.{memory_table, taken_table}
use Rattle.sweep.specs.declared.Sweep.{Sweep}
use Rattle.sweep.specs.Steps.{Left, Ahead, Advanced}
use Rattle.sweep.proofs.Ahead.{Splits, splits, is_taken, nothing_left, record-skipped, record-bare, record-taken, rest_run, rest_left, taken_left, gap_run, gap_after, gap_none}

-- ---- records of a table

-- record i, and those behind it
drop_one : (t : Records) (i : ℕ) → Table t.bytes.now t.count → i < t.count → drop i (regions_of t) ≡ read_region (drop (24 * i) t.bytes.now) ∷ drop (i + 1) (regions_of t)
drop_one t i w h = rest_begins t.bytes.now t.count i w (omega arith) h (read_region (drop (24 * i) t.bytes.now)) refl

-- ---- where the record before a place ends

abbrev record-at : Records → ℕ → Region
record-at t k = read_region (drop (24 * k) t.bytes.now)

abbrev last_end : Records → ℕ → ℕ
last_end t i = (bounds_high t i).end.0

last_is : (t : Records) (k : ℕ) → last_end t (suc k) ≡ end (record-at t k)
last_is t k =
    let m : suc k - 1 ≡ k = omega arith in
    let z : suc k ≡ 0 → ⊥ = λ e. omega arith in
    let h : bounds_high t (suc k) ≡ bounds_of (record-at t k) = rw (ne_eqb (suc k) 0 z, m) in
    ap (λ (b : Bounds). b.end.0) h

-- from there on the records from the place on say all
record Passed (xs : List Region) (i a : ℕ) : Type 0 where
  below : a ≤ top
  from : (b : ℕ) → a ≤ b → at xs b ≡ at (drop i xs) b
  there : (b : ℕ) → suc b ≡ a → at xs b ≡ Absent → ⊥
  parted : Parted xs a

passed : (t : Records) (i : ℕ) → Table t.bytes.now t.count → i ≤ t.count → Passed (regions_of t) i (last_end t i)
passed t zero w h =
    record { below = omega arith; from = λ b l. refl; there = λ b y. absurd (omega arith); parted = λ b u y. absurd (omega arith) }
passed t (suc k) w h =
    let o : k + 1 ≡ suc k = omega arith in
    rw (last_is t k) (go (splits xs (table_rises t.bytes.now t.count w) k r (drop (suc k) xs) (rw o at (drop_one t k w (omega arith)))))
  where
    xs : List Region
    xs = regions_of t

    r : Region
    r = record-at t k

    last : Splits xs k r (drop (suc k) xs) → (b : ℕ) → suc b ≡ end r → at xs b ≡ Present r.tag
    last s b y = s.from b (omega (arith, s.some)) ∙ at_here r (drop (suc k) xs) b (omega (arith, s.some)) (omega arith)

    go : Splits xs k r (drop (suc k) xs) → Passed xs (suc k) (end r)
    go s =
        record {
          below = rises_end s.rest;
          from = λ b l. s.from b (omega (arith, s.some)) ∙ at_past r (drop (suc k) xs) b l;
          there = λ b y e. let d = sym (last s b y) ∙ e in zero_not_one cc;
          parted = λ b u y e f. rises_apart s.rest (sym (s.from (end r) (omega (arith, s.some)) ∙ at_past r (drop (suc k) xs) (end r) (omega arith)) ∙ f ∙ sym e ∙ last s b y);
        }

-- and it ends at or below the address whose place it is
last_low_lem : (t : Records) (a i : ℕ) → i ≡ ending_by a (regions_of t) → last_end t i ≤ a
last_low_lem t a zero e = omega arith
last_low_lem t a (suc k) e =
    rw (last_is t k) (go (le_or_lt (end (record-at t k)) a))
  where
    go : (end (record-at t k) ≤ a) ⊎ (a < end (record-at t k)) → end (record-at t k) ≤ a
    go (inl l) = l
    go (inr l) = absurd (omega (arith, ending_above a k t.count t.bytes.now (omega (arith, place_le t.bytes.now t.count a (suc k) e)) l))

-- ---- where a sweep begins

module _ (t : Tables) where
  abbrev ms : List Region
  ms = memory_of t

  abbrev ts : List Region
  ts = taken_of t

  abbrev runs : List Region
  runs = free_runs ms ts

  module _ (p : GoodTables t) where
    memory_rises : Canonical top ms
    memory_rises = good_rises Memory ms p.good_memory

    taken_rises : Canonical top ts
    taken_rises = good_rises Taken ts p.good_taken

    first_edge : (i j x y : ℕ) → Passed ms i x → Passed ts j y → Parted runs (max x y)
    first_edge i j x y m u b t e f g = go (le_or_lt x y)
      where
        taken_there : suc b ≡ y → (v : _) → at ts b ≡ v → ⊥
        taken_there z Absent h = u.there b z h
        taken_there z (Present s) h = let d = sym (is_taken ms ts memory_rises b s h) ∙ f in zero_not_one cc

        go : (x ≤ y) ⊎ (y < x) → ⊥
        go (inl l) = taken_there (omega arith) (at ts b) refl
        go (inr l) =
            let z : max x y ≡ x = omega arith in
            m.parted b t (e ∙ z) (free_memory_lem ms ts memory_rises b t f) (free_memory_lem ms ts memory_rises x t (rw z at g))

    module _ (a : Address) (i j : ℕ) (d : i ≡ ending_by a.0 ms) (e : j ≡ ending_by a.0 ts) (x y : Bounds) (f : x ≡ bounds_high t.memory i) (g : y ≡ bounds_high t.taken j)
        (low : Address) (h : low.0 ≡ max x.end.0 y.end.0) where
      pub begins_low : low.0 ≤ a.0
      begins_low = rw (h, f, g) (omega (arith, last_low_lem t.memory a.0 i d, last_low_lem t.taken a.0 j e))

      pub begins_ahead : (next : Bounds) → next ≡ bounds_low t.taken j
          → Ahead t (record { low = low; top = record { 0 = 0 }; memory = i; taken = j; next = next })
      begins_ahead next n =
          let k = place_le t.memory.bytes.now t.memory.count a.0 i d in
          let l = place_le t.taken.bytes.now t.taken.count a.0 j e in
          let m : Passed ms i x.end.0 = rw f (passed t.memory i (memory_table t p) k) in
          let u : Passed ts j y.end.0 = rw g (passed t.taken j (taken_table t p) l) in
          record {
            few = k;
            places = l;
            small = omega (arith, m.below, u.below);
            next = n;
            left = record {
              edge = rw h (first_edge i j x.end.0 y.end.0 m u);
              taken = λ b z. u.from b (omega arith);
              memory = λ b z v. ap usable (m.from b (omega arith));
              hand = λ z. absurd (omega arith);
            };
          }

  -- ---- a turn

  -- the sweep that began at c has come to low, and nothing is free between
  pub record Sweeps (c low hi : Address) (i j : ℕ) (next : Bounds) : Type 0 where
    pub tables : GoodTables t
    pub ahead : Ahead t (record { low = low; top = hi; memory = i; taken = j; next = next })
    pub from : c.0 ≤ low.0
    pub bare : (b : ℕ) → c.0 ≤ b → b < low.0 → at runs b ≡ Absent

  pub sweep_start : (s : Sweep) → GoodTables t → Ahead t s
      → Sweeps s.low s.low s.top s.memory s.taken s.next
  sweep_start s p a = record { tables = p; ahead = a; from = omega arith; bare = λ b x y. absurd (omega arith) }

  module _ {c low hi : Address} {i j : ℕ} {next : Bounds} (s : Sweeps c low hi i j next) where
    -- what is bare up to low, and from there on, is bare
    joined : (d : ℕ) → ((b : ℕ) → low.0 ≤ b → b < d → at runs b ≡ Absent) → (b : ℕ) → c.0 ≤ b → b < d → at runs b ≡ Absent
    joined d f b x y = go (le_or_lt low.0 b)
      where
        go : (low.0 ≤ b) ⊎ (b < low.0) → at runs b ≡ Absent
        go (inl z) = f b z y
        go (inr z) = s.bare b x z

    abbrev left : Left ms ts low.0 hi.0 i j
    left = s.ahead.left

    module _ (h : hi.0 ≤ low.0) where
      pub sweep_over : t.memory.count ≤ i → (b : ℕ) → c.0 ≤ b → at runs b ≡ Absent
      sweep_over k b l = go (le_or_lt low.0 b)
        where
          go : (low.0 ≤ b) ⊎ (b < low.0) → at runs b ≡ Absent
          go (inl z) = nothing_left ms ts (memory_rises s.tables) left h (none_left t.memory.bytes.now t.memory.count i (memory_table t s.tables) s.ahead.few k) b z
          go (inr z) = s.bare b l z

      module _ (k : i < t.memory.count) {r : Region} (e : r ≡ read_region (drop (24 * i) t.memory.bytes.now)) where
        here : drop i ms ≡ r ∷ drop (i + 1) ms
        here = rest_begins t.memory.bytes.now t.memory.count i (memory_table t s.tables) s.ahead.few k r e

        -- a no-map record
        pub sweep_skip : (b : Bool) → b ≡ has 4 r.tag.flags → not b ≡ false → Sweeps c low hi (i + 1) j next
        sweep_skip b f n =
            let u : usable (Present r.tag) ≡ Absent = rw (← f, not-false b n) in
            record {
              tables = s.tables;
              ahead = record {
                few = omega arith;
                places = s.ahead.places;
                small = s.ahead.small;
                next = s.ahead.next;
                left = record-skipped ms ts (memory_rises s.tables) left h r here u;
              };
              from = s.from;
              bare = s.bare;
            }

        -- any other comes to hand
        pub sweep_take : (b : Bool) → b ≡ has 4 r.tag.flags → not b ≡ true → {low' hi' : Address} → hi'.0 ≡ end r → low'.0 ≡ max low.0 r.base.0 → Sweeps c low' hi' (i + 1) j next
        sweep_take b x n {low'} {hi'} f g =
            let u : usable (Present r.tag) ≡ Present r.tag = rw (← x, not-true b n) in
            let v : Left ms ts low'.0 hi'.0 (i + 1) j = rw (f, g) (record-taken ms ts (memory_rises s.tables) left h r here u) in
            let o = ends_by_top t.memory.bytes.now t.memory.count i (memory_table t s.tables) s.ahead.few k r e in
            let d = record-bare ms ts (memory_rises s.tables) left h r here in
            record {
              tables = s.tables;
              ahead = record { few = omega arith; places = s.ahead.places; small = omega (arith, s.ahead.small); next = s.ahead.next; left = v };
              from = omega (arith, s.from);
              bare = joined low'.0 (λ b x y. d b x (omega arith));
            }

    module _ (h : low.0 < hi.0) where
      -- the record at hand ends at the top or below
      small : hi.0 < 18446744073709551616
      small = go (le_or_lt 18446744073709551615 (hi.0 - 1))
        where
          go : (18446744073709551615 ≤ hi.0 - 1) ⊎ (hi.0 - 1 < 18446744073709551615) → hi.0 < 18446744073709551616
          go (inr l) = omega arith
          go (inl l) =
              let own = left.hand h in
              let d = sym (ap usable (rises_above (hi.0 - 1) (memory_rises s.tables) (omega (arith, top_is)))) ∙ own.all (hi.0 - 1) (omega arith) (omega arith) in
              absurd (zero_not_one cc)

      -- no taken record begins in what is at hand
      clear : hi.0 ≤ next.base.0 → (t.taken.count ≤ j) ⊎ (j < t.taken.count) → (b : ℕ) → b < hi.0 → at (drop j ts) b ≡ Absent
      unfolding at
      clear k (inl o) b l = ap (λ (xs : List Region). at xs b) (none_left t.taken.bytes.now t.taken.count j (taken_table t s.tables) s.ahead.places o)
      clear k (inr o) b l =
          let v : Region = read_region (drop (24 * j) t.taken.bytes.now) in
          let e = drop_one t.taken j (taken_table t s.tables) o in
          let d = splits ts (taken_rises s.tables) j v (drop (j + 1) ts) e in
          let n : next ≡ bounds_of v = s.ahead.next ∙ rw (lt-leb t.taken.count j o) in
          let m : next.base.0 ≡ v.base.0 = ap (λ (x : Bounds). x.base.0) n in
          ap (λ (xs : List Region). at xs b) e ∙ at_before v (drop (j + 1) ts) b (omega arith) ∙ rises_below b d.rest (omega (arith, d.some))

      pub sweep_last : hi.0 ≤ next.base.0 → (x : Sweep) → x.low ≡ c
          → Advanced t x (Some (record { low = low; end = hi; behind = record { low = hi; top = hi; memory = i; taken = j; next = next } }))
      sweep_last k x z =
          let w = memory_rises s.tables in
          let f = clear k (le_or_lt t.taken.count j) in
          rw z (
            record { run = rest_run ms ts w left h f c.0 s.from s.bare; onward = omega arith; after = λ b p q. absurd (omega arith) },
            record { few = s.ahead.few; places = s.ahead.places; small = omega (arith, top_is, small); next = s.ahead.next; left = rest_left ms ts w left h f },
          )

      -- the next one does
      module _ (k : next.base.0 < hi.0) where
        abbrev v : Region
        v = read_region (drop (24 * j) t.taken.bytes.now)

        there : (t.taken.count ≤ j) ⊎ (j < t.taken.count) → j < t.taken.count
        there (inr l) = l
        there (inl l) =
            let n : next.base.0 ≡ 18446744073709551615 = ap (λ (x : Bounds). x.base.0) s.ahead.next ∙ rw (le-leb t.taken.count j l) in
            absurd (omega (arith, small))

        pub one_more : j < t.taken.count
        one_more = there (le_or_lt t.taken.count j)

        pub one_less : (t.memory.count - i) + (t.taken.count - (j + 1)) < (t.memory.count - i) + (t.taken.count - j)
        one_less = omega (arith, one_more)

        bounds : next ≡ bounds_of v
        bounds = s.ahead.next ∙ rw (lt-leb t.taken.count j one_more)

        base_is : next.base.0 ≡ v.base.0
        base_is = ap (λ (x : Bounds). x.base.0) bounds

        end_is : next.end.0 ≡ end v
        end_is = ap (λ (x : Bounds). x.end.0) bounds

        split : drop j ts ≡ v ∷ drop (j + 1) ts
        split = drop_one t.taken j (taken_table t s.tables) one_more

        module _ {low' : Address} {next' : Bounds} (f : low'.0 ≡ max low.0 next.end.0) (g : next' ≡ bounds_low t.taken (j + 1)) where
          behind : Ahead t (record { low = low'; top = hi; memory = i; taken = j + 1; next = next' })
          behind =
              let e : low'.0 ≡ max low.0 (end v) = rw (← end_is) f in
              let d = ends_by_top t.taken.bytes.now t.taken.count j (taken_table t s.tables) s.ahead.places one_more v refl in
              record {
                few = s.ahead.few;
                places = omega (arith, one_more);
                small = omega (arith, s.ahead.small);
                next = g;
                left = rw e (taken_left ms ts (memory_rises s.tables) left h (taken_rises s.tables) v split (omega (arith, base_is)));
              }

          -- above low
          pub sweep_gap : low.0 < next.base.0 → (x : Sweep) → x.low ≡ c
              → Advanced t x (Some (record { low = low; end = next.base; behind = record { low = low'; top = hi; memory = i; taken = j + 1; next = next' } }))
          sweep_gap l x z =
              let w = memory_rises s.tables in
              let u = taken_rises s.tables in
              let m : low.0 < v.base.0 = omega (arith, base_is) in
              let n : v.base.0 < hi.0 = omega (arith, base_is) in
              let a = gap_run ms ts w left h u v split n m c.0 s.from s.bare in
              let d = gap_after ms ts w left h u v split n m in
              rw z (
                record {
                  run = rw base_is a;
                  onward = omega (arith, end_is, base_is, (splits ts u j v (drop (j + 1) ts) split).some);
                  after = λ b p q. d b (omega (arith, base_is)) (omega (arith, end_is));
                },
                behind,
              )

          -- at low or below
          pub sweep_none : next.base.0 ≤ low.0 → Sweeps c low' hi i (j + 1) next'
          sweep_none l =
              let d = gap_none ms ts (memory_rises s.tables) left h (taken_rises s.tables) v split (omega (arith, base_is)) (omega (arith, base_is)) in
              record {
                tables = s.tables;
                ahead = behind;
                from = omega (arith, s.from);
                bare = joined low'.0 (λ b x y. d b x (omega (arith, end_is)));
              }
