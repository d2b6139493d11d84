-- The free runs of two lists, one after the other: what a sweep has come to says all that lies ahead of it. Assumes nothing.
use Prim.Native.Nat.{ℕ, suc, ◌+◌, ◌≤◌, ◌<◌, max}
use mathlib.Core.Path.{◌≡◌, sym, ap, ◌∙◌}
use mathlib.Core.List.{List, [], ◌∷◌, ◌++◌}
use mathlib.Core.Logic.{◌⊎◌, inl, inr}
use native.Mathlib.Omega.{arith}
use lib.ListN.{take, drop, take-append-drop}
use Rattle.address.proofs.Tests.{le_or_lt, zero_not_one}
use Rattle.regions.specs.declared.Tag.{Tag}
use Rattle.regions.specs.declared.Region.{Region}
use Rattle.regions.specs.declared.State.{State}
use Rattle.regions.specs.declared.State.TheVariants.{Absent, Present}
use Rattle.regions.specs.Meaning.{end, at, top}
use Rattle.regions.specs.Free.{usable, untaken, free_memory, free_runs}
use Rattle.regions.proofs.Rises.{Rises, next, reach, edge, Canonical}
use Rattle.regions.proofs.RoundTrip.{at_here, at_before, at_past, rises_below}
use Rattle.regions.proofs.Trim.{rises_apart}
use Rattle.regions.proofs.Prefix.{rest_rises, rest_at}
use Rattle.regions.proofs.Free.{usable_is, untaken_absent, runs_at}
use Rattle.sweep.specs.Steps.{OneRecord, Left, FirstRun}

-- ---- one record of a shortest list, and the list behind it

-- record k is r, and zs are those behind it
pub record Splits (xs : List Region) (k : ℕ) (r : Region) (zs : List Region) : Type 0 where
  pub rest : Rises (end r) (Present r.tag) top zs
  pub some : r.base.0 < end r
  pub from : (b : ℕ) → r.base.0 ≤ b → at xs b ≡ at (r ∷ zs) b

pub splits : (xs : List Region) → Canonical top xs → (k : ℕ) (r : Region) (zs : List Region) → drop k xs ≡ r ∷ zs → Splits xs k r zs
splits xs w k r zs e = go (rw e at (rest_rises (take k xs) (drop k xs) whole))
  where
    whole : Canonical top (take k xs ++ drop k xs)
    whole = rw (take-append-drop k xs) w

    go : Rises (reach 0 (take k xs)) (edge Absent (take k xs)) top (r ∷ zs) → Splits xs k r zs
    go (next f v) =
        record {
          rest = v;
          some = omega (arith, f.some);
          from = λ b l. ap (λ (ys : List Region). at ys b) (sym (take-append-drop k xs)) ∙ rest_at (take k xs) (drop k xs) b whole (omega (arith, f.low)) ∙ ap (λ (ys : List Region). at ys b) e;
        }

-- ---- what is free

module _ (ms ts : List Region) (w : Canonical top ms) where
  abbrev runs : List Region
  runs = free_runs ms ts

  free_at : (b : ℕ) → at runs b ≡ untaken (usable (at ms b)) (at ts b)
  unfolding free_memory
  free_at b = runs_at ms ts w b

  not_memory : (b : ℕ) → usable (at ms b) ≡ Absent → at runs b ≡ Absent
  not_memory b e = free_at b ∙ ap (λ (v : State). untaken v (at ts b)) e ∙ untaken_absent (at ts b)

  pub is_taken : (b : ℕ) (t : Tag) → at ts b ≡ Present t → at runs b ≡ Absent
  is_taken b t e = free_at b ∙ ap (untaken (usable (at ms b))) e

  is_free : (b : ℕ) (t : Tag) → usable (at ms b) ≡ Present t → at ts b ≡ Absent → at runs b ≡ Present t
  is_free b t e f = free_at b ∙ ap (untaken (usable (at ms b))) f ∙ e

  free_usable : (b : ℕ) (t : Tag) → at runs b ≡ Present t → usable (at ms b) ≡ Present t
  free_usable b t e = go (at ts b) (sym (free_at b) ∙ e)
    where
      go : (v : State) → untaken (usable (at ms b)) v ≡ Present t → usable (at ms b) ≡ Present t
      go Absent f = f
      go (Present s) f = absurd (zero_not_one cc)

  -- nothing is free between c and d
  abbrev pub Bare : ℕ → ℕ → Type 0
  Bare c d = (b : ℕ) → c ≤ b → b < d → at runs b ≡ Absent

  module _ {low hi i j : ℕ} (s : Left ms ts low hi i j) where
    -- ---- no record at hand

    module _ (h : hi ≤ low) where
      -- and none left
      pub nothing_left : drop i ms ≡ [] → (b : ℕ) → low ≤ b → at runs b ≡ Absent
      unfolding at
      nothing_left e b l = not_memory b (s.memory b l (omega arith) ∙ ap (λ (xs : List Region). usable (at xs b)) e)

      module _ (r : Region) (e : drop i ms ≡ r ∷ drop (i + 1) ms) where
        abbrev split : Splits ms i r (drop (i + 1) ms)
        split = splits ms w i r (drop (i + 1) ms) e

        says : (b : ℕ) → low ≤ b → usable (at ms b) ≡ usable (at (r ∷ drop (i + 1) ms) b)
        says b l = s.memory b l (omega arith) ∙ ap (λ (xs : List Region). usable (at xs b)) e

        -- behind the next one
        behind : (b : ℕ) → low ≤ b → end r ≤ b → usable (at ms b) ≡ usable (at (drop (i + 1) ms) b)
        behind b l m = says b l ∙ ap usable (at_past r (drop (i + 1) ms) b m)

        -- and before it, where nothing is
        before : (b : ℕ) → b < r.base.0 → at (r ∷ drop (i + 1) ms) b ≡ Absent
        before b l = at_before r (drop (i + 1) ms) b l ∙ rises_below b split.rest (omega (arith, split.some))

        -- the next one is no-map
        pub record-skipped : usable (Present r.tag) ≡ Absent → Left ms ts low hi (i + 1) j
        record-skipped n =
            record {
              edge = s.edge;
              taken = s.taken;
              memory = λ b l m. go b l (le_or_lt r.base.0 b) (le_or_lt (end r) b);
              hand = λ l. absurd (omega arith);
            }
          where
            lower : (b : ℕ) → b < end r → usable (at (drop (i + 1) ms) b) ≡ Absent
            lower b l = ap usable (rises_below b split.rest l)

            go : (b : ℕ) → low ≤ b → (r.base.0 ≤ b) ⊎ (b < r.base.0) → (end r ≤ b) ⊎ (b < end r) → usable (at ms b) ≡ usable (at (drop (i + 1) ms) b)
            go b l x (inl y) = behind b l y
            go b l (inl x) (inr y) = says b l ∙ ap usable (at_here r (drop (i + 1) ms) b x y) ∙ n ∙ sym (lower b y)
            go b l (inr x) (inr y) = says b l ∙ ap usable (before b x) ∙ sym (lower b y)

        -- or comes to hand
        pub record-bare : Bare low (max low r.base.0)
        record-bare b l m = not_memory b (says b l ∙ ap usable (before b (omega arith)))

        pub record-taken : usable (Present r.tag) ≡ Present r.tag → Left ms ts (max low r.base.0) (end r) (i + 1) j
        record-taken n =
            record {
              edge = λ b t y x z. go b t y x z (le_or_lt r.base.0 low);
              taken = λ b l. s.taken b (omega arith);
              memory = λ b l m. behind b (omega arith) m;
              hand = λ l. record {
                tag = r.tag;
                all = λ b x y. says b (omega arith) ∙ ap usable (at_here r (drop (i + 1) ms) b (omega arith) y) ∙ n;
                stops = λ f. rises_apart split.rest (usable_is (at (drop (i + 1) ms) (end r)) r.tag (sym (behind (end r) (omega arith) (omega arith)) ∙ f));
              };
            }
          where
            go : (b : ℕ) (t : Tag) → suc b ≡ max low r.base.0 → at runs b ≡ Present t → at runs (max low r.base.0) ≡ Present t → (r.base.0 ≤ low) ⊎ (low < r.base.0) → ⊥
            go b t y x z (inl l) = let m : max low r.base.0 ≡ low = omega arith in s.edge b t (y ∙ m) x (rw m at z)
            go b t y x z (inr l) = let d = sym (record-bare b (omega arith) (omega arith)) ∙ x in absurd (zero_not_one cc)

    -- ---- a record at hand

    module _ (h : low < hi) where
      abbrev own : OneRecord ms low hi
      own = s.hand h

      begun : (b : ℕ) → suc b ≡ low → (t : Tag) → at runs low ≡ Present t → at runs b ≡ Present t → ⊥
      begun b y t x z = s.edge b t y z x

      -- no taken record begins in it: the rest of it is a run
      module _ (clear : (b : ℕ) → b < hi → at (drop j ts) b ≡ Absent) where
        rest_free : (b : ℕ) → low ≤ b → b < hi → at runs b ≡ Present own.tag
        rest_free b l m = is_free b own.tag (own.all b l m) (s.taken b l ∙ clear b m)

        pub rest_run : (c : ℕ) → c ≤ low → Bare c low → FirstRun runs c low hi
        rest_run c k f =
            record {
              tag = own.tag;
              some = h;
              from = k;
              before = f;
              run = record {
                all = rest_free;
                stops = λ e. own.stops (free_usable hi own.tag e);
                begins = λ b y e. begun b y own.tag (rest_free low (omega arith) h) e;
              };
            }

        pub rest_left : Left ms ts hi hi i j
        rest_left =
            record {
              edge = λ b t y x z. let d = sym (rest_free b (omega arith) (omega arith)) ∙ x in own.stops (free_usable hi own.tag (z ∙ sym d));
              taken = λ b l. s.taken b (omega arith);
              memory = λ b l m. s.memory b (omega arith) m;
              hand = λ l. absurd (omega arith);
            }

      -- the next taken record begins in it
      module _ (u : Canonical top ts) (v : Region) (e : drop j ts ≡ v ∷ drop (j + 1) ts) (m : v.base.0 < hi) where
        abbrev cut : Splits ts j v (drop (j + 1) ts)
        cut = splits ts u j v (drop (j + 1) ts) e

        taken_says : (b : ℕ) → low ≤ b → at ts b ≡ at (v ∷ drop (j + 1) ts) b
        taken_says b l = s.taken b l ∙ ap (λ (xs : List Region). at xs b) e

        taken_bare : (b : ℕ) → low ≤ b → v.base.0 ≤ b → b < end v → at runs b ≡ Absent
        taken_bare b l x y = is_taken b v.tag (taken_says b l ∙ at_here v (drop (j + 1) ts) b x y)

        pub taken_left : Left ms ts (max low (end v)) hi i (j + 1)
        taken_left =
            record {
              edge = λ b t y x z. go b t y x z (le_or_lt (end v) low);
              taken = λ b l. taken_says b (omega arith) ∙ at_past v (drop (j + 1) ts) b (omega arith);
              memory = λ b l n. s.memory b (omega arith) n;
              hand = λ l. record { tag = own.tag; all = λ b x y. own.all b (omega arith) y; stops = own.stops };
            }
          where
            go : (b : ℕ) (t : Tag) → suc b ≡ max low (end v) → at runs b ≡ Present t → at runs (max low (end v)) ≡ Present t → (end v ≤ low) ⊎ (low < end v) → ⊥
            go b t y x z (inl l) = let n : max low (end v) ≡ low = omega arith in s.edge b t (y ∙ n) x (rw n at z)
            go b t y x z (inr l) = let d = sym (taken_bare b (omega arith) (omega (arith, cut.some)) (omega arith)) ∙ x in absurd (zero_not_one cc)

        -- above low: a run up to it
        pub gap_run : low < v.base.0 → (c : ℕ) → c ≤ low → Bare c low → FirstRun runs c low v.base.0
        gap_run l c k f =
            record {
              tag = own.tag;
              some = l;
              from = k;
              before = f;
              run = record {
                all = gap_free;
                stops = λ x. let d = sym (taken_bare v.base.0 (omega arith) (omega arith) cut.some) ∙ x in absurd (zero_not_one cc);
                begins = λ b y x. begun b y own.tag (gap_free low (omega arith) l) x;
              };
            }
          where
            gap_free : (b : ℕ) → low ≤ b → b < v.base.0 → at runs b ≡ Present own.tag
            gap_free b x y =
                is_free b own.tag (own.all b x (omega arith))
                (taken_says b x ∙ at_before v (drop (j + 1) ts) b y ∙ rises_below b cut.rest (omega (arith, cut.some)))

        pub gap_after : low < v.base.0 → Bare v.base.0 (max low (end v))
        gap_after l b x y = taken_bare b (omega arith) x (omega (arith, cut.some))

        -- at low or below: nothing is free up to its end
        pub gap_none : v.base.0 ≤ low → Bare low (max low (end v))
        gap_none l b x y = taken_bare b x (omega arith) (omega arith)
