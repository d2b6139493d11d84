-- The walk over a table's records that builds the finished list of a changed table. Assumes nothing.
use Rattle.std.proofs.Common.{Option, Some, None}
use Prim.Native.Nat.{ℕ, zero, suc, ◌+◌, ◌*◌, ◌-◌, ◌/◌, ◌≤◌, ◌<◌, min, max}
use mathlib.Core.Path.{◌≡◌, sym, ap, ◌∙◌}
use mathlib.Core.Bool.{true}
use mathlib.Core.List.{List, [], ◌∷◌}
use native.Mathlib.Omega.{arith}
use native.Mathlib.Nat.{sub-zero}
use lib.ListN.{length, drop}
use Rattle.address.specs.declared.Address.{Address}
use Rattle.regions.specs.declared.Region.{Region}
use Rattle.regions.specs.declared.State.{State}
use Rattle.regions.specs.declared.State.TheVariants.{Absent, Present}
use Rattle.regions.specs.Meaning.{end, at, push, shortest, top, top_is}
use Rattle.regions.specs.Lists.{rises}
use Rattle.regions.specs.Changes.{after}
use Rattle.regions.specs.Bytes.{read_region, read_regions}
use Rattle.regions.specs.Steps.{stretch}
use Rattle.regions.proofs.Rises.{Rises, ended, next, Canonical, rises-Rises}
use Rattle.regions.proofs.Push.{push_none}
use Rattle.regions.proofs.Count.{push_longer}
use Rattle.regions.proofs.RoundTrip.{rises_end}
use Rattle.regions.proofs.Update.{walk, update}
use Rattle.regions.proofs.Update.{update_shortest}
use Rattle.regions.proofs.Records.{read_regions_rest, read_regions_end}
use Rattle.lists.specs.declared.Built.{Built}
use Rattle.lists.specs.Steps.{HoldsList, Became}
use Rattle.records.specs.Steps.{AllFlagsBounded}
use Rattle.lists.proofs.Pushing.{full_holds, became_list, became_full}

module _ (k : State → State) (lo hi : ℕ) where
  -- ---- the list only grows

  stretch_longer : (acc : List Region) (c e : ℕ) (v : State) → length acc ≤ length (stretch k lo hi acc c e v)
  unfolding stretch
  stretch_longer acc c e v =
      let m : ℕ = max c (min lo e) in
      let p : ℕ = max c (min hi e) in
      let one : List Region = push acc c (m - c) v in
      let two : List Region = push one m (p - m) (k v) in
      omega (arith, push_longer acc c (m - c) v, push_longer one m (p - m) (k v), push_longer two p (e - p) v)

  walk_longer : (acc : List Region) (c : ℕ) (rs : List Region) → length acc ≤ length (walk k lo hi acc c rs)
  unfolding walk
  walk_longer acc c [] = stretch_longer acc c (max c hi) Absent
  walk_longer acc c (r ∷ rs) =
      let one : List Region = stretch k lo hi acc c r.base.0 Absent in
      let two : List Region = stretch k lo hi one r.base.0 (end r) (Present r.tag) in
      omega (arith, stretch_longer acc c r.base.0 Absent, stretch_longer one r.base.0 (end r) (Present r.tag), walk_longer two (end r) rs)

  -- a stretch that lies wholly inside the range
  stretch_inside : (acc : List Region) (c e : ℕ) (v : State) → lo ≤ c → c ≤ e → e ≤ hi → stretch k lo hi acc c e v ≡ push acc c (e - c) (k v)
  unfolding stretch
  stretch_inside acc c e v l h m =
      let x : max c (min lo e) ≡ c = omega arith in
      let y : max c (min hi e) ≡ e = omega arith in
      let z : c - c ≡ 0 = omega arith in
      let o : e - e ≡ 0 = omega arith in
      rw (x, y, z, o, push_none, push_none)

  -- a record that lies wholly inside the range
  pub record-inside : (acc : List Region) (cap : ℕ) (r : Region) (o : Address) → o.0 ≡ end r → lo ≤ r.base.0 → o.0 ≤ hi → (b : Address) → b ≡ r.base → (v : State) → v ≡ k (Present r.tag) → (l : List ℕ) (a : Option ℕ)
      → HoldsList l cap (push acc b.0 (o.0 - b.0) v) a → HoldsList l cap (stretch k lo hi acc r.base.0 (end r) (Present r.tag)) a
  record-inside acc cap r o eo i j b eb v ev l a p =
      let g : b.0 ≡ r.base.0 = ap (λ (x : Address). x.0) eb in
      rw (stretch_inside acc r.base.0 (end r) (Present r.tag) i (omega arith) (omega arith)) (rw (g, eo, ev) at p)

  -- any other
  pub record-across : (acc : List Region) (cap : ℕ) (r : Region) (o : Address) → o.0 ≡ end r → (b : Address) → b ≡ r.base → (l : List ℕ) (a : Option ℕ)
      → HoldsList l cap (stretch k lo hi acc b.0 o.0 (Present r.tag)) a → HoldsList l cap (stretch k lo hi acc r.base.0 (end r) (Present r.tag)) a
  record-across acc cap r o eo b eb l a p = let g : b.0 ≡ r.base.0 = ap (λ (x : Address). x.0) eb in rw (g, eo) at p

-- ---- what lies ahead of the walk

-- each region starts at or past the end of the one before, ends at or below the top, and has few flags
abbrev pub Ahead : ℕ → List Region → Type 0
Ahead c [] = Unit {0}
Ahead c (r ∷ rs) = (c ≤ r.base.0) × ((end r ≤ top) × ((r.tag.flags ≤ 7) × Ahead (end r) rs))

rises_ahead : {c : ℕ} {v : State} {xs : List Region} → Rises c v top xs → AllFlagsBounded xs → Ahead c xs
rises_ahead (ended l) a = tt
rises_ahead (next f w) a = (f.low, (rises_end w, (a.0, rises_ahead w a.1)))

pub flags_bounded_drop : (i : ℕ) (xs : List Region) → AllFlagsBounded xs → AllFlagsBounded (drop i xs)
flags_bounded_drop zero xs a = a
flags_bounded_drop (suc i) [] a = tt
flags_bounded_drop (suc i) (r ∷ rs) a = flags_bounded_drop i rs a.1

-- ---- the walk begins with no record

module _ (k : State → State) (lo hi : ℕ) (l : List ℕ) (n : ℕ) (w : lo ≤ hi) (b : hi ≤ top) (rising : rises 0 Absent top (read_regions n l) ≡ true) where
  canonical : Canonical top (read_regions n l)
  canonical = rises-Rises 0 Absent top (read_regions n l) rising

  pub walk_start : (o : List ℕ) → shortest (after k lo hi (at (read_regions n l))) top ≡ walk k lo hi (read_regions 0 o) 0 (read_regions (n - 0) (drop (24 * 0) l))
  unfolding read_regions update
  walk_start o = rw sub-zero (sym (update_shortest k lo hi top (read_regions n l) w b canonical))

  pub ahead_start : AllFlagsBounded (read_regions n l) → Ahead 0 (read_regions (n - 0) (drop (24 * 0) l))
  ahead_start a = rw sub-zero (rises_ahead canonical a)

-- ---- the walk over a table's bytes, at record i of n

module _ (k : State → State) (lo hi : ℕ) (whole : List Region) (l : List ℕ) (n : ℕ) (p : Built) (c : Address) (i : ℕ)
    (inv : whole ≡ walk k lo hi (read_regions p.count p.out.now) c.0 (read_regions (n - i) (drop (24 * i) l))) (ahead : Ahead c.0 (read_regions (n - i) (drop (24 * i) l))) where
  -- no record is left: the gap up to the end of the range
  pub walk_end : n ≤ i → (e : ℕ) → e ≡ max c.0 hi → (q : Built) (a : Option (Unit {0})) → Became p q (stretch k lo hi (read_regions p.count p.out.now) c.0 e Absent) a
      → Became p q whole a
  unfolding walk
  walk_end h e f q a s = rw (inv, read_regions_end i n (drop (24 * i) l) h, ← f) s

  module _ (r : Region) (h : i < n) (e : r ≡ read_region (drop (24 * i) l)) where
    rest : read_regions (n - i) (drop (24 * i) l) ≡ r ∷ read_regions (n - (i + 1)) (drop (24 * (i + 1)) l)
    rest = rw e (read_regions_rest i n l h)

    next_ahead : Ahead c.0 (r ∷ read_regions (n - (i + 1)) (drop (24 * (i + 1)) l))
    next_ahead = rw rest at ahead

    pub walk_low : c.0 ≤ r.base.0
    walk_low = next_ahead.0

    pub walk_high : end r < 18446744073709551616
    walk_high = omega (arith, next_ahead.1.0, top_is)

    pub walk_flags_bounded : r.tag.flags ≤ 7
    walk_flags_bounded = next_ahead.1.1.0

    -- the gap before the record
    gap : List Region
    gap = stretch k lo hi (read_regions p.count p.out.now) c.0 r.base.0 Absent

    -- and the record
    both : List Region
    both = stretch k lo hi gap r.base.0 (end r) (Present r.tag)

    step : whole ≡ walk k lo hi both (end r) (read_regions (n - (i + 1)) (drop (24 * (i + 1)) l))
    unfolding walk gap both
    step = inv ∙ rw rest

    whole_longer : length both ≤ length whole
    whole_longer = omega (arith, ap (length {A = Region}) step, walk_longer k lo hi both (end r) (read_regions (n - (i + 1)) (drop (24 * (i + 1)) l)))

    module _ (p₁ : Built) (a : Option (Unit {0})) (s : Became p p₁ (stretch k lo hi (read_regions p.count p.out.now) c.0 r.base.0 Absent) a) where
      pub walk_gap_full : a ≡ None → HoldsList p₁.out.now (length p.out.now / 24) whole None
      unfolding gap both
      walk_gap_full f =
          full_holds p₁.out.now _ whole (omega (arith, became_full p p₁ gap a s f, stretch_longer k lo hi gap r.base.0 (end r) (Present r.tag), whole_longer))

      module _ (u : Unit {0}) (f : a ≡ Some u) (p₂ : Built) (a' : Option (Unit {0}))
          (s' : Became p₁ p₂ (stretch k lo hi (read_regions p₁.count p₁.out.now) r.base.0 (end r) (Present r.tag)) a') where
        second : Became p p₂ both a'
        unfolding gap both
        second = record { same = s'.same ∙ s.same; long = s'.long ∙ s.long; holds = rw (became_list p p₁ gap a s u f, s.long) at s'.holds }

        pub walk_full : a' ≡ None → HoldsList p₂.out.now (length p.out.now / 24) whole None
        walk_full g = full_holds p₂.out.now _ whole (omega (arith, became_full p p₂ both a' second g, whole_longer))

        module _ (u' : Unit {0}) (g : a' ≡ Some u') (y : Address) (d : y.0 ≡ end r) where
          pub walk_next : whole ≡ walk k lo hi (read_regions p₂.count p₂.out.now) y.0 (read_regions (n - (i + 1)) (drop (24 * (i + 1)) l))
          walk_next = rw (became_list p p₂ both a' second u' g, d) step

          pub walk_ahead : Ahead y.0 (read_regions (n - (i + 1)) (drop (24 * (i + 1)) l))
          walk_ahead = rw d next_ahead.1.1.1
