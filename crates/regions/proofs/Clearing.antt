-- Clearing a range of which an address is absent leaves no more records: only an inner part of one record makes two of it. Assumes nothing.
use Prim.Native.Nat.{ℕ, ◌-◌, ◌≤◌, ◌<◌, min, max}
use mathlib.Core.Path.{◌≡◌, refl, sym, ◌∙◌}
use mathlib.Core.Bool.{Bool, true, false, cond, ◌&&◌}
use mathlib.Core.List.{List, [], ◌∷◌, map}
use mathlib.Core.Logic.{◌⊎◌, inl, inr}
use native.Mathlib.Omega.{arith}
use lib.Dec.{leb}
use lib.ListN.{length, length-map}
use borrow.Author.Tests.{le-leb, lt-leb}
use Rattle.address.proofs.Tests.{and, le_or_lt, zero_not_one}
use Rattle.regions.specs.declared.Region.{Region}
use Rattle.regions.specs.declared.State.{State}
use Rattle.regions.specs.declared.State.TheVariants.{Absent}
use Rattle.regions.specs.declared.Change.TheVariants.{Clear}
use Rattle.regions.specs.Meaning.{region, end, inside, at, shortest, top}
use Rattle.regions.specs.Lists.{sorted}
use Rattle.regions.specs.Changes.{change, after, cut, changed}
use Rattle.regions.proofs.Rises.{Rises, ended, next, Canonical}
use Rattle.regions.proofs.RoundTrip.{inside_yes, inside_below, inside_past, at_here, at_before, at_past}
use Rattle.regions.proofs.Fewest.{fewest}

module _ (lo hi : ℕ) where
  -- what is left of a region without the addresses from lo to below hi, where these are no inner part of it: one region, perhaps an empty one
  abbrev below : Region → Region
  below r = region r.base.0 (min (end r) lo - r.base.0) r.tag

  abbrev above : Region → Region
  above r = region (max r.base.0 hi) (max (end r) hi - max r.base.0 hi) r.tag

  abbrev left : Region → Region
  left r = cond (leb lo r.base.0) (above r) (below r)

  -- ---- it says what is left

  -- q, put before qs, says what is left of r before rs, if qs says what is left of rs
  module _ (r q : Region) (rs qs : List Region) (a : ℕ) (ih : at qs a ≡ cond (inside lo hi a) Absent (at rs a)) where
    out_here : inside lo hi a ≡ false → q.tag ≡ r.tag → q.base.0 ≤ a → a < end q → r.base.0 ≤ a → a < end r
        → at (q ∷ qs) a ≡ cond (inside lo hi a) Absent (at (r ∷ rs) a)
    out_here o e i j k l = rw (o, at_here r rs a k l, at_here q qs a i j, e)

    out_past : inside lo hi a ≡ false → at (q ∷ qs) a ≡ at qs a → at (r ∷ rs) a ≡ at rs a → at (q ∷ qs) a ≡ cond (inside lo hi a) Absent (at (r ∷ rs) a)
    out_past o i j = i ∙ ih ∙ rw (o, j)

    in_past : inside lo hi a ≡ true → at (q ∷ qs) a ≡ at qs a → at (q ∷ qs) a ≡ cond (inside lo hi a) Absent (at (r ∷ rs) a)
    in_past o i = i ∙ ih ∙ rw o

  -- of a region that ends below hi, or that begins at or above lo
  module _ (r : Region) (rs qs : List Region) (a : ℕ) (l : lo < hi) (ih : at qs a ≡ cond (inside lo hi a) Absent (at rs a)) where
    below_at : r.base.0 < lo → end r < hi → at (below r ∷ qs) a ≡ cond (inside lo hi a) Absent (at (r ∷ rs) a)
    below_at i j = go (le_or_lt lo a) (le_or_lt hi a) (le_or_lt r.base.0 a) (le_or_lt (end r) a)
      where
        go : (lo ≤ a) ⊎ (a < lo) → (hi ≤ a) ⊎ (a < hi) → (r.base.0 ≤ a) ⊎ (a < r.base.0) → (end r ≤ a) ⊎ (a < end r)
            → at (below r ∷ qs) a ≡ cond (inside lo hi a) Absent (at (r ∷ rs) a)
        go (inr u) v (inr m) n = out_past r (below r) rs qs a ih (inside_below lo hi a u) (at_before (below r) qs a m) (at_before r rs a m)
        go (inr u) v (inl m) (inr n) = out_here r (below r) rs qs a ih (inside_below lo hi a u) refl m (omega arith) m n
        go (inr u) v (inl m) (inl n) = out_past r (below r) rs qs a ih (inside_below lo hi a u) (at_past (below r) qs a (omega arith)) (at_past r rs a n)
        go (inl u) (inr v) m n = in_past r (below r) rs qs a ih (inside_yes lo hi a u v) (at_past (below r) qs a (omega arith))
        go (inl u) (inl v) m n = out_past r (below r) rs qs a ih (inside_past lo hi a v) (at_past (below r) qs a (omega arith)) (at_past r rs a (omega arith))

    above_at : lo ≤ r.base.0 → at (above r ∷ qs) a ≡ cond (inside lo hi a) Absent (at (r ∷ rs) a)
    above_at i = go (le_or_lt lo a) (le_or_lt hi a) (le_or_lt r.base.0 a) (le_or_lt (end r) a)
      where
        go : (lo ≤ a) ⊎ (a < lo) → (hi ≤ a) ⊎ (a < hi) → (r.base.0 ≤ a) ⊎ (a < r.base.0) → (end r ≤ a) ⊎ (a < end r)
            → at (above r ∷ qs) a ≡ cond (inside lo hi a) Absent (at (r ∷ rs) a)
        go (inr u) v m n = out_past r (above r) rs qs a ih (inside_below lo hi a u) (at_before (above r) qs a (omega arith)) (at_before r rs a (omega arith))
        go (inl u) (inr v) m n = in_past r (above r) rs qs a ih (inside_yes lo hi a u v) (at_before (above r) qs a (omega arith))
        go (inl u) (inl v) (inr m) n = out_past r (above r) rs qs a ih (inside_past lo hi a v) (at_before (above r) qs a (omega arith)) (at_before r rs a m)
        go (inl u) (inl v) (inl m) (inr n) = out_here r (above r) rs qs a ih (inside_past lo hi a v) refl (omega arith) (omega arith) m n
        go (inl u) (inl v) (inl m) (inl n) = out_past r (above r) rs qs a ih (inside_past lo hi a v) (at_past (above r) qs a (omega arith)) (at_past r rs a n)

  module _ (x : ℕ) (from : lo ≤ x) (to : x < hi) where
    -- an address that is absent is in no region
    absent_past : (r : Region) (rs : List Region) → at (r ∷ rs) x ≡ Absent → r.base.0 ≤ x → end r ≤ x
    absent_past r rs h i = go (le_or_lt (end r) x)
      where
        go : (end r ≤ x) ⊎ (x < end r) → end r ≤ x
        go (inl j) = j
        go (inr j) = let d = sym h ∙ at_here r rs x i j in absurd (zero_not_one cc)

    absent_rest : (r : Region) (rs : List Region) → at (r ∷ rs) x ≡ Absent → at rs x ≡ Absent
    absent_rest r rs h = go (le_or_lt r.base.0 x)
      where
        go : (r.base.0 ≤ x) ⊎ (x < r.base.0) → at rs x ≡ Absent
        go (inl i) = sym (at_past r rs x (absent_past r rs h i)) ∙ h
        go (inr i) = sym (at_before r rs x i) ∙ h

    head_at : (r : Region) (rs qs : List Region) (a : ℕ) → at (r ∷ rs) x ≡ Absent → at qs a ≡ cond (inside lo hi a) Absent (at rs a)
        → at (left r ∷ qs) a ≡ cond (inside lo hi a) Absent (at (r ∷ rs) a)
    head_at r rs qs a h ih = go (le_or_lt lo r.base.0)
      where
        go : (lo ≤ r.base.0) ⊎ (r.base.0 < lo) → at (left r ∷ qs) a ≡ cond (inside lo hi a) Absent (at (r ∷ rs) a)
        go (inl i) = rw (le-leb lo r.base.0 i) (above_at r rs qs a (omega arith) ih i)
        go (inr i) = rw (lt-leb lo r.base.0 i) (below_at r rs qs a (omega arith) ih i (omega (arith, absent_past r rs h (omega arith))))

    left_at : (xs : List Region) → at xs x ≡ Absent → (a : ℕ) → at (map left xs) a ≡ cond (inside lo hi a) Absent (at xs a)
    unfolding at
    left_at [] h a = go (inside lo hi a)
      where
        go : (t : Bool) → Absent ≡ cond t Absent Absent
        go true = refl
        go false = refl
    left_at (r ∷ rs) h a = head_at r rs (map left rs) a h (left_at rs (absent_rest r rs h) a)

  -- ---- in rising order

  -- what is left of the regions from c on begins at d or above: d is at or below lo, or, where c is past lo, at or below hi
  abbrev Before : ℕ → ℕ → Type 0
  Before d c = (d ≤ min c lo) ⊎ ((lo ≤ c) × (d ≤ max c hi))

  left_sorted : (d : ℕ) {c n : ℕ} {v : State} {xs : List Region} → Rises c v n xs → Before d c → sorted d (map left xs) ≡ true
  unfolding sorted
  left_sorted d (ended l) b = refl
  left_sorted d {c} (next {r = r} {rs = rs} f w) b = go (le_or_lt lo r.base.0) b (left_sorted (max (end r) hi) w) (left_sorted (min (end r) lo) w)
    where
      go : (lo ≤ r.base.0) ⊎ (r.base.0 < lo) → Before d c → (Before (max (end r) hi) (end r) → sorted (max (end r) hi) (map left rs) ≡ true)
          → (Before (min (end r) lo) (end r) → sorted (min (end r) lo) (map left rs) ≡ true) → leb d (left r).base.0 && sorted (end (left r)) (map left rs) ≡ true
      go (inl i) k up down =
          let e : end (above r) ≡ max (end r) hi = omega arith in
          let m : d ≤ max r.base.0 hi = low k in
          rw (le-leb lo r.base.0 i, e) (and (le-leb d (max r.base.0 hi) m) (up (inr (omega arith, omega arith))))
        where
          low : Before d c → d ≤ max r.base.0 hi
          low (inl j) = omega (arith, f.low)
          low (inr j) = omega (arith, f.low, j.1)
      go (inr i) k up down =
          let e : end (below r) ≡ min (end r) lo = omega arith in
          let m : d ≤ r.base.0 = low k in
          rw (lt-leb lo r.base.0 i, e) (and (le-leb d r.base.0 m) (down (inl (omega arith))))
        where
          low : Before d c → d ≤ r.base.0
          low (inl j) = omega (arith, f.low)
          low (inr j) = absurd (omega (arith, f.low, j.0))

-- a range of which an address is absent, cleared
pub cleared_no_more : (base size : ℕ) (xs : List Region) → Canonical top xs → (x : ℕ) → base ≤ x → x < cut base size → at xs x ≡ Absent
    → length (changed Clear base size xs) ≤ length xs
unfolding changed after change
cleared_no_more base size xs w x i j h =
    let ys : List Region = map (left base (cut base size)) xs in
    let n : length ys ≡ length xs = length-map xs (left base (cut base size)) in
    let m : length (shortest (after (change Clear) base (cut base size) (at xs)) top) ≤ length ys = fewest (after (change Clear) base (cut base size) (at xs)) top ys (left_sorted base (cut base size) 0 w (inl (omega arith))) (λ a l. sym (left_at base (cut base size) x i j xs h a)) in
    omega arith
