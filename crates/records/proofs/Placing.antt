-- Where a range begins among the records: the first records that end at or below an address. Assumes nothing.
use Rattle.std.proofs.Common.{◌≡◌, ℕ, zero, suc, ◌+◌, ◌-◌, ◌*◌, ◌<◌, ◌≤◌, Bool, true, false, cond, leb, List, [], ◌∷◌, length, take, drop, sym, refl, ap, ◌∙◌, le_of_suc-le-suc, not-suc-le-zero, mul-suc, arith, drop-drop, le-leb, leb-true, Option, Some, None}
use native.Mathlib.Nat.{sub-zero}
use borrow.Author.Tests.{lt-leb}
use Rattle.address.specs.declared.Address.{Address}
use Rattle.address.specs.Numbers.{address}
use Rattle.address.proofs.Checked.{address_at, address_outside}
use Rattle.regions.specs.declared.Region.{Region}
use Rattle.regions.specs.declared.State.{State}
use Rattle.regions.specs.Meaning.{end}
use Rattle.regions.specs.Bytes.{read_region, read_regions}
use Rattle.regions.proofs.Rises.{Rises, ended, next, reach}
use Rattle.regions.proofs.Records.{read_regions_length}
use Rattle.records.specs.Steps.{ending_by}

-- ---- a look at one record

module _ (s r : Region) (e : r ≡ s) (a : Address) (x : Option Address) (q : x ≡ address (end r)) where
  pub look_past : x ≡ None → a.0 < 18446744073709551616 → false ≡ leb (end s) a.0
  look_past o k = rw (← e) (sym (lt-leb (end r) a.0 (omega (arith, address_outside (end r) x q o))))

  pub look_told : (o : Address) → x ≡ Some o → leb o.0 a.0 ≡ leb (end s) a.0
  look_told o p = rw ((address_at (end r) x o q p).0, e)

-- ---- parts of a run of records

pub further : (k : ℕ) (l : List ℕ) → drop (24 * k) (drop 24 l) ≡ drop (24 * suc k) l
further k l =
    let e : 24 + 24 * k ≡ 24 * suc k = omega (arith, mul-suc 24 k) in
    drop-drop (24 * k) 24 l ∙ rw e

pub take_read : (i n : ℕ) (l : List ℕ) → i ≤ n → take i (read_regions n l) ≡ read_regions i l
unfolding read_regions
take_read zero n l h = refl
take_read (suc i) zero l h = absurd (not-suc-le-zero h)
take_read (suc i) (suc n) l h = ap (λ (x : List Region). read_region l ∷ x) (take_read i n (drop 24 l) (le_of_suc-le-suc h))

pub drop_read : (i n : ℕ) (l : List ℕ) → i ≤ n → drop i (read_regions n l) ≡ read_regions (n - i) (drop (24 * i) l)
unfolding read_regions
drop_read zero n l h = rw sub-zero
drop_read (suc i) zero l h = absurd (not-suc-le-zero h)
drop_read (suc i) (suc n) l h =
    let e : suc n - suc i ≡ n - i = omega arith in
    drop_read i n (drop 24 l) (le_of_suc-le-suc h) ∙ rw (further i l, e)

-- ---- a record and the place

module _ (a : ℕ) where
  -- a record that ends above the address is not before the place
  pub ending_above : (k n : ℕ) (l : List ℕ) → k < n → a < end (read_region (drop (24 * k) l)) → ending_by a (read_regions n l) ≤ k
  unfolding ending_by read_regions
  ending_above k zero l h e = absurd (not-suc-le-zero h)
  ending_above zero (suc n) l h e = rw (lt-leb (end (read_region l)) a e) (omega arith)
  ending_above (suc k) (suc n) l h e = go (leb (end (read_region l)) a) (ending_above k n (drop 24 l) (omega arith) (rw (further k l) e))
    where
      go : (t : Bool) → ending_by a (read_regions n (drop 24 l)) ≤ k → cond t (suc (ending_by a (read_regions n (drop 24 l)))) 0 ≤ suc k
      go true i = omega arith
      go false i = omega arith

  -- where the first region ends at or below the address, so does what it begins behind
  first_low : {c m : ℕ} {v : State} {xs : List Region} → Rises c v m xs → 0 < ending_by a xs → c ≤ a
  unfolding ending_by
  first_low (ended l) h = absurd (not-suc-le-zero h)
  first_low {c} (next {r = r} {rs = rs} f w) h = go (leb (end r) a) refl h
    where
      go : (t : Bool) → leb (end r) a ≡ t → 0 < cond t (suc (ending_by a rs)) 0 → c ≤ a
      go true e i = omega (arith, leb-true (end r) a e, f.low)
      go false e i = absurd (not-suc-le-zero i)

  -- a record of a shortest list that ends at or below the address is before the place
  pub ending_past : {c m : ℕ} {v : State} (k n : ℕ) (l : List ℕ) → Rises c v m (read_regions n l) → k < n → end (read_region (drop (24 * k) l)) ≤ a
      → k < ending_by a (read_regions n l)
  unfolding ending_by read_regions
  ending_past k zero l w h e = absurd (not-suc-le-zero h)
  ending_past zero (suc n) l w h e = rw (le-leb (end (read_region l)) a e) (omega arith)
  ending_past {c = c} {m = m} {v = v} (suc k) (suc n) l (next f w) h e =
      let i = ending_past {c = end (read_region l)} k n (drop 24 l) w (omega arith) (rw (further k l) e) in
      rw (le-leb (end (read_region l)) a (first_low w (omega arith))) (omega arith)

-- ---- what the place tells

ending_le : (a : ℕ) (xs : List Region) → ending_by a xs ≤ length xs
unfolding ending_by
ending_le a [] = omega arith
ending_le a (r ∷ rs) = go (leb (end r) a) (ending_le a rs)
  where
    go : (t : Bool) → ending_by a rs ≤ length rs → cond t (suc (ending_by a rs)) 0 ≤ suc (length rs)
    go true h = omega arith
    go false h = omega arith

-- the regions before it end at or below the address
pub ending_reach : (a c : ℕ) (xs : List Region) → c ≤ a → reach c (take (ending_by a xs) xs) ≤ a
unfolding ending_by reach
ending_reach a c [] h = h
ending_reach a c (r ∷ rs) h = go (leb (end r) a) refl (ending_reach a (end r) rs)
  where
    go : (t : Bool) → leb (end r) a ≡ t → (end r ≤ a → reach (end r) (take (ending_by a rs) rs) ≤ a) → reach c (take (cond t (suc (ending_by a rs)) 0) (r ∷ rs)) ≤ a
    go true e ih = ih (leb-true (end r) a e)
    go false e ih = h

pub place_le : (l : List ℕ) (n a i : ℕ) → i ≡ ending_by a (read_regions n l) → i ≤ n
place_le l n a i e = omega (arith, ending_le a (read_regions n l), read_regions_length n l)
