-- The place found by halving, and how many records that looks at. Assumes nothing.
use Rattle.std.proofs.Common.{◌≡◌, ℕ, suc, ◌+◌, ◌-◌, ◌*◌, ◌/◌, ◌^◌, ◌<◌, ◌≤◌, Bool, true, false, leb, ◌⊎◌, List, drop, sym, refl, ◌∙◌, inl, inr, mul_assoc, mul-le-mul_left, pow-suc, arith, pow_pos, pow-add, leb-false, leb-true}
use native.Mathlib.Nat.{sub-zero}
use Rattle.address.proofs.Tests.{le_or_lt}
use Rattle.regions.specs.declared.State.TheVariants.{Absent}
use Rattle.regions.specs.Meaning.{end, top}
use Rattle.regions.specs.Lists.{rises}
use Rattle.regions.specs.Bytes.{read_region, read_regions}
use Rattle.regions.proofs.Rises.{rises-Rises}
use Rattle.records.specs.Steps.{ending_by, Halved}
use Rattle.records.proofs.Placing.{ending_above, ending_past, place_le}

-- ---- the count of looks

double : (k : ℕ) → 2 ^ (k + 1) ≡ 2 ^ k * 2
double k =
    let e : k + 1 ≡ suc k = omega arith in
    rw e (pow-suc 2 k)

-- after so many looks, w of n records remain
pub record Remaining (n w looks : ℕ) : Type 0 where
  pub most : (k : ℕ) → n < 2 ^ k → (looks ≤ k) × (w < 2 ^ (k - looks))
  pub least : n + 2 ≤ 2 ^ looks * (w + 2)

remaining_all : (n : ℕ) → Remaining n n 0
remaining_all n = record { most = λ k h. (omega arith, rw sub-zero h); least = omega arith }

-- one look more, and half of them remain
remaining_half : (n w looks w' : ℕ) → Remaining n w looks → 0 < w → 2 * w' ≤ w → w ≤ 2 * w' + 2 → Remaining n w' (looks + 1)
remaining_half n w looks w' s p h k = record { most = λ m i. go m (s.most m i).0 (s.most m i).1 (le_or_lt m looks); least = least }
  where
    go : (m : ℕ) → looks ≤ m → w < 2 ^ (m - looks) → (m ≤ looks) ⊎ (looks < m) → (looks + 1 ≤ m) × (w' < 2 ^ (m - (looks + 1)))
    go m u v (inl i) =
        let z : m - looks ≡ 0 = omega arith in
        let o : w < 2 ^ 0 = rw z at v in
        absurd (omega arith)
    go m u v (inr i) =
        let z : m - looks ≡ suc (m - (looks + 1)) = omega arith in
        let o : w < 2 ^ suc (m - (looks + 1)) = rw z at v in
        (omega arith, omega (arith, pow-suc 2 (m - (looks + 1))))

    least : n + 2 ≤ 2 ^ (looks + 1) * (w' + 2)
    least =
        let e : 2 ^ (looks + 1) ≡ 2 ^ looks * 2 = double looks in
        let f : 2 ^ looks * (w + 2) ≤ 2 ^ looks * (2 * (w' + 2)) = mul-le-mul_left (2 ^ looks) (omega arith) in
        let g : 2 ^ looks * 2 * (w' + 2) ≡ 2 ^ looks * (2 * (w' + 2)) = mul_assoc (2 ^ looks) 2 (w' + 2) in
        rw (e, g) (omega (arith, s.least))

-- none remains
remaining_none : (n w looks : ℕ) → Remaining n w looks → w ≡ 0 → Halved n looks
remaining_none n w looks s z =
    let e : 2 ^ (looks + 1) ≡ 2 ^ looks * 2 = double looks in
    let f : n + 2 ≤ 2 ^ looks * 2 = (rw z at s).least in
    record { most = λ k h. (s.most k h).0; least = omega arith }

-- at most 8 of 128 records are looked at, and one more for each doubling
pub looks_doubled : (j n looks : ℕ) → Halved n looks → n ≤ 128 * 2 ^ j → looks ≤ 8 + j
looks_doubled j n looks s h = s.most (8 + j) (rw (pow-add 2 8 j) (omega (arith, pow_pos j)))

-- ---- the place is among the records from low up to high

pub record Narrowed (l : List ℕ) (n a low high looks : ℕ) : Type 0 where
  pub from : low ≤ ending_by a (read_regions n l)
  pub to : ending_by a (read_regions n l) ≤ high
  pub inside : high ≤ n
  pub remaining : Remaining n (high - low) looks

pub narrowed_all : (l : List ℕ) (n a : ℕ) → Narrowed l n a 0 n 0
narrowed_all l n a = record { from = omega arith; to = place_le l n a (ending_by a (read_regions n l)) refl; inside = omega arith; remaining = rw sub-zero (remaining_all n) }

module _ (l : List ℕ) (n a low high looks : ℕ) (s : Narrowed l n a low high looks) where
  pub narrowed_none : high ≤ low → (low ≡ ending_by a (read_regions n l)) × Halved n looks
  narrowed_none h = (omega (arith, s.from, s.to), remaining_none n (high - low) looks s.remaining (omega arith))

  -- a look at the record in the middle
  module _ (h : low < high) (mid : ℕ) (m : mid ≡ low + (high - low) / 2) (b : Bool) (e : b ≡ leb (end (read_region (drop (24 * mid) l))) a) where
    pub narrowed_past : rises 0 Absent top (read_regions n l) ≡ true → b ≡ true → Narrowed l n a (mid + 1) high (looks + 1)
    narrowed_past w t =
        let r = leb-true (end (read_region (drop (24 * mid) l))) a (sym e ∙ t) in
        record {
          from = omega (arith, ending_past a mid n l (rises-Rises 0 Absent top (read_regions n l) w) (omega (arith, s.inside)) r);
          to = s.to;
          inside = s.inside;
          remaining = remaining_half n (high - low) looks (high - (mid + 1)) s.remaining (omega arith) (omega arith) (omega arith);
        }

    pub narrowed_above : b ≡ false → Narrowed l n a low mid (looks + 1)
    narrowed_above t =
        let r = leb-false (end (read_region (drop (24 * mid) l))) a (sym e ∙ t) in
        record {
          from = s.from;
          to = ending_above a mid n l (omega (arith, s.inside)) r;
          inside = omega (arith, s.inside);
          remaining = remaining_half n (high - low) looks (mid - low) s.remaining (omega arith) (omega arith) (omega arith);
        }
