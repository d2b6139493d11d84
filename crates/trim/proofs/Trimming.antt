-- Trim, record by record: what is left of each, and of the list. Assumes nothing.
use Rattle.std.proofs.Common.{Option, Some, None}
use Prim.Native.Nat.{ℕ, zero, suc, ◌+◌, ◌*◌, ◌-◌, ◌/◌, ◌≤◌, ◌<◌}
use mathlib.Core.Path.{◌≡◌, sym, ap, ◌∙◌}
use mathlib.Core.Bool.{true}
use mathlib.Core.List.{List, [], ◌∷◌, ◌++◌, append_assoc, append-nil}
use native.Mathlib.Omega.{arith}
use native.Mathlib.Nat.{sub-zero, not-suc-le-zero, le_of_suc-le-suc, mul-suc}
use lib.ListN.{length, take, drop, drop_of_length-le}
use lib.Seq.{sets, drop-drop}
use borrow.Author.Tests.{lt-ltb, le-ltb}
use Rattle.address.specs.declared.Address.{Address}
use Rattle.address.specs.declared.Size.{Size}
use Rattle.address.specs.Numbers.{address, up, down, power_of_two}
use Rattle.address.proofs.Checked.{address_at, address_outside}
use Rattle.address.proofs.Rounding.{down_le}
use Rattle.address.proofs.Powers.{power_some}
use Rattle.regions.specs.declared.Region.{Region}
use Rattle.regions.specs.declared.State.{State}
use Rattle.regions.specs.declared.State.TheVariants.{Absent, Present}
use Rattle.regions.specs.Meaning.{end, at, total, top, top_is}
use Rattle.regions.specs.Trim.{round_one, round_each}
use Rattle.regions.specs.Lists.{rises}
use Rattle.regions.proofs.Trim.{round_rises}
use Rattle.regions.specs.Bytes.{read_region, region_bytes, read_regions, table_bytes}
use Rattle.regions.proofs.Rises.{Rises, next, Rises-rises}
use Rattle.regions.proofs.RoundTrip.{rises_end}
use Rattle.regions.proofs.Records.{Fit, region_bytes_length, put_here, put_before, read_regions_snoc, read_regions_rest, read_regions_end, read_regions_length}
use Rattle.records.specs.declared.table.Tally.{Tally}
use Rattle.records.specs.Checks.{all_zeros}
use Rattle.records.specs.Steps.{Table, Whole, put}
use Rattle.trim.specs.Steps.{Trimmed, left_of}
use Rattle.moves.proofs.Moving.{drop_sets}
use Rattle.records.proofs.Placing.{take_read}
use Rattle.records.proofs.Parts.{table_rises}

-- ---- no record of a shortest list ends above the top

high_at_lem : (i n : ℕ) (l : List ℕ) (c : ℕ) (v : State) → Rises c v top (read_regions n l) → i < n → end (read_region (drop (24 * i) l)) ≤ top
unfolding read_regions
high_at_lem i zero l c v w h = absurd (not-suc-le-zero h)
high_at_lem zero (suc n) l c v (next f w) h = rises_end w
high_at_lem (suc i) (suc n) l c v (next {r = r} f w) h =
    let e : 24 + 24 * i ≡ 24 * suc i = omega (arith, mul-suc 24 i) in
    rw (← e, ← drop-drop (24 * i) 24 l) (high_at_lem i n (drop 24 l) (end r) (Present r.tag) w (le_of_suc-le-suc h))

pub record-high : (l : List ℕ) (n i : ℕ) (r : Region) → Table l n → i < n → r ≡ read_region (drop (24 * i) l) → end r ≤ top
record-high l n i r t h e = rw e (high_at_lem i n l 0 Absent (table_rises l n t) h)

-- ---- one record

module _ (r : Region) (k : Size) (pow : power_of_two k.0 ≡ true) (h : end r ≤ top) (x : Option Address) (ex : x ≡ address (up r.base.0 k.0)) where
  pub round_past : x ≡ None → left_of None ≡ round_one k.0 r
  round_past o =
      let l : down (end r) k.0 ≤ up r.base.0 k.0 =
      omega (arith, address_outside (up r.base.0 k.0) x ex o, down_le (end r) k.0 (power_some k.0 pow), top_is) in
      rw (le-ltb (up r.base.0 k.0) (down (end r) k.0) l)

  module _ (b : Address) (eb : x ≡ Some b) (e : Address) (ee : e.0 ≡ end r) (p : Address) (ep : p.0 ≡ down e.0 k.0) where
    base_is : b.0 ≡ up r.base.0 k.0
    base_is = (address_at (up r.base.0 k.0) x b ex eb).0

    past_is : p.0 ≡ down (end r) k.0
    past_is = ep ∙ ap (λ n. down n k.0) ee

    pub round_none : p.0 ≤ b.0 → left_of None ≡ round_one k.0 r
    round_none l = rw (← base_is, ← past_is, le-ltb b.0 p.0 l)

    pub round_left : (s : Size) → s.0 ≡ p.0 - b.0 → b.0 < p.0 → left_of (Some (record { base = b; size = s; tag = r.tag })) ≡ round_one k.0 r
    round_left s es l = rw (← base_is, ← past_is, lt-ltb b.0 p.0 l, ← es)

-- ---- the list

-- one record appended to the n records of o
pub kept_list : (o : List ℕ) (n : ℕ) (r : Region) → Fit r → (o' : List ℕ) → o' ≡ sets o (24 * n) (region_bytes r) → 24 * n + 24 ≤ length o
    → read_regions (n + 1) o' ≡ read_regions n o ++ (r ∷ [])
kept_list o n r f o' p a = rw p (rw (read_regions_snoc, put_before o (24 * n) r a n (omega arith), put_here o (24 * n) r a f))

pub kept_rest : (o : List ℕ) (n : ℕ) (r : Region) (o' : List ℕ) → o' ≡ sets o (24 * n) (region_bytes r) → drop (24 * n + 24) o' ≡ drop (24 * n + 24) o
kept_rest o n r o' p = ap (drop (24 * n + 24)) p ∙ drop_sets (region_bytes r) o (24 * n + 24) (24 * n) (omega (arith, region_bytes_length r))

-- what is written does not reach the records that are still to come
pub rest_kept : (t₀ t t' : List ℕ) (n i : ℕ) → n ≤ i → drop (24 * i) t ≡ drop (24 * i) t₀ → drop (24 * n + 24) t' ≡ drop (24 * n + 24) t → drop (24 * (i + 1)) t' ≡ drop (24 * (i + 1)) t₀
rest_kept t₀ t t' n i h p q =
    let m : ℕ = 24 * (i + 1) - (24 * n + 24) in
    let e : 24 * n + 24 + m ≡ 24 * (i + 1) = omega arith in
    let f : 24 * i + 24 ≡ 24 * (i + 1) = omega arith in
    let a : drop m (drop (24 * n + 24) t') ≡ drop (24 * (i + 1)) t' = drop-drop m (24 * n + 24) t' ∙ ap (λ (x : ℕ). drop x t') e in
    let b : drop m (drop (24 * n + 24) t) ≡ drop (24 * (i + 1)) t = drop-drop m (24 * n + 24) t ∙ ap (λ (x : ℕ). drop x t) e in
    let c : drop 24 (drop (24 * i) t) ≡ drop (24 * (i + 1)) t = drop-drop 24 (24 * i) t ∙ ap (λ (x : ℕ). drop x t) f in
    let d : drop 24 (drop (24 * i) t₀) ≡ drop (24 * (i + 1)) t₀ = drop-drop 24 (24 * i) t₀ ∙ ap (λ (x : ℕ). drop x t₀) f in
    sym a ∙ ap (drop m) q ∙ b ∙ sym c ∙ ap (drop 24) p ∙ d

-- at record i of n, with m left so far
module _ (k : ℕ) (l : List ℕ) (n : ℕ) where
  pub round_start : (o : List ℕ) → read_regions 0 o ++ round_each k (read_regions (n - 0) (drop (24 * 0) l)) ≡ round_each k (read_regions n l)
  unfolding read_regions
  round_start o = rw sub-zero

  module _ (o : List ℕ) (m i : ℕ) (inv : read_regions m o ++ round_each k (read_regions (n - i) (drop (24 * i) l)) ≡ round_each k (read_regions n l)) where
    pub round_done : n ≤ i → read_regions m o ≡ round_each k (read_regions n l)
    unfolding round_each
    round_done h = sym (append-nil (read_regions m o)) ∙ rw (read_regions_end i n (drop (24 * i) l) h) at inv

    module _ (r : Region) (h : i < n) (e : r ≡ read_region (drop (24 * i) l)) (ys : List Region) (q : ys ≡ round_one k r) where
      rest : read_regions (n - i) (drop (24 * i) l) ≡ r ∷ read_regions (n - (i + 1)) (drop (24 * (i + 1)) l)
      rest = rw e (read_regions_rest i n l h)

      pub round_next : (o' : List ℕ) (m' : ℕ) → read_regions m' o' ≡ read_regions m o ++ ys
          → read_regions m' o' ++ round_each k (read_regions (n - (i + 1)) (drop (24 * (i + 1)) l)) ≡ round_each k (read_regions n l)
      unfolding round_each
      round_next o' m' p = rw (p, q, append_assoc) (rw rest at inv)

-- the same where what is left stands over the first records
module _ (k : ℕ) (t₀ : List ℕ) (n : ℕ) (t : List ℕ) (i : ℕ) (d : drop (24 * i) t ≡ drop (24 * i) t₀) (r : Region) (h : i < n) (e : r ≡ read_region (drop (24 * i) t)) where
  pub over_high : Table t₀ n → end r ≤ top
  over_high w = record-high t₀ n i r w h (e ∙ ap read_region d)

  pub over_next : (m : ℕ) → read_regions m t ++ round_each k (read_regions (n - i) (drop (24 * i) t₀)) ≡ round_each k (read_regions n t₀) → (ys : List Region) → ys ≡ round_one k r
      → (t' : List ℕ) (m' : ℕ) → read_regions m' t' ≡ read_regions m t ++ ys
      → read_regions m' t' ++ round_each k (read_regions (n - (i + 1)) (drop (24 * (i + 1)) t₀)) ≡ round_each k (read_regions n t₀)
  over_next m inv ys q t' m' p = round_next k t₀ n t m i inv r h (e ∙ ap read_region d) ys q t' m' p

pub over_end : (t₀ t : List ℕ) (n i : ℕ) → n ≤ i → i ≤ n → drop (24 * i) t ≡ drop (24 * i) t₀ → drop (24 * n) t ≡ drop (24 * n) t₀
over_end t₀ t n i a b d = let e : i ≡ n = omega arith in rw e at d

-- ---- the table

module _ (t : List ℕ) (y : Tally) (w : Whole t y) (k : ℕ) (pow : power_of_two k ≡ true) (u : List ℕ) (n : ℕ) (h : n ≤ y.count) (p : read_regions n u ≡ round_each k (read_regions y.count t))
    (q : drop (24 * y.count) u ≡ drop (24 * y.count) t) where
  pub left_rises : rises 0 Absent top (read_regions n u) ≡ true
  left_rises = rw p (Rises-rises (round_rises k (power_some k pow) (table_rises t y.count w.table)))

  pub left_zeros : all_zeros (drop (24 * y.count) u) ≡ true
  left_zeros = rw q w.rest

  pub trim_told : (s : Size) → s.0 ≡ total (at (read_regions n u)) top → length u ≡ length t → (o e : List ℕ)
      → e ≡ table_bytes (length u / 24) (put n y.count (read_regions 0 o) (read_regions y.count u)) → Trimmed t e (round_each k (read_regions y.count t)) (record { count = n; total = s })
  unfolding put read_regions
  trim_told s es len o e f =
      let a : take n (read_regions y.count u) ≡ read_regions n u = take_read n y.count u h in
      let l : length (read_regions y.count u) ≤ y.count = omega (arith, read_regions_length y.count u) in
      let b : drop y.count (read_regions y.count u) ≡ [] = drop_of_length-le (read_regions y.count u) l in
      let c : put n y.count (read_regions 0 o) (read_regions y.count u) ≡ round_each k (read_regions y.count t) = rw (a, b, append-nil) p in
      let d : n ≡ length (round_each k (read_regions y.count t)) = sym (read_regions_length n u) ∙ ap (length {A = Region}) p in
      let g : s.0 ≡ total (at (round_each k (read_regions y.count t))) top = es ∙ ap (λ (x : List Region). total (at x) top) p in
      record {
        answer = λ i. record { count = d i; total = record { 0 = g i } };
        after = f ∙ rw (c, len);
      }
