-- The walk over a table's records that checks and sums them, step by step. Assumes nothing.
use Rattle.std.proofs.Common.{◌≡◌, ℕ, ◌+◌, ◌-◌, ◌*◌, ◌/◌, ◌%◌, ◌^◌, ◌<◌, ◌≤◌, Bool, true, false, cond, ◌&&◌, ◌⊎◌, List, [], ◌∷◌, length, drop, sym, refl, ap, ◌∙◌, inl, inr, mod-eq_of_lt, arith, le-leb, Option, Some, None}
use mathlib.Core.Bool.{and-false}
use native.Mathlib.Nat.{sub-zero, mod-eq-sub-mod}
use borrow.Author.Tests.{lt-leb}
use Rattle.address.specs.declared.Size.{Size}
use Rattle.regions.specs.declared.Region.{Region}
use Rattle.regions.specs.declared.Kind.{Kind}
use Rattle.regions.specs.declared.State.{State}
use Rattle.regions.specs.declared.State.TheVariants.{Absent, Present}
use Rattle.regions.specs.Meaning.{end, at, total, top, top_is}
use Rattle.regions.specs.Lists.{is, fits, rises, legal, legal_tag, good_list}
use Rattle.regions.specs.Bytes.{read_region, read_regions}
use Rattle.address.proofs.Tests.{le_or_lt, zero_not_one}
use Rattle.regions.proofs.Rises.{fits-Fits}
use Rattle.regions.proofs.Fitting.{fits_empty, fits_below, fits_above, fits_touch}
use Rattle.regions.proofs.Count.{sizes}
use Rattle.regions.proofs.Good.{good_rises, total_is_sizes, rises_past}
use Rattle.regions.proofs.Records.{read_regions_rest, read_regions_end}
use Rattle.records.specs.Checks.{all_zeros, checked_list, good_part, checked_table}

-- of the list xs the records before rest are checked: they end at low, the address below has the state below, and their sizes make sum
pub record Along (k : Kind) (xs rest : List Region) (low : ℕ) (below : State) (sum : ℕ) : Type 0 where
  pub test : good_list k xs ≡ (rises low below top rest && legal k rest)
  pub sizes : sizes xs ≡ sum + sizes rest
  pub small : sum ≤ low
  pub high : low ≤ top

module _ (k : Kind) (xs : List Region) where
  along_start : Along k xs xs 0 Absent 0
  unfolding good_list
  along_start = record { test = refl; sizes = omega arith; small = omega arith; high = omega arith }

  fails : (x : Bool) → good_list k xs ≡ x → x ≡ false → None ≡ checked_list k xs
  unfolding checked_list
  fails x e f = rw (e, f)

  module _ (rest : List Region) (low : ℕ) (below : State) (sum : ℕ) (a : Along k xs rest low below sum) where
    along_done : (s : Size) → rest ≡ [] → s.0 ≡ sum → Some s ≡ checked_list k xs
    unfolding checked_list rises legal sizes
    along_done s e f =
        let g : good_list k xs ≡ true = a.test ∙ rw (e, le-leb low top a.high) in
        let t : s.0 ≡ total (at xs) top = f ∙ sym (total_is_sizes xs (good_rises k xs g) ∙ a.sizes ∙ rw e (omega arith)) in
        rw g (ap Some (λ i. record { 0 = t i }))

    module _ (r : Region) (rs : List Region) (e : rest ≡ r ∷ rs) where
      parts : good_list k xs ≡ ((fits low below r && rises (end r) (Present r.tag) top rs) && (legal_tag k r.tag && legal k rs))
      unfolding rises legal
      parts = a.test ∙ rw e

      along_tag : legal_tag k r.tag ≡ false → None ≡ checked_list k xs
      along_tag q = fails _ parts (rw (q, and-false))

      along_fit : fits low below r ≡ false → None ≡ checked_list k xs
      along_fit q = fails _ parts (rw q)

      along_end : 2 ^ 64 ≤ end r → None ≡ checked_list k xs
      along_end h = fails _ parts (rw (rises_past (end r) (Present r.tag) top rs (omega (arith, top_is)), and-false))

      along_next : fits low below r ≡ true → legal_tag k r.tag ≡ true → end r < 2 ^ 64 → Along k xs rs (end r) (Present r.tag) (sum + r.size.0)
      unfolding sizes
      along_next q p h =
          record {
            test = parts ∙ rw (q, p);
            sizes = a.sizes ∙ rw e (omega arith);
            small = omega (arith, (fits-Fits low below r q).low, a.small);
            high = omega (arith, top_is);
          }

-- ---- the same over a table's bytes, at record i of n

module _ (k : Kind) (l : List ℕ) (n : ℕ) where
  pub records_start : Along k (read_regions n l) (read_regions (n - 0) (drop (24 * 0) l)) 0 Absent 0
  records_start = rw sub-zero (along_start k (read_regions n l))

  module _ (i low : ℕ) (below : State) (sum : ℕ) (a : Along k (read_regions n l) (read_regions (n - i) (drop (24 * i) l)) low below sum) where
    pub records_done : n ≤ i → Some (record { 0 = sum }) ≡ checked_list k (read_regions n l)
    records_done h = along_done k (read_regions n l) _ low below sum a (record { 0 = sum }) (read_regions_end i n (drop (24 * i) l) h) refl

    module _ (r : Region) (h : i < n) (e : r ≡ read_region (drop (24 * i) l)) where
      rest : read_regions (n - i) (drop (24 * i) l) ≡ r ∷ read_regions (n - (i + 1)) (drop (24 * (i + 1)) l)
      rest = rw e (read_regions_rest i n l h)

      pub records_tag : (b : Bool) → b ≡ legal_tag k r.tag → b ≡ false → None ≡ checked_list k (read_regions n l)
      records_tag b q f = along_tag k (read_regions n l) _ low below sum a r _ rest (sym q ∙ f)

      misfit : false ≡ fits low below r → None ≡ checked_list k (read_regions n l)
      misfit q = along_fit k (read_regions n l) _ low below sum a r _ rest (sym q)

      pub records_low : r.base.0 < low → None ≡ checked_list k (read_regions n l)
      records_low f = misfit (fits_below low below r f)

      module _ (x : ℕ) (w : x ≡ (r.base.0 + r.size.0) % 18446744073709551616) where
        -- a sum that wraps, or a size of 0, does not pass the base
        pub records_past : x ≤ r.base.0 → None ≡ checked_list k (read_regions n l)
        records_past f = go (le_or_lt 18446744073709551616 (end r))
          where
            go : (18446744073709551616 ≤ end r) ⊎ (end r < 18446744073709551616) → None ≡ checked_list k (read_regions n l)
            go (inl g) = along_end k (read_regions n l) _ low below sum a r _ rest g
            go (inr g) = misfit (fits_empty low below r (omega (arith, w, mod-eq_of_lt g)))

        module _ (f : r.base.0 < x) (big : r.base.0 < 18446744073709551616) (wide : r.size.0 < 18446744073709551616) where
          -- one that does is the end
          past_end : (x ≡ end r) × (end r < 18446744073709551616)
          past_end = go (le_or_lt 18446744073709551616 (end r))
            where
              go : (18446744073709551616 ≤ end r) ⊎ (end r < 18446744073709551616) → (x ≡ end r) × (end r < 18446744073709551616)
              go (inl g) =
                  let m : end r - 18446744073709551616 < 18446744073709551616 = omega arith in
                  absurd (omega (arith, w, mod-eq-sub-mod g, mod-eq_of_lt m))
              go (inr g) = (w ∙ mod-eq_of_lt g, g)

          some : r.size.0 ≡ 0 → ⊥
          some z = omega (arith, past_end.0)

          pub records_touch : (b : Bool) → low ≤ r.base.0 → r.base.0 ≤ low → b ≡ is below r.tag → b ≡ true → None ≡ checked_list k (read_regions n l)
          records_touch b g m q t = misfit (rw t at (fits_touch low below r b some g m q))

          pub fit_level : (b : Bool) → low ≤ r.base.0 → r.base.0 ≤ low → b ≡ is below r.tag → b ≡ false → true ≡ fits low below r
          fit_level b g m q t = rw t at (fits_touch low below r b some g m q)

          pub fit_above : low < r.base.0 → true ≡ fits low below r
          fit_above g = fits_above low below r some g

          pub records_next : true ≡ fits low below r → (d : Bool) → d ≡ legal_tag k r.tag → d ≡ true
              → Along k (read_regions n l) (read_regions (n - (i + 1)) (drop (24 * (i + 1)) l)) x (Present r.tag) (sum + r.size.0)
          records_next q d v u = rw past_end.0 (along_next k (read_regions n l) _ low below sum a r _ rest (sym q) (sym v ∙ u) past_end.1)

-- ---- the whole part

module _ (k : Kind) (n : ℕ) (l : List ℕ) where
  pub table_long : length l / 24 < n → None ≡ checked_table k n l
  unfolding checked_table good_part
  table_long h = rw (lt-leb n (length l / 24) h)

  module _ (x : Option Size) (e : x ≡ checked_list k (read_regions n l)) where
    list_bad : x ≡ None → good_list k (read_regions n l) ≡ false
    unfolding checked_list
    list_bad f = go (good_list k (read_regions n l)) e
      where
        go : (b : Bool) → x ≡ cond b (Some (record { 0 = total (at (read_regions n l)) top })) None → b ≡ false
        go true g = absurd (zero_not_one cc)
        go false g = refl

    list_good : (s : Size) → x ≡ Some s → (good_list k (read_regions n l) ≡ true) × (s ≡ record { 0 = total (at (read_regions n l)) top })
    unfolding checked_list
    list_good s f = go (good_list k (read_regions n l)) e
      where
        go : (b : Bool) → x ≡ cond b (Some (record { 0 = total (at (read_regions n l)) top })) None → (b ≡ true) × (s ≡ record { 0 = total (at (read_regions n l)) top })
        go true g = (refl, cc)
        go false g = absurd (zero_not_one cc)

    pub table_bad : x ≡ None → None ≡ checked_table k n l
    unfolding checked_table good_part
    table_bad f = rw (list_bad f, and-false)

    pub table_tail : (b : Bool) → b ≡ all_zeros (drop (24 * n) l) → b ≡ false → None ≡ checked_table k n l
    unfolding checked_table good_part
    table_tail b q t = rw (← q, t, and-false, and-false)

    pub table_done : (s : Size) → x ≡ Some s → n ≤ length l / 24 → (b : Bool) → b ≡ all_zeros (drop (24 * n) l) → b ≡ true → Some s ≡ checked_table k n l
    unfolding checked_table good_part
    table_done s f h b q t =
        let g = list_good s f in
        rw (le-leb n (length l / 24) h, g.0, ← q, t) (ap Some g.1)
