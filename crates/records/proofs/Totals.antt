-- A table's total, record by record. Assumes nothing.
use Rattle.std.proofs.Common.{◌≡◌, ℕ, ◌+◌, ◌-◌, ◌*◌, ◌<◌, ◌≤◌, true, List, ◌∷◌, drop, ap, arith}
use native.Mathlib.Nat.{sub-zero}
use Rattle.address.specs.declared.Size.{Size}
use Rattle.regions.specs.declared.Region.{Region}
use Rattle.regions.specs.declared.State.TheVariants.{Absent}
use Rattle.regions.specs.Meaning.{at, total, top, top_is}
use Rattle.regions.specs.Lists.{rises}
use Rattle.regions.specs.Bytes.{read_region, read_regions}
use Rattle.regions.proofs.Rises.{rises-Rises}
use Rattle.regions.proofs.Count.{sizes, total_le}
use Rattle.regions.proofs.Good.{total_is_sizes}
use Rattle.regions.proofs.Records.{read_regions_rest, read_regions_end}

module _ (l : List ℕ) (n : ℕ) (rising : rises 0 Absent top (read_regions n l) ≡ true) where
  sizes_total : total (at (read_regions n l)) top ≡ sizes (read_regions n l)
  sizes_total = total_is_sizes (read_regions n l) (rises-Rises 0 Absent top (read_regions n l) rising)

  pub sum_start : 0 + sizes (read_regions (n - 0) (drop (24 * 0) l)) ≡ sizes (read_regions n l)
  sum_start = rw sub-zero (omega arith)

  module _ (i : ℕ) (sum : Size) (inv : sum.0 + sizes (read_regions (n - i) (drop (24 * i) l)) ≡ sizes (read_regions n l)) where
    pub sum_end : n ≤ i → sum.0 ≡ total (at (read_regions n l)) top
    unfolding sizes
    sum_end h =
        let z : sizes (read_regions (n - i) (drop (24 * i) l)) ≡ 0 = rw (read_regions_end i n (drop (24 * i) l) h) in
        omega (arith, sizes_total)

    module _ (r : Region) (h : i < n) (e : r ≡ read_region (drop (24 * i) l)) where
      next : sum.0 + r.size.0 + sizes (read_regions (n - (i + 1)) (drop (24 * (i + 1)) l)) ≡ sizes (read_regions n l)
      unfolding sizes
      next =
          let s : read_regions (n - i) (drop (24 * i) l) ≡ r ∷ read_regions (n - (i + 1)) (drop (24 * (i + 1)) l) = rw e (read_regions_rest i n l h) in
          omega (arith, ap sizes s)

      pub sum_fits : sum.0 + r.size.0 < 18446744073709551616
      sum_fits = omega (arith, next, sizes_total, total_le (at (read_regions n l)) top, top_is)

      pub sum_next : (s : Size) → s.0 ≡ sum.0 + r.size.0 → s.0 + sizes (read_regions (n - (i + 1)) (drop (24 * (i + 1)) l)) ≡ sizes (read_regions n l)
      sum_next s f = omega (arith, next, f)
