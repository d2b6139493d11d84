-- What is left after some pieces is the list from the next piece's page on. Assumes nothing.
use Prim.Native.Nat.{ℕ, zero, suc, ◌+◌, ◌-◌, ◌≤◌, ◌<◌}
use mathlib.Core.Path.{◌≡◌}
use mathlib.Core.List.{List, [], ◌∷◌, ◌++◌}
use mathlib.Core.Option.{some}
use mathlib.Core.Logic.{◌⊎◌, inl, inr}
use native.Mathlib.Omega.{arith}
use lib.ListN.{length, drop}
use lib.Seq.{drop-nil}
use Rattle.address.proofs.Tests.{le_or_lt}
use Rattle.regions.specs.declared.Region.{Region}
use Rattle.pages.specs.declared.Piece.{Piece}
use Rattle.pages.specs.Pages.{PageTest, whole, pieces, pieces_from, page_top, page_top_is, next_page}
use Rattle.pages.proofs.Orders.{order_largest}
use Rattle.pages.proofs.Listing.{starts_at, starts_cases, Begins, pieces_none}

-- each piece's numbers fit their fields
abbrev pub AllFit : List Piece → Type 0
AllFit [] = Unit {0}
AllFit (x ∷ xs) = ((x.page < 18446744073709551616) × (x.order < 4294967296)) × AllFit xs

module _ (free : PageTest) where
  module _ (k : ℕ) where
    abbrev next : List Piece → ℕ
    next ps = next_page (drop k ps)

  from_here : (k p n : ℕ) → p + n ≡ page_top → drop k (pieces free p n) ≡ pieces free (next k (pieces free p n)) (page_top - next k (pieces free p n))
  unfolding pieces next_page
  from_here k p zero e = let z : page_top - page_top ≡ 0 = omega arith in rw (drop-nil k, z)
  from_here k p (suc n) e = go k (starts_cases free p) (λ j. from_here j (suc p) n (omega arith))
    where
      go : (k : ℕ) → (starts_at free p ≡ []) ⊎ ((o : ℕ) × Begins free p o)
          → ((j : ℕ) → drop j (pieces free (suc p) n) ≡ pieces free (next j (pieces free (suc p) n)) (page_top - next j (pieces free (suc p) n)))
          → drop k (starts_at free p ++ pieces free (suc p) n)
          ≡ pieces free (next k (starts_at free p ++ pieces free (suc p) n)) (page_top - next k (starts_at free p ++ pieces free (suc p) n))
      go k (inl f) ih = rw f (ih k)
      go zero (inr g) ih = let z : page_top - p ≡ suc n = omega arith in rw (g.1.listed, z, g.1.listed)
      go (suc k) (inr g) ih = rw g.1.listed (ih k)

  -- there are no more pieces than pages, and the next page is 2^52 at the most
  pieces_few : (p n : ℕ) → length (pieces free p n) ≤ n
  unfolding pieces
  pieces_few p zero = omega arith
  pieces_few p (suc n) = go (starts_cases free p) (pieces_few (suc p) n)
    where
      go : (starts_at free p ≡ []) ⊎ ((o : ℕ) × Begins free p o) → length (pieces free (suc p) n) ≤ n → length (starts_at free p ++ pieces free (suc p) n) ≤ suc n
      go (inl f) ih = rw f (omega arith)
      go (inr g) ih = rw g.1.listed (omega arith)

  pieces_fit : (p n : ℕ) → p + n ≤ page_top → AllFit (pieces free p n)
  unfolding pieces
  pieces_fit p zero e = tt
  pieces_fit p (suc n) e = go (starts_cases free p) (pieces_fit (suc p) n (omega arith))
    where
      go : (starts_at free p ≡ []) ⊎ ((o : ℕ) × Begins free p o) → AllFit (pieces free (suc p) n) → AllFit (starts_at free p ++ pieces free (suc p) n)
      go (inl f) ih = rw f ih
      go (inr g) ih =
          let m = (order_largest free p (some g.0) g.1.order).1.0 in
          rw g.1.listed ((omega (arith, page_top_is), omega arith), ih)

module _ (runs : List Region) where
  -- the list from 2^52 on is empty, and so it is from a later page on
  pub none_left : pieces_from runs page_top ≡ []
  unfolding pieces_from
  none_left = pieces_none (whole runs) page_top (page_top - page_top) (omega arith)

  pub resume : (p k : ℕ) → drop k (pieces_from runs p) ≡ pieces_from runs (next_page (drop k (pieces_from runs p)))
  unfolding pieces_from pieces next_page
  resume p k = go (le_or_lt p page_top)
    where
      go : (p ≤ page_top) ⊎ (page_top < p)
          → drop k (pieces (whole runs) p (page_top - p)) ≡ pieces (whole runs) (next (whole runs) k (pieces (whole runs) p (page_top - p))) (page_top - next (whole runs) k (pieces (whole runs) p (page_top - p)))
      go (inl l) = from_here (whole runs) k p (page_top - p) (omega arith)
      go (inr l) =
          let z : page_top - p ≡ 0 = omega arith in
          let y : page_top - page_top ≡ 0 = omega arith in
          rw (z, drop-nil k, y)

  pub few_pieces : (p : ℕ) → length (pieces_from runs p) ≤ page_top
  unfolding pieces_from
  few_pieces p = omega (arith, pieces_few (whole runs) p (page_top - p))

  pub all_fit : (p : ℕ) → AllFit (pieces_from runs p)
  unfolding pieces_from pieces
  all_fit p = go (le_or_lt p page_top)
    where
      go : (p ≤ page_top) ⊎ (page_top < p) → AllFit (pieces (whole runs) p (page_top - p))
      go (inl l) = pieces_fit (whole runs) p (page_top - p) (omega arith)
      go (inr l) = let z : page_top - p ≡ 0 = omega arith in rw z tt
