-- The order of the piece around a page: it is the same for all pages of the piece. Assumes nothing.
use Prim.Native.Nat.{ℕ, ◌+◌, ◌^◌, ◌≤◌, ◌<◌}
use mathlib.Core.Path.{◌≡◌, sym}
use mathlib.Core.Bool.{Bool, false}
use mathlib.Core.Option.{Option, none, some}
use native.Mathlib.Omega.{arith}
use lib.Pow.{pow_pos}
use Rattle.address.specs.Numbers.{down}
use Rattle.address.proofs.Rounding.{down_multiple}
use Rattle.fits.specs.Eligible.{Gives}
use Rattle.fits.proofs.Extremes.{highest_gives, highest_only}
use Rattle.fits.proofs.Stretches.{highest_agree}
use Rattle.pages.specs.Pages.{PageTest, order_at}
use Rattle.pages.proofs.Dyadic.{down_unique, down_larger}

-- what a page's order tests
abbrev pub tested : PageTest → ℕ → ℕ → Bool
tested free p o = free o (down p (2 ^ o))

-- it passes, is one of 0 to 10, and none above it passes; or none passes
abbrev pub Largest : (ℕ → Bool) → Option ℕ → Type 0
Largest p o = Gives p (λ b a. a < b) 11 o

module _ (free : PageTest) where
  pub order_largest : (p : ℕ) (o : Option ℕ) → order_at free p ≡ o → Largest (tested free p) o
  unfolding order_at
  order_largest p o e = rw e at (highest_gives (tested free p) 11)

  pub largest_order : (p : ℕ) (o : Option ℕ) → Largest (tested free p) o → order_at free p ≡ o
  unfolding order_at
  largest_order p o m = highest_only (tested free p) 11 o m

  pub no_order : (p : ℕ) → ((o : ℕ) → o < 11 → tested free p o ≡ false) → order_at free p ≡ none
  no_order p h = largest_order p none h

  -- all pages of a piece lie in that piece
  pub same_piece : (p q o : ℕ) → order_at free p ≡ some o → down p (2 ^ o) ≡ down q (2 ^ o) → order_at free q ≡ some o
  same_piece p q o e d =
      let m = order_largest p (some o) e in
      largest_order q (some o) (rw (← d) m.0, (m.1.0, λ k l h. rw (← down_larger p q o k (omega arith) d) (m.1.1 k l h)))

  -- q in the piece of p
  pub in_piece : (p q o : ℕ) → order_at free p ≡ some o → down p (2 ^ o) ≤ q → q < down p (2 ^ o) + 2 ^ o → order_at free q ≡ some o
  in_piece p q o e l h =
      same_piece p q o e (sym (down_unique q (2 ^ o) (down p (2 ^ o)) (down_multiple p (2 ^ o) (pow_pos o)) l h))

-- two tests that say the same around a page give it the same order
pub order_same : (f g : PageTest) (p : ℕ) → ((o : ℕ) → o < 11 → tested f p o ≡ tested g p o) → order_at f p ≡ order_at g p
unfolding order_at
order_same f g p h = highest_agree (tested f p) (tested g p) 11 h
