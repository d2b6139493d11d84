-- The lowest and the highest are what their names say: a number that passes is given exactly when there is one, and no other lies beyond it. Assumes nothing.
use Prim.Native.Nat.{ℕ, zero, suc, ◌≤◌, ◌<◌}
use mathlib.Core.Path.{◌≡◌, refl}
use mathlib.Core.Bool.{Bool, true, false, cond}
use mathlib.Core.Option.{Option, none, some}
use mathlib.Core.Logic.{◌⊎◌, inl, inr}
use native.Mathlib.Omega.{arith}
use native.Mathlib.Nat.{not-suc-le-zero}
use Rattle.address.proofs.Tests.{clash, le_or_lt}
use Rattle.fits.specs.Eligible.{or_else, lowest, highest, Gives}

module _ (p : ℕ → Bool) where
  -- below n and n itself
  upto : (n : ℕ) → ((b : ℕ) → b < n → p b ≡ false) → p n ≡ false → (b : ℕ) → b < suc n → p b ≡ false
  upto n h e b l = go (le_or_lt n b)
    where
      go : (n ≤ b) ⊎ (b < n) → p b ≡ false
      go (inl i) = let f : n ≡ b = omega arith in rw (← f) e
      go (inr i) = h b i

  pub lowest_gives : (n : ℕ) → Gives p (λ b a. b < a) n (lowest p n)
  unfolding lowest
  lowest_gives zero = λ b l. absurd (not-suc-le-zero l)
  lowest_gives (suc n) = go (lowest p n) (lowest_gives n) (p n) refl
    where
      go : (o : Option ℕ) → Gives p (λ b a. b < a) n o → (t : Bool) → p n ≡ t → Gives p (λ b a. b < a) (suc n) (or_else o (cond t (some n) none))
      go none g true e = (e, (omega arith, λ b l m. g b m))
      go none g false e = upto n g e
      go (some a) g t e = (g.0, (omega (arith, g.1.0), λ b l m. g.1.1 b (omega (arith, g.1.0)) m))

  pub highest_gives : (n : ℕ) → Gives p (λ b a. a < b) n (highest p n)
  unfolding highest
  highest_gives zero = λ b l. absurd (not-suc-le-zero l)
  highest_gives (suc n) = go (p n) refl (highest p n) (highest_gives n)
    where
      go : (t : Bool) → p n ≡ t → (o : Option ℕ) → Gives p (λ b a. a < b) n o → Gives p (λ b a. a < b) (suc n) (cond t (some n) o)
      go true e o g = (e, (omega arith, λ b l m. absurd (omega arith)))
      go false e none g = upto n g e
      go false e (some a) g = (g.0, (omega (arith, g.1.0), λ b l m. above b l (le_or_lt n b) m))
        where
          above : (b : ℕ) → b < suc n → (n ≤ b) ⊎ (b < n) → a < b → p b ≡ false
          above b l (inl i) m = let f : n ≡ b = omega arith in rw (← f) e
          above b l (inr i) m = g.1.1 b i m

  -- and no other number is so
  pub highest_only : (n : ℕ) (o : Option ℕ) → Gives p (λ b a. a < b) n o → highest p n ≡ o
  highest_only n o g = go (highest p n) (highest_gives n) o g
    where
      one : (a b : ℕ) → Gives p (λ b a. a < b) n (some a) → Gives p (λ b a. a < b) n (some b) → (a ≤ b) ⊎ (b < a) → (b ≤ a) ⊎ (a < b) → ◌≡◌ {A = Option ℕ} (some a) (some b)
      one a b f g (inr i) j = absurd (clash (p a) f.0 (g.1.1 a f.1.0 i))
      one a b f g (inl i) (inr j) = absurd (clash (p b) g.0 (f.1.1 b g.1.0 j))
      one a b f g (inl i) (inl j) = let e : a ≡ b = omega arith in rw e

      go : (x : Option ℕ) → Gives p (λ b a. a < b) n x → (y : Option ℕ) → Gives p (λ b a. a < b) n y → x ≡ y
      go none f none g = refl
      go none f (some b) g = absurd (clash (p b) g.0 (f b g.1.0))
      go (some a) f none g = absurd (clash (p a) f.0 (g a f.1.0))
      go (some a) f (some b) g = one a b f g (le_or_lt a b) (le_or_lt b a)
