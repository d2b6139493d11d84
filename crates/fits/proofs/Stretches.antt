-- Bounded searches put together from stretches: what a search finds in one stretch and in the next is what it finds in both. Assumes nothing.
use Prim.Native.Nat.{ℕ, zero, suc, ◌<◌}
use mathlib.Core.Path.{◌≡◌, refl, ap, ◌∙◌}
use mathlib.Core.Bool.{Bool, true, false}
use mathlib.Core.Option.{Option, none, some}
use mathlib.Core.Logic.{⊎_elim}
use native.Mathlib.Omega.{arith}
use Rattle.address.proofs.Tests.{clash}
use Rattle.fits.specs.Eligible.{or_else, lowest, highest, Gives}
use Rattle.regions.specs.declared.Run.{Run}
use Rattle.fits.specs.Places.{Hit, hit_of}
use Rattle.fits.specs.declared.Way.{Way}
use Rattle.fits.specs.declared.Way.TheVariants.{Up, Down}
use Rattle.fits.specs.Steps.{extreme}
use Rattle.fits.proofs.Ways.{near, far, Before, From, Nearer, before_or_from, by_points}
use Rattle.fits.proofs.Extremes.{lowest_gives, highest_gives}

-- p holds at none from the point a to the point b
abbrev pub NoneIn : Way → (ℕ → Bool) → ℕ → ℕ → Type 0
NoneIn v p a b = (x : ℕ) → From v a x → Before v b x → p x ≡ false

-- p holds at x, and from a on nowhere that a walk comes to sooner; and x has the run that w gives it
pub record First (v : Way) (w : ℕ → Run) (p : ℕ → Bool) (a : ℕ) (x : Hit) : Type 0 where
  pub yes : p x.at ≡ true
  pub rest : (y : ℕ) → From v a y → Nearer v y x.at → p y ≡ false
  pub run : x.run ≡ w x.at

-- o is what a walk from a to b finds
abbrev pub Finds : Way → (ℕ → Run) → (ℕ → Bool) → ℕ → ℕ → Option Hit → Type 0
Finds v w p a b none = NoneIn v p a b
Finds v w p a b (some x) = First v w p a x

module _ (v : Way) (w : ℕ → Run) (p : ℕ → Bool) where
  -- so too as far as c, if there is nothing more
  pub extend : (a b c : ℕ) (o : Option Hit) → ((x : ℕ) → From v a x → From v b x → Before v c x → p x ≡ false) → Finds v w p a b o → Finds v w p a c o
  extend a b c (some x) h f = f
  extend a b c none h f = λ x i j. ⊎_elim (f x i) (λ k. h x i k j) (before_or_from v b x)

  -- what is found in the first stretch comes first
  pub join : (a b c : ℕ) (o u : Option Hit) → Finds v w p a b o → Finds v w p b c u → Finds v w p a c (or_else o u)
  join a b c (some x) u f g = f
  join a b c none none f g = extend a b c none (λ x i. g x) f
  join a b c none (some y) f g = record { yes = g.yes; rest = λ x i j. ⊎_elim (f x i) (λ k. g.rest x k j) (before_or_from v b x); run = g.run }

-- ---- what is found among all numbers below n is the lowest, or the highest

same_place : (v : Way) (x y : ℕ) → (Nearer v x y → ⊥) → (Nearer v y x → ⊥) → x ≡ y
same_place Up x y f g = omega arith
same_place Down x y f g = omega arith

module _ (v : Way) (w : ℕ → Run) (p : ℕ → Bool) (n : ℕ) (below : (x : ℕ) → p x ≡ true → x < n) where
  one_answer : (o : Option Hit) → Finds v w p (near v 0 n) (far v 0 n) o → (u : Option ℕ) → Gives p (Nearer v) n u → o ≡ hit_of w u
  one_answer none f none g = refl
  one_answer none f (some y) g = let i = by_points 0 n v y (omega arith) g.1.0 in absurd (clash (p y) g.0 (f y i.0 i.1))
  one_answer (some x) f none g = absurd (clash (p x.at) f.yes (g x.at (below x.at f.yes)))
  one_answer (some x) f (some y) g =
      let s : x.at ≡ y =
      same_place v x.at y (λ h. clash (p x.at) f.yes (g.1.1 x.at (below x.at f.yes) h))
      (λ h. clash (p y) g.0 (f.rest y (by_points 0 n v y (omega arith) g.1.0).0 h)) in
      let t : x.run ≡ w y = f.run ∙ ap w s in
      λ i. some (record { at = s i; run = t i })

  pub finds_extreme : (o : Option Hit) → Finds v w p (near v 0 n) (far v 0 n) o → o ≡ hit_of w (extreme v p n)
  finds_extreme o f = one_answer o f (extreme v p n) (extreme_gives v)
    where
      extreme_gives : (v : Way) → Gives p (Nearer v) n (extreme v p n)
      extreme_gives Up = lowest_gives p n
      extreme_gives Down = highest_gives p n

-- ---- only what p says below n counts

pub lowest_agree : (p q : ℕ → Bool) (n : ℕ) → ((a : ℕ) → a < n → p a ≡ q a) → lowest p n ≡ lowest q n
unfolding lowest
lowest_agree p q zero h = refl
lowest_agree p q (suc n) h = rw (h n (omega arith), lowest_agree p q n (λ a l. h a (omega arith)))

pub highest_agree : (p q : ℕ → Bool) (n : ℕ) → ((a : ℕ) → a < n → p a ≡ q a) → highest p n ≡ highest q n
unfolding highest
highest_agree p q zero h = refl
highest_agree p q (suc n) h = rw (h n (omega arith), highest_agree p q n (λ a l. h a (omega arith)))
