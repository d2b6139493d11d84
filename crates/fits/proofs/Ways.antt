-- The two ways of a walk: the order in which it comes to points and addresses, and the walks worked out on lists. Assumes nothing.
use Prim.Native.Nat.{ℕ, suc, ◌≤◌, ◌<◌, min, max}
use mathlib.Core.Path.{◌≡◌, refl}
use mathlib.Core.Bool.{Bool, true, false, cond}
use mathlib.Core.List.{List, [], ◌∷◌}
use mathlib.Core.Option.{Option, none}
use mathlib.Core.Logic.{◌⊎◌, inl, inr, ⊎_elim}
use native.Mathlib.Omega.{arith}
use lib.Dec.{ltb}
use borrow.Author.Tests.{ltb-true, ltb-false}
use Rattle.address.proofs.Tests.{le_or_lt}
use Rattle.regions.specs.declared.Region.{Region}
use Rattle.regions.specs.Meaning.{end}
use Rattle.fits.specs.declared.Query.{Query}
use Rattle.fits.specs.declared.Way.{Way}
use Rattle.fits.specs.declared.Way.TheVariants.{Up, Down}
use Rattle.fits.specs.Eligible.{asks, or_else}
use Rattle.fits.specs.Places.{Hit}
use Rattle.fits.specs.Steps.{serves, fit_low, fit_high}

-- ---- points and addresses in the order of a walk

-- upwards the one, downwards the other
abbrev pub choose : {A : Type 0} → Way → A → A → A
choose Up x y = x
choose Down x y = y

-- where a walk comes to what lies from lo to hi, and where it leaves it
abbrev pub near : Way → ℕ → ℕ → ℕ
near v lo hi = choose v lo hi

abbrev pub far : Way → ℕ → ℕ → ℕ
far v lo hi = choose v hi lo

abbrev pub front : Way → Region → ℕ
front v r = near v r.base.0 (end r)

abbrev pub back : Way → Region → ℕ
back v r = far v r.base.0 (end r)

-- of two points the one that a walk comes to sooner, and the other
abbrev pub sooner : Way → ℕ → ℕ → ℕ
sooner v a b = choose v (min a b) (max a b)

abbrev pub later : Way → ℕ → ℕ → ℕ
later v a b = choose v (max a b) (min a b)

-- a walk comes to a no later than to b; whether it comes to a before b
abbrev pub InOrder : Way → ℕ → ℕ → Type 0
InOrder v a b = near v a b ≤ far v a b

abbrev pub precedes : Way → ℕ → ℕ → Bool
precedes v a b = ltb (near v a b) (far v a b)

-- x lies before the point a, or from it on; a walk comes to y before x
abbrev pub Before : Way → ℕ → ℕ → Type 0
Before v a x = InOrder v (far v x (suc x)) a

abbrev pub From : Way → ℕ → ℕ → Type 0
From v a x = InOrder v a (near v x (suc x))

abbrev pub Nearer : Way → ℕ → ℕ → Type 0
Nearer v y x = Before v (near v x (suc x)) y

pub before_or_from : (v : Way) (a x : ℕ) → Before v a x ⊎ From v a x
before_or_from Up a x = ⊎_elim inr inl (le_or_lt a x)
before_or_from Down a x = le_or_lt a x

-- ---- what follows from the order

pub in_order : (v : Way) (a b c : ℕ) → InOrder v a b → InOrder v b c → InOrder v a c
in_order Up a b c h i = omega arith
in_order Down a b c h i = omega arith

module _ (a b c : ℕ) where
  pub from_sooner : (v : Way) → From v (sooner v a b) c → Before v a c → From v b c
  from_sooner Up h i = omega arith
  from_sooner Down h i = omega arith

  pub before_later : (v : Way) → Before v (later v a b) c → From v a c → Before v b c
  before_later Up h i = omega arith
  before_later Down h i = omega arith

  pub precedes_no : (v : Way) → precedes v (sooner v a b) c ≡ false → InOrder v c a
  precedes_no Up e = let h = ltb-false (min a b) c e in omega arith
  precedes_no Down e = let h = ltb-false c (max a b) e in omega arith

pub precedes_yes : (v : Way) (a b : ℕ) → precedes v a b ≡ true → InOrder v a b
precedes_yes v a b e = let h = ltb-true (near v a b) (far v a b) e in omega arith

pub front_back : (v : Way) (r : Region) → InOrder v (front v r) (back v r)
front_back Up r = omega arith
front_back Down r = omega arith

-- what lies from a to b in the order of a walk, and by numbers
module _ (a b : ℕ) where
  pub near_near : (v : Way) → near v (near v a b) (far v a b) ≡ a
  near_near Up = refl
  near_near Down = refl

  pub far_far : (v : Way) → far v (near v a b) (far v a b) ≡ b
  far_far Up = refl
  far_far Down = refl

  pub between : (v : Way) (x : ℕ) → From v a x → Before v b x → (near v a b ≤ x) × (x < far v a b)
  between Up x h i = (h, i)
  between Down x h i = (i, h)

  pub within : (v : Way) (x : ℕ) → From v (near v a b) x → Before v (far v a b) x → (a ≤ x) × (x < b)
  within Up x h i = (h, i)
  within Down x h i = (i, h)

  pub by_points : (v : Way) (x : ℕ) → a ≤ x → x < b → From v (near v a b) x × Before v (far v a b) x
  by_points Up x h i = (h, i)
  by_points Down x h i = (i, h)

-- ---- the walks

-- what a walk from a to b looks for there
abbrev pub fit : Way → Query → ℕ → ℕ → Option Hit
fit Up q a b = fit_low q a b
fit Down q a b = fit_high q b a

-- where the window ends
abbrev pub last : Way → Query → ℕ
last v q = far v q.start.0 q.end.0

-- the gaps that the taken regions leave from a to b, as far as the window goes, and then as k says, over the taken regions that are left;
-- downwards the lists have the highest region first
unfoldable pub gaps : Way → Query → (List Region → Option Hit) → ℕ → ℕ → List Region → Option Hit
gaps v q k a b [] = or_else (fit v q a b) (k [])
gaps v q k a b (t ∷ ts) =
    or_else (fit v q a (sooner v b (front v t))) (cond (precedes v (sooner v b (last v q)) (back v t)) (k (t ∷ ts)) (gaps v q k (later v a (back v t)) b ts))

unfoldable pub walk : Way → Query → List Region → List Region → Option Hit
walk v q [] ts = none
walk v q (r ∷ rs) ts = cond (serves (asks q) r) (gaps v q (walk v q rs) (front v r) (back v r) ts) (walk v q rs ts)

-- a list turned round, onto what is there already
unfoldable pub onto : List Region → List Region → List Region
onto acc [] = acc
onto acc (r ∷ rs) = onto (r ∷ acc) rs

unfoldable pub falling : List Region → List Region
falling xs = onto [] xs

-- a list in the order of the walk
abbrev pub along : Way → List Region → List Region
along Up xs = xs
along Down xs = falling xs
