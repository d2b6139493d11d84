-- That the length of a path is a number, and what a step of a path finds. Assumes nothing.
use Prim.Native.Nat.{ℕ, ◌+◌, ◌-◌, ◌≤◌, ◌<◌}
use mathlib.Core.Path.{◌≡◌, refl, sym}
use mathlib.Core.Bool.{true, false}
use mathlib.Core.List.{List, [], ◌∷◌, ◌++◌}
use native.Mathlib.Omega.{arith}
use lib.ListN.{length, drop, get_or, length-drop, length-append}
use lib.Seq.{drop-cons}
use borrow.Author.Tests.{ne_eqb}
use Rattle.lookup.specs.Values.{steps, path}
use Rattle.paths.specs.Steps.{starts}

-- ---- the path of a way

-- `fits (Child _)` and `fits (Below _ _)`, by the names
pub child_fits : (p : List ℕ) → length p + 1 < 18446744073709551616 → length (path (p ∷ [])) < 18446744073709551616
unfolding path steps
child_fits p h = omega (arith, length-append p [])

pub below_fits : (p q : List ℕ) → length p + length q + 2 < 18446744073709551616 → length (path (p ∷ (q ∷ []))) < 18446744073709551616
unfolding path steps
below_fits p q h = omega (arith, length-append p ((47 ∷ q) ++ []), length-append q [])

-- ---- a step of a path

pub starts_within : (xs l : List ℕ) → true ≡ starts xs l → length xs ≤ length l
unfolding starts
starts_within [] l e = omega arith
starts_within (x ∷ xs) [] e = cc
starts_within (x ∷ xs) (y ∷ l) e = grind (arith, starts_within xs l)

-- no room for a / and a name
pub way_short : (w name : List ℕ) (done len : ℕ) → len ≡ length w → len - done ≤ length name → false ≡ starts (47 ∷ name) (drop done w)
way_short w name done len e h = grind (arith, length-drop, starts_within (47 ∷ name) (drop done w))

-- another byte than a /
pub way_other : (w name : List ℕ) (done : ℕ) → done < length w → (get_or w done 0 ≡ 47 → ⊥) → false ≡ starts (47 ∷ name) (drop done w)
unfolding starts
way_other w name done h z = rw (drop-cons w done 0 h, ne_eqb 47 (get_or w done 0) (λ q. z (sym q))) refl
