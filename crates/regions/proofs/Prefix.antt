-- What a shortest list says below the end of one of its regions has the list up to there for its shortest list. Assumes nothing.
use Prim.Native.Nat.{ℕ, ◌≤◌, ◌<◌}
use mathlib.Core.Path.{◌≡◌, refl, ◌∙◌}
use mathlib.Core.List.{List, [], ◌∷◌, ◌++◌}
use native.Mathlib.Omega.{arith}
use Rattle.regions.specs.declared.Region.{Region}
use Rattle.regions.specs.declared.State.{State}
use Rattle.regions.specs.Meaning.{at, shortest}
use Rattle.regions.specs.Changes.{after}
use Rattle.regions.proofs.Rises.{Rises, ended, next, Canonical, reach, edge}
use Rattle.regions.proofs.Count.{agree}
use Rattle.regions.proofs.RoundTrip.{rises_below, round_trip, inside_below, at_past}

first_rises : (ys zs : List Region) {c n : ℕ} {v : State} → Rises c v n (ys ++ zs) → Rises c v (reach c ys) ys
unfolding reach
first_rises [] zs {c = c} w = let h : c ≤ c = omega arith in ended h
first_rises (r ∷ ys) zs (next k w) = next k (first_rises ys zs w)

pub reach_le : (ys : List Region) {c n : ℕ} {v : State} → Rises c v n ys → c ≤ reach c ys
unfolding reach
reach_le [] w = omega arith
reach_le (r ∷ ys) (next k w) = omega (arith, reach_le ys w)

first_at : (ys zs : List Region) {c n : ℕ} {v : State} (a : ℕ) → Rises c v n (ys ++ zs) → a < reach c ys → at (ys ++ zs) a ≡ at ys a
unfolding reach at
first_at [] zs a w h = rises_below a w h
first_at (r ∷ ys) zs a (next k w) h = rw (first_at ys zs a w h)

prefix : (n : ℕ) (ys zs : List Region) → Canonical n (ys ++ zs) → shortest (at (ys ++ zs)) (reach 0 ys) ≡ ys
prefix n ys zs w = agree (at (ys ++ zs)) (at ys) (reach 0 ys) (λ a h. first_at ys zs a w h) ∙ round_trip (reach 0 ys) ys (first_rises ys zs w)

-- so an update may start behind the regions that end at or below lo
pub start_behind : (k : State → State) (lo hi n : ℕ) (ys zs : List Region) → Canonical n (ys ++ zs) → reach 0 ys ≤ lo
    → shortest (after k lo hi (at (ys ++ zs))) (reach 0 ys) ≡ ys
unfolding after
start_behind k lo hi n ys zs w h =
    agree (after k lo hi (at (ys ++ zs))) (at (ys ++ zs)) (reach 0 ys) (λ a l. rw (inside_below lo hi a (omega arith))) ∙ prefix n ys zs w

-- ---- what follows

pub rest_rises : (ys zs : List Region) {c n : ℕ} {v : State} → Rises c v n (ys ++ zs) → Rises (reach c ys) (edge v ys) n zs
unfolding reach edge
rest_rises [] zs w = w
rest_rises (r ∷ ys) zs (next k w) = rest_rises ys zs w

pub rest_at : (ys zs : List Region) {c n : ℕ} {v : State} (a : ℕ) → Rises c v n (ys ++ zs) → reach c ys ≤ a → at (ys ++ zs) a ≡ at zs a
unfolding reach
rest_at [] zs a w h = refl
rest_at (r ∷ ys) zs a (next k w) h = at_past r (ys ++ zs) a (omega (arith, reach_le ys (first_rises ys zs w))) ∙ rest_at ys zs a w h
