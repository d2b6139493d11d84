-- The walk over the list makes the shortest list of the changed meaning. Assumes nothing.
use Prim.Native.Nat.{ℕ, ◌-◌, ◌≤◌, ◌<◌, min, max}
use mathlib.Core.Path.{◌≡◌, refl, sym, ap, ◌∙◌}
use mathlib.Core.List.{List, [], ◌∷◌}
use native.Mathlib.Omega.{arith}
use Rattle.regions.specs.declared.Region.{Region}
use Rattle.regions.specs.declared.State.{State}
use Rattle.regions.specs.declared.State.TheVariants.{Absent, Present}
use Rattle.regions.specs.Meaning.{Meaning, end, at, push, shortest}
use Rattle.regions.specs.Changes.{after}
use Rattle.regions.specs.Steps.{stretch}
use Rattle.regions.proofs.Rises.{Rises, ended, next, Canonical}
use Rattle.regions.proofs.Push.{push_to}
use Rattle.regions.proofs.RoundTrip.{inside_yes, inside_below, inside_past, at_here, at_before, at_past, rises_end, rises_below, push_absent}

-- ---- a change over a range, worked out on a list

-- acc is done up to c, and the regions are to come
unfoldable pub walk : (State → State) → ℕ → ℕ → List Region → ℕ → List Region → List Region
walk k lo hi acc c [] = stretch k lo hi acc c (max c hi) Absent
walk k lo hi acc c (r ∷ rs) =
    walk k lo hi (stretch k lo hi (stretch k lo hi acc c r.base.0 Absent) r.base.0 (end r) (Present r.tag)) (end r) rs

unfoldable pub update : (State → State) → ℕ → ℕ → List Region → List Region
update k lo hi xs = walk k lo hi [] 0 xs

-- ---- it is the shortest list

module _ (k : State → State) (lo hi : ℕ) (f : Meaning) where
  after_in : (a : ℕ) → lo ≤ a → a < hi → after k lo hi f a ≡ k (f a)
  unfolding after
  after_in a l m = rw (inside_yes lo hi a l m)

  after_below : (a : ℕ) → a < lo → after k lo hi f a ≡ f a
  unfolding after
  after_below a l = rw (inside_below lo hi a l)

  after_past : (a : ℕ) → hi ≤ a → after k lo hi f a ≡ f a
  unfolding after
  after_past a l = rw (inside_past lo hi a l)

  stretch_shortest : lo ≤ hi → (c e : ℕ) (v : State) → c ≤ e → ((a : ℕ) → c ≤ a → a < e → f a ≡ v)
      → shortest (after k lo hi f) e ≡ stretch k lo hi (shortest (after k lo hi f) c) c e v
  unfolding stretch
  stretch_shortest w c e v l h =
      let m = max c (min lo e) in
      let p = max c (min hi e) in
      push_to (after k lo hi f) p e v (omega arith) (λ a i j. after_past a (omega arith) ∙ h a (omega arith) j)
      ∙ ap (λ (x : List Region). push x p (e - p) v)
      (push_to (after k lo hi f) m p (k v) (omega arith) (λ a i j. after_in a (omega arith) (omega arith) ∙ ap k (h a (omega arith) (omega arith)))
      ∙ ap (λ (x : List Region). push x m (p - m) (k v))
      (push_to (after k lo hi f) c m v (omega arith) (λ a i j. after_below a (omega arith) ∙ h a i (omega arith))))

  walk_shortest : lo ≤ hi → {c n : ℕ} {v : State} {xs : List Region} → Rises c v n xs → hi ≤ n → ((a : ℕ) → c ≤ a → a < n → f a ≡ at xs a)
      → walk k lo hi (shortest (after k lo hi f) c) c xs ≡ shortest (after k lo hi f) n
  unfolding walk at
  walk_shortest w {c} {n} (ended l) b h =
      sym (stretch_shortest w c (max c hi) Absent (omega arith) (λ a i j. h a i (omega arith)))
      ∙ sym (push_to (after k lo hi f) (max c hi) n Absent (omega arith) (λ a i j. after_past a (omega arith) ∙ h a (omega arith) j)
      ∙ push_absent (shortest (after k lo hi f) (max c hi)) (max c hi) (n - max c hi))
  walk_shortest w {c} {n} (next {r = r} {rs = rs} d q) b h =
      let m = rises_end q in
      ap (λ (x : List Region). walk k lo hi (stretch k lo hi x r.base.0 (end r) (Present r.tag)) (end r) rs)
      (sym (stretch_shortest w c r.base.0 Absent d.low (λ a i j. h a i (omega arith) ∙ at_before r rs a j ∙ rises_below a q (omega arith))))
      ∙ ap (λ (x : List Region). walk k lo hi x (end r) rs)
      (sym (stretch_shortest w r.base.0 (end r) (Present r.tag) (omega arith) (λ a i j. h a (omega arith) (omega arith) ∙ at_here r rs a i j)))
      ∙ walk_shortest w q b (λ a i j. h a (omega arith) j ∙ at_past r rs a i)

pub update_shortest : (k : State → State) (lo hi n : ℕ) (xs : List Region) → lo ≤ hi → hi ≤ n → Canonical n xs
    → update k lo hi xs ≡ shortest (after k lo hi (at xs)) n
unfolding update shortest
update_shortest k lo hi n xs w b q = walk_shortest k lo hi (at xs) w q b (λ a i j. refl)
