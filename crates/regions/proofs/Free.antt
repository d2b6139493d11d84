-- The free runs say what is free, which is memory. Assumes nothing.
use Prim.Native.Nat.{ℕ, ◌≤◌, ◌<◌}
use mathlib.Core.Path.{◌≡◌, refl, sym, ap, ◌∙◌}
use mathlib.Core.Bool.{Bool, true, false, cond}
use mathlib.Core.List.{List}
use mathlib.Core.Logic.{◌⊎◌, inl, inr}
use Rattle.address.proofs.Tests.{le_or_lt, zero_not_one}
use Rattle.regions.specs.declared.Tag.{Tag}
use Rattle.regions.specs.declared.Region.{Region}
use Rattle.regions.specs.declared.State.{State}
use Rattle.regions.specs.declared.State.TheVariants.{Absent, Present}
use Rattle.regions.specs.Meaning.{Meaning, at, top}
use Rattle.regions.specs.Changes.{has}
use Rattle.regions.specs.Free.{usable, untaken, free_memory, free_runs}
use Rattle.regions.proofs.Rises.{Canonical}
use Rattle.regions.proofs.RoundTrip.{rises_above, at_shortest, at_shortest_above, canonical_shortest}
use Rattle.regions.proofs.Lying.{passes}

-- usable memory has memory's tag
pub usable_is : (v : State) (t : Tag) → usable v ≡ Present t → v ≡ Present t
usable_is Absent t e = e
usable_is (Present u) t e = go (has 4 u.flags) e
  where
    go : (b : Bool) → cond b Absent (Present u) ≡ Present t → Present u ≡ Present t
    go true e = absurd (zero_not_one cc)
    go false e = e

pub pass_untaken : (p : Tag → Bool) (v u : State) → passes p v ≡ false → passes p (untaken v u) ≡ false
pass_untaken p v Absent e = e
pass_untaken p v (Present t) e = refl

untaken_is : (v u : State) (t : Tag) → untaken v u ≡ Present t → v ≡ Present t
untaken_is v Absent t e = e
untaken_is v (Present s) t e = absurd (zero_not_one cc)

-- where there is no memory nothing is free
pub untaken_absent : (v : State) → untaken Absent v ≡ Absent
untaken_absent Absent = refl
untaken_absent (Present t) = refl

-- the runs say what is free, at every address
pub runs_at : (ms ts : List Region) → Canonical top ms → (a : ℕ) → at (free_runs ms ts) a ≡ free_memory (at ms) (at ts) a
unfolding free_memory free_runs
runs_at ms ts w a = go (le_or_lt top a)
  where
    go : (top ≤ a) ⊎ (a < top) → at (free_runs ms ts) a ≡ free_memory (at ms) (at ts) a
    go (inl h) =
        at_shortest_above (free_memory (at ms) (at ts)) top a h ∙ sym (ap (λ (x : State). untaken (usable x) (at ts a)) (rises_above a w h) ∙ untaken_absent (at ts a))
    go (inr h) = at_shortest (free_memory (at ms) (at ts)) top a h

-- they are a shortest list
pub free_canonical : (ms ts : List Region) → Canonical top (free_runs ms ts)
unfolding free_runs
free_canonical ms ts = canonical_shortest (free_memory (at ms) (at ts)) top

-- and what is free is memory
pub free_is : (f g : Meaning) (a : ℕ) (t : Tag) → free_memory f g a ≡ Present t → f a ≡ Present t
unfolding free_memory
free_is f g a t e = usable_is (f a) t (untaken_is (usable (f a)) (g a) t e)

pub free_memory_lem : (ms ts : List Region) → Canonical top ms → (a : ℕ) (t : Tag) → at (free_runs ms ts) a ≡ Present t → at ms a ≡ Present t
free_memory_lem ms ts w a t e = free_is (at ms) (at ts) a t (sym (runs_at ms ts w a) ∙ e)
