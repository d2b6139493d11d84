-- The tests on tags, states and regions, answer by answer. Assumes nothing.
use Prim.Native.Nat.{ℕ, ◌+◌, ◌-◌, ◌/◌, ◌%◌, ◌≤◌, ◌<◌}
use mathlib.Core.Path.{◌≡◌, refl, sym, ap, ◌∙◌}
use mathlib.Core.Bool.{Bool, true, false, not, ◌&&◌, and-false}
use mathlib.Core.Logic.{◌⊎◌, inl, inr}
use native.Mathlib.Omega.{arith}
use native.Mathlib.Nat.{div-eq_of_lt}
use lib.Dec.{ltb}
use borrow.Author.Tests.{lt-ltb, le-ltb, le-leb, lt-leb, eq-eqb, ne_eqb, eqb-true}
use Rattle.address.proofs.Tests.{le_or_lt}
use Rattle.regions.specs.declared.Tag.{Tag}
use Rattle.regions.specs.declared.Region.{Region}
use Rattle.regions.specs.declared.State.{State}
use Rattle.regions.specs.declared.State.TheVariants.{Present}
use Rattle.regions.specs.declared.Change.{Change}
use Rattle.regions.specs.declared.Change.TheVariants.{Mark, Unmark}
use Rattle.regions.specs.Changes.{has, set_flag, clear_flag}
use Rattle.regions.specs.Steps.{FlagBounded, FlagsBounded}
use Rattle.regions.specs.Lists.{is, fits}

-- ---- regions

module _ (c : ℕ) (v : State) (r : Region) where
  pub fits_empty : r.size.0 ≡ 0 → false ≡ fits c v r
  unfolding fits
  fits_empty e = simp (le-ltb 0 r.size.0 (omega arith), and-false)

  pub fits_below : r.base.0 < c → false ≡ fits c v r
  unfolding fits
  fits_below h = rw (lt-leb c r.base.0 h)

  some : (r.size.0 ≡ 0 → ⊥) → ltb 0 r.size.0 ≡ true
  some n = lt-ltb 0 r.size.0 (omega arith)

  pub fits_above : (r.size.0 ≡ 0 → ⊥) → c < r.base.0 → true ≡ fits c v r
  unfolding fits
  fits_above n h =
      let l : c ≤ r.base.0 = omega arith in
      let d : c ≡ r.base.0 → ⊥ = λ e. omega arith in
      rw (le-leb c r.base.0 l, ne_eqb c r.base.0 d, some n)

  pub fits_touch : (b : Bool) → (r.size.0 ≡ 0 → ⊥) → c ≤ r.base.0 → r.base.0 ≤ c → b ≡ is v r.tag → not b ≡ fits c v r
  unfolding fits
  fits_touch b n h k q =
      let e : c ≡ r.base.0 = omega arith in
      rw (le-leb c r.base.0 h, eq-eqb c r.base.0 e, some n, ← q) (sym (whole (not b)))
    where
      whole : (b : Bool) → b && true ≡ b
      whole true = refl
      whole false = refl

-- ---- flags

module _ (w f : ℕ) (b : Bool) (q : b ≡ has w f) where
  pub flag_there : b ≡ true → f ≡ set_flag w f
  flag_there e = rw (← q, e)

  pub flag_set : b ≡ false → f + w ≡ set_flag w f
  flag_set e = rw (← q, e)

  pub flag_cleared : b ≡ true → f - w ≡ clear_flag w f
  flag_cleared e = rw (← q, e)

  pub flag_gone : b ≡ false → f ≡ clear_flag w f
  flag_gone e = rw (← q, e)

  -- flags that have a flag are no less than its weight
  pub flag_le : b ≡ true → w ≤ f
  flag_le e = go (le_or_lt w f)
    where
      go : (w ≤ f) ⊎ (f < w) → w ≤ f
      go (inl h) = h
      go (inr h) =
          let z : f / w ≡ 0 = div-eq_of_lt h in
          let y : 0 % 2 ≡ 1 = ap (λ (n : ℕ). n % 2) (sym z) ∙ eqb-true (f / w % 2) 1 (sym q ∙ e) in
          absurd (omega arith)

-- ---- changes

module _ (k : Change) (v : State) where
  pub flags_bounded_flags : (own : Tag) → v ≡ Present own → FlagsBounded v → own.flags ≤ 7
  flags_bounded_flags own e l = rw e at l

  pub flag_bounded_mark : (w : ℕ) → k ≡ Mark w → FlagBounded k → (0 < w) × (w ≤ 4)
  flag_bounded_mark w e h = rw e at h

  pub flag_bounded_unmark : (w : ℕ) → k ≡ Unmark w → FlagBounded k → (0 < w) × (w ≤ 4)
  flag_bounded_unmark w e h = rw e at h
