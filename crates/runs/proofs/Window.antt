-- Records outside the window offer nothing: a walk may begin behind those that end at or below its start. Assumes nothing.
use Prim.Native.Nat.{ℕ, zero, suc, ◌-◌, ◌≤◌, ◌<◌}
use mathlib.Core.Path.{◌≡◌, refl, sym, ap, ◌∙◌}
use mathlib.Core.Bool.{Bool, true, false, cond}
use mathlib.Core.List.{List, [], ◌∷◌}
use native.Mathlib.Omega.{arith}
use lib.Dec.{leb}
use lib.ListN.{drop}
use borrow.Author.Tests.{leb-true}
use Rattle.address.proofs.Tests.{zero_not_one}
use Rattle.regions.specs.declared.Region.{Region}
use Rattle.regions.specs.declared.State.{State}
use Rattle.regions.specs.declared.State.TheVariants.{Absent, Present}
use Rattle.regions.specs.Meaning.{end, at, top}
use Rattle.regions.specs.Free.{usable, untaken, free_memory, free_runs}
use Rattle.regions.specs.Runs.{run_at}
use Rattle.regions.proofs.Rises.{Rises, next, Canonical}
use Rattle.regions.proofs.RoundTrip.{at_here, at_past, rises_below}
use Rattle.regions.proofs.Trim.{lower, rises_apart}
use Rattle.regions.proofs.Free.{runs_at, free_canonical, free_memory_lem}
use Rattle.regions.specs.Steps.{Parted}
use Rattle.regions.proofs.Lying.{Agree}
use Rattle.records.specs.Steps.{ending_by}
use Rattle.fits.specs.declared.Query.{Query}
use Rattle.fits.specs.Eligible.{asks, eligible, lowest}
use Rattle.fits.specs.Places.{hit_of}
use Rattle.fits.specs.declared.Way.TheVariants.{Up}
use Rattle.runs.specs.Steps.{first_in}
use Rattle.fits.proofs.Extremes.{lowest_gives}
use Rattle.fits.proofs.Stretches.{lowest_agree}
use Rattle.fits.proofs.Eligible.{eligible_same, hits_same}

-- ---- a first record that ends at or below the start

-- the list behind a region is a shortest list too
tail : {c n : ℕ} {v : State} {r : Region} {rs : List Region} → Rises c v n (r ∷ rs) → Canonical n rs
tail (next k w) = lower 0 Absent w (omega arith) (λ e. absurd (omega (arith, k.some)))

pub canonical_drop : (i : ℕ) {n : ℕ} (xs : List Region) → Canonical n xs → Canonical n (drop i xs)
canonical_drop zero xs w = w
canonical_drop (suc i) [] w = w
canonical_drop (suc i) (r ∷ rs) w = canonical_drop i rs (tail w)

module _ (q : Query) (pos : 0 < q.size.0) (ms ts ms' ts' : List Region) (w : Canonical top ms) (w' : Canonical top ms') (d : ℕ) (l : d ≤ q.start.0)
    (memory : (a : ℕ) → d ≤ a → at ms a ≡ at ms' a) (taken : (a : ℕ) → d ≤ a → at ts a ≡ at ts' a)
    (low : Parted (free_runs ms ts) d) (low' : Parted (free_runs ms' ts') d) where
  same : (a : ℕ) → d ≤ a → at (free_runs ms ts) a ≡ at (free_runs ms' ts') a
  unfolding free_memory
  same a i = runs_at ms ts w a ∙ rw (memory a i, taken a i) (sym (runs_at ms' ts' w' a))

  agree : Agree (asks q) (free_runs ms ts) (free_runs ms' ts') d
  agree = record { there = λ t k a i e. sym (same a i) ∙ e; back = λ t k a i e. same a i ∙ e; low = low; low' = low' }

  lowest_same : first_in Up ms ts q ≡ first_in Up ms' ts' q
  unfolding first_in
  lowest_same =
      let x = free_canonical ms ts in
      let y = free_canonical ms' ts' in
      hits_same q pos d l x y agree (λ b a. b < a) top (lowest (eligible q (free_runs ms ts)) top) (lowest_gives (eligible q (free_runs ms ts)) top)
      ∙ ap (hit_of (run_at (free_runs ms' ts'))) (lowest_agree (eligible q (free_runs ms ts)) (eligible q (free_runs ms' ts')) top (λ a i. eligible_same q pos d l x y agree a))

module _ (q : Query) (pos : 0 < q.size.0) where
  -- of the memory table
  memory_first : (r : Region) (ms ts : List Region) → Canonical top (r ∷ ms) → end r ≤ q.start.0 → first_in Up (r ∷ ms) ts q ≡ first_in Up ms ts q
  memory_first r ms ts (next k w) l =
      lowest_same q pos (r ∷ ms) ts ms ts (next k w) m (end r) l (λ a i. at_past r ms a i) (λ a i. refl) low low'
    where
      m : Canonical top ms
      m = tail (next k w)

      low : Parted (free_runs (r ∷ ms) ts) (end r)
      low b t y e f =
          let x = free_memory_lem (r ∷ ms) ts (next k w) b t e in
          let z = free_memory_lem (r ∷ ms) ts (next k w) (end r) t f in
          rises_apart w (sym (at_past r ms (end r) (omega arith)) ∙ z ∙ sym x ∙ at_here r ms b (omega (arith, k.some)) (omega arith))

      low' : Parted (free_runs ms ts) (end r)
      low' b t y e f =
          let x = sym (rises_below b w (omega arith)) ∙ free_memory_lem ms ts m b t e in
          absurd (zero_not_one cc)

  -- and of the taken table, where the next ends there too: that one shuts the run that the window begins in
  taken_first : (ms : List Region) (r s : Region) (ts : List Region) → Canonical top ms → Canonical top (r ∷ s ∷ ts) → end s ≤ q.start.0
      → first_in Up ms (r ∷ s ∷ ts) q ≡ first_in Up ms (s ∷ ts) q
  unfolding free_memory
  taken_first ms r s ts w (next k (next k' v)) l =
      lowest_same q pos ms (r ∷ s ∷ ts) ms (s ∷ ts) w w (end s) l (λ a i. refl) (λ a i. at_past r (s ∷ ts) a (omega (arith, k'.low)))
      (shut (r ∷ s ∷ ts) (λ b x y. at_past r (s ∷ ts) b (omega (arith, k'.low)) ∙ at_here s ts b x y)) (shut (s ∷ ts) (λ b x y. at_here s ts b x y))
    where
      shut : (us : List Region) → ((b : ℕ) → s.base.0 ≤ b → b < end s → at us b ≡ Present s.tag) → Parted (free_runs ms us) (end s)
      shut us h b t y e f =
          let x = sym (runs_at ms us w b ∙ ap (untaken (usable (at ms b))) (h b (omega (arith, k'.some)) (omega arith))) ∙ e in
          absurd (zero_not_one cc)

  -- ---- the walk may begin behind all of them

  pub from_memory : (ms ts : List Region) → Canonical top ms → first_in Up (drop (ending_by q.start.0 ms) ms) ts q ≡ first_in Up ms ts q
  unfolding ending_by
  from_memory [] ts w = refl
  from_memory (r ∷ ms) ts w = go (leb (end r) q.start.0) refl (from_memory ms ts (tail w))
    where
      go : (b : Bool) → leb (end r) q.start.0 ≡ b → first_in Up (drop (ending_by q.start.0 ms) ms) ts q ≡ first_in Up ms ts q
          → first_in Up (drop (cond b (suc (ending_by q.start.0 ms)) 0) (r ∷ ms)) ts q ≡ first_in Up (r ∷ ms) ts q
      go true e ih = ih ∙ sym (memory_first r ms ts w (leb-true (end r) q.start.0 e))
      go false e ih = refl

  pub from_taken : (ms ts : List Region) → Canonical top ms → Canonical top ts → first_in Up ms (drop (ending_by q.start.0 ts - 1) ts) q ≡ first_in Up ms ts q
  unfolding ending_by
  from_taken ms [] w u = refl
  from_taken ms (r ∷ []) w u = go (leb (end r) q.start.0)
    where
      go : (b : Bool) → first_in Up ms (drop (cond b 1 0 - 1) (r ∷ [])) q ≡ first_in Up ms (r ∷ []) q
      go true = refl
      go false = refl
  from_taken ms (r ∷ s ∷ ts) w u = go (leb (end r) q.start.0) (leb (end s) q.start.0) refl (from_taken ms (s ∷ ts) w (tail u))
    where
      go : (b c : Bool) → leb (end s) q.start.0 ≡ c
          → first_in Up ms (drop (cond c (suc (ending_by q.start.0 ts)) 0 - 1) (s ∷ ts)) q ≡ first_in Up ms (s ∷ ts) q
          → first_in Up ms (drop (cond b (suc (cond c (suc (ending_by q.start.0 ts)) 0)) 0 - 1) (r ∷ s ∷ ts)) q ≡ first_in Up ms (r ∷ s ∷ ts) q
      go true true e ih =
          let n = ending_by q.start.0 ts in
          let x : suc (suc n) - 1 ≡ suc n = omega arith in
          let y : suc n - 1 ≡ n = omega arith in
          rw x (rw y at ih ∙ sym (taken_first ms r s ts w u (leb-true (end s) q.start.0 e)))
      go true false e ih = refl
      go false c e ih = refl
