-- A change that makes one state of a whole range leaves few of the regions that the range meets or touches. Assumes nothing.
use Prim.Native.Nat.{ℕ, suc, ◌-◌, ◌≤◌, ◌<◌, min, max}
use mathlib.Core.Path.{◌≡◌, refl, ◌∙◌}
use mathlib.Core.List.{List, [], ◌∷◌}
use native.Mathlib.Omega.{arith}
use lib.ListN.{length}
use Rattle.regions.specs.declared.Region.{Region}
use Rattle.regions.specs.declared.State.{State}
use Rattle.regions.specs.declared.State.TheVariants.{Absent, Present}
use Rattle.regions.specs.Meaning.{Meaning, end, at, shortest}
use Rattle.regions.specs.Changes.{after}
use Rattle.regions.proofs.Rises.{Rises, next, Canonical}
use Rattle.regions.proofs.Push.{push_to}
use Rattle.regions.proofs.Count.{push_by_one}
use Rattle.regions.proofs.RoundTrip.{rises_below, at_here, at_before, at_past, push_absent, inside_yes, inside_below, inside_past}

-- ---- how much longer a stretch of one state makes the list

one_more : (f : Meaning) (c e : ℕ) (v : State) → c ≤ e → ((a : ℕ) → c ≤ a → a < e → f a ≡ v) → length (shortest f e) ≤ suc (length (shortest f c))
one_more f c e v l h = rw (push_to f c e v l h) (push_by_one (shortest f c) c (e - c) v)

no_more : (f : Meaning) (c e : ℕ) → c ≤ e → ((a : ℕ) → c ≤ a → a < e → f a ≡ Absent) → length (shortest f e) ≡ length (shortest f c)
no_more f c e l h = rw (push_to f c e Absent l h, push_absent)

-- ---- the regions that a range meets or touches

-- the first region ends above a
abbrev pub Ends : ℕ → List Region → Type 0
Ends a [] = Unit {0}
Ends a (r ∷ rs) = a < end r

-- each region begins at or below a
abbrev pub Begins : ℕ → List Region → Type 0
Begins a [] = Unit {0}
Begins a (r ∷ rs) = (r.base.0 ≤ a) × Begins a rs

-- from hi on there is one state up to e, then nothing
record Upper (hi : ℕ) (xs : List Region) : Type 0 where
  e : ℕ
  v : State
  low : hi ≤ e
  here : (a : ℕ) → hi ≤ a → a < e → at xs a ≡ v
  past : (a : ℕ) → e ≤ a → at xs a ≡ Absent

upper : (hi : ℕ) (xs : List Region) {c n : ℕ} {v : State} → Rises c v n xs → Begins hi xs → Upper hi xs
unfolding at
upper hi [] w b = record { e = hi; v = Absent; low = omega arith; here = λ a i j. refl; past = λ a i. refl }
upper hi (r ∷ []) w b =
    record {
      e = max hi (end r);
      v = Present r.tag;
      low = omega arith;
      here = λ a i j. at_here r [] a (omega (arith, b.0)) (omega arith);
      past = λ a i. at_past r [] a (omega arith);
    }
upper hi (r ∷ q ∷ rs) (next k (next j w)) b =
    let u = upper hi (q ∷ rs) (next j w) b.1 in
    record {
      e = u.e;
      v = u.v;
      low = u.low;
      here = λ a i m. at_past r (q ∷ rs) a (omega (arith, j.low, b.1.0)) ∙ u.here a i m;
      past = λ a i. at_past r (q ∷ rs) a (omega (arith, j.low, b.1.0, u.low)) ∙ u.past a i;
    }

module _ (k : State → State) (lo hi n : ℕ) (l : lo ≤ hi) (m : hi ≤ n) where
  -- below lo there is one region at most
  lower : (xs : List Region) → Canonical n xs → Ends (lo - 1) xs → length (shortest (after k lo hi (at xs)) lo) ≤ 1
  unfolding shortest after at
  lower [] w b =
      let z : length (shortest (after k lo hi (at [])) lo) ≡ 0 = no_more (after k lo hi (at [])) 0 lo (omega arith) (λ a i j. rw (inside_below lo hi a j)) in
      omega arith
  lower (r ∷ rs) (next f w) b =
      let g : Meaning = after k lo hi (at (r ∷ rs)) in
      let c : ℕ = min r.base.0 lo in
      let z : length (shortest g c) ≡ 0 =
      no_more g 0 c (omega arith) (λ a i j. rw (inside_below lo hi a (omega arith)) (at_before r rs a (omega arith) ∙ rises_below a w (omega arith))) in
      let o : length (shortest g lo) ≤ suc (length (shortest g c)) =
      one_more g c lo (Present r.tag) (omega arith) (λ a i j. rw (inside_below lo hi a j) (at_here r rs a (omega arith) (omega arith))) in
      omega arith

  -- if all of the range gets one state: one region below it, one for it, one above it
  pub few : (xs : List Region) (v : State) → Canonical n xs → Ends (lo - 1) xs → Begins hi xs → ((a : ℕ) → k (at xs a) ≡ v) → length (shortest (after k lo hi (at xs)) n) ≤ 3
  unfolding after
  few xs v w b c h =
      let g : Meaning = after k lo hi (at xs) in
      let u = upper hi xs w c in
      let e : ℕ = min u.e n in
      let p = lower xs w b in
      let q : length (shortest g hi) ≤ suc (length (shortest g lo)) = one_more g lo hi v l (λ a i j. rw (inside_yes lo hi a i j) (h a)) in
      let s : length (shortest g e) ≤ suc (length (shortest g hi)) =
      one_more g hi e u.v (omega (arith, u.low)) (λ a i j. rw (inside_past lo hi a i) (u.here a i (omega arith))) in
      let t : length (shortest g n) ≡ length (shortest g e) =
      no_more g e n (omega arith) (λ a i j. rw (inside_past lo hi a (omega (arith, u.low))) (u.past a (omega arith))) in
      omega arith
