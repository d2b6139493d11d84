-- What lies in one region of a shortest list is a stretch of one tag, and its longest stretches are the runs. Assumes nothing.
use Prim.Native.Nat.{ℕ, suc, ◌+◌, ◌-◌, ◌≤◌, ◌<◌}
use mathlib.Core.Path.{◌≡◌, refl, sym, ap, ◌∙◌}
use mathlib.Core.Bool.{Bool, true, false, ◌&&◌, ◌||◌}
use mathlib.Core.List.{List, ◌∷◌}
use mathlib.Core.Logic.{◌⊎◌, inl, inr}
use native.Mathlib.Omega.{arith}
use lib.Dec.{leb}
use borrow.Author.Tests.{leb-true, leb-false, le-leb}
use Rattle.address.proofs.Tests.{both, and, no, clash, le_or_lt, zero_not_one}
use Rattle.regions.specs.declared.Tag.{Tag}
use Rattle.regions.specs.declared.Region.{Region}
use Rattle.regions.specs.declared.State.{State}
use Rattle.regions.specs.declared.State.TheVariants.{Absent, Present}
use Rattle.regions.specs.Meaning.{Meaning, end, at, shortest, top}
use Rattle.regions.specs.Runs.{lies_in, in_one, OneTag, run_of, run_at}
use Rattle.regions.specs.Steps.{Longest, Parted}
use Rattle.regions.proofs.Rises.{Rises, ended, next}
use Rattle.regions.proofs.RoundTrip.{inside_yes, inside_past, rises_end, rises_below, at_here, at_before, at_past, at_shortest, canonical_shortest}
use Rattle.regions.proofs.Trim.{rises_apart}

-- ---- lying in one region

-- what lies in one region is a stretch of one tag, from c on and below n
pub record Stretch (xs : List Region) (p : Tag → Bool) (size a c n : ℕ) : Type 0 where
  pub low : c ≤ a
  pub high : a + size ≤ n
  pub same : OneTag (at xs) p size a

pub one_in : (p : Tag → Bool) (size a : ℕ) {c n : ℕ} {v : State} {xs : List Region} → Rises c v n xs → in_one p size a xs ≡ true → Stretch xs p size a c n
unfolding in_one
one_in p size a (ended l) e = absurd (zero_not_one cc)
one_in p size a {c} {n} {v} (next {r = r} {rs = rs} f w) e = go (lies_in p size a r) refl e (one_in p size a w)
  where
    go : (t : Bool) → lies_in p size a r ≡ t → t || in_one p size a rs ≡ true → (in_one p size a rs ≡ true → Stretch rs p size a (end r) n)
        → Stretch (r ∷ rs) p size a c n
    go true h e ih =
        let o = both (p r.tag) (leb r.base.0 a && leb (a + size) (end r)) h in
        let q = both (leb r.base.0 a) (leb (a + size) (end r)) o.1 in
        let x = leb-true r.base.0 a q.0 in
        let y = leb-true (a + size) (end r) q.1 in
        let l = rises_end w in
        let s : OneTag (at (r ∷ rs)) p size a = record { tag = r.tag; right = o.0; all = λ b i j. at_here r rs b (omega arith) (omega arith) } in
        record { low = omega arith; high = omega arith; same = s }
    go false h e ih =
        let s = ih e in
        let k = s.same in
        let o : OneTag (at (r ∷ rs)) p size a = record { tag = k.tag; right = k.right; all = λ b i j. at_past r rs b (omega (arith, s.low)) ∙ k.all b i j } in
        record { low = omega (arith, s.low); high = s.high; same = o }

or_true : (a : Bool) → a || true ≡ true
or_true true = refl
or_true false = refl

-- and where a stretch of one tag lies in a rising list, it lies in one region
pub in_one_lem : (p : Tag → Bool) (size a : ℕ) (t : Tag) {c n : ℕ} {v : State} {xs : List Region} → Rises c v n xs → 0 < size → p t ≡ true
    → ((b : ℕ) → a ≤ b → b < a + size → at xs b ≡ Present t) → in_one p size a xs ≡ true
unfolding in_one at
in_one_lem p size a t (ended l) s k h = let e = h a (omega arith) (omega arith) in absurd (zero_not_one cc)
in_one_lem p size a t (next {r = r} {rs = rs} f w) s k h = go (le_or_lt r.base.0 a) (le_or_lt (end r) a) (in_one_lem p size a t w s k)
  where
    here : r.base.0 ≤ a → a < end r → r.tag ≡ t
    here l m = let e = sym (at_here r rs a l m) ∙ h a (omega arith) (omega arith) in cc

    whole : r.base.0 ≤ a → a < end r → (a + size ≤ end r) ⊎ (end r < a + size) → lies_in p size a r ≡ true
    whole l m (inl i) =
        let j : p r.tag ≡ true = rw (here l m) k in
        and j (and (le-leb r.base.0 a l) (le-leb (a + size) (end r) i))
    whole l m (inr i) =
        absurd (rises_apart w (sym (at_past r rs (end r) (omega arith)) ∙ h (end r) (omega arith) i ∙ ap Present (sym (here l m))))

    go : (r.base.0 ≤ a) ⊎ (a < r.base.0) → (end r ≤ a) ⊎ (a < end r)
        → (((b : ℕ) → a ≤ b → b < a + size → at rs b ≡ Present t) → in_one p size a rs ≡ true) → lies_in p size a r || in_one p size a rs ≡ true
    go (inl l) (inr m) ih = rw (whole l m (le_or_lt (a + size) (end r)))
    go (inl l) (inl m) ih = rw (ih (λ b i j. sym (at_past r rs b (omega arith)) ∙ h b i j)) (or_true (lies_in p size a r))
    go (inr l) m ih =
        let e = sym (at_before r rs a l ∙ rises_below a w (omega arith)) ∙ h a (omega arith) (omega arith) in
        absurd (zero_not_one cc)

-- the size addresses from a lie in one run of f's shortest list exactly when f gives them all one tag, which passes
module _ (f : Meaning) (p : Tag → Bool) (size a : ℕ) (pos : 0 < size) where
  pub in_one_run : a + size ≤ top → OneTag f p size a → in_one p size a (shortest f top) ≡ true
  in_one_run h o =
      in_one_lem p size a o.tag (canonical_shortest f top) pos o.right (λ b i j. at_shortest f top b (omega arith) ∙ o.all b i j)

  pub one_run_in : in_one p size a (shortest f top) ≡ true → (a + size ≤ top) × OneTag f p size a
  one_run_in e =
      let s = one_in p size a (canonical_shortest f top) e in
      let k = s.same in
      let h = s.high in
      let o : OneTag f p size a = record { tag = k.tag; right = k.right; all = λ b i j. sym (at_shortest f top b (omega arith)) ∙ k.all b i j } in
      (h, o)

-- a state's tag passes
abbrev pub passes : (Tag → Bool) → State → Bool
passes p Absent = false
passes p (Present t) = p t

module _ (p : Tag → Bool) (size a : ℕ) (pos : 0 < size) {c n : ℕ} {v : State} {xs : List Region} (w : Rises c v n xs) where
  -- an address that is absent, or of a tag that does not pass, lies in no run that is asked for
  pub in_none : passes p (at xs a) ≡ false → in_one p size a xs ≡ false
  in_none e =
      no (in_one p size a xs)
      (λ i. let s = (one_in p size a w i).same in
      clash (p s.tag) s.right (ap (passes p) (sym (s.all a (omega arith) (omega arith))) ∙ e))

  -- from a to hi all addresses have the tag t, and hi has another: the size from a lies in a run when it ends by hi
  pub in_run : (t : Tag) (hi : ℕ) → a < hi → ((b : ℕ) → a ≤ b → b < hi → at xs b ≡ Present t) → (at xs hi ≡ Present t → ⊥) → p t ≡ true
      → in_one p size a xs ≡ leb (a + size) hi
  in_run t hi l f g e = go (leb (a + size) hi) refl
    where
      past : hi < a + size → in_one p size a xs ≡ true → ⊥
      past h i =
          let s = (one_in p size a w i).same in
          g (s.all hi (omega arith) h ∙ sym (s.all a (omega arith) (omega arith)) ∙ f a (omega arith) l)

      go : (b : Bool) → leb (a + size) hi ≡ b → in_one p size a xs ≡ b
      go true h = let k = leb-true (a + size) hi h in in_one_lem p size a t w pos e (λ b i j. f b i (omega arith))
      go false h = no (in_one p size a xs) (past (leb-false (a + size) hi h))

-- ---- runs

run_here : (r : Region) (rs : List Region) (a : ℕ) → r.base.0 ≤ a → a < end r → run_of r.base.0 (end r) ≡ run_at (r ∷ rs) a
unfolding run_at
run_here r rs a i j = rw (inside_yes r.base.0 (end r) a i j)

run_past : (r : Region) (rs : List Region) (a : ℕ) → end r ≤ a → run_at rs a ≡ run_at (r ∷ rs) a
unfolding run_at
run_past r rs a i = rw (inside_past r.base.0 (end r) a i)

-- each address that is present lies in one
pub record Lies (xs : List Region) (t : Tag) (a : ℕ) : Type 0 where
  pub lo : ℕ
  pub hi : ℕ
  pub low : lo ≤ a
  pub high : a < hi
  pub run : Longest xs t lo hi
  pub is : run_of lo hi ≡ run_at xs a

pub run_of_lem : {c n : ℕ} {v : State} {xs : List Region} (t : Tag) (a : ℕ) → Rises c v n xs → at xs a ≡ Present t → Lies xs t a
unfolding at
run_of_lem t a (ended l) e = absurd (zero_not_one cc)
run_of_lem t a (next {r = r} {rs = rs} k w) e = go (run_of_lem t a w) (le_or_lt r.base.0 a) (le_or_lt (end r) a)
  where
    from : (s : Lies rs t a) → (end r ≤ s.lo) ⊎ (s.lo < end r) → end r ≤ s.lo
    from s (inl x) = x
    from s (inr x) =
        let d = sym (rises_below s.lo w x) ∙ s.run.all s.lo (omega arith) (omega (arith, s.low, s.high)) in
        absurd (zero_not_one cc)

    before : (s : Lies rs t a) → end r ≤ s.lo → (b : ℕ) → suc b ≡ s.lo → at (r ∷ rs) b ≡ Present t → (end r ≤ b) ⊎ (b < end r) → ⊥
    before s m b y f (inl x) = s.run.begins b y (sym (at_past r rs b x) ∙ f)
    before s m b y f (inr x) =
        let d : s.lo ≡ end r = omega arith in
        rises_apart w (rw d at (s.run.all s.lo (omega arith) (omega (arith, s.low, s.high))) ∙ sym f ∙ at_here r rs b (omega (arith, k.some)) x)

    go : (at rs a ≡ Present t → Lies rs t a) → (r.base.0 ≤ a) ⊎ (a < r.base.0) → (end r ≤ a) ⊎ (a < end r) → Lies (r ∷ rs) t a
    go ih (inr i) j =
        let d = sym (at_before r rs a i ∙ rises_below a w (omega arith)) ∙ e in
        absurd (zero_not_one cc)
    go ih (inl i) (inr j) =
        let d : Present r.tag ≡ Present t = sym (at_here r rs a i j) ∙ e in
        let o : Longest (r ∷ rs) t r.base.0 (end r) = record {
          all = λ b x y. at_here r rs b x y ∙ d;
          stops = λ f. rises_apart w (sym (at_past r rs (end r) (omega arith)) ∙ f ∙ sym d);
          begins = λ b y f. let x = sym (at_before r rs b (omega arith) ∙ rises_below b w (omega arith)) ∙ f in absurd (zero_not_one cc);
        } in
        record { lo = r.base.0; hi = end r; low = i; high = j; run = o; is = run_here r rs a i j }
    go ih (inl i) (inl j) =
        let s = ih (sym (at_past r rs a j) ∙ e) in
        let m : end r ≤ s.lo = from s (le_or_lt (end r) s.lo) in
        let o : Longest (r ∷ rs) t s.lo s.hi = record {
          all = λ b x y. at_past r rs b (omega arith) ∙ s.run.all b x y;
          stops = λ f. s.run.stops (sym (at_past r rs s.hi (omega (arith, s.low, s.high))) ∙ f);
          begins = λ b y f. before s m b y f (le_or_lt (end r) b);
        } in
        record { lo = s.lo; hi = s.hi; low = s.low; high = s.high; run = o; is = s.is ∙ run_past r rs a j }

-- and in one only
same_run : {xs : List Region} (t : Tag) (lo hi lo' hi' a : ℕ) → lo ≤ a → a < hi → lo' ≤ a → a < hi' → Longest xs t lo hi → Longest xs t lo' hi' → (lo ≤ lo') × (hi' ≤ hi)
same_run {xs} t lo hi lo' hi' a i j i' j' l m = (low (le_or_lt lo lo'), high (le_or_lt hi' hi))
  where
    low : (lo ≤ lo') ⊎ (lo' < lo) → lo ≤ lo'
    low (inl x) = x
    low (inr x) = absurd (l.begins (lo - 1) (omega arith) (m.all (lo - 1) (omega arith) (omega arith)))

    high : (hi' ≤ hi) ⊎ (hi < hi') → hi' ≤ hi
    high (inl x) = x
    high (inr x) = absurd (l.stops (m.all hi (omega arith) x))

pub run_is : {c n : ℕ} {v : State} {xs : List Region} (t : Tag) (lo a hi : ℕ) → Rises c v n xs → lo ≤ a → a < hi → Longest xs t lo hi → run_of lo hi ≡ run_at xs a
run_is t lo a hi w i h l =
    let s = run_of_lem t a w (l.all a i h) in
    let x = same_run t lo hi s.lo s.hi a i h s.low s.high l s.run in
    let y = same_run t s.lo s.hi lo hi a s.low s.high i h s.run l in
    let d : lo ≡ s.lo = omega (arith, x.0, y.0) in
    let e : hi ≡ s.hi = omega (arith, x.1, y.1) in
    rw (d, e) s.is

-- ---- lists that have the tags that pass at the same addresses, from d on

-- ys has each tag that passes where xs has it
abbrev pub Within : (Tag → Bool) → ℕ → List Region → List Region → Type 0
Within p d xs ys = (t : Tag) → p t ≡ true → (a : ℕ) → d ≤ a → at xs a ≡ Present t → at ys a ≡ Present t

pub record Agree (p : Tag → Bool) (xs ys : List Region) (d : ℕ) : Type 0 where
  pub there : Within p d xs ys
  pub back : Within p d ys xs
  pub low : Parted xs d
  pub low' : Parted ys d

pub turned : (p : Tag → Bool) (xs ys : List Region) (d : ℕ) → Agree p xs ys d → Agree p ys xs d
turned p xs ys d g = record { there = g.back; back = g.there; low = g.low'; low' = g.low }

module _ {c c' n n' : ℕ} {v v' : State} {xs ys : List Region} (w : Rises c v n xs) (w' : Rises c' v' n' ys) (p : Tag → Bool) (d a : ℕ) (g : Agree p xs ys d) (l : d ≤ a) where
  -- have the same runs of these tags there
  pub run_same : (t : Tag) → p t ≡ true → at xs a ≡ Present t → run_at xs a ≡ run_at ys a
  run_same t k e = sym s.is ∙ run_is t s.lo a s.hi w' s.low s.high o
    where
      s : Lies xs t a
      s = run_of_lem t a w e

      from : (d ≤ s.lo) ⊎ (s.lo < d) → d ≤ s.lo
      from (inl x) = x
      from (inr x) = absurd (g.low (d - 1) t (omega arith) (s.run.all (d - 1) (omega arith) (omega (arith, s.high))) (s.run.all d (omega arith) (omega (arith, s.high))))

      m : d ≤ s.lo
      m = from (le_or_lt d s.lo)

      all : (b : ℕ) → s.lo ≤ b → b < s.hi → at ys b ≡ Present t
      all b x y = g.there t k b (omega (arith, m)) (s.run.all b x y)

      begins : (b : ℕ) → suc b ≡ s.lo → (d ≤ b) ⊎ (b < d) → at ys b ≡ Present t → ⊥
      begins b y (inl x) f = s.run.begins b y (g.back t k b x f)
      begins b y (inr x) f =
          let z : s.lo ≡ d = omega (arith, m) in
          g.low' b t (omega arith) f (rw z at (all s.lo (omega arith) (omega (arith, s.low, s.high))))

      o : Longest ys t s.lo s.hi
      o = record { all = all; stops = λ f. s.run.stops (g.back t k s.hi (omega (arith, m, s.low, s.high)) f); begins = λ b y. begins b y (le_or_lt d b) }

  -- and what lies in one region of the one lies in one of the other
  pub one_same : (size : ℕ) → 0 < size → in_one p size a xs ≡ true → in_one p size a ys ≡ true
  one_same size pos e =
      let s = (one_in p size a w e).same in
      in_one_lem p size a s.tag w' pos s.right (λ b i j. g.there s.tag s.right b (omega arith) (s.all b i j))
