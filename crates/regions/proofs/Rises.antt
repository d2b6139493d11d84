-- Shortest lists by their records: the test `rises` as a record of facts for each region. Assumes nothing.
use Prim.Native.Nat.{ℕ, ◌≤◌, ◌<◌}
use mathlib.Core.Path.{◌≡◌, refl, ap}
use mathlib.Core.Bool.{Bool, true, false, not, ◌&&◌}
use mathlib.Core.List.{List, [], ◌∷◌}
use lib.Dec.{leb, ltb, eqb}
use borrow.Author.Tests.{ltb-true, lt-ltb, le-leb, leb-true, eq-eqb, eqb-true, not-true}
use Rattle.address.proofs.Tests.{both, and, zero_not_one}
use Rattle.regions.specs.declared.Tag.{Tag}
use Rattle.regions.specs.declared.Region.{Region}
use Rattle.regions.specs.declared.State.{State}
use Rattle.regions.specs.declared.State.TheVariants.{Absent, Present}
use Rattle.regions.specs.Meaning.{end}
use Rattle.regions.specs.Lists.{is, fits, rises}
use Rattle.regions.proofs.Push.{same_true, same_self}

-- r may come next: `fits` as facts
pub record Fits (c : ℕ) (v : State) (r : Region) : Type 0 where
  pub low : c ≤ r.base.0
  pub apart : c ≡ r.base.0 → v ≡ Present r.tag → ⊥
  pub some : 0 < r.size.0

-- each region fits in turn, and none passes n
pub data Rises : ℕ → State → ℕ → List Region → Type 0 where
  ended : {c n : ℕ} {v : State} → c ≤ n → Rises c v n []
  next : {c n : ℕ} {v : State} {r : Region} {rs : List Region} → Fits c v r → Rises (end r) (Present r.tag) n rs → Rises c v n (r ∷ rs)

-- a shortest list with no record past n
abbrev pub Canonical : ℕ → List Region → Type 0
Canonical n xs = Rises 0 Absent n xs

-- where the last region of a list ends; c, if there is none
unfoldable pub reach : ℕ → List Region → ℕ
reach c [] = c
reach c (r ∷ rs) = reach (end r) rs

-- the state of the address below that end; v, if there is no region
unfoldable pub edge : State → List Region → State
edge v [] = v
edge v (r ∷ rs) = edge (Present r.tag) rs

-- ---- the test and the facts

is_yes : (v : State) (t : Tag) → v ≡ Present t → is v t ≡ true
is_yes v t e = rw e (same_self t)

is_true : (v : State) (t : Tag) → is v t ≡ true → v ≡ Present t
is_true Absent t e = let z : false ≡ true = e in cc
is_true (Present u) t e = ap Present (same_true u t e)

pub fits-Fits : (c : ℕ) (v : State) (r : Region) → fits c v r ≡ true → Fits c v r
unfolding fits
fits-Fits c v r e =
    let p = both (leb c r.base.0) (not (eqb c r.base.0 && is v r.tag) && ltb 0 r.size.0) e in
    let q = both (not (eqb c r.base.0 && is v r.tag)) (ltb 0 r.size.0) p.1 in
    let n = not-true (eqb c r.base.0 && is v r.tag) q.0 in
    record {
      low = leb-true c r.base.0 p.0;
      apart = λ x y. let m = and (eq-eqb c r.base.0 x) (is_yes v r.tag y) in absurd (zero_not_one cc);
      some = ltb-true 0 r.size.0 q.1;
    }

Fits-fits : (c : ℕ) (v : State) (r : Region) → Fits c v r → fits c v r ≡ true
unfolding fits
Fits-fits c v r f = and (le-leb c r.base.0 f.low) (and (go (eqb c r.base.0 && is v r.tag) refl) (lt-ltb 0 r.size.0 f.some))
  where
    go : (b : Bool) → eqb c r.base.0 && is v r.tag ≡ b → not b ≡ true
    go true e = let p = both (eqb c r.base.0) (is v r.tag) e in absurd (f.apart (eqb-true c r.base.0 p.0) (is_true v r.tag p.1))
    go false e = refl

pub rises-Rises : (c : ℕ) (v : State) (n : ℕ) (xs : List Region) → rises c v n xs ≡ true → Rises c v n xs
unfolding rises
rises-Rises c v n [] e = ended (leb-true c n e)
rises-Rises c v n (r ∷ rs) e =
    let p = both (fits c v r) (rises (end r) (Present r.tag) n rs) e in
    next (fits-Fits c v r p.0) (rises-Rises (end r) (Present r.tag) n rs p.1)

pub Rises-rises : {c n : ℕ} {v : State} {xs : List Region} → Rises c v n xs → rises c v n xs ≡ true
unfolding rises
Rises-rises {c} {n} (ended l) = le-leb c n l
Rises-rises {c} {n} {v} (next {r = r} f w) = and (Fits-fits c v r f) (Rises-rises w)
