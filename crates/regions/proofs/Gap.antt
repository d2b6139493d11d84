-- A range that no region meets is filled: the region below grows, or the one above, or both become one, or there is one more. Assumes nothing.
use Prim.Native.Nat.{ℕ, zero, suc, ◌+◌, ◌-◌, ◌≤◌, ◌<◌, min}
use mathlib.Core.Path.{◌≡◌, refl, sym, ap, ◌∙◌}
use mathlib.Core.Bool.{Bool, true, false, cond}
use mathlib.Core.List.{List, [], ◌∷◌, ◌++◌}
use mathlib.Core.Logic.{◌⊎◌, inl, inr}
use native.Mathlib.Omega.{arith}
use Rattle.address.proofs.Tests.{le_or_lt}
use Rattle.regions.specs.declared.Tag.{Tag}
use Rattle.regions.specs.declared.Region.{Region}
use Rattle.regions.specs.declared.State.{State}
use Rattle.regions.specs.declared.State.TheVariants.{Absent, Present}
use Rattle.regions.specs.declared.Change.TheVariants.{Fill}
use Rattle.regions.specs.Meaning.{Meaning, region, end, at, joins, join, shortest, one, total}
use Rattle.regions.specs.Changes.{change, after}
use Rattle.regions.proofs.Rises.{Rises, next, Canonical, reach, edge}
use Rattle.regions.proofs.Push.{push_to, joins_true}
use Rattle.regions.proofs.RoundTrip.{Stops, retrace, at_here, at_past, push_absent, push_present, inside_yes, inside_below, inside_past}
use Rattle.regions.proofs.Prefix.{start_behind, rest_rises, rest_at}
use Rattle.regions.proofs.Middle.{starts, starts_below, stops}

-- ---- where a list ends after a join

join_reach : (xs : List Region) (c b s : ℕ) (t : Tag) → reach c (join xs b s t) ≡ b + s
unfolding join reach
join_reach [] c b s t = refl
join_reach (r ∷ []) c b s t = go (joins r b t) refl
  where
    go : (k : Bool) → joins r b t ≡ k → reach c (cond k (region r.base.0 (r.size.0 + s) t ∷ []) (r ∷ region b s t ∷ [])) ≡ b + s
    go true e = omega (arith, (joins_true r b t e).0)
    go false e = refl
join_reach (r ∷ q ∷ rs) c b s t = join_reach (q ∷ rs) (end r) b s t

join_edge : (xs : List Region) (v : State) (b s : ℕ) (t : Tag) → edge v (join xs b s t) ≡ Present t
unfolding join edge
join_edge [] v b s t = refl
join_edge (r ∷ []) v b s t = go (joins r b t)
  where
    go : (k : Bool) → edge v (cond k (region r.base.0 (r.size.0 + s) t ∷ []) (r ∷ region b s t ∷ [])) ≡ Present t
    go true = refl
    go false = refl
join_edge (r ∷ q ∷ rs) v b s t = join_edge (q ∷ rs) (Present r.tag) b s t

join_stops : (xs : List Region) (b s e : ℕ) (t : Tag) → b + s ≡ e → Stops (join xs b s t) e (Present t)
join_stops xs b s e t h = rw (join_reach xs 0 b s t ∙ h, join_edge xs Absent b s t) at (stops (join xs b s t))

-- ---- the total

-- below m, a range of absent addresses that is filled
total_upto : (t : Tag) (lo hi : ℕ) (f : Meaning) → lo ≤ hi → ((a : ℕ) → lo ≤ a → a < hi → f a ≡ Absent) → (m : ℕ)
    → total (after (change (Fill t)) lo hi f) m ≡ total f m + (min m hi - min m lo)
unfolding total after change
total_upto t lo hi f l h zero = omega arith
total_upto t lo hi f l h (suc m) = go (le_or_lt lo m) (le_or_lt hi m) (total_upto t lo hi f l h m)
  where
    go : (lo ≤ m) ⊎ (m < lo) → (hi ≤ m) ⊎ (m < hi) → total (after (change (Fill t)) lo hi f) m ≡ total f m + (min m hi - min m lo)
        → total (after (change (Fill t)) lo hi f) m + one (after (change (Fill t)) lo hi f m) ≡ total f m + one (f m) + (min (suc m) hi - min (suc m) lo)
    go (inr i) k ih = rw (inside_below lo hi m i) (omega arith)
    go (inl i) (inl k) ih = rw (inside_past lo hi m k) (omega arith)
    go (inl i) (inr k) ih = rw (inside_yes lo hi m i k, h m i k) (omega arith)

-- ---- the laws

module _ (t : Tag) (lo hi n : ℕ) (ys zs : List Region) (w : Canonical n (ys ++ zs)) (l : lo < hi) (p : reach 0 ys ≤ lo) (q : hi ≤ starts n zs) where
  full : Meaning
  full = after (change (Fill t)) lo hi (at (ys ++ zs))

  rest : Rises (reach 0 ys) (edge Absent ys) n zs
  rest = rest_rises ys zs w

  gap : (a : ℕ) → reach 0 ys ≤ a → a < hi → at (ys ++ zs) a ≡ Absent
  gap a i j = rest_at ys zs a w i ∙ starts_below zs a rest (omega arith)

  -- up to e the addresses from lo on have the tag
  filled : (e : ℕ) → lo < e → ((a : ℕ) → lo ≤ a → a < e → full a ≡ Present t) → shortest full e ≡ join ys lo (e - lo) t
  unfolding full after
  filled e m h =
      let u : shortest full lo ≡ ys = push_to full (reach 0 ys) lo Absent p (λ a i j. rw (inside_below lo hi a j) (gap a i (omega arith)))
      ∙ push_absent (shortest full (reach 0 ys)) (reach 0 ys) (lo - reach 0 ys) ∙ start_behind (change (Fill t)) lo hi n ys zs w p in
      push_to full lo e (Present t) (omega arith) h ∙ push_present (shortest full lo) lo (e - lo) t (omega arith)
      ∙ ap (λ (x : List Region). join x lo (e - lo) t) u

  covered : (a : ℕ) → lo ≤ a → a < hi → full a ≡ Present t
  unfolding full after change
  covered a i j = rw (inside_yes lo hi a i j, gap a (omega arith) j)

  past : (a : ℕ) → hi ≤ a → full a ≡ at zs a
  unfolding full after
  past a i = rw (inside_past lo hi a i) (rest_at ys zs a w (omega arith))

  -- nothing above joins
  pub fill_apart : Rises hi (Present t) n zs → shortest (after (change (Fill t)) lo hi (at (ys ++ zs))) n ≡ join ys lo (hi - lo) t ++ zs
  unfolding full
  fill_apart u = retrace full (join ys lo (hi - lo) t) u (filled hi l covered) (join_stops ys lo (hi - lo) hi t (omega arith)) (λ a i j. past a i)

  -- the total grows by the range
  pub fill_total : hi ≤ n → total (after (change (Fill t)) lo hi (at (ys ++ zs))) n ≡ total (at (ys ++ zs)) n + (hi - lo)
  fill_total m = total_upto t lo hi (at (ys ++ zs)) (omega arith) (λ a i j. gap a (omega arith) j) n ∙ omega arith

-- the region above joins
pub fill_meets : (t : Tag) (lo hi n : ℕ) (ys zs : List Region) (z : Region) → Canonical n (ys ++ (z ∷ zs)) → lo < hi → reach 0 ys ≤ lo → z.base.0 ≡ hi → z.tag ≡ t
    → shortest (after (change (Fill t)) lo hi (at (ys ++ (z ∷ zs)))) n ≡ join ys lo (hi - lo + z.size.0) t ++ zs
unfolding starts full
fill_meets t lo hi n ys zs z w l p b e = go (rest_rises ys (z ∷ zs) w)
  where
    h : hi ≤ z.base.0
    h = omega arith

    g : Meaning
    g = full t lo hi n ys (z ∷ zs) w l p h

    own : (a : ℕ) → lo ≤ a → a < end z → (hi ≤ a) ⊎ (a < hi) → g a ≡ Present t
    own a i m (inl k) = past t lo hi n ys (z ∷ zs) w l p h a k ∙ at_here z zs a (omega arith) m ∙ ap Present e
    own a i m (inr k) = covered t lo hi n ys (z ∷ zs) w l p h a i k

    go : Rises (reach 0 ys) (edge Absent ys) n (z ∷ zs) → shortest g n ≡ join ys lo (hi - lo + z.size.0) t ++ zs
    go (next j d) =
        let k : end z - lo ≡ hi - lo + z.size.0 = omega arith in
        let u : Rises (end z) (Present t) n zs = rw (sym e) d in
        retrace g (join ys lo (hi - lo + z.size.0) t) u
        (filled t lo hi n ys (z ∷ zs) w l p h (end z) (omega arith) (λ a i m. own a i m (le_or_lt hi a)) ∙ rw k)
        (join_stops ys lo (hi - lo + z.size.0) (end z) t (omega arith))
        (λ a i m. past t lo hi n ys (z ∷ zs) w l p h a (omega arith) ∙ at_past z zs a i)
