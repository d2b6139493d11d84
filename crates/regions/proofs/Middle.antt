-- A change over a range concerns only the regions that the range meets or touches: those before and behind stay. Assumes nothing.
use Prim.Native.Nat.{ℕ, suc, ◌-◌, ◌≤◌, ◌<◌}
use mathlib.Core.Path.{◌≡◌, refl, sym, ap, ◌∙◌}
use mathlib.Core.Bool.{Bool, true, false, cond}
use mathlib.Core.List.{List, [], ◌∷◌, ◌++◌}
use mathlib.Core.Logic.{◌⊎◌, inl, inr}
use native.Mathlib.Omega.{arith}
use Rattle.address.proofs.Tests.{le_or_lt, zero_not_one}
use Rattle.regions.specs.declared.Tag.{Tag}
use Rattle.regions.specs.declared.Region.{Region}
use Rattle.regions.specs.declared.State.{State}
use Rattle.regions.specs.declared.State.TheVariants.{Absent, Present}
use Rattle.regions.specs.Meaning.{Meaning, end, inside, at, join, shortest}
use Rattle.regions.specs.Changes.{after}
use Rattle.regions.proofs.Rises.{Fits, Rises, ended, next, Canonical, reach, edge}
use Rattle.regions.proofs.Push.{push_to}
use Rattle.regions.proofs.RoundTrip.{Stops, stops_snoc, retrace, rises_end, rises_below, rises_above, at_here, at_before, at_past, rises_weaken, canonical_shortest, at_shortest, push_absent, inside_below, inside_past}
use Rattle.regions.proofs.Prefix.{start_behind, reach_le, rest_rises, rest_at}

-- ---- parts of a rising list

-- where the first region begins; n, if there is none
unfoldable pub starts : ℕ → List Region → ℕ
starts n [] = n
starts n (r ∷ rs) = r.base.0

-- every region begins above a
unfoldable pub Above : ℕ → List Region → Type 0
Above a [] = Unit {0}
Above a (r ∷ rs) = a < r.base.0

-- a list whose end is known stays apart from what does not touch it, or touches it with another tag
pub stops : (ys : List Region) → Stops ys (reach 0 ys) (edge Absent ys)
unfolding reach edge join
stops [] b s t l u = refl
stops (r ∷ []) b s t l u = stops_snoc [] r b s t l u
stops (r ∷ q ∷ rs) b s t l u = ap {B = List Region} (λ x. r ∷ x) (stops (q ∷ rs) b s t l u)

rises_append : (xs zs : List Region) {c e n : ℕ} {v : State} → Rises c v e xs → Rises (reach c xs) (edge v xs) n zs → Rises c v n (xs ++ zs)
unfolding reach edge
rises_append [] zs (ended l) w = w
rises_append (r ∷ xs) zs (next k q) w = next k (rises_append xs zs q w)

starts_low : (zs : List Region) {c n : ℕ} {v : State} → Rises c v n zs → c ≤ starts n zs
unfolding starts
starts_low [] w = rises_end w
starts_low (z ∷ zs) (next k w) = k.low

pub starts_below : (zs : List Region) {c n : ℕ} {v : State} (a : ℕ) → Rises c v n zs → a < starts n zs → at zs a ≡ Absent
unfolding starts at
starts_below [] a w h = refl
starts_below (z ∷ zs) a (next k w) h = at_before z zs a h ∙ rises_below a w (omega arith)

pub upto : (xs zs : List Region) {c n : ℕ} {v : State} → Rises c v n (xs ++ zs) → Rises c v (starts n zs) xs
upto [] zs w = ended (starts_low zs w)
upto (r ∷ xs) zs (next k w) = next k (upto xs zs w)

starts_end : (zs : List Region) {c n : ℕ} {v : State} → Rises c v n zs → starts n zs ≤ n
unfolding starts
starts_end [] w = omega arith
starts_end (z ∷ zs) (next k w) = omega (arith, k.some, rises_end w)

rises_before : (xs zs : List Region) (z : Region) {c n : ℕ} {v : State} → Rises c v n (xs ++ (z ∷ zs)) → c ≤ z.base.0
rises_before [] zs z (next k w) = k.low
rises_before (r ∷ xs) zs z (next k w) = omega (arith, k.low, rises_before xs zs z w)

reach_end : (xs : List Region) {c e : ℕ} {v : State} → Rises c v e xs → reach c xs ≤ e
unfolding reach
reach_end [] w = rises_end w
reach_end (r ∷ xs) (next k w) = reach_end xs w

-- only a list with no region ends at 0
reach_some : (ys zs : List Region) {c n : ℕ} (t : Tag) → Rises c Absent n (ys ++ zs) → reach 0 ys ≡ 0 → edge Absent ys ≡ Present t → ⊥
unfolding reach edge
reach_some [] zs t w z f = let y : ◌≡◌ {A = ℕ} 0 1 = cc in omega arith
reach_some (r ∷ ys) zs t (next j w) z f = omega (arith, j.some, reach_le ys (upto ys zs w))

-- a rising list does not begin with the state of the address below
rises_here : {c n : ℕ} {v : State} {xs : List Region} (t : Tag) → Rises c v n xs → at xs c ≡ Present t → v ≡ Present t → ⊥
unfolding at
rises_here t (ended l) e f = let z : Absent ≡ Present t = e in let y : ◌≡◌ {A = ℕ} 0 1 = cc in omega arith
rises_here {c} {n} {v} t (next {r = r} {rs = rs} k w) e f = go (le_or_lt r.base.0 c)
  where
    go : (r.base.0 ≤ c) ⊎ (c < r.base.0) → ⊥
    go (inl h) =
        let p : Present r.tag ≡ Present t = sym (at_here r rs c h (omega (arith, k.some))) ∙ e in
        k.apart (omega (arith, k.low)) (f ∙ sym p)
    go (inr h) =
        let p : Absent ≡ Present t = sym (at_before r rs c h ∙ rises_below c w (omega arith)) ∙ e in
        let y : ◌≡◌ {A = ℕ} 0 1 = cc in
        omega arith

-- a shortest list that says nothing below c, and at c not what is below, rises from c
rises_from : (xs : List Region) {n : ℕ} (c : ℕ) (v : State) → Canonical n xs → c ≤ n → ((a : ℕ) → a < c → at xs a ≡ Absent)
    → ((t : Tag) → at xs c ≡ Present t → v ≡ Present t → ⊥) → Rises c v n xs
rises_from [] c v w l h u = ended l
rises_from (r ∷ rs) c v (next k w) l h u =
    let low : c ≤ r.base.0 = go (le_or_lt c r.base.0) in
    let f : Fits c v r = record { low = low; apart = λ x y. u r.tag (at_here r rs c (omega arith) (omega (arith, k.some))) y; some = k.some } in
    next f w
  where
    go : (c ≤ r.base.0) ⊎ (r.base.0 < c) → c ≤ r.base.0
    go (inl i) = i
    go (inr i) =
        let p : Present r.tag ≡ Absent = sym (at_here r rs r.base.0 (omega arith) (omega (arith, k.some))) ∙ h r.base.0 i in
        let y : ◌≡◌ {A = ℕ} 0 1 = cc in
        absurd (omega arith)

-- a part of a rising list is a shortest list
rises_from_zero : (xs : List Region) {c n : ℕ} {v : State} → Rises c v n xs → Canonical n xs
rises_from_zero [] {n = n} w = let h : 0 ≤ n = omega arith in ended h
rises_from_zero (r ∷ rs) {c} (next k w) =
    let f : Fits 0 Absent r = record { low = omega arith; apart = λ x y. absurd (zero_not_one cc); some = k.some } in
    next f w

pub canonical_part : (ys xs zs : List Region) {n : ℕ} → Canonical n (ys ++ (xs ++ zs)) → Canonical n xs
canonical_part ys xs zs {n} w =
    let r = rest_rises ys (xs ++ zs) w in
    rises_from_zero xs (rises_weaken n (upto xs zs r) (starts_end zs (rest_rises xs zs r)))

-- where one list says nothing the other speaks
pub at_append_left : (xs zs : List Region) (a : ℕ) → at zs a ≡ Absent → at (xs ++ zs) a ≡ at xs a
unfolding at
at_append_left [] zs a e = e
at_append_left (r ∷ xs) zs a e = rw (at_append_left xs zs a e)

pub at_append_right : (xs zs : List Region) (a : ℕ) → at xs a ≡ Absent → at (xs ++ zs) a ≡ at zs a
unfolding at
at_append_right [] zs a e = refl
at_append_right (r ∷ xs) zs a e = go (inside r.base.0 (end r) a) e (λ f. at_append_right xs zs a f)
  where
    go : (b : Bool) → cond b (Present r.tag) (at xs a) ≡ Absent → (at xs a ≡ Absent → at (xs ++ zs) a ≡ at zs a) → cond b (Present r.tag) (at (xs ++ zs) a) ≡ at zs a
    go true f ih = absurd (let y : ◌≡◌ {A = ℕ} 0 1 = cc in omega arith)
    go false f ih = ih f

-- the state of the last address
at_edge : (xs : List Region) {c e : ℕ} {v : State} (a : ℕ) → Rises c v e xs → c ≤ a → suc a ≡ reach c xs → at xs a ≡ edge v xs
unfolding reach edge
at_edge [] a w l h = absurd (omega arith)
at_edge (r ∷ []) a (next k w) l h = at_here r [] a (omega (arith, k.some)) (omega arith)
at_edge (r ∷ q ∷ rs) a (next k (next j w)) l h =
    let m : end q ≤ reach (end q) rs = reach_le rs w in
    let b : end r ≤ a = omega (arith, j.low, j.some) in
    at_past r (q ∷ rs) a b ∙ at_edge (q ∷ rs) a (next j w) b h

-- what stands before a region of a rising list does not reach it with its tag
seam : (xs zs : List Region) (z : Region) {c n : ℕ} {v : State} (a : ℕ) → Rises c v n (xs ++ (z ∷ zs)) → suc a ≡ z.base.0 → at xs a ≡ Present z.tag → ⊥
unfolding at
seam [] zs z a w h e = let p : Absent ≡ Present z.tag = e in let y : ◌≡◌ {A = ℕ} 0 1 = cc in omega arith
seam (r ∷ xs) zs z {n = n} a (next k w) h e = go xs w (le_or_lt (end r) a) e (λ f. seam xs zs z a w h f)
  where
    go : (xs : List Region) → Rises (end r) (Present r.tag) n (xs ++ (z ∷ zs)) → (end r ≤ a) ⊎ (a < end r) → at (r ∷ xs) a ≡ Present z.tag
        → (at xs a ≡ Present z.tag → ⊥) → ⊥
    go xs w (inl i) e ih = ih (sym (at_past r xs a i) ∙ e)
    go [] (next j w) (inr i) e ih = j.apart (omega (arith, j.low)) (sym (at_here r [] a (omega (arith, j.low, k.some)) i) ∙ e)
    go (q ∷ xs) (next j w) (inr i) e ih = omega (arith, j.low, j.some, rises_before xs zs z w)

-- ---- the law

module _ (k : State → State) (lo hi n : ℕ) (ys xs zs : List Region) (l : lo ≤ hi) (m : hi ≤ n) (w : Canonical n (ys ++ (xs ++ zs))) (p : reach 0 ys ≤ lo - 1) (q : Above hi zs) where
  whole : Meaning
  whole = after k lo hi (at (ys ++ (xs ++ zs)))

  part : Meaning
  part = after k lo hi (at xs)

  rest : Rises (reach 0 ys) (edge Absent ys) n (xs ++ zs)
  rest = rest_rises ys (xs ++ zs) w

  middle : Rises (reach 0 ys) (edge Absent ys) (starts n zs) xs
  middle = upto xs zs rest

  stop : hi ≤ starts n zs
  unfolding starts Above
  stop = go zs q
    where
      go : (zs : List Region) → Above hi zs → hi ≤ starts n zs
      go [] h = m
      go (z ∷ zs) h = omega arith

  stop_le : starts n zs ≤ n
  stop_le = starts_end zs (rest_rises xs zs rest)

  part_below : (a : ℕ) → a < reach 0 ys → part a ≡ Absent
  unfolding part after
  part_below a h = rw (inside_below lo hi a (omega arith)) (rises_below a middle h)

  part_past : (a : ℕ) → starts n zs ≤ a → part a ≡ Absent
  unfolding part after
  part_past a h = rw (inside_past lo hi a (omega (arith, stop))) (rises_above a middle h)

  -- the list of the part ends before zs
  ends : shortest part n ≡ shortest part (starts n zs)
  ends = push_to part (starts n zs) n Absent stop_le (λ a i j. part_past a i) ∙ push_absent (shortest part (starts n zs)) (starts n zs) (n - starts n zs)

  part_canonical : Canonical (starts n zs) (shortest part n)
  part_canonical = rw ends (canonical_shortest part (starts n zs))

  says : (a : ℕ) → at (shortest part n) a ≡ part a
  says a = go (le_or_lt n a)
    where
      go : (n ≤ a) ⊎ (a < n) → at (shortest part n) a ≡ part a
      go (inl h) = rises_above a (canonical_shortest part n) h ∙ sym (part_past a (omega (arith, stop_le)))
      go (inr h) = at_shortest part n a h

  -- what begins where ys end has not the tag of their end
  first : (t : Tag) → part (reach 0 ys) ≡ Present t → edge Absent ys ≡ Present t → ⊥
  unfolding part after
  first t e f = go (le_or_lt lo (reach 0 ys))
    where
      go : (lo ≤ reach 0 ys) ⊎ (reach 0 ys < lo) → ⊥
      go (inl h) = reach_some ys (xs ++ zs) t w (omega arith) f
      go (inr h) = rises_here t middle (rw (inside_below lo hi (reach 0 ys) h) at e) f

  part_rises : Rises (reach 0 ys) (edge Absent ys) (starts n zs) (shortest part n)
  part_rises =
      rises_from (shortest part n) (reach 0 ys) (edge Absent ys) part_canonical (rises_end middle) (λ a h. says a ∙ part_below a h)
      (λ t e f. first t (sym (says (reach 0 ys)) ∙ e) f)

  -- zs still fit behind
  behind : Rises (reach (reach 0 ys) (shortest part n)) (edge (edge Absent ys) (shortest part n)) n zs
  unfolding starts Above part after
  behind = go zs q rest (rest_rises xs zs rest) part_rises
    where
      go : (us : List Region) → Above hi us → Rises (reach 0 ys) (edge Absent ys) n (xs ++ us) → Rises (reach (reach 0 ys) xs) (edge (edge Absent ys) xs) n us
          → Rises (reach 0 ys) (edge Absent ys) (starts n us) (shortest part n) → Rises (reach (reach 0 ys) (shortest part n)) (edge (edge Absent ys) (shortest part n)) n us
      go [] h u (ended j) v = ended (reach_end (shortest part n) v)
      go (z ∷ us) h u (next j d) v =
          let e = reach_end (shortest part n) v in
          let a : ℕ = z.base.0 - 1 in
          let b : suc a ≡ z.base.0 = omega arith in
          let f : Fits (reach (reach 0 ys) (shortest part n)) (edge (edge Absent ys) (shortest part n)) z = record {
            low = e;
            apart = λ x y. seam xs us z a u b (sym (rw (inside_past lo hi a (omega arith)) at (says a)) ∙ at_edge (shortest part n) a v (omega arith) (omega arith) ∙ y);
            some = j.some;
          } in
          next f d

  -- what is changed is the same, seen from the whole and from the part
  agrees : (a : ℕ) → reach 0 ys ≤ a → a < n → whole a ≡ at (shortest part n ++ zs) a
  unfolding whole part after
  agrees a i j = go (le_or_lt (starts n zs) a)
    where
      go : (starts n zs ≤ a) ⊎ (a < starts n zs) → whole a ≡ at (shortest part n ++ zs) a
      go (inl h) =
          rw (inside_past lo hi a (omega (arith, stop))) (rest_at ys (xs ++ zs) a w i ∙ at_append_right xs zs a (rises_above a middle h))
          ∙ sym (at_append_right (shortest part n) zs a (says a ∙ part_past a h))
      go (inr h) =
          let z = starts_below zs a (rest_rises xs zs rest) h in
          let e : at (ys ++ (xs ++ zs)) a ≡ at xs a = rest_at ys (xs ++ zs) a w i ∙ at_append_left xs zs a z in
          rw e (sym (at_append_left (shortest part n) zs a z ∙ says a))

  -- the regions that end below lo and those that begin above hi stay, and between them stands what the change makes of the rest
  pub update_apart : shortest (after k lo hi (at (ys ++ (xs ++ zs)))) n ≡ ys ++ (shortest (after k lo hi (at xs)) n ++ zs)
  unfolding whole part
  update_apart =
      retrace whole ys (rises_append (shortest part n) zs part_rises behind) (start_behind k lo hi n ys (xs ++ zs) w (omega arith)) (stops ys) agrees
