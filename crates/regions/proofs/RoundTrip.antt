-- The round trip: a shortest list is the one that its meaning has, and the shortest list of a meaning says that meaning. Assumes nothing.
use Prim.Native.Nat.{ℕ, zero, suc, ◌+◌, ◌-◌, ◌≤◌, ◌<◌}
use mathlib.Core.Path.{◌≡◌, refl, sym, ap, ◌∙◌}
use mathlib.Core.Bool.{Bool, true, false, cond, ◌&&◌}
use mathlib.Core.List.{List, [], ◌∷◌, ◌++◌, append-nil}
use mathlib.Core.Logic.{◌⊎◌, inl, inr}
use native.Mathlib.Omega.{arith}
use native.Mathlib.Nat.{not-suc-le-zero}
use native.Mathlib.Numerals.{add-one}
use lib.Dec.{leb, ltb}
use lib.Seq.{append_snoc}
use borrow.Author.Tests.{ltb-true, lt-ltb, le-ltb, le-leb, lt-leb}
use Rattle.address.proofs.Tests.{both, le_or_lt, zero_not_one}
use Rattle.regions.specs.declared.Tag.{Tag}
use Rattle.regions.specs.declared.Region.{Region}
use Rattle.regions.specs.declared.State.{State}
use Rattle.regions.specs.declared.State.TheVariants.{Absent, Present}
use Rattle.regions.specs.Meaning.{Meaning, region, end, inside, at, joins, join, push, shortest}
use Rattle.regions.proofs.Rises.{Fits, Rises, ended, next, Canonical}
use Rattle.regions.proofs.Push.{joins_true, joins_no, push_shortest, push_to}
use Rattle.regions.proofs.Count.{agree}

-- ---- where an address stands

pub inside_yes : (lo hi a : ℕ) → lo ≤ a → a < hi → inside lo hi a ≡ true
inside_yes lo hi a l m = rw (le-leb lo a l, lt-ltb a hi m)

pub inside_below : (lo hi a : ℕ) → a < lo → inside lo hi a ≡ false
inside_below lo hi a l = rw (lt-leb lo a l)

pub inside_past : (lo hi a : ℕ) → hi ≤ a → inside lo hi a ≡ false
inside_past lo hi a l = go (leb lo a)
  where
    go : (b : Bool) → b && ltb a hi ≡ false
    go true = le-ltb a hi l
    go false = refl

pub inside_hi : (lo hi a : ℕ) → inside lo hi a ≡ true → a < hi
inside_hi lo hi a e = ltb-true a hi (both (leb lo a) (ltb a hi) e).1

pub at_here : (r : Region) (rs : List Region) (a : ℕ) → r.base.0 ≤ a → a < end r → at (r ∷ rs) a ≡ Present r.tag
unfolding at
at_here r rs a l m = rw (inside_yes r.base.0 (end r) a l m)

pub at_before : (r : Region) (rs : List Region) (a : ℕ) → a < r.base.0 → at (r ∷ rs) a ≡ at rs a
unfolding at
at_before r rs a l = rw (inside_below r.base.0 (end r) a l)

pub at_past : (r : Region) (rs : List Region) (a : ℕ) → end r ≤ a → at (r ∷ rs) a ≡ at rs a
unfolding at
at_past r rs a l = rw (inside_past r.base.0 (end r) a l)

at_cons : (r : Region) (xs ys : List Region) (a : ℕ) → at xs a ≡ at ys a → at (r ∷ xs) a ≡ at (r ∷ ys) a
unfolding at
at_cons r xs ys a e = rw e

-- ---- a rising list says nothing outside its bounds

pub rises_end : {c n : ℕ} {v : State} {xs : List Region} → Rises c v n xs → c ≤ n
rises_end (ended l) = l
rises_end (next {r = r} k w) = omega (arith, rises_end w)

pub rises_below : {c n : ℕ} {v : State} {xs : List Region} (a : ℕ) → Rises c v n xs → a < c → at xs a ≡ Absent
unfolding at
rises_below a (ended l) h = refl
rises_below a (next {r = r} {rs = rs} k w) h = at_before r rs a (omega arith) ∙ rises_below a w (omega arith)

pub rises_above : {c n : ℕ} {v : State} {xs : List Region} (a : ℕ) → Rises c v n xs → n ≤ a → at xs a ≡ Absent
unfolding at
rises_above a (ended l) h = refl
rises_above a (next {r = r} {rs = rs} k w) h = at_past r rs a (omega (arith, rises_end w)) ∙ rises_above a w h

-- ---- from a rising list to its meaning and back

pub join_snoc : (ys : List Region) (r : Region) (c s : ℕ) (t : Tag) → join (ys ++ (r ∷ [])) c s t ≡ ys ++ join (r ∷ []) c s t
unfolding join
join_snoc [] r c s t = refl
join_snoc (y ∷ []) r c s t = refl
join_snoc (y ∷ z ∷ ys) r c s t = ap {B = List Region} (λ l. y ∷ l) (join_snoc (z ∷ ys) r c s t)

pub push_absent : (xs : List Region) (c s : ℕ) → push xs c s Absent ≡ xs
unfolding push
push_absent xs c s = refl

pub push_present : (xs : List Region) (c s : ℕ) (t : Tag) → 0 < s → push xs c s (Present t) ≡ join xs c s t
unfolding push
push_present xs c zero t h = absurd (not-suc-le-zero h)
push_present xs c (suc s) t h = refl

-- what is put behind ys at c or above stays apart, unless it is at c and of the state v
abbrev pub Stops : List Region → ℕ → State → Type 0
Stops ys c v = (b s : ℕ) (t : Tag) → c ≤ b → (c ≡ b → v ≡ Present t → ⊥) → join ys b s t ≡ ys ++ (region b s t ∷ [])

pub stops_snoc : (ys : List Region) (r : Region) → Stops (ys ++ (r ∷ [])) (end r) (Present r.tag)
unfolding join
stops_snoc ys r b s t l u = join_snoc ys r b s t ∙ go (joins r b t) refl
  where
    go : (k : Bool) → joins r b t ≡ k → ys ++ join (r ∷ []) b s t ≡ (ys ++ (r ∷ [])) ++ (region b s t ∷ [])
    go true e = let f = joins_true r b t e in absurd (u f.0 (ap Present f.1))
    go false e = rw (e, append_snoc)

pub retrace : (g : Meaning) (ys : List Region) {c n : ℕ} {v : State} {xs : List Region} → Rises c v n xs → shortest g c ≡ ys → Stops ys c v
    → ((a : ℕ) → c ≤ a → a < n → g a ≡ at xs a) → shortest g n ≡ ys ++ xs
unfolding at
retrace g ys {c} {n} (ended l) e st h = push_to g c n Absent l h ∙ push_absent (shortest g c) c (n - c) ∙ e ∙ sym (append-nil ys)
retrace g ys {c} {n} (next {r = r} {rs = rs} k w) e st h =
    let m = rises_end w in
    let gap : shortest g r.base.0 ≡ ys = push_to g c r.base.0 Absent k.low
    (λ a i j. h a i (omega arith) ∙ at_before r rs a j ∙ rises_below a w (omega arith)) ∙ push_absent (shortest g c) c (r.base.0 - c) ∙ e in
    let full : shortest g (end r) ≡ ys ++ (r ∷ []) = push_shortest g r.base.0 r.size.0 (Present r.tag)
    (λ a i j. h a (omega arith) (omega arith) ∙ at_here r rs a i j) ∙ push_present (shortest g r.base.0) r.base.0 r.size.0 r.tag k.some
    ∙ ap (λ (x : List Region). join x r.base.0 r.size.0 r.tag) gap ∙ st r.base.0 r.size.0 r.tag k.low k.apart in
    retrace g (ys ++ (r ∷ [])) w full (stops_snoc ys r) (λ a i j. h a (omega arith) j ∙ at_past r rs a i) ∙ append_snoc ys r rs

-- a shortest list is the shortest list of what it says
pub round_trip : (n : ℕ) (xs : List Region) → Canonical n xs → shortest (at xs) n ≡ xs
unfolding shortest join
round_trip n xs w = retrace (at xs) [] w refl (λ b s t l u. refl) (λ a i j. refl)

-- two shortest lists that say the same_tag are equal
pub unique : (n : ℕ) (xs ys : List Region) → Canonical n xs → Canonical n ys → ((a : ℕ) → a < n → at xs a ≡ at ys a) → xs ≡ ys
unique n xs ys p q h = sym (round_trip n xs p) ∙ agree (at xs) (at ys) n h ∙ round_trip n ys q

-- ---- the shortest list of a meaning is a shortest list, and says it

-- `done` with what it speaks of written out: omega wants its goal known
last : (c : ℕ) (v : State) (n : ℕ) → c ≤ n → Rises c v n []
last c v n l = ended l

join_rises : (xs : List Region) {c : ℕ} {v : State} (b s : ℕ) (t : Tag) → Rises c v b xs → 0 < s → (xs ≡ [] → c ≡ b → v ≡ Present t → ⊥)
    → Rises c v (b + s) (join xs b s t)
unfolding join
join_rises [] {c} {v} b s t (ended l) h u =
    let f : Fits c v (region b s t) = record { low = l; apart = u refl; some = h } in
    next f (last (b + s) (Present t) (b + s) (omega arith))
join_rises (r ∷ []) {c} {v} b s t (next k (ended m)) h u = go (joins r b t) refl
  where
    go : (k : Bool) → joins r b t ≡ k → Rises c v (b + s) (cond (joins r b t) (region r.base.0 (r.size.0 + s) t ∷ []) (r ∷ region b s t ∷ []))
    go true e =
        let j = joins_true r b t e in
        let f : Fits c v (region r.base.0 (r.size.0 + s) t) = record { low = k.low; apart = λ x y. k.apart x (y ∙ ap Present (sym j.1)); some = omega arith } in
        rw e (next f (last (r.base.0 + (r.size.0 + s)) (Present t) (b + s) (omega arith)))
    go false e =
        let f : Fits (end r) (Present r.tag) (region b s t) = record { low = m; apart = λ x y. joins_no r b t e x (cc); some = h } in
        rw e (next k (next f (last (b + s) (Present t) (b + s) (omega arith))))
join_rises (r ∷ q ∷ rs) b s t (next k w) h u = next k (join_rises (q ∷ rs) b s t w h (λ e. absurd (zero_not_one cc)))

pub rises_weaken : {c n : ℕ} (m : ℕ) {v : State} {xs : List Region} → Rises c v n xs → n ≤ m → Rises c v m xs
rises_weaken {c} m {v} (ended l) h = last c v m (omega arith)
rises_weaken m (next k w) h = next k (rises_weaken m w h)

push_rises : (xs : List Region) (b s : ℕ) (v : State) → Canonical b xs → Canonical (b + s) (push xs b s v)
unfolding push
push_rises xs b s Absent w = rises_weaken (b + s) w (omega arith)
push_rises xs b zero (Present t) w = rises_weaken (b + 0) w (omega arith)
push_rises xs b (suc s) (Present t) w = join_rises xs b (suc s) t w (omega arith) (λ e p q. absurd (zero_not_one cc))

pub canonical_shortest : (f : Meaning) (n : ℕ) → Canonical n (shortest f n)
unfolding shortest
canonical_shortest f zero = last 0 Absent 0 (omega arith)
canonical_shortest f (suc n) = rw add-one at (push_rises (shortest f n) n 1 (f n) (canonical_shortest f n))

join_at : (xs : List Region) {c : ℕ} {v : State} (b s : ℕ) (t : Tag) (a : ℕ) → Rises c v b xs → b ≤ a → a < b + s → at (join xs b s t) a ≡ Present t
unfolding join
join_at [] b s t a w l m = at_here (region b s t) [] a l m
join_at (r ∷ []) b s t a (next k (ended j)) l m = go (joins r b t) refl
  where
    go : (k : Bool) → joins r b t ≡ k → at (cond (joins r b t) (region r.base.0 (r.size.0 + s) t ∷ []) (r ∷ region b s t ∷ [])) a ≡ Present t
    go true e =
        let f = joins_true r b t e in
        rw e (at_here (region r.base.0 (r.size.0 + s) t) [] a (omega arith) (omega arith))
    go false e = rw e (at_past r (region b s t ∷ []) a (omega arith) ∙ at_here (region b s t) [] a l m)
join_at (r ∷ q ∷ rs) b s t a (next k w) l m =
    at_past r (join (q ∷ rs) b s t) a (omega (arith, rises_end w)) ∙ join_at (q ∷ rs) b s t a w l m

join_at_below : (xs : List Region) (b s : ℕ) (t : Tag) (a : ℕ) → a < b → at (join xs b s t) a ≡ at xs a
unfolding join
join_at_below [] b s t a l = at_before (region b s t) [] a l
join_at_below (r ∷ []) b s t a l = go (joins r b t) refl
  where
    in_r : joins r b t ≡ true → (r.base.0 ≤ a) ⊎ (a < r.base.0) → at (region r.base.0 (r.size.0 + s) t ∷ []) a ≡ at (r ∷ []) a
    in_r e (inl m) =
        let f = joins_true r b t e in
        at_here (region r.base.0 (r.size.0 + s) t) [] a m (omega arith) ∙ sym (at_here r [] a m (omega arith) ∙ ap Present f.1)
    in_r e (inr m) = at_before (region r.base.0 (r.size.0 + s) t) [] a m ∙ sym (at_before r [] a m)

    go : (k : Bool) → joins r b t ≡ k → at (cond (joins r b t) (region r.base.0 (r.size.0 + s) t ∷ []) (r ∷ region b s t ∷ [])) a ≡ at (r ∷ []) a
    go true e = rw e (in_r e (le_or_lt r.base.0 a))
    go false e = rw e (at_cons r (region b s t ∷ []) [] a (at_before (region b s t) [] a l))
join_at_below (r ∷ q ∷ rs) b s t a l = at_cons r (join (q ∷ rs) b s t) (q ∷ rs) a (join_at_below (q ∷ rs) b s t a l)

push_at : (xs : List Region) (n : ℕ) (v : State) → Canonical n xs → at (push xs n 1 v) n ≡ v
unfolding push
push_at xs n Absent w = rises_above n w (omega arith)
push_at xs n (Present t) w = join_at xs n 1 t n w (omega arith) (omega arith)

push_at_below : (xs : List Region) (n : ℕ) (v : State) (a : ℕ) → a < n → at (push xs n 1 v) a ≡ at xs a
unfolding push
push_at_below xs n Absent a l = refl
push_at_below xs n (Present t) a l = join_at_below xs n 1 t a l

pub at_shortest : (f : Meaning) (n a : ℕ) → a < n → at (shortest f n) a ≡ f a
unfolding shortest
at_shortest f zero a h = absurd (not-suc-le-zero h)
at_shortest f (suc n) a h = go (le_or_lt n a) (at_shortest f n a)
  where
    go : (n ≤ a) ⊎ (a < n) → (a < n → at (shortest f n) a ≡ f a) → at (push (shortest f n) n 1 (f n)) a ≡ f a
    go (inl l) ih =
        let e : n ≡ a = omega arith in
        rw (← e) (push_at (shortest f n) n (f n) (canonical_shortest f n))
    go (inr l) ih = push_at_below (shortest f n) n (f n) a l ∙ ih l

pub at_shortest_above : (f : Meaning) (n a : ℕ) → n ≤ a → at (shortest f n) a ≡ Absent
at_shortest_above f n a h = rises_above a (canonical_shortest f n) h
