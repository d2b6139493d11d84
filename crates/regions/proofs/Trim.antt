-- Trim at one address is trim by records: each record rounded, and the list stays a shortest one that is no longer. Assumes nothing.
use Prim.Native.Nat.{ℕ, zero, suc, ◌+◌, ◌-◌, ◌≤◌, ◌<◌}
use mathlib.Core.Path.{◌≡◌, refl, sym, ap, ◌∙◌}
use mathlib.Core.Bool.{Bool, true, false, cond}
use mathlib.Core.List.{List, [], ◌∷◌, ◌++◌}
use mathlib.Core.Logic.{◌⊎◌, inl, inr}
use native.Mathlib.Omega.{arith}
use lib.Dec.{ltb}
use lib.ListN.{length}
use borrow.Author.Tests.{ltb-true, ltb-false, lt-ltb, le-ltb, le-leb, lt-leb}
use Rattle.address.specs.Numbers.{up, down}
use Rattle.address.proofs.Tests.{both, and, no, le_or_lt, zero_not_one}
use Rattle.address.proofs.Rounding.{up_ge, up_multiple, up_least, down_le, down_near, down_multiple, down_most, next_multiple}
use Rattle.regions.specs.declared.Kind.{Kind}
use Rattle.regions.specs.declared.Tag.{Tag}
use Rattle.regions.specs.declared.Region.{Region}
use Rattle.regions.specs.declared.State.{State}
use Rattle.regions.specs.declared.State.TheVariants.{Absent, Present}
use Rattle.regions.specs.Meaning.{Meaning, top, region, end, inside, at}
use Rattle.regions.specs.Lists.{legal_tag, legal}
use Rattle.regions.specs.Trim.{same_state, throughout, trimmed, round_each, trimmed_list}
use Rattle.regions.proofs.Push.{same_true, same_self}
use Rattle.regions.proofs.Rises.{Fits, Rises, ended, next, Canonical}
use Rattle.regions.proofs.Count.{agree}
use Rattle.regions.proofs.RoundTrip.{rises_below, inside_below, inside_past, at_here, at_before, at_past, round_trip}

-- ---- a stretch of one state

state_self : (v : State) → same_state v v ≡ true
state_self Absent = refl
state_self (Present t) = same_self t

state_true : (u v : State) → same_state u v ≡ true → u ≡ v
state_true Absent Absent e = refl
state_true Absent (Present u) e = let z : false ≡ true = e in cc
state_true (Present t) Absent e = let z : false ≡ true = e in cc
state_true (Present t) (Present u) e = ap Present (same_true t u e)

module _ (f : Meaning) (v : State) (a : ℕ) where
  throughout_all : (n : ℕ) → ((b : ℕ) → a ≤ b → b < a + n → f b ≡ v) → throughout f v a n ≡ true
  unfolding throughout
  throughout_all zero h = refl
  throughout_all (suc n) h =
      let here : same_state (f (a + n)) v ≡ true = rw (h (a + n) (omega arith) (omega arith)) (state_self v) in
      and here (throughout_all n (λ b l m. h b l (omega arith)))

  throughout_at : (n : ℕ) → throughout f v a n ≡ true → (b : ℕ) → a ≤ b → b < a + n → f b ≡ v
  unfolding throughout
  throughout_at zero e b l m = absurd (omega arith)
  throughout_at (suc n) e b l m =
      let p = both (same_state (f (a + n)) v) (throughout f v a n) e in
      go (le_or_lt (a + n) b) (state_true (f (a + n)) v p.0) (throughout_at n p.1 b l)
    where
      go : (a + n ≤ b) ⊎ (b < a + n) → f (a + n) ≡ v → (b < a + n → f b ≡ v) → f b ≡ v
      go (inl h) here rest = let e : a + n ≡ b = omega arith in rw (← e) here
      go (inr h) here rest = rest h

-- ---- the list of rounded records rises

-- a list that may follow at c may follow lower down, behind any state; at c itself, behind the same
pub lower : {c n : ℕ} {v : State} {xs : List Region} (b : ℕ) (u : State) → Rises c v n xs → b ≤ c → (b ≡ c → u ≡ v) → Rises b u n xs
lower {c} {n} b u (ended l) h e = let m : b ≤ n = omega arith in ended m
lower {c} {v = v} b u (next {r = r} f w) h e =
    let g : Fits b u r = record {
      low = omega arith;
      apart = λ x y. f.apart (omega arith) (sym (e (omega arith)) ∙ y);
      some = f.some;
    } in
    next g w

-- what follows a region at its end has not its tag there
pub rises_apart : {c n : ℕ} {t : Tag} {xs : List Region} → Rises c (Present t) n xs → at xs c ≡ Present t → ⊥
unfolding at
rises_apart (ended l) e = absurd (zero_not_one cc)
rises_apart {c} {t = t} (next {r = r} {rs = rs} f w) e = go (le_or_lt r.base.0 c)
  where
    go : (r.base.0 ≤ c) ⊎ (c < r.base.0) → ⊥
    go (inl h) =
        let b : c ≡ r.base.0 = omega arith in
        f.apart b (sym e ∙ at_here r rs c h (omega arith))
    go (inr h) =
        let p = sym (at_before r rs c h ∙ rises_below c w (omega arith)) ∙ e in
        absurd (zero_not_one cc)

module _ (k : ℕ) (pos : 0 < k) where
  pub round_rises : {c n : ℕ} {v : State} {xs : List Region} → Rises c v n xs → Rises c v n (round_each k xs)
  unfolding round_each
  round_rises (ended l) = ended l
  round_rises {c} {n} {v} (next {r = r} {rs = rs} f w) = go (ltb (up r.base.0 k) (down (end r) k)) refl (round_rises w)
    where
      go : (b : Bool) → ltb (up r.base.0 k) (down (end r) k) ≡ b → Rises (end r) (Present r.tag) n (round_each k rs)
          → Rises c v n (cond b (region (up r.base.0 k) (down (end r) k - up r.base.0 k) r.tag ∷ []) [] ++ round_each k rs)
      go true e i =
          let x : ℕ = up r.base.0 k in
          let y : ℕ = down (end r) k in
          let l : x < y = ltb-true x y e in
          let p : r.base.0 ≤ x = up_ge r.base.0 k pos in
          let q : y ≤ end r = down_le (end r) k pos in
          let g : Fits c v (region x (y - x) r.tag) = record {
            low = omega arith;
            apart = λ x y. f.apart (omega arith) y;
            some = omega arith;
          } in
          let m : x + (y - x) ≤ end r = omega arith in
          next g (lower (x + (y - x)) (Present r.tag) i m (λ x. refl))
      go false e i =
          let z : c < end r = omega arith in
          lower c v i (omega arith) (λ x. let y : ⊥ = omega arith in absurd y)

  -- ---- at one address

  module _ (g : Meaning) where
    -- within a region, an address stays exactly between the rounded ends: what lies beside the region has another state
    stays : {c n : ℕ} {v : State} {r : Region} {rs : List Region} (a : ℕ) → Fits c v r → Rises (end r) (Present r.tag) n rs
        → ((b : ℕ) → c ≤ b → g b ≡ at (r ∷ rs) b) → (0 < c → g (c - 1) ≡ v) → r.base.0 ≤ a → a < end r
        → inside (up r.base.0 k) (down (end r) k) a ≡ throughout g (Present r.tag) (down a k) k
    stays {c} {n} {v} {r} {rs} a f w h s l m = go (le_or_lt (up r.base.0 k) a) (le_or_lt (down (end r) k) a)
      where
        fine : (b : ℕ) → r.base.0 ≤ b → b < end r → g b ≡ Present r.tag
        fine b i j = h b (omega arith) ∙ at_here r rs b i j

        left : (b : ℕ) → suc b ≡ r.base.0 → g b ≡ Present r.tag → ⊥
        left b e p = side (le_or_lt c b)
          where
            side : (c ≤ b) ⊎ (b < c) → ⊥
            side (inl i) =
                let q = sym (h b i ∙ at_before r rs b (omega arith) ∙ rises_below b w (omega arith)) ∙ p in
                absurd (zero_not_one cc)
            side (inr i) =
                let x : c - 1 ≡ b = omega arith in
                f.apart (omega arith) (sym (s (omega arith)) ∙ ap g x ∙ p)

        go : (up r.base.0 k ≤ a) ⊎ (a < up r.base.0 k) → (down (end r) k ≤ a) ⊎ (a < down (end r) k)
            → inside (up r.base.0 k) (down (end r) k) a ≡ throughout g (Present r.tag) (down a k) k
        go (inl i) (inr j) =
            let p = up_ge r.base.0 k pos in
            let q = down_most a k pos (up r.base.0 k) i (up_multiple r.base.0 k pos) in
            let o = next_multiple a k pos (down (end r) k) j (down_multiple (end r) k pos) in
            let e = down_le (end r) k pos in
            rw (le-leb (up r.base.0 k) a i, lt-ltb a (down (end r) k) j)
            (sym (throughout_all g (Present r.tag) (down a k) k (λ b x y. fine b (omega arith) (omega arith))))
        go (inl i) (inl j) =
            let o : end r < down a k + k = short (le_or_lt (down a k + k) (end r)) in
            rw (le-leb (up r.base.0 k) a i, le-ltb a (down (end r) k) j)
            (sym (no (throughout g (Present r.tag) (down a k) k)
            (λ t. rises_apart w (sym (h (end r) (omega arith) ∙ at_past r rs (end r) (omega arith))
            ∙ throughout_at g (Present r.tag) (down a k) k t (end r) (omega (arith, down_le a k pos)) o))))
          where
            short : (down a k + k ≤ end r) ⊎ (end r < down a k + k) → end r < down a k + k
            short (inr x) = x
            short (inl x) = absurd (omega (arith, down_near (end r) k pos, down_most a k pos (down (end r) k) j (down_multiple (end r) k pos)))
        go (inr i) j =
            let o : down a k < r.base.0 = short (le_or_lt r.base.0 (down a k)) in
            let b : ℕ = r.base.0 - 1 in
            rw (lt-leb (up r.base.0 k) a i)
            (sym (no (throughout g (Present r.tag) (down a k) k)
            (λ t. left b (omega arith) (throughout_at g (Present r.tag) (down a k) k t b (omega arith) (omega (arith, down_near a k pos))))))
          where
            short : (r.base.0 ≤ down a k) ⊎ (down a k < r.base.0) → down a k < r.base.0
            short (inr x) = x
            short (inl x) = absurd (omega (arith, up_least r.base.0 k pos (down a k) x (down_multiple a k pos), down_le a k pos))

    -- the rounded records say what trim says, at each address
    round_at : {c n : ℕ} {v : State} {xs : List Region} (a : ℕ) → Rises c v n xs → ((b : ℕ) → c ≤ b → g b ≡ at xs b) → (0 < c → g (c - 1) ≡ v) → c ≤ a
        → at (round_each k xs) a ≡ cond (throughout g (g a) (down a k) k) (g a) Absent
    unfolding round_each at
    round_at a (ended l) h s m = rw (h a m) (nothing (throughout g Absent (down a k) k))
      where
        nothing : (b : Bool) → Absent ≡ cond b Absent Absent
        nothing true = refl
        nothing false = refl
    round_at {c} {n} {v} a (next {r = r} {rs = rs} f w) h s m =
        go (ltb (up r.base.0 k) (down (end r) k)) refl (le_or_lt r.base.0 a) (le_or_lt (end r) a)
        (round_at a w (λ b i. h b (omega arith) ∙ at_past r rs b i) (λ i. h (end r - 1) (omega arith) ∙ at_here r rs (end r - 1) (omega arith) (omega arith)))
      where
        nothing : (b : Bool) → Absent ≡ cond b Absent Absent
        nothing true = refl
        nothing false = refl

        kept : (b : Bool) → ltb (up r.base.0 k) (down (end r) k) ≡ b → a < end r
            → at (cond b (region (up r.base.0 k) (down (end r) k - up r.base.0 k) r.tag ∷ []) [] ++ round_each k rs) a
            ≡ cond (inside (up r.base.0 k) (down (end r) k) a) (Present r.tag) Absent
        kept true e i =
            let x : ℕ = up r.base.0 k in
            let y : ℕ = down (end r) k in
            let l : x < y = ltb-true x y e in
            let z : x + (y - x) ≡ y = omega arith in
            rw (z, rises_below a (round_rises w) i)
        kept false e i =
            let l = ltb-false (up r.base.0 k) (down (end r) k) e in
            rw (rises_below a (round_rises w) i) (out l (le_or_lt (up r.base.0 k) a))
          where
            out : down (end r) k ≤ up r.base.0 k → (up r.base.0 k ≤ a) ⊎ (a < up r.base.0 k) → Absent ≡ cond (inside (up r.base.0 k) (down (end r) k) a) (Present r.tag) Absent
            out l (inl j) = rw (inside_past (up r.base.0 k) (down (end r) k) a (omega arith))
            out l (inr j) = rw (inside_below (up r.base.0 k) (down (end r) k) a j)

        past : end r ≤ a → (b : Bool) → ltb (up r.base.0 k) (down (end r) k) ≡ b
            → at (cond b (region (up r.base.0 k) (down (end r) k - up r.base.0 k) r.tag ∷ []) [] ++ round_each k rs) a ≡ at (round_each k rs) a
        past i true e =
            let x : ℕ = up r.base.0 k in
            let y : ℕ = down (end r) k in
            let l : x < y = ltb-true x y e in
            at_past (region x (y - x) r.tag) (round_each k rs) a (omega (arith, down_le (end r) k pos))
        past i false e = refl

        go : (b : Bool) → ltb (up r.base.0 k) (down (end r) k) ≡ b → (r.base.0 ≤ a) ⊎ (a < r.base.0) → (end r ≤ a) ⊎ (a < end r)
            → (end r ≤ a → at (round_each k rs) a ≡ cond (throughout g (g a) (down a k) k) (g a) Absent)
            → at (cond b (region (up r.base.0 k) (down (end r) k - up r.base.0 k) r.tag ∷ []) [] ++ round_each k rs) a
            ≡ cond (throughout g (g a) (down a k) k) (g a) Absent
        go b e (inr i) (inl j) ih = absurd (omega arith)
        go b e (inr i) (inr j) ih =
            let x : inside (up r.base.0 k) (down (end r) k) a ≡ false =
            inside_below (up r.base.0 k) (down (end r) k) a (omega (arith, up_ge r.base.0 k pos)) in
            let y : g a ≡ Absent = h a m ∙ at_before r rs a i ∙ rises_below a w j in
            kept b e j ∙ rw (x, y) (nothing (throughout g Absent (down a k) k))
        go b e (inl i) (inl j) ih = past j b e ∙ ih j
        go b e (inl i) (inr j) ih =
            let y : g a ≡ Present r.tag = h a m ∙ at_here r rs a i j in
            kept b e j ∙ rw (y, ← stays a f w h s i j)

-- trim by its meaning at each address is each record rounded
pub trim_rounds : (k : ℕ) (xs : List Region) → 0 < k → Canonical top xs → trimmed_list k xs ≡ round_each k xs
unfolding trimmed_list trimmed
trim_rounds k xs pos w =
    agree (trimmed k (at xs)) (at (round_each k xs)) top (λ a l. sym (round_at k pos (at xs) a w (λ b i. refl) (λ i. absurd (omega arith)) (omega arith)))
    ∙ round_trip top (round_each k xs) (round_rises k pos w)

-- and never makes a list longer
pub round_length : (k : ℕ) (xs : List Region) → length (round_each k xs) ≤ length xs
unfolding round_each
round_length k [] = omega arith
round_length k (r ∷ rs) = go (ltb (up r.base.0 k) (down (end r) k)) (round_length k rs)
  where
    go : (b : Bool) → length (round_each k rs) ≤ length rs
        → length (cond b (region (up r.base.0 k) (down (end r) k - up r.base.0 k) r.tag ∷ []) [] ++ round_each k rs) ≤ suc (length rs)
    go true h = omega arith
    go false h = omega arith

-- and keeps every tag
pub round_legal : (n : ℕ) (k : Kind) (xs : List Region) → legal k xs ≡ true → legal k (round_each n xs) ≡ true
unfolding legal round_each
round_legal n k [] h = refl
round_legal n k (r ∷ rs) h = go (both (legal_tag k r.tag) (legal k rs) h).0 (round_legal n k rs (both (legal_tag k r.tag) (legal k rs) h).1)
    (ltb (up r.base.0 n) (down (end r) n))
  where
    go : legal_tag k r.tag ≡ true → legal k (round_each n rs) ≡ true → (t : Bool)
        → legal k (cond t (region (up r.base.0 n) (down (end r) n - up r.base.0 n) r.tag ∷ []) [] ++ round_each n rs) ≡ true
    go p q true = and p q
    go p q false = q
