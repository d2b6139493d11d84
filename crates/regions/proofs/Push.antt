-- What joins a region, and a stretch of one state put behind the shortest list in one step. Assumes nothing.
use Prim.Native.Nat.{ℕ, zero, suc, ◌+◌, ◌-◌, ◌≤◌, ◌<◌}
use mathlib.Core.Path.{◌≡◌, refl, sym, ap, ◌∙◌}
use mathlib.Core.Bool.{Bool, true, false, cond}
use mathlib.Core.List.{List, [], ◌∷◌}
use native.Mathlib.Omega.{arith}
use native.Mathlib.Nat.{add_assoc, add-zero, add-suc}
use native.Mathlib.Numerals.{add-one}
use lib.Dec.{eqb}
use borrow.Author.Tests.{eq-eqb, ne_eqb, eqb-true}
use Rattle.address.specs.declared.Address.{Address}
use Rattle.std.specs.Option.{option_eq}
use Rattle.std.specs.Prelude.{Option, Some, None}
use Rattle.address.specs.Numbers.{address}
use Rattle.address.proofs.Tests.{both, and, zero_not_one}
use Rattle.address.proofs.Checked.{address_at, address_outside}
use Rattle.regions.specs.declared.Tag.{Tag}
use Rattle.regions.specs.declared.Region.{Region}
use Rattle.regions.specs.declared.State.{State}
use Rattle.regions.specs.declared.State.TheVariants.{Absent, Present}
use Rattle.regions.specs.Meaning.{Meaning, region, end, same_tag, joins, join, push, shortest}

-- ---- tags

pub same_true : (t u : Tag) → same_tag t u ≡ true → t ≡ u
same_true t u e =
    let f = both (eqb t.flags u.flags) (eqb t.node u.node) e in
    λ i. record { flags = eqb-true t.flags u.flags f.0 i; node = eqb-true t.node u.node f.1 i }

pub same_self : (t : Tag) → same_tag t t ≡ true
same_self t = and (eq-eqb t.flags t.flags refl) (eq-eqb t.node t.node refl)

-- what is one with a region begins at its end and has its tag
pub joins_true : (r : Region) (c : ℕ) (t : Tag) → joins r c t ≡ true → (end r ≡ c) × (r.tag ≡ t)
joins_true r c t e =
    let f = both (eqb (end r) c) (same_tag r.tag t) e in
    (eqb-true (end r) c f.0, same_true r.tag t f.1)

joins_yes : (r : Region) (c : ℕ) (t : Tag) → end r ≡ c → r.tag ≡ t → joins r c t ≡ true
joins_yes r c t p q = and (eq-eqb (end r) c p) (rw q (same_self t))

pub joins_no : (r : Region) (c : ℕ) (t : Tag) → joins r c t ≡ false → end r ≡ c → r.tag ≡ t → ⊥
joins_no r c t e p q = let f = joins_yes r c t p q in absurd (zero_not_one cc)

-- the code's test, answer by answer

-- the end, as an address or none, is an address where the region ends there
pub ends_at : (eq : Address → Address → Bool) → ((a b : Address) → eq a b ≡ eqb a.0 b.0) → (r : Region) (c : Address) (x : Option Address) → x ≡ address (end r) → c.0 < 18446744073709551616 → option_eq eq x (Some c) ≡ eqb (end r) c.0
ends_at eq l r c None q h =
    let d : end r ≡ c.0 → ⊥ = λ f. omega (arith, address_outside (end r) None q refl) in
    sym (ne_eqb (end r) c.0 d)
ends_at eq l r c (Some e) q h = rw (l e c, (address_at (end r) (Some e) e q refl).0)

-- ---- join twice is join once

-- behind a list that ends in r, what is joined concerns only the end
join_cons : (r q : Region) (rs ys : List Region) (c s : ℕ) (t : Tag) → ys ≡ q ∷ rs → join (r ∷ ys) c s t ≡ r ∷ join ys c s t
unfolding join
join_cons r q rs ys c s t e = rw e

-- what join makes begins with some region
join_head : (xs : List Region) (c s : ℕ) (t : Tag) → (q : Region) × (rs : List Region) × (join xs c s t ≡ q ∷ rs)
unfolding join
join_head [] c s t = (region c s t, [], refl)
join_head (r ∷ []) c s t = go (joins r c t) refl
  where
    go : (b : Bool) → joins r c t ≡ b → (q : Region) × (rs : List Region) × (cond (joins r c t) (region r.base.0 (r.size.0 + s) t ∷ []) (r ∷ region c s t ∷ []) ≡ q ∷ rs)
    go true e = (region r.base.0 (r.size.0 + s) t, [], rw e)
    go false e = (r, region c s t ∷ [], rw e)
join_head (r ∷ q ∷ rs) c s t = (r, join (q ∷ rs) c s t, refl)

join_join : (xs : List Region) (c s u : ℕ) (t : Tag) → join (join xs c s t) (c + s) u t ≡ join xs c (s + u) t
unfolding join
join_join [] c s u t = rw (joins_yes (region c s t) (c + s) t refl refl)
join_join (r ∷ []) c s u t = go (joins r c t) refl
  where
    go : (b : Bool) → joins r c t ≡ b → join (join (r ∷ []) c s t) (c + s) u t ≡ join (r ∷ []) c (s + u) t
    go true e =
        let h = joins_true r c t e in
        let f : r.base.0 + (r.size.0 + s) ≡ c + s = omega arith in
        rw (e, joins_yes (region r.base.0 (r.size.0 + s) t) (c + s) t f refl, add_assoc)
    go false e = rw (e, joins_yes (region c s t) (c + s) t refl refl)
join_join (r ∷ q ∷ rs) c s u t =
    let h = join_head (q ∷ rs) c s t in
    join_cons r h.0 h.1 (join (q ∷ rs) c s t) (c + s) u t h.2 ∙ ap {B = List Region} (λ l. r ∷ l) (join_join (q ∷ rs) c s u t)

-- ---- a stretch in one step

pub push_none : (xs : List Region) (c : ℕ) (v : State) → push xs c 0 v ≡ xs
unfolding push
push_none xs c Absent = refl
push_none xs c (Present t) = refl

push_one : (xs : List Region) (c s : ℕ) (v : State) → push (push xs c s v) (c + s) 1 v ≡ push xs c (suc s) v
unfolding push
push_one xs c s Absent = refl
push_one xs c zero (Present t) = rw add-zero
push_one xs c (suc s) (Present t) = join_join xs c (suc s) 1 t ∙ ap (λ (k : ℕ). join xs c k t) (add-one (suc s))

pub push_shortest : (f : Meaning) (c s : ℕ) (v : State) → ((a : ℕ) → c ≤ a → a < c + s → f a ≡ v) → shortest f (c + s) ≡ push (shortest f c) c s v
unfolding shortest push
push_shortest f c zero v h = rw add-zero (sym (push_none (shortest f c) c v))
push_shortest f c (suc s) v h =
    rw (add-suc, h (c + s) (omega arith) (omega arith), push_shortest f c s v (λ a l m. h a l (omega arith))) (push_one (shortest f c) c s v)

pub push_to : (f : Meaning) (c e : ℕ) (v : State) → c ≤ e → ((a : ℕ) → c ≤ a → a < e → f a ≡ v) → shortest f e ≡ push (shortest f c) c (e - c) v
push_to f c e v l h =
    let k : c + (e - c) ≡ e = omega arith in
    rw k at (push_shortest f c (e - c) v (λ a m n. h a m (omega arith)))
