-- Two lists in which each call stands as often have the same members; in another order each stands as often. Assumes nothing.
use Prim.Native.Nat.{ℕ, suc, ◌+◌, ◌<◌}
use mathlib.Core.Path.{◌≡◌, refl, sym, ap, ◌∙◌}
use mathlib.Core.Bool.{Bool, true, false, cond, ◌&&◌}
use mathlib.Core.List.{List, [], ◌∷◌, Memᴰ, Permᴰ}
use native.Mathlib.Omega.{arith}
use lib.Dec.{eqb}
use borrow.Author.Tests.{eqb-true, eq-eqb}
use Rattle.address.proofs.Tests.{both, and}
use Rattle.regions.specs.declared.Tag.{Tag}
use Rattle.regions.specs.Meaning.{same_tag}
use Rattle.regions.proofs.Push.{same_true, same_self}
use Rattle.tables.specs.declared.commands.Verb.{Verb}
use Rattle.tables.specs.declared.commands.Verb.TheVariants.{Add, Remove, Mark, Unmark, Reserve, Free}
use Rattle.tables.specs.Commands.{Command}
use Rattle.memblock.specs.Lists.{code, tag_of, flag_of, same_verb, same_call, often, SameDone}

-- ---- the same call is the same command

-- the command that a code, a tag and a flag stand for
decode : ℕ → Tag → ℕ → Verb
decode n t f = cond (eqb n 1) (Add t) (cond (eqb n 2) Remove (cond (eqb n 3) (Mark f) (cond (eqb n 4) (Unmark f) (cond (eqb n 5) Reserve Free))))

decode_code : (v : Verb) → decode (code v) (tag_of v) (flag_of v) ≡ v
unfolding decode
decode_code (Add t) = refl
decode_code Remove = refl
decode_code (Mark f) = refl
decode_code (Unmark f) = refl
decode_code Reserve = refl
decode_code Free = refl

same_verb_lem : (v u : Verb) → same_verb v u ≡ true → v ≡ u
same_verb_lem v u h =
    let p = both (eqb (code v) (code u)) (same_tag (tag_of v) (tag_of u) && eqb (flag_of v) (flag_of u)) h in
    let q = both (same_tag (tag_of v) (tag_of u)) (eqb (flag_of v) (flag_of u)) p.1 in
    let c = eqb-true (code v) (code u) p.0 in
    let t = same_true (tag_of v) (tag_of u) q.0 in
    let f = eqb-true (flag_of v) (flag_of u) q.1 in
    sym (decode_code v) ∙ (λ i. decode (c i) (t i) (f i)) ∙ decode_code u

same_call_lem : (d e : Command) → same_call d e ≡ true → d ≡ e
same_call_lem d e h =
    let p = both (same_verb d.verb e.verb) (eqb d.base e.base && eqb d.size e.size) h in
    let q = both (eqb d.base e.base) (eqb d.size e.size) p.1 in
    let v = same_verb_lem d.verb e.verb p.0 in
    λ i. record { verb = v i; base = eqb-true d.base e.base q.0 i; size = eqb-true d.size e.size q.1 i }

verb_self : (v : Verb) → same_verb v v ≡ true
verb_self v = and (eq-eqb (code v) (code v) refl) (and (same_self (tag_of v)) (eq-eqb (flag_of v) (flag_of v) refl))

call_self : (d : Command) → same_call d d ≡ true
call_self d = and (verb_self d.verb) (and (eq-eqb d.base d.base refl) (eq-eqb d.size d.size refl))

-- ---- a call stands in a list exactly when it stands there some times

often_member : (d : Command) (ds : List Command) → 0 < often d ds → Memᴰ d ds
unfolding often
often_member d [] h = let z : ⊥ = omega arith in absurd z
often_member d (x ∷ ds) h = go (same_call d x) refl h (often_member d ds)
  where
    go : (b : Bool) → same_call d x ≡ b → 0 < cond b (suc (often d ds)) (often d ds) → (0 < often d ds → Memᴰ d ds) → Memᴰ d (x ∷ ds)
    go true e l ih = Memᴰ.head (same_call_lem d x e)
    go false e l ih = Memᴰ.tail (ih l)

member_often : (d : Command) {ds : List Command} → Memᴰ d ds → 0 < often d ds
unfolding often
member_often d (Memᴰ.head {x = x} {xs = ds} e) =
    let s : same_call d x ≡ true = ap (same_call d) (sym e) ∙ call_self d in
    rw s (omega arith)
member_often d (Memᴰ.tail {x = x} {xs = ds} m) = go (same_call d x) (member_often d m)
  where
    go : (b : Bool) → 0 < often d ds → 0 < cond b (suc (often d ds)) (often d ds)
    go true h = omega arith
    go false h = h

pub same_members : (ds es : List Command) → SameDone ds es → (d : Command) → Memᴰ d ds → Memᴰ d es
same_members ds es h d m = often_member d es (omega (arith, h d, member_often d m))

-- ---- in another order

-- what is counted item by item is the same in another order
pub counted : {A : Type 0} (one : A → ℕ) (all : List A → ℕ) → ((x : A) (xs : List A) → all (x ∷ xs) ≡ one x + all xs) → {xs ys : List A} → Permᴰ xs ys → all xs ≡ all ys
counted one all more Permᴰ.nil = refl
counted one all more (Permᴰ.cons {a = x} {b = y} {l₁ = xs} {l₂ = ys} p q) =
    omega (arith, more x xs, more y ys, ap one p, counted one all more q)
counted one all more (Permᴰ.swap {a = x} {b = y} {a' = u} {b' = v} {l = xs} p q) =
    omega (arith, more x (y ∷ xs), more y xs, more u (v ∷ xs), more v xs, ap one p, ap one q)
counted one all more (Permᴰ.trans p q) = counted one all more p ∙ counted one all more q

module _ (d : Command) where
  -- 1 for that call, 0 for another
  pub counts : Command → ℕ
  counts c = cond (same_call d c) 1 0

  pub often_none : often d [] ≡ 0
  unfolding often
  often_none = refl

  pub often_more : (c : Command) (cs : List Command) → often d (c ∷ cs) ≡ counts c + often d cs
  unfolding often counts
  often_more c cs = go (same_call d c)
    where
      go : (t : Bool) → cond t (suc (often d cs)) (often d cs) ≡ cond t 1 0 + often d cs
      go true = omega arith
      go false = omega arith

-- the same commands in another order are each there as often
pub often_perm : {cs ds : List Command} → Permᴰ cs ds → SameDone cs ds
often_perm p d = counted (counts d) (often d) (often_more d) p
