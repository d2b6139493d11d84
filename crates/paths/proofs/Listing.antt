-- The search finds the first match in tree order. Assumes nothing.
use Prim.Native.Nat.{ℕ, ◌+◌, ◌-◌}
use mathlib.Core.Path.{◌≡◌, refl, sym, ap, ◌∙◌}
use mathlib.Core.Bool.{Bool, true, false, cond, ◌&&◌}
use mathlib.Core.List.{List, [], ◌∷◌, ◌++◌, append_assoc, append-nil}
use native.Mathlib.Numerals.{add-one}
use native.Mathlib.Omega.{arith}
use lib.Dec.{eqb}
use lib.Seq.{take_all, drop-cons}
use Rattle.std.proofs.lemmas.List.{nil_from_length}
use lib.ListN.{length, drop, take, get_or, length-drop}
use borrow.Author.Tests.{ne_eqb, eqb-true}
use Rattle.tree.specs.Content.{Content, nothing, property, node}
use Rattle.tree.specs.Steps.{places_at}
use Rattle.tree.specs.declared.reader.Tree.{Tree}
use Rattle.lookup.specs.Values.{same, name_at, steps, path, Value, absent, present}
use Rattle.lookup.specs.Steps.{PlacedIn}
use Rattle.lookup.specs.declared.Found.{Found}
use Rattle.std.proofs.Common.{Option, Some, None, ControlFlow, Break, Continue}
use Rattle.paths.specs.Lookup.{Entry, listing, first_of, or_else}
use Rattle.paths.specs.Steps.{way_of, starts, seek, looks, InRoot}
use Rattle.paths.specs.declared.ways.Way.{Way}
use Rattle.paths.specs.declared.ways.Way.TheVariants.{Top, Child, Below}

pub first_of_append : (p name : List ℕ) (a b : List Entry) → first_of p name (a ++ b) ≡ or_else (first_of p name a) (first_of p name b)
unfolding first_of
first_of_append p name [] b = refl
first_of_append p name (e ∷ a) b = grind (arith, first_of_append p name a b)

steps_append : (a b : List (List ℕ)) → steps (a ++ b) ≡ steps a ++ steps b
unfolding steps
steps_append [] b = refl
steps_append (x ∷ a) b = grind (arith, append_assoc, steps_append a b)

-- one node further
steps_on : (way : List (List ℕ)) (n : List ℕ) → steps (way ++ (n ∷ [])) ≡ steps way ++ (47 ∷ n)
unfolding steps
steps_on way n = steps_append way (n ∷ []) ∙ ap (λ (y : List ℕ). steps way ++ y) (append-nil (47 ∷ n))

path_on : (way : List (List ℕ)) (n : List ℕ) → path (way ++ (n ∷ [])) ≡ steps (way ++ (n ∷ []))
unfolding path
path_on [] n = refl
path_on (x ∷ way) n = refl

-- ---- bytes

starts_cancel : (xs ys rest : List ℕ) → starts (xs ++ ys) (xs ++ rest) ≡ starts ys rest
unfolding starts
starts_cancel [] ys rest = refl
starts_cancel (x ∷ xs) ys rest = grind (arith, starts_cancel xs ys rest)

starts_more : (xs ys l : List ℕ) → starts xs l ≡ false → starts (xs ++ ys) l ≡ false
unfolding starts
starts_more [] ys l e = cc
starts_more (x ∷ xs) ys [] e = refl
starts_more (x ∷ xs) ys (y ∷ l) e = grind (arith, starts_more xs ys l)

starts_split : (xs l : List ℕ) → starts xs l ≡ true → l ≡ xs ++ drop (length xs) l
unfolding starts
starts_split [] l e = refl
starts_split (x ∷ xs) [] e = cc
starts_split (x ∷ xs) (y ∷ l) e = grind (arith, starts_split xs l, eqb-true)

other_start : (xs l : List ℕ) → starts xs l ≡ false → same xs l ≡ false
unfolding starts same
other_start [] l e = cc
other_start (x ∷ xs) [] e = refl
other_start (x ∷ xs) (y ∷ l) e = grind (arith, other_start xs l)

same_more : (xs rest : List ℕ) → same xs (xs ++ rest) ≡ eqb (length rest) 0
unfolding same
same_more [] [] = refl
same_more [] (y ∷ rest) = grind arith
same_more (x ∷ xs) rest = grind (arith, same_more xs rest)

-- ---- a node that is not on the way has nothing of it

off_way : (strings p name : List ℕ) (way : List (List ℕ)) (x : Content) → path way ≡ steps way → starts (steps way) p ≡ false → first_of p name (listing strings way x) ≡ absent
unfolding listing first_of
off_way strings p name way nothing w e = refl
off_way strings p name way (property at value x) w e = rw (w, other_start (steps way) p e) (off_way strings p name way x w e)
off_way strings p name way (node n inner x) w e =
    first_of_append p name (listing strings (way ++ (n ∷ [])) inner) (listing strings way x)
    ∙ rw (off_way strings p name (way ++ (n ∷ [])) inner (path_on way n) (rw (steps_on way n) (starts_more (steps way) (47 ∷ n) p e))) (off_way strings p name way x w e)

-- ---- a node on the way

on_way : (strings p name : List ℕ) (way : List (List ℕ)) (rest : List ℕ) (here : Bool) (x : Content) → p ≡ steps way ++ rest → here ≡ same (path way) p
    → first_of p name (listing strings way x) ≡ seek strings name rest here x
unfolding listing first_of seek
on_way strings p name way rest here nothing s h = refl
on_way strings p name way rest here (property at value x) s h = rw (← h) (ap (λ (v : Value). cond (here && same (name_at strings at) name) (present value) v) (on_way strings p name way rest here x s h))
on_way strings p name way rest here (node n inner x) s h =
    first_of_append p name (listing strings (way ++ (n ∷ [])) inner) (listing strings way x)
    ∙ ap (λ (v : Value). or_else (first_of p name (listing strings (way ++ (n ∷ [])) inner)) v) (on_way strings p name way rest here x s h)
    ∙ ap (λ (v : Value). or_else v (seek strings name rest here x))
    (child strings p name way rest n inner s (λ r k a b. on_way strings p name (way ++ (n ∷ [])) r k inner a b) (starts (47 ∷ n) rest) refl)
  where
    child : (strings p name : List ℕ) (way : List (List ℕ)) (rest n : List ℕ) (inner : Content) → p ≡ steps way ++ rest
        → ((r : List ℕ) (k : Bool) → p ≡ steps (way ++ (n ∷ [])) ++ r → k ≡ same (path (way ++ (n ∷ []))) p → first_of p name (listing strings (way ++ (n ∷ [])) inner) ≡ seek strings name r k inner)
        → (t : Bool) → starts (47 ∷ n) rest ≡ t
        → first_of p name (listing strings (way ++ (n ∷ [])) inner) ≡ cond t (seek strings name (drop (length n + 1) rest) (eqb (length (drop (length n + 1) rest)) 0) inner) absent
    child strings p name way rest n inner s f false e =
        off_way strings p name (way ++ (n ∷ [])) inner (path_on way n) (rw (steps_on way n, s, starts_cancel (steps way) (47 ∷ n) rest) e)
    child strings p name way rest n inner s f true e =
        let r = drop (length n + 1) rest in
        let a : rest ≡ (47 ∷ n) ++ r = starts_split (47 ∷ n) rest e ∙ rw (add-one (length n)) refl in
        let b : p ≡ steps (way ++ (n ∷ [])) ++ r = s ∙ ap (λ (y : List ℕ). steps way ++ y) a ∙ rw (steps_on way n) (sym (append_assoc (steps way) (47 ∷ n) r)) in
        let k : eqb (length r) 0 ≡ same (path (way ++ (n ∷ []))) p = sym (rw (path_on way n) (ap (λ (y : List ℕ). same (steps (way ++ (n ∷ []))) y) b ∙ same_more (steps (way ++ (n ∷ []))) r)) in
        f r (eqb (length r) 0) b k

-- ---- from the root

seek_off : (strings name p : List ℕ) (x : Content) → ((n : List ℕ) → starts (47 ∷ n) p ≡ false) → seek strings name p false x ≡ absent
unfolding seek
seek_off strings name p nothing h = refl
seek_off strings name p (property at value x) h = seek_off strings name p x h
seek_off strings name p (node n inner x) h = rw (h n) (seek_off strings name p x h)

one_slash : (p : List ℕ) → (length p ≡ 0 → ⊥) → get_or p 0 0 ≡ 47 → eqb (length p) 1 ≡ same (47 ∷ []) p
unfolding same
one_slash [] s z = absurd (s refl)
one_slash (x ∷ []) s z = grind arith
one_slash (x ∷ (y ∷ p)) s z = grind arith

way_first : (w : Way) → (length (way_of w) ≡ 0 → ⊥) × (get_or (way_of w) 0 0 ≡ 47)
unfolding path steps
way_first Top = (λ e. omega arith, refl)
way_first (Child p) = (λ e. omega arith, refl)
way_first (Below p q) = (λ e. omega arith, refl)

module _ (t : Tree) (may : InRoot t) (name : List ℕ) where
  abbrev block : List ℕ
  block = t.structure.bytes.now

  abbrev places : Content
  places = places_at t.structure.names block t.root

  abbrev sought : List ℕ → Value
  sought p = first_of p name (listing t.strings.now [] places)

  module _ (w : Way) (len : ℕ) (el : len ≡ length (way_of w)) (found : ControlFlow (Option Found) ℕ)
      (c : looks t.strings.now t.structure.names block name (drop 0 (way_of w)) 1 false (eqb len 1) t.root found) where
    sought_is : sought (way_of w) ≡ seek t.strings.now name (way_of w) (eqb len 1) places
    unfolding path steps
    sought_is =
        let f = way_first w in
        on_way t.strings.now (way_of w) name [] (way_of w) (eqb len 1) places refl (rw el (one_slash (way_of w) f.0 f.1))

    pub look_found : (f : Option Found) → found ≡ Break f → PlacedIn block (sought (way_of w)) f
    look_found (Some f) e = let k = rw e at c in record { is = sought_is ∙ k.is; within = k.within }
    look_found None e = let k = rw e at c in cc (may.goes)

    pub look_missed : (x : ℕ) → found ≡ Continue x → PlacedIn block (sought (way_of w)) None
    look_missed x e = let k = rw e at c in record { is = sought_is ∙ k.0; within = omega arith }

  -- ---- a path whose first byte is looked at

  module _ (p : List ℕ) where
    other_path : ((n : List ℕ) → starts (47 ∷ n) p ≡ false) → PlacedIn block (sought p) None
    unfolding path steps
    other_path h = record {
      is = on_way t.strings.now p name [] p false places refl (sym (other_start (47 ∷ []) p (h []))) ∙ seek_off t.strings.now name p places h;
      within = omega arith;
    }

    pub path_empty : length p ≡ 0 → PlacedIn block (sought p) None
    unfolding starts
    path_empty e = other_path (λ n. rw (nil_from_length p e) refl)

    module _ (some : length p ≡ 0 → ⊥) where
      split : p ≡ get_or p 0 0 ∷ drop 1 p
      split = drop-cons p 0 0 (omega arith)

      pub path_other : (get_or p 0 0 ≡ 47 → ⊥) → PlacedIn block (sought p) None
      unfolding starts
      path_other z = other_path (λ n. rw (split, ne_eqb 47 (get_or p 0 0) (λ q. z (sym q))) refl)

      way_whole : get_or p 0 0 ≡ 47 → path (take (length p - 1) (drop 1 p) ∷ []) ≡ p
      unfolding path steps
      way_whole z = rw (take_all (length p - 1) (drop 1 p) (omega (arith, length-drop 1 p))) (append-nil (47 ∷ drop 1 p) ∙ sym (split ∙ rw z refl))

      pub path_found : get_or p 0 0 ≡ 47 → (r : Option Found) → PlacedIn block (sought (path (take (length p - 1) (drop 1 p) ∷ []))) r → PlacedIn block (sought p) r
      path_found z r g = rw (way_whole z) at g
