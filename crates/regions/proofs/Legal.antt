-- A change of legal states into legal states makes a good list of a good list, and that list says the changed meaning. Assumes nothing.
use Prim.Native.Nat.{ℕ, zero, suc, ◌+◌, ◌≤◌, ◌<◌}
use mathlib.Core.Path.{◌≡◌, refl, sym, ◌∙◌}
use mathlib.Core.Bool.{Bool, true, false, cond}
use mathlib.Core.List.{List, [], ◌∷◌}
use mathlib.Core.Logic.{◌⊎◌, inl, inr}
use native.Mathlib.Omega.{arith}
use lib.Dec.{leb}
use Rattle.address.proofs.Tests.{both, and, le_or_lt}
use Rattle.regions.specs.declared.Tag.{Tag}
use Rattle.regions.specs.declared.Region.{Region}
use Rattle.regions.specs.declared.State.{State}
use Rattle.regions.specs.declared.State.TheVariants.{Absent, Present}
use Rattle.regions.specs.declared.Kind.{Kind}
use Rattle.regions.specs.declared.Kind.TheVariants.{Memory}
use Rattle.regions.specs.declared.Change.{Change}
use Rattle.regions.specs.declared.Change.TheVariants.{Fill, Clear, Mark, Unmark}
use Rattle.regions.specs.Meaning.{Meaning, region, end, inside, at, joins, join, push, shortest, top}
use Rattle.regions.specs.Lists.{legal_tag, legal, good_list}
use Rattle.regions.specs.Changes.{one_flag, change, after, cut, changed}
use Rattle.regions.proofs.Flags.{set_legal, clear_legal}
use Rattle.regions.proofs.Rises.{Rises-rises}
use Rattle.regions.proofs.RoundTrip.{canonical_shortest, at_shortest, at_shortest_above, rises_above, inside_past}
use Rattle.regions.proofs.Good.{good_rises, good_legal}

-- an address may stand so in the table k
abbrev pub legal_state : Kind → State → Bool
legal_state k Absent = true
legal_state k (Present t) = legal_tag k t

-- ---- a list of legal tags says legal states, and a shortest list of legal states has legal tags

pub legal_at : (k : Kind) (xs : List Region) → legal k xs ≡ true → (a : ℕ) → legal_state k (at xs a) ≡ true
unfolding legal at
legal_at k [] e a = refl
legal_at k (r ∷ rs) e a =
    let p = both (legal_tag k r.tag) (legal k rs) e in
    go (inside r.base.0 (end r) a) p.0 (legal_at k rs p.1 a)
  where
    go : (b : Bool) → legal_tag k r.tag ≡ true → legal_state k (at rs a) ≡ true → legal_state k (cond b (Present r.tag) (at rs a)) ≡ true
    go true h i = h
    go false h i = i

legal_join : (k : Kind) (xs : List Region) (c s : ℕ) (t : Tag) → legal k xs ≡ true → legal_tag k t ≡ true → legal k (join xs c s t) ≡ true
unfolding legal join
legal_join k [] c s t e h = and h refl
legal_join k (r ∷ []) c s t e h = go (joins r c t)
  where
    go : (b : Bool) → legal k (cond b (region r.base.0 (r.size.0 + s) t ∷ []) (r ∷ region c s t ∷ [])) ≡ true
    go true = and h refl
    go false = and (both (legal_tag k r.tag) true e).0 (and h refl)
legal_join k (r ∷ q ∷ rs) c s t e h =
    let p = both (legal_tag k r.tag) (legal k (q ∷ rs)) e in
    and p.0 (legal_join k (q ∷ rs) c s t p.1 h)

legal_push : (k : Kind) (xs : List Region) (c s : ℕ) (v : State) → legal k xs ≡ true → legal_state k v ≡ true → legal k (push xs c s v) ≡ true
unfolding push
legal_push k xs c s Absent e h = e
legal_push k xs c zero (Present t) e h = e
legal_push k xs c (suc s) (Present t) e h = legal_join k xs c (suc s) t e h

pub legal_shortest : (k : Kind) (f : Meaning) (n : ℕ) → ((a : ℕ) → legal_state k (f a) ≡ true) → legal k (shortest f n) ≡ true
unfolding legal shortest
legal_shortest k f zero h = refl
legal_shortest k f (suc n) h = legal_push k (shortest f n) n 1 (f n) (legal_shortest k f n h) (h n)

-- ---- changes that keep a table's states legal

abbrev pub Keeps : Kind → Change → Type 0
Keeps k c = (v : State) → legal_state k v ≡ true → legal_state k (change c v) ≡ true

pub fill_keeps : (k : Kind) (t : Tag) → legal_tag k t ≡ true → Keeps k (Fill t)
unfolding change
fill_keeps k t h Absent e = h
fill_keeps k t h (Present u) e = e

pub clear_keeps : (k : Kind) → Keeps k Clear
unfolding change
clear_keeps k v e = refl

module _ (w : ℕ) (one : one_flag w ≡ true) where
  pub mark_keeps : Keeps Memory (Mark w)
  unfolding change legal_tag
  mark_keeps Absent e = refl
  mark_keeps (Present t) e = let p = both (leb t.flags 7) (leb t.node 63) e in and (set_legal w one t.flags p.0) p.1

  pub unmark_keeps : Keeps Memory (Unmark w)
  unfolding change legal_tag
  unmark_keeps Absent e = refl
  unmark_keeps (Present t) e = let p = both (leb t.flags 7) (leb t.node 63) e in and (clear_legal w one t.flags p.0) p.1

-- ---- what a command makes of a good list

module _ (k : Kind) (c : Change) (base size : ℕ) (xs : List Region) (g : good_list k xs ≡ true) where
  after_legal : Keeps k c → (a : ℕ) → legal_state k (after (change c) base (cut base size) (at xs) a) ≡ true
  unfolding after
  after_legal h a = go (inside base (cut base size) a) (legal_at k xs (good_legal k xs g) a)
    where
      go : (b : Bool) → legal_state k (at xs a) ≡ true → legal_state k (cond b (change c (at xs a)) (at xs a)) ≡ true
      go true e = h (at xs a) e
      go false e = e

  pub changed_good : Keeps k c → good_list k (changed c base size xs) ≡ true
  unfolding good_list changed
  changed_good h =
      let f : Meaning = after (change c) base (cut base size) (at xs) in
      and (Rises-rises (canonical_shortest f top)) (legal_shortest k f top (after_legal h))

  -- from the top on nothing is covered and nothing is present
  after_above : (a : ℕ) → top ≤ a → after (change c) base (cut base size) (at xs) a ≡ Absent
  unfolding after
  after_above a l = rw (inside_past base (cut base size) a (omega arith)) (rises_above a (good_rises k xs g) l)

  pub changed_at : (a : ℕ) → at (changed c base size xs) a ≡ after (change c) base (cut base size) (at xs) a
  unfolding changed
  changed_at a = go (le_or_lt top a)
    where
      go : (top ≤ a) ⊎ (a < top)
          → at (shortest (after (change c) base (cut base size) (at xs)) top) a ≡ after (change c) base (cut base size) (at xs) a
      go (inl l) = at_shortest_above (after (change c) base (cut base size) (at xs)) top a l ∙ sym (after_above a l)
      go (inr l) = at_shortest (after (change c) base (cut base size) (at xs)) top a l
