-- Agreed commands leave each address as document 01 lists it, and only one block ends so. Assumes nothing.
use Prim.Native.Nat.{ℕ}
use mathlib.Core.Path.{◌≡◌, refl, sym, ap, ap₂, ◌∙◌}
use mathlib.Core.Bool.{true, false}
use mathlib.Core.List.Memᴰ
use mathlib.Core.List.{List, [], ◌∷◌, Memᴰ}
use mathlib.Core.Logic.{◌⊎◌, inl, inr}
use lib.ListN.{take, drop}
use Rattle.address.proofs.Tests.{either, no, clash, both}
use Rattle.regions.specs.declared.Kind.{Kind}
use Rattle.regions.specs.declared.Kind.TheVariants.{Memory, Taken}
use Rattle.regions.specs.declared.State.{State}
use Rattle.regions.specs.Meaning.{at}
use Rattle.regions.specs.Bytes.{bytes}
use Rattle.regions.proofs.Good.{good_legal}
use Rattle.regions.proofs.Legal.{legal_state, legal_at}
use Rattle.block.specs.declared.Settings.{Settings}
use Rattle.block.specs.Block.{current, list_of, settings_bytes, contents, good}
use Rattle.block.proofs.Blocks.{lists_ok, good_contents_lem}
use Rattle.block.proofs.Reading.{same_block}
use Rattle.block.proofs.Fields.{good_settings, good_image, settings_at, settings_there}
use Rattle.tables.specs.Commands.{Command, table}
use Rattle.memblock.specs.Lists.{covers, Agreed, Stands, Ends}
use Rattle.memblock.proofs.Steps.{same_kind, works}
use Rattle.memblock.proofs.Agreeing.{change_says, None, Only, through_none, through_only}
use Rattle.memblock.proofs.Runs.{Ran}

-- ---- works as two facts: the table is the command's, and the address is covered

kind_true : (j k : Kind) → same_kind j k ≡ true → j ≡ k
kind_true Memory Memory e = refl
kind_true Memory Taken e = let z : false ≡ true = e in cc
kind_true Taken Memory e = let z : false ≡ true = e in cc
kind_true Taken Taken e = refl

kind_self : (k : Kind) → same_kind k k ≡ true
kind_self Memory = refl
kind_self Taken = refl

module _ (d : Command) (k : Kind) (a : ℕ) where
  works_yes : table d.verb ≡ k → covers d a ≡ true → works d k a ≡ true
  works_yes t c = rw (t, kind_self k) c

  works_true : works d k a ≡ true → (table d.verb ≡ k) × (covers d a ≡ true)
  works_true e = let p = both (same_kind (table d.verb) k) (covers d a) e in (kind_true (table d.verb) k p.0, p.1)

  works_no : (table d.verb ≡ k → covers d a ≡ false) → works d k a ≡ false
  works_no h = no (works d k a) (λ e. let p = works_true e in clash (covers d a) p.1 (h p.0))

-- ---- the end of a run

-- of agreed commands, those that work at an address are all the same
agreed_only : (ds : List Command) → Agreed ds → (k : Kind) (a : ℕ) (d : Command) → Memᴰ d ds → works d k a ≡ true → Only k a d.verb ds
agreed_only ds w k a d m e x n f = go (works_true d k a e) (works_true x k a f)
  where
    go : (table d.verb ≡ k) × (covers d a ≡ true) → (table x.verb ≡ k) × (covers x a ≡ true) → x.verb ≡ d.verb
    go p q = pick (w x d n m (q.0 ∙ sym p.0))
      where
        pick : ((c : ℕ) → covers x c ≡ true → covers d c ≡ true → ⊥) ⊎ (x.verb ≡ d.verb) → x.verb ≡ d.verb
        pick (inl h) = absurd (h a q.1 p.1)
        pick (inr h) = h

module _ (ds : List Command) (w : Agreed ds) (b e : List ℕ) (g : good current b ≡ true) (r : Ran ds b e) where
  start_legal : (k : Kind) (a : ℕ) → legal_state k (at (list_of (contents current b) k) a) ≡ true
  start_legal k a =
      let xs = list_of (contents current b) k in
      legal_at k xs (good_legal k xs (lists_ok current (contents current b) (good_contents_lem current b g) k)) a

  ran_stands : (k : Kind) (a : ℕ) → Stands ds k a (at (list_of (contents current b) k) a) (at (list_of (contents current e) k) a)
  ran_stands k a =
      let v : State = at (list_of (contents current b) k) a in
      record {
        covered =
            λ d m t c. let f : works d k a ≡ true = works_yes d k a t c in
            r.says k a ∙ through_only k a d.verb ds v (agreed_only ds w k a d m f) d m f ∙ change_says d.verb v (rw t (start_legal k a));
        uncovered = λ o. r.says k a ∙ through_none k a ds v (λ d m. works_no d k a (o d m));
      }

  pub ran_ends : Ends b ds e
  ran_ends =
      let image : take 8 (drop 72 e) ≡ take 8 (drop 72 b) =
      good_image current e r.is_good ∙ ap (λ (s : Settings). bytes 8 s.image.0) r.settings ∙ sym (good_image current b g) in
      record {
        is_good = r.is_good;
        stands = ran_stands;
        settings = good_settings current e r.is_good ∙ ap settings_bytes r.settings ∙ sym (good_settings current b g);
        spare = rw image;
      }

-- ---- one end only

abbrev Some : Kind → ℕ → List Command → Type 0
Some k a ds = (d : Command) × Memᴰ d ds × (works d k a ≡ true)

-- some command works at an address, or none does
some_or_none : (k : Kind) (a : ℕ) (ds : List Command) → Some k a ds ⊎ None k a ds
some_or_none k a [] = inr (λ d m. absurd (Memᴰ.not-nil m))
some_or_none k a (x ∷ ds) = go (either (works x k a)) (some_or_none k a ds)
  where
    none : works x k a ≡ false → None k a ds → None k a (x ∷ ds)
    none e o d (Memᴰ.head p) = ap (λ (y : Command). works y k a) p ∙ e
    none e o d (Memᴰ.tail m) = o d m

    go : (works x k a ≡ true) ⊎ (works x k a ≡ false) → Some k a ds ⊎ None k a ds → Some k a (x ∷ ds) ⊎ None k a (x ∷ ds)
    go (inl e) h = inl (x, Memᴰ.head refl, e)
    go (inr e) (inl h) = inl (h.0, Memᴰ.tail h.1, h.2)
    go (inr e) (inr o) = inr (none e o)

stands_same : (ds : List Command) (k : Kind) (a : ℕ) (start v w : State) → Stands ds k a start v → Stands ds k a start w → v ≡ w
stands_same ds k a start v w p q = go (some_or_none k a ds)
  where
    -- what does not work here and is of this table does not cover the address
    clear : None k a ds → (d : Command) → Memᴰ d ds → table d.verb ≡ k → covers d a ≡ false
    clear o d m t = no (covers d a) (λ c. clash (works d k a) (works_yes d k a t c) (o d m))

    go : Some k a ds ⊎ None k a ds → v ≡ w
    go (inl h) =
        let f = works_true h.0 k a h.2 in
        p.covered h.0 h.1 f.0 f.1 ∙ sym (q.covered h.0 h.1 f.0 f.1)
    go (inr o) = p.uncovered (clear o) ∙ sym (q.uncovered (clear o))

pub ends_same : (b : List ℕ) (ds : List Command) (e f : List ℕ) → Ends b ds e → Ends b ds f → e ≡ f
ends_same b ds e f p q =
    let s : take 16 (drop 40 e) ≡ take 16 (drop 40 f) = p.settings ∙ sym q.settings in
    let t : take 8 (drop 72 e) ≡ take 8 (drop 72 f) = p.spare ∙ sym q.spare in
    let at_same : (k : Kind) (a : ℕ) → at (list_of (contents current e) k) a ≡ at (list_of (contents current f) k) a =
    λ k a. stands_same ds k a (at (list_of (contents current b) k) a) _ _ (p.stands k a) (q.stands k a) in
    same_block current e f p.is_good q.is_good (λ a l. at_same Memory a) (λ a l. at_same Taken a)
    (settings_there current e p.is_good ∙ ap₂ settings_at s t ∙ sym (settings_there current f q.is_good))
