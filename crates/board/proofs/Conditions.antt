-- Number 11 is given exactly when one of E8's conditions fails, or of E9's on two trees, right after the block's check; and a bare root corrects nothing.
-- Assumes nothing.
use Prim.Native.Nat.{ℕ}
use mathlib.Core.Path.{◌≡◌, refl, ap}
use mathlib.Core.Bool.{Bool, true, false, ◌&&◌}
use mathlib.Core.List.{List, []}
use mathlib.Core.Logic.{◌⊎◌, inl, inr, ⊎_elim}
use native.Mathlib.Omega.{arith}
use Rattle.block.specs.Block.{current, good}
use Rattle.range.specs.Outcomes.{Outcome, outcome, unless}
use Rattle.tables.specs.Commands.{Command}
use Rattle.intake.specs.Turns.{steps, in_turn, wholly}
use Rattle.intake.proofs.Whole.{checked}
use Rattle.intake.proofs.Good.{DoneOrFull}
use Rattle.tree.specs.Form.{formed}
use Rattle.tree.specs.Content.{Content, nothing}
use Rattle.tree.specs.Header.{whole_header, magic, version17, compatible16, structure_inside, structure_aligned, strings_inside, list_aligned, list_ended, structure, strings, root, reservations, header, list, parts, form}
use Rattle.tree.proofs.Booleans.{both}
use Rattle.tree.proofs.WhichTrees.{which_trees}
use Rattle.lookup.specs.Values.{path, Node}
use Rattle.paths.specs.Lookup.{listing, first_of, or_else, lookup}
use Rattle.values.specs.Values.{Get, own, every, memories, reserved, root_cells, whole_reg, node_id, values}
use Rattle.board.specs.Board.{commands, readable, asks, intake_tree}
use Rattle.board.specs.Pairs.{pair_get, readable_pair, asks_pair, intake_trees}
use Rattle.board.specs.Conditions.{Conditions, ElevenSentence}
use Rattle.board.specs.Corrections.{FormSentence, PropertySentence, PairConditions, PairSentence}
use Rattle.board.proofs.Good.{asks_number, pair_number}

-- ---- each condition

-- on the values
values_parted : (get : Get) (top : Content) → values get top ≡ true
    → (root_cells get top ≡ true) × (every (whole_reg get top) (memories get top) ≡ true) × (every (node_id get top) (memories get top) ≡ true)
    × (every (whole_reg get top) (reserved get top) ≡ true)
unfolding values
values_parted get top e =
    let ms = every (whole_reg get top) (memories get top) in
    let ns = every (node_id get top) (memories get top) in
    let rs = every (whole_reg get top) (reserved get top) in
    let v = both (root_cells get top) (ms && (ns && rs)) e in
    let w = both ms (ns && rs) v.1 in
    let x = both ns rs w.1 in
    (v.0, w.0, x.0, x.1)

module _ (tree : List ℕ) where
  conditions_read : Conditions tree → readable tree ≡ true
  unfolding readable form header parts list values
  conditions_read c =
      let t = c.one_tree in
      rw (
        c.whole_header,
        c.magic_word,
        c.version,
        c.compatible,
        c.structure_inside,
        c.structure_aligned,
        c.strings_inside,
        c.list_aligned,
        c.list_ended,
        (which_trees (strings tree)).tree_read (structure tree) t.name t.inner t.tree,
        c.root_cells,
        c.memory_regs,
        c.node_ids,
        c.reserved_regs,
      ) refl

  read_conditions : readable tree ≡ true → Conditions tree
  unfolding readable form header parts list values
  read_conditions e =
      let f = both (form tree) (values (own (strings tree)) (root tree)) e in
      let a = both (header tree) (parts tree && formed (strings tree) (structure tree)) f.0 in
      let h = both (whole_header tree) (magic tree && (version17 tree && compatible16 tree)) a.0 in
      let i = both (magic tree) (version17 tree && compatible16 tree) h.1 in
      let j = both (version17 tree) (compatible16 tree) i.1 in
      let p = both (parts tree) (formed (strings tree) (structure tree)) a.1 in
      let q = both (structure_inside tree) (structure_aligned tree && (strings_inside tree && list tree)) p.0 in
      let r = both (structure_aligned tree) (strings_inside tree && list tree) q.1 in
      let s = both (strings_inside tree) (list tree) r.1 in
      let t = both (list_aligned tree) (list_ended tree) s.1 in
      let v = values_parted (own (strings tree)) (root tree) f.1 in
      record {
        whole_header = h.0;
        magic_word = i.0;
        version = j.0;
        compatible = j.1;
        structure_inside = q.0;
        structure_aligned = r.0;
        strings_inside = s.0;
        list_aligned = t.0;
        list_ended = t.1;
        one_tree = (which_trees (strings tree)).read_tree (structure tree) p.1;
        root_cells = v.0;
        memory_regs = v.1;
        reserved_regs = v.3;
        node_ids = v.2;
      }

-- ---- the number

number_of : {x y : Outcome} → x ≡ y → x.number ≡ y.number
number_of e = ap (λ (z : Outcome). z.number) e

-- how the commands end, and what that leaves
record Ends (cs : List Command) (b : List ℕ) (taken : Outcome) (n : ℕ) (o : Outcome) : Type 0 where
  number : (in_turn (steps current cs) b).number ≡ n
  outcome : taken ≡ o

-- the numbers in their order
record Numbers (C : Type 0) (cs : List Command) (b : List ℕ) (taken : Outcome) : Type 0 where
  block_first : good current b ≡ false → taken ≡ outcome 1 b
  given : good current b ≡ true → (C → ⊥) → taken ≡ outcome 11 b
  only : taken.number ≡ 11 → (good current b ≡ true) × (C → ⊥)
  done_or_full : good current b ≡ true → C → Ends cs b taken 0 (in_turn (steps current cs) b) ⊎ Ends cs b taken 6 (outcome 6 b)

-- an intake whose lent trees are read exactly on a condition, and whose commands are then done or one finds its table full
module _ (t : Bool) (C : Type 0) (to : C → t ≡ true) (back : t ≡ true → C) (cs : List Command) (b : List ℕ)
    (legal : t ≡ true → good current b ≡ true → DoneOrFull (in_turn (steps current cs) b)) where
  abbrev taken : Outcome
  taken = checked 11 t (steps current cs) b

  block_bad : good current b ≡ false → taken ≡ outcome 1 b
  block_bad g = rw g refl

  not_read : good current b ≡ true → (C → ⊥) → taken ≡ outcome 11 b
  not_read g n = go t refl
    where
      go : (u : Bool) → t ≡ u → unless (good current b) 1 b (unless u 11 b (wholly (steps current cs) b)) ≡ outcome 11 b
      go true e = absurd (n (back e))
      go false e = rw g refl

  read : good current b ≡ true → C → Ends cs b taken 0 (in_turn (steps current cs) b) ⊎ Ends cs b taken 6 (outcome 6 b)
  unfolding wholly
  read g c =
      let e = to c in
      ⊎_elim (λ z. inl (record { number = z; outcome = rw (g, e, z) refl })) (λ z. inr (record { number = z; outcome = rw (g, e, z) refl })) (legal e g)

  only_then : taken.number ≡ 11 → (good current b ≡ true) × (C → ⊥)
  only_then h = go (good current b) refl
    where
      go : (u : Bool) → good current b ≡ u → (good current b ≡ true) × (C → ⊥)
      go true g = (
        g,
        λ c. ⊎_elim (λ z. omega (arith, h, number_of z.outcome, z.number)) (λ z. omega (arith, h, number_of z.outcome)) (read g c),
      )
      go false g = absurd (omega (arith, h, number_of (block_bad g)))

  numbers : Numbers C cs b taken
  numbers = record { block_first = block_bad; given = not_read; only = only_then; done_or_full = read }

pub eleven : (tree b : List ℕ) → ElevenSentence tree b
unfolding intake_tree
eleven tree b =
    let n = numbers (readable tree) (Conditions tree) (conditions_read tree) (read_conditions tree) (asks tree) b (λ e g. asks_number tree e b g) in
    record {
      block_first = n.block_first;
      given = n.given;
      only = n.only;
      done_or_full = λ g c. ⊎_elim (λ z. inl (record { number = z.number; outcome = z.outcome })) (λ z. inr (record { number = z.number; outcome = z.outcome })) (n.done_or_full g c);
    }

-- ---- a tree's form

pub form_sentence : (tree : List ℕ) → FormSentence tree
unfolding readable
form_sentence tree = record {
  needed = λ c. (both (form tree) (values (own (strings tree)) (root tree)) (conditions_read tree c)).0;
  enough = λ f v. read_conditions tree (rw (f, v) refl);
}

-- ---- two trees

module _ (board service : List ℕ) where
  abbrev get : Get
  get = pair_get board service

  abbrev top : Content
  top = root board

  pub property_sentence : (n : Node) (name : List ℕ) → PropertySentence board service n name
  property_sentence n name = record { first = λ v e. rw e refl; else_own = λ e. rw e refl }

  pair_conditions_read : PairConditions board service → readable_pair board service ≡ true
  unfolding readable_pair values
  pair_conditions_read c = rw (c.board_form, c.service_form, c.root_cells, c.memory_regs, c.node_ids, c.reserved_regs) refl

  pair_read_conditions : readable_pair board service ≡ true → PairConditions board service
  unfolding readable_pair
  pair_read_conditions e =
      let p = both (form board && form service) (values get top) e in
      let f = both (form board) (form service) p.0 in
      let v = values_parted get top p.1 in
      record { board_form = f.0; service_form = f.1; root_cells = v.0; memory_regs = v.1; reserved_regs = v.3; node_ids = v.2 }

  corrects_nothing : root service ≡ nothing → get ≡ own (strings board)
  unfolding lookup listing first_of
  corrects_nothing e = λ i n name. or_else (first_of (path n.way) name (listing (strings service) [] (e i))) (own (strings board) n name)

  bare_root : form service ≡ true → root service ≡ nothing → (b : List ℕ) → intake_trees current board service b ≡ intake_tree current board b
  unfolding intake_trees intake_tree readable_pair readable asks_pair asks
  bare_root f e b =
      let g = corrects_nothing e in
      rw (f, and_true (form board)) (λ i. checked 11 (form board && values (g i) top) (steps current (commands (g i) top (reservations board))) b)
    where
      and_true : (t : Bool) → t && true ≡ t
      and_true true = refl
      and_true false = refl

  pub pair_sentence : (b : List ℕ) → PairSentence board service b
  unfolding intake_trees
  pair_sentence b =
      let n = numbers (readable_pair board service) (PairConditions board service) pair_conditions_read pair_read_conditions (asks_pair board service) b (λ e g. pair_number board service e b g) in
      record {
        block_first = n.block_first;
        given = n.given;
        only = n.only;
        done_or_full = λ g c. ⊎_elim (λ z. inl (record { number = z.number; outcome = z.outcome })) (λ z. inr (record { number = z.number; outcome = z.outcome })) (n.done_or_full g c);
        bare = λ f e. bare_root f e b;
      }
