-- A board's tree is taken in whole or not at all, alone or corrected by a service tree: refusals in their order, and what is asked of trees that have the
-- form. Assumes nothing.
use Rattle.std.proofs.Common.{◌≡◌, ℕ, ◌+◌, ◌*◌, ◌/◌, ◌≤◌, ◌<◌, Bool, true, false, ◌&&◌, cond, not, List, [], Option, Some, None, length, refl, sym, ap, ◌∙◌, arith}
use lib.Dec.{leb, eqb}
use borrow.Author.Tests.{leb-true}
use Rattle.block.specs.declared.Layout.{Layout}
use Rattle.block.specs.Block.{current, good}
use Rattle.block.proofs.Blocks.{good_here, bad_here}
use Rattle.range.specs.Outcomes.{Outcome, outcome}
use Rattle.tables.specs.Commands.{Command}
use Rattle.intake.specs.Turns.{steps, wholly}
use Rattle.tree.specs.Words.{word}
use Rattle.tree.specs.Content.{Content}
use Rattle.tree.specs.Header.{structure, strings, root, listed, pairs, before_end, form}
use Rattle.tree.specs.Steps.{content_at, TreeOf}
use Rattle.tree.specs.declared.reader.Tree.{Tree}
use Rattle.tree.proofs.Booleans.{both}
use Rattle.tree.proofs.Placing.{root_said}
use Rattle.lookup.specs.Values.{path, Value, absent, present}
use Rattle.paths.specs.Lookup.{listing, first_of, or_else, lookup}
use Rattle.paths.specs.Steps.{InRoot}
use Rattle.values.specs.declared.Trees.{Trees}
use Rattle.values.specs.Names.{address_cells, size_cells}
use Rattle.values.specs.Values.{Get, own, number_or, number_from, root_node, a_cells, s_cells, root_cells}
use Rattle.values.specs.Steps.{Sources, stands, root_at, corrected, gets, cells_of, children_ok}
use Rattle.values.proofs.OneByOne.{values_are}
use Rattle.board.specs.Board.{readable, asks, intake_tree}
use Rattle.board.specs.Pairs.{readable_pair, asks_pair, intake_trees}
use Rattle.board.specs.Steps.{OneOrTwo, turns, taking_ranges, taking, taking_board}
use Rattle.board.proofs.Asks.{commands_are}

-- ---- cells

-- a number from 1 to 2 is no 0
number_some : (d : ℕ) → 0 < d → d ≤ 2 → (v : Value) → number_from 1 2 v ≡ true → (0 < number_or d v) × (number_or d v ≤ 2)
number_some d some few absent e = (some, few)
number_some d some few (present v) e =
    let p = both (eqb (length v) 4) (leb 1 (word v) && leb (word v) 2) e in
    let q = both (leb 1 (word v)) (leb (word v) 2) p.1 in
    (leb-true 1 (word v) q.0, leb-true (word v) 2 q.1)

record Few (d : ℕ) (v : Value) (a : ℕ) : Type 0 where
  bounds : number_from 1 2 v ≡ true
  is : a ≡ number_or d v
  some : 0 < a
  few : a ≤ 2

module _ (d : ℕ) (some : 0 < d) (few : d ≤ 2) (v : Value) (r : Option ℕ) (is : r ≡ cells_of d v) where
  no_cells : r ≡ None → number_from 1 2 v ≡ false
  no_cells e = go (number_from 1 2 v) (sym is ∙ e)
    where
      go : (t : Bool) → cond t (Some (number_or d v)) None ≡ None → t ≡ false
      go true q = cc
      go false q = refl

  some_cells : (a : ℕ) → r ≡ Some a → Few d v a
  some_cells a e = go (number_from 1 2 v) refl (sym e ∙ is)
    where
      go : (t : Bool) → number_from 1 2 v ≡ t → Some a ≡ cond t (Some (number_or d v)) None → Few d v a
      go true p q =
          let n = number_some d some few v p in
          let z : a ≡ number_or d v = cc in
          record { bounds = p; is = z; some = omega (arith, n.0, z); few = omega (arith, n.1, z) }
      go false p q = cc

-- ---- trees that have the form: their values, then the board's commands

module _ (trees : Trees) (list b : List ℕ) where
  abbrev top : Content
  top = stands trees trees.board.root

  abbrev get : Get
  get = gets trees

  abbrev taken : Outcome
  taken = taking get top list b

  refused_here : root_cells get top && children_ok get (4 * (a_cells get top + s_cells get top)) top ≡ false → outcome 11 b ≡ taken
  unfolding taking_ranges
  refused_here h = rw (values_are get top, h) refl

  module _ (x : Option ℕ) (ex : x ≡ cells_of 2 (get (root_at trees trees.board.root) address_cells)) where
    pub no_address : x ≡ None → outcome 11 b ≡ taken
    no_address z = refused_here (rw (no_cells 2 (omega arith) (omega arith) (get (root_node get top) address_cells) x ex z) refl)

    module _ (a : ℕ) (ea : x ≡ Some a) (y : Option ℕ) (ey : y ≡ cells_of 1 (get (root_at trees trees.board.root) size_cells)) where
      fa : Few 2 (get (root_node get top) address_cells) a
      fa = some_cells 2 (omega arith) (omega arith) (get (root_node get top) address_cells) x ex a ea

      pub no_size : y ≡ None → outcome 11 b ≡ taken
      no_size z = refused_here (rw (fa.bounds, no_cells 1 (omega arith) (omega arith) (get (root_node get top) size_cells) y ey z) refl)

      module _ (c : ℕ) (ec : y ≡ Some c) where
        fc : Few 1 (get (root_node get top) size_cells) c
        fc = some_cells 1 (omega arith) (omega arith) (get (root_node get top) size_cells) y ey c ec

        pub few_cells : OneOrTwo (record { address = a; size = c })
        few_cells = record { some_address = fa.some; few_address = fa.few; some_size = fc.some; few_size = fc.few }

        cells_hold : root_cells get top ≡ true
        cells_hold = rw (fa.bounds, fc.bounds) refl

        same_width : 4 * (a_cells get top + s_cells get top) ≡ 4 * (a + c)
        same_width = rw (← fa.is, ← fc.is) refl

        module _ (t : Bool) (et : t ≡ children_ok get (4 * (a + c)) (stands trees trees.board.root)) where
          pub bad_values : t ≡ false → outcome 11 b ≡ taken
          bad_values z = refused_here (rw (cells_hold, same_width, ← et, z) refl)

          pub good_values : t ≡ true → (o : Outcome)
              → o ≡ wholly (steps current (turns get (record { address = a; size = c }) list (stands trees trees.board.root))) b → o ≡ taken
          unfolding taking_ranges
          good_values z o eo =
              rw (values_are get top, cells_hold, same_width, ← et, z)
              (eo ∙ ap (λ (cs : List Command). wholly (steps current cs) b)
              (sym (commands_are get (record { address = a; size = c }) top fa.is fc.is list)))

-- ---- opened trees

-- what is got first at a node's path in a tree, by its strings and what stands in its root
abbrev first_match : List ℕ → Content → Get → Get
first_match strings top get n name = or_else (first_of (path n.way) name (listing strings [] top)) (get n name)

module _ (bytes : List ℕ) (t : Tree) (o : TreeOf bytes t) where
  pub rooted : InRoot t
  rooted = record { within = rw o.root.bytes_are o.root.is.within; goes = rw o.root.bytes_are o.root.goes }

  says : content_at t.structure.names t.structure.bytes.now t.root ≡ root bytes
  says = rw o.root.bytes_are (sym (root_said (strings bytes) (structure bytes) t o.root))

module _ (board : List ℕ) (t : Tree) (o : TreeOf board t) where
  pub alone_read : Sources (record { service = None; board = t })
  alone_read = record { service = tt; short = o.short }

  pub pair_read : (service : List ℕ) (s : Tree) → TreeOf service s → Sources (record { service = Some s; board = t })
  pair_read service s q = record { service = rooted service s q; short = o.short }

  -- of the board
  board_taken : (service : Option Tree) (l : List ℕ) → l ≡ listed board → (b : List ℕ)
      → taking (gets (record { service = service; board = t })) (content_at t.structure.names t.structure.bytes.now t.root) l b ≡ taking_board (corrected service (own (strings board))) board b
  board_taken service l e b = λ i. taking_ranges (corrected service (own (o.root.strings_are i))) (says board t o i) (before_end (pairs (length (e i) / 16) (e i))) b

-- ---- the checks

module _ (L : Layout) (w : L ≡ current) (b : List ℕ) (g : Bool) (q : g ≡ good L b) where
  module _ (h : not g ≡ false) where
    pub is_good_lem : good current b ≡ true
    is_good_lem = good_here L w b g q h

  module _ (tree : List ℕ) where
    pub not_good : not g ≡ true → outcome 1 b ≡ intake_tree current tree b
    unfolding intake_tree
    not_good h = rw (bad_here L w b g q h) refl

    module _ (h : not g ≡ false) where
      pub no_form : form tree ≡ false → outcome 11 b ≡ intake_tree current tree b
      unfolding intake_tree readable
      no_form e = rw (is_good_lem h, e) refl

      pub taken_alone : form tree ≡ true → (x : Tree) → TreeOf tree x → (l : List ℕ) → l ≡ listed tree → (o : Outcome)
          → o ≡ taking (gets (record { service = None; board = x })) (stands (record { service = None; board = x }) x.root) l b → o ≡ intake_tree current tree b
      unfolding intake_tree readable asks taking_ranges
      taken_alone e x y l z o k = k ∙ board_taken tree x y None l z b ∙ rw (is_good_lem h, e) refl

  module _ (board service : List ℕ) where
    pub pair_not_good : not g ≡ true → outcome 1 b ≡ intake_trees current board service b
    unfolding intake_trees
    pair_not_good h = rw (bad_here L w b g q h) refl

    module _ (h : not g ≡ false) where
      pub board_no_form : form board ≡ false → outcome 11 b ≡ intake_trees current board service b
      unfolding intake_trees readable_pair
      board_no_form e = rw (is_good_lem h, e) refl

      module _ (e : form board ≡ true) where
        pub service_no_form : form service ≡ false → outcome 11 b ≡ intake_trees current board service b
        unfolding intake_trees readable_pair
        service_no_form f = rw (is_good_lem h, e, f) refl

        pub pair_taken : form service ≡ true → (x s : Tree) → TreeOf board x → TreeOf service s → (l : List ℕ) → l ≡ listed board → (o : Outcome)
            → o ≡ taking (gets (record { service = Some s; board = x })) (stands (record { service = Some s; board = x }) x.root) l b
            → o ≡ intake_trees current board service b
        unfolding intake_trees readable_pair asks_pair taking_ranges lookup
        pair_taken f x s y t l z o k =
            k ∙ board_taken board x y (Some s) l z b
            ∙ (λ i. taking_board (first_match (t.root.strings_are i) (says service s t i) (own (strings board))) board b)
            ∙ rw (is_good_lem h, e, f) refl
