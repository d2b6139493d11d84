-- The passes over a board's nodes: what is still to be done on the block so far is what the whole is on the block at the start. Assumes nothing.
use Rattle.std.proofs.Common.{◌≡◌, ℕ, ◌/◌, ◌≤◌, Bool, true, false, ◌&&◌, cond, not, List, [], ◌∷◌, ◌++◌, Option, Some, None, Ok, Err, length, take, drop, refl, sym, ap, ◌∙◌, arith}
use mathlib.Core.Bool.{false≢true}
use lib.ListN.{drop_of_length-le}
use Rattle.regions.specs.Lists.{legal_tag}
use Rattle.block.specs.Block.{current, good}
use Rattle.block.proofs.Blocks.{good_length}
use Rattle.range.specs.Outcomes.{Outcome, outcome, tag}
use Rattle.tables.specs.declared.commands.Verb.{Verb}
use Rattle.tables.specs.declared.commands.Verb.TheVariants.{Add, Mark, Reserve}
use Rattle.tables.specs.Commands.{Command, legal_verb}
use Rattle.intake.specs.Turns.{steps, in_turn, wholly}
use Rattle.intake.proofs.Good.{commands_good, turn_good}
use Rattle.intake.proofs.Whole.{put_back, left_done}
use Rattle.tree.specs.Content.{Content, nothing}
use Rattle.tree.specs.Header.{pairs, before_end}
use Rattle.tree.specs.Steps.{strip}
use Rattle.tree.proofs.Booleans.{both}
use Rattle.lookup.specs.Values.{same, absent}
use Rattle.paths.specs.declared.ways.Way.TheVariants as y
use Rattle.lookup.specs.Values as n
use Rattle.refusals.specs.Numbers.{number, answered}
use Rattle.refusals.specs.declared.Refusal.{Refusal}
use Rattle.std.specs.Result.{is_err}
use Rattle.board.specs.declared.ranges.Cells.{Cells}
use Rattle.board.specs.declared.taking.Pass.{Pass}
use Rattle.board.specs.declared.taking.Pass.TheVariants.{Memory, Reserved, Marked}
use Rattle.values.specs.declared.Trees.{Trees}
use Rattle.values.specs.declared.Child.{Child}
use Rattle.values.specs.declared.Node as v
use Rattle.values.specs.Names.{device_type, memory, reg, numa_node_id, reserved_memory, no_map}
use Rattle.values.specs.Values.{Get, is, has, number_from, whole_entries}
use Rattle.values.specs.Steps.{stands, node_at, First, FirstChild, FirstBelow, told, memory_ok, child_ok}
use Rattle.board.specs.Board.{on_ranges}
use Rattle.board.specs.Steps.{reg_commands, memory_commands, marked_or_not, reserved_commands, child_commands, children_commands, turns}
use Rattle.board.proofs.Regs.{Answer, refusal_some, refused_first, done_first}
use Rattle.values.proofs.Properties.{memory_no_id, memory_id, told_number}
use Rattle.values.proofs.Children.{Gathered, gathered_last, gathered_next, child_memory}

nothing_asked : (b : List ℕ) → outcome 0 b ≡ in_turn (steps current []) b
unfolding in_turn
nothing_asked b = refl

-- ---- a child that is memory

pub node_memory : (get : Get) (w : ℕ) (t : Trees) (x : Child) → child_ok get w x.name.now (stands t x.at) ≡ true
    → (m : v.Node) → m ≡ record { way = y.Child x.name; at = x.at } → memory_ok get w (node_at t m) ≡ true
node_memory get w t x h m e = rw e (child_memory get w x.name.now (stands t x.at) h)

module _ (get : Get) (cells : Cells) (x : n.Node) (t : Bool) (p : t ≡ is memory (get x device_type)) (b : List ℕ) where
  pub no_memory_lem : t ≡ false → outcome 0 b ≡ in_turn (steps current (memory_commands get cells x)) b
  unfolding memory_commands
  no_memory_lem e = rw (← p, e) (nothing_asked b)

  module _ (e : t ≡ true) (r : Option ℕ) (k : r ≡ told 0 (get x numa_node_id)) where
    pub memory_added : (n : ℕ) → r ≡ Some n → (o : Outcome) → o ≡ in_turn (steps current (reg_commands get cells (Add (tag 0 n)) x)) b
        → o ≡ in_turn (steps current (memory_commands get cells x)) b
    unfolding memory_commands
    memory_added n z o q = rw (← p, e, ← told_number 0 n (get x numa_node_id) (sym z ∙ k)) q

    module _ (w : ℕ) (h : memory_ok get w x ≡ true) where
      is_memory : is memory (get x device_type) ≡ true
      is_memory = sym p ∙ e

      reg_whole : whole_entries w (get x reg) ≡ true
      unfolding memory_ok
      reg_whole =
          let q : whole_entries w (get x reg) && number_from 0 63 (get x numa_node_id) ≡ true = rw is_memory at h in
          (both (whole_entries w (get x reg)) (number_from 0 63 (get x numa_node_id)) q).0

      pub id_there : r ≡ None → ⊥
      id_there z = false≢true (memory_no_id get w x is_memory reg_whole r k z ∙ h)

      pub id_legal : (n : ℕ) → r ≡ Some n → legal_verb (Add (tag 0 n)) ≡ true
      unfolding legal_tag
      id_legal n z = memory_id get w x is_memory reg_whole r k n z ∙ h

-- ---- a node in a /reserved-memory

-- those with no-map are marked, the others reserved
abbrev pub verb_of : Bool → Verb
verb_of true = Mark 4
verb_of false = Reserve

module _ (get : Get) (cells : Cells) (x : n.Node) (t : Bool) (p : t ≡ has (get x no_map)) (b : List ℕ) where
  pub not_taken : (marked : Bool) → (t ≡ marked → ⊥) → outcome 0 b ≡ in_turn (steps current (marked_or_not get cells marked x)) b
  unfolding marked_or_not
  not_taken true h = go t p h
    where
      go : (u : Bool) → u ≡ has (get x no_map) → (u ≡ true → ⊥) → outcome 0 b ≡ in_turn (steps current (cond (has (get x no_map)) (reg_commands get cells (Mark 4) x) [])) b
      go true q k = absurd (k refl)
      go false q k = rw (← q) (nothing_asked b)
  not_taken false h = go t p h
    where
      go : (u : Bool) → u ≡ has (get x no_map) → (u ≡ false → ⊥)
          → outcome 0 b ≡ in_turn (steps current (cond (not (has (get x no_map))) (reg_commands get cells Reserve x) [])) b
      go false q k = absurd (k refl)
      go true q k = rw (← q) (nothing_asked b)

  pub is_taken : (marked : Bool) → t ≡ marked → (v : Verb) → v ≡ verb_of marked → (o : Outcome) → o ≡ in_turn (steps current (reg_commands get cells v x)) b
      → o ≡ in_turn (steps current (marked_or_not get cells marked x)) b
  unfolding marked_or_not
  is_taken true e v f o q = rw (← p, e) (rw f at q)
  is_taken false e v f o q = rw (← p, e) (rw f at q)

-- ---- a child of the root, by its name

module _ (name : List ℕ) (t : Bool) (p : t ≡ same name reserved_memory) (cs : List Command) (b : List ℕ) where
  pub no_reserved : t ≡ false → outcome 0 b ≡ in_turn (steps current (cond (same name reserved_memory) cs [])) b
  no_reserved e = rw (← p, e) (nothing_asked b)

-- ---- the nodes in a node, in turn

abbrev Asked : (Content → List Command) → (List ℕ → Content → List Command) → Type 0
Asked all one = Gathered [] ◌++◌ all one

module _ (all : Content → List Command) (one : List ℕ → Content → List Command) (w : Asked all one) (t : Trees) (at : ℕ) where
  ask_last : (b : List ℕ) (whole : Outcome) → whole ≡ in_turn (steps current (all (stands t at))) b → strip (stands t at) ≡ nothing → outcome 0 b ≡ whole
  ask_last b whole inv e = nothing_asked b ∙ sym (inv ∙ ap (λ (cs : List Command). in_turn (steps current cs) b) (gathered_last [] ◌++◌ all one w t at e))

  module _ (n : ℕ) (name : List ℕ) (inner after : ℕ) (f : First t n at name inner after) (b : List ℕ) (whole : Outcome)
      (inv : whole ≡ in_turn (steps current (all (stands t at))) b) (b' : List ℕ) where
    parted : whole ≡ in_turn (steps current (one name (stands t inner) ++ all (stands t after))) b
    parted = inv ∙ ap (λ (cs : List Command). in_turn (steps current cs) b) (gathered_next [] ◌++◌ all one w t at n name inner after f)

    ask_refused : (r : Refusal) → outcome (number r) b' ≡ in_turn (steps current (one name (stands t inner))) b → outcome (number r) b' ≡ whole
    ask_refused r o = refused_first (one name (stands t inner)) (all (stands t after)) b b' r o ∙ sym parted

    ask_next : outcome 0 b' ≡ in_turn (steps current (one name (stands t inner))) b → whole ≡ in_turn (steps current (all (stands t after))) b'
    ask_next o = parted ∙ sym (done_first (one name (stands t inner)) (all (stands t after)) b b' o)

module _ (get : Get) (cells : Cells) where
  module _ (marked : Bool) where
    reserved_asked : (way : List (List ℕ)) → Asked (reserved_commands get cells marked way) (λ name c. marked_or_not get cells marked (record { way = way ++ (name ∷ []); content = c }))
    unfolding reserved_commands
    reserved_asked way = record { on_nothing = refl; on_property = λ at value c. refl; on_node = λ name inner c. refl }

    module _ (t : Trees) (outer : List ℕ) (at : ℕ) where
      pub reserved_done : (b : List ℕ) (whole : Outcome) → whole ≡ in_turn (steps current (reserved_commands get cells marked (outer ∷ []) (stands t at))) b
          → strip (stands t at) ≡ nothing → outcome 0 b ≡ whole
      reserved_done = ask_last _ _ (reserved_asked (outer ∷ [])) t at

      module _ (y : v.Node) (after : ℕ) (f : FirstBelow t outer at y after) (b : List ℕ) (whole : Outcome)
          (inv : whole ≡ in_turn (steps current (reserved_commands get cells marked (outer ∷ []) (stands t at))) b) (b' : List ℕ) where
        by_name : in_turn (steps current (marked_or_not get cells marked (node_at t y))) b
            ≡ in_turn (steps current (marked_or_not get cells marked (record { way = outer ∷ f.name ∷ []; content = stands t y.at }))) b
        by_name = rw f.way refl

        pub reserved_refused : (r : Refusal) → outcome (number r) b' ≡ in_turn (steps current (marked_or_not get cells marked (node_at t y))) b
            → outcome (number r) b' ≡ whole
        reserved_refused r o = ask_refused _ _ (reserved_asked (outer ∷ [])) t at 2 f.name y.at after f.first b whole inv b' r (o ∙ by_name)

        pub reserved_next : outcome 0 b' ≡ in_turn (steps current (marked_or_not get cells marked (node_at t y))) b
            → whole ≡ in_turn (steps current (reserved_commands get cells marked (outer ∷ []) (stands t after))) b'
        reserved_next o = ask_next _ _ (reserved_asked (outer ∷ [])) t at 2 f.name y.at after f.first b whole inv b' (o ∙ by_name)

  -- ---- the children of the root

  module _ (pass : Pass) where
    children_asked : Asked (children_commands get cells pass) (child_commands get cells pass)
    unfolding children_commands
    children_asked = record { on_nothing = refl; on_property = λ at value c. refl; on_node = λ name inner c. refl }

    module _ (t : Trees) (at : ℕ) where
      pub children_done : (b : List ℕ) (whole : Outcome) → whole ≡ in_turn (steps current (children_commands get cells pass (stands t at))) b
          → strip (stands t at) ≡ nothing → outcome 0 b ≡ whole
      children_done = ask_last _ _ children_asked t at

      module _ (y : Child) (after : ℕ) (f : FirstChild t at y after) (b : List ℕ) (whole : Outcome)
          (inv : whole ≡ in_turn (steps current (children_commands get cells pass (stands t at))) b) (b' : List ℕ) where
        pub children_refused : (r : Refusal) → outcome (number r) b' ≡ in_turn (steps current (child_commands get cells pass y.name.now (stands t y.at))) b
            → outcome (number r) b' ≡ whole
        children_refused = ask_refused _ _ children_asked t at 1 y.name.now y.at after f.first b whole inv b'

        pub children_next : outcome 0 b' ≡ in_turn (steps current (child_commands get cells pass y.name.now (stands t y.at))) b
            → whole ≡ in_turn (steps current (children_commands get cells pass (stands t after))) b'
        children_next = ask_next _ _ children_asked t at 1 y.name.now y.at after f.first b whole inv b'

  -- ---- the four passes

  module _ (list : List ℕ) (c : Content) (b : List ℕ) where
    abbrev listed : List Command
    listed = on_ranges Reserve (before_end (pairs (length list / 16) list))

    pub memory_refused : (b₁ : List ℕ) (r : Refusal) → outcome (number r) b₁ ≡ in_turn (steps current (children_commands get cells Memory c)) b
        → outcome (number r) b₁ ≡ in_turn (steps current (turns get cells list c)) b
    unfolding turns
    memory_refused = refused_first (children_commands get cells Memory c) _ b

    module _ (b₁ : List ℕ) (o : outcome 0 b₁ ≡ in_turn (steps current (children_commands get cells Memory c)) b) where
      pub memory_good : good current b ≡ true → good current b₁ ≡ true
      memory_good g = turn_good (children_commands get cells Memory c) b g 0 b₁ o

      after_memory : in_turn (steps current (listed ++ (children_commands get cells Reserved c ++ children_commands get cells Marked c))) b₁ ≡ in_turn (steps current (turns get cells list c)) b
      unfolding turns
      after_memory = done_first (children_commands get cells Memory c) _ b b₁ o

      pub list_refused : (b₂ : List ℕ) (r : Refusal) → outcome (number r) b₂ ≡ in_turn (steps current (on_ranges Reserve (before_end (pairs (length list / 16) list)))) b₁
          → outcome (number r) b₂ ≡ in_turn (steps current (turns get cells list c)) b
      list_refused b₂ r p = refused_first listed _ b₁ b₂ r p ∙ after_memory

      module _ (b₂ : List ℕ) (p : outcome 0 b₂ ≡ in_turn (steps current (on_ranges Reserve (before_end (pairs (length list / 16) list)))) b₁) where
        pub list_good : good current b ≡ true → good current b₂ ≡ true
        list_good g = turn_good listed b₁ (memory_good g) 0 b₂ p

        after_list : in_turn (steps current (children_commands get cells Reserved c ++ children_commands get cells Marked c)) b₂ ≡ in_turn (steps current (turns get cells list c)) b
        after_list = done_first listed _ b₁ b₂ p ∙ after_memory

        pub reservations_refused : (b₃ : List ℕ) (r : Refusal) → outcome (number r) b₃ ≡ in_turn (steps current (children_commands get cells Reserved c)) b₂
            → outcome (number r) b₃ ≡ in_turn (steps current (turns get cells list c)) b
        reservations_refused b₃ r q = refused_first (children_commands get cells Reserved c) _ b₂ b₃ r q ∙ after_list

        module _ (b₃ : List ℕ) (q : outcome 0 b₃ ≡ in_turn (steps current (children_commands get cells Reserved c)) b₂) where
          pub reservations_good : good current b ≡ true → good current b₃ ≡ true
          reservations_good g = turn_good (children_commands get cells Reserved c) b₂ (list_good g) 0 b₃ q

          pub marks_last : (w : Outcome) → w ≡ in_turn (steps current (children_commands get cells Marked c)) b₃ → w ≡ in_turn (steps current (turns get cells list c)) b
          marks_last w k = k ∙ done_first (children_commands get cells Reserved c) _ b₂ b₃ q ∙ after_list

-- ---- whole or not at all

pub left_all_done : (cs : List Command) (b : List ℕ) (x : Answer) (d : List ℕ) → outcome (answered x) d ≡ in_turn (steps current cs) b → is_err x ≡ false
    → outcome (answered x) d ≡ wholly (steps current cs) b
left_all_done cs b (Ok u) d o e = left_done (steps current cs) b 0 d o refl
left_all_done cs b (Err r) d o e = absurd (false≢true (sym e))

-- the whole block was kept, and is put back
pub put_all_back : (get : Get) (cells : Cells) (list : List ℕ) (c : Content) (b : List ℕ) → good current b ≡ true → (x : Answer) (d : List ℕ)
    → outcome (answered x) d ≡ in_turn (steps current (turns get cells list c)) b → is_err x ≡ true → (z k e : List ℕ) → length z ≡ 15440
    → k ≡ take 15440 b ++ drop 15440 z → e ≡ take 15440 k ++ drop 15440 d → outcome (answered x) e ≡ wholly (steps current (turns get cells list c)) b
put_all_back get cells list c b g (Ok u) d o h = absurd (false≢true h)
put_all_back get cells list c b g (Err r) d o h =
    let cs = turns get cells list c in
    let m = good_length current b g in
    let n = good_length current (in_turn (steps current cs) b).block (commands_good cs b g) in
    let y : length b ≤ 15440 = omega (arith, m) in
    let w : length (in_turn (steps current cs) b).block ≤ 15440 = omega (arith, n) in
    put_back (steps current cs) b (number r) d o (refusal_some r) 15440 (omega (arith, m))
    (drop_of_length-le (in_turn (steps current cs) b).block w ∙ sym (drop_of_length-le b y))
