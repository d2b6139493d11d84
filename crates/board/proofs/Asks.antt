-- The commands that a tree asks for, node by node: the root's children gone through once for each pass. Assumes nothing.
use Prim.Native.Nat.{ℕ, ◌/◌}
use mathlib.Core.Path.{◌≡◌, refl, sym, ap, ◌∙◌}
use mathlib.Core.Bool.{Bool, true, false, cond, not}
use mathlib.Core.List.{List, [], ◌∷◌, ◌++◌, append_assoc}
use lib.ListN.{length}
use Rattle.range.specs.Outcomes.{tag}
use Rattle.tables.specs.declared.commands.Verb.TheVariants.{Add, Mark, Reserve}
use Rattle.tables.specs.Commands.{Command}
use Rattle.tree.specs.Content.{Content, nothing, property, node}
use Rattle.tree.specs.Header.{Range, pairs, before_end}
use Rattle.lookup.specs.Values.{same, path, Node, children_in, children}
use Rattle.board.specs.declared.ranges.Cells.{Cells}
use Rattle.board.specs.declared.taking.Pass.TheVariants.{Memory, Reserved, Marked}
use Rattle.values.specs.Names.{device_type, memory, reg, numa_node_id, reserved_memory, no_map}
use Rattle.values.specs.Values.{Get, is, has, number_or, those, joined, a_cells, s_cells}
use Rattle.board.specs.Board.{ranges, commands, on_ranges}
use Rattle.values.proofs.OneByOne.{joined_first, by_name}
use Rattle.board.specs.Steps.{reg_commands, memory_commands, marked_or_not, reserved_commands, child_commands, children_commands, turns}

-- ---- lists of nodes in two parts

those_both : (p : Node → Bool) (xs ys : List Node) → those p (xs ++ ys) ≡ those p xs ++ those p ys
unfolding those
those_both p [] ys = refl
those_both p (x ∷ xs) ys = go (p x) (those_both p xs ys)
  where
    go : (t : Bool) → those p (xs ++ ys) ≡ those p xs ++ those p ys → cond t (x ∷ those p (xs ++ ys)) (those p (xs ++ ys)) ≡ cond t (x ∷ those p xs) (those p xs) ++ those p ys
    go true e = ap (λ (ns : List Node). x ∷ ns) e
    go false e = e

joined_both : {A : Type 0} (f : Node → List A) (xs ys : List Node) → joined f (xs ++ ys) ≡ joined f xs ++ joined f ys
unfolding joined
joined_both f [] ys = refl
joined_both f (x ∷ xs) ys = ap (λ l. f x ++ l) (joined_both f xs ys) ∙ sym (append_assoc (f x) (joined f xs) (joined f ys))

module _ (get : Get) where
  abbrev is_memory : Node → Bool
  is_memory n = is memory (get n device_type)

  abbrev is_reserved : Node → Bool
  is_reserved n = same (path n.way) (47 ∷ reserved_memory)

  module _ (cells : Cells) where
    abbrev add_reg : Node → List Command
    add_reg n = reg_commands get cells (Add (tag 0 (number_or 0 (get n numa_node_id)))) n

    memory_commands_lem : (c : Content) → joined add_reg (those is_memory (children_in [] c)) ≡ children_commands get cells Memory c
    unfolding those joined children_in children_commands child_commands memory_commands
    memory_commands_lem nothing = refl
    memory_commands_lem (property at value c) = memory_commands_lem c
    memory_commands_lem (node name inner c) =
        joined_first add_reg (is_memory (record { way = name ∷ []; content = inner })) (record { way = name ∷ []; content = inner }) (those is_memory (children_in [] c))
        ∙ ap (λ (l : List Command). memory_commands get cells (record { way = name ∷ []; content = inner }) ++ l) (memory_commands_lem c)

    -- those with no-map are marked, the others reserved
    abbrev taken : Bool → Node → Bool
    taken true n = has (get n no_map)
    taken false n = not (has (get n no_map))

    abbrev by_mark : Bool → Node → List Command
    by_mark true n = reg_commands get cells (Mark 4) n
    by_mark false n = reg_commands get cells Reserve n

    mark_or_not : (marked : Bool) (n : Node) → cond (taken marked n) (by_mark marked n) [] ≡ marked_or_not get cells marked n
    unfolding marked_or_not
    mark_or_not true n = refl
    mark_or_not false n = refl

    reserved_commands_lem : (marked : Bool) (way : List (List ℕ)) (c : Content) → joined (by_mark marked) (those (taken marked) (children_in way c)) ≡ reserved_commands get cells marked way c
    unfolding those joined children_in reserved_commands
    reserved_commands_lem marked way nothing = refl
    reserved_commands_lem marked way (property at value c) = reserved_commands_lem marked way c
    reserved_commands_lem marked way (node name inner c) =
        joined_first (by_mark marked) (taken marked (record { way = way ++ (name ∷ []); content = inner })) (record { way = way ++ (name ∷ []); content = inner }) (those (taken marked) (children_in way c))
        ∙ rw (mark_or_not marked (record { way = way ++ (name ∷ []); content = inner })) (ap (λ (l : List Command). marked_or_not get cells marked (record { way = way ++ (name ∷ []); content = inner }) ++ l) (reserved_commands_lem marked way c))

    module _ (marked : Bool) where
      abbrev all_of : List Node → List Command
      all_of ns = joined (by_mark marked) (those (taken marked) ns)

      all_both : (xs ys : List Node) → all_of (xs ++ ys) ≡ all_of xs ++ all_of ys
      all_both xs ys = ap (λ (ns : List Node). joined (by_mark marked) ns) (those_both (taken marked) xs ys) ∙ joined_both (by_mark marked) (those (taken marked) xs) (those (taken marked) ys)

      all_if : (q : Bool) (n : Node) → all_of (cond q (children n) []) ≡ cond q (reserved_commands get cells marked n.way n.content) []
      unfolding joined those
      all_if true n = reserved_commands_lem marked n.way n.content
      all_if false n = refl

      child_commands_lem : (n : Node) (rs : List Node) → all_of (joined children (cond (is_reserved n) (n ∷ rs) rs))
          ≡ cond (is_reserved n) (reserved_commands get cells marked n.way n.content) [] ++ all_of (joined children rs)
      child_commands_lem n rs =
          ap all_of (joined_first children (is_reserved n) n rs) ∙ all_both (cond (is_reserved n) (children n) []) (joined children rs)
          ∙ ap (λ (l : List Command). l ++ all_of (joined children rs)) (all_if (is_reserved n) n)

    reservations : (c : Content) → all_of false (joined children (those is_reserved (children_in [] c))) ≡ children_commands get cells Reserved c
    unfolding those joined children_in children_commands child_commands
    reservations nothing = refl
    reservations (property at value c) = reservations c
    reservations (node name inner c) =
        child_commands_lem false (record { way = name ∷ []; content = inner }) (those is_reserved (children_in [] c)) ∙ rw (by_name name, reservations c) refl

    marks : (c : Content) → all_of true (joined children (those is_reserved (children_in [] c))) ≡ children_commands get cells Marked c
    unfolding those joined children_in children_commands child_commands
    marks nothing = refl
    marks (property at value c) = marks c
    marks (node name inner c) =
        child_commands_lem true (record { way = name ∷ []; content = inner }) (those is_reserved (children_in [] c)) ∙ rw (by_name name, marks c) refl

    -- the commands with other cells
    abbrev with_cells : ℕ → ℕ → List Range → Content → List Command
    with_cells a s list top =
        joined (λ n. on_ranges (Add (tag 0 (number_or 0 (get n numa_node_id)))) (ranges a s (get n reg))) (those is_memory (children_in [] top))
        ++ (on_ranges Reserve list
        ++ (joined (λ n. on_ranges Reserve (ranges a s (get n reg))) (those (taken false) (joined children (those is_reserved (children_in [] top))))
        ++ joined (λ n. on_ranges (Mark 4) (ranges a s (get n reg))) (those (taken true) (joined children (those is_reserved (children_in [] top))))))

    all_commands : (list : List Range) (top : Content) → with_cells cells.address cells.size list top
        ≡ children_commands get cells Memory top ++ (on_ranges Reserve list ++ (children_commands get cells Reserved top ++ children_commands get cells Marked top))
    all_commands list top =
        ap (λ (l : List Command). l ++ (on_ranges Reserve list ++ (all_of false rs ++ all_of true rs))) (memory_commands_lem top)
        ∙ ap (λ (l : List Command). children_commands get cells Memory top ++ (on_ranges Reserve list ++ (l ++ all_of true rs))) (reservations top)
        ∙ ap (λ (l : List Command). children_commands get cells Memory top ++ (on_ranges Reserve list ++ (children_commands get cells Reserved top ++ l))) (marks top)
      where
        rs : List Node
        rs = joined children (those is_reserved (children_in [] top))

    pub commands_are : (top : Content) → cells.address ≡ a_cells get top → cells.size ≡ s_cells get top → (list : List ℕ)
        → commands get top (before_end (pairs (length list / 16) list)) ≡ turns get cells list top
    unfolding commands turns
    commands_are top a s list =
        (λ i. with_cells (sym a i) (sym s i) (before_end (pairs (length list / 16) list)) top) ∙ all_commands (before_end (pairs (length list / 16) list)) top
