-- The commands that a board's tree asks for (E8), and what taking it in answers and leaves, for any bytes. Assumes nothing.
use Rattle.std.specs.Prelude.{ℕ, zero, suc, ◌+◌, ◌*◌, ◌/◌, Bool, ◌&&◌, not, List, [], ◌∷◌, ◌++◌, map, length, drop}
use Rattle.block.specs.declared.Layout.{Layout}
use Rattle.block.specs.Block.{good}
use Rattle.range.specs.Outcomes.{Outcome, unless, tag}
use Rattle.tables.specs.declared.commands.Verb.{Verb}
use Rattle.tables.specs.declared.commands.Verb.TheVariants.{Add, Mark, Reserve}
use Rattle.tables.specs.Commands.{Command, command}
use Rattle.intake.specs.Turns.{steps, wholly}
use Rattle.tree.specs.Words.{big}
use Rattle.tree.specs.Content.{Content}
use Rattle.tree.specs.Header.{Range, form, root, strings, reservations}
use Rattle.lookup.specs.Values.{Node, Value, absent, present}
use Rattle.values.specs.Names.{reg, numa_node_id, no_map}
use Rattle.values.specs.Values.{Get, own, has, number_or, those, joined, memories, reserved, a_cells, s_cells, values}

-- ---- ranges

-- n entries: an address of a cells, a size of s cells, of 4 bytes each
unfoldable pub entries : ℕ → ℕ → ℕ → List ℕ → List Range
entries zero a s l = []
entries (suc n) a s l = record { base = big 0 (4 * a) l; size = big 0 (4 * s) (drop (4 * a) l) } ∷ entries n a s (drop (4 * (a + s)) l)

abbrev pub ranges : ℕ → ℕ → Value → List Range
ranges a s absent = []
ranges a s (present v) = entries (length v / (4 * (a + s))) a s v

-- the same command on each range
abbrev pub on_ranges : Verb → List Range → List Command
on_ranges v rs = map (λ r. command v r.base r.size) rs

-- ---- the commands: of what is got of a node's properties, and of what stands in the root

module _ (get : Get) (top : Content) where
  -- on each range of a node's reg
  abbrev pub on_reg : Verb → Node → List Command
  on_reg v n = on_ranges v (ranges (a_cells get top) (s_cells get top) (get n reg))

  abbrev pub adds : List Command
  adds = joined (λ n. on_reg (Add (tag 0 (number_or 0 (get n numa_node_id)))) n) (memories get top)

  abbrev pub reserves : List Command
  reserves = joined (on_reg Reserve) (those (λ n. not (has (get n no_map))) (reserved get top))

  -- 4: no-map
  abbrev pub marks : List Command
  marks = joined (on_reg (Mark 4)) (those (λ n. has (get n no_map)) (reserved get top))

  -- memory first, then the list, then reserved children, then marks, each in tree order
  unfoldable pub commands : List Range → List Command
  commands list = adds ++ (on_ranges Reserve list ++ (reserves ++ marks))

-- ---- taking it in

-- number 11 is given exactly when this fails
unfoldable pub readable : List ℕ → Bool
readable tree = form tree && values (own (strings tree)) (root tree)

unfoldable pub asks : List ℕ → List Command
asks tree = commands (own (strings tree)) (root tree) (reservations tree)

-- the block is looked at first, then the tree, then its commands are done in turn; a refusal leaves the block as it was
unfoldable pub intake_tree : Layout → List ℕ → List ℕ → Outcome
intake_tree L tree b = unless (good L b) 1 b (unless (readable tree) 11 b (wholly (steps L (asks tree)) b))
