-- `find_node` and `find_children`, which call each other, meet their contracts: the depth left falls.
use native.Mathlib.Omega.{arith}
use Prim.Native.Nat.{◌+◌, ◌≤◌}
use lib.ListN.{length}
use Rattle.tree.proofs.Following.{begin_within}
use Rattle.tree.proofs.Reading.{step_on, read_nop, left_after_nop, left_after_child, past_on, past_within, child_past}
use Rattle.paths.specs.Steps.{way_of}
use Rattle.paths.proofs.Seeking.{way_within, look_over, look_nop, look_end, look_deep, look_other, off_refused, off_past, on_break, on_past, on_rest, on_left, on_on, on_within, node_there, node_hit, node_none}
use borrow.Author.Rules.{rules}
use Rattle.paths.proofs.nodes.Search.+find_children_find_node.Goals.{find_node-then-here+in_default, find_node-else-here}
use Rattle.paths.proofs.nodes.Search.+find_children_find_node.Goals as goal

pub find_children-loop-i-preserved-in-Nop : goal.find_children-loop-i-preserved-in-Nop
find_children-loop-i-preserved-in-Nop t c = (search (step_on, rules), search rules, search (read_nop, rules), search (left_after_nop, rules), λ here. search (look_nop, rules))

pub find_children-returns-in-End : goal.find_children-returns-in-End
find_children-returns-in-End t c = λ here. search (look_end, rules)

pub find_children-returns-then-left-eq0 : goal.find_children-returns-then-left-eq0
find_children-returns-then-left-eq0 t c = λ here. search (look_deep, rules)

pub find_children-overflow_add-i-in-Begin-2 : goal.find_children-overflow_add-i-in-Begin-2
find_children-overflow_add-i-in-Begin-2 t c = search (begin_within, rules)

pub find_children-slice_bounds-goes_on-end : goal.find_children-slice_bounds-goes_on-end
find_children-slice_bounds-goes_on-end t c = search (begin_within, rules)

pub find_children-overflow_add-to : goal.find_children-overflow_add-to
find_children-overflow_add-to t c =
    let w : c.args.done + c.in-Begin.n + 1 ≤ length (way_of c.args.self.now.way) = search (way_within, rules) in
    omega (arith, w, c.args.self.now.fits)

pub find_children-overflow_add-to-then-goes_on : goal.find_children-overflow_add-to-then-goes_on
find_children-overflow_add-to-then-goes_on t c =
    let w : c.args.done + c.in-Begin.n + 1 ≤ length (way_of c.args.self.now.way) = search (way_within, rules) in
    omega (arith, w, c.args.self.now.fits)

pub find_children-find_node-requires : goal.find_children-find_node-requires
find_children-find_node-requires t c = (search rules, (search rules, search (way_within, rules), search rules))

pub find_children-returns-in_err-i-in-Begin : goal.find_children-returns-in_err-i-in-Begin
find_children-returns-in_err-i-in-Begin t c = λ here. rw c.from_residual.ensures (search (on_break, rules))

pub find_children-loop-i-preserved-then-goes_on : goal.find_children-loop-i-preserved-then-goes_on
find_children-loop-i-preserved-then-goes_on t c = (search (on_on, rules), search (on_within, rules), search (on_rest, rules), search (on_left, rules), λ here. search (on_past, rules))

pub find_children-returns-in_default-read_node : goal.find_children-returns-in_default-read_node
find_children-returns-in_default-read_node t c = λ here. search (off_refused, rules)

pub find_children-loop-i-preserved : goal.find_children-loop-i-preserved
find_children-loop-i-preserved t c = (search (past_on, rules), search (past_within, rules), search (child_past, rules), search (left_after_child, rules), λ here. search (off_past, rules))

pub find_children-returns-in_default : goal.find_children-returns-in_default
find_children-returns-in_default t c = λ here. search (look_other, rules)

pub find_children-returns : goal.find_children-returns
find_children-returns t c = λ here. search (look_over, rules)

pub find_node-returns-in-Some : goal.find_node-returns-in-Some
find_node-returns-in-Some t c = search (node_hit, rules)

pub find_node-returns : goal.find_node-returns
find_node-returns t c =
    elim c.if-here.branch [
      | find_node-then-here+in_default w ↦ search (node_none, rules)
      | find_node-else-here w ↦ search (node_there, rules)
    ]
