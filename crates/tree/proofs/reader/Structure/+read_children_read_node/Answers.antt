-- `read_node` and `read_children` meet their contracts.
use Rattle.std.proofs.Common.{◌≡◌, arith}
use Rattle.tree.proofs.Reading.{read_over, read_nop, read_end, read_deep, read_other, child_refused, child_past, node_read}
use Rattle.tree.proofs.Reading.{left_after_nop, left_after_child, step_on, past_on, past_within}
use borrow.Author.Rules.{rules}
use Rattle.tree.proofs.reader.Structure.+read_children_read_node.Goals as goal

pub read_children-loop-i-preserved-in-Nop : goal.read_children-loop-i-preserved-in-Nop
read_children-loop-i-preserved-in-Nop t c = (search (step_on, rules), (search rules, (search (read_nop, rules), search (left_after_nop, rules))))

pub read_children-returns-in-End : goal.read_children-returns-in-End
read_children-returns-in-End t c = search (read_end, rules)

pub read_children-returns-in_err-checked_sub-in-Begin : goal.read_children-returns-in_err-checked_sub-in-Begin
read_children-returns-in_err-checked_sub-in-Begin t c =
    let none : c.args.left ≡ 0 = omega (arith, c.in_err-checked_sub-in-Begin.ensures) in
    rw c.from_residual.ensures (search (read_deep, rules))

pub read_children-returns-in_err-i-in-Begin : goal.read_children-returns-in_err-i-in-Begin
read_children-returns-in_err-i-in-Begin t c =
    let some : c.args.left ≡ 0 → ⊥ = λ z. omega (arith, c.in_ok-checked_sub-in-Begin.ensures.0) in
    let child = rw c.in_ok-checked_sub-in-Begin.ensures.1 at c.read_node.ensures in
    rw c.from_residual-in_err-i-in-Begin.ensures (search (child_refused, rules))

pub read_children-loop-i-preserved : goal.read_children-loop-i-preserved
read_children-loop-i-preserved t c =
    let some : c.args.left ≡ 0 → ⊥ = λ z. omega (arith, c.in_ok-checked_sub-in-Begin.ensures.0) in
    let child = rw c.in_ok-checked_sub-in-Begin.ensures.1 at c.read_node.ensures in
    (search (past_on, rules), (search (past_within, rules), (search (child_past, rules), search (left_after_child, rules))))

pub read_children-returns-in_default : goal.read_children-returns-in_default
read_children-returns-in_default t c = search (read_other, rules)

pub read_children-returns : goal.read_children-returns
read_children-returns t c = search (read_over, rules)

pub read_node-returns : goal.read_node-returns
read_node-returns t c = search (node_read, rules)
