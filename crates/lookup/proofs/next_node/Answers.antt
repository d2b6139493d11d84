-- `lookup::next_node` meets its contract.
use Rattle.std.proofs.Common.{◌≡◌, arith}
use Rattle.lookup.proofs.Nodes.{near_other, near_deep, near_refused, near_node}
use borrow.Author.Rules.{rules}
use Rattle.lookup.proofs.next_node.Goals as goal

pub returns-in_default : goal.returns-in_default
returns-in_default c = search (near_other, rules)

pub returns-in_err-checked_sub : goal.returns-in_err-checked_sub
returns-in_err-checked_sub c =
    let none : c.args.left ≡ 0 = omega (arith, c.in_err-checked_sub.ensures) in
    rw c.from_residual.ensures (search (near_deep, rules))

pub returns-in_err-after : goal.returns-in_err-after
returns-in_err-after c =
    let some : c.args.left ≡ 0 → ⊥ = λ z. omega (arith, c.in_ok-checked_sub.ensures.0) in
    let child = rw c.in_ok-checked_sub.ensures.1 at c.read_node.ensures in
    rw c.from_residual-in_err-after.ensures (search (near_refused, rules))

pub returns : goal.returns
returns c =
    let some : c.args.left ≡ 0 → ⊥ = λ z. omega (arith, c.in_ok-checked_sub.ensures.0) in
    let child = rw c.in_ok-checked_sub.ensures.1 at c.read_node.ensures in
    near_node _ _ _ _ _ c.requires.1 c.requires.2 c.skip_properties-begins.ensures _ c.token_at-step.ensures _ c.in-Begin.is some _ child _ c.in_ok-after.was
