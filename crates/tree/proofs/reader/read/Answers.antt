-- `tree::reader::read` meets its contract.
use mathlib.Core.Path.{refl, sym, ◌∙◌}
use Rattle.tree.proofs.Reading.{no_root, root_refused, root_past, root_is}
use borrow.Author.Rules.{rules}
use Rattle.tree.proofs.reader.read.Goals as goal

pub returns-in_err-root : goal.returns-in_err-root
returns-in_err-root c = rw c.from_residual.ensures (search (no_root, rules))

pub returns-in_err-end : goal.returns-in_err-end
returns-in_err-end c = rw c.from_residual-in_err-end.ensures (search (root_refused, rules))

pub returns-then-read_stop : goal.returns-then-read_stop
returns-then-read_stop c =
    let f =
    root_past _ _ c.names_in.ensures _ _ c.root_at.ensures _ c.in_ok-root.was _ c.read_node.ensures _ c.in_ok-end.was
    ∙ sym c.read_stop.ensures ∙ c.if-read_stop.true in
    (f, root_is _ _ c.names_in.ensures _ _ c.root_at.ensures _ c.in_ok-root.was f _ refl refl refl refl)

pub returns-else-read_stop : goal.returns-else-read_stop
returns-else-read_stop c =
    root_past _ _ c.names_in.ensures _ _ c.root_at.ensures _ c.in_ok-root.was _ c.read_node.ensures _ c.in_ok-end.was
    ∙ sym c.read_stop.ensures ∙ c.if-read_stop.false
