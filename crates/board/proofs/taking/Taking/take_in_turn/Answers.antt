-- `board::taking::Taking::take_in_turn` meets its contract.
use Rattle.std.proofs.lemmas.Result.{err_from_is_err_and}
use Rattle.board.proofs.Passes.{memory_good, list_good, reservations_good, memory_refused, list_refused, reservations_refused, marks_last}
use Rattle.board.proofs.taking.Taking.take_in_turn.Goals as goal

pub returns-in_err-take_children : goal.returns-in_err-take_children
returns-in_err-take_children c =
    let p = err_from_is_err_and c.from_residual.result c.from_residual.ensures.1 in
    rw (p.1, p.2) (memory_refused _ _ c.args.list.now _ _ _ _ c.in_err-take_children.ensures)

pub take_list-requires : goal.take_list-requires
take_list-requires c = memory_good _ _ c.args.list.now _ _ _ c.in_ok-take_children.ensures c.requires.0

pub returns-in_err-take_list : goal.returns-in_err-take_list
returns-in_err-take_list c =
    let p = err_from_is_err_and c.from_residual-in_err-take_list.result c.from_residual-in_err-take_list.ensures.1 in
    rw (p.1, p.2) (list_refused _ _ c.args.list.now _ _ _ c.in_ok-take_children.ensures _ _ c.in_err-take_list.ensures)

pub take_children-requires-2 : goal.take_children-requires-2
take_children-requires-2 c = (list_good _ _ c.args.list.now _ _ _ c.in_ok-take_children.ensures _ c.in_ok-take_list.ensures c.requires.0, c.requires.1)

pub returns-in_err-take_children-2 : goal.returns-in_err-take_children-2
returns-in_err-take_children-2 c =
    let p = err_from_is_err_and c.from_residual-in_err-take_children-2.result c.from_residual-in_err-take_children-2.ensures.1 in
    rw (p.1, p.2) (reservations_refused _ _ c.args.list.now _ _ _ c.in_ok-take_children.ensures _ c.in_ok-take_list.ensures _ _ c.in_err-take_children-2.ensures)

pub take_children-requires-3 : goal.take_children-requires-3
take_children-requires-3 c = (reservations_good _ _ c.args.list.now _ _ _ c.in_ok-take_children.ensures _ c.in_ok-take_list.ensures _ c.in_ok-take_children-2.ensures c.requires.0, c.requires.1)

pub returns : goal.returns
returns c = marks_last _ _ c.args.list.now _ _ _ c.in_ok-take_children.ensures _ c.in_ok-take_list.ensures _ c.in_ok-take_children-2.ensures _ c.take_children-3.ensures
