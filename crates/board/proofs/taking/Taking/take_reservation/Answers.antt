-- `board::taking::Taking::take_reservation` meets its contract.
use Rattle.std.proofs.Common.{rules, ◌≡◌}
use Rattle.board.proofs.Passes.{not_taken, verb_of, is_taken}
use Rattle.board.proofs.taking.Taking.take_reservation.Goals as goal
use Rattle.board.proofs.taking.Taking.take_reservation.Goals.{then-marked, else-marked}

pub returns-then-has-marked : goal.returns-then-has-marked
returns-then-has-marked c = search (not_taken, rules)

pub returns : goal.returns
returns c =
    let v : c.if-marked.verb ≡ verb_of c.args.marked = elim c.if-marked.branch [ then-marked w ↦ rw w.if-marked.true w.verb-is | else-marked w ↦ rw w.if-marked.false w.verb-is ] in
    search (is_taken, rules, v)
