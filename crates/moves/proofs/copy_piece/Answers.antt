-- `moves::copy_piece` meets its contract.
use Rattle.std.proofs.Common.{arith}
use Rattle.moves.proofs.Moving.{copied}
use Rattle.moves.proofs.copy_piece.Goals as goal

pub returns : goal.returns
returns g c =
    let a = c.args in
    copied g.row.N a.from a.to a.t.now _ _ (omega arith) (omega arith) c.copy_from_slice.ensures.after c.copy_from_slice-2.ensures.after
