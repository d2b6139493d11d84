-- `lists::Built::push_stretch` meets its contract.
use Rattle.std.proofs.Common.{arith}
use Rattle.lists.proofs.Pushing.{became_count, first_full, second_full, third_holds}
use Rattle.lists.proofs.Built.push_stretch.Goals as goal

pub returns-in_err-push_piece : goal.returns-in_err-push_piece
returns-in_err-push_piece c =
    let w = c.within-inside.ensures in
    first_full _ _ _ _ _ _ _ _ _ _ w.0 w.1 _ c.push_piece.ensures c.in_err-push_piece.was _ c.from_residual.ensures

pub push_piece-requires-2 : goal.push_piece-requires-2
push_piece-requires-2 c =
    let e = c.push_piece.ensures in
    let w = c.within-inside.ensures in
    (omega (arith, e.long, became_count _ _ _ _ e _ c.in_ok-push_piece.was), omega (arith, c.requires.1.1.0.low, w.0, w.1))

pub returns-in_err-push_piece-2 : goal.returns-in_err-push_piece-2
returns-in_err-push_piece-2 c =
    let w = c.within-inside.ensures in
    second_full _ _ _ _ _ _ _ _ _ _ w.0 w.1 _ c.push_piece.ensures _ c.in_ok-push_piece.was _ c.apply.ensures _ _ c.push_piece-2.ensures
    c.in_err-push_piece-2.was _ c.from_residual-in_err-push_piece-2.ensures

pub push_piece-requires-3 : goal.push_piece-requires-3
push_piece-requires-3 c =
    let e = c.push_piece-2.ensures in
    (omega (arith, e.long, became_count _ _ _ _ e _ c.in_ok-push_piece-2.was), omega (arith, c.requires.1.0, c.within-inside.ensures.1))

pub returns : goal.returns
returns c =
    let w = c.within-inside.ensures in
    third_holds _ _ _ _ _ _ _ _ _ _ w.0 w.1 _ c.push_piece.ensures _ c.in_ok-push_piece.was _ c.apply.ensures _ _ c.push_piece-2.ensures
    _ c.in_ok-push_piece-2.was _ _ c.push_piece-3.ensures
