-- `search::find::next_free` meets its contract.
use Rattle.std.proofs.Common.{refl}
use Rattle.std.proofs.lemmas.Result.{err_from_is_err_and}
use Rattle.refusals.proofs.Numbering.{number_some}
use Rattle.search.proofs.Answering.{next_refused, next_told}
use Rattle.search.proofs.find.next_free.Goals as goal

pub returns-in_err-begin : goal.returns-in_err-begin
returns-in_err-begin c =
    let p = err_from_is_err_and c.from_residual.result c.from_residual.ensures.1 in
    rw (p.1, p.2) (next_refused _ _ _ _ _ _ c.next_query.ensures _ _ c.in_err-begin.ensures (number_some _))

pub returns : goal.returns
returns c = next_told _ _ _ _ _ _ c.next_query.ensures _ _ c.in_ok-begin.ensures refl _ c.next_in.ensures _ _ c.tell.ensures
