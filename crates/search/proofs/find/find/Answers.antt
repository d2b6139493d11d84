-- `search::find::find` meets its contract.
use Rattle.std.proofs.Common.{refl}
use Rattle.std.proofs.lemmas.Result.{err_from_is_err_and}
use Rattle.refusals.proofs.Numbering.{number_some}
use Rattle.search.proofs.Answering.{find_refused, find_told}
use Rattle.search.proofs.find.find.Goals as goal

pub returns-in_err-begin : goal.returns-in_err-begin
returns-in_err-begin c =
    let p = err_from_is_err_and c.from_residual.result c.from_residual.ensures.1 in
    rw (p.1, p.2) (find_refused _ _ _ _ _ c.in_err-begin.ensures (number_some _))

pub returns : goal.returns
returns c = find_told _ _ _ _ _ c.in_ok-begin.ensures refl _ c.find_in.ensures _ _ c.tell.ensures
