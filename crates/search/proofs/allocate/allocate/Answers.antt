-- `search::allocate::allocate` meets its contract.
use Rattle.std.proofs.Common.{rules, refl}
use Rattle.std.proofs.lemmas.Result.{err_from_is_err_and}
use Rattle.refusals.proofs.Numbering.{number_some}
use Rattle.search.proofs.Answering.{begun_ready, still_zero}
use Rattle.search.proofs.Allocating.{allocate_refused, allocate_none, found_reservable, allocate_some}
use Rattle.search.proofs.allocate.allocate.Goals as goal

pub returns-in_err-begin : goal.returns-in_err-begin
returns-in_err-begin c =
    let p = err_from_is_err_and c.from_residual.result c.from_residual.ensures.1 in
    rw (p.1, p.2) (allocate_refused _ _ _ _ _ c.in_err-begin.ensures (number_some _))

pub returns-in_default : goal.returns-in_default
returns-in_default c = allocate_none _ _ _ _ _ c.in_ok-begin.ensures refl _ c.find_in.ensures (search rules)

pub take_found-requires : goal.take_found-requires
take_found-requires c =
    found_reservable _ _ (search (begun_ready, rules)) _ c.find_in.ensures c.in-Some.spot (search rules) _ (search (still_zero, rules))

pub returns : goal.returns
returns c = allocate_some _ _ _ _ _ c.in_ok-begin.ensures refl _ c.find_in.ensures c.in-Some.spot (search rules) _ c.take_found.ensures
