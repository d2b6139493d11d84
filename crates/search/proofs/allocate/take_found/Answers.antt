-- `search::allocate::take_found` meets its contract.
use Rattle.std.proofs.lemmas.Result.{err_from_is_err_and}
use Rattle.refusals.proofs.Numbering.{number_some}
use Rattle.search.proofs.Allocating.{taken_full}
use Rattle.search.proofs.allocate.take_found.Goals as goal

pub returns-in_err-fill_range : goal.returns-in_err-fill_range
returns-in_err-fill_range c =
    let p = err_from_is_err_and c.from_residual.result c.from_residual.ensures.1 in
    rw (p.1, p.2) (taken_full _ _ _ _ _ _ c.in_err-fill_range.ensures _ c.requires.zero (number_some _))
