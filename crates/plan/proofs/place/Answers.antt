-- `plan::place` meets its contract.
use Rattle.std.proofs.lemmas.Result.{err_from_is_err_and}
use Rattle.plan.proofs.Whole.{told_begun, begun_good, begun_few, told_fault, told_apart, told_reserved}
use borrow.Author.Rules.{rules}
use Rattle.plan.proofs.place.Goals as goal

pub returns-in_err-begin : goal.returns-in_err-begin
returns-in_err-begin g c = search (told_begun, rules)

pub judge_all-requires-clause-good : goal.judge_all-requires-clause-good
judge_all-requires-clause-good g c = search (begun_good, rules)

pub judge_all-requires-clause-few : goal.judge_all-requires-clause-few
judge_all-requires-clause-few g c = search (begun_few, rules)

pub returns-in_err-seen : goal.returns-in_err-seen
returns-in_err-seen g c = search (told_fault, rules)

pub reserve_all-requires-clause-good : goal.reserve_all-requires-clause-good
reserve_all-requires-clause-good g c = search (begun_good, rules)

pub reserve_all-requires-clause-apart : goal.reserve_all-requires-clause-apart
reserve_all-requires-clause-apart g c = search (told_apart, rules)

pub returns-in_err-reserve_all : goal.returns-in_err-reserve_all
returns-in_err-reserve_all g c =
    let p = err_from_is_err_and c.from_residual-in_err-reserve_all.result c.from_residual-in_err-reserve_all.ensures.1 in
    rw (p.1, p.2) (told_reserved _ _ _ c.count.ensures (search rules) c.in_ok-seen.seen (search rules) _ _ _ c.in_err-reserve_all.ensures c.as_slice.ensures.value)

pub returns : goal.returns
returns g c = told_reserved _ _ _ c.count.ensures (search rules) c.in_ok-seen.seen (search rules) _ _ _ c.in_ok-reserve_all.ensures c.as_slice.ensures.value
