-- `plan::judge` meets its contract.
use Rattle.plan.proofs.Judging.{judged_fails, judged_ends, judged_shares, judged_passes}
use borrow.Author.Rules.{rules}
use Rattle.plan.proofs.judge.Goals as goal

pub returns-then-not-passes : goal.returns-then-not-passes
returns-then-not-passes c = search (judged_fails, rules)

pub add-end-requires : goal.add-end-requires
add-end-requires c = search (judged_ends, rules)

pub returns-then-shares_any : goal.returns-then-shares_any
returns-then-shares_any c = search (judged_shares, rules)

pub returns : goal.returns
returns c = search (judged_passes, rules)
