-- `runs::ended` meets its contract.
use Rattle.runs.proofs.Steps.{ended_none, ended_above}
use borrow.Author.Rules.{rules}
use Rattle.runs.proofs.ended.Goals as goal
use Rattle.runs.proofs.ended.Goals.{then-t-eq0-via-then-t-eq0, then-t-eq0-via-else-t-eq0+then-not-ends_by}

pub returns-then-t-eq0 : goal.returns-then-t-eq0
returns-then-t-eq0 c =
    elim c.then-t-eq0.branch [
      | then-t-eq0-via-then-t-eq0 w ↦ search (ended_none, rules)
      | then-t-eq0-via-else-t-eq0+then-not-ends_by w ↦ search (ended_above, rules)
    ]
