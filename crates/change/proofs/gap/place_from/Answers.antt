-- `change::gap::place_from` meets its contract.
use Rattle.change.proofs.Filling.{from_end, from_next, from_here}
use borrow.Author.Rules.{rules}
use Rattle.change.proofs.gap.place_from.Goals.{else-first-t-via-then-first-t+else-ends_by, else-first-t-via-else-first-t}
use Rattle.change.proofs.gap.place_from.Goals as goal

pub returns-then-ends_by : goal.returns-then-ends_by
returns-then-ends_by c = search (from_next, rules)

pub returns : goal.returns
returns c =
    elim c.else-first-t.branch [
      | else-first-t-via-then-first-t+else-ends_by w ↦ search (from_here, rules)
      | else-first-t-via-else-first-t w ↦ search (from_end, rules)
    ]
