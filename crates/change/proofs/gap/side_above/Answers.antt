-- `change::gap::side_above` meets its contract.
use Rattle.change.proofs.Filling.{over_end, over_apart, over_tag, over_past, over_grown}
use borrow.Author.Rules.{rules}
use Rattle.change.proofs.gap.side_above.Goals.{then-ne-via-then-ne, then-ne-via-else-ne+then-ne-2}
use Rattle.change.proofs.gap.side_above.Goals as goal

pub returns-then-t-i : goal.returns-then-t-i
returns-then-t-i c = search (over_end, rules)

pub returns-then-ne : goal.returns-then-ne
returns-then-ne c =
    elim c.then-ne.branch [
      | then-ne-via-then-ne w ↦ search (over_apart, rules)
      | then-ne-via-else-ne+then-ne-2 w ↦ search (over_tag, rules)
    ]

pub returns-in_default : goal.returns-in_default
returns-in_default c = search (over_past, rules)

pub returns : goal.returns
returns c = search (over_grown, rules)
