-- `change::gap::gap_of` meets its contract.
use Rattle.records.proofs.Placing.{place_le}
use borrow.Author.Rules.{rules}
use Rattle.change.proofs.gap.gap_of.Goals as goal

pub clear_from-requires : goal.clear_from-requires
clear_from-requires c = search (place_le, rules)
