-- `change::gap::fill_table` meets its contract.
use Rattle.change.proofs.Filling.{vacant_gap}
use borrow.Author.Rules.{rules}
use Rattle.change.proofs.gap.fill_table.Goals as goal

pub fill_gap-requires : goal.fill_gap-requires
fill_gap-requires c = search (vacant_gap, rules)
