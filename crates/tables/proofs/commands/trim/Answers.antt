-- `tables::commands::trim` meets its contract.
use Rattle.tables.proofs.Commanding.{trim_bad, trim_power}
use borrow.Author.Rules.{rules}
use Rattle.tables.proofs.commands.trim.Goals as goal

pub returns-then-not-block_good : goal.returns-then-not-block_good
returns-then-not-block_good c = search (trim_bad, rules)

pub returns-then-not-power_of_two : goal.returns-then-not-power_of_two
returns-then-not-power_of_two c = search (trim_power, rules)
