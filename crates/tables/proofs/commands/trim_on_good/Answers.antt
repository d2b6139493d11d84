-- `tables::commands::trim_on_good` meets its contract.
use Rattle.tables.proofs.Commanding.{trim_changes}
use borrow.Author.Rules.{rules}
use Rattle.tables.proofs.commands.trim_on_good.Goals as goal

pub returns : goal.returns
returns c = search (trim_changes, rules)
