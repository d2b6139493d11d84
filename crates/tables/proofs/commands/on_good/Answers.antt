-- `tables::commands::on_good` meets its contract.
use Rattle.tables.proofs.Commanding.{command_changes}
use borrow.Author.Rules.{rules}
use Rattle.tables.proofs.commands.on_good.Goals as goal

pub returns : goal.returns
returns c = search (command_changes, rules)
