-- `tables::commands::on_range` meets its contract.
use Rattle.tables.proofs.Commanding.{command_bad, command_tag}
use borrow.Author.Rules.{rules}
use Rattle.tables.proofs.commands.on_range.Goals as goal

pub returns-then-not-block_good : goal.returns-then-not-block_good
returns-then-not-block_good c = search (command_bad, rules)

pub returns-then-not-legal : goal.returns-then-not-legal
returns-then-not-legal c = search (command_tag, rules)
