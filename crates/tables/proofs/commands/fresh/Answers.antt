-- `tables::commands::fresh` meets its contract.
use Rattle.tables.proofs.Setting.{fresh_refused, fresh_done}
use borrow.Author.Rules.{rules}
use Rattle.tables.proofs.commands.fresh.Goals as goal

pub returns-then-block-ne-LENGTH : goal.returns-then-block-ne-LENGTH
returns-then-block-ne-LENGTH c = search (fresh_refused, rules)

pub returns : goal.returns
returns c = search (fresh_done, rules)
