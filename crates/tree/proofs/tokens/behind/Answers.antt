-- `tree::tokens::behind` meets its contract.
use Rattle.tree.proofs.Stepping.{behind_short, behind_whole}
use borrow.Author.Rules.{rules}
use Rattle.tree.proofs.tokens.behind.Goals as goal

pub returns-then-len-end : goal.returns-then-len-end
returns-then-len-end c = search (behind_short, rules)

pub returns : goal.returns
returns c = search (behind_whole, rules)
