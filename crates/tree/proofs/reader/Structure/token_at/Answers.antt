-- `tree::reader::Structure::token_at` meets its contract.
use Rattle.tree.proofs.Stepping.{token_short, token_begin, token_property, token_plain}
use borrow.Author.Rules.{rules}
use Rattle.tree.proofs.reader.Structure.token_at.Goals as goal

pub returns-then-len-at-lt4 : goal.returns-then-len-at-lt4
returns-then-len-at-lt4 c = rw c.broken.ensures (search (token_short, rules))

pub returns-in-1 : goal.returns-in-1
returns-in-1 c = search (token_begin, rules)

pub returns-in-3 : goal.returns-in-3
returns-in-3 c = search (token_property, rules)

pub returns-in_default : goal.returns-in_default
returns-in_default c = search (token_plain, rules)
