-- `tree::reader::Structure::begin_at` meets its contract.
use Rattle.tree.proofs.Stepping.{begin_broken, begin_whole}
use borrow.Author.Rules.{rules}
use Rattle.tree.proofs.reader.Structure.begin_at.Goals as goal

pub returns-in_default : goal.returns-in_default
returns-in_default c = rw c.broken.ensures (search (begin_broken, rules))

pub returns : goal.returns
returns c = search (begin_whole, rules)
