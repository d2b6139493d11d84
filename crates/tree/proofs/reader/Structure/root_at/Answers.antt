-- `tree::reader::Structure::root_at` meets its contract.
use Rattle.tree.proofs.Reading.{root_over, root_nop, root_said, root_begin, root_other}
use borrow.Author.Rules.{rules}
use Rattle.tree.proofs.reader.Structure.root_at.Goals as goal

pub loop-i-preserved : goal.loop-i-preserved
loop-i-preserved c = (search rules, (search (root_nop, rules), search (root_said, rules)))

pub returns-in-Begin : goal.returns-in-Begin
returns-in-Begin c = search (root_begin, rules)

pub returns-in_default : goal.returns-in_default
returns-in_default c = search (root_other, rules)

pub returns : goal.returns
returns c = search (root_over, rules)
