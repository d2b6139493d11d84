-- `tree::reader::Structure::read_stop` meets its contract.
use Rattle.tree.proofs.Reading.{stop_over, stop_nop, stop_stop, stop_other}
use borrow.Author.Rules.{rules}
use Rattle.tree.proofs.reader.Structure.read_stop.Goals as goal

pub loop-i-preserved : goal.loop-i-preserved
loop-i-preserved c = (search rules, search (stop_nop, rules))

pub returns-in-Stop : goal.returns-in-Stop
returns-in-Stop c = search (stop_stop, rules)

pub returns-in_default : goal.returns-in_default
returns-in_default c = search (stop_other, rules)

pub returns : goal.returns
returns c = search (stop_over, rules)
