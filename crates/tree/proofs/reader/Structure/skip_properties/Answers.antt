-- `tree::reader::Structure::skip_properties` meets its contract.
use Rattle.tree.proofs.Reading.{pass_on, pass_over, pass_other}
use borrow.Author.Rules.{rules}
use Rattle.tree.proofs.reader.Structure.skip_properties.Goals as goal

pub loop-i-preserved : goal.loop-i-preserved
loop-i-preserved c = search (pass_on, rules)

pub returns-in_default : goal.returns-in_default
returns-in_default c = search (pass_other, rules)

pub returns : goal.returns
returns c = search (pass_over, rules)
