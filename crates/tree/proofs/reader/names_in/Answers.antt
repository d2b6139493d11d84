-- `tree::reader::names_in` meets its contract.
use Rattle.tree.proofs.Names.{names_hit, names_again, names_none}
use borrow.Author.Rules.{rules}
use Rattle.tree.proofs.reader.names_in.Goals as goal

pub returns-then-strings-i-eq0 : goal.returns-then-strings-i-eq0
returns-then-strings-i-eq0 c = search (names_hit, rules)

pub loop-i-preserved : goal.loop-i-preserved
loop-i-preserved c = search (names_again, rules)

pub returns : goal.returns
returns c = search (names_none, rules)
