-- `lookup::find_property` meets its contract.
use Rattle.lookup.proofs.Finding.{find_hit, find_next, find_nop, find_over, find_other}
use borrow.Author.Rules.{rules}
use Rattle.lookup.proofs.find_property.Goals as goal

pub returns-then-is_named : goal.returns-then-is_named
returns-then-is_named c = search (find_hit, rules)

pub loop-i-preserved-in-Property : goal.loop-i-preserved-in-Property
loop-i-preserved-in-Property c = (search rules, search (find_next, rules))

pub loop-i-preserved : goal.loop-i-preserved
loop-i-preserved c = (search rules, search (find_nop, rules))

pub returns-in_default : goal.returns-in_default
returns-in_default c = search (find_other, rules)

pub returns : goal.returns
returns c = search (find_over, rules)
