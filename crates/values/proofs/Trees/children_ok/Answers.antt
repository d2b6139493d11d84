-- `values::Trees::children_ok` meets its contract.
use Rattle.std.proofs.Common.{rules}
use Rattle.values.proofs.Children.{children_last, children_bad, children_on}
use Rattle.values.proofs.Trees.children_ok.Goals as goal

pub returns-then-not-child_ok : goal.returns-then-not-child_ok
returns-then-not-child_ok c = search (children_bad, rules)

pub loop-child-preserved : goal.loop-child-preserved
loop-child-preserved c = record { goes = search rules; same = search (children_on, rules) }

pub returns : goal.returns
returns c = search (children_last, rules)
