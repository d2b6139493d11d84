-- `values::Trees::reserved_ok` meets its contract.
use Rattle.std.proofs.Common.{rules}
use Rattle.values.proofs.Children.{reserved_last, reserved_bad, reserved_on}
use Rattle.values.proofs.Trees.reserved_ok.Goals as goal

pub returns-then-not-whole_reg : goal.returns-then-not-whole_reg
returns-then-not-whole_reg c = search (reserved_bad, rules)

pub loop-node-preserved : goal.loop-node-preserved
loop-node-preserved c = record { goes = search rules; same = search (reserved_on, rules) }

pub returns : goal.returns
returns c = search (reserved_last, rules)
