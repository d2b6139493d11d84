-- `values::Trees::own` meets its contract.
use Rattle.std.proofs.Common.{rules}
use Rattle.values.proofs.Corrections.{own_part}
use Rattle.values.proofs.Trees.own.Goals as goal

pub returns : goal.returns
returns c = search (own_part, rules)
