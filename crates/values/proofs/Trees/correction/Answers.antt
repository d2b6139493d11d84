-- `values::Trees::correction` meets its contract.
use Rattle.std.proofs.Common.{rules}
use Rattle.values.proofs.Corrections.{correction_part}
use Rattle.values.proofs.Trees.correction.Goals as goal

pub returns : goal.returns
returns c = search (correction_part, rules)
