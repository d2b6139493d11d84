-- `runs::bounds_low` meets its contract.
use Rattle.runs.proofs.Steps.{past_fits}
use borrow.Author.Rules.{rules}
use Rattle.runs.proofs.bounds_low.Goals as goal

pub of-requires : goal.of-requires
of-requires c = search (past_fits, rules)
