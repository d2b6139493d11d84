-- `runs::bounds_high` meets its contract.
use Rattle.fits.specs.declared.Way.TheVariants.{Down}
use Rattle.runs.proofs.Steps.{past_fits, index_below}
use borrow.Author.Rules.{rules}
use Rattle.runs.proofs.bounds_high.Goals as goal

pub of-requires : goal.of-requires
of-requires c = search (past_fits, index_below Down, rules)
