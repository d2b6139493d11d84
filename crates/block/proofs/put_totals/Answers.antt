-- `block::put_totals` meets its contract.
use Rattle.block.proofs.Headers.{totals_puts}
use Rattle.block.proofs.put_totals.Goals as goal

pub returns : goal.returns
returns c = rw (← totals_puts) (cc)
