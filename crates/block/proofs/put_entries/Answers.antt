-- `block::put_entries` meets its contract.
use Rattle.block.proofs.Headers.{entries_puts}
use Rattle.block.proofs.put_entries.Goals as goal

pub returns : goal.returns
returns c = rw (← entries_puts) (cc)
