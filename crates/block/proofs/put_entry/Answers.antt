-- `block::put_entry` meets its contract.
use Rattle.block.proofs.Headers.{entry_puts}
use Rattle.block.proofs.put_entry.Goals as goal

pub returns : goal.returns
returns c = rw (← entry_puts) (cc)
