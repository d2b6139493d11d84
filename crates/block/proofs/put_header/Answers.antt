-- `block::put_header` meets its contract.
use Rattle.block.proofs.Headers.{header_puts}
use Rattle.block.proofs.put_header.Goals as goal

pub returns : goal.returns
returns c = rw (← header_puts) (cc)
