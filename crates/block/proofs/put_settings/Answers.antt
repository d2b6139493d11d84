-- `block::put_settings` meets its contract.
use Rattle.block.proofs.Headers.{settings_puts}
use Rattle.block.proofs.put_settings.Goals as goal

pub returns : goal.returns
returns c = rw (← settings_puts) (cc)
