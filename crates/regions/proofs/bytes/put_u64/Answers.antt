-- `regions::bytes::put_u64` meets its contract.
use Rattle.regions.proofs.Numbers.{sets8}
use Rattle.regions.proofs.bytes.put_u64.Goals as goal

pub returns : goal.returns
returns c = rw (← sets8) (cc)
