-- `regions::bytes::put_region` meets its contract.
use Rattle.regions.proofs.Records.{sets_region}
use Rattle.regions.proofs.bytes.put_region.Goals as goal

pub returns : goal.returns
returns c = rw (← sets_region) (cc)
