-- `address::remainder` meets its contract.
use Rattle.address.proofs.Powers.{power_some, power_mask}
use Rattle.address.proofs.remainder.Goals as goal

pub overflow_sub-result : goal.overflow_sub-result
overflow_sub-result c = power_some _ c.requires

pub returns : goal.returns
returns c = power_mask _ _ c.requires
