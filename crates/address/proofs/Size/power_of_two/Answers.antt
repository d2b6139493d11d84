-- `address::Size::power_of_two` meets its contract.
use native.Mathlib.Omega.{arith}
use Rattle.address.proofs.Powers.{ones_power}
use Rattle.address.proofs.Size.power_of_two.Goals as goal

pub returns : goal.returns
returns c = rw c.is_power_of_two.ensures (ones_power 64 c.args.self.0 (omega arith))
