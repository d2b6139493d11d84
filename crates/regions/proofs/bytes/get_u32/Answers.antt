-- `regions::bytes::get_u32` meets its contract.
use Rattle.regions.proofs.Numbers.{number_four}
use native.Mathlib.Omega.{arith}
use Rattle.regions.proofs.bytes.get_u32.Goals as goal

pub returns : goal.returns
returns c = rw number_four (omega arith)
