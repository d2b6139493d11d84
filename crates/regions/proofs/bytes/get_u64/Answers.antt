-- `regions::bytes::get_u64` meets its contract.
use Rattle.regions.proofs.Numbers.{number_add}
use lib.Seq.{drop-drop}
use native.Mathlib.Omega.{arith}
use Rattle.regions.proofs.bytes.get_u64.Goals as goal

pub returns : goal.returns
returns c = rw (number_add 4 4, drop-drop) (omega arith)
