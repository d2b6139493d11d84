-- `address::Address::up` meets its contract.
use Rattle.address.proofs.Checked.{small_yes, small_not}
use Rattle.address.proofs.Address.up.Goals as goal

pub returns-in_err-round_up : goal.returns-in_err-round_up
returns-in_err-round_up c = rw c.from_residual.ensures (small_not _ _ _ c.in_err-round_up.ensures)

pub returns : goal.returns
returns c = rw c.in_ok-round_up.ensures.1 (small_yes _ _ _ c.in_ok-round_up.ensures.0)
