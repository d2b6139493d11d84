-- `address::Address::plus` meets its contract.
use Rattle.address.proofs.Checked.{small_yes, small_not}
use Rattle.address.proofs.Address.plus.Goals as goal

pub returns-in_err-checked_add : goal.returns-in_err-checked_add
returns-in_err-checked_add c = rw c.from_residual.ensures (small_not _ _ _ c.in_err-checked_add.ensures)

pub returns : goal.returns
returns c = rw c.in_ok-checked_add.ensures.1 (small_yes _ _ _ c.in_ok-checked_add.ensures.0)
