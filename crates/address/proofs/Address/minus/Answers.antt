-- `address::Address::minus` meets its contract.
use Rattle.std.proofs.Math.Nat.{lt_of_not-le}
use Rattle.address.proofs.Checked.{difference_no, difference_yes}
use Rattle.address.proofs.Address.minus.Goals as goal

pub returns-in_err-checked_sub : goal.returns-in_err-checked_sub
returns-in_err-checked_sub c = rw c.from_residual.ensures (difference_no _ _ (lt_of_not-le c.in_err-checked_sub.ensures))

pub returns : goal.returns
returns c = difference_yes _ _ _ c.in_ok-checked_sub.ensures.1 c.in_ok-checked_sub.ensures.0
