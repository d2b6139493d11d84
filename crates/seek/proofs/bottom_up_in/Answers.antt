-- `seek::bottom_up_in` meets its contract.
use Rattle.seek.proofs.BottomUp.{up_found, up_nowhere, up_then_down}
use Rattle.fits.proofs.Orders.{no_more}
use borrow.Author.Rules.{rules}
use Rattle.seek.proofs.bottom_up_in.Goals as goal
use Rattle.seek.proofs.bottom_up_in.Goals.{then-is_some-via-then-is_some, then-is_some-via-else-is_some+then-le}

pub returns-then-is_some : goal.returns-then-is_some
returns-then-is_some c =
    elim c.then-is_some.branch [
      | then-is_some-via-then-is_some w ↦ search (up_found, rules)
      | then-is_some-via-else-is_some+then-le w ↦ search (up_nowhere, no_more, rules)
    ]

pub returns : goal.returns
returns c = search (up_then_down, rules)
