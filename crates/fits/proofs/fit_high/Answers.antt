-- `fits::fit_high` meets its contract.
use Rattle.fits.proofs.Orders.{less, no_less}
use Rattle.fits.proofs.Fits.{high_none, high_narrow, high_short, high_found}
use borrow.Author.Rules.{rules}
use Rattle.fits.proofs.fit_high.Goals as goal

pub returns-in_default : goal.returns-in_default
returns-in_default c = search (high_none, rules)

pub returns-then-lt : goal.returns-then-lt
returns-then-lt c = search (high_narrow, less, rules)

pub returns-then-lt-2 : goal.returns-then-lt-2
returns-then-lt-2 c = search (high_short, less, rules)

pub returns : goal.returns
returns c = search (high_found, no_less, rules)
