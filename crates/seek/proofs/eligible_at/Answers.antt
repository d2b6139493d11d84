-- `seek::eligible_at` meets its contract.
use mathlib.Core.Path.{◌∙◌}
use Rattle.fits.proofs.Orders.{less, no_less, no_more, more}
use Rattle.seek.proofs.AtAddress.{at_before, at_outside, at_past, at_found}
use borrow.Author.Rules.{rules}
use Rattle.seek.proofs.eligible_at.Goals as goal

pub returns-then-lt : goal.returns-then-lt
returns-then-lt c = search (at_before, less, rules)

pub returns-in_default : goal.returns-in_default
returns-in_default c = search (at_outside, rules)

pub returns-then-le : goal.returns-then-le
returns-then-le c = c.is_some.ensures ∙ search (at_found, no_less, no_more, rules)

pub returns-else-le : goal.returns-else-le
returns-else-le c = c.if-le.false ∙ search (at_past, more, rules)
