-- `fits::fit_low` meets its contract.
use mathlib.Core.Path.{◌∙◌}
use Rattle.fits.proofs.Fits.{low_none, low_short, low_none_up, low_none_sum, low_past, low_found}
use borrow.Author.Rules.{rules}
use Rattle.fits.proofs.fit_low.Goals as goal
use Rattle.fits.proofs.fit_low.Goals.{then-lt-via-then-lt, then-lt-via-else-lt+then-lt-2}

pub returns-then-lt : goal.returns-then-lt
returns-then-lt c =
    elim c.then-lt.branch [
      | then-lt-via-then-lt w ↦ search (low_none, rules)
      | then-lt-via-else-lt+then-lt-2 w ↦ search (low_short, rules)
    ]

pub returns-in_err-a : goal.returns-in_err-a
returns-in_err-a c = c.from_residual.ensures ∙ search (low_none_up, rules)

pub returns-in_err-end : goal.returns-in_err-end
returns-in_err-end c = c.from_residual-in_err-end.ensures ∙ search (low_none_sum, c.in_ok-a.was, rules)

pub returns-then-lt-3 : goal.returns-then-lt-3
returns-then-lt-3 c = low_past _ _ _ _ c.up.ensures _ c.in_ok-a.was _ c.plus.ensures _ c.in_ok-end.was (search rules)

pub returns : goal.returns
returns c = low_found _ _ _ _ c.up.ensures _ c.in_ok-a.was _ c.plus.ensures _ c.in_ok-end.was (search rules)
