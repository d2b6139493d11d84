-- `runs::Tables::walk_high` meets its contract. Both invariants: what is still to be walked, the records and taken records below, gives the answer for the whole.
use Rattle.fits.specs.declared.Way.TheVariants.{Down}
use Rattle.runs.proofs.Steps.{memory_table, taken_table, begin_down, past_fits, index_below, enter, covered, onward, leave, skip, over, in_gap, in_last}
use Rattle.fits.proofs.Orders.{less, no_less}
use borrow.Author.Rules.{rules}
use Rattle.runs.proofs.Tables.walk_high.Goals as goal

pub bounds_high-t-requires : goal.bounds_high-t-requires
bounds_high-t-requires c = (search (taken_table, rules), search rules)

pub records-init : goal.records-init
records-init c = search (begin_down, rules)

pub past-top-requires : goal.past-top-requires
past-top-requires c = search (past_fits, memory_table, index_below Down, rules)

pub loop-end-init : goal.loop-end-init
loop-end-init c = search (enter Down, rules)

pub records-preserved-then-lt : goal.records-preserved-then-lt
records-preserved-then-lt c = search (covered Down, less, rules)

pub bounds_high-t-requires-in-loop-end : goal.bounds_high-t-requires-in-loop-end
bounds_high-t-requires-in-loop-end c = (search (taken_table, rules), search rules)

pub loop-end-preserved : goal.loop-end-preserved
loop-end-preserved c = search (onward Down, less, no_less, rules)

pub records-preserved-in_default-fit_high : goal.records-preserved-in_default-fit_high
records-preserved-in_default-fit_high c = search (leave Down, no_less, rules)

pub records-preserved : goal.records-preserved
records-preserved c = search (skip Down, rules)

pub returns-then-i-eq0 : goal.returns-then-i-eq0
returns-then-i-eq0 c = search (over Down, rules)

pub returns-in-Some : goal.returns-in-Some
returns-in-Some c = search (in_gap Down, less, rules)

pub returns-in-Some-fit_high : goal.returns-in-Some-fit_high
returns-in-Some-fit_high c = search (in_last Down, no_less, rules)
