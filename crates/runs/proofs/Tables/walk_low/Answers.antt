-- `runs::Tables::walk_low` meets its contract. Both invariants: what is still to be walked, the records and taken records behind, gives the answer for the whole.
use Rattle.fits.specs.declared.Way.TheVariants.{Up}
use Rattle.runs.proofs.Steps.{memory_table, taken_table, begin_up, past_fits, enter, covered, onward, leave, skip, over, in_gap, in_last}
use Rattle.fits.proofs.Orders.{less, no_less}
use borrow.Author.Rules.{rules}
use Rattle.runs.proofs.Tables.walk_low.Goals as goal

pub ended-i-requires : goal.ended-i-requires
ended-i-requires c = search (memory_table, rules)

pub ended-requires : goal.ended-requires
ended-requires c = search (taken_table, rules)

pub bounds_low-t-requires : goal.bounds_low-t-requires
bounds_low-t-requires c = search (taken_table, rules)

pub records-init : goal.records-init
records-init c = search (begin_up, rules)

pub past-top-requires : goal.past-top-requires
past-top-requires c = search (past_fits, memory_table, rules)

pub loop-base-init : goal.loop-base-init
loop-base-init c = search (enter Up, rules)

pub records-preserved-then-lt : goal.records-preserved-then-lt
records-preserved-then-lt c = search (covered Up, less, rules)

pub bounds_low-t-requires-in-loop-base : goal.bounds_low-t-requires-in-loop-base
bounds_low-t-requires-in-loop-base c = search (taken_table, rules)

pub loop-base-preserved : goal.loop-base-preserved
loop-base-preserved c = search (onward Up, less, no_less, rules)

pub records-preserved-in_default-fit_low : goal.records-preserved-in_default-fit_low
records-preserved-in_default-fit_low c = search (leave Up, no_less, rules)

pub records-preserved : goal.records-preserved
records-preserved c = search (skip Up, rules)

pub returns-then-self-i : goal.returns-then-self-i
returns-then-self-i c = search (over Up, rules)

pub returns-in-Some : goal.returns-in-Some
returns-in-Some c = search (in_gap Up, less, rules)

pub returns-in-Some-fit_low : goal.returns-in-Some-fit_low
returns-in-Some-fit_low c = search (in_last Up, no_less, rules)
