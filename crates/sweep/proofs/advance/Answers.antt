-- `sweep::advance` meets its contract. The invariant: nothing is free up to where the sweep has come to, and what it holds says all that lies ahead.
use mathlib.Core.Path.{refl}
use Rattle.fits.proofs.Orders.{less, no_less, no_more, more}
use Rattle.runs.proofs.Steps.{past_fits, memory_table, taken_table}
use Rattle.sweep.proofs.Tables.{sweep_over, sweep_skip, sweep_take, sweep_last, one_less, sweep_gap, sweep_none}
use borrow.Author.Rules.{rules}
use Rattle.sweep.proofs.advance.Goals as goal

pub returns-then-t-i : goal.returns-then-t-i
returns-then-t-i c = search (sweep_over, no_more, rules)

pub past-top-requires : goal.past-top-requires
past-top-requires c = search (past_fits, memory_table, rules)

pub loop-low-preserved-then-not-has : goal.loop-low-preserved-then-not-has
loop-low-preserved-then-not-has c = search (sweep_take, no_more, rules)

pub loop-low-preserved-else-not-has : goal.loop-low-preserved-else-not-has
loop-low-preserved-else-not-has c = search (sweep_skip, no_more, rules)

pub returns-then-le-2 : goal.returns-then-le-2
returns-then-le-2 c =
    sweep_last _ c.loop-low.invariant (more _ _ _ c.le.ensures c.if-le.false) (no_more _ _ _ c.le-in-loop-low.ensures c.if-le-2.true) c.args.s refl

pub bounds_low-next-requires : goal.bounds_low-next-requires
bounds_low-next-requires c = search (taken_table, rules)

pub returns-then-lt : goal.returns-then-lt
returns-then-lt c =
    sweep_gap _ c.loop-low.invariant (more _ _ _ c.le.ensures c.if-le.false) (more _ _ _ c.le-in-loop-low.ensures c.if-le-2.false) c.max-low-in-loop-low.ensures c.bounds_low-next.ensures
    (less _ _ _ c.lt.ensures c.if-lt.true) c.args.s refl

pub loop-low-smaller : goal.loop-low-smaller
loop-low-smaller c = one_less _ c.loop-low.invariant (more _ _ _ c.le.ensures c.if-le.false) (more _ _ _ c.le-in-loop-low.ensures c.if-le-2.false)

pub loop-low-preserved : goal.loop-low-preserved
loop-low-preserved c =
    sweep_none _ c.loop-low.invariant (more _ _ _ c.le.ensures c.if-le.false) (more _ _ _ c.le-in-loop-low.ensures c.if-le-2.false) c.max-low-in-loop-low.ensures c.bounds_low-next.ensures
    (no_less _ _ _ c.lt.ensures c.if-lt.false)
