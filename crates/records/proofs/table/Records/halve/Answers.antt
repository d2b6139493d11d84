-- `records::table::Records::halve` meets its contract.
use Rattle.std.proofs.Common.{arith, rules}
use Rattle.records.proofs.Halving.{narrowed_all, narrowed_none, narrowed_past, narrowed_above}
use Rattle.records.proofs.table.Records.halve.Goals as goal
use Rattle.records.proofs.table.Records.halve.Goals.{then-ends_by, else-ends_by}

pub loop-low-init : goal.loop-low-init
loop-low-init c = search (narrowed_all, rules)

pub overflow_add-looks : goal.overflow_add-looks
overflow_add-looks c = record { fits = omega (arith, (c.loop-low.invariant.remaining.most 64 (search rules)).0) }

pub loop-low-preserved : goal.loop-low-preserved
loop-low-preserved c =
    let h = c.loop-low-test.true in
    let s = c.loop-low.invariant in
    let e = c.ends_by.ensures in
    let p = c.requires in
    elim c.if-ends_by.branch [
      | then-ends_by w ↦ rw (w.low-is, w.high-is) (narrowed_past _ _ _ _ _ _ s h _ (omega arith) _ e p.1 w.if-ends_by.true)
      | else-ends_by w ↦ rw (w.low-is, w.high-is) (narrowed_above _ _ _ _ _ _ s h _ (omega arith) _ e w.if-ends_by.false)
    ]

pub returns : goal.returns
returns c = narrowed_none _ _ _ _ _ _ c.loop-low.invariant c.loop-low-test.false
