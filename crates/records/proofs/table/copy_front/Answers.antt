-- `records::table::copy_front` meets its contract.
use Rattle.records.proofs.Copying.{copy_end, copy_more}
use Rattle.std.proofs.Common.{arith, rules}
use Rattle.records.proofs.table.copy_front.Goals as goal

pub loop-i-preserved : goal.loop-i-preserved
loop-i-preserved c =
    let v = c.loop-i.invariant in
    (search rules, copy_more _ _ _ _ v.1 (omega arith) (omega arith))

pub returns : goal.returns
returns c = search (copy_end, rules)
