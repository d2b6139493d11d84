-- `moves::replace` meets its contract.
use Rattle.regions.proofs.Numbers.{bytes_all}
use Rattle.moves.proofs.Replacing.{copied_spelled, replaced}
use Rattle.moves.proofs.replace.Goals as goal

pub returns : goal.returns
returns c =
    let a = c.args in
    let p = c.requires in
    let bt = bytes_all _ c.slice_known-1.given in
    let bs = copied_spelled a.others.count a.others.bytes.now _ _ _ p.1.1.0 (rw c.copy_front.ensures at (bytes_all _ c.type_inv.t)) in
    replaced a.t.now a.others.bytes.now a.count a.first a.stop a.others.count p.0.0 p.0.1 p.1.0.0 p.1.0.1 p.1.1.0 p.1.1.1.0 p.1.1.1.1 bt bs _ _
    c.shift.ensures c.copy_front.ensures
