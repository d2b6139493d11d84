-- `moves::shift` meets its contract.
use mathlib.Core.Path.{refl}
use Rattle.moves.proofs.Replacing.{shift_none, shift_up, shift_down}
use Rattle.moves.proofs.shift.Goals as goal

pub returns-then-stop-new : goal.returns-then-stop-new
returns-then-stop-new c =
    let a = c.args in
    let p = c.requires in
    shift_none a.t.now a.count a.stop a.new p.0 p.1.0 c.if-stop-new.true

pub returns-then-stop-new-2 : goal.returns-then-stop-new-2
returns-then-stop-new-2 c =
    let a = c.args in
    let p = c.requires in
    shift_up a.t.now a.count a.stop a.new p.0 p.1.0 _ c.if-stop-new-2.true c.move_up.ensures

pub returns : goal.returns
returns c =
    let a = c.args in
    let p = c.requires in
    shift_down a.t.now a.count a.stop a.new p.0 p.1.0 _ _ _ _ c.if-stop-new-2.false refl refl c.move_down.ensures c.put_zeros.ensures
