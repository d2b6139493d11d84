-- `intake::e820::take_in_turn` meets its contract.
use Rattle.std.proofs.Common.{rules, refl}
use Rattle.std.proofs.lemmas.Result.{err_from_is_err_and}
use Rattle.address.specs.Numbers.{power_below}
use Rattle.refusals.proofs.Numbering.{number_some}
use Rattle.intake.proofs.Turns.{entries_refused, entries_next, entries_done}
use Rattle.intake.proofs.Good.{turn_good}
use Rattle.intake.proofs.e820.take_in_turn.Goals as goal

pub returns-in_err-take_entry : goal.returns-in_err-take_entry
returns-in_err-take_entry c =
    let p = err_from_is_err_and c.from_residual.result c.from_residual.ensures.1 in
    let v = c.loop-i.invariant in
    rw (p.1, p.2) (entries_refused _ _ _ _ _ v.1.1 c.loop-i-test.true _ c.get_entry.ensures _ _ c.in_err-take_entry.ensures (number_some _))

pub loop-i-preserved : goal.loop-i-preserved
loop-i-preserved c =
    let v = c.loop-i.invariant in
    (search rules, (search (turn_good, rules), entries_next _ _ _ _ _ v.1.1 c.loop-i-test.true _ c.get_entry.ensures _ _ c.in_ok-take_entry.ensures refl))

pub trim_on_good-requires : goal.trim_on_good-requires
unfolding power_below
trim_on_good-requires c = (search rules, refl)

pub returns : goal.returns
returns c = search (entries_done, rules)
