-- `convert::flags_one` meets its contract.
use Rattle.std.proofs.Common.{refl}
use Rattle.convert.proofs.Converting.{flags_end, flags_other, flags_next}
use Rattle.convert.proofs.flags_one.Goals as goal

pub returns-then-not-old_flags : goal.returns-then-not-old_flags
returns-then-not-old_flags c = flags_other _ _ _ c.loop-i.invariant _ c.loop-i-test.true c.get.ensures _ c.if-not-old_flags.ensures refl

pub loop-i-preserved : goal.loop-i-preserved
loop-i-preserved c = flags_next _ _ _ c.loop-i.invariant _ c.loop-i-test.true c.get.ensures _ c.if-not-old_flags.ensures refl

pub returns : goal.returns
returns c = flags_end _ _ _ c.loop-i.invariant c.loop-i-test.false
