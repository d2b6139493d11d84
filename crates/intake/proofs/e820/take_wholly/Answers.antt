-- `intake::e820::take_wholly` meets its contract.
use Rattle.std.proofs.Common.{rules, ℕ}
use native.Mathlib.Omega.{arith}
use lib.ListN.{replicate, length-replicate}
use Rattle.regions.specs.declared.Kind.TheVariants.{Taken}
use Rattle.block.specs.Block.{current, offset}
use Rattle.refusals.proofs.Numbering.{number_some}
use Rattle.intake.proofs.Whole.{front_room, put_back}
use Rattle.intake.specs.Turns.{wholly}
use Rattle.intake.proofs.Good.{entries_front}
use Rattle.intake.proofs.e820.take_wholly.Goals as goal

pub copy_front-requires : goal.copy_front-requires
copy_front-requires c = search (front_room, rules)

pub copy_front-requires-in-Err : goal.copy_front-requires-in-Err
copy_front-requires-in-Err c = (omega (arith, front_room _ c.requires, c.take_in_turn.auto), search rules)

pub returns-in-Err : goal.returns-in-Err
unfolding offset
returns-in-Err c =
    put_back _ _ _ _ c.in-Err.ensures (number_some _) (offset current Taken) (front_room _ c.requires) (entries_front _ _ c.requires)
    (replicate (offset current Taken) 0) _ _ (length-replicate {A = ℕ} (offset current Taken) 0) c.copy_front.ensures c.copy_front-in-Err.ensures

pub returns : goal.returns
unfolding wholly
returns c = search rules
