-- `lists::Built::push_piece` meets its contract.
use Rattle.std.proofs.Common.{refl, arith, rules, tests}
use Rattle.lists.proofs.Pushing.{piece_absent, piece_empty, piece_some}
use Rattle.lists.proofs.Built.push_piece.Goals as goal

pub returns-in_default : goal.returns-in_default
returns-in_default c = record { same = refl; long = refl; holds = piece_absent _ _ _ _ _ _ (search rules) (omega arith) }

pub returns-then-eq : goal.returns-then-eq
returns-then-eq c = record { same = refl; long = refl; holds = piece_empty _ _ _ _ _ _ c.in-Present.tag (search rules) (search (rules, tests)) (omega arith) }

pub returns : goal.returns
returns c =
    let e = c.push_region.ensures in
    record { same = e.same; long = e.long; holds = piece_some _ _ _ _ _ _ c.in-Present.tag _ _ _ (search rules) c.offset_from-size.ensures (omega arith) (search (rules, tests)) e.holds }
