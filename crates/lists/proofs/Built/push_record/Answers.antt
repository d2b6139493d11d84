-- `lists::Built::push_record` meets its contract.
use Rattle.std.proofs.Common.{refl, arith}
use Rattle.std.proofs.lemmas.Bool.Decides.{nat_tests}
use Rattle.lists.proofs.Walking.{record-inside, record-across}
use Rattle.lists.proofs.Built.push_record.Goals as goal

pub returns-then-le-2 : goal.returns-then-le-2
returns-then-le-2 c =
    let e = c.push_piece.ensures in
    record {
      same = e.same;
      long = e.long;
      holds = record-inside _ _ _ _ _ _ _ c.requires.1.0 (grind (arith, nat_tests)) (grind (arith, nat_tests)) _ refl _ c.apply.ensures _ _ e.holds;
    }

pub returns : goal.returns
returns c =
    let e = c.push_stretch.ensures in
    record { same = e.same; long = e.long; holds = record-across _ _ _ _ _ _ _ c.requires.1.0 _ refl _ _ e.holds }
