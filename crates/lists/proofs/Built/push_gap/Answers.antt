-- `lists::Built::push_gap` meets its contract.
use Rattle.std.proofs.Common.{◌≡◌, refl, arith, rules}
use Rattle.regions.specs.declared.State.TheVariants.{Absent, Present}
use Rattle.lists.proofs.Pushing.{gap_kept, gap_holds}
use Rattle.lists.proofs.Built.push_gap.Goals as goal

pub returns-in_default : goal.returns-in_default
returns-in_default c =
    let x = c.apply in
    let f : x.result ≡ Absent = search rules in
    record { same = refl; long = refl; holds = gap_kept _ _ _ _ _ _ x.ensures f _ _ _ (omega arith) }

pub push_piece-requires : goal.push_piece-requires
push_piece-requires c = (omega arith, omega (arith, c.requires.1.1.low, c.within-inside.ensures.0, c.within-inside.ensures.1))

pub returns : goal.returns
returns c =
    let x = c.apply in
    let e = c.push_piece.ensures in
    let f : x.result ≡ Present c.in-Present.tag = search rules in
    record {
      same = e.same;
      long = e.long;
      holds = gap_holds _ _ _ _ _ _ x.ensures _ f _ _ _ c.within-inside.ensures.0 c.within-inside.ensures.1 _ _ _ e.holds;
    }
