-- `lists::change_list` meets its contract.
use Rattle.std.proofs.Common.{refl, arith, rules}
use Rattle.regions.specs.Changes.{change}
use Rattle.lists.proofs.Pushing.{became_count, left, all_built, full_left}
use Rattle.lists.proofs.Walking.{walk_start, ahead_start, walk_low, walk_high, walk_flags_bounded, walk_gap_full, walk_full, walk_next, walk_ahead, walk_end}
use Rattle.lists.proofs.change_list.Goals as goal

pub loop-i-init : goal.loop-i-init
loop-i-init c =
    let p = c.requires.0 in
    let d = c.requires.1 in
    let k = change c.args.edit.change in
    let lo = c.args.edit.lo.0 in
    let hi = c.args.edit.hi.0 in
    record {
      room = omega arith;
      same = refl;
      long = refl;
      ahead = ahead_start k lo hi _ _ d.low d.high p.rising p.flags_bounded;
      walked = walk_start k lo hi _ _ d.low d.high p.rising _;
    }

pub add-end-requires : goal.add-end-requires
add-end-requires c =
    let v = c.loop-i.invariant in
    walk_high _ _ _ _ _ _ c.loop-i.built _ _ v.walked v.ahead _ c.loop-i-test.true c.get-r.ensures

pub push_gap-requires : goal.push_gap-requires
push_gap-requires c =
    let v = c.loop-i.invariant in
    (v.room, (walk_low _ _ _ _ _ _ c.loop-i.built _ _ v.walked v.ahead _ c.loop-i-test.true c.get-r.ensures, c.requires.1))

pub push_record-requires : goal.push_record-requires
push_record-requires c =
    let v = c.loop-i.invariant in
    let e = c.push_gap.ensures in (
      omega (arith, e.long, became_count _ _ _ _ e _ c.in_ok-push_gap.was),
      (c.add-end.ensures, (walk_flags_bounded _ _ _ _ _ _ c.loop-i.built _ _ v.walked v.ahead _ c.loop-i-test.true c.get-r.ensures, c.requires.1)),
    )

pub loop-i-preserved : goal.loop-i-preserved
loop-i-preserved c =
    let v = c.loop-i.invariant in
    let e = c.push_gap.ensures in
    let f = c.push_record.ensures in
    record {
      room = omega (arith, f.long, became_count _ _ _ _ f _ c.in_ok-push_record.was);
      same = search rules;
      long = search rules;
      ahead = walk_ahead _ _ _ _ _ _ c.loop-i.built _ _ v.walked v.ahead _ c.loop-i-test.true c.get-r.ensures _ _ e _ c.in_ok-push_gap.was _ _ f _ c.in_ok-push_record.was _ c.add-end.ensures;
      walked = walk_next _ _ _ _ _ _ c.loop-i.built _ _ v.walked v.ahead _ c.loop-i-test.true c.get-r.ensures _ _ e _ c.in_ok-push_gap.was _ _ f _ c.in_ok-push_record.was _ c.add-end.ensures;
    }

-- what the list that is built leaves in `out`

pub returns-in_err-push_gap : goal.returns-in_err-push_gap
returns-in_err-push_gap c =
    let v = c.loop-i.invariant in
    let e = c.push_gap.ensures in
    left _ _ _ c.push_gap.new.self.out.now _ v.long (grind arith) c.from_residual.ensures
    (walk_gap_full _ _ _ _ _ _ c.loop-i.built _ _ v.walked v.ahead _ c.loop-i-test.true c.get-r.ensures _ _ e c.in_err-push_gap.was)

pub returns-in_err-push_record : goal.returns-in_err-push_record
returns-in_err-push_record c =
    let v = c.loop-i.invariant in
    let e = c.push_gap.ensures in
    let f = c.push_record.ensures in
    left _ _ _ c.push_record.new.self.out.now _ v.long (grind arith) c.from_residual-in_err-push_record.ensures
    (walk_full _ _ _ _ _ _ c.loop-i.built _ _ v.walked v.ahead _ c.loop-i-test.true c.get-r.ensures _ _ e _ c.in_ok-push_gap.was _ _ f c.in_err-push_record.was)

pub returns-in_err-push_gap-2 : goal.returns-in_err-push_gap-2
returns-in_err-push_gap-2 c =
    let v = c.loop-i.invariant in
    let e = c.push_gap-2.ensures in
    left _ _ _ c.push_gap-2.new.self.out.now _ v.long (grind arith) c.from_residual-in_err-push_gap-2.ensures
    (full_left _ _ _ _ (walk_end _ _ _ _ _ _ c.loop-i.built _ _ v.walked v.ahead (omega arith) _ c.max.ensures _ _ e) c.in_err-push_gap-2.was)

pub returns : goal.returns
returns c =
    let v = c.loop-i.invariant in
    let e = c.push_gap-2.ensures in
    left _ _ _ c.push_gap-2.new.self.out.now _ v.long (grind arith) refl
    (all_built _ _ _ _ (walk_end _ _ _ _ _ _ c.loop-i.built _ _ v.walked v.ahead (omega arith) _ c.max.ensures _ _ e) _ c.in_ok-push_gap-2.was)
