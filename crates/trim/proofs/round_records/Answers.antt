-- `trim::round_records` meets its contract.
use Rattle.std.proofs.Common.{◌≡◌, [], ◌∷◌, refl, sym, append-nil, arith, rules}
use Rattle.regions.specs.Trim.{round_one}
use Rattle.regions.proofs.Records.{Fit}
use Rattle.trim.proofs.Trimming.{round_start, round_done, kept_list, kept_rest, rest_kept, over_high, over_next, over_end}
use Rattle.trim.proofs.round_records.Goals as goal
use Rattle.trim.proofs.round_records.Goals.{in-Some, in_default}

pub loop-i-init : goal.loop-i-init
loop-i-init c = (omega arith, (refl, round_start _ _ _ _))

pub round_region-requires : goal.round_region-requires
round_region-requires c = search (over_high, rules)

pub loop-i-preserved : goal.loop-i-preserved
loop-i-preserved c =
    let v = c.loop-i.invariant in
    let h = c.loop-i-test.true in
    let e = c.get_region-r.ensures in
    elim c.match-round_region.branch [
      | in-Some w ↦
          let r = w.in-Some.left in
          let f : Fit r = record { base = omega arith; size = omega arith; flags = omega arith; node = omega arith } in
          let q : r ∷ [] ≡ round_one c.args.align.0 c.get_region-r.result = rw w.in-Some.is at c.round_region.ensures in
          rw (w.t-is, w.n-is) (
            omega arith,
            (
              rest_kept _ _ _ _ _ v.0 v.1.0 (kept_rest _ _ _ _ w.put_region.ensures),
              over_next _ _ _ _ _ v.1.0 _ h e _ v.1.1 _ q _ _ (kept_list _ _ r f _ w.put_region.ensures (omega arith)),
            ),
          )
      | in_default w ↦
          let q : [] ≡ round_one c.args.align.0 c.get_region-r.result = rw w.in_default.is at c.round_region.ensures in
          rw (w.t-is, w.n-is) (omega arith, (rest_kept _ _ _ _ _ v.0 v.1.0 refl, over_next _ _ _ _ _ v.1.0 _ h e _ v.1.1 _ q _ _ (sym (append-nil _))))
    ]

pub returns : goal.returns
returns c = (search rules, (search (round_done, rules), search (over_end, rules)))
