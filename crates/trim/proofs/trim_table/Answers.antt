-- `trim::trim_table` meets its contract.
use native.Mathlib.Omega.{arith}
use Rattle.trim.proofs.Trimming.{left_rises, left_zeros, trim_told}
use Rattle.trim.proofs.trim_table.Goals as goal

pub total-total-requires : goal.total-total-requires
total-total-requires c =
    let a = c.args in
    let p = c.requires in
    let x = c.round_records-n in
    let r = p.0.table.room in
    (omega (arith, x.ensures.0, x.auto, r), left_rises a.t.now a.tally p.0 a.align.0 p.1 _ _ x.ensures.0 x.ensures.1.0 x.ensures.1.1)

pub replace-requires : goal.replace-requires
replace-requires c =
    let a = c.args in
    let p = c.requires in
    let x = c.round_records-n in
    let r = p.0.table.room in
    let e = p.0.even in (
      (x.ensures.0, omega arith),
      (
        (omega (arith, x.auto, r), omega (arith, x.ensures.0, x.auto, r)),
        (omega arith, (omega (arith, x.auto, e), left_zeros a.t.now a.tally p.0 a.align.0 p.1 _ _ x.ensures.0 x.ensures.1.0 x.ensures.1.1)),
      ),
    )

pub returns : goal.returns
returns c =
    let a = c.args in
    let p = c.requires in
    let x = c.round_records-n in
    trim_told a.t.now a.tally p.0 a.align.0 p.1 _ _ x.ensures.0 x.ensures.1.0 x.ensures.1.1 _ c.total-total.ensures (omega (arith, x.auto)) _ _ c.replace.ensures
