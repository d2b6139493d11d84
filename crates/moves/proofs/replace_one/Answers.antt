-- `moves::replace_one` meets its contract.
use native.Mathlib.Omega.{arith}
use Rattle.regions.proofs.Numbers.{bytes_all}
use Rattle.regions.proofs.Records.{Fit}
use Rattle.moves.proofs.Replacing.{replaced_one}
use Rattle.moves.proofs.replace_one.Goals as goal

pub returns : goal.returns
returns c =
    let a = c.args in
    let p = c.requires in
    let f : Fit a.r = record { base = omega (arith, c.well_formed); size = omega (arith, c.well_formed); flags = omega (arith, c.well_formed); node = omega (arith, c.well_formed) } in
    let x = c.shift in
    replaced_one a.t.now a.count a.first a.stop p.0.0 p.0.1 p.1.0.0 p.1.0.1 p.1.1.0 p.1.1.1 (bytes_all _ c.slice_known-1.given) _ _ a.r f (bytes_all _ c.slice_known-3-1.given)
    x.ensures (omega (arith, x.auto)) c.put_region.ensures
