-- `trim::round_region` meets its contract.
use Rattle.std.proofs.Common.{arith}
use Rattle.std.proofs.lemmas.Bool.Decides.{nat_tests}
use Rattle.regions.specs.Meaning.{top_is}
use Rattle.trim.proofs.Trimming.{round_past, round_none, round_left}
use Rattle.trim.proofs.round_region.Goals as goal

pub returns-in_err-base : goal.returns-in_err-base
returns-in_err-base c = rw c.from_residual.ensures (round_past _ _ (c.requires.0) c.requires.1 _ c.up.ensures c.in_err-base.was)

pub add-end-requires : goal.add-end-requires
add-end-requires c = omega (arith, top_is)

pub returns-then-le : goal.returns-then-le
returns-then-le c = round_none _ _ c.requires.0 c.requires.1 _ c.up.ensures _ c.in_ok-base.was _ c.add-end.ensures _ c.down-past.ensures (grind (arith, nat_tests))

pub returns : goal.returns
returns c = round_left _ _ c.requires.0 c.requires.1 _ c.up.ensures _ c.in_ok-base.was _ c.add-end.ensures _ c.down-past.ensures _ c.offset_from.ensures (grind (arith, nat_tests))
