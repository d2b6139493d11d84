-- No refusal has the number of what is done. Assumes nothing.
use Rattle.std.proofs.Common.{◌≡◌}
use native.Mathlib.Omega.{arith}
use Rattle.refusals.specs.declared.Refusal.{Refusal}
use Rattle.refusals.specs.declared.Refusal.TheVariants.{Block, Tag, Alignment, Size, Nowhere, Full, Direction, Slip, Report, Tree, NotTaken, Line, Lines}
use Rattle.refusals.specs.Numbers.{number}

-- no refusal is told by 0
pub number_some : (r : Refusal) → number r ≡ 0 → ⊥
number_some Block e = omega (arith, e)
number_some Tag e = omega (arith, e)
number_some Alignment e = omega (arith, e)
number_some Size e = omega (arith, e)
number_some Nowhere e = omega (arith, e)
number_some Full e = omega (arith, e)
number_some Direction e = omega (arith, e)
number_some Slip e = omega (arith, e)
number_some Report e = omega (arith, e)
number_some Tree e = omega (arith, e)
number_some NotTaken e = omega (arith, e)
number_some Line e = omega (arith, e)
number_some Lines e = omega (arith, e)
