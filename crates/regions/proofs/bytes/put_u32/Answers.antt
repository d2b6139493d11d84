-- `regions::bytes::put_u32` meets its contract.
use Rattle.regions.specs.Bytes.{bytes}
use native.Mathlib.Numerals.{add-one, add-two, add-three}
use lib.ListN.{length-set}
use native.Mathlib.Omega.{arith}
use Rattle.regions.proofs.bytes.put_u32.Goals as goal

pub bounds-s-at-2 : goal.bounds-s-at-2
bounds-s-at-2 c = simp length-set (omega arith)

pub bounds-s-at-3 : goal.bounds-s-at-3
bounds-s-at-3 c = simp length-set (omega arith)

pub bounds-s-at-4 : goal.bounds-s-at-4
bounds-s-at-4 c = simp length-set (omega arith)

pub returns : goal.returns
unfolding bytes
returns c = simp (add-one, add-two, add-three)
