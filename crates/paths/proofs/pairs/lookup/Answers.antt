-- `paths::pairs::lookup` meets its contract.
use native.Mathlib.Omega.{arith}
use Prim.Native.Nat.{◌+◌, ◌≤◌}
use lib.ListN.{length}
use Rattle.paths.proofs.Holding.{part_within, part_there}
use borrow.Author.Rules.{rules}
use Rattle.paths.proofs.pairs.lookup.Goals as goal

pub overflow_add-result : goal.overflow_add-result
overflow_add-result c =
    let e = rw c.in-Ok-Some.field-0-is at c.in-Ok-Some.is in
    let w : c.in-Ok-Some.place.offset + c.in-Ok-Some.place.length ≤ length c.tree_by-tree.result.now = search (part_within, rules) in
    omega (arith, w)

pub slice_bounds-result-end-2 : goal.slice_bounds-result-end-2
slice_bounds-result-end-2 c = let e = rw c.in-Ok-Some.field-0-is at c.in-Ok-Some.is in search (part_within, rules)

pub returns : goal.returns
returns c = let e = rw c.in-Ok-Some.field-0-is at c.in-Ok-Some.is in search (part_there, rules)
