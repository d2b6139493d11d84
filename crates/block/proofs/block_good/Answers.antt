-- `block::block_good` meets its contract.
use Rattle.std.specs.Prelude.{Some, None}
use mathlib.Core.Path.{◌≡◌}
use native.Mathlib.Omega.{arith}
use Rattle.regions.proofs.Numbers.{bytes_all}
use Rattle.block.proofs.Blocks.{bad_length, bad_direction, bad_memory, bad_taken, good_rest}
use borrow.Author.Rules.{rules}
use Rattle.block.proofs.block_good.Goals as goal

pub returns-then-b-end : goal.returns-then-b-end
returns-then-b-end c = bad_length _ _ _ c.if-b-end.true (omega arith)

pub returns-then-h-gt1 : goal.returns-then-h-gt1
returns-then-h-gt1 c = search (bad_direction, rules)

pub returns-in_default : goal.returns-in_default
returns-in_default c =
    let h = c.get_header-h.ensures in
    let z : c.check_table.result ≡ None = search rules in
    bad_memory _ _ _ h _ c.check_table.ensures z

pub returns-in_default-check_table : goal.returns-in_default-check_table
returns-in_default-check_table c =
    let h = c.get_header-h.ensures in
    let z : c.check_table-2.result ≡ None = search rules in
    bad_taken _ _ _ h _ c.check_table-2.ensures z

pub returns : goal.returns
returns c =
    let bs = bytes_all _ c.type_inv.b in
    let x : c.check_table.result ≡ Some c.in-Some.memory = search rules in
    let y : c.check_table-2.result ≡ Some c.in-Some-check_table.taken = search rules in
    good_rest _ _ _ c.get_header-h.ensures bs _ c.if-b-end.false (omega arith) c.if-h-gt1.false _ _ c.check_table.ensures x
    _ _ c.check_table-2.ensures y _ c.header_right.ensures
