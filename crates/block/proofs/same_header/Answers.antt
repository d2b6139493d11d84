-- `block::same_header` meets its contract.
use native.Mathlib.Omega.{arith}
use Rattle.regions.proofs.Numbers.{bytes_all}
use Rattle.block.proofs.Same.{same_hit, same_again, same_end}
use Rattle.block.proofs.same_header.Goals as goal

pub returns-then-get_u64 : goal.returns-then-get_u64
returns-then-get_u64 c =
    same_hit _ _ (bytes_all _ c.type_inv.a) (bytes_all _ c.type_inv.b) c.requires.0 c.requires.1 c.loop-i.i c.loop-i.invariant _ _ c.loop-i-test.true
    c.get_u64.ensures c.get_u64-in-loop-i.ensures c.if-get_u64.true

pub loop-i-preserved : goal.loop-i-preserved
loop-i-preserved c =
    same_again _ _ (bytes_all _ c.type_inv.a) (bytes_all _ c.type_inv.b) c.requires.0 c.requires.1 c.loop-i.i c.loop-i.invariant _ _ c.loop-i-test.true
    c.get_u64.ensures c.get_u64-in-loop-i.ensures c.if-get_u64.false

pub returns : goal.returns
returns c =
    same_end _ _ (bytes_all _ c.type_inv.a) (bytes_all _ c.type_inv.b) c.requires.0 c.requires.1 c.loop-i.i c.loop-i.invariant (omega arith)
