-- What the loop of `judge_all` keeps.
use Rattle.block.specs.Block.{current, contents}
use Rattle.plan.proofs.Walking.{Walked}
use Rattle.plan.proofs.judge_all.Given as goal

abbrev pub invariant-loop-i : goal.invariant-loop-i
invariant-loop-i g l = Walked (contents current l.block) (g.L.Lines.lines l.lines) l.seen l.i
