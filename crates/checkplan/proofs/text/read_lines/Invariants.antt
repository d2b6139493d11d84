-- What the loop of `read_lines` keeps: the lines read and those that may come are at most 65.
use Rattle.std.proofs.Common.{◌≤◌, ◌+◌}
use Rattle.std.specs.Iterator.Adapters.{take_count}
use Rattle.checkplan.proofs.text.read_lines.Given as goal

abbrev pub invariant-loop-line : goal.invariant-loop-line
invariant-loop-line l = l.count + take_count l.line-iterator ≤ 65
