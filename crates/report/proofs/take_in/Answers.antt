-- `report::take_in` meets its contract.
use Rattle.memblock.proofs.Refusals.{left_good, fresh_left_good}
use borrow.Author.Rules.{rules}
use Rattle.report.proofs.take_in.Goals as goal

pub say_answer-requires : goal.say_answer-requires
say_answer-requires g c = search (left_good, fresh_left_good, rules)
