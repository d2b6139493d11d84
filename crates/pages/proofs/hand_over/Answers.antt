-- `pages::hand_over` meets its contract.
use Rattle.pages.proofs.Answers.{hand_no_slip, hand_bad, hand_given}
use borrow.Author.Rules.{rules}
use Rattle.pages.proofs.hand_over.Goals as goal

pub returns-then-slip-ne16 : goal.returns-then-slip-ne16
returns-then-slip-ne16 c = search (hand_no_slip, rules)

pub returns-then-not-block_good : goal.returns-then-not-block_good
returns-then-not-block_good c = search (hand_bad, rules)

pub returns : goal.returns
returns c = search (hand_given, rules)
