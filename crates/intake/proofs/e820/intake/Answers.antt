-- `intake::e820::intake` meets its contract.
use Rattle.std.proofs.Common.{rules}
use Rattle.intake.specs.E820.{intake_e820, readable}
use Rattle.intake.proofs.Whole.{not_good, taken_in, is_good_lem}
use Rattle.intake.proofs.e820.intake.Goals as goal

pub returns-then-not-block_good : goal.returns-then-not-block_good
returns-then-not-block_good c = search (not_good, rules)

pub returns-then-report-ne0 : goal.returns-then-report-ne0
unfolding intake_e820 readable
returns-then-report-ne0 c = search (is_good_lem, rules)

pub returns : goal.returns
returns c = search (taken_in, rules)
