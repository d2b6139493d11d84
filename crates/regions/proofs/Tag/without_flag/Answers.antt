-- `regions::Tag::without_flag` meets its contract.
use Rattle.regions.proofs.Fitting.{flag_cleared, flag_gone, flag_le}
use mathlib.Core.Path.{refl}
use borrow.Author.Rules.{rules}
use Rattle.regions.proofs.Tag.without_flag.Goals as goal

pub overflow_sub-result : goal.overflow_sub-result
overflow_sub-result c = search (flag_le, rules)

pub returns-then-has : goal.returns-then-has
returns-then-has c = (search (flag_cleared, rules), refl)

pub returns : goal.returns
returns c = (search (flag_gone, rules), refl)
