-- `regions::Tag::with_flag` meets its contract.
use Rattle.regions.proofs.Fitting.{flag_there, flag_set}
use mathlib.Core.Path.{refl}
use borrow.Author.Rules.{rules}
use Rattle.regions.proofs.Tag.with_flag.Goals as goal

pub returns-then-has : goal.returns-then-has
returns-then-has c = (search (flag_there, rules), refl)

pub returns : goal.returns
returns c = (search (flag_set, rules), refl)
