-- `paths::pairs::find_in` meets its contract.
use native.Mathlib.Omega.{arith}
use Rattle.tree.proofs.Heading.{formed_header}
use Rattle.paths.proofs.Holding.{found_missing, found_placed}
use borrow.Author.Rules.{rules}
use Rattle.paths.proofs.pairs.find_in.Goals as goal

pub returns-in_err-found : goal.returns-in_err-found
returns-in_err-found c = rw c.from_residual.ensures (search (found_missing, rules))

pub word_at-requires : goal.word_at-requires
word_at-requires c = omega (arith, formed_header c.args.tree.now c.requires)

pub returns : goal.returns
returns c = search (found_placed, rules)
