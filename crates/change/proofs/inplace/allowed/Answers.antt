-- `change::inplace::allowed` meets its contract.
use Rattle.regions.proofs.AllPresent.{empty_allowed}
use Rattle.change.proofs.Allowing.{lax_allowed, none_allowed, past_allowed, above_allowed, here_allowed}
use Rattle.std.proofs.Common.{◌≡◌, ◌∙◌, ◌≤◌, leb, arith, rules}
use Rattle.std.proofs.lemmas.Bool.Decides.{nat_tests}
use Rattle.change.proofs.inplace.allowed.Goals.{then-not-strict-via-then-not-strict, then-not-strict-via-else-not-strict+then-le}
use Rattle.change.proofs.inplace.allowed.Goals as goal

pub returns-then-not-strict : goal.returns-then-not-strict
returns-then-not-strict c =
    elim c.then-not-strict.branch [
      | then-not-strict-via-then-not-strict w ↦ search (lax_allowed, rules)
      | then-not-strict-via-else-not-strict+then-le w ↦ search (empty_allowed, rules)
    ]

pub returns-then-t-first : goal.returns-then-t-first
returns-then-t-first c = search (none_allowed, rules)

pub returns-in_default : goal.returns-in_default
returns-in_default c = search (past_allowed, rules)

pub returns-then-le-2 : goal.returns-then-le-2
returns-then-le-2 c =
    let e : c.le-then-le-2.result ≡ leb c.args.edit.hi.0 c.in-Some.end.0 = grind (arith, nat_tests) in
    let b : c.get-r.result.base.0 ≤ c.args.edit.lo.0 = grind (arith, nat_tests) in
    e ∙ search (here_allowed, rules)

pub returns-else-le-2 : goal.returns-else-le-2
returns-else-le-2 c = search (above_allowed, rules)
