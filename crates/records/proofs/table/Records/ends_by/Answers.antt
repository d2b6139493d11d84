-- `records::table::Records::ends_by` meets its contract.
use Rattle.std.proofs.Common.{◌≡◌, ◌∙◌, leb, arith, rules}
use Rattle.std.proofs.lemmas.Bool.Decides.{nat_tests}
use Rattle.records.proofs.Placing.{look_past, look_told}
use Rattle.records.proofs.table.Records.ends_by.Goals as goal

pub returns-in_default : goal.returns-in_default
returns-in_default c = search (look_past, rules)

pub returns : goal.returns
returns c =
    let e : c.le.result ≡ leb c.in-Some.end.0 c.args.a.0 = grind (arith, nat_tests) in
    e ∙ look_told _ _ c.get-r.ensures _ _ c.end.ensures _ c.in-Some.is
