-- `records::table::rest_zero` meets its contract.
use Rattle.std.proofs.Common.{ℕ, Bool, ◌&&◌, eqb, drop, refl, ◌∙◌, arith, length-drop, rules, tests}
use Rattle.std.specs.List.{list_all}
use Rattle.std.proofs.lemmas.List.{take_all}
use Rattle.std.proofs.lemmas.Iterator.{YieldsList-from_slice}
use Rattle.std.proofs.lemmas.Iterator.Search.{all_from_yields_List}
use Rattle.std.proofs.lemmas.List.Recursion.{same_from_clauses}
use Rattle.records.specs.Checks.{all_zeros}
use Rattle.records.proofs.table.rest_zero.Goals as goal

pub returns : goal.returns
unfolding all_zeros
returns c =
    let xs = drop c.args.at c.args.t.now in
    let r = all_from_yields_List (λ (x : ℕ). eqb x 0) _ _ _ c.all.ensures.ran (YieldsList-from_slice xs (c.iter.ensures.rest ∙ take_all _ xs (omega (arith, length-drop c.args.at c.args.t.now)))) (λ x b q k. search (rules, tests)) in
    r ∙ same_from_clauses (list_all (λ (x : ℕ). eqb x 0)) all_zeros (λ x (b : Bool). eqb x 0 && b) refl (λ _ _. refl) (λ _ _. refl) xs
