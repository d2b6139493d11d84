-- `regions::Region::joins` meets its contract.
use Rattle.std.proofs.Common.{rules, refl, ◌≡◌, true, false, nat_eq}
use Rattle.regions.specs.Meaning.{end}
use Rattle.regions.proofs.Push.{ends_at}
use Rattle.regions.proofs.Region.joins.Goals as goal

pub returns-then-eq : goal.returns-then-eq
returns-then-eq c =
    let e = ends_at _ (λ a b. refl) c.args.self c.args.base _ c.end.ensures (search rules) in
    let f : nat_eq (end c.args.self) c.args.base.0 ≡ true = search rules in
    rw f c.eq-then-eq.ensures

pub returns-else-eq : goal.returns-else-eq
returns-else-eq c =
    let e = ends_at _ (λ a b. refl) c.args.self c.args.base _ c.end.ensures (search rules) in
    let f : nat_eq (end c.args.self) c.args.base.0 ≡ false = search rules in
    rw f c.if-eq.false
