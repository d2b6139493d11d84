-- `lists::Built::push_region` meets its contract.
use Rattle.std.proofs.Common.{arith, rules}
use Rattle.regions.proofs.Records.{Fit}
use Rattle.lists.proofs.Pushing.{push_none, push_apart, push_grow, joined}
use Rattle.lists.proofs.Built.push_region.Goals as goal

pub returns-then-self-eq0 : goal.returns-then-self-eq0
returns-then-self-eq0 c =
    let e = c.append.ensures in
    record { same = e.same; long = e.long; holds = push_none _ _ _ _ _ _ c.if-self-eq0.true e.holds }

pub grown-requires : goal.grown-requires
grown-requires c = search (joined, rules)

pub returns-then-joins : goal.returns-then-joins
returns-then-joins c =
    let f : Fit c.grown.result = record { base = omega arith; size = omega arith; flags = omega arith; node = omega arith } in
    record {
      same = search rules;
      long = search rules;
      holds = push_grow _ _ _ _ _ _ _ c.if-self-eq0.false c.last-last.ensures c.joins.ensures c.if-joins.true (omega arith) (omega arith) _ c.grown.ensures f c.put_region.ensures;
    }

pub returns : goal.returns
returns c =
    let e = c.append-2.ensures in
    record { same = e.same; long = e.long; holds = push_apart _ _ _ _ _ _ _ c.if-self-eq0.false c.last-last.ensures c.joins.ensures _ c.if-joins.false e.holds }
