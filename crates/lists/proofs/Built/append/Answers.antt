-- `lists::Built::append` meets its contract.
use Rattle.std.proofs.Common.{refl, arith, rules}
use Rattle.regions.proofs.Records.{Fit}
use Rattle.lists.proofs.Pushing.{append_full, append_done}
use Rattle.lists.proofs.Built.append.Goals as goal

pub returns-then-self-at-lt24 : goal.returns-then-self-at-lt24
returns-then-self-at-lt24 c = record { same = refl; long = refl; holds = append_full _ _ _ _ (omega arith) }

pub returns : goal.returns
returns c =
    let f : Fit c.args.r = record { base = omega arith; size = omega arith; flags = omega arith; node = omega arith } in
    record { same = search rules; long = search rules; holds = append_done _ _ _ _ _ (omega arith) (λ e. omega arith) (omega arith) f c.put_region.ensures }
