-- `regions::Change::apply` meets its contract.
use Rattle.regions.specs.declared.State.TheVariants.{Present}
use Rattle.regions.specs.declared.Change.TheVariants.{Mark, Unmark}
use mathlib.Core.Path.{◌≡◌}
use Rattle.regions.proofs.Fitting.{flag_bounded_mark, flag_bounded_unmark, flags_bounded_flags}
use borrow.Author.Rules.{rules}
use Rattle.regions.proofs.Change.apply.Goals as goal

pub with_flag-requires : goal.with_flag-requires
with_flag-requires c =
    let e : c.args.self ≡ Mark c.in-Mark-self.w = search rules in
    let p : c.args.state ≡ Present c.in-Present.own = search rules in
    let w = flag_bounded_mark _ c.args.state _ e c.requires.0 in
    (w.0, (w.1, flags_bounded_flags c.args.self _ _ p c.requires.1))

pub without_flag-requires : goal.without_flag-requires
without_flag-requires c =
    let e : c.args.self ≡ Unmark c.in-Unmark.w = search rules in
    (flag_bounded_unmark _ c.args.state _ e c.requires.0).0
