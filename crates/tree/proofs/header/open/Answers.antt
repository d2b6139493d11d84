-- `tree::header::open` meets its contract.
use mathlib.Core.Path.{sym, ◌∙◌}
use Rattle.std.proofs.Common.{arith}
use Rattle.std.proofs.lemmas.Grind.{common_steps}
use Rattle.tree.proofs.Heading.{header_whole, header_refused, parts_refused, opened}
use Rattle.tree.proofs.header.open.Goals as goal

pub parts_ok-requires : goal.parts_ok-requires
parts_ok-requires c = header_whole c.args.tree.now (sym c.header_ok.ensures ∙ c.if-header_ok.true)

pub strings-requires : goal.strings-requires
strings-requires c = (header_whole c.args.tree.now (sym c.header_ok.ensures ∙ c.if-header_ok.true), sym c.parts_ok.ensures ∙ c.if-parts_ok.true)

pub structure-requires : goal.structure-requires
structure-requires c = (header_whole c.args.tree.now (sym c.header_ok.ensures ∙ c.if-header_ok.true), sym c.parts_ok.ensures ∙ c.if-parts_ok.true)

pub returns-then-parts_ok : goal.returns-then-parts_ok
returns-then-parts_ok c =
    opened c.args.tree.now _ _ c.strings.ensures c.structure.ensures.0 (sym c.header_ok.ensures ∙ c.if-header_ok.true)
    (sym c.parts_ok.ensures ∙ c.if-parts_ok.true) c.structure.ensures.1 _ c.read.ensures

pub returns-else-header_ok : goal.returns-else-header_ok
returns-else-header_ok c = grind (arith, common_steps, header_refused, parts_refused)
