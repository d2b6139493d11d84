-- `paths::nodes::find_path` meets its contract.
use Rattle.paths.proofs.Listing.{path_empty, path_other, path_found}
use borrow.Author.Rules.{rules}
use Rattle.paths.proofs.nodes.find_path.Goals.{then-is_empty-via-then-is_empty, then-is_empty-via-else-is_empty+then-path-ne47}
use Rattle.paths.proofs.nodes.find_path.Goals as goal

pub returns-then-is_empty : goal.returns-then-is_empty
returns-then-is_empty c =
    elim c.then-is_empty.branch [
      | then-is_empty-via-then-is_empty w ↦ search (path_empty, rules)
      | then-is_empty-via-else-is_empty+then-path-ne47 w ↦ search (path_other, rules)
    ]

pub returns : goal.returns
returns c = search (path_found, rules)
