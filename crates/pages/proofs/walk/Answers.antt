-- `pages::walk` meets its contract. The invariant: count pieces are written, and what is left is the list from the walk's page on.
use Rattle.pages.proofs.Walking.{scale_first, walk_far, walk_start, walk_done, walk_enter, walk_inside, walk_full, walk_put}
use borrow.Author.Rules.{rules}
use Rattle.pages.proofs.walk.Goals as goal

pub returns-then-page-ge-PAGES : goal.returns-then-page-ge-PAGES
returns-then-page-ge-PAGES c = search (walk_far, rules)

pub loop-pages-init : goal.loop-pages-init
loop-pages-init c = (search (walk_start, rules), scale_first)

pub returns-in_default : goal.returns-in_default
returns-in_default c = search (walk_done, rules)

pub loop-pages-preserved-then-pages-page : goal.loop-pages-preserved-then-pages-page
loop-pages-preserved-then-pages-page c = (search (walk_enter, rules), search rules)

pub loop-pages-preserved-then-f-page : goal.loop-pages-preserved-then-f-page
loop-pages-preserved-then-f-page c = (search (walk_inside, rules), search rules)

pub returns-then-count-room : goal.returns-then-count-room
returns-then-count-room c = search (walk_full, rules)

pub loop-pages-preserved : goal.loop-pages-preserved
loop-pages-preserved c = (search (walk_put, rules), search rules)
