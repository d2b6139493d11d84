-- `convert::convert` meets its contract.
use Rattle.regions.proofs.Numbers.{bytes_all}
use Rattle.convert.specs.Convert.{convert}
use Rattle.convert.proofs.Converting.{old_header, old_whole, not_good_one, is_edition_one, convert_length, convert_done}
use borrow.Author.Rules.{rules}
use Rattle.convert.proofs.convert.Goals as goal

pub returns-then-not-good_one : goal.returns-then-not-good_one
unfolding convert
returns-then-not-good_one c = search (not_good_one, convert_length, rules)

pub copy_front-requires : goal.copy_front-requires
copy_front-requires c = search (old_whole, is_edition_one, rules)

pub get_header-requires : goal.get_header-requires
get_header-requires c = search (old_header, is_edition_one, rules)

pub returns : goal.returns
returns c =
    let bytes = bytes_all _ c.shared_slice_known-1.given in
    search (convert_done c.args.old.now c.args.block.now _ c.good_one.ensures c.if-not-good_one.false-raw bytes, rules)
