-- `lookup::begins_name` meets its contract.
use Rattle.std.proofs.Common.{arith, rules, tests}
use Rattle.std.proofs.lemmas.Iterator.{YieldsList-from_slice, YieldsList-from_zip}
use Rattle.std.proofs.lemmas.Iterator.Search.{all_from_yields_List}
use Rattle.lookup.proofs.Bytes.{goes_on, name_short, name_differs, name_ends, name_fills}
use Rattle.lookup.proofs.begins_name.Goals as goal

pub returns-then-bytes-name : goal.returns-then-bytes-name
returns-then-bytes-name c = search (name_short, rules)

pub returns-then-bytes-name-2 : goal.returns-then-bytes-name-2
returns-then-bytes-name-2 c =
    let r = all_from_yields_List goes_on c.all-begins.new.self _ c.all-begins.result c.all-begins.ensures.ran (YieldsList-from_zip (YieldsList-from_slice c.args.bytes.now cc) (YieldsList-from_slice c.args.name.now cc)) (λ x b q k. search (rules, tests)) in
    search (name_fills c.args.bytes.now c.args.name.now, r, rules)

pub returns-else-bytes-name-2 : goal.returns-else-bytes-name-2
returns-else-bytes-name-2 c =
    let r = all_from_yields_List goes_on c.all-begins.new.self _ c.all-begins.result c.all-begins.ensures.ran (YieldsList-from_zip (YieldsList-from_slice c.args.bytes.now cc) (YieldsList-from_slice c.args.name.now cc)) (λ x b q k. search (rules, tests)) in
    search (name_ends c.args.bytes.now c.args.name.now, r, rules)

pub returns-else-begins : goal.returns-else-begins
returns-else-begins c =
    let r = all_from_yields_List goes_on c.all-begins.new.self _ c.all-begins.result c.all-begins.ensures.ran (YieldsList-from_zip (YieldsList-from_slice c.args.bytes.now cc) (YieldsList-from_slice c.args.name.now cc)) (λ x b q k. search (rules, tests)) in
    search (name_differs c.args.bytes.now c.args.name.now, r, rules)
