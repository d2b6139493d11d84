-- The blocks that document 01 prints agree with the definitions, a fresh block and a fresh block after one add; and both as E4 makes them. Assumes nothing.
use Prim.Native.Nat.{ℕ, ◌+◌, ◌≤◌}
use mathlib.Core.Path.{◌≡◌, refl, sym, ap, ◌∙◌}
use mathlib.Core.Bool.{true}
use mathlib.Core.List.{List, [], ◌∷◌, ◌++◌}
use native.Mathlib.Omega.{arith}
use lib.Dec.{leb}
use lib.ListN.{length, replicate, replicate-append-replicate}
use borrow.Author.Tests.{eq-eqb, le-leb}
use Rattle.regions.specs.declared.Kind.TheVariants.{Memory, Taken}
use Rattle.regions.specs.declared.Region.{Region}
use Rattle.regions.specs.declared.State.TheVariants.{Absent}
use Rattle.regions.specs.declared.Change.TheVariants.{Fill}
use Rattle.regions.specs.Meaning.{region, at, join, push, total, top, top_is}
use Rattle.regions.specs.Lists.{fits, rises, legal, legal_tag, good_list}
use Rattle.regions.specs.Changes.{change, cut, changed}
use Rattle.regions.specs.Bytes.{bytes, region_bytes, regions_bytes, table_bytes}
use Rattle.regions.proofs.Rises.{ended, Canonical, rises-Rises}
use Rattle.regions.proofs.Count.{sizes}
use Rattle.regions.proofs.RoundTrip.{rises_weaken}
use Rattle.regions.proofs.Good.{total_is_sizes}
use Rattle.regions.specs.Steps.{stretch}
use Rattle.regions.proofs.Update.{walk, update}
use Rattle.regions.proofs.Update.{update_shortest}
use Rattle.block.specs.declared.Layout.{Layout}
use Rattle.block.specs.Block.{edition_one, current, capacity, offset, with_list, fresh_contents, entry_bytes, entries_bytes, settings_bytes, totals_bytes, header_bytes, block_bytes, good_table, good_contents}
use Rattle.tables.specs.declared.commands.Verb.TheVariants.{Add}
use Rattle.range.specs.Outcomes.{outcome, tag, store}
use Rattle.tables.specs.Commands.{fresh, command, command_outcome}
use Rattle.block.specs.Checks.{Small}
use Rattle.block.proofs.Layouts.{small_one, small_current}
use Rattle.tables.proofs.Setting.{total_empty, fresh_spelled}
use Rattle.block.proofs.Reading.{Spellable, contents_spelled, good_spelled_block}

-- the first 80 bytes of a fresh block, by its edition and the two low bytes of the taken table's capacity; zeros follow
abbrev pub fresh_printed : ℕ → ℕ → ℕ → List ℕ
fresh_printed edition low high =
    edition ∷ 0x00 ∷ 0x00 ∷ 0x00 ∷ 0x02 ∷ 0x00 ∷ 0x00 ∷ 0x00 ∷ 0x01 ∷ 0x00 ∷ 0x00 ∷ 0x00 ∷ 0x50 ∷ 0x00 ∷ 0x00 ∷ 0x00 ∷
    0x00 ∷ 0x00 ∷ 0x00 ∷ 0x00 ∷ 0x80 ∷ 0x00 ∷ 0x00 ∷ 0x00 ∷ 0x02 ∷ 0x00 ∷ 0x00 ∷ 0x00 ∷ 0x50 ∷ 0x0C ∷ 0x00 ∷ 0x00 ∷
    0x00 ∷ 0x00 ∷ 0x00 ∷ 0x00 ∷ low ∷ high ∷ 0x00 ∷ 0x00 ∷ 0xFF ∷ 0xFF ∷ 0xFF ∷ 0xFF ∷ 0xFF ∷ 0xFF ∷ 0xFF ∷ 0xFF ∷
    0x00 ∷ 0x00 ∷ 0x00 ∷ 0x00 ∷ 0x00 ∷ 0x00 ∷ 0x00 ∷ 0x00 ∷ 0x00 ∷ 0x00 ∷ 0x00 ∷ 0x00 ∷ 0x00 ∷ 0x00 ∷ 0x00 ∷ 0x00 ∷
    0x00 ∷ 0x00 ∷ 0x00 ∷ 0x00 ∷ 0x00 ∷ 0x00 ∷ 0x00 ∷ 0x00 ∷ 0x00 ∷ 0x00 ∷ 0x00 ∷ 0x00 ∷ 0x00 ∷ 0x00 ∷ 0x00 ∷ 0x00 ∷ []

-- fresh followed by add(0x1000, 0x1000, flags 0, node 0), the first 104 bytes as printed; zeros follow
abbrev pub add_printed : ℕ → ℕ → ℕ → List ℕ
add_printed edition low high =
    edition ∷ 0x00 ∷ 0x00 ∷ 0x00 ∷ 0x02 ∷ 0x00 ∷ 0x00 ∷ 0x00 ∷ 0x01 ∷ 0x00 ∷ 0x00 ∷ 0x00 ∷ 0x50 ∷ 0x00 ∷ 0x00 ∷ 0x00 ∷
    0x01 ∷ 0x00 ∷ 0x00 ∷ 0x00 ∷ 0x80 ∷ 0x00 ∷ 0x00 ∷ 0x00 ∷ 0x02 ∷ 0x00 ∷ 0x00 ∷ 0x00 ∷ 0x50 ∷ 0x0C ∷ 0x00 ∷ 0x00 ∷
    0x00 ∷ 0x00 ∷ 0x00 ∷ 0x00 ∷ low ∷ high ∷ 0x00 ∷ 0x00 ∷ 0xFF ∷ 0xFF ∷ 0xFF ∷ 0xFF ∷ 0xFF ∷ 0xFF ∷ 0xFF ∷ 0xFF ∷
    0x00 ∷ 0x00 ∷ 0x00 ∷ 0x00 ∷ 0x00 ∷ 0x00 ∷ 0x00 ∷ 0x00 ∷ 0x00 ∷ 0x10 ∷ 0x00 ∷ 0x00 ∷ 0x00 ∷ 0x00 ∷ 0x00 ∷ 0x00 ∷
    0x00 ∷ 0x00 ∷ 0x00 ∷ 0x00 ∷ 0x00 ∷ 0x00 ∷ 0x00 ∷ 0x00 ∷ 0x00 ∷ 0x00 ∷ 0x00 ∷ 0x00 ∷ 0x00 ∷ 0x00 ∷ 0x00 ∷ 0x00 ∷
    0x00 ∷ 0x10 ∷ 0x00 ∷ 0x00 ∷ 0x00 ∷ 0x00 ∷ 0x00 ∷ 0x00 ∷ 0x00 ∷ 0x10 ∷ 0x00 ∷ 0x00 ∷ 0x00 ∷ 0x00 ∷ 0x00 ∷ 0x00 ∷
    0x00 ∷ 0x00 ∷ 0x00 ∷ 0x00 ∷ 0x00 ∷ 0x00 ∷ 0x00 ∷ 0x00 ∷ []

-- ---- fresh

-- document 01's fresh block
pub fresh_one : block_bytes edition_one fresh_contents ≡ fresh_printed 0x01 0x80 0x00 ++ replicate 6144 0
unfolding header_bytes entries_bytes entry_bytes settings_bytes totals_bytes capacity offset bytes
fresh_one = fresh_spelled edition_one

fresh_two : block_bytes current fresh_contents ≡ fresh_printed 0x02 0x00 0x02 ++ replicate 15360 0
unfolding header_bytes entries_bytes entry_bytes settings_bytes totals_bytes capacity offset bytes
fresh_two = fresh_spelled current

-- fresh over any 15,440 bytes
pub fresh_printed_lem : (b : List ℕ) → length b ≡ 15440 → fresh current b ≡ outcome 0 (fresh_printed 0x02 0x00 0x02 ++ replicate 15360 0)
unfolding fresh
fresh_printed_lem b e = rw (eq-eqb (length b) 15440 e, fresh_two)

pub fresh_spellable : (L : Layout) → Spellable L fresh_contents
unfolding good_contents good_table good_list rises legal
fresh_spellable L =
    let t : rises 0 Absent top [] ≡ true = le-leb 0 top (omega arith) in
    let m : leb 0 (capacity L Memory) ≡ true = le-leb 0 (capacity L Memory) (omega arith) in
    let n : leb 0 (capacity L Taken) ≡ true = le-leb 0 (capacity L Taken) (omega arith) in
    record { good = rw (m, n, t); settings = record { limit = omega arith; image = omega arith } }

-- ---- one range added

-- a command's range up to an end below the top
cut_low : (base size : ℕ) → base + size ≤ top → cut base size ≡ base + size
cut_low base size h = omega arith

abbrev first : List Region
first = region 0x1000 0x1000 (tag 0 0) ∷ []

first_updated : update (change (Fill (tag 0 0))) 0x1000 0x2000 [] ≡ first
unfolding update walk stretch push join change
first_updated = refl

first_changed : changed (Fill (tag 0 0)) 0x1000 0x1000 [] ≡ first
unfolding changed
first_changed =
    let e : cut 0x1000 0x1000 ≡ 0x2000 = cut_low 0x1000 0x1000 (omega (arith, top_is)) in
    let z : 0 ≤ top = omega arith in
    rw e (sym (update_shortest (change (Fill (tag 0 0))) 0x1000 0x2000 top [] (omega arith) (omega (arith, top_is)) (ended z)) ∙ first_updated)

first_canonical : Canonical top first
unfolding rises fits
first_canonical = rises_weaken top (rises-Rises 0 Absent 0x2000 first refl) (omega (arith, top_is))

first_total : total (at first) top ≡ 0x1000
unfolding sizes
first_total = total_is_sizes first first_canonical

first_one : block_bytes edition_one (with_list fresh_contents Memory first) ≡ add_printed 0x01 0x80 0x00 ++ replicate 6120 0
unfolding block_bytes header_bytes entries_bytes entry_bytes settings_bytes totals_bytes table_bytes regions_bytes region_bytes capacity offset bytes
first_one = rw (first_total, total_empty) (ap (λ (x : List ℕ). add_printed 0x01 0x80 0x00 ++ x) (replicate-append-replicate 3048 3072 0))

first_two : block_bytes current (with_list fresh_contents Memory first) ≡ add_printed 0x02 0x00 0x02 ++ replicate 15336 0
unfolding block_bytes header_bytes entries_bytes entry_bytes settings_bytes totals_bytes table_bytes regions_bytes region_bytes capacity offset bytes
first_two = rw (first_total, total_empty) (ap (λ (x : List ℕ). add_printed 0x02 0x00 0x02 ++ x) (replicate-append-replicate 3048 12288 0))

-- the range added to a fresh block
first_added : (L : Layout) → Small L → 1 ≤ L.memory
    → command_outcome L (command (Add (tag 0 0)) 0x1000 0x1000) (block_bytes L fresh_contents) ≡ outcome 0 (block_bytes L (with_list fresh_contents Memory first))
unfolding command_outcome store legal_tag capacity
first_added L small room =
    let s = fresh_spellable L in
    rw (good_spelled_block L small fresh_contents s, contents_spelled L small fresh_contents s, first_changed, le-leb 1 L.memory room)

-- document 01's add to the fresh block
pub add_one : command_outcome edition_one (command (Add (tag 0 0)) 0x1000 0x1000) (fresh_printed 0x01 0x80 0x00 ++ replicate 6144 0) ≡ outcome 0 (add_printed 0x01 0x80 0x00 ++ replicate 6120 0)
add_one = rw (fresh_one, first_one) at (first_added edition_one small_one (omega arith))

-- and on the block that the commands work on
pub add_printed_lem : command_outcome current (command (Add (tag 0 0)) 0x1000 0x1000) (fresh_printed 0x02 0x00 0x02 ++ replicate 15360 0) ≡ outcome 0 (add_printed 0x02 0x00 0x02 ++ replicate 15336 0)
add_printed_lem = rw (fresh_two, first_two) at (first_added current small_current (omega arith))
