-- What works on the memory table leaves every byte from the taken table on. Assumes nothing.
use Prim.Native.Nat.{ℕ, ◌≤◌}
use mathlib.Core.Path.{◌≡◌, refl, sym, ap, ◌∙◌}
use mathlib.Core.Bool.{Bool, true, false}
use mathlib.Core.List.{List}
use mathlib.Core.Logic.{◌⊎◌, inl, inr}
use native.Mathlib.Omega.{arith}
use lib.ListN.{length, drop}
use borrow.Author.Tests.{leb-true}
use Rattle.address.specs.Numbers.{power_of_two}
use Rattle.address.proofs.Powers.{power_some}
use Rattle.regions.specs.declared.Kind.TheVariants.{Memory, Taken}
use Rattle.regions.specs.declared.Region.{Region}
use Rattle.regions.specs.Changes.{changed}
use Rattle.regions.specs.Trim.{round_each, trimmed_list}
use Rattle.regions.proofs.Trim.{round_length, trim_rounds}
use Rattle.regions.proofs.Good.{good_rises}
use Rattle.block.specs.Block.{current, capacity, offset, with_list, block_bytes, contents, good}
use Rattle.block.proofs.Blocks.{behind_memory, room, lists_ok, good_contents_lem, good_spelled}
use Rattle.range.specs.Outcomes.{Outcome}
use Rattle.tables.specs.Commands.{Command, table, change_of, command_outcome, trim}
use Rattle.tables.specs.DemandTwo.{finished}
use Rattle.tables.proofs.Answered.{Refuses, Stores, refuses_or_stores}

module _ (b : List ℕ) (g : good current b ≡ true) where
  memory_room : length (contents current b).memory ≤ capacity current Memory
  memory_room = room current (contents current b) (good_contents_lem current b g) Memory

  -- another list in the memory table
  front_only : (xs : List Region) → length xs ≤ capacity current Memory
      → drop (offset current Taken) (block_bytes current (with_list (contents current b) Memory xs)) ≡ drop (offset current Taken) b
  unfolding capacity
  front_only xs l =
      behind_memory current (with_list (contents current b) Memory xs) l ∙ sym (behind_memory current (contents current b) memory_room)
      ∙ ap (drop (offset current Taken)) (good_spelled current b g)

  pub command_front : (c : Command) → table c.verb ≡ Memory → drop (offset current Taken) (command_outcome current c b).block ≡ drop (offset current Taken) b
  command_front c m = go (refuses_or_stores current c b)
    where
      go : Refuses current c b ⊎ Stores current c b → drop (offset current Taken) (command_outcome current c b).block ≡ drop (offset current Taken) b
      go (inl r) = ap (drop (offset current Taken)) r.block
      go (inr d) =
          let l = leb-true (length (finished current c b)) (capacity current (table c.verb)) d.room in
          ap (λ (o : Outcome). drop (offset current Taken) o.block) d.is
          ∙ rw m (front_only (changed (change_of c.verb) c.base c.size (contents current b).memory) (rw m at l))

  pub trim_front : (k : ℕ) → drop (offset current Taken) (trim current k b).block ≡ drop (offset current Taken) b
  unfolding trim
  trim_front k = go (power_of_two k) refl
    where
      xs : List Region
      xs = (contents current b).memory

      go : (p : Bool) → power_of_two k ≡ p → drop (offset current Taken) (trim current k b).block ≡ drop (offset current Taken) b
      go false e = rw (g, e)
      go true e =
          let w = good_rises Memory xs (lists_ok current (contents current b) (good_contents_lem current b g) Memory) in
          let r : trimmed_list k xs ≡ round_each k xs = trim_rounds k xs (power_some k e) w in
          rw (g, e) (front_only (trimmed_list k xs) (omega (arith, ap (length {A = Region}) r, round_length k xs, memory_room)))
