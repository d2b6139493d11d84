-- Free answers 12 exactly when an address of its range is not taken, and then its finished list would fit. Assumes nothing.
use Prim.Native.Nat.{ℕ, ◌-◌, ◌≤◌}
use mathlib.Core.Path.{◌≡◌, refl}
use mathlib.Core.Bool.{true, false}
use mathlib.Core.List.{List}
use native.Mathlib.Omega.{arith}
use lib.ListN.{length}
use Rattle.address.proofs.Tests.{clash, zero_not_one}
use Rattle.regions.specs.declared.Kind.TheVariants.{Taken}
use Rattle.regions.specs.declared.Region.{Region}
use Rattle.regions.specs.Meaning.{at}
use Rattle.regions.specs.Changes.{cut, allowed}
use Rattle.regions.proofs.Good.{good_rises}
use Rattle.regions.proofs.AllPresent.{AbsentIn, absent_not_all, not_all_absent}
use Rattle.regions.proofs.Clearing.{cleared_no_more}
use Rattle.block.specs.declared.Layout.{Layout}
use Rattle.block.specs.Block.{capacity, list_of, contents, good}
use Rattle.block.proofs.Blocks.{room, lists_ok, good_contents_lem}
use Rattle.range.specs.Outcomes.{outcome}
use Rattle.tables.specs.declared.commands.Verb.{Verb}
use Rattle.tables.specs.declared.commands.Verb.TheVariants.{Add, Remove, Mark, Unmark, Reserve, Free}
use Rattle.tables.specs.Commands.{Command, table, strict, legal_verb, allows, command_outcome}
use Rattle.tables.specs.DemandTwo.{finished, Full}
use Rattle.tables.specs.NotTaken.{NotTaken, NotTakenSentence}
use Rattle.tables.proofs.Answered.{Answered, not_good, not_legal, not_allowed, no_room, done, answered, number_is}

module _ (L : Layout) (c : Command) (b : List ℕ) where
  -- what is not allowed is a free of what is not taken
  pub not_allowed_lem : good L b ≡ true → allows c (list_of (contents L b) (table c.verb)) ≡ false → NotTaken L c b
  not_allowed_lem g h = go c.verb refl h
    where
      go : (v : Verb) → c.verb ≡ v → allowed (strict v) c.base (cut c.base c.size) (list_of (contents L b) (table v)) ≡ false → NotTaken L c b
      go (Add t) e i = absurd (zero_not_one cc)
      go Remove e i = absurd (zero_not_one cc)
      go (Mark w) e i = absurd (zero_not_one cc)
      go (Unmark w) e i = absurd (zero_not_one cc)
      go Reserve e i = absurd (zero_not_one cc)
      go Free e i =
          let w = not_all_absent (at (contents L b).taken) c.base (cut c.base c.size - c.base) i in
          record { is_good = g; free = e; address = w.address; low = w.low; high = omega (arith, w.low, w.high); not_taken = w.absent }

  -- and a free of what is not taken is not allowed
  untaken_not_allowed : NotTaken L c b → allows c (list_of (contents L b) (table c.verb)) ≡ false
  untaken_not_allowed w =
      let u : AbsentIn (at (contents L b).taken) c.base (cut c.base c.size - c.base) =
      record { address = w.address; low = w.low; high = omega (arith, w.low, w.high); absent = w.not_taken } in
      rw w.free (absent_not_all (at (contents L b).taken) c.base (cut c.base c.size - c.base) u)

  given : NotTaken L c b → command_outcome L c b ≡ outcome 12 b
  given w = go (answered L c b)
    where
      legal : legal_verb c.verb ≡ true
      legal = rw w.free

      go : Answered L c b → command_outcome L c b ≡ outcome 12 b
      go (not_good g e) = absurd (clash (good L b) w.is_good g)
      go (not_legal g l e) = absurd (clash (legal_verb c.verb) legal l)
      go (not_allowed g l a e) = e
      go (no_room g l a m e) = absurd (clash _ a (untaken_not_allowed w))
      go (done g l a m e) = absurd (clash _ a (untaken_not_allowed w))

  only : (command_outcome L c b).number ≡ 12 → NotTaken L c b
  only h = go (answered L c b)
    where
      go : Answered L c b → NotTaken L c b
      go (not_good g e) = absurd (omega (arith, number_is e h))
      go (not_legal g l e) = absurd (omega (arith, number_is e h))
      go (not_allowed g l a e) = not_allowed_lem g a
      go (no_room g l a m e) = absurd (omega (arith, number_is e h))
      go (done g l a m e) = absurd (omega (arith, number_is e h))

  -- where an address of the range is not taken, no record becomes two
  pub never_full : NotTaken L c b → Full L c b → ⊥
  never_full w f =
      let xs : List Region = (contents L b).taken in
      let p = good_contents_lem L b w.is_good in
      let n : length (finished L c b) ≤ length xs =
      rw w.free (cleared_no_more c.base c.size xs (good_rises Taken xs (lists_ok L (contents L b) p Taken)) w.address w.low w.high w.not_taken) in
      let m : length xs ≤ capacity L (table c.verb) = rw w.free (room L (contents L b) p Taken) in
      omega (arith, f.no_room)

pub not_taken_sentence : NotTakenSentence
not_taken_sentence = record { only = only; given = given; never_full = never_full }
