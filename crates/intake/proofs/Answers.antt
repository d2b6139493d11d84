-- E1's sentences on what an intake answers: 1 for the block before 10 for the report, and 6 for an entry whatever comes after it. Assumes nothing.
use Prim.Native.Nat.{ℕ, ◌/◌, ◌%◌, ◌<◌}
use mathlib.Core.Path.{◌≡◌, refl}
use mathlib.Core.Bool.{Bool, true, false, cond, and-false}
use mathlib.Core.List.{List, [], ◌∷◌, ◌++◌}
use lib.Dec.{eqb}
use lib.ListN.{length}
use borrow.Author.Tests.{ne_eqb, lt-leb, eqb-false}
use Rattle.block.specs.declared.Layout.{Layout}
use Rattle.block.specs.Block.{good}
use Rattle.range.specs.Outcomes.{Outcome, outcome}
use Rattle.tables.specs.Commands.{Command, command_outcome, trim}
use Rattle.intake.specs.E820.{entries, readable, commands, entry_steps, intake_e820}
use Rattle.intake.specs.Turns.{Step, steps, in_turn, wholly}

-- after commands that are all done, one that gets 6 ends the turn with 6, whatever comes after it
pub six_ends : (L : Layout) (cs : List Command) (c : Command) (ds : List Command) (ss : List Step) (b : List ℕ) → (in_turn (steps L cs) b).number ≡ 0
    → (command_outcome L c (in_turn (steps L cs) b).block).number ≡ 6 → (in_turn (steps L (cs ++ (c ∷ ds)) ++ ss) b).number ≡ 6
unfolding in_turn
six_ends L [] c ds ss b z s = rw s
six_ends L (x ∷ cs) c ds ss b z s =
    let p = command_outcome L x b in
    go (in_turn (steps L cs) p.block) (in_turn (steps L (cs ++ (c ∷ ds)) ++ ss) p.block) p (eqb p.number 0) refl (six_ends L cs c ds ss p.block) z s
  where
    go : (o w p : Outcome) (t : Bool) → eqb p.number 0 ≡ t → (o.number ≡ 0 → (command_outcome L c o.block).number ≡ 6 → w.number ≡ 6)
        → (cond t o p).number ≡ 0 → (command_outcome L c (cond t o p).block).number ≡ 6 → (cond t w p).number ≡ 6
    go o w p true q ih z s = ih z s
    go o w p false q ih z s = absurd (eqb-false p.number 0 q z)

module _ (L : Layout) (r b : List ℕ) where
  -- a block that is not good gets 1, whatever the report
  pub block_first : good L b ≡ false → intake_e820 L r b ≡ outcome 1 b
  unfolding intake_e820
  block_first g = rw g

  module _ (g : good L b ≡ true) where
    -- a length that is no multiple of 20 gets 10
    pub part_entry : (length r % 20 ≡ 0 → ⊥) → intake_e820 L r b ≡ outcome 10 b
    unfolding intake_e820 readable
    part_entry n = rw (g, ne_eqb (length r % 20) 0 n)

    -- and so do more than 128 entries
    pub over_128 : 128 < length r / 20 → intake_e820 L r b ≡ outcome 10 b
    unfolding intake_e820 readable
    over_128 n = rw (g, lt-leb (length r / 20) 128 n, and-false)

    -- an entry that gets 6 ends the intake with 6 and the block as it was, even if the trimmed list would fit
    pub six_given : readable r ≡ true → (cs : List Command) (c : Command) (ds : List Command) → commands (entries r) ≡ cs ++ (c ∷ ds)
        → (in_turn (steps L cs) b).number ≡ 0 → (command_outcome L c (in_turn (steps L cs) b).block).number ≡ 6 → intake_e820 L r b ≡ outcome 6 b
    unfolding intake_e820 entry_steps wholly
    six_given h cs c ds p z s = rw (g, h, p, six_ends L cs c ds (trim L 4096 ∷ []) b z s)
