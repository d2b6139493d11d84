-- An E820 report that is taken in is a list of adds, all done, and a trim: by demand 3 the order of its entries does not count. Assumes nothing.
use Prim.Native.Nat.{ℕ, ◌+◌}
use mathlib.Core.Path.{◌≡◌, sym, ap, ◌∙◌}
use mathlib.Core.List.{List, [], ◌∷◌, ◌++◌, Permᴰ}
use mathlib.Core.Logic.{inr}
use native.Mathlib.Omega.{arith}
use Rattle.block.specs.Block.{current}
use Rattle.tables.specs.declared.commands.Verb.TheVariants.{Add}
use Rattle.range.specs.Outcomes.{Outcome, tag}
use Rattle.tables.specs.Commands.{Command, command, trim}
use Rattle.intake.specs.declared.e820.Entry.{Entry}
use Rattle.intake.specs.declared.e820.Becomes.{Becomes}
use Rattle.intake.specs.declared.e820.Becomes.TheVariants.{Added, PassedOver}
use Rattle.intake.specs.E820.{entries, becomes, commands_as, entry_commands, commands, entry_steps, readable, intake_e820}
use Rattle.intake.specs.Turns.{Step, steps, in_turn}
use Rattle.intake.proofs.ByKind.{all_adds}
use Rattle.intake.proofs.Whole.{not_refused}
use Rattle.memblock.specs.Reports.{OrderPromise}
use Rattle.memblock.specs.Lists.{run, done, Agreed, often, SameDone}
use Rattle.memblock.proofs.DemandThree.{demand_three}
use Rattle.memblock.proofs.Often.{counted, often_none, often_more}
use Rattle.memblock.proofs.InTurn.{all_done, first_zero, rest_is}

-- ---- each command as often

module _ (d : Command) where
  -- how often an entry gives the command
  gives : Entry → ℕ
  gives e = often d (entry_commands e)

  entry_more : (e : Entry) (es : List Entry) → often d (commands (e ∷ es)) ≡ gives e + often d (commands es)
  unfolding commands gives
  entry_more e es = go (becomes e.kind)
    where
      go : (k : Becomes) → often d (commands_as k e ++ commands es) ≡ often d (commands_as k e) + often d (commands es)
      go Added =
          let c = command (Add (tag 0 0)) e.base.0 e.size.0 in
          omega (arith, often_more d c (commands es), often_more d c [], often_none d)
      go PassedOver = omega (arith, often_none d)

  same_often : {es fs : List Entry} → Permᴰ es fs → often d (commands es) ≡ often d (commands fs)
  same_often p = counted gives (λ es. often d (commands es)) entry_more p

-- ---- the order promise

-- memory is trimmed at the end
last : List Step
last = trim current 4096 ∷ []

in_steps : (r b : List ℕ) → (in_turn (entry_steps current (entries r)) b).number ≡ 0 → (in_turn (steps current (commands (entries r)) ++ last) b).number ≡ 0
unfolding entry_steps last
in_steps r b h = h

pub intake_order : OrderPromise
unfolding intake_e820 entry_steps last
intake_order b r s p h k =
    let x = not_refused 10 (readable r) (entry_steps current (entries r)) b (λ e. omega arith) h in
    let y = not_refused 10 (readable s) (entry_steps current (entries s)) b (λ e. omega arith) k in
    let cs = commands (entries r) in
    let ds = commands (entries s) in
    let m = (all_done cs b (first_zero cs last b (in_steps r b x.number))).each in
    let n = (all_done ds b (first_zero ds last b (in_steps s b y.number))).each in
    let agreed : Agreed (done cs b) = rw m (λ d e i j t. inr (all_adds (entries r) d i ∙ sym (all_adds (entries r) e j))) in
    let same : SameDone (done cs b) (done ds b) = λ d. rw (m, n) (same_often d p) in
    let e : run ds b ≡ run cs b = (demand_three b x.is_good cs agreed).order ds same in
    ap (λ (o : Outcome). o.block)
    (x.outcome ∙ rest_is cs last b (in_steps r b x.number) ∙ ap (in_turn last) (sym e) ∙ sym (rest_is ds last b (in_steps s b y.number)) ∙ sym y.outcome)
