-- Commands in turn that end with 0 are all done, and leave what a run of them leaves. Assumes nothing.
use Prim.Native.Nat.{ℕ}
use mathlib.Core.Path.{◌≡◌, refl, sym, ap, ◌∙◌}
use mathlib.Core.Bool.{Bool, true, false, cond}
use mathlib.Core.List.{List, [], ◌∷◌, ◌++◌}
use lib.Dec.{eqb}
use borrow.Author.Tests.{eq-eqb, eqb-true, eqb-false}
use Rattle.block.specs.Block.{current}
use Rattle.range.specs.Outcomes.{Outcome, done_with}
use Rattle.tables.specs.Commands.{Command}
use Rattle.intake.specs.Turns.{Step, steps, in_turn}
use Rattle.intake.proofs.Turns.{turn_both, steps_append}
use Rattle.memblock.specs.Calls.{outcome_of}
use Rattle.memblock.specs.Lists.{run, done}

pub record AllDone (cs : List Command) (b : List ℕ) : Type 0 where
  pub each : done cs b ≡ cs
  pub ends : in_turn (steps current cs) b ≡ done_with (run cs b)

pub all_done : (cs : List Command) (b : List ℕ) → (in_turn (steps current cs) b).number ≡ 0 → AllDone cs b
unfolding in_turn run done
all_done [] b h = record { each = refl; ends = refl }
all_done (c ∷ cs) b h = go (eqb o.number 0) refl h (all_done cs o.block)
  where
    o : Outcome
    o = outcome_of c b

    go : (t : Bool) → eqb o.number 0 ≡ t → (cond t (in_turn (steps current cs) o.block) o).number ≡ 0
        → ((in_turn (steps current cs) o.block).number ≡ 0 → AllDone cs o.block) → AllDone (c ∷ cs) b
    go true e z ih =
        let r = ih z in
        record { each = rw e (ap (λ (ds : List Command). c ∷ ds) r.each); ends = rw e r.ends }
    go false e z ih = absurd (eqb-false o.number 0 e z)

-- commands, and then other steps, that together end with 0
module _ (cs : List Command) (ss : List Step) (b : List ℕ) (h : (in_turn (steps current cs ++ ss) b).number ≡ 0) where
  parted : in_turn (steps current cs ++ ss) b ≡ cond (eqb (in_turn (steps current cs) b).number 0) (in_turn ss (in_turn (steps current cs) b).block) (in_turn (steps current cs) b)
  parted = turn_both (steps current cs) ss b

  pub first_zero : (in_turn (steps current cs) b).number ≡ 0
  first_zero = go (eqb (in_turn (steps current cs) b).number 0) refl (ap (λ (o : Outcome). o.number) (sym parted) ∙ h)
    where
      go : (t : Bool) → eqb (in_turn (steps current cs) b).number 0 ≡ t
          → (cond t (in_turn ss (in_turn (steps current cs) b).block) (in_turn (steps current cs) b)).number ≡ 0 → (in_turn (steps current cs) b).number ≡ 0
      go true e z = eqb-true (in_turn (steps current cs) b).number 0 e
      go false e z = z

  pub rest_is : in_turn (steps current cs ++ ss) b ≡ in_turn ss (run cs b)
  rest_is = parted ∙ rw (eq-eqb (in_turn (steps current cs) b).number 0 first_zero) (ap (λ (o : Outcome). in_turn ss o.block) (all_done cs b first_zero).ends)

-- two lists of commands
module _ (cs ds : List Command) (b : List ℕ) (h : (in_turn (steps current (cs ++ ds)) b).number ≡ 0) where
  as_steps : (in_turn (steps current cs ++ steps current ds) b).number ≡ 0
  as_steps = ap (λ (ss : List Step). (in_turn ss b).number) (sym (steps_append cs ds)) ∙ h

  pub first_done : (in_turn (steps current cs) b).number ≡ 0
  first_done = first_zero cs (steps current ds) b as_steps

  pub rest_done : (in_turn (steps current ds) (run cs b)).number ≡ 0
  rest_done = ap (λ (o : Outcome). o.number) (sym (rest_is cs (steps current ds) b as_steps)) ∙ as_steps

pub run_both : (cs ds : List Command) (b : List ℕ) → run (cs ++ ds) b ≡ run ds (run cs b)
unfolding run
run_both [] ds b = refl
run_both (c ∷ cs) ds b = run_both cs ds (outcome_of c b).block
