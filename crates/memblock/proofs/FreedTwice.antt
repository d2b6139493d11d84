-- A range freed twice gets 12 the second time, and a command that gets 12 takes no part in a list. Assumes nothing.
use Prim.Native.Nat.{ℕ, ◌<◌}
use mathlib.Core.Path.{◌≡◌, refl, ◌∙◌}
use mathlib.Core.Bool.{true}
use mathlib.Core.List.{List, ◌∷◌}
use native.Mathlib.Omega.{arith}
use Rattle.regions.specs.declared.Kind.TheVariants.{Taken}
use Rattle.regions.specs.declared.State.TheVariants.{Absent}
use Rattle.regions.specs.Meaning.{at}
use Rattle.regions.specs.Changes.{change, cut}
use Rattle.regions.proofs.RoundTrip.{inside_yes}
use Rattle.block.specs.Block.{current, contents, good}
use Rattle.range.specs.Outcomes.{outcome}
use Rattle.tables.specs.declared.commands.Verb.TheVariants.{Free}
use Rattle.tables.specs.Commands.{Command, command}
use Rattle.tables.proofs.NotTaken.{not_taken_sentence}
use Rattle.memblock.specs.Calls.{outcome_of}
use Rattle.memblock.specs.Lists.{run, done}
use Rattle.memblock.specs.FreedTwice.{freed, FreedTwiceSentence}
use Rattle.memblock.proofs.Steps.{made}
use Rattle.memblock.proofs.Freed as once

module _ (b : List ℕ) (g : good current b ≡ true) (base size : ℕ) (l : base < cut base size) (d : (outcome_of (command Free base size) b).number ≡ 0) where
  gone : at (contents current (freed base size b)).taken base ≡ Absent
  unfolding made change
  gone = (once.freed b g base size d).says Taken base ∙ rw (inside_yes base (cut base size) base (omega arith) l)

  twice : outcome_of (command Free base size) (freed base size b) ≡ outcome 12 (freed base size b)
  twice =
      not_taken_sentence.given current (command Free base size) (freed base size b)
      (record { is_good = (once.freed b g base size d).is_good; free = refl; address = base; low = omega arith; high = l; not_taken = gone })

not_done : (c : Command) (cs : List Command) (b : List ℕ) → (outcome_of c b).number ≡ 12 → (done (c ∷ cs) b ≡ done cs b) × (run (c ∷ cs) b ≡ run cs b)
unfolding done run
not_done c cs b h =
    let e : outcome_of c b ≡ outcome 12 b = not_taken_sentence.given current c b (not_taken_sentence.only current c b h) in
    (rw e, rw e)

pub freed_twice_sentence : FreedTwiceSentence
freed_twice_sentence = record { twice = twice; not_done = not_done }
