-- Freed room is eligible at once. Assumes nothing.
use Prim.Native.Nat.{ℕ, ◌+◌, ◌≤◌, ◌<◌}
use mathlib.Core.Path.{◌≡◌}
use mathlib.Core.Bool.{true}
use mathlib.Core.List.{List, []}
use mathlib.Core.Logic.{◌⊎◌, inl, inr}
use native.Mathlib.Omega.{arith}
use lib.Dec.{eqb}
use borrow.Author.Tests.{eq-eqb}
use Rattle.address.proofs.Tests.{clash}
use Rattle.regions.specs.declared.Kind.TheVariants.{Memory, Taken}
use Rattle.regions.specs.declared.State.TheVariants.{Present}
use Rattle.regions.specs.Meaning.{at}
use Rattle.regions.specs.Changes.{change, cut}
use Rattle.regions.specs.Free.{free_memory}
use Rattle.regions.proofs.RoundTrip.{inside_yes}
use Rattle.block.specs.Block.{current, with_list, contents, good}
use Rattle.tables.specs.declared.commands.Verb.TheVariants.{Free}
use Rattle.tables.specs.Commands.{Command, command}
use Rattle.fits.specs.declared.Query.{Query}
use Rattle.search.specs.DemandTwo.{free_in, Eligible}
use Rattle.tables.proofs.Answered.{Refuses}
use Rattle.memblock.specs.Calls.{outcome_of}
use Rattle.memblock.specs.Freed.{FreedSentence}
use Rattle.memblock.proofs.Steps.{Made, Done, made, step}

module _ (b : List ℕ) (g : good current b ≡ true) (base size : ℕ) (d : (outcome_of (command Free base size) b).number ≡ 0) where
  abbrev freeing : Command
  freeing = command Free base size

  pub freed : Made freeing b (outcome_of freeing b).block
  freed = go (step freeing b g)
    where
      go : Refuses current freeing b ⊎ Done freeing b → Made freeing b (outcome_of freeing b).block
      go (inl r) = absurd (clash (eqb (outcome_of freeing b).number 0) (eq-eqb _ 0 d) r.number)
      go (inr r) = r.block

  module _ (q : Query) (a : ℕ) (from : base ≤ a) (to : a + q.size.0 ≤ cut base size) (h : Eligible (with_list (contents current b) Taken []) q a) where
    all : (c : ℕ) → a ≤ c → c < a + q.size.0 → free_in (contents current (outcome_of freeing b).block) c ≡ Present h.one_tag.tag
    unfolding free_memory made change at
    all c i j = rw (freed.says Memory c, freed.says Taken c, inside_yes base (cut base size) c (omega arith) (omega arith)) (h.one_tag.all c i j)

    eligible_now : Eligible (contents current (outcome_of freeing b).block) q a
    eligible_now =
        record {
          aligned = h.aligned;
          from_start = h.from_start;
          from_4096 = h.from_4096;
          by_limit = rw freed.settings h.by_limit;
          by_end = h.by_end;
          one_tag = record { tag = h.one_tag.tag; right = h.one_tag.right; all = all };
        }

pub freed_sentence : FreedSentence
freed_sentence b g base size d q a from to h = eligible_now b g base size d q a from to h
