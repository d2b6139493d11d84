-- A list of commands that starts on a good block ends on a good block that says what its done commands, in their order, make of each address. Assumes nothing.
use Prim.Native.Nat.{ℕ}
use mathlib.Core.Path.{◌≡◌, refl, ap, ◌∙◌}
use mathlib.Core.Bool.{true}
use mathlib.Core.List.{List, [], ◌∷◌}
use mathlib.Core.Logic.{◌⊎◌, inl, inr}
use Rattle.regions.specs.declared.Kind.{Kind}
use Rattle.regions.specs.declared.State.{State}
use Rattle.regions.specs.Meaning.{at}
use Rattle.block.specs.Block.{current, list_of, contents, good}
use Rattle.tables.specs.Commands.{Command}
use Rattle.tables.proofs.Answered.{Refuses}
use Rattle.memblock.specs.Calls.{outcome_of}
use Rattle.memblock.specs.Lists.{run, done}
use Rattle.memblock.proofs.Steps.{Done, step}
use Rattle.memblock.proofs.Agreeing.{through}

-- e is a good block with the settings of b that says what the commands ds make of each address of b
pub record Ran (ds : List Command) (b e : List ℕ) : Type 0 where
  pub is_good : good current e ≡ true
  pub settings : (contents current e).settings ≡ (contents current b).settings
  pub says : (k : Kind) (a : ℕ) → at (list_of (contents current e) k) a ≡ through ds k a (at (list_of (contents current b) k) a)

pub ran : (cs : List Command) (b : List ℕ) → good current b ≡ true → Ran (done cs b) b (run cs b)
unfolding run done through
ran [] b g = record { is_good = g; settings = refl; says = λ k a. refl }
ran (c ∷ cs) b g = go (step c b g) (λ e h. ran cs e h)
  where
    go : Refuses current c b ⊎ Done c b → ((e : List ℕ) → good current e ≡ true → Ran (done cs e) e (run cs e)) → Ran (done (c ∷ cs) b) b (run (c ∷ cs) b)
    go (inl r) ih = rw (r.number, r.block) (ih b g)
    go (inr r) ih =
        let e : List ℕ = (outcome_of c b).block in
        let m = r.block in
        let h = ih e m.is_good in
        rw r.number
        (record {
          is_good = h.is_good;
          settings = h.settings ∙ m.settings;
          says = λ k a. h.says k a ∙ ap (λ (v : State). through (done cs e) k a v) (m.says k a);
        })
