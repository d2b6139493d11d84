-- Where the commands that cover an address are all the same, it ends changed once, as document 01 says; where none does, as it was. Assumes nothing.
use Prim.Native.Nat.{ℕ}
use mathlib.Core.Path.{◌≡◌, refl, sym, ap, ◌∙◌}
use mathlib.Core.Bool.{Bool, true, false}
use mathlib.Core.List.Memᴰ
use mathlib.Core.List.{List, [], ◌∷◌, Memᴰ}
use Rattle.address.proofs.Tests.{clash}
use Rattle.regions.specs.declared.Kind.{Kind}
use Rattle.regions.specs.declared.State.{State}
use Rattle.regions.specs.declared.State.TheVariants.{Absent, Present}
use Rattle.regions.specs.Lists.{legal_tag}
use Rattle.regions.specs.Changes.{change}
use Rattle.regions.proofs.Flags.{set_twice, clear_twice}
use Rattle.regions.proofs.Push.{same_true}
use Rattle.regions.proofs.Legal.{legal_state}
use Rattle.tables.specs.declared.commands.Verb.{Verb}
use Rattle.tables.specs.declared.commands.Verb.TheVariants.{Add, Remove, Mark, Unmark, Reserve, Free}
use Rattle.range.specs.Outcomes.{tag}
use Rattle.tables.specs.Commands.{Command, table, change_of}
use Rattle.memblock.specs.Lists.{says}
use Rattle.memblock.proofs.Steps.{works, made}

-- ---- a command made twice is made once

change_twice : (w : Verb) (v : State) → change (change_of w) (change (change_of w) v) ≡ change (change_of w) v
unfolding change
change_twice (Add t) Absent = refl
change_twice (Add t) (Present u) = refl
change_twice Remove v = refl
change_twice (Mark f) Absent = refl
change_twice (Mark f) (Present t) = rw (set_twice f)
change_twice (Unmark f) Absent = refl
change_twice (Unmark f) (Present t) = rw (clear_twice f)
change_twice Reserve Absent = refl
change_twice Reserve (Present u) = refl
change_twice Free v = refl

-- what a command makes of a legal state is what document 01 says: in the taken table every tag is 0, 0, so reserve gives that tag
pub change_says : (w : Verb) (v : State) → legal_state (table w) v ≡ true → change (change_of w) v ≡ says w v
unfolding change says legal_tag
change_says (Add t) Absent e = refl
change_says (Add t) (Present u) e = refl
change_says Remove v e = refl
change_says (Mark f) Absent e = refl
change_says (Mark f) (Present t) e = refl
change_says (Unmark f) Absent e = refl
change_says (Unmark f) (Present t) e = refl
change_says Reserve Absent e = refl
change_says Reserve (Present u) e = ap Present (same_true u (tag 0 0) e)
change_says Free v e = refl

-- ---- a list of commands at one address

-- the commands in order, at the address a of the table k that stood as v
unfoldable pub through : List Command → Kind → ℕ → State → State
through [] k a v = v
through (d ∷ ds) k a v = through ds k a (made d k a v)

module _ (k : Kind) (a : ℕ) where
  made_in : (d : Command) (v : State) → works d k a ≡ true → made d k a v ≡ change (change_of d.verb) v
  unfolding made
  made_in d v e = rw e

  made_out : (d : Command) (v : State) → works d k a ≡ false → made d k a v ≡ v
  unfolding made
  made_out d v e = rw e

  -- no command of the list works here
  abbrev pub None : List Command → Type 0
  None ds = (d : Command) → Memᴰ d ds → works d k a ≡ false

  -- those that work here are all the command w
  abbrev pub Only : Verb → List Command → Type 0
  Only w ds = (d : Command) → Memᴰ d ds → works d k a ≡ true → d.verb ≡ w

  pub through_none : (ds : List Command) (v : State) → None ds → through ds k a v ≡ v
  unfolding through
  through_none [] v o = refl
  through_none (d ∷ ds) v o =
      rw (made_out d v (o d (Memᴰ.head refl))) (through_none ds v (λ e m. o e (Memᴰ.tail m)))

  -- what w leaves as it is stays so
  settled : (w : Verb) (ds : List Command) (v : State) → Only w ds → change (change_of w) v ≡ v → through ds k a v ≡ v
  unfolding through
  settled w [] v o h = refl
  settled w (d ∷ ds) v o h = rw (go (works d k a) refl) (settled w ds v (λ e m. o e (Memᴰ.tail m)) h)
    where
      go : (b : Bool) → works d k a ≡ b → made d k a v ≡ v
      go true e = made_in d v e ∙ ap (λ (x : Verb). change (change_of x) v) (o d (Memᴰ.head refl) e) ∙ h
      go false e = made_out d v e

  pub through_only : (w : Verb) (ds : List Command) (v : State) → Only w ds → (d : Command) → Memᴰ d ds → works d k a ≡ true
      → through ds k a v ≡ change (change_of w) v
  unfolding through
  through_only w [] v o d m e = absurd (Memᴰ.not-nil m)
  through_only w (x ∷ ds) v o d m e =
      go (works x k a) refl m (λ n. through_only w ds v (λ y i. o y (Memᴰ.tail i)) d n e)
      (λ u h. settled w ds u (λ y i. o y (Memᴰ.tail i)) h)
    where
      go : (b : Bool) → works x k a ≡ b → Memᴰ d (x ∷ ds) → (Memᴰ d ds → through ds k a v ≡ change (change_of w) v)
          → ((u : State) → change (change_of w) u ≡ u → through ds k a u ≡ u)
          → through ds k a (made x k a v) ≡ change (change_of w) v
      go true f n ih st =
          let g : made x k a v ≡ change (change_of w) v = made_in x v f ∙ ap (λ (y : Verb). change (change_of y) v) (o x (Memᴰ.head refl) f) in
          rw g (st (change (change_of w) v) (change_twice w v))
      go false f (Memᴰ.head p) ih st = absurd (clash (works x k a) (ap (λ (y : Command). works y k a) (sym p) ∙ e) f)
      go false f (Memᴰ.tail n) ih st = rw (made_out x v f) (ih n)
