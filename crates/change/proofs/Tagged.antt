-- Lists of one tag: what they say of an address. Assumes nothing.
use Prim.Native.Nat.{ℕ}
use mathlib.Core.Path.{◌≡◌, refl, ap}
use mathlib.Core.Bool.{Bool, true, false, cond}
use mathlib.Core.List.{List, [], ◌∷◌}
use mathlib.Core.Logic.{◌⊎◌, inl, inr}
use Rattle.std.proofs.lemmas.List.Elements.{All-head, All-tail}
use Rattle.regions.specs.declared.Tag.{Tag}
use Rattle.regions.specs.declared.Region.{Region}
use Rattle.regions.specs.declared.State.TheVariants.{Absent, Present}
use Rattle.regions.specs.declared.Change.TheVariants.{Fill}
use Rattle.regions.specs.Meaning.{end, inside, at}
use Rattle.regions.specs.Changes.{change}
use Rattle.change.specs.Steps.{AllTagged}

-- each address is absent or has the tag
pub tagged_at : (t : Tag) (xs : List Region) (a : ℕ) → AllTagged t xs → (at xs a ≡ Absent) ⊎ (at xs a ≡ Present t)
unfolding at
tagged_at t [] a h = inl refl
tagged_at t (r ∷ rs) a h = go (inside r.base.0 (end r) a) (tagged_at t rs a (All-tail (λ (x : Region). x.tag ≡ t) r rs h))
  where
    go : (b : Bool) → (at rs a ≡ Absent) ⊎ (at rs a ≡ Present t) → (cond b (Present r.tag) (at rs a) ≡ Absent) ⊎ (cond b (Present r.tag) (at rs a) ≡ Present t)
    go true ih = inr (ap Present (All-head (λ (x : Region). x.tag ≡ t) r rs h))
    go false ih = ih

-- so filled with the tag it has it
pub filled_at : (t : Tag) (xs : List Region) (a : ℕ) → AllTagged t xs → change (Fill t) (at xs a) ≡ Present t
unfolding change
filled_at t xs a h = go (tagged_at t xs a h)
  where
    go : (at xs a ≡ Absent) ⊎ (at xs a ≡ Present t) → change (Fill t) (at xs a) ≡ Present t
    go (inl e) = rw e
    go (inr e) = rw e
