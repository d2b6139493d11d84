-- Where a value stands, and the next node. Only inner contracts and proofs cite this module. Assumes nothing.
use Rattle.std.specs.Prelude.{ℕ, ◌+◌, ◌-◌, ◌≤◌, ◌<◌, ◌≡◌, true, false, List, [], ◌∷◌, Option, Some, None, length, drop, take}
use Rattle.tree.specs.Content.{nothing, node}
use Rattle.tree.specs.Steps.{rest_at, strip, content_at}
use Rattle.lookup.specs.Values.{Value, absent, present}
use Rattle.lookup.specs.declared.Found.{Found}
use Rattle.lookup.specs.declared.Child.{Child}

-- a value as a place in the structure block
abbrev pub value_at : List ℕ → Option Found → Value
value_at l (Some f) = present (take f.len (drop f.at l))
value_at l None = absent

abbrev pub inside : List ℕ → Option Found → Type 0
inside l (Some f) = f.at + f.len ≤ length l
inside l None = 0 ≤ length l

-- a value by where it stands
abbrev pub place_of : Option Found → Value
place_of (Some f) = present (f.at ∷ f.len ∷ [])
place_of None = absent

pub record PlacedIn (l : List ℕ) (v : Value) (r : Option Found) : Type 0 where
  pub is : v ≡ place_of r
  pub within : inside l r

pub record FoundIn (l : List ℕ) (v : Value) (r : Option Found) : Type 0 where
  pub is : v ≡ value_at l r
  pub within : inside l r

-- the first node from `at` on; what stands in it, and what follows it, goes on as a tree does
abbrev pub next_is : ℕ → List ℕ → ℕ → ℕ → Option Child → Type 0
next_is names l left at (Some c) =
    (strip (content_at names l at) ≡ node (take c.len (drop c.name l)) (content_at names l c.inner) (content_at names l c.after))
    × (rest_at names l (17 - left) false c.inner ≡ true) × (rest_at names l (16 - left) false c.after ≡ true)
    × (0 < left) × (c.name + c.len ≤ length l) × (c.inner ≤ length l) × (at < c.after) × (c.after ≤ length l)
next_is names l left at None = strip (content_at names l at) ≡ nothing
