-- What the search for a path answers, node by node. Only inner contracts and proofs cite this module. Assumes nothing.
use Rattle.std.specs.Prelude.{ℕ, ◌+◌, ◌<◌, ◌≤◌, ◌≡◌, Bool, true, false, cond, ◌&&◌, List, [], ◌∷◌, Option, Some, None, eqb, length, drop}
use Rattle.std.specs.declared.ops.ControlFlow.{ControlFlow}
use Rattle.std.specs.declared.ops.ControlFlow.TheVariants.{Break, Continue}
use Rattle.tree.specs.Content.{Content, nothing, property, node}
use Rattle.tree.specs.Steps.{rest_at, places_at, ReadsOn}
use Rattle.tree.specs.declared.reader.Tree.{Tree}
use Rattle.lookup.specs.declared.Found.{Found}
use Rattle.lookup.specs.Steps.{PlacedIn}
use Rattle.lookup.specs.Values.{same, name_at, path, Value, absent, present}
use Rattle.paths.specs.Lookup.{or_else}
use Rattle.paths.specs.declared.ways.Way.{Way}
use Rattle.paths.specs.declared.ways.Way.TheVariants.{Top, Child, Below}

-- the names on the way
abbrev pub names_of : Way → List (List ℕ)
names_of Top = []
names_of (Child p) = p.now ∷ []
names_of (Below p q) = p.now ∷ q.now ∷ []

-- the path of the node that it leads to
abbrev pub way_of : Way → List ℕ
way_of w = path (names_of w)

-- the length of that path is a number
abbrev pub fits : Way → Type 0
fits w = length (way_of w) < 18446744073709551616

-- l begins with xs
unfoldable pub starts : List ℕ → List ℕ → Bool
starts [] l = true
starts (x ∷ xs) [] = false
starts (x ∷ xs) (y ∷ l) = eqb x y && starts xs l

-- the first match, with the rest of the path, and whether this is the node asked for
unfoldable pub seek : List ℕ → List ℕ → List ℕ → Bool → Content → Value
seek strings name rest here nothing = absent
seek strings name rest here (property at value c) = cond (here && same (name_at strings at) name) (present value) (seek strings name rest here c)
seek strings name rest here (node n inner c) =
    or_else (cond (starts (47 ∷ n) rest) (seek strings name (drop (length n + 1) rest) (eqb (length (drop (length n + 1) rest)) 0) inner) absent)
    (seek strings name rest here c)

-- what a search for the rest of a path finds from `at` on, with n nodes open: a match, no node, or none and where the node ends
abbrev pub looks : List ℕ → ℕ → List ℕ → List ℕ → List ℕ → ℕ → Bool → Bool → ℕ → ControlFlow (Option Found) ℕ → Type 0
looks strings names l name rest n late here at (Break (Some f)) = PlacedIn l (seek strings name rest here (places_at names l at)) (Some f)
looks strings names l name rest n late here at (Break None) = rest_at names l n late at ≡ false
looks strings names l name rest n late here at (Continue e) = (seek strings name rest here (places_at names l at) ≡ absent) × ReadsOn names l n late at (Some e)

-- what stands in the root of a tree begins there
pub record InRoot (t : Tree) : Type 0 where
  pub within : t.root ≤ length t.structure.bytes.now
  pub goes : rest_at t.structure.names t.structure.bytes.now 1 false t.root ≡ true
