-- What is got of a node: the service tree's first match at its path, else its own. Assumes nothing.
use Rattle.std.proofs.Common.{◌≡◌, ℕ, List, [], Option, Some, sym, ◌∙◌}
use Rattle.tree.specs.Steps.{content_at, places_at}
use Rattle.tree.specs.declared.reader.Tree.{Tree}
use Rattle.lookup.specs.Values.{path, Value, value_of}
use Rattle.lookup.specs.Steps.{PlacedIn, value_at}
use Rattle.lookup.specs.declared.Found.{Found}
use Rattle.lookup.proofs.Finding.{placed_found, own_found}
use Rattle.paths.specs.Lookup.{listing, first_of}
use Rattle.paths.proofs.Holding.{match_valued}
use Rattle.values.specs.Steps.{correction}

-- among a node's own
pub own_part : (strings : List ℕ) (names : ℕ) (l name : List ℕ) (at : ℕ) (r : Option Found) → PlacedIn l (value_of strings name (places_at names l at)) r
    → (v : Value) → v ≡ value_at l r → v ≡ value_of strings name (content_at names l at)
own_part strings names l name at r k v e = e ∙ sym (own_found strings names l name at r k).is

-- in the service tree
pub correction_part : (service : Option Tree) (t : Tree) → service ≡ Some t → (way : List (List ℕ)) (name : List ℕ) (r : Option Found)
    → PlacedIn t.structure.bytes.now (first_of (path way) name (listing t.strings.now [] (places_at t.structure.names t.structure.bytes.now t.root))) r
    → (v : Value) → v ≡ value_at t.structure.bytes.now r → v ≡ correction service way name
correction_part service t z way name r k v e =
    let p =
    placed_found t.structure.bytes.now _ _
    (match_valued t.structure.bytes.now t.strings.now (path way) name [] (places_at t.structure.names t.structure.bytes.now t.root)) r k in
    rw z (e ∙ sym p.is)
