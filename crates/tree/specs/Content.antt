-- What a structure block says: nodes with their properties and children. Assumes nothing.
use Rattle.std.specs.Prelude.{ℕ, List, [], ◌∷◌, drop}
use Rattle.tree.specs.Tokens as t

-- what stands in a node, in order: properties (where the name begins in the strings block, the value) and nodes (the name, what stands in it)
pub data Content : Type 0 where
  nothing : Content
  property : ℕ → List ℕ → Content → Content
  node : List ℕ → Content → Content → Content

abbrev pub first : List Content → Content
first [] = nothing
first (c ∷ cs) = c

-- what is left of each open node from here on, the innermost first, and last what follows the root
unfoldable pub contents : List t.Token → List Content
contents [] = []
contents (t.begin name ∷ ts) = node name (first (contents ts)) (first (drop 1 (contents ts))) ∷ drop 2 (contents ts)
contents (t.end ∷ ts) = nothing ∷ contents ts
contents (t.property at value ∷ ts) = property at value (first (contents ts)) ∷ drop 1 (contents ts)
contents (t.nop ∷ ts) = contents ts
contents (t.stop ∷ ts) = nothing ∷ []
contents (t.broken ∷ ts) = []

-- what stands in the root
abbrev pub in_root : Content → Content
in_root nothing = nothing
in_root (property at value c) = nothing
in_root (node name inner c) = inner
