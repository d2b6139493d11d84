-- The properties and the nodes in a node of a tree. Assumes nothing.
use Rattle.std.specs.Prelude.{ℕ, Bool, true, false, cond, ◌&&◌, List, [], ◌∷◌, ◌++◌, eqb, drop}
use Rattle.tree.specs.Tokens.{to_zero}
use Rattle.tree.specs.Content.{Content, nothing, property, node}

-- equal bytes
unfoldable pub same : List ℕ → List ℕ → Bool
same [] [] = true
same [] (y ∷ ys) = false
same (x ∷ xs) [] = false
same (x ∷ xs) (y ∷ ys) = eqb x y && same xs ys

-- a property's name, without its zero byte
abbrev pub name_at : List ℕ → ℕ → List ℕ
name_at strings at = to_zero (drop at strings)

-- a property's value, where there is one
pub data Value : Type 0 where
  absent : Value
  present : List ℕ → Value

-- a node's own property of that name: of equal names the first counts
unfoldable pub value_of : List ℕ → List ℕ → Content → Value
value_of strings name nothing = absent
value_of strings name (property at value c) = cond (same (name_at strings at) name) (present value) (value_of strings name c)
value_of strings name (node n inner c) = absent

-- a node: the names on the way to it from the root, its own last and the root's not among them, and what stands in it
pub record Node : Type 0 where
  pub way : List (List ℕ)
  pub content : Content

-- the nodes in a node, in order
unfoldable pub children_in : List (List ℕ) → Content → List Node
children_in way nothing = []
children_in way (property at value c) = children_in way c
children_in way (node name inner c) = record { way = way ++ (name ∷ []); content = inner } ∷ children_in way c

abbrev pub children : Node → List Node
children n = children_in n.way n.content

-- a / and the whole name for each node on the way
unfoldable pub steps : List (List ℕ) → List ℕ
steps [] = []
steps (name ∷ names) = (47 ∷ name) ++ steps names

-- the path of a node: / for the root
unfoldable pub path : List (List ℕ) → List ℕ
path [] = 47 ∷ []
path (name ∷ names) = steps (name ∷ names)
