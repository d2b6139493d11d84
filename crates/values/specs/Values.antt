-- The values of a board's tree (E8): what is got of a node's properties, which nodes are memory and which are reserved, and each condition of number 11 on
-- their values by its name. Assumes nothing.
use Rattle.std.specs.Prelude.{ℕ, ◌+◌, ◌*◌, ◌%◌, Bool, true, false, cond, ◌&&◌, List, [], ◌∷◌, ◌++◌, leb, eqb, length}
use Rattle.tree.specs.Words.{word}
use Rattle.tree.specs.Content.{Content}
use Rattle.lookup.specs.Values.{same, path, Node, children, Value, absent, present, value_of}
use Rattle.values.specs.Names.{address_cells, size_cells, device_type, memory, reg, numa_node_id, reserved_memory}

-- where a property of a node is looked for, by its name
abbrev pub Get : Type 0
Get = Node → List ℕ → Value

-- among the node's own: of equal names the first counts
abbrev pub own : List ℕ → Get
own names n name = value_of names name n.content

-- ---- values

-- just these bytes
abbrev pub is : List ℕ → Value → Bool
is bytes absent = false
is bytes (present v) = same v bytes

abbrev pub has : Value → Bool
has absent = false
has (present v) = true

-- an absent number is d
abbrev pub number_or : ℕ → Value → ℕ
number_or d absent = d
number_or d (present v) = word v

-- absent, or 4 bytes that are from low to high
abbrev pub number_from : ℕ → ℕ → Value → Bool
number_from low high absent = true
number_from low high (present v) = eqb (length v) 4 && (leb low (word v) && leb (word v) high)

-- absent, or a whole number of entries of so many bytes
abbrev pub whole_entries : ℕ → Value → Bool
whole_entries width absent = true
whole_entries width (present v) = eqb (length v % width) 0

-- ---- nodes

unfoldable pub every : (Node → Bool) → List Node → Bool
every p [] = true
every p (n ∷ ns) = p n && every p ns

unfoldable pub those : (Node → Bool) → List Node → List Node
those p [] = []
those p (n ∷ ns) = cond (p n) (n ∷ those p ns) (those p ns)

unfoldable pub joined : {A : Type 0} → (Node → List A) → List Node → List A
joined f [] = []
joined f (n ∷ ns) = f n ++ joined f ns

-- ---- a board: what is got of a node's properties, and what stands in the root

module _ (get : Get) (top : Content) where
  abbrev pub root_node : Node
  root_node = record { way = []; content = top }

  -- the root's children that are memory
  abbrev pub memories : List Node
  memories = those (λ n. is memory (get n device_type)) (children root_node)

  -- the children of any /reserved-memory
  abbrev pub reserved : List Node
  reserved = joined children (those (λ n. same (path n.way) (47 ∷ reserved_memory)) (children root_node))

  -- the root's cells hold for both
  abbrev pub a_cells : ℕ
  a_cells = number_or 2 (get root_node address_cells)

  abbrev pub s_cells : ℕ
  s_cells = number_or 1 (get root_node size_cells)

  -- ---- each condition of number 11 on the values

  -- 1 or 2, 4 bytes each
  abbrev pub root_cells : Bool
  root_cells = number_from 1 2 (get root_node address_cells) && number_from 1 2 (get root_node size_cells)

  -- each reg used is a whole number of entries
  abbrev pub whole_reg : Node → Bool
  whole_reg n = whole_entries (4 * (a_cells + s_cells)) (get n reg)

  -- each memory child's node id has 4 bytes, and is at most 63
  abbrev pub node_id : Node → Bool
  node_id n = number_from 0 63 (get n numa_node_id)

  unfoldable pub values : Bool
  values = root_cells && (every whole_reg memories && (every node_id memories && every whole_reg reserved))
