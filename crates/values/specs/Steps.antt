-- What is got of a node of the board by where it stands, and the values of the root's children one by one. Only inner contracts and proofs cite this
-- module. Assumes nothing.
use Rattle.std.specs.Prelude.{ℕ, ◌≤◌, ◌<◌, ◌≡◌, Bool, true, false, cond, ◌&&◌, List, [], ◌∷◌, ◌++◌, Option, Some, None, IfSome, eqb, length}
use Rattle.std.specs.Borrow.{Bor}
use Rattle.tree.specs.Words.{word}
use Rattle.tree.specs.Content.{Content, nothing, property, node}
use Rattle.tree.specs.Steps.{rest_at, content_at, strip}
use Rattle.tree.specs.declared.reader.Tree.{Tree}
use Rattle.lookup.specs.Values as n
use Rattle.lookup.specs.Values.{same, path, Value, absent, present}
use Rattle.paths.specs.Lookup.{listing, first_of, or_else}
use Rattle.paths.specs.Steps.{names_of, fits, InRoot}
use Rattle.values.specs.Names.{device_type, memory, reg, numa_node_id, reserved_memory}
use Rattle.values.specs.Values.{Get, own, is, number_or, number_from, whole_entries}
use Rattle.values.specs.declared.Trees.{Trees}
use Rattle.values.specs.declared.Node.{Node}
use Rattle.values.specs.declared.Child as s

-- ---- nodes by where they stand

-- what is read: a service tree that has the form, where there is one, and a board's of less than 2^32 bytes
pub record Sources (t : Trees) : Type 0 where
  pub service : IfSome t.service InRoot
  pub short : length t.board.structure.bytes.now < 4294967296

-- what stands from `at` on in a node of the board
abbrev pub stands : Trees → ℕ → Content
stands t at = content_at t.board.structure.names t.board.structure.bytes.now at

-- there it goes on as a tree does, with n nodes open
pub record Goes (t : Trees) (n at : ℕ) : Type 0 where
  pub within : at ≤ length t.board.structure.bytes.now
  pub is : rest_at t.board.structure.names t.board.structure.bytes.now n false at ≡ true

-- a node of the board as it is asked for
abbrev pub node_at : Trees → Node → n.Node
node_at t x = record { way = names_of x.way; content = stands t x.at }

-- one that no name leads to
abbrev pub root_at : Trees → ℕ → n.Node
root_at t at = record { way = []; content = stands t at }

pub record AtNode (t : Trees) (x : Node) : Type 0 where
  pub trees : Sources t
  pub fits : fits x.way
  pub within : x.at ≤ length t.board.structure.bytes.now

pub record AtChild (t : Trees) (x : s.Child) : Type 0 where
  pub trees : Sources t
  pub short : length x.name.now < 4294967296
  pub goes : Goes t 2 x.at

-- what stands from `at` on in a node of the board, where n nodes are open: first a node by its name and what stands in it from `inner` on, and the rest
pub record First (t : Trees) (n at : ℕ) (name : List ℕ) (inner after : ℕ) : Type 0 where
  pub is : strip (stands t at) ≡ node name (stands t inner) (stands t after)
  pub goes : Goes t n after
  pub forward : at < after

pub record FirstChild (t : Trees) (at : ℕ) (x : s.Child) (after : ℕ) : Type 0 where
  pub first : First t 1 at x.name.now x.at after
  pub child : AtChild t x

abbrev pub NextChild : Trees → ℕ → Option (s.Child × ℕ) → Type 0
NextChild t at None = strip (stands t at) ≡ nothing
NextChild t at (Some p) = FirstChild t at p.0 p.1

pub record FirstBelow (t : Trees) (outer : List ℕ) (at : ℕ) (x : Node) (after : ℕ) : Type 0 where
  pub name : List ℕ
  pub way : names_of x.way ≡ outer ∷ name ∷ []
  pub first : First t 2 at name x.at after
  pub node : AtNode t x

abbrev pub NextBelow : Trees → List ℕ → ℕ → Option (Node × ℕ) → Type 0
NextBelow t outer at None = strip (stands t at) ≡ nothing
NextBelow t outer at (Some p) = FirstBelow t outer at p.0 p.1

-- ---- what is got

-- the first match at a path in a service tree, if there is one
abbrev pub correction : Option Tree → List (List ℕ) → List ℕ → Value
correction None way name = absent
correction (Some t) way name = first_of (path way) name (listing t.strings.now [] (content_at t.structure.names t.structure.bytes.now t.root))

-- of a node's properties: the service tree's first
abbrev pub corrected : Option Tree → Get → Get
corrected service get n name = or_else (correction service n.way name) (get n name)

abbrev pub gets : Trees → Get
gets t = corrected t.service (own t.board.strings.now)

-- a value as a part of a tree
abbrev pub found : Option (Bor (List ℕ)) → Value
found None = absent
found (Some v) = present v.now

-- ---- values

-- a property as a number
abbrev pub told : ℕ → Value → Option ℕ
told d absent = Some d
told d (present v) = cond (eqb (length v) 4) (Some (word v)) None

-- 1 or 2
abbrev pub cells_of : ℕ → Value → Option ℕ
cells_of d v = cond (number_from 1 2 v) (Some (number_or d v)) None

-- ---- the values of the root's children, one by one

module _ (get : Get) (w : ℕ) where
  unfoldable pub memory_ok : n.Node → Bool
  memory_ok n = cond (is memory (get n device_type)) (whole_entries w (get n reg) && number_from 0 63 (get n numa_node_id)) true

  unfoldable pub reserved_ok : List (List ℕ) → Content → Bool
  reserved_ok way nothing = true
  reserved_ok way (property at value c) = reserved_ok way c
  reserved_ok way (node name inner c) = whole_entries w (get (record { way = way ++ (name ∷ []); content = inner }) reg) && reserved_ok way c

  unfoldable pub child_ok : List ℕ → Content → Bool
  child_ok name c = memory_ok (record { way = name ∷ []; content = c }) && cond (same name reserved_memory) (reserved_ok (name ∷ []) c) true

  unfoldable pub children_ok : Content → Bool
  children_ok nothing = true
  children_ok (property at value c) = children_ok c
  children_ok (node name inner c) = child_ok name inner && children_ok c
