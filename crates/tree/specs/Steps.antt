-- What the steps of the reader answer: a token and the next place, what is left to follow, what is left of the open nodes. Only inner contracts and proofs
-- cite this module. Assumes nothing.
use Rattle.std.specs.Prelude.{ℕ, ◌+◌, ◌-◌, ◌≤◌, ◌<◌, ◌≡◌, Bool, true, false, List, [], ◌∷◌, Option, Some, None, length, drop, take}
use Rattle.tree.specs.Tokens as t
use Rattle.tree.specs.Form.{follows, named}
use Rattle.tree.specs.Content.{Content, nothing, property, node, contents, first, in_root}
use Rattle.tree.specs.Places.{located}
use Rattle.tree.specs.Header.{structure, strings}
use Rattle.tree.specs.declared.tokens.Token.{Token}
use Rattle.tree.specs.declared.tokens.Token.TheVariants.{Begin, End, Property, Nop, Stop, Broken}
use Rattle.tree.specs.declared.tokens.Step.{Step}
use Rattle.tree.specs.declared.reader.Tree.{Tree}

-- a token by its numbers alone
abbrev pub shape : t.Token → Token
shape (t.begin name) = Begin (length name)
shape t.end = End
shape (t.property at value) = Property at (length value)
shape t.nop = Nop
shape t.stop = Stop
shape t.broken = Broken

-- the token at `at`, and where the next is, no further than the end
pub record StepOf (x : t.Token) (l : List ℕ) (at : ℕ) (r : Step) : Type 0 where
  pub is : r.token ≡ shape x
  pub rest : drop r.next l ≡ drop (t.size x) (drop at l)
  pub forward : at < length l → at < r.next
  pub within : r.next ≤ length l

-- what is left to follow from `at`
unfoldable pub rest_at : ℕ → List ℕ → ℕ → Bool → ℕ → Bool
rest_at names l n late at = follows n late (t.tokens names (drop at l))

-- past a node, with n nodes open then
unfoldable pub answers : ℕ → List ℕ → ℕ → Option ℕ → Bool
answers names l n (Some e) = rest_at names l n true e
answers names l n None = false

-- what is left of each open node from `at` on, each value by where it stands
unfoldable pub contents_at : ℕ → List ℕ → ℕ → List Content
contents_at names l at = contents (located at (t.tokens names (drop at l)))

-- what is left of the innermost one
abbrev pub places_at : ℕ → List ℕ → ℕ → Content
places_at names l at = first (contents_at names l at)

-- the bytes by where they stand
abbrev pub bytes_at : List ℕ → List ℕ → List ℕ
bytes_at l [] = []
bytes_at l (at ∷ []) = []
bytes_at l (at ∷ (n ∷ rest)) = take n (drop at l)

unfoldable pub valued : List ℕ → Content → Content
valued l nothing = nothing
valued l (property at place c) = property at (bytes_at l place) (valued l c)
valued l (node name inner c) = node name (valued l inner) (valued l c)

-- two numbers that say where bytes of l stand
pub record Spot (l place : List ℕ) : Type 0 where
  pub at : ℕ
  pub n : ℕ
  pub is : place ≡ at ∷ n ∷ []
  pub within : at + n ≤ length l

abbrev pub Inside : List ℕ → Content → Type 0
Inside l nothing = 0 ≤ length l
Inside l (property at place c) = Spot l place × Inside l c
Inside l (node name inner c) = Inside l inner × Inside l c

-- the same with the values
abbrev pub content_at : ℕ → List ℕ → ℕ → Content
content_at names l at = valued l (places_at names l at)

-- where the node ends, and that nothing of it is left there
abbrev pub ends : ℕ → List ℕ → ℕ → Option ℕ → Type 0
ends names l at (Some e) = (at ≤ e) × ((e ≤ length l) × (drop 1 (contents_at names l at) ≡ contents_at names l e))
ends names l at None = 0 ≤ length l

pub record ReadsOn (names : ℕ) (l : List ℕ) (n : ℕ) (late : Bool) (at : ℕ) (r : Option ℕ) : Type 0 where
  pub is : rest_at names l n late at ≡ answers names l (n - 1) r
  pub end : ends names l at r

-- what stands behind the properties in front
unfoldable pub strip : Content → Content
strip nothing = nothing
strip (property at value c) = strip c
strip (node n inner c) = node n inner c

-- behind the properties
pub record Behind (names : ℕ) (l : List ℕ) (at r : ℕ) : Type 0 where
  pub is : (n : ℕ) → 0 < n → rest_at names l n false at ≡ rest_at names l n true r
  pub left : drop 1 (contents_at names l at) ≡ drop 1 (contents_at names l r)
  pub nodes : strip (places_at names l at) ≡ places_at names l r
  pub stands : t.token names (drop r l) ≡ t.nop → ⊥
  pub forward : at ≤ r
  pub within : r ≤ length l

-- behind n bytes from `at` and their padding, no further than the end
pub record Padded (len at n r : ℕ) : Type 0 where
  pub rest : (l : List ℕ) → length l ≡ len → drop r l ≡ drop (t.padded n) (drop at l)
  pub forward : at + n ≤ r
  pub within : r ≤ len

-- past the root's name: what may follow there, and what stands in the root
pub record RootPast (names : ℕ) (l : List ℕ) (at : ℕ) : Type 0 where
  pub is : rest_at names l 0 false 0 ≡ rest_at names l 1 false at
  pub says : in_root (places_at names l 0) ≡ places_at names l at
  pub within : at ≤ length l

abbrev pub RootIs : ℕ → List ℕ → Option ℕ → Type 0
RootIs names l (Some at) = RootPast names l at
RootIs names l None = rest_at names l 0 false 0 ≡ false

-- the tree that a block is, with its strings block
pub record RootOf (strings l : List ℕ) (t : Tree) : Type 0 where
  pub strings_are : t.strings.now ≡ strings
  pub bytes_are : t.structure.bytes.now ≡ l
  pub names : t.structure.names ≡ named strings
  pub is : RootPast t.structure.names l t.root
  pub goes : rest_at t.structure.names l 1 false t.root ≡ true

-- the tree in bytes that have the form
pub record TreeOf (tree : List ℕ) (t : Tree) : Type 0 where
  pub root : RootOf (strings tree) (structure tree) t
  pub short : length t.structure.bytes.now < 4294967296
