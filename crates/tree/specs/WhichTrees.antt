-- E8: "State which trees are read without describing the reader." Assumes nothing.
use Rattle.std.specs.Prelude.{ℕ, suc, ◌≤◌, ◌≡◌, Bool, true, ◌&&◌, List, ltb, eqb, length, drop}
use Rattle.std.proofs.Math.Pow.{are_bytes}
use Rattle.tree.specs.Tokens.{to_zero, zero_ended, tokens}
use Rattle.tree.specs.Form.{named, formed}
use Rattle.tree.specs.Content.{Content, nothing, property, node, contents, first}
use Rattle.tree.specs.Trees.{depth, ordered, TreeIn}

-- what can be written down: names and values of bytes, names without a zero byte, properties whose names end inside the strings block, numbers of 32 bits
unfoldable pub writable : List ℕ → Content → Bool
writable strings nothing = true
writable strings (property at value c) =
    (ltb at 4294967296 && zero_ended (drop at strings)) && ((ltb (length value) 4294967296 && are_bytes value) && writable strings c)
writable strings (node name inner c) = (eqb (length (to_zero name)) (length name) && are_bytes name) && (writable strings inner && writable strings c)

-- a tree that a structure block is
pub record SomeTree (strings structure : List ℕ) : Type 0 where
  pub name : List ℕ
  pub inner : Content
  pub tree : TreeIn strings structure name inner

-- a structure block that is a tree's: bytes
pub record SomeBlock (strings name : List ℕ) (inner : Content) : Type 0 where
  pub structure : List ℕ
  pub bytes : are_bytes structure ≡ true
  pub tree : TreeIn strings structure name inner

-- the structure blocks that are read are exactly those of trees; each is one tree's, and says it; every tree that can be written, no deeper than 16 nodes and
-- with properties before children, has a block of bytes
pub record WhichTreesSentence (strings : List ℕ) : Type 0 where
  pub tree_read : (structure name : List ℕ) (inner : Content) → TreeIn strings structure name inner → formed strings structure ≡ true
  pub read_tree : (structure : List ℕ) → formed strings structure ≡ true → SomeTree strings structure
  pub one_tree : (structure n m : List ℕ) (x y : Content) → TreeIn strings structure n x → TreeIn strings structure m y → node n x nothing ≡ node m y nothing
  pub tree_said : (structure name : List ℕ) (inner : Content) → TreeIn strings structure name inner
      → first (contents (tokens (named strings) structure)) ≡ node name inner nothing
  pub every_tree : (name : List ℕ) (inner : Content) → writable strings (node name inner nothing) ≡ true → suc (depth inner) ≤ 16 → ordered inner ≡ true
      → SomeBlock strings name inner
