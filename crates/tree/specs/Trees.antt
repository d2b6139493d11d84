-- Trees, the tokens that spell them, and the bytes that spell those. Assumes nothing.
use Rattle.std.specs.Prelude.{ℕ, suc, max, ◌+◌, ◌≤◌, ◌≡◌, Bool, true, false, ◌&&◌, List, [], ◌∷◌, ◌++◌, length, drop}
use Rattle.tree.specs.Words as v
use Rattle.tree.specs.Tokens as t
use Rattle.tree.specs.Content.{Content, nothing, property, node}

-- the tokens of what stands in a node, in order; a node's stand between its begin and its end
unfoldable pub spelled : Content → List t.Token
spelled nothing = []
spelled (property at value c) = t.property at value ∷ spelled c
spelled (node name inner c) = t.begin name ∷ (spelled inner ++ (t.end ∷ spelled c))

-- the tokens that are not no operation
unfoldable pub without_nops : List t.Token → List t.Token
without_nops [] = []
without_nops (t.begin name ∷ ts) = t.begin name ∷ without_nops ts
without_nops (t.end ∷ ts) = t.end ∷ without_nops ts
without_nops (t.property at value ∷ ts) = t.property at value ∷ without_nops ts
without_nops (t.nop ∷ ts) = without_nops ts
without_nops (t.stop ∷ ts) = t.stop ∷ without_nops ts
without_nops (t.broken ∷ ts) = t.broken ∷ without_nops ts

-- nodes deep
unfoldable pub depth : Content → ℕ
depth nothing = 0
depth (property at value c) = depth c
depth (node name inner c) = max (suc (depth inner)) (depth c)

-- no property
unfoldable pub only_nodes : Content → Bool
only_nodes nothing = true
only_nodes (property at value c) = false
only_nodes (node name inner c) = only_nodes c

-- no property behind a node, at any depth
unfoldable pub ordered : Content → Bool
ordered nothing = true
ordered (property at value c) = ordered c
ordered (node name inner c) = ordered inner && (ordered c && only_nodes c)

-- a root of that name with that content, no deeper than 16 nodes, properties before children; and the end token
pub record Spells (ts : List t.Token) (name : List ℕ) (inner : Content) : Type 0 where
  pub before : List t.Token
  pub ends : ts ≡ before ++ (t.stop ∷ [])
  pub says : without_nops before ≡ spelled (node name inner nothing)
  pub shallow : suc (depth inner) ≤ 16
  pub order : ordered inner ≡ true

-- tokens and the bytes that spell them: a token's number in 4 bytes, what belongs to it, and padding of any bytes to a multiple of 4
pub data Spelt (strings : List ℕ) : List t.Token → List ℕ → Type 0 where
  none : Spelt strings [] []
  -- a name, with no zero byte in it, and a zero byte
  begins : {ts : List t.Token} {l : List ℕ} (w name pad : List ℕ) → length w ≡ 4 → v.word w ≡ 1
      → t.to_zero name ≡ name → length pad + (length name + 1) ≡ t.padded (length name + 1)
      → Spelt strings ts l → Spelt strings (t.begin name ∷ ts) (w ++ (name ++ (0 ∷ (pad ++ l))))
  -- a value's length, where the property's name begins in the strings block, inside which it ends, and the value
  has : {ts : List t.Token} {l : List ℕ} (w n at value pad : List ℕ) → length w ≡ 4 → v.word w ≡ 3
      → length n ≡ 4 → v.word n ≡ length value → length at ≡ 4 → t.zero_ended (drop (v.word at) strings) ≡ true
      → length pad + length value ≡ t.padded (length value)
      → Spelt strings ts l → Spelt strings (t.property (v.word at) value ∷ ts) (w ++ (n ++ (at ++ (value ++ (pad ++ l)))))
  -- its number alone
  ends : {ts : List t.Token} {l : List ℕ} (w : List ℕ) → length w ≡ 4 → v.word w ≡ 2 → Spelt strings ts l → Spelt strings (t.end ∷ ts) (w ++ l)
  idles : {ts : List t.Token} {l : List ℕ} (w : List ℕ) → length w ≡ 4 → v.word w ≡ 4 → Spelt strings ts l → Spelt strings (t.nop ∷ ts) (w ++ l)
  stops : {ts : List t.Token} {l : List ℕ} (w : List ℕ) → length w ≡ 4 → v.word w ≡ 9 → Spelt strings ts l → Spelt strings (t.stop ∷ ts) (w ++ l)

-- a structure block that is a tree's, and the tree: a root of that name with that content
pub record TreeIn (strings structure : List ℕ) (name : List ℕ) (inner : Content) : Type 0 where
  pub ts : List t.Token
  pub spelt : Spelt strings ts structure
  pub spells : Spells ts name inner
