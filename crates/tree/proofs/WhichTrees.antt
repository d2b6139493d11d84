-- The structure blocks that are read are exactly those of trees; each is one tree's, and every tree that can be written has one. Assumes nothing.
use Prim.Native.Nat.{ℕ}
use mathlib.Core.Path.{◌≡◌, refl, sym, ◌∙◌}
use mathlib.Core.Bool.{true}
use mathlib.Core.List.{List}
use Rattle.tree.specs.Tokens.{tokens}
use Rattle.tree.specs.Form.{named, formed}
use Rattle.tree.specs.Content.{Content, nothing, node, contents, first}
use Rattle.tree.specs.Trees.{TreeIn}
use Rattle.tree.specs.WhichTrees.{SomeTree, WhichTreesSentence}
use Rattle.tree.proofs.Trees.{spelled_follows, spelled_says, follows_spells}
use Rattle.tree.proofs.Spelling.{spelt_tokens, formed_spelt}
use Rattle.tree.proofs.Writing.{tree_written}

module _ (strings structure name : List ℕ) (inner : Content) (t : TreeIn strings structure name inner) where
  tree_read : formed strings structure ≡ true
  unfolding formed
  tree_read = rw (spelt_tokens t.spelt) (spelled_follows t.ts name inner t.spells)

  tree_said : first (contents (tokens (named strings) structure)) ≡ node name inner nothing
  tree_said = rw (spelt_tokens t.spelt, spelled_says t.ts name inner t.spells) refl

read_tree : (strings structure : List ℕ) → formed strings structure ≡ true → SomeTree strings structure
unfolding formed
read_tree strings structure e =
    let r = follows_spells (tokens (named strings) structure) e in
    record {
      name = r.name;
      inner = r.inner;
      tree = record { ts = tokens (named strings) structure; spelt = formed_spelt strings structure e; spells = r.spells };
    }

pub which_trees : (strings : List ℕ) → WhichTreesSentence strings
which_trees strings = record {
  tree_read = tree_read strings;
  read_tree = read_tree strings;
  one_tree = λ structure n m x y s t. sym (tree_said strings structure n x s) ∙ tree_said strings structure m y t;
  tree_said = tree_said strings;
  every_tree = tree_written strings;
}
