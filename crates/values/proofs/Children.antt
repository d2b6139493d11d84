-- The walks over the nodes in a node: what holds of all, from where the walk stands. Assumes nothing.
use Rattle.std.proofs.Common.{◌≡◌, ℕ, Bool, true, false, ◌&&◌, cond, List, [], ◌∷◌, ◌++◌, refl, sym, ap, ◌∙◌}
use Rattle.tree.specs.Content.{Content, nothing, property, node}
use Rattle.tree.specs.Steps.{strip}
use Rattle.tree.proofs.Booleans.{both}
use Rattle.lookup.specs.Values.{same}
use Rattle.values.specs.Names.{reg, reserved_memory}
use Rattle.values.specs.Values.{Get, whole_entries}
use Rattle.values.specs.Steps.{stands, node_at, First, FirstChild, FirstBelow, memory_ok, reserved_ok, child_ok, children_ok}
use Rattle.values.specs.declared.Trees.{Trees}
use Rattle.values.specs.declared.Child.{Child}
use Rattle.values.specs.declared.Node as n

-- ---- what is gathered node by node

-- all is gathered of what stands in a node: none where nothing does, one of each node in it by its name and what stands in it, joined in order
pub record Gathered {A : Type 0} (none : A) (join : A → A → A) (all : Content → A) (one : List ℕ → Content → A) : Type 0 where
  pub on_nothing : all nothing ≡ none
  pub on_property : (at : ℕ) (value : List ℕ) (c : Content) → all (property at value c) ≡ all c
  pub on_node : (name : List ℕ) (inner c : Content) → all (node name inner c) ≡ join (one name inner) (all c)

module _ {A : Type 0} (none : A) (join : A → A → A) (all : Content → A) (one : List ℕ → Content → A) (w : Gathered none join all one) where
  on_strip : (c : Content) → all c ≡ all (strip c)
  unfolding strip
  on_strip nothing = refl
  on_strip (property at value c) = w.on_property at value c ∙ on_strip c
  on_strip (node name inner c) = refl

  module _ (t : Trees) (at : ℕ) where
    pub gathered_last : strip (stands t at) ≡ nothing → all (stands t at) ≡ none
    gathered_last e = on_strip (stands t at) ∙ ap all e ∙ w.on_nothing

    pub gathered_next : (n : ℕ) (name : List ℕ) (inner after : ℕ) → First t n at name inner after
        → all (stands t at) ≡ join (one name (stands t inner)) (all (stands t after))
    gathered_next n name inner after f = on_strip (stands t at) ∙ ap all f.is ∙ w.on_node name (stands t inner) (stands t after)

-- ---- a test of each node

abbrev Tested : (Content → Bool) → (List ℕ → Content → Bool) → Type 0
Tested all one = Gathered true ◌&&◌ all one

module _ (all : Content → Bool) (one : List ℕ → Content → Bool) (w : Tested all one) (t : Trees) (at : ℕ) (whole : Bool) (inv : whole ≡ all (stands t at)) where
  test_last : strip (stands t at) ≡ nothing → true ≡ whole
  test_last e = sym (inv ∙ gathered_last true ◌&&◌ all one w t at e)

  module _ (n : ℕ) (name : List ℕ) (inner after : ℕ) (f : First t n at name inner after) where
    test_one : whole ≡ one name (stands t inner) && all (stands t after)
    test_one = inv ∙ gathered_next true ◌&&◌ all one w t at n name inner after f

    module _ (b : Bool) (p : b ≡ one name (stands t inner)) where
      test_bad : b ≡ false → false ≡ whole
      test_bad e = sym (test_one ∙ rw (← p, e) refl)

      test_on : b ≡ true → whole ≡ all (stands t after)
      test_on e = test_one ∙ rw (← p, e) refl

    -- what holds of the whole holds of the node and of what follows it
    test_holds : whole ≡ true → (one name (stands t inner) ≡ true) × (all (stands t after) ≡ true)
    test_holds e = both (one name (stands t inner)) (all (stands t after)) (sym test_one ∙ e)

module _ (get : Get) (width : ℕ) where
  -- ---- the nodes in a /reserved-memory

  reserved_tested : (way : List (List ℕ))
      → Tested (reserved_ok get width way) (λ name c. whole_entries width (get (record { way = way ++ (name ∷ []); content = c }) reg))
  unfolding reserved_ok
  reserved_tested way = record { on_nothing = refl; on_property = λ at value c. refl; on_node = λ name inner c. refl }

  module _ (t : Trees) (outer : List ℕ) (start at : ℕ)
      (inv : reserved_ok get width (outer ∷ []) (stands t start) ≡ reserved_ok get width (outer ∷ []) (stands t at)) where
    pub reserved_last : strip (stands t at) ≡ nothing → true ≡ reserved_ok get width (outer ∷ []) (stands t start)
    reserved_last = test_last _ _ (reserved_tested (outer ∷ [])) t at _ inv

    module _ (x : n.Node) (after : ℕ) (f : FirstBelow t outer at x after) (b : Bool) (p : b ≡ whole_entries width (get (node_at t x) reg)) where
      by_name : b ≡ whole_entries width (get (record { way = outer ∷ f.name ∷ []; content = stands t x.at }) reg)
      by_name = p ∙ rw f.way refl

      pub reserved_bad : b ≡ false → false ≡ reserved_ok get width (outer ∷ []) (stands t start)
      reserved_bad = test_bad _ _ (reserved_tested (outer ∷ [])) t at _ inv 2 f.name x.at after f.first b by_name

      pub reserved_on : b ≡ true → reserved_ok get width (outer ∷ []) (stands t start) ≡ reserved_ok get width (outer ∷ []) (stands t after)
      reserved_on = test_on _ _ (reserved_tested (outer ∷ [])) t at _ inv 2 f.name x.at after f.first b by_name

  -- ---- a child of the root

  -- a child whose values hold, if it is memory
  pub child_memory : (name : List ℕ) (c : Content) → child_ok get width name c ≡ true → memory_ok get width (record { way = name ∷ []; content = c }) ≡ true
  unfolding child_ok
  child_memory name c h =
      (both (memory_ok get width (record { way = name ∷ []; content = c })) (cond (same name reserved_memory) (reserved_ok get width (name ∷ []) c) true) h).0

  -- ---- the children of the root

  children_tested : Tested (children_ok get width) (child_ok get width)
  unfolding children_ok
  children_tested = record { on_nothing = refl; on_property = λ at value c. refl; on_node = λ name inner c. refl }

  module _ (t : Trees) (start at : ℕ) (inv : children_ok get width (stands t start) ≡ children_ok get width (stands t at)) where
    pub children_last : strip (stands t at) ≡ nothing → true ≡ children_ok get width (stands t start)
    children_last = test_last _ _ children_tested t at _ inv

    module _ (x : Child) (after : ℕ) (f : FirstChild t at x after) (b : Bool) (p : b ≡ child_ok get width x.name.now (stands t x.at)) where
      pub children_bad : b ≡ false → false ≡ children_ok get width (stands t start)
      children_bad = test_bad _ _ children_tested t at _ inv 1 x.name.now x.at after f.first b p

      pub children_on : b ≡ true → children_ok get width (stands t start) ≡ children_ok get width (stands t after)
      children_on = test_on _ _ children_tested t at _ inv 1 x.name.now x.at after f.first b p

  module _ (t : Trees) (at : ℕ) (inv : children_ok get width (stands t at) ≡ true) (x : Child) (after : ℕ) (f : FirstChild t at x after) where
    pub child_holds : child_ok get width x.name.now (stands t x.at) ≡ true
    child_holds = (test_holds _ _ children_tested t at _ refl 1 x.name.now x.at after f.first inv).0

    pub rest_holds : children_ok get width (stands t after) ≡ true
    rest_holds = (test_holds _ _ children_tested t at _ refl 1 x.name.now x.at after f.first inv).1
