-- The conditions on the values of a tree, node by node: the root's children gone through once. Assumes nothing.
use Prim.Native.Nat.{ℕ, ◌+◌, ◌*◌}
use mathlib.Core.Path.{◌≡◌, refl, ap, ◌∙◌}
use mathlib.Core.Bool.{Bool, true, false, cond, ◌&&◌}
use mathlib.Core.List.{List, [], ◌∷◌, ◌++◌, append-nil}
use Rattle.tree.specs.Content.{Content, nothing, property, node}
use Rattle.lookup.specs.Values.{same, path, steps, Node, children_in, children}
use Rattle.values.specs.Names.{device_type, memory, reg, numa_node_id, reserved_memory}
use Rattle.values.specs.Values.{Get, is, number_from, whole_entries, every, those, joined, a_cells, s_cells, root_cells, values}
use Rattle.values.specs.Steps.{memory_ok, reserved_ok, child_ok, children_ok}

-- ---- lists of nodes

every_both : (p : Node → Bool) (xs ys : List Node) → every p (xs ++ ys) ≡ every p xs && every p ys
unfolding every
every_both p [] ys = refl
every_both p (x ∷ xs) ys = go (p x) (every_both p xs ys)
  where
    go : (t : Bool) → every p (xs ++ ys) ≡ every p xs && every p ys → t && every p (xs ++ ys) ≡ (t && every p xs) && every p ys
    go true e = e
    go false e = refl

-- the first node, if it is one of those
pub joined_first : {A : Type 0} (f : Node → List A) (t : Bool) (x : Node) (xs : List Node) → joined f (cond t (x ∷ xs) xs) ≡ cond t (f x) [] ++ joined f xs
unfolding joined
joined_first f true x xs = refl
joined_first f false x xs = refl

-- a child of the root by its path, and by its name
pub by_name : (name : List ℕ) → same (path (name ∷ [])) (47 ∷ reserved_memory) ≡ same name reserved_memory
unfolding path steps same
by_name name = rw (append-nil name) refl

module _ (get : Get) where
  abbrev is_memory : Node → Bool
  is_memory n = is memory (get n device_type)

  abbrev is_reserved : Node → Bool
  is_reserved n = same (path n.way) (47 ∷ reserved_memory)

  -- ---- the values

  module _ (w : ℕ) where
    abbrev whole_reg : Node → Bool
    whole_reg n = whole_entries w (get n reg)

    abbrev node_id : Node → Bool
    node_id n = number_from 0 63 (get n numa_node_id)

    reserved_values : (way : List (List ℕ)) (c : Content) → every whole_reg (children_in way c) ≡ reserved_ok get w way c
    unfolding every children_in reserved_ok
    reserved_values way nothing = refl
    reserved_values way (property at value c) = reserved_values way c
    reserved_values way (node name inner c) = ap (λ (t : Bool). whole_reg (record { way = way ++ (name ∷ []); content = inner }) && t) (reserved_values way c)

    -- one child's values apart from the others'
    apart : (m q : Bool) (x y z a b c : Bool)
        → cond m (x && a) a && (cond m (y && b) b && (cond q z true && c)) ≡ (cond m (x && y) true && cond q z true) && (a && (b && c))
    apart true true true true true a b c = refl
    apart true true true true false true true c = refl
    apart true true true true false true false c = refl
    apart true true true true false false b c = refl
    apart true true true false z true b c = refl
    apart true true true false z false b c = refl
    apart true true false y z a b c = refl
    apart true false true true z a b c = refl
    apart true false true false z true b c = refl
    apart true false true false z false b c = refl
    apart true false false y z a b c = refl
    apart false true x y true a b c = refl
    apart false true x y false true true c = refl
    apart false true x y false true false c = refl
    apart false true x y false false b c = refl
    apart false false x y z a b c = refl

    every_first : (p : Node → Bool) (t : Bool) (x : Node) (xs : List Node) → every p (cond t (x ∷ xs) xs) ≡ cond t (p x && every p xs) (every p xs)
    unfolding every
    every_first p true x xs = refl
    every_first p false x xs = refl

    abbrev asked : List Node → List Node → Bool
    asked ms rs = every whole_reg ms && (every node_id ms && every whole_reg rs)

    reserved_if : (q : Bool) (way : List (List ℕ)) (c : Content) → every whole_reg (cond q (children_in way c) []) ≡ cond q (reserved_ok get w way c) true
    unfolding every
    reserved_if true way c = reserved_values way c
    reserved_if false way c = refl

    -- a child, and the others
    child_values : (name : List ℕ) (inner : Content) (n : Node) → n ≡ record { way = name ∷ []; content = inner } → (ms rs : List Node)
        → asked (cond (is_memory n) (n ∷ ms) ms) (joined children (cond (is_reserved n) (n ∷ rs) rs)) ≡ child_ok get w name inner && asked ms (joined children rs)
    unfolding child_ok memory_ok
    child_values name inner n e ms rs =
        rw (
          every_first whole_reg (is_memory n) n ms,
          every_first node_id (is_memory n) n ms,
          joined_first children (is_reserved n) n rs,
          every_both whole_reg (cond (is_reserved n) (children n) []) (joined children rs),
          reserved_if (is_reserved n) n.way n.content,
        )
        (apart (is_memory n) (is_reserved n) (whole_reg n) (node_id n) (reserved_ok get w n.way n.content) (every whole_reg ms) (every node_id ms) (every whole_reg (joined children rs))
        ∙ rw (e, by_name name) refl)

    children_values : (c : Content) → asked (those is_memory (children_in [] c)) (joined children (those is_reserved (children_in [] c))) ≡ children_ok get w c
    unfolding every those joined children_in children_ok
    children_values nothing = refl
    children_values (property at value c) = children_values c
    children_values (node name inner c) =
        child_values name inner (record { way = name ∷ []; content = inner }) refl (those is_memory (children_in [] c)) (those is_reserved (children_in [] c))
        ∙ ap (λ (t : Bool). child_ok get w name inner && t) (children_values c)

  pub values_are : (top : Content) → values get top ≡ root_cells get top && children_ok get (4 * (a_cells get top + s_cells get top)) top
  unfolding values
  values_are top = ap (λ (t : Bool). root_cells get top && t) (children_values (4 * (a_cells get top + s_cells get top)) top)
