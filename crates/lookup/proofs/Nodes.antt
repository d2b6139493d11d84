-- The walk to the next node in a node: the nodes from where it began are what stands where it is. Assumes nothing.
use Prim.Native.Nat.{ℕ, suc, ◌+◌, ◌-◌, ◌≤◌, ◌<◌}
use mathlib.Core.Path.{◌≡◌, refl, sym, ap, ◌∙◌}
use mathlib.Core.Bool.{Bool, true, false}
use mathlib.Core.List.{List, [], ◌∷◌}
use native.Mathlib.Omega.{arith}
use lib.Dec.{ltb}
use lib.ListN.{length, drop, take}
use borrow.Author.Tests.{lt-ltb, ne_eqb, ltb-true, ltb-false}
use Rattle.tree.specs.Tokens.{Token, begin, end, property, nop, stop, broken, token, tokens}
use Rattle.tree.specs.Form.{follows}
use Rattle.tree.specs.Content.{Content, nothing, node}
use Rattle.tree.specs.Steps.{shape, StepOf, rest_at, places_at, valued, content_at, answers, ReadsOn, Behind, strip}
use Rattle.tree.specs.declared.tokens.Token.TheVariants.{Begin, End, Property, Stop, Broken}
use Rattle.tree.specs.declared.tokens.Step.{Step}
use Rattle.lookup.specs.Steps.{next_is}
use Rattle.std.proofs.Common.{Option, Some, None}
use Rattle.tree.proofs.Booleans.{never}
use Rattle.tree.proofs.Placing.{strip_valued}
use Rattle.tree.proofs.Following.{token_none, there_nop, rest_begin, deep_refused, late_property_refused}
use Rattle.tree.proofs.Following.{front_none, front_begin, front_end, front_stop, front_broken, begin_within}
use Rattle.tree.proofs.Reading.{by_token, child_past, child_refused, past_left, past_forward, past_within}

-- what may follow behind a node may follow before one
early_tokens : (n : ℕ) → 0 < n → (ts : List Token) → follows n true ts ≡ true → follows n false ts ≡ true
unfolding follows
early_tokens n h [] e = e
early_tokens n h (begin name ∷ ts) e = rw (lt-ltb 0 n h) (rw (lt-ltb 0 n h) at e)
early_tokens n h (end ∷ ts) e = e
early_tokens n h (property at value ∷ ts) e = never (rw (lt-ltb 0 n h) at e)
early_tokens n h (nop ∷ ts) e = early_tokens n h ts e
early_tokens n h (stop ∷ ts) e = let z : n ≡ 0 → ⊥ = λ k. omega arith in never (rw (ne_eqb n 0 z) at e)
early_tokens n h (broken ∷ ts) e = e

early : (names : ℕ) (l : List ℕ) (n at : ℕ) → 0 < n → rest_at names l n true at ≡ true → rest_at names l n false at ≡ true
unfolding rest_at
early names l n at h e = early_tokens n h (tokens names (drop at l)) e

module _
    (names : ℕ) (l : List ℕ) (left at i : ℕ) (small : left < 16) (whole : rest_at names l (16 - left) false at ≡ true) (w : Behind names l at i)
  where
    goes : rest_at names l (16 - left) true i ≡ true
    goes = sym (w.is (16 - left) (omega arith)) ∙ whole

    -- the same with the values
    nodes_valued : (x : Content) → places_at names l i ≡ x → strip (content_at names l at) ≡ valued l x
    nodes_valued x e = strip_valued l (places_at names l at) ∙ ap (valued l) (w.nodes ∙ e)

    none_left : places_at names l i ≡ nothing → strip (content_at names l at) ≡ nothing
    unfolding valued
    none_left e = nodes_valued nothing e

    module _ (r : Step) (s : StepOf (token names (drop i l)) l i r) where
      module _ (h : i < length l) where
        near_end : r.token ≡ End → next_is names l left at None
        near_end e = none_left (front_end names l i h r s e)

        near_stop : r.token ≡ Stop → next_is names l left at None
        near_stop e = none_left (front_stop names l i h r s e)

        near_broken : r.token ≡ Broken → next_is names l left at None
        near_broken e = none_left (front_broken names l i h r s e)

        near_property : (m k : ℕ) → r.token ≡ Property m k → next_is names l left at None
        near_property m k e = never (sym (late_property_refused names l i h r s (16 - left) m k e) ∙ goes)

      pub near_other : ((k : ℕ) → r.token ≡ Begin k → ⊥) → next_is names l left at None
      near_other b = go (ltb i (length l)) refl
        where
          go : (t : Bool) → ltb i (length l) ≡ t → next_is names l left at None
          go true p =
              let h = ltb-true i (length l) p in
              by_token r.token (λ k e. absurd (b k e)) (near_end h) (near_property h) (λ e. absurd (w.stands (there_nop names l i h r s e))) (near_stop h)
              (near_broken h)
          go false p = none_left (front_none names l i (ltb-false i (length l) p))

      module _ (n : ℕ) (e : r.token ≡ Begin n) where
        inside : i < length l
        inside = go (ltb i (length l)) refl
          where
            go : (t : Bool) → ltb i (length l) ≡ t → i < length l
            go true p = ltb-true i (length l) p
            go false p =
                let q : Begin n ≡ shape broken = sym e ∙ s.is ∙ ap shape (token_none names l i (ltb-false i (length l) p)) in
                cc

        pub near_within : i + 4 + n ≤ length l
        near_within = begin_within names l i inside r s n e

        pub near_deep : left ≡ 0 → next_is names l left at None
        near_deep z = never (sym (deep_refused names l i inside r s (16 - left) true (omega arith) n e) ∙ goes)

        module _ (some : left ≡ 0 → ⊥) (child : Option ℕ) (c : ReadsOn names l (16 - (left - 1)) false r.next child) where
          pub near_refused : child ≡ None → next_is names l left at None
          unfolding answers
          near_refused z = never (sym (child_refused names l i left i small refl (omega arith) inside r s n e some child c z).is ∙ goes)

          node_there : (x : ℕ) → child ≡ Some x → places_at names l i ≡ node (take n (drop (i + 4) l)) (places_at names l r.next) (places_at names l x)
          node_there x z = rw (front_begin names l i inside r s n e) (rw (past_left names l (16 - (left - 1)) false r.next child x c z) refl)

          pub near_node : (x : ℕ) → child ≡ Some x → next_is names l left at (Some (record { name = i + 4; len = n; inner = r.next; after = x }))
          unfolding valued
          near_node x z =
              let p : 17 - left ≡ suc (16 - left) = omega arith in
              let h = inside in
              let f = past_forward names l (16 - (left - 1)) false r.next child x c z in
              let within = sym (rest_begin names l i h r s (16 - left) true (omega arith) (omega arith) n e) ∙ goes in
              let behind = sym (child_past names l i left i small refl (omega arith) h r s n e some child c x z) ∙ goes in (
                nodes_valued _ (node_there x z),
                rw p within,
                early names l (16 - left) x (omega arith) behind,
                omega arith,
                near_within,
                s.within,
                omega (arith, w.forward, s.forward h, f),
                past_within names l (16 - (left - 1)) false r.next child x c z,
              )
