-- The walk to the first property of a name: what is found from where it began is what is found from where it stands; and a value by its place is the bytes
-- there. Assumes nothing.
use Prim.Native.Nat.{ℕ, ◌+◌, ◌≤◌, ◌<◌}
use mathlib.Core.Path.{◌≡◌, refl, sym, ap, ◌∙◌}
use mathlib.Core.Bool.{Bool, true, false, cond}
use mathlib.Core.List.{List}
use native.Mathlib.Omega.{arith}
use lib.ListN.{length, drop}
use Rattle.tree.specs.Tokens.{token}
use Rattle.tree.specs.Content.{Content, nothing, property, node, first}
use Rattle.tree.specs.Steps.{StepOf, places_at, bytes_at, valued, content_at}
use Rattle.tree.specs.declared.tokens.Token.TheVariants.{Begin, End, Property, Nop, Stop, Broken}
use Rattle.tree.specs.declared.tokens.Step.{Step}
use Rattle.lookup.specs.Values.{same, name_at, Value, absent, present, value_of}
use Rattle.lookup.specs.Steps.{PlacedIn, FoundIn}
use Rattle.lookup.specs.declared.Found.{Found}
use Rattle.std.proofs.Common.{Option, Some, None}
use Rattle.tree.proofs.Reading.{by_token}
use Rattle.tree.proofs.Following.{left_nop, front_none, front_begin, front_property, front_end, front_stop, front_broken, property_within}

value_none : (strings name : List ℕ) (x : Content) → x ≡ nothing → value_of strings name x ≡ absent
unfolding value_of
value_none strings name x e = rw e refl

module _
    (strings : List ℕ) (names : ℕ) (l name : List ℕ) (at i : ℕ)
    (inv : value_of strings name (places_at names l at) ≡ value_of strings name (places_at names l i))
  where
    not_found : places_at names l i ≡ nothing → PlacedIn l (value_of strings name (places_at names l at)) None
    not_found e = record { is = inv ∙ value_none strings name (places_at names l i) e; within = omega arith }

    pub find_over : length l ≤ i → PlacedIn l (value_of strings name (places_at names l at)) None
    find_over h = not_found (front_none names l i h)

    module _ (h : i < length l) (r : Step) (s : StepOf (token names (drop i l)) l i r) where
      pub find_end : r.token ≡ End → PlacedIn l (value_of strings name (places_at names l at)) None
      find_end e = not_found (front_end names l i h r s e)

      pub find_stop : r.token ≡ Stop → PlacedIn l (value_of strings name (places_at names l at)) None
      find_stop e = not_found (front_stop names l i h r s e)

      pub find_broken : r.token ≡ Broken → PlacedIn l (value_of strings name (places_at names l at)) None
      find_broken e = not_found (front_broken names l i h r s e)

      pub find_begin : (k : ℕ) → r.token ≡ Begin k → PlacedIn l (value_of strings name (places_at names l at)) None
      unfolding value_of
      find_begin k e = record { is = inv ∙ rw (front_begin names l i h r s k e) refl; within = omega arith }

      pub find_nop : r.token ≡ Nop → value_of strings name (places_at names l at) ≡ value_of strings name (places_at names l r.next)
      find_nop e = inv ∙ ap (λ (x : List Content). value_of strings name (first x)) (left_nop names l i h r s e)

      pub find_other : ((m k : ℕ) → r.token ≡ Property m k → ⊥) → (r.token ≡ Nop → ⊥) → PlacedIn l (value_of strings name (places_at names l at)) None
      find_other p n = by_token r.token find_begin find_end (λ m k e. absurd (p m k e)) (λ e. absurd (n e)) find_stop find_broken

      module _ (m n : ℕ) (e : r.token ≡ Property m n) (b : Bool) (q : b ≡ same (name_at strings m) name) where
        pub find_hit : b ≡ true → PlacedIn l (value_of strings name (places_at names l at)) (Some (record { at = i + 12; len = n }))
        unfolding value_of
        find_hit t = record { is = inv ∙ rw (front_property names l i h r s m n e, ← q, t) refl; within = property_within names l i h r s m n e }

        pub find_next : b ≡ false → value_of strings name (places_at names l at) ≡ value_of strings name (places_at names l r.next)
        unfolding value_of
        find_next t = inv ∙ rw (front_property names l i h r s m n e, ← q, t) refl

-- ---- by its bytes

-- a value by its place, as the bytes there
abbrev pub read_at : List ℕ → Value → Value
read_at l absent = absent
read_at l (present place) = present (bytes_at l place)

pub read_cond : (l : List ℕ) (b : Bool) (v w : Value) → read_at l (cond b v w) ≡ cond b (read_at l v) (read_at l w)
read_cond l true v w = refl
read_cond l false v w = refl

value_read : (l strings name : List ℕ) (x : Content) → value_of strings name (valued l x) ≡ read_at l (value_of strings name x)
unfolding value_of valued
value_read l strings name nothing = refl
value_read l strings name (property at place x) =
    rw (value_read l strings name x) (sym (read_cond l (same (name_at strings at) name) (present place) (value_of strings name x)))
value_read l strings name (node n inner x) = refl

-- what is found by its place is found
pub placed_found : (l : List ℕ) (v w : Value) → w ≡ read_at l v → (r : Option Found) → PlacedIn l v r → FoundIn l w r
placed_found l v w e (Some f) g = record { is = e ∙ ap (read_at l) g.is; within = g.within }
placed_found l v w e None g = record { is = e ∙ ap (read_at l) g.is; within = g.within }

pub own_found : (strings : List ℕ) (names : ℕ) (l name : List ℕ) (at : ℕ) (r : Option Found) → PlacedIn l (value_of strings name (places_at names l at)) r
    → FoundIn l (value_of strings name (content_at names l at)) r
own_found strings names l name at r = placed_found l _ _ (value_read l strings name (places_at names l at)) r
