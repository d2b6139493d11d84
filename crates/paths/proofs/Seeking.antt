-- The search for a path, node by node: what is found from where it began is what is found from where it stands. Assumes nothing.
use Prim.Native.Nat.{ℕ, ◌+◌, ◌-◌, ◌≤◌, ◌<◌}
use mathlib.Core.Path.{◌≡◌, refl, sym, ap, ◌∙◌}
use mathlib.Core.Bool.{Bool, true, false}
use mathlib.Core.List.{List, ◌∷◌}
use native.Mathlib.Omega.{arith}
use lib.Dec.{eqb}
use lib.ListN.{length, drop, take, length-drop, length-take}
use lib.Seq.{drop-drop}
use Rattle.tree.specs.Tokens.{token}
use Rattle.tree.specs.Content.{Content, nothing, property, node, first}
use Rattle.tree.specs.Steps.{StepOf, rest_at, contents_at, places_at, answers, ReadsOn, Behind, strip}
use Rattle.tree.specs.declared.tokens.Token.TheVariants.{Begin, End, Nop}
use Rattle.tree.specs.declared.tokens.Step.{Step}
use Rattle.tree.proofs.Following.{rest_none, left_nop, front_end, front_begin, begin_within}
use Rattle.tree.proofs.Reading.{read_end, read_deep, read_other, child_refused, child_past, past_left, past_forward, past_within, left_after_child, node_read}
use Rattle.lookup.specs.Values.{absent, value_of}
use Rattle.lookup.specs.Steps.{PlacedIn}
use Rattle.lookup.specs.declared.Found.{Found}
use Rattle.paths.specs.Lookup.{or_else}
use Rattle.paths.proofs.Bytes.{starts_within}
use Rattle.paths.specs.Steps.{starts, seek, looks}
use Rattle.std.proofs.lemmas.Bool.Decides.{nat_tests}
use Rattle.std.proofs.Common.{Option, Some, None, ControlFlow, Break, Continue}

-- ---- a node's own properties

seek_strip : (strings name rest : List ℕ) (x : Content) → seek strings name rest false x ≡ seek strings name rest false (strip x)
unfolding seek strip
seek_strip strings name rest nothing = refl
seek_strip strings name rest (property at value x) = seek_strip strings name rest x
seek_strip strings name rest (node n inner x) = refl

seek_here : (strings name rest : List ℕ) (x : Content) → seek strings name rest true x ≡ or_else (value_of strings name x) (seek strings name rest true (strip x))
unfolding seek strip value_of
seek_here strings name rest nothing = refl
seek_here strings name rest (property at value x) = grind (arith, seek_here strings name rest x)
seek_here strings name rest (node n inner x) = refl

-- ---- a step of the path

pub goes_within : (p l : List ℕ) (done at n : ℕ) → done ≤ length p → at + n ≤ length l → (b : Bool) → b ≡ starts (47 ∷ take n (drop at l)) (drop done p) → b ≡ true → done + n + 1 ≤ length p
goes_within p l done at n h g b q t =
    let k : length (take n (drop at l)) ≡ n = simp (length-take, length-drop) (omega arith) in
    omega (arith, starts_within (47 ∷ take n (drop at l)) (drop done p) (sym t ∙ q), length-drop done p)

none_left : (p : List ℕ) (to : ℕ) → to ≤ length p → eqb (length (drop to p)) 0 ≡ eqb to (length p)
none_left p to h = grind (arith, nat_tests, length-drop)

-- ---- the children of a node

refused : (names : ℕ) (l : List ℕ) (n : ℕ) (late : Bool) (at : ℕ) → ReadsOn names l n late at None → rest_at names l n late at ≡ false
unfolding answers
refused names l n late at c = c.is

seek_none : (strings name rest : List ℕ) (here : Bool) (x : Content) → x ≡ nothing → seek strings name rest here x ≡ absent
unfolding seek
seek_none strings name rest here x e = rw e refl

module _ (strings : List ℕ) (names : ℕ) (l name p : List ℕ) (done at left i : ℕ) (small : left < 16) (in_p : done ≤ length p)
    (inv : rest_at names l (16 - left) true at ≡ rest_at names l (16 - left) true i)
    (look : (here : Bool) → seek strings name (drop done p) here (places_at names l at) ≡ seek strings name (drop done p) here (places_at names l i)) where
  pub look_over : length l ≤ i → (here : Bool) → looks strings names l name (drop done p) (16 - left) true here at (Break None)
  look_over h here = inv ∙ rest_none names l (16 - left) true i h

  module _ (from : at ≤ i) (h : i < length l) (r : Step) (s : StepOf (token names (drop i l)) l i r) where
    pub look_nop : r.token ≡ Nop → (here : Bool) → seek strings name (drop done p) here (places_at names l at) ≡ seek strings name (drop done p) here (places_at names l r.next)
    look_nop e here = look here ∙ ap (λ (x : List Content). seek strings name (drop done p) here (first x)) (left_nop names l i h r s e)

    pub look_end : drop 1 (contents_at names l at) ≡ drop 1 (contents_at names l i) → r.token ≡ End → (here : Bool) → looks strings names l name (drop done p) (16 - left) true here at (Continue r.next)
    look_end y e here =
        (look here ∙ seek_none strings name (drop done p) here (places_at names l i) (front_end names l i h r s e), read_end names l at left i small inv from h r s y e)

    pub look_deep : (k : ℕ) → r.token ≡ Begin k → left ≡ 0 → (here : Bool) → looks strings names l name (drop done p) (16 - left) true here at (Break None)
    look_deep k e z here = refused names l (16 - left) true at (read_deep names l at left i small inv from h r s k e z)

    pub look_other : ((k : ℕ) → r.token ≡ Begin k → ⊥) → (r.token ≡ End → ⊥) → (r.token ≡ Nop → ⊥) → (here : Bool) → looks strings names l name (drop done p) (16 - left) true here at (Break None)
    look_other b x n here = refused names l (16 - left) true at (read_other names l at left i small inv from h r s b x n)

    module _ (n : ℕ) (e : r.token ≡ Begin n) (some : left ≡ 0 → ⊥) (b : Bool) (q : b ≡ starts (47 ∷ take (i + 4 + n - (i + 4)) (drop (i + 4) l)) (drop done p)) where
      stepped : b ≡ starts (47 ∷ take n (drop (i + 4) l)) (drop done p)
      stepped = let d : i + 4 + n - (i + 4) ≡ n = omega arith in rw d at q

      whole : length (take n (drop (i + 4) l)) ≡ n
      whole = simp (length-take, length-drop) (omega (arith, begin_within names l i h r s n e))

      -- off the path
      module _ (f : b ≡ false) (child : Option ℕ) (c : ReadsOn names l (16 - (left - 1)) false r.next child) where
        pub off_refused : child ≡ None → (here : Bool) → looks strings names l name (drop done p) (16 - left) true here at (Break None)
        off_refused z here = refused names l (16 - left) true at (child_refused names l at left i small inv from h r s n e some child c z)

        pub off_past : (x : ℕ) → child ≡ Some x → (here : Bool)
            → seek strings name (drop done p) here (places_at names l at) ≡ seek strings name (drop done p) here (places_at names l x)
        unfolding seek
        off_past x z here =
            look here ∙ rw (front_begin names l i h r s n e, ← stepped, f) (ap (λ (y : List Content). seek strings name (drop done p) here (first y)) (past_left names l (16 - (left - 1)) false r.next child x c z))

      -- on the path
      module _ (t : b ≡ true) (len : ℕ) (el : len ≡ length p) (child : ControlFlow (Option Found) ℕ) (c : looks strings names l name (drop (done + n + 1) p) (16 - (left - 1)) false (eqb (done + n + 1) len) r.next child) where
        onward : (here : Bool)
            → seek strings name (drop done p) here (places_at names l at)
            ≡ or_else (seek strings name (drop (done + n + 1) p) (eqb (done + n + 1) len) (places_at names l r.next))
            (seek strings name (drop done p) here (first (drop 1 (contents_at names l r.next))))
        unfolding seek
        onward here =
            let w = goes_within p l done (i + 4) n in_p (begin_within names l i h r s n e) b stepped t in
            let d : done + (n + 1) ≡ done + n + 1 = omega arith in
            look here ∙ rw (front_begin names l i h r s n e, ← stepped, t, whole, drop-drop, d, none_left p (done + n + 1) w, ← el) refl

        -- the search breaks off with the child's
        pub on_break : (x : Option Found) → child ≡ Break x → (here : Bool) → looks strings names l name (drop done p) (16 - left) true here at (Break x)
        unfolding answers
        on_break (Some f) z here = let g = rw z at c in record { is = onward here ∙ rw g.is refl; within = g.within }
        on_break None z here =
            let g = rw z at c in
            refused names l (16 - left) true at (child_refused names l at left i small inv from h r s n e some None (record { is = g; end = omega arith }) refl)

        pub on_past : (x : ℕ) → child ≡ Continue x → (here : Bool)
            → seek strings name (drop done p) here (places_at names l at) ≡ seek strings name (drop done p) here (places_at names l x)
        on_past x z here =
            let g = rw z at c in
            onward here ∙ rw g.0 (ap (λ (y : List Content). seek strings name (drop done p) here (first y)) (past_left names l (16 - (left - 1)) false r.next (Some x) x g.1 refl))

        pub on_rest : (x : ℕ) → child ≡ Continue x → rest_at names l (16 - left) true at ≡ rest_at names l (16 - left) true x
        on_rest x z = let g = rw z at c in child_past names l at left i small inv from h r s n e some (Some x) g.1 x refl

        pub on_left : (x : ℕ) → child ≡ Continue x → drop 1 (contents_at names l at) ≡ drop 1 (contents_at names l i) → drop 1 (contents_at names l at) ≡ drop 1 (contents_at names l x)
        on_left x z y = let g = rw z at c in left_after_child names l at i y h r s n e (16 - (left - 1)) false (Some x) g.1 x refl

-- where a child that was searched ends
module _ (strings : List ℕ) (names : ℕ) (l name rest : List ℕ) (n : ℕ) (late here : Bool) (i : ℕ) (h : i < length l) (r : Step) (s : StepOf (token names (drop i l)) l i r)
    (c : ControlFlow (Option Found) ℕ) (q : looks strings names l name rest n late here r.next c) (x : ℕ) (e : c ≡ Continue x) where
  on_end : (r.next ≤ x) × (x ≤ length l)
  on_end = let g = rw e at q in (past_forward names l n late r.next (Some x) x g.1 refl, past_within names l n late r.next (Some x) x g.1 refl)

  pub on_less : length l - x < length l - i
  on_less = omega (arith, s.forward h, on_end.0, on_end.1)

  pub on_on : (at : ℕ) → at ≤ i → at ≤ x
  on_on at g = omega (arith, s.forward h, on_end.0)

  pub on_within : x ≤ length l
  on_within = on_end.1

-- ---- a node

module _ (strings : List ℕ) (names : ℕ) (l name rest : List ℕ) (left at b : ℕ) (small : left < 16) (w : Behind names l at b) where
  step_back : (late : Bool) → (r : ControlFlow (Option Found) ℕ) → (here : Bool) → seek strings name rest here (places_at names l at) ≡ seek strings name rest here (places_at names l b)
      → looks strings names l name rest (16 - left) true here b r → looks strings names l name rest (16 - left) false here at r
  step_back late (Break (Some f)) here e c = record { is = e ∙ c.is; within = c.within }
  step_back late (Break None) here e c = w.is (16 - left) (omega arith) ∙ c
  step_back late (Continue x) here e c = (e ∙ c.0, node_read names l left at b small w (Some x) c.1)

  pub node_there : (here : Bool) → here ≡ false → (r : ControlFlow (Option Found) ℕ) → ((h : Bool) → looks strings names l name rest (16 - left) true h b r) → looks strings names l name rest (16 - left) false here at r
  node_there here f r c = rw f (step_back true r false (seek_strip strings name rest (places_at names l at) ∙ ap (λ (x : Content). seek strings name rest false x) w.nodes) (c false))

  pub node_none : (here : Bool) → here ≡ true → (found : Option Found) → PlacedIn l (value_of strings name (places_at names l at)) found → found ≡ None
      → (r : ControlFlow (Option Found) ℕ) → ((h : Bool) → looks strings names l name rest (16 - left) true h b r) → looks strings names l name rest (16 - left) false here at r
  node_none here t found g e r c = rw t (step_back true r true (seek_here strings name rest (places_at names l at) ∙ rw (g.is, e, w.nodes) refl) (c true))

pub node_hit : (strings : List ℕ) (names : ℕ) (l name rest : List ℕ) (n at : ℕ) (here : Bool) → here ≡ true → (found : Option Found)
    → PlacedIn l (value_of strings name (places_at names l at)) found → (f : Found) → found ≡ Some f → looks strings names l name rest n false here at (Break (Some f))
node_hit strings names l name rest n at here t found g f e =
    rw t (record { is = seek_here strings name rest (places_at names l at) ∙ rw (g.is, e) refl; within = rw e at g.within })

pub way_within : (names : ℕ) (l p : List ℕ) (done i : ℕ) → done ≤ length p → i < length l → (r : Step) → StepOf (token names (drop i l)) l i r → (n : ℕ) → r.token ≡ Begin n
    → (b : Bool) → b ≡ starts (47 ∷ take (i + 4 + n - (i + 4)) (drop (i + 4) l)) (drop done p) → b ≡ true → done + n + 1 ≤ length p
way_within names l p done i in_p h r s n e b q t =
    let d : i + 4 + n - (i + 4) ≡ n = omega arith in
    goes_within p l done (i + 4) n in_p (begin_within names l i h r s n e) b (rw d at q) t
