-- A structure block says the same with its values by where they stand: these places are inside it, and the bytes there are the values. Assumes nothing.
use Prim.Native.Nat.{ℕ, zero, suc, ◌+◌, ◌≤◌}
use mathlib.Core.Path.{◌≡◌, refl, sym, ap, ◌∙◌}
use mathlib.Core.List.{List, [], ◌∷◌, map}
use native.Mathlib.Omega.{arith}
use lib.ListN.{length, drop, take, length-drop}
use lib.Seq.{drop-drop}
use Rattle.tree.specs.Tokens.{Token, begin, end, property, nop, stop, broken, token, size, tokens_up_to, tokens}
use Rattle.tree.specs.Form.{named}
use Rattle.tree.specs.Content as c
use Rattle.tree.specs.Content.{Content, contents, first, in_root}
use Rattle.tree.specs.Places.{placed, located}
use Rattle.tree.specs.Steps.{contents_at, valued, Inside, places_at, content_at, strip, RootOf}
use Rattle.tree.specs.declared.reader.Tree.{Tree}
use Rattle.tree.proofs.TokenCases.{property_is}

module _ (l : List ℕ) where
  first_valued : (cs : List Content) → first (map (valued l) cs) ≡ valued l (first cs)
  unfolding valued
  first_valued [] = refl
  first_valued (x ∷ cs) = refl

  dropped_valued : (k : ℕ) (cs : List Content) → drop k (map (valued l) cs) ≡ map (valued l) (drop k cs)
  dropped_valued zero cs = refl
  dropped_valued (suc k) [] = refl
  dropped_valued (suc k) (x ∷ cs) = dropped_valued k cs

  -- a token, and what follows it
  one_valued : (at : ℕ) (x : Token) → ((m : ℕ) (v : List ℕ) → x ≡ property m v → v ≡ take (length v) (drop (at + 12) l)) → (ts us : List Token)
      → contents ts ≡ map (valued l) (contents us) → contents (x ∷ ts) ≡ map (valued l) (contents (placed at x ∷ us))
  unfolding contents valued
  one_valued at (begin name) v ts us e =
      rw (e, first_valued (contents us), dropped_valued 1 (contents us), first_valued (drop 1 (contents us)), dropped_valued 2 (contents us)) refl
  one_valued at end v ts us e = rw e refl
  one_valued at (property m b) v ts us e =
      rw (e, first_valued (contents us), dropped_valued 1 (contents us)) (ap (λ (y : List ℕ). c.property m y (valued l (first (contents us))) ∷ map (valued l) (drop 1 (contents us))) (v m b refl))
  one_valued at nop v ts us e = e
  one_valued at stop v ts us e = refl
  one_valued at broken v ts us e = refl

  module _ (names : ℕ) where
    value_there : (at : ℕ) (d : List ℕ) → drop at l ≡ d → (m : ℕ) (v : List ℕ) → token names d ≡ property m v → v ≡ take (length v) (drop (at + 12) l)
    value_there at d p m v e =
        let w : Token = property m v in
        let q = (property_is names d m (length v) (rw e refl)).is in
        let r : property m v ≡ property m (take (length v) (drop 12 d)) = sym e ∙ q in
        rw (← drop-drop 12 at l, p) cc

    said_there : (n at : ℕ) → contents (tokens_up_to names n (drop at l)) ≡ map (valued l) (contents (located at (tokens_up_to names n (drop at l))))
    unfolding tokens_up_to located contents
    said_there zero at = refl
    said_there (suc n) at = go (drop at l) refl (λ k. said_there n k)
      where
        go : (d : List ℕ) → drop at l ≡ d → ((k : ℕ) → contents (tokens_up_to names n (drop k l)) ≡ map (valued l) (contents (located k (tokens_up_to names n (drop k l)))))
            → contents (tokens_up_to names (suc n) d) ≡ map (valued l) (contents (located at (tokens_up_to names (suc n) d)))
        go [] p f = refl
        go (b ∷ d) p f =
            let x = token names (b ∷ d) in
            let q : drop (at + size x) l ≡ drop (size x) (b ∷ d) = sym (drop-drop (size x) at l) ∙ rw p refl in
            one_valued at x (value_there at (b ∷ d) p) (tokens_up_to names n (drop (size x) (b ∷ d))) (located (at + size x) (tokens_up_to names n (drop (size x) (b ∷ d)))) (rw q at (f (at + size x)))

  -- ---- and the places are inside

  one_inside : (at : ℕ) (x : Token) → ((m : ℕ) (v : List ℕ) → x ≡ property m v → at + 12 + length v ≤ length l) → (us : List Token)
      → ((k : ℕ) → Inside l (first (drop k (contents us)))) → (k : ℕ) → Inside l (first (drop k (contents (placed at x ∷ us))))
  unfolding contents
  one_inside at (begin name) v us f zero = (f 0, f 1)
  one_inside at (begin name) v us f (suc k) = rw (drop-drop k 2 (contents us)) (f (2 + k))
  one_inside at end v us f zero = omega arith
  one_inside at end v us f (suc k) = f k
  one_inside at (property m b) v us f zero = (record { at = at + 12; n = length b; is = refl; within = v m b refl }, f 0)
  one_inside at (property m b) v us f (suc k) = rw (drop-drop k 1 (contents us)) (f (1 + k))
  one_inside at nop v us f k = f k
  one_inside at stop v us f zero = omega arith
  one_inside at stop v us f (suc zero) = omega arith
  one_inside at stop v us f (suc (suc k)) = omega arith
  one_inside at broken v us f zero = omega arith
  one_inside at broken v us f (suc k) = omega arith

  module _ (names : ℕ) where
    value_inside : (at : ℕ) (d : List ℕ) → drop at l ≡ d → (m : ℕ) (v : List ℕ) → token names d ≡ property m v → at + 12 + length v ≤ length l
    value_inside at d p m v e =
        let q = (property_is names d m (length v) (rw e refl)).within in
        omega (arith, q, ap (λ (y : List ℕ). length y) p, length-drop at l)

    inside_there : (n at k : ℕ) → Inside l (first (drop k (contents (located at (tokens_up_to names n (drop at l))))))
    unfolding tokens_up_to located contents
    inside_there zero at zero = omega arith
    inside_there zero at (suc k) = omega arith
    inside_there (suc n) at k = go (drop at l) refl (λ i j. inside_there n i j) k
      where
        go : (d : List ℕ) → drop at l ≡ d → ((i j : ℕ) → Inside l (first (drop j (contents (located i (tokens_up_to names n (drop i l)))))))
            → (k : ℕ) → Inside l (first (drop k (contents (located at (tokens_up_to names (suc n) d)))))
        go [] p f zero = omega arith
        go [] p f (suc k) = omega arith
        go (b ∷ d) p f k =
            let x = token names (b ∷ d) in
            let q : drop (at + size x) l ≡ drop (size x) (b ∷ d) = sym (drop-drop (size x) at l) ∙ rw p refl in
            one_inside at x (value_inside at (b ∷ d) p) (located (at + size x) (tokens_up_to names n (drop (size x) (b ∷ d)))) (λ j. rw q at (f (at + size x) j)) k

  in_root_inside : (x : Content) → Inside l x → Inside l (in_root x)
  in_root_inside c.nothing h = h
  in_root_inside (c.property at place x) h = omega arith
  in_root_inside (c.node name inner x) h = h.0

  pub root_inside : (names : ℕ) → Inside l (in_root (first (contents (located 0 (tokens names l)))))
  root_inside names = in_root_inside (first (contents (located 0 (tokens names l)))) (inside_there names (length l) 0 0)

  in_root_valued : (x : Content) → in_root (valued l x) ≡ valued l (in_root x)
  unfolding valued
  in_root_valued c.nothing = refl
  in_root_valued (c.property at place x) = refl
  in_root_valued (c.node name inner x) = refl

  pub strip_valued : (x : Content) → strip (valued l x) ≡ valued l (strip x)
  unfolding valued strip
  strip_valued c.nothing = refl
  strip_valued (c.property at place x) = strip_valued x
  strip_valued (c.node name inner x) = refl

  -- what stands in the root
  pub root_valued : (names : ℕ) → in_root (first (contents (tokens names l))) ≡ valued l (in_root (first (contents (located 0 (tokens names l)))))
  root_valued names =
      ap (λ (cs : List Content). in_root (first cs)) (said_there names (length l) 0)
      ∙ ap in_root (first_valued (contents (located 0 (tokens names l))))
      ∙ in_root_valued (first (contents (located 0 (tokens names l))))

-- the same from where it begins
module _ (strings l : List ℕ) (t : Tree) (p : RootOf strings l t) where
  pub root_placed : in_root (first (contents (located 0 (tokens (named strings) l)))) ≡ places_at t.structure.names l t.root
  unfolding contents_at
  root_placed = rw (← p.names) p.is.says

  pub root_said : in_root (first (contents (tokens (named strings) l))) ≡ content_at t.structure.names l t.root
  root_said = root_valued l (named strings) ∙ ap (valued l) root_placed
