-- Which of two trees has a property, and where its value stands there: the bytes there are the value. Assumes nothing.
use Prim.Native.Nat.{ℕ, ◌+◌, ◌-◌, ◌≤◌}
use mathlib.Core.Path.{◌≡◌, refl, sym, ap, ◌∙◌}
use mathlib.Core.Bool.{Bool, true, false, cond, ◌&&◌}
use mathlib.Core.List.{List, [], ◌∷◌, ◌++◌}
use native.Mathlib.Omega.{arith}
use lib.ListN.{length, drop, take, length-take}
use lib.Seq.{drop-drop, take-take}
use Rattle.std.proofs.lemmas.List.{drop-take}
use Rattle.tree.specs.Words.{word}
use Rattle.tree.specs.Form.{named}
use Rattle.tree.specs.Content.{Content, nothing, property, node}
use Rattle.tree.specs.Header.{field, structure, strings, form}
use Rattle.tree.specs.Steps.{Spot, Inside, valued, places_at, TreeOf}
use Rattle.tree.specs.declared.reader.Tree.{Tree}
use Rattle.tree.proofs.Heading.{formed_parts, structure_in}
use Rattle.tree.proofs.Placing.{root_inside, root_valued, root_placed}
use Rattle.lookup.specs.Values.{same, name_at, path, Value, absent, present}
use Rattle.lookup.specs.Steps.{PlacedIn}
use Rattle.lookup.specs.declared.Found.{Found}
use Rattle.std.proofs.Common.{Option, Some, None, Result, Ok, Err}
use Rattle.lookup.proofs.Finding.{read_at, read_cond}
use Rattle.paths.specs.declared.pairs.Holder.{Holder}
use Rattle.paths.specs.declared.pairs.Holder.TheVariants.{Service, Board}
use Rattle.paths.specs.declared.pairs.Place.{Place}
use Rattle.refusals.specs.declared.Refusal.{Refusal}
use Rattle.refusals.specs.declared.Refusal.TheVariants.{Tree as BadTree}
use Rattle.paths.specs.Lookup.{listing, first_of, or_else, lookup, root_places, whereabouts, place_in, pair_place, tree_by, part_of}
use Rattle.paths.specs.Sentences.{PartOf, LookupSentence}
use Rattle.paths.proofs.Listing.{first_of_append}

-- ---- a first match by its place

-- what is got of the first that there is
read_else : (l : List ℕ) (v w : Value) → read_at l (or_else v w) ≡ or_else (read_at l v) (read_at l w)
read_else l absent w = refl
read_else l (present v) w = refl

pub match_valued : (l strings p name : List ℕ) (way : List (List ℕ)) (x : Content)
    → first_of p name (listing strings way (valued l x)) ≡ read_at l (first_of p name (listing strings way x))
unfolding listing first_of valued
match_valued l strings p name way nothing = refl
match_valued l strings p name way (property at place x) =
    rw (match_valued l strings p name way x)
    (sym (read_cond l (same (path way) p && same (name_at strings at) name) (present place) (first_of p name (listing strings way x))))
match_valued l strings p name way (node n inner x) =
    first_of_append p name (listing strings (way ++ (n ∷ [])) (valued l inner)) (listing strings way (valued l x))
    ∙ rw (match_valued l strings p name (way ++ (n ∷ [])) inner, match_valued l strings p name way x)
    (sym (ap (read_at l) (first_of_append p name (listing strings (way ++ (n ∷ [])) inner) (listing strings way x))
    ∙ read_else l (first_of p name (listing strings (way ++ (n ∷ [])) inner)) (first_of p name (listing strings way x))))

-- none, or a place inside
abbrev Spotted : List ℕ → Value → Type 0
Spotted l absent = 0 ≤ length l
Spotted l (present v) = Spot l v

spotted_cond : (l : List ℕ) (b : Bool) (v w : Value) → Spotted l v → Spotted l w → Spotted l (cond b v w)
spotted_cond l true v w f g = f
spotted_cond l false v w f g = g

spotted_else : (l : List ℕ) (v w : Value) → Spotted l v → Spotted l w → Spotted l (or_else v w)
spotted_else l absent w f g = g
spotted_else l (present v) w f g = f

match_inside : (l strings p name : List ℕ) (way : List (List ℕ)) (x : Content) → Inside l x → Spotted l (first_of p name (listing strings way x))
unfolding listing first_of
match_inside l strings p name way nothing h = omega arith
match_inside l strings p name way (property at place x) h =
    spotted_cond l (same (path way) p && same (name_at strings at) name) (present place) (first_of p name (listing strings way x)) h.0
    (match_inside l strings p name way x h.1)
match_inside l strings p name way (node n inner x) h =
    rw (first_of_append p name (listing strings (way ++ (n ∷ [])) inner) (listing strings way x))
    (spotted_else l (first_of p name (listing strings (way ++ (n ∷ [])) inner)) (first_of p name (listing strings way x))
    (match_inside l strings p name (way ++ (n ∷ [])) inner h.0) (match_inside l strings p name way x h.1))

-- ---- in a tree

-- a part of a part
part_part : (m a n : ℕ) (l : List ℕ) → a + n ≤ m → take n (drop a (take m l)) ≡ take n (drop a l)
part_part m a n l h =
    let e : m ≡ a + (m - a) = omega arith in
    ap (λ (k : ℕ). take n (drop a (take k l))) e ∙ rw (drop-take a (m - a) l) (take-take n (m - a) (drop a l) (omega arith))

module _ (tree : List ℕ) where
  found_in : (t : Tree) → TreeOf tree t → (p name : List ℕ) (r : Option Found)
      → PlacedIn t.structure.bytes.now (first_of p name (listing t.strings.now [] (places_at t.structure.names t.structure.bytes.now t.root))) r
      → PlacedIn (structure tree) (whereabouts tree p name) r
  unfolding whereabouts
  found_in t k p name r g = rw (root_placed (strings tree) (structure tree) t k.root) (rw (k.root.strings_are, k.root.bytes_are) at g)

  module _ (p name : List ℕ) where
    spot : Spotted (structure tree) (whereabouts tree p name)
    unfolding whereabouts
    spot = match_inside (structure tree) (strings tree) p name [] (root_places tree) (root_inside (structure tree) (named (strings tree)))

    pub value_there : lookup tree p name ≡ read_at (structure tree) (whereabouts tree p name)
    unfolding whereabouts lookup
    value_there = rw (root_valued (structure tree) (named (strings tree))) (match_valued (structure tree) (strings tree) p name [] (root_places tree))

  -- ---- where it has the form

  module _ (f : form tree ≡ true) where
    structure_within : (a n : ℕ) → a + n ≤ length (structure tree) → field 2 tree + a + n ≤ length tree
    structure_within a n h =
        let k = structure_in tree (formed_parts tree f) in
        let w : length (structure tree) ≤ field 9 tree = simp (length-take) (omega arith) in
        omega (arith, k, w)

    -- a part of the structure block is a part of the tree
    structure_part : (a n : ℕ) → a + n ≤ length (structure tree) → take n (drop a (structure tree)) ≡ take n (drop (field 2 tree + a) tree)
    structure_part a n h =
        let w : length (structure tree) ≤ field 9 tree = simp length-take (omega arith) in
        part_part (field 9 tree) a n (drop (field 2 tree) tree) (omega (arith, w)) ∙ rw (drop-drop a (field 2 tree) tree) refl

    -- where a value stands, it is
    value_placed : (p name : List ℕ) (h : Holder) (other : Option Place) (v : List ℕ) → lookup tree p name ≡ present v
        → PartOf tree h v (Ok (place_in tree h (whereabouts tree p name) other))
    value_placed p name h other v e = go (whereabouts tree p name) (spot p name) (sym (value_there p name) ∙ e)
      where
        go : (w : Value) → Spotted (structure tree) w → read_at (structure tree) w ≡ present v → PartOf tree h v (Ok (place_in tree h w other))
        go absent s q = cc
        go (present x) s q =
            let k = rw s.is at q in
            let b : take s.n (drop s.at (structure tree)) ≡ v = cc in
            rw s.is (record {
              place = record { holder = h; offset = field 2 tree + s.at; length = s.n };
              told = refl;
              holder = refl;
              inside = structure_within s.at s.n s.within;
              is = sym (structure_part s.at s.n s.within) ∙ b;
            })

    value_missing : (p name : List ℕ) (h : Holder) (other : Option Place) → lookup tree p name ≡ absent → place_in tree h (whereabouts tree p name) other ≡ other
    value_missing p name h other e = go (whereabouts tree p name) (sym (value_there p name) ∙ e)
      where
        go : (w : Value) → read_at (structure tree) w ≡ absent → place_in tree h w other ≡ other
        go absent q = refl
        go (present x) q = cc

    -- what holds of every place inside, and of another, holds of the place told
    place_told : (p name : List ℕ) (h : Holder) (P : Option Place → Type 0)
        → ((a n : ℕ) → a + n ≤ length tree → P (Some (record { holder = h; offset = a; length = n }))) → (other : Option Place) → P other
        → P (place_in tree h (whereabouts tree p name) other)
    place_told p name h P f other g = go (whereabouts tree p name) (spot p name)
      where
        go : (w : Value) → Spotted (structure tree) w → P (place_in tree h w other)
        go absent s = g
        go (present x) s = rw s.is (f (field 2 tree + s.at) s.n (structure_within s.at s.n s.within))

    -- by where it was found
    module _ (t : Tree) (k : TreeOf tree t) (p name : List ℕ) (h : Holder) (r : Option Found)
        (g : PlacedIn t.structure.bytes.now (first_of p name (listing t.strings.now [] (places_at t.structure.names t.structure.bytes.now t.root))) r) where
      pub found_missing : r ≡ None → None ≡ place_in tree h (whereabouts tree p name) None
      found_missing e = rw ((found_in t k p name r g).is, e) refl

      module _ (x : Found) (e : r ≡ Some x) (w : ℕ) (q : w ≡ word (drop 8 tree)) where
        pub found_placed : Some (record { holder = h; offset = w + x.at; length = x.len }) ≡ place_in tree h (whereabouts tree p name) None
        found_placed = rw (q, (found_in t k p name r g).is, e) refl

-- ---- two trees

module _ (service board p name : List ℕ) where
  abbrev from_board : Option Place
  from_board = place_in board Board (whereabouts board p name) None

  -- ---- the part

  -- it lies in the tree that has it
  abbrev Within : Option Place → Type 0
  Within (Some r) = r.offset + r.length ≤ length (tree_by r.holder service board)
  Within None = 0 ≤ length service

  abbrev AllWithin : Result (Option Place) Refusal → Type 0
  AllWithin (Ok r) = Within r
  AllWithin (Err e) = 0 ≤ length service

  pair_within : AllWithin (pair_place service board p name)
  unfolding pair_place
  pair_within = go (form service) refl (form board) refl
    where
      go : (a : Bool) → form service ≡ a → (b : Bool) → form board ≡ b
          → AllWithin (cond (a && b) (Ok (place_in service Service (whereabouts service p name) from_board)) (Err BadTree))
      go true e true f =
          place_told service e p name Service Within (λ a n h. h) from_board (place_told board f p name Board Within (λ a n h. h) None (omega arith))
      go true e false f = omega arith
      go false e b f = omega arith

  module _ (x : Result (Option Place) Refusal) (q : x ≡ pair_place service board p name) where
    module _ (r : Place) (e : x ≡ Ok (Some r)) (t : List ℕ) (k : t ≡ tree_by r.holder service board) where
      pub part_within : r.offset + r.length ≤ length t
      part_within = rw k (rw (sym q ∙ e) at pair_within)

      pub part_there : take (r.offset + r.length - r.offset) (drop r.offset t) ≡ part_of service board (pair_place service board p name)
      part_there = let n : r.offset + r.length - r.offset ≡ r.length = omega arith in rw (n, k, ← q, e) refl

  -- ---- the sentence

  pub looked_up_lem : LookupSentence service board p name
  unfolding pair_place
  looked_up_lem = record {
    service_form = λ e. rw e refl;
    board_form = λ e. grind arith;
    service_first = λ e f v z. rw (e, f) (value_placed service e p name Service from_board v z);
    else_board = λ e f z v y. rw (e, f, value_missing service e p name Service from_board z) (value_placed board f p name Board None v y);
    neither = λ e f z y. rw (e, f, value_missing service e p name Service from_board z, value_missing board f p name Board None y) refl;
    empty = (refl, λ e. refl);
  }
