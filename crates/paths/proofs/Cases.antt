-- Two small trees, looked up in by computation: tree order, a name with a /, empty values, and what is nowhere. Assumes nothing.
use Prim.Native.Nat.{ℕ, ◌+◌}
use mathlib.Core.Path.{◌≡◌, refl}
use mathlib.Core.List.{List, [], ◌∷◌, ◌++◌}
use lib.ListN.{length, take, drop}
use Rattle.std.proofs.Common.{Option, Some, None, Result, Ok, Err}
use Rattle.refusals.specs.declared.Refusal.{Refusal}
use Rattle.refusals.specs.declared.Refusal.TheVariants.{Tree}
use Rattle.tree.specs.Words.{big}
use Rattle.tree.specs.Tokens.{to_zero, begin_of, property_of, plain_of, token_of, token, size, tokens_up_to}
use Rattle.tree.specs.Form.{follows, named, formed}
use Rattle.tree.specs.Content.{contents}
use Rattle.tree.specs.Places.{located}
use Rattle.tree.specs.Header.{pairs, ended, header, list, parts, form}
use Rattle.lookup.specs.Values.{same, steps, path}
use Rattle.paths.specs.declared.pairs.Holder.{Holder}
use Rattle.paths.specs.declared.pairs.Holder.TheVariants.{Service, Board}
use Rattle.paths.specs.declared.pairs.Place.{Place}
use Rattle.paths.specs.Lookup.{listing, first_of, whereabouts, pair_place}

abbrev join : List (List ℕ) → List ℕ
join [] = []
join (x ∷ xs) = x ++ join xs

-- a small number in 4 bytes
abbrev w : ℕ → List ℕ
w n = 0 ∷ 0 ∷ 0 ∷ n ∷ []

-- a property by where its name begins, with padding of 170
abbrev has : ℕ → List ℕ → List ℕ → List ℕ
has at value pad = w 3 ++ (w (length value) ++ (w at ++ (value ++ pad)))

-- ---- the names x, at 0, and y, at 2

abbrev x : List ℕ
x = 120 ∷ []

abbrev y : List ℕ
y = 121 ∷ []

-- ---- the trees: header, a list of no reservations, the structure block at 56, the strings block behind it

abbrev tree : List ℕ → List ℕ
tree block =
    join
    ((208 ∷ 13 ∷ 254 ∷ 237 ∷ []) ∷ w (60 + length block) ∷ w 56 ∷ w (56 + length block) ∷ w 40 ∷ w 17 ∷ w 16 ∷ w 0 ∷ w 4 ∷ w (length block)
    ∷ w 0 ∷ w 0 ∷ w 0 ∷ w 0 ∷ block ∷ (x ++ (0 ∷ [])) ∷ (y ++ (0 ∷ [])) ∷ [])

-- the root with x; a node a/b with an empty x; a node a with a node b with x; a node c with y
abbrev board : List ℕ
board =
    tree (join
    (w 1 ∷ (0 ∷ 170 ∷ 170 ∷ 170 ∷ []) ∷ has 0 (1 ∷ 2 ∷ []) (170 ∷ 170 ∷ []) ∷ w 1 ∷ (97 ∷ 47 ∷ 98 ∷ 0 ∷ []) ∷ has 0 [] [] ∷ w 2 ∷ w 1 ∷ (97 ∷ 0 ∷ 170 ∷ 170 ∷ [])
    ∷ w 1 ∷ (98 ∷ 0 ∷ 170 ∷ 170 ∷ []) ∷ has 0 (9 ∷ []) (170 ∷ 170 ∷ 170 ∷ []) ∷ w 2 ∷ w 2 ∷ w 1 ∷ (99 ∷ 0 ∷ 170 ∷ 170 ∷ []) ∷ has 2 (7 ∷ 7 ∷ []) (170 ∷ 170 ∷ [])
    ∷ w 2 ∷ w 2 ∷ w 9 ∷ []))

-- a node c with another y and an empty x
abbrev service : List ℕ
service =
    tree (join
    (w 1 ∷ (0 ∷ 170 ∷ 170 ∷ 170 ∷ []) ∷ w 1 ∷ (99 ∷ 0 ∷ 170 ∷ 170 ∷ []) ∷ has 2 (5 ∷ []) (170 ∷ 170 ∷ 170 ∷ []) ∷ has 0 [] [] ∷ w 2 ∷ w 2 ∷ w 9 ∷ []))

-- with another version
abbrev other : List ℕ → List ℕ
other t = take 23 t ++ (16 ∷ drop 24 t)

-- ---- what is found

abbrev at : Holder → ℕ → ℕ → Result (Option Place) Refusal
at h offset n = Ok (Some (record { holder = h; offset = offset; length = n }))

-- at / the root's; at /a/b that of the node of this name, which comes first, and its value is empty; at /c the service tree's, also where it is empty
pub found : (pair_place service board (47 ∷ []) x ≡ at Board 76 2) × (pair_place service board (47 ∷ 97 ∷ 47 ∷ 98 ∷ []) x ≡ at Board 100 0)
    × (pair_place service board (47 ∷ 99 ∷ []) y ≡ at Service 84 1) × (pair_place service board (47 ∷ 99 ∷ []) x ≡ at Service 100 0)
unfolding big to_zero begin_of property_of plain_of token_of token size tokens_up_to follows named formed contents located pairs ended header list parts form same steps path listing first_of whereabouts pair_place
found = (refl, refl, refl, refl)

-- at /a, on the way to another; at c, and at no path, that do not begin with a /; at /c/, which would be a nameless node in c
pub not_found : (pair_place service board (47 ∷ 97 ∷ []) x ≡ Ok None) × (pair_place service board (99 ∷ []) y ≡ Ok None)
    × (pair_place service board [] x ≡ Ok None) × (pair_place service board (47 ∷ 99 ∷ 47 ∷ []) y ≡ Ok None)
unfolding big to_zero begin_of property_of plain_of token_of token size tokens_up_to follows named formed contents located pairs ended header list parts form same steps path listing first_of whereabouts pair_place
not_found = (refl, refl, refl, refl)

-- where either tree's form fails
pub malformed : (pair_place (other service) board (47 ∷ []) x ≡ Err Tree) × (pair_place service (other board) (47 ∷ 99 ∷ []) y ≡ Err Tree)
unfolding big to_zero begin_of property_of plain_of token_of token size tokens_up_to follows named formed contents located pairs ended header list parts form same steps path listing first_of whereabouts pair_place
malformed = (refl, refl)
