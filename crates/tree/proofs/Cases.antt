-- Small structure blocks that are read or not, by computation. Assumes nothing.
use Prim.Native.Nat.{ℕ}
use mathlib.Core.Path.{◌≡◌, refl}
use mathlib.Core.Bool.{true, false}
use mathlib.Core.List.{List, [], ◌∷◌, ◌++◌}
use lib.ListN.{replicate}
use Rattle.tree.specs.Words.{big}
use Rattle.tree.specs.Tokens.{to_zero, begin_of, property_of, plain_of, token_of, token, size, tokens_up_to, tokens}
use Rattle.tree.specs.Form.{follows, named, formed}
use Rattle.tree.specs.Content.{nothing, property, node, contents, first}

-- "a" at 0; "b" at 2 does not end
abbrev strings : List ℕ
strings = 97 ∷ 0 ∷ 98 ∷ []

abbrev join : List (List ℕ) → List ℕ
join [] = []
join (x ∷ xs) = x ++ join xs

abbrev w : ℕ → List ℕ
w n = 0 ∷ 0 ∷ 0 ∷ n ∷ []

-- a node begins without a name; one named "m"; a property "a" of 5 bytes; padding is not zero
abbrev root : List ℕ
root = w 1 ++ w 0

abbrev child : List ℕ
child = w 1 ++ (109 ∷ 0 ∷ 7 ∷ 9 ∷ [])

abbrev has : List ℕ
has = w 3 ++ (w 5 ++ (w 0 ++ (1 ∷ 2 ∷ 3 ∷ 4 ∷ 5 ∷ 6 ∷ 7 ∷ 8 ∷ [])))

-- a root with a property, a child with the same, no operation here and there
abbrev good : List ℕ
good = join (w 4 ∷ root ∷ has ∷ w 4 ∷ child ∷ has ∷ w 2 ∷ w 4 ∷ w 2 ∷ w 4 ∷ w 9 ∷ [])

abbrev deep : ℕ → List ℕ
deep n = join (replicate n root ++ (replicate n (w 2) ++ (w 9 ∷ [])))

pub good_says : first (contents (tokens (named strings) good))
    ≡ node [] (property 0 (1 ∷ 2 ∷ 3 ∷ 4 ∷ 5 ∷ []) (node (109 ∷ []) (property 0 (1 ∷ 2 ∷ 3 ∷ 4 ∷ 5 ∷ []) nothing) nothing)) nothing
unfolding big to_zero begin_of property_of plain_of token_of token size tokens_up_to named contents
good_says = refl

pub good_read : formed strings good ≡ true
unfolding big to_zero begin_of property_of plain_of token_of token size tokens_up_to follows named formed
good_read = refl

pub sixteen_deep_read : formed strings (deep 16) ≡ true
unfolding big to_zero begin_of property_of plain_of token_of token size tokens_up_to follows named formed
sixteen_deep_read = refl

pub seventeen_deep_refused : formed strings (deep 17) ≡ false
unfolding big to_zero begin_of property_of plain_of token_of token size tokens_up_to follows named formed
seventeen_deep_refused = refl

-- a property behind a child
pub late_property_refused : formed strings (join (root ∷ child ∷ w 2 ∷ has ∷ w 2 ∷ w 9 ∷ [])) ≡ false
unfolding big to_zero begin_of property_of plain_of token_of token size tokens_up_to follows named formed
late_property_refused = refl

pub second_root_refused : formed strings (join (root ∷ w 2 ∷ root ∷ w 2 ∷ w 9 ∷ [])) ≡ false
unfolding big to_zero begin_of property_of plain_of token_of token size tokens_up_to follows named formed
second_root_refused = refl

pub token_behind_end_refused : formed strings (join (root ∷ w 2 ∷ w 9 ∷ w 4 ∷ [])) ≡ false
unfolding big to_zero begin_of property_of plain_of token_of token size tokens_up_to follows named formed
token_behind_end_refused = refl

pub no_end_token_refused : formed strings (join (root ∷ w 2 ∷ [])) ≡ false
unfolding big to_zero begin_of property_of plain_of token_of token size tokens_up_to follows named formed
no_end_token_refused = refl

-- a name that does not end inside the structure block
pub unended_name_refused : formed strings (join (w 1 ∷ (1 ∷ 1 ∷ 1 ∷ 1 ∷ []) ∷ [])) ≡ false
unfolding big to_zero begin_of property_of plain_of token_of token size tokens_up_to follows named formed
unended_name_refused = refl

-- a property whose name does not end inside the strings block
pub unended_property_name_refused : formed strings (join (root ∷ w 3 ∷ w 0 ∷ w 2 ∷ w 2 ∷ w 9 ∷ [])) ≡ false
unfolding big to_zero begin_of property_of plain_of token_of token size tokens_up_to follows named formed
unended_property_name_refused = refl
