-- Properties by path and name (E9): in a tree, and in a service tree before a board's. Assumes nothing.
use Rattle.std.specs.Prelude.{ℕ, ◌+◌, cond, ◌&&◌, List, [], ◌∷◌, ◌++◌, Option, Some, None, Result, Ok, Err, drop, take, get_or}
use Rattle.refusals.specs.Numbers.{number}
use Rattle.refusals.specs.declared.Refusal.{Refusal}
use Rattle.refusals.specs.declared.Refusal.TheVariants.{Tree}
use Rattle.tree.specs.Tokens.{tokens}
use Rattle.tree.specs.Form.{named}
use Rattle.tree.specs.Content.{Content, nothing, property, node, contents, first, in_root}
use Rattle.tree.specs.Places.{located}
use Rattle.tree.specs.Header.{field, form, root, strings, structure}
use Rattle.lookup.specs.Values.{same, name_at, path, Value, absent, present}
use Rattle.paths.specs.declared.pairs.Holder.{Holder}
use Rattle.paths.specs.declared.pairs.Holder.TheVariants.{Service, Board}
use Rattle.paths.specs.declared.pairs.Place.{Place}

-- ---- a tree

pub record Entry : Type 0 where
  pub path : List ℕ
  pub name : List ℕ
  pub value : List ℕ

-- the properties of a node and of those in it, in tree order, each with its node's path
unfoldable pub listing : List ℕ → List (List ℕ) → Content → List Entry
listing strings way nothing = []
listing strings way (property at value c) = record { path = path way; name = name_at strings at; value = value } ∷ listing strings way c
listing strings way (node name inner c) = listing strings (way ++ (name ∷ [])) inner ++ listing strings way c

-- the first that there is
abbrev pub or_else : Value → Value → Value
or_else absent v = v
or_else (present b) v = present b

-- the first match: equal bytes of path and name
unfoldable pub first_of : List ℕ → List ℕ → List Entry → Value
first_of p name [] = absent
first_of p name (e ∷ es) = cond (same e.path p && same e.name name) (present e.value) (first_of p name es)

unfoldable pub lookup : List ℕ → List ℕ → List ℕ → Value
lookup tree p name = first_of p name (listing (strings tree) [] (root tree))

-- ---- where its value stands

-- what stands in the root, each value by where it begins in the structure block and how long it is
abbrev pub root_places : List ℕ → Content
root_places tree = in_root (first (contents (located 0 (tokens (named (strings tree)) (structure tree)))))

-- the same first match, by these two numbers
unfoldable pub whereabouts : List ℕ → List ℕ → List ℕ → Value
whereabouts tree p name = first_of p name (listing (strings tree) [] (root_places tree))

-- ---- two trees

-- where a tree has the value: the offset is the structure block's and the place in it
abbrev pub place_in : List ℕ → Holder → Value → Option Place → Option Place
place_in tree h absent other = other
place_in tree h (present v) other = Some (record { holder = h; offset = field 2 tree + get_or v 0 0; length = get_or v 1 0 })

-- the service tree's if that has it, else the board's; refused where a tree's form fails
unfoldable pub pair_place : List ℕ → List ℕ → List ℕ → List ℕ → Result (Option Place) Refusal
pair_place service board p name =
    cond (form service && form board)
    (Ok (place_in service Service (whereabouts service p name) (place_in board Board (whereabouts board p name) None))) (Err Tree)

-- which tree has it
abbrev pub holder_of : Result (Option Place) Refusal → Result (Option Holder) Refusal
holder_of (Ok (Some r)) = Ok (Some r.holder)
holder_of (Ok None) = Ok None
holder_of (Err e) = Err e

abbrev pub tree_by : Holder → List ℕ → List ℕ → List ℕ
tree_by Service service board = service
tree_by Board service board = board

-- the value as a part of that tree
abbrev pub part_of : List ℕ → List ℕ → Result (Option Place) Refusal → List ℕ
part_of service board (Ok (Some r)) = take r.length (drop r.offset (tree_by r.holder service board))
part_of service board (Ok None) = []
part_of service board (Err e) = []

-- the numbers that say which; 11 where a tree's form fails
abbrev pub number_of_holder : Holder → ℕ
number_of_holder Service = 1
number_of_holder Board = 2

abbrev pub number_of : Result (Option Holder) Refusal → ℕ
number_of (Ok (Some h)) = number_of_holder h
number_of (Ok None) = 0
number_of (Err e) = number e
