-- E9's sentences on looking up: which tree has a property, and that its value is the part told. Assumes nothing.
use Rattle.std.specs.Prelude.{ℕ, ◌+◌, ◌≤◌, ◌≡◌, true, false, List, [], Option, Some, None, Result, Ok, Err, length, drop, take}
use Rattle.refusals.specs.declared.Refusal.{Refusal}
use Rattle.refusals.specs.declared.Refusal.TheVariants.{Tree}
use Rattle.tree.specs.Header.{form}
use Rattle.lookup.specs.Values.{absent, present}
use Rattle.paths.specs.declared.pairs.Holder.{Holder}
use Rattle.paths.specs.declared.pairs.Holder.TheVariants.{Service, Board}
use Rattle.paths.specs.declared.pairs.Place.{Place}
use Rattle.paths.specs.Lookup.{lookup, pair_place, part_of}

-- that tree has it: the value is a part of it, not a copy
pub record PartOf (tree : List ℕ) (h : Holder) (value : List ℕ) (x : Result (Option Place) Refusal) : Type 0 where
  pub place : Place
  pub told : x ≡ Ok (Some place)
  pub holder : place.holder ≡ h
  pub inside : place.offset + place.length ≤ length tree
  pub is : take place.length (drop place.offset tree) ≡ value

pub record LookupSentence (service board p name : List ℕ) : Type 0 where
  -- 11 where a tree's form fails, whatever the other one has
  pub service_form : form service ≡ false → pair_place service board p name ≡ Err Tree
  pub board_form : form board ≡ false → pair_place service board p name ≡ Err Tree
  -- as a part of the service tree if that tree has it
  pub service_first : form service ≡ true → form board ≡ true → (v : List ℕ) → lookup service p name ≡ present v
      → PartOf service Service v (pair_place service board p name)
  -- otherwise as a part of the board's tree
  pub else_board : form service ≡ true → form board ≡ true → lookup service p name ≡ absent → (v : List ℕ) → lookup board p name ≡ present v
      → PartOf board Board v (pair_place service board p name)
  -- or neither
  pub neither : form service ≡ true → form board ≡ true → lookup service p name ≡ absent → lookup board p name ≡ absent
      → pair_place service board p name ≡ Ok None
  -- neither and 11 give an empty part
  pub empty : (part_of service board (Ok None) ≡ []) × ((e : Refusal) → part_of service board (Err e) ≡ [])
