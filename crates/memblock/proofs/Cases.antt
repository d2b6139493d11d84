-- Document 01's marked cases hold, all under one claim: each is computed by the executable twin, which is equal to the definitions. Assumes nothing.
use Prim.Native.Nat.{ℕ}
use mathlib.Core.Path.{◌≡◌, refl, ap, ap₂, ◌∙◌}
use mathlib.Core.Bool.{Bool, true, false, ◌&&◌}
use mathlib.Core.List.{List, [], ◌∷◌, map}
use lib.Dec.{eqb}
use borrow.Author.Tests.{eqb-true}
use Rattle.address.specs.Numbers.{power_below}
use Rattle.address.proofs.Tests.{both}
use Rattle.regions.specs.declared.Region.{Region}
use Rattle.regions.specs.declared.Kind.{Kind}
use Rattle.regions.specs.declared.Kind.TheVariants.{Memory, Taken}
use Rattle.regions.specs.Meaning.{at, same_tag, join, push, total, top}
use Rattle.regions.specs.Lists.{fits, rises, legal, legal_tag}
use Rattle.regions.specs.Changes.{change, all_present}
use Rattle.regions.specs.Trim.{round_each}
use Rattle.regions.specs.Bytes.{bytes}
use Rattle.regions.specs.Steps.{stretch}
use Rattle.regions.proofs.Push.{same_true as tags-equal}
use Rattle.regions.proofs.Count.{sizes}
use Rattle.regions.proofs.Good.{good_rises, total_is_sizes}
use Rattle.block.specs.Block.{capacity, current, Contents, list_of, fresh_contents, block_bytes, contents, same_bytes}
use Rattle.block.proofs.Same.{same_true}
use Rattle.block.proofs.Blocks.{lists_ok}
use Rattle.block.proofs.Reading.{Spellable, contents_spelled}
use Rattle.block.proofs.Layouts.{small_current}
use Rattle.search.specs.Answers.{Answer}
use Rattle.fits.specs.Steps.{cut_low, cut_high, fit_low, fit_high}
use Rattle.memblock.specs.Calls.{Call, leaves}
use Rattle.memblock.specs.Cases.{Case, Holds, AllHold, fresh, cases}
use Rattle.memblock.proofs.Computing.{sound, Result, spelled, compute, compute_all, computable, all_computable, sound_spellable, call_computed, answers_computed}
use Rattle.regions.proofs.Update as table
use Rattle.fits.proofs.Ways as walks

-- the contents at the end
unfoldable ended : List Call → Contents → Contents
ended [] s = s
ended (c ∷ cs) s = ended cs (compute c s).after

leaves_computed : (cs : List Call) (s : Contents) → all_computable cs s ≡ true → leaves cs (block_bytes current s) ≡ block_bytes current (ended cs s)
unfolding leaves ended all_computable
leaves_computed [] s e = refl
leaves_computed (c ∷ cs) s e =
    let p = both (sound s && computable c) (all_computable cs (compute c s).after) e in
    let q = both (sound s) (computable c) p.0 in
    ap (λ (x : Answer). leaves cs x.block) (call_computed c s (sound_spellable s q.0) q.1) ∙ leaves_computed cs (compute c s).after p.1

-- what is computed of a case
record Computed (c : Case) : Type 0 where
  computable : all_computable c.calls fresh_contents ≡ true
  sound : sound (ended c.calls fresh_contents) ≡ true
  numbers : map (λ (p : Result). p.number) (compute_all c.calls fresh_contents) ≡ c.numbers
  slips : map (λ (p : Result). p.slip) (compute_all c.calls fresh_contents) ≡ c.slips
  memory : (ended c.calls fresh_contents).memory ≡ c.memory
  memory_total : sizes c.memory ≡ c.memory_total
  taken : (ended c.calls fresh_contents).taken ≡ c.taken
  taken_total : sizes c.taken ≡ c.taken_total

spelled_numbers : (ps : List Result) → map (λ (a : Answer). a.number) (map spelled ps) ≡ map (λ (p : Result). p.number) ps
spelled_numbers [] = refl
spelled_numbers (p ∷ ps) = ap (λ (l : List ℕ). p.number ∷ l) (spelled_numbers ps)

spelled_slips : (ps : List Result) → map (λ (a : Answer). a.slip) (map spelled ps) ≡ map (λ (p : Result). p.slip) ps
spelled_slips [] = refl
spelled_slips (p ∷ ps) = ap (λ (l : List (List ℕ)). p.slip ∷ l) (spelled_slips ps)

computed_holds : (c : Case) → Computed c → Holds c
computed_holds c p =
    let s = ended c.calls fresh_contents in
    let sp : Spellable current s = sound_spellable s p.sound in
    let a = answers_computed c.calls fresh_contents p.computable in
    let e : contents current (leaves c.calls fresh) ≡ s =
    ap (contents current) (leaves_computed c.calls fresh_contents p.computable) ∙ contents_spelled current small_current s sp in
    let t : (k : Kind) → total (at (list_of s k)) top ≡ sizes (list_of s k) = λ k. total_is_sizes (list_of s k) (good_rises k (list_of s k) (lists_ok current s sp.good k)) in
    record {
      numbers = ap (map (λ (x : Answer). x.number)) a ∙ spelled_numbers (compute_all c.calls fresh_contents) ∙ p.numbers;
      slips = ap (map (λ (x : Answer). x.slip)) a ∙ spelled_slips (compute_all c.calls fresh_contents) ∙ p.slips;
      memory = ap (λ (x : Contents). x.memory) e ∙ p.memory;
      memory_total = ap (λ (x : Contents). total (at x.memory) top) e ∙ t Memory ∙ ap sizes p.memory ∙ p.memory_total;
      taken = ap (λ (x : Contents). x.taken) e ∙ p.taken;
      taken_total = ap (λ (x : Contents). total (at x.taken) top) e ∙ t Taken ∙ ap sizes p.taken ∙ p.taken_total;
    }

-- ---- one test for the whole table

same_slips : List (List ℕ) → List (List ℕ) → Bool
same_slips [] [] = true
same_slips [] (y ∷ ys) = false
same_slips (x ∷ xs) [] = false
same_slips (x ∷ xs) (y ∷ ys) = same_bytes x y && same_slips xs ys

same_slips_lem : (xs ys : List (List ℕ)) → same_slips xs ys ≡ true → xs ≡ ys
unfolding same_slips
same_slips_lem [] [] e = refl
same_slips_lem [] (y ∷ ys) e = let z : false ≡ true = e in cc
same_slips_lem (x ∷ xs) [] e = let z : false ≡ true = e in cc
same_slips_lem (x ∷ xs) (y ∷ ys) e =
    let p = both (same_bytes x y) (same_slips xs ys) e in
    ap₂ (λ (a : List ℕ) (l : List (List ℕ)). a ∷ l) (same_true x y p.0) (same_slips_lem xs ys p.1)

same_region : Region → Region → Bool
same_region r q = (eqb r.base.0 q.base.0 && eqb r.size.0 q.size.0) && same_tag r.tag q.tag

same_region_lem : (r q : Region) → same_region r q ≡ true → r ≡ q
unfolding same_region
same_region_lem r q e =
    let p = both (eqb r.base.0 q.base.0 && eqb r.size.0 q.size.0) (same_tag r.tag q.tag) e in
    let n = both (eqb r.base.0 q.base.0) (eqb r.size.0 q.size.0) p.0 in
    let b = eqb-true r.base.0 q.base.0 n.0 in
    let s = eqb-true r.size.0 q.size.0 n.1 in
    let t = tags-equal r.tag q.tag p.1 in
    λ i. record { base = record { 0 = b i }; size = record { 0 = s i }; tag = t i }

same_regions : List Region → List Region → Bool
same_regions [] [] = true
same_regions [] (y ∷ ys) = false
same_regions (x ∷ xs) [] = false
same_regions (x ∷ xs) (y ∷ ys) = same_region x y && same_regions xs ys

same_regions_lem : (xs ys : List Region) → same_regions xs ys ≡ true → xs ≡ ys
unfolding same_regions
same_regions_lem [] [] e = refl
same_regions_lem [] (y ∷ ys) e = let z : false ≡ true = e in cc
same_regions_lem (x ∷ xs) [] e = let z : false ≡ true = e in cc
same_regions_lem (x ∷ xs) (y ∷ ys) e =
    let p = both (same_region x y) (same_regions xs ys) e in
    ap₂ (λ (a : Region) (l : List Region). a ∷ l) (same_region_lem x y p.0) (same_regions_lem xs ys p.1)

abbrev tables_right : Case → Contents → Bool
tables_right c s =
    (same_regions s.memory c.memory && eqb (sizes c.memory) c.memory_total) && (same_regions s.taken c.taken && eqb (sizes c.taken) c.taken_total)

abbrev answers_right : Case → List Result → Bool
answers_right c ps = same_bytes (map (λ (p : Result). p.number) ps) c.numbers && same_slips (map (λ (p : Result). p.slip) ps) c.slips

right : Case → Bool
right c =
    (all_computable c.calls fresh_contents && sound (ended c.calls fresh_contents))
    && (answers_right c (compute_all c.calls fresh_contents) && tables_right c (ended c.calls fresh_contents))

right_holds : (c : Case) → right c ≡ true → Holds c
unfolding right
right_holds c e =
    let s = ended c.calls fresh_contents in
    let ps = compute_all c.calls fresh_contents in
    let p = both (all_computable c.calls fresh_contents && sound s) (answers_right c ps && tables_right c s) e in
    let a = both (all_computable c.calls fresh_contents) (sound s) p.0 in
    let q = both (answers_right c ps) (tables_right c s) p.1 in
    let n = both (same_bytes (map (λ (p : Result). p.number) ps) c.numbers) (same_slips (map (λ (p : Result). p.slip) ps) c.slips) q.0 in
    let m : Bool = same_regions s.memory c.memory && eqb (sizes c.memory) c.memory_total in
    let t : Bool = same_regions s.taken c.taken && eqb (sizes c.taken) c.taken_total in
    let r = both m t q.1 in
    let x = both (same_regions s.memory c.memory) (eqb (sizes c.memory) c.memory_total) r.0 in
    let y = both (same_regions s.taken c.taken) (eqb (sizes c.taken) c.taken_total) r.1 in
    computed_holds c
    record {
      computable = a.0;
      sound = a.1;
      numbers = same_true (map (λ (p : Result). p.number) ps) c.numbers n.0;
      slips = same_slips_lem (map (λ (p : Result). p.slip) ps) c.slips n.1;
      memory = same_regions_lem s.memory c.memory x.0;
      memory_total = eqb-true (sizes c.memory) c.memory_total x.1;
      taken = same_regions_lem s.taken c.taken y.0;
      taken_total = eqb-true (sizes c.taken) c.taken_total y.1;
    }

all_right : List Case → Bool
all_right [] = true
all_right (c ∷ cs) = right c && all_right cs

all_right_lem : (cs : List Case) → all_right cs ≡ true → AllHold cs
unfolding all_right
all_right_lem [] e = tt
all_right_lem (c ∷ cs) e =
    let p = both (right c) (all_right cs) e in
    (right_holds c p.0, all_right_lem cs p.1)

cases_right : all_right cases ≡ true
unfolding all_right right same_slips same_regions same_region cases capacity all_computable compute_all ended compute computable same_bytes sizes power_below fits rises legal legal_tag change round_each all_present at bytes push join stretch table.walk table.update cut_low cut_high fit_low fit_high walks.gaps walks.walk walks.onto walks.falling
cases_right = refl

-- the marked cases
pub marked_cases : AllHold cases
marked_cases = all_right_lem cases cases_right
