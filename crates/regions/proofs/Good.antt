-- A good list is a shortest list, and its total is the sum of its sizes. Assumes nothing.
use Prim.Native.Nat.{ℕ, ◌^◌, ◌<◌}
use mathlib.Core.Path.{◌≡◌, ap, ◌∙◌}
use mathlib.Core.Bool.{true, false}
use mathlib.Core.List.{List}
use native.Mathlib.Omega.{arith}
use lib.Dec.{leb, eqb}
use borrow.Author.Tests.{leb-true, eqb-true}
use Rattle.address.proofs.Tests.{both, no}
use Rattle.regions.specs.declared.Tag.{Tag}
use Rattle.regions.specs.declared.Region.{Region}
use Rattle.regions.specs.declared.State.{State}
use Rattle.regions.specs.declared.State.TheVariants.{Absent}
use Rattle.regions.specs.declared.Kind.{Kind}
use Rattle.regions.specs.declared.Kind.TheVariants.{Memory, Taken}
use Rattle.regions.specs.Meaning.{at, total, top, top_is}
use Rattle.regions.specs.Lists.{rises, legal_tag, legal, good_list}
use Rattle.regions.proofs.Rises.{Rises, ended, next, Canonical, rises-Rises}
use Rattle.regions.proofs.Records.{Fit, AllFit, none, more}
use Rattle.regions.proofs.Count.{sizes, total_sizes}
use Rattle.regions.proofs.RoundTrip.{rises_end, round_trip}

pub good_rises : (k : Kind) (xs : List Region) → good_list k xs ≡ true → Canonical top xs
unfolding good_list
good_rises k xs g = rises-Rises 0 Absent top xs (both (rises 0 Absent top xs) (legal k xs) g).0

pub good_legal : (k : Kind) (xs : List Region) → good_list k xs ≡ true → legal k xs ≡ true
unfolding good_list
good_legal k xs g = (both (rises 0 Absent top xs) (legal k xs) g).1

-- the total counts what the records say
pub total_is_sizes : (xs : List Region) → Canonical top xs → total (at xs) top ≡ sizes xs
total_is_sizes xs w = total_sizes (at xs) top ∙ ap sizes (round_trip top xs w)

-- nothing rises from past the top
pub rises_past : (c : ℕ) (v : State) (n : ℕ) (xs : List Region) → n < c → rises c v n xs ≡ false
rises_past c v n xs h = no (rises c v n xs) (λ e. let l = rises_end (rises-Rises c v n xs e) in omega arith)

-- ---- the fields of a good list's records fit their places

legal_fits : (k : Kind) (t : Tag) → legal_tag k t ≡ true → (t.flags < 2 ^ 32) × (t.node < 2 ^ 32)
unfolding legal_tag
legal_fits Memory t e =
    let p = both (leb t.flags 7) (leb t.node 63) e in
    (omega (arith, leb-true t.flags 7 p.0), omega (arith, leb-true t.node 63 p.1))
legal_fits Taken t e =
    let p = both (eqb t.flags 0) (eqb t.node 0) e in
    (omega (arith, eqb-true t.flags 0 p.0), omega (arith, eqb-true t.node 0 p.1))

rises_fit : (k : Kind) {c : ℕ} {v : State} {xs : List Region} → Rises c v top xs → legal k xs ≡ true → AllFit xs
unfolding legal
rises_fit k (ended l) e = none
rises_fit k (next {r = r} {rs = rs} f w) e =
    let p = both (legal_tag k r.tag) (legal k rs) e in
    let q = legal_fits k r.tag p.0 in
    let l = rises_end w in
    let g : Fit r = record { base = omega (arith, top_is); size = omega (arith, top_is); flags = q.0; node = q.1 } in
    more g (rises_fit k w p.1)

pub good_fits : (k : Kind) (xs : List Region) → good_list k xs ≡ true → AllFit xs
good_fits k xs g = rises_fit k (good_rises k xs g) (good_legal k xs g)
