-- Where all records have one tag, a table has every address of a range exactly if one record has: the first that ends at or above its base. Assumes nothing.
use Rattle.std.specs.Prelude.{Option, Some, None}
use Prim.Native.Nat.{ℕ, ◌+◌, ◌*◌, ◌-◌, ◌≤◌, ◌<◌}
use mathlib.Core.Path.{◌≡◌, refl, sym, ap, ◌∙◌}
use mathlib.Core.Bool.{Bool, true, false}
use mathlib.Core.List.{List}
use mathlib.Core.Logic.{◌⊎◌, inl, inr}
use native.Mathlib.Omega.{arith}
use lib.Dec.{leb}
use lib.ListN.{take, drop, take-append-drop}
use borrow.Author.Tests.{leb-true, leb-false}
use Rattle.address.specs.declared.Address.{Address}
use Rattle.address.specs.Numbers.{address}
use Rattle.address.proofs.Checked.{address_at, address_outside}
use Rattle.address.proofs.Tests.{le_or_lt}
use Rattle.regions.specs.declared.Region.{Region}
use Rattle.regions.specs.declared.State.TheVariants.{Absent, Present}
use Rattle.regions.specs.Meaning.{end, at, top, top_is}
use Rattle.regions.specs.Bytes.{read_region, read_regions}
use Rattle.regions.specs.Changes.{allowed}
use Rattle.regions.proofs.Rises.{Canonical, reach}
use Rattle.regions.proofs.RoundTrip.{rises_below, at_here, at_before, at_past}
use Rattle.regions.proofs.Prefix.{rest_at}
use Rattle.regions.proofs.Trim.{rises_apart}
use Rattle.regions.proofs.AllPresent.{AbsentIn, each_all, absent_not_all}
use Rattle.records.specs.Steps.{ending_by, Table}
use Rattle.records.proofs.Placing.{ending_reach, ending_past, place_le}
use Rattle.records.proofs.Parts.{table_rises, parts_rise, none_left, rest_begins, behind_rises, ends_by_top}
use Rattle.change.specs.Steps.{OneTagged}
use Rattle.change.proofs.Tagged.{tagged_at}
use Rattle.std.proofs.lemmas.List.Elements.{All-drop, All-head}

-- ---- nothing to look for

pub lax_allowed : (strict : Bool) (lo hi : ℕ) (xs : List Region) → strict ≡ false → true ≡ allowed strict lo hi xs
lax_allowed strict lo hi xs e = rw e

-- ---- one look

module _ (strict : Bool) (s : strict ≡ true) (l : List ℕ) (n i lo hi : ℕ) (w : Table l n) (e : i ≡ ending_by (lo - 1) (read_regions n l)) (m : lo < hi) where
  k : i ≤ n
  k = place_le l n (lo - 1) i e

  -- from lo on the table says what the records from the place on say
  rest_says : (a : ℕ) → lo ≤ a → at (read_regions n l) a ≡ at (drop i (read_regions n l)) a
  rest_says a h =
      let r : reach 0 (take i (read_regions n l)) ≤ lo - 1 = rw e (ending_reach (lo - 1) 0 (read_regions n l) (omega arith)) in
      rw (take-append-drop i (read_regions n l)) at (rest_at (take i (read_regions n l)) (drop i (read_regions n l)) a (parts_rise l n i w k) (omega arith))

  missing : (x : ℕ) → lo ≤ x → x < hi → at (drop i (read_regions n l)) x ≡ Absent → false ≡ allowed strict lo hi (read_regions n l)
  missing x a b h =
      let u : AbsentIn (at (read_regions n l)) lo (hi - lo) = record { address = x; low = a; high = omega arith; absent = rest_says x a ∙ h } in
      rw s (sym (absent_not_all (at (read_regions n l)) lo (hi - lo) u))

  pub none_allowed : n ≤ i → false ≡ allowed strict lo hi (read_regions n l)
  unfolding at
  none_allowed h = missing lo (omega arith) m (rw (none_left l n i w k h))

  module _ (h : i < n) (r : Region) (here : r ≡ read_region (drop (24 * i) l)) where
    pub past_allowed : (x : Option Address) → x ≡ address (end r) → x ≡ None → false ≡ allowed strict lo hi (read_regions n l)
    past_allowed x q o = absurd (omega (arith, ends_by_top l n i w k h r here, top_is, address_outside (end r) x q o))

    pub above_allowed : (b : Bool) → b ≡ leb r.base.0 lo → b ≡ false → b ≡ allowed strict lo hi (read_regions n l)
    above_allowed b q f =
        let j : lo < r.base.0 = leb-false r.base.0 lo (sym q ∙ f) in
        f ∙ missing lo (omega arith) m (ap (λ (xs : List Region). at xs lo) (rest_begins l n i w k h r here) ∙ at_before r (drop (i + 1) (read_regions n l)) lo j ∙ rises_below lo (behind_rises l n i w k h r here) (omega arith))

    -- it ends at or above lo
    ends : lo ≤ end r
    ends = go (le_or_lt (end r) (lo - 1))
      where
        c : Canonical top (read_regions n l)
        c = table_rises l n w

        go : (end r ≤ lo - 1) ⊎ (lo - 1 < end r) → lo ≤ end r
        go (inl j) = absurd (omega (arith, ending_past (lo - 1) i n l c h (rw (← here) j)))
        go (inr j) = omega arith

    pub here_allowed : (strict ≡ true → OneTagged (read_regions n l)) → r.base.0 ≤ lo → (x : Option Address) → x ≡ address (end r) → (o : Address) → x ≡ Some o
        → leb hi o.0 ≡ allowed strict lo hi (read_regions n l)
    here_allowed t b x q o p = rw (address_at (end r) x o q p).0 (go (leb hi (end r)) refl)
      where
        g : OneTagged (read_regions n l)
        g = t s

        all : hi ≤ end r → true ≡ allowed strict lo hi (read_regions n l)
        all j =
            rw s
            (sym (each_all (at (read_regions n l)) lo (hi - lo) (λ a u v.
            rw (rest_says a u, rest_begins l n i w k h r here, at_here r (drop (i + 1) (read_regions n l)) a (omega arith) (omega arith)))))

        -- the next one does not begin where it ends
        gap : (at (drop (i + 1) (read_regions n l)) (end r) ≡ Absent) ⊎ (at (drop (i + 1) (read_regions n l)) (end r) ≡ Present g.tag) → at (drop (i + 1) (read_regions n l)) (end r) ≡ Absent
        gap (inl d) = d
        gap (inr d) =
            let f = All-drop (λ (x : Region). x.tag ≡ g.tag) i (read_regions n l) g.all in
            let y : r.tag ≡ g.tag = All-head (λ (x : Region). x.tag ≡ g.tag) r (drop (i + 1) (read_regions n l)) (rw (rest_begins l n i w k h r here) at f) in
            absurd (rises_apart (behind_rises l n i w k h r here) (d ∙ ap Present (sym y)))

        go : (b : Bool) → leb hi (end r) ≡ b → b ≡ allowed strict lo hi (read_regions n l)
        go true j = all (leb-true hi (end r) j)
        go false j =
            let z = gap (tagged_at g.tag (drop (i + 1) (read_regions n l)) (end r) (All-drop (λ (x : Region). x.tag ≡ g.tag) (i + 1) (read_regions n l) g.all)) in
            missing (end r) ends (leb-false hi (end r) j) (ap (λ (xs : List Region). at xs (end r)) (rest_begins l n i w k h r here) ∙ at_past r (drop (i + 1) (read_regions n l)) (end r) (omega arith) ∙ z)
