-- A table's records in two parts, at one of them. Assumes nothing.
use Rattle.std.proofs.Common.{◌≡◌, ℕ, ◌+◌, ◌*◌, ◌<◌, ◌≤◌, List, [], ◌∷◌, ◌++◌, take, drop, ◌∙◌, arith, take-append-drop}
use Rattle.regions.specs.declared.Region.{Region}
use Rattle.regions.specs.declared.State.TheVariants.{Absent, Present}
use Rattle.regions.specs.Meaning.{end, top}
use Rattle.regions.specs.Bytes.{read_region, read_regions}
use Rattle.regions.proofs.Rises.{Rises, next, Canonical, reach, edge, rises-Rises}
use Rattle.regions.proofs.RoundTrip.{rises_end}
use Rattle.regions.proofs.Prefix as prefix
use Rattle.regions.proofs.Records.{read_regions_rest, read_regions_end}
use Rattle.records.specs.Steps.{Table}
use Rattle.records.proofs.Placing.{drop_read}

-- they are a shortest list
pub table_rises : (l : List ℕ) (n : ℕ) → Table l n → Canonical top (read_regions n l)
table_rises l n w = rises-Rises 0 Absent top (read_regions n l) w.rising

module _ (l : List ℕ) (n i : ℕ) (w : Table l n) (k : i ≤ n) where
  pub parts_rise : Canonical top (take i (read_regions n l) ++ drop i (read_regions n l))
  parts_rise = rw (take-append-drop i (read_regions n l)) (table_rises l n w)

  pub none_left : n ≤ i → drop i (read_regions n l) ≡ []
  none_left h = drop_read i n l k ∙ read_regions_end i n (drop (24 * i) l) h

  -- the record at the place
  module _ (h : i < n) (r : Region) (here : r ≡ read_region (drop (24 * i) l)) where
    pub rest_begins : drop i (read_regions n l) ≡ r ∷ drop (i + 1) (read_regions n l)
    rest_begins =
        let j : i + 1 ≤ n = omega arith in
        drop_read i n l k ∙ read_regions_rest i n l h ∙ rw (← here, drop_read (i + 1) n l j)

    pub rest_rises : Rises (reach 0 (take i (read_regions n l))) (edge Absent (take i (read_regions n l))) top (r ∷ drop (i + 1) (read_regions n l))
    rest_rises = rw rest_begins at (prefix.rest_rises (take i (read_regions n l)) (drop i (read_regions n l)) parts_rise)

    -- those behind it begin past its end, or there with another tag
    pub behind_rises : Rises (end r) (Present r.tag) top (drop (i + 1) (read_regions n l))
    behind_rises = go rest_rises
      where
        go : Rises (reach 0 (take i (read_regions n l))) (edge Absent (take i (read_regions n l))) top (r ∷ drop (i + 1) (read_regions n l))
            → Rises (end r) (Present r.tag) top (drop (i + 1) (read_regions n l))
        go (next j v) = v

    pub ends_by_top : end r ≤ top
    ends_by_top = rises_end behind_rises
