-- Others in the place of the records met: how many there are, whether they have room, and the total by the difference. Assumes nothing.
use Prim.Native.Nat.{ℕ, ◌+◌, ◌*◌, ◌-◌, ◌/◌, ◌≤◌, ◌<◌}
use mathlib.Core.Path.{◌≡◌, sym, ap, ◌∙◌}
use mathlib.Core.Bool.{true}
use mathlib.Core.List.{List, [], ◌∷◌, ◌++◌, append-nil}
use native.Mathlib.Omega.{arith}
use lib.ListN.{length, take, drop, length-append, length-drop, take-append-drop}
use lib.Seq.{drop-drop, length-take-le}
use borrow.Author.Tests.{le-leb, lt-leb}
use Rattle.address.specs.declared.Size.{Size}
use Rattle.regions.specs.declared.Region.{Region}
use Rattle.regions.specs.declared.State.TheVariants.{Absent}
use Rattle.regions.specs.Meaning.{at, total, top, top_is}
use Rattle.regions.specs.Lists.{rises}
use Rattle.regions.specs.Bytes.{read_regions, table_bytes}
use Rattle.regions.proofs.Rises.{Canonical, rises-Rises, Rises-rises}
use Rattle.regions.proofs.Count.{sizes, total_le}
use Rattle.regions.proofs.Good.{total_is_sizes}
use Rattle.regions.proofs.Records.{read_regions_length}
use Rattle.regions.proofs.Middle.{canonical_part}
use Rattle.refusals.specs.declared.Refusal.TheVariants.{Full}
use Rattle.std.specs.Prelude.{Ok, Err}
use Rattle.records.specs.Totals.{tally}
use Rattle.records.specs.Steps.{put}
use Rattle.change.specs.Steps.{Stored, stored_answer, stored_bytes}
use Rattle.records.proofs.Copying.{copied_records}
use Rattle.records.proofs.Placing.{take_read, drop_read}

-- ---- the records met

sizes_append : (xs ys : List Region) → sizes (xs ++ ys) ≡ sizes xs + sizes ys
unfolding sizes
sizes_append [] ys = omega arith
sizes_append (r ∷ xs) ys = omega (arith, sizes_append xs ys)

pub counted : (n : ℕ) (l : List ℕ) → n ≡ length (read_regions n l)
counted n l = sym (read_regions_length n l)

module _ (t : List ℕ) (count first stop : ℕ) (a : first ≤ stop) (b : stop ≤ count) (room : 24 * count ≤ length t) where
  unfoldable pub mid : List Region
  mid = take (stop - first) (drop first (read_regions count t))

  pub apart : read_regions count t ≡ take first (read_regions count t) ++ (mid ++ drop stop (read_regions count t))
  unfolding mid
  apart =
      let f : first + (stop - first) ≡ stop = omega arith in
      let d : drop (stop - first) (drop first (read_regions count t)) ≡ drop stop (read_regions count t) = drop-drop (stop - first) first (read_regions count t) ∙ rw f in
      sym (ap (λ (y : List Region). take first (read_regions count t) ++ (take (stop - first) (drop first (read_regions count t)) ++ y)) (sym d)
      ∙ ap (λ (y : List Region). take first (read_regions count t) ++ y) (take-append-drop (stop - first) (drop first (read_regions count t)))
      ∙ take-append-drop first (read_regions count t))

  -- read from their part
  pub mid_read : read_regions (stop - first) (take (24 * stop - 24 * first) (drop (24 * first) t)) ≡ mid
  unfolding mid
  mid_read =
      let e : 24 * stop - 24 * first ≡ 24 * (stop - first) = omega arith in
      let l : 24 * (stop - first) ≤ length (drop (24 * first) t) = simp length-drop (omega arith) in
      let h : first ≤ count = omega arith in
      let k : stop - first ≤ count - first = omega arith in
      rw e (ap (read_regions (stop - first)) (sym (append-nil (take (24 * (stop - first)) (drop (24 * first) t)))) ∙ copied_records [] (drop (24 * first) t) (stop - first) l)
      ∙ sym (ap (take (stop - first)) (drop_read first count t h) ∙ take_read (stop - first) (count - first) (drop (24 * first) t) k)

  pub part_room : 24 * (stop - first) ≤ length (take (24 * stop - 24 * first) (drop (24 * first) t))
  part_room = omega (arith, length-take-le (24 * stop - 24 * first) (drop (24 * first) t) (simp length-drop (omega arith)))

  pub put_room : (n : ℕ) → length t ≡ 24 * (length t / 24) → count - (stop - first) + n ≤ length t / 24 → 24 * (count - stop + (first + n)) ≤ length t
  put_room n e h = omega arith

  module _ (w : rises 0 Absent top (read_regions count t) ≡ true) where
    pub split_rises : Canonical top (take first (read_regions count t) ++ (mid ++ drop stop (read_regions count t)))
    split_rises = rw apart at (rises-Rises 0 Absent top (read_regions count t) w)

    pub mid_rises : Canonical top mid
    mid_rises = canonical_part (take first (read_regions count t)) mid (drop stop (read_regions count t)) split_rises

    pub part_rises : rises 0 Absent top (read_regions (stop - first) (take (24 * stop - 24 * first) (drop (24 * first) t))) ≡ true
    part_rises = rw mid_read (Rises-rises mid_rises)

    module _ (ys : List Region) (v : rises 0 Absent top ys ≡ true) (u : rises 0 Absent top (put first stop ys (read_regions count t)) ≡ true) where
      put_length : length (put first stop ys (read_regions count t)) ≡ count - (stop - first) + length ys
      unfolding put
      put_length =
          let n = read_regions_length count t in
          let x : length (take first (read_regions count t)) ≡ first = length-take-le first (read_regions count t) (omega arith) in
          let y : length (drop stop (read_regions count t)) ≡ count - stop = length-drop stop (read_regions count t) ∙ rw n in
          simp length-append (omega arith)

      pub put_done : (s : Size) → s.0 ≡ total (at (put first stop ys (read_regions count t))) top → (n : ℕ) → n ≡ length ys → count - (stop - first) + n ≤ length t / 24 → (e : List ℕ)
          → e ≡ table_bytes (length t / 24) (put first stop ys (read_regions count t))
          → Stored t e (put first stop ys (read_regions count t)) (Ok (record { count = count - (stop - first) + n; total = s }))
      unfolding stored_answer stored_bytes
      put_done s es n en h e q =
          let f : length (put first stop ys (read_regions count t)) ≤ length t / 24 = omega (arith, put_length) in
          let c : count - (stop - first) + n ≡ length (put first stop ys (read_regions count t)) = omega (arith, put_length) in
          let y : record { count = count - (stop - first) + n; total = s } ≡ tally (put first stop ys (read_regions count t)) = λ i. record { count = c i; total = record { 0 = es i } } in
          record {
            answer = rw (le-leb (length (put first stop ys (read_regions count t))) (length t / 24) f) (ap Ok y);
            after = rw (le-leb (length (put first stop ys (read_regions count t))) (length t / 24) f) q;
          }

      -- the total, by the difference
      module _ (old lost won : ℕ) (eo : old ≡ total (at (read_regions count t)) top) (el : lost ≡ total (at (read_regions (stop - first) (take (24 * stop - 24 * first) (drop (24 * first) t)))) top)
          (ew : won ≡ total (at ys) top) where
        sums : (old ≡ sizes (take first (read_regions count t)) + (lost + sizes (drop stop (read_regions count t))))
            × (total (at (put first stop ys (read_regions count t))) top ≡ sizes (take first (read_regions count t)) + (won + sizes (drop stop (read_regions count t))))
        unfolding put
        sums =
            let p : lost ≡ sizes mid = el ∙ rw mid_read (total_is_sizes mid mid_rises) in
            let q : won ≡ sizes ys = ew ∙ total_is_sizes ys (rises-Rises 0 Absent top ys v) in (
              eo ∙ total_is_sizes (read_regions count t) (rises-Rises 0 Absent top (read_regions count t) w) ∙ ap sizes apart
                  ∙ sizes_append (take first (read_regions count t)) (mid ++ drop stop (read_regions count t)) ∙ omega (arith, sizes_append mid (drop stop (read_regions count t))),
              total_is_sizes (put first stop ys (read_regions count t)) (rises-Rises 0 Absent top (put first stop ys (read_regions count t)) u)
                  ∙ sizes_append (take first (read_regions count t)) (ys ++ drop stop (read_regions count t)) ∙ omega (arith, sizes_append ys (drop stop (read_regions count t))),
            )

        pub lost_le : lost ≤ old
        lost_le = omega (arith, sums.0)

        module _ (kept : ℕ) (ek : kept ≡ old - lost) where
          put_total : kept + won ≡ total (at (put first stop ys (read_regions count t))) top
          put_total = omega (arith, sums)

          pub put_small : kept + won < 18446744073709551616
          put_small = omega (arith, put_total, total_le (at (put first stop ys (read_regions count t))) top, top_is)

          pub splice_done : (s : Size) → s.0 ≡ kept + won → (n : ℕ) → n ≡ length ys → count - (stop - first) + n ≤ length t / 24 → (e : List ℕ)
              → e ≡ table_bytes (length t / 24) (put first stop ys (read_regions count t))
              → Stored t e (put first stop ys (read_regions count t)) (Ok (record { count = count - (stop - first) + n; total = s }))
          splice_done s es n en h e q = put_done s (es ∙ put_total) n en h e q

      pub splice_full : (n : ℕ) → n ≡ length ys → length t / 24 < count - (stop - first) + n → Stored t t (put first stop ys (read_regions count t)) (Err Full)
      unfolding stored_answer stored_bytes
      splice_full n en h =
          let f : length t / 24 < length (put first stop ys (read_regions count t)) = omega (arith, put_length) in
          record {
            answer = rw (lt-leb (length (put first stop ys (read_regions count t))) (length t / 24) f);
            after = rw (lt-leb (length (put first stop ys (read_regions count t))) (length t / 24) f);
          }
