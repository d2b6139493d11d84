-- One stretch: the fits are the lowest and the highest address of it that is in the window, and the code's steps find them. Assumes nothing.
use Prim.Native.Nat.{ℕ, ◌+◌, ◌-◌, ◌%◌, ◌≤◌, ◌<◌, min, max}
use mathlib.Core.Path.{◌≡◌, refl, sym, ap, ◌∙◌}
use mathlib.Core.Bool.{Bool, true, false, cond, ◌&&◌}
use mathlib.Core.Option.{none, some}
use native.Mathlib.Omega.{arith}
use lib.Dec.{leb, eqb}
use borrow.Author.Tests.{le-leb, lt-leb, leb-true, leb-false, eq-eqb, eqb-true}
use Rattle.address.specs.Numbers.{address, difference, up, down, power_of_two}
use Rattle.address.specs.declared.Address.{Address}
use Rattle.std.specs.Prelude.{Option, Some, None}
use Rattle.address.proofs.Tests.{both, and, no, clash, zero_not_one}
use Rattle.address.proofs.Checked.{address_at, address_outside}
use Rattle.address.proofs.Rounding.{up_ge, up_multiple, up_least, down_le, down_multiple, down_most}
use Rattle.address.proofs.Powers.{power_some}
use Rattle.regions.specs.Runs.{run_of}
use Rattle.fits.specs.declared.Query.{Query}
use Rattle.regions.specs.declared.Run.{Run}
use Rattle.fits.specs.Steps.{hit_in, spot_of, cut_low, cut_high, fit_low, fit_high}
use Rattle.fits.specs.declared.Way.{Way}
use Rattle.fits.specs.declared.Way.TheVariants.{Up, Down}
use Rattle.fits.proofs.Ways.{near, far, From, Nearer, within, fit}
use Rattle.fits.proofs.Stretches.{Finds}

-- a multiple of the alignment, and the size from there lies between start and end
abbrev pub in_window : Query → ℕ → Bool
in_window q a = eqb (a % q.align.0) 0 && (leb q.start.0 a && leb (a + q.size.0) q.end.0)

abbrev low_at : Query → ℕ → ℕ
low_at q lo = up (max lo q.start.0) q.align.0

abbrev high_at : Query → ℕ → ℕ
high_at q hi = down (min hi q.end.0 - q.size.0) q.align.0

-- in the window, and by hi
record Fine (q : Query) (hi a : ℕ) : Type 0 where
  even : a % q.align.0 ≡ 0
  from : q.start.0 ≤ a
  to : a + q.size.0 ≤ q.end.0
  by : a + q.size.0 ≤ hi

module _ (q : Query) (hi a : ℕ) where
  fine_of : in_window q a && leb (a + q.size.0) hi ≡ true → Fine q hi a
  fine_of e =
      let f = both (in_window q a) (leb (a + q.size.0) hi) e in
      let g = both (eqb (a % q.align.0) 0) (leb q.start.0 a && leb (a + q.size.0) q.end.0) f.0 in
      let h = both (leb q.start.0 a) (leb (a + q.size.0) q.end.0) g.1 in
      record {
        even = eqb-true (a % q.align.0) 0 g.0;
        from = leb-true q.start.0 a h.0;
        to = leb-true (a + q.size.0) q.end.0 h.1;
        by = leb-true (a + q.size.0) hi f.1;
      }

  fine_yes : Fine q hi a → in_window q a && leb (a + q.size.0) hi ≡ true
  fine_yes f =
      and (and (eq-eqb (a % q.align.0) 0 f.even) (and (le-leb q.start.0 a f.from) (le-leb (a + q.size.0) q.end.0 f.to)))
      (le-leb (a + q.size.0) hi f.by)

-- where p holds exactly at the addresses of the window from which the size ends by hi
module _ (q : Query) (some_size : 0 < q.size.0) (some-align : 0 < q.align.0) (p : ℕ → Bool) (lo hi : ℕ)
    (here : (a : ℕ) → lo ≤ a → a < hi → p a ≡ in_window q a && leb (a + q.size.0) hi) where
  yes : (a : ℕ) → lo ≤ a → Fine q hi a → p a ≡ true
  yes a l f = here a l (omega arith) ∙ fine_yes q hi a f

  fine : (a : ℕ) → lo ≤ a → a < hi → p a ≡ true → Fine q hi a
  fine a l m e = fine_of q hi a (sym (here a l m) ∙ e)

  least : (a : ℕ) → lo ≤ a → Fine q hi a → low_at q lo ≤ a
  least a l f = up_least (max lo q.start.0) q.align.0 some-align a (omega arith) f.even

  most : (a : ℕ) → lo ≤ a → Fine q hi a → a ≤ high_at q hi
  most a l f = down_most (min hi q.end.0 - q.size.0) q.align.0 some-align a (omega arith) f.even

  module _ (w : ℕ → Run) (run : (a : ℕ) → lo ≤ a → a < hi → run_of lo hi ≡ w a) where
    -- x is found where it fits, if it fits exactly when something does, and nothing that fits is nearer
    best : (v : Way) (x : ℕ) (b : Bool) → (b ≡ true → (lo ≤ x) × Fine q hi x) → ((a : ℕ) → lo ≤ a → Fine q hi a → (b ≡ true) × (Nearer v a x → ⊥))
        → Finds v w p (near v lo hi) (far v lo hi) (hit_in lo hi (cond b (some x) none))
    best v x false f g = λ a i j. let m = within lo hi v a i j in no (p a) (λ t. clash false (g a m.0 (fine a m.0 m.1 t)).0 refl)
    best v x true f g =
        let k = (f refl).1 in
        let l = (f refl).0 in
        let h : x < hi = omega arith in
        record { yes = yes x l k; rest = λ a i j. let m = inside v a l h i j in no (p a) (λ t. (g a m.0 (fine a m.0 m.1 t)).1 j); run = run x l h }
      where
        inside : (v : Way) (a : ℕ) → lo ≤ x → x < hi → From v (near v lo hi) a → Nearer v a x → (lo ≤ a) × (a < hi)
        inside Up a l h i j = (i, omega arith)
        inside Down a l h i j = (omega arith, i)

    pub fit_finds : (v : Way) → Finds v w p (near v lo hi) (far v lo hi) (fit v q (near v lo hi) (far v lo hi))
    unfolding fit_low cut_low fit_high cut_high
    fit_finds Up =
        let x = low_at q lo in
        let z = up_ge (max lo q.start.0) q.align.0 some-align in
        best Up x (leb (x + q.size.0) (min hi q.end.0))
        (λ e. let h = leb-true (x + q.size.0) (min hi q.end.0) e in
        (omega arith, record { even = up_multiple (max lo q.start.0) q.align.0 some-align; from = omega arith; to = omega arith; by = omega arith }))
        (λ a i f. let k = least a i f in (le-leb (x + q.size.0) (min hi q.end.0) (omega arith), λ l. omega arith))
    fit_finds Down =
        let x = high_at q hi in
        let z = down_le (min hi q.end.0 - q.size.0) q.align.0 some-align in
        best Down x (leb q.size.0 (min hi q.end.0) && leb (max lo q.start.0) x)
        (λ e. let h = both (leb q.size.0 (min hi q.end.0)) (leb (max lo q.start.0) x) e in
        let i = leb-true q.size.0 (min hi q.end.0) h.0 in
        let j = leb-true (max lo q.start.0) x h.1 in
        (omega arith, record { even = down_multiple (min hi q.end.0 - q.size.0) q.align.0 some-align; from = omega arith; to = omega arith; by = omega arith }))
        (λ a i f. let k = most a i f in (and (le-leb q.size.0 (min hi q.end.0) (omega arith)) (le-leb (max lo q.start.0) x (omega arith)), λ l. omega arith))

-- ---- the lowest of a stretch

module _ (q : Query) (from to : Address) where
  low_no : to.0 < up from.0 q.align.0 + q.size.0 → None ≡ spot_of (cut_low q from.0 to.0)
  unfolding cut_low
  low_no h = rw (lt-leb (up from.0 q.align.0 + q.size.0) to.0 h)

  -- a stretch that is too short for the size, whatever the alignment
  module _ (l : power_of_two q.align.0 ≡ true) where
    pub low_none : to.0 < from.0 → None ≡ spot_of (cut_low q from.0 to.0)
    low_none h = low_no (omega (arith, up_ge from.0 q.align.0 (power_some q.align.0 l)))

    pub low_short : (room : ℕ) → room ≡ to.0 - from.0 → from.0 ≤ to.0 → room < q.size.0 → None ≡ spot_of (cut_low q from.0 to.0)
    low_short room e h k = low_no (omega (arith, up_ge from.0 q.align.0 (power_some q.align.0 l)))

  module _ (u : Option Address) (rounded : u ≡ address (up from.0 q.align.0)) where
    pub low_none_up : u ≡ None → to.0 < 18446744073709551616 → None ≡ spot_of (cut_low q from.0 to.0)
    low_none_up e h = low_no (omega (arith, address_outside (up from.0 q.align.0) u rounded e))

    module _ (a : Address) (is : u ≡ Some a) (s : Option Address) (summed : s ≡ address (a.0 + q.size.0)) where
      at_low : a.0 ≡ up from.0 q.align.0
      at_low = (address_at (up from.0 q.align.0) u a rounded is).0

      pub low_none_sum : s ≡ None → to.0 < 18446744073709551616 → None ≡ spot_of (cut_low q from.0 to.0)
      low_none_sum e h = low_no (omega (arith, at_low, address_outside (a.0 + q.size.0) s summed e))

      module _ (e : Address) (t : s ≡ Some e) where
        pub low_past : to.0 < e.0 → None ≡ spot_of (cut_low q from.0 to.0)
        low_past h = let z = address_at (a.0 + q.size.0) s e summed t in low_no (omega (arith, at_low))

        pub low_found : e.0 ≤ to.0 → Some a ≡ spot_of (cut_low q from.0 to.0)
        unfolding cut_low
        low_found h =
            let z = address_at (a.0 + q.size.0) s e summed t in
            rw (le-leb (up from.0 q.align.0 + q.size.0) to.0 (omega (arith, at_low))) (ap Some (λ i. record { 0 = at_low i }))

-- ---- the highest of a stretch

less_at : (x s : ℕ) (u : Option Address) (a : Address) → u ≡ difference x s → u ≡ Some a → (a.0 ≡ x - s) × (s ≤ x)
unfolding difference
less_at x s u a e f = go (leb s x) refl (sym f ∙ e)
  where
    go : (b : Bool) → leb s x ≡ b → Some a ≡ cond b (Some (record { 0 = x - s })) None → (a.0 ≡ x - s) × (s ≤ x)
    go true h e = let f : a ≡ record { 0 = x - s } = cc in (ap (λ (y : Address). y.0) f, leb-true s x h)
    go false h e = absurd (zero_not_one cc)

less_outside : (x s : ℕ) (u : Option Address) → u ≡ difference x s → u ≡ None → x < s
unfolding difference
less_outside x s u e f = go (leb s x) refl (sym f ∙ e)
  where
    go : (b : Bool) → leb s x ≡ b → ◌≡◌ {A = Option Address} None (cond b (Some (record { 0 = x - s })) None) → x < s
    go true h e = absurd (zero_not_one cc)
    go false h e = leb-false s x h

module _ (q : Query) (from to : Address) (u : Option Address) (less : u ≡ difference to.0 q.size.0) where
  pub high_none : u ≡ None → None ≡ spot_of (cut_high q from.0 to.0)
  unfolding cut_high
  high_none e = rw (lt-leb q.size.0 to.0 (less_outside to.0 q.size.0 u less e))

  module _ (last : Address) (is : u ≡ Some last) where
    pub high_narrow : power_of_two q.align.0 ≡ true → last.0 < from.0 → None ≡ spot_of (cut_high q from.0 to.0)
    unfolding cut_high
    high_narrow l h =
        let z = less_at to.0 q.size.0 u last less is in
        let y = down_le (to.0 - q.size.0) q.align.0 (power_some q.align.0 l) in
        rw (le-leb q.size.0 to.0 z.1, lt-leb from.0 (down (to.0 - q.size.0) q.align.0) (omega arith))

    module _ (a : Address) (rounded : a.0 ≡ down last.0 q.align.0) where
      place : a.0 ≡ down (to.0 - q.size.0) q.align.0
      place = rounded ∙ ap (λ (x : ℕ). down x q.align.0) (less_at to.0 q.size.0 u last less is).0

      pub high_short : a.0 < from.0 → None ≡ spot_of (cut_high q from.0 to.0)
      unfolding cut_high
      high_short h =
          rw (
            le-leb q.size.0 to.0 (less_at to.0 q.size.0 u last less is).1,
            lt-leb from.0 (down (to.0 - q.size.0) q.align.0) (omega (arith, place)),
          )

      pub high_found : from.0 ≤ a.0 → Some a ≡ spot_of (cut_high q from.0 to.0)
      unfolding cut_high
      high_found h =
          rw (
            le-leb q.size.0 to.0 (less_at to.0 q.size.0 u last less is).1,
            le-leb from.0 (down (to.0 - q.size.0) q.align.0) (omega (arith, place)),
          ) (ap Some (λ i. record { 0 = place i }))
