-- The outcomes of fresh, set and the command for the image end, answer by answer. Assumes nothing.
use Prim.Native.Nat.{ℕ, ◌+◌, ◌*◌, ◌-◌, ◌≤◌, ◌<◌}
use mathlib.Core.Path.{◌≡◌, sym, ap, ◌∙◌}
use mathlib.Core.Bool.{Bool, true, false, not}
use mathlib.Core.List.{List, [], ◌++◌}
use native.Mathlib.Omega.{arith}
use lib.ListN.{length, take, drop, replicate, length-append, length-replicate, replicate-append-replicate}
use lib.Seq.{sets, drop_at, length-take-le}
use borrow.Author.Tests.{eq-eqb, ne_eqb, le-leb, lt-leb}
use Rattle.address.specs.declared.Address.{Address}
use Rattle.regions.specs.Meaning.{at, total, top}
use Rattle.regions.specs.Bytes.{bytes, table_bytes, regions_bytes}
use Rattle.regions.proofs.Rises.{ended}
use Rattle.regions.proofs.Count.{sizes}
use Rattle.regions.proofs.Good.{total_is_sizes}
use Rattle.regions.proofs.Numbers.{Bytes}
use Rattle.block.specs.declared.Layout.{Layout}
use Rattle.block.specs.declared.Header.{Header}
use Rattle.block.specs.Block.{current, capacity, settings, block_length, fresh_contents, header_bytes, block_bytes, read_header, good}
use Rattle.range.specs.Outcomes.{outcome}
use Rattle.tables.specs.Commands.{fresh, set, set_image_end}
use Rattle.block.proofs.Headers.{sets_header}
use Rattle.block.proofs.Blocks.{good_length, bad_here, good_here}
use Rattle.block.proofs.Reading.{good_header, good_tables}
use Rattle.block.proofs.Fields.{image_written}
use Rattle.block.proofs.Layouts.{small_current}

-- ---- fresh

pub total_empty : total (at []) top ≡ 0
unfolding sizes
total_empty = let l : 0 ≤ top = omega arith in total_is_sizes [] (ended l)

-- the header of a fresh block
abbrev pub fresh_header : Header
fresh_header =
    record {
      memory = record { count = 0; total = record { 0 = 0 } };
      taken = record { count = 0; total = record { 0 = 0 } };
      settings = settings 18446744073709551615 0 0;
    }

pub fresh_spelled : (L : Layout) → block_bytes L fresh_contents ≡ header_bytes L fresh_header ++ replicate (24 * (L.memory + L.taken)) 0
unfolding block_bytes table_bytes regions_bytes capacity
fresh_spelled L =
    let z : 24 * (L.memory - 0) + 24 * (L.taken - 0) ≡ 24 * (L.memory + L.taken) = omega arith in
    rw (total_empty, replicate-append-replicate, z)

pub fresh_refused : (b : List ℕ) → (length b ≡ block_length current → ⊥) → outcome 1 b ≡ fresh current b
unfolding fresh
fresh_refused b d = rw (ne_eqb (length b) (block_length current) d)

module _ (l : Layout) (is : l ≡ current) (b : List ℕ) where
  pub fresh_done : length b ≡ block_length current → (h : Header) → h ≡ fresh_header → (x y : List ℕ) → x ≡ take 80 b ++ replicate (length b - 80) 0
      → y ≡ sets x 0 (header_bytes l h) → outcome 0 y ≡ fresh current b
  unfolding fresh
  fresh_done n h k x y p q =
      let m : length (take 80 b) ≡ 80 = length-take-le 80 b (omega arith) in
      let room : ℕ = 24 * (current.memory + current.taken) in
      let z : length b - 80 ≡ room = omega arith in
      let d : drop 80 x ≡ replicate room 0 = rw (p, z) (drop_at (take 80 b) (replicate room 0) 80 m) in
      let e : 80 ≤ length x = rw p (simp (length-append, length-replicate) (omega arith)) in
      let w : y ≡ block_bytes current fresh_contents =
      q ∙ rw (is, k) (sets_header current fresh_header x e) ∙ ap (λ (r : List ℕ). header_bytes current fresh_header ++ r) d ∙ sym (fresh_spelled current) in
      rw (eq-eqb (length b) (block_length current) n, w)

-- a block that was found good has room for a header
pub checked_room : (l : Layout) → l ≡ current → (b : List ℕ) (g : Bool) → g ≡ good l b → not g ≡ false → 80 ≤ length b
checked_room l is b g q t = omega (arith, good_length current b (good_here l is b g q t))

-- ---- set

module _ (l : Layout) (is : l ≡ current) (b : List ℕ) (x : Address) (d : ℕ) (g : Bool) (q : g ≡ good l b) where
  pub set_bad : not g ≡ true → outcome 1 b ≡ set current x.0 d b
  unfolding set
  set_bad t = rw (bad_here l is b g q t)

  module _ (t : not g ≡ false) where
    pub set_direction : 1 < d → outcome 7 b ≡ set current x.0 d b
    unfolding set
    set_direction h = rw (good_here l is b g q t, lt-leb d 1 h)

    pub set_done : Bytes b → d ≤ 1 → (own : Header) → own ≡ read_header b → (y : List ℕ)
        → y ≡ sets b 0 (header_bytes l (record { memory = own.memory; taken = own.taken; settings = settings x.0 d own.settings.image.0 })) → outcome 0 y ≡ set current x.0 d b
    unfolding set block_bytes
    set_done bs h own r y p =
        let k : good current b ≡ true = good_here l is b g q t in
        let e = r ∙ good_header current small_current b bs k in
        rw (k, le-leb d 1 h, p, is, e, sets_header current _ b (checked_room l is b g q t), good_tables current b k)

-- ---- the image end

module _ (l : Layout) (is : l ≡ current) (b : List ℕ) (v : Address) (g : Bool) (q : g ≡ good l b) where
  pub image_bad : not g ≡ true → outcome 1 b ≡ set_image_end current v.0 b
  unfolding set_image_end
  image_bad t = rw (bad_here l is b g q t)

  module _ (t : not g ≡ false) where
    pub image_done : (y : List ℕ) → y ≡ sets b 72 (bytes 8 v.0) → outcome 0 y ≡ set_image_end current v.0 b
    unfolding set_image_end
    image_done y p =
        let k : good current b ≡ true = good_here l is b g q t in
        rw k (ap (outcome 0) (p ∙ image_written current b k v.0))
