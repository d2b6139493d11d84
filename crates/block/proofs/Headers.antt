-- The header's bytes, written field by field. Assumes nothing.
use Prim.Native.Nat.{ℕ, ◌+◌, ◌*◌, ◌≤◌}
use mathlib.Core.Path.{◌≡◌, sym, ap, ◌∙◌}
use mathlib.Core.List.{List, ◌++◌}
use native.Mathlib.Nat.{add_assoc}
use lib.ListN.{length, take, length-append, drop}
use lib.Seq.{sets, sets-eq}
use Rattle.regions.specs.Bytes.{bytes}
use Rattle.regions.proofs.Numbers.{bytes_length, sets_append}
use Rattle.block.specs.declared.Layout.{Layout}
use Rattle.block.specs.declared.Settings.{Settings}
use Rattle.block.specs.declared.Header.{Header}
use Rattle.block.specs.Block.{capacity, offset, entry_bytes, entries_bytes, settings_bytes, totals_bytes, header_bytes, read_header, same_bytes}
use Rattle.block.specs.Checks.{with_totals}
use Rattle.block.proofs.Same.{sets_whole}
use Rattle.address.specs.declared.Size.{Size}
use mathlib.Core.Bool.{Bool}
use native.Mathlib.Omega.{arith}
use Rattle.regions.specs.Meaning.{at}

pub entry_length : (k o n c : ℕ) → length (entry_bytes k o n c) ≡ 16
unfolding entry_bytes
entry_length k o n c = simp (length-append, bytes_length)

pub entries_length : (L : Layout) (m t : ℕ) → length (entries_bytes L m t) ≡ 40
unfolding entries_bytes
entries_length L m t = simp (length-append, bytes_length, entry_length)

pub settings_length : (s : Settings) → length (settings_bytes s) ≡ 16
unfolding settings_bytes
settings_length s = simp (length-append, bytes_length)

totals_length : (m t e : ℕ) → length (totals_bytes m t e) ≡ 24
unfolding totals_bytes
totals_length m t e = simp (length-append, bytes_length)

pub header_length : (L : Layout) (h : Header) → length (header_bytes L h) ≡ 80
unfolding header_bytes
header_length L h = simp (length-append, entries_length, settings_length, totals_length)

module _ (l : List ℕ) where
  pub entry_puts : (at k o n c : ℕ)
      → sets (sets (sets (sets l at (bytes 4 k)) (at + 4) (bytes 4 o)) (at + 8) (bytes 4 n)) (at + 12) (bytes 4 c) ≡ sets l at (entry_bytes k o n c)
  unfolding entry_bytes
  entry_puts at k o n c = simp (sets_append, bytes_length, add_assoc)

  pub settings_puts : (s : Settings) → sets (sets (sets l 40 (bytes 8 s.limit.0)) 48 (bytes 4 s.direction)) 52 (bytes 4 0) ≡ sets l 40 (settings_bytes s)
  unfolding settings_bytes
  settings_puts s = simp (sets_append, bytes_length)

  pub totals_puts : (m t e : ℕ) → sets (sets (sets l 56 (bytes 8 m)) 64 (bytes 8 t)) 72 (bytes 8 e) ≡ sets l 56 (totals_bytes m t e)
  unfolding totals_bytes
  totals_puts m t e = simp (sets_append, bytes_length)

  pub entries_puts : (L : Layout) (m t : ℕ)
      → sets (sets (sets (sets l 0 (bytes 4 L.edition)) 4 (bytes 4 2)) 8 (entry_bytes 1 80 m L.memory)) 24 (entry_bytes 2 (80 + 24 * L.memory) t L.taken)
      ≡ sets l 0 (entries_bytes L m t)
  unfolding entries_bytes capacity offset
  entries_puts L m t = simp (sets_append, bytes_length, entry_length)

  pub header_puts : (L : Layout) (h : Header)
      → sets (sets (sets l 0 (entries_bytes L h.memory.count h.taken.count)) 40 (settings_bytes h.settings)) 56
      (totals_bytes h.memory.total.0 h.taken.total.0 h.settings.image.0)
      ≡ sets l 0 (header_bytes L h)
  unfolding header_bytes
  header_puts L h = simp (sets_append, entries_length, settings_length)

-- a header written over 80 bytes, and compared
pub header_compared : (L : Layout) (own : Header) (b y l : List ℕ) (m t : Size) (r : Bool) → own ≡ read_header b → length l ≡ 80
    → y ≡ sets l 0 (header_bytes L (with_totals own m t)) → r ≡ same_bytes (take 80 b) y
    → r ≡ same_bytes (take 80 b) (header_bytes L (with_totals (read_header b) m t))
header_compared L own b y l m t r e f g h =
    let n : length l ≡ length (header_bytes L (with_totals own m t)) = f ∙ sym (header_length L (with_totals own m t)) in
    h ∙ ap (same_bytes (take 80 b)) (g ∙ sets_whole l (header_bytes L (with_totals own m t)) n ∙ rw e)

-- a header written over a block's first 80 bytes
pub sets_header : (L : Layout) (h : Header) (b : List ℕ) → 80 ≤ length b → sets b 0 (header_bytes L h) ≡ header_bytes L h ++ drop 80 b
sets_header L h b n =
    let k : 0 + length (header_bytes L h) ≤ length b = omega (arith, header_length L h) in
    sets-eq (header_bytes L h) b 0 k ∙ rw header_length
