-- What the steps of handing over answer. Only inner contracts and proofs cite this module. Assumes nothing.
use Rattle.std.specs.Prelude.{ℕ, ◌+◌, ◌/◌, ◌^◌, ◌≤◌, ◌<◌, max, ◌≡◌, false, ◌&&◌, List, leb, length, take, drop, Option, Some, None}
use Rattle.std.proofs.Math.Option.{some}
use Rattle.address.specs.Numbers.{down}
use Rattle.runs.specs.declared.Tables.{Tables}
use Rattle.sweep.specs.declared.Swept.{Swept}
use Rattle.pages.specs.declared.Piece.{Piece}
use Rattle.pages.specs.declared.Found.{Found}
use Rattle.pages.specs.declared.Scale.{Scale}
use Rattle.pages.specs.declared.Span.{Span}
use Rattle.pages.specs.declared.Stand.{Stand}
use Rattle.sweep.specs.Steps.{Advanced}
use Rattle.pages.specs.Pages.{PageTest, order_at, room, next_page, written}

-- free are the pages from f up to, not including, l
abbrev pub within : ℕ → ℕ → PageTest
within f l o p = leb f p && leb (p + 2 ^ o) l

-- an order from 0 to 10, with its size
pub record Sized (s : Scale) : Type 0 where
  pub few : s.order ≤ 10
  pub size : s.size ≡ 2 ^ s.order

-- no piece around page p of an order above o lies between f and l
abbrev pub NoneAbove : ℕ → ℕ → ℕ → ℕ → Type 0
NoneAbove f l p o = (k : ℕ) → o < k → k < 11 → within f l k (down p (2 ^ k)) ≡ false

-- the piece that page p lies in, among the pages from f up to l
pub record Around (f l p : ℕ) (r : Found) : Type 0 where
  pub sized : Sized r.scale
  pub order : order_at (within f l) p ≡ some r.scale.order
  pub start : r.start ≡ down p (2 ^ r.scale.order)
  pub past : r.past ≡ r.start + 2 ^ r.scale.order

-- a run's whole pages
abbrev pub span_of : Swept → Span
span_of x = record { first = (x.low.0 + 4095) / 4096; last = x.end.0 / 4096 }

-- on from the stand s to the run that its sweep comes to: at the run's first whole page, or at the page of s if that is above
abbrev pub enter : Option Swept → Stand → Option Stand
enter None s = None
enter (Some x) s = Some (record { pages = span_of x; page = max s.page (span_of x).first; at = x.behind })

-- the run is the one that the sweep comes to next
pub record Entered (t : Tables) (s : Stand) (r : Option Stand) : Type 0 where
  pub found : Option Swept
  pub advanced : Advanced t s.at found
  pub is : r ≡ enter found s

-- what the walk answers of the pieces ps, and the buffer after it
pub record HandedOver (ps : List Piece) (lent : List ℕ) (count next : ℕ) (buffer : List ℕ) : Type 0 where
  pub many : count ≡ length (take (room lent) ps)
  pub rest : next ≡ next_page (drop (room lent) ps)
  pub bytes : buffer ≡ written (take (room lent) ps) lent
