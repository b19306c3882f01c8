-- A program may keep beside each page its last use and the page for which it went: these marks tell the uses and the evictions of a book.
use Rattle.std.specs.Prelude.{◌≡◌, ℕ, ◌==◌, max, Bool, true, false, List, [], ◌∷◌, map, filter, Option, Some, None, if◌then◌else◌}
use Rattle.replay_spec.specs.Book.{Use, Eviction, at_number, evictor}
use Rattle.replay_spec.specs.Change.{put_in_order, put_use, used_by, unless_gone, evict}
use Rattle.replay_spec.specs.Admission.{◌>>=◌}
use Rattle.replay_spec.specs.Invariant.{IsRising}

-- a page's number, its last use, and the page for which it went, if it did
pub record Mark : Type 0 where
  pub number : ℕ
  pub last : ℕ
  pub gone : Option ℕ

-- the number of a mark's page
abbrev pub number_of : Mark → ℕ
number_of m = m.number

-- whether there is no page for which a page went
abbrev pub is_kept : Option ℕ → Bool
is_kept None = true
is_kept (Some n) = false

-- whether a mark's page is not evicted
abbrev pub stays : Mark → Bool
stays m = is_kept m.gone

-- whether a mark's page is evicted
abbrev pub went : Mark → Bool
went m = if is_kept m.gone then false else true

-- the page for which one went, and 0 where there is none
abbrev pub by_of : Option ℕ → ℕ
by_of None = 0
by_of (Some n) = n

-- the use that a mark tells
abbrev pub use_of : Mark → Use
use_of m = record { page = m.number; last = m.last }

-- the eviction that a mark tells
abbrev pub eviction_of : Mark → Eviction
eviction_of m = record { page = m.number; by = by_of m.gone }

-- the uses of the pages that are not evicted
abbrev pub uses_of : List Mark → List Use
uses_of ms = map use_of (filter stays ms)

-- the evictions of the pages that were evicted
abbrev pub evictions_of : List Mark → List Eviction
evictions_of ms = map eviction_of (filter went ms)

-- the marks after a segment of this number answered a page
abbrev pub use_page : ℕ → ℕ → List Mark → List Mark
use_page p n [] = []
use_page p n (m ∷ ms) = if m.number == p then record m { last = max m.last n } ∷ ms else m ∷ use_page p n ms

-- the marks after a page went for another
abbrev pub go : (by page : ℕ) → List Mark → List Mark
go by p [] = []
go by p (m ∷ ms) = if m.number == p then record m { gone = Some by } ∷ ms else m ∷ go by p ms

-- the marks after several pages went for another
abbrev pub go_all : (by : ℕ) → List ℕ → List Mark → List Mark
go_all by [] ms = ms
go_all by (p ∷ ps) ms = go_all by ps (go by p ms)

-- the mark of the page of this number
abbrev pub mark_at : ℕ → List Mark → Option Mark
mark_at n ms = at_number number_of n ms

-- each of these pages has a mark and is not evicted, and none of them stands twice in the list
abbrev pub CanAllGo : List ℕ → List Mark → Type 0
CanAllGo [] ms = Unit {0}
CanAllGo (p ∷ ps) ms = ((m : Mark) × ((mark_at p ms ≡ Some m) × (m.gone ≡ None))) × ((by : ℕ) → CanAllGo ps (go by p ms))

-- marks tell the uses and the evictions after each change of an instance as they tell those before it
pub record AreMarked (ms : List Mark) : Type 0 where
  -- a page is answered, one that is not evicted or one that is
  pub used : (p n : ℕ) → uses_of (use_page p n ms) ≡ used_by p n (uses_of ms)
  pub used_evictions : (p n : ℕ) → evictions_of (use_page p n ms) ≡ evictions_of ms
  -- pages go
  pub gone : (by : ℕ) (ps : List ℕ) → CanAllGo ps ms → uses_of (go_all by ps ms) ≡ unless_gone ps (uses_of ms)
  pub gone_evictions : (by : ℕ) (ps : List ℕ) → CanAllGo ps ms → evictions_of (go_all by ps ms) ≡ evict by ps (evictions_of ms)
  -- a page is shown
  pub shown : (m : Mark) → mark_at m.number ms ≡ None → m.gone ≡ None → uses_of (put_in_order number_of m ms) ≡ put_use (use_of m) (uses_of ms)
  pub shown_evictions : (m : Mark) → mark_at m.number ms ≡ None → m.gone ≡ None → evictions_of (put_in_order number_of m ms) ≡ evictions_of ms
  -- why a page is not admitted
  pub evictor : (n : ℕ) → evictor n (evictions_of ms) ≡ (mark_at n ms >>= λ m. m.gone)

-- Marks in the order of their pages' numbers tell uses and evictions.
abbrev pub MarksAreUses : Type 0
MarksAreUses = (ms : List Mark) → IsRising number_of ms → AreMarked ms
