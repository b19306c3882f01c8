-- What the calls of a disk in memory did, and what a crash may leave after them.
use Rattle.std.specs.Prelude.{◌≡◌, ℕ, ◌+◌, List, [], ◌∷◌, ◌++◌, length, take, drop, slice_get, Some, Bool, false, ◌&&◌, nat_le, nat_lt}
use Rattle.std.specs.List.{list_any}
use Rattle.web_disk.specs.declared.trace.Span.{Span}

-- what a call did: it wrote a piece, or failed where it would have changed some places, or cut, or put all on the disk
pub data Change : Type 0 where
  Put : (place : ℕ) (piece : List ℕ) → Change
  Torn : (span : Span) → Change
  CutTo : (len : ℕ) → Change
  Synced : Change

-- the range of bytes from one place up to another
abbrev pub span : ℕ → ℕ → Span
span low high = record { low = low; high = high }

-- what a read gives, and which ranges were touched since the last sync
pub record Content : Type 0 where
  pub seen : List ℕ
  pub touched : List Span

-- this place is in one of the ranges
abbrev pub is_touched : List Span → ℕ → Bool
is_touched ranges k = list_any (λ range. nat_le range.low k && nat_lt k range.high) ranges

-- each byte that was not touched stays
abbrev pub Keeps : List Span → List ℕ → List ℕ → Type 0
Keeps ranges old new = (k b : ℕ) → is_touched ranges k ≡ false → slice_get old k ≡ Some b → slice_get new k ≡ Some b

-- the content of a disk of these bytes to which nothing was done yet
abbrev pub fresh : List ℕ → Content
fresh bytes = record { seen = bytes; touched = [] }

-- the content after one call
abbrev pub changed : Change → Content → Content
changed (Put place piece) c = record { seen = take place c.seen ++ piece ++ drop (place + length piece) c.seen; touched = c.touched ++ span place (place + length piece) ∷ [] }
changed (Torn range) c = record { seen = c.seen; touched = c.touched ++ range ∷ [] }
changed (CutTo len) c = record { seen = take len c.seen; touched = c.touched ++ span len (length c.seen) ∷ [] }
changed Synced c = record { seen = c.seen; touched = [] }

-- the content after these calls, the first of them first
abbrev pub replayed : List Change → Content → Content
replayed [] c = c
replayed (x ∷ xs) c = replayed xs (changed x c)

-- a crash may leave this: what was read, if nothing was touched, and each byte that was not touched
pub record IsImage (c : Content) (image : List ℕ) : Type 0 where
  pub whole : c.touched ≡ [] → image ≡ c.seen
  pub sure : Keeps c.touched c.seen image
