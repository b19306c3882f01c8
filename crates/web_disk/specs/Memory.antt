-- What contracts see of a disk in memory.
use Rattle.std.specs.Prelude.{◌≡◌, ℕ, ◌+◌, ◌-◌, ◌≤◌, min, List, [], ◌∷◌, ◌++◌, length, take, drop, vec_len, vec_capacity}
use Rattle.web_disk.specs.View.{View}
use Rattle.web_disk.specs.Change.{Change, Content, Put, Torn, CutTo, Synced, fresh, changed, replayed, IsImage}
use Rattle.web_disk.specs.Since.{Since}
use Rattle.web_disk.specs.declared.trace.Call.{Call}
use Rattle.web_disk.specs.declared.trace.Call.TheVariants.{Write, Spoil, Cut, Sync}
use Rattle.web_disk.specs.declared.trace.Trace.{Trace}

-- what the calls did, each write with its piece
abbrev pub changes : List Call → List ℕ → List Change
changes [] pieces = []
changes (Write place size ∷ calls) pieces = Put place (take size pieces) ∷ changes calls (drop size pieces)
changes (Spoil range ∷ calls) pieces = Torn range ∷ changes calls pieces
changes (Cut len ∷ calls) pieces = CutTo len ∷ changes calls pieces
changes (Sync ∷ calls) pieces = Synced ∷ changes calls pieces

-- how many bytes the calls wrote
abbrev pub sizes : List Call → ℕ
sizes [] = 0
sizes (Write place size ∷ calls) = size + sizes calls
sizes (Spoil range ∷ calls) = sizes calls
sizes (Cut len ∷ calls) = sizes calls
sizes (Sync ∷ calls) = sizes calls

-- what was done to a disk's bytes
abbrev pub changes_of : Trace → List Change
changes_of t = changes t.calls.items t.pieces.items

-- what became of a disk's bytes
abbrev pub content_of : Trace → Content
content_of t = replayed (changes_of t) (fresh t.first.items)

-- what a read gives, and what was touched, is what the calls made of the first bytes
pub record IsKept (t : Trace) : Type 0 where
  pub whole : sizes t.calls.items ≡ length t.pieces.items
  pub same : t.bytes.items ≡ (content_of t).seen
  pub touched : t.touched.items ≡ (content_of t).touched

-- for how many calls a trace has room
abbrev pub calls_left : Trace → ℕ
calls_left t = min (vec_capacity t.calls - vec_len t.calls) (vec_capacity t.touched - vec_len t.touched)

-- the view of a disk with this count of faults
abbrev pub view_of : Trace → ℕ → View
view_of t faults = record {
  seen = t.bytes.items;
  images = IsImage (content_of t);
  moment = length (changes_of t);
  since = Since (changes_of t) (fresh t.first.items);
  faults = faults;
  ready = calls_left t;
  end = vec_capacity t.bytes;
  left = vec_capacity t.pieces - vec_len t.pieces;
}

-- nothing was done to these bytes
pub record IsFresh (given : List ℕ) (t : Trace) : Type 0 where
  pub bytes : t.bytes.items ≡ given
  pub first : t.first.items ≡ given
  pub touched : t.touched.items ≡ []
  pub calls : t.calls.items ≡ []
  pub pieces : t.pieces.items ≡ []

-- a disk's trace has one call more, which did this
pub record Adds (x : Change) (old new : Trace) : Type 0 where
  pub first : new.first.items ≡ old.first.items
  pub changes : changes_of new ≡ changes_of old ++ x ∷ []
  pub bytes : new.bytes.items ≡ (changed x (record { seen = old.bytes.items; touched = old.touched.items })).seen
  pub touched : new.touched.items ≡ (changed x (record { seen = old.bytes.items; touched = old.touched.items })).touched

-- room is left, but for one call and the bytes of a piece
pub record HasRoom (bytes : ℕ) (old new : Trace) : Type 0 where
  pub end : vec_capacity old.bytes ≤ vec_capacity new.bytes
  pub ready : calls_left old ≤ calls_left new + 1
  pub left : vec_capacity old.pieces - vec_len old.pieces ≤ vec_capacity new.pieces - vec_len new.pieces + bytes

-- nothing was done to a disk: its trace tells what it told
pub record Stays (old new : Trace) : Type 0 where
  pub first : new.first.items ≡ old.first.items
  pub calls : new.calls.items ≡ old.calls.items
  pub pieces : new.pieces.items ≡ old.pieces.items
  pub bytes : new.bytes.items ≡ old.bytes.items
  pub touched : new.touched.items ≡ old.touched.items
