-- What a reader of the program gives.
use Rattle.std.specs.Prelude.{◌≡◌, ◌≤◌, List, ℕ, length, Option, Some, None, Result, Ok, Err, IfSome, ⊤}
use Rattle.wire_bytes.specs.Reading.{read_u32}
use Rattle.value_bytes.specs.declared.unread.Unread.{Unread}
use Rattle.value_bytes.specs.declared.unread.Unread.TheVariants.{Memory, Misspelled}

-- where a reader gives nothing, nothing is to be read, unless memory ran out
abbrev pub Stops : {Y : Type 0} → Unread → Option Y → Type 0
Stops Memory read = ⊤
Stops Misspelled read = read ≡ None

-- what a reader gives, and what it leaves, is what was to be read
abbrev pub Reads : {X Y : Type 0} → (X → Y) → Result X Unread → (left : List ℕ) → Option (Y × List ℕ) → Type 0
Reads view (Ok x) left read = read ≡ Some (view x, left)
Reads view (Err e) left read = Stops e read

-- the count in front of these bytes, if there is one, is at most the bytes after it
abbrev pub HasCount : List ℕ → Type 0
HasCount bytes = IfSome (read_u32 bytes) (λ count. count.0 ≤ length count.1)

-- memory runs out for a list only where its count is at most the bytes after it: a larger count makes nothing grow
abbrev pub GrowsWithin : {X : Type 0} → Result X Unread → List ℕ → Type 0
GrowsWithin (Ok x) bytes = ⊤
GrowsWithin (Err Memory) bytes = HasCount bytes
GrowsWithin (Err Misspelled) bytes = ⊤
