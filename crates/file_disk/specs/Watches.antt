-- What is counted of the records of a journal, by their bodies, and what is done with its file.
use Rattle.std.specs.Prelude.{ℕ, ◌+◌, ◌-◌, ◌^◌, ◌==◌, ◌&&◌, if◌then◌else◌, min, Bool, false, List, true, Option, Some, None, slice_get}
use Rattle.file_disk.specs.declared.watch.Stage.{Stage}
use Rattle.file_disk.specs.declared.watch.Stage.TheVariants.{Audit, Audited, Opening, Open, Rewriting}

-- there is a byte, and it is this one
abbrev pub is_byte : ℕ → Option ℕ → Bool
is_byte n None = false
is_byte n (Some m) = m == n

-- The first byte of a body is its kind, and 2 is that of a page.
abbrev pub is_page : List ℕ → Bool
is_page body = is_byte 2 (slice_get body 0)

-- After the kind of a page stand two numbers of eight bytes, and then a byte that is 0 where the page was a start's.
abbrev pub is_start : List ℕ → Bool
is_start body = is_page body && is_byte 0 (slice_get body 17)

-- a count with one more, where it counts; it stands still at its type's end
abbrev pub one_more : Bool → ℕ → ℕ
one_more counts n = if counts then min (n + 1) (2 ^ 64 - 1) else n

-- a file that is as it was found, or was audited, is opened; else the same goes on
abbrev pub opened_by : Stage → Stage
opened_by Audit = Opening
opened_by Audited = Opening
opened_by Opening = Opening
opened_by Open = Open
opened_by Rewriting = Rewriting

-- Who cuts a file to nothing writes it anew, and who cuts one that is as it was found opens its journal.
abbrev pub behind_cut : (len : ℕ) → Stage → Stage
behind_cut len stage = if len == 0 then Rewriting else opened_by stage

-- Who asks for the length of a file that was audited finds it as it was.
abbrev pub behind_length : Stage → Stage
behind_length Audit = Audit
behind_length Audited = Audit
behind_length Opening = Opening
behind_length Open = Open
behind_length Rewriting = Rewriting

-- Records are told of while an audit or an opening reads them.
abbrev pub tells_records : Stage → Bool
tells_records Audit = true
tells_records Audited = false
tells_records Opening = true
tells_records Open = false
tells_records Rewriting = false
