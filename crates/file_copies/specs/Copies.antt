-- What a copier makes of a file.
use Rattle.std.specs.Prelude.{◌≡◌, ◌<◌, ◌^◌, ℕ, ◌+◌, suc, Bool, true, false, List, [], ◌∷◌, ◌++◌, length, get_or, slice_get, Some, if◌then◌else◌, ⊤}
use Rattle.std.specs.Global.{Vec}
use Rattle.web_disk.specs.View.{View}
use Rattle.page_journal.specs.Records.{newest, header, frames, at_rest}
use Rattle.file_notes.specs.declared.note.Note.{Note}
use Rattle.file_notes.specs.declared.notes.FileNotes.{FileNotes}
use Rattle.file_notes.specs.Notes.{length_in, picked}
use Rattle.file_notes.specs.JournalRecords.Roles.{is_role, behind_front}
use Rattle.file_copies.specs.declared.copier.Copier.{Copier}
use Rattle.file_copies.specs.declared.copier.Stage.{Stage}
use Rattle.file_copies.specs.declared.copier.Stage.TheVariants.{First, Number, Others}

-- the records after the first one, and the number of an earlier compaction
abbrev pub others_of : (drawn : Bool) → List (List ℕ) → List (List ℕ)
others_of false bodies = bodies
others_of true [] = []
others_of true (body ∷ bodies) = bodies

-- what is copied of these bodies: the first one, this one of a number, and those of the others that are planned to stay
abbrev pub copied : (plan : List Bool) (drawn : Bool) (number : List ℕ) → List (List ℕ) → List (List ℕ)
copied plan drawn number [] = []
copied plan drawn number (first ∷ bodies) = first ∷ (number ∷ picked plan (others_of drawn bodies))

-- the file has what is copied of these bodies, but for those of a role in front of all others
abbrev pub IsCopyOf : (plan : List Bool) → FileNotes → (number : List ℕ) → List (List ℕ) → (file : List ℕ) → Type 0
IsCopyOf plan notes number bodies file = file ≡ at_rest (copied plan notes.drawn number (behind_front bodies))

-- the bytes in memory are what is copied of these bodies
abbrev pub IsCopyIn : (plan : List Bool) → FileNotes → (number : List ℕ) → List (List ℕ) → (file : Vec ℕ) → Type 0
IsCopyIn plan notes number bodies file = IsCopyOf plan notes number bodies file.items

-- records of these bodies stand at the end of a file more than before
abbrev pub HasMore : (old : Vec ℕ) → List (List ℕ) → (new : Vec ℕ) → Type 0
HasMore old bodies new = new.items ≡ old.items ++ frames bodies

-- no failed call was counted
abbrev pub NoneFailed : (old new : View) → Type 0
NoneFailed old new = new.faults ≡ old.faults

-- the plan tells of each body after the first one; of none where there is none
abbrev pub IsForBodies : (plan : List Bool) → List (List ℕ) → Type 0
IsForBodies plan [] = ⊤
IsForBodies plan (first ∷ bodies) = length plan ≡ length bodies

-- what is put into the new file for a body at this stage, where these are left of the plan
abbrev pub puts : Copier → List ℕ → Stage → List (List ℕ)
puts c body First = if is_role body then [] else body ∷ (c.number.now ∷ [])
puts c body Number = []
puts c body Others = if get_or c.plan.now c.next false then body ∷ [] else []

-- which record comes next after the first one
abbrev pub behind_first : (drawn : Bool) → Stage
behind_first true = Number
behind_first false = Others

-- which record comes next after this one of this stage
abbrev pub stage_then : (drawn : Bool) → (body : List ℕ) → Stage → Stage
stage_then d body First = if is_role body then First else behind_first d
stage_then d body Number = Others
stage_then d body Others = Others

-- the place of the note that comes next after a record of this stage
abbrev pub place_then : ℕ → Stage → ℕ
place_then n Others = suc n
place_then n _ = n

-- the body is as its note tells, if it has one
abbrev pub IsAsNoted : Copier → List ℕ → Stage → Type 0
IsAsNoted c body Others = (n : Note) × ((slice_get c.notes.now c.next ≡ Some n) × (length_in n ≡ length body))
IsAsNoted c body First = is_role body ≡ false → length body + 14 ≡ c.head
IsAsNoted c body Number = ⊤

-- a copier by the same notes
pub record IsSameCopier (old new : Copier) : Type 0 where
  pub notes : new.notes.now ≡ old.notes.now
  pub head : new.head ≡ old.head
  pub plan : new.plan.now ≡ old.plan.now
  pub drawn : new.drawn ≡ old.drawn
  pub number : new.number.now ≡ old.number.now

-- records of these bodies are put into the new file, where there is room for them
pub record IsPut (old : Copier) (bodies : List (List ℕ)) (new : Copier) : Type 0 where
  pub sound : new.sound ≡ true → old.sound ≡ true
  pub file : new.sound ≡ true → new.file.items ≡ old.file.items ++ frames bodies
  pub stage : new.stage ≡ old.stage
  pub next : new.next ≡ old.next
  pub same : IsSameCopier old new

-- a record is copied or not; where it is not as its note tells, the copier is not sound any more
pub record IsCopied (old : Copier) (body : List ℕ) (new : Copier) : Type 0 where
  pub sound : new.sound ≡ true → old.sound ≡ true
  pub file : new.sound ≡ true → new.file.items ≡ old.file.items ++ frames (puts old body old.stage)
  pub noted : new.sound ≡ true → IsAsNoted old body old.stage
  pub stage : new.stage ≡ stage_then old.drawn body old.stage
  pub next : new.sound ≡ true → new.next ≡ place_then old.next old.stage
  pub same : IsSameCopier old new

-- a copier was sound to the end, and its file is so long with a closed gate after it
pub record IsFinished (c : Copier) (len : ℕ) (file : Vec ℕ) : Type 0 where
  pub sound : c.sound ≡ true
  pub closed : file.items ≡ c.file.items ++ 0 ∷ []
  pub long : length file.items ≡ len

-- the next record is so long, as its note tells, and it stays or not
abbrev pub IsComing : Copier → ℕ × Bool → Type 0
IsComing c next =
    (n : Note) × ((slice_get c.notes.now c.next ≡ Some n) × ((next.0 ≡ length_in n) × (get_or c.plan.now c.next false ≡ next.1)))

-- the record of its number can be put into a file
abbrev pub IsReady : Copier → Type 0
IsReady c = length c.number.now < 2 ^ 32

-- a copier begins
pub record IsBegun (notes : FileNotes) (plan : List Bool) (number : List ℕ) (c : Copier) : Type 0 where
  pub notes_are : c.notes.now ≡ notes.notes.items
  pub head_is : c.head ≡ notes.head
  pub plan_is : c.plan.now ≡ plan
  pub drawn_is : c.drawn ≡ notes.drawn
  pub number_is : c.number.now ≡ number
  pub stage : c.stage ≡ First
  pub next : c.next ≡ 0
  pub file : c.file.items ≡ header newest
  pub sound : c.sound ≡ true
