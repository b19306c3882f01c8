-- What the disks of a rack are to the shelves that stand on them. A shelf has three, and its disk is what these are together: the file that its
-- root names (`shelves_of`). What is asked for, and what is home, is said of each disk of the rack.
use Rattle.std.specs.Prelude.{⊤, ◌≡◌, ◌≤◌, ◌<◌, ◌⊎◌, ℕ, ◌+◌, ◌^◌, ◌++◌, ◌∷◌, List, [], length, Bool, Option, Some, None, slice_get, take, nat_le, codes, if◌then◌else◌}
use Rattle.std.specs.Fmt.{decimal}
use Rattle.web_disk.specs.View.{RackView, AreAmong}
use Rattle.trio_rack.specs.Numbers.{IsOneOfThree}
use Rattle.trio_rack.specs.Trios.{LeavesAllDisks, MayBeBare, shelves_of}
use Rattle.script_nodes.specs.Setup.{Named}
use Rattle.setup_reader.specs.Texts.{setup_of_texts}
use Rattle.page_journal.specs.Records.{Intact, records, at_rest, stored}
use Rattle.replay_spec.specs.Book.{Book}
use Rattle.page_audit.specs.JournalSpec.Before.{Made}
use Rattle.page_audit.specs.JournalSpec.Making as making
use Rattle.page_audit.specs.JournalSpec.Making.{Making}
use Rattle.page_audit.specs.JournalSpec.Bytes.{book_in_bytes}
use Rattle.page_audit.specs.JournalSpec.Opening.{opened_on}
use Rattle.page_audit.specs.JournalSpec.Standing.{Between, HoldIn, if_kept}
use Rattle.site_serving.specs.Shelves.{bodies_after, now_in_bytes}
use Rattle.play_desk.specs.Asking.{AsksForAll, AsksForFirst, AsksForNone, AsksUntil}
use Rattle.play_desk.specs.Opening.{AreHome, FailedFor, IsKept, IsReadAtRest}

-- a rack and its disks: whether they tell their bytes, and what contracts see of the rack before and after
pub record Racks : Type 1 where
  pub tells : Bool
  pub before : RackView
  pub after : RackView

-- A rack as it was before a call and as it is after it.
abbrev pub racks_of : (tells : Bool) → (before after : RackView) → Racks
racks_of tells before after = record { tells = tells; before = before; after = after }

-- a take of the disk of this shelf failed, or a call of that disk
abbrev pub ShelfFailed : Racks → (shelf : ℕ) → Type 0
ShelfFailed rack shelf = FailedFor shelf rack.before rack.after

-- nothing was asked of the rack
pub record AtRest (rack : Racks) : Type 0 where
  pub faults : rack.after.faults ≡ rack.before.faults
  pub out : (number : ℕ) → rack.after.out number ≡ rack.before.out number
  pub holds : (number : ℕ) → AreAmong (rack.after.holds number) (rack.before.holds number)
  pub failed : (number : ℕ) → rack.after.failed number ≡ rack.before.failed number
  pub asked : AsksForNone rack.before rack.after

-- each disk is home, and the rack's count of faults did not fall
pub record AreBack (old new : RackView) : Type 0 where
  pub home : AreHome new.out
  pub later : old.faults ≤ new.faults

-- What may stand on the disks of a shelf that is to begin anew: nothing on any of the three; or these bytes on one of them.
abbrev pub held_anew : RackView → (shelf : ℕ) → List ℕ → Type 0
held_anew rack shelf [] = MayBeBare rack shelf
held_anew rack shelf (b ∷ bytes) = (number : ℕ) × IsOneOfThree shelf number × rack.holds number (b ∷ bytes)

-- the disks of the numbers from this one on may hold these
abbrev pub AreHeld : (ℕ → List ℕ → Type 0) → ℕ → List (List ℕ) → Type 0
AreHeld holds k [] = ⊤
AreHeld holds k (image ∷ images) = holds k image × AreHeld holds (k + 1) images

-- Why a shelf is not opened on what its disk holds: that is not empty, where it has to be; no record that a shelf writes stands at this
-- place; the journal is another shelf's; or with the setup that the shelf is opened with it would have so many bytes, too many.
pub data Unfit : Type 0 where
  not_empty : Unfit
  damaged : (place : ℕ) → Unfit
  other : (place : ℕ) → Unfit
  full : (length : ℕ) → Unfit

-- why a shelf that is played is not opened, if so: it begins on an empty disk
abbrev pub unfit_new : (shelf : ℕ) → List ℕ → Option Unfit
unfit_new shelf [] = None
unfit_new shelf (b ∷ bytes) = Some not_empty

-- why a journal may not be so long, if so
abbrev pub unfit_length : (length : ℕ) → Option Unfit
unfit_length n = if nat_le n (2 ^ 30) then None else Some (full n)

-- why a shelf may not go on with this book, if so: its journal would be too long
abbrev pub unfit_made : Option Made → Option Unfit
unfit_made None = None
unfit_made (Some m) = unfit_length m.book.length

-- why the file of these bodies is too long for a journal, if so; else this
abbrev pub unfit_file : List (List ℕ) → Option Unfit → Option Unfit
unfit_file bodies why = if nat_le (length (at_rest bodies)) (2 ^ 30) then why else Some (full (length (at_rest bodies)))

-- why no shelf goes on with what is read, which makes this, if so; else this
abbrev pub unfit_read : Making → Option Unfit → Option Unfit
unfit_read (making.damaged place) why = Some (damaged place)
unfit_read (making.other place) why = Some (other place)
unfit_read m why = why

-- Why a shelf that is served with this setup is not opened on these bytes, if so. It goes on with what the records make, of an older format with
-- those that stay, and has written its setup there, where that is another than the last one: the file of the records may be too long, and so may
-- it be with the setup. A shelf that follows another one's journal writes no setup.
abbrev pub unfit_left : List Named → (shelf : ℕ) → List ℕ → Option Unfit
unfit_left scripts shelf image =
    unfit_read (book_in_bytes setup_of_texts shelf image)
    (unfit_file (bodies_after shelf image) (unfit_made (opened_on shelf scripts (now_in_bytes shelf image))))

-- the shelf of this number where it is not opened, and why; else what is found of the later ones
abbrev pub found_unfit : ℕ → Option Unfit → Option (ℕ × Unfit) → Option (ℕ × Unfit)
found_unfit k None later = later
found_unfit k (Some why) later = Some (k, why)

-- the first shelf that is not opened, of those from this number on, and why
abbrev pub first_unfit : (ℕ → List ℕ → Option Unfit) → ℕ → List (List ℕ) → Option (ℕ × Unfit)
first_unfit unfit k [] = None
first_unfit unfit k (image ∷ images) = found_unfit k (unfit k image) (first_unfit unfit (k + 1) images)

-- the disks of so many shelves were asked for, in order, before any was asked for again, and each may have held nothing
pub record HaveBegun (rack : Racks) (count : ℕ) : Type 0 where
  pub empty : (k : ℕ) → k < count → MayBeBare rack.before k
  pub asked : AsksForAll count rack.before rack.after

-- these are what the disks of so many shelves hold when they are taken: of all, unless one of the shelves is not opened
pub record AreTaken (unfit : ℕ → List ℕ → Option Unfit) (holds : ℕ → List ℕ → Type 0) (count : ℕ) (images : List (List ℕ)) : Type 0 where
  pub held : AreHeld holds 0 images
  pub all : first_unfit unfit 0 images ≡ None → length images ≡ count

-- what a disk may hold makes some book, with what is in doubt or without it
abbrev pub StandsForSome : (shelf : ℕ) → (images : List ℕ → Type 0) → Type 0
StandsForSome shelf images = (b : Book) × ((n : ℕ) × ((t : Between setup_of_texts shelf b (if_kept n b)) × HoldIn t images))

-- nothing was lost on any disk of which something was read
abbrev pub AreKept : List Named → (before after : RackView) → (images : List (List ℕ)) → Type 0
AreKept scripts before after images =
    (k : ℕ) (read left : List ℕ) → slice_get images k ≡ Some read → (shelves_of after).holds k left
    → IsKept scripts k ((shelves_of before).holds k) read left

-- What may be left of a disk to whose records nothing was added, and of which this was read: what it might hold before; or, where it might
-- hold what was read, the records that were read, at rest; or those of them that stay, in the newest format.
abbrev pub IsBare : (shelf : ℕ) → (held : List ℕ → Type 0) → (read left : List ℕ) → Type 0
IsBare shelf held read left =
    held left
    ⊎ (held read × ((records read ≡ Intact (stored read)) ⊎ (read ≡ []))
    × (IsReadAtRest read left ⊎ (left ≡ at_rest (bodies_after shelf read))))

-- nothing was added to the records on the disks of which these were read, from this number on
abbrev pub AreBare : (before after : RackView) → (images : List (List ℕ)) → (first : ℕ) → Type 0
AreBare before after images first =
    (k : ℕ) (read left : List ℕ) → first ≤ k → slice_get images k ≡ Some read → (shelves_of after).holds k left
    → IsBare k ((shelves_of before).holds k) read left

-- A disk of this shelf failed when it was taken, no other after it was asked for, and nothing was written on any disk of the rack; or all disks had
-- been asked for and taken, the shelves before this one were opened, and nothing was added to the records on the disks after it.
abbrev pub FailsInOrder : List Named → (before after : RackView) → (count : ℕ) → (images : List (List ℕ)) → (shelf : ℕ) → Type 0
FailsInOrder scripts before after count images shelf =
    (AsksUntil count shelf before after × LeavesAllDisks before after)
    ⊎ (AsksForFirst count before after × (length images ≡ count) × (first_unfit (unfit_left scripts) 0 (take shelf images) ≡ None)
    × AreBare before after images (shelf + 1))

-- ---- the lines

-- The words of an error line that say why a shelf can't be opened.
abbrev pub unfit_word : Unfit → List ℕ
unfit_word not_empty = codes "0 not-empty\n"
unfit_word (damaged place) = decimal place ++ codes " damaged\n"
unfit_word (other place) = decimal place ++ codes " other\n"
unfit_word (full length) = decimal length ++ codes " full\n"

-- the line of a shelf that is not opened on what its disk holds: `error 8 SHELF PLACE WORD`, with a length in place of the place where the
-- journal would be too long
abbrev pub unfit_line : (shelf : ℕ) → Unfit → List ℕ
unfit_line shelf why = codes "error 8 " ++ (decimal shelf ++ 32 ∷ unfit_word why)

-- the line of a shelf whose disk failed: `error 7 SHELF disk`
abbrev pub disk_line : (shelf : ℕ) → List ℕ
disk_line shelf = codes "error 7 " ++ (decimal shelf ++ codes " disk\n")
