-- How shelves are opened on the disks of a rack, and closed.
use Rattle.std.specs.Prelude.{⊤, ◌≡◌, ◌≢◌, ◌⊎◌, ◌≤◌, ◌<◌, ◌+◌, ◌^◌, ℕ, Bool, true, false, IsTrue, List, [], ◌∷◌, ◌++◌, length, map, slice_get, Some, Result, Ok, Err, IfErr, IsErrOf}
use Rattle.web_outside.specs.Causes.{Rose}
use Rattle.web_outside.specs.declared.nonces.Counting.{Counting}
use Rattle.web_disk.specs.View.{View, RackView, AreAmong}
use Rattle.server_limits.specs.Limits.{most_shelves}
use Rattle.trio_rack.specs.Numbers.{IsOneOfThree}
use Rattle.trio_rack.specs.Trios.{shelves_of, LeavesOtherDisks, MayBeBare, MayHoldSome}
use Rattle.script_nodes.specs.Setup.{Named}
use Rattle.setup_reader.specs.Texts.{setup_of_texts}
use Rattle.replay_spec.specs.Book.{Book, are_same}
use Rattle.replay_spec.specs.Rules as runs
use Rattle.replay_spec.specs.Rules.{empty_book}
use Rattle.replay_spec.specs.Runs as runs_spec
use Rattle.replay_spec.specs.Runs.{empty_shelf}
use Rattle.replay_spec.specs.Step.{lost, kept}
use Rattle.page_journal.specs.Opened.{TellsFormat}
use Rattle.page_journal.specs.Records.{Intact, records, at_rest, at_rest_in, stored}
use Rattle.shelf.specs.JournalSpec.Making.{damaged, other}
use Rattle.shelf.specs.JournalSpec.Bytes.{book_in_bytes}
use Rattle.shelf.specs.JournalSpec.Opening.{opened_book}
use Rattle.shelf.specs.JournalSpec.Standing.{Between, HoldIn, IsOneOf, if_kept}
use Rattle.shelf.specs.JournalSpec.Laws.{MeasuresDoubt}
use Rattle.shelf.specs.Views.{book_in, rules_of, IsInOrder, IsOwnShelf}
use Rattle.shelf.specs.Faults.{IsAnother}
use Rattle.shelf.specs.Ranges.{numbered}
use Rattle.shelf.specs.Opening.{IsCrashed, IsTooLongIn, bodies_after, now_in_bytes, opening_bodies}
use Rattle.shelf.specs.Owning.{OwnRecords, HoldOwn, HoldsOwnRecords, StandsOwn}
use Rattle.shelf.specs.declared.begin.BeginFault.{BeginFault}
use Rattle.shelf.specs.declared.begin.BeginFault.TheVariants as begin
use Rattle.shelf.specs.declared.rules.Rules.{Rules}
use Rattle.shelf.specs.declared.shelf.Shelf.{Shelf}
use Rattle.play_steps.specs.Rules.{Crashes, StaysUp}
use Rattle.play_steps.specs.declared.stage.Reopen.{Reopen}
use Rattle.play_steps.specs.declared.stage.Reopen.TheVariants as reopen
use Rattle.play_desk.specs.Asking.{AsksForFirst, AsksForOne}
use Rattle.play_desk.specs.Desk.{Desk, desk_rules, first_shelves}
use Rattle.play_desk.specs.Staff.{AreNumbered, IsHome, desk_of, faults_in, numbers_in, shelf_at, total}
use Rattle.play_desk.specs.declared.staff.Staff.{Staff}

-- what the events of the shelf of each number run under
abbrev pub rules_at : Rules → (number : ℕ) → runs.Rules
rules_at rules number = rules_of (numbered rules number)

-- a take of a disk of this shelf failed, or a call of one of its disks, which went back to the rack
pub record FailedFor (number : ℕ) (old new : RackView) : Type 0 where
  pub all : Rose old.faults new.faults
  pub here : Rose ((shelves_of old).failed number) ((shelves_of new).failed number)

-- no count of calls that failed for a shelf fell
abbrev pub FailuresStay : (old new : RackView) → Type 0
FailuresStay old new = StaysUp (shelves_of old).failed (shelves_of new).failed

-- the answer is not that the disks have bytes already
abbrev pub IsNeverForBytes : {T : Type 0} → Result T Reopen → Type 0
IsNeverForBytes result = IsErrOf result reopen.NotEmpty → ⊥

-- the answer is not that a record on the disk is at fault
abbrev pub IsNeverDamaged : {T : Type 0} → Result T Reopen → Type 0
IsNeverDamaged result = (place : ℕ) → IsErrOf result (reopen.Damaged place) → ⊥

-- the answer is not that a record on the disk is of another shelf
abbrev pub IsNeverOther : {T : Type 0} → Result T Reopen → Type 0
IsNeverOther result = (place : ℕ) → IsErrOf result (reopen.Other place) → ⊥

-- every disk is at home
abbrev pub AreHome : (out : ℕ → Bool) → Type 0
AreHome out = (n : ℕ) → out n ≡ false

-- no disk of another shelf was taken or given back, and each may hold nothing that it might not hold; calls are counted for this shelf alone
pub record LeavesOthers (number : ℕ) (old new : RackView) : Type 0 where
  pub others_out : (n : ℕ) → n ≢ number → (shelves_of new).out n ≡ (shelves_of old).out n
  pub others : (n : ℕ) → n ≢ number → AreAmong ((shelves_of new).holds n) ((shelves_of old).holds n)
  pub disks : LeavesOtherDisks number old new
  pub failed : (shelves_of old).failed number ≤ (shelves_of new).failed number
  pub others_failed : (n : ℕ) → n ≢ number → (shelves_of new).failed n ≡ (shelves_of old).failed n

-- the disks of this shelf were taken, and no others were taken or given back
pub record TakesOne (number : ℕ) (old new : RackView) : Type 0 where
  pub out : (shelves_of new).out number ≡ true
  pub leaves : LeavesOthers number old new

-- the disks of this shelf were given back, and no others were taken or given back
pub record GivesOne (number : ℕ) (old new : RackView) : Type 0 where
  pub home : (shelves_of new).out number ≡ false
  pub leaves : LeavesOthers number old new

-- no disk was taken: what was home is home
pub record TakesNone (number : ℕ) (old new : RackView) : Type 0 where
  pub home : (shelves_of old).out number ≡ false → (shelves_of new).out number ≡ false
  pub leaves : LeavesOthers number old new

-- The disks of this shelf were taken from the rack, or none of them was.
abbrev pub TakesOrLeaves : {T E : Type 0} → (number : ℕ) → Result T E → (old new : RackView) → Type 0
TakesOrLeaves number (Ok disk) old new = TakesOne number old new
TakesOrLeaves number (Err why) old new = TakesNone number old new

-- the disks of a shelf are out where the shelf is opened, and else at home
abbrev pub OpensOne : {T E : Type 0} → (number : ℕ) → Result T E → (old new : RackView) → Type 0
OpensOne number (Ok shelf) old new = TakesOne number old new
OpensOne number (Err why) old new = GivesOne number old new

-- how often the disk of a shelf that was opened has failed; of one that was not it counts as the rack's
abbrev pub faults_left : {D E : Type 0} → (D → View) → Result (Shelf D Counting) E → ℕ
faults_left view (Ok s) = (view s.journal.disk).faults
faults_left view (Err why) = 0

-- beside other disks of any count of faults the whole count did not fall
abbrev pub CountStays : (rack disk rack_now disk_now : ℕ) → Type 0
CountStays rack disk rack_now disk_now = (others : ℕ) → total rack (disk + others) ≤ total rack_now (disk_now + others)

-- beside other disks of any count of faults the whole count rose
abbrev pub CountRose : (rack disk rack_now disk_now : ℕ) → Type 0
CountRose rack disk rack_now disk_now = (others : ℕ) → Rose (total rack (disk + others)) (total rack_now (disk_now + others))

-- the book is one of the two that the disk stands between, whatever these are, opened again with this setup
abbrev pub FindsBook : {D : Type 0} → (D → View) → List Named → (number : ℕ) → (holds : List ℕ → Type 0) → Book → Type 0
FindsBook {D = D} view scripts number holds b =
    (disk : D) × AreAmong (view disk).images holds × IsOneOf setup_of_texts number scripts (view disk) b

-- the setup has other names or texts than the one of the book that some image makes, if it makes one
abbrev pub FindsAnother : List Named → (number : ℕ) → (holds : List ℕ → Type 0) → Type 0
FindsAnother scripts number holds = (image : List ℕ) × holds image × IsAnother scripts (book_in_bytes setup_of_texts number image)

-- the book that is found, opened with another setup, has a journal of this length, which is longer than one may be
abbrev pub FindsNoRoom : {D : Type 0} → (D → View) → List Named → (number : ℕ) → (holds : List ℕ → Type 0) → (len : ℕ) → Type 0
FindsNoRoom view scripts number holds len =
    (b : Book) × FindsBook view scripts number holds b × (b.length ≡ len) × (2 ^ 30 < len) × FindsAnother scripts number holds

-- What is found where a disk may hold these images: a shelf whose book is one that the disk stands for; or an image that makes no
-- shelf; or that a book for which the disk stands has no room for the setup.
abbrev pub Finds : {D : Type 0} → (D → View) → List Named → (number : ℕ) → (holds : List ℕ → Type 0) → Result (Shelf D Counting) Reopen → Type 0
Finds view scripts number holds (Ok s) = FindsBook view scripts number holds (book_in view s)
Finds view scripts number holds (Err (reopen.Damaged place)) =
    (image : List ℕ) × holds image × (book_in_bytes setup_of_texts number image ≡ damaged place)
Finds view scripts number holds (Err (reopen.Other place)) =
    (image : List ℕ) × holds image × (book_in_bytes setup_of_texts number image ≡ other place)
Finds view scripts number holds (Err (reopen.Full len)) = FindsNoRoom view scripts number holds len
Finds view scripts number holds (Err _) = ⊤

-- why a shelf was not begun, as it is told
abbrev pub reopen_of : BeginFault → Reopen
reopen_of (begin.Damaged place) = reopen.Damaged place
reopen_of (begin.Other place) = reopen.Other place
reopen_of (begin.Full len) = reopen.Full len
reopen_of begin.DiskFault = reopen.Disk
reopen_of begin.Memory = reopen.Memory

-- a cause outside of what a disk holds
abbrev pub IsOutside : Reopen → Type 0
IsOutside reopen.Disk = ⊤
IsOutside reopen.Memory = ⊤
IsOutside _ = ⊥

-- whatever a disk may hold has no room for the setup: its journal would have this length with it, or in the newest format, which is longer than
-- one may be
abbrev pub HoldNoRoom : List Named → (shelf : ℕ) → (holds : List ℕ → Type 0) → (len : ℕ) → Type 0
HoldNoRoom scripts shelf holds len = (image : List ℕ) → holds image → IsTooLongIn scripts shelf image len

-- where there is no room for the setup, there is none on whatever the disk may hold
abbrev pub LeavesNoRoom : {T : Type 0} → List Named → (shelf : ℕ) → (holds : List ℕ → Type 0) → Result T Reopen → Type 0
LeavesNoRoom scripts shelf holds result = (len : ℕ) → IsErrOf result (reopen.Full len) → HoldNoRoom scripts shelf holds len

-- how often a disk that was taken has failed, and 0 where none was taken
abbrev pub disk_faults : {D E : Type 0} → (D → View) → Result D E → ℕ
disk_faults view (Ok disk) = (view disk).faults
disk_faults view (Err why) = 0

-- why no empty shelf is opened on the disks of this number: of disks that are not empty one may hold some bytes, and empty ones are neither
-- damaged nor another's, and have room for any setup
abbrev pub IsRefusedBy : RackView → (number : ℕ) → Reopen → Type 0
IsRefusedBy rack number reopen.NotEmpty = MayHoldSome rack number
IsRefusedBy rack number (reopen.Damaged place) = ⊥
IsRefusedBy rack number (reopen.Other place) = ⊥
IsRefusedBy rack number (reopen.Full len) = ⊥
IsRefusedBy rack number _ = ⊤

-- disks are taken without bytes where each may hold none
abbrev pub TakesEmpty : {D : Type 0} → (D → View) → RackView → (number : ℕ) → Result D Reopen → Type 0
TakesEmpty view rack number (Ok disks) = ((view disks).seen ≡ []) × MayBeBare rack number
TakesEmpty view rack number (Err why) = IsRefusedBy rack number why

-- On a disk without bytes an empty shelf is begun; it is neither damaged nor another's, and has room for any setup.
abbrev pub BeginsEmpty : {D : Type 0} → (D → View) → List Named → Rules → Result (Shelf D Counting) Reopen → Type 0
BeginsEmpty view scripts rules (Ok s) = book_in view s ≡ empty_book (rules_of rules) scripts rules.number
BeginsEmpty view scripts rules (Err (reopen.Damaged place)) = ⊥
BeginsEmpty view scripts rules (Err (reopen.Other place)) = ⊥
BeginsEmpty view scripts rules (Err (reopen.Full len)) = ⊥
BeginsEmpty view scripts rules (Err _) = ⊤

-- the records of the journal of a shelf that is opened with this setup on bytes that were read: those that stay of what stands there, and
-- after them what the opening tells
abbrev pub opened_bodies : List Named → (shelf : ℕ) → (read : List ℕ) → List (List ℕ)
opened_bodies scripts shelf read = bodies_after shelf read ++ opening_bodies scripts shelf (now_in_bytes shelf read)

-- these bytes are the records that were read, at rest, in the format in which they were read
abbrev pub IsReadAtRest : (read left : List ℕ) → Type 0
IsReadAtRest read left = (f : ℕ) × TellsFormat read f × (left ≡ at_rest_in f (stored read))

-- What may be left of the disk of a shelf on which nothing was lost, and of which this was read: what it might hold before; or, where it
-- might hold what was read, the records that were read, at rest; or those of them that stay, in the newest format; or these and what the
-- opening tells.
abbrev pub IsKept : List Named → (shelf : ℕ) → (held : List ℕ → Type 0) → (read left : List ℕ) → Type 0
IsKept scripts shelf held read left =
    held left
    ⊎ (held read × ((records read ≡ Intact (stored read)) ⊎ (read ≡ []))
    × (IsReadAtRest read left ⊎ ((left ≡ at_rest (bodies_after shelf read)) ⊎ (left ≡ at_rest (opened_bodies scripts shelf read)))))

-- whatever is left of the disk of a shelf is what may be left where nothing was lost on it
abbrev pub AllKept : List Named → (shelf : ℕ) → (held : List ℕ → Type 0) → (read : List ℕ) → (holds : List ℕ → Type 0) → Type 0
AllKept scripts shelf held read holds = (left : List ℕ) → holds left → IsKept scripts shelf held read left

-- nothing was lost on a disk where a shelf was begun, nor where it was not, unless a call of the disk failed
abbrev pub KeepsBegun : {D : Type 0} → (D → View) → List Named → (number : ℕ) → (disk : View) → (holds : ℕ → List ℕ → Type 0)
    → Result (Shelf D Counting) Reopen → Type 0
KeepsBegun view scripts number disk holds (Ok s) = AllKept scripts number disk.images disk.seen (view s.journal.disk).images
KeepsBegun view scripts number disk holds (Err reopen.Disk) = ⊤
KeepsBegun view scripts number disk holds (Err why) = AllKept scripts number disk.images disk.seen (holds number)

-- a disk that is not taken, as it is not empty or a call failed, may hold nothing that it might not hold
abbrev pub GivesUnread : {D : Type 0} → (D → View) → (held holds : List ℕ → Type 0) → Result D Reopen → Type 0
GivesUnread view held holds (Ok disk) = AreAmong (view disk).images held
GivesUnread view held holds (Err why) = AreAmong holds held

-- nothing was lost on the disk of an empty shelf, where it was opened and where it was not, unless a call of the disk failed
abbrev pub KeepsOpened : {D : Type 0} → (D → View) → List Named → (number : ℕ) → (held : List ℕ → Type 0) → (holds : ℕ → List ℕ → Type 0)
    → Result (Shelf D Counting) Reopen → Type 0
KeepsOpened view scripts number held holds (Ok s) = AllKept scripts number held [] (view s.journal.disk).images
KeepsOpened view scripts number held holds (Err reopen.Disk) = ⊤
KeepsOpened view scripts number held holds (Err why) = AllKept scripts number held [] (holds number)

-- where a shelf is not opened, nothing was lost on its disk, unless a call of the disk failed
abbrev pub KeepsClosed : {T : Type 0} → List Named → (number : ℕ) → (held holds : List ℕ → Type 0) → Result T Reopen → Type 0
KeepsClosed scripts number held holds result =
    IfErr result (λ why. why ≢ reopen.Disk → AllKept scripts number held [] holds)

-- No step was performed, as a shelf was not opened for this: nothing was lost on any disk, but on the one of which a call failed, and
-- nothing was written on those after it.
pub record AllStayKept (scripts : List Named) (before after : ℕ → List ℕ → Type 0) (shelf : ℕ) (why : Reopen) : Type 0 where
  pub kept : (n : ℕ) → (why ≡ reopen.Disk → n ≢ shelf) → AllKept scripts n (before n) [] (after n)
  pub behind : (n : ℕ) → shelf < n → AreAmong (after n) (before n)

-- an empty shelf is opened where its disks may hold nothing
abbrev pub OpensEmpty : {D : Type 0} → (D → View) → List Named → Rules → RackView → Result (Shelf D Counting) Reopen → Type 0
OpensEmpty view scripts rules rack (Ok s) =
    MayBeBare rack rules.number × (shelf_at view s ≡ empty_shelf (rules_of rules) scripts rules.number)
OpensEmpty view scripts rules rack (Err why) = IsRefusedBy rack rules.number why

-- An empty shelf of these limits was opened, and stands after the others; its disks are out. Of disks that tell what they hold, its
-- own may have held nothing.
pub record OpensNext {D : Type 0} (view : D → View) (rack_tells tells : Bool) (scripts : List Named) (limits : Rules)
    (shelves now : List (Shelf D Counting)) (old new : RackView) : Type 0 where
  pub shelf : Shelf D Counting
  pub behind : now ≡ shelves ++ shelf ∷ []
  pub in_order : IsInOrder view tells shelf
  pub rules : shelf.rules ≡ limits
  pub empty : IsTrue rack_tells → IsTrue tells → OpensEmpty view scripts limits old (Ok shelf)
  pub own : IsTrue rack_tells → IsTrue tells → IsOwnShelf view tells shelf
  pub keeps : IsTrue rack_tells → IsTrue tells → KeepsOpened view scripts limits.number ((shelves_of old).holds limits.number) (shelves_of new).holds (Ok shelf)
  pub taken : TakesOne limits.number old new
  pub asked : AsksForOne limits.number old new
  pub later : CountStays old.faults 0 new.faults (view shelf.journal.disk).faults
  pub rack_later : old.faults ≤ new.faults

-- Of a rack that was first so, these are the shelves of the numbers below this one, all empty; no disk beyond them was touched.
pub record AreOpened {D : Type 0} (view : D → View) (rack_tells tells : Bool) (scripts : List Named) (rules : Rules) (first : RackView)
    (count : ℕ) (xs : List (Shelf D Counting)) (now : RackView) : Type 0 where
  pub size : length xs ≡ count
  pub numbers : AreNumbered xs
  pub in_order : (k : ℕ) (x : Shelf D Counting) → slice_get xs k ≡ Some x → IsInOrder view tells x
  pub own : IsTrue rack_tells → IsTrue tells → (k : ℕ) (x : Shelf D Counting) → slice_get xs k ≡ Some x → IsOwnShelf view tells x
  pub keeps : IsTrue rack_tells → IsTrue tells → (k : ℕ) (x : Shelf D Counting) → slice_get xs k ≡ Some x
      → AllKept scripts k ((shelves_of first).holds k) [] (view x.journal.disk).images
  pub home : IsHome xs (shelves_of now).out
  pub rest : (n : ℕ) → count ≤ n → AreAmong ((shelves_of now).holds n) ((shelves_of first).holds n)
  pub disks : (n number : ℕ) → count ≤ n → n < most_shelves → IsOneOfThree n number → AreAmong (now.holds number) (first.holds number)
  pub empty : IsTrue rack_tells → IsTrue tells → (k : ℕ) → k < count → MayBeBare first k
  pub shelves : IsTrue rack_tells → IsTrue tells → map (shelf_at view) xs ≡ first_shelves (rules_at rules) scripts count
  pub later : first.faults ≤ total now.faults (faults_in view xs)
  pub rack_later : first.faults ≤ now.faults
  pub failed_later : StaysUp (shelves_of first).failed (shelves_of now).failed
  pub asked : AsksForFirst count first now

-- the one shelf is the other after the event crash with this setup, what was in doubt lost or kept
abbrev pub HasCrashed : {D : Type 0} → (D → View) → List Named → (old new : Shelf D Counting) → Type 0
HasCrashed view scripts old new =
    (nonce : ℕ)
    → IsCrashed (rules_of old.rules) (book_in view old) nonce scripts lost (book_in view new)
    ⊎ IsCrashed (rules_of old.rules) (book_in view old) nonce scripts kept (book_in view new)

-- The setup has other names or texts than that of the book. After the event crash with it, what was in doubt lost or kept, the book would
-- have a journal of this length, which is longer than one may be; and so would what the disk may hold now.
pub record HasNoRoom (rules : runs.Rules) (scripts : List Named) (shelf : ℕ) (holds : List ℕ → Type 0) (b : Book) (len : ℕ) : Type 0 where
  pub another : are_same scripts b.scripts ≡ false
  pub book : Book
  pub crashed : (nonce : ℕ) → IsCrashed rules b nonce scripts lost book ⊎ IsCrashed rules b nonce scripts kept book
  pub length : book.length ≡ len
  pub long : 2 ^ 30 < len
  pub left : HoldNoRoom scripts shelf holds len

-- where a shelf that crashed has no room for the setup, this is so of its book; other causes tell nothing of it
abbrev pub TellsRoom : (rules : runs.Rules) → List Named → (shelf : ℕ) → (holds : List ℕ → Type 0) → Book → Reopen → Type 0
TellsRoom rules scripts shelf holds b (reopen.Full len) = HasNoRoom rules scripts shelf holds b len
TellsRoom rules scripts shelf holds b _ = ⊤

-- the count of a shelf's number rose over what its disk had failed
abbrev pub FailsAt : {D : Type 0} → (D → View) → List (Shelf D Counting) → (place : ℕ) → (old new : RackView) → Type 0
FailsAt {D = D} view shelves place old new =
    (s : Shelf D Counting) → slice_get shelves place ≡ Some s
    → Rose ((shelves_of old).failed s.rules.number + (view s.journal.disk).faults) ((shelves_of new).failed s.rules.number)

-- a crash of a shelf, which is opened again with this setup, is the desk's, and the disk does not fail by it
abbrev pub CrashesShelf : {D : Type 0} → (D → View) → List Named → (old : Staff D) → (place live : ℕ) → (new : Staff D) → Type 0
CrashesShelf view scripts old place live new = Crashes desk_rules ⊥ (desk_of view scripts old) place live (desk_of view scripts new)

-- the disks of this shelf are not empty: one of them may hold some bytes, and each disk of a shelf before it may hold none
pub record IsNotEmpty (rack : RackView) (number : ℕ) : Type 0 where
  pub before : (k : ℕ) → k < number → MayBeBare rack k
  pub some : MayHoldSome rack number

-- Why a desk was not opened, of disks that tell what they hold. The disks of the shelves before it may hold nothing; empty disks are
-- neither damaged nor another's, and have room for any setup.
abbrev pub IsClosedBy : RackView → (count number : ℕ) → Reopen → Type 0
IsClosedBy rack count number reopen.NotEmpty = (number < count) × IsNotEmpty rack number
IsClosedBy rack count number (reopen.Damaged place) = ⊥
IsClosedBy rack count number (reopen.Other place) = ⊥
IsClosedBy rack count number (reopen.Full len) = ⊥
IsClosedBy rack count number _ = (number < count) × ((k : ℕ) → k < number → MayBeBare rack k)

-- what the disk of each of these shelves may hold, now that it was given back, it might have held before
abbrev pub HoldImages : {D : Type 0} → (D → View) → List (Shelf D Counting) → (holds : ℕ → List ℕ → Type 0) → Type 0
HoldImages {D = D} view shelves holds =
    (k : ℕ) (s : Shelf D Counting) → slice_get shelves k ≡ Some s → AreAmong (holds s.rules.number) (view s.journal.disk).images

-- the disks that are of none of these shelves may hold nothing that they might not hold before
abbrev pub LeaveOthers : {D : Type 0} → List (Shelf D Counting) → (before after : RackView) → Type 0
LeaveOthers shelves before after =
    (n : ℕ) → ((k : ℕ) → slice_get (numbers_in shelves) k ≡ Some n → ⊥) → AreAmong ((shelves_of after).holds n) ((shelves_of before).holds n)

-- What the disk of this shelf may hold has own records, and makes the book, with what is in doubt or without it, whose record is as
-- long as the rules measure it.
pub record HoldsTheBook (rules : runs.Rules) (shelf : ℕ) (holds : List ℕ → Type 0) (b : Book) : Type 0 where
  pub own : (o : OwnRecords shelf) × ((image : List ℕ) → holds image → HoldOwn o image)
  pub stands : (n : ℕ) × ((k : Between setup_of_texts shelf b (if_kept n b)) × (HoldIn k holds × MeasuresDoubt rules n b))

-- what a disk may hold makes the book, or the book that is opened again with this setup
abbrev pub HoldsWithSetup : (shelf : ℕ) → List Named → (holds : List ℕ → Type 0) → Book → Type 0
HoldsWithSetup shelf scripts holds b = (l : Between setup_of_texts shelf b (opened_book shelf scripts b)) × HoldIn l holds

-- what a disk may hold that was opened again with this setup, or was not, makes one of two books, or what makes one of these with the setup
-- or without it
abbrev pub HoldsOpened : {shelf : ℕ} {before after : Book} → Between setup_of_texts shelf before after → List Named → (holds : List ℕ → Type 0) → Type 0
HoldsOpened {shelf = shelf} {before = before} {after = after} k scripts holds =
    HoldIn k holds ⊎ (HoldsWithSetup shelf scripts holds before ⊎ HoldsWithSetup shelf scripts holds after)

-- What the disk of this shelf may hold, which crashed and was not opened again with this setup, whatever failed then: it has own records, and
-- makes the book, with what is in doubt or without it, and with the setup or without it.
pub record StandsLost (rules : runs.Rules) (scripts : List Named) (shelf : ℕ) (holds : List ℕ → Type 0) (b : Book) : Type 0 where
  pub own : (image : List ℕ) → holds image → HoldsOwnRecords shelf image
  pub stands : (n : ℕ) × ((k : Between setup_of_texts shelf b (if_kept n b)) × (HoldsOpened k scripts holds × MeasuresDoubt rules n b))

-- what a disk may hold now, in or after an opening with this setup, stands for each book that the disk of an own shelf stood for
abbrev pub StaysLost : List Named → (shelf : ℕ) → View → (holds : List ℕ → Type 0) → Type 0
StaysLost scripts shelf v holds = (rules : runs.Rules) (b : Book) → StandsOwn rules shelf v b → StandsLost rules scripts shelf holds b

-- what a crash may leave of the disk of a shelf that was opened, or what the rack holds of it where it was not
abbrev pub left_on : {D E : Type 0} → (D → View) → (number : ℕ) → (holds : ℕ → List ℕ → Type 0) → Result (Shelf D Counting) E → List ℕ → Type 0
left_on view number holds (Ok s) = (view s.journal.disk).images
left_on view number holds (Err why) = holds number

-- the disks that are given back stand for the books of a desk
abbrev pub HoldTheBooks : (desk : Desk) → (holds : ℕ → List ℕ → Type 0) → Type 0
HoldTheBooks d holds =
    (k : ℕ) (s : runs_spec.Shelf) → slice_get d.shelves k ≡ Some s → HoldsTheBook s.rules s.book.shelf (holds s.book.shelf) s.book

-- What a rack holds where this shelf of a desk crashed and was not opened again for this cause: each disk is home, and stands for the book of
-- its shelf.
pub record IsLeft (rack : RackView) (d : Desk) (shelf : ℕ) (why : Reopen) : Type 0 where
  pub home : AreHome (shelves_of rack).out
  pub others : (k : ℕ) (s : runs_spec.Shelf) → slice_get d.shelves k ≡ Some s → k ≢ shelf
      → HoldsTheBook s.rules s.book.shelf ((shelves_of rack).holds s.book.shelf) s.book
  pub lost : (s : runs_spec.Shelf) → slice_get d.shelves shelf ≡ Some s
      → StandsLost s.rules d.scripts s.book.shelf ((shelves_of rack).holds s.book.shelf) s.book
  pub room : (s : runs_spec.Shelf) → slice_get d.shelves shelf ≡ Some s
      → TellsRoom s.rules d.scripts s.book.shelf ((shelves_of rack).holds s.book.shelf) s.book why

-- each shelf but the one at this place stands among these
abbrev pub KeepsShelvesBut : {D : Type 0} → (place : ℕ) → (old new : List (Shelf D Counting)) → Type 0
KeepsShelvesBut {D = D} place old new =
    (k : ℕ) (s : Shelf D Counting) → k ≢ place → slice_get old k ≡ Some s → (j : ℕ) × (slice_get new j ≡ Some s)

-- the disk of the shelf that was at this place is home
abbrev pub IsPutBack : {D : Type 0} → List (Shelf D Counting) → (place : ℕ) → (out : ℕ → Bool) → Type 0
IsPutBack {D = D} shelves place out = (s : Shelf D Counting) → slice_get shelves place ≡ Some s → out s.rules.number ≡ false

-- what a rack holds of the disk of the shelf that was at this place stands for its book
abbrev pub LeavesLost : {D : Type 0} → (D → View) → List Named → List (Shelf D Counting) → (place : ℕ) → (holds : ℕ → List ℕ → Type 0) → Type 0
LeavesLost {D = D} view scripts shelves place holds =
    (s : Shelf D Counting) → slice_get shelves place ≡ Some s
    → StandsLost (rules_of s.rules) scripts s.rules.number (holds s.rules.number) (book_in view s)

-- where there was no room for the setup, this is so of the book of the shelf that was at this place
abbrev pub TellsItsRoom : {D : Type 0} → (D → View) → List Named → List (Shelf D Counting) → (place : ℕ) → (holds : ℕ → List ℕ → Type 0) → Reopen → Type 0
TellsItsRoom {D = D} view scripts shelves place holds why =
    (s : Shelf D Counting) → slice_get shelves place ≡ Some s
    → TellsRoom (rules_of s.rules) scripts s.rules.number (holds s.rules.number) (book_in view s) why
