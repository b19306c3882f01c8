-- What is told of shelves that are opened, crash and are closed, where the rack and its disks tell what they hold.
use Rattle.std.specs.Prelude.{◌≡◌, ◌<◌, ◌+◌, [], ℕ, Bool, IsTrue, List, Result, IfErr, IfOk, OnErr, OnOk}
use Rattle.std.specs.Global.{Vec}
use Rattle.web_outside.specs.declared.nonces.Counting.{Counting}
use Rattle.web_disk.specs.View.{View, RackView, AreAmong}
use Rattle.web_disk.specs.declared.disk.Disk.{Ghosts}
use Rattle.disk_trio.specs.Trio.{trio_view}
use Rattle.disk_trio.specs.declared.trio.Disks.{Disks}
use Rattle.trio_rack.specs.Trios.{shelves_of, MayBeBare}
use Rattle.script_nodes.specs.Views.{scripts_of}
use Rattle.script_nodes.specs.declared.setup.Setup.{Setup}
use Rattle.shelf.specs.Opening.{IsOfNow}
use Rattle.shelf.specs.Views.{IsOwnShelf, book_in, rules_of}
use Rattle.shelf.specs.declared.rules.Rules.{Rules}
use Rattle.shelf.specs.declared.shelf.Shelf.{Shelf}
use Rattle.play_steps.specs.declared.stage.Reopen.{Reopen}
use Rattle.play_steps.specs.declared.stage.Reopen.TheVariants as reopen
use Rattle.play_desk.specs.Asking.{AsksForFirst}
use Rattle.play_desk.specs.Desk.{first_desk}
use Rattle.play_desk.specs.Opening.{AllStayKept, AreOpened, BeginsEmpty, CrashesShelf, Finds, GivesUnread, HasCrashed, HoldImages, HoldTheBooks, IsClosedBy, IsLeft, KeepsBegun, KeepsClosed, KeepsOpened, LeavesLost, LeavesNoRoom, OpensEmpty, OpensNext, StandsLost, StaysLost, TellsItsRoom, TellsRoom, left_on, rules_at}
use Rattle.play_desk.specs.Staff.{IsOwn, desk_of}
use Rattle.play_desk.specs.declared.opening.OpenFault.{OpenFault}
use Rattle.play_desk.specs.declared.staff.Staff.{Staff}

-- Disks that a rack gives out hold what it might hold for this number.
abbrev pub GivesHeld : {D : Type 0} → (D → View) → (rack_tells : Bool) → (number : ℕ) → (old : RackView) → Result D Reopen → Type 0
GivesHeld view rack_tells number old result =
    IsTrue rack_tells → IfOk result (λ disk. AreAmong (view disk).images ((shelves_of old).holds number))

-- Where a rack gives no disks out, what it may hold for this number it might hold before.
abbrev pub KeepsHeld : {D : Type 0} → (rack_tells : Bool) → (number : ℕ) → (old new : RackView) → Result D Reopen → Type 0
KeepsHeld rack_tells number old new result =
    IsTrue rack_tells → OnErr result (AreAmong ((shelves_of new).holds number) ((shelves_of old).holds number))

-- What a rack may hold for this number, now that the disk was given back, the disk might hold.
abbrev pub HoldsAsLeft : (rack_tells tells : Bool) → (number : ℕ) → View → RackView → Type 0
HoldsAsLeft rack_tells tells number disk rack = IsTrue rack_tells → IsTrue tells → AreAmong ((shelves_of rack).holds number) disk.images

-- What a rack may hold of the disks of these shelves, now that they were given back, these might hold.
abbrev pub AllHoldAsLeft : {D : Type 0} → (D → View) → (rack_tells tells : Bool) → List (Shelf D Counting) → RackView → Type 0
AllHoldAsLeft view rack_tells tells shelves rack = IsTrue rack_tells → IsTrue tells → HoldImages view shelves (shelves_of rack).holds

-- Disks that are taken unread, or given back so, may hold nothing that the rack might not hold.
abbrev pub StaysUnread : {D : Type 0} → (D → View) → (rack_tells tells : Bool) → (number : ℕ) → (old new : RackView) → Result D Reopen → Type 0
StaysUnread view rack_tells tells number old new result =
    IsTrue rack_tells → IsTrue tells → GivesUnread view ((shelves_of old).holds number) ((shelves_of new).holds number) result

-- What is found on a disk whose journal is of the newest format.
abbrev pub FindsNow : {D : Type 0} → (D → View) → (tells : Bool) → Setup → (number : ℕ) → View → Result (Shelf D Counting) Reopen → Type 0
FindsNow view tells setup number disk result =
    IsTrue tells → IsOfNow disk → Finds view (scripts_of setup) number disk.images result

-- What is begun on a disk without bytes.
abbrev pub BeginsBare : {D : Type 0} → (D → View) → (tells : Bool) → Setup → Rules → View → Result (Shelf D Counting) Reopen → Type 0
BeginsBare view tells setup rules disk result = IsTrue tells → disk.seen ≡ [] → BeginsEmpty view (scripts_of setup) rules result

-- Nothing is lost on a disk where a shelf is begun, nor where it is not, unless a call of the disk fails.
abbrev pub StaysBegun : {D : Type 0} → (D → View) → (rack_tells tells : Bool) → Setup → Rules → View → Result (Shelf D Counting) Reopen
    → RackView → Type 0
StaysBegun view rack_tells tells setup rules disk result rack =
    IsTrue rack_tells → IsTrue tells → KeepsBegun view (scripts_of setup) rules.number disk (shelves_of rack).holds result

-- A disk of the newest format on which a shelf is begun, or is not, stands for each book that it stood for.
abbrev pub StandsBegun : {D : Type 0} → (D → View) → (rack_tells tells : Bool) → Setup → Rules → View → Result (Shelf D Counting) Reopen
    → RackView → Type 0
StandsBegun view rack_tells tells setup rules disk result rack =
    IsTrue rack_tells → IsTrue tells → IsOfNow disk
    → StaysLost (scripts_of setup) rules.number disk (left_on view rules.number (shelves_of rack).holds result)

-- Where there is no room for the setup, there is none on whatever the rack may hold for this number.
abbrev pub HasNoRoomIn : {T : Type 0} → (rack_tells tells : Bool) → Setup → (number : ℕ) → Result T Reopen → RackView → Type 0
HasNoRoomIn rack_tells tells setup number result rack =
    IsTrue rack_tells → IsTrue tells → LeavesNoRoom (scripts_of setup) number ((shelves_of rack).holds number) result

-- An own shelf that crashed and was opened again is as its event crash leaves it.
abbrev pub ComesBack : {D : Type 0} → (D → View) → (rack_tells tells : Bool) → Setup → Shelf D Counting → Result (Shelf D Counting) Reopen → Type 0
ComesBack view rack_tells tells setup shelf result =
    IsTrue rack_tells → IsTrue tells → IsOwnShelf view tells shelf → IfOk result (HasCrashed view (scripts_of setup) shelf)

-- An own shelf that crashed and was opened again is still an own one.
abbrev pub ComesBackOwn : {D : Type 0} → (D → View) → (rack_tells tells : Bool) → Shelf D Counting → Result (Shelf D Counting) Reopen → Type 0
ComesBackOwn view rack_tells tells shelf result =
    IsTrue rack_tells → IsTrue tells → IsOwnShelf view tells shelf → IfOk result (IsOwnShelf view tells)

-- What a crash of an own shelf leaves of its disk stands for its book, whatever came of opening it again.
abbrev pub StandsAfter : {D : Type 0} → (D → View) → (rack_tells tells : Bool) → Setup → Shelf D Counting → Result (Shelf D Counting) Reopen
    → RackView → Type 0
StandsAfter view rack_tells tells setup shelf result rack =
    IsTrue rack_tells → IsTrue tells → IsOwnShelf view tells shelf
    → StandsLost (rules_of shelf.rules) (scripts_of setup) shelf.rules.number (left_on view shelf.rules.number (shelves_of rack).holds result) (book_in view shelf)

-- Where an own shelf that crashed has no room for the setup, this is so of its book.
abbrev pub OutgrowsAfter : {D T : Type 0} → (D → View) → (rack_tells tells : Bool) → Setup → Shelf D Counting → Result T Reopen → RackView → Type 0
OutgrowsAfter view rack_tells tells setup shelf result rack =
    IsTrue rack_tells → IsTrue tells → IsOwnShelf view tells shelf
    → IfErr result (TellsRoom (rules_of shelf.rules) (scripts_of setup) shelf.rules.number ((shelves_of rack).holds shelf.rules.number) (book_in view shelf))

-- An empty shelf is opened where its disks may hold nothing.
abbrev pub OpensBare : {D : Type 0} → (D → View) → (rack_tells tells : Bool) → Setup → Rules → RackView → Result (Shelf D Counting) Reopen → Type 0
OpensBare view rack_tells tells setup rules rack result =
    IsTrue rack_tells → IsTrue tells → OpensEmpty view (scripts_of setup) rules rack result

-- Where an empty shelf is opened on the disks of a rack, it stands after the others.
abbrev pub OpensLast : {D R T : Type 0} → (G : Ghosts D) → (R → RackView) → (rack_tells : Bool) → Setup → Rules → Result T Reopen
    → (shelves now : Vec (Shelf (Disks D G) Counting)) → (old new : R) → Type 0
OpensLast G view rack_tells setup rules result shelves now old new =
    OnOk result (OpensNext (trio_view {G = G}) rack_tells G.tells (scripts_of setup) rules shelves.items now.items (view old) (view new))

-- Nothing is lost on the disk of an empty shelf, where it is opened and where it is not, unless a call of the disk fails.
abbrev pub StaysInOpening : {D : Type 0} → (D → View) → (rack_tells tells : Bool) → Setup → Rules → (old new : RackView)
    → Result (Shelf D Counting) Reopen → Type 0
StaysInOpening view rack_tells tells setup rules old new result =
    IsTrue rack_tells → IsTrue tells
    → KeepsOpened view (scripts_of setup) rules.number ((shelves_of old).holds rules.number) (shelves_of new).holds result

-- Where a shelf is not opened, nothing is lost on its disk, unless a call of the disk fails.
abbrev pub StaysIfClosed : {T : Type 0} → (rack_tells tells : Bool) → Setup → Rules → (old new : RackView) → Result T Reopen → Type 0
StaysIfClosed rack_tells tells setup rules old new result =
    IsTrue rack_tells → IsTrue tells
    → KeepsClosed (scripts_of setup) rules.number ((shelves_of old).holds rules.number) ((shelves_of new).holds rules.number) result

-- Shelves of each number below the count are opened, all of them empty.
abbrev pub OpensAll : {D : Type 0} → (D → View) → (rack_tells tells : Bool) → Setup → Rules → (old new : RackView)
    → Result (Vec (Shelf D Counting)) OpenFault → Type 0
OpensAll view rack_tells tells setup rules old new result =
    IfOk result (λ shelves. AreOpened view rack_tells tells (scripts_of setup) rules old rules.shelves shelves.items new)

-- The desk is not opened for the cause that is told of this shelf.
abbrev pub TellsCause : {T : Type 0} → (rack_tells tells : Bool) → (old : RackView) → (count : ℕ) → Result T OpenFault → Type 0
TellsCause rack_tells tells old count result = IsTrue rack_tells → IsTrue tells → IfErr result (λ e. IsClosedBy old count e.shelf e.why)

-- Where the desk is not opened, nothing is lost on any disk, but on the one of which a call failed.
abbrev pub AllStayIfClosed : {T : Type 0} → (rack_tells tells : Bool) → Setup → (old new : RackView) → Result T OpenFault → Type 0
AllStayIfClosed rack_tells tells setup old new result =
    IsTrue rack_tells → IsTrue tells
    → IfErr result (λ e. AllStayKept (scripts_of setup) (shelves_of old).holds (shelves_of new).holds e.shelf e.why)

-- Where the desk is opened, each disk of its shelves may hold nothing.
abbrev pub WereBare : {T E : Type 0} → (rack_tells tells : Bool) → (old : RackView) → (count : ℕ) → Result T E → Type 0
WereBare rack_tells tells old count result =
    IsTrue rack_tells → IsTrue tells → IfOk result (λ _. (k : ℕ) → k < count → MayBeBare old k)

-- A desk is the first one of this setup: empty shelves, each under the limits of its number, and workers that hold nothing.
abbrev pub IsFirst : {D : Type 0} → (D → View) → Rules → (setup now : Setup) → Staff D → Type 0
IsFirst view rules setup now staff = desk_of view (scripts_of now) staff ≡ first_desk (rules_at rules) (scripts_of setup) rules.shelves

-- Where disks are not empty, those of their shelf and of the ones before it were asked for, and no others.
abbrev pub AsksIfUsed : {T : Type 0} → Result T OpenFault → (old new : RackView) → Type 0
AsksIfUsed result old new = IfErr result (λ e. e.why ≡ reopen.NotEmpty → AsksForFirst (e.shelf + 1) old new)

-- A crash of a shelf of an own staff, which is opened again with this setup, is the desk's.
abbrev pub CrashesOwn : {D : Type 0} → (D → View) → (rack_tells tells : Bool) → Setup → (old : Staff D) → (place : ℕ) → Result ℕ Reopen
    → (new : Staff D) → Type 0
CrashesOwn view rack_tells tells setup old place result new =
    IsTrue rack_tells → IsTrue tells → IsOwn view tells old
    → IfOk result (λ live. CrashesShelf view (scripts_of setup) old place live new)

-- Where a shelf of an own staff crashed and was not opened again, what the rack holds of its disk stands for its book.
abbrev pub LeavesOwn : {T D : Type 0} → (D → View) → (rack_tells tells : Bool) → Setup → (old : Staff D) → (place : ℕ) → Result T Reopen
    → RackView → Type 0
LeavesOwn view rack_tells tells setup old place result rack =
    IsTrue rack_tells → IsTrue tells → IsOwn view tells old
    → OnErr result (LeavesLost view (scripts_of setup) old.shelves.items place (shelves_of rack).holds)

-- Where a shelf of an own staff crashed and has no room for the setup, this is so of its book.
abbrev pub OutgrowsOwn : {T D : Type 0} → (D → View) → (rack_tells tells : Bool) → Setup → (old : Staff D) → (place : ℕ) → Result T Reopen
    → RackView → Type 0
OutgrowsOwn view rack_tells tells setup old place result rack =
    IsTrue rack_tells → IsTrue tells → IsOwn view tells old
    → IfErr result (TellsItsRoom view (scripts_of setup) old.shelves.items place (shelves_of rack).holds)

-- Where a shelf of an own staff crashed and was not opened again, each disk is home and stands for the book of its shelf.
abbrev pub LeavesAll : {T D : Type 0} → (D → View) → (rack_tells tells : Bool) → Setup → (old : Staff D) → (place : ℕ) → Result T Reopen
    → RackView → Type 0
LeavesAll view rack_tells tells setup old place result rack =
    IsTrue rack_tells → IsTrue tells → IsOwn view tells old → IfErr result (IsLeft rack (desk_of view (scripts_of setup) old) place)

-- The disks of an own staff that is closed stand for the books of its shelves.
abbrev pub ClosesOwn : {D : Type 0} → (D → View) → (rack_tells tells : Bool) → Setup → Staff D → RackView → Type 0
ClosesOwn view rack_tells tells setup staff rack =
    IsTrue rack_tells → IsTrue tells → IsOwn view tells staff → HoldTheBooks (desk_of view (scripts_of setup) staff) (shelves_of rack).holds
