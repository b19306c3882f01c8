-- What remains on disks after steps that were performed, and how often calls of these failed.
use Rattle.std.specs.Prelude.{⊤, ◌≡◌, ◌⊎◌, ◌≤◌, ◌<◌, ℕ, ◌+◌, List, [], ◌++◌, length, count_by, Option, Some, Result, Ok, Err}
use Rattle.std.specs.Io.KnownBytes.{Appends}
use mathlib.Core.List.{IsPrefix}
use Rattle.web_disk.specs.View.{AreAmong}
use Rattle.trio_rack.specs.Trios.{MayBeBare, shelves_of}
use Rattle.script_nodes.specs.Setup.{Named}
use Rattle.replay_spec.specs.Step.{Fate}
use Rattle.setup_reader.specs.Setup.{Parsed, Fault, setup_of}
use Rattle.play_steps.specs.Step.{Step}
use Rattle.play_steps.specs.declared.stage.Reopen.{Reopen}
use Rattle.play_steps.specs.declared.stage.Reopen.TheVariants as reopen
use Rattle.play_steps.specs.Played.{RoseBy}
use Rattle.play_steps.specs.Transcript.{text_of}
use Rattle.play_desk.specs.Desk.{Desk, is_fault}
use Rattle.play_desk.specs.Asking.{AsksForFirst, AsksForNone, AsksUntil}
use Rattle.play_desk.specs.Opening.{AllKept, AllStayKept, HoldTheBooks, IsLeft}
use Rattle.command_words.specs.declared.Command.{Command}
use Rattle.command_words.specs.declared.Command.TheVariants.{Check, Play}
use Rattle.command_words.specs.declared.Options.{Options}
use Rattle.server_command.specs.Racks.{Racks, AtRest, HaveBegun, ShelfFailed, disk_line, full, unfit_line}
use Rattle.server_command.specs.Output.{Before, BeforeOpening, Chances, IsCrashOf, Replied, Sinks, Tells, ending_of, run_of, steps_for}

-- The rack's count rose by one at least for each of these fates that is a fault of a disk, and by so many more.
abbrev pub HaveFailed : Racks → List Fate → (more : ℕ) → Type 0
HaveFailed rack fates more = RoseBy (count_by is_fault fates + more) rack.before.faults rack.after.faults

-- nothing was lost on any disk, and so many were asked for, each once and in order; nothing was written on those after them
pub record AreAllKept (rack : Racks) (scripts : List Named) (taken : ℕ) : Type 0 where
  pub asked : AsksForFirst taken rack.before rack.after
  pub kept : (n : ℕ) → AllKept scripts n ((shelves_of rack.before).holds n) [] ((shelves_of rack.after).holds n)
  pub behind : (n : ℕ) → taken ≤ n → AreAmong ((shelves_of rack.after).holds n) ((shelves_of rack.before).holds n)

-- the disks of the shelves before this one and its own up to one of them were asked for, each once and in order, and no other; or none was,
-- for want of memory
abbrev pub AsksForShelf : Racks → (shelf : ℕ) → Reopen → Type 0
AsksForShelf rack shelf why =
    AsksUntil (shelf + 1) shelf rack.before rack.after ⊎ ((why ≡ reopen.Memory) × AsksForNone rack.before rack.after)

-- a shelf was not opened at first, for this, and no step was performed: no disk after its own was asked for, those before it may hold
-- nothing, and nothing was lost on any, but on the one of which a call failed
pub record IsUnopened (rack : Racks) (scripts : List Named) (shelf : ℕ) (why : Reopen) : Type 0 where
  pub asked : AsksForShelf rack shelf why
  pub before : (k : ℕ) → k < shelf → MayBeBare rack.before k
  pub failed : why ≡ reopen.Disk → ShelfFailed rack shelf
  pub kept : AllStayKept scripts (shelves_of rack.before).holds (shelves_of rack.after).holds shelf why

-- What is left on the disks of so many shelves, by which one is told, and for which cause: that one was not opened at first; or none has to
-- be told, and each disk stands for the book of its shelf, as the last of some steps left it; or that one crashed, and was not opened again:
-- each disk stands for the book that its shelf had before that crash. Steps are performed where all shelves were begun.
pub data AreLeft (rack : Racks) (count : ℕ) (scripts : List Named) (text : List ℕ) (IsTold : ℕ → Reopen → Type 0) (IsLast : Desk → Type 0)
    (IsLost : ℕ → Reopen → Desk → Type 0) : Type 0 where
  unopened : (shelf : ℕ) (why : Reopen) → IsTold shelf why → text ≡ [] → IsUnopened rack scripts shelf why
      → AreLeft rack count scripts text IsTold IsLast IsLost
  performed : (last : Desk) → ((shelf : ℕ) (why : Reopen) → IsTold shelf why) → IsLast last → HoldTheBooks last (shelves_of rack.after).holds
      → HaveBegun rack count → AreLeft rack count scripts text IsTold IsLast IsLost
  lost : (shelf : ℕ) (why : Reopen) (last : Desk) → IsTold shelf why → IsLost shelf why last → IsLeft rack.after last shelf why
      → HaveBegun rack count → AreLeft rack count scripts text IsTold IsLast IsLost

-- any shelf may be meant, and any cause, where none is told
abbrev pub IsAny : (shelf : ℕ) → Reopen → Type 0
IsAny shelf why = ⊤

-- the shelf is the one that is told, and its disk failed
abbrev pub IsFailed : (told shelf : ℕ) → Reopen → Type 0
IsFailed told shelf why = (shelf ≡ told) × (why ≡ reopen.Disk)

-- this is the desk after the first of the steps, of which so much is printed, or more
pub record IsBehind (o : Options) (setup : Parsed) (fates : List Fate) (text : List ℕ) (last : Desk) : Type 0 where
  pub front : List (Option Step)
  pub rest : List (Option Step)
  pub cut : steps_for o setup ≡ front ++ rest
  pub printed : IsPrefix text (text_of (run_of o setup.scripts front fates))
  pub state : (run_of o setup.scripts front fates).state ≡ last

-- this shelf crashed after steps of which this is printed, which left this desk, and was not opened again
abbrev pub IsLostBehind : Options → Parsed → List Fate → (text : List ℕ) → (shelf : ℕ) → Desk → Type 0
IsLostBehind o setup fates text shelf last =
    (replied : Replied o setup fates (IsCrashOf shelf) text)
    × ((run_of o setup.scripts replied.front fates).state ≡ last)

-- what remains on the disks where the steps of a setup were told up to this text, with a shelf that is lost, and so many calls
-- failed besides; a check takes no disks, nor are any taken where the input is no setup
abbrev pub Remains : Racks → Command → Result Parsed Fault → Chances → (text : List ℕ) → (ℕ → Reopen → Type 0) → (more : ℕ) → Type 0
Remains rack (Play o) (Ok setup) chances text IsTold more =
    AreLeft rack o.shelves setup.scripts text IsTold (IsBehind o setup chances.fates text)
    (λ shelf why last. IsLostBehind o setup chances.fates text shelf last)
    × HaveFailed rack chances.fates more
Remains rack (Play o) (Err e) chances text IsTold more = AtRest rack
Remains rack Check setup chances text IsTold more = AtRest rack
Remains rack asked setup chances text IsTold more = ⊤

-- what remains where a text could not be written: the books of the steps of which so much was written, or more
abbrev pub RemainsUnwritten : Racks → Command → Result Parsed Fault → Chances → (old new : Option (List ℕ)) → Type 0
RemainsUnwritten rack (Play o) (Ok setup) chances old new =
    (text : List ℕ) × (last : Desk) × Appends old new text × IsBehind o setup chances.fates text last × HoldTheBooks last (shelves_of rack.after).holds
    × HaveFailed rack chances.fates 0 × HaveBegun rack o.shelves
RemainsUnwritten rack Check setup chances old new = AtRest rack
RemainsUnwritten rack asked setup chances old new = ⊤

-- what remains where a disk is not empty: nothing was lost on any disk, and those after it were not taken
abbrev pub RemainsShut : Racks → Command → Result Parsed Fault → Chances → Type 0
RemainsShut rack (Play o) (Ok setup) chances = AreAllKept rack setup.scripts (length chances.disks)
RemainsShut rack asked setup chances = ⊤

-- the sink grew by what stands before want of memory, and then by the line
abbrev pub Pauses : Racks → Command → (input : List ℕ) → Chances → (line : List ℕ) → Sinks → Type 0
Pauses rack asked input chances line out =
    (text : List ℕ) × Before asked input chances text × Tells text line out
    × Remains rack asked (setup_of (ending_of asked) input) chances text IsAny 0

-- the sink grew by what stands before this shelf is not opened, and then by the line that its disk failed
abbrev pub Loses : Racks → Command → (input : List ℕ) → Chances → (shelf : ℕ) → Sinks → Type 0
Loses rack asked input chances shelf out =
    (text : List ℕ) × BeforeOpening asked input chances shelf text × Tells text (disk_line shelf) out
    × Remains rack asked (setup_of (ending_of asked) input) chances text (IsFailed shelf) 1

-- A crash of this shelf, after steps of which this is printed, left its journal without room for the setup that an edit had changed: it
-- would be so long. Each disk stands for the book that its shelf had before that crash, and all shelves had been begun.
pub record Outgrows (rack : Racks) (o : Options) (setup : Parsed) (chances : Chances) (shelf length : ℕ) (text : List ℕ) : Type 0 where
  pub last : Desk
  pub lost : IsLostBehind o setup chances.fates text shelf last
  pub left : IsLeft rack.after last shelf (reopen.Full length)
  pub counted : HaveFailed rack chances.fates 0
  pub began : HaveBegun rack o.shelves

-- what the words ask for is a run of steps, and an edit outgrows the journal of a shelf
abbrev pub HasOutgrown : Racks → Option (Command × Parsed) → Chances → Type 0
HasOutgrown rack (Some (Play o, setup)) chances = (shelf : ℕ) × (length : ℕ) × (text : List ℕ) × Outgrows rack o setup chances shelf length text
HasOutgrown rack _ chances = ⊥

-- the sink grew by the whole replies to the steps before a crash whose edit outgrows a journal, and then by the line that names
-- the shelf and the length
abbrev pub TellsOutgrown : Racks → Option (Command × Parsed) → Chances → Sinks → Type 0
TellsOutgrown rack (Some (Play o, setup)) chances out =
    (shelf : ℕ) × (length : ℕ) × (text : List ℕ) × Outgrows rack o setup chances shelf length text
    × Tells text (unfit_line shelf (full length)) out
TellsOutgrown rack _ chances out = ⊥
