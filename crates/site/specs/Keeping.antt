-- What the calls of a shelf that is kept behind a lock ask for and do.
use Rattle.std.specs.Prelude.{◌≡◌, ℕ, Bool, Option, Result, IfOk}
use Rattle.script_value.specs.declared.outcome.Reply.{Reply}
use Rattle.script_value.specs.declared.value.Value.{Value}
use Rattle.script_value.specs.Views.{meaning}
use Rattle.script_nodes.specs.Views.{library_of}
use Rattle.script_nodes.specs.declared.library.Library.{Library}
use Rattle.page_names.specs.declared.names.Target.{Target}
use Rattle.page_names.specs.Views.{target_of}
use Rattle.web_disk.specs.View.{View}
use Rattle.replay_spec.specs.Step as step
use Rattle.shelf.specs.Visits.{Ticket, ticket_of, reply_of}
use Rattle.shelf.specs.InstanceBook.KeptStates.MachineStates.declared.segment.Segment.{Segment}
use Rattle.shelf.specs.Views.{IsRunIfAny, book_in, library_in, taken_of, compacted_of}
use Rattle.shelf.specs.Tickets.{GoesOnFromItsPage}
use Rattle.site.specs.declared.kept.KeptShelf.{KeptShelf}
use Rattle.site.specs.Entries.{Comes, Compacts, Sweeps, IsGivenIn, entries_of}
use Rattle.site.specs.Openings.{opened_library}
use Rattle.site.specs.Sound.{IsSound, Holds, Gives}

module _ {D N : Type 0} (view : D → View) (tells : Bool) (coming : N → ℕ → ℕ) where
  -- a kept shelf is sound, with its history since it was opened, and the tickets that were given there go on from their pages
  pub record IsSoundShelf (k : KeptShelf D N) : Type 0 where
    pub is : IsSound view tells coming k.opened k.shelf (entries_of k.history)
    pub tickets : (t : Ticket) → IsGivenIn k.history t → GoesOnFromItsPage view k.shelf t

  -- by the history of a kept shelf the caller holds the ticket, which was given there
  pub record IsHeldOn (k : KeptShelf D N) (caller : ℕ) (t : Ticket) : Type 0 where
    pub holds : Holds view tells coming k.opened (entries_of k.history) caller t
    pub given : IsGivenIn k.history t

  -- by the history after a take the caller was given what it was told
  pub record GivesOn (caller : ℕ) (target : Target) (answer : Value) (told : Result Ticket Reply) (old new : KeptShelf D N) : Type 0 where
    pub gives : Gives view tells coming old.opened (entries_of new.history) caller (target_of target) (meaning answer) told
    pub given : IfOk told (IsGivenIn new.history)

module _ {D N : Type 0} where
  -- the scripts are those that the journal of a kept shelf told
  abbrev pub IsItsLibrary : KeptShelf D N → Library → Type 0
  IsItsLibrary k library = library_of library ≡ library_in k.shelf

  -- the segment, if there is one, is that of the ticket's run over the scripts that the shelf was opened with, under its limits
  abbrev pub IsRunOn : KeptShelf D N → Ticket → Option Segment → Type 0
  IsRunOn k t segment = IsRunIfAny (opened_library k.opened).all k.opened.shelf.value.rules.fuel t segment

  -- the take is the next entry of the history
  abbrev pub NotesTake : (caller : ℕ) → Target → Value → Result Ticket Reply → (old new : KeptShelf D N) → Type 0
  NotesTake caller target answer told old new =
      Comes caller (step.take (target_of target) (meaning answer)) (taken_of told) old.history new.history

  -- the publish is the next entry of the history
  abbrev pub NotesPublish : (caller : ℕ) → Ticket → Reply → (old new : KeptShelf D N) → Type 0
  NotesPublish caller t told old new = Comes caller (step.publish (ticket_of t)) (reply_of told) old.history new.history

  -- the compaction is the next entry of the history
  abbrev pub NotesCompaction : (caller : ℕ) → Result ℕ Reply → (old new : KeptShelf D N) → Type 0
  NotesCompaction caller told old new = Comes caller step.compact (compacted_of told) old.history new.history

  -- the sweep is the next entry of the history, where its tick is later than the clock; else there is none
  abbrev pub NotesSweep : (D → View) → (caller tick : ℕ) → Result ℕ Reply → (old new : KeptShelf D N) → Type 0
  NotesSweep view caller tick told old new =
      Sweeps caller tick told (book_in view old.shelf).clock old.history new.history

  -- the compaction is the next entry of the history, where the journal is long; else there is none
  abbrev pub NotesCompactionIfLong : (D → View) → (caller : ℕ) → (old new : KeptShelf D N) → Type 0
  NotesCompactionIfLong view caller old new = Compacts caller (book_in view old.shelf).length old.history new.history
