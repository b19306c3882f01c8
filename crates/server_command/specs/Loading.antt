-- What a measured run leaves.
use Rattle.std.specs.Prelude.{◌≡◌, ◌≤◌, ℕ, List, [], length, map, Some, IsTrue}
use Rattle.web_outside.specs.Causes.{Rose}
use Rattle.trio_rack.specs.Trios.{shelves_of}
use Rattle.replay_spec.specs.Step.{Fate, Reply}
use Rattle.play_steps.specs.Played.{Spot, spot}
use Rattle.play_steps.specs.declared.stage.Reopen.{Reopen}
use Rattle.play_steps.specs.declared.stage.Reopen.TheVariants as reopen
use Rattle.play_steps.specs.Transcript.{done}
use Rattle.play_desk.specs.Desk.{Desk, desk_rules}
use Rattle.play_desk.specs.Laws.{IsRunOfEvents}
use Rattle.play_desk.specs.Opening.{HoldTheBooks, IsLeft}
use Rattle.measured_run.specs.Generator.{source_of}
use Rattle.measured_run.specs.Tallies.{summary_text}
use Rattle.measured_run.specs.declared.measuring.Measure.{Measure}
use Rattle.measured_run.specs.Drawing.{most_steps, run_drawn, steps_drawn}
use Rattle.measured_run.specs.Course.{LosesShelf}
use Rattle.measured_run.specs.Setups.{load_scripts}
use Rattle.command_words.specs.declared.LoadOptions.{LoadOptions}
use Rattle.server_command.specs.declared.program.Status.{Status}
use Rattle.server_command.specs.declared.program.Status.TheVariants as status
use Rattle.server_command.specs.Racks.{Racks, AreTaken, HaveBegun, ShelfFailed, disk_line, held_anew, unfit_new}
use Rattle.server_command.specs.Remains.{AreAllKept, AreLeft, HaveFailed, IsAny, IsFailed}
use Rattle.server_command.specs.Output.{memory_line, Answers, BreaksOff, Chances, Output, PrintsTo, Sinks, desk_for, loaded, run_loaded}

-- the line of a measured run is all that is told of it
abbrev pub told_measure : Measure → Output
told_measure m = record { text = summary_text m.tally m.hash; error = []; status = 0 }

-- the line of a measured run was told, or there was no memory for that
abbrev pub TellsMeasure : Measure → Status → Sinks → Type 0
TellsMeasure m status.Done out = Answers (told_measure m) 0 out
TellsMeasure m status.Write out = Rose out.before out.after × BreaksOff (told_measure m) out
TellsMeasure m status.Memory out = PrintsTo out memory_line
TellsMeasure m _ out = ⊥

-- the output that is due to a measured run has this status, by the disks that were taken for it
pub record GivesLoad (rack : Racks) (l : LoadOptions) (chances : Chances) (status : ℕ) (out : Sinks) : Type 0 where
  pub answered : Answers (loaded l chances) status out
  pub taken : AreTaken unfit_new (held_anew rack.before) l.options.shelves chances.disks

-- All steps of a measured run fit, the disks that were given back stand for the books that they left, and each fault of one was counted. All
-- shelves had been begun.
pub record HasLoaded (rack : Racks) (l : LoadOptions) (chances : Chances) : Type 0 where
  pub whole : (run_loaded l chances.fates).end ≡ done
  pub books : HoldTheBooks (run_loaded l chances.fates).state (shelves_of rack.after).holds
  pub counted : HaveFailed rack chances.fates 0
  pub began : HaveBegun rack l.options.shelves

-- this shelf crashed at the step after some steps of a measured run, which left this desk, and was not opened again for this cause
pub record IsLostBehind (rack : Racks) (l : LoadOptions) (chances : Chances) (shelf : ℕ) (why : Reopen) (last : Desk) : Type 0 where
  pub faults : ℕ
  pub left : Spot desk_rules
  pub lost : LosesShelf desk_rules (IsLeft rack.after) most_steps (source_of l.number) shelf why
      (spot desk_rules (desk_for l.options load_scripts) faults) left
  pub fates : lost.loads.fates ≡ chances.fates
  pub state : lost.middle.state ≡ last

-- this shelf was not opened, as its disk failed: at first; or after it crashed at a step of a measured run
pub data IsLost (rack : Racks) (l : LoadOptions) (chances : Chances) (shelf : ℕ) : Type 0 where
  at_first : IsLost rack l chances shelf
  at_crash : (last : Desk) → IsLostBehind rack l chances shelf reopen.Disk last → IsLost rack l chances shelf

-- this is the desk after some first steps of a measured run, or after all
pub record IsLoaded (l : LoadOptions) (fates : List Fate) (last : Desk) : Type 0 where
  pub count : ℕ
  pub few : count ≤ most_steps
  pub goes_on : (run_drawn desk_rules count (source_of l.number) (desk_for l.options load_scripts) fates).end ≡ done
  pub state : (run_drawn desk_rules count (source_of l.number) (desk_for l.options load_scripts) fates).state ≡ last

-- what remains where not all steps of a measured run were performed, a lost shelf is told, and so many calls failed besides
abbrev pub RemainsLoaded : Racks → LoadOptions → Chances → (ℕ → Reopen → Type 0) → (more : ℕ) → Type 0
RemainsLoaded rack l chances IsTold more =
    AreLeft rack l.options.shelves load_scripts [] IsTold (IsLoaded l chances.fates) (IsLostBehind rack l chances) × HaveFailed rack chances.fates more

-- What a measured run leaves, by its status. Nothing is told before want of memory.
abbrev pub LeavesLoad : Racks → LoadOptions → Status → Chances → Sinks → Type 0
LeavesLoad rack l status.Done chances out = IsTrue rack.tells → GivesLoad rack l chances 0 out × HasLoaded rack l chances
LeavesLoad rack l status.Write chances out =
    Rose out.before out.after × (IsTrue rack.tells → BreaksOff (loaded l chances) out × HasLoaded rack l chances)
LeavesLoad rack l status.Disk chances out =
    (shelf : ℕ) × ShelfFailed rack shelf × PrintsTo out (disk_line shelf)
    × (IsTrue rack.tells → IsLost rack l chances shelf × RemainsLoaded rack l chances (IsFailed shelf) 1)
LeavesLoad rack l status.Journal chances out =
    IsTrue rack.tells → GivesLoad rack l chances 8 out × AreAllKept rack load_scripts (length chances.disks)
LeavesLoad rack l status.Memory chances out = PrintsTo out memory_line × (IsTrue rack.tells → RemainsLoaded rack l chances IsAny 0)
LeavesLoad rack l _ chances out = ⊥

-- what a measured run leaves, by its status, for some chances
abbrev pub HasLeft : Racks → LoadOptions → Status → Sinks → Type 0
HasLeft rack l status out = (chances : Chances) × LeavesLoad rack l status chances out

-- the steps of a measured run are events, and its transcript is the print of the replies of a run of these
pub record LoadsEvents (l : LoadOptions) (fates : List Fate) : Type 0 where
  pub replies : List Reply
  pub run : IsRunOfEvents (desk_for l.options load_scripts) 1
      (map Some (steps_drawn desk_rules most_steps (source_of l.number) (desk_for l.options load_scripts) fates)) fates replies
