-- What the command answers. Read from `Ends` on, which says how a command ended: its status is one that `Explains` names, with what is
-- written and left then, and it is the one that is due (`EndsAs`). After it stand what lawful inputs end with (`IsComplete`), the cause of
-- each status (`HasCause`) and what holds whatever a command comes to (`IsTidy`). Before it, from the bottom up, stands what `Explains`
-- says: `Leaves` of a check and of steps, `LeavesInput` of a serving, `LeavesLoad` of a measured run, by status. `Met` is what all this
-- speaks of.
use Rattle.std.specs.Prelude.{⊤, ◌≡◌, ◌⊎◌, ◌≤◌, ◌∷◌, [], ℕ, List, length, map, nat_le, false, Option, Some, None, IfSome, IsTrue, Result, Ok, Err, codes, if◌then◌else◌}
use Rattle.std.specs.Borrow.{Bor}
use Rattle.std.specs.Io.KnownBytes.{IsAtEnd}
use Rattle.clap.specs.Faults.{fault_of}
use Rattle.clap.specs.Simple.{subcommand_of}
use Rattle.clap.specs.declared.error.kind.ErrorKind.{ErrorKind}
use Rattle.web_outside.specs.declared.source.InputFault.{InputFault}
use Rattle.web_outside.specs.declared.source.InputFault.TheVariants as fault
use Rattle.web_outside.specs.Causes.{Rose}
use Rattle.web_outside.specs.Limits.{most_of_input}
use Rattle.web_outside.specs.Pieces.{ConsumesSome, HandsAllOn, HandsOn, ReadsPast, ReadsUpTo}
use Rattle.web_outside.specs.View.{DoorView, SeedsView, SinkView, SourceView}
use Rattle.trio_rack.specs.Trios.{shelves_of}
use Rattle.script_nodes.specs.Setup.{Named}
use Rattle.command_words.specs.App.{app}
use Rattle.command_words.specs.Plain.{IsPlain}
use Rattle.command_words.specs.declared.Command.{Command}
use Rattle.command_words.specs.declared.Command.TheVariants.{Audit, Check, Export, Follow, Load, Play, Promote, Serve}
use Rattle.command_words.specs.declared.Options.{Options}
use Rattle.command_words.specs.declared.LoadOptions.{LoadOptions}
use Rattle.command_words.specs.declared.Service.{Service}
use Rattle.command_words.specs.Reads.{asked_from}
use Rattle.setup_reader.specs.declared.setup.Ending.TheVariants.{Input, Steps}
use Rattle.setup_reader.specs.Setup.{Parsed, Fault, setup_of}
use Rattle.setup_reader.specs.Faults.{fault_line}
use Rattle.setup_reader.specs.Sections.{IsSetup}
use Rattle.replay_spec.specs.Step.{Fate, Reply}
use Rattle.play_steps.specs.Step.{Step, lines_of, AreSteps}
use Rattle.server_command.specs.declared.program.Status.{Status}
use Rattle.server_command.specs.declared.program.Status.TheVariants as status
use Rattle.server_command.specs.declared.jobs.Job.{Job}
use Rattle.server_command.specs.declared.jobs.Job.TheVariants as job
use Rattle.server_command.specs.Racks.{Racks, AreTaken, AtRest, HaveBegun, ShelfFailed, Unfit, first_unfit, held_anew, unfit_new, unfit_left}
use Rattle.server_command.specs.Serving.{Serves, Faults, HaveRisen, RackFailed, LeavesInput, faults_of, outside, serves_over}
use Rattle.server_command.specs.Order.{Asks, AsksInOrder, Both, asks_of}
use Rattle.site_serving.specs.Serving.{Pasts, Views}
use Rattle.play_desk.specs.Ledger.{print_of}
use Rattle.play_desk.specs.Laws.{IsRunOfEvents}
use Rattle.play_desk.specs.Opening.{AreHome, HoldTheBooks}
use Rattle.server_command.specs.Output.{memory_line, sinks_of, step_line, Chances, Output, output_of, told_scripts, desk_for, loaded, run_of, steps_for, Sinks, PrintsTo, Answers, BreaksOff, ending_of}
use Rattle.server_command.specs.Remains.{HasOutgrown, HaveFailed, Loses, Pauses, RemainsShut, RemainsUnwritten, TellsOutgrown}
use Rattle.server_command.specs.Loading.{LeavesLoad, LoadsEvents}

-- the command that is done with an input alone
abbrev pub asked_of : Job → Command
asked_of job.Check = Check
asked_of (job.Play options) = Play options

-- the texts of the words
abbrev pub texts : List (Bor (List ℕ)) → List (List ℕ)
texts words = map (λ w. w.now) words

-- what words ask for in which clap finds no fault
abbrev pub asked_unless : List ErrorKind → Option Command → Option Command
asked_unless [] asked = asked
asked_unless (fault ∷ faults) asked = None

-- The command that these words ask for, if they ask for one.
abbrev pub asked_in : List (List ℕ) → Option Command
asked_in words = asked_unless (fault_of app words) (asked_from (subcommand_of app words))

-- the status that the process ends with
abbrev pub code_of : Status → ℕ
code_of status.Done = 0
code_of status.Usage = 2
code_of status.Setup = 3
code_of status.Line = 4
code_of status.Read = 5
code_of status.Write = 6
code_of status.Disk = 7
code_of status.Journal = 8
code_of status.Door = 9
code_of status.Memory = 10
code_of status.Long = 11
code_of status.Audit = 12
code_of status.Feed = 13
code_of status.Key = 14

-- what a command met: the words; the bytes that its input had, and those that are left of it, where these are told; the input's
-- counts of faults before and after; its output; its rack; and the faults of the door and of the seeds
pub record Met : Type 1 where
  pub words : List (List ℕ)
  pub input : Option (List ℕ)
  pub unread : Option (List ℕ)
  pub input_before : ℕ
  pub input_after : ℕ
  pub output : Sinks
  pub rack : Racks
  pub door : Faults
  pub seeds : Faults

-- what a command met, by what contracts see of the input before and after a call
abbrev pub met_of : (words : List (List ℕ)) → (old new : SourceView) → Sinks → Racks → (door seeds : Faults) → Met
met_of words old new output rack door seeds = record {
  words = words;
  input = old.left;
  unread = new.left;
  input_before = old.faults;
  input_after = new.faults;
  output = output;
  rack = rack;
  door = door;
  seeds = seeds;
}

-- all that contracts see of what a command met, before it and after it
pub record Around (D P L N : Type 0) : Type 1 where
  pub words : List (List ℕ)
  pub views : Views D P L N
  pub input : Both SourceView
  pub output : Both SinkView
  pub rack : Racks
  pub door : Both (DoorView P L)
  pub seeds : Both (SeedsView N)
  pub past : Pasts

-- What a call of the command met, by what it was lent before and after.
abbrev pub around : {D P L N : Type 0} → (words : List (List ℕ)) → Views D P L N → (input : Both SourceView) → (output : Both SinkView) → Racks
    → (door : Both (DoorView P L)) → (seeds : Both (SeedsView N)) → Pasts → Around D P L N
around words views input output rack door seeds past = record {
  words = words;
  views = views;
  input = input;
  output = output;
  rack = rack;
  door = door;
  seeds = seeds;
  past = past;
}

-- what a command met, without what a serving sees of the door, of the seeds and of the past
abbrev pub met_in : {D P L N : Type 0} → Around D P L N → Met
met_in a =
    met_of a.words a.input.before a.input.after (sinks_of a.output.before a.output.after) a.rack
    (faults_of a.door.before.faults a.door.after.faults) (faults_of a.seeds.before.faults a.seeds.after.faults)

-- what a serving may come to
abbrev pub serves_in : {D P L N : Type 0} → Around D P L N → Serves
serves_in a = serves_over (outside a.views a.rack a.door.before a.door.after a.seeds.before a.past)

-- what was asked of the seeds, of the door and of the past
abbrev pub asks_in : {D P L N : Type 0} → Around D P L N → Asks
asks_in a = asks_of a.door a.seeds a.past

-- the output grew by this line, or by a part of it where the output failed
abbrev pub Prints : Met → List ℕ → Type 0
Prints met line = PrintsTo met.output line

-- the status of an input that was not read whole
abbrev pub unread_status : InputFault → Status
unread_status fault.Failed = status.Read
unread_status fault.Memory = status.Memory
unread_status fault.Long = status.Long

-- the line of an input that was not read whole
abbrev pub unread_line : InputFault → List ℕ
unread_line fault.Failed = codes "error 5 read\n"
unread_line fault.Memory = memory_line
unread_line fault.Long = codes "error 11 long\n"

-- the input was not read whole for this fault, and this was told; where it failed or is too long, no disk was taken
abbrev pub IsUnread : InputFault → Met → Type 0
IsUnread fault.Failed met =
    Rose met.input_before met.input_after × Prints met (unread_line fault.Failed) × ReadsUpTo met.input met.unread most_of_input
    × AtRest met.rack
IsUnread fault.Memory met = Prints met (unread_line fault.Memory) × ConsumesSome met.input met.unread
IsUnread fault.Long met = ReadsPast met.input met.unread most_of_input × Prints met (unread_line fault.Long) × AtRest met.rack

-- nothing was read, and no read failed
abbrev pub Untouched : Met → Type 0
Untouched met = (met.unread ≡ met.input) × (met.input_after ≡ met.input_before)

-- the input was read to its end, and is not too long
pub record ReadToEnd (met : Met) : Type 0 where
  pub end : IsAtEnd met.unread
  pub short : IfSome met.input (λ bytes. length bytes ≤ most_of_input)

-- ---- what hangs on the disks

-- what the words ask for, with the setup of an input that is not too long
abbrev pub with_setup : Command → Result Parsed Fault → Option (Command × Parsed)
with_setup asked (Err e) = None
with_setup asked (Ok setup) = Some (asked, setup)

-- What these words ask for, with the setup of this input; none where either has a fault, or the input is too long.
abbrev pub reached_by : Option Command → List ℕ → Option (Command × Parsed)
reached_by None bytes = None
reached_by (Some asked) bytes =
    if nat_le (length bytes) most_of_input then with_setup asked (setup_of (ending_of asked) bytes) else None

-- the command takes disks, which hold these
abbrev pub TakesDisks : Racks → Option (Command × Parsed) → List (List ℕ) → Type 0
TakesDisks rack (Some (Play o, setup)) disks = AreTaken unfit_new (held_anew rack.before) o.shelves disks
TakesDisks rack (Some (Serve s, setup)) disks = AreTaken (unfit_left setup.scripts) (shelves_of rack.before).holds s.options.shelves disks
TakesDisks rack (Some (Load l, setup)) disks = AreTaken unfit_new (held_anew rack.before) l.options.shelves disks
TakesDisks rack _ disks = ⊤

-- the command takes no disks, or they tell their bytes
abbrev pub Settles : Racks → Option (Command × Parsed) → Type 0
Settles rack (Some (Play o, setup)) = IsTrue rack.tells
Settles rack (Some (Serve s, setup)) = IsTrue rack.tells
Settles rack (Some (Load l, setup)) = IsTrue rack.tells
Settles rack _ = ⊤

-- what hangs on disks is said where they tell their bytes
abbrev pub Known : Racks → Command → (bytes : List ℕ) → Type 0 → Type 0
Known rack asked bytes P = Settles rack (with_setup asked (setup_of (ending_of asked) bytes)) → P

-- all shelves were begun, and the disks that were given back stand for the books that the steps of a setup left, and each fault of one was
-- counted; a check asked for no disk
abbrev pub StandFor : Racks → Command → Result Parsed Fault → Chances → Type 0
StandFor rack (Play o) (Ok setup) chances =
    HoldTheBooks (run_of o setup.scripts (steps_for o setup) chances.fates).state (shelves_of rack.after).holds
    × HaveFailed rack chances.fates 0 × HaveBegun rack o.shelves
StandFor rack Check setup chances = AtRest rack
StandFor rack asked setup chances = ⊤

-- ---- why a command ends so

-- the output that is due to a whole input has this status, by the disks that were taken for its setup
pub record Gives (rack : Racks) (asked : Command) (bytes : List ℕ) (chances : Chances) (status : ℕ) (out : Sinks) : Type 0 where
  pub answered : Answers (output_of asked bytes chances) status out
  pub taken : TakesDisks rack (with_setup asked (setup_of (ending_of asked) bytes)) chances.disks

-- what a command leaves where a journal is at fault: one of its disks is not empty; or an edit outgrows the journal of a shelf
abbrev pub LeavesShut : Racks → Command → (bytes : List ℕ) → Chances → Sinks → Type 0
LeavesShut rack asked bytes chances out =
    (Gives rack asked bytes chances 8 out × RemainsShut rack asked (setup_of (ending_of asked) bytes) chances)
    ⊎ TellsOutgrown rack (with_setup asked (setup_of (ending_of asked) bytes)) chances out

-- what a command leaves that has read its whole input
abbrev pub Leaves : Racks → Command → (bytes : List ℕ) → Status → Chances → Sinks → Type 0
Leaves rack asked bytes status.Done chances out =
    Known rack asked bytes (Gives rack asked bytes chances 0 out × StandFor rack asked (setup_of (ending_of asked) bytes) chances)
Leaves rack asked bytes status.Setup chances out = Gives rack asked bytes chances 3 out × AtRest rack
Leaves rack asked bytes status.Line chances out =
    Known rack asked bytes (Gives rack asked bytes chances 4 out × StandFor rack asked (setup_of (ending_of asked) bytes) chances)
Leaves rack asked bytes status.Write chances out =
    Rose out.before out.after × Known rack asked bytes (BreaksOff (output_of asked bytes chances) out
    × RemainsUnwritten rack asked (setup_of (ending_of asked) bytes) chances out.held out.holds)
Leaves rack asked bytes status.Disk chances out =
    (shelf : ℕ) × ShelfFailed rack shelf × Known rack asked bytes (Loses rack asked bytes chances shelf out)
Leaves rack asked bytes status.Journal chances out = Known rack asked bytes (LeavesShut rack asked bytes chances out)
Leaves rack asked bytes status.Memory chances out = Known rack asked bytes (Pauses rack asked bytes chances memory_line out)
Leaves rack asked bytes _ chances out = ⊥

-- what a command leaves that has read its whole input, for some chances
abbrev pub Outputs : Racks → Command → (bytes : List ℕ) → Status → Sinks → Type 0
Outputs rack asked bytes status out = (chances : Chances) × Leaves rack asked bytes status chances out

-- the whole input was read, and this is what the command leaves for it
abbrev pub HasDone : Command → Chances → Status → Met → Type 0
HasDone asked chances how met =
    ReadToEnd met × IfSome met.input (λ bytes. Leaves met.rack asked bytes how chances met.output)

-- why a command that was asked for ends so, and what it wrote
abbrev pub Comes : Command → Chances → Status → Met → Type 0
Comes asked chances status.Done met = HasDone asked chances status.Done met
Comes asked chances status.Setup met = HasDone asked chances status.Setup met
Comes asked chances status.Line met = HasDone asked chances status.Line met
Comes asked chances status.Write met = HasDone asked chances status.Write met × Rose met.output.before met.output.after
Comes asked chances status.Disk met = HasDone asked chances status.Disk met × RackFailed met.rack
Comes asked chances status.Journal met = HasDone asked chances status.Journal met
Comes asked chances status.Memory met =
    ConsumesSome met.input met.unread × ((Prints met memory_line × AtRest met.rack) ⊎ HasDone asked chances status.Memory met)
Comes asked chances status.Read met = IsUnread fault.Failed met
Comes asked chances status.Long met = IsUnread fault.Long met
Comes asked chances _ met = ⊥

-- the whole input was read, and its links were served or not
abbrev pub HasServed : Serves → Service → Chances → Status → Met → Type 0
HasServed serves s chances how met =
    ReadToEnd met × IfSome met.input (λ bytes. LeavesInput serves s bytes chances how met.output met.door met.seeds)

-- why a serving ends so, and what it wrote
abbrev pub ComesServing : Serves → Service → Chances → Status → Met → Type 0
ComesServing serves s chances status.Done met = HasServed serves s chances status.Done met
ComesServing serves s chances status.Setup met = HasServed serves s chances status.Setup met
ComesServing serves s chances status.Write met = HasServed serves s chances status.Write met × Rose met.output.before met.output.after
ComesServing serves s chances status.Disk met = HasServed serves s chances status.Disk met × RackFailed met.rack
ComesServing serves s chances status.Journal met = HasServed serves s chances status.Journal met
ComesServing serves s chances status.Door met = HasServed serves s chances status.Door met × HaveRisen met.door
ComesServing serves s chances status.Key met = HasServed serves s chances status.Key met × HaveRisen met.seeds
ComesServing serves s chances status.Memory met =
    IsUnread fault.Memory met × ((serves.unopened × AtRest met.rack) ⊎ HasServed serves s chances status.Memory met)
ComesServing serves s chances status.Read met = IsUnread fault.Failed met × serves.unopened
ComesServing serves s chances status.Long met = IsUnread fault.Long met × serves.unopened
ComesServing serves s chances _ met = ⊥

-- a measured run reads no input, and this is what it leaves
abbrev pub ComesLoading : LoadOptions → Chances → Status → Met → Type 0
ComesLoading l chances how met = Untouched met × LeavesLoad met.rack l how chances met.output

-- why a command that was asked for ends so, before which nothing is audited
abbrev pub ComesTo : Serves → Command → Chances → Status → Met → Type 0
ComesTo serves Check chances how met = Comes Check chances how met
ComesTo serves (Play o) chances how met = Comes (Play o) chances how met
ComesTo serves (Serve s) chances how met = ComesServing serves s chances how met
ComesTo serves (Load l) chances how met = ComesLoading l chances how met
ComesTo serves (Audit o) chances how met = ⊥
ComesTo serves (Export o) chances how met = ⊥
ComesTo serves (Follow o) chances how met = ⊥
ComesTo serves (Promote o) chances how met = ⊥

-- words without a command, or want of memory for them, leave the input unread and the disks where they are
abbrev pub Refuses : Option Command → Status → Met → Type 0
Refuses asked status.Usage met = (asked ≡ None) × Prints met (codes "error 2 usage\n") × Untouched met × AtRest met.rack
Refuses asked status.Memory met = Prints met memory_line × Untouched met × AtRest met.rack
Refuses asked _ met = ⊥

-- why the command ends so, and what it wrote
abbrev pub Explains : Serves → Status → Chances → Met → Type 0
Explains serves status chances met =
    Refuses (asked_in met.words) status met
    ⊎ ((asked : Command) × ((asked_in met.words ≡ Some asked) × ComesTo serves asked chances status met))

-- the status that is due to these words and this input under these chances: 2 where the words are no command, and else 11 where the
-- input is too long, and else that of the output
abbrev pub due_to : Option Command → List ℕ → Chances → ℕ
due_to None bytes chances = 2
due_to (Some asked) bytes chances = if nat_le (length bytes) most_of_input then (output_of asked bytes chances).status else 11

-- The status that is due to these words and this input under these chances.
abbrev pub due : (words : List (List ℕ)) → List ℕ → Chances → ℕ
due words bytes chances = due_to (asked_in words) bytes chances

-- the status is the one that is due, by the disks that were taken
pub record IsDue (status : ℕ) (met : Met) (bytes : List ℕ) (chances : Chances) : Type 0 where
  pub same : status ≡ due met.words bytes chances
  pub taken : TakesDisks met.rack (reached_by (asked_in met.words) bytes) chances.disks

-- the status is that of a run of steps of which an edit outgrows the journal of a shelf
abbrev pub EndsOutgrown : (status : ℕ) → Met → (bytes : List ℕ) → Chances → Type 0
EndsOutgrown status met bytes chances = (status ≡ 8) × HasOutgrown met.rack (reached_by (asked_in met.words) bytes) chances

-- the status is the one that is due, or that of an input, an output, a rack, a door or seeds that failed, or that of want of memory, or
-- that of a run of steps of which an edit outgrows the journal of a shelf
abbrev pub EndsAs : (status : ℕ) → Met → (bytes : List ℕ) → Chances → Type 0
EndsAs status met bytes chances =
    IsDue status met bytes chances
    ⊎ (((status ≡ 5) × Rose met.input_before met.input_after)
    ⊎ (((status ≡ 6) × Rose met.output.before met.output.after)
    ⊎ (((status ≡ 7) × RackFailed met.rack)
    ⊎ (((status ≡ 9) × HaveRisen met.door)
    ⊎ (((status ≡ 14) × HaveRisen met.seeds) ⊎ ((status ≡ 10) ⊎ EndsOutgrown status met bytes chances))))))

-- The words ask for what a whole input decides: a check, a run of steps or a serving. A feed is read as far as it is followed, and no other command reads
-- its input.
abbrev pub ReadsInput : Option Command → Type 0
ReadsInput (Some (Load l)) = ⊥
ReadsInput (Some (Audit o)) = ⊥
ReadsInput (Some (Export o)) = ⊥
ReadsInput (Some (Follow o)) = ⊥
ReadsInput (Some (Promote o)) = ⊥
ReadsInput _ = ⊤

-- the status of a measured run is the one that is due, by the disks that were taken
pub record IsDueLoad (status : ℕ) (met : Met) (l : LoadOptions) (chances : Chances) : Type 0 where
  pub same : status ≡ (loaded l chances).status
  pub taken : AreTaken unfit_new (held_anew met.rack.before) l.options.shelves chances.disks

-- the status of a measured run is the one that is due, or that of an output or a rack that failed, or that of want of memory
abbrev pub EndsAsLoad : (status : ℕ) → Met → LoadOptions → Chances → Type 0
EndsAsLoad status met l chances =
    IsDueLoad status met l chances
    ⊎ (((status ≡ 6) × Rose met.output.before met.output.after) ⊎ (((status ≡ 7) × RackFailed met.rack) ⊎ (status ≡ 10)))

-- the steps that are played are events, and the text of the output is the print of the replies of a run of these
pub record PlaysEvents (o : Options) (setup : Parsed) (fates : List Fate) (output : Output) : Type 0 where
  pub replies : List Reply
  pub text : output.text ≡ print_of (desk_for o setup.scripts) 1 (steps_for o setup) fates replies
  pub run : IsRunOfEvents (desk_for o setup.scripts) 1 (steps_for o setup) fates replies

-- How the command ended, by what its disks held and the fates of its visits: why; in which order the outside was asked; that the output
-- which is due to steps, or to a measured run, is that of a run of events, where each shelf begins on an empty disk; and that the status
-- is due but for faults of the outside, want of memory, and an edit that outgrows the journal of a shelf.
pub record Ends {D P L N : Type 0} (result : ℕ) (a : Around D P L N) : Type 0 where
  pub chances : Chances
  pub status : Status
  pub code : result ≡ code_of status
  pub explained : Explains (serves_in a) status chances (met_in a)
  pub order : AsksInOrder (asks_in a) a.rack (asked_in a.words) status
  pub events : (o : Options) (bytes : List ℕ) (setup : Parsed) → asked_in a.words ≡ Some (Play o) → a.input.before.left ≡ Some bytes
      → setup_of Steps bytes ≡ Ok setup → first_unfit unfit_new 0 chances.disks ≡ None
      → PlaysEvents o setup chances.fates (output_of (Play o) bytes chances)
  pub load_events : (l : LoadOptions) → asked_in a.words ≡ Some (Load l) → LoadsEvents l chances.fates
  pub exact : IfSome a.input.before.left (λ bytes. ReadsInput (asked_in a.words) → Settles a.rack (reached_by (asked_in a.words) bytes)
      → EndsAs result (met_in a) bytes chances)
  pub exact_load : (l : LoadOptions) → asked_in a.words ≡ Some (Load l) → IsTrue a.rack.tells → EndsAsLoad result (met_in a) l chances

-- the input spells a setup, and after it, where it is played, a line for each of some steps; and it is not too long
pub record IsLawful (asked : Command) (bytes : List ℕ) : Type 0 where
  pub setup : Parsed
  pub spelled : IsSetup (ending_of asked) bytes setup
  pub steps : List Step
  pub are : AreSteps steps
  pub lines : setup.steps ≡ lines_of steps
  pub short : length bytes ≤ most_of_input

-- each disk that may be taken holds what its shelf is opened on: nothing, where steps are played; and where a setup is served a journal of
-- its shelf, whatever setup that tells, with room for this one, and no journal is audited
abbrev pub AreFit : (ℕ → List ℕ → Option Unfit) → (ℕ → List ℕ → Type 0) → Type 0
AreFit unfit holds = (shelf : ℕ) (image : List ℕ) → holds shelf image → unfit shelf image ≡ None

-- The journals on the rack are such that the command opens each of its shelves with these scripts; of an audit, an
-- export, a feed that is followed and a promotion this is never said.
abbrev pub JournalsOpen : Command → List Named → Racks → Type 0
JournalsOpen Check scripts rack = ⊤
JournalsOpen (Play o) scripts rack = IsTrue rack.tells × AreFit unfit_new (held_anew rack.before)
JournalsOpen (Load l) scripts rack = IsTrue rack.tells × AreFit unfit_new (held_anew rack.before)
JournalsOpen (Serve s) scripts rack = IsTrue rack.tells × AreFit (unfit_left scripts) (shelves_of rack.before).holds × (s.audit ≡ false)
JournalsOpen (Audit o) scripts rack = ⊥
JournalsOpen (Export o) scripts rack = ⊥
JournalsOpen (Follow o) scripts rack = ⊥
JournalsOpen (Promote o) scripts rack = ⊥

-- neither the rack nor the door nor the seeds failed, where they are asked for
abbrev pub GoesWell : Command → Met → Type 0
GoesWell Check met = ⊤
GoesWell (Play o) met = ¬ (RackFailed met.rack)
GoesWell (Load l) met = ¬ (RackFailed met.rack)
GoesWell (Audit o) met = ¬ (RackFailed met.rack)
GoesWell (Export o) met = ¬ (RackFailed met.rack)
GoesWell (Follow o) met = ¬ (RackFailed met.rack)
GoesWell (Promote o) met = ¬ (RackFailed met.rack)
GoesWell (Serve s) met = ¬ (RackFailed met.rack) × ¬ (HaveRisen met.door) × ¬ (HaveRisen met.seeds)

-- a command ended well, at a step that does not fit, or for want of memory
abbrev pub EndsWell : Command → (result : ℕ) → Type 0
EndsWell (Play o) result = (result ≡ 0) ⊎ ((result ≡ 4) ⊎ (result ≡ 10))
EndsWell _ result = (result ≡ 0) ⊎ (result ≡ 10)

-- plain words ask for the command that they spell
abbrev pub AreUnderstood : List (List ℕ) → Type 0
AreUnderstood words = (asked : Command) → IsPlain words asked → asked_in words ≡ Some asked

-- Plain words over a lawful input end well, at a step that does not fit, at an edit that outgrows the journal of a shelf, or for want of
-- memory, where nothing outside fails and the journals open; and a measured run that plain words ask for ends well, or for want of
-- memory, whatever the input is.
pub record IsComplete (result : ℕ) (met : Met) : Type 0 where
  pub plain : AreUnderstood met.words
  pub lawful : (asked : Command) (bytes : List ℕ) → IsPlain met.words asked → met.input ≡ Some bytes → (l : IsLawful asked bytes)
      → JournalsOpen asked l.setup.scripts met.rack
      → ¬ (Rose met.input_before met.input_after) → ¬ (Rose met.output.before met.output.after) → GoesWell asked met
      → EndsWell asked result ⊎ ((chances : Chances) × EndsOutgrown result met bytes chances)
  pub load : (l : LoadOptions) → IsPlain met.words (Load l) → JournalsOpen (Load l) [] met.rack
      → ¬ (Rose met.output.before met.output.after) → GoesWell (Load l) met → EndsWell (Load l) result

-- A status that tells a fault of the outside comes only where a call of that failed, and 2 only of words that are no command.
pub record HasCause (result : ℕ) (met : Met) : Type 0 where
  pub usage : result ≡ 2 → asked_in met.words ≡ None
  pub read : result ≡ 5 → Rose met.input_before met.input_after
  pub write : result ≡ 6 → Rose met.output.before met.output.after
  pub disk : result ≡ 7 → RackFailed met.rack
  pub door : result ≡ 9 → HaveRisen met.door
  pub key : result ≡ 14 → HaveRisen met.seeds

-- Whatever a command came to: what was written was handed on, unless the output failed, and where it ended well in any case; each disk is
-- home again; and no count of faults fell.
pub record IsTidy {D P L N : Type 0} (result : ℕ) (a : Around D P L N) : Type 0 where
  pub handed : HandsAllOn a.output.before a.output.after
  pub done : result ≡ 0 → HandsOn a.output.after.written a.output.after.handed
  pub home : AreHome a.rack.after.out
  pub input : a.input.before.faults ≤ a.input.after.faults
  pub output : a.output.before.faults ≤ a.output.after.faults
  pub rack : a.rack.before.faults ≤ a.rack.after.faults
  pub door : a.door.before.faults ≤ a.door.after.faults
  pub seeds : a.seeds.before.faults ≤ a.seeds.after.faults

-- ---- what the functions inside say

-- telling a line of the steps leaves its error's line, or that of want of memory
abbrev pub TellsLine : (number : ℕ) → Status → Sinks → Type 0
TellsLine number status.Line out = PrintsTo out (step_line number)
TellsLine number status.Memory out = PrintsTo out memory_line
TellsLine number _ out = ⊥

-- what a command leaves over each input that reads so: as this setup or with this fault
abbrev pub OutputsFor : Racks → Command → Result Parsed Fault → Status → Sinks → Type 0
OutputsFor rack asked setup status out =
    (bytes : List ℕ) → setup_of (ending_of asked) bytes ≡ setup → Outputs rack asked bytes status out

-- the number of these scripts was told, or there was no memory for that
abbrev pub Counts : List Named → Status → Sinks → Type 0
Counts scripts status.Done out = Answers (told_scripts scripts) 0 out
Counts scripts status.Write out = Rose out.before out.after × BreaksOff (told_scripts scripts) out
Counts scripts status.Memory out = PrintsTo out memory_line
Counts scripts _ out = ⊥

-- these steps were played over these scripts
abbrev pub PlaysSteps : Racks → Options → List Named → (steps : List ℕ) → Status → Sinks → Type 0
PlaysSteps rack o scripts steps status out =
    OutputsFor rack (Play o) (Ok (record { scripts = scripts; steps = steps })) status out

-- the line of a setup's fault was told, or there was no memory for that
abbrev pub TellsFaultLine : Fault → Status → Sinks → Type 0
TellsFaultLine fault status.Setup out = PrintsTo out (fault_line fault)
TellsFaultLine fault status.Memory out = PrintsTo out memory_line
TellsFaultLine fault _ out = ⊥

-- all was done, or a count rose as writing failed
abbrev pub IsDoneUnlessFault : Status → (before after : ℕ) → Type 0
IsDoneUnlessFault s before after = (s ≡ status.Done) ⊎ ((s ≡ status.Write) × Rose before after)

-- a command that was asked for came to this, for some chances
abbrev pub Came : Command → Status → Met → Type 0
Came asked status met = (chances : Chances) × Comes asked chances status met

-- a serving came to this, for some chances
abbrev pub CameServing : Serves → Service → Status → Met → Type 0
CameServing serves s status met = (chances : Chances) × ComesServing serves s chances status met

-- why the command ended with this status, and what it wrote, for some chances
abbrev pub Explained : Serves → Status → Met → Type 0
Explained serves status met = (chances : Chances) × Explains serves status chances met

-- the bytes are a setup with these scripts
abbrev pub IsSetupOf : (bytes : List ℕ) → List Named → Type 0
IsSetupOf bytes scripts = (setup : Parsed) × (setup_of Input bytes ≡ Ok setup) × (setup.scripts ≡ scripts)

-- the bytes are no setup, or there was no memory for it; and that was told
abbrev pub TellsNoSetup : (bytes : List ℕ) → Sinks → Status → Type 0
TellsNoSetup bytes out how =
    ((e : Fault) × (setup_of Input bytes ≡ Err e) × TellsFaultLine e how out) ⊎ ((how ≡ status.Memory) × PrintsTo out memory_line)
