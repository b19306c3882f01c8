-- What the program writes for its input, and how it may end.
use Rattle.std.specs.Prelude.{⊤, ◌≡◌, ◌≤◌, ◌⊎◌, ℕ, List, [], ◌∷◌, ◌++◌, length, true, Option, Some, None, Result, Ok, Err, codes}
use Rattle.std.specs.Fmt.{decimal}
use Rattle.std.specs.Io.KnownBytes.{Appends}
use Rattle.web_outside.specs.Causes.{Rose}
use Rattle.web_outside.specs.Pieces.{HandsAllOn, HandsOn, IsCutShort, AppendsUnlessFault}
use Rattle.web_outside.specs.View.{SinkView}
use Rattle.script_nodes.specs.Setup.{Named}
use Rattle.replay_spec.specs.Rules.{Rules}
use Rattle.replay_spec.specs.Step.{Fate}
use Rattle.play_steps.specs.Step.{Step, crashed_at}
use Rattle.play_steps.specs.Played.{played as played_on}
use Rattle.play_steps.specs.Transcript.{End, done, bad_line, Run, fits, text_of, transcript}
use Rattle.setup_reader.specs.declared.setup.Ending.{Ending}
use Rattle.setup_reader.specs.declared.setup.Ending.TheVariants.{Steps, Input}
use Rattle.setup_reader.specs.Setup.{Parsed, Fault, setup_of}
use Rattle.setup_reader.specs.Faults.{fault_line}
use Rattle.command_words.specs.declared.Command.{Command}
use Rattle.command_words.specs.declared.Command.TheVariants.{Audit, Check, Export, Follow, Load, Play, Promote, Serve}
use Rattle.command_words.specs.declared.Options.{Options}
use Rattle.command_words.specs.declared.LoadOptions.{LoadOptions}
use Rattle.measured_run.specs.Generator.{source_of}
use Rattle.measured_run.specs.Drawing.{most_steps, run_drawn}
use Rattle.measured_run.specs.Counting.{line_for}
use Rattle.measured_run.specs.Setups.{load_scripts}
use Rattle.page_audit.specs.JournalSpec.Lengths.{journal_rules}
use Rattle.play_desk.specs.Desk.{Desk, first_desk, desk_rules}
use Rattle.server_command.specs.declared.program.Status.{Status}
use Rattle.server_command.specs.declared.program.Status.TheVariants as status
use Rattle.server_command.specs.Racks.{Unfit, first_unfit, unfit_new, unfit_left, unfit_line}

-- what is written for a whole input: the text, the error's line after it, and the status
pub record Output : Type 0 where
  pub text : List ℕ
  pub error : List ℕ
  pub status : ℕ

-- the line of a step that is none or does not fit: `error 4 LINE`
abbrev pub step_line : (number : ℕ) → List ℕ
step_line number = codes "error 4 " ++ (decimal number ++ 10 ∷ [])

-- the line of want of memory: `error 10 memory`
abbrev pub memory_line : List ℕ
memory_line = codes "error 10 memory\n"

-- the output for a setup that has a fault
abbrev pub faulty : Fault → Output
faulty e = record { text = []; error = fault_line e; status = 3 }

-- the output that tells how many scripts there are
abbrev pub told_scripts : List Named → Output
told_scripts scripts = record { text = codes "ok " ++ (decimal (length scripts) ++ 10 ∷ []); error = []; status = 0 }

-- What `check` writes: how many scripts the setup has, or its fault.
abbrev pub counted : Result Parsed Fault → Output
counted (Err e) = faulty e
counted (Ok setup) = told_scripts setup.scripts

-- what the events of a shelf run under
abbrev pub rules_for : Options → (shelf : ℕ) → Rules
rules_for o shelf = record { fuel = o.fuel; life = o.life; instances = o.instances; pages = o.pages; journal = Some (journal_rules shelf) }

-- the desk that a run begins with: shelves with nothing on them, and workers that hold nothing
abbrev pub desk_for : Options → List Named → Desk
desk_for o scripts = first_desk (rules_for o) scripts o.shelves

-- the steps that are played after a setup, each edit with the crashes that it brings
abbrev pub steps_for : Options → Parsed → List (Option Step)
steps_for o setup = played_on desk_rules (desk_for o setup.scripts) setup.steps

-- the run of these steps over these scripts
abbrev pub run_of : Options → List Named → List (Option Step) → List Fate → Run desk_rules
run_of o scripts steps fates = transcript desk_rules (desk_for o scripts) 1 steps fates

-- what the outside decides: what the disks hold that are taken, and the fates of the events
pub record Chances : Type 0 where
  pub disks : List (List ℕ)
  pub fates : List Fate

-- the output where a shelf is not opened, and so nothing is done
abbrev pub shut : (shelf : ℕ) → Unfit → Output
shut shelf why = record { text = []; error = unfit_line shelf why; status = 8 }

-- This output; or, where a shelf can't be opened, what is written of that shelf.
abbrev pub unless_shut : Option (ℕ × Unfit) → Output → Output
unless_shut None output = output
unless_shut (Some found) output = shut found.0 found.1

-- What `play` writes for this text and this end of its run.
abbrev pub ended : List ℕ → End → Output
ended text done = record { text = text; error = []; status = 0 }
ended text (bad_line n) = record { text = text; error = step_line n; status = 4 }

-- What `play` writes for this run.
abbrev pub finished : Run desk_rules → Output
finished run = ended (text_of run) run.end

-- What `play` writes for this setup and these chances.
abbrev pub played : Options → Result Parsed Fault → Chances → Output
played o (Err e) chances = faulty e
played o (Ok setup) chances =
    unless_shut (first_unfit unfit_new 0 chances.disks) (finished (run_of o setup.scripts (steps_for o setup) chances.fates))

-- what is due to a setup that is served, but for the line of its counts, which its links decide
abbrev pub served : Result Parsed Fault → Chances → Output
served (Err e) chances = faulty e
served (Ok setup) chances =
    unless_shut (first_unfit (unfit_left setup.scripts) 0 chances.disks) (record { text = []; error = []; status = 0 })

-- the transcript of the 20,000 steps of a measured run, where its events have these fates
abbrev pub run_loaded : LoadOptions → List Fate → Run desk_rules
run_loaded l fates = run_drawn desk_rules most_steps (source_of l.number) (desk_for l.options load_scripts) fates

-- what is due to a measured run, which reads no input: the line of its counts, and of the hash of its transcript
abbrev pub loaded : LoadOptions → Chances → Output
loaded l chances =
    unless_shut (first_unfit unfit_new 0 chances.disks)
    (record { text = line_for most_steps (run_loaded l chances.fates).told; error = []; status = 0 })

-- a setup ends with the input where it is checked or served, and with the line `steps` where it is played
abbrev pub ending_of : Command → Ending
ending_of Check = Input
ending_of (Play c) = Steps
ending_of (Serve s) = Input
ending_of (Load l) = Input
ending_of (Audit o) = Input
ending_of (Export o) = Input
ending_of (Follow o) = Input
ending_of (Promote o) = Input

-- What a command writes for this setup and these chances.
abbrev pub written : Command → Result Parsed Fault → Chances → Output
written Check setup chances = counted setup
written (Play o) setup chances = played o setup chances
written (Serve s) setup chances = served setup chances
written (Load l) setup chances = loaded l chances
written (Audit o) setup chances = record { text = []; error = []; status = 0 }
written (Export o) setup chances = record { text = []; error = []; status = 0 }
written (Follow o) setup chances = record { text = []; error = []; status = 0 }
written (Promote o) setup chances = record { text = []; error = []; status = 0 }

-- what a command writes for an input, but for audits and for what is done with feeds and followers, of which nothing is said here
abbrev pub output_of : Command → List ℕ → Chances → Output
output_of asked input chances = written asked (setup_of (ending_of asked) input) chances

-- what a sink held before and holds after, where it tells, and its counts of faults
pub record Sinks : Type 0 where
  pub held : Option (List ℕ)
  pub holds : Option (List ℕ)
  pub before : ℕ
  pub after : ℕ

-- A sink that held this and holds that, with its counts of faults.
abbrev pub sinks : (held holds : Option (List ℕ)) (before after : ℕ) → Sinks
sinks held holds before after = record { held = held; holds = holds; before = before; after = after }

-- what a sink held and holds, and its counts of faults, by what contracts see of it before and after a call
abbrev pub sinks_of : (old new : SinkView) → Sinks
sinks_of old new = sinks old.written new.written old.faults new.faults

-- Where a command did all, all that it wrote was handed on.
abbrev pub HandsOnIfDone : Status → SinkView → Type 0
HandsOnIfDone s sink = s ≡ status.Done → HandsOn sink.written sink.handed

-- However a command ends, what it wrote was handed on, unless the output failed, and where all was done in any case; and the output's
-- count of faults did not fall.
pub record Hands (how : Status) (old new : SinkView) : Type 0 where
  pub on : HandsAllOn old new
  pub done : HandsOnIfDone how new
  pub later : old.faults ≤ new.faults

-- the sink grew by this line, or by a part of it where the output failed
abbrev pub PrintsTo : Sinks → List ℕ → Type 0
PrintsTo out line = AppendsUnlessFault out.held out.holds line out.before out.after

-- the sink grew by a text and then by a line, which is cut short only where the sink's count rose
pub record Tells (text line : List ℕ) (out : Sinks) : Type 0 where
  pub shown : List ℕ
  pub cut : List ℕ
  pub is : line ≡ shown ++ cut
  pub grown : Appends out.held out.holds (text ++ shown)
  pub whole : (cut ≡ []) ⊎ Rose out.before out.after

-- the sink grew by the text and the error's line of an output, and this is its status
abbrev pub Answers : Output → (status : ℕ) → Sinks → Type 0
Answers output status out = (output.status ≡ status) × Tells output.text output.error out

-- the sink grew by less than the text; or by all of it, where no error follows, and could not hand it on
abbrev pub BreaksOff : Output → Sinks → Type 0
BreaksOff output out = IsCutShort out.held out.holds output.text ⊎ ((output.status ≡ 0) × Appends out.held out.holds output.text)

-- the step is a crash of this shelf, and fits the desk
pub record IsCrashOf (shelf : ℕ) (d : Desk) (step : Step) : Type 0 where
  pub crashed : crashed_at step ≡ Some shelf
  pub fitting : fits desk_rules step d ≡ true

-- the text is the whole replies to the first of the steps, after which a step stands that is so to the desk that these leave
pub record Replied (o : Options) (setup : Parsed) (fates : List Fate) (IsNext : Desk → Step → Type 0) (text : List ℕ) : Type 0 where
  pub front : List (Option Step)
  pub step : Step
  pub next : IsNext (run_of o setup.scripts front fates).state step
  pub rest : List (Option Step)
  pub cut : steps_for o setup ≡ front ++ Some step ∷ rest
  pub text_is : text_of (run_of o setup.scripts front fates) ≡ text
  pub goes_on : (run_of o setup.scripts front fates).end ≡ done

-- What stands before want of memory is told: nothing; whole replies to the first of the steps, after which a step is performed or
-- begun and not told; or all replies up to a line that is no step or does not fit.
pub data Before (asked : Command) (input : List ℕ) (chances : Chances) : List ℕ → Type 0 where
  nothing : Before asked input chances []
  at_line : (output_of asked input chances).status ≡ 4 → Before asked input chances (output_of asked input chances).text
  replies : (o : Options) (setup : Parsed) (text : List ℕ) → asked ≡ Play o → setup_of Steps input ≡ Ok setup
      → Replied o setup chances.fates (λ d step. ⊤) text → Before asked input chances text

-- what stands before it is told that this shelf was not opened: nothing; or whole replies to the steps before a crash of it, which may be
-- one that an edit brings
pub data BeforeOpening (asked : Command) (input : List ℕ) (chances : Chances) (shelf : ℕ) : List ℕ → Type 0 where
  at_first : (o : Options) → asked ≡ Play o → BeforeOpening asked input chances shelf []
  at_crash : (o : Options) (setup : Parsed) (text : List ℕ) → asked ≡ Play o → setup_of Steps input ≡ Ok setup
      → Replied o setup chances.fates (IsCrashOf shelf) text → BeforeOpening asked input chances shelf text
