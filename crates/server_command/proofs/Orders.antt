-- In which order the outside was asked, by what the parts of a command say.
use Rattle.std.proofs.Common.{◌≡◌, ◌⊎◌, ◌+◌, arith, inl, inr, ℕ, List, Bool, Option, Some, None, Result, Ok, Err, refl, sym, subst}
use Rattle.web_disk.specs.View.{RackView}
use Rattle.web_outside.specs.declared.source.InputFault.{InputFault}
use Rattle.web_outside.specs.declared.source.InputFault.TheVariants as faults
use Rattle.command_words.specs.declared.Command.{Command}
use Rattle.command_words.specs.declared.Command.TheVariants.{Audit, Check, Export, Follow, Load, Play, Promote, Serve}
use Rattle.request_workers.specs.declared.tally.Tally.{Tally}
use Rattle.setup_reader.specs.Setup.{Fault}
use Rattle.site_serving.specs.declared.serving.ServingFault.{ServingFault}
use Rattle.site_serving.specs.declared.serving.ServingFault.TheVariants as served
use Rattle.server_command.specs.declared.program.Status.{Status}
use Rattle.server_command.specs.declared.program.Status.TheVariants as status
use Rattle.server_command.specs.declared.auditing.AuditEnd.{AuditEnd}
use Rattle.server_command.specs.declared.serving.ServeFault.{ServeFault}
use Rattle.server_command.specs.declared.serving.ServeFault.TheVariants as fault
use Rattle.play_steps.specs.declared.stage.Reopen.{Reopen}
use Rattle.play_steps.specs.declared.stage.Reopen.TheVariants as reopen
use Rattle.play_desk.specs.declared.opening.OpenFault.{OpenFault}
use Rattle.play_desk.specs.Asking.{AsksForAll, AsksForFirst, AsksForNone, AsksUntil}
use Rattle.server_command.specs.Opening.{AsksByCause}
use Rattle.server_command.specs.Racks.{Racks, AtRest, racks_of}
use Rattle.server_command.specs.Output.{Sinks}
use Rattle.measured_run.specs.declared.measuring.Measure.{Measure}
use Rattle.server_command.specs.Loading.{TellsMeasure}
use Rattle.server_command.specs.Telling.{TellsOutcome, TellsUnopened, told, untold, unopened_status}
use Rattle.server_command.specs.Order.{Asks, AreIdle, AsksForFew, AsksForShelves, AsksInOrder, AsksRack, ComesInOrder, PlaysInOrder, ServesInOrder}
use Rattle.server_command.specs.Command.{IsDoneUnlessFault, TellsFaultLine, TellsLine, TellsNoSetup, unread_status}
use Rattle.server_command.specs.Serving.{told_as}
use Rattle.server_command.proofs.Endings.{at_rest}

-- nothing was asked yet
pub idle : (asks : Asks) (tells : Bool) (rack : RackView) → asks.undrawn → asks.shut → AreIdle asks (racks_of tells rack rack)
idle asks tells rack undrawn shut = record { seeds = undrawn; disks = at_rest tells rack; door = shut }

-- ---- a serving

unread_by : (asks : Asks) (rack : Racks) (shelves : ℕ) (why : InputFault) → AreIdle asks rack → ServesInOrder asks rack shelves (unread_status why)
unread_by asks rack shelves faults.Failed still = still
unread_by asks rack shelves faults.Memory still = inl still.disks.asked
unread_by asks rack shelves faults.Long still = still

-- the input was not read whole
pub unread_order : (asks : Asks) (rack : Racks) (shelves : ℕ) (why : InputFault) (s : Status) → s ≡ unread_status why → AreIdle asks rack
    → ServesInOrder asks rack shelves s
unread_order asks rack shelves why s is still = subst (ServesInOrder asks rack shelves) (sym is) (unread_by asks rack shelves why still)

faulty_order : (asks : Asks) (rack : Racks) (shelves : ℕ) (e : Fault) (out : Sinks) (s : Status) → TellsFaultLine e s out → AreIdle asks rack
    → ServesInOrder asks rack shelves s
faulty_order asks rack shelves e out status.Setup p still = still
faulty_order asks rack shelves e out status.Memory p still = inl still.disks.asked
faulty_order asks rack shelves e out s p still = absurd p

-- the input is no setup
pub setup_order : (asks : Asks) (rack : Racks) (shelves : ℕ) (bytes : List ℕ) (out : Sinks) (s : Status) → TellsNoSetup bytes out s → AreIdle asks rack
    → ServesInOrder asks rack shelves s
setup_order asks rack shelves bytes out s (inl h) still = faulty_order asks rack shelves h.0 out s h.2 still
setup_order asks rack shelves bytes out s (inr h) still = subst (ServesInOrder asks rack shelves) (sym h.0) (inl still.disks.asked)

-- a shelf was not opened
abbrev Shut : Asks → Racks → (shelves shelf : ℕ) → Reopen → Type 0
Shut asks rack shelves shelf why = asks.drawn shelves × asks.shut × AsksByCause rack.before rack.after shelves shelf why

few_asked : (rack : Racks) (shelves shelf : ℕ) (why : Reopen) → AsksByCause rack.before rack.after shelves shelf why → AsksForFew rack shelves
few_asked rack shelves shelf reopen.Disk (inl all) = inr (inl all)
few_asked rack shelves shelf reopen.Disk (inr until) = inr (inr (shelf, until))
few_asked rack shelves shelf reopen.NotEmpty all = inr (inl all)
few_asked rack shelves shelf (reopen.Damaged place) all = inr (inl all)
few_asked rack shelves shelf (reopen.Other place) all = inr (inl all)
few_asked rack shelves shelf (reopen.Full length) all = inr (inl all)
few_asked rack shelves shelf reopen.Memory (inl none) = inl none
few_asked rack shelves shelf reopen.Memory (inr (inl all)) = inr (inl all)
few_asked rack shelves shelf reopen.Memory (inr (inr until)) = inr (inr (shelf, until))

shut_order : (asks : Asks) (rack : Racks) (shelves shelf : ℕ) (why : Reopen) → Shut asks rack shelves shelf why
    → ServesInOrder asks rack shelves (unopened_status why)
shut_order asks rack shelves shelf reopen.Disk (drawn, shut, inl all) = (drawn, shut, inl all)
shut_order asks rack shelves shelf reopen.Disk (drawn, shut, inr until) = (drawn, shut, inr (shelf, until))
shut_order asks rack shelves shelf reopen.NotEmpty p = p
shut_order asks rack shelves shelf (reopen.Damaged place) p = p
shut_order asks rack shelves shelf (reopen.Other place) p = p
shut_order asks rack shelves shelf (reopen.Full length) p = p
shut_order asks rack shelves shelf reopen.Memory p = few_asked rack shelves shelf reopen.Memory p.2

unopened_order : (asks : Asks) (rack : Racks) (shelves shelf : ℕ) (why : Reopen) (out : Sinks) (s : Status) → Shut asks rack shelves shelf why
    → TellsUnopened shelf why s out → ServesInOrder asks rack shelves s
unopened_order asks rack shelves shelf why out s p (told line is same prints) =
    subst (ServesInOrder asks rack shelves) (sym same) (shut_order asks rack shelves shelf why p)
unopened_order asks rack shelves shelf why out s p (untold is prints) =
    subst (ServesInOrder asks rack shelves) (sym is) (few_asked rack shelves shelf why p.2)

-- what the serving came to was told
pub outcome_order : (asks : Asks) (rack : Racks) (shelves : ℕ) (outcome : Result Tally ServeFault) (out : Sinks) (s : Status)
    → ComesInOrder asks rack shelves outcome → TellsOutcome outcome s out → ServesInOrder asks rack shelves s
outcome_order asks rack shelves (Ok tally) out status.Done p tells = p
outcome_order asks rack shelves (Ok tally) out status.Write p tells = p
outcome_order asks rack shelves (Ok tally) out status.Memory p tells = inr (inl p.1)
outcome_order asks rack shelves (Ok tally) out s p tells = absurd tells
outcome_order asks rack shelves (Err fault.Key) out s p tells = subst (ServesInOrder asks rack shelves) (sym tells.0) p
outcome_order asks rack shelves (Err (fault.Shelf f)) out s p tells = unopened_order asks rack shelves f.shelf f.why out s p tells
outcome_order asks rack shelves (Err (fault.Audit end)) out s p tells = absurd p
outcome_order asks rack shelves (Err fault.Door) out s p tells = subst (ServesInOrder asks rack shelves) (sym tells.0) p
outcome_order asks rack shelves (Err fault.Memory) out s p tells = subst (ServesInOrder asks rack shelves) (sym tells.0) p

-- the seeds gave no sources
pub undrawn_order : (asks : Asks) (rack : Racks) (shelves : ℕ) (why : ServeFault) → AtRest rack → asks.shut → (why ≡ fault.Door → ⊥)
    → ((u : OpenFault) → why ≡ fault.Shelf u → ⊥) → ((end : AuditEnd) → why ≡ fault.Audit end → ⊥) → ComesInOrder asks rack shelves (Err why)
undrawn_order asks rack shelves fault.Key rest shut door shelf audit = (rest, shut)
undrawn_order asks rack shelves (fault.Shelf u) rest shut door shelf audit = absurd (shelf u refl)
undrawn_order asks rack shelves (fault.Audit end) rest shut door shelf audit = absurd (audit end refl)
undrawn_order asks rack shelves fault.Door rest shut door shelf audit = absurd (door refl)
undrawn_order asks rack shelves fault.Memory rest shut door shelf audit = inl rest.asked

-- the shelves were opened
pub told_order : (asks : Asks) (rack : Racks) (shelves : ℕ) (outcome : Result Tally ServingFault) → asks.drawn shelves
    → AsksForFirst shelves rack.before rack.after → ComesInOrder asks rack shelves (told_as outcome)
told_order asks rack shelves (Ok tally) drawn asked = (drawn, asked)
told_order asks rack shelves (Err served.Door) drawn asked = (drawn, asked)
told_order asks rack shelves (Err served.Memory) drawn asked = inr (inl asked)

-- ---- any other command

-- steps were performed, or a shelf was not opened for them
pub done_asked : (rack : Racks) (shelves : ℕ) (s : Status) (before after : ℕ) → IsDoneUnlessFault s before after → AsksForAll shelves rack.before rack.after
    → PlaysInOrder rack shelves s
done_asked rack shelves s before after (inl is) all = subst (PlaysInOrder rack shelves) (sym is) all
done_asked rack shelves s before after (inr is) all = subst (PlaysInOrder rack shelves) (sym is.0) all

pub line_asked : (rack : Racks) (shelves number : ℕ) (s : Status) (out : Sinks) → TellsLine number s out → AsksForAll shelves rack.before rack.after
    → PlaysInOrder rack shelves s
line_asked rack shelves number status.Line out p all = all
line_asked rack shelves number status.Memory out p all = inr (inr all)
line_asked rack shelves number s out p all = absurd p

pub measure_asked : (rack : Racks) (shelves : ℕ) (m : Measure) (s : Status) (out : Sinks) → TellsMeasure m s out → AsksForAll shelves rack.before rack.after
    → PlaysInOrder rack shelves s
measure_asked rack shelves m status.Done out p all = all
measure_asked rack shelves m status.Write out p all = all
measure_asked rack shelves m status.Memory out p all = inr (inr all)
measure_asked rack shelves m s out p all = absurd p

pub memory_asked : (rack : Racks) (shelves : ℕ) (s : Status) → s ≡ status.Memory → AsksForNone rack.before rack.after ⊎ AsksForShelves rack shelves
    → PlaysInOrder rack shelves s
memory_asked rack shelves s is asked = subst (PlaysInOrder rack shelves) (sym is) asked

cause_asked : (rack : Racks) (shelves : ℕ) (why : Reopen) → AsksForShelves rack shelves → PlaysInOrder rack shelves (unopened_status why)
cause_asked rack shelves reopen.Disk asked = asked
cause_asked rack shelves reopen.NotEmpty asked = asked
cause_asked rack shelves (reopen.Damaged place) asked = asked
cause_asked rack shelves (reopen.Other place) asked = asked
cause_asked rack shelves (reopen.Full length) asked = asked
cause_asked rack shelves reopen.Memory asked = inr asked

pub unopened_asked : (rack : Racks) (shelves shelf : ℕ) (why : Reopen) (s : Status) (out : Sinks) → TellsUnopened shelf why s out
    → AsksForShelves rack shelves → PlaysInOrder rack shelves s
unopened_asked rack shelves shelf why s out (told line is same prints) asked =
    subst (PlaysInOrder rack shelves) (sym same) (cause_asked rack shelves why asked)
unopened_asked rack shelves shelf why s out (untold is prints) asked = subst (PlaysInOrder rack shelves) (sym is) (inr asked)

-- no disk was asked for: the input is no setup, there was no memory for one, or it was not read whole
pub fault_asked : (rack : Racks) (asked : Command) (e : Fault) (s : Status) (out : Sinks) → TellsFaultLine e s out → AtRest rack → AsksRack rack asked s
fault_asked rack Check e s out p rest = rest
fault_asked rack (Play o) e status.Setup out p rest = rest
fault_asked rack (Play o) e status.Memory out p rest = inl rest.asked
fault_asked rack (Play o) e s out p rest = absurd p
fault_asked rack (Serve v) e status.Setup out p rest = rest
fault_asked rack (Serve v) e status.Memory out p rest = tt
fault_asked rack (Serve v) e s out p rest = absurd p
fault_asked rack (Load l) e status.Setup out p rest = rest
fault_asked rack (Load l) e status.Memory out p rest = inl rest.asked
fault_asked rack (Load l) e s out p rest = absurd p
fault_asked rack (Audit o) e status.Setup out p rest = rest
fault_asked rack (Export o) e status.Setup out p rest = rest
fault_asked rack (Follow o) e status.Setup out p rest = rest
fault_asked rack (Promote o) e status.Setup out p rest = rest
fault_asked rack (Audit o) e status.Memory out p rest = tt
fault_asked rack (Export o) e status.Memory out p rest = tt
fault_asked rack (Follow o) e status.Memory out p rest = tt
fault_asked rack (Promote o) e status.Memory out p rest = tt
fault_asked rack (Audit o) e s out p rest = absurd p
fault_asked rack (Export o) e s out p rest = absurd p
fault_asked rack (Follow o) e s out p rest = absurd p
fault_asked rack (Promote o) e s out p rest = absurd p

unheld : (rack : Racks) (asked : Command) → AtRest rack → AsksRack rack asked status.Memory
unheld rack Check rest = rest
unheld rack (Play o) rest = inl rest.asked
unheld rack (Serve v) rest = tt
unheld rack (Load l) rest = inl rest.asked
unheld rack (Audit o) rest = tt
unheld rack (Export o) rest = tt
unheld rack (Follow o) rest = tt
unheld rack (Promote o) rest = tt

pub unheld_asked : (rack : Racks) (asked : Command) (s : Status) → s ≡ status.Memory → AtRest rack → AsksRack rack asked s
unheld_asked rack asked s is rest = subst (AsksRack rack asked) (sym is) (unheld rack asked rest)

unread : (rack : Racks) (asked : Command) (why : InputFault) → AtRest rack → AsksRack rack asked (unread_status why)
unread rack Check why rest = rest
unread rack (Play o) faults.Failed rest = rest
unread rack (Serve v) faults.Failed rest = rest
unread rack (Load l) faults.Failed rest = rest
unread rack (Audit o) faults.Failed rest = rest
unread rack (Export o) faults.Failed rest = rest
unread rack (Follow o) faults.Failed rest = rest
unread rack (Promote o) faults.Failed rest = rest
unread rack (Play o) faults.Long rest = rest
unread rack (Serve v) faults.Long rest = rest
unread rack (Load l) faults.Long rest = rest
unread rack (Audit o) faults.Long rest = rest
unread rack (Export o) faults.Long rest = rest
unread rack (Follow o) faults.Long rest = rest
unread rack (Promote o) faults.Long rest = rest
unread rack asked faults.Memory rest = unheld rack asked rest

pub unread_asked : (rack : Racks) (asked : Command) (why : InputFault) (s : Status) → s ≡ unread_status why → AtRest rack → AsksRack rack asked s
unread_asked rack asked why s is rest = subst (AsksRack rack asked) (sym is) (unread rack asked why rest)

-- there was no memory for the words
pub unworded_order : (asks : Asks) (rack : Racks) (asked : Option Command) (s : Status) → s ≡ status.Memory → asks.undrawn → asks.shut
    → AtRest rack → AsksInOrder asks rack asked s
unworded_order asks rack asked s is undrawn shut rest = subst (AsksInOrder asks rack asked) (sym is) (by_words asked)
  where
    by_words : (a : Option Command) → AsksInOrder asks rack a status.Memory
    by_words None = (undrawn, shut, tt)
    by_words (Some Check) = (undrawn, shut, rest)
    by_words (Some (Play o)) = (undrawn, shut, inl rest.asked)
    by_words (Some (Serve s)) = inl rest.asked
    by_words (Some (Load l)) = (undrawn, shut, inl rest.asked)
    by_words (Some (Audit o)) = (undrawn, shut, tt)
    by_words (Some (Export o)) = (undrawn, shut, tt)
    by_words (Some (Follow o)) = (undrawn, shut, tt)
    by_words (Some (Promote o)) = (undrawn, shut, tt)

-- the disks up to those of a shelf, of so many shelves or of the first up to that one
pub until_own : (count shelf : ℕ) (old new : RackView) → AsksUntil count shelf old new → AsksUntil (shelf + 1) shelf old new
until_own count shelf old new p = record { low = omega arith; numbers = p.numbers; first = p.first; asked = p.asked }
