-- A status that tells a fault of the outside comes only where a call of that failed.
use Rattle.std.proofs.Common.{◌≡◌, ◌≤◌, ◌∙◌, inl, inr, ℕ, List, length, refl, sym, subst, arith}
use Rattle.std.specs.Prelude.{⊤}
use Rattle.web_outside.specs.Causes.{Rose}
use Rattle.web_disk.specs.View.{View}
use Rattle.disk_trio.proofs.Views.{rose_later}
use Rattle.page_follower.specs.declared.fault.FeedFault.TheVariants as feed
use Rattle.page_follower.specs.declared.fault.FollowEnd.{FollowEnd}
use Rattle.page_follower.specs.declared.fault.FollowEnd.TheVariants as end
use Rattle.play_steps.specs.declared.stage.Reopen.{Reopen}
use Rattle.play_steps.specs.declared.stage.Reopen.TheVariants as reopen
use Rattle.server_command.specs.declared.program.Status.{Status}
use Rattle.server_command.specs.declared.program.Status.TheVariants as status
use Rattle.server_command.specs.Auditing.{LeavesAudit, LeavesStopped, ok_text}
use Rattle.server_command.specs.Command.{Around, HasCause, Met, code_of, met_in}
use Rattle.server_command.specs.Feeding as feeding
use Rattle.server_command.specs.Feeding.{LeavesExport, LeavesFollow, LeavesPromotes, TellsBehind, TellsFollowed, followed_status, promoted_text}
use Rattle.server_command.specs.Output.{Sinks, sinks_of}
use Rattle.server_command.specs.Serving.{RackFailed}
use Rattle.server_command.specs.Telling as telling
use Rattle.server_command.specs.Telling.{TellsUnopened, unopened_status}

-- where this status tells that the input, the output or a disk failed, a call of that failed; it tells no fault of words, of a door or of seeds
abbrev pub IsCaused : (how : Status) → Met → Type 0
IsCaused status.Read met = Rose met.input_before met.input_after
IsCaused status.Write met = Rose met.output.before met.output.after
IsCaused status.Disk met = RackFailed met.rack
IsCaused status.Usage met = ⊥
IsCaused status.Door met = ⊥
IsCaused status.Key met = ⊥
IsCaused _ met = ⊤

pub caused : (result : ℕ) (how : Status) (met : Met) → result ≡ code_of how → IsCaused how met → HasCause result met
caused result how met code p = record {
  usage = λ e. absurd (usage how (sym code ∙ e) p);
  read = λ e. read how (sym code ∙ e) p;
  write = λ e. write how (sym code ∙ e) p;
  disk = λ e. disk how (sym code ∙ e) p;
  door = λ e. absurd (door how (sym code ∙ e) p);
  key = λ e. absurd (key how (sym code ∙ e) p);
}
  where
    usage : (h : Status) → code_of h ≡ 2 → IsCaused h met → ⊥
    usage status.Usage e why = why
    usage h e why = omega (arith, e)

    read : (h : Status) → code_of h ≡ 5 → IsCaused h met → Rose met.input_before met.input_after
    read status.Read e why = why
    read h e why = absurd (omega (arith, e))

    write : (h : Status) → code_of h ≡ 6 → IsCaused h met → Rose met.output.before met.output.after
    write status.Write e why = why
    write h e why = absurd (omega (arith, e))

    disk : (h : Status) → code_of h ≡ 7 → IsCaused h met → RackFailed met.rack
    disk status.Disk e why = why
    disk h e why = absurd (omega (arith, e))

    door : (h : Status) → code_of h ≡ 9 → IsCaused h met → ⊥
    door status.Door e why = why
    door h e why = omega (arith, e)

    key : (h : Status) → code_of h ≡ 14 → IsCaused h met → ⊥
    key status.Key e why = why
    key h e why = omega (arith, e)

-- of audits that ended at a shelf
pub stopped_caused : (met : Met) (text : List (List ℕ) → List ℕ) (count : ℕ) (how : Status) → LeavesStopped text met.rack count how met.output → IsCaused how met
stopped_caused met text count status.Disk p = p.2.1.all
stopped_caused met text count status.Journal p = tt
stopped_caused met text count status.Audit p = tt
stopped_caused met text count status.Memory p = tt
stopped_caused met text count how p = absurd p

pub audit_caused : (met : Met) (count : ℕ) (how : Status) → LeavesAudit met.rack count how met.output → IsCaused how met
audit_caused met count status.Done p = tt
audit_caused met count status.Write p = p.3
audit_caused met count status.Disk p = stopped_caused met (ok_text 0) count status.Disk p
audit_caused met count status.Journal p = tt
audit_caused met count status.Audit p = tt
audit_caused met count status.Memory p = tt
audit_caused met count how p = absurd p

-- ---- shelves that are opened without a setup

-- the status of a shelf that was not opened tells that a disk failed only where it did
unopened_by : (met : Met) (why : Reopen) → (why ≡ reopen.Disk → RackFailed met.rack) → IsCaused (unopened_status why) met
unopened_by met reopen.Disk failed = failed refl
unopened_by met reopen.NotEmpty failed = tt
unopened_by met (reopen.Damaged place) failed = tt
unopened_by met (reopen.Other place) failed = tt
unopened_by met (reopen.Full length) failed = tt
unopened_by met reopen.Memory failed = tt

-- this is the status, and the fault that it tells came
caused_as : (met : Met) (how is : Status) → how ≡ is → IsCaused is met → IsCaused how met
caused_as met how is same p = subst (λ h. IsCaused h met) (sym same) p

unopened_caused : (met : Met) (shelf : ℕ) (why : Reopen) (how : Status) (out : Sinks) → (why ≡ reopen.Disk → RackFailed met.rack)
    → TellsUnopened shelf why how out → IsCaused how met
unopened_caused met shelf why how out failed (telling.told line named is printed) = caused_as met how (unopened_status why) is (unopened_by met why failed)
unopened_caused met shelf why how out failed (telling.untold is printed) = caused_as met how status.Memory is tt

behind_caused : (met : Met) (text : List ℕ) (shelf : ℕ) (why : Reopen) (how : Status) → (why ≡ reopen.Disk → RackFailed met.rack)
    → TellsBehind text shelf why how met.output → IsCaused how met
behind_caused met text shelf why how failed (feeding.told_behind line named is tells) = caused_as met how (unopened_status why) is (unopened_by met why failed)
behind_caused met text shelf why how failed (feeding.untold_behind is tells) = caused_as met how status.Memory is tt

pub export_caused : {D : Type 0} (view : D → View) (met : Met) (shelf : ℕ) (how : Status) → LeavesExport view met.rack shelf how met.output → IsCaused how met
export_caused view met shelf how (feeding.unopened why shut tells) = unopened_caused met shelf why how met.output (λ e. (shut.failed e).all) tells
export_caused view met shelf how (feeding.sent r is written) = caused_as met how status.Done is tt
export_caused view met shelf how (feeding.unsent r is rose written) = caused_as met how status.Write is rose
export_caused view met shelf how (feeding.unread r failed (inl is) written) = caused_as met how status.Disk is failed.all
export_caused view met shelf how (feeding.unread r failed (inr is) written) = caused_as met how status.Memory is tt

pub promote_caused : {D : Type 0} (view : D → View) (met : Met) (count : ℕ) (how : Status) → LeavesPromotes view met.rack count how met.output
    → IsCaused how met
promote_caused view met count how (feeding.all_told followed p many is written) = caused_as met how status.Done is tt
promote_caused view met count how (feeding.cut_short followed p few is rose written) = caused_as met how status.Write is rose
promote_caused view met count how (feeding.stopped followed why p tells) =
    behind_caused met (promoted_text 0 followed) (length followed) why how (λ e. (p.failed e).all) tells
promote_caused view met count how (feeding.not_told followed last p low is tells) = caused_as met how status.Memory is tt

-- of what following came to, where each fault that it tells came
module _ (met : Met) (shelf : ℕ) (e : FollowEnd) (disk : e ≡ end.DiskFault → RackFailed met.rack)
    (input : e ≡ end.Feed feed.Failed → Rose met.input_before met.input_after) (output : e ≡ end.Unwritten → Rose met.output.before met.output.after) where
  ended_by : (x : FollowEnd) → e ≡ x → IsCaused (followed_status x) met
  ended_by end.Held is = tt
  ended_by end.Promoted is = tt
  ended_by (end.Feed feed.Head) is = tt
  ended_by (end.Feed (feed.Cut place)) is = tt
  ended_by (end.Feed feed.Long) is = tt
  ended_by (end.Feed feed.Failed) is = input is
  ended_by (end.Feed feed.Memory) is = tt
  ended_by (end.Other place) is = tt
  ended_by (end.Record place) is = tt
  ended_by (end.Full n) is = tt
  ended_by end.DiskFault is = disk is
  ended_by end.Unwritten is = output is
  ended_by end.Memory is = tt

  followed_caused : (how : Status) (out : Sinks) → (Rose out.before out.after → Rose met.output.before met.output.after)
      → TellsFollowed shelf e how out → IsCaused how met
  followed_caused how out later (feeding.told is printed) = caused_as met how (followed_status e) is (ended_by e refl)
  followed_caused how out later (feeding.untold is printed) = caused_as met how status.Memory is tt
  followed_caused how out later (feeding.kept_back held is same rose) = caused_as met how status.Write is (later rose)

-- what rose before stays so
rose_still : (a b c : ℕ) → Rose a b → b ≤ c → Rose a c
rose_still a b c rose later = omega (arith, rose, later)

pub follow_caused : {D T P L N : Type 0} (view : T → View) (a : Around D P L N) (shelf : ℕ) (how : Status)
    → LeavesFollow view a.rack shelf how a.input.before a.input.after a.output.before a.output.after → IsCaused how (met_in a)
follow_caused view a shelf how (feeding.not_opened why shut still tells) =
    unopened_caused (met_in a) shelf why how (met_in a).output (λ e. (shut.failed e).all) tells
follow_caused view a shelf how (feeding.leads r leads still tells) =
    followed_caused (met_in a) shelf end.Promoted (λ e. let no : ⊥ = cc in absurd no) (λ e. let no : ⊥ = cc in absurd no)
    (λ e. let no : ⊥ = cc in absurd no) how (met_in a).output (λ r. r) tells
follow_caused view a shelf how (feeding.followed f told holds e has why later tells) =
    followed_caused (met_in a) shelf e (λ is. (why.disk is).all) why.input
    (λ is. rose_still a.output.before.faults told.faults a.output.after.faults (why.output is) later)
    how (sinks_of told a.output.after) (λ rose. rose_later a.output.before.faults told.faults a.output.after.faults why.later rose) tells
