-- What a publish is prepared as, before its record is measured: as on a shelf that keeps no journal.
use Rattle.std.specs.Prelude.{◌≡◌, Option, Some, None, Result, Ok, Err, IfSome, ⊤}
use Rattle.script_value.specs.declared.outcome.Reply.{Reply}
use Rattle.script_value.specs.declared.outcome.Reply.TheVariants as reply
use Rattle.script_nodes.specs.Setup.{Library}
use Rattle.page_names.specs.Views.{target_of}
use Rattle.page_names.specs.declared.names.Target.{Target}
use Rattle.machine_states.specs.declared.segment.Segment.{Segment}
use Rattle.replay_spec.specs.Book as spec
use Rattle.replay_spec.specs.Rules as spec_rules
use Rattle.replay_spec.specs.Step.{Decision, plain, barred, publish_comes}
use Rattle.book_recovery.specs.InstanceBook.declared.book.Book.{Book}
use Rattle.book_visits.specs.declared.ticket.Ticket.{Ticket}
use Rattle.book_visits.specs.declared.prepared.Prepared.{Prepared}
use Rattle.book_recovery.specs.InstanceBook.Standing.{book_under}
use Rattle.book_visits.specs.Admissions.{admission_for, refusal_for, FitsIn}
use Rattle.book_recovery.specs.InstanceBook.Views.{instances_of, Beside, book_of}
use Rattle.book_visits.specs.Views.{ticket_of, reply_of}
use Rattle.machine_states.specs.Views.{segment_of}
use Rattle.book_visits.specs.Changes.{HasDeadlineBy, HasStateBy, IsSpelledBy}
use Rattle.book_visits.specs.Prepares.{Prepares, IsOfSegment, KeepsItsState}
use Rattle.book_visits.specs.Laws.{KeepsStateAs}
use Rattle.shelf.specs.declared.rules.Rules.{Rules}
use Rattle.shelf.specs.Views.{unmeasured, fate_by, HoldNow}
use Rattle.shelf.specs.Holding.{AreHeldNow, ShowsWholeFrom}

-- what a publish comes to on the book beside this
abbrev pub decision_beside : Library → Beside → Rules → Book → Ticket → Decision
decision_beside library beside rules b t = publish_comes (unmeasured rules) (book_of library beside b) (ticket_of t)

-- what is prepared carries the decision out, or the refusal is the decision; want of memory may stand for any
abbrev pub Decides : Library → spec_rules.Rules → spec.Book → Decision → Result Prepared Reply → Type 0
Decides library rules b d (Err reply.Memory) = ⊤
Decides library rules b d result = Prepares library rules b d result

-- where nothing bars it, what a publish comes to is prepared, or its refusal is told; want of memory may stand for any
abbrev pub IsDecided : Library → Rules → Book → Ticket → Result Prepared Reply → Type 0
IsDecided library rules b t result =
    (beside : Beside) → barred (book_of library beside b) ≡ None
    → Decides library (unmeasured rules) (book_of library beside b) (decision_beside library beside rules b t) result

-- where no second run is due, want of memory is told only of what changes the book
abbrev pub IsDecidedIfHeld : Library → Rules → Book → Ticket → Option Segment → Result Prepared Reply → Type 0
IsDecidedIfHeld library rules b t segment result =
    (r : Segment) → segment ≡ Some r → HoldNow (book_under library b) t r → (beside : Beside) → barred (book_of library beside b) ≡ None
    → Prepares library (unmeasured rules) (book_of library beside b) (decision_beside library beside rules b t) result

-- the segment keeps the state of its visit, where the ticket is for the one that its target is admitted as
abbrev pub KeepsStateIfFits : Library → Book → Ticket → Segment → Type 0
KeepsStateIfFits library b t r = FitsIn library b t.target t → KeepsStateAs (book_under library b) t (admission_for library b t.target) r

-- What is prepared can be landed, whatever the ticket is for: the target is admitted; it is a
-- change of some segment of the ticket, or none, and carries itself out; its deadline is one that records tell; the segment's effects
-- hold; a page that it shows is whole; and the change has its state, which is that of its visit where the ticket fits.
pub record CanBeLanded (library : Library) (b : Book) (t : Ticket) (p : Prepared) : Type 0 where
  pub admitted : refusal_for library b t.target ≡ None
  pub segment : Segment
  pub itself : IsOfSegment b t (segment_of segment) (target_of t.target) p
  pub deadline : HasDeadlineBy p.change
  pub state : KeepsItsState t segment p.change
  pub held : AreHeldNow b t segment
  pub whole : ShowsWholeFrom library.all t segment
  pub own : KeepsStateIfFits library b t segment

-- the page that is prepared, if any, has the state of its chain, where this has a spelling
abbrev pub ShowsState : Library → Book → Prepared → Type 0
ShowsState library b p =
    let all = library.all in IsSpelledBy p.change → HasStateBy all b.shelf (instances_of all b.instances) p.change

-- no fault of a disk is told, and no want of memory with what is prepared
abbrev pub TellsOfRun : Result Prepared Reply → Type 0
TellsOfRun (Ok p) = fate_by (reply_of p.reply) ≡ plain
TellsOfRun (Err reply.Memory) = ⊤
TellsOfRun (Err r) = fate_by (reply_of r) ≡ plain

-- a target that is not admitted is told so
abbrev pub IsRefused : Library → Book → Target → Result Prepared Reply → Type 0
IsRefused library b target result = IfSome (refusal_for library b target) (λ r. result ≡ Err (reply.Refused r))

-- where there was no memory for the run of an admitted target, want of memory is the answer
abbrev pub WantsMemory : Library → Book → Ticket → Option Segment → Result Prepared Reply → Type 0
WantsMemory library b t segment result = segment ≡ None → refusal_for library b t.target ≡ None → result ≡ Err reply.Memory
