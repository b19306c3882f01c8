-- How the record of a change is measured and written.
use Rattle.std.specs.Prelude.{◌≡◌, ◌≤◌, ◌+◌, ℕ, Bool, false, List, Option, Some, None, Result, Ok, Err, IfSome, IfOk, option_map, nat_lt, ⊤}
use Rattle.script_value.specs.declared.outcome.Reply.{Reply}
use Rattle.script_value.specs.declared.outcome.Reply.TheVariants as reply
use Rattle.replay_spec.specs.Admission.{when, or_else, ◌>>=◌}
use Rattle.replay_spec.specs.Step as step
use Rattle.replay_spec.specs.Step.{oversize, journal_full, most_of_record, most_of_journal}
use Rattle.script_value.specs.Val.{Val}
use Rattle.journal_records.specs.Fields.{is_shallow}
use Rattle.journal_records.specs.Records.{Record, changes, body_of, IsInGrammar, record_length, PartsFit}
use Rattle.script_nodes.specs.Setup.{Library}
use Rattle.replay_spec.specs.Book.{Change as SpecChange, opens, extends, ends, finishes, sweeps}
use Rattle.replay_spec.specs.Admission.{Place}
use Rattle.replay_spec.specs.Recovery.{page_of_numbers}
use Rattle.book_recovery.specs.InstanceBook.declared.book.Book.{Book}
use Rattle.book_visits.specs.declared.ticket.Ticket.{Ticket}
use Rattle.book_recovery.specs.InstanceBook.declared.change.Change.{Change}
use Rattle.book_recovery.specs.InstanceBook.declared.change.Change.TheVariants.{Opens, Extends, Ends, Finishes}
use Rattle.book_recovery.specs.InstanceBook.Changes.{change_of}
use Rattle.book_visits.specs.Views.{reply_of}
use Rattle.book_recovery.specs.InstanceBook.Places.{given, kept_at}
use Rattle.book_recovery.specs.InstanceBook.Makes.{HasStatesFrom}
use Rattle.book_visits.specs.Prepares.{IsKeptOfTicket}
use Rattle.book_recovery.specs.InstanceBook.Standing.{book_under}
use Rattle.book_visits.specs.Fits.{GoesOnGiven}
use Rattle.machine_states.specs.Machine.{Suspended}
use Rattle.std.specs.Borrow.{Bor}
use Rattle.machine_states.specs.Views.{origin_of, suspended_of}
use Rattle.book_recovery.specs.InstanceBook.FrameCodec.Forms.{BindsBefore}
use Rattle.book_recovery.specs.InstanceBook.KeptStates.Kept.{Form, bytes_of, IsKeptFrom}
use Rattle.book_recovery.specs.InstanceBook.KeptStates.Links.{behind_at}
use Rattle.book_recovery.specs.JournalSpec.Lengths.{is_shallow_state, told_bytes}

-- why a record of this length can't be added to a journal of this one
abbrev pub refusal_of_size : (journal size : ℕ) → Option step.Reply
refusal_of_size journal size =
    or_else (when (nat_lt most_of_record size) (oversize size))
    (when (nat_lt most_of_journal (journal + (size + 5))) (journal_full (journal + (size + 5))))

-- a record of so many bytes can be added to a journal of so many
pub record IsShort (journal size : ℕ) : Type 0 where
  pub body : size ≤ most_of_record
  pub whole : journal + (size + 5) ≤ most_of_journal

-- what a record tells of can be written, where it is short
abbrev pub CanBeWritten : (journal : ℕ) → Record → Type 0
CanBeWritten journal (changes c state) = IsShort journal (record_length c state) → PartsFit c → IsInGrammar (changes c state)
CanBeWritten journal _ = ⊥

-- the bytes are the body of the record, which can be spelled and is short
pub record IsBody (journal : ℕ) (r : Record) (size : ℕ) (body : List ℕ) : Type 0 where
  pub is : body ≡ body_of r
  pub spelled : IsInGrammar r
  pub short : IsShort journal size

-- the record is written as its body, or told why it can't be added; want of memory may stand for either
abbrev pub IsWritten : (journal : ℕ) → Record → Result (List ℕ) Reply → Type 0
IsWritten journal (changes c state) (Ok body) = IsBody journal (changes c state) (record_length c state) body
IsWritten journal (changes c state) (Err reply.Memory) = ⊤
IsWritten journal (changes c state) (Err r) = refusal_of_size journal (record_length c state) ≡ Some (reply_of r)
IsWritten journal _ result = ⊤

-- the state of the page that a change shows
abbrev pub state_in : Change → Option Suspended
state_in (Opens o) = Some (suspended_of o.state)
state_in (Extends x) = Some (suspended_of x.state)
state_in _ = None

-- the state that a change's state is written after: what its ticket goes on from, where the links ask for it
abbrev pub behind_in : Ticket → Change → Option Suspended
behind_in t (Extends x) = behind_at t.links (origin_of t.from)
behind_in t _ = None

-- the bytes that a change's record tells of the state of its page, if it shows one
abbrev pub told_in : Ticket → Change → Option (List ℕ)
told_in t c = state_in c >>= told_bytes (behind_in t c)

-- what is lent, if anything
abbrev pub lent : {A : Type 0} → Option (Bor A) → Option A
lent x = option_map (λ a. a.now) x

-- just a change that shows a page is told with a state
abbrev pub IsStateFor : Change → Option (List ℕ) → Type 0
IsStateFor (Ends e) state = state ≡ None
IsStateFor (Finishes f) state = state ≡ None
IsStateFor _ state = ⊤

-- the bytes are those that are kept of a state; there are none only where a value nests too deep to be written
abbrev pub IsKeptAs : Suspended → Form → Option (List ℕ) → Type 0
IsKeptAs d f (Some bytes) = bytes_of f ≡ Some bytes
IsKeptAs d f None = is_shallow_state d ≡ false

-- the bytes that are lent, if any, are those that are kept of a state
abbrev pub IsLentAs : Suspended → Form → Option (Bor (List ℕ)) → Type 0
IsLentAs d f bytes = IsKeptAs d f (lent bytes)

-- where bytes are told, this holds
abbrev pub WhereTold : {A E : Type 0} → Result (Option A) E → Type 0 → Type 0
WhereTold result holds = IfOk result (λ bytes. IfSome bytes (λ _. holds))

-- what is kept of the state of the page that a change shows is that of its ticket
abbrev pub IsKeptIn : Ticket → Change → Type 0
IsKeptIn t (Opens o) = IsKeptFrom None 0 (suspended_of o.state) (kept_at o.page)
IsKeptIn t (Extends x) = IsKeptOfTicket t (suspended_of x.state) x.show.page
IsKeptIn t _ = ⊤

-- each web cell that is bound in the state that a change's state is written after is bound in the change's state
abbrev pub BindsIn : Ticket → Change → Type 0
BindsIn t c = IfSome (state_in c) (BindsBefore (behind_in t c))

-- the numbers of the instance and of the page that a change's page answers, if it shows one and that is no start's
abbrev pub answered_in : SpecChange → Option (ℕ × ℕ)
answered_in (opens o) = None
answered_in (extends x) = Some (x.instance, x.page)
answered_in (ends e) = None
answered_in (finishes f) = None
answered_in (sweeps tick) = None

-- the ticket goes on from the state that is given to the page of these numbers, and the links of its own page are those of an answer to it
pub record AnswersGiven (library : Library) (b : Book) (instance page : ℕ) (states : ℕ → Option Suspended) (t : Ticket) : Type 0 where
  pub at : Place
  pub found : page_of_numbers (book_under library b) instance page ≡ Some at
  pub goes : GoesOnGiven states at t

-- whichever states are given to the pages of the book, the ticket goes on from that of the page of these numbers
abbrev pub GoesOnFromBook : Library → Book → Ticket → (answered : ℕ × ℕ) → Type 0
GoesOnFromBook library b t n =
    (states : ℕ → Option Suspended) → HasStatesFrom (given states) library.all b → AnswersGiven library b n.0 n.1 states t

-- whichever states are given to the pages of the book, the ticket of an answer goes on from that of the page that is answered
abbrev pub GoesOnAsGiven : Library → Book → Ticket → Change → Type 0
GoesOnAsGiven library b t c = IfSome (answered_in (change_of c)) (GoesOnFromBook library b t)

-- whether the value of a binding of a web cell nests no deeper than one may that is written
abbrev pub is_shallow_shadow : ℕ × Val → Bool
is_shallow_shadow s = is_shallow s.1

-- the record of a change can be written with the state that it tells, where it is short
abbrev pub CanBeTold : (journal : ℕ) → Ticket → Change → Type 0
CanBeTold journal t c = CanBeWritten journal (changes (change_of c) (told_in t c))

-- the body of the change's record, with the state that it tells; or why there is none
abbrev pub IsToldBody : (journal : ℕ) → Ticket → Change → Result (List ℕ) Reply → Type 0
IsToldBody journal t c result = IsWritten journal (changes (change_of c) (told_in t c)) result
