-- What holds of clocks, of pages that are shown and closed, of instances that are freed, of what a visit is answered, and of shelves that
-- follow another one's journal.
use Rattle.std.specs.Prelude.{◌≡◌, ◌⊎◌, ◌≤◌, ◌<◌, ◌-◌, ◌^◌, ℕ, List, length, Option, Some, None, true, false, ⊤}
use Rattle.std.specs.List.{list_all}
use Rattle.script_value.specs.declared.outcome.TxName.{TxName}
use Rattle.script_nodes.specs.PageNames.Names.{Destination, page, spelling}
use Rattle.script_nodes.specs.PageNames.declared.names.PageName.{PageName}
use Rattle.script_value.specs.Val.{Val}
use Rattle.script_nodes.specs.Setup.{Named}
use Rattle.replay_spec.specs.Tape.{present, Outcome, paged, faulted}
use Rattle.replay_spec.specs.Tape as tape
use Rattle.replay_spec.specs.Book.{Instance, Finish, finishes, sweeps, Doubt, Book, instance_at, is_expired, is_over, spend, reopened}
use Rattle.replay_spec.specs.Rules.{Rules}
use Rattle.replay_spec.specs.Admission.{Place, place_at, Admission, begins, resumes, refused, admit}
use Rattle.replay_spec.specs.Next.{Ticket, Visit, url_for, comes_to, start_visit, page_visit}
use Rattle.replay_spec.specs.Step.{Event, take, publish, sweep, compact, crash, Fate, no_memory, Reply, taken, shown, fault, out_of_fuel, shelf_full, disk_failed, down, oversize, journal_full, following, worn, memory, live, reply_by, step}
use Rattle.replay_spec.specs.Runs.{lands}
use Rattle.replay_spec.specs.Invariant.{ClosedIn, IsOrderly, IsSound}
use Rattle.replay_spec.specs.Laws.{IsLawful, Moment, then_book, Leads, Leaves, NamesDiffer}

-- The clock never falls, and what is expired stays so: it is never admitted again.
abbrev pub TheClockNeverFalls : Type 0
TheClockNeverFalls =
    (b c : Book) → IsOrderly b → Leads b c
    → (b.clock ≤ c.clock)
    × ((name : List ℕ) (n : PageName) (x : Place) → place_at b name n ≡ Some x → is_expired b.clock x.page ≡ true
    → ((y : Place) → place_at c name n ≡ Some y → is_expired c.clock y.page ≡ true)
    × ((y : Place) → admit c (page name n) ≡ resumes y → ⊥))

-- under this URL stands the page of a ticket, and it can be answered
pub record IsAdmitted (b : Book) (url : List ℕ) (t : Ticket) : Type 0 where
  pub name : List ℕ
  pub numbers : PageName
  pub at : Place
  pub spelt : url ≡ spelling (page name numbers)
  pub admitted : admit b (page name numbers) ≡ resumes at
  pub number : at.page.number ≡ t.number
  pub nonce : at.page.nonce ≡ t.nonce

-- A page that is shown is admitted under its URL, at once, where it lives at all, and where fuel is too little for the
-- count of a segment's transactions to stand still.
abbrev pub AShownPageIsAdmitted : Type 0
AShownPageIsAdmitted =
    (rules : Rules) (b : Book) (nonce : ℕ) (t : Ticket) (fate : Fate) → rules.fuel < 2 ^ 32 - 1 → 1 ≤ rules.life
    → IsSound b → NamesDiffer b → IsLawful (publish t) b
    → (bytes url : List ℕ) → (step rules b nonce (publish t) fate).0 ≡ shown bytes url
    → IsAdmitted (step rules b nonce (publish t) fate).1 url t

-- Nothing closes a transaction in an instance but an event that leaves it.
abbrev pub NothingElseCloses : Type 0
NothingElseCloses =
    (b : Book) (m : Moment) → IsSound b → (k : ℕ) (t : TxName)
    → ClosedIn (then_book m b).instances k t → ClosedIn b.instances k t ⊎ Leaves t b m

-- the event finishes this instance
pub record Finishes (b : Book) (m : Moment) (k : ℕ) : Type 0 where
  pub finish : Finish
  pub lands : lands m.rules b m.event m.fate ≡ Some (finishes finish)
  pub here : finish.instance ≡ k

-- with the event time goes on to a tick at which all pages of this instance are expired or evicted
pub record Expires (b : Book) (m : Moment) (i : Instance) : Type 0 where
  pub tick : ℕ
  pub lands : lands m.rules b m.event m.fate ≡ Some (sweeps tick)
  pub over : list_all (is_over tick i.evicted) i.pages ≡ true

-- Nothing frees an instance but an event by which it finishes, or a tick at which all its pages are expired or evicted.
abbrev pub NothingElseFrees : Type 0
NothingElseFrees =
    (b : Book) (m : Moment) → IsOrderly b → (k : ℕ) (i : Instance) → instance_at k b.instances ≡ Some i
    → instance_at k (then_book m b).instances ≡ None → Finishes b m k ⊎ Expires b m i

-- what a visit is answered that stops with this outcome
abbrev pub reply_to : Visit → Outcome → Reply
reply_to v (paged how bytes) = reply_by how bytes (url_for v)
reply_to v (faulted f) = fault f
reply_to v (tape.out_of_fuel cost) = out_of_fuel cost

-- what an admitted ticket is answered as its script stops over the cells of now
abbrev pub Stops : Rules → Book → Ticket → Admission → Reply → Type 0
Stops rules b t (begins k s) r =
    let v = start_visit b t k s in r ≡ reply_to v (comes_to v (present s.script.cells rules.fuel)).outcome
Stops rules b t (resumes at) r =
    let v = page_visit b t at in r ≡ reply_to v (comes_to v (present at.instance.cells rules.fuel)).outcome
Stops rules b t (refused refusal) r = ⊥

-- an answer for a limit
abbrev pub IsLimit : Reply → Type 0
IsLimit (shelf_full count) = ⊤
IsLimit (oversize length) = ⊤
IsLimit (journal_full length) = ⊤
IsLimit worn = ⊤
IsLimit _ = ⊥

-- an answer for a fault of the disk
abbrev pub IsDiskFault : Reply → Type 0
IsDiskFault (disk_failed count) = ⊤
IsDiskFault (down count) = ⊤
IsDiskFault _ = ⊥

-- a target is admitted: it begins an instance or goes on from a page
abbrev pub IsAdmission : Admission → Type 0
IsAdmission (refused r) = ⊥
IsAdmission _ = ⊤

-- On a shelf that does not follow another one's journal, a visit that is admitted at its take gets a ticket, and one that is admitted
-- again at its publish is answered as its script stops then: where it meets no limit and no fault of the disk, and but for want of memory.
abbrev pub AVisitIsAnswered : Type 0
AVisitIsAnswered =
    (rules : Rules) (b : Book) (nonce : ℕ) (fate : Fate) → b.follows ≡ false
    → ((target : Destination) (answer : Val) → IsAdmission (admit b target)
    → let r = (step rules b nonce (take target answer) fate).0 in
    (IsLimit r → ⊥) → (IsDiskFault r → ⊥) → (r ≡ taken b.drawn nonce) ⊎ ((r ≡ memory) × (fate ≡ no_memory)))
    × ((t : Ticket) → IsAdmission (admit b t.target)
    → let r = (step rules b nonce (publish t) fate).0 in
    (IsLimit r → ⊥) → (IsDiskFault r → ⊥) → Stops rules b t (admit b t.target) r ⊎ ((r ≡ memory) × (fate ≡ no_memory)))

-- what a shelf answers that follows another one's journal: that it is down, or else that it follows
abbrev pub follower_reply : Option Doubt → Reply
follower_reply None = following
follower_reply (Some doubt) = down doubt.count

-- what came of an event is what a shelf that follows answers, or want of memory, and this book
abbrev pub IsPutOff : Book → Fate → (came : Reply × Book) → (left : Book) → Type 0
IsPutOff b fate came left = ((came.0 ≡ follower_reply b.down) ⊎ ((came.0 ≡ memory) × (fate ≡ no_memory))) × (came.1 ≡ left)

-- A shelf that follows another one's journal answers so each take, whatever its target, each publish, each sweep above its clock and each
-- compaction. Nothing changes but that a publish spends its number. Where nothing is in doubt on it, it follows when it is opened again, and
-- is told no setup.
abbrev pub AFollowerAnswersNoVisit : Type 0
AFollowerAnswersNoVisit =
    (rules : Rules) (b : Book) (nonce : ℕ) (fate : Fate) → b.follows ≡ true
    → ((target : Destination) (answer : Val) → IsPutOff b fate (step rules b nonce (take target answer) fate) b)
    × ((t : Ticket) → IsPutOff b fate (step rules b nonce (publish t) fate) (spend t.number b))
    × ((tick : ℕ) → b.clock < tick → IsPutOff b fate (step rules b nonce (sweep tick) fate) b)
    × IsPutOff b fate (step rules b nonce compact fate) b
    × ((scripts : List Named) → b.down ≡ None → step rules b nonce (crash scripts) fate ≡ (live (length b.instances), reopened b))

-- No event makes a shelf follow another one's journal, and no other shelf answers that it follows one.
abbrev pub NoOtherFollows : Type 0
NoOtherFollows =
    (b : Book) (m : Moment) → b.follows ≡ false
    → ((then_book m b).follows ≡ false) × ((step m.rules b m.nonce m.event m.fate).0 ≡ following → ⊥)
