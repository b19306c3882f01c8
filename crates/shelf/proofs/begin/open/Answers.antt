use Rattle.std.proofs.Common.{◌≡◌, ◌∙◌, ℕ, Bool, true, false, List, Option, None, is_some, Result, IsTrue, ap, sym, subst}
use Rattle.script_nodes.specs.Setup.{Named}
use Rattle.script_nodes.specs.Views.{scripts_of, library_of}
use Rattle.script_nodes.specs.declared.library.Library.{Library}
use Rattle.web_disk.specs.View.{View}
use Rattle.page_journal.specs.Records.{newest, stored}
use Rattle.page_journal.specs.Settled.{length_of, bodies_in}
use Rattle.page_journal.specs.declared.journal.Journal.{Journal}
use Rattle.book_recovery.specs.JournalSpec.Reading.{AreAllBytes}
use Rattle.book_recovery.specs.InstanceBook.declared.book.Book.{Book}
use Rattle.book_recovery.specs.Noting.{WhereMade, NotesFile}
use Rattle.book_recovery.specs.declared.found.Found.{Found}
use Rattle.book_recovery.specs.declared.found.Found.TheVariants as found
use Rattle.book_recovery.specs.Found.{Finds, HasStates}
use Rattle.shelf.specs.Opening.{making_of, Opens}
use Rattle.shelf.specs.declared.follower.Follower.{Follower}
use Rattle.shelf.specs.declared.begin.BeginFault.{BeginFault}
use Rattle.shelf.specs.declared.begin.BeginFault.TheVariants as fault
use Rattle.shelf.proofs.Newest.{own_in}
use Rattle.shelf.proofs.Bare.{Bare, bare_read}
use Rattle.shelf.proofs.Reading.{own_after, found_after, read_refused, opens_after, found_at, none_waits, known_file, noted_at, known_after}
use Rattle.shelf.proofs.Waiting.{goes_on_read}
use Rattle.shelf.proofs.Beginning.{refused_opens, fresh_opens, fresh_own, fresh_known}
use Rattle.shelf.proofs.begin.open.Goals as goal

-- where the shelf does not follow, nothing is kept of another one's journal
as_leads : {D : Type 0} (view : D → View) (tells : Bool) (ss : List Named) (n : ℕ) (j0 j2 : Journal D) (result : Result (Book × Library) BeginFault) (o : Option Follower) → o ≡ None
    → Opens view tells ss n false j0 j2 result → Opens view tells ss n (is_some o) j0 j2 result
as_leads view tells ss n j0 j2 result o none opens = subst (λ (t : Bool). Opens view tells ss n t j0 j2 result) (sym (ap (λ (x : Option Follower). is_some x) none)) opens

-- what was found, where the shelf does not follow
found_false : {D : Type 0} (view : D → View) (n : ℕ) (j : Journal D) (fed : Bool) (x y : Found) → fed ≡ false → x ≡ y → Finds n (length_of j) fed x (making_of view n j) → Finds n (length_of j) false y (making_of view n j)
found_false view n j fed x y leads is finds =
    subst (λ (f : Found). Finds n (length_of j) false f (making_of view n j)) is (subst (λ (t : Bool). Finds n (length_of j) t x (making_of view n j)) leads finds)

pub returns-in_default-clause-opened : goal.returns-in_default-clause-opened
returns-in_default-clause-opened g c =
    read_refused g.D.Disk.view g.D.Disk.tells (scripts_of c.args.setup.now) c.args.number c.args.journal.now c.read_book.new.journal c.requires.newest c.requires.settled c.read_book.ensures.quiet (is_some c.args.follower.now) fault.DiskFault (λ told. tt) (λ e. c.in_default.ensures.cause)

pub returns-in-Damaged-clause-opened : goal.returns-in-Damaged-clause-opened
returns-in-Damaged-clause-opened g c =
    let n = c.args.number in
    let j = c.args.journal.now in
    read_refused g.D.Disk.view g.D.Disk.tells (scripts_of c.args.setup.now) n j c.read_book.new.journal c.requires.newest c.requires.settled c.read_book.ensures.quiet (is_some c.args.follower.now) (fault.Damaged c.in-Damaged.place)
    (λ told. found_false g.D.Disk.view n j c.in-Ok.read.follows c.in-Ok.read.found (found.Damaged c.in-Damaged.place) c.if-follows.false c.in-Damaged.is (found_at g.D.Disk.view n j c.requires.newest c.in-Ok.read.follows c.in-Ok.read.found (c.in-Ok.ensures.found told))) (λ e. absurd (let no : ⊥ = cc e in no))

pub returns-in-Other-clause-opened : goal.returns-in-Other-clause-opened
returns-in-Other-clause-opened g c =
    let n = c.args.number in
    let j = c.args.journal.now in
    read_refused g.D.Disk.view g.D.Disk.tells (scripts_of c.args.setup.now) n j c.read_book.new.journal c.requires.newest c.requires.settled c.read_book.ensures.quiet (is_some c.args.follower.now) (fault.Other c.in-Other.place)
    (λ told. found_false g.D.Disk.view n j c.in-Ok.read.follows c.in-Ok.read.found (found.Other c.in-Other.place) c.if-follows.false c.in-Other.is (found_at g.D.Disk.view n j c.requires.newest c.in-Ok.read.follows c.in-Ok.read.found (c.in-Ok.ensures.found told))) (λ e. absurd (let no : ⊥ = cc e in no))

pub returns-in-Memory-clause-opened : goal.returns-in-Memory-clause-opened
returns-in-Memory-clause-opened g c =
    read_refused g.D.Disk.view g.D.Disk.tells (scripts_of c.args.setup.now) c.args.number c.args.journal.now c.read_book.new.journal c.requires.newest c.requires.settled c.read_book.ensures.quiet (is_some c.args.follower.now) fault.Memory (λ told. tt)
    (λ e. absurd (let no : ⊥ = cc e in no))

pub returns-in-Ok-go_on-clause-opened : goal.returns-in-Ok-go_on-clause-opened
returns-in-Ok-go_on-clause-opened g c =
    as_leads g.D.Disk.view g.D.Disk.tells (scripts_of c.args.setup.now) c.args.number c.args.journal.now c.go_on.new.journal _ c.args.follower.now c.requires.leads
    (opens_after g.D.Disk.view g.D.Disk.tells (scripts_of c.args.setup.now) c.args.number c.args.journal.now c.read_book.new.journal c.requires.newest c.requires.settled c.read_book.ensures.quiet
    false c.go_on.new.journal _ c.in-Ok-go_on.ensures.opened)

pub returns-in-Made-clause-opened : goal.returns-in-Made-clause-opened
returns-in-Made-clause-opened g c =
    as_leads g.D.Disk.view g.D.Disk.tells (scripts_of c.args.setup.now) c.args.number c.args.journal.now c.go_on.new.journal _ c.args.follower.now c.requires.leads
    (opens_after g.D.Disk.view g.D.Disk.tells (scripts_of c.args.setup.now) c.args.number c.args.journal.now c.read_book.new.journal c.requires.newest c.requires.settled c.read_book.ensures.quiet
    false c.go_on.new.journal _ c.in-Err.ensures.opened)

pub returns-in-Ok-go_on-clause-own : goal.returns-in-Ok-go_on-clause-own
returns-in-Ok-go_on-clause-own g c told own =
    let own_there = own_after g.D.Disk.view g.D.Disk.tells (scripts_of c.args.setup.now) c.args.number c.args.journal.now c.read_book.new.journal c.requires.newest c.requires.settled c.read_book.ensures.quiet own in
    let states = subst HasStates c.in-Made.is (c.in-Ok.ensures.states told (own_in g.D.Disk.view c.args.number c.args.journal.now c.requires.newest own)) in
    c.in-Ok-go_on.ensures.own told own_there states

pub returns-in-Ok-start-clause-opened : goal.returns-in-Ok-start-clause-opened
returns-in-Ok-start-clause-opened g c =
    let n = c.args.number in
    let ss = scripts_of c.args.setup.now in
    let j = c.args.journal.now in
    let view = g.D.Disk.view in
    let j1 = c.read_book.new.journal in
    let quiet = c.read_book.ensures.quiet in
    let small : IsTrue g.D.Disk.tells → AreAllBytes (bodies_in view j) = λ told.
    (subst (λ (f : Found). WhereMade f (NotesFile newest n (bodies_in view j) c.in-Ok.read.notes (making_of view n j))) c.in-Nothing.is (noted_at view n j c.in-Ok.read.notes c.in-Ok.read.found c.requires.newest (c.in-Ok.ensures.notes told))).bytes in
    let bare : IsTrue g.D.Disk.tells → Bare n (bodies_in view j1) = λ told.
    bare_read view n j j1 c.records_are_exact.ensures (ap stored quiet.seen)
    (found_false view n j c.in-Ok.read.follows c.in-Ok.read.found found.Nothing c.if-follows.false c.in-Nothing.is (found_at view n j c.requires.newest c.in-Ok.read.follows c.in-Ok.read.found (c.in-Ok.ensures.found told))) (small told) in
    as_leads view g.D.Disk.tells ss n j c.start.new.journal _ c.args.follower.now c.requires.leads (opens_after view g.D.Disk.tells ss n j j1 c.requires.newest c.requires.settled quiet false c.start.new.journal _
    (fresh_opens view g.D.Disk.tells ss n j1 (c.read_book.ensures.format ∙ c.requires.newest) c.read_book.ensures.settled (g.met.D.Disk.only_now j1.disk) bare c.records_are_exact.ensures c.requires.read c.scripts_are_whole.ensures c.requires.begins
    c.start.new.journal c.in-Ok-start.ensures.newest c.empty.result c.in-Ok-start.library c.in-Ok-start.ensures.library c.empty.ensures.book c.empty.ensures.placed c.empty.ensures.told c.empty.ensures.states
    c.in-Ok-start.ensures.told c.in-Ok-start.ensures.full))

pub returns-in-Ok-start-clause-own : goal.returns-in-Ok-start-clause-own
returns-in-Ok-start-clause-own g c told own =
    let n = c.args.number in
    let ss = scripts_of c.args.setup.now in
    let j = c.args.journal.now in
    let view = g.D.Disk.view in
    let j1 = c.read_book.new.journal in
    let quiet = c.read_book.ensures.quiet in
    let small : IsTrue g.D.Disk.tells → AreAllBytes (bodies_in view j) = λ told.
    (subst (λ (f : Found). WhereMade f (NotesFile newest n (bodies_in view j) c.in-Ok.read.notes (making_of view n j))) c.in-Nothing.is (noted_at view n j c.in-Ok.read.notes c.in-Ok.read.found c.requires.newest (c.in-Ok.ensures.notes told))).bytes in
    let bare : IsTrue g.D.Disk.tells → Bare n (bodies_in view j1) = λ told.
    bare_read view n j j1 c.records_are_exact.ensures (ap stored quiet.seen)
    (found_false view n j c.in-Ok.read.follows c.in-Ok.read.found found.Nothing c.if-follows.false c.in-Nothing.is (found_at view n j c.requires.newest c.in-Ok.read.follows c.in-Ok.read.found (c.in-Ok.ensures.found told))) (small told) in
    fresh_own view g.D.Disk.tells ss n j1 (c.read_book.ensures.format ∙ c.requires.newest) c.read_book.ensures.settled (g.met.D.Disk.only_now j1.disk) bare c.records_are_exact.ensures c.requires.read c.scripts_are_whole.ensures c.requires.begins
    c.start.new.journal c.in-Ok-start.ensures.newest c.empty.result c.in-Ok-start.library c.in-Ok-start.ensures.library c.empty.ensures.book c.empty.ensures.placed c.empty.ensures.told c.empty.ensures.states
    c.in-Ok-start.ensures.told c.in-Ok-start.ensures.full told

pub returns-clause-opened : goal.returns-clause-opened
returns-clause-opened g c =
    let n = c.args.number in
    let ss = scripts_of c.args.setup.now in
    let j = c.args.journal.now in
    let view = g.D.Disk.view in
    let j1 = c.read_book.new.journal in
    let quiet = c.read_book.ensures.quiet in
    let small : IsTrue g.D.Disk.tells → AreAllBytes (bodies_in view j) = λ told.
    (subst (λ (f : Found). WhereMade f (NotesFile newest n (bodies_in view j) c.in-Ok.read.notes (making_of view n j))) c.in-Nothing.is (noted_at view n j c.in-Ok.read.notes c.in-Ok.read.found c.requires.newest (c.in-Ok.ensures.notes told))).bytes in
    let bare : IsTrue g.D.Disk.tells → Bare n (bodies_in view j1) = λ told.
    bare_read view n j j1 c.records_are_exact.ensures (ap stored quiet.seen)
    (found_false view n j c.in-Ok.read.follows c.in-Ok.read.found found.Nothing c.if-follows.false c.in-Nothing.is (found_at view n j c.requires.newest c.in-Ok.read.follows c.in-Ok.read.found (c.in-Ok.ensures.found told))) (small told) in
    as_leads view g.D.Disk.tells ss n j c.start.new.journal _ c.args.follower.now c.requires.leads (opens_after view g.D.Disk.tells ss n j j1 c.requires.newest c.requires.settled quiet false c.start.new.journal _
    (refused_opens view g.D.Disk.tells ss n j1 (c.read_book.ensures.format ∙ c.requires.newest) c.read_book.ensures.settled (g.met.D.Disk.only_now j1.disk) bare c.records_are_exact.ensures c.requires.read c.scripts_are_whole.ensures c.requires.begins
    c.start.new.journal c.in-Err-start.fault c.in-Err-start.ensures.told c.in-Err-start.ensures.full))

-- what is known of the file

pub go_on-requires-clause-found : goal.go_on-requires-clause-found
go_on-requires-clause-found g c = λ told.
    let view = g.D.Disk.view in
    let n = c.args.number in
    let j = c.args.journal.now in
    let finds = found_false view n j c.in-Ok.read.follows c.in-Ok.read.found (found.Made c.in-Made.book c.in-Made.library) c.if-follows.false c.in-Made.is (found_at view n j c.requires.newest c.in-Ok.read.follows c.in-Ok.read.found (c.in-Ok.ensures.found told)) in
    found_after view g.D.Disk.tells (scripts_of c.args.setup.now) n j c.read_book.new.journal c.requires.newest c.requires.settled c.read_book.ensures.quiet
    false c.in-Made.book (library_of c.in-Made.library) c.read_book.ensures.len finds

pub go_on-requires-clause-known : goal.go_on-requires-clause-known
go_on-requires-clause-known g c = λ told.
    let view = g.D.Disk.view in
    let n = c.args.number in
    let j = c.args.journal.now in
    let finds = found_false view n j c.in-Ok.read.follows c.in-Ok.read.found (found.Made c.in-Made.book c.in-Made.library) c.if-follows.false c.in-Made.is (found_at view n j c.requires.newest c.in-Ok.read.follows c.in-Ok.read.found (c.in-Ok.ensures.found told)) in
    let known = subst (λ (f : Found). WhereMade f (NotesFile newest n (bodies_in view j) c.in-Ok.read.notes (making_of view n j))) c.in-Made.is (noted_at view n j c.in-Ok.read.notes c.in-Ok.read.found c.requires.newest (c.in-Ok.ensures.notes told)) in
    known_after view n j c.read_book.new.journal c.in-Ok.read.notes c.read_book.ensures.quiet
    (known_file view n j c.in-Ok.read.notes c.in-Made.book (library_of c.in-Made.library) finds (none_waits view n j c.in-Made.book (library_of c.in-Made.library) finds) known)

pub returns-in-Ok-start-clause-known : goal.returns-in-Ok-start-clause-known
returns-in-Ok-start-clause-known g c = λ told.
    let n = c.args.number in
    let ss = scripts_of c.args.setup.now in
    let j = c.args.journal.now in
    let view = g.D.Disk.view in
    let j1 = c.read_book.new.journal in
    let quiet = c.read_book.ensures.quiet in
    let small : IsTrue g.D.Disk.tells → AreAllBytes (bodies_in view j) = λ told.
    (subst (λ (f : Found). WhereMade f (NotesFile newest n (bodies_in view j) c.in-Ok.read.notes (making_of view n j))) c.in-Nothing.is (noted_at view n j c.in-Ok.read.notes c.in-Ok.read.found c.requires.newest (c.in-Ok.ensures.notes told))).bytes in
    let bare : IsTrue g.D.Disk.tells → Bare n (bodies_in view j1) = λ told.
    bare_read view n j j1 c.records_are_exact.ensures (ap stored quiet.seen)
    (found_false view n j c.in-Ok.read.follows c.in-Ok.read.found found.Nothing c.if-follows.false c.in-Nothing.is (found_at view n j c.requires.newest c.in-Ok.read.follows c.in-Ok.read.found (c.in-Ok.ensures.found told))) (small told) in
    fresh_known view g.D.Disk.tells ss n j1 (c.read_book.ensures.format ∙ c.requires.newest) c.read_book.ensures.settled (g.met.D.Disk.only_now j1.disk) bare c.records_are_exact.ensures c.requires.read c.scripts_are_whole.ensures c.requires.begins
    c.start.new.journal c.in-Ok-start.ensures.newest c.empty.result c.in-Ok-start.library c.in-Ok-start.ensures.library c.empty.ensures.book c.empty.ensures.placed c.empty.ensures.told c.empty.ensures.states
    c.in-Ok-start.ensures.told c.in-Ok-start.ensures.full told (subst AreAllBytes (ap stored (sym quiet.seen)) (small told)) c.start.new.notes c.in-Ok-start.ensures.notes

-- ---- a shelf that follows

pub returns-then-follows-clause-opened : goal.returns-then-follows-clause-opened
returns-then-follows-clause-opened g c =
    let all = goes_on_read g.D.Disk.view g.D.Disk.tells (scripts_of c.args.setup.now) c.args.number c.args.journal.now c.read_book.new.journal c.requires.newest c.read_book.ensures.format c.read_book.ensures.settled (g.met.D.Disk.only_now c.read_book.new.journal.disk)
    c.records_are_exact.ensures c.read_book.ensures.quiet c.read_book.ensures.len c.in-Ok.read c.if-follows.true c.go_on_fed.new.notes c.go_on_fed.result c.go_on_fed.ensures.found c.in-Ok.ensures.found c.in-Ok.ensures.in_order c.in-Ok.ensures.gives c.in-Ok.ensures.kept c.in-Ok.ensures.handed c.in-Ok.ensures.notes in
    opens_after g.D.Disk.view g.D.Disk.tells (scripts_of c.args.setup.now) c.args.number c.args.journal.now c.read_book.new.journal c.requires.newest c.requires.settled c.read_book.ensures.quiet
    true c.read_book.new.journal c.go_on_fed.result all.opened

pub returns-then-follows-clause-follows : goal.returns-then-follows-clause-follows
returns-then-follows-clause-follows g c =
    let all = goes_on_read g.D.Disk.view g.D.Disk.tells (scripts_of c.args.setup.now) c.args.number c.args.journal.now c.read_book.new.journal c.requires.newest c.read_book.ensures.format c.read_book.ensures.settled (g.met.D.Disk.only_now c.read_book.new.journal.disk)
    c.records_are_exact.ensures c.read_book.ensures.quiet c.read_book.ensures.len c.in-Ok.read c.if-follows.true c.go_on_fed.new.notes c.go_on_fed.result c.go_on_fed.ensures.found c.in-Ok.ensures.found c.in-Ok.ensures.in_order c.in-Ok.ensures.gives c.in-Ok.ensures.kept c.in-Ok.ensures.handed c.in-Ok.ensures.notes in
    rw c.follower_of.ensures all.follows

pub returns-then-follows-clause-own : goal.returns-then-follows-clause-own
returns-then-follows-clause-own g c told own =
    let all = goes_on_read g.D.Disk.view g.D.Disk.tells (scripts_of c.args.setup.now) c.args.number c.args.journal.now c.read_book.new.journal c.requires.newest c.read_book.ensures.format c.read_book.ensures.settled (g.met.D.Disk.only_now c.read_book.new.journal.disk)
    c.records_are_exact.ensures c.read_book.ensures.quiet c.read_book.ensures.len c.in-Ok.read c.if-follows.true c.go_on_fed.new.notes c.go_on_fed.result c.go_on_fed.ensures.found c.in-Ok.ensures.found c.in-Ok.ensures.in_order c.in-Ok.ensures.gives c.in-Ok.ensures.kept c.in-Ok.ensures.handed c.in-Ok.ensures.notes in
    let own_there = own_after g.D.Disk.view g.D.Disk.tells (scripts_of c.args.setup.now) c.args.number c.args.journal.now c.read_book.new.journal c.requires.newest c.requires.settled c.read_book.ensures.quiet own in
    all.own told own_there (c.in-Ok.ensures.states told (own_in g.D.Disk.view c.args.number c.args.journal.now c.requires.newest own))

pub returns-then-follows-clause-known : goal.returns-then-follows-clause-known
returns-then-follows-clause-known g c =
    let all = goes_on_read g.D.Disk.view g.D.Disk.tells (scripts_of c.args.setup.now) c.args.number c.args.journal.now c.read_book.new.journal c.requires.newest c.read_book.ensures.format c.read_book.ensures.settled (g.met.D.Disk.only_now c.read_book.new.journal.disk)
    c.records_are_exact.ensures c.read_book.ensures.quiet c.read_book.ensures.len c.in-Ok.read c.if-follows.true c.go_on_fed.new.notes c.go_on_fed.result c.go_on_fed.ensures.found c.in-Ok.ensures.found c.in-Ok.ensures.in_order c.in-Ok.ensures.gives c.in-Ok.ensures.kept c.in-Ok.ensures.handed c.in-Ok.ensures.notes in
    all.knows
