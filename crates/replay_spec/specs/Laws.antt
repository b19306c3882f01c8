-- What holds of every run.
use Rattle.std.specs.Prelude.{◌≡◌, ◌⊎◌, ◌≤◌, ◌<◌, ◌-◌, ◌^◌, ℕ, List, [], ◌∷◌, ◌++◌, Option, Some, None, Contains, map, not, filter, ◌==◌, ◌+◌, true, length, reverse, ⊤}
use Rattle.script_value.specs.Val.{Val}
use Rattle.script_value.specs.declared.outcome.TxName.{TxName}
use Rattle.script_value.specs.declared.outcome.Refusal.TheVariants.{Unknown, Revoked, Closed}
use Rattle.script_nodes.specs.PageNames.Names.{Destination, start, page}
use Rattle.script_nodes.specs.PageNames.declared.names.PageName.{PageName}
use Rattle.instance_cells.specs.Cells.{Holds, AreOn, reads_of}
use Rattle.script_nodes.specs.Core.{AllOnCells}
use Rattle.script_nodes.specs.declared.script.SendKind.TheVariants.{Forward}
use Rattle.script_nodes.specs.Setup.{Script, Named, trees_of}
use Rattle.replay_spec.specs.Names.{Has, first_closed}
use Rattle.replay_spec.specs.Tape.{Reads, recorded, present, bound, Now, Answer, Tape, tape_behind, shows, Outcome, paged, out_of_fuel, End, got, stop}
use Rattle.replay_spec.specs.Eval.{Segment, end_of, run, unread}
use Rattle.replay_spec.specs.Book.{Page, Instance, Extension, Change, opens, extends, ends, finishes, sweeps, Work, landing, compacting, Doubt, Book, instance_at, page_at, chain, draw, spend}
use Rattle.replay_spec.specs.Rules.{Rules, empty_book}
use Rattle.replay_spec.specs.Change.{land}
use Rattle.replay_spec.specs.Compaction.{rewritten}
use Rattle.replay_spec.specs.Admission.{is_one, Place, place_at, begins, resumes, admit}
use Rattle.replay_spec.specs.Next.{Ticket, comes_to, page_visit}
use Rattle.replay_spec.specs.Step.{Event, take, publish, sweep, compact, crash, Fate, Reply, taken, shown, finished, ended, swept, compacted, disk_failed, refusal, memory, down, following, worn, Decision, replies, records, compacts, doubting, settles, gone_for, decide, publish_comes, sweep_comes, compact_comes, step}
use Rattle.replay_spec.specs.Runs.{Shelf, shelf_step, after, lands, with_change}
use Rattle.replay_spec.specs.Invariant.{Among, AreDifferent, AreAncestors, Replays, PageAt, Unused, IsOrderly, IsSound}

-- a segment is past: its reads were recorded
abbrev pub IsRecorded : Reads → Type 0
IsRecorded (recorded vs) = ⊤
IsRecorded (present cells fuel) = ⊥

-- each of the segments of these answers is past
abbrev pub ArePast : List Answer → Type 0
ArePast [] = ⊤
ArePast (a ∷ later) = IsRecorded a.segment.reads × ArePast later

-- an answer whose segment has these reads
abbrev pub reading : Reads → Answer → Answer
reading reads a = record a { segment = record a.segment { reads = reads } }

-- the end of a script over past segments and then the one of this answer, which has these reads
abbrev pub end_behind : Script → (past : List Answer) → Answer → Reads → End Val
end_behind s past a reads = end_of s (tape_behind past (reading reads a))

-- what a script comes to over past segments and then the one of this answer, which has these reads
abbrev pub run_behind : Script → (past : List Answer) → Answer → Reads → Segment
run_behind s past a reads = run s (tape_behind past (reading reads a))

-- A run whose effects over some cells hold over others comes to the same over those: its stop, names, effects and cost.
abbrev pub EffectsHoldRunSame : Type 0
EffectsHoldRunSame =
    (s : Script) (past : List Answer) (a : Answer) → ArePast past → (fuel : ℕ) (before now : List Val)
    → Holds (run_behind s past a (present before fuel)).effects now
    → run_behind s past a (present now fuel) ≡ run_behind s past a (present before fuel)

-- A publish may take what the first run came to, over whatever cells, where its effects hold over the cells of now.
abbrev pub AHeldRunIsNext : Type 0
AHeldRunIsNext =
    (rules : Rules) (b : Book) (t : Ticket) (at : Place) (before : List Val)
    → let first = comes_to (page_visit b t at) (present before rules.fuel) in
    Holds first.effects at.instance.cells
    → decide rules b t (resumes at) ≡ settles rules b (gone_for rules t at) (page_visit b t at) first

-- The effects of a run are on the cells that its script names.
abbrev pub EffectsAreOnCells : Type 0
EffectsAreOnCells = (s : Script) (t : Tape) (web cells : ℕ) → AllOnCells web cells (trees_of s) → AreOn cells (run s t).effects

-- a run stops with a page
abbrev pub Pages : Outcome → Type 0
Pages (paged how bytes) = ⊤
Pages _ = ⊥

-- a run stops with a page that waits for an answer
abbrev pub Waits : Outcome → Type 0
Waits (paged (shows kind) bytes) = ⊤
Waits _ = ⊥

-- a run stops with a page or a fault, and not for want of fuel
abbrev pub IsInFuel : Outcome → Type 0
IsInFuel (out_of_fuel cost) = ⊥
IsInFuel _ = ⊤

-- A run that stops with a page over cells stops with it again over what it read, at the same cost and inside the same
-- transactions, and notes nothing; where the page waits for an answer, it reads just this of what is recorded.
abbrev pub RecordedIsPresent : Type 0
RecordedIsPresent =
    (s : Script) (past : List Answer) (a : Answer) → ArePast past → (fuel : ℕ) (cells more : List Val)
    → let first = run_behind s past a (present cells fuel) in
    let again = recorded (reads_of first.effects ++ more) in
    (Pages first.outcome → run_behind s past a again ≡ record first { effects = [] })
    × (Waits first.outcome → unread (end_behind s past a again) ≡ more)

-- A run that does not end for want of fuel comes to the same under more.
abbrev pub MoreFuelIsTheSame : Type 0
MoreFuelIsTheSame =
    (s : Script) (past : List Answer) (a : Answer) → ArePast past → (fuel more : ℕ) (cells : List Val) → fuel ≤ more
    → IsInFuel (run_behind s past a (present cells fuel)).outcome
    → run_behind s past a (present cells more) ≡ run_behind s past a (present cells fuel)

-- each of these transactions was entered by the segment of this number
abbrev pub AreOf : ℕ → List TxName → Type 0
AreOf n [] = ⊤
AreOf n (t ∷ ts) = (t.ticket ≡ n) × AreOf n ts

-- these transactions are all different
abbrev pub Distinct : List TxName → Type 0
Distinct [] = ⊤
Distinct (t ∷ ts) = (Has ts t → ⊥) × Distinct ts

-- a cost that a segment's bound allows
abbrev pub Affords : Option ℕ → ℕ → Type 0
Affords None cost = ⊤
Affords (Some fuel) cost = cost ≤ fuel

-- A segment stopped that went on inside these transactions: it kept the outer ones, and stands inside these and those that it
-- entered, which differ, since each was paid, as long as the count of entries can't stand still. It left the others, but for
-- what has its own number. It stopped within its fuel, unless it stopped for want of it.
pub record IsWithin (names : List TxName) (now : Now) (s : Segment) : Type 0 where
  pub kept : List TxName
  pub gone : List TxName
  pub own : List TxName
  pub cut : names ≡ kept ++ gone
  pub is : s.entered ≡ kept ++ own
  pub of_it : AreOf now.number own
  pub distinct : s.cost < 2 ^ 32 - 1 → Distinct own
  pub left : (t : TxName) → Has s.left t → Has gone t
  pub all_left : (t : TxName) → Has gone t → (t.ticket ≡ now.number → ⊥) → Has s.left t
  pub paid : IsInFuel s.outcome → Affords (bound now.reads) s.cost

-- a tape with one more answer
abbrev pub longer : Answer → Tape → Tape
longer a t = record t { later = t.later ++ a ∷ [] }

-- A script starts inside no transaction, and goes on inside those of the page that was answered.
abbrev pub NamesFollow : Type 0
NamesFollow =
    (s : Script)
    → ((now : Now) → IsWithin [] now (run s (record { first = now; later = [] })))
    × ((t : Tape) (a : Answer) → Waits (run s t).outcome → IsWithin (run s t).entered a.segment (run s (longer a t)))

-- a publish spends a number that was taken and not published yet
abbrev pub IsLawful : Event → Book → Type 0
IsLawful (publish t) b = Contains b.out t.number
IsLawful _ b = ⊤

-- what an event meets: the rules that the shelf was opened under, the next nonce, the event itself and its fate
pub record Moment : Type 0 where
  pub rules : Rules
  pub nonce : ℕ
  pub event : Event
  pub fate : Fate

-- the book after one moment
abbrev pub then_book : Moment → Book → Book
then_book m b = (step m.rules b m.nonce m.event m.fate).1

-- the book after these moments
abbrev pub book_after : List Moment → Book → Book
book_after [] b = b
book_after (m ∷ ms) b = book_after ms (then_book m b)

-- Each of these events is lawful where it comes. The rules may change whenever a shelf is opened, and the setup at each
-- crash.
abbrev pub AreLawful : List Moment → Book → Type 0
AreLawful [] b = ⊤
AreLawful (m ∷ ms) b = IsLawful m.event b × AreLawful ms (then_book m b)

-- lawful events lead from a book to another
pub record Leads (b c : Book) : Type 0 where
  pub moments : List Moment
  pub lawful : AreLawful moments b
  pub there : book_after moments b ≡ c

-- what the events of a shelf meet, whose source gives these nonces
abbrev pub moments_of : (source : ℕ → ℕ) → List (Event × Fate) → Shelf → List Moment
moments_of source [] s = []
moments_of source (x ∷ xs) s =
    record { rules = s.rules; nonce = source s.nonces; event = x.0; fate = x.1 } ∷ moments_of source xs (shelf_step source s x.0 x.1).1

-- each publish of these spends a number that is out
abbrev pub IsLawfulRun : (source : ℕ → ℕ) → List (Event × Fate) → Shelf → Type 0
IsLawfulRun source xs s = AreLawful (moments_of source xs s) s.book

-- lawful events lead to a book from an empty one of this shelf
pub record IsReached (shelf : ℕ) (b : Book) : Type 0 where
  pub rules : Rules
  pub scripts : List Named
  pub from : Leads (empty_book rules scripts shelf) b

-- An empty book is orderly; each lawful event keeps a book orderly, of its shelf, with fewer unused numbers.
abbrev pub OrderlyBooksStay : Type 0
OrderlyBooksStay =
    ((rules : Rules) (scripts : List Named) (shelf : ℕ) → IsOrderly (empty_book rules scripts shelf))
    × ((b c : Book) → IsOrderly b → Leads b c → IsOrderly c × (c.shelf ≡ b.shelf) × ((n : ℕ) → Unused c n → Unused b n))

-- An empty book is sound, and each lawful event keeps a sound book sound.
abbrev pub SoundBooksStay : Type 0
SoundBooksStay =
    ((rules : Rules) (scripts : List Named) (shelf : ℕ) → IsSound (empty_book rules scripts shelf))
    × ((b c : Book) → IsSound b → Leads b c → IsSound c)

-- Each book that is reached is sound, and of its shelf; what is reached from it has fewer unused numbers, and each run
-- of a shelf reaches its last book.
abbrev pub ReachedBooksAreSound : Type 0
ReachedBooksAreSound =
    (shelf : ℕ) (b : Book) → IsReached shelf b
    → (IsSound b × (b.shelf ≡ shelf))
    × ((c : Book) → Leads b c → IsReached shelf c × ((n : ℕ) → Unused c n → Unused b n))
    × ((source : ℕ → ℕ) (xs : List (Event × Fate)) (s : Shelf) → s.book ≡ b → IsLawfulRun source xs s → IsReached shelf (after source xs s).book)

-- Each instance has as many cells as its script.
abbrev pub EachHasItsCells : Type 0
EachHasItsCells =
    (b : Book) → IsOrderly b → (k : ℕ) (i : Instance) → instance_at k b.instances ≡ Some i
    → length i.cells ≡ length i.script.script.cells

-- The chain of a page is all of its ancestors from the root on, and then the page, and it replays.
abbrev pub EachChainReplays : Type 0
EachChainReplays =
    (b : Book) → IsSound b
    → (k n : ℕ) (i : Instance) (p : Page) → instance_at k b.instances ≡ Some i → page_at n i.pages ≡ Some p
    → (ancestors : List Page) × (AreAncestors i.pages p ancestors × (chain i.pages p ≡ reverse (p ∷ ancestors)) × Replays i.script b.shelf i.number ancestors p)

-- two places are of the same page, after the same pages, whatever is the answer to it
pub record IsSame (b c : Book) (x y : Place) : Type 0 where
  pub page : y.page ≡ x.page
  pub visit : (t : Ticket) → page_visit b t x ≡ page_visit c t y

-- A page that was shown stands as long as its instance does, after the pages that it came after, whatever was visited
-- since, also in crashes: what may end it is why it can't be answered, or that its instance is freed.
abbrev pub PagesStay : Type 0
PagesStay =
    (b c : Book) → IsOrderly b → Leads b c → (name : List ℕ) (n : PageName) (x : Place) → place_at b name n ≡ Some x
    → (instance_at n.instance c.instances ≡ None) ⊎ ((y : Place) × ((place_at c name n ≡ Some y) × IsSame b c x y))

-- a take that is answered `taken` draws the next number and the next nonce, and one that is not leaves the book
abbrev pub Takes : Book → (nonce : ℕ) → Reply → Book → Type 0
Takes b nonce (taken n m) c = (n ≡ b.drawn) × (m ≡ nonce) × (c ≡ draw b)
Takes b nonce _ c = c ≡ b

-- the change that was decided landed in the book
pub record Lands (rules : Rules) (b : Book) (d : Decision) (r : Reply) (c : Book) : Type 0 where
  pub change : Change
  pub inside : List TxName
  pub decided : d ≡ records r change inside
  pub landed : c ≡ land rules change inside b

-- the work that a decision asks for, unless it is to reply alone
abbrev pub work_of : Decision → Option Work
work_of (replies r) = None
work_of (records r c inside) = Some (landing c inside)
work_of (compacts r) = Some compacting

-- the work that was decided is in doubt in the book, with this count
pub record Doubts (b : Book) (d : Decision) (count : ℕ) (c : Book) : Type 0 where
  pub work : Work
  pub decided : work_of d ≡ Some work
  pub left : c ≡ doubting count work b

-- What shows a page lands what was decided, and so does a sweep. A compaction makes another file, as was decided. What ends or
-- finishes lands it, if it was to be recorded. The disk's fault leaves in doubt what was decided, with the count that it tells. All
-- else leaves the book.
abbrev pub Spares : Rules → Book → Decision → Reply → Book → Type 0
Spares rules b d (shown bytes url) c = Lands rules b d (shown bytes url) c
Spares rules b d (swept n) c = Lands rules b d (swept n) c
Spares rules b d (finished bytes) c = Lands rules b d (finished bytes) c ⊎ ((d ≡ replies (finished bytes)) × (c ≡ b))
Spares rules b d (ended bytes) c = Lands rules b d (ended bytes) c ⊎ ((d ≡ replies (ended bytes)) × (c ≡ b))
Spares rules b d (compacted n) c = (d ≡ compacts (compacted n)) × (c ≡ rewritten rules b)
Spares rules b d (disk_failed count) c = Doubts b d count c
Spares rules b d _ c = c ≡ b

-- A take that is not answered `taken` changes nothing. A publish that neither shows a page nor ends only spends its number. A
-- sweep or a compaction that is refused changes nothing, and a sweep to a tick that is over does nothing.
abbrev pub RefusedIsUnchanged : Type 0
RefusedIsUnchanged =
    (rules : Rules) (b : Book) (nonce : ℕ) (fate : Fate)
    → ((target : Destination) (answer : Val)
    → Takes b nonce (step rules b nonce (take target answer) fate).0 (step rules b nonce (take target answer) fate).1)
    × ((t : Ticket) → Spares rules (spend t.number b) (publish_comes rules b t) (step rules b nonce (publish t) fate).0 (step rules b nonce (publish t) fate).1)
    × ((tick : ℕ) → b.clock < tick → Spares rules b (sweep_comes rules b tick) (step rules b nonce (sweep tick) fate).0 (step rules b nonce (sweep tick) fate).1)
    × ((tick : ℕ) → tick ≤ b.clock → step rules b nonce (sweep tick) fate ≡ (swept 0, b))
    × Spares rules b (compact_comes rules b) (step rules b nonce compact fate).0 (step rules b nonce compact fate).1

-- a start changes nothing unless it shows a page
abbrev pub Opens : Decision → Type 0
Opens (records (shown bytes url) (opens o) inside) = ⊤
Opens (records r c inside) = ⊥
Opens (compacts r) = ⊥
Opens (replies (shown bytes url)) = ⊥
Opens (replies r) = ⊤

-- the publish of a start opens an instance with a page, or changes nothing
abbrev pub AStartOpensOrLeaves : Type 0
AStartOpensOrLeaves = (rules : Rules) (b : Book) (t : Ticket) (k : ℕ) (s : Named) → Opens (decide rules b t (begins k s))

-- the transactions that a page is inside
abbrev pub names_of : Option Page → List TxName
names_of None = []
names_of (Some p) = p.inside

-- the transactions that the page of this number is inside, if it is in this instance
abbrev pub names_in : ℕ → Option Instance → List TxName
names_in n None = []
names_in n (Some i) = names_of (page_at n i.pages)

-- the transactions that the page of a target is inside
abbrev pub names_at : Book → Destination → List TxName
names_at b (start name) = []
names_at b (page name n) = names_in n.page (instance_at n.instance b.instances)

-- the transactions that a change closes: those that its segment left; and where it frees the instance, all that its page was
-- inside
abbrev pub closes : List Instance → Change → List TxName
closes is (opens o) = o.left
closes is (extends x) = x.left
closes is (ends e) = e.left
closes is (finishes f) = names_in f.page (instance_at f.instance is)
closes is (sweeps tick) = []

-- the transactions that a change closes, if there is one
abbrev pub closed_by : List Instance → Option Change → List TxName
closed_by is None = []
closed_by is (Some c) = closes is c

-- the event lands a change that closes the transaction
abbrev pub Leaves : TxName → Book → Moment → Type 0
Leaves name b m = Has (closed_by b.instances (lands m.rules b m.event m.fate)) name

-- the event is on a page inside the transaction
abbrev pub IsOn : TxName → Book → Event → Type 0
IsOn name b (take target answer) = Has (names_at b target) name
IsOn name b (publish t) = Has (names_at b t.target) name
IsOn name b _ = ⊥

-- a reply that an event on a page inside a closed transaction may have
abbrev pub IsRefusal : Reply → Type 0
IsRefusal (refusal Unknown) = ⊤
IsRefusal (refusal Revoked) = ⊤
IsRefusal (refusal (Closed t)) = ⊤
IsRefusal memory = ⊤
IsRefusal (down count) = ⊤
IsRefusal following = ⊤
IsRefusal worn = ⊤
IsRefusal _ = ⊥

-- the book where an event has no effect: a publish spends its number
abbrev pub without_effect : Event → Book → Book
without_effect (publish t) b = spend t.number b
without_effect _ b = b

-- After an event that left a transaction no event leaves it, and each on a page that is inside it, or was in any book before,
-- is refused without effect.
abbrev pub ClosedIsClosed : Type 0
ClosedIsClosed =
    (b c : Book) (leaving next : Moment) (name : TxName) → IsSound b → IsLawful leaving.event b → Leaves name b leaving
    → Leads (then_book leaving b) c
    → (Leaves name c next → ⊥)
    × ((a : Book) → IsSound a → Leads a c → IsOn name a next.event
    → IsRefusal (step next.rules c next.nonce next.event next.fate).0 × (then_book next c ≡ without_effect next.event c))

-- the transactions that the page of a change in doubt is inside
abbrev pub names_in_doubt : Work → List TxName
names_in_doubt (landing c inside) = inside
names_in_doubt compacting = []

-- each page's names are all different, and so are those that a page in doubt would be inside
pub record NamesDiffer (b : Book) : Type 0 where
  pub pages : (k n : ℕ) (i : Instance) (p : Page) → instance_at k b.instances ≡ Some i → page_at n i.pages ≡ Some p → Distinct p.inside
  pub doubt : (d : Doubt) → b.down ≡ Some d → Distinct (names_in_doubt d.work)

-- each of these moments has fuel that is too little for the count of a segment's transactions to stand still
abbrev pub AreShort : List Moment → Type 0
AreShort [] = ⊤
AreShort (m ∷ ms) = (m.rules.fuel < 2 ^ 32 - 1) × AreShort ms

-- Where fuel is too little for the count of a segment's transactions to stand still, the names in a book go on to differ.
abbrev pub NamesStayDifferent : Type 0
NamesStayDifferent =
    ((rules : Rules) (scripts : List Named) (shelf : ℕ) → NamesDiffer (empty_book rules scripts shelf))
    × ((b : Book) (ms : List Moment) → IsSound b → NamesDiffer b → AreLawful ms b → AreShort ms → NamesDiffer (book_after ms b))

-- Where the names in a book differ, a page is inside no closed transaction when it is shown, those included that its own segment
-- left.
abbrev pub ShownIsOpen : Type 0
ShownIsOpen =
    (rules : Rules) (b : Book) (t : Ticket) (at : Place) → IsSound b → NamesDiffer b → IsLawful (publish t) b → admit b t.target ≡ resumes at
    → let o = comes_to (page_visit b t at) (present at.instance.cells rules.fuel) in
    first_closed (at.instance.closed ++ o.left) o.entered ≡ None

-- the instance of this number has revoked the page of this number
pub record RevokedIn (is : List Instance) (k n : ℕ) : Type 0 where
  pub instance : Instance
  pub found : instance_at k is ≡ Some instance
  pub revoked : is_one n instance.revoked ≡ true

-- the event lands an answer to a page of this instance with a page that forwards
pub record Forwards (rules : Rules) (b : Book) (event : Event) (fate : Fate) (k : ℕ) : Type 0 where
  pub extension : Extension
  pub lands : lands rules b event fate ≡ Some (extends extension)
  pub here : extension.instance ≡ k
  pub forward : extension.kind ≡ Forward

-- What revokes a page is a forward of its instance, and it revokes every page that is there, and not the one that it
-- shows. A revoked page stays revoked as long as its instance stands.
abbrev pub AForwardRevokes : Type 0
AForwardRevokes =
    (rules : Rules) (b : Book) (nonce : ℕ) (event : Event) (fate : Fate) → IsSound b → IsLawful event b → (k n : ℕ)
    → let c = (step rules b nonce event fate).1 in
    (RevokedIn c.instances k n → RevokedIn b.instances k n ⊎ Forwards rules b event fate k)
    × ((p : Page) → PageAt b.instances k n p → Forwards rules b event fate k → RevokedIn c.instances k n)
    × ((f : Forwards rules b event fate k) → RevokedIn c.instances k f.extension.number → ⊥)
    × ((p : Page) → PageAt b.instances k n p → RevokedIn b.instances k n → (instance_at k c.instances ≡ None) ⊎ RevokedIn c.instances k n)

-- the changes that these moments land: the records that they leave
abbrev pub changes_of : List Moment → Book → List Change
changes_of [] b = []
changes_of (m ∷ ms) b = with_change (lands m.rules b m.event m.fate) (changes_of ms (then_book m b))

-- the numbers of the segments that changed the book
abbrev pub numbers_of : List Change → List ℕ
numbers_of [] = []
numbers_of (opens o ∷ cs) = o.number ∷ numbers_of cs
numbers_of (extends x ∷ cs) = x.number ∷ numbers_of cs
numbers_of (ends e ∷ cs) = e.number ∷ numbers_of cs
numbers_of (finishes f ∷ cs) = f.number ∷ numbers_of cs
numbers_of (sweeps tick ∷ cs) = numbers_of cs

-- No number is used twice, also over crashes: the segments that change a book have different numbers, and ones that were
-- unused before.
abbrev pub NoNumberTwice : Type 0
NoNumberTwice =
    (ms : List Moment) (b : Book) → IsOrderly b → AreLawful ms b
    → AreDifferent (numbers_of (changes_of ms b)) × ((n : ℕ) → Among n (numbers_of (changes_of ms b)) → Unused b n)

-- The tickets that are out, each with the target, answer and nonce of its take: a take that is answered `taken` gives one, a
-- publish spends that of its number, and a crash loses all.
abbrev pub tickets_by : Event → Reply → List Ticket → List Ticket
tickets_by (take target answer) (taken number nonce) ts = ts ++ record { target = target; answer = answer; number = number; nonce = nonce } ∷ []
tickets_by (publish t) r ts = filter (λ u. not (u.number == t.number)) ts
tickets_by (crash scripts) r ts = []
tickets_by _ _ ts = ts

-- the tickets that are out after these moments
abbrev pub tickets_over : List Moment → Book → List Ticket → List Ticket
tickets_over [] b ts = ts
tickets_over (m ∷ ms) b ts = tickets_over ms (then_book m b) (tickets_by m.event (step m.rules b m.nonce m.event m.fate).0 ts)

-- The numbers of the tickets that are out are those that are out in the book, and are all different.
abbrev pub TicketsAreOut : Type 0
TicketsAreOut =
    (ms : List Moment) (b : Book) (ts : List Ticket) → IsOrderly b → AreLawful ms b
    → map (λ t. t.number) ts ≡ b.out
    → (map (λ t. t.number) (tickets_over ms b ts) ≡ (book_after ms b).out) × AreDifferent (book_after ms b).out

-- the web cells rise from this one, each bound once
abbrev pub Rise : ℕ → List (ℕ × Val) → Type 0
Rise low [] = ⊤
Rise low (s ∷ ss) = (low ≤ s.0) × Rise (s.0 + 1) ss

-- the bindings of web cells where a run gave its value or stopped
abbrev pub shadows_at : End Val → List (ℕ × Val)
shadows_at (got v state) = state.shadows
shadows_at (stop o entered state) = state.shadows

-- The bindings of web cells rise in every run, each cell bound once.
abbrev pub ShadowsRise : Type 0
ShadowsRise = (s : Script) (t : Tape) → Rise 0 (shadows_at (end_of s t))
