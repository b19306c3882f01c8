-- What holds of every legal history.
use Rattle.std.specs.Prelude.{◌≡◌, ◌≤◌, ◌+◌, ℕ, List, [], ◌∷◌, ◌++◌, Contains, map, length, ⊤}
use Rattle.script_value.specs.declared.outcome.TxName.{TxName}
use Rattle.script_nodes.specs.Setup.{Named}
use Rattle.replay_spec.specs.Rules.{Rules}
use Rattle.replay_spec.specs.Admission.{Place, resumes, admit}
use Rattle.replay_spec.specs.Next.{Ticket}
use Rattle.replay_spec.specs.Step.{Event, take, publish, sweep, crash, Fate, Reply, taken, swept, step}
use Rattle.replay_spec.specs.Runs.{Shelf, shelf_step, answers_to}
use Rattle.replay_spec.specs.Invariant.{AreDifferent, IsSound}
use Rattle.replay_spec.specs.Laws.{Moment, Leads, IsLawfulRun, IsSame, Leaves, IsOn, IsRefusal, without_effect}
use Rattle.replay_spec.specs.Promises.{IsAdmission}
use Rattle.history_spec.specs.Histories.{Entry, fate_by, events_of, shelf_behind, book_behind, own_of, owed_by, Owes, MayCome, IsCounted, IsNext, IsLegal, IsOpened}

-- A legal history goes on by each entry that comes next, a front of it is legal, and it stays so while the disk's count rises.
abbrev pub HistoriesGoOn : Type 0
HistoriesGoOn =
    (source : ℕ → ℕ) (opened now : ℕ) (s : Shelf) (es : List Entry)
    → ((e : Entry) → IsLegal source opened now s es → IsNext source opened now s es e → IsLegal source opened now s (es ++ e ∷ []))
    × ((e : Entry) → IsLegal source opened now s (es ++ e ∷ []) → IsNext source opened now s es e)
    × ((more : List Entry) → IsLegal source opened now s (es ++ more) → IsLegal source opened now s es)
    × ((later : ℕ) → now ≤ later → IsLegal source opened now s es → IsLegal source opened later s es)

-- The shelf after one entry more is that of one step from the shelf before it.
abbrev pub OneEntryIsAStep : Type 0
OneEntryIsAStep =
    (source : ℕ → ℕ) (s : Shelf) (es : List Entry) (e : Entry)
    → shelf_behind source s (es ++ e ∷ []) ≡ (shelf_step source (shelf_behind source s es) e.event (fate_by e.reply)).1

-- A legal history is a run of lawful events, each answered as it is there: it leads from the book after each front of it to
-- the book after the whole.
abbrev pub HistoriesAreRuns : Type 0
HistoriesAreRuns =
    (source : ℕ → ℕ) (opened now : ℕ) (s : Shelf) (es : List Entry) → IsOpened s.book → IsLegal source opened now s es
    → IsLawfulRun source (events_of es) s
    × (answers_to source (events_of es) s ≡ map (λ e. e.reply) es)
    × ((front more : List Entry) → es ≡ front ++ more → Leads (book_behind source s front) (book_behind source s es))

-- the entry of the take that gave a ticket
abbrev pub take_of : (caller : ℕ) → Ticket → Entry
take_of caller t = record { caller = caller; event = take t.target t.answer; reply = taken t.number t.nonce }

-- the ticket that an event with this reply gave, if it gave one, in front of others
abbrev pub given_by : Event → Reply → List Ticket → List Ticket
given_by (take target answer) (taken number nonce) ts = record { target = target; answer = answer; number = number; nonce = nonce } ∷ ts
given_by _ _ ts = ts

-- the tickets that were taken, whatever became of them
abbrev pub tickets_taken : List Entry → List Ticket
tickets_taken [] = []
tickets_taken (e ∷ es) = given_by e.event e.reply (tickets_taken es)

-- No number is taken twice.
abbrev pub NoNumberTakenTwice : Type 0
NoNumberTakenTwice =
    (source : ℕ → ℕ) (opened now : ℕ) (s : Shelf) (es : List Entry) → IsLegal source opened now s es
    → AreDifferent (map (λ t. t.number) (tickets_taken es))

-- Each publish is of a ticket that its caller took before, just as it was given, and no two are of one take.
abbrev pub EachPublishHasItsTake : Type 0
EachPublishHasItsTake =
    (source : ℕ → ℕ) (opened now : ℕ) (s : Shelf) (before later : List Entry) (e : Entry) (t : Ticket) → IsOpened s.book → e.event ≡ publish t
    → IsLegal source opened now s (before ++ e ∷ later)
    → Contains before (take_of e.caller t)
    × ((f : Entry) (u : Ticket) → Contains later f → f.event ≡ publish u → u.number ≡ t.number → ⊥)

-- A ticket that a caller owes by its own entries is out in the book after every legal history that has just these of the caller;
-- its target, answer and nonce are those of the one take of its number, which is the caller's.
abbrev pub WhatIsOwedIsOut : Type 0
WhatIsOwedIsOut =
    (source : ℕ → ℕ) (opened now : ℕ) (s : Shelf) (es own : List Entry) (caller : ℕ) (t : Ticket) → IsOpened s.book → IsLegal source opened now s es
    → own_of caller es ≡ own → Contains (owed_by own) t
    → Contains (book_behind source s es).out t.number
    × Contains own (take_of caller t)
    × ((e : Entry) (u : Ticket) → Contains es e → e ≡ take_of e.caller u → u.number ≡ t.number → e ≡ take_of caller t)

-- Whatever its fate is, an event that may come makes an entry, of which its fate can be read off, and the shelf after it is
-- the one that it makes: so histories leave out nothing that may happen.
abbrev pub EachEventIsAnEntry : Type 0
EachEventIsAnEntry =
    (source : ℕ → ℕ) (opened now : ℕ) (s : Shelf) (es : List Entry) (caller : ℕ) (x : Event) (fate : Fate) → MayCome caller x es
    → let next = shelf_step source (shelf_behind source s es) x fate in
    let e : Entry = record { caller = caller; event = x; reply = next.0 } in
    IsCounted opened now next.0 → IsNext source opened now s es e × (shelf_behind source s (es ++ e ∷ []) ≡ next.1)

-- the tickets have the source's nonces in turn, from this one on
abbrev pub AreInTurn : (source : ℕ → ℕ) → ℕ → List Ticket → Type 0
AreInTurn source k [] = ⊤
AreInTurn source k (t ∷ ts) = (t.nonce ≡ source k) × AreInTurn source (k + 1) ts

-- Takes are given the nonces of the source in turn, and what is left of it are those after them.
abbrev pub NoncesComeInTurn : Type 0
NoncesComeInTurn =
    (source : ℕ → ℕ) (opened now : ℕ) (s : Shelf) (es : List Entry) → IsLegal source opened now s es
    → AreInTurn source s.nonces (tickets_taken es) × ((shelf_behind source s es).nonces ≡ s.nonces + length (tickets_taken es))

-- The caller took the ticket after this front of the history, where its target was admitted. Where it is admitted still, the
-- visit is of the same page, after the same pages.
pub record WasTaken (source : ℕ → ℕ) (s : Shelf) (es : List Entry) (caller : ℕ) (t : Ticket) : Type 0 where
  pub front : List Entry
  pub rest : List Entry
  pub is : es ≡ front ++ take_of caller t ∷ rest
  pub admitted : IsAdmission (admit (book_behind source s front) t.target)
  pub same : (x y : Place) → admit (book_behind source s front) t.target ≡ resumes x → admit (book_behind source s es) t.target ≡ resumes y
      → IsSame (book_behind source s front) (book_behind source s es) x y

-- A ticket that a caller owes was taken by it where its target was admitted.
abbrev pub WhatIsOwedWasTaken : Type 0
WhatIsOwedWasTaken =
    (source : ℕ → ℕ) (opened now : ℕ) (s : Shelf) (es : List Entry) (caller : ℕ) (t : Ticket) → IsOpened s.book → IsLegal source opened now s es
    → Owes caller t es → WasTaken source s es caller t

-- what an entry meets after those before it: the rules, the next nonce, its event and its fate
abbrev pub moment_of : (source : ℕ → ℕ) → Shelf → (before : List Entry) → Entry → Moment
moment_of source s before e =
    let now = shelf_behind source s before in record { rules = now.rules; nonce = source now.nonces; event = e.event; fate = fate_by e.reply }

-- From a sound book a legal history leads to a sound one, of the same shelf.
abbrev pub BooksBehindAreSound : Type 0
BooksBehindAreSound =
    (source : ℕ → ℕ) (opened now : ℕ) (s : Shelf) (es : List Entry) → IsOpened s.book → IsSound s.book → IsLegal source opened now s es
    → IsSound (book_behind source s es) × ((book_behind source s es).shelf ≡ s.book.shelf)

-- A crash after a legal history, whatever becomes of what is in doubt, leaves a book as it may be at an opening, to which lawful
-- events lead from the book that was opened, and which is sound if that was.
abbrev pub ACrashOpens : Type 0
ACrashOpens =
    (source : ℕ → ℕ) (opened now : ℕ) (s : Shelf) (es : List Entry) (rules : Rules) (nonce : ℕ) (scripts : List Named) (fate : Fate)
    → IsOpened s.book → IsLegal source opened now s es
    → let b = (step rules (book_behind source s es) nonce (crash scripts) fate).1 in IsOpened b × Leads s.book b × (IsSound s.book → IsSound b)

-- The clock never falls, and after a sweep that was answered it is at the tick, at least.
abbrev pub TheClockNeverFalls : Type 0
TheClockNeverFalls =
    (source : ℕ → ℕ) (opened now : ℕ) (s : Shelf) (front more : List Entry) → IsOpened s.book → IsLegal source opened now s (front ++ more)
    → ((book_behind source s front).clock ≤ (book_behind source s (front ++ more)).clock)
    × ((caller tick freed : ℕ) → Contains front (record { caller = caller; event = sweep tick; reply = swept freed })
    → tick ≤ (book_behind source s (front ++ more)).clock)

-- After an entry that left a transaction no entry leaves it, of whichever caller. Each entry on a page that is inside it, or was in
-- the book after any front of the history, is refused without effect.
abbrev pub ClosedIsClosed : Type 0
ClosedIsClosed =
    (source : ℕ → ℕ) (opened now : ℕ) (s : Shelf) (before between : List Entry) (leaving next : Entry) (name : TxName)
    → let until = before ++ leaving ∷ between in
    IsOpened s.book → IsSound s.book → IsLegal source opened now s (until ++ next ∷ [])
    → Leaves name (book_behind source s before) (moment_of source s before leaving)
    → (Leaves name (book_behind source s until) (moment_of source s until next) → ⊥)
    × ((early more : List Entry) → until ≡ early ++ more → IsOn name (book_behind source s early) next.event
    → IsRefusal next.reply × (book_behind source s (until ++ next ∷ []) ≡ without_effect next.event (book_behind source s until)))
