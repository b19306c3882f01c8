-- What a yes of an audit means.
use Rattle.std.specs.Prelude.{◌≡◌, ◌⊎◌, ◌<◌, ◌+◌, ℕ, List, [], ◌∷◌, ◌++◌, length, Option, Some, None, false, slice_get, ⊤}
use Rattle.script_value.specs.Val.{Val}
use Rattle.script_value.specs.declared.outcome.TxName.{TxName}
use Rattle.page_names.specs.Names.{Destination, start, page}
use Rattle.script_nodes.specs.Setup.{Named, place_named}
use Rattle.replay_spec.specs.Tape.{present, Outcome, paged}
use Rattle.replay_spec.specs.Tape as tape
use Rattle.replay_spec.specs.Book.{Change, opens, extends, ends, finishes, sweeps, Book, reopened}
use Rattle.replay_spec.specs.Rules.{Rules}
use Rattle.replay_spec.specs.Change.{land}
use Rattle.replay_spec.specs.Admission.{◌>>=◌, Place}
use Rattle.replay_spec.specs.Next.{Ticket, Visit, comes_to}
use Rattle.replay_spec.specs.Step.{Reply, records, publish_comes}
use Rattle.replay_spec.specs.Recovery.{page_of_numbers, of_length}
use Rattle.replay_spec.specs.Invariant.{AreDifferent, IsSound}
use Rattle.replay_spec.specs.Laws.{Moment, book_after, AreLawful, numbers_of}
use Rattle.replay_spec.specs.Remade.{NameTheirCells}
use Rattle.server_limits.specs.Limits.{most_fuel, IsLife}
use Rattle.journal_records.specs.Records.{Record, changes}
use Rattle.journal_records.specs.Old.{read_record_in}
use Rattle.journal_spec.specs.Before.{Made}
use Rattle.journal_spec.specs.Lengths.{own_told}
use Rattle.journal_spec.specs.Making.{Texts, made, waited, made_in}
use Rattle.journal_spec.specs.Old.{told_of, change_next, book_of_format}
use Rattle.journal_spec.specs.Opening.{ReadsWhole, opened_book}
use Rattle.journal_spec.specs.Whole.{IsWhole, AreWhole, HasOwnStates}
use Rattle.journal_spec.specs.Owning.{AreOwnIn}
use Rattle.audit_spec.specs.Findings.{yes, shelf_in, audited}

-- ---- setups

-- each script of a setup is the first one of its name
abbrev pub AreApart : List Named → Type 0
AreApart scripts = (k : ℕ) (s : Named) → slice_get scripts k ≡ Some s → place_named s.name scripts ≡ Some k

-- each setup that is read can be run, and no name stands twice in it
pub record ReadsSetups (texts : Texts) : Type 0 where
  pub whole : ReadsWhole texts
  pub apart : (named : List (List ℕ × List ℕ)) (scripts : List Named) → texts named ≡ Some scripts → AreApart scripts

-- ---- requests

-- the name that a page's URL tells
abbrev pub target_at : Book → Place → Destination
target_at b at =
    page at.instance.script.name (record { shelf = b.shelf; instance = at.instance.number; page = at.page.number; nonce = at.page.nonce })

-- the name of the page that stands under these numbers, if one does
abbrev pub target_of_numbers : Book → (instance number : ℕ) → Option Destination
target_of_numbers b instance number = do
  at ← page_of_numbers b instance number
  Some (target_at b at)

-- what the request asked for that a change tells of: the start of a script, or a page; none for a tick, and where no such script or page is there
abbrev pub target_of : Book → Change → Option Destination
target_of b (opens o) = do
  s ← slice_get b.scripts o.script
  Some (start s.name)
target_of b (extends x) = target_of_numbers b x.instance x.page
target_of b (ends e) = target_of_numbers b e.instance e.page
target_of b (finishes f) = target_of_numbers b f.instance f.page
target_of b (sweeps tick) = None

-- A ticket has what a change tells of its request: the number; the answer, where a page was answered; and the nonce, where a page was shown.
abbrev pub IsTold : Change → Ticket → Type 0
IsTold (opens o) t = (t.number ≡ o.number) × (t.nonce ≡ o.nonce)
IsTold (extends x) t = (t.answer ≡ x.answer) × (t.number ≡ x.number) × (t.nonce ≡ x.nonce)
IsTold (ends e) t = (t.answer ≡ e.answer) × (t.number ≡ e.number)
IsTold (finishes f) t = (t.answer ≡ f.answer) × (t.number ≡ f.number)
IsTold (sweeps tick) t = ⊤

-- The rules of a shelf under this life and this limit of pages, with the most fuel that a shelf may have, room for one more instance, and no
-- journal whose limits a record could meet.
abbrev pub free_rules : (life limit : ℕ) → Book → Rules
free_rules life limit b = record { fuel = most_fuel; life = life; instances = length b.instances + 1; pages = limit; journal = None }

-- ---- records

-- the book of a shelf, as that of one that does not follow another one's journal
abbrev pub unfed : Book → Book
unfed b = record b { follows = false }

-- This change, whose page is inside these transactions, is what a publish writes on this book for an admitted request with all that the change
-- tells, under some life that a shelf may have and some limit of pages. A shelf that follows another one's journal has the records that this one
-- wrote.
pub record IsPublished (b : Book) (c : Change) (inside : List TxName) : Type 0 where
  pub target : Destination
  pub asked : target_of b c ≡ Some target
  pub life : ℕ
  pub lives : IsLife life
  pub limit : ℕ
  pub room : 0 < limit
  pub decided : (t : Ticket) → t.target ≡ target → IsTold c t → (r : Reply) × (publish_comes (free_rules life limit b) (unfed b) t ≡ records r c inside)

-- a tick is above the clock, and any other change is published
abbrev pub IsDecided : Book → Change → (inside : List TxName) → Type 0
IsDecided b (sweeps tick) inside = b.clock < tick
IsDecided b c inside = IsPublished b c inside

-- What a record of a change tells after others. It is none that is passed over: after it stands the book of the shelf that carried out what was
-- decided. Its page has the state that the page's chain leaves.
pub record IsLawfulChange (format : ℕ) (m : Made) (c : Change) (state : Option (List ℕ)) : Type 0 where
  pub inside : List TxName
  pub decided : IsDecided m.book c inside
  pub carried : (place size : ℕ)
      → (k : Made) × ((change_next format place size m c state ≡ made k) × (k.book ≡ reopened (land (of_length size) c inside m.book)))
  pub own : told_of format m c state ≡ own_told m.book c

-- a record that tells of a change tells of one that is lawful after others
abbrev pub IsLawfulRecord : (format : ℕ) → Made → Option Record → Type 0
IsLawfulRecord format m (Some (changes c state)) = IsLawfulChange format m c state
IsLawfulRecord format m _ = ⊤

-- a fact of each record of these bodies of a format, on what those before it make
abbrev pub OfEachIn : (Made → Option Record → Type 0) → (format : ℕ) → Texts → (shelf : ℕ) → List (List ℕ) → Type 0
OfEachIn P format texts shelf bodies =
    (front rest : List (List ℕ)) (body : List ℕ) (m : Made) → bodies ≡ front ++ body ∷ rest → made_in (book_of_format format texts shelf front) ≡ Some m
    → P m (read_record_in format body)

-- the change that a record tells of, if it is one of a change
abbrev pub told_change : Option Record → List Change
told_change (Some (changes c state)) = c ∷ []
told_change _ = []

-- the changes that these bodies tell of
abbrev pub changes_in : (format : ℕ) → List (List ℕ) → List Change
changes_in format [] = []
changes_in format (body ∷ bodies) = told_change (read_record_in format body) ++ changes_in format bodies

-- The first ones of these bodies make a book, however many, unless they tell alone that a shelf followed another one's journal and does so no
-- longer. Each record is lawful after those before it, and no number stands twice in them.
pub record AreLawfulBodies (format : ℕ) (texts : Texts) (shelf : ℕ) (bodies : List (List ℕ)) : Type 0 where
  pub makes : (first : List ℕ) (front rest : List (List ℕ)) → bodies ≡ (first ∷ front) ++ rest
      → (book_of_format format texts shelf (first ∷ front) ≡ waited) ⊎ ((m : Made) × (made_in (book_of_format format texts shelf (first ∷ front)) ≡ Some m))
  pub each : OfEachIn (IsLawfulRecord format) format texts shelf bodies
  pub different : AreDifferent (numbers_of (changes_in format bodies))

-- ---- laws

-- A yes means, wherever the bytes come from, that each change was published for an admitted request on the book of the records before it, that no
-- number stands twice, that each sweep raised the clock, and that each state is that of its page's chain; and it counts the records.
abbrev pub AYesMeansPublished : Type 0
AYesMeansPublished =
    (format : ℕ) (texts : Texts) (bodies : List (List ℕ)) (n : ℕ) → ReadsSetups texts → audited format texts bodies ≡ yes n
    → AreLawfulBodies format texts (shelf_in format bodies) bodies × (n ≡ length bodies)

-- a run is over: it stops with a last page, or with one that frees the instance
abbrev pub IsOver : Outcome → Type 0
IsOver (paged tape.ends bytes) = ⊤
IsOver (paged tape.finishes bytes) = ⊤
IsOver _ = ⊥

-- a visit under another nonce
abbrev pub under_nonce : (nonce : ℕ) → Visit → Visit
under_nonce nonce v = record v { ticket = record v.ticket { nonce = nonce } }

-- What a segment comes to that is over is the same under each nonce, which the records of such segments do not tell: the URL of its page is seen
-- in a page alone that waits for an answer.
abbrev pub LastPagesHideTheirUrl : Type 0
LastPagesHideTheirUrl =
    (v : Visit) (nonce fuel : ℕ) (cells : List Val) → IsWhole v.script → IsOver (comes_to v (present cells fuel)).outcome
    → comes_to (under_nonce nonce v) (present cells fuel) ≡ comes_to v (present cells fuel)

-- The book that an audited file makes is sound, as one that a shelf's own run leads to, and each page that stands in it has the state of its
-- chain.
abbrev pub AYesMakesSoundBooks : Type 0
AYesMakesSoundBooks =
    (format : ℕ) (texts : Texts) (bodies : List (List ℕ)) (n : ℕ) (m : Made) → ReadsSetups texts → audited format texts bodies ≡ yes n
    → made_in (book_of_format format texts (shelf_in format bodies) bodies) ≡ Some m
    → IsSound m.book × HasOwnStates m.earlier m.book

-- what the laws of runs ask of a book: it is sound, its scripts name cells that they have, and nothing is in doubt
pub record CanGoOn (b : Book) : Type 0 where
  pub sound : IsSound b
  pub named : NameTheirCells b
  pub up : b.down ≡ None

-- A shelf that is opened on an audited file, with whichever setup, can go on, and stays sound whatever comes.
abbrev pub AuditedJournalsGoOn : Type 0
AuditedJournalsGoOn =
    (format : ℕ) (texts : Texts) (bodies : List (List ℕ)) (n : ℕ) (m : Made) (scripts : List Named) → ReadsSetups texts → AreWhole scripts
    → audited format texts bodies ≡ yes n → made_in (book_of_format format texts (shelf_in format bodies) bodies) ≡ Some m
    → let b = opened_book (shelf_in format bodies) scripts m.book in
    CanGoOn b × ((ms : List Moment) → AreLawful ms b → IsSound (book_after ms b))

-- The states of an audited file are those of its pages' chains, for whichever shelf it is read: for another one than its own nothing is told.
abbrev pub AYesIsAnOwnImage : Type 0
AYesIsAnOwnImage =
    (format : ℕ) (texts : Texts) (bodies : List (List ℕ)) (n : ℕ) → audited format texts bodies ≡ yes n
    → (shelf : ℕ) → AreOwnIn format texts shelf bodies
