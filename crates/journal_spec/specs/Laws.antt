-- What holds of journals and of the books that they make.
use Rattle.std.specs.Prelude.{◌≡◌, ◌⊎◌, ℕ, ◌≤◌, ◌^◌, List, ◌∷◌, [], ◌++◌, length, Option, Some, None, Bool, true, false, option_map, ⊤}
use Rattle.script_value.specs.declared.outcome.TxName.{TxName}
use Rattle.script_nodes.specs.Setup.{Named}
use Rattle.page_journal.specs.Records.{newest, is_format, at_rest}
use Rattle.page_journal.specs.Holding.{Holdable}
use Rattle.replay_spec.specs.Book.{Change, Book, reopened, are_same}
use Rattle.replay_spec.specs.Rules.{Rules, empty_book}
use Rattle.replay_spec.specs.Step.{Event, crash, Fate, lost, kept, recovered, step}
use Rattle.replay_spec.specs.Runs.{lands}
use Rattle.replay_spec.specs.Recovery.{number_in}
use Rattle.replay_spec.specs.Laws.{IsLawful, Moment, AreLawful, book_after}
use Rattle.journal_records.specs.Records.{Record, begins, changes, follows, promotes, IsInGrammar, begin_of}
use Rattle.replay_spec.specs.Compaction.{compaction, file_length}
use Rattle.journal_spec.specs.Before.{Made}
use Rattle.journal_spec.specs.Lengths.{own_body}
use Rattle.journal_spec.specs.Making.{Texts, nothing, begun, damaged, other, began, first_by, start_by, fed_by, made_in, book_of}
use Rattle.journal_spec.specs.Old.{book_of_format}
use Rattle.journal_spec.specs.Opening.{IsRead, IsReadUnlessFed, ReadsAsTold, ReadsWhole, first_body, renewal_body, opening_bodies, opened_book, opened_on}
use Rattle.journal_spec.specs.Whole.{HasWholeScripts, HasOwnStates}
use Rattle.journal_spec.specs.Events.{IsGiven, Gives}
use Rattle.journal_spec.specs.Owning.{AreOwn, AreLanded, IsOwnBefore}
use Rattle.journal_spec.specs.Reading.{AreAllBytes}
use Rattle.journal_spec.specs.Copying.{copies, IsMigrated, IsToldAnew}
use Rattle.journal_spec.specs.Standing.{MakesIn, adds, puts, flight_of, HasRoom, Between, Carries, Held, HeldOpened, if_kept, length_in}
use Rattle.journal_spec.specs.Keeping.{AreOver, IsTaken, IsOut, landed_in, IsRecoverable, Keeps, KeepsDoubt, KeepsWith, body_by, left_bodies, bodies_left, IsAppending, KeepsSetup, IsWritable, AreAppended, stake_of}
use Rattle.journal_spec.specs.Spelling.{IsInRange}

-- the record is none with which a journal begins
abbrev pub IsNoBegin : Option Record → Type 0
IsNoBegin (Some (begins s named)) = ⊥
IsNoBegin _ = ⊤

-- The record that a journal of this shelf begins with, whose names and texts are read as a setup, makes an empty book of that setup; one of
-- another shelf number makes the journal another shelf's. Where the names and texts are no setup, and where the record is any other, the
-- journal is damaged there. At the start of a file, and there alone, another record may stand before it, which tells that the shelf follows
-- another one's journal; and directly after that one, and there alone, one that tells that it follows no longer.
abbrev pub OnlyItsBeginBegins : Type 0
OnlyItsBeginBegins =
    (texts : Texts) (fed : Bool) (shelf place n : ℕ)
    → ((named : List (List ℕ × List ℕ)) (scripts : List Named) → texts named ≡ Some scripts
    → (first_by texts fed shelf place n (Some (begins shelf named)) ≡ begun (began fed shelf place n scripts))
    × ((s : ℕ) → (s ≡ shelf → ⊥) → first_by texts fed shelf place n (Some (begins s named)) ≡ other place))
    × ((s : ℕ) (named : List (List ℕ × List ℕ)) → texts named ≡ None → first_by texts fed shelf place n (Some (begins s named)) ≡ damaged place)
    × ((r : Option Record) → IsNoBegin r → first_by texts fed shelf place n r ≡ damaged place)
    × ((r : Option Record) → (r ≡ Some follows → ⊥) → start_by texts shelf place n r ≡ first_by texts false shelf place n r)
    × ((r : Option Record) → (r ≡ Some promotes → ⊥) → fed_by texts shelf place n r ≡ first_by texts true shelf place n r)

-- What a disk that stands between two books may hold after a crash makes one of them.
abbrev pub ImagesMakeBooks : Type 0
ImagesMakeBooks =
    (texts : Texts) (shelf : ℕ) (before after : Book) (k : Between texts shelf before after) (image : List ℕ)
    → Held k image
    → MakesIn texts shelf image before ⊎ MakesIn texts shelf image after

-- What a disk may hold after a crash that is opened with a setup, and that stood between two books, makes one of the two, or one of these
-- with that setup.
abbrev pub OpenedImagesMakeBooks : Type 0
OpenedImagesMakeBooks =
    (texts : Texts) (shelf : ℕ) (scripts : List Named) (before after : Book) (k : Between texts shelf before after) (image : List ℕ)
    → HeldOpened k scripts image
    → (MakesIn texts shelf image before ⊎ MakesIn texts shelf image after)
    ⊎ (MakesIn texts shelf image (opened_book shelf scripts before) ⊎ MakesIn texts shelf image (opened_book shelf scripts after))

-- Records tell of a book what is left of it after a crash: what is out on it, and which number is next, makes no difference.
abbrev pub BooksStandAlike : Type 0
BooksStandAlike =
    (texts : Texts) (shelf : ℕ)
    → ((n : ℕ) (b c : Book) → reopened b ≡ reopened c → b.down ≡ c.down → reopened (if_kept n b) ≡ reopened (if_kept n c))
    × ((a b c d : Book) → reopened a ≡ reopened c → reopened b ≡ reopened d → (k : Between texts shelf a b)
    → (l : Between texts shelf c d) × Carries k.format k.bodies k.flight l)

-- the rules measure what is in doubt as a record of this length
abbrev pub MeasuresDoubt : Rules → (length : ℕ) → Book → Type 0
MeasuresDoubt rules n b = reopened (recovered rules kept b.down b) ≡ reopened (if_kept n b)

-- What a disk that stands for a book may hold after a crash makes the book of the event crash with the setup as it was, what is in doubt
-- lost or kept.
abbrev pub ACrashIsLostOrKept : Type 0
ACrashIsLostOrKept =
    (texts : Texts) (shelf : ℕ) (rules : Rules) (b : Book) (nonce n : ℕ) → MeasuresDoubt rules n b
    → (k : Between texts shelf b (if_kept n b)) (image : List ℕ) → Held k image
    → MakesIn texts shelf image (step rules b nonce (crash b.scripts) lost).1
    ⊎ MakesIn texts shelf image (step rules b nonce (crash b.scripts) kept).1

-- Whichever setup a shelf is opened with after a crash, its book is that of the event crash, what was in doubt lost or kept.
abbrev pub CrashesOpen : Type 0
CrashesOpen =
    (shelf : ℕ) (rules : Rules) (b : Book) (nonce n : ℕ) (scripts : List Named) → AreOver rules shelf → MeasuresDoubt rules n b
    → ((step rules b nonce (crash scripts) lost).1 ≡ opened_book shelf scripts b)
    × ((step rules b nonce (crash scripts) kept).1 ≡ opened_book shelf scripts (if_kept n b))

-- A setup that has the names and texts of the one before is that one, where each is what its names and texts are read as, and a shelf that
-- is opened with it has the same book.
abbrev pub ASetupIsItsTexts : Type 0
ASetupIsItsTexts =
    (texts : Texts) (shelf : ℕ) (scripts : List Named) (b : Book) → IsRead texts scripts → IsRead texts b.scripts
    → are_same scripts b.scripts ≡ true
    → (scripts ≡ b.scripts) × (opened_book shelf scripts b ≡ reopened b)

-- What any bodies make is a book of this shelf, as after a crash, that can go on where its scripts can be run. Where they are bytes, its
-- numbers are in range, and the journal is as long as it tells. A shelf that follows another one's journal may not know of a setup yet.
pub record IsFitting (texts : Texts) (shelf : ℕ) (bodies : List (List ℕ)) (m : Made) : Type 0 where
  pub again : m.book ≡ reopened m.book
  pub shelf_is : m.book.shelf ≡ shelf
  pub read : ReadsAsTold texts → IsReadUnlessFed texts m.book
  pub whole : ReadsWhole texts → HasWholeScripts m.book
  pub recoverable : HasWholeScripts m.book → IsRecoverable m.book m.earlier.seen
  pub range : AreAllBytes bodies → IsInRange m.book
  pub long : AreAllBytes bodies → length (at_rest bodies) ≤ 2 ^ 30 → m.book.length ≡ length (at_rest bodies)

-- what any bodies make is a book of their shelf, as after a crash, that can go on where its scripts can be run
abbrev pub BodiesMakeFittingBooks : Type 0
BodiesMakeFittingBooks =
    (texts : Texts) (shelf : ℕ) (bodies : List (List ℕ)) (m : Made) → made_in (book_of texts shelf bodies) ≡ Some m
    → IsFitting texts shelf bodies m

-- What any bodies make in any format is a book of their shelf, as after a crash, that can go on where its scripts can be run.
abbrev pub BodiesOfAnyFormatFit : Type 0
BodiesOfAnyFormatFit =
    (format : ℕ) (texts : Texts) (shelf : ℕ) (bodies : List (List ℕ)) (m : Made) → made_in (book_of_format format texts shelf bodies) ≡ Some m
    → IsFitting texts shelf bodies m

-- The first record of a journal makes the empty book of its setup, which can go on, and tells no state.
abbrev pub FreshJournalsAreKept : Type 0
FreshJournalsAreKept =
    (texts : Texts) (shelf : ℕ) (rules : Rules) (scripts : List Named) → AreOver rules shelf → IsGiven texts scripts
    → IsInGrammar (begin_of shelf scripts)
    → let bodies = first_body scripts shelf ∷ [] in
    KeepsDoubt texts shelf bodies (empty_book rules scripts shelf) × AreOwn texts shelf bodies × AreLanded texts shelf bodies

-- A setup with other names or texts than the one before is told by one body more, which makes the book of the shelf that is opened with it,
-- where that does not follow another one's journal. It tells no state, and is none that is passed over.
abbrev pub RenewalsAreKept : Type 0
RenewalsAreKept =
    (texts : Texts) (shelf : ℕ) (bodies : List (List ℕ)) (b : Book) (scripts : List Named) → Keeps texts shelf bodies b → IsGiven texts scripts
    → b.follows ≡ false → are_same scripts b.scripts ≡ false
    → KeepsWith texts shelf bodies (renewal_body scripts ∷ []) (opened_book shelf scripts b)

-- What a shelf goes on with that is opened with a setup is what its records make with the body that it writes: the one that a journal begins
-- with, where there is no record; and that of the setup, where it has other names or texts than the one before. A shelf that follows another
-- one's journal writes none.
abbrev pub OpeningsAreRecords : Type 0
OpeningsAreRecords =
    (texts : Texts) (shelf : ℕ) (scripts : List Named) → IsGiven texts scripts
    → (IsInGrammar (begin_of shelf scripts) → made_in (book_of texts shelf (first_body scripts shelf ∷ [])) ≡ opened_on shelf scripts nothing)
    × ((bodies : List (List ℕ)) (m : Made) → made_in (book_of texts shelf bodies) ≡ Some m → IsReadUnlessFed texts m.book
    → (opened_on shelf scripts (book_of texts shelf bodies) ≡ Some (record m { book = opened_book shelf scripts m.book }))
    × (made_in (book_of texts shelf (bodies ++ opening_bodies scripts m.book)) ≡ Some (record m { book = opened_book shelf scripts m.book })))

-- Where that body is in flight, a disk stands between the book before and the one of the shelf that is opened with that setup, where that
-- does not follow another one's journal.
abbrev pub RenewalsStandBetween : Type 0
RenewalsStandBetween =
    (texts : Texts) (shelf : ℕ) (bodies : List (List ℕ)) (b : Book) (scripts : List Named) → Keeps texts shelf bodies b → IsGiven texts scripts
    → b.follows ≡ false → are_same scripts b.scripts ≡ false → Holdable bodies (renewal_body scripts)
    → (l : Between texts shelf b (opened_book shelf scripts b)) × Carries newest bodies (adds (renewal_body scripts)) l

-- A change that would be taken, and whose number is out, can be landed, whatever its page's state is, where the shelf does not follow another
-- one's journal: the body of its record makes the book after it.
abbrev pub LandingsAreKept : Type 0
LandingsAreKept =
    (texts : Texts) (shelf : ℕ) (bodies : List (List ℕ)) (b : Book) (c : Change) (state : Option (List ℕ)) (inside : List TxName)
    → (k : Keeps texts shelf bodies b) → b.down ≡ None → b.follows ≡ false → IsInGrammar (changes c state)
    → IsTaken k.earlier b c state inside → IsOut b (number_in c)
    → Keeps texts shelf (bodies ++ body_by c state ∷ []) (landed_in (length (body_by c state)) c inside b)

-- Where the body of the record of a change that can be landed is in flight, a disk stands between the book before the change and the
-- one after it.
abbrev pub LandingsStandBetween : Type 0
LandingsStandBetween =
    (texts : Texts) (shelf : ℕ) (bodies : List (List ℕ)) (b : Book) (c : Change) (state : Option (List ℕ)) (inside : List TxName)
    → (k : Keeps texts shelf bodies b) → b.down ≡ None → b.follows ≡ false → IsInGrammar (changes c state)
    → IsTaken k.earlier b c state inside → IsOut b (number_in c)
    → Holdable bodies (body_by c state)
    → (l : Between texts shelf b (landed_in (length (body_by c state)) c inside b))
    × Carries newest bodies (adds (body_by c state)) l

-- The bodies of the records that an event leaves, with the states that its scripts leave, make of the journal's book the book after the
-- event, also where what was in doubt is kept at a crash, and where a crash gives another setup; where it leaves none, the same bodies make
-- it. The book can go on. Where the states of the journal are own ones, they go on to be; and none of the records is passed over. What a
-- change's page is written after has to be an own state; a change that answers no page is written after none.
abbrev pub EventsAreKept : Type 0
EventsAreKept =
    (texts : Texts) (shelf : ℕ) (bodies : List (List ℕ)) (rules : Rules) (b : Book) (nonce : ℕ) (event : Event) (fate : Fate)
    → AreOver rules shelf → IsAppending event → Gives texts event → IsLawful event b
    → (k : KeepsDoubt texts shelf bodies b) → IsOwnBefore k.keeps.earlier b (lands rules b event fate)
    → IsWritable b (lands rules b event fate)
    → KeepsWith texts shelf bodies (left_bodies rules b event fate) (step rules b nonce event fate).1

-- Where the body of the record that an event leaves is in flight, a disk stands between the book before the event and the book after
-- it with what is in doubt then kept, which the rules measure as its body is long. A setup that a crash gives is told after it.
abbrev pub EventsStandBetween : Type 0
EventsStandBetween =
    (texts : Texts) (shelf : ℕ) (bodies : List (List ℕ)) (rules : Rules) (b : Book) (nonce : ℕ) (event : Event) (fate : Fate)
    → AreOver rules shelf → IsAppending event → KeepsSetup event b → IsLawful event b
    → (k : KeepsDoubt texts shelf bodies b)
    → let c = stake_of rules b nonce event fate in
    let more = option_map (own_body b) c in
    let d = (step rules b nonce event fate).1 in
    IsOwnBefore k.keeps.earlier b c → IsWritable b c → HasRoom bodies (flight_of more)
    → (l : Between texts shelf b (if_kept (length_in more) d))
    × Carries newest bodies (flight_of more) l × MeasuresDoubt rules (length_in more) d

-- the book with the compacted file in the place of its own
abbrev pub compacted_book : Book → Book
compacted_book b = record b { length = file_length (compaction b); file = compaction b; follows = false }

-- Where the copies that a compaction makes are put in the place of the bodies that they were made of, whoever wrote these, a disk stands
-- between the book before and the one with the compacted file.
abbrev pub CompactionsStandBetween : Type 0
CompactionsStandBetween =
    (texts : Texts) (shelf : ℕ) (bodies : List (List ℕ)) (m : Made) → AreAllBytes bodies
    → made_in (book_of texts shelf bodies) ≡ Some m → m.book.follows ≡ false
    → length (at_rest bodies) ≤ 2 ^ 30 → length (at_rest (copies newest texts shelf bodies m)) ≤ 2 ^ 30
    → (l : Between texts shelf m.book (compacted_book m.book))
    × Carries newest bodies (puts newest (copies newest texts shelf bodies m)) l

-- Where the bodies of a file of any format that stay, written in the newest one, are put in its place, a disk stands between its book and the one
-- with the new file.
abbrev pub MigrationsStandBetween : Type 0
MigrationsStandBetween =
    (format : ℕ) (texts : Texts) (shelf : ℕ) (bodies : List (List ℕ)) (m : Made) → is_format format ≡ true
    → IsToldAnew format m → AreAllBytes bodies → made_in (book_of_format format texts shelf bodies) ≡ Some m → m.book.follows ≡ false
    → length (at_rest bodies) ≤ 2 ^ 30 → length (at_rest (copies format texts shelf bodies m)) ≤ 2 ^ 30
    → (k : Made) × (made_in (book_of texts shelf (copies format texts shelf bodies m)) ≡ Some k) × IsMigrated m k
    × ((l : Between texts shelf m.book k.book) × Carries format bodies (puts newest (copies format texts shelf bodies m)) l)

-- What a journal told of each page is the state that its script left there, where its states are own ones.
abbrev pub OwnStatesAreTold : Type 0
OwnStatesAreTold =
    (texts : Texts) (shelf : ℕ) (bodies : List (List ℕ)) (m : Made) → made_in (book_of texts shelf bodies) ≡ Some m
    → AreOwn texts shelf bodies → HasOwnStates m.earlier m.book

-- The bodies that a run adds to those of a journal with own states make the run's last book, over crashes, and under rules and setups that
-- change.
abbrev pub RunsAreKept : Type 0
RunsAreKept =
    (texts : Texts) (shelf : ℕ) (bodies : List (List ℕ)) (ms : List Moment) (b : Book)
    → AreLawful ms b → AreAppended texts shelf ms b → KeepsDoubt texts shelf bodies b → AreOwn texts shelf bodies
    → KeepsWith texts shelf bodies (bodies_left ms b) (book_after ms b)
