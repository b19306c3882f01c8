-- Shelves that follow another one's journal: each has a file of its own, with a record that tells that it follows, and then those of the journal,
-- byte by byte.
use Rattle.std.specs.Prelude.{◌≡◌, ◌⊎◌, ℕ, ◌+◌, ◌≤◌, true, List, [], ◌∷◌, ◌++◌, length, Some}
use Rattle.script_nodes.specs.Setup.{Named}
use Rattle.page_journal.specs.Records.{newest, frames}
use Rattle.page_journal.specs.Holding.{Holdable}
use Rattle.replay_spec.specs.Rules.{Rules, empty_book}
use Rattle.journal_records.specs.Records.{follows, promotes, begin_of, IsInGrammar, body_of}
use Rattle.journal_records.specs.Roles.{feed_of}
use Rattle.journal_spec.specs.Before.{Made}
use Rattle.journal_spec.specs.Making.{Texts, Making, nothing, waits, waited, begun, made, damaged, other, in_file, promoted, with_body, made_in, book_of}
use Rattle.journal_spec.specs.Old.{book_of_format}
use Rattle.journal_spec.specs.Opening.{first_body, opened_on}
use Rattle.journal_spec.specs.Events.{IsGiven}
use Rattle.journal_spec.specs.Keeping.{AreOver, KeepsDoubt}
use Rattle.journal_spec.specs.Owning.{AreOwn, AreLanded}
use Rattle.journal_spec.specs.Reading.{AreAllBytes}
use Rattle.journal_spec.specs.Standing.{adds, Between, Carries}

-- What records make where the one that tells that the shelf follows stands before them, by what they make without it: the shelf follows, its
-- file is 6 bytes longer, and each place in it is 6 bytes later.
abbrev pub fed_with : (shelf : ℕ) → Making → Making
fed_with shelf nothing = waits shelf
fed_with shelf waited = waited
fed_with shelf (waits s) = waits s
fed_with shelf (begun m) = begun (in_file true (m.book.length + 6) m)
fed_with shelf (made m) = made (in_file true (m.book.length + 6) m)
fed_with shelf (damaged place) = damaged (place + 6)
fed_with shelf (other place) = other (place + 6)

-- The records that a shelf is fed make of it what they make of their own shelf, whatever they are: but for the length of its file, and that it
-- follows.
abbrev pub FollowersMakeTheBook : Type 0
FollowersMakeTheBook =
    (texts : Texts) (shelf : ℕ) (bodies : List (List ℕ)) → AreAllBytes bodies
    → book_of texts shelf (body_of follows ∷ feed_of bodies) ≡ fed_with shelf (book_of texts shelf (feed_of bodies))

-- What bodies make with one more is what that one makes, whose gate stands after them.
abbrev pub OneBodyMore : Type 0
OneBodyMore =
    (texts : Texts) (shelf : ℕ) (bodies : List (List ℕ)) (body : List ℕ)
    → book_of texts shelf (bodies ++ body ∷ []) ≡ with_body texts shelf (8 + length (frames bodies)) body (book_of texts shelf bodies)

-- A shelf that follows is promoted by one body more, which makes the same book, but for the length of its file and that it follows no longer;
-- where it knows of no record, its own journal may begin after that.
abbrev pub PromotionsMakeTheBook : Type 0
PromotionsMakeTheBook =
    (texts : Texts) (shelf : ℕ) (bodies : List (List ℕ))
    → ((m : Made) → m.book.follows ≡ true → (book_of texts shelf bodies ≡ begun m) ⊎ (book_of texts shelf bodies ≡ made m)
    → book_of texts shelf (bodies ++ body_of promotes ∷ []) ≡ made (promoted 1 m))
    × ((s : ℕ) → book_of texts shelf bodies ≡ waits s → book_of texts shelf (bodies ++ body_of promotes ∷ []) ≡ waited)

-- Where one body more is in flight, whatever it is, a disk stands between the book of those before it and the book of all.
abbrev pub BodiesStandBetween : Type 0
BodiesStandBetween =
    (texts : Texts) (shelf : ℕ) (bodies : List (List ℕ)) (body : List ℕ) (m k : Made) → made_in (book_of texts shelf bodies) ≡ Some m
    → made_in (book_of texts shelf (bodies ++ body ∷ [])) ≡ Some k → Holdable bodies body
    → (l : Between texts shelf m.book k.book) × Carries newest bodies (adds body) l

-- Where the states that a journal tells are own ones, so are those that a shelf tells that is fed its records; and where none of these is passed
-- over, none is there. One body more by which the shelf is promoted keeps both.
abbrev pub FedJournalsAreOwn : Type 0
FedJournalsAreOwn =
    (texts : Texts) (shelf : ℕ) (bodies : List (List ℕ)) (m : Made) → AreAllBytes bodies → made_in (book_of texts shelf (feed_of bodies)) ≡ Some m
    → (AreOwn texts shelf (feed_of bodies) → AreOwn texts shelf (body_of follows ∷ feed_of bodies))
    × (AreLanded texts shelf (feed_of bodies) → AreLanded texts shelf (body_of follows ∷ feed_of bodies))
    × ((more : List (List ℕ)) → (AreOwn texts shelf more → AreOwn texts shelf (more ++ body_of promotes ∷ []))
    × (AreLanded texts shelf more → AreLanded texts shelf (more ++ body_of promotes ∷ [])))

-- A shelf follows only where the first record of its file tells that it does, and that file is of the newest format.
abbrev pub FollowersAreTold : Type 0
FollowersAreTold =
    (format : ℕ) (texts : Texts) (shelf : ℕ) (bodies : List (List ℕ)) (m : Made) → AreAllBytes bodies
    → made_in (book_of_format format texts shelf bodies) ≡ Some m → m.book.follows ≡ true
    → (rest : List (List ℕ)) × ((bodies ≡ body_of follows ∷ rest) × (newest ≤ format))

-- Nothing is made of no records alone; a shelf that waits, of the record alone that tells that it follows; and one that waited, of that record and
-- the one that tells that it follows no longer.
abbrev pub FrontsAreThese : Type 0
FrontsAreThese =
    (format : ℕ) (texts : Texts) (shelf : ℕ) (bodies : List (List ℕ)) → AreAllBytes bodies
    → (book_of_format format texts shelf bodies ≡ nothing → bodies ≡ [])
    × ((s : ℕ) → book_of_format format texts shelf bodies ≡ waits s → (bodies ≡ body_of follows ∷ []) × (s ≡ shelf))
    × (book_of_format format texts shelf bodies ≡ waited → bodies ≡ body_of follows ∷ body_of promotes ∷ [])

-- After these two a journal begins as in a file of its own: with the empty book of its setup, in a file that is 12 bytes longer.
abbrev pub LaterJournalsAreKept : Type 0
LaterJournalsAreKept =
    (texts : Texts) (shelf : ℕ) (rules : Rules) (scripts : List Named) → AreOver rules shelf → IsGiven texts scripts
    → IsInGrammar (begin_of shelf scripts)
    → let body = first_body scripts shelf in
    let bodies = body_of follows ∷ body_of promotes ∷ body ∷ [] in
    (made_in (book_of texts shelf bodies) ≡ opened_on shelf scripts waited)
    × KeepsDoubt texts shelf bodies (record (empty_book rules scripts shelf) { length = 26 + length body })
    × AreOwn texts shelf bodies × AreLanded texts shelf bodies
