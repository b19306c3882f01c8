-- What a disk stands for.
use Rattle.std.specs.Prelude.{◌≡◌, ◌⊎◌, ℕ, ◌≤◌, ◌^◌, true, List, [], ◌∷◌, ◌++◌, length, Option, Some, None}
use Rattle.script_nodes.specs.Setup.{Named}
use Rattle.web_disk.specs.View.{View, LeavesOnly}
use Rattle.page_journal.specs.Records.{newest, is_format, at_rest}
use Rattle.page_journal.specs.Holding.{IsClosed, MayHold, IsEither, Holdable}
use Rattle.replay_spec.specs.Book.{Book, reopened}
use Rattle.replay_spec.specs.Step.{kept, recovered}
use Rattle.replay_spec.specs.Recovery.{of_length}
use Rattle.journal_spec.specs.Before.{Earlier, Made, made_of}
use Rattle.journal_spec.specs.Making.{Texts, Making, made_in, book_of}
use Rattle.journal_spec.specs.Old.{book_of_format}
use Rattle.journal_spec.specs.Bytes.{book_in_bytes}
use Rattle.journal_spec.specs.Opening.{opened_book}

-- what was made, if anything was, is this book, as after a crash, whatever numbers and states were told
abbrev pub IsMadeBook : Option Made → Book → Type 0
IsMadeBook made b = (earlier : Earlier) × (made ≡ Some (made_of b earlier))

-- what records make is this book, as after a crash
abbrev pub IsBook : Making → Book → Type 0
IsBook making b = IsMadeBook (made_in making) b

-- these bodies make the book
abbrev pub Makes : Texts → (shelf : ℕ) → List (List ℕ) → Book → Type 0
Makes texts shelf bodies b = IsBook (book_of texts shelf bodies) b

-- these bodies of a journal of this format make the book
abbrev pub MakesOf : Texts → (shelf format : ℕ) → List (List ℕ) → Book → Type 0
MakesOf texts shelf f bodies b = IsBook (book_of_format f texts shelf bodies) b

-- these bytes of a disk make the book
abbrev pub MakesIn : Texts → (shelf : ℕ) → List ℕ → Book → Type 0
MakesIn texts shelf bytes b = IsBook (book_in_bytes texts shelf bytes) b

-- what may become of the bodies of a journal: nothing, one more that is in flight, or others of that format that are put in their place
pub data Flight : Type 0 where
  still : Flight
  adds : (body : List ℕ) → Flight
  puts : (other : ℕ) (others : List (List ℕ)) → Flight

-- one body in flight, or nothing
abbrev pub flight_of : Option (List ℕ) → Flight
flight_of None = still
flight_of (Some body) = adds body

-- the bodies after what is in flight
abbrev pub with_flight : List (List ℕ) → Flight → List (List ℕ)
with_flight bodies still = bodies
with_flight bodies (adds body) = bodies ++ body ∷ []
with_flight bodies (puts other others) = others

-- the format of the bodies after what is in flight
abbrev pub format_with : (format : ℕ) → Flight → ℕ
format_with f still = f
format_with f (adds body) = f
format_with f (puts other others) = other

-- a journal has room for these bodies, and for what is in flight
abbrev pub HasRoom : List (List ℕ) → Flight → Type 0
HasRoom bodies still = length (at_rest bodies) ≤ 2 ^ 30
HasRoom bodies (adds body) = Holdable bodies body
HasRoom bodies (puts other others) = (length (at_rest bodies) ≤ 2 ^ 30) × (length (at_rest others) ≤ 2 ^ 30) × (is_format other ≡ true)

-- bodies of a format that make the one book, and after what is in flight the other
pub record Between (texts : Texts) (shelf : ℕ) (before after : Book) : Type 0 where
  pub format : ℕ
  pub known : is_format format ≡ true
  pub bodies : List (List ℕ)
  pub flight : Flight
  pub room : HasRoom bodies flight
  pub first : MakesOf texts shelf format bodies before
  pub second : MakesOf texts shelf (format_with format flight) (with_flight bodies flight) after

-- a disk that stands between two books has these bodies of this format, with this in flight
pub record Carries {texts : Texts} {shelf : ℕ} {before after : Book} (f : ℕ) (bodies : List (List ℕ)) (t : Flight) (k : Between texts shelf before after) : Type 0 where
  pub format : k.format ≡ f
  pub bodies_are : k.bodies ≡ bodies
  pub flight_is : k.flight ≡ t

-- bytes may hold these bodies of this format, with what is in flight or without it
abbrev pub Hold : (format : ℕ) → List (List ℕ) → Flight → List ℕ → Type 0
Hold f bodies still bytes = IsClosed f bodies bytes
Hold f bodies (adds body) bytes = MayHold f bodies body bytes
Hold f bodies (puts other others) bytes = IsEither f other bodies others bytes

-- bytes may hold what makes one of two books
abbrev pub Held : {texts : Texts} {shelf : ℕ} {before after : Book} → Between texts shelf before after
    → List ℕ → Type 0
Held k bytes = Hold k.format k.bodies k.flight bytes

-- each of these images may hold what makes one of two books
abbrev pub HoldIn : {texts : Texts} {shelf : ℕ} {before after : Book} → Between texts shelf before after
    → (List ℕ → Type 0) → Type 0
HoldIn k images = (image : List ℕ) → images image → Held k image

-- the book where what is in doubt is kept, whose record's body is this long
abbrev pub if_kept : (length : ℕ) → Book → Book
if_kept n b = recovered (of_length n) kept b.down b

-- how long the body of a record is, if there is one
abbrev pub length_in : Option (List ℕ) → ℕ
length_in None = 0
length_in (Some body) = length body

-- a crash now leaves what makes the book, with what is in doubt or without it
abbrev pub Stands : Texts → (shelf : ℕ) → View → Book → Type 0
Stands texts shelf view b = (n : ℕ) × ((k : Between texts shelf b (if_kept n b)) × HoldIn k view.images)

-- a crash at any moment of a call leaves what makes the one book or the other
abbrev pub Throughout : Texts → (shelf : ℕ) → (before after : Book) → View → View → Type 0
Throughout texts shelf before after old new = (k : Between texts shelf before after) × LeavesOnly old new (Held k)

-- a crash at any moment of a call leaves what makes the one book or the other, of these bodies of the newest format and what is in flight;
-- what is private to a shelf says this, so that calls can be joined
abbrev pub ThroughoutFrom : List (List ℕ) → Texts → (shelf : ℕ) → (before after : Book) → View → View → Type 0
ThroughoutFrom bodies texts shelf before after old new =
    (k : Between texts shelf before after) × (k.format ≡ newest) × (k.bodies ≡ bodies) × LeavesOnly old new (Held k)

-- whatever two books the disk stood between, a crash at any moment of a recovery leaves it there
abbrev pub StaysThroughout : Texts → (shelf : ℕ) → View → View → Type 0
StaysThroughout texts shelf old new =
    (before after : Book) (k : Between texts shelf before after) → HoldIn k old.images → LeavesOnly old new (Held k)

-- whatever two books the disk stood between, this book is one of the two, as after a crash
abbrev pub IsFoundOne : Texts → (shelf : ℕ) → View → Book → Type 0
IsFoundOne texts shelf old b =
    (before after : Book) (k : Between texts shelf before after) → HoldIn k old.images
    → (b ≡ reopened before) ⊎ (b ≡ reopened after)

-- whatever two books the disk stood between, this book is one of the two, opened again with this setup
abbrev pub IsOneOf : Texts → (shelf : ℕ) → List Named → View → Book → Type 0
IsOneOf texts shelf scripts old b =
    (before after : Book) (k : Between texts shelf before after) → HoldIn k old.images
    → (b ≡ opened_book shelf scripts before) ⊎ (b ≡ opened_book shelf scripts after)

-- bytes may hold what makes the book, or the book that is opened again with this setup
abbrev pub HoldsOpening : Texts → (shelf : ℕ) → List Named → Book → List ℕ → Type 0
HoldsOpening texts shelf scripts b bytes = (l : Between texts shelf b (opened_book shelf scripts b)) × Held l bytes

-- bytes may hold what makes one of two books, or one of these opened again with this setup
abbrev pub HeldOpened : {texts : Texts} {shelf : ℕ} {before after : Book} → Between texts shelf before after → List Named
    → List ℕ → Type 0
HeldOpened {texts = texts} {shelf = shelf} {before = before} {after = after} k scripts bytes =
    Held k bytes ⊎ (HoldsOpening texts shelf scripts before bytes ⊎ HoldsOpening texts shelf scripts after bytes)

-- a crash now leaves what makes the book, or the book that is opened again with this setup
abbrev pub StandsOpening : Texts → (shelf : ℕ) → List Named → Book → View → Type 0
StandsOpening texts shelf scripts b view = (l : Between texts shelf b (opened_book shelf scripts b)) × HoldIn l view.images

-- a crash now leaves what makes one of two books, or what makes one of these with this setup or without it
abbrev pub StandsOpened : {texts : Texts} {shelf : ℕ} {before after : Book} → Between texts shelf before after → List Named
    → View → Type 0
StandsOpened {texts = texts} {shelf = shelf} {before = before} {after = after} k scripts view =
    HoldIn k view.images ⊎ (StandsOpening texts shelf scripts before view ⊎ StandsOpening texts shelf scripts after view)

-- A disk is opened with a setup that stood between two books: a crash at any moment leaves what makes one of the two, or one of the two
-- with that setup; and at the end the disk stands between two of these.
pub record OpensBetween {texts : Texts} {shelf : ℕ} {before after : Book} (k : Between texts shelf before after) (scripts : List Named) (old new : View) : Type 0 where
  pub moments : LeavesOnly old new (HeldOpened k scripts)
  pub stands : StandsOpened k scripts new

-- whatever two books the disk stood between, a crash at any moment of an opening with this setup leaves it there, or one of the two with
-- that setup
abbrev pub OpensThroughout : Texts → (shelf : ℕ) → List Named → View → View → Type 0
OpensThroughout texts shelf scripts old new =
    (before after : Book) (k : Between texts shelf before after) → HoldIn k old.images → OpensBetween k scripts old new
