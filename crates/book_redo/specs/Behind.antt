-- What the page of a record goes on from, and how its state is written after that.
use Rattle.std.specs.Prelude.{◌≡◌, ℕ, List, Option, Some, None, option_map, slice_get, IfSome, ⊤}
use Rattle.std.specs.Borrow.{Bor}
use Rattle.script_nodes.specs.Setup.{Library}
use Rattle.script_nodes.specs.Views.{named_of}
use Rattle.replay_spec.specs.Book as spec
use Rattle.replay_spec.specs.Book.{Extension, Change, opens, extends}
use Rattle.replay_spec.specs.Admission.{Place}
use Rattle.replay_spec.specs.Next.{Ticket, page_visit}
use Rattle.replay_spec.specs.Recovery.{page_of_numbers}
use Rattle.machine_states.specs.Machine.{Suspended}
use Rattle.machine_states.specs.Views.{origin_of, suspended_of}
use Rattle.machine_states.specs.declared.frame.Suspended as stored
use Rattle.frame_codec.specs.Spelling.{StateHasBytes}
use Rattle.frame_codec.specs.Forms.{form_bytes, IsStoredBefore, BindsBefore}
use Rattle.instance_book.specs.KeptStates.Links.{behind_at}
use Rattle.instance_book.specs.declared.book.Book.{Book}
use Rattle.instance_book.specs.Standing.{book_under}
use Rattle.instance_book.specs.Makes.{HasItsStates}
use Rattle.instance_book.specs.Visits.{GoesOnFrom}
use Rattle.book_redo.specs.Redo.{HasToldStates}
use Rattle.journal_spec.specs.Before.{Earlier, before_told}
use Rattle.journal_spec.specs.Retaking.{arena_of, script_for}
use Rattle.book_redo.specs.declared.behind.Behind.{Behind}

-- what a page goes on from, if anything, is a state that fits its script and can be written
abbrev pub IsStoredFrom : Behind → Type 0
IsStoredFrom x = IsStoredBefore (arena_of (named_of x.script.now).script) (origin_of x.from)

-- The page of a change is of this script, and is written after the state that it goes on from, so many links from one that is kept by itself,
-- where records told these states. That state fits the script.
pub record IsBehind (library : Library) (earlier : Earlier) (b : Book) (c : Change) (x : Behind) : Type 0 where
  pub script : script_for (book_under library b) c ≡ Some (named_of x.script.now)
  pub before : before_told earlier (book_under library b) c ≡ behind_at x.links (origin_of x.from)
  pub stored : IsStoredFrom x

-- what the page of a change goes on from, whatever states records told of the book's pages; none where it is of no script
abbrev pub TellsBehind : Library → Book → Change → Option Behind → Type 0
TellsBehind library b c None = script_for (book_under library b) c ≡ None
TellsBehind library b c (Some x) = (earlier : Earlier) → HasToldStates library.all earlier.states b → IsBehind library earlier b c x

-- A start of the script of this place in the present setup goes on from nothing.
pub record IsStart (library : Library) (script : ℕ) (x : Behind) : Type 0 where
  pub present : slice_get library.setup script ≡ Some (named_of x.script.now)
  pub links_are : x.links ≡ 0
  pub none : origin_of x.from ≡ None

-- what a start of this script goes on from; none where there is no such script
abbrev pub StartsBehind : Library → (script : ℕ) → Option Behind → Type 0
StartsBehind library script None = slice_get library.setup script ≡ None
StartsBehind library script (Some x) = IsStart library script x

-- what an answer to this page goes on from
abbrev pub AnswersBehind : Library → Book → (instance page : ℕ) → Option Behind → Type 0
AnswersBehind library b instance page o = (x : Extension) → x.instance ≡ instance → x.page ≡ page → TellsBehind library b (extends x) o

-- what is lent is the state that the page's is written after, if there is one
abbrev pub IsWrittenBehind : Behind → Option (Bor stored.Suspended) → Type 0
IsWrittenBehind x d = option_map (λ p. suspended_of p.now) d ≡ behind_at x.links (origin_of x.from)

-- the bytes that the newest format has of a state after that one; none where no record tells it there
abbrev pub IsSpelledBehind : Behind → stored.Suspended → Option (List ℕ) → Type 0
IsSpelledBehind x d None =
    let before = behind_at x.links (origin_of x.from) in ¬ (StateHasBytes (suspended_of d) × BindsBefore before (suspended_of d))
IsSpelledBehind x d (Some bytes) =
    let before = behind_at x.links (origin_of x.from) in
    (bytes ≡ form_bytes before (suspended_of d)) × StateHasBytes (suspended_of d) × BindsBefore before (suspended_of d)

-- a start goes on from nothing, and an answer from the state of the chain of the page that is answered
abbrev pub GoesOnFromOwn : spec.Book → Change → Option Suspended → Type 0
GoesOnFromOwn b (opens o) d = d ≡ None
GoesOnFromOwn b (extends x) d =
    (at : Place) → page_of_numbers b x.instance x.page ≡ Some at → (t : Ticket) → GoesOnFrom (page_visit b t at) d
GoesOnFromOwn b _ d = ⊤

-- The page of a change is of this script, and goes on from the state of the chain of the page that is answered, if one is. That state fits
-- the script and can be written.
pub record GoesOnOwn (library : Library) (b : Book) (c : Change) (x : Behind) : Type 0 where
  pub script : script_for (book_under library b) c ≡ Some (named_of x.script.now)
  pub stored : IsStoredFrom x
  pub from : GoesOnFromOwn (book_under library b) c (origin_of x.from)

-- an answer to this page goes on from the state of the page's chain
abbrev pub AnswersOwn : Library → Book → (instance page : ℕ) → Behind → Type 0
AnswersOwn library b instance page y = (x : Extension) → x.instance ≡ instance → x.page ≡ page → GoesOnOwn library b (extends x) y

-- where each page of the book has the state of its chain, so the page of a change goes on, if it is of a script
abbrev pub OwnsBehind : Library → Book → Change → Option Behind → Type 0
OwnsBehind library b c o = HasItsStates library.all b → IfSome o (GoesOnOwn library b c)

-- where each page of the book has the state of its chain, an answer to this page goes on from it, if the page is of a script
abbrev pub OwnsAnswer : Library → Book → (instance page : ℕ) → Option Behind → Type 0
OwnsAnswer library b instance page o = HasItsStates library.all b → IfSome o (AnswersOwn library b instance page)
