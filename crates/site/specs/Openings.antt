-- What a shelf was when it was opened.
use Rattle.std.specs.Prelude.{ℕ, Bool, List}
use Rattle.script_nodes.specs.Setup.{Named, Library}
use Rattle.web_disk.specs.View.{View}
use Rattle.replay_spec.specs.Book.{Book}
use Rattle.replay_spec.specs.Runs as runs
use Rattle.history_spec.specs.Histories.{Entry, IsLegal, book_behind}
use Rattle.shelf.specs.declared.shelf.Shelf.{Shelf}
use Rattle.shelf.specs.Views.{IsOwnShelf, library_in, shelf_of}
use Rattle.site.specs.Opened.{Opened}
use Rattle.site.specs.declared.opening.Opening.{Opening}

-- what the journal of a shelf told when it was opened: the scripts of all setups, and those of the last one
abbrev pub opened_library : {D N : Type 0} → Opening D N → Library
opened_library o = library_in o.shelf.value

-- the scripts of the setup that a shelf was opened under
abbrev pub scripts_in : {D N : Type 0} → Opening D N → List Named
scripts_in o = (opened_library o).setup

-- The shelf was opened as an own one: each page that was found has the state of its chain, and where the disk tells its bytes, so has
-- each record there. What is told of the meaning of a history rests on this, and no call asks for it.
abbrev pub IsOwnOpening : {D N : Type 0} → (D → View) → Bool → Opening D N → Type 0
IsOwnOpening view tells o = IsOwnShelf view tells o.shelf.value

-- the shelf as it was opened, whose source has given nothing yet
abbrev pub start_of : {D N : Type 0} → (D → View) → Opening D N → runs.Shelf
start_of view o = shelf_of view 0 o.shelf.value

-- the nonces of the source that a shelf was opened with
abbrev pub source_of : {D N : Type 0} → (N → ℕ → ℕ) → Opening D N → ℕ → ℕ
source_of coming o = coming o.shelf.value.nonces

-- how often a call of a shelf's disk has failed
abbrev pub count_of : {D N : Type 0} → (D → View) → Shelf D N → ℕ
count_of view s = (view s.journal.disk).faults

-- what an opening is, in the words of histories
abbrev pub opened_of : {D N : Type 0} → (D → View) → Bool → (N → ℕ → ℕ) → Opening D N → Opened
opened_of view tells coming o = record {
  number = o.shelf.value.rules.number;
  start = start_of view o;
  nonces = source_of coming o;
  disk = view o.shelf.value.journal.disk;
  IsOwn = IsOwnOpening view tells o;
}

-- the history is legal from the opening on, by when the disk's count of faults is this
abbrev pub HasLegal : {D N : Type 0} → (D → View) → (N → ℕ → ℕ) → Opening D N → (now : ℕ) → List Entry → Type 0
HasLegal view coming o now es = IsLegal (source_of coming o) (count_of view o.shelf.value) now (start_of view o) es

-- the book of a shelf after this history since its opening
abbrev pub book_then : {D N : Type 0} → (D → View) → (N → ℕ → ℕ) → Opening D N → List Entry → Book
book_then view coming o es = book_behind (source_of coming o) (start_of view o) es
