-- What the script of a page of format 1 comes to again.
use Rattle.std.specs.Prelude.{◌≡◌, ℕ, List, Option, Some, None, slice_get}
use Rattle.script_value.specs.declared.outcome.TxName.{TxName}
use Rattle.script_nodes.specs.Setup.{Named, Library}
use Rattle.replay_spec.specs.Tape.{present}
use Rattle.replay_spec.specs.Book as spec
use Rattle.replay_spec.specs.Book.{Change, opens, extends}
use Rattle.replay_spec.specs.Admission.{◌>>=◌}
use Rattle.replay_spec.specs.Invariant.{AreOrderly}
use Rattle.replay_spec.specs.Next.{comes_to}
use Rattle.replay_spec.specs.Recovery.{page_of_numbers, opening_visit, extension_visit, again}
use Rattle.server_limits.specs.Limits.{most_fuel}
use Rattle.machine_states.specs.Machine.{Suspended}
use Rattle.machine_states.specs.Views.{suspended_of}
use Rattle.machine_states.specs.declared.frame.Suspended as stored
use Rattle.frame_codec.specs.Spelling.{StateHasBytes}
use Rattle.frame_codec.specs.Stored.{IsStored}
use Rattle.frame_codec.specs.Forms.{form_bytes}
use Rattle.instance_book.specs.declared.book.Book.{Book}
use Rattle.instance_book.specs.Standing.{book_under}
use Rattle.book_redo.specs.Redo.{HasToldStates}
use Rattle.journal_spec.specs.Before.{Earlier, before_told}
use Rattle.journal_spec.specs.Retaking.{arena_of, told, told_in, script_for}
use Rattle.journal_spec.specs.Lengths.{own_told}
use Rattle.journal_spec.specs.Whole.{HasWholeScripts}

-- the names that the page of a change is inside, where its script comes to the page again over the cells that stand there, whichever pages go
abbrev pub comes_again : spec.Book → Change → Option (List TxName)
comes_again b (opens o) = do
  s ← slice_get b.scripts o.script
  again o.kind o.effects o.left (comes_to (opening_visit b o s) (present s.script.cells most_fuel))
comes_again b (extends x) = do
  at ← page_of_numbers b x.instance x.page
  again x.kind x.effects x.left (comes_to (extension_visit b x at) (present at.instance.cells most_fuel))
comes_again b _ = None

-- A page's script leaves a state there, of which these are the bytes that the newest format has after the states that records told, and they tell it.
pub record TellsLeft (earlier : Earlier) (b : spec.Book) (c : Change) (bytes : List ℕ) : Type 0 where
  pub state : Suspended
  pub left : own_told b c ≡ told state
  pub spelled : bytes ≡ form_bytes (before_told earlier b c) state
  pub tells : told_in earlier b c (Some bytes) ≡ told state

-- The page's script comes to the page again, and these bytes tell the state that it leaves there, after the states that records told; where there
-- are none, it does not come to the page.
abbrev pub IsLeftBy : Library → Book → Change → Option (List ℕ) → Type 0
IsLeftBy library b c None = comes_again (book_under library b) c ≡ None
IsLeftBy library b c (Some bytes) =
    ((inside : List TxName) × (comes_again (book_under library b) c ≡ Some inside))
    × ((earlier : Earlier) → HasToldStates library.all earlier.states b → TellsLeft earlier (book_under library b) c bytes)

-- The scripts of the book can be run, and what stands in it is orderly, so that each instance has as many cells as its script.
pub record CanRunAgain (library : Library) (b : Book) : Type 0 where
  pub whole : HasWholeScripts (book_under library b)
  pub orderly : AreOrderly (λ (n : ℕ). ⊥) (book_under library b).instances

-- The script of a change's page comes to the page again, and leaves this state there, which can be written where it has a spelling.
pub record ComesAgain (b : spec.Book) (c : Change) (d : Suspended) : Type 0 where
  pub inside : List TxName
  pub comes : comes_again b c ≡ Some inside
  pub state : own_told b c ≡ told d
  pub stored : StateHasBytes d → (s : Named) → script_for b c ≡ Some s → IsStored (arena_of s.script) d

-- the state that the script of a change's page leaves there, where it comes to the page again; none where it does not
abbrev pub ComesTo : Library → Book → Change → Option stored.Suspended → Type 0
ComesTo library b c None = comes_again (book_under library b) c ≡ None
ComesTo library b c (Some d) = ComesAgain (book_under library b) c (suspended_of d)
