-- Each page of a book that was read has a state that was told, which fits its script and has a spelling.
use Rattle.std.proofs.Common.{◌≡◌, ◌∙◌, ap, subst, sym, ℕ, List, [], ◌∷◌, map, Option, Some}
use Rattle.std.specs.List.{AllByRecursion}
use Rattle.script_nodes.specs.Setup.{Named, Library}
use Rattle.replay_spec.specs.Book.{Page, Instance, Book, instance_at, page_at}
use Rattle.replay_spec.proofs.Numbered.{number_of}
use Rattle.book_redo.specs.MachineStates.Machine.{Suspended}
use Rattle.book_redo.specs.FrameCodec.Stored.{IsStored}
use Rattle.book_redo.specs.InstanceBook.declared.numbered.Numbered.{Numbered}
use Rattle.book_redo.specs.InstanceBook.declared.page.KeptPage.{KeptPage}
use Rattle.book_redo.specs.InstanceBook.declared.instance.KeptInstance.{KeptInstance}
use Rattle.book_redo.specs.InstanceBook.declared.book.Book as kept
use Rattle.book_redo.specs.InstanceBook.Places.{given, HasState, IsKept, shown_of, arena_of}
use Rattle.book_redo.specs.InstanceBook.Makes.{shelf_from}
use Rattle.book_redo.specs.Redo.{HasToldStates}
use Rattle.book_redo.specs.InstanceBook.Views.{Beside, page_of, script_in, instance_of, instances_of, book_of}
use Rattle.book_redo.proofs.InstanceBook.Seen.{all_at}
use Rattle.book_redo.specs.JournalSpec.Before.{States, state_at, Made}
use Rattle.book_redo.specs.JournalSpec.Copying.{HasStored}

-- this is a state that fits the script and has a spelling
abbrev IsOne : Named → Option Suspended → Type 0
IsOne s o = (d : Suspended) × ((o ≡ Some d) × IsStored (arena_of s.script) d)

-- the pages of an instance have states that were given to them
pages_stored : (s : Named) (states : ℕ → Option Suspended) (ps : List Page) (xs : List (Numbered KeptPage)) → AllByRecursion (λ x. HasState s (given states) ps x.0 x.1) (map shown_of xs)
    → AllByRecursion (λ (q : Page). IsOne s (states q.number)) (map page_of xs)
pages_stored s states ps [] all = tt
pages_stored s states ps (x ∷ xs) all = ((all.0.state, all.0.its), pages_stored s states ps xs all.1)

-- each page of an instance has one
abbrev HasOnes : States → Instance → Type 0
HasOnes states i = (n : ℕ) (p : Page) → page_at n i.pages ≡ Some p → IsOne i.script (state_at n states)

instance_stored : (all : List Named) (shelf : ℕ) (states : States) (x : Numbered KeptInstance) → IsKept all (shelf_from (given (λ n. state_at n states)) shelf) x → HasOnes states (instance_of all x)
instance_stored all shelf states x h n p shown =
    let i = instance_of all x in
    let s = script_in all x.item.script in
    let each = pages_stored s (λ k. state_at k states) i.pages x.item.pages.things.items h.states in
    let one = all_at (λ (q : Page). IsOne s (state_at q.number states)) (λ (q : Page). q.number) n i.pages p each shown in
    subst (λ (k : ℕ). IsOne s (state_at k states)) (number_of (λ (q : Page). q.number) n i.pages p shown) one

instances_stored : (all : List Named) (shelf : ℕ) (states : States) (xs : List (Numbered KeptInstance)) → AllByRecursion (IsKept all (shelf_from (given (λ n. state_at n states)) shelf)) xs
    → AllByRecursion (HasOnes states) (map (instance_of all) xs)
instances_stored all shelf states [] h = tt
instances_stored all shelf states (x ∷ xs) h = (instance_stored all shelf states x h.0, instances_stored all shelf states xs h.1)

pub has_stored : (library : Library) (beside : Beside) (m : Made) (b : kept.Book) → m.book ≡ book_of library beside b → HasToldStates library.all m.earlier.states b → HasStored m
has_stored library beside m b is states k n i p found shown =
    let there : instance_at k (instances_of library.all b.instances) ≡ Some i = sym (ap (λ (y : Book). instance_at k y.instances) is) ∙ found in
    all_at (HasOnes m.earlier.states) (λ (j : Instance). j.number) k (instances_of library.all b.instances) i
    (instances_stored library.all b.shelf m.earlier.states b.instances.things.items states) there n p shown
