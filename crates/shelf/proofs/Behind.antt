-- What the records told and tell then, where a change lands whose ticket goes on from the book.
use Rattle.std.proofs.Common.{◌≡◌, ap, sym, subst, ℕ, Bool, IsTrue, List, Option, Some, None, option_map, Contains}
use Rattle.script_nodes.specs.Setup.{Named}
use Rattle.book_recovery.specs.SetupReader.Texts.{setup_of_texts as texts}
use Rattle.page_names.specs.Views.{target_of}
use Rattle.web_disk.specs.View.{View}
use Rattle.page_journal.specs.Settled.{bodies_in}
use Rattle.replay_spec.specs.Book as spec
use Rattle.machine_states.specs.Machine.{Suspended}
use Rattle.book_recovery.specs.JournalSpec.Before.{state_at, Earlier, made_of}
use Rattle.book_recovery.specs.JournalSpec.Retaking as books
use Rattle.book_recovery.specs.JournalSpec.Retaking.{with_state}
use Rattle.book_recovery.specs.JournalSpec.Lengths.{told_own}
use Rattle.book_recovery.specs.JournalSpec.Keeping.{Keeps}
use Rattle.book_recovery.specs.InstanceBook.declared.book.Book.{Book}
use Rattle.book_recovery.specs.InstanceBook.declared.in_order.InOrder.{InOrder}
use Rattle.book_recovery.specs.InstanceBook.declared.instance.KeptInstance.{KeptInstance}
use Rattle.book_recovery.specs.InstanceBook.declared.change.Change.{Change}
use Rattle.book_visits.specs.declared.prepared.Prepared.{Prepared}
use Rattle.book_visits.specs.declared.ticket.Ticket.{Ticket}
use Rattle.book_recovery.specs.InstanceBook.Views.{instances_of}
use Rattle.book_recovery.specs.InstanceBook.Places.{given}
use Rattle.book_recovery.specs.InstanceBook.Makes.{KeepsStates}
use Rattle.book_recovery.specs.InstanceBook.Changes.{change_of, HasStateIn, HasStateFrom, HasRoomFor, KeepsStatesBy}
use Rattle.book_visits.specs.Changes.{IsSpelledIn}
use Rattle.book_visits.specs.Prepares.{HasItsScript}
use Rattle.shelf.specs.declared.doubt.Doubt as doubt_type
use Rattle.shelf.specs.declared.shelf.Shelf.{Shelf}
use Rattle.shelf.specs.Views.{doubt_of, library_in, beside_of, book_in, IsInOrder}
use Rattle.book_recovery.specs.Found.{HasToldStates}
use Rattle.shelf.specs.Holding.{IsWholeIn}
use Rattle.shelf.specs.Preparing.{CanBeLanded}
use Rattle.shelf.specs.Recording.{state_in, told_in, BindsIn, GoesOnAsGiven}
use Rattle.shelf.proofs.Landing as landing
use Rattle.shelf.proofs.Shown.{GoesHere, goes_here}
use Rattle.shelf.proofs.Tales.{still_told, now_told, stay_told}

module _ {D N : Type 0} (view : D → View) (tells : Bool) (s : Shelf D N) (order : IsInOrder view tells s) (t : Ticket) (p : Prepared) (up : s.down ≡ None)
    (out : Contains (book_in view s).out t.number) (has : HasItsScript (library_in s) t (target_of t.target)) (can : CanBeLanded (library_in s) s.book t p) (rooms : HasRoomFor p.change s.book) (c : Change) (some : p.change ≡ Some c) (spent : Book)
    (same : spent.instances ≡ s.book.instances) (keeps : KeepsStates s.book spent) (whole : IsWholeIn (library_in s).all spent c) (spelled : IsSpelledIn c) (goes : GoesOnAsGiven (library_in s) spent t c) (told : IsTrue tells) where
  abbrev all : List Named
  all = (library_in s).all

  abbrev b : spec.Book
  b = book_in view s

  abbrev bodies : List (List ℕ)
  bodies = bodies_in view s.journal

  abbrev there : Keeps texts s.rules.number bodies b
  there = (order.fit told).holds (ap (λ (o : Option doubt_type.Doubt). option_map doubt_of o) up)

  abbrev earlier : Earlier
  earlier = there.earlier

  had : HasToldStates all earlier.states spent
  had = keeps (given (λ n. state_at n earlier.states)) all (order.told told up (made_of b earlier) there.makes)

  here : GoesHere b (λ n. state_at n earlier.states) t c
  here = goes_here (library_in s) (beside_of view s) s.book spent t c (λ n. state_at n earlier.states) same goes had

  -- the state of the page is read back
  pub read_there : BindsIn t c → books.told_in earlier b (change_of c) (told_in t c) ≡ told_own (state_in c)
  read_there binds = landing.read view tells s order t p up out has can rooms c some spent same whole spelled earlier here binds

  shown : HasStateIn all (given (λ n. state_at n (with_state (Some t.number) (told_own (state_in c)) earlier.states))) b.instances c
  shown = landing.shown view tells s order t p up out has can rooms c some spent same whole spelled earlier here
      (λ y n d. still_told b t.number out s.rules.number bodies (made_of b earlier) there.makes there.recoverable.used y d n)
      (λ y. now_told b t.number out s.rules.number bodies (made_of b earlier) there.makes there.recoverable.used y)

  had_more : (o : Option Suspended) → HasToldStates all (with_state (Some t.number) (told_own o) earlier.states) spent
  had_more None = had
  had_more (Some y) = stay_told b t.number out s.rules.number bodies (made_of b earlier) there.makes there.recoverable.used y all spent had

  -- and then the pages have the states that are told
  pub installed : (new : Book) → KeepsStatesBy p.change spent new → HasToldStates all (with_state (Some t.number) (told_own (state_in c)) earlier.states) new
  installed new keeps_by =
      let g : ℕ → Option Suspended = λ n. state_at n (with_state (Some t.number) (told_own (state_in c)) earlier.states) in
      let moved : HasStateIn all (given g) (instances_of all spent.instances) c = subst (λ (is : InOrder KeptInstance). HasStateIn all (given g) (instances_of all is) c) (sym same) shown in
      keeps_by (given g) all (subst (HasStateFrom all (given g) (instances_of all spent.instances)) (sym some) moved) (had_more (state_in c))
