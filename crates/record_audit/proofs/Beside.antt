-- The tests of a record look at no journal.
use Rattle.std.proofs.Common.{◌≡◌, ◌∙◌, ap, sym, subst, ℕ, Bool, Option, Some, refl}
use Rattle.script_nodes.specs.Setup.{Library}
use Rattle.replay_spec.specs.Book as spec
use Rattle.replay_spec.specs.Book.{Change, opens, extends, ends, finishes, sweeps}
use Rattle.replay_spec.specs.Admission.{is_one}
use Rattle.replay_spec.specs.Recovery.{number_in, is_repeated}
use Rattle.book_redo.specs.InstanceBook.declared.in_order.InOrder.{InOrder}
use Rattle.book_redo.specs.InstanceBook.declared.book.Book.{Book}
use Rattle.book_redo.specs.InstanceBook.Orders.{numbers_of}
use Rattle.book_redo.specs.InstanceBook.Views.{Beside, book_of}
use Rattle.book_redo.specs.InstanceBook.Standing.{book_under}
use Rattle.book_redo.specs.JournalSpec.Before.{Made}
use Rattle.book_redo.specs.JournalSpec.Retaking.{script_for}
use Rattle.book_redo.specs.JournalSpec.Lengths.{state_by}
use Rattle.audit_spec.specs.Tests.{goes_on, is_admitted, runs_so, least_go, is_in_time}
use Rattle.record_audit.specs.Faults.{IsMadeOf}

-- the tests of a change are the same on two books, and so are the script and the state of its page
pub record TestsAlike (b d : spec.Book) (c : Change) : Type 0 where
  pub goes : goes_on b c ≡ goes_on d c
  pub admitted : is_admitted b c ≡ is_admitted d c
  pub runs : runs_so b c ≡ runs_so d c
  pub least : least_go b c ≡ least_go d c
  pub time : is_in_time b c ≡ is_in_time d c
  pub script : script_for b c ≡ script_for d c
  pub state : state_by b c ≡ state_by d c

pub beside_alike : (library : Library) (beside : Beside) (b : Book) (c : Change) → TestsAlike (book_of library beside b) (book_under library b) c
beside_alike library beside b (opens o) = record { goes = refl; admitted = refl; runs = refl; least = refl; time = refl; script = refl; state = refl }
beside_alike library beside b (extends x) = record { goes = refl; admitted = refl; runs = refl; least = refl; time = refl; script = refl; state = refl }
beside_alike library beside b (ends e) = record { goes = refl; admitted = refl; runs = refl; least = refl; time = refl; script = refl; state = refl }
beside_alike library beside b (finishes f) = record { goes = refl; admitted = refl; runs = refl; least = refl; time = refl; script = refl; state = refl }
beside_alike library beside b (sweeps tick) = record { goes = refl; admitted = refl; runs = refl; least = refl; time = refl; script = refl; state = refl }

-- so it is on the book that records made
pub alike : (library : Library) (seen : InOrder (Unit {0})) (b : Book) (m : Made) (c : Change) → IsMadeOf library seen b m → TestsAlike m.book (book_under library b) c
alike library seen b m c made =
    subst (λ (d : spec.Book). TestsAlike d (book_under library b) c) (sym made.book) (beside_alike library made.beside b c)

-- whether the number of a record was told before
pub repeated : (library : Library) (seen : InOrder (Unit {0})) (b : Book) (m : Made) (c : Change) (n : ℕ) (t : Bool) → IsMadeOf library seen b m → number_in c ≡ Some n
    → is_one n (numbers_of seen.things.items) ≡ t → is_repeated (number_in c) m.earlier.seen ≡ t
repeated library seen b m c n t made number told =
    ap (λ (o : Option ℕ). is_repeated o m.earlier.seen) number ∙ (made.numbers n ∙ told)
