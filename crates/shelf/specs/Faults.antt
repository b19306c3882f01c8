-- Why a journal makes no shelf.
use Rattle.std.specs.Prelude.{◌≡◌, ◌<◌, ◌^◌, ℕ, List, Some, Result, Ok, Err, false, ⊤}
use Rattle.script_nodes.specs.Setup.{Named}
use Rattle.page_journal.specs.declared.repair.JournalFault.{JournalFault}
use Rattle.page_journal.specs.declared.repair.JournalFault.TheVariants as journal
use Rattle.replay_spec.specs.Book.{are_same}
use Rattle.book_recovery.specs.JournalSpec.Before.{Made}
use Rattle.book_recovery.specs.JournalSpec.Making.{Making, damaged, made_in, other}
use Rattle.book_recovery.specs.JournalSpec.Opening.{opened_on}
use Rattle.shelf.specs.declared.begin.BeginFault.{BeginFault}
use Rattle.shelf.specs.declared.begin.BeginFault.TheVariants as fault

-- why a shelf did not begin, where its journal was not opened
abbrev pub begin_fault : JournalFault → BeginFault
begin_fault (journal.Damaged place) = fault.Damaged place
begin_fault journal.DiskFault = fault.DiskFault
begin_fault journal.Memory = fault.Memory

-- the setup has other names or texts than the one of the book that these records make, if they make one
abbrev pub IsAnother : List Named → Making → Type 0
IsAnother scripts m = (x : Made) → made_in m ≡ Some x → are_same scripts x.book.scripts ≡ false

-- The shelf that goes on with this setup, which is another one, would have a journal of this length, which is longer than one may be.
pub record IsTooLong (scripts : List Named) (shelf : ℕ) (m : Making) (length : ℕ) : Type 0 where
  pub made : Made
  pub opened : opened_on shelf scripts m ≡ Some made
  pub is : made.book.length ≡ length
  pub long : 2 ^ 30 < length
  pub another : IsAnother scripts m

-- the fault is why these records make no shelf of this setup, unless the outside failed
abbrev pub IsReadFaultOf : List Named → (shelf : ℕ) → Making → BeginFault → Type 0
IsReadFaultOf scripts shelf m (fault.Damaged place) = m ≡ damaged place
IsReadFaultOf scripts shelf m (fault.Other place) = m ≡ other place
IsReadFaultOf scripts shelf m (fault.Full length) = IsTooLong scripts shelf m length
IsReadFaultOf scripts shelf m fault.DiskFault = ⊤
IsReadFaultOf scripts shelf m fault.Memory = ⊤

-- a fault that is answered is why these records make no shelf of this setup, unless the outside failed
abbrev pub IsReadFault : {T : Type 0} → List Named → (shelf : ℕ) → Making → Result T BeginFault → Type 0
IsReadFault scripts shelf m (Ok x) = ⊤
IsReadFault scripts shelf m (Err e) = IsReadFaultOf scripts shelf m e
