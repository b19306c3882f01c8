-- Copies of what is kept and of changes.
use Rattle.std.specs.Prelude.{◌≡◌, ℕ, List}
use Rattle.script_nodes.specs.Setup.{Named}
use Rattle.journal_records.specs.ReplaySpec.Book as spec
use Rattle.kept_states.specs.MachineStates.Views.{suspended_of}
use Rattle.journal_records.specs.Views.{IsSamePage}
use Rattle.instance_book.specs.declared.in_order.InOrder.{InOrder}
use Rattle.instance_book.specs.declared.page.KeptPage.{KeptPage}
use Rattle.instance_book.specs.declared.instance.KeptInstance.{KeptInstance}
use Rattle.instance_book.specs.declared.after.Show.{Show}
use Rattle.instance_book.specs.declared.change.Opening.{Opening}
use Rattle.instance_book.specs.declared.change.Extension.{Extension}
use Rattle.instance_book.specs.declared.change.Change.{Change}
use Rattle.instance_book.specs.declared.book.Book.{Book}
use Rattle.instance_book.specs.Views.{page_of, pages_of, mark_of, marks_of, instance_with}
use Rattle.instance_book.specs.Changes.{shown_with, begun_with, change_of, inside_of, HasRoomWith, HasStateIn, instances_with}
use Rattle.instance_book.specs.Places.{Source, kept_at, shown_in}

-- a copy stands for the same instance, under each number and list of scripts
abbrev pub IsSameInstance : (i copy : KeptInstance) → Type 0
IsSameInstance i copy = (all : List Named) (n : ℕ) → instance_with all n copy ≡ instance_with all n i

-- a copy has the same pages, with the same states and marks
pub record IsSamePages (ps copy : InOrder KeptPage) : Type 0 where
  pub pages : pages_of copy ≡ pages_of ps
  pub shown : shown_in copy ≡ shown_in ps
  pub marks : marks_of copy ≡ marks_of ps

-- a copy has the same page with the same state and mark, and makes the same of each instance
pub record IsSameShow (s copy : Show) : Type 0 where
  pub page : page_of copy.page ≡ page_of s.page
  pub mark : mark_of copy.page ≡ mark_of s.page
  pub state : kept_at copy.page ≡ kept_at s.page
  pub made : (gone : List ℕ) (i : spec.Instance) → shown_with copy gone i ≡ shown_with s gone i

-- a copy of an opening begins the same instance
abbrev pub BeginsAlike : (o copy : Opening) → Type 0
BeginsAlike o copy = (all : List Named) → begun_with all copy ≡ begun_with all o

-- a copy of an opening tells the same state
abbrev pub TellsAlike : (o copy : Opening) → Type 0
TellsAlike o copy = suspended_of copy.state ≡ suspended_of o.state

-- the instance of an opening's copy has the same pages, with the same states and marks
abbrev pub BeginsOverSame : (o copy : Opening) → Type 0
BeginsOverSame o copy = IsSamePages o.instance.pages copy.instance.pages

-- a copy of an extension has the same record of the same instance, and makes the same of each instance
pub record IsSameExtension (x copy : Extension) : Type 0 where
  pub instance : copy.instance ≡ x.instance
  pub record_is : IsSamePage x.record copy.record
  pub told : suspended_of copy.state ≡ suspended_of x.state
  pub show : IsSameShow x.show copy.show

-- a copy of a change has the same record and makes the same of the instances; where the one has its room, and its page its state, so has
-- the copy
pub record IsSameChange (c copy : Change) : Type 0 where
  pub change : change_of copy ≡ change_of c
  pub inside : inside_of copy ≡ inside_of c
  pub instances : (all : List Named) (is : List spec.Instance) → instances_with all copy is ≡ instances_with all c is
  pub room : (b : Book) → HasRoomWith c b → HasRoomWith copy b
  pub states : (all : List Named) (shelf : Source ℕ) (is : List spec.Instance) → HasStateIn all shelf is c → HasStateIn all shelf is copy
