-- What a change makes of the book.
use Rattle.std.specs.Prelude.{◌≡◌, ◌+◌, ◌^◌, ◌<◌, ℕ, List, [], ◌∷◌, length, Option, Some, None, ⊤}
use Rattle.script_value.specs.declared.outcome.TxName.{TxName}
use Rattle.script_nodes.specs.Setup.{Named, Library}
use Rattle.journal_records.specs.ReplaySpec.Book as spec
use Rattle.journal_records.specs.ReplaySpec.Book.{at_number}
use Rattle.journal_records.specs.ReplaySpec.Change.{put_page, put_instance, put_use, used_by, used_in, unless_gone, evict, mend, without}
use Rattle.journal_records.specs.ReplaySpec.Marks.{use_of, uses_of, evictions_of}
use Rattle.journal_records.specs.Views.{page_change, ending_of, finish_of}
use Rattle.instance_book.specs.declared.numbered.Numbered.{Numbered}
use Rattle.instance_book.specs.declared.in_order.InOrder.{InOrder}
use Rattle.instance_book.specs.declared.instance.KeptInstance.{KeptInstance}
use Rattle.instance_book.specs.declared.after.After.{After}
use Rattle.instance_book.specs.declared.after.Show.{Show}
use Rattle.instance_book.specs.declared.change.Opening.{Opening}
use Rattle.instance_book.specs.declared.change.Extension.{Extension}
use Rattle.instance_book.specs.declared.change.Change.{Change}
use Rattle.instance_book.specs.declared.change.Change.TheVariants.{Opens, Extends, Ends, Finishes}
use Rattle.instance_book.specs.declared.book.Book.{Book}
use Rattle.instance_book.specs.Orders.{numbers_of}
use Rattle.instance_book.specs.Lists.{HasRoom}
use Rattle.instance_book.specs.Views.{page_of, pages_of, mark_of, script_in, instance_with, instance_of, instances_of}
use Rattle.instance_book.specs.Places.{CanTake, Source, source_in, kept_at, shown_in, HasState, IsNextAt}
use Rattle.instance_book.specs.Makes.{shelf_from, HasStatesFrom, HasPlaces}
use Rattle.script_value.specs.Val.{Val}
use Rattle.instance_cells.specs.Cells.{Effect, commit}

-- the one that came anew, or else what there is
abbrev pub renewed : {A : Type 0} → A → Option A → A
renewed x None = x
renewed x (Some y) = y

-- the revoked numbers: the new ones, where some came, or else those from before
abbrev pub renewed_by : List ℕ → Option (InOrder (Unit {0})) → List ℕ
renewed_by ns None = ns
renewed_by ns (Some list) = numbers_of list.things.items

-- an instance after a segment, with its cells and closed transactions
abbrev pub left_with : After → spec.Instance → spec.Instance
left_with a i = record i { cells = a.cells; closed = renewed i.closed a.closed }

-- an instance with the numbers that a segment revoked, where it revoked anew
abbrev pub revoked_with : Option (InOrder (Unit {0})) → spec.Instance → spec.Instance
revoked_with revoked i = record i { revoked = renewed_by i.revoked revoked }

-- an instance whose page of the first number was answered by a segment of the second
abbrev pub answered_by : (page number : ℕ) → spec.Instance → spec.Instance
answered_by p n i = record i { used = used_by p n i.used }

-- an instance after a segment of this number that answered this page and ended
abbrev pub ended_with : (page number : ℕ) → After → spec.Instance → spec.Instance
ended_with p n a i = answered_by p n (left_with a i)

-- An instance after a segment that showed a page, for which these pages went: with its cells, closed transactions, revoked numbers, uses,
-- evictions and pages.
abbrev pub shown_with : Show → (gone : List ℕ) → spec.Instance → spec.Instance
shown_with s gone i = record (revoked_with s.revoked (left_with s.after i)) {
  used = put_use (use_of (mark_of s.page)) (unless_gone gone (used_in s.page.item.parent s.page.number i.used));
  evicted = evict s.page.number gone i.evicted;
  pages = put_page (page_of s.page) i.pages;
}

-- what is kept of an instance now is what f makes of what was kept of it before, under each list of scripts and number
abbrev pub Becomes : (spec.Instance → spec.Instance) → (old new : KeptInstance) → Type 0
Becomes f old new = (all : List Named) (n : ℕ) → instance_with all n new ≡ f (instance_with all n old)

-- what the program's change stands for in the definitions
abbrev pub change_of : Change → spec.Change
change_of (Opens o) = page_change o.record
change_of (Extends x) = page_change x.record
change_of (Ends e) = spec.ends (ending_of e.record)
change_of (Finishes f) = spec.finishes (finish_of f.record)

-- the transactions that were open where the change's segment stopped
abbrev pub inside_of : Change → List TxName
inside_of (Opens o) = o.page.item.inside.items
inside_of (Extends x) = x.show.page.item.inside.items
inside_of (Ends e) = e.inside.items
inside_of (Finishes f) = f.inside.items

-- the instance that an opening begins, with its page alone
abbrev pub begun_with : List Named → Opening → spec.Instance
begun_with all o = record (instance_with all o.page.number o.instance) {
  used = uses_of (mark_of o.page ∷ []);
  evicted = evictions_of (mark_of o.page ∷ []);
  pages = page_of o.page ∷ [];
}

-- the instance is the one that an opening begins, under each list of scripts
abbrev pub BeginsWith : Opening → Numbered KeptInstance → Type 0
BeginsWith o i = (all : List Named) → instance_of all i ≡ begun_with all o

-- the pages that went for the page of an extension
abbrev pub gone_in : Extension → List ℕ
gone_in x = x.record.evicted.items

-- the instances after a change
abbrev pub instances_with : List Named → Change → List spec.Instance → List spec.Instance
instances_with all (Opens o) is = put_instance (begun_with all o) is
instances_with all (Extends x) is = mend x.instance (shown_with x.show (gone_in x)) is
instances_with all (Ends e) is = mend e.record.instance (ended_with e.record.page e.record.ticket e.after) is
instances_with all (Finishes f) is = without f.record.instance is

-- the instances after a change, if there is one
abbrev pub instances_after : List Named → Option Change → List spec.Instance → List spec.Instance
instances_after all None is = is
instances_after all (Some c) is = instances_with all c is

-- the book after a change of its instances, if there is one
abbrev pub changed_by : Library → Option Change → spec.Book → spec.Book
changed_by library c b = record b { instances = instances_after library.all c b.instances }

-- the new instance has room for its page, and the book for the instance
pub record HasRoomToOpen (o : Opening) (b : Book) : Type 0 where
  pub page : HasRoom o.instance.pages
  pub empty : pages_of o.instance.pages ≡ []
  pub instance : HasRoom b.instances
  pub few : length b.instances.things.items + 1 < 2 ^ 32

-- the instance has room for the page that is shown, which is new and not evicted, and these pages can go for it
abbrev pub CanShow : Show → (gone : List ℕ) → KeptInstance → Type 0
CanShow s gone i = CanTake s.page gone i.pages

-- the page can be shown in the instance of a number, where there is one
abbrev pub CanShowAt : (instance : ℕ) → Show → (gone : List ℕ) → InOrder KeptInstance → Type 0
CanShowAt n s gone is =
    (i : Numbered KeptInstance) → at_number (λ j. j.number) n is.things.items ≡ Some i → CanShow s gone i.item

-- the book has the room that a change takes, and the page that it shows can be shown there
abbrev pub HasRoomWith : Change → Book → Type 0
HasRoomWith (Opens o) b = HasRoomToOpen o b
HasRoomWith (Extends x) b = CanShowAt x.instance x.show (gone_in x) b.instances
HasRoomWith (Ends e) b = ⊤
HasRoomWith (Finishes f) b = ⊤

-- the book has the room that a change takes, if there is one
abbrev pub HasRoomFor : Option Change → Book → Type 0
HasRoomFor None b = ⊤
HasRoomFor (Some c) b = HasRoomWith c b

-- a new instance is of one of the scripts, and its one page has its state
pub record OpensKept (all : List Named) (shelf : Source ℕ) (o : Opening) : Type 0 where
  pub place : o.instance.script < length all
  pub pages : pages_of o.instance.pages ≡ []
  pub shown : shown_in o.instance.pages ≡ []
  pub state :
      let s = script_in all o.instance.script in
      HasState s (source_in s shelf o.page.number) (page_of o.page ∷ []) (page_of o.page) (kept_at o.page)

-- a new page has its state, in this shelf of these instances
abbrev pub HasStateIn : List Named → Source ℕ → List spec.Instance → Change → Type 0
HasStateIn all shelf is (Opens o) = OpensKept all shelf o
HasStateIn all shelf is (Extends x) = IsNextAt shelf is x.instance x.show.page
HasStateIn all shelf is _ = ⊤

-- the new page of a change, if there is one, has its state, in this shelf of these instances
abbrev pub HasStateFrom : List Named → Source ℕ → List spec.Instance → Option Change → Type 0
HasStateFrom all shelf is None = ⊤
HasStateFrom all shelf is (Some c) = HasStateIn all shelf is c

-- an instance that a change opens is of one of the scripts
abbrev pub IsPlacedIn : List Named → Change → Type 0
IsPlacedIn all (Opens o) = o.instance.script < length all
IsPlacedIn all _ = ⊤

-- an instance that a change opens, if there is a change, is of one of the scripts
abbrev pub IsPlacedBy : List Named → Option Change → Type 0
IsPlacedBy all None = ⊤
IsPlacedBy all (Some c) = IsPlacedIn all c

-- where the instance that a change opens is of one of the scripts, each instance of the book goes on to be of one
abbrev pub KeepsPlacesBy : Option Change → (old new : Book) → Type 0
KeepsPlacesBy c old new = (all : List Named) → IsPlacedBy all c → HasPlaces all old → HasPlaces all new

-- where the change's new page has its state, each page of the book goes on to have its own
abbrev pub KeepsStatesBy : Option Change → (old new : Book) → Type 0
KeepsStatesBy c old new =
    (source : Source ⊤) (all : List Named) → HasStateFrom all (shelf_from source old.shelf) (instances_of all old.instances) c
    → HasStatesFrom source all old → HasStatesFrom source all new

-- the instance that a start of the script of this place begins over these cells, without its first page
abbrev pub begun_at : List Named → (place : ℕ) → (cells : List Val) → (number : ℕ) → List Effect → (left : List TxName) → spec.Instance
begun_at all place cells n effects left = record {
  number = n;
  script = script_in all place;
  cells = commit effects cells;
  closed = left;
  revoked = [];
  used = [];
  evicted = [];
  pages = [];
}
