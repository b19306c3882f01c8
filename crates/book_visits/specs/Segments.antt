-- What the program prepares of a ticket's segment.
use Rattle.std.specs.Prelude.{ℕ, List, [], map}
use Rattle.script_value.specs.declared.outcome.TxName.{TxName}
use Rattle.script_value.specs.Views.{meaning}
use Rattle.script_nodes.specs.Setup.{Named}
use Rattle.instance_cells.specs.declared.effect.Effect.{Effect}
use Rattle.instance_cells.specs.Views.{effect_of}
use Rattle.machine_states.specs.Views.{suspended_of}
use Rattle.replay_spec.specs.Book as spec
use Rattle.replay_spec.specs.Change.{ended_by}
use Rattle.replay_spec.specs.Eviction.{goes_for}
use Rattle.instance_book.specs.declared.numbered.Numbered.{Numbered}
use Rattle.instance_book.specs.declared.instance.KeptInstance.{KeptInstance}
use Rattle.book_visits.specs.declared.prepared.Prepared.{Prepared}
use Rattle.book_visits.specs.declared.ticket.Ticket.{Ticket}
use Rattle.book_visits.specs.declared.shown.ShownPage.{ShownPage}
use Rattle.book_visits.specs.declared.preparing.Done.{Done}
use Rattle.instance_book.specs.Views.{pages_of, used_of, instance_of}
use Rattle.instance_book.specs.Places.{CanFollow}
use Rattle.book_visits.specs.Changes.{IfExtends}
use Rattle.instance_book.specs.Changes.{gone_in}
use Rattle.book_visits.specs.Prepares.{ending_by, IsOpening, IsExtension, IsEnding, IsFinish, OpensTo, ExtendsTo}

-- ---- of a ticket

-- the opening of a ticket's start that showed this page
abbrev pub opening_of : Ticket → ShownPage → spec.Opening
opening_of t p = record {
  number = t.number;
  nonce = t.nonce;
  script = t.start;
  effects = map effect_of p.effects.items;
  left = p.left.items;
  kind = p.kind;
  deadline = p.deadline;
  evicted = [];
}

-- the extension of an instance by a ticket's answer that showed this page, for which these pages went
abbrev pub extension_of : Ticket → (instance answered : ℕ) → ShownPage → (gone : List ℕ) → spec.Extension
extension_of t instance answered p gone = record {
  number = t.number;
  nonce = t.nonce;
  instance = instance;
  page = answered;
  answer = meaning t.answer;
  effects = map effect_of p.effects.items;
  left = p.left.items;
  kind = p.kind;
  deadline = p.deadline;
  evicted = gone;
}

-- the pages of an instance that go for the page of an answer, where so many may be left with it
abbrev pub goers : (limit : ℕ) → Ticket → (parent : ℕ) → Numbered KeptInstance → List ℕ
goers limit t parent i = goes_for limit parent t.number (used_of i.item.pages)

-- what is prepared for a page that an answer showed, where so many pages may be left
abbrev pub Shows : Ticket → (parent : ℕ) → (bytes : List ℕ) → ShownPage → (limit : ℕ) → Numbered KeptInstance → Prepared → Type 0
Shows t parent bytes p limit i made =
    let x = extension_of t i.number parent p (goers limit t parent i) in
    (all : List Named) → IsExtension made t (instance_of all i) bytes x p.inside.items

-- the extension that is prepared, if it is one, has a page that can follow those of the instance
abbrev pub CanBeShown : Numbered KeptInstance → Prepared → Type 0
CanBeShown i p =
    IfExtends p.change (λ x. CanFollow x.show.page (gone_in x) (pages_of i.item.pages) (used_of i.item.pages))

-- what is prepared for a page with which an answer ended
abbrev pub EndsOn : Ticket → (parent : ℕ) → (bytes : List ℕ) → Done → Numbered KeptInstance → Prepared → Type 0
EndsOn t parent bytes d i p =
    let effects = map effect_of d.effects.items in
    (all : List Named)
    → IsEnding p t (instance_of all i) parent bytes effects d.inside.items d.left.items (ended_by (ending_by t i.number parent effects d.left.items))

-- what is prepared for a page with which an answer finished
abbrev pub FinishesOn : Ticket → (instance parent : ℕ) → (bytes : List ℕ) → List Effect → (inside : List TxName) → Prepared → Type 0
FinishesOn t instance parent bytes effects inside p = IsFinish p t instance parent bytes (map effect_of effects) inside

-- what is prepared for a page that a start showed
abbrev pub OpensOn : Ticket → (bytes : List ℕ) → ShownPage → Prepared → Type 0
OpensOn t bytes page p = IsOpening p t bytes (opening_of t page) page.inside.items

-- the first page of an instance that is prepared has the state of the page that was shown
abbrev pub KeepsFirstState : Ticket → ShownPage → Prepared → Type 0
KeepsFirstState t page p =
    OpensTo t (map effect_of page.effects.items) page.inside.items (suspended_of page.state) p.change

-- the page that is prepared for an answer has the state of the page that was shown
abbrev pub KeepsNextState : Ticket → (instance answered : ℕ) → ShownPage → Prepared → Type 0
KeepsNextState t instance answered page p =
    ExtendsTo t instance answered (map effect_of page.effects.items) page.inside.items (suspended_of page.state) p.change
