-- What the program makes of a segment that a record tells: of its effects, of its page, and of the transactions that it left.
use Rattle.std.specs.Prelude.{◌≡◌, ℕ, List, [], ◌∷◌, map, Option, Some, None}
use Rattle.script_value.specs.Val.{Val, list, no_vals}
use Rattle.script_value.specs.declared.outcome.TxName.{TxName}
use Rattle.script_nodes.specs.Setup.{Named}
use Rattle.script_nodes.specs.declared.script.SendKind.{SendKind}
use Rattle.instance_cells.specs.Cells as spec_cells
use Rattle.instance_cells.specs.declared.effect.Effect.{Effect}
use Rattle.instance_cells.specs.Views.{effect_of}
use Rattle.kept_states.specs.MachineStates.Views.{suspended_of}
use Rattle.journal_records.specs.ReplaySpec.Book as spec
use Rattle.journal_records.specs.ReplaySpec.Change.{revoked_by, done, shown_by}
use Rattle.kept_states.specs.Kept.{Kept, kept_of}
use Rattle.journal_records.specs.declared.records.PageRecord.{PageRecord}
use Rattle.instance_book.specs.declared.numbered.Numbered.{Numbered}
use Rattle.instance_book.specs.declared.in_order.InOrder.{InOrder}
use Rattle.instance_book.specs.declared.page.KeptPage.{KeptPage}
use Rattle.instance_book.specs.declared.instance.KeptInstance.{KeptInstance}
use Rattle.instance_book.specs.declared.after.After.{After}
use Rattle.instance_book.specs.declared.change.Opening.{Opening}
use Rattle.instance_book.specs.declared.change.Extension.{Extension}
use Rattle.instance_book.specs.declared.shown.ShownState.{ShownState}
use Rattle.instance_book.specs.Views.{page_of, pages_of, mark_of, instance_with, effects_in, new_in}
use Rattle.instance_book.specs.Places.{kept_at, shown_in}
use Rattle.instance_book.specs.Changes.{renewed_by, left_with, shown_with, begun_with, gone_in, begun_at}

-- the numbers that are revoked after a page of this kind, whichever were before
abbrev pub Revokes : SendKind → InOrder KeptPage → Option (InOrder (Unit {0})) → Type 0
Revokes kind ps after = (revoked : List ℕ) → renewed_by revoked after ≡ revoked_by kind (pages_of ps) revoked

-- this is the instance that a start of the script of this place begins over these cells, before its page stands in it
abbrev pub BeginsBy : (place : ℕ) → (cells : List Val) → List Effect → (left : List TxName) → KeptInstance → Type 0
BeginsBy place cells effects left i =
    (all : List Named) (n : ℕ)
    → instance_with all n i ≡ begun_at all place cells n (map effect_of effects) left

-- a segment of these effects, which left these transactions, leaves this of the instance
abbrev pub IsLeftBy : List Effect → (left : List TxName) → KeptInstance → After → Type 0
IsLeftBy effects left i after =
    (all : List Named) (n : ℕ)
    → left_with after (instance_with all n i) ≡ done (map effect_of effects) left (instance_with all n i)

-- ---- of a record

-- what is kept stands for this page, which its own segment used last and which is not evicted, and this is kept of its state
pub record IsNewPage (q : spec.Page) (k : Kept) (p : Numbered KeptPage) : Type 0 where
  pub page : page_of p ≡ q
  pub mark : mark_of p ≡ record { number = q.number; last = q.number; gone = None }
  pub kept : kept_at p ≡ k

-- the instance that a start of the script of this place begins over these cells, with the page of its record
abbrev pub root_instance : List Named → (place : ℕ) → (cells : List Val) → PageRecord → (inside : List TxName) → spec.Instance
root_instance all place cells r inside = record (begun_at all place cells r.ticket (effects_in r) r.left.items) {
  used = record { page = r.ticket; last = r.ticket } ∷ [];
  pages = new_in r None (list no_vals) inside ∷ [];
}

-- the opening has this record and begins the instance that a start of the script of this place does over these cells
pub record IsOpenedBy (place : ℕ) (cells : List Val) (r : PageRecord) (p : ShownState) (o : Opening) : Type 0 where
  pub told : o.record ≡ r
  pub page : IsNewPage (new_in r None (list no_vals) p.inside.items) (kept_of p.kept) o.page
  pub script : o.instance.script ≡ place
  pub pages : pages_of o.instance.pages ≡ []
  pub shown : shown_in o.instance.pages ≡ []
  pub begun : (all : List Named) → begun_with all o ≡ root_instance all place cells r p.inside.items
  pub state : suspended_of o.state ≡ suspended_of p.state

-- the extension has this record of an answer to this page of the instance, and makes of the instance what the record does
pub record IsExtendedBy (r : PageRecord) (parent : ℕ) (answer : Val) (p : ShownState) (i : Numbered KeptInstance) (x : Extension) : Type 0 where
  pub instance : x.instance ≡ i.number
  pub told : x.record ≡ r
  pub page : IsNewPage (new_in r (Some parent) answer p.inside.items) (kept_of p.kept) x.show.page
  pub goes :
      (all : List Named) (n : ℕ)
      → shown_with x.show (gone_in x) (instance_with all n i.item)
      ≡ shown_by (effects_in r) r.left.items r.kind r.evicted.items (new_in r (Some parent) answer p.inside.items) (instance_with all n i.item)
  pub state : suspended_of x.state ≡ suspended_of p.state
