-- The book of one shelf.
use Rattle.std.specs.Prelude.{ℕ, Bool, true, false, zero, suc, ◌+◌, ◌==◌, ◌&&◌, not, List, [], ◌∷◌, ◌++◌, length, filter, Option, Some, None, nat_le, if◌then◌else◌}
use Rattle.std.specs.List.{list_all}
use Rattle.std.specs.Str.{bytes_eq}
use Rattle.script_value.specs.Val.{Val, list, no_vals}
use Rattle.script_value.specs.declared.outcome.TxName.{TxName}
use Rattle.instance_cells.specs.Cells.{Effect, reads_of}
use Rattle.script_nodes.specs.declared.script.SendKind.{SendKind}
use Rattle.script_nodes.specs.Setup.{Named}

-- A page that was shown: the page that was answered before it, and with what (a root keeps the empty list); what its segment
-- read; the transactions round it; and until when it can be answered.
pub record Page : Type 0 where
  pub number : ℕ
  pub nonce : ℕ
  pub parent : Option ℕ
  pub answer : Val
  pub reads : List Val
  pub inside : List TxName
  pub deadline : ℕ

-- a page that is not evicted, and the greatest number of a segment that showed or answered it
pub record Use : Type 0 where
  pub page : ℕ
  pub last : ℕ

-- a page that is evicted, and the page for which it went
pub record Eviction : Type 0 where
  pub page : ℕ
  pub by : ℕ

-- A run of this script, with its cells, its closed transactions, the numbers of its revoked pages, the uses of its pages that are not
-- evicted, the evictions of those that are, and all its pages. Uses, evictions and pages stand in the order of the pages' numbers.
pub record Instance : Type 0 where
  pub number : ℕ
  pub script : Named
  pub cells : List Val
  pub closed : List TxName
  pub revoked : List ℕ
  pub used : List Use
  pub evicted : List Eviction
  pub pages : List Page

-- a start of the script of this place in the setup showed a page; the list of pages that went for it is empty in every record that lands
pub record Opening : Type 0 where
  pub number : ℕ
  pub nonce : ℕ
  pub script : ℕ
  pub effects : List Effect
  pub left : List TxName
  pub kind : SendKind
  pub deadline : ℕ
  pub evicted : List ℕ

-- a page of the instance was answered, and showed a page, for which these went
pub record Extension : Type 0 where
  pub number : ℕ
  pub nonce : ℕ
  pub instance : ℕ
  pub page : ℕ
  pub answer : Val
  pub effects : List Effect
  pub left : List TxName
  pub kind : SendKind
  pub deadline : ℕ
  pub evicted : List ℕ

-- the page that a start showed inside these transactions
abbrev pub root_by : Opening → List TxName → Page
root_by o inside = record {
  number = o.number;
  nonce = o.nonce;
  parent = None;
  answer = list no_vals;
  reads = reads_of o.effects;
  inside = inside;
  deadline = o.deadline;
}

-- the page that an answer showed inside these transactions
abbrev pub page_by : Extension → List TxName → Page
page_by x inside = record {
  number = x.number;
  nonce = x.nonce;
  parent = Some x.page;
  answer = x.answer;
  reads = reads_of x.effects;
  inside = inside;
  deadline = x.deadline;
}

-- a page of the instance was answered, with a last page
pub record Ending : Type 0 where
  pub number : ℕ
  pub instance : ℕ
  pub page : ℕ
  pub answer : Val
  pub effects : List Effect
  pub left : List TxName

-- a page of the instance was answered, and the instance was freed
pub record Finish : Type 0 where
  pub number : ℕ
  pub instance : ℕ
  pub page : ℕ
  pub answer : Val
  pub effects : List Effect

-- one change of the book, as a record of the journal has it: a segment was published, or time went on to a tick
pub data Change : Type 0 where
  opens : Opening → Change
  extends : Extension → Change
  ends : Ending → Change
  finishes : Finish → Change
  sweeps : (tick : ℕ) → Change

-- what one event does to a book and its journal: a change lands, whose new page is inside these transactions; or the file is compacted
pub data Work : Type 0 where
  landing : Change → (inside : List TxName) → Work
  compacting : Work

-- work that may have been done, since the disk failed in it, with the disk's count of faults
pub record Doubt : Type 0 where
  pub count : ℕ
  pub work : Work

-- a record of a journal's file, with the length of its body: a change, or the setup from there on
pub data Line : Type 0 where
  changed : Change → (length : ℕ) → Line
  renewed : (scripts : List Named) → (length : ℕ) → Line

-- The file of a journal: the setup that it begins with, and how long it is with that alone; where it was compacted, one more than the
-- greatest number in a record before that; and its other records, without those that recovery passes over.
pub record File : Type 0 where
  pub scripts : List Named
  pub head : ℕ
  pub drawn : Option ℕ
  pub lines : List Line

-- `scripts`: the setup, of which starts are; `drawn`: the next number; `logged`: one more than the greatest number in a
-- record; `length`: that of the journal's file, with the records that recovery passes over; `out`: the numbers that were taken and not
-- published; `follows`: whether the shelf follows another one's journal
pub record Book : Type 0 where
  pub shelf : ℕ
  pub scripts : List Named
  pub clock : ℕ
  pub drawn : ℕ
  pub logged : ℕ
  pub length : ℕ
  pub file : File
  pub out : List ℕ
  pub down : Option Doubt
  pub follows : Bool
  pub instances : List Instance

-- the first in a list that has this number
abbrev pub at_number : {A : Type 0} → (A → ℕ) → ℕ → List A → Option A
at_number number n [] = None
at_number number n (x ∷ xs) = if number x == n then Some x else at_number number n xs

-- the instance of this number, if it stands in the book
abbrev pub instance_at : ℕ → List Instance → Option Instance
instance_at n is = at_number (λ i. i.number) n is

-- the page of this number, if it is one of these
abbrev pub page_at : ℕ → List Page → Option Page
page_at n ps = at_number (λ p. p.number) n ps

-- the page that another one goes on from, if there is one
abbrev pub parent_of : List Page → Option ℕ → Option Page
parent_of ps None = None
parent_of ps (Some n) = page_at n ps

-- The pages from the root to this one by their parents, at most n of them. A parent is an older page of the
-- instance, so as many as the instance has are all of them.
abbrev pub chain_within : ℕ → List Page → Option Page → List Page
chain_within zero ps p = []
chain_within (suc n) ps None = []
chain_within (suc n) ps (Some p) = chain_within n ps (parent_of ps p.parent) ++ p ∷ []

-- a page and the pages before it that led to it
abbrev pub chain : List Page → Page → List Page
chain ps p = chain_within (length ps) ps (Some p)

-- whether the time of a page is over
abbrev pub is_expired : ℕ → Page → Bool
is_expired clock p = nat_le p.deadline clock

-- the page for which this one went
abbrev pub evictor : ℕ → List Eviction → Option ℕ
evictor n [] = None
evictor n (e ∷ es) = if e.page == n then Some e.by else evictor n es

-- whether a page went for another
abbrev pub is_evicted : ℕ → List Eviction → Bool
is_evicted n [] = false
is_evicted n (e ∷ es) = if e.page == n then true else is_evicted n es

-- whether a page can't be answered any more: its time is over, or it went for another
abbrev pub is_over : ℕ → List Eviction → Page → Bool
is_over clock es p = if is_expired clock p then true else is_evicted p.number es

-- an instance with a page that can be answered still
abbrev pub is_live : ℕ → Instance → Bool
is_live clock i = not (list_all (is_over clock i.evicted) i.pages)

-- the book after a number is taken
abbrev pub draw : Book → Book
draw b = record b { drawn = b.drawn + 1; out = b.out ++ b.drawn ∷ [] }

-- the book after a number is published
abbrev pub spend : ℕ → Book → Book
spend n b = record b { out = filter (λ m. not (m == n)) b.out }

-- the shelf is opened again: numbers that no record has are drawn again
abbrev pub reopened : Book → Book
reopened b = record b { drawn = b.logged; out = []; down = None }

-- whether two setups have the same names and texts, in order
abbrev pub are_same : List Named → List Named → Bool
are_same [] [] = true
are_same (s ∷ ss) (t ∷ ts) = bytes_eq s.name t.name && bytes_eq s.text t.text && are_same ss ts
are_same _ _ = false
