-- What holds of each book that a shelf can have, and of each change that it may come to.
use Rattle.std.specs.Prelude.{◌≡◌, ◌≤◌, ◌<◌, ◌⊎◌, ℕ, suc, List, [], ◌∷◌, ◌++◌, length, map, filter, reverse, not, Option, Some, None, true, false, slice_get, ⊤}
use Rattle.script_value.specs.Val.{Val}
use Rattle.script_value.specs.declared.outcome.TxName.{TxName}
use Rattle.script_nodes.specs.Setup.{Named}
use Rattle.script_nodes.specs.declared.script.SendKind.{SendKind}
use Rattle.replay_spec.specs.Names.{Has}
use Rattle.replay_spec.specs.Tape.{shows, paged}
use Rattle.replay_spec.specs.Eval.{end_of, run, unread}
use Rattle.replay_spec.specs.Book.{Page, Instance, Change, opens, extends, ends, finishes, sweeps, Work, landing, compacting, Doubt, Book, instance_at, page_at, parent_of, is_evicted, root_by, page_by}
use Rattle.replay_spec.specs.Admission.{is_one}
use Rattle.replay_spec.specs.Next.{home, page_tape}

-- a number is among these
abbrev pub Among : ℕ → List ℕ → Type 0
Among n [] = ⊥
Among n (m ∷ ms) = (m ≡ n) ⊎ Among n ms

-- these numbers are all different
abbrev pub AreDifferent : List ℕ → Type 0
AreDifferent [] = ⊤
AreDifferent (n ∷ ns) = (Among n ns → ⊥) × AreDifferent ns

-- the numbers of instances are all different
abbrev pub Apart : List Instance → Type 0
Apart [] = ⊤
Apart (i ∷ is) = (instance_at i.number is ≡ None) × Apart is

-- the numbers of pages are all different
abbrev pub PagesApart : List Page → Type 0
PagesApart [] = ⊤
PagesApart (p ∷ ps) = (page_at p.number ps ≡ None) × PagesApart ps

-- the ancestors of a page, the nearest first: each is the parent of the one before, and the last has none
abbrev pub AreAncestors : List Page → Page → List Page → Type 0
AreAncestors ps p [] = p.parent ≡ None
AreAncestors ps p (q ∷ qs) = (parent_of ps p.parent ≡ Some q) × AreAncestors ps q qs

-- a page's ancestors stand among the pages, no more than there are others
pub record Lineage (ps : List Page) (p : Page) : Type 0 where
  pub ancestors : List Page
  pub are : AreAncestors ps p ancestors
  pub few : suc (length ancestors) ≤ length ps

-- the page stands under this number in the instance of this number
pub record PageAt (is : List Instance) (k m : ℕ) (p : Page) : Type 0 where
  pub instance : Instance
  pub found : instance_at k is ≡ Some instance
  pub shown : page_at m instance.pages ≡ Some p

-- some page stands under this number in the instance of this number
abbrev pub HasPage : List Instance → (k m : ℕ) → Type 0
HasPage is k m = (p : Page) × PageAt is k m p

-- the change is that of the segment of this number
abbrev pub IsOf : ℕ → Change → Type 0
IsOf m (opens o) = o.number ≡ m
IsOf m (extends x) = x.number ≡ m
IsOf m (ends e) = e.number ≡ m
IsOf m (finishes f) = f.number ≡ m
IsOf m (sweeps tick) = ⊥

-- the work is that of the segment of this number
abbrev pub IsIn : ℕ → Work → Type 0
IsIn m (landing c inside) = IsOf m c
IsIn m compacting = ⊥

-- what is in doubt, if anything is, is that of the segment of this number
abbrev pub IsDoubted : ℕ → Option Doubt → Type 0
IsDoubted n None = ⊥
IsDoubted n (Some doubt) = IsIn n doubt.work

-- a number that is out, in doubt, or above those in records
abbrev pub Unused : Book → ℕ → Type 0
Unused b n = Among n b.out ⊎ (IsDoubted n b.down ⊎ (b.logged ≤ n))

-- each of these has a greater number than this
abbrev pub AreAbove : {A : Type 0} → (A → ℕ) → ℕ → List A → Type 0
AreAbove number n [] = ⊤
AreAbove number n (x ∷ xs) = (n < number x) × AreAbove number n xs

-- the numbers of these rise
abbrev pub IsRising : {A : Type 0} → (A → ℕ) → List A → Type 0
IsRising number [] = ⊤
IsRising number (x ∷ xs) = AreAbove number (number x) xs × IsRising number xs

-- the number of a page
abbrev pub number_of : Page → ℕ
number_of p = p.number

-- The pages of an instance stand in the order of their numbers. The uses are those of the pages that are not evicted, in their order, and
-- each page that is evicted stands.
pub record IsKept (i : Instance) : Type 0 where
  pub rising : IsRising number_of i.pages
  pub used : map (λ u. u.page) i.used ≡ map number_of (filter (λ p. not (is_evicted p.number i.evicted)) i.pages)
  pub evicted : (n : ℕ) → is_evicted n i.evicted ≡ true → page_at n i.pages ≡ None → ⊥

-- The numbers of instances are different and rise, and those of the pages of each; an unused number names no instance, no page and no
-- revoked page; the ancestors of each page stand; each instance has as many cells as its script; and its uses and evictions are kept.
pub record AreOrderly (unused : ℕ → Type 0) (is : List Instance) : Type 0 where
  pub apart : Apart is
  pub pages_apart : (k : ℕ) (i : Instance) → instance_at k is ≡ Some i → PagesApart i.pages
  pub no_instance : (n : ℕ) → unused n → instance_at n is ≡ None
  pub no_page : (n : ℕ) → unused n → (k : ℕ) (i : Instance) → instance_at k is ≡ Some i → page_at n i.pages ≡ None
  pub none_revoked : (n : ℕ) → unused n → (k : ℕ) (i : Instance) → instance_at k is ≡ Some i → is_one n i.revoked ≡ false
  pub lineage : (k : ℕ) (i : Instance) → instance_at k is ≡ Some i → (n : ℕ) (p : Page) → page_at n i.pages ≡ Some p → Lineage i.pages p
  pub sized : (k : ℕ) (i : Instance) → instance_at k is ≡ Some i → length i.cells ≡ length i.script.script.cells
  pub rising : IsRising (λ (i : Instance). i.number) is
  pub kept : (k : ℕ) (i : Instance) → instance_at k is ≡ Some i → IsKept i

-- these pages of the instance of this number are not evicted
abbrev pub CanGo : List Instance → (k : ℕ) → List ℕ → Type 0
CanGo is k gone = (i : Instance) → instance_at k is ≡ Some i → (n : ℕ) → is_one n gone ≡ true → is_one n (map (λ u. u.page) i.used) ≡ true

-- a change that a record may tell: the page that it answers stands, and so do those that it evicts, and its tick is above the clock
abbrev pub IsOrderlyChange : (clock : ℕ) → List Instance → Change → Type 0
IsOrderlyChange clock is (opens o) = ⊤
IsOrderlyChange clock is (extends x) = HasPage is x.instance x.page × CanGo is x.instance x.evicted
IsOrderlyChange clock is (ends e) = HasPage is e.instance e.page
IsOrderlyChange clock is (finishes f) = HasPage is f.instance f.page
IsOrderlyChange clock is (sweeps tick) = clock < tick

-- work that may be done: a change that a record may tell, or a compaction
abbrev pub IsOrderlyWork : (clock : ℕ) → List Instance → Work → Type 0
IsOrderlyWork clock is (landing c inside) = IsOrderlyChange clock is c
IsOrderlyWork clock is compacting = ⊤

-- what is in doubt, if anything is, is work that may be done
abbrev pub IsOrderlyDoubt : (clock : ℕ) → List Instance → Option Doubt → Type 0
IsOrderlyDoubt clock is None = ⊤
IsOrderlyDoubt clock is (Some doubt) = IsOrderlyWork clock is doubt.work

-- Numbers that are out or in doubt were drawn, and are different; those in records were drawn too; the instances are
-- orderly, and so is what is in doubt. Whatever the records of a journal tell, the book that they make is such a one.
pub record IsOrderly (b : Book) : Type 0 where
  pub below : (n : ℕ) → Among n b.out → n < b.drawn
  pub different : AreDifferent b.out
  pub doubted : (n : ℕ) → IsDoubted n b.down → (n < b.drawn) × (Among n b.out → ⊥)
  pub logged : b.logged ≤ b.drawn
  pub instances : AreOrderly (Unused b) b.instances
  pub doubt : IsOrderlyDoubt b.clock b.instances b.down

-- a page for which more was recorded
abbrev pub with_more : List Val → Page → Page
with_more more p = record p { reads = p.reads ++ more }

-- The script, run from its start over the answers of these pages, the nearest first, and the page's own, and over what was
-- recorded for them, shows a page inside the transactions that the page keeps, and reads just what was recorded for it: of
-- more that stood there, that is left.
pub record Replays (s : Named) (shelf instance : ℕ) (ancestors : List Page) (p : Page) : Type 0 where
  pub kind : SendKind
  pub bytes : List ℕ
  pub stops : (more : List Val) → (run s.script (page_tape (home s shelf instance) (reverse ancestors) (with_more more p))).outcome ≡ paged (shows kind) bytes
  pub inside : (more : List Val) → (run s.script (page_tape (home s shelf instance) (reverse ancestors) (with_more more p))).entered ≡ p.inside
  pub read : (more : List Val) → unread (end_of s.script (page_tape (home s shelf instance) (reverse ancestors) (with_more more p))) ≡ more

-- the instance of this number has a page inside the transaction
pub record NamedIn (is : List Instance) (k : ℕ) (t : TxName) : Type 0 where
  pub number : ℕ
  pub page : Page
  pub stands : PageAt is k number page
  pub within : Has page.inside t

-- the instance of this number has closed the transaction
pub record ClosedIn (is : List Instance) (k : ℕ) (t : TxName) : Type 0 where
  pub instance : Instance
  pub found : instance_at k is ≡ Some instance
  pub closed : Has instance.closed t

-- the instance of this number has a page inside the transaction, or has closed it
abbrev pub Knows : List Instance → (k : ℕ) → TxName → Type 0
Knows is k t = NamedIn is k t ⊎ ClosedIn is k t

-- A transaction's name, that of a page or a closed one, stands in one instance, and has no unused number. Each page is
-- shown by its script over its ancestors.
pub record AreSound (unused : ℕ → Type 0) (shelf : ℕ) (is : List Instance) : Type 0 where
  pub no_name : (t : TxName) (k : ℕ) → NamedIn is k t → unused t.ticket → ⊥
  pub no_closed : (t : TxName) (k : ℕ) → ClosedIn is k t → unused t.ticket → ⊥
  pub home : (t : TxName) (k l : ℕ) → Knows is k t → Knows is l t → k ≡ l
  pub replays : (k : ℕ) (i : Instance) → instance_at k is ≡ Some i → (n : ℕ) (p : Page) → page_at n i.pages ≡ Some p
      → (h : Lineage i.pages p) → Replays i.script shelf i.number h.ancestors p

-- an answer to the page of this number in the instance of this number: it leaves some of the page's transactions, which
-- are open
pub record Leaving (is : List Instance) (k n : ℕ) (left : List TxName) : Type 0 where
  pub instance : Instance
  pub page : Page
  pub here : instance_at k is ≡ Some instance
  pub shown : page_at n instance.pages ≡ Some page
  pub is_open : (t : TxName) → Has page.inside t → Has instance.closed t → ⊥
  pub among : (t : TxName) → Has left t → Has page.inside t

-- an answer to the page of this number, in the instance of this number, that leaves these transactions and shows a page,
-- which is inside some of the answered page's transactions and of its own
pub record Child (shelf : ℕ) (is : List Instance) (k n : ℕ) (left : List TxName) (p : Page) : Type 0 where
  pub from : Leaving is k n left
  pub parent : p.parent ≡ Some n
  pub own : (t : TxName) → Has p.inside t → Has from.page.inside t ⊎ (t.ticket ≡ p.number)
  pub replays : (h : Lineage from.instance.pages from.page) → Replays from.instance.script shelf from.instance.number (from.page ∷ h.ancestors) p

-- a start of the script of this place, which leaves no transaction, and the page that it shows
pub record Root (scripts : List Named) (shelf k : ℕ) (left : List TxName) (p : Page) : Type 0 where
  pub parent : p.parent ≡ None
  pub nothing : (t : TxName) → Has left t → ⊥
  pub own : (t : TxName) → Has p.inside t → t.ticket ≡ p.number
  pub script : Named
  pub at : slice_get scripts k ≡ Some script
  pub replays : Replays script shelf p.number [] p

-- a change that admission and the evaluator may come to, whose new page is inside these transactions
abbrev pub IsSoundChange : List Named → (shelf : ℕ) → List Instance → Change → (inside : List TxName) → Type 0
IsSoundChange scripts shelf is (opens o) inside = Root scripts shelf o.script o.left (root_by o inside)
IsSoundChange scripts shelf is (extends x) inside = Child shelf is x.instance x.page x.left (page_by x inside)
IsSoundChange scripts shelf is (ends e) inside = Leaving is e.instance e.page e.left
IsSoundChange scripts shelf is (finishes f) inside = Leaving is f.instance f.page []
IsSoundChange scripts shelf is (sweeps tick) inside = ⊤

-- work that admission and the evaluator may come to, or a compaction
abbrev pub IsSoundWork : List Named → (shelf : ℕ) → List Instance → Work → Type 0
IsSoundWork scripts shelf is (landing c inside) = IsSoundChange scripts shelf is c inside
IsSoundWork scripts shelf is compacting = ⊤

-- what is in doubt, if anything is, is such as admission and the evaluator may come to
abbrev pub IsSoundDoubt : List Named → (shelf : ℕ) → List Instance → Option Doubt → Type 0
IsSoundDoubt scripts shelf is None = ⊤
IsSoundDoubt scripts shelf is (Some doubt) = IsSoundWork scripts shelf is doubt.work

-- A book is orderly, its instances are sound, and what is in doubt can still land. Each book of a run from the empty one is such
-- a one.
pub record IsSound (b : Book) : Type 0 where
  pub orderly : IsOrderly b
  pub instances : AreSound (Unused b) b.shelf b.instances
  pub doubt : IsSoundDoubt b.scripts b.shelf b.instances b.down
