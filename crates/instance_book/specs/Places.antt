-- What is kept of an instance: its script's place among all, and of each page its state.
use Rattle.std.specs.Prelude.{◌≡◌, ◌<◌, ℕ, true, List, [], ◌∷◌, map, length, reverse, Option, Some, None, option_map}
use Rattle.std.specs.List.{AllByRecursion}
use Rattle.std.specs.Borrow.{Bor}
pub use Rattle.script_nodes.specs.Arena.{arena_of}
use Rattle.script_nodes.specs.Setup.{Named}
use Rattle.journal_records.specs.ReplaySpec.Book as spec
use Rattle.journal_records.specs.ReplaySpec.Change.{put_page, put_in_order, put_use, used_in, unless_gone, evict}
use Rattle.journal_records.specs.ReplaySpec.Recovery.{can_go}
use Rattle.journal_records.specs.ReplaySpec.Next.{Home, home, page_tape}
use Rattle.journal_records.specs.ReplaySpec.Invariant.{Lineage}
use Rattle.kept_states.specs.MachineStates.Machine.{Suspended}
use Rattle.kept_states.specs.MachineStates.Laws.{IsStateOf}
use Rattle.kept_states.specs.MachineStates.Views.{origin_of, suspended_of}
use Rattle.kept_states.specs.MachineStates.declared.frame.Suspended as stored
use Rattle.kept_states.specs.MachineStates.declared.segment.Origin.{Origin}
use Rattle.kept_states.specs.FrameCodec.Spelling.{StateHasBytes}
use Rattle.kept_states.specs.FrameCodec.Stored.{IsStored}
use Rattle.kept_states.specs.Kept.{Kept, IsKeptFrom, kept_of}
use Rattle.kept_states.specs.Links.{links_at}
use Rattle.instance_book.specs.declared.numbered.Numbered.{Numbered}
use Rattle.instance_book.specs.declared.in_order.InOrder.{InOrder}
use Rattle.instance_book.specs.declared.page.KeptPage.{KeptPage}
use Rattle.instance_book.specs.declared.instance.KeptInstance.{KeptInstance}
use Rattle.journal_records.specs.ReplaySpec.Marks.{Mark, number_of, mark_at, use_of}
use Rattle.instance_book.specs.Lists.{HasRoom}
use Rattle.instance_book.specs.Views.{page_of, pages_of, mark_of, marks_of, used_of, evicted_of, script_in}

-- what is kept of the state of a page
abbrev pub kept_at : Numbered KeptPage → Kept
kept_at p = kept_of p.item.state

-- a page with what is kept of its state
abbrev pub shown_of : Numbered KeptPage → spec.Page × Kept
shown_of p = (page_of p, kept_at p)

-- the pages of an instance, each with what is kept of its state
abbrev pub shown_in : InOrder KeptPage → List (spec.Page × Kept)
shown_in ps = map shown_of ps.things.items

-- what is lent is the page of a number, if there is one
abbrev pub IsPageAt : ℕ → InOrder KeptPage → Option (Bor (Numbered KeptPage)) → Type 0
IsPageAt n ps p = option_map (λ x. page_of x.now) p ≡ spec.page_at n (pages_of ps)

-- what is lent is the page of a number with what is kept of its state, if there is one
abbrev pub IsShownAt : ℕ → InOrder KeptPage → Option (Bor (Numbered KeptPage)) → Type 0
IsShownAt n ps p = option_map (λ x. shown_of x.now) p ≡ spec.at_number (λ x. x.0.number) n (shown_in ps)

-- the new pages are the old ones with one more, in the place of the one of its number
abbrev pub PutsPage : Numbered KeptPage → (old new : InOrder KeptPage) → Type 0
PutsPage p old new = pages_of new ≡ put_page (page_of p) (pages_of old)

-- the new pages with what is kept of their states are the old ones with one more, in the place of the one of its number
abbrev pub PutsShown : Numbered KeptPage → (old new : InOrder KeptPage) → Type 0
PutsShown p old new = shown_in new ≡ put_in_order (λ x. x.0.number) (shown_of p) (shown_in old)

-- the new marks are the old ones with that of one page more, in the place of the one of its number
abbrev pub PutsMark : Numbered KeptPage → (old new : InOrder KeptPage) → Type 0
PutsMark p old new = marks_of new ≡ put_in_order number_of (mark_of p) (marks_of old)

-- the page is new among these pages and not evicted, and by these uses those can go for it
pub record CanFollow (p : Numbered KeptPage) (gone : List ℕ) (ps : List spec.Page) (us : List spec.Use) : Type 0 where
  pub unused : spec.page_at p.number ps ≡ None
  pub stays : p.item.gone ≡ None
  pub goes : can_go gone us ≡ true

-- there is room for the page, which is new and not evicted, and these pages can go for it
pub record CanTake (p : Numbered KeptPage) (gone : List ℕ) (ps : InOrder KeptPage) : Type 0 where
  pub room : HasRoom ps
  pub next : CanFollow p gone (pages_of ps) (used_of ps)

-- the pages stay, with what is kept of their states
pub record HasSamePages (old new : InOrder KeptPage) : Type 0 where
  pub pages : pages_of new ≡ pages_of old
  pub shown : shown_in new ≡ shown_in old

-- the new pages are the old ones with one more, which may answer one of them, and for which these went
pub record ShowsPage (p : Numbered KeptPage) (gone : List ℕ) (old new : InOrder KeptPage) : Type 0 where
  pub pages : PutsPage p old new
  pub shown : PutsShown p old new
  pub used : used_of new ≡ put_use (use_of (mark_of p)) (unless_gone gone (used_in p.item.parent p.number (used_of old)))
  pub evicted : evicted_of new ≡ evict p.number gone (evicted_of old)

-- what is lent has the mark of the page of a number, if there is one
abbrev pub IsMarkedAt : ℕ → InOrder KeptPage → Option (Bor (Numbered KeptPage)) → Type 0
IsMarkedAt n ps p = option_map (λ x. mark_of x.now) p ≡ mark_at n (marks_of ps)

-- the pages stay, with what is kept of their states and the room for more, and f makes the new marks of the old ones
pub record ChangesMarks (f : List Mark → List Mark) (old new : InOrder KeptPage) : Type 0 where
  pub pages : pages_of new ≡ pages_of old
  pub shown : shown_in new ≡ shown_in old
  pub marks : marks_of new ≡ f (marks_of old)
  pub room : HasRoom old → HasRoom new

-- Which states the pages of a book have: those of their chains, which are looked at from a shelf or a home; or those that are given to
-- their numbers.
pub data Source (A : Type 0) : Type 0 where
  own : A → Source A
  given : (ℕ → Option Suspended) → Source A

-- a source of states, seen from somewhere else; states that are given stay so
abbrev pub seen_from : {A B : Type 0} → (A → B) → Source A → Source B
seen_from f (own x) = own (f x)
seen_from f (given states) = given states

-- where the states of the pages of this instance are from: their chains, which are looked at from its home, or given states
abbrev pub source_in : Named → Source ℕ → (instance : ℕ) → Source Home
source_in s shelf n = seen_from (λ number. home s number n) shelf

-- the state that is given to this number is this one, which fits the script and has a spelling
abbrev pub IsGiven : Named → (ℕ → Option Suspended) → (number : ℕ) → Suspended → Type 0
IsGiven s states n d = (states n ≡ Some d) × IsStored (arena_of s.script) d

-- The state of a page after these ancestors, the nearest first. That of its chain is kept of the script that shows the page over its
-- ancestors' answers and its own, with what was read recorded.
abbrev pub IsStateAt : Named → Source Home → List spec.Page → spec.Page → Suspended → Type 0
IsStateAt s (own h) older p d = IsStateOf (arena_of s.script) (page_tape h (reverse older) p) d
IsStateAt s (given states) older p d = IsGiven s states p.number d

-- Of the state of a page after these ancestors this is kept: that of a root by itself, and each other one as its links say, by
-- itself or as what differs from the state of the page before.
abbrev pub IsKeptBehind : Named → Source Home → List spec.Page → Suspended → Kept → Type 0
IsKeptBehind s h [] d k = IsKeptFrom None 0 d k
IsKeptBehind s h (q ∷ older) d k =
    (before : Suspended) × (IsStateAt s h older q before × IsKeptFrom (Some before) (links_at (length (q ∷ older))) d k)

-- a page whose ancestors stand among these has a state with a spelling, of which this is kept
pub record HasState (s : Named) (h : Source Home) (ps : List spec.Page) (p : spec.Page) (k : Kept) : Type 0 where
  pub lineage : Lineage ps p
  pub state : Suspended
  pub its : IsStateAt s h lineage.ancestors p state
  pub bytes : StateHasBytes state
  pub kept : IsKeptBehind s h lineage.ancestors state k

-- each of these pages has its state, of an instance with this script
abbrev pub HaveStates : Named → Source Home → List spec.Page → List (spec.Page × Kept) → Type 0
HaveStates s h ps xs = AllByRecursion (λ x. HasState s h ps x.0 x.1) xs

-- An instance of this number and of the script of this place, which is one of all, has these pages with these states.
pub record IsKeptAs (all : List Named) (shelf : Source ℕ) (number place : ℕ) (ps : List spec.Page) (xs : List (spec.Page × Kept)) : Type 0 where
  pub placed : place < length all
  pub states : let s = script_in all place in HaveStates s (source_in s shelf number) ps xs

-- the instance is of one of the scripts, and each of its pages has its state
abbrev pub IsKept : List Named → Source ℕ → Numbered KeptInstance → Type 0
IsKept all shelf i = IsKeptAs all shelf i.number i.item.script (pages_of i.item.pages) (shown_in i.item.pages)

-- each instance is of one of the scripts, and each page has its state
abbrev pub AreKept : List Named → Source ℕ → InOrder KeptInstance → Type 0
AreKept all shelf is = AllByRecursion (IsKept all shelf) is.things.items

-- the instance is of one of the scripts
abbrev pub IsPlaced : List Named → Numbered KeptInstance → Type 0
IsPlaced all i = i.item.script < length all

-- each instance is of one of the scripts
abbrev pub ArePlaced : List Named → InOrder KeptInstance → Type 0
ArePlaced all is = AllByRecursion (IsPlaced all) is.things.items

-- where each old instance is of one of the scripts, so is each new one
abbrev pub StayPlaced : (old new : InOrder KeptInstance) → Type 0
StayPlaced old new = (all : List Named) → ArePlaced all old → ArePlaced all new

-- where this instance is of one of the scripts, and each old one is, so is each new one
abbrev pub StayPlacedWith : Numbered KeptInstance → (old new : InOrder KeptInstance) → Type 0
StayPlacedWith i old new = (all : List Named) → IsPlaced all i → ArePlaced all old → ArePlaced all new

-- where this instance is of one of the scripts and its pages have their states, and so it is with each old one, so it is with each new
-- one
abbrev pub StayKeptWith : Numbered KeptInstance → (old new : InOrder KeptInstance) → Type 0
StayKeptWith i old new =
    (all : List Named) (shelf : Source ℕ) → IsKept all shelf i → AreKept all shelf old → AreKept all shelf new

-- where each old instance is of one of the scripts and each page has its state, so it is with each new one
abbrev pub StayKept : (old new : InOrder KeptInstance) → Type 0
StayKept old new = (all : List Named) (shelf : Source ℕ) → AreKept all shelf old → AreKept all shelf new

-- the page is new among those of an instance, and this is kept of its state
pub record IsNextIn (shelf : Source ℕ) (i : spec.Instance) (p : spec.Page) (k : Kept) : Type 0 where
  pub unused : spec.page_at p.number i.pages ≡ None
  pub state : HasState i.script (source_in i.script shelf i.number) (put_page p i.pages) p k

-- the page is new in the instance of a number, where there is one, and this is kept of its state
abbrev pub IsNextAt : Source ℕ → List spec.Instance → (instance : ℕ) → Numbered KeptPage → Type 0
IsNextAt shelf is n p = (i : spec.Instance) → spec.instance_at n is ≡ Some i → IsNextIn shelf i (page_of p) (kept_at p)

-- the pages of an instance of a script have their states, and so has this one among them
pub record AreStatesOf (s : Named) (ps : InOrder KeptPage) (p : Numbered KeptPage) : Type 0 where
  pub home : Source Home
  pub all : HaveStates s home (pages_of ps) (shown_in ps)
  pub own : HasState s home (pages_of ps) (page_of p) (kept_at p)

-- where each page among these has its state, that of this page is this one
abbrev pub IsStateIn : Named → InOrder KeptPage → Numbered KeptPage → stored.Suspended → Type 0
IsStateIn s ps p d = (are : AreStatesOf s ps p) → are.own.state ≡ suspended_of d

-- where each page among these has its state, an answer to this page goes on from the page's state
abbrev pub IsOriginIn : Named → InOrder KeptPage → Numbered KeptPage → Origin → Type 0
IsOriginIn s ps p from = (are : AreStatesOf s ps p) → origin_of from ≡ Some are.own.state

-- Where each page of an instance has its state, so has each with one page more that has its own.
abbrev pub OneMoreHasItsState : Type 0
OneMoreHasItsState =
    (s : Named) (h : Source Home) (ps : List spec.Page) (xs : List (spec.Page × Kept)) (p : spec.Page) (k : Kept)
    → spec.page_at p.number ps ≡ None → HasState s h (put_page p ps) p k → HaveStates s h ps xs
    → HaveStates s h (put_page p ps) (put_in_order (λ x. x.0.number) (p, k) xs)
