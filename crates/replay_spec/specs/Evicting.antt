-- What holds of pages that go for others.
use Rattle.std.specs.Prelude.{◌≡◌, ◌⊎◌, ◌≤◌, ◌<◌, ℕ, List, ◌+◌, length, filter, not, Option, Some, None, true, false, ⊤}
use Rattle.script_nodes.specs.PageNames.Names.{page}
use Rattle.script_nodes.specs.PageNames.declared.names.PageName.{PageName}
use Rattle.script_nodes.specs.Setup.{Named}
use Rattle.replay_spec.specs.Book.{Use, Instance, Extension, Change, extends, Work, landing, compacting, Doubt, Book, instance_at, at_number, evictor, is_evicted}
use Rattle.replay_spec.specs.Rules.{Rules, empty_book}
use Rattle.replay_spec.specs.Change.{used_by, unless_gone}
use Rattle.replay_spec.specs.Eviction.{goes_for}
use Rattle.replay_spec.specs.Admission.{is_one, Place, resumes, admit}
use Rattle.replay_spec.specs.Runs.{lands}
use Rattle.replay_spec.specs.Invariant.{IsRising, IsOrderly}
use Rattle.replay_spec.specs.Laws.{Moment, then_book, Leads}

-- in the instance of number k the page of number n went for the page of the last number
pub record EvictedIn (is : List Instance) (k n by : ℕ) : Type 0 where
  pub instance : Instance
  pub found : instance_at k is ≡ Some instance
  pub evicted : evictor n instance.evicted ≡ Some by

-- the event answers a page of the instance of number k and shows the page of the last number, for which the page of number n goes
pub record Evicts (m : Moment) (b : Book) (k n by : ℕ) : Type 0 where
  pub extension : Extension
  pub lands : lands m.rules b m.event m.fate ≡ Some (extends extension)
  pub here : extension.instance ≡ k
  pub number : extension.number ≡ by
  pub gone : is_one n extension.evicted ≡ true

-- Nothing else evicts a page than a page that is shown in its instance. An evicted page stays so as long as its instance stands,
-- also over crashes and compactions, and is not admitted.
abbrev pub NothingElseEvicts : Type 0
NothingElseEvicts =
    ((b : Book) (m : Moment) → IsOrderly b → (k n by : ℕ)
    → EvictedIn (then_book m b).instances k n by → EvictedIn b.instances k n by ⊎ Evicts m b k n by)
    × ((b c : Book) → IsOrderly b → Leads b c → (k n by : ℕ)
    → EvictedIn b.instances k n by → (instance_at k c.instances ≡ None) ⊎ EvictedIn c.instances k n by)
    × ((b : Book) (name : List ℕ) (n : PageName) (by : ℕ) (at : Place)
    → EvictedIn b.instances n.instance n.page by → admit b (page name n) ≡ resumes at → ⊥)

-- the change leaves each instance no more pages that are not evicted than this
abbrev pub HasRoomFor : (most : ℕ) → List Instance → Change → Type 0
HasRoomFor most is (extends x) = (i : Instance) → instance_at x.instance is ≡ Some i → length (unless_gone x.evicted i.used) + 1 ≤ most
HasRoomFor most is _ = ⊤

-- the work leaves each instance no more pages that are not evicted than this
abbrev pub HasRoomAt : (most : ℕ) → List Instance → Work → Type 0
HasRoomAt most is (landing c inside) = HasRoomFor most is c
HasRoomAt most is compacting = ⊤

-- what is in doubt, if anything is, leaves each instance no more pages that are not evicted than this
abbrev pub HasRoomIn : (most : ℕ) → List Instance → Option Doubt → Type 0
HasRoomIn most is None = ⊤
HasRoomIn most is (Some doubt) = HasRoomAt most is doubt.work

-- each instance has at most so many pages that are not evicted, and with what is in doubt it would have no more
pub record IsRoomy (most : ℕ) (b : Book) : Type 0 where
  pub instances : (k : ℕ) (i : Instance) → instance_at k b.instances ≡ Some i → length i.used ≤ most
  pub doubt : HasRoomIn most b.instances b.down

-- Under limits of no more pages than this, each instance of every book that is reached has no more that are not evicted.
abbrev pub AtMostPages : Type 0
AtMostPages =
    (most : ℕ) → 1 ≤ most
    → ((rules : Rules) (scripts : List Named) (shelf : ℕ) → IsRoomy most (empty_book rules scripts shelf))
    × ((b : Book) (m : Moment) → IsOrderly b → m.rules.pages ≤ most → IsRoomy most b → IsRoomy most (then_book m b))
    × ((b : Book) → IsOrderly b → IsRoomy most b → (k : ℕ) (i : Instance) → instance_at k b.instances ≡ Some i
    → length (filter (λ p. not (is_evicted p.number i.evicted)) i.pages) ≤ most)

-- the use of the page of this number
abbrev pub use_at : ℕ → List Use → Option Use
use_at n us = at_number (λ u. u.page) n us

-- a page goes before another: it was used earlier, or as early and has the lower number
abbrev pub GoesFirst : Use → Use → Type 0
GoesFirst u v = (u.last < v.last) ⊎ ((u.last ≡ v.last) × (u.page < v.page))

-- Each page that goes was used before each page that stays, where the answered page counts with its new use. Where each other page was
-- used before this segment's number, and there is room for more than one, the answered page stays.
abbrev pub TheLeastUsedGo : Type 0
TheLeastUsedGo =
    (limit p n : ℕ) (us : List Use) → IsRising (λ (u : Use). u.page) us
    → ((k l : ℕ) (u v : Use) → use_at k (used_by p n us) ≡ Some u → use_at l (used_by p n us) ≡ Some v
    → is_one k (goes_for limit p n us) ≡ true → is_one l (goes_for limit p n us) ≡ false → GoesFirst u v)
    × (2 ≤ limit → ((l : ℕ) (v : Use) → (l ≡ p → ⊥) → use_at l us ≡ Some v → v.last < n) → is_one p (goes_for limit p n us) ≡ false)

-- The uses of an instance stand in the order of their pages' numbers.
abbrev pub UsesRise : Type 0
UsesRise = (b : Book) → IsOrderly b → (k : ℕ) (i : Instance) → instance_at k b.instances ≡ Some i → IsRising (λ (u : Use). u.page) i.used
