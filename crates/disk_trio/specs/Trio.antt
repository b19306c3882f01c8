-- What contracts see of three disks.
use Rattle.std.specs.Prelude.{◌≡◌, ◌⊎◌, ℕ, ◌+◌, ◌-◌, ◌^◌, ◌≤◌, min, IsTrue, List, [], ◌∷◌, length, if◌then◌else◌}
use Rattle.web_outside.specs.Causes.{Rose}
use Rattle.web_disk.specs.View.{View, NoNewImage, Elapses}
use Rattle.web_disk.specs.declared.disk.Disk.{Ghosts}
use Rattle.ghost_history.specs.declared.past.Past.{Past, Nothing, Then'}
use Rattle.disk_trio.specs.Naming.{names}
use Rattle.disk_trio.specs.declared.side.Side.{Side}
use Rattle.disk_trio.specs.declared.side.Side.TheVariants.{A, B}
use Rattle.disk_trio.specs.declared.trio.Disks.{Disks}
use Rattle.disk_trio.specs.declared.trio.Moment.{Moment}

-- two files and a root
pub record Three (D : Type 0) : Type 0 where
  pub a : D
  pub b : D
  pub root : D

-- the one of two files that is a, where the current one is of this side
abbrev pub first : {D : Type 0} → Side → (current other : D) → D
first A c o = c
first B c o = o

-- two files and a root, where the current one is of this side
abbrev pub three : {D : Type 0} → Side → (current other root : D) → Three D
three s c o r = record { a = first s c o; b = first s o c; root = r }

-- the file of this side
abbrev pub file_of : {D : Type 0} → Side → Three D → D
file_of A t = t.a
file_of B t = t.b

-- the three disks as they are now
abbrev pub three_of : {D : Type 0} {G : Ghosts D} → Disks D G → Three D
three_of d = three d.side d.current d.other d.root

-- the three disks as they were at a moment
abbrev pub three_at : {D : Type 0} → Moment D → Three D
three_at m = three m.side m.current.value m.other.value m.root.value

-- what three disks were at the moments of a past, the latest first
abbrev pub before_in : {D : Type 0} → Past (Moment D) → List (Three D)
before_in Nothing = []
before_in (Then' x before m) = three_at m ∷ before_in before

-- what the three disks were before, the latest first
abbrev pub before : {D : Type 0} {G : Ghosts D} → Disks D G → List (Three D)
before d = before_in d.past.value

-- a crash of three disks leaves a root, and this in the file that it names
pub record Leaves {D : Type 0} (G : Ghosts D) (t : Three D) (image : List ℕ) : Type 0 where
  pub told : IsTrue G.tells
  pub naming : List ℕ
  pub left : (G.view t.root).images naming
  pub file : (G.view (file_of (names naming) t)).images image

-- a crash would have left this at one of these moments, from this one on
abbrev pub LeftBefore : {D : Type 0} → Ghosts D → List (Three D) → ℕ → List ℕ → Type 0
LeftBefore G [] t image = ⊥
LeftBefore G (m ∷ ms) t image = ((t ≤ length ms) × Leaves G m image) ⊎ LeftBefore G ms t image

-- a crash would leave this now, or would have left it at one of these moments, from this one on
abbrev pub LeftSince : {D : Type 0} → Ghosts D → Three D → List (Three D) → ℕ → List ℕ → Type 0
LeftSince G now ms t image = ((t ≤ length ms) × Leaves G now image) ⊎ LeftBefore G ms t image

-- the file that is read: the current one where it is known, else the one that the root names as it is read
abbrev pub read_side : {D : Type 0} {G : Ghosts D} → Disks D G → Side
read_side {G = G} d = if d.known then d.side else names (G.view d.root).seen

-- the disk of the file that is read
abbrev pub file_in : {D : Type 0} {G : Ghosts D} → Disks D G → D
file_in d = file_of (read_side d) (three_of d)

-- how often a call of one of the three disks failed, up to the type's end
abbrev pub all_faults : {D : Type 0} {G : Ghosts D} → Disks D G → ℕ
all_faults {G = G} d = min ((G.view d.current).faults + (G.view d.other).faults + (G.view d.root).faults) (2 ^ 64 - 1)

-- What contracts see of three disks: to a caller they are the file that the root names. There is room where it is known which one that is.
abbrev pub trio_view : {D : Type 0} {G : Ghosts D} → Disks D G → View
trio_view {G = G} d = record {
  seen = (G.view (file_in d)).seen;
  images = Leaves G (three_of d);
  moment = length (before d);
  since = LeftSince G (three_of d) (before d);
  faults = all_faults d;
  ready = if d.known then (G.view d.current).ready else 0;
  end = if d.known then (G.view d.current).end else 0;
  left = if d.known then (G.view d.current).left else 0;
}

-- what the three disks were is kept in front of what they were before
abbrev pub IsNoted : {D : Type 0} {G : Ghosts D} → (old new : Disks D G) → Type 0
IsNoted old new = before new ≡ three_of old ∷ before old

-- one call of the current file, and none of the other file and the root
pub record IsOnCurrent {D : Type 0} {G : Ghosts D} (old new : Disks D G) : Type 0 where
  pub other : new.other ≡ old.other
  pub root : new.root ≡ old.root
  pub side : new.side ≡ old.side
  pub known : new.known ≡ old.known
  pub noted : IsNoted old new

-- one call of the other file, and none of the current file and the root
pub record IsOnOther {D : Type 0} {G : Ghosts D} (old new : Disks D G) : Type 0 where
  pub current : new.current ≡ old.current
  pub root : new.root ≡ old.root
  pub side : new.side ≡ old.side
  pub known : new.known ≡ old.known
  pub noted : IsNoted old new

-- one call of the root, and none of the two files
pub record IsOnRoot {D : Type 0} {G : Ghosts D} (old new : Disks D G) : Type 0 where
  pub current : new.current ≡ old.current
  pub other : new.other ≡ old.other
  pub side : new.side ≡ old.side
  pub known : new.known ≡ old.known
  pub noted : IsNoted old new

-- nothing was written: a crash leaves what one might have left before, and there is the same room
pub record IsReadAlone {D : Type 0} {G : Ghosts D} (old new : Disks D G) : Type 0 where
  pub seen : (trio_view new).seen ≡ (trio_view old).seen
  pub images : NoNewImage (trio_view old) (trio_view new)
  pub time : Elapses (trio_view old) (trio_view new)
  pub ready : (trio_view new).ready ≡ (trio_view old).ready
  pub end : (trio_view new).end ≡ (trio_view old).end
  pub left : (trio_view new).left ≡ (trio_view old).left

-- a call of one of the three disks failed
abbrev pub HasFailed : {D : Type 0} {G : Ghosts D} → (old new : Disks D G) → Type 0
HasFailed old new = Rose (all_faults old) (all_faults new)

-- the two files as they were, of which as much is known
pub record AreSameFiles {D : Type 0} {G : Ghosts D} (old new : Disks D G) : Type 0 where
  pub current : new.current ≡ old.current
  pub other : new.other ≡ old.other
  pub side : new.side ≡ old.side
  pub known : new.known ≡ old.known

-- all three disks as they were, with no call of them
pub record AreSameDisks {D : Type 0} {G : Ghosts D} (old new : Disks D G) : Type 0 where
  pub current : new.current ≡ old.current
  pub other : new.other ≡ old.other
  pub root : new.root ≡ old.root
  pub side : new.side ≡ old.side
  pub before : before new ≡ before old

-- all three disks are empty
pub record AreEmpty {D : Type 0} {G : Ghosts D} (d : Disks D G) : Type 0 where
  pub current : (G.view d.current).seen ≡ []
  pub other : (G.view d.other).seen ≡ []
  pub root : (G.view d.root).seen ≡ []
