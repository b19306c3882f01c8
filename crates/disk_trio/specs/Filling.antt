-- What becomes of the other file and of the root.
use Rattle.std.specs.Prelude.{◌≡◌, ◌⊎◌, ℕ, ◌≤◌, true, List}
use Rattle.web_disk.specs.View.{Only}
use Rattle.web_disk.specs.declared.disk.Disk.{Ghosts}
use Rattle.disk_trio.specs.Naming.{other_side}
use Rattle.disk_trio.specs.Trio.{trio_view, three_of}
use Rattle.disk_trio.specs.declared.trio.Disks.{Disks}

-- there is room to cut the other file, to write so many bytes to it, and to sync it
pub record HasRoomToFill {D : Type 0} {G : Ghosts D} (d : Disks D G) (len : ℕ) : Type 0 where
  pub ready : 3 ≤ (G.view d.other).ready
  pub end : len ≤ (G.view d.other).end
  pub left : len ≤ (G.view d.other).left

-- there is room to write and to sync the root
pub record HasRoomToSwitch {D : Type 0} {G : Ghosts D} (d : Disks D G) : Type 0 where
  pub ready : 2 ≤ (G.view d.root).ready
  pub end : 1 ≤ (G.view d.root).end
  pub left : 1 ≤ (G.view d.root).left

-- the root and the current file are the very same as before
pub record KeepsFiles {D : Type 0} {G : Ghosts D} (old new : Disks D G) : Type 0 where
  pub current : new.current ≡ old.current
  pub root : new.root ≡ old.root
  pub side : new.side ≡ old.side
  pub known : new.known ≡ old.known

-- the other file has these bytes, and a crash leaves just them of it
pub record IsFilled {D : Type 0} {G : Ghosts D} (file : List ℕ) (d : Disks D G) : Type 0 where
  pub seen : (G.view d.other).seen ≡ file
  pub durable : Only file (G.view d.other)

-- a crash leaves what one might have left before, or what one might have left of the other file
abbrev pub MayBeEither : {D : Type 0} {G : Ghosts D} → Disks D G → List ℕ → Type 0
MayBeEither {G = G} d image = (trio_view d).images image ⊎ (G.view d.other).images image

-- the two files are the very same as before, whichever is the current one
abbrev pub KeepsOther : {D : Type 0} {G : Ghosts D} → (old new : Disks D G) → Type 0
KeepsOther old new = ((three_of new).a ≡ (three_of old).a) × ((three_of new).b ≡ (three_of old).b)

-- the other file became the current one
pub record IsSwitched {D : Type 0} {G : Ghosts D} (old new : Disks D G) : Type 0 where
  pub current : new.current ≡ old.other
  pub other : new.other ≡ old.current
  pub side : new.side ≡ other_side old.side
  pub known : new.known ≡ true
