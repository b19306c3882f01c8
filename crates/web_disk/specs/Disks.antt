-- What contracts see of a disk in memory.
use Rattle.std.specs.Prelude.{◌≡◌, ℕ, ◌+◌, List, length, None, Result, is_err}
use Rattle.web_disk.specs.View.{View}
use Rattle.web_disk.specs.Change.{Change, Put, Torn, CutTo, span}
use Rattle.web_disk.specs.Fates.{fate_of, fails, Counts}
use Rattle.web_disk.specs.Memory.{view_of, Adds}
use Rattle.web_disk.specs.declared.plan.Fate.{Fate}
use Rattle.web_disk.specs.declared.plan.Fate.TheVariants.{Done, Fails, Stopped}
use Rattle.web_disk.specs.Wrecks.{IsLeft}
use Rattle.web_disk.specs.declared.trace.Trace.{Trace}
use Rattle.web_disk.specs.declared.wreck.Wreck.{Wreck}
use Rattle.web_disk.specs.declared.memory.MemoryDisk.{MemoryDisk}

-- the view of a disk in memory
abbrev pub memory_view : MemoryDisk → View
memory_view disk = view_of disk.trace disk.plan.faults

-- a disk is begun anew: no fault is counted, its calls are counted on, and no number of them stops it
pub record IsAnew (old new : MemoryDisk) : Type 0 where
  pub faults : new.plan.faults ≡ 0
  pub stop : new.plan.stop ≡ None
  pub made : new.plan.made ≡ old.plan.made
  pub failing : new.plan.failing.items ≡ old.plan.failing.items

-- a call fails exactly where its plan says so, and is counted
pub record Obeys {T E : Type 0} (old new : MemoryDisk) (result : Result T E) : Type 0 where
  pub fails : is_err result ≡ fails (fate_of old.plan)
  pub counts : Counts old.plan new.plan (fate_of old.plan)

-- what a call does: its change, or that of a call that failed, or nothing
abbrev pub Does : Fate → Change → Change → Trace → Trace → Type 0
Does Done change torn old new = Adds change old new
Does Fails change torn old new = Adds torn old new
Does Stopped change torn old new = new ≡ old

-- what a write does
abbrev pub DoesWrite : ℕ → List ℕ → MemoryDisk → MemoryDisk → Type 0
DoesWrite place piece old new = Does (fate_of old.plan) (Put place piece) (Torn (span place (place + length piece))) old.trace new.trace

-- what a cut does
abbrev pub DoesCut : ℕ → MemoryDisk → MemoryDisk → Type 0
DoesCut len old new = Does (fate_of old.plan) (CutTo len) (Torn (span len (length old.trace.bytes.items))) old.trace new.trace

-- these bytes are what a chosen crash leaves of a disk
abbrev pub LeftBy : Wreck → MemoryDisk → List ℕ → Type 0
LeftBy wreck disk bytes = IsLeft wreck disk.trace.touched.items disk.trace.bytes.items bytes
