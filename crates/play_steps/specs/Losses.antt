-- What an answer tells of shelves that crashed and were not opened again.
use Rattle.std.specs.Prelude.{◌≡◌, ℕ, Result, Err}
use Rattle.web_outside.specs.Causes.{Rose}
use Rattle.play_steps.specs.declared.stage.Reopen.{Reopen}
use Rattle.play_steps.specs.declared.stage.Reopen.TheVariants as reopen
use Rattle.play_steps.specs.declared.performing.Halt.{Halt}
use Rattle.play_steps.specs.declared.performing.Halt.TheVariants as halt
use Rattle.play_steps.specs.declared.run.PlayEnd.{PlayEnd}
use Rattle.play_steps.specs.declared.run.PlayEnd.TheVariants.{Reopen as Lost}
use Rattle.play_steps.specs.declared.run.Turn.{Turn}
use Rattle.play_steps.specs.declared.run.Turn.TheVariants.{Halted}

-- The result tells that this shelf was not opened again, for this cause.
abbrev pub LosesBy : {T : Type 0} → Result T Halt → (shelf : ℕ) → Reopen → Type 0
LosesBy result shelf why = result ≡ Err (halt.Reopen shelf why)

-- A step's turn tells that this shelf was not opened again, for this cause.
abbrev pub LosesInTurn : Turn → (shelf : ℕ) → Reopen → Type 0
LosesInTurn turn shelf why = turn ≡ Halted (halt.Reopen shelf why)

-- The end of a run tells that this shelf was not opened again, for this cause.
abbrev pub LosesAtEnd : PlayEnd → (shelf : ℕ) → Reopen → Type 0
LosesAtEnd end shelf why = end ≡ Lost shelf why

-- Where a shelf was lost to a device, the count of faults rose.
abbrev pub RoseForLost : (lost : (shelf : ℕ) → Reopen → Type 0) → (before now : ℕ) → Type 0
RoseForLost lost before now = (shelf : ℕ) → lost shelf reopen.Disk → Rose before now

-- Where a shelf was lost to a device, the count of faults of its own devices rose.
abbrev pub RoseAtLost : (lost : (shelf : ℕ) → Reopen → Type 0) → (before now : ℕ → ℕ) → Type 0
RoseAtLost lost before now = (shelf : ℕ) → lost shelf reopen.Disk → Rose (before shelf) (now shelf)

-- No shelf was lost to want of memory.
abbrev pub NoneIsLostToMemory : (lost : (shelf : ℕ) → Reopen → Type 0) → Type 0
NoneIsLostToMemory lost = (shelf : ℕ) → lost shelf reopen.Memory → ⊥

-- No shelf was lost because its disks had bytes already.
abbrev pub NoneIsLostToBytes : (lost : (shelf : ℕ) → Reopen → Type 0) → Type 0
NoneIsLostToBytes lost = (shelf : ℕ) → lost shelf reopen.NotEmpty → ⊥

-- No shelf was lost to bytes that are no record.
abbrev pub NoneIsLostToDamage : (lost : (shelf : ℕ) → Reopen → Type 0) → Type 0
NoneIsLostToDamage lost = (shelf place : ℕ) → lost shelf (reopen.Damaged place) → ⊥

-- No shelf was lost to a record of another shelf.
abbrev pub NoneIsLostToOther : (lost : (shelf : ℕ) → Reopen → Type 0) → Type 0
NoneIsLostToOther lost = (shelf place : ℕ) → lost shelf (reopen.Other place) → ⊥
