-- What the program's values stand for.
use Rattle.std.specs.Prelude.{◌≡◌, ℕ, ℤ, List, [], ◌∷◌, ◌++◌, map, Result, Ok, Err, IsOk, slice_set}
use Rattle.script_value.specs.Val.{Val, number}
use Rattle.script_value.specs.Views.{meaning}
use Rattle.script_value.specs.declared.outcome.Fault.{Fault}
use Rattle.script_value.specs.declared.outcome.Fault.TheVariants.{WrongType}
use Rattle.instance_cells.specs.Cells as spec
use Rattle.instance_cells.specs.Cells.{cell_at, sum, commit}
use Rattle.instance_cells.specs.declared.effect.Effect.{Effect}
use Rattle.instance_cells.specs.declared.effect.Effect.TheVariants.{Read, Set, Add}
use Rattle.instance_cells.specs.declared.effect.Seen.{Seen}
use Rattle.instance_cells.specs.declared.effect.Seen.TheVariants.{Here, Sum}
use Rattle.instance_cells.specs.declared.trail.AddFault.{AddFault}
use Rattle.instance_cells.specs.declared.trail.AddFault.TheVariants.{Memory, Fault as FaultOf}

-- the effect on an instance's cells that the program's value stands for
abbrev pub effect_of : Effect → spec.Effect
effect_of (Read c v) = spec.read c (meaning v)
effect_of (Set c v) = spec.set c (meaning v)
effect_of (Add c n) = spec.add c n

-- the value that a segment sees in a cell, as the program keeps it
abbrev pub seen_of : Seen → Val
seen_of (Here v) = meaning v.now
seen_of (Sum n) = number n

-- the cells after effects of the program, the oldest first
abbrev pub behind : List Effect → (start : List Val) → List Val
behind es start = commit (map effect_of es) start

-- one more effect is recorded
abbrev pub Notes : spec.Effect → (old new : List Effect) → Type 0
Notes e old new = map effect_of new ≡ map effect_of old ++ e ∷ []

-- a sum as the program has it
abbrev pub Sums : Result ℤ Fault → Result Val Fault → Type 0
Sums (Ok n) r = r ≡ Ok (number n)
Sums (Err k) r = r ≡ Err k

-- a value as the number that is added to a cell's, or the fault
abbrev pub sum_of : Val → Val → Result Val Fault
sum_of w (number n) = sum w n
sum_of w _ = Err WrongType

-- an add to a cell: the sum stands in it, or there is a fault and nothing changed
abbrev pub Adds : Result (Unit {0}) Fault → (old new : List Val) → ℕ → Val → Type 0
Adds (Ok x) old new c v = (w : Val) × ((sum_of (cell_at old c) v ≡ Ok w) × (new ≡ slice_set old c w))
Adds (Err k) old new c v = (sum_of (cell_at old c) v ≡ Err k) × (new ≡ old)

-- what a cell has after effects
abbrev pub has : (start : List Val) → List Effect → ℕ → Val
has start es c = cell_at (behind es start) c

-- at this fault a read of what the cell has was recorded; nothing where memory ran out
abbrev pub Refuses : Result (Unit {0}) AddFault → (start : List Val) → (old new : List Effect) → ℕ → Fault → Type 0
Refuses (Ok x) start old new c k = ⊥
Refuses (Err (FaultOf l)) start old new c k = (l ≡ k) × Notes (spec.read c (has start old c)) old new
Refuses (Err Memory) start old new c k = new ≡ old

-- the add to what the cell has was recorded, or the fault with a read in its place; nothing where memory ran out
abbrev pub AddsTo : Result (Unit {0}) AddFault → (start : List Val) → (old new : List Effect) → ℕ → (operand : Val) → Type 0
AddsTo (Ok x) start old new c v = (n : ℤ) × ((v ≡ number n) × (Notes (spec.add c n) old new × IsOk (sum (has start old c) n)))
AddsTo (Err (FaultOf k)) start old new c v = (sum_of (has start old c) v ≡ Err k) × Notes (spec.read c (has start old c)) old new
AddsTo (Err Memory) start old new c v = new ≡ old
