-- What a trail tells of itself. (It stands apart from Views, which the file of the trail's ghost field imports.)
use Rattle.std.specs.Prelude.{ℕ, List, map, Result}
use Rattle.script_value.specs.Val.{Val}
use Rattle.instance_cells.specs.Cells.{Effect}
use Rattle.instance_cells.specs.Views.{effect_of, AddsTo}
use Rattle.instance_cells.specs.declared.trail.AddFault.{AddFault}
use Rattle.instance_cells.specs.declared.trail.Trail.{Trail}

-- the cells that a trail began with
abbrev pub start_of : Trail → List Val
start_of t = t.start.now

-- the effects of a trail since it began, the oldest first
abbrev pub effects_of : Trail → List Effect
effects_of t = map effect_of t.effects.items

-- what an add did to a trail
abbrev pub AddsOn : Result (Unit {0}) AddFault → (old new : Trail) → ℕ → (operand : Val) → Type 0
AddsOn result old new c v = AddsTo result old.start.now old.effects.items new.effects.items c v
