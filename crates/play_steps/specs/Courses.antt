-- What is left of the steps of a text, and what stands next.
use Rattle.std.specs.Prelude.{◌≡◌, ◌≤◌, ◌+◌, ◌-◌, ◌++◌, ℕ, List, length, [], ◌∷◌, Option, Some, None, ⊤}
use Rattle.play_steps.specs.declared.course.Course.{Course}
use Rattle.play_steps.specs.declared.course.Next.{Next}
use Rattle.play_steps.specs.declared.course.Next.TheVariants as next
use Rattle.play_steps.specs.declared.step.Step as code
use Rattle.play_steps.specs.Step.{Step, brought_by, crashes_from, lines_in, with_crashes, steps_of}
use Rattle.play_steps.specs.Views.{meaning}

-- the steps that are left: the crashes that an edit brings still, and the steps of the bytes
abbrev pub left_in : Course → List (Option Step)
left_in c = crashes_from c.shelf (c.shelves - c.shelf) ++ with_crashes c.shelves (steps_of c.rest.now)

-- what stands next is what the steps that are left begin with
abbrev pub Follows : List (Option Step) → Next → Type 0
Follows left next.Over = left ≡ []
Follows left next.NoStep = left ≡ None ∷ []
Follows left (next.Step step after) = left ≡ Some (meaning step) ∷ left_in after

-- this holds of the step that stands next, if one does, and of what is left after it
abbrev pub IfStep : Next → (code.Step → Course → Type 0) → Type 0
IfStep (next.Step step after) P = P step after
IfStep _ P = ⊤

-- A step and what is left after it have no more lines and bytes than what was left before.
abbrev pub IsOfFewerLines : (before : Course) → code.Step → (after : Course) → Type 0
IsOfFewerLines before step after = lines_in (meaning step) + length after.rest.now ≤ length before.rest.now

-- the steps that are left after a step, on so many shelves: the crashes that it brings, and the steps of the bytes
abbrev pub left_past : (shelves : ℕ) → Step → (rest : List ℕ) → List (Option Step)
left_past shelves step rest = brought_by shelves step ++ with_crashes shelves (steps_of rest)
