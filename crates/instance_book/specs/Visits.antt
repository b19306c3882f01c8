-- What a visit goes on from, and what is kept of the page that it shows.
use Rattle.std.specs.Prelude.{◌≡◌, List, [], ◌∷◌, ◌++◌, map, Option, Some, None}
use Rattle.instance_cells.specs.Cells.{reads_of}
use Rattle.instance_cells.specs.Views.{effect_of}
use Rattle.script_nodes.specs.Arena.{arena_of}
use Rattle.journal_records.specs.ReplaySpec.Tape.{recorded}
use Rattle.journal_records.specs.ReplaySpec.Book as spec
use Rattle.journal_records.specs.ReplaySpec.Next.{Visit, home_of, page_tape, tape_for}
use Rattle.kept_states.specs.MachineStates.Machine.{Suspended}
use Rattle.kept_states.specs.MachineStates.Laws.{IsStateOf}
use Rattle.kept_states.specs.MachineStates.Views.{Keeps}
use Rattle.kept_states.specs.MachineStates.declared.segment.Segment.{Segment}

-- the visit answers a page, and this is the state of the page's chain
pub record IsStateBehind (v : Visit) (d : Suspended) : Type 0 where
  pub ancestors : List spec.Page
  pub page : spec.Page
  pub chain : v.pages ≡ ancestors ++ page ∷ []
  pub state : IsStateOf (arena_of v.script.script) (page_tape (home_of v) ancestors page) d

-- what a visit goes on from: a start from nothing, and an answer to a page from the state of that page's chain
abbrev pub GoesOnFrom : Visit → Option Suspended → Type 0
GoesOnFrom v None = v.pages ≡ []
GoesOnFrom v (Some d) = IsStateBehind v d

-- where the segment waits for an answer, its state is kept over the visit's tape, with what was read recorded
abbrev pub KeepsStateOver : Visit → Segment → Type 0
KeepsStateOver v r =
    Keeps r.outcome (λ d. IsStateOf (arena_of v.script.script) (tape_for v (recorded (reads_of (map effect_of r.effects.items)))) d)
