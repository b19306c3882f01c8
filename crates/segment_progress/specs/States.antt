-- What the engine's progress stands for in the definitions.
use Rattle.std.specs.Prelude.{◌≡◌, List, [], ◌∷◌, ◌++◌, map, Option, Some, None, option_map, Result, Ok, Err, unwrap_or, false, ⊤}
use Rattle.std.specs.Borrow.{Bor}
use Rattle.std.specs.declared.alloc.AllocError.{AllocError}
use Rattle.script_value.specs.Val.{Val, truth}
use Rattle.script_value.specs.Views.{meaning}
use Rattle.script_value.specs.declared.value.Value.{Value}
use Rattle.script_value.specs.declared.outcome.TxName.{TxName}
use Rattle.instance_cells.specs.Cells.{Effect}
use Rattle.instance_cells.specs.Trails.{start_of, effects_of}
use Rattle.segments.specs.declared.ends.RunEnd.{RunEnd}
use Rattle.segments.specs.Views.{answer_of, now_of, outcome_of}
use Rattle.segment_progress.specs.Halts.{IsPaged}
use Rattle.segment_progress.specs.declared.halt.Halt.{Halt}
use Rattle.segment_progress.specs.declared.halt.Halt.TheVariants.{Memory, Stopped}
use Rattle.segment_progress.specs.declared.progress.Source.{Source}
use Rattle.segment_progress.specs.declared.progress.Source.TheVariants as source
use Rattle.segment_progress.specs.declared.progress.Next.{Next}
use Rattle.segment_progress.specs.declared.progress.Rest.{Rest}
use Rattle.segment_progress.specs.declared.progress.Progress.{Progress}
use Rattle.segments.specs.ReplaySpec.Tape as spec

-- the reads that a source still has
abbrev pub reads_left : Source → spec.Reads
reads_left (source.Recorded vs) = spec.recorded (map meaning vs.now)
reads_left (source.Present trail fuel) = spec.present (start_of trail) fuel

-- the effects on cells that a source has noted; none where its reads are recorded
abbrev pub effects_left : Source → List Effect
effects_left (source.Recorded vs) = []
effects_left (source.Present trail fuel) = effects_of trail

-- an answer, and the segment that it begins
abbrev pub next_of : Next → spec.Answer
next_of n = record { value = meaning n.answer.now; segment = now_of n.segment }

-- the answer that is next on a tape, if there is one, as a list
abbrev pub listed : Option Next → List spec.Answer
listed None = []
listed (Some n) = next_of n ∷ []

-- the answers of a tape that are still to be taken
abbrev pub left_in : Rest → List spec.Answer
left_in r = map answer_of r.past.now ++ listed r.newest

-- the first of the answers that are left is taken, where there is one
abbrev pub Pops : Option Next → (old new : List spec.Answer) → Type 0
Pops None old new = (old ≡ []) × (new ≡ [])
Pops (Some n) old new = old ≡ next_of n ∷ new

-- how far a run has used its tape
abbrev pub state_of : Progress → spec.State
state_of p = record {
  segment = record { number = p.segment.number; url = p.segment.url.now; reads = reads_left p.source };
  later = left_in p.rest;
  cost = p.cost;
  effects = effects_left p.source;
  left = p.left.items;
  entries = p.entries;
  shadows = p.shades;
  defaults = p.defaults.now;
}

-- the transactions that are open in a run
abbrev pub inside_of : Progress → List TxName
inside_of p = p.inside.items

-- a value that was looked up, or #f
abbrev pub found : Option (Bor Value) → Val
found value = unwrap_or (option_map (λ v. meaning v.now) value) (truth false)

-- what a call gave is how the run ends, unless memory ran out
abbrev pub Gives : {X Y : Type 0} → (X → Y) → Result X Halt → Progress → spec.End Y → Type 0
Gives view (Ok x) p end = end ≡ spec.got (view x) (state_of p)
Gives view (Err Memory) p end = ⊤
Gives view (Err (Stopped o)) p end = end ≡ spec.stop (outcome_of o) (inside_of p) (state_of p)

-- a call took the progress as this action takes its state
abbrev pub Acts : {X Y : Type 0} → (X → Y) → Result X Halt → (old new : Progress) → (List TxName → spec.Run Y) → Type 0
Acts view r old new action = Gives view r new (action (inside_of old) (state_of old))

-- a call took the progress as this action takes its state, and the action gives a value; or memory ran out
abbrev pub Does : {X Y : Type 0} → (X → Y) → Result X AllocError → (old new : Progress) → (List TxName → spec.Run Y) → Type 0
Does view (Ok x) old new action = action (inside_of old) (state_of old) ≡ spec.got (view x) (state_of new)
Does view (Err e) old new action = ⊤

-- what a call that takes no memory gave is how the run ends
abbrev pub Ends : {X Y : Type 0} → (X → Y) → Result X RunEnd → Progress → spec.End Y → Type 0
Ends view (Ok x) p end = end ≡ spec.got (view x) (state_of p)
Ends view (Err o) p end = end ≡ spec.stop (outcome_of o) (inside_of p) (state_of p)

-- the run goes on with a value
abbrev pub IsGot : {Y : Type 0} → spec.End Y → Type 0
IsGot (spec.got x state) = ⊤
IsGot (spec.stop o entered state) = ⊥

-- memory ran out at most where the run goes on: a stop is told whatever memory there is
abbrev pub TellsStop : {X Y : Type 0} → Result X Halt → spec.End Y → Type 0
TellsStop (Ok x) end = ⊤
TellsStop (Err Memory) end = IsGot end
TellsStop (Err (Stopped o)) end = ⊤

-- the run goes on with a value, or stops with a page
abbrev pub IsGotOrPaged : {Y : Type 0} → spec.End Y → Type 0
IsGotOrPaged (spec.got x state) = ⊤
IsGotOrPaged (spec.stop o entered state) = IsPaged o

-- memory ran out for a value or for a page: that there is no page is told whatever memory there is
abbrev pub TellsNoPage : {X Y : Type 0} → Result X Halt → spec.End Y → Type 0
TellsNoPage (Ok x) end = ⊤
TellsNoPage (Err Memory) end = IsGotOrPaged end
TellsNoPage (Err (Stopped o)) end = ⊤
