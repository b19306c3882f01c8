-- What becomes of a stage and its devices, by what contracts see of them.
use Rattle.std.specs.Prelude.{◌≡◌, ℕ, true, List, Result, Vec}
use Rattle.std.specs.declared.alloc.Global.{Global}
use Rattle.web_outside.specs.View.{SinkView}
use Rattle.play_steps.specs.Step.{Step, IsTold, is_told, steps_of, tick}
use Rattle.play_steps.specs.Views.{meaning}
use Rattle.play_steps.specs.Played.{Spot, Scene, spot, scene, played, Leaves, Performs, SweepsAll, Turns, TurnsEdit}
use Rattle.play_steps.specs.declared.performing.Halt.{Halt}
use Rattle.play_steps.specs.declared.report.Report.{Report}
use Rattle.play_steps.specs.declared.run.PlayEnd.{PlayEnd}
use Rattle.play_steps.specs.declared.run.Turn.{Turn}
use Rattle.play_steps.specs.declared.stage.Stage.{Ghosts}
use Rattle.play_steps.specs.declared.step.Step as code

module _ {S V : Type 0} (G : Ghosts S V) where
  -- where a stage stands, and how often its disks and these devices have failed
  abbrev pub spot_on : S → V → Spot G.rules
  spot_on stage devices = spot G.rules (G.state stage) (G.faults stage devices)

  -- what a sink was given, where it tells it, and where a stage stands with these devices
  abbrev pub scene_on : {O : Type 0} → (O → SinkView) → S → V → O → Scene G.rules
  scene_on view stage devices sink = scene G.rules (view sink).written (G.state stage) (G.faults stage devices)

  -- What came of the sweeps of a tick on a stage that holds what its own events left, whatever devices it has.
  abbrev pub SweepsEach : {E : Type 0} → (time : ℕ) → Result (Vec Report Global) E → (old new : S) → Type 0
  SweepsEach time result old new = G.own old → (devices : V) → SweepsAll G.rules (tick time) result (spot_on old devices) (spot_on new devices)

  -- What came of performing a step on a stage that holds what its own events left, and whose disks tell enough for it.
  abbrev pub Performed : Step → Result (Vec Report Global) Halt → (old : S) → (before : V) → (new : S) → (after : V) → Type 0
  Performed step result old before new after =
      IsTold G.tells step → G.own old → Performs G.rules (G.left after) step result (spot_on old before) (spot_on new after)

  -- What an edit came to on a stage, whatever devices it has.
  abbrev pub Edited : (name text : List ℕ) → Turn → (old new : S) → Type 0
  Edited name text turn old new = (devices : V) → TurnsEdit G.rules name text turn (spot_on old devices) (spot_on new devices)

  -- What one step left of a stage and a sink, where the stage holds what its own events left, and its disks tell enough for it.
  abbrev pub Stepped : {O : Type 0} → (O → SinkView) → code.Step → Turn → (old : S) → (before : V) → (sink : O)
      → (new : S) → (after : V) → (told : O) → Type 0
  Stepped view step turn old before sink new after told =
      IsTold G.tells (meaning step) → G.own old
      → Turns G.rules (G.left after) (meaning step) turn (scene_on view old before sink) (scene_on view new after told)

  -- What the steps of a text left of a stage and a sink, where the stage holds what its own events left, and its disks tell enough for
  -- them.
  abbrev pub Played : {O : Type 0} → (O → SinkView) → (text : List ℕ) → PlayEnd → (old : S) → (before : V) → (sink : O)
      → (new : S) → (after : V) → (told : O) → Type 0
  Played view text end old before sink new after told =
      is_told G.tells (steps_of text) ≡ true → G.own old
      → Leaves G.rules (G.left after) (played G.rules (G.state old) text) end (scene_on view old before sink) (scene_on view new after told)
