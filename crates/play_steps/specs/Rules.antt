-- What a stage's calls do.
use Rattle.std.specs.Prelude.{◌≡◌, ◌≤◌, ℕ, Bool, true, false, List, Option, Some, None, Result, IsTrue, IfOk}
use Rattle.web_outside.specs.Causes.{Rose}
use Rattle.script_value.specs.declared.outcome.Reply.{Reply}

-- What a call comes to: an answer that is no event and changes nothing, or an event, whose fate decides its answer and the state
-- after it. A fate is what the outside decides of an event.
pub data Call (State Fate Answer : Type 0) : Type 0 where
  answered : (answer : Answer) → Call State Fate Answer
  event : (by : Fate → Answer × State) → Call State Fate Answer

-- What each call of a stage comes to. Most fates are plain; a fate that fails is that of an event at which a device failed. A crash
-- answers how many instances are live after it. An edit is no event: it gives the state with the script's new text, or none where it
-- does not fit.
pub record StageRules : Type 1 where
  pub State : Type 0
  pub Fate : Type 0
  pub plain : Fate
  pub fails : Fate → Bool
  pub shelves : State → ℕ
  pub holds : State → ℕ → Bool
  pub take : State → ℕ → List ℕ → Call State Fate (Result ℕ Reply)
  pub publish : State → ℕ → Call State Fate Reply
  pub sweep : State → ℕ → ℕ → Call State Fate (Result ℕ Reply)
  pub compact : State → ℕ → Call State Fate (Result ℕ Reply)
  pub crash : State → ℕ → Call State Fate ℕ
  pub edit : State → (name text : List ℕ) → Option State

-- A call answers this and leaves this state: for some fate, where it is an event. The fate fails only where that rose.
abbrev pub Comes : {State Fate Answer : Type 0} → (fails : Fate → Bool) → (rose : Type 0) → Call State Fate Answer
    → State → Answer → State → Type 0
Comes fails rose (answered a) old result new = (a ≡ result) × (new ≡ old)
Comes {Fate = Fate} fails rose (event by) old result new =
    (fate : Fate) × (by fate ≡ (result, new)) × (fails fate ≡ true → rose)

-- a worker's take of a target answers this and leaves this state
abbrev pub Takes : (r : StageRules) → (rose : Type 0) → r.State → (worker : ℕ) → (target : List ℕ) → Result ℕ Reply → r.State → Type 0
Takes r rose old worker target result new = Comes r.fails rose (r.take old worker target) old result new

-- a worker's publish answers this and leaves this state
abbrev pub Publishes : (r : StageRules) → (rose : Type 0) → r.State → (worker : ℕ) → Reply → r.State → Type 0
Publishes r rose old worker reply new = Comes r.fails rose (r.publish old worker) old reply new

-- a sweep of a shelf answers this and leaves this state
abbrev pub Sweeps : (r : StageRules) → (rose : Type 0) → r.State → (shelf tick : ℕ) → Result ℕ Reply → r.State → Type 0
Sweeps r rose old shelf tick result new = Comes r.fails rose (r.sweep old shelf tick) old result new

-- a compaction of a shelf answers this and leaves this state
abbrev pub Compacts : (r : StageRules) → (rose : Type 0) → r.State → (shelf : ℕ) → Result ℕ Reply → r.State → Type 0
Compacts r rose old shelf result new = Comes r.fails rose (r.compact old shelf) old result new

-- a crash of a shelf leaves so many live instances and this state
abbrev pub Crashes : (r : StageRules) → (rose : Type 0) → r.State → (shelf live : ℕ) → r.State → Type 0
Crashes r rose old shelf live new = Comes r.fails rose (r.crash old shelf) old live new

-- an edit of a script answers whether it fits, and leaves this state: as it was, where it does not fit
abbrev pub Edits : (r : StageRules) → r.State → (name text : List ℕ) → Bool → r.State → Type 0
Edits r old name text true new = r.edit old name text ≡ Some new
Edits r old name text false new = (r.edit old name text ≡ None) × (new ≡ old)

-- over any devices the count of faults rose
abbrev pub RoseOver : {Devices : Type 0} → (before now : Devices → ℕ) → Type 0
RoseOver {Devices = Devices} before now = (devices : Devices) → Rose (before devices) (now devices)

-- over any devices the count of faults did not fall
abbrev pub StaysUp : {Devices : Type 0} → (before now : Devices → ℕ) → Type 0
StaysUp {Devices = Devices} before now = (devices : Devices) → before devices ≤ now devices

-- over any devices the count of faults is as it was
abbrev pub StaysAt : {Devices : Type 0} → (before now : Devices → ℕ) → Type 0
StaysAt {Devices = Devices} before now = (devices : Devices) → now devices ≡ before devices

-- a stage is at home with any devices that it was at home with
abbrev pub StaysHome : {Devices : Type 0} → (before now : Devices → Type 0) → Type 0
StaysHome {Devices = Devices} before now = (devices : Devices) → before devices → now devices

-- what was asked of devices first stays first
abbrev pub StaysFirst : (before now : (front : List ℕ) → Type 0) → Type 0
StaysFirst before now = (front : List ℕ) → before front → now front

-- there are as many shelves as before
abbrev pub KeepsShelves : (r : StageRules) → (old new : r.State) → Type 0
KeepsShelves r old new = r.shelves new ≡ r.shelves old

-- What the calls of a stage do that stands for a state of these rules. It is said of a stage that holds what its own events left.
module _ (r : StageRules) {S V : Type 0} (own : S → Type 0) (faults : S → V → ℕ) (state : S → r.State) where
  -- A worker's take of a target answers this and leaves a stage so.
  abbrev pub TakesOn : (old : S) → (worker : ℕ) → (target : List ℕ) → Result ℕ Reply → (new : S) → Type 0
  TakesOn old worker target result new = own old → Takes r (RoseOver (faults old) (faults new)) (state old) worker target result (state new)

  -- A worker's publish answers this and leaves a stage so.
  abbrev pub PublishesOn : (old : S) → (worker : ℕ) → Reply → (new : S) → Type 0
  PublishesOn old worker reply new = own old → Publishes r (RoseOver (faults old) (faults new)) (state old) worker reply (state new)

  -- A sweep of a shelf answers this and leaves a stage so.
  abbrev pub SweepsOn : (old : S) → (shelf tick : ℕ) → Result ℕ Reply → (new : S) → Type 0
  SweepsOn old shelf tick result new = own old → Sweeps r (RoseOver (faults old) (faults new)) (state old) shelf tick result (state new)

  -- A compaction of a shelf answers this and leaves a stage so.
  abbrev pub CompactsOn : (old : S) → (shelf : ℕ) → Result ℕ Reply → (new : S) → Type 0
  CompactsOn old shelf result new = own old → Compacts r (RoseOver (faults old) (faults new)) (state old) shelf result (state new)

  -- A crash of a shelf that is opened again leaves so many live instances and a stage so; this is said of a stage whose disks tell.
  abbrev pub CrashesOn : {E : Type 0} → (tells : Bool) → (old : S) → (before : V) → (shelf : ℕ) → Result ℕ E → (new : S) → (after : V) → Type 0
  CrashesOn tells old before shelf result new after =
      IsTrue tells → own old → IfOk result (λ live. Crashes r (Rose (faults old before) (faults new after)) (state old) shelf live (state new))
