-- The steps, and the lines that spell them.
use Rattle.std.specs.Prelude.{◌≡◌, ℕ, ◌^◌, ◌+◌, ◌≤◌, ◌<◌, ◌==◌, zero, suc, ◌&&◌, ◌||◌, not, Bool, true, false, List, [], ◌∷◌, ◌++◌, Option, Some, None, length, take as front, drop, nat_le, codes, unwrap_or, option_map, if◌then◌else◌, ⊤}
use Rattle.std.specs.Fmt.{decimal}
use Rattle.std.specs.List.{list_all, list_any}
use Rattle.script_value.specs.Texts.{lacks}
use Rattle.script_value.specs.Pieces.{◌>>=◌, cut_at, behind, number_below}
use Rattle.server_limits.specs.Counts.{most_workers}

-- A step: a worker takes a ticket for a target, publishes its ticket, or does both; each shelf is swept; a shelf's disk crashes, and the
-- shelf is opened again; a shelf's file is compacted; the script of a name has this text from now on; or a shelf's disk crashes as an edit
-- before it brings it, which no line spells.
pub data Step : Type 0 where
  take : (worker : ℕ) → (target : List ℕ) → Step
  publish : (worker : ℕ) → Step
  get : (worker : ℕ) → (target : List ℕ) → Step
  tick : (time : ℕ) → Step
  crash : (shelf : ℕ) → Step
  compact : (shelf : ℕ) → Step
  edit : (name text : List ℕ) → Step
  crash_edited : (shelf : ℕ) → Step

-- the worker that a number below the most names, in decimal
abbrev pub worker_of : List ℕ → Option ℕ
worker_of digits = number_below most_workers digits

-- a byte from `!` to `~`
abbrev pub is_target_byte : ℕ → Bool
is_target_byte b = nat_le 33 b && nat_le b 126

-- a target: 1 or more bytes from `!` to `~`
abbrev pub is_target : List ℕ → Bool
is_target target = not (length target == 0) && list_all is_target_byte target

-- the worker and the target that `W TARGET` spells
unfoldable pub aim_of : List ℕ → Option (ℕ × List ℕ)
aim_of bytes = do
  parts ← cut_at 32 bytes
  worker ← worker_of parts.0
  if is_target parts.1 then Some (worker, parts.1) else None

-- the step that `take W TARGET` spells
unfoldable pub take_of : List ℕ → Option Step
take_of line = do
  rest ← behind (codes "take ") line
  aim ← aim_of rest
  Some (take aim.0 aim.1)

-- the step that `publish W` spells
unfoldable pub publish_of : List ℕ → Option Step
publish_of line = do
  rest ← behind (codes "publish ") line
  worker ← worker_of rest
  Some (publish worker)

-- the step that `get W TARGET` spells
unfoldable pub get_of : List ℕ → Option Step
get_of line = do
  rest ← behind (codes "get ") line
  aim ← aim_of rest
  Some (get aim.0 aim.1)

-- the step that `tick T` spells
unfoldable pub tick_of : List ℕ → Option Step
tick_of line = do
  rest ← behind (codes "tick ") line
  time ← number_below (2 ^ 62) rest
  Some (tick time)

-- the step that `crash S` spells
unfoldable pub crash_of : List ℕ → Option Step
crash_of line = do
  rest ← behind (codes "crash ") line
  shelf ← number_below (2 ^ 32) rest
  Some (crash shelf)

-- the step that `compact S` spells
unfoldable pub compact_of : List ℕ → Option Step
compact_of line = do
  rest ← behind (codes "compact ") line
  shelf ← number_below (2 ^ 32) rest
  Some (compact shelf)

-- the first of two options that is some
abbrev pub first_of : Option Step → Option Step → Option Step
first_of (Some s) o = Some s
first_of None o = o

-- the step that a line is
unfoldable pub step_of : List ℕ → Option Step
step_of line =
    first_of (take_of line) (first_of (publish_of line) (first_of (get_of line) (first_of (tick_of line) (first_of (crash_of line) (compact_of line)))))

-- how many bytes the text of an edit may have
abbrev pub most_text_bytes : ℕ
most_text_bytes = 16777216

-- the name and the length that `edit NAME LENGTH` spells
unfoldable pub edit_head : List ℕ → Option (List ℕ × ℕ)
edit_head line = do
  rest ← behind (codes "edit ") line
  parts ← cut_at 32 rest
  len ← number_below (most_text_bytes + 1) parts.1
  Some (parts.0, len)

-- the edit of a script of this name whose text of this length the bytes begin with, and what follows the text's newline
unfoldable pub edit_with : List ℕ × ℕ → List ℕ → Option (Step × List ℕ)
edit_with head bytes =
    if nat_le head.1 (length bytes) then (do
      rest ← behind (10 ∷ []) (drop head.1 bytes)
      Some (edit head.0 (front head.1 bytes), rest)) else None

-- the step that a line with what follows it begins with: an edit by its head, or another step by its line
abbrev pub step_by : Option (List ℕ × ℕ) → (line bytes : List ℕ) → Option (Step × List ℕ)
step_by (Some head) line bytes = edit_with head bytes
step_by None line bytes = option_map (λ step. (step, bytes)) (step_of line)

-- the step at the front of the bytes, and the bytes after its lines
unfoldable pub first_step : List ℕ → Option (Step × List ℕ)
first_step bytes = do
  parts ← cut_at 10 bytes
  step_by (edit_head parts.0) parts.0 parts.1

-- how many newlines the bytes have
abbrev pub newlines : List ℕ → ℕ
newlines [] = 0
newlines (b ∷ bytes) = if b == 10 then suc (newlines bytes) else newlines bytes

-- how many lines a step has
abbrev pub lines_in : Step → ℕ
lines_in (take worker target) = 1
lines_in (publish worker) = 1
lines_in (get worker target) = 1
lines_in (tick time) = 1
lines_in (crash shelf) = 1
lines_in (compact shelf) = 1
lines_in (edit name text) = newlines text + 2
lines_in (crash_edited shelf) = 0

-- this many steps of the bytes at most; where the front is no step, nothing after it is read
abbrev pub steps_within : ℕ → List ℕ → List (Option Step)
steps_within count [] = []
steps_within zero (b ∷ bytes) = []
steps_within (suc count) (b ∷ bytes) =
    unwrap_or (option_map (λ p. Some p.0 ∷ steps_within count p.1) (first_step (b ∷ bytes))) (None ∷ [])

-- the steps of the bytes
unfoldable pub steps_of : List ℕ → List (Option Step)
steps_of bytes = steps_within (length bytes) bytes

-- the crashes of so many shelves that an edit brings, from this one on
abbrev pub crashes_from : (shelf count : ℕ) → List (Option Step)
crashes_from shelf zero = []
crashes_from shelf (suc count) = Some (crash_edited shelf) ∷ crashes_from (shelf + 1) count

-- what follows a step by itself: an edit brings the crash of each of so many shelves, in order
abbrev pub brought_by : (shelves : ℕ) → Step → List (Option Step)
brought_by shelves (edit name text) = crashes_from 0 shelves
brought_by shelves _ = []

-- the steps of a run on so many shelves: those that are given, each with what it brings
abbrev pub with_crashes : (shelves : ℕ) → List (Option Step) → List (Option Step)
with_crashes shelves [] = []
with_crashes shelves (None ∷ steps) = None ∷ with_crashes shelves steps
with_crashes shelves (Some step ∷ steps) = Some step ∷ (brought_by shelves step ++ with_crashes shelves steps)

-- how many lines these steps have, up to what is no step
abbrev pub lines_before : List (Option Step) → ℕ
lines_before [] = 0
lines_before (None ∷ steps) = 0
lines_before (Some step ∷ steps) = lines_in step + lines_before steps

-- the lines that spell a step, without the last newline
abbrev pub line_of : Step → List ℕ
line_of (take worker target) = codes "take " ++ (decimal worker ++ 32 ∷ target)
line_of (publish worker) = codes "publish " ++ decimal worker
line_of (get worker target) = codes "get " ++ (decimal worker ++ 32 ∷ target)
line_of (tick time) = codes "tick " ++ decimal time
line_of (crash shelf) = codes "crash " ++ decimal shelf
line_of (compact shelf) = codes "compact " ++ decimal shelf
line_of (edit name text) = codes "edit " ++ (name ++ 32 ∷ (decimal (length text) ++ 10 ∷ text))
line_of (crash_edited shelf) = []

-- the lines of steps, each ended by a newline
abbrev pub lines_of : List Step → List ℕ
lines_of [] = []
lines_of (s ∷ steps) = line_of s ++ 10 ∷ lines_of steps

-- the worker, the target, the time and the shelf of a step that lines spell are in their ranges; an edit's name has no space and no
-- newline, and its text is not too long
abbrev pub IsStep : Step → Type 0
IsStep (take worker target) = (worker < most_workers) × (is_target target ≡ true)
IsStep (publish worker) = worker < most_workers
IsStep (get worker target) = (worker < most_workers) × (is_target target ≡ true)
IsStep (tick time) = time < 2 ^ 62
IsStep (crash shelf) = shelf < 2 ^ 32
IsStep (compact shelf) = shelf < 2 ^ 32
IsStep (edit name text) = (lacks 32 name ≡ true) × (lacks 10 name ≡ true) × (length text ≤ most_text_bytes)
IsStep (crash_edited shelf) = ⊥

-- the worker, the time and the shelf of a step are in their ranges, whatever its target is
abbrev pub IsWithin : Step → Type 0
IsWithin (take worker target) = worker < most_workers
IsWithin (publish worker) = worker < most_workers
IsWithin (get worker target) = worker < most_workers
IsWithin (tick time) = time < 2 ^ 62
IsWithin (crash shelf) = shelf < 2 ^ 32
IsWithin (compact shelf) = shelf < 2 ^ 32
IsWithin (edit name text) = ⊤
IsWithin (crash_edited shelf) = shelf < 2 ^ 32

-- each of these steps can stand on a line
abbrev pub AreSteps : List Step → Type 0
AreSteps [] = Unit {0}
AreSteps (s ∷ steps) = IsStep s × AreSteps steps

-- whether the step is a crash, or brings one
abbrev pub is_crash : Option Step → Bool
is_crash (Some (crash shelf)) = true
is_crash (Some (edit name text)) = true
is_crash (Some (crash_edited shelf)) = true
is_crash _ = false

-- the shelf whose disk crashes at this step
abbrev pub crashed_at : Step → Option ℕ
crashed_at (crash shelf) = Some shelf
crashed_at (crash_edited shelf) = Some shelf
crashed_at _ = None

-- whether the step is an edit
abbrev pub is_edit : Step → Bool
is_edit (edit name text) = true
is_edit _ = false

-- whether all that these steps do is known: their disks tell what they hold, or none of them crashes
abbrev pub is_told : (tells : Bool) → List (Option Step) → Bool
is_told tells steps = tells || not (list_any is_crash steps)

-- all that this step does is known
abbrev pub IsTold : (tells : Bool) → Step → Type 0
IsTold tells step = is_told tells (Some step ∷ []) ≡ true
