-- How the steps of a measured run are drawn.
use Rattle.std.specs.Prelude.{◌≡◌, ℕ, ◌+◌, ◌*◌, ◌/◌, ◌%◌, ◌^◌, ◌==◌, ◌||◌, Bool, false, List, [], ◌∷◌, ◌++◌, length, drop, nat_lt, bit_xor, codes, slice_index_or, if◌then◌else◌}
use Rattle.std.specs.Fmt.{decimal}
use Rattle.script_value.specs.declared.outcome.Reply.{Reply}
use Rattle.script_value.specs.declared.outcome.Reply.TheVariants.{Page}
use Rattle.play_steps.specs.declared.report.Report.{Report}
use Rattle.play_steps.specs.declared.report.Report.TheVariants.{Replied}
use Rattle.measured_run.specs.declared.step.LoadStep.{LoadStep}
use Rattle.measured_run.specs.declared.step.LoadStep.TheVariants.{Crash, Tick, Publish, Take, Get}
use Rattle.measured_run.specs.Scripts.{script_of, start_of}

-- What the next step goes by: the number that was drawn last, the clock in seconds, and the URLs of the last pages, the oldest first.
pub record Source : Type 0 where
  pub number : ℕ
  pub clock : ℕ
  pub targets : List (List ℕ)

-- what the first step of the run of a number goes by
abbrev pub source_of : ℕ → Source
source_of n = record { number = n; clock = 0; targets = [] }

-- how many URLs are kept
abbrev pub most_targets : ℕ
most_targets = 256

-- a number and what it is shifted by these bits to the left, on 64 bits, joined by an exclusive or
abbrev pub left_joined : (bits n : ℕ) → ℕ
left_joined bits n = bit_xor n (n * 2 ^ bits % 2 ^ 64)

-- a number and what it is shifted by these bits to the right, joined by an exclusive or
abbrev pub right_joined : (bits n : ℕ) → ℕ
right_joined bits n = bit_xor n (n / 2 ^ bits)

-- the number that is drawn after a number
unfoldable pub drawn : ℕ → ℕ
drawn n = left_joined 17 (right_joined 7 (left_joined 13 n))

-- the lot that a drawn number says, of 0 to 999, which decides on the row
abbrev pub lot_of : ℕ → ℕ
lot_of r = r % 1000

-- the worker that a drawn number says, of 0 to 3
abbrev pub worker_of : ℕ → ℕ
worker_of r = r / 1000 % 4

-- what a drawn number chooses within the row
abbrev pub choice_of : ℕ → ℕ
choice_of r = r / 4000

-- the start of one of the three scripts
abbrev pub start_target : ℕ → List ℕ
start_target choice = start_of (script_of (choice % 3))

-- one of the URLs, with a digit as the answer `h`
abbrev pub page_target : List (List ℕ) → ℕ → List ℕ
page_target targets choice =
    slice_index_or targets (choice % length targets) [] ++ codes "?h=" ++ decimal (choice / 256 % 10)

-- A visit's target: a start where the lot is below 120 or no URL is there, and else one of these.
abbrev pub visit_target : List (List ℕ) → ℕ → List ℕ
visit_target targets r =
    if nat_lt (lot_of r) 120 || length targets == 0 then start_target (choice_of r) else page_target targets (choice_of r)

-- A visit: an even lot takes a ticket and an odd one also spends it.
abbrev pub visit_of : (lot worker : ℕ) → List ℕ → LoadStep
visit_of lot worker target = if lot % 2 == 0 then Take worker target else Get worker target

-- The step on which a number decides that was drawn. The first row that applies:
abbrev pub step_of : (shelves : ℕ) → (holds : ℕ → Bool) → Source → (r : ℕ) → LoadStep
step_of shelves holds source r =
    -- lot 0: a shelf crashes
    if lot_of r == 0 then Crash (choice_of r % shelves)
    -- a lot below 21: at most 59 seconds go by
    else (if nat_lt (lot_of r) 21 then Tick (source.clock + choice_of r % 60)
    -- the worker holds a ticket: it is spent
    else (if holds (worker_of r) then Publish (worker_of r)
    -- else: the worker makes a visit
    else visit_of (lot_of r) (worker_of r) (visit_target source.targets r)))

-- the clock after a step: of a tick its time
abbrev pub clock_behind : LoadStep → ℕ → ℕ
clock_behind (Tick time) clock = time
clock_behind (Crash shelf) clock = clock
clock_behind (Publish worker) clock = clock
clock_behind (Take worker target) clock = clock
clock_behind (Get worker target) clock = clock

-- what the step after this one goes by
abbrev pub source_behind : LoadStep → ℕ → Source → Source
source_behind step r source = record { number = r; clock = clock_behind step source.clock; targets = source.targets }

-- the next step, and what the step after it goes by
unfoldable pub next_step : (shelves : ℕ) → (holds : ℕ → Bool) → Source → LoadStep × Source
next_step shelves holds source = (
  step_of shelves holds source (drawn source.number),
  source_behind (step_of shelves holds source (drawn source.number)) (drawn source.number) source,
)

-- which of the workers from 0 on hold a ticket
abbrev pub held_in : List Bool → ℕ → Bool
held_in holds worker = slice_index_or holds worker false

-- the step on which a number decides, over so many shelves and where these of the workers hold a ticket
abbrev pub step_for : (shelves : ℕ) → (holds : List Bool) → Source → (r : ℕ) → LoadStep
step_for shelves holds source r = step_of shelves (held_in holds) source r

-- this step is the next of the source, over these shelves and where these of the workers hold a ticket
abbrev pub Draws : (shelves : ℕ) → (holds : List Bool) → (old : Source) → LoadStep → (new : Source) → Type 0
Draws shelves holds old step new = (step, new) ≡ next_step shelves (held_in holds) old

-- the last URLs of these: of one too many the first goes
abbrev pub last_of : List (List ℕ) → List (List ℕ)
last_of urls = if nat_lt most_targets (length urls) then drop 1 urls else urls

-- the source with one URL more
abbrev pub with_url : List ℕ → Source → Source
with_url url source = record { number = source.number; clock = source.clock; targets = last_of (source.targets ++ url ∷ []) }

-- the source after a reply: the URL of a page that has one is learned
abbrev pub shown : Reply → Source → Source
shown (Page bytes url) source = with_url url source
shown _ source = source

-- the source after a report: what a reply shows is learned
abbrev pub learned : Report → Source → Source
learned (Replied worker reply) source = shown reply source
learned _ source = source
