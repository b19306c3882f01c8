-- What holds of every run of step lines.
use Rattle.std.specs.Prelude.{◌≡◌, ℕ, ◌==◌, List, [], ◌∷◌, map, Option, Some, slice_get, if◌then◌else◌}
use Rattle.script_nodes.specs.Setup.{Named}
use Rattle.replay_spec.specs.Rules.{Rules}
use Rattle.replay_spec.specs.Step.{Event, Fate, Reply}
use Rattle.replay_spec.specs.Runs.{Shelf, after, answers_to}
use Rattle.replay_spec.specs.Laws.{IsLawfulRun}
use Rattle.play_steps.specs.Step.{Step}
use Rattle.play_steps.specs.Transcript.{text_of, transcript}
use Rattle.play_desk.specs.Desk.{Desk, first_desk, desk_rules, counting}
use Rattle.play_desk.specs.Ledger.{Entry, reading, print_of, events_of}

-- the events that were entered for the shelf of this number, with their fates
abbrev pub events_on : ℕ → List Entry → List (Event × Fate)
events_on k [] = []
events_on k (e ∷ entries) = if e.shelf == k then (e.event, e.fate) ∷ events_on k entries else events_on k entries

-- what the events that were entered for the shelf of this number were answered
abbrev pub replies_on : ℕ → List Entry → List Reply
replies_on k [] = []
replies_on k (e ∷ entries) = if e.shelf == k then e.reply ∷ replies_on k entries else replies_on k entries

-- shelves that only nonces beyond 64 bits tell apart
pub record AreAlike (s t : Shelf) : Type 0 where
  pub rules : t.rules ≡ s.rules
  pub book : t.book ≡ s.book
  pub nonces : counting t.nonces ≡ counting s.nonces

-- each shelf's run over the events that were entered for it gives just the replies that were entered, and leaves a shelf like the new one
pub record AreRuns (entries : List Entry) (old new : List Shelf) : Type 0 where
  pub answered : (k : ℕ) (s : Shelf) → slice_get old k ≡ Some s → answers_to counting (events_on k entries) s ≡ replies_on k entries
  pub left : (k : ℕ) (s : Shelf) → slice_get old k ≡ Some s
      → (t : Shelf) × (slice_get new k ≡ Some t) × AreAlike (after counting (events_on k entries) s) t

-- each publish of the shelves' runs over these entries spends a number that is out on its shelf
abbrev pub AreLawfulRuns : List Entry → List Shelf → Type 0
AreLawfulRuns entries shelves =
    (k : ℕ) (s : Shelf) → slice_get shelves k ≡ Some s → IsLawfulRun counting (events_on k entries) s

-- The transcript is the print of these replies, one for each event that its lines are, and they are those of the shelves' runs
-- over these events; the shelves, with their books, are left as these runs leave them. From the first desk on the runs are lawful,
-- so that what holds of lawful runs holds of what was played.
pub record IsRunOfEvents (d : Desk) (number : ℕ) (steps : List (Option Step)) (fates : List Fate) (replies : List Reply) : Type 0 where
  pub text : text_of (transcript desk_rules d number steps fates) ≡ print_of d number steps fates replies
  pub end : (transcript desk_rules d number steps fates).end ≡ (reading d number steps fates replies).end
  pub all : map (λ e. e.reply) (events_of d number steps fates replies) ≡ replies
  pub scripts : (transcript desk_rules d number steps fates).state.scripts ≡ (reading d number steps fates replies).state.scripts
  pub held : (transcript desk_rules d number steps fates).state.held ≡ (reading d number steps fates replies).state.held
  pub runs : AreRuns (events_of d number steps fates replies) d.shelves (transcript desk_rules d number steps fates).state.shelves
  pub lawful : (rules : ℕ → Rules) (scripts : List Named) (count : ℕ) → d ≡ first_desk rules scripts count
      → AreLawfulRuns (events_of d number steps fates replies) d.shelves

-- The printed transcript of lines, from any desk on, is the print of the replies of the runs of events that the lines are, and the
-- last books are those of these runs. Which events the lines are is said by what was answered so far, and by no book.
abbrev pub TranscriptsAreRuns : Type 0
TranscriptsAreRuns =
    (d : Desk) (number : ℕ) (steps : List (Option Step)) (fates : List Fate)
    → (replies : List Reply) × IsRunOfEvents d number steps fates replies
