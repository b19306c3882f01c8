-- What holds of the steps that are drawn.
use Rattle.std.specs.Prelude.{◌≡◌, ℕ, ◌+◌, ◌<◌, ◌^◌, Bool, true, All, List}
use Rattle.play_steps.specs.Step.{is_target}
use Rattle.measured_run.specs.Generator.{Source, next_step, with_url}
use Rattle.measured_run.specs.Lines.{IsLoadStep}

-- each URL that is kept is a target
abbrev pub HasTargets : Source → Type 0
HasTargets source = All (λ url. is_target url ≡ true) source.targets

-- the next step asks of four workers alone whether they hold a ticket
abbrev pub AsksFourWorkers : Type 0
AsksFourWorkers =
    (shelves : ℕ) (holds others : ℕ → Bool) (source : Source)
    → holds 0 ≡ others 0 → holds 1 ≡ others 1 → holds 2 ≡ others 2 → holds 3 ≡ others 3
    → next_step shelves holds source ≡ next_step shelves others source

-- the next step is in its ranges where there is a shelf, the clock stands a minute or more before its end, and the URLs are targets
abbrev pub NextIsStep : Type 0
NextIsStep =
    (shelves : ℕ) (holds : ℕ → Bool) (source : Source)
    → 0 < shelves → source.clock + 59 < 2 ^ 62 → HasTargets source → IsLoadStep shelves (next_step shelves holds source).0

-- a URL that is a target leaves targets
abbrev pub UrlsAreKept : Type 0
UrlsAreKept =
    (url : List ℕ) (source : Source) → is_target url ≡ true → HasTargets source → HasTargets (with_url url source)
