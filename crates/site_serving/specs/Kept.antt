-- The past of a serving.
use Rattle.std.specs.Prelude.{◌≡◌, List, map, Option, Some, IsSomeAnd, option_map}
use Rattle.std.specs.Global.{Vec}
use Rattle.ghost_history.specs.Entries.{entries}
use Rattle.request_workers.specs.declared.tally.Tally.{Tally}
use Rattle.site.specs.declared.entry.KeptEntry.{KeptEntry}
use Rattle.site_serving.specs.declared.kept_past.KeptServing.{KeptServing}
use Rattle.site_serving.specs.declared.kept_past.KeptPast.{KeptPast}

-- what is kept of a serving: a history of each shelf, and a tally of each worker, both in their order
pub record Kept : Type 0 where
  pub histories : List (List KeptEntry)
  pub tallies : List Tally

-- What a past was given: these histories and tallies.
abbrev pub kept_of : List (List KeptEntry) → List Tally → Kept
kept_of histories tallies = record { histories = histories; tallies = tallies }

-- what is kept of a serving, by vectors of its histories and of its tallies
abbrev pub kept_in : Vec (List KeptEntry) → Vec Tally → Kept
kept_in histories tallies = kept_of histories.items tallies.items

-- What was kept of a serving.
abbrev pub serving_of : KeptServing → Kept
serving_of s = kept_in s.histories.value s.tallies.value

-- what was kept of each serving of a past
abbrev pub told_by : KeptPast → Option (List Kept)
told_by p = Some (map serving_of (entries p.servings.value))

-- what was kept of the last serving of a past
abbrev pub last_in : KeptPast → Option Kept
last_in p = option_map (λ k. kept_in k.0 k.1) p.last

-- these are the tallies of the last serving of a past
abbrev pub AreLastTallies : KeptPast → List Tally → Type 0
AreLastTallies p tallies = IsSomeAnd (last_in p) (λ k. k.tallies ≡ tallies)

-- these are the histories of the last serving of a past
abbrev pub AreLastHistories : KeptPast → List (List KeptEntry) → Type 0
AreLastHistories p histories = IsSomeAnd (last_in p) (λ k. k.histories ≡ histories)
