-- How a segment stops.
use Rattle.std.specs.Prelude.{◌≡◌, ⊤}
use Rattle.segments.specs.Views.{outcome_of}
use Rattle.segment_progress.specs.declared.halt.Halt.{Halt}
use Rattle.segment_progress.specs.declared.halt.Halt.TheVariants.{Memory, Stopped}
use Rattle.segment_progress.specs.declared.halt.How.{How}
use Rattle.segment_progress.specs.declared.halt.How.TheVariants.{Shows, Finishes, Ends}
use Rattle.segments.specs.ReplaySpec.Tape as spec

-- which kind of page a segment stops with
abbrev pub how_of : How → spec.How
how_of (Shows kind) = spec.shows kind
how_of Finishes = spec.finishes
how_of Ends = spec.ends

-- a segment stopped with a page
abbrev pub IsPaged : spec.Outcome → Type 0
IsPaged (spec.paged how bytes) = ⊤
IsPaged (spec.faulted k) = ⊥
IsPaged (spec.out_of_fuel cost) = ⊥

-- the halt is this stop, unless memory ran out for a page
abbrev pub HaltsAs : Halt → spec.Outcome → Type 0
HaltsAs Memory o = IsPaged o
HaltsAs (Stopped e) o = o ≡ outcome_of e
