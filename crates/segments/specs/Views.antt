-- What the program's values stand for in the definitions.
use Rattle.std.specs.Prelude.{map}
use Rattle.script_value.specs.Views.{meaning}
use Rattle.instance_cells.specs.Views.{effect_of}
use Rattle.segments.specs.declared.tape.Now.{Now}
use Rattle.segments.specs.declared.tape.Reads.{Reads}
use Rattle.segments.specs.declared.tape.Reads.TheVariants as reads
use Rattle.segments.specs.declared.tape.Answer.{Answer}
use Rattle.segments.specs.declared.tape.Tape.{Tape}
use Rattle.segments.specs.declared.ends.RunEnd.{RunEnd}
use Rattle.segments.specs.declared.ends.RunEnd.TheVariants.{Shown, Finished, Ended, Faulted, Fuel}
use Rattle.segments.specs.declared.ends.RunResult.{RunResult}
use Rattle.replay_spec.specs.Tape as spec
use Rattle.replay_spec.specs.Eval.{Segment}

-- where a segment's reads come from
abbrev pub source_of : Reads → spec.Reads
source_of (reads.Recorded vs) = spec.recorded vs.now
source_of (reads.Present cells fuel) = spec.present cells.now fuel

-- the segment that runs now, as the program's value says it
abbrev pub now_of : Now → spec.Now
now_of n = record { number = n.number; url = n.url.now; reads = source_of n.reads }

-- a segment that ran, with what it read
abbrev pub ran_of : Answer → spec.Now
ran_of a = record { number = a.number; url = a.url; reads = spec.recorded a.reads }

-- an answer of a tape, with the segment that it begins
abbrev pub answer_of : Answer → spec.Answer
answer_of a = record { value = meaning a.value; segment = ran_of a }

-- the newest segment of a tape, with the answer that begins it
abbrev pub newest_of : Tape → spec.Answer
newest_of t = record { value = meaning t.answer.now; segment = now_of t.newest }

-- the tape of a run, that the program's tape stands for
abbrev pub tape_of : Tape → spec.Tape
tape_of t = spec.tape_behind (map answer_of t.past.now) (newest_of t)

-- how a run stopped: with a page, at a fault, or out of fuel
abbrev pub outcome_of : RunEnd → spec.Outcome
outcome_of (Shown page kind) = spec.paged (spec.shows kind) page
outcome_of (Finished page) = spec.paged spec.finishes page
outcome_of (Ended page) = spec.paged spec.ends page
outcome_of (Faulted k) = spec.faulted k
outcome_of (Fuel cost) = spec.out_of_fuel cost

-- how a run stopped, and what its last segment did
abbrev pub segment_of : RunResult → Segment
segment_of r = record {
  outcome = outcome_of r.end;
  entered = r.entered.items;
  effects = map effect_of r.effects.items;
  left = r.left.items;
  cost = r.cost;
}
