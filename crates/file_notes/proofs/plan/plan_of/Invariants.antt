use Rattle.std.proofs.Common.{◌≡◌, ◌≤◌, List, length, drop}
use Rattle.script_nodes.specs.Setup.{Named}
use Rattle.instance_book.specs.Views.{instances_of}
use Rattle.file_notes.specs.Notes.{plan_in, time_next}
use Rattle.file_notes.proofs.plan.plan_of.Given as goal

abbrev pub invariant-records : goal.invariant-records
invariant-records l = record {
  low : l.place ≤ length l.notes;
  long : length l.plan.items ≡ length l.notes;
  plan : (all : List Named) → drop l.place l.plan.items ≡ plan_in (instances_of all l.book.instances) (drop l.place l.notes);
  time : (all : List Named) → l.time ≡ time_next (instances_of all l.book.instances) (drop l.place l.notes);
}

abbrev pub decreases-records : goal.decreases-records
decreases-records l = l.place
