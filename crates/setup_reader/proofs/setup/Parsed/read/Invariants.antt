use Rattle.std.proofs.Common.{◌≡◌, ◌≤◌, length, ◌-◌}
use Rattle.script_nodes.specs.Views.{scripts_of}
use Rattle.setup_reader.specs.Setup as spec
use Rattle.setup_reader.proofs.Standing.{Started}
use Rattle.setup_reader.proofs.setup.Parsed.read.Given as goal

abbrev pub invariant-sections : goal.invariant-sections
invariant-sections l = record {
  goes_on : spec.setup_of l.fn.ending l.fn.input ≡ spec.setup_from (16 - length (scripts_of l.setup)) l.fn.ending (length l.fn.input) (scripts_of l.setup) l.rest;
  few : length (scripts_of l.setup) ≤ 15;
  within : length l.rest ≤ length l.fn.input;
  started : Started l.fn.input l.rest;
}

abbrev pub decreases-sections : goal.decreases-sections
decreases-sections l = length l.rest
