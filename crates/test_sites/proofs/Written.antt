-- What a site of these tests begins with.
use Rattle.std.proofs.Common.{◌≤◌, ℕ, List, arith}
use Rattle.script_nodes.specs.Setup.{Named}
use Rattle.journal_records.specs.Records.{IsInGrammar, begin_of}
use Rattle.site.specs.Beginnings.{CanBegin}

pub all_begin : (scripts : List Named) (shelves : ℕ) → shelves ≤ 16 → IsInGrammar (begin_of 0 scripts) → CanBegin scripts shelves
all_begin scripts shelves most first k low = (omega (arith, low, most), first.1)
