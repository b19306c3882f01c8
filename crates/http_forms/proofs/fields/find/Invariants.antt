use Rattle.std.proofs.Common.{map, take}
use Rattle.httparse.specs.Spans.{header_bytes}
use Rattle.http_forms.specs.Fields.{values_of}
use Rattle.http_forms.specs.Found.{IsFound}
use Rattle.http_forms.proofs.fields.find.Given as goal

abbrev pub invariant-loop-header : goal.invariant-loop-header
invariant-loop-header l = IsFound (values_of l.name (map (header_bytes l.lines) (take l.header-index l.headers))) l.found
