use Rattle.std.proofs.Common.{◌≡◌, codes, map, take}
use Rattle.httparse.specs.Spans.{header_bytes}
use Rattle.http_forms.specs.Fields.{values_of, say_close}
use Rattle.http_forms.proofs.fields.says_close.Given as goal

abbrev pub invariant-loop-header : goal.invariant-loop-header
invariant-loop-header l = l.says ≡ say_close (values_of (codes "Connection") (map (header_bytes l.lines) (take l.header-index l.headers)))
