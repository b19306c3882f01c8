use Rattle.std.proofs.Common.{[]}
use Rattle.sexp_reader.proofs.Utf8.{text_utf8}
use Rattle.sexp_reader.proofs.scan.text_at.Goals as goal

pub text_of-requires : goal.text_of-requires
text_of-requires c = (text_utf8 c.args.place [] c.args.bytes.now _ c.requires c.in_ok-letters.ensures.found).0
