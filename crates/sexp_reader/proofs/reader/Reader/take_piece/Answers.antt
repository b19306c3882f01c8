use Rattle.std.proofs.Common.{arith, ap, sym, ◌∙◌}
use Rattle.sexp_reader.specs.Letters.{is_plain}
use Rattle.sexp_reader.proofs.Utf8.{tail_utf8}
use Rattle.sexp_reader.proofs.reader.Reader.take_piece.Goals as goal

pub take_text-requires : goal.take_text-requires
take_text-requires c =
    tail_utf8 c.args.bytes.now c.requires (omega arith) (ap is_plain (sym c.class_of.ensures ∙ c.in-DoubleQuote.is))
