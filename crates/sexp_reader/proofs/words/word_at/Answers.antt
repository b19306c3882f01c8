use Rattle.sexp_reader.proofs.Utf8.{not_word}
use Rattle.sexp_reader.proofs.words.word_at.Goals as goal

pub returns-in-Err : goal.returns-in-Err
returns-in-Err c = rw c.fault.ensures (not_word c.args.place c.args.token.now c.in-Err.ensures.cases.0)
