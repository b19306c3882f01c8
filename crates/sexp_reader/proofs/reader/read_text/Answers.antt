use Rattle.std.proofs.Common.{arith, ◌∙◌}
use Rattle.sexp_reader.proofs.Turns.{read_utf8, read_bytes}
use Rattle.sexp_reader.proofs.reader.read_text.Goals as goal

pub returns-in-Ok-clause-value : goal.returns-in-Ok-clause-value
returns-in-Ok-clause-value c = rw (read_utf8 c.args.text.now (omega arith) c.in-Ok.ensures.cases.1) c.scan.ensures

pub returns-in-Err-clause-value : goal.returns-in-Err-clause-value
returns-in-Err-clause-value c =
    read_bytes c.args.text.now c.fault-in-Err.result c.valid_up_to.result (omega arith) c.in-Err.ensures.cases.0
    (c.valid_up_to.ensures ∙ c.in-Err.ensures.valid_len) c.fault-in-Err.ensures
