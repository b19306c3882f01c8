use Rattle.sexp_reader.proofs.GoesOn as goes_on
use Rattle.sexp_reader.proofs.laws.unclosed_goes_on.Goals as goal

pub returns : goal.returns
returns c = goes_on.unclosed_goes_on
