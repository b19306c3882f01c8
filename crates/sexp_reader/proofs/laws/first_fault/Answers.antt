use Rattle.sexp_reader.proofs.First as first
use Rattle.sexp_reader.proofs.laws.first_fault.Goals as goal

pub returns : goal.returns
returns c = first.first_faults
