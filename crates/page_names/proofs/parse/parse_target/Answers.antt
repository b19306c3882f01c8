-- What the path names, and what follows from it.
use Rattle.std.proofs.Common.{◌≡◌, None, option_map, sym, ◌∙◌, ap}
use Rattle.page_names.specs.Names.{named_by, destination_of}
use Rattle.page_names.specs.Views.{target_of}
use Rattle.page_names.proofs.Plain.{long_path, target_spelled, target_found, spelling_read, spellings_differ}
use Rattle.page_names.proofs.parse.parse_target.Goals as goal

pub returns-in_err-len-clause-found : goal.returns-in_err-len-clause-found
returns-in_err-len-clause-found c =
    let none : destination_of c.args.path.now ≡ None = long_path c.args.path.now c.in_err-len.ensures.fits in
    let value : option_map target_of c.from_residual.result ≡ destination_of c.args.path.now =
    rw c.from_residual.ensures (sym none) in
    target_found c.from_residual.result c.args.path.now value

pub returns-in_err-len-clause-inverse : goal.returns-in_err-len-clause-inverse
returns-in_err-len-clause-inverse c = spelling_read

pub returns-in_err-len-clause-distinct : goal.returns-in_err-len-clause-distinct
returns-in_err-len-clause-distinct c = spellings_differ

pub returns-clause-spelled : goal.returns-clause-spelled
unfolding destination_of
returns-clause-spelled c =
    target_spelled c.target_in.result c.args.path.now (c.target_in.ensures ∙ ap named_by c.in_ok-len.ensures.decoded)

pub returns-clause-found : goal.returns-clause-found
unfolding destination_of
returns-clause-found c =
    target_found c.target_in.result c.args.path.now (c.target_in.ensures ∙ ap named_by c.in_ok-len.ensures.decoded)

pub returns-clause-inverse : goal.returns-clause-inverse
returns-clause-inverse c = spelling_read

pub returns-clause-distinct : goal.returns-clause-distinct
returns-clause-distinct c = spellings_differ
