use Rattle.std.proofs.Common.{◌∙◌, ap, ℕ}
use Rattle.script_value.specs.Views.{meaning}
use Rattle.script_nodes.specs.Views.{library_of}
use Rattle.segments.specs.Views.{segment_of}
use Rattle.record_audit.specs.Runs.{comes_at}
use Rattle.record_audit.proofs.Visits.{answer_so}
use Rattle.record_audit.proofs.runs.answer_runs_so.Goals as goal

pub returns : goal.returns
returns c =
    let page = c.args.page.now in
    let place = c.in-Some.place in
    let answer = meaning c.args.answer.now in
    let comes = c.in_ok-ran.ensures ∙ ap (λ (n : ℕ). comes_at n place answer page.ticket page.nonce) c.shelf.ensures in
    answer_so (library_of c.args.library.now) c.args.book.now c.args.instance c.args.answered answer page place c.shows_so.result (segment_of c.in_ok-ran.ran) c.in-Some.ensures.placed
    c.in-Some.ensures.place comes c.shows_so.ensures
