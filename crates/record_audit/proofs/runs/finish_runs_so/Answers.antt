use Rattle.std.proofs.Common.{◌∙◌, ap, ℕ}
use Rattle.script_value.specs.Views.{meaning}
use Rattle.script_nodes.specs.Views.{library_of}
use Rattle.page_names.specs.Names.{start}
use Rattle.segments.specs.Views.{segment_of}
use Rattle.journal_records.specs.Views.{effects_in}
use Rattle.book_redo.specs.InstanceBook.Standing.{book_under}
use Rattle.audit_spec.specs.Tests.{finishes_so}
use Rattle.record_audit.specs.Runs.{comes_at}
use Rattle.record_audit.proofs.Visits.{holds_there}
use Rattle.record_audit.proofs.runs.finish_runs_so.Goals as goal

pub returns : goal.returns
returns c =
    let library = library_of c.args.library.now in
    let told = c.args.finish.now in
    let place = c.in-Some.place in
    let answer = meaning told.answer in
    let comes = c.in_ok-ran.ensures ∙ ap (λ (n : ℕ). comes_at n place answer told.ticket 0) c.shelf.ensures in
    holds_there library.all (book_under library c.args.book.now) (λ at. record { target = start at.instance.script.name; answer = answer; number = told.ticket; nonce = 0 }) told.instance told.page
    place (finishes_so (effects_in told.effects)) c.finishes_so.result (segment_of c.in_ok-ran.ran) c.in-Some.ensures.placed c.in-Some.ensures.place comes c.finishes_so.ensures
