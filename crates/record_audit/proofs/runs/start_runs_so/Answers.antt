use Rattle.std.proofs.Common.{◌∙◌, ap, List, [], refl}
use Rattle.script_value.specs.Val.{Val, list, vals_of}
use Rattle.script_nodes.specs.Views.{library_of}
use Rattle.segments.specs.Views.{segment_of}
use Rattle.record_audit.specs.declared.home.Home.{Home}
use Rattle.record_audit.specs.Runs.{comes_behind}
use Rattle.record_audit.proofs.Visits.{start_so}
use Rattle.record_audit.proofs.runs.start_runs_so.Goals as goal

pub returns : goal.returns
returns c =
    let page = c.args.page.now in
    let home : Home = record { script = c.in-Some.script; shelf = c.shelf.result; instance = page.ticket } in
    let none = ap (λ (vs : List Val). list (vals_of vs)) c.new.ensures in
    let cells = c.in_ok-cells.ensures ∙ (c.as_slice.ensures ∙ c.instance_defaults-defaults.ensures) in
    let comes = c.in_ok-ran.ensures
    ∙ (ap (λ (v : Val). comes_behind home [] v page.ticket page.nonce c.in_ok-cells.cells) none
    ∙ ap (λ (vs : List Val). comes_behind home [] (list (vals_of [])) page.ticket page.nonce vs) cells) in
    start_so (library_of c.args.library.now) c.args.book.now c.args.script page home c.shows_so.result (segment_of c.in_ok-ran.ran) c.in-Some.ensures c.shelf.ensures refl comes
    c.shows_so.ensures
