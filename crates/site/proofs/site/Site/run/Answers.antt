use Rattle.std.proofs.Common.{◌≡◌, ◌<◌, ◌≤◌, None, length, slice_get, sym, ◌∙◌, ap, subst, arith}
use Rattle.std.specs.Prelude.{option_map}
use Rattle.std.proofs.lemmas.Bool.Decides.{nat_tests}
use Rattle.std.proofs.lemmas.Option.{slice_get_past}
use Rattle.page_names.specs.Views.{target_of}
use Rattle.script_nodes.specs.Views.{library_of}
use Rattle.site.proofs.Seats.{found_at, library_held, read_at, runs_of, run_at}
use Rattle.site.proofs.site.Site.run.Goals as goal

pub unreachable-requires-in_default-get : goal.unreachable-requires-in_default-get
unreachable-requires-in_default-get g c =
    let on = found_at {D = g.row.D.Denot} {N = g.row.N.Denot} c.args.self.now c.args.pass.now (target_of c.args.ticket.now.target) c.in-Some.shelf c.caller.result c.place_for.result c.requires.own c.caller.ensures c.place_for.ensures c.in-Some.is in
    let told = library_held {D = g.row.D.Denot} {N = g.row.N.Denot} g.D.Disk.view g.D.Disk.tells g.N.Nonces.nonce c.args.self.now c.args.pass.now c.args.ticket.now c.in-Some.shelf c.requires.own c.requires.held on in
    let test = c.in_default-get.ensures.lookup.0 in
    let past : length c.deref.result.now ≤ c.in-Some.shelf = grind (arith, nat_tests, test) in
    let none : slice_get c.args.self.now.libraries.items c.in-Some.shelf ≡ None =
    subst (λ (l : _). slice_get l c.in-Some.shelf ≡ None) c.deref.ensures.value (slice_get_past c.deref.result.now c.in-Some.shelf past) in
    let no = sym told ∙ ap (λ l. option_map library_of l) none in
    let contradiction : ⊥ = cc no in
    contradiction

pub segment_of-requires-clause-runs : goal.segment_of-requires-clause-runs
segment_of-requires-clause-runs g c =
    let on = found_at {D = g.row.D.Denot} {N = g.row.N.Denot} c.args.self.now c.args.pass.now (target_of c.args.ticket.now.target) c.in-Some.shelf c.caller.result c.place_for.result c.requires.own c.caller.ensures c.place_for.ensures c.in-Some.is in
    let seen = c.in-Some-get.ensures.lookup in
    let test = seen.0 in
    let within : c.in-Some.shelf < length c.deref.result.now = grind (arith, nat_tests, test) in
    runs_of {D = g.row.D.Denot} {N = g.row.N.Denot} g.D.Disk.view g.D.Disk.tells g.N.Nonces.nonce c.args.self.now c.args.pass.now c.args.ticket.now c.in-Some.shelf c.in-Some-get.library.now c.requires.own c.requires.held on
    (read_at c.deref.result.now c.args.self.now.libraries.items c.in-Some.shelf c.in-Some-get.library.now c.deref.ensures.value within seen.1)

pub returns : goal.returns
returns g c =
    let on = found_at {D = g.row.D.Denot} {N = g.row.N.Denot} c.args.self.now c.args.pass.now (target_of c.args.ticket.now.target) c.in-Some.shelf c.caller.result c.place_for.result c.requires.own c.caller.ensures c.place_for.ensures c.in-Some.is in
    let seen = c.in-Some-get.ensures.lookup in
    let test = seen.0 in
    let within : c.in-Some.shelf < length c.deref.result.now = grind (arith, nat_tests, test) in
    run_at {D = g.row.D.Denot} {N = g.row.N.Denot} c.args.self.now c.args.pass.now c.args.ticket.now c.segment_of.result c.in-Some.shelf c.in-Some-get.library.now c.requires.own on
    (read_at c.deref.result.now c.args.self.now.libraries.items c.in-Some.shelf c.in-Some-get.library.now c.deref.ensures.value within seen.1) c.segment_of.ensures
