use Rattle.std.proofs.Common.{◌≡◌, ◌∙◌, ap, sym, subst, refl, Option, Some, slice_get, IfOk}
use Rattle.std.proofs.lemmas.Option.{same_Some}
use Rattle.script_nodes.specs.Arena.{Arena}
use Rattle.script_nodes.specs.Setup.{Named}
use Rattle.script_nodes.specs.Views.{library_of, named_of}
use Rattle.machine_states.specs.Machine.{Suspended}
use Rattle.machine_states.specs.Views.{origin_of}
use Rattle.book_recovery.specs.InstanceBook.Places.{arena_of}
use Rattle.book_recovery.specs.InstanceBook.Fits.{FitsScript}
use Rattle.script_nodes.proofs.Scripts.{arena_again}
use Rattle.shelf.specs.Runs.{IsRunFrom}
use Rattle.shelf.proofs.Replayed.{fits_from, run_alike, run_as, if_ok, for_all}
use Rattle.shelf.proofs.run.run_ticket.Goals as goal

pub run_from-requires-clause-fits : goal.run_from-requires-clause-fits
run_from-requires-clause-fits c =
    let rust = c.in-Some.named.now in
    let runs = c.requires.fits in
    let mine : named_of rust ≡ runs.named = same_Some (named_of rust) runs.named (c.in-Some.ensures ∙ runs.script) in
    let arena : rust.script ≡ arena_of runs.named.script = arena_again rust.script c.root-root.ensures.script ∙ ap (λ (n : Named). arena_of n.script) mine in
    fits_from rust.script c.in_ok-from.from
    (subst (λ (a : Arena). FitsScript a (origin_of c.in_ok-from.from)) (sym arena)
    (subst (λ (o : Option Suspended). FitsScript (arena_of runs.named.script) o) (sym c.in_ok-from.ensures) runs.from))

-- whatever the ticket is for
runs : (c : goal.After-run_from) → let rust = c.in-Some.named.now in (named : Named) → slice_get (library_of c.args.library.now).all c.args.ticket.now.script ≡ Some named
    → IfOk c.run_from.result (IsRunFrom (arena_of named.script) c.args.fuel c.args.ticket.now c.args.cells.now)
runs c named found =
    let rust = c.in-Some.named.now in
    let mine : named_of rust ≡ named = same_Some (named_of rust) named (c.in-Some.ensures ∙ found) in
    let arena : rust.script ≡ arena_of named.script = arena_again rust.script c.root-root.ensures.script ∙ ap (λ (n : Named). arena_of n.script) mine in
    run_alike c.args.ticket.now c.in_ok-from.from rust.script (arena_of named.script) c.args.fuel c.args.cells.now c.run_from.result c.in_ok-from.ensures arena c.run_from.ensures.replays
    c.run_from.ensures.consistent c.run_from.ensures.kept

pub returns-clause-run : goal.returns-clause-run
returns-clause-run c =
    let all = (library_of c.args.library.now).all in
    for_all (λ (named : Named). slice_get all c.args.ticket.now.script ≡ Some named) (λ named. IsRunFrom (arena_of named.script) c.args.fuel c.args.ticket.now c.args.cells.now)
    c.run_from.result (runs c)

pub returns-clause-visit : goal.returns-clause-visit
returns-clause-visit c =
    let all = (library_of c.args.library.now).all in
    let rust = c.in-Some.named.now in
    if_ok c.run_from.result (returns-clause-run c) (λ r is.
    run_as all c.args.ticket.now rust.script c.root-root.ensures.script (named_of rust) refl (sym c.in-Some.ensures) c.effects_are_on_cells.ensures c.root-root.ensures.cells c.args.fuel c.args.cells.now r is)
