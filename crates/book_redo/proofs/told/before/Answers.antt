use Rattle.std.proofs.Common.{◌∙◌, ap, sym, subst, ℕ, Some}
use Rattle.script_nodes.specs.Arena.{Arena}
use Rattle.machine_states.specs.Machine.{Suspended}
use Rattle.machine_states.specs.Views.{suspended_of}
use Rattle.frame_codec.specs.Stored.{IsStored}
use Rattle.instance_book.specs.KeptStates.Links.{behind_at}
use Rattle.instance_book.proofs.Behind.{arena_again}
use Rattle.book_redo.proofs.Redone.{behind_more}
use Rattle.book_redo.proofs.told.before.Goals as goal

pub returns-clause-before : goal.returns-clause-before
returns-clause-before c are =
    let links = c.next_links.result in
    behind_more links (Some (suspended_of c.in_ok-state.state)) c.if-next_links-eq0.false
    ∙ (ap (λ (d : Suspended). behind_at links (Some d)) (sym (c.in_ok-state.ensures.state are)) ∙ ap (λ (n : ℕ). behind_at n (Some are.own.state)) c.next_links.ensures)

pub returns-clause-stored : goal.returns-clause-stored
returns-clause-stored c =
    subst (λ (a : Arena). IsStored a (suspended_of c.in_ok-state.state)) (sym (arena_again c.args.place.now.script.now.script c.root-root.ensures.script)) c.in_ok-state.ensures.stored
