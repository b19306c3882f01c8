use Rattle.std.proofs.Common.{◌≡◌, ◌∙◌, ap, sym, subst, Some, ℕ}
use Rattle.std.proofs.lemmas.Option.{get_or_from_slice_get}
use Rattle.script_nodes.specs.Setup.{Named}
use Rattle.script_nodes.specs.Views.{library_of, named_of}
use Rattle.replay_spec.specs.Next as next
use Rattle.instance_book.specs.Views.{page_of, pages_of, script_in, no_script}
use Rattle.instance_book.specs.Places.{own, given, IsGiven, kept_at}
use Rattle.instance_book.specs.Standing.{book_under, place_of}
use Rattle.instance_book.proofs.Going.{origin_goes_on}
use Rattle.instance_book.proofs.States.{links_next}
use Rattle.book_visits.proofs.take.page_ticket.Goals as goal

pub origin_at-requires : goal.origin_at-requires
origin_at-requires c =
    let kept = c.requires.kept in
    record { home = given kept.0; all = kept.1.pages; own = kept.1.state }

pub returns-clause-fits : goal.returns-clause-fits
returns-clause-fits c kept =
    let scripts = (library_of c.args.library.now).all in
    let place = c.args.place in
    let i = place.instance.now in
    let named = named_of place.script.now in
    let its : script_in scripts i.item.script ≡ named = get_or_from_slice_get scripts i.item.script named no_script c.requires.placed in
    let at = place_of scripts place in
    record {
      script = c.requires.placed ∙ ap Some (sym its);
      url = c.in_ok-url.ensures
          ∙ (ap (λ (k : ℕ). next.url_of (next.home named k i.number) c.args.number c.args.nonce) c.shelf.ensures
          ∙ ap (λ (s : Named). next.url_of (next.home s c.args.book.now.shelf i.number) c.args.number c.args.nonce) (sym its));
      from = origin_goes_on (book_under (library_of c.args.library.now) c.args.book.now) _ at named _ (kept_at place.page.now) its kept.state
          (c.in_ok-origin_at.ensures.origin (record { home = own (next.home named c.args.book.now.shelf i.number); all = kept.pages; own = kept.state }));
      links = c.next_links.ensures
          ∙ links_next named (own (next.home named c.args.book.now.shelf i.number)) (pages_of i.item.pages) (page_of place.page.now) (kept_at place.page.now) kept.state;
    }

pub returns-clause-told : goal.returns-clause-told
returns-clause-told c states kept =
    let scripts = (library_of c.args.library.now).all in
    let place = c.args.place in
    let i = place.instance.now in
    let named = named_of place.script.now in
    let its : script_in scripts i.item.script ≡ named = get_or_from_slice_get scripts i.item.script named no_script c.requires.placed in
    record {
      before = kept.state.state;
      from = c.in_ok-origin_at.ensures.origin (record { home = given states; all = kept.pages; own = kept.state });
      state = subst (λ (s : Named). IsGiven s states place.page.now.number kept.state.state) (sym its) kept.state.its;
      links = c.next_links.ensures ∙ links_next named (given states) (pages_of i.item.pages) (page_of place.page.now) (kept_at place.page.now) kept.state;
    }

pub returns-clause-runs : goal.returns-clause-runs
returns-clause-runs c = record { named = named_of c.args.place.script.now; script = c.requires.placed; from = c.in_ok-origin_at.ensures.fits; stored = c.in_ok-origin_at.ensures.stored }
