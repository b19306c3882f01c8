use Rattle.std.proofs.Common.{◌≡◌, ◌∙◌, ap, sym, subst, Bool, false, List, ℕ, Option, Some, None, ◌==◌, ◌&&◌}
use Rattle.std.specs.Str.{bytes_eq}
use Rattle.std.proofs.lemmas.Option.{same_Some, none-some, get_or_from_slice_get}
use Rattle.script_nodes.specs.Setup.{Named}
use Rattle.script_nodes.specs.Views.{library_of, named_of}
use Rattle.page_names.specs.Views.{name_of}
use Rattle.page_names.specs.declared.names.PageName.{PageName}
use Rattle.replay_spec.specs.Book.{Book, Instance, Page, instance_at, page_at}
use Rattle.replay_spec.specs.Admission.{◌>>=◌, when, Place, place_at}
use Rattle.replay_spec.specs.Recovery.{page_of_numbers}
use Rattle.instance_book.specs.Views.{script_in, no_script}
use Rattle.instance_book.specs.Standing.{book_under, place_of}
use Rattle.book_visits.proofs.admission.place_at.Goals as goal

-- whether the page of a place has this name
abbrev is_so : Book → List ℕ → PageName → Place → Bool
is_so b name n at = n.shelf == b.shelf && bytes_eq at.instance.script.name name && at.page.nonce == n.nonce

abbrev at_of : Instance → Page → Place
at_of i p = record { instance = i; page = p }

-- what stands under the numbers and has another name is not found under the name
module _ (b : Book) (name : List ℕ) (n : PageName) (at : Place) (other : is_so b name n at ≡ false) where
  by_page : (i : Instance) (o : Option Page) → Some at ≡ (o >>= λ p. Some (at_of i p))
      → None ≡ (o >>= λ p. when (is_so b name n (at_of i p)) (at_of i p))
  by_page i None e = absurd (none-some at (sym e))
  by_page i (Some p) e =
      let here : at ≡ at_of i p = same_Some at (at_of i p) e in
      sym (ap (λ (t : Bool). when t (at_of i p)) (subst (λ (x : Place). is_so b name n x ≡ false) here other))

  by_instance : (o : Option Instance) → Some at ≡ (o >>= λ i. page_at n.page i.pages >>= λ p. Some (at_of i p))
      → None ≡ (o >>= λ i. page_at n.page i.pages >>= λ p. when (is_so b name n (at_of i p)) (at_of i p))
  by_instance None e = absurd (none-some at (sym e))
  by_instance (Some i) e = by_page i (page_at n.page i.pages) e

  not_so : Some at ≡ page_of_numbers b n.instance n.page → None ≡ place_at b name n
  not_so e = by_instance (instance_at n.instance b.instances) e

pub returns-then-is_named-clause-states : goal.returns-then-is_named-clause-states
returns-then-is_named-clause-states c = λ source all. c.in_ok-place.ensures.states source all

pub returns-else-is_named-clause-place : goal.returns-else-is_named-clause-place
returns-else-is_named-clause-place c =
    let library = library_of c.args.library.now in
    let place = c.in_ok-place.place in
    let at = place_of library.all place in
    let i = place.instance.now in
    let named = named_of place.script.now in
    let n = c.args.page.now in
    let name = name_of c.args.name.now in
    let its : script_in library.all i.item.script ≡ named = get_or_from_slice_get library.all i.item.script named no_script c.in_ok-place.ensures.placed in
    let other : is_so (book_under (library_of c.args.library.now) c.args.book.now) name n at ≡ false =
    ap (λ (s : Named). n.shelf == c.args.book.now.shelf && bytes_eq s.name name && place.page.now.item.nonce == n.nonce) its
    ∙ (ap (λ (k : ℕ). n.shelf == k && bytes_eq named.name name && place.page.now.item.nonce == n.nonce) (sym c.shelf.ensures) ∙ (sym c.is_named.ensures ∙ c.if-is_named.false)) in
    not_so (book_under (library_of c.args.library.now) c.args.book.now) name n at other c.in_ok-place.ensures.place
