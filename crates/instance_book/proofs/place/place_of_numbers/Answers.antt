use Rattle.std.proofs.Common.{◌≡◌, ℕ, sym, subst, List, Some}
use Rattle.std.proofs.lemmas.Option.{same_Some}
use Rattle.script_nodes.specs.Setup.{Named}
use Rattle.script_nodes.specs.Views.{library_of, named_of}
use Rattle.journal_records.specs.ReplaySpec.Book.{at_number}
use Rattle.journal_records.proofs.ReplaySpec.Numbered.{number_of}
use Rattle.journal_records.specs.ReplaySpec.Marks.{Mark, mark_at}
use Rattle.instance_book.specs.declared.numbered.Numbered.{Numbered}
use Rattle.instance_book.specs.declared.page.KeptPage.{KeptPage}
use Rattle.instance_book.specs.declared.instance.KeptInstance.{KeptInstance}
use Rattle.instance_book.specs.Views.{page_of, pages_of, mark_of, marks_of, script_in}
use Rattle.instance_book.specs.Places.{Source, source_in, kept_at, shown_of, shown_in, HasState, HaveStates, IsKept}
use Rattle.instance_book.specs.Makes.{shelf_from}
use Rattle.instance_book.proofs.States.{state_found}
use Rattle.instance_book.proofs.place.place_of_numbers.Goals as goal

pub script_of-requires : goal.script_of-requires
script_of-requires c = c.in_ok-instance.ensures.placed (library_of c.args.library.now).all c.requires

pub returns-clause-placed : goal.returns-clause-placed
returns-clause-placed c = sym c.in_ok-script.ensures.script

-- what is kept of the place's instance
at_place : (scripts : List Named) (shelf : Source ℕ) (named : Named) (i : Numbered KeptInstance) (p : Numbered KeptPage) (n : ℕ) → named ≡ script_in scripts i.item.script
    → Some (shown_of p) ≡ at_number (λ y. y.0.number) n (shown_in i.item.pages) → IsKept scripts shelf i
    → HaveStates named (source_in named shelf i.number) (pages_of i.item.pages) (shown_in i.item.pages)
    × HasState named (source_in named shelf i.number) (pages_of i.item.pages) (page_of p) (kept_at p)
at_place scripts shelf named i p n its shown kept =
    let s = script_in scripts i.item.script in
    let has = state_found s (source_in s shelf i.number) (pages_of i.item.pages) n (shown_in i.item.pages) (shown_of p) kept.states (sym shown) in (
      subst (λ (x : Named). HaveStates x (source_in x shelf i.number) (pages_of i.item.pages) (shown_in i.item.pages)) (sym its) kept.states,
      subst (λ (x : Named). HasState x (source_in x shelf i.number) (pages_of i.item.pages) (page_of p) (kept_at p)) (sym its) has,
    )

pub returns-clause-states : goal.returns-clause-states
returns-clause-states c source all =
    let scripts = (library_of c.args.library.now).all in
    let shelf = shelf_from source c.args.book.now.shelf in
    let i = c.in_ok-instance.instance.now in
    let named = named_of c.in_ok-script.script.now in
    let both = at_place scripts shelf named i c.in_ok-shown.shown.now c.args.page (same_Some named (script_in scripts i.item.script) c.in_ok-script.ensures.its) c.in_ok-shown.ensures.shown
    (c.in_ok-instance.ensures.states scripts shelf all) in
    record { pages = both.0; state = both.1 }

pub returns-clause-marked : goal.returns-clause-marked
returns-clause-marked c =
    let p = c.in_ok-shown.shown.now in
    let marks = marks_of c.in_ok-instance.instance.now.item.pages in
    let found : mark_at c.args.page marks ≡ Some (mark_of p) = sym c.in_ok-shown.ensures.marked in
    let number : p.number ≡ c.args.page = number_of (λ (m : Mark). m.number) c.args.page marks (mark_of p) found in
    subst (λ (n : ℕ). mark_at n marks ≡ Some (mark_of p)) (sym number) found
