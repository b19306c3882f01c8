-- What is prepared, by the kind of target.
use Rattle.std.proofs.Common.{◌≡◌, ℕ, List, None, Result}
use Rattle.script_value.specs.declared.outcome.Reply.{Reply}
use Rattle.script_nodes.specs.Setup.{Library}
use Rattle.page_names.specs.Names.{start, page}
use Rattle.page_names.specs.declared.names.PageName.{PageName}
use Rattle.replay_spec.specs.Book.{Page, Book}
use Rattle.replay_spec.specs.Admission.{Admission, begins, resumes, refused, refusal_of, admit}
use Rattle.replay_spec.specs.Eval.{Segment}
use Rattle.replay_spec.proofs.Admitted.{page_stands, start_is_no_page, page_is_no_start}
use Rattle.replay_spec.proofs.Numbered.{number_of}
use Rattle.book_visits.specs.declared.prepared.Prepared.{Prepared}
use Rattle.book_visits.specs.declared.ticket.Ticket.{Ticket}
use Rattle.instance_book.specs.declared.book.Book as RustBook
use Rattle.instance_book.specs.Views.{Beside, book_of}
use Rattle.book_visits.specs.Fits.{FitsAs}
use Rattle.instance_book.specs.Makes.{rules_with}
use Rattle.book_visits.specs.Prepares.{Prepares, settled, StartsOn, AnswersOn}

module _ (library : Library) (beside : Beside) (fuel life instances pages : ℕ) (book : RustBook.Book) (t : Ticket) (s : Segment) (result : Result Prepared Reply) where
  abbrev b : Book
  b = book_of library beside book

  pub start_prepared : (name : List ℕ) (a : Admission) → admit b (start name) ≡ a → refusal_of a ≡ None → FitsAs library.all b t a → StartsOn book t s instances life result
      → let rules = rules_with fuel life instances pages in Prepares library rules b (settled rules b t a s) result
  start_prepared name (begins k x) adm admitted fits on = on library beside fuel pages k x fits
  start_prepared name (resumes at) adm admitted fits on = absurd (start_is_no_page b name at adm)
  start_prepared name (refused r) adm admitted fits on = absurd (cc)

  pub page_prepared : (name : List ℕ) (n : PageName) (a : Admission) → admit b (page name n) ≡ a → refusal_of a ≡ None → FitsAs library.all b t a → AnswersOn book t n s pages life result
      → let rules = rules_with fuel life instances pages in Prepares library rules b (settled rules b t a s) result
  page_prepared name n (begins k x) adm admitted fits on = absurd (page_is_no_start b name n k x adm)
  page_prepared name n (resumes at) adm admitted fits on =
      let stands = page_stands b name n at adm in
      on library beside fuel instances at stands.here (number_of (λ (p : Page). p.number) n.page at.instance.pages at.page stands.shown) fits
  page_prepared name n (refused r) adm admitted fits on = absurd (cc)
