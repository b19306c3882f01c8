-- A book beside one journal and beside another: admission and the visits look at neither.
use Rattle.std.proofs.Common.{◌≡◌, ap, subst, refl, ℕ, List, [], Option, Result}
use Rattle.script_value.specs.declared.outcome.Reply.{Reply}
use Rattle.script_nodes.specs.Setup.{Library}
use Rattle.page_names.specs.Names.{Destination, start, page}
use Rattle.instance_cells.specs.Cells.{Effect}
use Rattle.replay_spec.specs.Eval as eval
use Rattle.replay_spec.specs.Book as spec
use Rattle.replay_spec.specs.Book.{Doubt}
use Rattle.replay_spec.specs.Rules.{Rules}
use Rattle.replay_spec.specs.Next as next
use Rattle.replay_spec.specs.Step.{Decision, settles, gone_for, decide}
use Rattle.replay_spec.specs.Admission.{Admission, begins, resumes, refused, admit}
use Rattle.replay_spec.specs.Invariant.{IsOrderly}
use Rattle.book_recovery.specs.InstanceBook.declared.book.Book.{Book}
use Rattle.book_visits.specs.declared.ticket.Ticket.{Ticket}
use Rattle.book_visits.specs.declared.prepared.Prepared.{Prepared}
use Rattle.book_recovery.specs.InstanceBook.Views.{Beside, book_of}
use Rattle.book_visits.specs.Views.{ticket_of}
use Rattle.book_recovery.specs.InstanceBook.Makes.{rules_with}
use Rattle.book_visits.specs.Prepares.{Prepares, settled}
use Rattle.book_visits.specs.Fits.{FitsAs}
use Rattle.shelf.specs.Views.{HoldIn, IsSegmentOf}

module _ (l : Library) (x y : Beside) (b : Book) where
  pub admit_same : (d : Destination) → admit (book_of l x b) d ≡ admit (book_of l y b) d
  admit_same (start name) = refl
  admit_same (page name n) = refl

  fits_same : (t : Ticket) (a : Admission) → FitsAs l.all (book_of l x b) t a → FitsAs l.all (book_of l y b) t a
  fits_same t (begins k s) fits = record { run = fits.run; start = fits.start; present = fits.present; cells = fits.cells }
  fits_same t (resumes at) fits = fits
  fits_same t (refused r) fits = tt

  pub fits_at : (t : Ticket) (d : Destination) → FitsAs l.all (book_of l x b) t (admit (book_of l x b) d) → FitsAs l.all (book_of l y b) t (admit (book_of l y b) d)
  fits_at t d fits = subst (FitsAs l.all (book_of l y b) t) (admit_same d) (fits_same t (admit (book_of l x b) d) fits)

  pub holds_at : (d : Destination) (effects : List Effect) → HoldIn (book_of l x b) d effects → HoldIn (book_of l y b) d effects
  holds_at (start name) effects h = h
  holds_at (page name n) effects h = h

  segment_same : (fuel : ℕ) (t : Ticket) (a : Admission) (s : eval.Segment) → IsSegmentOf fuel (book_of l x b) t a s → IsSegmentOf fuel (book_of l y b) t a s
  segment_same fuel t (begins k named) s h = h
  segment_same fuel t (resumes at) s h = h
  segment_same fuel t (refused r) s h = tt

  pub segment_at : (fuel : ℕ) (t : Ticket) (d : Destination) (s : eval.Segment) → IsSegmentOf fuel (book_of l x b) t (admit (book_of l x b) d) s
      → IsSegmentOf fuel (book_of l y b) t (admit (book_of l y b) d) s
  segment_at fuel t d s h = subst (λ (a : Admission). IsSegmentOf fuel (book_of l y b) t a s) (admit_same d) (segment_same fuel t (admit (book_of l x b) d) s h)

-- of a book on which nothing is in doubt
pub orderly_at : (l : Library) (x y : Beside) (b : Book) → x.down ≡ y.down → IsOrderly (book_of l x b) → IsOrderly (book_of l y b)
orderly_at l x y b same g =
    let moved : IsOrderly (record (book_of l y b) { down = x.down }) =
    record { below = g.below; different = g.different; doubted = g.doubted; logged = g.logged; instances = g.instances; doubt = g.doubt } in
    subst (λ (o : Option Doubt). IsOrderly (record (book_of l y b) { down = o })) same moved

-- what a visit comes to by its segment over the cells of now
module _ (library : Library) (fuel life instances pages : ℕ) where
  abbrev rules : Rules
  rules = rules_with fuel life instances pages

  decided_by : (b : spec.Book) (t : Ticket) (a : Admission) (s : eval.Segment) → IsSegmentOf fuel b t a s → settled rules b t a s ≡ decide rules b (ticket_of t) a
  decided_by b t (begins k x) s h = ap (settles rules b [] (next.start_visit b (ticket_of t) k x)) h
  decided_by b t (resumes at) s h = ap (settles rules b (gone_for rules (ticket_of t) at) (next.page_visit b (ticket_of t) at)) h
  decided_by b t (refused r) s h = refl

  pub prepares_by : (b : spec.Book) (t : Ticket) (a : Admission) (s : eval.Segment) (result : Result Prepared Reply) → IsSegmentOf fuel b t a s
      → Prepares library rules b (settled rules b t a s) result → Prepares library rules b (decide rules b (ticket_of t) a) result
  prepares_by b t a s result h is = subst (λ (d : Decision). Prepares library rules b d result) (decided_by b t a s h) is
