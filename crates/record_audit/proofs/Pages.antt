-- Records of pages, and of what shows none.
use Rattle.std.proofs.Common.{◌≡◌, ℕ, ◌==◌, Bool, true, false, Some, None, refl, if◌then◌else◌}
use Rattle.std.specs.Prelude.{⊤}
use Rattle.replay_spec.specs.Book as spec
use Rattle.replay_spec.specs.Book.{Change, opens, extends, ends, finishes, sweeps}
use Rattle.replay_spec.specs.Recovery.{number_in}
use Rattle.journal_records.specs.Fields as fields
use Rattle.journal_records.specs.Views.{origin_of, change_with, page_change}
use Rattle.journal_records.specs.declared.records.PageRecord.{PageRecord}
use Rattle.book_redo.specs.JournalSpec.Before.{Made}
use Rattle.book_redo.specs.JournalSpec.Retaking.{unread}
use Rattle.book_redo.proofs.Over.{page_number}
use Rattle.audit_spec.specs.Tests.{goes_on, is_due, is_in_time, tells_state, tells_own}

-- a change that shows a page
abbrev pub IsPage : Change → Type 0
IsPage (opens o) = ⊤
IsPage (extends x) = ⊤
IsPage _ = ⊥

module _ (r : PageRecord) where
  page_from : (o : fields.Origin) → IsPage (change_with o r)
  page_from (fields.start s) = tt
  page_from (fields.answered i p v) = tt

  goes_from : (b : spec.Book) (o : fields.Origin) → goes_on b (change_with o r) ≡ true
  goes_from b (fields.start s) = refl
  goes_from b (fields.answered i p v) = refl

  time_from : (b : spec.Book) (o : fields.Origin) → is_in_time b (change_with o r) ≡ is_due b.clock r.deadline
  time_from b (fields.start s) = refl
  time_from b (fields.answered i p v) = refl

pub is_page : (r : PageRecord) → IsPage (page_change r)
is_page r = page_from r (origin_of r.origin)

pub page_goes : (b : spec.Book) (r : PageRecord) → goes_on b (page_change r) ≡ true
page_goes b r = goes_from r b (origin_of r.origin)

pub page_time : (b : spec.Book) (r : PageRecord) → is_in_time b (page_change r) ≡ is_due b.clock r.deadline
page_time b r = time_from r b (origin_of r.origin)

pub its_number : (r : PageRecord) → number_in (page_change r) ≡ Some r.ticket
its_number r = page_number r (origin_of r.origin) refl

-- what shows no page tells no state
abbrev pub ShowsNone : Change → Type 0
ShowsNone (opens o) = ⊥
ShowsNone (extends x) = ⊥
ShowsNone _ = ⊤

nothing_told : (first second : Bool) → (if first then true else tells_state (if second then unread else unread) None) ≡ true
nothing_told true second = refl
nothing_told false true = refl
nothing_told false false = refl

pub no_state : (format : ℕ) (m : Made) (c : Change) → ShowsNone c → tells_own format m c None ≡ true
no_state format m (opens o) h = absurd h
no_state format m (extends x) h = absurd h
no_state format m (ends e) h = nothing_told (format == 1) (format == 2)
no_state format m (finishes f) h = nothing_told (format == 1) (format == 2)
no_state format m (sweeps tick) h = nothing_told (format == 1) (format == 2)
