-- What is found at one record.
use Rattle.std.proofs.Common.{◌≡◌, ◌∙◌, ap, sym, subst, ℕ, Bool, true, false, List, Option, Some, None, Result, Ok, Err, IfOk, refl, inl, inr, length}
use Rattle.std.specs.declared.alloc.AllocError.{AllocError}
use Rattle.script_nodes.specs.Setup.{Library}
use Rattle.script_nodes.specs.declared.library.Library.{Library as Kept}
use Rattle.script_nodes.specs.Views.{library_of}
use Rattle.book_recovery.specs.InstanceBook.declared.in_order.InOrder.{InOrder}
use Rattle.book_recovery.specs.InstanceBook.declared.book.Book.{Book}
use Rattle.book_recovery.specs.InstanceBook.Standing.{book_under}
use Rattle.book_recovery.specs.InstanceBook.Views.{no_journal}
use Rattle.journal_records.specs.Records.{Record}
use Rattle.journal_records.specs.Old.{read_record_in}
use Rattle.setup_reader.specs.Texts.{setup_of_texts}
use Rattle.book_recovery.specs.JournalSpec.Before.{Made}
use Rattle.book_recovery.specs.JournalSpec.Making.{Making, nothing, waits, waited, waiting, begun, made, damaged, other, fed_by, made_in}
use Rattle.book_recovery.specs.JournalSpec.Old.{with_body_at}
use Rattle.book_recovery.specs.JournalSpec.Owning.{IsOwnRecordIn}
use Rattle.record_audit.specs.AuditSpec.declared.word.Word.{Word}
use Rattle.record_audit.specs.AuditSpec.Findings.{fault_of, found_at, found_in, first_found}
use Rattle.record_audit.proofs.AuditSpec.Passing.{own_of_none}
use Rattle.record_audit.proofs.AuditSpec.Held.{IsHeld, fed_clear}
use Rattle.record_audit.specs.Faults.{IsMadeOf, IsFaultIn}
use Rattle.book_recovery.specs.declared.found.Found.{Found}
use Rattle.book_recovery.specs.declared.found.Found.TheVariants as found
use Rattle.book_recovery.specs.Found.{beside_file}
use Rattle.book_recovery.specs.Reading.{IsKept, Gives, IsBefore, making_of}
use Rattle.page_audit.specs.declared.auditor.Finding.{Finding}
use Rattle.page_audit.specs.declared.auditor.Finding.TheVariants as finding
use Rattle.page_audit.specs.Auditing.{IsFaultOf, IsWordFor, IsOwnUnless, FindsNext, found_by, IsUndamaged}

-- ---- a record with no word is an own one

own_record : (format : ℕ) (library : Library) (seen : InOrder (Unit {0})) (b : Book) (m : Made) → IsMadeOf library seen b m → (r : Option Record)
    → ((q : Record) → r ≡ Some q → IsFaultIn format library seen b q None) → IsOwnRecordIn format m r
own_record format library seen b m is None none = tt
own_record format library seen b m is (Some r) none = own_of_none format m (Some r) (sym (none r refl m is))

word_in : (format : ℕ) (seen : InOrder (Unit {0})) (b : Book) (library : Kept) (r : Option Record) (word : Option Word) → IsFaultOf format seen (found.Made b library) r word
    → (q : Record) → r ≡ Some q → IsFaultIn format (library_of library) seen b q word
word_in format seen b library None word h q e = absurd (let no : ⊥ = cc in no)
word_in format seen b library (Some r) word h q e =
    let same : r ≡ q = cc in subst (λ (p : Record). IsFaultIn format (library_of library) seen b p word) same h

pub owns_unless : (format shelf : ℕ) (alone : Bool) (seen : InOrder (Unit {0})) (f : Found) (body : List ℕ) (word : Option Word)
    → IsKept shelf alone seen f → IsWordFor format seen f body word → IsOwnUnless format seen f body word
owns_unless format shelf alone seen f body (Some word) kept h = tt
owns_unless format shelf alone seen found.Nothing body None kept h = tt
owns_unless format shelf alone seen (found.Made b library) body None kept h =
    let l = library_of library in
    let earlier = kept.tells.0 in
    let tells = kept.tells.1 in
    let m : Made = record { book = book_under l b; earlier = earlier } in
    let is : IsMadeOf l seen b m = record { beside = no_journal; book = refl; numbers = tells.numbers; states = tells.states } in
    (earlier, (tells, own_record format l seen b m is (read_record_in format body) (word_in format seen b library (read_record_in format body) None h)))
owns_unless format shelf alone seen (found.Damaged place) body None kept h = tt
owns_unless format shelf alone seen (found.Other place) body None kept h = tt
owns_unless format shelf alone seen found.Memory body None kept h = tt

pub owns_if : (format shelf : ℕ) (alone : Bool) (seen : InOrder (Unit {0})) (f : Found) (body : List ℕ) (x : Result (Option Word) AllocError)
    → IsKept shelf alone seen f → IfOk x (IsWordFor format seen f body) → IfOk x (IsOwnUnless format seen f body)
owns_if format shelf alone seen f body (Ok word) kept h = owns_unless format shelf alone seen f body word kept h
owns_if format shelf alone seen f body (Err e) kept h = tt

-- the word for the record that was read is that for its body
pub word_if : (format : ℕ) (seen : InOrder (Unit {0})) (f : Found) (b : Book) (library : Kept) (body : List ℕ) (r : Record) (x : Result (Option Word) AllocError)
    → f ≡ found.Made b library → read_record_in format body ≡ Some r → IfOk x (IsFaultIn format (library_of library) seen b r) → IfOk x (IsWordFor format seen f body)
word_if format seen f b library body r (Ok word) is read h =
    subst (λ (g : Found). IsWordFor format seen g body word) (sym is)
    (subst (λ (o : Option Record). IsFaultOf format seen (found.Made b library) o word) (sym read) h)
word_if format seen f b library body r (Err e) is read h = tt

-- ---- the word is that of the definitions

made_is : (alone : Bool) (w : Made) → made_in (making_of alone w) ≡ Some w
made_is true w = refl
made_is false w = refl

word_is : (format : ℕ) (seen : InOrder (Unit {0})) (b : Book) (library : Kept) (m : Made) → IsMadeOf (library_of library) seen b m → (r : Option Record) (word : Option Word)
    → IsFaultOf format seen (found.Made b library) r word → word ≡ fault_of format m r
word_is format seen b library m is None word h = h
word_is format seen b library m is (Some r) word h = h m is

-- ---- before the record of a setup

undamaged : (x : Making) → IsUndamaged x → IsHeld x
undamaged nothing h = tt
undamaged (waits s) h = tt
undamaged waited h = tt
undamaged (begun m) h = tt
undamaged (made m) h = tt
undamaged (damaged p) h = h
undamaged (other p) h = h

pub undamaged_before : (format shelf place : ℕ) (body : List ℕ) (m : Making) → IsUndamaged (with_body_at format setup_of_texts shelf place body m) → IsUndamaged m
undamaged_before format shelf place body nothing h = tt
undamaged_before format shelf place body (waits s) h = tt
undamaged_before format shelf place body waited h = tt
undamaged_before format shelf place body (begun m) h = tt
undamaged_before format shelf place body (made m) h = tt
undamaged_before format shelf place body (damaged p) h = h
undamaged_before format shelf place body (other p) h = h

-- before the record of a setup nothing is found, unless the records are damaged
found_before : (format place shelf n : ℕ) (body : List ℕ) (fed : Bool) (m : Making) → IsBefore fed shelf n m → IsUndamaged (with_body_at format setup_of_texts shelf place body m)
    → None ≡ found_in format place body (made_in m)
found_before format place shelf n body true m (e, long) h =
    let clear : fault_of format (waiting shelf) (read_record_in format body) ≡ None =
    fed_clear format setup_of_texts shelf place (length body) (waiting shelf) (read_record_in format body)
    (undamaged (fed_by setup_of_texts shelf place (length body) (read_record_in format body)) (subst (λ (x : Making). IsUndamaged (with_body_at format setup_of_texts shelf place body x)) e h)) in
    sym (ap (λ (x : Making). found_in format place body (made_in x)) e ∙ ap (found_at place) clear)
found_before format place shelf n body false m (inl (e, long)) h = ap (λ (x : Making). found_in format place body (made_in x)) (sym e)
found_before format place shelf n body false m (inr (e, long)) h = ap (λ (x : Making). found_in format place body (made_in x)) (sym e)

-- it is found at the place of the gate
pub word_found : (format place shelf n : ℕ) (fed alone : Bool) (seen : InOrder (Unit {0})) (f : Found) (body : List ℕ) (word : Option Word) (m : Making)
    → (f ≡ found.Memory → ⊥) → IsWordFor format seen f body word → Gives shelf n fed alone f seen m → IsUndamaged (with_body_at format setup_of_texts shelf place body m)
    → found_at place word ≡ found_in format place body (made_in m)
word_found format place shelf n fed alone seen found.Nothing body word m memory h is whole =
    ap (found_at place) h ∙ found_before format place shelf n body fed m is.before whole
word_found format place shelf n fed alone seen (found.Made b library) body word m memory h is whole =
    let made : IsMadeOf (library_of library) seen b is.whole =
    record { beside = beside_file fed n is.whole.book.file; book = is.book; numbers = is.tells.numbers; states = is.tells.states } in
    ap (found_at place) (word_is format seen b library is.whole made (read_record_in format body) word h)
    ∙ ap (found_in format place body) (sym (ap made_in is.is ∙ made_is alone is.whole))
word_found format place shelf n fed alone seen (found.Damaged p) body word m memory h is whole =
    ap (found_at place) h ∙ ap (λ (x : Making). found_in format place body (made_in x)) (sym is)
word_found format place shelf n fed alone seen (found.Other p) body word m memory h is whole =
    ap (found_at place) h ∙ ap (λ (x : Making). found_in format place body (made_in x)) (sym is)
word_found format place shelf n fed alone seen found.Memory body word m memory h is whole = absurd (memory refl)

-- with what was found before
pub finds_next : (format place shelf n : ℕ) (fed alone : Bool) (seen : InOrder (Unit {0})) (f : Found) (body : List ℕ) (old new : Finding) (m : Making)
    → (f ≡ found.Memory → ⊥) → (new ≡ finding.Memory → ⊥) → FindsNext format place seen f body old new → Gives shelf n fed alone f seen m
    → IsUndamaged (with_body_at format setup_of_texts shelf place body m)
    → found_by new ≡ first_found (found_by old) (found_in format place body (made_in m))
finds_next format place shelf n fed alone seen f body finding.Nothing finding.Nothing m had knows h is whole =
    word_found format place shelf n fed alone seen f body None m had h is whole
finds_next format place shelf n fed alone seen f body finding.Nothing (finding.First p word) m had knows h is whole =
    ap (λ (k : ℕ). found_at k (Some word)) h.0 ∙ word_found format place shelf n fed alone seen f body (Some word) m had h.1 is whole
finds_next format place shelf n fed alone seen f body finding.Nothing finding.Memory m had knows h is whole = absurd (knows refl)
finds_next format place shelf n fed alone seen f body (finding.First p word) new m had knows h is whole = ap found_by h
finds_next format place shelf n fed alone seen f body finding.Memory new m had knows h is whole = absurd (knows h)

-- where there is memory after a record, there was before it
pub knows_before : (format place : ℕ) (seen : InOrder (Unit {0})) (f : Found) (body : List ℕ) (old new : Finding) → FindsNext format place seen f body old new
    → (new ≡ finding.Memory → ⊥) → old ≡ finding.Memory → ⊥
knows_before format place seen f body finding.Nothing new h knows e = let no : ⊥ = cc in no
knows_before format place seen f body (finding.First p word) new h knows e = let no : ⊥ = cc in no
knows_before format place seen f body finding.Memory new h knows e = knows h

-- where nothing is found after a record, nothing was before it
pub nothing_before : (format place : ℕ) (seen : InOrder (Unit {0})) (f : Found) (body : List ℕ) (old new : Finding) → FindsNext format place seen f body old new
    → new ≡ finding.Nothing → old ≡ finding.Nothing
nothing_before format place seen f body finding.Nothing new h e = refl
nothing_before format place seen f body (finding.First p word) new h e = sym h ∙ e
nothing_before format place seen f body finding.Memory new h e = sym h ∙ e
