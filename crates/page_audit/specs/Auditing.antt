-- What an auditor makes of the records of a journal, one by one.
use Rattle.std.specs.Prelude.{◌≡◌, ◌<◌, ◌≤◌, ℕ, ◌+◌, false, List, [], ◌∷◌, length, Option, Some, None, Result, ⊤}
use Rattle.script_nodes.specs.Views.{library_of}
use Rattle.book_recovery.specs.InstanceBook.declared.in_order.InOrder.{InOrder}
use Rattle.journal_records.specs.Records.{Record, begins}
use Rattle.journal_records.specs.Old.{read_record_in}
use Rattle.setup_reader.specs.Texts.{setup_of_texts}
use Rattle.book_recovery.specs.JournalSpec.Making.{Making, nothing, waits, waited, begun, made, damaged, other, made_in}
use Rattle.book_recovery.specs.JournalSpec.Old.{with_body_at}
use Rattle.record_audit.specs.AuditSpec.declared.word.Word.{Word}
use Rattle.record_audit.specs.AuditSpec.Findings as spec
use Rattle.record_audit.specs.AuditSpec.Findings.{shelf_in, found_in, first_found, answer_over}
use Rattle.record_audit.specs.Faults.{IsFaultIn}
use Rattle.book_recovery.specs.declared.found.Found.{Found}
use Rattle.book_recovery.specs.declared.found.Found.TheVariants as found
use Rattle.book_recovery.specs.Found.{HasStates}
use Rattle.book_recovery.specs.declared.reader.Reader.{Reader}
use Rattle.book_recovery.specs.Reading.{seen_by, with_shelf, Gives, HasFew, IsOwnFor}
use Rattle.page_audit.specs.declared.answer.Audited.{Audited}
use Rattle.page_audit.specs.declared.answer.AuditFault.{AuditFault}
use Rattle.page_audit.specs.declared.auditor.Auditor.{Auditor}
use Rattle.page_audit.specs.declared.auditor.Finding.{Finding}
use Rattle.page_audit.specs.declared.auditor.Finding.TheVariants as finding
use Rattle.page_audit.specs.Audits.{IsAnswer}

-- ---- one record

-- the word for a record of this format after those that made this; none where there is no record, or where they made no book
abbrev pub IsFaultOf : (format : ℕ) → InOrder (Unit {0}) → Found → Option Record → Option Word → Type 0
IsFaultOf format seen (found.Made b library) (Some r) word = IsFaultIn format (library_of library) seen b r word
IsFaultOf format seen _ _ word = word ≡ None

-- the word for the record of this body, after those that made this; none where it is no record, or where they made no book
abbrev pub IsWordFor : (format : ℕ) → InOrder (Unit {0}) → Found → (body : List ℕ) → Option Word → Type 0
IsWordFor format seen f body word = IsFaultOf format seen f (read_record_in format body) word

-- where the record of this body has no word, the state that it tells is that of its page's chain
abbrev pub IsOwnUnless : (format : ℕ) → InOrder (Unit {0}) → Found → (body : List ℕ) → Option Word → Type 0
IsOwnUnless format seen f body None = IsOwnFor format seen f body
IsOwnUnless format seen f body (Some word) = ⊤

-- What is found with one record more, whose gate is at this place: the first finding stays, and without memory nothing is told.
abbrev pub FindsNext : (format place : ℕ) → InOrder (Unit {0}) → Found → (body : List ℕ) → (old new : Finding) → Type 0
FindsNext format place seen f body finding.Nothing finding.Nothing = IsWordFor format seen f body None
FindsNext format place seen f body finding.Nothing (finding.First p word) = (p ≡ place) × IsWordFor format seen f body (Some word)
FindsNext format place seen f body finding.Nothing finding.Memory = ⊤
FindsNext format place seen f body old new = new ≡ old

-- An auditor looks at one record more, which its reader has not yet read. Where nothing is found, its state is that of its page's chain.
pub record Looks (old : Auditor) (place : ℕ) (body : List ℕ) (new : Auditor) : Type 0 where
  pub format : new.format ≡ old.format
  pub reader : new.reader ≡ old.reader
  pub records : new.records ≡ old.records
  pub owns : new.finding ≡ finding.Nothing → IsOwnFor old.format old.reader.seen old.reader.found body
  pub finds : FindsNext old.format place old.reader.seen old.reader.found body old.finding new.finding

-- the number of the shelf that a record names, if it names one
abbrev pub shelf_named : Option Record → Option ℕ
shelf_named (Some (begins shelf named)) = Some shelf
shelf_named _ = None

-- a reader for the shelf of this number, if there is one
abbrev pub named_by : Option ℕ → Reader → Reader
named_by (Some shelf) r = with_shelf shelf r
named_by None r = r

-- The reader that reads a record, where this was found before. While no record of a setup was read, it is for the shelf that the record names.
abbrev pub reader_for : Option Record → Found → Reader → Reader
reader_for told found.Nothing r = named_by (shelf_named told) r
reader_for told _ r = r

-- An auditor's reader is for the shelf that a record names, where it is the first that names one. Without memory to read the record nothing is
-- told.
pub record Begins (old : Auditor) (body : List ℕ) (new : Auditor) : Type 0 where
  pub format : new.format ≡ old.format
  pub records : new.records ≡ old.records
  pub same : (shelf : ℕ) × (new.reader ≡ with_shelf shelf old.reader)
  pub reader : (new.finding ≡ finding.Memory → ⊥)
      → new.reader ≡ reader_for (read_record_in old.format body) old.reader.found old.reader
  pub finding : (new.finding ≡ finding.Memory → ⊥) → new.finding ≡ old.finding

-- ---- all records so far

-- there was memory for what an auditor did
pub record HadMemory (a : Auditor) : Type 0 where
  pub finding : a.finding ≡ finding.Memory → ⊥
  pub found : a.reader.found ≡ found.Memory → ⊥

-- what an auditor has found so far; without memory nothing is told
abbrev pub found_by : Finding → Option spec.Finding
found_by finding.Nothing = None
found_by (finding.First place word) = Some (record { place = place; word = word })
found_by finding.Memory = None

-- The shelf whose book the records make: the one that these bodies after them name, while no record of a setup was read; then that of the
-- reader.
abbrev pub IsShelfOf : Making → (format : ℕ) → (behind : List (List ℕ)) → (reads shelf : ℕ) → Type 0
IsShelfOf nothing format behind reads shelf = shelf ≡ shelf_in format behind
IsShelfOf waited format behind reads shelf = shelf ≡ shelf_in format behind
IsShelfOf (waits s) format behind reads shelf = shelf ≡ shelf_in format behind
IsShelfOf (begun m) format behind reads shelf = reads ≡ shelf
IsShelfOf (made m) format behind reads shelf = reads ≡ shelf
IsShelfOf (damaged place) format behind reads shelf = ⊤
IsShelfOf (other place) format behind reads shelf = ⊤

-- the records are not damaged
abbrev pub IsUndamaged : Making → Type 0
IsUndamaged (damaged place) = ⊥
IsUndamaged (other place) = ⊥
IsUndamaged _ = ⊤

-- An auditor has what the records before the gate at this place make of the shelf, where these bodies stand after them; and what was found in
-- them, unless they are damaged.
pub record IsUpTo (a : Auditor) (shelf place : ℕ) (behind : List (List ℕ)) (m : Making) (f : Option spec.Finding) : Type 0 where
  pub shelf_is : IsShelfOf m a.format behind a.reader.shelf shelf
  pub gives : Gives shelf (place + 1) a.reader.follows a.reader.alone a.reader.found a.reader.seen m
  pub finds : IsUndamaged m → found_by a.finding ≡ f

-- where there was memory for what an auditor did, it has what the records before the gate at this place make, and what was found in them
abbrev pub HasAudited : Auditor → (shelf place : ℕ) → (behind : List (List ℕ)) → Making → Option spec.Finding → Type 0
HasAudited a shelf place behind m f = HadMemory a → IsUpTo a shelf place behind m f

-- An auditor goes on by one record: where it had what those before it make of a shelf, and what was found in them, so it has with this one.
pub record IsAudited (old : Auditor) (place : ℕ) (body : List ℕ) (new : Auditor) : Type 0 where
  pub format : new.format ≡ old.format
  pub records : new.records ≡ old.records + 1
  pub goes : (shelf : ℕ) (behind : List (List ℕ)) (m : Making) (f : Option spec.Finding)
      → HasAudited old shelf place (body ∷ behind) m f
      → HasAudited new shelf (place + 5 + length body) behind (with_body_at old.format setup_of_texts shelf place body m)
      (first_found f (found_in old.format place body (made_in m)))

-- An auditor can take the record whose gate is at this place. While nothing was found, each page of the book has the state of its chain.
pub record IsReady (a : Auditor) (place : ℕ) : Type 0 where
  pub known : 0 < a.format
  pub reads : a.reader.format ≡ a.format
  pub records : a.records ≤ place
  pub few : HasFew place a.reader.found
  pub states : a.finding ≡ finding.Nothing → HasStates a.reader.found

-- an auditor of a journal of this format has seen no record
pub record IsStarted (format : ℕ) (a : Auditor) : Type 0 where
  pub format_is : a.format ≡ format
  pub records : a.records ≡ 0
  pub finding : a.finding ≡ finding.Nothing
  pub found : a.reader.found ≡ found.Nothing
  pub follows : a.reader.follows ≡ false
  pub seen : seen_by a.reader.seen ≡ []

-- what an auditor answers is what an audit does of the records that it took, whichever they were
abbrev pub Concludes : Auditor → Result Audited AuditFault → Type 0
Concludes a result =
    (shelf place : ℕ) (m : Making) (f : Option spec.Finding) → HasAudited a shelf place [] m f → IsAnswer (answer_over m a.records f) result
