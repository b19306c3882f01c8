-- The bodies that the newest format has of the records of an older one.
use Rattle.std.specs.Prelude.{◌≡◌, ℕ, ◌+◌, ◌==◌, Bool, true, false, List, [], ◌∷◌, ◌++◌, length, Option, Some, is_some, if◌then◌else◌, ⊤}
use Rattle.std.specs.Global.{Vec}
use Rattle.setup_reader.specs.Texts.{setup_of_texts}
use Rattle.page_journal.specs.Records.{newest}
use Rattle.journal_records.specs.Records.{Record, begins, changes, renews, draws, follows, promotes, body_of}
use Rattle.journal_records.specs.Old.{read_record_in}
use Rattle.book_redo.specs.JournalSpec.Before.{Made}
use Rattle.book_redo.specs.JournalSpec.Making.{Texts, Making, nothing, waits, waited, begun, made}
use Rattle.book_redo.specs.JournalSpec.Old.{told_of, landing_of, with_body_at}
use Rattle.book_redo.specs.JournalSpec.Copying.{state_now}
use Rattle.book_recovery.specs.declared.found.Found.{Found}
use Rattle.book_recovery.specs.declared.found.ReadBook.{ReadBook}
use Rattle.book_recovery.specs.Noting.{WhereMade}

-- the body of a record which tells no setup
abbrev pub IsBodyAnew : Record → List ℕ → Type 0
IsBodyAnew (begins shelf named) body = ⊤
IsBodyAnew (renews named) body = ⊤
IsBodyAnew follows body = ⊤
IsBodyAnew promotes body = ⊤
IsBodyAnew r body = body ≡ body_of r

-- where the file that is read is of an older format, these bodies stand after those that were kept before, and else none is kept
abbrev pub HasAnew : (format : ℕ) → List (List ℕ) → (old new : Vec (List ℕ)) → Type 0
HasAnew format bodies old new = new.items ≡ (if format == newest then old.items else old.items ++ bodies)

-- where the file that is read is of an older format, this body stands after those that were kept before, and else none is kept
abbrev pub KeepsAnew : (format : ℕ) → List ℕ → (old new : Vec (List ℕ)) → Type 0
KeepsAnew format body old new = HasAnew format (body ∷ []) old new

-- the body of a record that is told in the newest format is kept after the others, but where it tells a number
abbrev pub KeepsTold : (format : ℕ) → Record → (old new : Vec (List ℕ)) → Type 0
KeepsTold format (changes c state) old new = HasAnew format (body_of (changes c state) ∷ []) old new
KeepsTold format (draws number) old new = new.items ≡ old.items
KeepsTold format r old new = ⊤

-- where the record of a change lands, this is the body that the newest format has of it
abbrev pub IsOfLanding : (lands : Bool) → (now body : List ℕ) → Type 0
IsOfLanding true now body = body ≡ now
IsOfLanding false now body = ⊤

-- These are the bodies that the newest format has of a record after what records make: one where it has a note.
abbrev pub IsAnewBy : (format : ℕ) → Made → (body : List ℕ) → Option Record → List (List ℕ) → Type 0
IsAnewBy format m body (Some (changes c state)) anew =
    (now : List ℕ) × ((anew ≡ now ∷ []) × IsOfLanding (is_some (landing_of format m c (told_of format m c state))) (body_of (changes c (state_now format m c state))) now)
IsAnewBy format m body (Some (renews named)) anew = anew ≡ body ∷ []
IsAnewBy format m body (Some promotes) anew = anew ≡ body ∷ []
IsAnewBy format m body _ anew = anew ≡ []

-- These are the bodies that the newest format has of one more body of a file. That of the first setup is copied, and so is what
-- stands before it.
abbrev pub IsAnewIn : (format : ℕ) → Making → (body : List ℕ) → List (List ℕ) → Type 0
IsAnewIn format nothing body anew = anew ≡ body ∷ []
IsAnewIn format waited body anew = anew ≡ body ∷ []
IsAnewIn format (waits shelf) body anew = anew ≡ body ∷ []
IsAnewIn format (begun m) body anew = IsAnewBy format m body (read_record_in format body) anew
IsAnewIn format (made m) body anew = IsAnewBy format m body (read_record_in format body) anew
IsAnewIn format _ body anew = ⊤

-- These are the bodies that the newest format has of these bodies of a file, the gate of the first at this place, after what
-- records make.
abbrev pub AreAnew : (format : ℕ) → Texts → (shelf place : ℕ) → List (List ℕ) → Making → (anew : List (List ℕ)) → Type 0
AreAnew format texts shelf place [] x anew = anew ≡ []
AreAnew format texts shelf place (body ∷ bodies) x anew =
    (front rest : List (List ℕ)) × ((anew ≡ front ++ rest) × (IsAnewIn format x body front
    × AreAnew format texts shelf (place + 5 + length body) bodies (with_body_at format texts shelf place body x) rest))

-- these are the bodies that the newest format has of a file of an older one; of a file of the newest none is kept
abbrev pub ReadsAnew : (format shelf : ℕ) → (bodies anew : List (List ℕ)) → Type 0
ReadsAnew format shelf bodies anew =
    ((format ≡ newest → ⊥) → AreAnew format setup_of_texts shelf 8 bodies nothing anew) × (format ≡ newest → anew ≡ [])

-- where a book was read from these bodies, those are kept that the newest format has of them
abbrev pub KeepsFileOf : (format shelf : ℕ) → (bodies : List (List ℕ)) → ReadBook → Type 0
KeepsFileOf format shelf bodies read = WhereMade read.found (ReadsAnew format shelf bodies read.anew.items)

-- a body is kept that the newest format has of one more after what records make, where they make a book
abbrev pub AnewWith : (format : ℕ) → (body : List ℕ) → (old new : Vec (List ℕ)) → Found → Making → Type 0
AnewWith format body old new found m = WhereMade found ((bodies : List (List ℕ)) × (IsAnewIn format m body bodies × HasAnew format bodies old new))
