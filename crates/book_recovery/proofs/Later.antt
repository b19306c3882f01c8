-- What a later record makes of what was found, whether it was taken or not.
use Rattle.std.proofs.Common.{◌≡◌, ℕ, ◌+◌, ◌≤◌, refl, ap, subst, arith, [], Bool, true, false, List, length, Option, Some, Result, Ok, Err}
use Rattle.std.specs.Prelude.{IfOk, IfSome}
use Rattle.std.specs.Global.{Vec}
use Rattle.std.specs.declared.alloc.AllocError.{AllocError}
use Rattle.script_nodes.specs.Setup.{Library}
use Rattle.script_nodes.specs.Views.{library_of}
use Rattle.script_nodes.specs.declared.library.Library as told
use Rattle.book_redo.specs.InstanceBook.declared.in_order.InOrder.{InOrder}
use Rattle.book_redo.specs.InstanceBook.declared.book.Book as kept
use Rattle.replay_spec.specs.Book.{Book}
use Rattle.book_redo.specs.InstanceBook.Makes.{count_of, HasPlaces}
use Rattle.book_redo.specs.InstanceBook.Views.{no_journal}
use Rattle.book_redo.specs.InstanceBook.Standing.{book_under}
use Rattle.book_redo.specs.JournalSpec.Making.{Making}
use Rattle.book_redo.specs.Redo.{IsUnchanged, UnlessTaken}
use Rattle.journal_records.specs.Records.{Record}
use Rattle.journal_records.specs.Old.{read_record_in}
use Rattle.file_notes.specs.declared.notes.FileNotes.{FileNotes}
use Rattle.book_recovery.specs.declared.found.Found.TheVariants as found
use Rattle.book_recovery.specs.Anew.{AnewWith}
use Rattle.book_recovery.specs.Noted.{NotesMade, MakesAnew}
use Rattle.book_recovery.specs.Noting.{NotesWith}
use Rattle.book_recovery.specs.Reading.{IsUnderWay, IsKept, IsMadeAs, IsMadeIn, IsOwnBehind, CountsOneMore, Sees, may_stand, book_as, found_as, WhereTaken, GivesWith, KeepsOwnWith}
use Rattle.book_recovery.proofs.Counted.{more_counted}
use Rattle.book_recovery.proofs.Made.{IsNine, later_made, later_damaged}
use Rattle.book_recovery.proofs.Noting.{later_noted, later_anew}
use Rattle.book_recovery.proofs.Way.{later_way, later_owns}

-- what holds anyhow holds where no record is taken
pub unless_taken : (x : Result Bool AllocError) (holds : Type 0) → holds → UnlessTaken x holds
unless_taken (Ok true) holds h = tt
unless_taken (Ok false) holds h = h
unless_taken (Err e) holds h = h

-- a book has one instance more at most, whether a record is taken or not
left_few : (b c : kept.Book) → IsUnchanged b c → count_of c ≤ count_of b + 1
left_few b c same =
    let none : Library = record { all = []; setup = [] } in
    more_counted none b c (book_under none b) (book_under none b) refl (ap (λ (y : Book). y.instances) (same.book none no_journal)) (omega arith)

pub few_left : (x : Result Bool AllocError) (b c : kept.Book) → IfOk (book_as x c) (CountsOneMore b) → UnlessTaken x (IsUnchanged b c) → count_of c ≤ count_of b + 1
few_left (Ok true) b c few same = few
few_left (Ok false) b c few same = left_few b c same
few_left (Err e) b c few same = left_few b c same

module _ (format shelf : ℕ) (body : List ℕ) (rust : told.Library) (fed alone : Bool) (before after : InOrder (Unit {0})) (old new : kept.Book) (r : Record) (read : read_record_in format body ≡ Some r)
    (stands : may_stand alone (length (library_of rust).setup) r ≡ true) where
  abbrev l : Library
  l = library_of rust

  pub later_gives : (x : Result Bool AllocError) → IsNine body r → IfOk (book_as x new) (IsMadeIn format l before r old) → WhereTaken x (Sees r before after)
      → (place : ℕ) → GivesWith format shelf place body fed alone (found.Made old rust) fed false (found_as place x new rust) before after
  later_gives (Ok true) nine made sees place m is = later_made format shelf place body l fed alone before after old new r read nine stands made sees m is
  later_gives (Ok false) nine made sees place m is = later_damaged format shelf place body l fed alone before old r read stands made m is
  later_gives (Err e) nine made sees place m is = tt

  pub later_owned : (x : Result Bool AllocError) → IfOk (book_as x new) (IsMadeIn format l before r old) → (place : ℕ) → KeepsOwnWith format before (found.Made old rust) body (found_as place x new rust)
  later_owned (Ok true) made place own states = later_owns format l before old new r made (subst (IsOwnBehind format l before old) read own) states
  later_owned (Ok false) made place own states = tt
  later_owned (Err e) made place own states = tt

  pub later_kept : (x : Result Bool AllocError) → IsUnderWay shelf alone before old l → IfOk (book_as x new) (IsMadeIn format l before r old) → WhereTaken x (Sees r before after)
      → IfOk (book_as x new) (λ (o : Option kept.Book). IfSome o (HasPlaces l.all)) → (place : ℕ) → IsKept shelf false after (found_as place x new rust)
  later_kept (Ok true) way made sees placed place = later_way format shelf l alone before after old new r way stands made sees placed
  later_kept (Ok false) way made sees placed place = tt
  later_kept (Err e) way made sees placed place = tt

  pub later_notes : (x : Result Bool AllocError) (known then_known : FileNotes) → IsNine body r → IfOk (book_as x new) (IsMadeIn format l before r old) → WhereTaken x (Sees r before after)
      → IfOk (book_as x new) (NotesMade format l before old r (length body) known then_known)
      → (place : ℕ) (m : Making) → IsMadeAs shelf (place + 1) fed alone old l before m → NotesWith format shelf place body known then_known (found_as place x new rust) m
  later_notes (Ok true) known then_known nine made sees noted place m is =
      later_noted format shelf place body l fed alone before after old new known then_known r read stands noted m is
      (later_made format shelf place body l fed alone before after old new r read nine stands made sees m is)
  later_notes (Ok false) known then_known nine made sees noted place m is = tt
  later_notes (Err e) known then_known nine made sees noted place m is = tt

  pub later_bodies : (x : Result Bool AllocError) (kept_before kept_then : Vec (List ℕ)) → IfOk (book_as x new) (MakesAnew format l before old r kept_before kept_then)
      → (place : ℕ) (m : Making) → IsMadeAs shelf (place + 1) fed alone old l before m → AnewWith format body kept_before kept_then (found_as place x new rust) m
  later_bodies (Ok true) kept_before kept_then anew place m is = later_anew format shelf place body l fed alone before old new kept_before kept_then r read stands anew m is
  later_bodies (Ok false) kept_before kept_then anew place m is = tt
  later_bodies (Err e) kept_before kept_then anew place m is = tt
