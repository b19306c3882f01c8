-- What is kept beside the book of a shelf that follows, with one record more.
use Rattle.std.proofs.Common.{◌≡◌, ◌∙◌, ap, sym, subst, refl, ℕ, ◌+◌, Bool, true, false, List, [], ◌++◌, length, Ok, arith, append-nil}
use Rattle.script_nodes.specs.Views.{library_of}
use Rattle.script_nodes.specs.declared.library.Library as kept
use Rattle.page_journal.specs.Records.{newest}
use Rattle.book_recovery.specs.JournalSpec.Making.{Making, waits}
use Rattle.book_recovery.specs.InstanceBook.declared.in_order.InOrder.{InOrder}
use Rattle.book_recovery.specs.InstanceBook.declared.book.Book.{Book as RustBook}
use Rattle.book_recovery.specs.declared.found.Found.TheVariants as found
use Rattle.book_recovery.specs.Adopting.{BeginsSo, IsBegunAs, BeginsNotes, TakesNotes}
use Rattle.book_recovery.specs.Noting.{mark_in, IsFileOf}
use Rattle.book_recovery.specs.Reading.{seen_by, IsMadeAs, IsKept, GivesWith, found_as}
use Rattle.file_copies.specs.OfFileNotes.declared.notes.FileNotes.{FileNotes}
use Rattle.file_copies.specs.OfFileNotes.Files.{marks_in}
use Rattle.shelf.specs.declared.follower.Follower.{Follower}
use Rattle.shelf.specs.declared.follower.Fed.{Fed}
use Rattle.shelf.specs.declared.follower.Fed.TheVariants as fed
use Rattle.shelf.specs.Fed.{IsFedAs}
use Rattle.shelf.specs.Following.{IsFedAt, IsFedMore, with_more}

-- the record of a setup was taken
pub first_on : (n : ℕ) (body : List ℕ) (f : Follower) (b c : RustBook) (library next : kept.Library) (notes then_notes : FileNotes) (taken : Bool) → taken ≡ true → f.fed ≡ fed.Waits → IsFedAs f.fed n f.seen b (library_of library)
    → BeginsSo n body c (library_of next) (Ok taken) → IsBegunAs n c (library_of next) (Ok taken) → BeginsNotes n body notes then_notes (Ok taken)
    → IsFedMore n body f (record f { fed = fed.Begun }) b c library next notes then_notes (Ok taken)
first_on n body f b c library next notes then_notes true is waits_so way begins under known =
    let none : seen_by f.seen ≡ [] = subst (λ (y : Fed). IsFedAs y n f.seen b (library_of library)) waits_so way in
    let before : (k : ℕ) (m : Making) → IsFedAt f.fed n k f.seen b (library_of library) m → (m ≡ waits n) × (k ≡ 15) =
    λ k m at. subst (λ (y : Fed). IsFedAt y n k f.seen b (library_of library) m) waits_so at in
    record {
      fallen = refl;
      some = λ e. let no : ⊥ = cc e in no;
      fed_so = under f.seen none;
      gives = λ place m at.
          let first = before (place + 1) m at in
          let here : place ≡ 14 = omega (arith, first.1) in
          let long : 20 + length body ≡ place + 5 + length body + 1 = omega (arith, here) in
          subst (λ (x : Making). IsMadeAs n (place + 5 + length body + 1) true true c (library_of next) f.seen (with_more n place body x)) (sym first.0)
          (subst (λ (p : ℕ). IsMadeAs n (place + 5 + length body + 1) true true c (library_of next) f.seen (with_more n p body (waits n))) (sym here)
          (subst (λ (k : ℕ). IsMadeAs n k true true c (library_of next) f.seen (with_more n 14 body (waits n))) long (begins f.seen none)));
      knows = λ place m at file.
          let first = before (place + 1) m at in
          let here : place ≡ 14 = omega (arith, first.1) in
          let got = known (subst (IsFileOf notes) first.0 file) in (
            subst (λ (x : Making). IsFileOf then_notes (with_more n place body x)) (sym first.0) (subst (λ (p : ℕ). IsFileOf then_notes (with_more n p body (waits n))) (sym here) got.0),
            got.1 ∙ (sym (append-nil (marks_in notes)) ∙ ap (λ (x : Making). marks_in notes ++ mark_in newest x body) (sym first.0)),
          );
    }
first_on n body f b c library next notes then_notes false is waits_so way begins under known = absurd (let no : ⊥ = cc is in no)

-- a record after that was taken
pub later_on : (n : ℕ) (body : List ℕ) (f : Follower) (after : InOrder (Unit {0})) (b c : RustBook) (library next : kept.Library) (notes then_notes : FileNotes) (alone taken : Bool) → taken ≡ true
    → ((k : ℕ) (m : Making) → IsFedAt f.fed n k f.seen b (library_of library) m → IsMadeAs n k true alone b (library_of library) f.seen m)
    → ((place : ℕ) → GivesWith newest n place body true alone (found.Made b library) true false (found_as place (Ok taken) c next) f.seen after)
    → ((place : ℕ) → IsKept n false after (found_as place (Ok taken) c next))
    → ((place : ℕ) → TakesNotes n place body alone (found.Made b library) f.seen notes then_notes (found_as place (Ok taken) c next))
    → IsFedMore n body f (record f { seen = after; fed = fed.Made }) b c library next notes then_notes (Ok taken)
later_on n body f after b c library next notes then_notes alone true is made gives way known = record {
  fallen = refl;
  some = λ e. let no : ⊥ = cc e in no;
  fed_so = way 0;
  gives = λ place m at. gives place m (made (place + 1) m at);
  knows = λ place m at file. known place m (made (place + 1) m at) file;
}
later_on n body f after b c library next notes then_notes alone false is made gives way known = absurd (let no : ⊥ = cc is in no)

-- how far it was fed
pub begun_at : (n : ℕ) (f : Follower) (b : RustBook) (library : kept.Library) → f.fed ≡ fed.Begun → (k : ℕ) (m : Making) → IsFedAt f.fed n k f.seen b (library_of library) m → IsMadeAs n k true true b (library_of library) f.seen m
begun_at n f b library is k m at = subst (λ (y : Fed). IsFedAt y n k f.seen b (library_of library) m) is at

pub made_at : (n : ℕ) (f : Follower) (b : RustBook) (library : kept.Library) → f.fed ≡ fed.Made → (k : ℕ) (m : Making) → IsFedAt f.fed n k f.seen b (library_of library) m → IsMadeAs n k true false b (library_of library) f.seen m
made_at n f b library is k m at = subst (λ (y : Fed). IsFedAt y n k f.seen b (library_of library) m) is at
