-- What a record is in the newest format that shows no page, or is of a later format.
use Rattle.std.proofs.Common.{◌≡◌, ◌∙◌, ap, sym, subst, ℕ, ◌≤◌, ◌==◌, Bool, true, false, List, Option, Some, None, Result, Ok, Err, if◌then◌else◌, refl}
use Rattle.std.specs.Prelude.{IfOk, nat_lt}
use Rattle.std.specs.declared.alloc.AllocError.{AllocError}
use Rattle.script_nodes.specs.Setup.{Library}
use Rattle.replay_spec.specs.Book.{Change, opens, extends, ends, finishes, sweeps}
use Rattle.journal_records.specs.Views.{logged_of, page_change, ending_of, finish_of}
use Rattle.journal_records.specs.declared.records.Logged.{Logged}
use Rattle.journal_records.specs.declared.records.Logged.TheVariants as logged
use Rattle.journal_records.specs.declared.records.PageRecord.{PageRecord}
use Rattle.instance_book.specs.declared.book.Book.{Book}
use Rattle.journal_spec.specs.Before.{Made}
use Rattle.journal_spec.specs.Retaking.{Told, unread}
use Rattle.journal_spec.specs.Making.{told_next}
use Rattle.journal_spec.specs.Copying.{bytes_now}
use Rattle.journal_spec.proofs.Telling.{IsQuiet}
use Rattle.book_redo.specs.declared.renew.Renewed.{Renewed}
use Rattle.book_redo.specs.declared.renew.Renewed.TheVariants as renewed
use Rattle.book_redo.specs.Renewing.{IsAsNewest, IsChangeRenewed, IsMadeAgain, IsPageTold, IsRenewed}
use Rattle.book_redo.proofs.Anew.{late_is}

-- ---- a record that shows no page tells no state in any format

same_if : {A : Type 0} (t : Bool) (x : A) → (if t then x else x) ≡ x
same_if true x = refl
same_if false x = refl

none_told : (one two : Bool) → (if one then unread else (if two then unread else unread)) ≡ unread
none_told one two = ap (λ (x : Told). if one then unread else x) (same_if two unread) ∙ same_if one unread

none_made : (one two : Bool) (place n : ℕ) (m : Made) (c : Change)
    → (if one then told_next place n m c unread else told_next place n m c (if two then unread else unread)) ≡ told_next place n m c unread
none_made one two place n m c =
    ap (λ (x : Told). if one then told_next place n m c unread else told_next place n m c x) (same_if two unread) ∙ same_if one (told_next place n m c unread)

none_now : (early one two : Bool) → None ≡ (if early then bytes_now None None (if one then unread else (if two then unread else unread)) else None)
none_now early one two =
    let none : Option (List ℕ) = None in
    sym (ap (λ (x : Told). if early then bytes_now None none x else none) (none_told one two) ∙ same_if early none)

pub quiet_is : (format : ℕ) (library : Library) (b : Book) (c : Change) → IsQuiet c → IsAsNewest format library b c None None
quiet_is format library b (opens o) quiet = absurd quiet
quiet_is format library b (extends x) quiet = absurd quiet
quiet_is format library b (ends e) quiet =
    record {
      tells = λ m beside place n is states. none_told (format == 1) (format == 2);
      makes = λ m beside place n is states. none_made (format == 1) (format == 2) place n m (ends e);
      bytes = λ m beside place n is states. none_now (nat_lt format 3) (format == 1) (format == 2);
    }
quiet_is format library b (finishes f) quiet =
    record {
      tells = λ m beside place n is states. none_told (format == 1) (format == 2);
      makes = λ m beside place n is states. none_made (format == 1) (format == 2) place n m (finishes f);
      bytes = λ m beside place n is states. none_now (nat_lt format 3) (format == 1) (format == 2);
    }
quiet_is format library b (sweeps tick) quiet =
    record {
      tells = λ m beside place n is states. none_told (format == 1) (format == 2);
      makes = λ m beside place n is states. none_made (format == 1) (format == 2) place n m (sweeps tick);
      bytes = λ m beside place n is states. none_now (nat_lt format 3) (format == 1) (format == 2);
    }

-- ---- what a reader is given

-- a record of a later format is told as it is
pub late_told : (format : ℕ) → 3 ≤ format → (library : Library) (b : Book) (l : Logged) → IsRenewed format library b (logged_of l) (renewed.Told l)
late_told format low library b (logged.Begin shelf scripts) = refl
late_told format low library b (logged.Page p state) = (Some state, (refl, late_is format low library b (page_change p) (Some state)))
late_told format low library b (logged.Ended e) = (None, (refl, quiet_is format library b (ends (ending_of e)) tt))
late_told format low library b (logged.Finish f) = (None, (refl, quiet_is format library b (finishes (finish_of f)) tt))
late_told format low library b (logged.Sweep clock) = (None, (refl, quiet_is format library b (sweeps clock) tt))
late_told format low library b (logged.Texts scripts) = refl
late_told format low library b (logged.Drawn number) = refl
late_told format low library b logged.Follow = refl
late_told format low library b logged.Promoted = refl

-- a page that is told with the bytes that the newest format has of its state
pub told_if : (format : ℕ) (library : Library) (b : Book) (p : PageRecord) (bytes : List ℕ) (state : Option (List ℕ)) (x : Result Renewed AllocError)
    → IsAsNewest format library b (page_change p) state (Some bytes) → IfOk x (IsPageTold p bytes) → IfOk x (IsChangeRenewed format library b (page_change p) state)
told_if format library b p bytes state (Ok (renewed.Told l)) newest told = (Some bytes, (told, newest))
told_if format library b p bytes state (Ok renewed.Passed) newest told = absurd told
told_if format library b p bytes state (Ok renewed.Misread) newest told = absurd told
told_if format library b p bytes state (Err e) newest told = tt

-- one that is made again, whatever bytes a record might have of its state
pub again_told : (library : Library) (b : Book) (p : PageRecord) (bytes : List ℕ) (x : Result Renewed AllocError)
    → ((state : Option (List ℕ)) → IsAsNewest 1 library b (page_change p) state (Some bytes)) → IfOk x (IsPageTold p bytes) → IfOk x (IsMadeAgain library b (page_change p))
again_told library b p bytes (Ok y) newest told = λ state. told_if 1 library b p bytes state (Ok y) (newest state) told
again_told library b p bytes (Err e) newest told = tt

pub again_is : (library : Library) (b : Book) (c : Change) (state : Option (List ℕ)) (x : Result Renewed AllocError) → IfOk x (IsMadeAgain library b c) → IfOk x (IsChangeRenewed 1 library b c state)
again_is library b c state (Ok y) again = again state
again_is library b c state (Err e) again = tt

-- a page is told as its change is, in the format that the file has
pub page_renewed : (format : ℕ) (library : Library) (b : Book) (l : Logged) (p : PageRecord) (state : List ℕ) (x : Result Renewed AllocError) → l ≡ logged.Page p state
    → (f : ℕ) → format ≡ f → IfOk x (IsChangeRenewed f library b (page_change p) (Some state)) → IfOk x (IsRenewed format library b (logged_of l))
page_renewed format library b l p state x is f same told =
    subst (λ (y : Logged). IfOk x (IsRenewed format library b (logged_of y))) (sym is)
    (subst (λ (g : ℕ). IfOk x (IsChangeRenewed g library b (page_change p) (Some state))) (sym same) told)
