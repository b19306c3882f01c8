-- What is made of a record that is told in the newest format, or passed over.
use Rattle.std.proofs.Common.{◌≡◌, ◌∙◌, ap, sym, subst, ℕ, Bool, Option, Some, Result, Ok, Err}
use Rattle.std.specs.Prelude.{IfOk, IfSome}
use Rattle.std.specs.declared.alloc.AllocError.{AllocError}
use Rattle.script_nodes.specs.Setup.{Library}
use Rattle.replay_spec.specs.Recovery.{is_repeated}
use Rattle.book_redo.specs.InstanceBook.declared.in_order.InOrder.{InOrder}
use Rattle.book_redo.specs.InstanceBook.declared.book.Book.{Book}
use Rattle.book_redo.specs.InstanceBook.Makes.{Reopens}
use Rattle.book_redo.specs.Redo.{counted_to, number_by}
use Rattle.journal_records.specs.Records.{Record, begins, changes, renews, draws, follows, promotes}
use Rattle.journal_records.specs.Views.{logged_of}
use Rattle.journal_records.specs.declared.records.Logged.{Logged}
use Rattle.book_redo.specs.declared.renew.Renewed.TheVariants as renewed
use Rattle.book_redo.specs.Renewing.{IsRenewed}
use Rattle.book_recovery.specs.Reading.{seen_by, IsMadeAgain, IsMadeIn}

-- what is told has the number of the record
pub number_told : (format : ℕ) (library : Library) (b : Book) (r : Record) (l : Logged) → IsRenewed format library b r (renewed.Told l) → number_by (logged_of l) ≡ number_by r
number_told format library b (begins shelf named) l told = ap (λ (q : Record). number_by q) told
number_told format library b (changes c state) l told = ap (λ (q : Record). number_by q) told.1.0
number_told format library b (renews named) l told = ap (λ (q : Record). number_by q) told
number_told format library b (draws number) l told = ap (λ (q : Record). number_by q) told
number_told format library b follows l told = ap (λ (q : Record). number_by q) told
number_told format library b promotes l told = ap (λ (q : Record). number_by q) told

-- it was seen where that of the record was
pub again_told : (format : ℕ) (library : Library) (b : Book) (seen : InOrder (Unit {0})) (r : Record) (l : Logged) (number : Option ℕ) (again : Bool)
    → IsRenewed format library b r (renewed.Told l) → number ≡ number_by r → again ≡ is_repeated number (seen_by seen) → again ≡ is_repeated (number_by (logged_of l)) (seen_by seen)
again_told format library b seen r l number again told is so =
    so ∙ ap (λ (o : Option ℕ). is_repeated o (seen_by seen)) (is ∙ sym (number_told format library b r l told))

-- what is told makes what the record makes
pub told_made : (format : ℕ) (library : Library) (seen : InOrder (Unit {0})) (r : Record) (l : Logged) (again : Bool) (old : Book) (x : Result (Option Book) AllocError)
    → IsRenewed format library old r (renewed.Told l) → again ≡ is_repeated (number_by (logged_of l)) (seen_by seen)
    → IfOk x (IsMadeAgain library (logged_of l) again old) → IfOk x (IsMadeIn format library seen r old)
told_made format library seen r l again old (Ok o) told so made =
    (renewed.Told l, (told, subst (λ (t : Bool). IsMadeAgain library (logged_of l) t old o) so made))
told_made format library seen r l again old (Err e) told so made = tt

-- what is passed over counts its number
pub passed_makes : (format : ℕ) (library : Library) (seen : InOrder (Unit {0})) (r : Record) (number : Option ℕ) (old new : Book)
    → IsRenewed format library old r renewed.Passed → number ≡ number_by r → IfSome number (λ n. Reopens (counted_to n) old new) → IsMadeIn format library seen r old (Some new)
passed_makes format library seen (begins shelf named) number old new told is reopens = absurd told
passed_makes format library seen (changes c state) number old new told is reopens =
    (renewed.Passed, (told, (told.0.0, (told.0.1, subst (λ (o : Option ℕ). IfSome o (λ n. Reopens (counted_to n) old new)) (is ∙ told.0.1) reopens))))
passed_makes format library seen (renews named) number old new told is reopens = absurd told
passed_makes format library seen (draws drawn) number old new told is reopens = absurd told
passed_makes format library seen follows number old new told is reopens = absurd told
passed_makes format library seen promotes number old new told is reopens = absurd told
