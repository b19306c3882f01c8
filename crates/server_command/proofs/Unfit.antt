-- Which bytes make no shelf, or too long a journal.
use Rattle.std.proofs.Common.{◌≡◌, ◌≤◌, ◌<◌, ◌^◌, ◌∷◌, ◌==◌, ◌∙◌, ℕ, List, [], length, nat_le, Bool, true, false, Option, Some, None, if◌then◌else◌, refl, sym, ap, subst, arith}
use Rattle.std.proofs.lemmas.Bool.{le-leb, lt-leb}
use Rattle.setup_reader.specs.Texts.{setup_of_texts}
use Rattle.script_nodes.specs.Setup.{Named}
use Rattle.page_journal.specs.Records as log
use Rattle.page_journal.specs.Records.{Log, at_rest, bodies_of, format_of, newest, records, stored}
use Rattle.page_journal.proofs.Frames.{length-at_rest}
use Rattle.replay_spec.specs.Book.{Book}
use Rattle.page_audit.specs.JournalSpec.Making.{Making, nothing, waits, waited, begun, made, damaged, other, made_in}
use Rattle.page_audit.specs.JournalSpec.Old.{book_of_format}
use Rattle.page_audit.specs.JournalSpec.Bytes.{book_in_bytes, by_log}
use Rattle.page_audit.specs.JournalSpec.Opening.{opened_on}
use Rattle.page_audit.specs.JournalSpec.Standing.{IsMadeBook}
use Rattle.site_serving.specs.Shelves.{IsTooLongAnew, bodies_by, making_by}
use Rattle.site_serving.specs.Shelves.{IsTooLongBehind, bodies_after, now_by_log, now_in_bytes}
use Rattle.play_desk.proofs.Short.{stored_short}
use Rattle.server_command.specs.Racks.{Unfit, full, unfit_file, unfit_left, unfit_length, unfit_made, unfit_read}

-- ---- lengths

-- a journal may be so long
short_fits : (n : ℕ) → n ≤ 2 ^ 30 → unfit_length n ≡ None
short_fits n short = let test : nat_le n (2 ^ 30) ≡ true = le-leb n (2 ^ 30) short in rw test refl

-- and no longer
long_unfit : (n : ℕ) → 2 ^ 30 < n → unfit_length n ≡ Some (full n)
long_unfit n long = let test : nat_le n (2 ^ 30) ≡ false = lt-leb n (2 ^ 30) long in rw test refl

short_file : (bodies : List (List ℕ)) (why : Option Unfit) → length (at_rest bodies) ≤ 2 ^ 30 → unfit_file bodies why ≡ why
short_file bodies why short = let test : nat_le (length (at_rest bodies)) (2 ^ 30) ≡ true = le-leb (length (at_rest bodies)) (2 ^ 30) short in rw test refl

long_file : (bodies : List (List ℕ)) (why : Option Unfit) → 2 ^ 30 < length (at_rest bodies) → unfit_file bodies why ≡ Some (full (length (at_rest bodies)))
long_file bodies why long = let test : nat_le (length (at_rest bodies)) (2 ^ 30) ≡ false = lt-leb (length (at_rest bodies)) (2 ^ 30) long in rw test refl

-- ---- what is read, and what an opening goes on with

-- where what is read makes no book, an opening goes on with nothing else
read_now : (shelf : ℕ) (image : List ℕ) (x : Making) → made_in x ≡ None → book_in_bytes setup_of_texts shelf image ≡ x → now_in_bytes shelf image ≡ x
read_now shelf [] x none is = is
read_now shelf (b ∷ bytes) x none is = by_log_of (records (b ∷ bytes)) is
  where
    f : ℕ
    f = format_of (b ∷ bytes)

    by_log_of : (l : Log) → by_log f setup_of_texts shelf l ≡ x → now_by_log f shelf l ≡ x
    by_log_of (log.Damaged place) is = is
    by_log_of (log.Intact bodies) is = ap (making_by f shelf bodies) (ap made_in is ∙ none) ∙ is

-- where what is read makes no book, the same records stay
read_bodies : (shelf : ℕ) (image : List ℕ) (x : Making) → made_in x ≡ None → book_in_bytes setup_of_texts shelf image ≡ x
    → length (at_rest (bodies_after shelf image)) ≤ 2 ^ 30
read_bodies shelf [] x none is = omega (arith, length-at_rest [])
read_bodies shelf (b ∷ bytes) x none is = by_newest (f == newest)
  where
    f : ℕ
    f = format_of (b ∷ bytes)

    kept : List (List ℕ)
    kept = stored (b ∷ bytes)

    no_book : (l : Log) → by_log f setup_of_texts shelf l ≡ x → made_in (book_of_format f setup_of_texts shelf (bodies_of l)) ≡ None
    no_book (log.Damaged place) is = refl
    no_book (log.Intact bodies) is = ap made_in is ∙ none

    older : bodies_by f shelf kept (made_in (book_of_format f setup_of_texts shelf kept)) ≡ kept
    older = ap (bodies_by f shelf kept) (no_book (records (b ∷ bytes)) is)

    by_newest : (t : Bool) → length (at_rest (if t then kept else bodies_by f shelf kept (made_in (book_of_format f setup_of_texts shelf kept)))) ≤ 2 ^ 30
    by_newest true = stored_short (b ∷ bytes)
    by_newest false = subst (λ (bs : List (List ℕ)). length (at_rest bs) ≤ 2 ^ 30) (sym older) (stored_short (b ∷ bytes))

-- ---- why a shelf is not opened, if so

-- bytes of which a book is made that is not too long, nor its file in front of the setup, are fit
pub made_fits : (scripts : List Named) (k : ℕ) (image : List ℕ) (b : Book) → IsMadeBook (opened_on k scripts (now_in_bytes k image)) b → b.length ≤ 2 ^ 30
    → length (at_rest (bodies_after k image)) ≤ 2 ^ 30 → unfit_left scripts k image ≡ None
made_fits scripts k image b (earlier, is) short fits = by_read (book_in_bytes setup_of_texts k image) refl
  where
    opens : unfit_file (bodies_after k image) (unfit_made (opened_on k scripts (now_in_bytes k image))) ≡ None
    opens = short_file (bodies_after k image) _ fits ∙ (ap unfit_made is ∙ short_fits b.length short)

    never : (x : Making) → opened_on k scripts x ≡ None → now_in_bytes k image ≡ x → ⊥
    never x none now = let no : ⊥ = cc (sym is ∙ (ap (opened_on k scripts) now ∙ none)) in no

    by_read : (m : Making) → book_in_bytes setup_of_texts k image ≡ m
        → unfit_read m (unfit_file (bodies_after k image) (unfit_made (opened_on k scripts (now_in_bytes k image)))) ≡ None
    by_read nothing read = opens
    by_read (waits s) read = opens
    by_read waited read = opens
    by_read (begun m) read = opens
    by_read (made m) read = opens
    by_read (damaged place) read = absurd (never (damaged place) refl (read_now k image (damaged place) refl read))
    by_read (other place) read = absurd (never (other place) refl (read_now k image (other place) refl read))

-- bytes of which a book is made that is too long with the setup are not
pub long_behind : (scripts : List Named) (k : ℕ) (image : List ℕ) (n : ℕ) → IsTooLongBehind scripts k image n → unfit_left scripts k image ≡ Some (full n)
long_behind scripts k image n p = by_read (book_in_bytes setup_of_texts k image) refl
  where
    too_long : unfit_file (bodies_after k image) (unfit_made (opened_on k scripts (now_in_bytes k image))) ≡ Some (full n)
    too_long = short_file (bodies_after k image) _ p.fits ∙ (ap unfit_made p.setup.opened ∙ (ap unfit_length p.setup.is ∙ long_unfit n p.setup.long))

    never : (x : Making) → opened_on k scripts x ≡ None → now_in_bytes k image ≡ x → ⊥
    never x none now = let e = p.setup.opened in let no : ⊥ = cc (sym e ∙ (ap (opened_on k scripts) now ∙ none)) in no

    by_read : (m : Making) → book_in_bytes setup_of_texts k image ≡ m
        → unfit_read m (unfit_file (bodies_after k image) (unfit_made (opened_on k scripts (now_in_bytes k image)))) ≡ Some (full n)
    by_read nothing read = too_long
    by_read (waits s) read = too_long
    by_read waited read = too_long
    by_read (begun m) read = too_long
    by_read (made m) read = too_long
    by_read (damaged place) read = absurd (never (damaged place) refl (read_now k image (damaged place) refl read))
    by_read (other place) read = absurd (never (other place) refl (read_now k image (other place) refl read))

-- nor are bytes whose file in the newest format is too long
pub long_anew : (scripts : List Named) (k : ℕ) (image : List ℕ) (n : ℕ) → IsTooLongAnew (format_of image) k (stored image) n → unfit_left scripts k image ≡ Some (full n)
long_anew scripts k image n p = by_read (book_in_bytes setup_of_texts k image) refl
  where
    long : 2 ^ 30 < length (at_rest (bodies_after k image))
    long = let is = p.is in let over = p.long in omega (arith, is, over)

    too_long : unfit_file (bodies_after k image) (unfit_made (opened_on k scripts (now_in_bytes k image))) ≡ Some (full n)
    too_long = long_file (bodies_after k image) _ long ∙ ap (λ (m : ℕ). Some (full m)) (sym p.is)

    never : (x : Making) → made_in x ≡ None → book_in_bytes setup_of_texts k image ≡ x → ⊥
    never x none read = let short = read_bodies k image x none read in omega (arith, short, long)

    by_read : (m : Making) → book_in_bytes setup_of_texts k image ≡ m
        → unfit_read m (unfit_file (bodies_after k image) (unfit_made (opened_on k scripts (now_in_bytes k image)))) ≡ Some (full n)
    by_read nothing read = too_long
    by_read (waits s) read = too_long
    by_read waited read = too_long
    by_read (begun m) read = too_long
    by_read (made m) read = too_long
    by_read (damaged place) read = absurd (never (damaged place) refl read)
    by_read (other place) read = absurd (never (other place) refl read)
