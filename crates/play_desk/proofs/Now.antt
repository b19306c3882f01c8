-- What is read of bytes of the newest format, and how long it may be.
use Rattle.std.proofs.Common.{◌≡◌, ◌≢◌, ◌∙◌, ap, sym, refl, ℕ, List, [], ◌∷◌, length, Option, Some, None, arith}
use Rattle.setup_reader.specs.Texts.{setup_of_texts}
use Rattle.page_journal.specs.Records.{Log, Damaged, Intact, newest, format_of, records, stored, at_rest}
use Rattle.shelf.specs.JournalSpec.Before.{Made}
use Rattle.shelf.specs.JournalSpec.Making.{made_in}
use Rattle.shelf.specs.JournalSpec.Old.{book_of_format, format_of_now}
use Rattle.shelf.specs.JournalSpec.Bytes.{by_log, book_in_bytes}
use Rattle.shelf.specs.Migrating.{making_by, bodies_now, IsTooLongAnew}
use Rattle.shelf.specs.Opening.{now_by_log, now_in_bytes}
use Rattle.play_desk.proofs.Short.{stored_short}

made_now : (shelf : ℕ) (bodies : List (List ℕ)) (o : Option Made) → made_in (book_of_format newest setup_of_texts shelf bodies) ≡ o
    → making_by newest shelf bodies o ≡ book_of_format newest setup_of_texts shelf bodies
made_now shelf bodies None is = refl
made_now shelf bodies (Some m) is = sym (format_of_now setup_of_texts shelf bodies)

log_now : (shelf : ℕ) (log : Log) → now_by_log newest shelf log ≡ by_log newest setup_of_texts shelf log
log_now shelf (Damaged place) = refl
log_now shelf (Intact bodies) = made_now shelf bodies (made_in (book_of_format newest setup_of_texts shelf bodies)) refl

-- it is gone on with
pub bytes_now : (shelf : ℕ) (bytes : List ℕ) → (bytes ≢ [] → newest ≡ format_of bytes) → now_in_bytes shelf bytes ≡ book_in_bytes setup_of_texts shelf bytes
bytes_now shelf [] now = refl
bytes_now shelf (b ∷ bytes) now =
    let known : newest ≡ format_of (b ∷ bytes) = now (λ e. let no : ⊥ = cc e in no) in
    ap (λ (f : ℕ). now_by_log f shelf (records (b ∷ bytes))) (sym known)
    ∙ (log_now shelf (records (b ∷ bytes)) ∙ ap (λ (f : ℕ). by_log f setup_of_texts shelf (records (b ∷ bytes))) known)

short_by : (f shelf n : ℕ) (bytes : List ℕ) → newest ≡ f → IsTooLongAnew f shelf (stored bytes) n → ⊥
short_by f shelf n bytes is long =
    let same : bodies_now f shelf (stored bytes) ≡ stored bytes = ap (λ (g : ℕ). bodies_now g shelf (stored bytes)) (sym is) in
    let size = ap (λ (bodies : List (List ℕ)). length (at_rest bodies)) same in
    let short = stored_short bytes in
    omega (arith, long.is, long.long, size, short)

-- and its file is never too long by itself
pub never_anew : (shelf n : ℕ) (bytes : List ℕ) → (bytes ≢ [] → newest ≡ format_of bytes) → IsTooLongAnew (format_of bytes) shelf (stored bytes) n → ⊥
never_anew shelf n [] now long =
    let size : length (at_rest (bodies_now (format_of []) shelf (stored []))) ≡ 9 = refl in omega (arith, long.is, long.long, size)
never_anew shelf n (b ∷ bytes) now long = short_by (format_of (b ∷ bytes)) shelf n (b ∷ bytes) (now (λ e. let no : ⊥ = cc e in no)) long
