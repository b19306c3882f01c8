-- What one record more makes.
use Rattle.std.proofs.Common.{◌≡◌, ℕ, ◌+◌, ◌==◌, List, [], ◌∷◌, ◌++◌, length, Option, Some, Bool, true, if◌then◌else◌, false, refl, ◌∙◌, ap, arith, length-append}
use Rattle.std.proofs.lemmas.Bool.Decides.{nat_tests}
use Rattle.script_nodes.specs.Setup.{Named}
use Rattle.page_journal.specs.Records.{framed, frames}
use Rattle.page_journal.proofs.Frames.{length-framed}
use Rattle.replay_spec.specs.Book.{Change}
use Rattle.journal_records.specs.Records.{Record, changes, IsInGrammar, begin_of, renewal_of}
use Rattle.journal_records.specs.Reading.{read_record}
use Rattle.journal_records.specs.Laws.{AreRecordsExact}
use Rattle.journal_spec.specs.Before.{Made}
use Rattle.journal_spec.specs.Retaking.{Told, told_in}
use Rattle.journal_spec.specs.Making.{Texts, Making, nothing, waits, waited, begun, made, damaged, other, has_script, waiting, began, first_setup, start_by, told_next, next_setup, next_by, second_by, with_body, with_bodies, made_in, book_of}
use Rattle.journal_spec.specs.Old.{with_body_at, with_bodies_at}
use Rattle.journal_spec.specs.Opening.{IsRead, first_body, renewal_body}
use Rattle.journal_spec.specs.Keeping.{body_by}

behind_first : (place : ℕ) (first : List ℕ) (bodies : List (List ℕ)) → place + 5 + length first + length (frames bodies) ≡ place + length (frames (first ∷ bodies))
behind_first place first bodies = omega (arith, length-append (framed first) (frames bodies), length-framed first)

pub with_push : (texts : Texts) (shelf place : ℕ) (bodies : List (List ℕ)) (body : List ℕ) (m : Making)
    → with_bodies texts shelf place (bodies ++ body ∷ []) m ≡ with_body texts shelf (place + length (frames bodies)) body (with_bodies texts shelf place bodies m)
with_push texts shelf place [] body m =
    let same : place ≡ place + 0 = omega arith in
    ap (λ (n : ℕ). with_body texts shelf n body m) same
with_push texts shelf place (first ∷ bodies) body m =
    let rest = with_bodies texts shelf (place + 5 + length first) bodies (with_body texts shelf place first m) in
    with_push texts shelf (place + 5 + length first) bodies body (with_body texts shelf place first m)
    ∙ ap (λ (n : ℕ). with_body texts shelf n body rest) (behind_first place first bodies)

pub with_push_at : (format : ℕ) (texts : Texts) (shelf place : ℕ) (bodies : List (List ℕ)) (body : List ℕ) (m : Making)
    → with_bodies_at format texts shelf place (bodies ++ body ∷ []) m
    ≡ with_body_at format texts shelf (place + length (frames bodies)) body (with_bodies_at format texts shelf place bodies m)
with_push_at format texts shelf place [] body m =
    let same : place ≡ place + 0 = omega arith in
    ap (λ (n : ℕ). with_body_at format texts shelf n body m) same
with_push_at format texts shelf place (first ∷ bodies) body m =
    let rest = with_bodies_at format texts shelf (place + 5 + length first) bodies (with_body_at format texts shelf place first m) in
    with_push_at format texts shelf (place + 5 + length first) bodies body (with_body_at format texts shelf place first m)
    ∙ ap (λ (n : ℕ). with_body_at format texts shelf n body rest) (behind_first place first bodies)

-- after the book of a shelf that does not follow the record of a change, and that of a setup, does not ask whether the book is the first
-- record's
next_made : (texts : Texts) (shelf place : ℕ) (body : List ℕ) (x : Making) (m : Made) (r : Record) → made_in x ≡ Some m → m.book.follows ≡ false → read_record body ≡ Some r
    → second_by texts place (length body) m (Some r) ≡ next_by texts place (length body) m (Some r)
    → with_body texts shelf place body x ≡ next_by texts place (length body) m (Some r)
next_made texts shelf place body nothing m r is unfed read same = absurd (let no : ⊥ = cc in no)
next_made texts shelf place body waited m r is unfed read same = absurd (let no : ⊥ = cc in no)
next_made texts shelf place body (waits s) m r is unfed read same =
    let at : waiting s ≡ m = cc in
    let no : true ≡ false = ap (λ (y : Made). y.book.follows) at ∙ unfed in
    absurd (let never : ⊥ = cc in never)
next_made texts shelf place body (begun k) m r is unfed read same =
    let at : k ≡ m = cc in
    ap (λ (o : Option Record). second_by texts place (length body) k o) read
    ∙ (ap (λ (y : Made). second_by texts place (length body) y (Some r)) at ∙ same)
next_made texts shelf place body (made k) m r is unfed read same =
    let at : k ≡ m = cc in
    ap (λ (o : Option Record). next_by texts place (length body) k o) read ∙ ap (λ (y : Made). next_by texts place (length body) y (Some r)) at
next_made texts shelf place body (damaged p) m r is unfed read same = absurd (let no : ⊥ = cc in no)
next_made texts shelf place body (other p) m r is unfed read same = absurd (let no : ⊥ = cc in no)

-- the body of a change makes of what was made what the change makes of it, by what is told of its page's state
pub made_push : AreRecordsExact → (texts : Texts) (shelf : ℕ) (bodies : List (List ℕ)) (m : Made) (c : Change) (state : Option (List ℕ)) (x : Told)
    → made_in (book_of texts shelf bodies) ≡ Some m → m.book.follows ≡ false → IsInGrammar (changes c state) → has_script (length m.book.scripts) c ≡ true → told_in m.earlier m.book c state ≡ x
    → book_of texts shelf (bodies ++ body_by c state ∷ []) ≡ told_next (8 + length (frames bodies)) (length (body_by c state)) m c x
made_push exact texts shelf bodies m c state x makes unfed fits script is =
    let place = 8 + length (frames bodies) in
    let n = length (body_by c state) in
    with_push texts shelf 8 bodies (body_by c state) nothing
    ∙ next_made texts shelf place (body_by c state) (book_of texts shelf bodies) m (changes c state) makes unfed (exact.back (changes c state) fits) refl
    ∙ ap (λ (t : Bool). if t then told_next place n m c (told_in m.earlier m.book c state) else damaged place) script
    ∙ ap (told_next place n m c) is

-- the body of another setup makes of what was made the book with that setup
pub renewed_push : AreRecordsExact → (texts : Texts) (shelf : ℕ) (bodies : List (List ℕ)) (m : Made) (scripts : List Named) → made_in (book_of texts shelf bodies) ≡ Some m → m.book.follows ≡ false
    → IsInGrammar (renewal_of scripts) → IsRead texts scripts
    → book_of texts shelf (bodies ++ renewal_body scripts ∷ []) ≡ next_setup (8 + length (frames bodies)) (length (renewal_body scripts)) m (Some scripts)
renewed_push exact texts shelf bodies m scripts makes unfed fits read =
    let place = 8 + length (frames bodies) in
    with_push texts shelf 8 bodies (renewal_body scripts) nothing
    ∙ next_made texts shelf place (renewal_body scripts) (book_of texts shelf bodies) m (renewal_of scripts) makes unfed (exact.back (renewal_of scripts) fits) refl
    ∙ ap (next_setup place (length (renewal_body scripts)) m) read

-- the first record of a journal makes an empty book
pub made_first : AreRecordsExact → (texts : Texts) (shelf : ℕ) (scripts : List Named) → IsInGrammar (begin_of shelf scripts) → IsRead texts scripts
    → book_of texts shelf (first_body scripts shelf ∷ []) ≡ begun (began false shelf 8 (length (first_body scripts shelf)) scripts)
made_first x texts shelf scripts fits read =
    let n = length (first_body scripts shelf) in
    let same : (shelf == shelf) ≡ true = grind (arith, nat_tests) in
    ap (start_by texts shelf 8 n) (x.back (begin_of shelf scripts) fits)
    ∙ ap (first_setup false shelf 8 n shelf) read
    ∙ ap (λ (t : Bool). if t then begun (began false shelf 8 n scripts) else other 8) same
