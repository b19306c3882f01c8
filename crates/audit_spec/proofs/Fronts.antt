-- Each front of a file that is answered yes makes a book.
use Rattle.std.proofs.Common.{◌≡◌, ◌==◌, ℕ, ◌+◌, Bool, true, false, List, [], ◌∷◌, ◌++◌, length, if◌then◌else◌, Option, Some, None, refl, subst, ◌⊎◌, inl, inr}
use Rattle.std.specs.Prelude.{⊤}
use Rattle.script_nodes.specs.Setup.{Named}
use Rattle.replay_spec.specs.Book.{Change}
use Rattle.replay_spec.specs.Recovery.{taken_in}
use Rattle.journal_records.specs.Records.{Record, begins, changes, renews, draws, follows, promotes}
use Rattle.journal_records.specs.Old.{read_record_in}
use Rattle.journal_spec.specs.Before.{Made, plain}
use Rattle.journal_spec.specs.Retaking.{Told, unread, misread, told, retaken}
use Rattle.journal_spec.specs.Lengths.{own_told}
use Rattle.journal_spec.specs.Making.{Texts, Making, nothing, waited, waits, begun, made, damaged, other, has_script, waiting, began, first_setup, first_by, start_by, fed_by, told_next, next_setup, promoted_by, made_in}
use Rattle.journal_spec.specs.Old.{told_at, change_next, next_at, second_at, with_body_at, with_bodies_at, book_of_format}
use Rattle.audit_spec.proofs.Held.{IsHeld, held_before}

-- ---- what is damaged stays so

held_front : (format : ℕ) (texts : Texts) (shelf place : ℕ) (front rest : List (List ℕ)) (x : Making) → IsHeld (with_bodies_at format texts shelf place (front ++ rest) x)
    → IsHeld (with_bodies_at format texts shelf place front x)
held_front format texts shelf place [] rest x h = held_before format texts shelf place rest x h
held_front format texts shelf place (body ∷ front) rest x h =
    held_front format texts shelf (place + 5 + length body) front rest (with_body_at format texts shelf place body x) h

-- ---- each body makes something

-- there are records
abbrev IsThere : Making → Type 0
IsThere nothing = ⊥
IsThere _ = ⊤

first_there : (texts : Texts) (fed : Bool) (shelf place n : ℕ) (r : Option Record) → IsThere (first_by texts fed shelf place n r)
first_there texts fed shelf place n None = tt
first_there texts fed shelf place n (Some (changes c state)) = tt
first_there texts fed shelf place n (Some (renews named)) = tt
first_there texts fed shelf place n (Some (draws number)) = tt
first_there texts fed shelf place n (Some follows) = tt
first_there texts fed shelf place n (Some promotes) = tt
first_there texts fed shelf place n (Some (begins s named)) = by_setup (texts named)
  where
    by_test : (scripts : List Named) (t : Bool) → IsThere (if t then begun (began fed shelf place n scripts) else other place)
    by_test scripts true = tt
    by_test scripts false = tt

    by_setup : (o : Option (List Named)) → IsThere (first_setup fed shelf place n s o)
    by_setup None = tt
    by_setup (Some scripts) = by_test scripts (s == shelf)

start_there : (texts : Texts) (shelf place n : ℕ) (r : Option Record) → IsThere (start_by texts shelf place n r)
start_there texts shelf place n None = tt
start_there texts shelf place n (Some follows) = tt
start_there texts shelf place n (Some promotes) = tt
start_there texts shelf place n (Some (changes c state)) = tt
start_there texts shelf place n (Some (renews named)) = tt
start_there texts shelf place n (Some (draws number)) = tt
start_there texts shelf place n (Some (begins s named)) = first_there texts false shelf place n (Some (begins s named))

fed_there : (texts : Texts) (shelf place n : ℕ) (r : Option Record) → IsThere (fed_by texts shelf place n r)
fed_there texts shelf place n None = tt
fed_there texts shelf place n (Some follows) = tt
fed_there texts shelf place n (Some promotes) = tt
fed_there texts shelf place n (Some (changes c state)) = tt
fed_there texts shelf place n (Some (renews named)) = tt
fed_there texts shelf place n (Some (draws number)) = tt
fed_there texts shelf place n (Some (begins s named)) = first_there texts true shelf place n (Some (begins s named))

told_there : (place n : ℕ) (m : Made) (c : Change) (x : Told) → IsThere (told_next place n m c x)
told_there place n m c unread = tt
told_there place n m c misread = tt
told_there place n m c (told d) = tt

change_there : (format place n : ℕ) (m : Made) (c : Change) (state : Option (List ℕ)) → IsThere (change_next format place n m c state)
change_there format place n m c state = by_test (format == 1)
  where
    by_test : (t : Bool) → IsThere (if t then made (retaken n c (taken_in (plain m) c) (own_told m.book c) m) else told_next place n m c (told_at format m.earlier m.book c state))
    by_test true = tt
    by_test false = told_there place n m c (told_at format m.earlier m.book c state)

setup_there : (place n : ℕ) (m : Made) (o : Option (List Named)) → IsThere (next_setup place n m o)
setup_there place n m None = tt
setup_there place n m (Some scripts) = tt

promoted_there : (place n : ℕ) (m : Made) (fed : Bool) → IsThere (promoted_by place n m fed)
promoted_there place n m true = tt
promoted_there place n m false = tt

next_there : (format : ℕ) (texts : Texts) (place n : ℕ) (m : Made) (r : Option Record) → IsThere (next_at format texts place n m r)
next_there format texts place n m None = tt
next_there format texts place n m (Some (begins s named)) = tt
next_there format texts place n m (Some (draws number)) = tt
next_there format texts place n m (Some follows) = tt
next_there format texts place n m (Some promotes) = promoted_there place n m m.book.follows
next_there format texts place n m (Some (renews named)) = setup_there place n m (texts named)
next_there format texts place n m (Some (changes c state)) = by_test (has_script (length m.book.scripts) c)
  where
    by_test : (t : Bool) → IsThere (if t then change_next format place n m c state else damaged place)
    by_test true = change_there format place n m c state
    by_test false = tt

second_there : (format : ℕ) (texts : Texts) (place n : ℕ) (m : Made) (r : Option Record) → IsThere (second_at format texts place n m r)
second_there format texts place n m None = tt
second_there format texts place n m (Some (begins s named)) = tt
second_there format texts place n m (Some (draws number)) = tt
second_there format texts place n m (Some follows) = tt
second_there format texts place n m (Some promotes) = promoted_there place n m m.book.follows
second_there format texts place n m (Some (renews named)) = next_there format texts place n m (Some (renews named))
second_there format texts place n m (Some (changes c state)) = next_there format texts place n m (Some (changes c state))

body_there : (format : ℕ) (texts : Texts) (shelf place : ℕ) (body : List ℕ) (x : Making) → IsThere (with_body_at format texts shelf place body x)
body_there format texts shelf place body nothing = start_there texts shelf place (length body) (read_record_in format body)
body_there format texts shelf place body (waits s) = fed_there texts shelf place (length body) (read_record_in format body)
body_there format texts shelf place body waited = first_there texts false shelf place (length body) (read_record_in format body)
body_there format texts shelf place body (begun m) = second_there format texts place (length body) m (read_record_in format body)
body_there format texts shelf place body (made m) = next_there format texts place (length body) m (read_record_in format body)
body_there format texts shelf place body (damaged p) = tt
body_there format texts shelf place body (other p) = tt

bodies_there : (format : ℕ) (texts : Texts) (shelf place : ℕ) (bodies : List (List ℕ)) (x : Making) → IsThere x → IsThere (with_bodies_at format texts shelf place bodies x)
bodies_there format texts shelf place [] x h = h
bodies_there format texts shelf place (body ∷ bodies) x h =
    bodies_there format texts shelf (place + 5 + length body) bodies (with_body_at format texts shelf place body x) (body_there format texts shelf place body x)

made_there : (x : Making) → IsHeld x → IsThere x → (x ≡ waited) ⊎ ((m : Made) × (made_in x ≡ Some m))
made_there nothing held h = absurd h
made_there (waits s) held h = inr (waiting s, refl)
made_there waited held h = inl refl
made_there (begun m) held h = inr (m, refl)
made_there (made m) held h = inr (m, refl)
made_there (damaged p) held h = absurd held
made_there (other p) held h = absurd held

-- the first bodies of a file that is not damaged make a book, or tell of following alone
pub front_makes : (format : ℕ) (texts : Texts) (shelf : ℕ) (bodies : List (List ℕ)) → IsHeld (book_of_format format texts shelf bodies) → (first : List ℕ) (front rest : List (List ℕ))
    → bodies ≡ (first ∷ front) ++ rest
    → (book_of_format format texts shelf (first ∷ front) ≡ waited) ⊎ ((m : Made) × (made_in (book_of_format format texts shelf (first ∷ front)) ≡ Some m))
front_makes format texts shelf bodies held first front rest is =
    let one = with_body_at format texts shelf 8 first nothing in
    made_there (book_of_format format texts shelf (first ∷ front))
    (held_front format texts shelf 8 (first ∷ front) rest nothing (subst (λ (bs : List (List ℕ)). IsHeld (book_of_format format texts shelf bs)) is held))
    (bodies_there format texts shelf (8 + 5 + length first) front one (body_there format texts shelf 8 first nothing))
