-- What an audit finds in bodies, record by record.
use Rattle.std.proofs.Common.{◌≡◌, ℕ, ◌+◌, ◌==◌, List, [], ◌∷◌, ◌++◌, length, Option, Some, None, Bool, true, false, refl, sym, ap, subst, ◌∙◌, arith, if◌then◌else◌, inl, inr, ◌⊎◌, ⊎_elim}
use Rattle.std.proofs.lemmas.Bool.Decides.{nat_tests}
use Rattle.std.proofs.lemmas.List.{append-nil}
use Rattle.std.proofs.lemmas.Option.{same_Some}
use Rattle.script_nodes.specs.Setup.{Named}
use Rattle.journal_records.specs.Records.{Record, begins, changes, renews, draws, follows, promotes}
use Rattle.journal_records.specs.Old.{read_record_in}
use Rattle.journal_spec.specs.Before.{Made}
use Rattle.journal_spec.specs.Making.{Texts, Making, nothing, waits, waited, waiting, begun, made, damaged, other, first_setup, first_by, start_by, fed_by, made_in}
use Rattle.journal_spec.specs.Old.{with_body_at, with_bodies_at, book_of_format}
use Rattle.journal_spec.proofs.OwnStates.{HoldsAt, HoldFrom, HoldIn}
use Rattle.journal_spec.proofs.Walking.{no_book}
use Rattle.journal_spec.proofs.Copying.{first_is}
use Rattle.audit_spec.specs.declared.word.Word.{Word}
use Rattle.audit_spec.specs.Findings.{fault_of, Finding, found_at, first_found, found_in, first_finding, yes, answer_by, answer_over, shelf_by, shelf_in, audited}
use Rattle.audit_spec.specs.Honest.{FindsNothing}
use Rattle.audit_spec.proofs.Held.{IsHeld, held_before, made_held, fed_clear}

-- a record has no word, after what was made
abbrev pub IsClear : (format : ℕ) → Made → Option Record → Type 0
IsClear format m r = fault_of format m r ≡ None

-- none of these bodies has a word, the gate of the first at this place
abbrev pub AreClear : (format : ℕ) → Texts → (shelf place : ℕ) → List (List ℕ) → Making → Type 0
AreClear format texts shelf place bodies x = HoldFrom (IsClear format) format texts shelf place bodies x

-- ---- what is found

clear_here : (format : ℕ) (texts : Texts) (shelf place : ℕ) (body : List ℕ) (x : Making) → IsHeld (with_body_at format texts shelf place body x) → HoldsAt (IsClear format) format x body
    → found_in format place body (made_in x) ≡ None
clear_here format texts shelf place body nothing held h = refl
clear_here format texts shelf place body waited held h = refl
clear_here format texts shelf place body (waits s) held h =
    ap (found_at place) (fed_clear format texts shelf place (length body) (waiting s) (read_record_in format body) held)
clear_here format texts shelf place body (begun m) held h = ap (found_at place) h
clear_here format texts shelf place body (made m) held h = ap (found_at place) h
clear_here format texts shelf place body (damaged p) held h = refl
clear_here format texts shelf place body (other p) held h = refl

pub none_found : (format : ℕ) (texts : Texts) (shelf place : ℕ) (bodies : List (List ℕ)) (x : Making) → IsHeld (with_bodies_at format texts shelf place bodies x)
    → AreClear format texts shelf place bodies x → first_finding format texts shelf place bodies x ≡ None
none_found format texts shelf place [] x held h = refl
none_found format texts shelf place (body ∷ bodies) x held h =
    let later = place + 5 + length body in
    let next = with_body_at format texts shelf place body x in
    ap (λ (o : Option Finding). first_found o (first_finding format texts shelf later bodies next))
    (clear_here format texts shelf place body x (held_before format texts shelf later bodies next held) h.0)
    ∙ none_found format texts shelf later bodies next held h.1

no_word : (place : ℕ) (o : Option Word) → found_at place o ≡ None → o ≡ None
no_word place None e = refl
no_word place (Some w) e = absurd (let never : ⊥ = cc in never)

here_clear : (format place : ℕ) (body : List ℕ) (x : Making) → found_in format place body (made_in x) ≡ None → HoldsAt (IsClear format) format x body
here_clear format place body nothing e = tt
here_clear format place body waited e = tt
here_clear format place body (waits s) e = tt
here_clear format place body (begun m) e = no_word place (fault_of format m (read_record_in format body)) e
here_clear format place body (made m) e = no_word place (fault_of format m (read_record_in format body)) e
here_clear format place body (damaged p) e = tt
here_clear format place body (other p) e = tt

both_none : (o later : Option Finding) → first_found o later ≡ None → (o ≡ None) × (later ≡ None)
both_none None later e = (refl, e)
both_none (Some f) later e = absurd (let never : ⊥ = cc in never)

pub found_none : (format : ℕ) (texts : Texts) (shelf place : ℕ) (bodies : List (List ℕ)) (x : Making) → first_finding format texts shelf place bodies x ≡ None → AreClear format texts shelf place bodies x
found_none format texts shelf place [] x e = tt
found_none format texts shelf place (body ∷ bodies) x e =
    let later = place + 5 + length body in
    let next = with_body_at format texts shelf place body x in
    let both = both_none (found_in format place body (made_in x)) (first_finding format texts shelf later bodies next) e in
    (here_clear format place body x both.0, found_none format texts shelf later bodies next both.1)

module _ (format : ℕ) (texts : Texts) (shelf : ℕ) where
  word_here : (place : ℕ) (x : Making) (body : List ℕ) (m : Made) → IsHeld (with_body_at format texts shelf place body x) → HoldsAt (IsClear format) format x body → made_in x ≡ Some m
      → IsClear format m (read_record_in format body)
  word_here place nothing body m held h e = absurd (let never : ⊥ = cc in never)
  word_here place waited body m held h e = absurd (let never : ⊥ = cc in never)
  word_here place (waits s) body m held h e = fed_clear format texts shelf place (length body) m (read_record_in format body) held
  word_here place (begun k) body m held h e = subst (λ (y : Made). IsClear format y (read_record_in format body)) (same_Some k m e) h
  word_here place (made k) body m held h e = subst (λ (y : Made). IsClear format y (read_record_in format body)) (same_Some k m e) h
  word_here place (damaged p) body m held h e = absurd (let never : ⊥ = cc in never)
  word_here place (other p) body m held h e = absurd (let never : ⊥ = cc in never)

  each_from : (place : ℕ) (all : List (List ℕ)) (x : Making) → IsHeld (with_bodies_at format texts shelf place all x) → AreClear format texts shelf place all x
      → (front rest : List (List ℕ)) (body : List ℕ) (m : Made) → all ≡ front ++ body ∷ rest
      → made_in (with_bodies_at format texts shelf place front x) ≡ Some m → IsClear format m (read_record_in format body)
  each_from place [] x held h [] rest body m is makes = absurd (let never : ⊥ = cc in never)
  each_from place [] x held h (f ∷ front) rest body m is makes = absurd (let never : ⊥ = cc in never)
  each_from place (b ∷ bs) x held h [] rest body m is makes =
      let same : b ≡ body = cc in
      subst (λ (y : List ℕ). IsClear format m (read_record_in format y)) same
      (word_here place x b m (held_before format texts shelf (place + 5 + length b) bs (with_body_at format texts shelf place b x) held) h.0 makes)
  each_from place (b ∷ bs) x held h (f ∷ front) rest body m is makes =
      let same : f ≡ b = cc in
      let others : bs ≡ front ++ body ∷ rest = cc in
      each_from (place + 5 + length b) bs (with_body_at format texts shelf place b x) held h.1 front rest body m others
      (subst (λ (y : List ℕ). made_in (with_bodies_at format texts shelf place (y ∷ front) x) ≡ Some m) same makes)

  -- no record of a file that is not damaged has a word, on what those before it make, where none has from its start on
  pub each_clear : (all : List (List ℕ)) → IsHeld (book_of_format format texts shelf all) → AreClear format texts shelf 8 all nothing → HoldIn (IsClear format) format texts shelf all
  each_clear all held h front rest body m is makes = each_from 8 all nothing held h front rest body m is makes

-- ---- of which shelf a file is

by_test : (shelf s : ℕ) (t : Bool) → (s == shelf) ≡ t → (m n : Made) → (if t then begun m else other 8) ≡ begun n → s ≡ shelf
by_test shelf s true is m n e = grind (arith, nat_tests, is)
by_test shelf s false is m n e = absurd (let never : ⊥ = cc in never)

names_shelf : (shelf n s : ℕ) (m : Made) (o : Option (List Named)) → first_setup false shelf 8 n s o ≡ begun m → s ≡ shelf
names_shelf shelf n s m None e = absurd (let never : ⊥ = cc in never)
names_shelf shelf n s m (Some scripts) e = by_test shelf s (s == shelf) refl _ m e

-- the record that tells a setup names the shelf
first_names : (format : ℕ) (texts : Texts) (fed : Bool) (shelf place n later : ℕ) (bodies : List (List ℕ)) (m : Made) (r : Option Record) (behind : ℕ)
    → made_in (with_bodies_at format texts shelf later bodies (first_by texts fed shelf place n r)) ≡ Some m → shelf_by r behind ≡ shelf
first_names format texts fed shelf place n later bodies m r behind makes =
    let one = first_is format texts fed shelf place n later bodies m r makes in
    ap (λ (o : Option Record). shelf_by o behind) one.read ∙ names_shelf shelf n one.on _ (texts one.named) (sym (ap (first_by texts false shelf 8 n) one.read) ∙ one.is false 8)

-- what bodies make is of the shelf that the first of them names which tells a setup, or they tell of following alone
abbrev pub Shelved : (format shelf : ℕ) → List (List ℕ) → Type 0
Shelved format shelf bodies =
    ((more : List (List ℕ)) → shelf_in format (bodies ++ more) ≡ shelf) ⊎ ((body : List ℕ) × ((bodies ≡ body ∷ []) × (read_record_in format body ≡ Some follows)))

module _ (format : ℕ) (texts : Texts) (shelf : ℕ) where
  third_names : (place : ℕ) (bodies : List (List ℕ)) (m : Made) → made_in (with_bodies_at format texts shelf place bodies waited) ≡ Some m → (more : List (List ℕ)) → shelf_in format (bodies ++ more) ≡ shelf
  third_names place [] m makes more = absurd (let never : ⊥ = cc in never)
  third_names place (body ∷ bodies) m makes more =
      first_names format texts false shelf place (length body) (place + 5 + length body) bodies m (read_record_in format body) (shelf_in format (bodies ++ more)) makes

  second_names : (place s : ℕ) (bodies : List (List ℕ)) (m : Made) → made_in (with_bodies_at format texts shelf place bodies (waits s)) ≡ Some m → (bodies ≡ []) ⊎ ((more : List (List ℕ)) → shelf_in format (bodies ++ more) ≡ shelf)
  second_names place s [] m makes = inl refl
  second_names place s (body ∷ bodies) m makes = inr (by_record (read_record_in format body) makes)
    where
      later : ℕ
      later = place + 5 + length body

      by_record : (r : Option Record) → made_in (with_bodies_at format texts shelf later bodies (fed_by texts shelf place (length body) r)) ≡ Some m → (more : List (List ℕ))
          → shelf_by r (shelf_in format (bodies ++ more)) ≡ shelf
      by_record (Some promotes) is more = third_names later bodies m is more
      by_record (Some (begins k named)) is more = first_names format texts true shelf place (length body) later bodies m (Some (begins k named)) (shelf_in format (bodies ++ more)) is
      by_record None is more = absurd (no_book format texts shelf later bodies place m is)
      by_record (Some (changes c state)) is more = absurd (no_book format texts shelf later bodies place m is)
      by_record (Some (renews named)) is more = absurd (no_book format texts shelf later bodies place m is)
      by_record (Some (draws number)) is more = absurd (no_book format texts shelf later bodies place m is)
      by_record (Some follows) is more = absurd (no_book format texts shelf later bodies place m is)

  pub shelf_is : (first : List ℕ) (bodies : List (List ℕ)) (m : Made) → made_in (book_of_format format texts shelf (first ∷ bodies)) ≡ Some m → Shelved format shelf (first ∷ bodies)
  shelf_is first bodies m makes = by_record (read_record_in format first) refl makes
    where
      n : ℕ
      n = length first

      named_so : (r : Option Record) → read_record_in format first ≡ r → ((more : List (List ℕ)) → shelf_by r (shelf_in format (bodies ++ more)) ≡ shelf)
          → Shelved format shelf (first ∷ bodies)
      named_so r e is = inl (λ more. ap (λ (o : Option Record). shelf_by o (shelf_in format (bodies ++ more))) e ∙ is more)

      by_record : (r : Option Record) → read_record_in format first ≡ r → made_in (with_bodies_at format texts shelf (8 + 5 + n) bodies (start_by texts shelf 8 n r)) ≡ Some m
          → Shelved format shelf (first ∷ bodies)
      by_record (Some follows) e is = ⊎_elim
          (λ none. inr (first, (ap (λ (bs : List (List ℕ)). first ∷ bs) none, e)))
          (λ named. named_so (Some follows) e named)
          (second_names (8 + 5 + n) shelf bodies m is)
      by_record (Some (begins k named)) e is =
          named_so (Some (begins k named)) e
          (λ more. first_names format texts false shelf 8 n (8 + 5 + n) bodies m (Some (begins k named)) (shelf_in format (bodies ++ more)) is)
      by_record None e is = absurd (no_book format texts shelf (8 + 5 + n) bodies 8 m is)
      by_record (Some (changes c state)) e is = absurd (no_book format texts shelf (8 + 5 + n) bodies 8 m is)
      by_record (Some (renews named)) e is = absurd (no_book format texts shelf (8 + 5 + n) bodies 8 m is)
      by_record (Some (draws number)) e is = absurd (no_book format texts shelf (8 + 5 + n) bodies 8 m is)
      by_record (Some promotes) e is = absurd (no_book format texts shelf (8 + 5 + n) bodies 8 m is)

-- ---- the answer

over_made : (x : Making) (m : Made) → made_in x ≡ Some m → (n : ℕ) (o : Option Finding) → answer_over x n o ≡ answer_by n o
over_made nothing m e n o = refl
over_made (waits s) m e n o = refl
over_made waited m e n o = refl
over_made (begun k) m e n o = refl
over_made (made k) m e n o = refl
over_made (damaged p) m e n o = absurd (let never : ⊥ = cc in never)
over_made (other p) m e n o = absurd (let never : ⊥ = cc in never)

-- the answer to a file that makes a book
answer_is : (format : ℕ) (texts : Texts) (shelf : ℕ) (first : List ℕ) (bodies : List (List ℕ)) (m : Made) → made_in (book_of_format format texts shelf (first ∷ bodies)) ≡ Some m
    → audited format texts (first ∷ bodies) ≡ answer_by (length (first ∷ bodies)) (first_finding format texts shelf 8 (first ∷ bodies) nothing)
answer_is format texts shelf first bodies m makes =
    let all = first ∷ bodies in
    ⊎_elim
    (λ named.
    let same : shelf_in format all ≡ shelf = ap (shelf_in format) (sym (append-nil all)) ∙ named [] in
    ap (λ (s : ℕ). answer_over (book_of_format format texts s all) (length all) (first_finding format texts s 8 all nothing)) same
    ∙ over_made (book_of_format format texts shelf all) m makes (length all) (first_finding format texts shelf 8 all nothing))
    (λ (body, (alone, role)).
    subst (λ (bs : List (List ℕ)). audited format texts bs ≡ answer_by (length bs) (first_finding format texts shelf 8 bs nothing)) (sym alone)
    (ap (λ (o : Option Record). answer_over (start_by texts (shelf_in format (body ∷ [])) 8 (length body) o) 1 None) role))
    (shelf_is format texts shelf first bodies m makes)

-- an audit finds nothing in a file of which no record has a word
pub finds_nothing : (format : ℕ) (texts : Texts) (shelf : ℕ) (first : List ℕ) (bodies : List (List ℕ)) (m : Made) → made_in (book_of_format format texts shelf (first ∷ bodies)) ≡ Some m
    → AreClear format texts shelf 8 (first ∷ bodies) nothing → FindsNothing format texts (first ∷ bodies)
finds_nothing format texts shelf first bodies m makes clear =
    answer_is format texts shelf first bodies m makes ∙ ap (answer_by (length (first ∷ bodies))) (none_found format texts shelf 8 (first ∷ bodies) nothing (made_held (book_of_format format texts shelf (first ∷ bodies)) m makes) clear)

is_yes : (n k : ℕ) (o : Option Finding) → answer_by n o ≡ yes k → o ≡ None
is_yes n k None e = refl
is_yes n k (Some f) e = absurd (let never : ⊥ = cc in never)

-- and where it says yes to a file that makes a book, none has
pub yes_is_clear : (format : ℕ) (texts : Texts) (shelf : ℕ) (first : List ℕ) (bodies : List (List ℕ)) (m : Made) (n : ℕ) → made_in (book_of_format format texts shelf (first ∷ bodies)) ≡ Some m
    → audited format texts (first ∷ bodies) ≡ yes n → AreClear format texts shelf 8 (first ∷ bodies) nothing
yes_is_clear format texts shelf first bodies m n makes says =
    found_none format texts shelf 8 (first ∷ bodies) nothing
    (is_yes (length (first ∷ bodies)) n (first_finding format texts shelf 8 (first ∷ bodies) nothing) (sym (answer_is format texts shelf first bodies m makes) ∙ says))
