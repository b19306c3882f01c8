-- What the records of a journal told, and what the pages of the book have of it.
use Rattle.std.proofs.Common.{◌≡◌, ◌∙◌, ap, sym, subst, refl, ℕ, ◌+◌, ◌==◌, ◌++◌, ◌∷◌, [], Bool, true, false, List, length, Option, Some, None, Contains, inl, inr, arith}
use Rattle.std.specs.Prelude.{if◌then◌else◌, nat_le, nat_lt, ⊤}
use Rattle.replay_spec.specs.Admission.{when}
use Rattle.std.proofs.lemmas.Bool.Decides.{nat_tests}
use Rattle.script_value.specs.declared.outcome.TxName.{TxName}
use Rattle.script_nodes.specs.Setup.{Named}
use Rattle.book_recovery.specs.SetupReader.Texts.{setup_of_texts as texts}
use Rattle.page_journal.specs.Records.{frames}
use Rattle.replay_spec.specs.Book.{Change, sweeps, Book}
use Rattle.replay_spec.specs.Recovery.{number_in, with_number}
use Rattle.replay_spec.specs.Invariant.{Among}
use Rattle.replay_spec.specs.Remade.{AreUsed}
use Rattle.replay_spec.proofs.Stand.{among_of}
use Rattle.machine_states.specs.Machine.{Suspended, inside_of}
use Rattle.journal_records.specs.Records.{Record, begins, changes, renews, draws, follows, promotes, IsInGrammar}
use Rattle.journal_records.specs.Reading.{read_record}
use Rattle.journal_records.specs.Laws.{AreRecordsExact}
use Rattle.book_recovery.specs.JournalSpec.Before.{States, state_at, Earlier, Made, made_of}
use Rattle.book_recovery.specs.JournalSpec.Retaking.{Told, unread, misread, told, told_in, held, landing, states_with, retaken}
use Rattle.book_recovery.specs.JournalSpec.Making.{Making, nothing, waits, waited, begun, made, damaged, other, has_script, waiting, began, first_setup, told_next, next_setup, promoted_by, first_by, start_by, fed_by, next_by, second_by, with_body, with_bodies, made_in, book_of}
use Rattle.book_recovery.specs.JournalSpec.Keeping.{IsTakenAs, IsTaken, Keeps, body_by}
use Rattle.book_recovery.proofs.JournalSpec.Makings.{made_push}
use Rattle.book_recovery.proofs.JournalSpec.Retaken.{held_script}
use Rattle.book_recovery.proofs.JournalSpec.Taking.{IsNew, there, moved_in}
use Rattle.book_recovery.specs.InstanceBook.declared.book.Book as kept
use Rattle.book_recovery.proofs.InstanceBook.Given.{more_given}
use Rattle.book_recovery.specs.Found.{HasToldStates}

-- ---- states are told of numbers that were seen

abbrev Known : Earlier → Type 0
Known e = (n : ℕ) (d : Suspended) → state_at n e.states ≡ Some d → Among n e.seen

abbrev IsKnown : Making → Type 0
IsKnown (begun m) = Known m.earlier
IsKnown (made m) = Known m.earlier
IsKnown _ = ⊤

seen_more : (number : Option ℕ) (n : ℕ) (seen : List ℕ) → Among n seen → Among n (with_number number seen)
seen_more None n seen h = h
seen_more (Some m) n seen h = inr h

known_with : (names : Option (List TxName)) (number : Option ℕ) (x : Told) (e : Earlier) → Known e → Known (record { seen = with_number number e.seen; states = states_with names number x e.states })
known_with None number x e h n d is = seen_more number n e.seen (h n d is)
known_with (Some names) None x e h n d is = h n d is
known_with (Some names) (Some m) unread e h n d is = inr (h n d is)
known_with (Some names) (Some m) misread e h n d is = inr (h n d is)
known_with (Some names) (Some m) (told f) e h n d is = by_test (m == n) refl is
  where
    by_test : (t : Bool) → (m == n) ≡ t → (if t then Some f else state_at n e.states) ≡ Some d → Among n (m ∷ e.seen)
    by_test true same has = inl (grind (arith, nat_tests, same))
    by_test false same has = inr (h n d has)

known_told : (place n : ℕ) (m : Made) (c : Change) (x : Told) → Known m.earlier → IsKnown (told_next place n m c x)
known_told place n m c unread h = known_with (landing m c []) (number_in c) unread m.earlier h
known_told place n m c misread h = tt
known_told place n m c (told d) h = known_with (landing m c (inside_of d.frames)) (number_in c) (told d) m.earlier h

known_setup : (place n : ℕ) (m : Made) (o : Option (List Named)) → Known m.earlier → IsKnown (next_setup place n m o)
known_setup place n m None h = tt
known_setup place n m (Some scripts) h = h

known_promoted : (place n : ℕ) (m : Made) (fed : Bool) → Known m.earlier → IsKnown (promoted_by place n m fed)
known_promoted place n m true h = h
known_promoted place n m false h = tt

known_next : (place n : ℕ) (m : Made) (r : Option Record) → Known m.earlier → IsKnown (next_by texts place n m r)
known_next place n m None h = tt
known_next place n m (Some (begins s named)) h = tt
known_next place n m (Some (draws number)) h = tt
known_next place n m (Some follows) h = tt
known_next place n m (Some promotes) h = known_promoted place n m m.book.follows h
known_next place n m (Some (renews named)) h = known_setup place n m (texts named) h
known_next place n m (Some (changes c state)) h = by_test (has_script (length m.book.scripts) c)
  where
    by_test : (t : Bool) → IsKnown (if t then told_next place n m c (told_in m.earlier m.book c state) else damaged place)
    by_test false = tt
    by_test true = known_told place n m c (told_in m.earlier m.book c state) h

known_second : (place n : ℕ) (m : Made) (r : Option Record) → Known m.earlier → IsKnown (second_by texts place n m r)
known_second place n m None h = tt
known_second place n m (Some (begins s named)) h = tt
known_second place n m (Some (draws number)) h = h
known_second place n m (Some follows) h = tt
known_second place n m (Some promotes) h = known_promoted place n m m.book.follows h
known_second place n m (Some (renews named)) h = known_setup place n m (texts named) h
known_second place n m (Some (changes c state)) h = known_next place n m (Some (changes c state)) h

known_began : (fed : Bool) (shelf place n s : ℕ) (o : Option (List Named)) → IsKnown (first_setup fed shelf place n s o)
known_began fed shelf place n s None = tt
known_began fed shelf place n s (Some scripts) = by_test (s == shelf)
  where
    by_test : (t : Bool) → IsKnown (if t then begun (began fed shelf place n scripts) else other place)
    by_test true = λ k d is. absurd (let no : ⊥ = cc in no)
    by_test false = tt

known_first : (fed : Bool) (shelf place n : ℕ) (r : Option Record) → IsKnown (first_by texts fed shelf place n r)
known_first fed shelf place n None = tt
known_first fed shelf place n (Some (changes c state)) = tt
known_first fed shelf place n (Some (renews named)) = tt
known_first fed shelf place n (Some (draws number)) = tt
known_first fed shelf place n (Some follows) = tt
known_first fed shelf place n (Some promotes) = tt
known_first fed shelf place n (Some (begins s named)) = known_began fed shelf place n s (texts named)

known_start : (shelf place n : ℕ) (r : Option Record) → IsKnown (start_by texts shelf place n r)
known_start shelf place n None = tt
known_start shelf place n (Some (changes c state)) = tt
known_start shelf place n (Some (renews named)) = tt
known_start shelf place n (Some (draws number)) = tt
known_start shelf place n (Some follows) = tt
known_start shelf place n (Some promotes) = tt
known_start shelf place n (Some (begins s named)) = known_began false shelf place n s (texts named)

known_fed : (shelf place n : ℕ) (r : Option Record) → IsKnown (fed_by texts shelf place n r)
known_fed shelf place n None = tt
known_fed shelf place n (Some (changes c state)) = tt
known_fed shelf place n (Some (renews named)) = tt
known_fed shelf place n (Some (draws number)) = tt
known_fed shelf place n (Some follows) = tt
known_fed shelf place n (Some promotes) = tt
known_fed shelf place n (Some (begins s named)) = known_began true shelf place n s (texts named)

known_body : (shelf place : ℕ) (body : List ℕ) (x : Making) → IsKnown x → IsKnown (with_body texts shelf place body x)
known_body shelf place body nothing h = known_start shelf place (length body) (read_record body)
known_body shelf place body (waits s) h = known_fed shelf place (length body) (read_record body)
known_body shelf place body waited h = known_first false shelf place (length body) (read_record body)
known_body shelf place body (begun m) h = known_second place (length body) m (read_record body) h
known_body shelf place body (made m) h = known_next place (length body) m (read_record body) h
known_body shelf place body (damaged p) h = tt
known_body shelf place body (other p) h = tt

known_bodies : (shelf place : ℕ) (bodies : List (List ℕ)) (x : Making) → IsKnown x → IsKnown (with_bodies texts shelf place bodies x)
known_bodies shelf place [] x h = h
known_bodies shelf place (body ∷ bodies) x h =
    known_bodies shelf (place + 5 + length body) bodies (with_body texts shelf place body x) (known_body shelf place body x h)

known_in : (x : Making) (m : Made) → made_in x ≡ Some m → IsKnown x → Known m.earlier
known_in nothing m is h = absurd (let no : ⊥ = cc is in no)
known_in waited m is h = absurd (let no : ⊥ = cc is in no)
known_in (waits s) m is h = let same : waiting s ≡ m = cc is in subst (λ (y : Made). Known y.earlier) same (λ k d e. absurd (let no : ⊥ = cc e in no))
known_in (begun k) m is h = let same : k ≡ m = cc is in subst (λ (y : Made). Known y.earlier) same h
known_in (made k) m is h = let same : k ≡ m = cc is in subst (λ (y : Made). Known y.earlier) same h
known_in (damaged p) m is h = absurd (let no : ⊥ = cc is in no)
known_in (other p) m is h = absurd (let no : ⊥ = cc is in no)

known : (shelf : ℕ) (bodies : List (List ℕ)) (m : Made) → made_in (book_of texts shelf bodies) ≡ Some m → Known m.earlier
known shelf bodies m is = known_in (book_of texts shelf bodies) m is (known_bodies shelf 8 bodies nothing tt)

-- ---- what is told with one record more

-- what would be taken is of a script of the setup
taken_script : (b : Book) (c : Change) (inside : List TxName) (x : Told) → IsTakenAs b c inside x → has_script (length b.scripts) c ≡ true
taken_script b c inside unread h = held_script b c [] [] h.0
taken_script b c inside misread h = absurd h
taken_script b c inside (told d) h = held_script b c inside inside h.0

same_made : (x : Making) (m n : Made) → made_in x ≡ Some m → x ≡ made n → m ≡ n
same_made x m n e f = let both : Some m ≡ Some n = sym e ∙ ap made_in f in cc both

told_then : (place n : ℕ) (b : Book) (earlier : Earlier) (c : Change) (inside : List TxName) (x : Told) (m : Made) → IsTakenAs b c inside x → IsNew earlier.seen c → made_in (told_next place n (made_of b earlier) c x) ≡ Some m
    → m.earlier.states ≡ states_with (Some inside) (number_in c) x earlier.states
told_then place n b earlier c inside unread m taken new is =
    let before = made_of b earlier in
    ap (λ (y : Made). y.earlier.states) (same_made (told_next place n before c unread) m (retaken n c (landing before c []) unread before) is refl)
    ∙ ap (λ (o : Option (List TxName)). states_with o (number_in c) unread earlier.states) (there b earlier c [] taken.0 new)
told_then place n b earlier c inside misread m taken new is = absurd taken
told_then place n b earlier c inside (told d) m taken new is =
    let before = made_of b earlier in
    let names = inside_of d.frames in
    let can : held b c names ≡ Some names = subst (λ (ns : List TxName). held b c ns ≡ Some ns) (sym taken.1) taken.0 in
    ap (λ (y : Made). y.earlier.states) (same_made (told_next place n before c (told d)) m (retaken n c (landing before c names) (told d) before) is refl)
    ∙ ap (λ (o : Option (List TxName)). states_with o (number_in c) (told d) earlier.states) (there b earlier c names can new)

pub told_landed : AreRecordsExact → (shelf : ℕ) (bodies : List (List ℕ)) (b : Book) (c : Change) (state : Option (List ℕ)) (inside : List TxName) (k : Keeps texts shelf bodies b)
    → IsInGrammar (changes c state) → IsTaken k.earlier b c state inside → IsNew k.earlier.seen c → b.follows ≡ false → (m : Made) → made_in (book_of texts shelf (bodies ++ body_by c state ∷ [])) ≡ Some m
    → m.earlier.states ≡ states_with (Some inside) (number_in c) (told_in k.earlier b c state) k.earlier.states
told_landed exact shelf bodies b c state inside k fits taken new leads m is =
    let script : has_script (length b.scripts) c ≡ true = taken_script b c inside (told_in k.earlier b c state) taken in
    let push = made_push exact texts shelf bodies (made_of b k.earlier) c state (told_in k.earlier b c state) k.makes leads fits script (moved_in k.earlier b b.logged [] None c state) in
    told_then (8 + length (frames bodies)) (length (body_by c state)) b k.earlier c inside (told_in k.earlier b c state) m taken new (ap made_in (sym push) ∙ is)

-- ---- a number that is out was told of no state

module _ (b : Book) (k : ℕ) (out : Contains b.out k) (shelf : ℕ) (bodies : List (List ℕ)) (m : Made) (makes : made_in (book_of texts shelf bodies) ≡ Some m) (used : AreUsed m.earlier.seen b) where
  abbrev before : States
  before = m.earlier.states

  not_told : (d : Suspended) → state_at k before ≡ Some d → ⊥
  not_told d is = used k (known shelf bodies m makes k d is) (inl (among_of b.out k out))

  -- so each goes on to have its own where that one is told
  pub still_told : (d e : Suspended) (n : ℕ) → state_at n before ≡ Some e → state_at n ((k, d) ∷ before) ≡ Some e
  still_told d e n is = by_test (k == n) refl
    where
      by_test : (t : Bool) → (k == n) ≡ t → (if t then Some d else state_at n before) ≡ Some e
      by_test true same = absurd (let here : n ≡ k = grind (arith, nat_tests, same) in not_told e (subst (λ (j : ℕ). state_at j before ≡ Some e) here is))
      by_test false same = is

  pub now_told : (d : Suspended) → state_at k ((k, d) ∷ before) ≡ Some d
  now_told d = let same : (k == k) ≡ true = grind (arith, nat_tests) in ap (λ (t : Bool). if t then Some d else state_at k before) same

  pub stay_told : (d : Suspended) (all : List Named) (book : kept.Book) → HasToldStates all before book → HasToldStates all ((k, d) ∷ before) book
  stay_told d all book has = more_given (λ n. state_at n before) (λ n. state_at n ((k, d) ∷ before)) (λ n e. still_told d e n) all book has

-- ---- a sweep is told of no state

pub swept_told : AreRecordsExact → (all : List Named) (shelf : ℕ) (bodies : List (List ℕ)) (b : Book) (tick : ℕ) → nat_le tick b.clock ≡ false → (k : Keeps texts shelf bodies b) → IsInGrammar (changes (sweeps tick) None) → b.follows ≡ false
    → (m : Made) → made_in (book_of texts shelf (bodies ++ body_by (sweeps tick) None ∷ [])) ≡ Some m → (old new : kept.Book) → ((states : States) → HasToldStates all states old → HasToldStates all states new)
    → ((n : Made) → made_in (book_of texts shelf bodies) ≡ Some n → HasToldStates all n.earlier.states old) → HasToldStates all m.earlier.states new
swept_told exact all shelf bodies b tick late k fits leads m is old new stay had =
    let over : nat_lt b.clock tick ≡ true = grind (arith, nat_tests, late) in
    let taken : IsTaken k.earlier b (sweeps tick) None [] = (ap (λ (t : Bool). when t []) over, refl) in
    let same : m.earlier.states ≡ k.earlier.states = told_landed exact shelf bodies b (sweeps tick) None [] k fits taken (λ n e. absurd e) leads m is in
    subst (λ (states : States). HasToldStates all states new) (sym same) (stay k.earlier.states (had (made_of b k.earlier) k.makes))
