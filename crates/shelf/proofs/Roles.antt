-- Files of older formats, whose records tell of no shelf that follows another one's journal.
use Rattle.std.proofs.Common.{◌≡◌, ◌∙◌, sym, subst, refl, ℕ, ◌==◌, ◌+◌, Bool, true, false, List, [], ◌∷◌, length, Option, Some, None, if◌then◌else◌, inl, inr, arith}
use Rattle.std.specs.Prelude.{⊤}
use Rattle.std.proofs.lemmas.Bool.Decides.{nat_tests}
use Rattle.std.proofs.lemmas.Option.{none-some}
use Rattle.script_nodes.specs.Setup.{Named}
use Rattle.script_value.specs.declared.outcome.TxName.{TxName}
use Rattle.book_recovery.specs.SetupReader.Texts.{setup_of_texts as texts}
use Rattle.value_bytes.specs.Laws.{AreBytes}
use Rattle.value_bytes.proofs.Trees.{chosen}
use Rattle.page_journal.specs.Records.{newest, is_format}
use Rattle.replay_spec.specs.Book.{Change}
use Rattle.replay_spec.specs.Recovery.{of_length, taken_in, redone}
use Rattle.machine_states.specs.Machine.{inside_of}
use Rattle.journal_records.specs.Records.{Record, begins, changes, renews, draws, follows, promotes, body_of}
use Rattle.journal_records.specs.Old.{lacks, read_record_in}
use Rattle.journal_records.specs.Roles.{tells_role}
use Rattle.journal_records.proofs.Exact.{alone_some}
use Rattle.journal_records.proofs.Older.{record_alike}
use Rattle.book_recovery.specs.JournalSpec.Before.{Made, plain}
use Rattle.book_recovery.specs.JournalSpec.Retaking.{Told, unread, misread, told, landing}
use Rattle.book_recovery.specs.JournalSpec.Making.{Making, nothing, waits, waited, begun, made, damaged, other, has_script, began, first_setup, start_by, told_next, next_setup, promoted_by, made_in}
use Rattle.book_recovery.specs.JournalSpec.Old.{change_next, next_at, second_at, with_body_at, with_bodies_at, book_of_format}
use Rattle.book_recovery.specs.JournalSpec.Reading.{AreAllBytes}

-- a format that is older than the newest
pub record IsOlder (f : ℕ) : Type 0 where
  pub known : is_format f ≡ true
  pub old : f ≡ newest → ⊥

-- it lacks the two records
lacks_them : (f : ℕ) → IsOlder f → (lacks f 8 ≡ true) × (lacks f 9 ≡ true)
lacks_them f o = let known = o.known in let old = o.old in (grind (arith, nat_tests, known, old), grind (arith, nat_tests, known, old))

no_follow : (f : ℕ) (r : Record) → lacks f 8 ≡ true → read_record_in f (body_of follows) ≡ Some r → ⊥
unfolding read_record_in
no_follow f r lack e =
    elim (chosen (lacks f 8) _ _ _ (alone_some _ r e)) [
      | inl t ↦ none-some (r, []) t.1
      | inr n ↦ let no : true ≡ false = sym lack ∙ n.0 in cc no
    ]

no_promoted : (f : ℕ) (r : Record) → lacks f 9 ≡ true → read_record_in f (body_of promotes) ≡ Some r → ⊥
unfolding read_record_in
no_promoted f r lack e =
    elim (chosen (lacks f 9) _ _ _ (alone_some _ r e)) [
      | inl t ↦ none-some (r, []) t.1
      | inr n ↦ let no : true ≡ false = sym lack ∙ n.0 in cc no
    ]

-- so a record of this format tells of no role
pub tells_none : (f : ℕ) (body : List ℕ) (r : Record) → IsOlder f → AreBytes body → read_record_in f body ≡ Some r → tells_role r ≡ false
tells_none f body (begins s named) o small e = refl
tells_none f body (changes c state) o small e = refl
tells_none f body (renews named) o small e = refl
tells_none f body (draws number) o small e = refl
tells_none f body follows o small e =
    let spelled : body ≡ body_of follows = (record_alike f body follows small e tt).spelled in
    absurd (no_follow f follows (lacks_them f o).0 (subst (λ (b : List ℕ). read_record_in f b ≡ Some follows) spelled e))
tells_none f body promotes o small e =
    let spelled : body ≡ body_of promotes = (record_alike f body promotes small e tt).spelled in
    absurd (no_promoted f promotes (lacks_them f o).1 (subst (λ (b : List ℕ). read_record_in f b ≡ Some promotes) spelled e))

-- what was made is no shelf that follows, or has followed
abbrev pub IsUnfed : Making → Type 0
IsUnfed (waits s) = ⊥
IsUnfed waited = ⊥
IsUnfed (begun m) = m.book.follows ≡ false
IsUnfed (made m) = m.book.follows ≡ false
IsUnfed _ = ⊤

module _ (f shelf place : ℕ) (o : IsOlder f) where
  unfed_setup : (n s : ℕ) (x : Option (List Named)) → IsUnfed (first_setup false shelf place n s x)
  unfed_setup n s None = tt
  unfed_setup n s (Some scripts) = by_test (s == shelf)
    where
      by_test : (t : Bool) → IsUnfed (if t then begun (began false shelf place n scripts) else other place)
      by_test true = refl
      by_test false = tt

  unfed_first : (body : List ℕ) (r : Option Record) → AreBytes body → read_record_in f body ≡ r → IsUnfed (start_by texts shelf place (length body) r)
  unfed_first body None small e = tt
  unfed_first body (Some (begins s named)) small e = unfed_setup (length body) s (texts named)
  unfed_first body (Some (changes c state)) small e = tt
  unfed_first body (Some (renews named)) small e = tt
  unfed_first body (Some (draws number)) small e = tt
  unfed_first body (Some promotes) small e = tt
  unfed_first body (Some follows) small e = absurd (let no : true ≡ false = tells_none f body follows o small e in cc no)

  module _ (m : Made) (unfed : m.book.follows ≡ false) where
    redone_stays : (n : ℕ) (c : Change) (names : Option (List TxName)) → (redone (of_length n) c names m.book).follows ≡ false
    redone_stays n c None = unfed
    redone_stays n c (Some names) = unfed

    unfed_told : (n : ℕ) (c : Change) (x : Told) → IsUnfed (told_next place n m c x)
    unfed_told n c unread = redone_stays n c (landing m c [])
    unfed_told n c misread = tt
    unfed_told n c (told d) = redone_stays n c (landing m c (inside_of d.frames))

    unfed_change : (n : ℕ) (c : Change) (state : Option (List ℕ)) → IsUnfed (change_next f place n m c state)
    unfed_change n c state = by_test (f == 1) _ _ (redone_stays n c (taken_in (plain m) c))
      where
        by_test : (t : Bool) (y : Made) (x : Told) → y.book.follows ≡ false → IsUnfed (if t then made y else told_next place n m c x)
        by_test true y x h = h
        by_test false y x h = unfed_told n c x

    unfed_renewal : (n : ℕ) (x : Option (List Named)) → IsUnfed (next_setup place n m x)
    unfed_renewal n None = tt
    unfed_renewal n (Some scripts) = unfed

    unfed_next : (n : ℕ) (r : Option Record) → IsUnfed (next_at f texts place n m r)
    unfed_next n None = tt
    unfed_next n (Some (begins s named)) = tt
    unfed_next n (Some (changes c state)) = by_test (has_script (length m.book.scripts) c)
      where
        by_test : (t : Bool) → IsUnfed (if t then change_next f place n m c state else damaged place)
        by_test true = unfed_change n c state
        by_test false = tt
    unfed_next n (Some (renews named)) = unfed_renewal n (texts named)
    unfed_next n (Some (draws number)) = tt
    unfed_next n (Some follows) = tt
    unfed_next n (Some promotes) = subst (λ (t : Bool). IsUnfed (promoted_by place n m t)) (sym unfed) tt

    unfed_second : (n : ℕ) (r : Option Record) → IsUnfed (second_at f texts place n m r)
    unfed_second n None = tt
    unfed_second n (Some (begins s named)) = tt
    unfed_second n (Some (changes c state)) = unfed_next n (Some (changes c state))
    unfed_second n (Some (renews named)) = unfed_renewal n (texts named)
    unfed_second n (Some (draws number)) = unfed
    unfed_second n (Some follows) = tt
    unfed_second n (Some promotes) = unfed_next n (Some promotes)

  unfed_body : (body : List ℕ) (x : Making) → AreBytes body → IsUnfed x → IsUnfed (with_body_at f texts shelf place body x)
  unfed_body body nothing small h = unfed_first body (read_record_in f body) small refl
  unfed_body body (waits s) small h = absurd h
  unfed_body body waited small h = absurd h
  unfed_body body (begun m) small h = unfed_second m h (length body) (read_record_in f body)
  unfed_body body (made m) small h = unfed_next m h (length body) (read_record_in f body)
  unfed_body body (damaged p) small h = tt
  unfed_body body (other p) small h = tt

unfed_bodies : (f shelf place : ℕ) (o : IsOlder f) (bodies : List (List ℕ)) (x : Making) → AreAllBytes bodies → IsUnfed x → IsUnfed (with_bodies_at f texts shelf place bodies x)
unfed_bodies f shelf place o [] x small h = h
unfed_bodies f shelf place o (body ∷ bodies) x small h =
    unfed_bodies f shelf (place + 5 + length body) o bodies (with_body_at f texts shelf place body x) small.1 (unfed_body f shelf place o body x small.0 h)

pub older_unfed : (f shelf : ℕ) (bodies : List (List ℕ)) → IsOlder f → AreAllBytes bodies → IsUnfed (book_of_format f texts shelf bodies)
older_unfed f shelf bodies o small = unfed_bodies f shelf 8 o bodies nothing small tt

pub unfed_made : (x : Making) (m : Made) → IsUnfed x → made_in x ≡ Some m → m.book.follows ≡ false
unfed_made nothing m h e = absurd (none-some m e)
unfed_made (waits s) m h e = absurd h
unfed_made waited m h e = absurd h
unfed_made (begun n) m h e = let same : n ≡ m = cc e in subst (λ (y : Made). y.book.follows ≡ false) same h
unfed_made (made n) m h e = let same : n ≡ m = cc e in subst (λ (y : Made). y.book.follows ≡ false) same h
unfed_made (damaged p) m h e = absurd (none-some m e)
unfed_made (other p) m h e = absurd (none-some m e)
