-- A shelf follows only where the first record of its file tells so.
use Rattle.std.proofs.Common.{◌≡◌, ℕ, ◌+◌, ◌≤◌, ◌==◌, List, [], ◌∷◌, length, Option, Some, None, Bool, true, false, refl, sym, ap, subst, ◌∙◌, inl, inr, if◌then◌else◌, arith}
use Rattle.std.specs.Prelude.{◌&&◌, nat_lt, ⊤}
use Rattle.std.proofs.lemmas.Bool.Decides.{nat_tests}
use Rattle.std.proofs.lemmas.Option.{none-some}
use Rattle.script_value.specs.declared.outcome.TxName.{TxName}
use Rattle.script_nodes.specs.Setup.{Named}
use Rattle.replay_spec.specs.Book.{Change}
use Rattle.replay_spec.specs.Recovery.{taken_in}
use Rattle.machine_states.specs.Machine.{inside_of}
use Rattle.value_bytes.proofs.Trees.{chosen}
use Rattle.journal_records.specs.Records.{Record, begins, changes, renews, draws, follows, promotes, body_of}
use Rattle.journal_records.specs.Old.{lacks, read_record_in}
use Rattle.journal_records.specs.Laws.{AreRecordsExact}
use Rattle.journal_records.proofs.Exact.{alone_some}
use Rattle.journal_spec.specs.Before.{Made, plain}
use Rattle.journal_spec.specs.Retaking.{Told, unread, misread, told, landing, retaken}
use Rattle.journal_spec.specs.Lengths.{own_told}
use Rattle.journal_spec.specs.Making.{Texts, Making, nothing, waits, waited, begun, made, damaged, other, has_script, began, first_setup, first_by, start_by, told_next, next_setup, promoted_by, made_in}
use Rattle.journal_spec.specs.Old.{told_at, change_next, next_at, second_at, with_body_at, with_bodies_at, book_of_format}
use Rattle.journal_spec.specs.Feeding.{FollowersAreTold}

-- ---- what was made of a shelf that does not follow goes on so

-- something was made, and of a shelf that does not follow
abbrev IsUnfed : Making → Type 0
IsUnfed nothing = ⊥
IsUnfed (waits s) = ⊥
IsUnfed (begun m) = m.book.follows ≡ false
IsUnfed (made m) = m.book.follows ≡ false
IsUnfed _ = ⊤

retaken_unfed : (n : ℕ) (c : Change) (o : Option (List TxName)) (x : Told) (m : Made) → m.book.follows ≡ false → (retaken n c o x m).book.follows ≡ false
retaken_unfed n c None x m unfed = unfed
retaken_unfed n c (Some names) x m unfed = unfed

told_unfed : (place n : ℕ) (m : Made) (c : Change) (x : Told) → m.book.follows ≡ false → IsUnfed (told_next place n m c x)
told_unfed place n m c unread unfed = retaken_unfed n c (landing m c []) unread m unfed
told_unfed place n m c misread unfed = tt
told_unfed place n m c (told d) unfed = retaken_unfed n c (landing m c (inside_of d.frames)) (told d) m unfed

change_unfed : (format place n : ℕ) (m : Made) (c : Change) (state : Option (List ℕ)) → m.book.follows ≡ false → IsUnfed (change_next format place n m c state)
change_unfed format place n m c state unfed = by_test (format == 1)
  where
    by_test : (t : Bool) → IsUnfed (if t then made (retaken n c (taken_in (plain m) c) (own_told m.book c) m) else told_next place n m c (told_at format m.earlier m.book c state))
    by_test true = retaken_unfed n c (taken_in (plain m) c) (own_told m.book c) m unfed
    by_test false = told_unfed place n m c (told_at format m.earlier m.book c state) unfed

setup_unfed : (place n : ℕ) (m : Made) (o : Option (List Named)) → m.book.follows ≡ false → IsUnfed (next_setup place n m o)
setup_unfed place n m None unfed = tt
setup_unfed place n m (Some scripts) unfed = unfed

promoted_unfed : (place n : ℕ) (m : Made) (fed : Bool) → IsUnfed (promoted_by place n m fed)
promoted_unfed place n m true = refl
promoted_unfed place n m false = tt

module _ (format : ℕ) (texts : Texts) (shelf : ℕ) where
  next_unfed : (place n : ℕ) (m : Made) (r : Option Record) → m.book.follows ≡ false → IsUnfed (next_at format texts place n m r)
  next_unfed place n m None unfed = tt
  next_unfed place n m (Some (begins s named)) unfed = tt
  next_unfed place n m (Some (draws number)) unfed = tt
  next_unfed place n m (Some follows) unfed = tt
  next_unfed place n m (Some promotes) unfed = promoted_unfed place n m m.book.follows
  next_unfed place n m (Some (renews named)) unfed = setup_unfed place n m (texts named) unfed
  next_unfed place n m (Some (changes c state)) unfed = by_test (has_script (length m.book.scripts) c)
    where
      by_test : (t : Bool) → IsUnfed (if t then change_next format place n m c state else damaged place)
      by_test true = change_unfed format place n m c state unfed
      by_test false = tt

  second_unfed : (place n : ℕ) (m : Made) (r : Option Record) → m.book.follows ≡ false → IsUnfed (second_at format texts place n m r)
  second_unfed place n m None unfed = tt
  second_unfed place n m (Some (begins s named)) unfed = tt
  second_unfed place n m (Some (draws number)) unfed = unfed
  second_unfed place n m (Some follows) unfed = tt
  second_unfed place n m (Some promotes) unfed = next_unfed place n m (Some promotes) unfed
  second_unfed place n m (Some (renews named)) unfed = next_unfed place n m (Some (renews named)) unfed
  second_unfed place n m (Some (changes c state)) unfed = next_unfed place n m (Some (changes c state)) unfed

  first_unfed : (place n : ℕ) (r : Option Record) → IsUnfed (first_by texts false shelf place n r)
  first_unfed place n None = tt
  first_unfed place n (Some (changes c state)) = tt
  first_unfed place n (Some (renews named)) = tt
  first_unfed place n (Some (draws number)) = tt
  first_unfed place n (Some follows) = tt
  first_unfed place n (Some promotes) = tt
  first_unfed place n (Some (begins s named)) = by_setup (texts named)
    where
      by_test : (scripts : List Named) (t : Bool) → IsUnfed (if t then begun (began false shelf place n scripts) else other place)
      by_test scripts true = refl
      by_test scripts false = tt

      by_setup : (o : Option (List Named)) → IsUnfed (first_setup false shelf place n s o)
      by_setup None = tt
      by_setup (Some scripts) = by_test scripts (s == shelf)

  one_unfed : (place : ℕ) (body : List ℕ) (x : Making) → IsUnfed x → IsUnfed (with_body_at format texts shelf place body x)
  one_unfed place body nothing unfed = absurd unfed
  one_unfed place body waited unfed = first_unfed place (length body) (read_record_in format body)
  one_unfed place body (waits s) unfed = absurd unfed
  one_unfed place body (begun m) unfed = second_unfed place (length body) m (read_record_in format body) unfed
  one_unfed place body (made m) unfed = next_unfed place (length body) m (read_record_in format body) unfed
  one_unfed place body (damaged p) unfed = tt
  one_unfed place body (other p) unfed = tt

  all_unfed : (place : ℕ) (bodies : List (List ℕ)) (x : Making) → IsUnfed x → IsUnfed (with_bodies_at format texts shelf place bodies x)
  all_unfed place [] x unfed = unfed
  all_unfed place (body ∷ bodies) x unfed = all_unfed (place + 5 + length body) bodies (with_body_at format texts shelf place body x) (one_unfed place body x unfed)

  -- no such book is of a shelf that follows
  not_fed : (x : Making) (m : Made) → IsUnfed x → made_in x ≡ Some m → m.book.follows ≡ false
  not_fed nothing m unfed is = absurd unfed
  not_fed waited m unfed is = absurd (let no : ⊥ = cc in no)
  not_fed (waits s) m unfed is = absurd unfed
  not_fed (begun k) m unfed is = let at : k ≡ m = cc in ap (λ (y : Made). y.book.follows) (sym at) ∙ unfed
  not_fed (made k) m unfed is = let at : k ≡ m = cc in ap (λ (y : Made). y.book.follows) (sym at) ∙ unfed
  not_fed (damaged p) m unfed is = absurd (let no : ⊥ = cc in no)
  not_fed (other p) m unfed is = absurd (let no : ⊥ = cc in no)

-- ---- the record is of the newest format

late_if : (a b c : Bool) → (if a && false then true else (if b && false then true else c && true)) ≡ false → c ≡ false
late_if true true true e = absurd (let no : ⊥ = cc in no)
late_if true false true e = absurd (let no : ⊥ = cc in no)
late_if false true true e = absurd (let no : ⊥ = cc in no)
late_if false false true e = absurd (let no : ⊥ = cc in no)
late_if a b false e = refl

newest_follows : (format : ℕ) (r : Record) → read_record_in format (body_of follows) ≡ Some r → 6 ≤ format
unfolding read_record_in
newest_follows format r e =
    elim (chosen (lacks format 8) _ _ _ (alone_some _ r e)) [
      | inl t ↦ absurd (none-some (r, []) t.1)
      | inr n ↦
          let late : nat_lt format 6 ≡ false = late_if (nat_lt format 4) (nat_lt format 5) (nat_lt format 6) n.0 in
          grind (arith, nat_tests, late)
    ]

pub followers_told : AreRecordsExact → FollowersAreTold
followers_told x format texts shelf [] m bytes makes fed = absurd (let no : ⊥ = cc in no)
followers_told x format texts shelf (body ∷ bodies) m bytes makes fed = by_record (read_record_in format body) refl
  where
    plainly : (r : Option Record) → read_record_in format body ≡ r → start_by texts shelf 8 (length body) r ≡ first_by texts false shelf 8 (length body) r → ⊥
    plainly r read alike =
        let is : start_by texts shelf 8 (length body) (read_record_in format body) ≡ first_by texts false shelf 8 (length body) r = ap (start_by texts shelf 8 (length body)) read ∙ alike in
        let first : IsUnfed (start_by texts shelf 8 (length body) (read_record_in format body)) = subst IsUnfed (sym is) (first_unfed format texts shelf 8 (length body) r) in
        let unfed = not_fed format texts shelf (book_of_format format texts shelf (body ∷ bodies)) m
        (all_unfed format texts shelf (8 + 5 + length body) bodies (start_by texts shelf 8 (length body) (read_record_in format body)) first) makes in
        let no : true ≡ false = sym fed ∙ unfed in
        let never : ⊥ = cc in never

    by_record : (r : Option Record) → read_record_in format body ≡ r → (rest : List (List ℕ)) × ((body ∷ bodies ≡ body_of follows ∷ rest) × (6 ≤ format))
    by_record (Some follows) read =
        let is : body ≡ body_of follows = (x.alike format body follows bytes.0 read tt).spelled in
        (bodies, (ap (λ (b : List ℕ). b ∷ bodies) is, newest_follows format follows (ap (read_record_in format) (sym is) ∙ read)))
    by_record None read = absurd (plainly None read refl)
    by_record (Some (begins s named)) read = absurd (plainly (Some (begins s named)) read refl)
    by_record (Some (changes c state)) read = absurd (plainly (Some (changes c state)) read refl)
    by_record (Some (renews named)) read = absurd (plainly (Some (renews named)) read refl)
    by_record (Some (draws number)) read = absurd (plainly (Some (draws number)) read refl)
    by_record (Some promotes) read = absurd (plainly (Some promotes) read refl)
