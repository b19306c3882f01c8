-- What stands in front of the record that a journal begins with.
use Rattle.std.proofs.Common.{◌≡◌, ◌⊎◌, inl, inr, ℕ, ◌+◌, ◌==◌, List, [], ◌∷◌, length, Option, Some, None, Bool, true, false, refl, sym, ap, subst, ◌∙◌, if◌then◌else◌, arith}
use Rattle.std.proofs.lemmas.Bool.Decides.{nat_tests}
use Rattle.std.specs.Prelude.{⊤}
use Rattle.script_nodes.specs.Setup.{Named}
use Rattle.replay_spec.specs.Book.{Change}
use Rattle.replay_spec.specs.Rules.{Journal, empty_book}
use Rattle.replay_spec.specs.Recovery.{taken_in}
use Rattle.journal_records.specs.Records.{Record, begins, changes, renews, draws, follows, promotes, body_of, begin_of, IsInGrammar}
use Rattle.journal_records.specs.Old.{read_record_in}
use Rattle.journal_records.specs.Laws.{AreRecordsExact}
use Rattle.journal_spec.specs.Before.{nothing_told, Made, plain}
use Rattle.journal_spec.specs.Retaking.{Told, unread, misread, told, retaken}
use Rattle.journal_spec.specs.Lengths.{own_told}
use Rattle.journal_spec.specs.Making.{Texts, Making, nothing, waits, waited, begun, made, damaged, other, has_script, began, first_setup, first_by, start_by, fed_by, told_next, next_setup, promoted_by, with_bodies, made_in, book_of}
use Rattle.journal_spec.specs.Old.{told_at, change_next, next_at, second_at, with_body_at, with_bodies_at, book_of_format}
use Rattle.journal_spec.specs.Opening.{IsRead, first_body}
use Rattle.journal_spec.specs.Whole.{HasWholeScripts}
use Rattle.journal_spec.specs.Owning.{OfEach, IsOwnRecord, IsLandedRecord}
use Rattle.journal_spec.specs.Reading.{AreAllBytes}
use Rattle.journal_spec.specs.Keeping.{KeepsDoubt}
use Rattle.journal_spec.specs.Feeding.{FrontsAreThese, LaterJournalsAreKept}
use Rattle.journal_spec.proofs.Fitting.{made_fits}
use Rattle.journal_spec.proofs.Kept.{each_more, first_each}

-- ---- what is more than a front stays more

-- what was made is more than of a front
abbrev IsPast : Making → Type 0
IsPast nothing = ⊥
IsPast waited = ⊥
IsPast (waits s) = ⊥
IsPast _ = ⊤

told_past : (place n : ℕ) (m : Made) (c : Change) (x : Told) → IsPast (told_next place n m c x)
told_past place n m c unread = tt
told_past place n m c misread = tt
told_past place n m c (told d) = tt

change_past : (format place n : ℕ) (m : Made) (c : Change) (state : Option (List ℕ)) → IsPast (change_next format place n m c state)
change_past format place n m c state = by_test (format == 1)
  where
    by_test : (t : Bool) → IsPast (if t then made (retaken n c (taken_in (plain m) c) (own_told m.book c) m) else told_next place n m c (told_at format m.earlier m.book c state))
    by_test true = tt
    by_test false = told_past place n m c (told_at format m.earlier m.book c state)

setup_past : (place n : ℕ) (m : Made) (o : Option (List Named)) → IsPast (next_setup place n m o)
setup_past place n m None = tt
setup_past place n m (Some scripts) = tt

promoted_past : (place n : ℕ) (m : Made) (fed : Bool) → IsPast (promoted_by place n m fed)
promoted_past place n m true = tt
promoted_past place n m false = tt

module _ (format : ℕ) (texts : Texts) (shelf : ℕ) where
  next_past : (place n : ℕ) (m : Made) (r : Option Record) → IsPast (next_at format texts place n m r)
  next_past place n m None = tt
  next_past place n m (Some (begins s named)) = tt
  next_past place n m (Some (draws number)) = tt
  next_past place n m (Some follows) = tt
  next_past place n m (Some promotes) = promoted_past place n m m.book.follows
  next_past place n m (Some (renews named)) = setup_past place n m (texts named)
  next_past place n m (Some (changes c state)) = by_test (has_script (length m.book.scripts) c)
    where
      by_test : (t : Bool) → IsPast (if t then change_next format place n m c state else damaged place)
      by_test true = change_past format place n m c state
      by_test false = tt

  second_past : (place n : ℕ) (m : Made) (r : Option Record) → IsPast (second_at format texts place n m r)
  second_past place n m None = tt
  second_past place n m (Some (begins s named)) = tt
  second_past place n m (Some (draws number)) = tt
  second_past place n m (Some follows) = tt
  second_past place n m (Some promotes) = next_past place n m (Some promotes)
  second_past place n m (Some (renews named)) = next_past place n m (Some (renews named))
  second_past place n m (Some (changes c state)) = next_past place n m (Some (changes c state))

  first_past : (fed : Bool) (place n : ℕ) (r : Option Record) → IsPast (first_by texts fed shelf place n r)
  first_past fed place n None = tt
  first_past fed place n (Some (changes c state)) = tt
  first_past fed place n (Some (renews named)) = tt
  first_past fed place n (Some (draws number)) = tt
  first_past fed place n (Some follows) = tt
  first_past fed place n (Some promotes) = tt
  first_past fed place n (Some (begins s named)) = by_setup (texts named)
    where
      by_test : (scripts : List Named) (t : Bool) → IsPast (if t then begun (began fed shelf place n scripts) else other place)
      by_test scripts true = tt
      by_test scripts false = tt

      by_setup : (o : Option (List Named)) → IsPast (first_setup fed shelf place n s o)
      by_setup None = tt
      by_setup (Some scripts) = by_test scripts (s == shelf)

  one_past : (place : ℕ) (body : List ℕ) (x : Making) → IsPast x → IsPast (with_body_at format texts shelf place body x)
  one_past place body nothing past = absurd past
  one_past place body waited past = absurd past
  one_past place body (waits s) past = absurd past
  one_past place body (begun m) past = second_past place (length body) m (read_record_in format body)
  one_past place body (made m) past = next_past place (length body) m (read_record_in format body)
  one_past place body (damaged p) past = tt
  one_past place body (other p) past = tt

  all_past : (place : ℕ) (bodies : List (List ℕ)) (x : Making) → IsPast x → IsPast (with_bodies_at format texts shelf place bodies x)
  all_past place [] x past = past
  all_past place (body ∷ bodies) x past = all_past (place + 5 + length body) bodies (with_body_at format texts shelf place body x) (one_past place body x past)

  -- ---- what is a front

  -- bodies are a front, and this was made of them; or more was made
  abbrev IsFront : List (List ℕ) → Making → Type 0
  IsFront bodies x =
      ((bodies ≡ []) × (x ≡ nothing))
      ⊎ (((bodies ≡ body_of follows ∷ []) × (x ≡ waits shelf)) ⊎ (((bodies ≡ body_of follows ∷ body_of promotes ∷ []) × (x ≡ waited)) ⊎ IsPast x))

  more : (bodies : List (List ℕ)) (x : Making) → IsPast x → IsFront bodies x
  more bodies x past = inr (inr (inr past))

  behind_both : (place : ℕ) (a b : List ℕ) (bodies : List (List ℕ)) → a ≡ body_of follows → b ≡ body_of promotes → IsFront (a ∷ b ∷ bodies) (with_bodies_at format texts shelf place bodies waited)
  behind_both place a b [] first second = inr (inr (inl ((λ i. first i ∷ second i ∷ []), refl)))
  behind_both place a b (body ∷ bodies) first second =
      more (a ∷ b ∷ body ∷ bodies) (with_bodies_at format texts shelf place (body ∷ bodies) waited)
      (all_past (place + 5 + length body) bodies (first_by texts false shelf place (length body) (read_record_in format body)) (first_past false place (length body) (read_record_in format body)))

  module _ (x : AreRecordsExact) where
    behind_follow : (place : ℕ) (a : List ℕ) (bodies : List (List ℕ)) → AreAllBytes bodies → a ≡ body_of follows → IsFront (a ∷ bodies) (with_bodies_at format texts shelf place bodies (waits shelf))
    behind_follow place a [] bytes first = inr (inl (ap (λ (b : List ℕ). b ∷ []) first, refl))
    behind_follow place a (body ∷ bodies) bytes first = by_record (read_record_in format body) refl
      where
        later : ℕ
        later = place + 5 + length body

        plainly : (r : Option Record) → read_record_in format body ≡ r → fed_by texts shelf place (length body) r ≡ first_by texts true shelf place (length body) r
            → IsFront (a ∷ body ∷ bodies) (with_bodies_at format texts shelf place (body ∷ bodies) (waits shelf))
        plainly r read alike =
            let is = ap (fed_by texts shelf place (length body)) read ∙ alike in
            more (a ∷ body ∷ bodies) (with_bodies_at format texts shelf place (body ∷ bodies) (waits shelf))
            (all_past (place + 5 + length body) bodies (fed_by texts shelf place (length body) (read_record_in format body)) (subst IsPast (sym is) (first_past true place (length body) r)))

        by_record : (r : Option Record) → read_record_in format body ≡ r → IsFront (a ∷ body ∷ bodies) (with_bodies_at format texts shelf place (body ∷ bodies) (waits shelf))
        by_record (Some promotes) read =
            subst (λ (y : Making). IsFront (a ∷ body ∷ bodies) (with_bodies_at format texts shelf (place + 5 + length body) bodies y)) (sym (ap (fed_by texts shelf place (length body)) read))
            (behind_both (place + 5 + length body) a body bodies first (x.alike format body promotes bytes.0 read tt).spelled)
        by_record None read = plainly None read refl
        by_record (Some (begins s named)) read = plainly (Some (begins s named)) read refl
        by_record (Some (changes c state)) read = plainly (Some (changes c state)) read refl
        by_record (Some (renews named)) read = plainly (Some (renews named)) read refl
        by_record (Some (draws number)) read = plainly (Some (draws number)) read refl
        by_record (Some follows) read = plainly (Some follows) read refl

    front_is : (bodies : List (List ℕ)) → AreAllBytes bodies → IsFront bodies (book_of_format format texts shelf bodies)
    front_is [] bytes = inl (refl, refl)
    front_is (body ∷ bodies) bytes = by_record (read_record_in format body) refl
      where
        plainly : (r : Option Record) → read_record_in format body ≡ r → start_by texts shelf 8 (length body) r ≡ first_by texts false shelf 8 (length body) r
            → IsFront (body ∷ bodies) (book_of_format format texts shelf (body ∷ bodies))
        plainly r read alike =
            let is = ap (start_by texts shelf 8 (length body)) read ∙ alike in
            more (body ∷ bodies) (book_of_format format texts shelf (body ∷ bodies))
            (all_past (8 + 5 + length body) bodies (start_by texts shelf 8 (length body) (read_record_in format body)) (subst IsPast (sym is) (first_past false 8 (length body) r)))

        by_record : (r : Option Record) → read_record_in format body ≡ r → IsFront (body ∷ bodies) (book_of_format format texts shelf (body ∷ bodies))
        by_record (Some follows) read =
            subst (λ (y : Making). IsFront (body ∷ bodies) (with_bodies_at format texts shelf (8 + 5 + length body) bodies y)) (sym (ap (start_by texts shelf 8 (length body)) read))
            (behind_follow (8 + 5 + length body) body bodies bytes.1 (x.alike format body follows bytes.0 read tt).spelled)
        by_record None read = plainly None read refl
        by_record (Some (begins s named)) read = plainly (Some (begins s named)) read refl
        by_record (Some (changes c state)) read = plainly (Some (changes c state)) read refl
        by_record (Some (renews named)) read = plainly (Some (renews named)) read refl
        by_record (Some (draws number)) read = plainly (Some (draws number)) read refl
        by_record (Some promotes) read = plainly (Some promotes) read refl

pub fronts_are : AreRecordsExact → FrontsAreThese
fronts_are x format texts shelf bodies bytes = (nothing_is (front_is format texts shelf x bodies bytes), λ s. waits_is s (front_is format texts shelf x bodies bytes), waited_is (front_is format texts shelf x bodies bytes))
  where
    none : (y z : Making) → y ≡ z → IsPast y → (IsPast z → ⊥) → ⊥
    none y z is past never = never (subst IsPast is past)

    nothing_is : IsFront format texts shelf bodies (book_of_format format texts shelf bodies) → book_of_format format texts shelf bodies ≡ nothing → bodies ≡ []
    nothing_is (inl (is, at)) here = is
    nothing_is (inr (inl (is, at))) here = absurd (let no : waits shelf ≡ nothing = sym at ∙ here in let never : ⊥ = cc in never)
    nothing_is (inr (inr (inl (is, at)))) here = absurd (let no : waited ≡ nothing = sym at ∙ here in let never : ⊥ = cc in never)
    nothing_is (inr (inr (inr past))) here = absurd (none (book_of_format format texts shelf bodies) nothing here past (λ front. front))

    waits_is : (s : ℕ) → IsFront format texts shelf bodies (book_of_format format texts shelf bodies) → book_of_format format texts shelf bodies ≡ waits s → (bodies ≡ body_of follows ∷ []) × (s ≡ shelf)
    waits_is s (inl (is, at)) here = absurd (let no : nothing ≡ waits s = sym at ∙ here in let never : ⊥ = cc in never)
    waits_is s (inr (inl (is, at))) here = (is, let same : waits shelf ≡ waits s = sym at ∙ here in let alike : s ≡ shelf = cc in alike)
    waits_is s (inr (inr (inl (is, at)))) here = absurd (let no : waited ≡ waits s = sym at ∙ here in let never : ⊥ = cc in never)
    waits_is s (inr (inr (inr past))) here = absurd (none (book_of_format format texts shelf bodies) (waits s) here past (λ front. front))

    waited_is : IsFront format texts shelf bodies (book_of_format format texts shelf bodies) → book_of_format format texts shelf bodies ≡ waited → bodies ≡ body_of follows ∷ body_of promotes ∷ []
    waited_is (inl (is, at)) here = absurd (let no : nothing ≡ waited = sym at ∙ here in let never : ⊥ = cc in never)
    waited_is (inr (inl (is, at))) here = absurd (let no : waits shelf ≡ waited = sym at ∙ here in let never : ⊥ = cc in never)
    waited_is (inr (inr (inl (is, at)))) here = is
    waited_is (inr (inr (inr past))) here = absurd (none (book_of_format format texts shelf bodies) waited here past (λ front. front))

-- ---- a journal that begins after them

both_waited : AreRecordsExact → (texts : Texts) (shelf : ℕ) (bodies : List (List ℕ)) → book_of texts shelf (body_of follows ∷ body_of promotes ∷ bodies) ≡ with_bodies texts shelf 20 bodies waited
both_waited x texts shelf bodies =
    ap (λ (o : Option Record). with_bodies texts shelf 14 (body_of promotes ∷ bodies) (start_by texts shelf 8 1 o)) (x.back follows tt)
    ∙ ap (λ (o : Option Record). with_bodies texts shelf 20 bodies (fed_by texts shelf 14 1 o)) (x.back promotes tt)

made_later : AreRecordsExact → (texts : Texts) (shelf : ℕ) (scripts : List Named) → IsInGrammar (begin_of shelf scripts) → IsRead texts scripts
    → book_of texts shelf (body_of follows ∷ body_of promotes ∷ first_body scripts shelf ∷ []) ≡ begun (began false shelf 20 (length (first_body scripts shelf)) scripts)
made_later x texts shelf scripts fits read =
    let n = length (first_body scripts shelf) in
    let same : (shelf == shelf) ≡ true = grind (arith, nat_tests) in
    both_waited x texts shelf (first_body scripts shelf ∷ [])
    ∙ (ap (first_by texts false shelf 20 n) (x.back (begin_of shelf scripts) fits)
    ∙ (ap (first_setup false shelf 20 n shelf) read ∙ ap (λ (t : Bool). if t then begun (began false shelf 20 n scripts) else other 20) same))

later_each : AreRecordsExact → (P : Made → Option Record → Type 0) → ((m : Made) → P m (Some promotes)) → (texts : Texts) (shelf : ℕ) (body : List ℕ)
    → OfEach P texts shelf (body_of follows ∷ body_of promotes ∷ body ∷ [])
later_each x P fact texts shelf body =
    each_more P texts shelf (body_of follows ∷ body_of promotes ∷ []) body
    (each_more P texts shelf (body_of follows ∷ []) (body_of promotes) (first_each P texts shelf (body_of follows)) (λ m is. subst (P m) (sym (x.back promotes tt)) (fact m)))
    (λ m is. absurd (let none : None ≡ Some m = sym (ap made_in (both_waited x texts shelf [])) ∙ is in let no : ⊥ = cc in no))

pub later_kept : AreRecordsExact → LaterJournalsAreKept
later_kept x texts shelf rules scripts over given fits =
    let body = first_body scripts shelf in
    let n = length body in
    let bodies = body_of follows ∷ body_of promotes ∷ body ∷ [] in
    let m = began false shelf 20 n scripts in
    let makes : made_in (book_of texts shelf bodies) ≡ Some m = ap made_in (made_later x texts shelf scripts fits given.read) in
    let whole : HasWholeScripts m.book = record { setup = given.whole; instances = λ k i found. absurd (let no : ⊥ = cc in no) } in
    let is : m.book ≡ record (empty_book rules scripts shelf) { length = 26 + n } =
    ap (λ (j : Option Journal). record (empty_book (record rules { journal = j }) scripts shelf) { length = 26 + n }) (sym over) in (
      makes,
      subst (KeepsDoubt texts shelf bodies) is (record {
        keeps = record { earlier = nothing_told; makes = makes; recoverable = (made_fits x texts shelf bodies m makes).recoverable whole; read = λ unfed. given.read };
        doubt = tt;
      }),
      later_each x IsOwnRecord (λ k. tt) texts shelf body,
      later_each x IsLandedRecord (λ k. tt) texts shelf body,
    )
