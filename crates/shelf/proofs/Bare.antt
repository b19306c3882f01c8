-- Files without the record that a journal begins with, of shelves that do not follow another one's journal: where that record will stand, and
-- what the file makes with it.
use Rattle.std.proofs.Common.{◌≡◌, ◌≢◌, ◌⊎◌, inl, inr, ◌∙◌, ap, sym, subst, refl, ℕ, ◌+◌, ◌==◌, Bool, true, false, List, [], ◌∷◌, ◌++◌, length, Option, Some, None, if◌then◌else◌, arith}
use Rattle.std.proofs.lemmas.Bool.Decides.{nat_tests}
use Rattle.std.proofs.lemmas.Option.{none-some}
use Rattle.script_nodes.specs.Setup.{Named}
use Rattle.book_recovery.specs.SetupReader.Texts.{setup_of_texts as texts, IsReadSetup}
use Rattle.web_disk.specs.View.{View}
use Rattle.page_journal.specs.Records.{newest, frames}
use Rattle.page_journal.specs.Settled.{bodies_in}
use Rattle.page_journal.specs.declared.journal.Journal.{Journal}
use Rattle.journal_records.specs.Records.{Record, begins, changes, renews, draws, follows, promotes, IsInGrammar, begin_of, body_of}
use Rattle.journal_records.specs.Reading.{read_record}
use Rattle.journal_records.specs.Laws.{AreRecordsExact}
use Rattle.book_recovery.specs.JournalSpec.Before.{Made}
use Rattle.book_recovery.specs.JournalSpec.Retaking.{Told, unread, misread, told, told_in}
use Rattle.book_recovery.specs.JournalSpec.Making.{Making, nothing, waits, waited, begun, made, damaged, other, has_script, told_next, next_setup, promoted_by, began, first_setup, first_by, start_by, fed_by, next_by, second_by, with_body, with_bodies, made_in, book_of}
use Rattle.book_recovery.specs.JournalSpec.Old.{with_body_at, format_of_now}
use Rattle.book_recovery.specs.JournalSpec.Opening.{first_body, opened_on}
use Rattle.book_recovery.specs.JournalSpec.Owning.{IsOwnRecord, AreOwn}
use Rattle.book_recovery.specs.JournalSpec.Reading.{AreAllBytes}
use Rattle.book_recovery.proofs.JournalSpec.Makings.{made_first}
use Rattle.book_recovery.specs.Found.{FindsNone}
use Rattle.book_recovery.specs.Noting.{marks_of}
use Rattle.shelf.specs.Opening.{opening_bodies}
use Rattle.shelf.proofs.Openings.{none_read}
use Rattle.shelf.proofs.Owned.{none_own, first_own, no_body}
use Rattle.shelf.proofs.Newest.{now_own}

pub record Bare (shelf : ℕ) (bodies : List (List ℕ)) : Type 0 where
  pub place : ℕ
  pub gate : 8 + length (frames bodies) ≡ place
  pub none : made_in (book_of texts shelf bodies) ≡ None
  pub opens : (scripts : List Named) → opened_on shelf scripts (book_of texts shelf bodies) ≡ Some (began false shelf place (length (first_body scripts shelf)) scripts)
  pub adds : (scripts : List Named) → opening_bodies scripts shelf (book_of texts shelf bodies) ≡ first_body scripts shelf ∷ []
  pub more : (scripts : List Named) → IsInGrammar (begin_of shelf scripts) → IsReadSetup scripts
      → book_of texts shelf (bodies ++ first_body scripts shelf ∷ []) ≡ begun (began false shelf place (length (first_body scripts shelf)) scripts)
  pub own : AreOwn texts shelf bodies
  pub own_more : (body : List ℕ) → AreOwn texts shelf (bodies ++ body ∷ [])
  pub marks : (body : List ℕ) → marks_of newest texts shelf 8 (bodies ++ body ∷ []) nothing ≡ []
  pub some : book_of texts shelf bodies ≢ nothing → book_of texts shelf bodies ≢ waited → ⊥

-- there is no record
pub bare_nothing : AreRecordsExact → (shelf : ℕ) (bodies : List (List ℕ)) → book_of texts shelf bodies ≡ nothing → Bare shelf bodies
bare_nothing x shelf bodies is = subst (Bare shelf) (sym (none_read shelf bodies is)) (record {
  place = 8;
  gate = refl;
  none = refl;
  opens = λ scripts. refl;
  adds = λ scripts. refl;
  more = λ scripts fits read. made_first x texts shelf scripts fits read;
  own = now_own shelf [] (none_own newest shelf);
  own_more = λ body. first_own shelf body;
  marks = λ body. refl;
  some = λ other next. other refl;
})

-- ---- what makes no more than that the shelf followed

-- a book, damage, or another shelf
abbrev IsLate : Making → Type 0
IsLate nothing = ⊥
IsLate (waits s) = ⊥
IsLate waited = ⊥
IsLate _ = Unit {0}

late_setup : (fed : Bool) (shelf place n s : ℕ) (o : Option (List Named)) → IsLate (first_setup fed shelf place n s o)
late_setup fed shelf place n s None = tt
late_setup fed shelf place n s (Some scripts) = by_test (s == shelf)
  where
    by_test : (t : Bool) → IsLate (if t then begun (began fed shelf place n scripts) else other place)
    by_test true = tt
    by_test false = tt

late_first : (fed : Bool) (shelf place n : ℕ) (r : Option Record) → IsLate (first_by texts fed shelf place n r)
late_first fed shelf place n None = tt
late_first fed shelf place n (Some (begins s named)) = late_setup fed shelf place n s (texts named)
late_first fed shelf place n (Some (changes c state)) = tt
late_first fed shelf place n (Some (renews named)) = tt
late_first fed shelf place n (Some (draws k)) = tt
late_first fed shelf place n (Some follows) = tt
late_first fed shelf place n (Some promotes) = tt

module _ (place n : ℕ) (m : Made) where
  late_told : (x : Told) (c : _) → IsLate (told_next place n m c x)
  late_told unread c = tt
  late_told misread c = tt
  late_told (told d) c = tt

  late_renewed : (o : Option (List Named)) → IsLate (next_setup place n m o)
  late_renewed None = tt
  late_renewed (Some scripts) = tt

  late_promoted : (fed : Bool) → IsLate (promoted_by place n m fed)
  late_promoted true = tt
  late_promoted false = tt

  late_next : (o : Option Record) → IsLate (next_by texts place n m o)
  late_next None = tt
  late_next (Some (begins s named)) = tt
  late_next (Some (draws k)) = tt
  late_next (Some (renews named)) = late_renewed (texts named)
  late_next (Some (changes c state)) = by_test (has_script (length m.book.scripts) c)
    where
      by_test : (t : Bool) → IsLate (if t then told_next place n m c (told_in m.earlier m.book c state) else damaged place)
      by_test true = late_told (told_in m.earlier m.book c state) c
      by_test false = tt
  late_next (Some follows) = tt
  late_next (Some promotes) = late_promoted m.book.follows

  late_second : (o : Option Record) → IsLate (second_by texts place n m o)
  late_second None = tt
  late_second (Some (begins s named)) = tt
  late_second (Some (draws k)) = tt
  late_second (Some (renews named)) = late_renewed (texts named)
  late_second (Some (changes c state)) = late_next (Some (changes c state))
  late_second (Some follows) = tt
  late_second (Some promotes) = late_promoted m.book.follows

late_body : (shelf place : ℕ) (body : List ℕ) (m : Making) → IsLate m → IsLate (with_body texts shelf place body m)
late_body shelf place body (begun m) h = late_second place (length body) m (read_record body)
late_body shelf place body (made m) h = late_next place (length body) m (read_record body)
late_body shelf place body (damaged p) h = tt
late_body shelf place body (other p) h = tt
late_body shelf place body nothing h = absurd h
late_body shelf place body (waits s) h = absurd h
late_body shelf place body waited h = absurd h

late_bodies : (shelf place : ℕ) (bodies : List (List ℕ)) (m : Making) → IsLate m → IsLate (with_bodies texts shelf place bodies m)
late_bodies shelf place [] m h = h
late_bodies shelf place (body ∷ bodies) m h = late_bodies shelf (place + 5 + length body) bodies (with_body texts shelf place body m) (late_body shelf place body m h)

-- what is late does not wait
not_late : (m : Making) → IsLate m → m ≡ waited → ⊥
not_late m late is = subst IsLate is late

-- the bodies are these two
abbrev AreFront : List (List ℕ) → Type 0
AreFront bodies = bodies ≡ body_of follows ∷ (body_of promotes ∷ [])

-- after both there is none
nothing_behind : (shelf place : ℕ) (bodies : List (List ℕ)) → with_bodies texts shelf place bodies waited ≡ waited → bodies ≡ []
nothing_behind shelf place [] is = refl
nothing_behind shelf place (body ∷ bodies) is =
    absurd (not_late (with_bodies texts shelf (place + 5 + length body) bodies (first_by texts false shelf place (length body) (read_record body))) (late_bodies shelf (place + 5 + length body) bodies (first_by texts false shelf place (length body) (read_record body)) (late_first false shelf place (length body) (read_record body))) is)

module _ (x : AreRecordsExact) (shelf : ℕ) where
  -- the second one tells that the shelf follows no longer
  second_front : (s place : ℕ) (bodies : List (List ℕ)) → AreAllBytes bodies → with_bodies texts shelf place bodies (waits s) ≡ waited → bodies ≡ body_of promotes ∷ []
  second_front s place [] small is = absurd (let no : ⊥ = cc is in no)
  second_front s place (body ∷ bodies) small is = by_record (read_record body) refl
    where
      later : ℕ
      later = place + 5 + length body

      late : (r : Option Record) → read_record body ≡ r → fed_by texts shelf place (length body) r ≡ first_by texts true shelf place (length body) r → body ∷ bodies ≡ body_of promotes ∷ []
      late r read alike =
          let here : with_body texts shelf place body (waits s) ≡ first_by texts true shelf place (length body) r = ap (fed_by texts shelf place (length body)) read ∙ alike in
          absurd (not_late (with_bodies texts shelf later bodies (with_body texts shelf place body (waits s)))
          (late_bodies shelf later bodies (with_body texts shelf place body (waits s)) (subst IsLate (sym here) (late_first true shelf place (length body) r))) is)

      by_record : (r : Option Record) → read_record body ≡ r → body ∷ bodies ≡ body_of promotes ∷ []
      by_record (Some promotes) read =
          let spelled : body ≡ body_of promotes = (x.exact body promotes small.0 read).spelled in
          let none : bodies ≡ [] = nothing_behind shelf later bodies (ap (λ (r : Option Record). with_bodies texts shelf later bodies (fed_by texts shelf place (length body) r)) (sym read) ∙ is) in
          ap (λ (b : List ℕ). b ∷ bodies) spelled ∙ ap (λ (bs : List (List ℕ)). body_of promotes ∷ bs) none
      by_record None read = late None read refl
      by_record (Some (begins t named)) read = late (Some (begins t named)) read refl
      by_record (Some (changes c state)) read = late (Some (changes c state)) read refl
      by_record (Some (renews named)) read = late (Some (renews named)) read refl
      by_record (Some (draws k)) read = late (Some (draws k)) read refl
      by_record (Some follows) read = late (Some follows) read refl

  -- the first one that it follows
  fronts : (bodies : List (List ℕ)) → AreAllBytes bodies → book_of texts shelf bodies ≡ waited → AreFront bodies
  fronts [] small is = absurd (let no : ⊥ = cc is in no)
  fronts (body ∷ bodies) small is = by_record (read_record body) refl
    where
      later : ℕ
      later = 8 + 5 + length body

      late : (r : Option Record) → read_record body ≡ r → start_by texts shelf 8 (length body) r ≡ first_by texts false shelf 8 (length body) r → AreFront (body ∷ bodies)
      late r read alike =
          let here : with_body texts shelf 8 body nothing ≡ first_by texts false shelf 8 (length body) r = ap (start_by texts shelf 8 (length body)) read ∙ alike in
          absurd (not_late (with_bodies texts shelf later bodies (with_body texts shelf 8 body nothing))
          (late_bodies shelf later bodies (with_body texts shelf 8 body nothing) (subst IsLate (sym here) (late_first false shelf 8 (length body) r))) is)

      by_record : (r : Option Record) → read_record body ≡ r → AreFront (body ∷ bodies)
      by_record (Some follows) read =
          let spelled : body ≡ body_of follows = (x.exact body follows small.0 read).spelled in
          let rest : bodies ≡ body_of promotes ∷ [] =
          second_front shelf later bodies small.1 (ap (λ (r : Option Record). with_bodies texts shelf later bodies (start_by texts shelf 8 (length body) r)) (sym read) ∙ is) in
          ap (λ (b : List ℕ). b ∷ bodies) spelled ∙ ap (λ (bs : List (List ℕ)). body_of follows ∷ bs) rest
      by_record None read = late None read refl
      by_record (Some (begins t named)) read = late (Some (begins t named)) read refl
      by_record (Some (changes c state)) read = late (Some (changes c state)) read refl
      by_record (Some (renews named)) read = late (Some (renews named)) read refl
      by_record (Some (draws k)) read = late (Some (draws k)) read refl
      by_record (Some promotes) read = late (Some promotes) read refl

  abbrev f : List ℕ
  f = body_of follows

  abbrev p : List ℕ
  p = body_of promotes

  -- what stands after the two
  behind_front_is : (bodies : List (List ℕ)) → book_of texts shelf (f ∷ (p ∷ bodies)) ≡ with_bodies texts shelf 20 bodies waited
  behind_front_is bodies =
      ap (λ (r : Option Record). with_bodies texts shelf 14 (p ∷ bodies) (start_by texts shelf 8 1 r)) (x.back follows tt)
      ∙ ap (λ (r : Option Record). with_bodies texts shelf 20 bodies (fed_by texts shelf 14 1 r)) (x.back promotes tt)

  front_alone : book_of texts shelf (f ∷ (p ∷ [])) ≡ waited
  front_alone = behind_front_is []

  begun_behind : (scripts : List Named) → IsInGrammar (begin_of shelf scripts) → IsReadSetup scripts
      → book_of texts shelf (f ∷ (p ∷ (first_body scripts shelf ∷ []))) ≡ begun (began false shelf 20 (length (first_body scripts shelf)) scripts)
  begun_behind scripts fits read =
      let n = length (first_body scripts shelf) in
      let same : (shelf == shelf) ≡ true = grind (arith, nat_tests) in
      behind_front_is (first_body scripts shelf ∷ [])
      ∙ (ap (first_by texts false shelf 20 n) (x.back (begin_of shelf scripts) fits)
      ∙ (ap (first_setup false shelf 20 n shelf) read ∙ ap (λ (t : Bool). if t then begun (began false shelf 20 n scripts) else other 20) same))

  -- none of the two tells of a page
  own_role : (m : Made) (body : List ℕ) (r : Record) → read_record body ≡ Some r → IsOwnRecord m (Some r) → IsOwnRecord m (read_record body)
  own_role m body r read own = subst (IsOwnRecord m) (sym read) own

  own_front : (last : List (List ℕ)) → (last ≡ []) ⊎ ((z : List ℕ) × (last ≡ z ∷ [])) → AreOwn texts shelf (f ∷ (p ∷ last))
  own_front last shape [] rest body m is makes = absurd (none-some m makes)
  own_front last shape (a ∷ []) rest body m is makes =
      let here : p ≡ body = cc is in
      subst (λ (b : List ℕ). IsOwnRecord m (read_record b)) here (own_role m p promotes (x.back promotes tt) tt)
  own_front last shape (a ∷ (b ∷ front)) rest body m is makes = by_front front is makes shape
    where
      by_front : (front : List (List ℕ)) → f ∷ (p ∷ last) ≡ (a ∷ (b ∷ front)) ++ body ∷ rest → made_in (book_of texts shelf (a ∷ (b ∷ front))) ≡ Some m → (last ≡ []) ⊎ ((z : List ℕ) × (last ≡ z ∷ [])) → IsOwnRecord m (read_record body)
      by_front [] is makes shape =
          let one : f ≡ a = cc is in
          let two : p ≡ b = cc is in
          let none : None ≡ Some m = sym (ap made_in (ap (λ (y : List ℕ). book_of texts shelf (y ∷ (b ∷ []))) (sym one) ∙ (ap (λ (y : List ℕ). book_of texts shelf (f ∷ (y ∷ []))) (sym two) ∙ front_alone))) ∙ makes in
          absurd (none-some m none)
      by_front (c ∷ front) is makes (inl none) =
          let rest_is : last ≡ c ∷ (front ++ body ∷ rest) = cc is in
          absurd (let no : [] ≡ c ∷ (front ++ body ∷ rest) = sym none ∙ rest_is in let never : ⊥ = cc no in never)
      by_front (c ∷ front) is makes (inr (z, one)) =
          let rest_is : last ≡ c ∷ (front ++ body ∷ rest) = cc is in
          let both : z ∷ [] ≡ c ∷ (front ++ body ∷ rest) = sym one ∙ rest_is in
          absurd (no_body front rest body (let none : [] ≡ front ++ body ∷ rest = cc both in none))

  -- none of the two has a mark
  front_marks : (body : List ℕ) → marks_of newest texts shelf 8 (f ∷ (p ∷ (body ∷ []))) nothing ≡ []
  front_marks body =
      let first : with_body_at newest texts shelf 8 f nothing ≡ waits shelf = format_of_now texts shelf (f ∷ []) ∙ ap (start_by texts shelf 8 1) (x.back follows tt) in
      let second : with_body_at newest texts shelf 14 p (waits shelf) ≡ waited = ap (with_body_at newest texts shelf 14 p) (sym first) ∙ (format_of_now texts shelf (f ∷ (p ∷ [])) ∙ front_alone) in
      ap (λ (y : Making). marks_of newest texts shelf 14 (p ∷ (body ∷ [])) y) first ∙ ap (λ (y : Making). marks_of newest texts shelf 20 (body ∷ []) y) second

  pub bare_waited : (bodies : List (List ℕ)) → AreAllBytes bodies → book_of texts shelf bodies ≡ waited → Bare shelf bodies
  bare_waited bodies small is = subst (Bare shelf) (sym (fronts bodies small is)) (record {
    place = 20;
    gate = refl;
    none = ap made_in front_alone;
    opens = λ scripts. ap (opened_on shelf scripts) front_alone;
    adds = λ scripts. ap (opening_bodies scripts shelf) front_alone;
    more = begun_behind;
    own = own_front [] (inl refl);
    own_more = λ body. own_front (body ∷ []) (inr (body, refl));
    marks = front_marks;
    some = λ first other. other front_alone;
  })

-- so it is of a journal of which no book was found, and which was read
pub bare_read : {D : Type 0} (view : D → View) (shelf : ℕ) (j0 j1 : Journal D) → AreRecordsExact → bodies_in view j1 ≡ bodies_in view j0 → FindsNone shelf false (book_of texts shelf (bodies_in view j0)) → AreAllBytes (bodies_in view j0)
    → Bare shelf (bodies_in view j1)
bare_read view shelf j0 j1 x same (inl is) small = subst (Bare shelf) (sym same) (bare_nothing x shelf (bodies_in view j0) is)
bare_read view shelf j0 j1 x same (inr is) small = subst (Bare shelf) (sym same) (bare_waited x shelf (bodies_in view j0) small is)
