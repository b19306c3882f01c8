-- What a shelf makes of the records that it is fed, and what a record makes of it that promotes it.
use Rattle.std.proofs.Common.{◌≡◌, ℕ, ◌+◌, ◌==◌, List, [], ◌∷◌, ◌++◌, length, Option, Some, None, Bool, true, false, not, refl, sym, ap, subst, ◌∙◌, ⊎_elim, arith, if◌then◌else◌}
use Rattle.std.specs.Prelude.{⊤}
use Rattle.script_value.specs.declared.outcome.TxName.{TxName}
use Rattle.script_nodes.specs.Setup.{Named}
use Rattle.page_journal.specs.Records.{newest, frames}
use Rattle.replay_spec.specs.Book.{Change, Book, reopened}
use Rattle.replay_spec.specs.Recovery.{number_in, is_repeated, resettled}
use Rattle.machine_states.specs.Machine.{inside_of}
use Rattle.value_bytes.specs.Laws.{AreBytes}
use Rattle.journal_records.specs.Records.{Record, begins, changes, renews, draws, follows, promotes, body_of}
use Rattle.journal_records.specs.Reading.{read_record}
use Rattle.journal_records.specs.Old.{newest_format}
use Rattle.journal_records.specs.Roles.{tells_role, is_role, feed_of}
use Rattle.journal_records.specs.Laws.{AreRecordsExact}
use Rattle.journal_records.proofs.Roles.{role_is}
use Rattle.journal_spec.specs.Before.{Made, plain}
use Rattle.journal_spec.specs.Retaking.{Told, unread, misread, told, told_in, landing, IsLanded, retaken}
use Rattle.journal_spec.specs.Making.{Texts, Making, nothing, waits, waited, begun, made, damaged, other, has_script, beside, in_file, began, first_setup, start_by, fed_by, promoted, promoted_by, told_next, next_setup, next_by, with_drawn, second_by, with_body, with_bodies, made_in, book_of}
use Rattle.journal_spec.specs.Lengths.{state_by}
use Rattle.journal_spec.specs.Owning.{OfEach, IsOwnState, IsOwnRecord, IsLandedRecord}
use Rattle.journal_spec.specs.Reading.{AreAllBytes}
use Rattle.journal_spec.specs.Standing.{adds}
use Rattle.journal_spec.specs.Feeding.{fed_with, FollowersMakeTheBook, OneBodyMore, PromotionsMakeTheBook, BodiesStandBetween, FedJournalsAreOwn}
use Rattle.journal_spec.proofs.Beside.{held_bare}
use Rattle.journal_spec.proofs.Joining.{told_bare}
use Rattle.journal_spec.proofs.Makings.{with_push}
use Rattle.journal_spec.proofs.Fitting.{made_fits}
use Rattle.journal_spec.proofs.OwnStates.{state_bare, own_by}
use Rattle.journal_spec.proofs.Kept.{each_more}
use Rattle.journal_spec.proofs.Between.{makes_now}

-- the record does not tell whether a shelf follows another one's journal
abbrev IsNoRole : Option Record → Type 0
IsNoRole (Some follows) = ⊥
IsNoRole (Some promotes) = ⊥
IsNoRole _ = ⊤

-- no record of these bodies does
abbrev AreNoRoles : List (List ℕ) → Type 0
AreNoRoles [] = ⊤
AreNoRoles (body ∷ bodies) = IsNoRole (read_record body) × AreNoRoles bodies

-- ---- how long a file is, and whether its shelf follows, make no difference to what a record makes

-- what was made, in a file of this length of a shelf that follows
abbrev Led : ℕ → Made → Made
Led n m = in_file true n m

led_told : (n : ℕ) (m : Made) (c : Change) (state : Option (List ℕ)) → told_in m.earlier (Led n m).book c state ≡ told_in m.earlier m.book c state
led_told n m c state = told_bare m.earlier (Led n m).book c state ∙ sym (told_bare m.earlier m.book c state)

led_landing : (n : ℕ) (m : Made) (c : Change) (inside : List TxName) → landing (Led n m) c inside ≡ landing m c inside
led_landing n m c inside =
    ap (λ (o : Option (List TxName)). if is_repeated (number_in c) m.earlier.seen then None else o) (held_bare (Led n m).book c inside ∙ sym (held_bare m.book c inside))

led_retaken : (size n : ℕ) (m : Made) (c : Change) (o : Option (List TxName)) (x : Told) → retaken n c o x (Led size m) ≡ Led (size + (n + 5)) (retaken n c o x m)
led_retaken size n m c None x = refl
led_retaken size n m c (Some names) x = refl

retaken_long : (n : ℕ) (m : Made) (c : Change) (o : Option (List TxName)) (x : Told) → (retaken n c o x m).book.length ≡ m.book.length + (n + 5)
retaken_long n m c None x = refl
retaken_long n m c (Some names) x = refl

-- what a record makes that is counted, in a file that is 6 bytes longer
led_counted : (n : ℕ) (m : Made) (c : Change) (inside : List TxName) (x : Told)
    → retaken n c (landing (Led (m.book.length + 6) m) c inside) x (Led (m.book.length + 6) m) ≡ Led ((retaken n c (landing m c inside) x m).book.length + 6) (retaken n c (landing m c inside) x m)
led_counted n m c inside x =
    let size = m.book.length + 6 in
    let r = retaken n c (landing m c inside) x m in
    let is = retaken_long n m c (landing m c inside) x in
    let long : size + (n + 5) ≡ r.book.length + 6 = omega (arith, is) in
    ap (λ (o : Option (List TxName)). retaken n c o x (Led size m)) (led_landing size m c inside) ∙ (led_retaken size n m c (landing m c inside) x ∙ ap (λ (k : ℕ). Led k r) long)

module _ (texts : Texts) (shelf : ℕ) where
  -- what was made, where a record that tells that the shelf follows stands before the others
  abbrev Fed : Making → Making
  Fed x = fed_with shelf x

  -- records of a journal that does not follow make no shelf that waits
  abbrev IsAhead : Making → Type 0
  IsAhead (waits s) = ⊥
  IsAhead waited = ⊥
  IsAhead _ = ⊤

  -- a body with this record, after what was made
  abbrev Agrees : (place n : ℕ) → (alone led : Making) → Type 0
  Agrees place n alone led = (led ≡ Fed alone) × IsAhead alone

  told_fed : (place n : ℕ) (m : Made) (c : Change) (x : Told) → Agrees place n (told_next place n m c x) (told_next (place + 6) n (Led (m.book.length + 6) m) c x)
  told_fed place n m c unread = (ap made (led_counted n m c [] unread), tt)
  told_fed place n m c misread = (refl, tt)
  told_fed place n m c (told d) = (ap made (led_counted n m c (inside_of d.frames) (told d)), tt)

  setup_fed : (place n : ℕ) (m : Made) (o : Option (List Named)) → Agrees place n (next_setup place n m o) (next_setup (place + 6) n (Led (m.book.length + 6) m) o)
  setup_fed place n m None = (refl, tt)
  setup_fed place n m (Some scripts) =
      let j = beside m.earlier (resettled n scripts (plain m)) in
      let long : (m.book.length + 6) + (n + 5) ≡ (m.book.length + (n + 5)) + 6 = omega arith in
      (ap (λ (k : ℕ). made (Led k j)) long, tt)

  changed_fed : (place n : ℕ) (m : Made) (c : Change) (state : Option (List ℕ))
      → Agrees place n (next_by texts place n m (Some (changes c state))) (next_by texts (place + 6) n (Led (m.book.length + 6) m) (Some (changes c state)))
  changed_fed place n m c state = by_test (has_script (length m.book.scripts) c)
    where
      led : Made
      led = Led (m.book.length + 6) m

      here : Told
      here = told_in m.earlier m.book c state

      by_test : (t : Bool) → Agrees place n (if t then told_next place n m c here else damaged place) (if t then told_next (place + 6) n led c (told_in led.earlier led.book c state) else damaged (place + 6))
      by_test false = (refl, tt)
      by_test true =
          let one = told_fed place n m c here in
          (ap (told_next (place + 6) n led c) (led_told (m.book.length + 6) m c state) ∙ one.0, one.1)

  next_fed : (place n : ℕ) (m : Made) (o : Option Record) → IsNoRole o → Agrees place n (next_by texts place n m o) (next_by texts (place + 6) n (Led (m.book.length + 6) m) o)
  next_fed place n m None plain = (refl, tt)
  next_fed place n m (Some (begins s named)) plain = (refl, tt)
  next_fed place n m (Some (draws number)) plain = (refl, tt)
  next_fed place n m (Some follows) plain = absurd plain
  next_fed place n m (Some promotes) plain = absurd plain
  next_fed place n m (Some (renews named)) plain = setup_fed place n m (texts named)
  next_fed place n m (Some (changes c state)) plain = changed_fed place n m c state

  second_fed : (place n : ℕ) (m : Made) (o : Option Record) → IsNoRole o → Agrees place n (second_by texts place n m o) (second_by texts (place + 6) n (Led (m.book.length + 6) m) o)
  second_fed place n m None plain = (refl, tt)
  second_fed place n m (Some (begins s named)) plain = (refl, tt)
  second_fed place n m (Some (draws number)) plain =
      let long : (m.book.length + 6) + 14 ≡ (m.book.length + 14) + 6 = omega arith in
      (ap (λ (k : ℕ). made (Led k (with_drawn number m))) long, tt)
  second_fed place n m (Some follows) plain = absurd plain
  second_fed place n m (Some promotes) plain = absurd plain
  second_fed place n m (Some (renews named)) plain = setup_fed place n m (texts named)
  second_fed place n m (Some (changes c state)) plain = changed_fed place n m c state

  first_fed : (place n : ℕ) (o : Option Record) → IsNoRole o → Agrees place n (start_by texts shelf place n o) (fed_by texts shelf (place + 6) n o)
  first_fed place n None plain = (refl, tt)
  first_fed place n (Some (changes c state)) plain = (refl, tt)
  first_fed place n (Some (renews named)) plain = (refl, tt)
  first_fed place n (Some (draws number)) plain = (refl, tt)
  first_fed place n (Some follows) plain = absurd plain
  first_fed place n (Some promotes) plain = absurd plain
  first_fed place n (Some (begins s named)) plain = by_setup (texts named)
    where
      by_test : (scripts : List Named) (t : Bool)
          → Agrees place n (if t then begun (began false shelf place n scripts) else other place) (if t then begun (began true shelf (place + 6) n scripts) else other (place + 6))
      by_test scripts false = (refl, tt)
      by_test scripts true =
          let long : (place + 6) + 6 + n ≡ (place + 6 + n) + 6 = omega arith in
          (ap (λ (k : ℕ). begun (Led k (began false shelf place n scripts))) long, tt)

      by_setup : (o : Option (List Named)) → Agrees place n (first_setup false shelf place n s o) (first_setup true shelf (place + 6) n s o)
      by_setup None = (refl, tt)
      by_setup (Some scripts) = by_test scripts (s == shelf)

  one_fed : (place : ℕ) (body : List ℕ) (x : Making) → IsAhead x → IsNoRole (read_record body)
      → Agrees place (length body) (with_body texts shelf place body x) (with_body texts shelf (place + 6) body (Fed x))
  one_fed place body nothing ahead plain = first_fed place (length body) (read_record body) plain
  one_fed place body waited ahead plain = absurd ahead
  one_fed place body (waits s) ahead plain = absurd ahead
  one_fed place body (begun m) ahead plain = second_fed place (length body) m (read_record body) plain
  one_fed place body (made m) ahead plain = next_fed place (length body) m (read_record body) plain
  one_fed place body (damaged p) ahead plain = (refl, tt)
  one_fed place body (other p) ahead plain = (refl, tt)

  all_fed : (place : ℕ) (bodies : List (List ℕ)) (x : Making) → IsAhead x → AreNoRoles bodies → with_bodies texts shelf (place + 6) bodies (Fed x) ≡ Fed (with_bodies texts shelf place bodies x)
  all_fed place [] x ahead plain = refl
  all_fed place (body ∷ bodies) x ahead plain =
      let one = one_fed place body x ahead plain.0 in
      let next = place + 5 + length body in
      let here : place + 6 + 5 + length body ≡ next + 6 = omega arith in
      (λ i. with_bodies texts shelf (here i) bodies (one.0 i)) ∙ all_fed next bodies (with_body texts shelf place body x) one.1 plain.1

-- ---- the bodies that a shelf is fed

no_role : AreRecordsExact → (body : List ℕ) (o : Option Record) → read_record body ≡ o → AreBytes body → is_role body ≡ false → IsNoRole o
no_role x body None read small is = tt
no_role x body (Some r) read small is = by_role r (sym (role_is newest_format body r small (x.newest body ∙ read)) ∙ is)
  where
    by_role : (q : Record) → tells_role q ≡ false → IsNoRole (Some q)
    by_role (begins s named) e = tt
    by_role (changes c state) e = tt
    by_role (renews named) e = tt
    by_role (draws number) e = tt
    by_role follows e = let no : ⊥ = cc in no
    by_role promotes e = let no : ⊥ = cc in no

fed_bodies : AreRecordsExact → (bodies : List (List ℕ)) → AreAllBytes bodies → AreNoRoles (feed_of bodies)
fed_bodies x [] bytes = tt
fed_bodies x (body ∷ bodies) bytes = by_test (is_role body) refl (fed_bodies x bodies bytes.1)
  where
    by_test : (t : Bool) → is_role body ≡ t → AreNoRoles (feed_of bodies) → AreNoRoles (if not t then body ∷ feed_of bodies else feed_of bodies)
    by_test true is rest = rest
    by_test false is rest = (no_role x body (read_record body) refl bytes.0 is, rest)

pub followers_make : AreRecordsExact → FollowersMakeTheBook
followers_make x texts shelf bodies bytes =
    ap (λ (o : Option Record). with_bodies texts shelf 14 (feed_of bodies) (start_by texts shelf 8 1 o)) (x.back follows tt)
    ∙ all_fed texts shelf 8 (feed_of bodies) nothing tt (fed_bodies x bodies bytes)

-- ---- one body more

pub one_more : OneBodyMore
one_more texts shelf bodies body = with_push texts shelf 8 bodies body nothing

promoted_push : AreRecordsExact → (texts : Texts) (shelf : ℕ) (bodies : List (List ℕ)) (x : Making) → book_of texts shelf bodies ≡ x
    → book_of texts shelf (bodies ++ body_of promotes ∷ []) ≡ with_body texts shelf (8 + length (frames bodies)) (body_of promotes) x
promoted_push x texts shelf bodies y is =
    with_push texts shelf 8 bodies (body_of promotes) nothing ∙ ap (with_body texts shelf (8 + length (frames bodies)) (body_of promotes)) is

pub promotions_make : AreRecordsExact → PromotionsMakeTheBook
promotions_make x texts shelf bodies = (
  λ m fed is. ⊎_elim (begun_promoted m fed) (made_promoted m fed) is,
  λ s is. promoted_push x texts shelf bodies (waits s) is ∙ ap (fed_by texts shelf place 1) (x.back promotes tt),
)
  where
    place : ℕ
    place = 8 + length (frames bodies)

    begun_promoted : (m : Made) → m.book.follows ≡ true → book_of texts shelf bodies ≡ begun m → book_of texts shelf (bodies ++ body_of promotes ∷ []) ≡ made (promoted 1 m)
    begun_promoted m fed is = promoted_push x texts shelf bodies (begun m) is ∙ (ap (second_by texts place 1 m) (x.back promotes tt) ∙ ap (promoted_by place 1 m) fed)

    made_promoted : (m : Made) → m.book.follows ≡ true → book_of texts shelf bodies ≡ made m → book_of texts shelf (bodies ++ body_of promotes ∷ []) ≡ made (promoted 1 m)
    made_promoted m fed is = promoted_push x texts shelf bodies (made m) is ∙ (ap (next_by texts place 1 m) (x.back promotes tt) ∙ ap (promoted_by place 1 m) fed)

pub bodies_between : AreRecordsExact → BodiesStandBetween
bodies_between x texts shelf bodies body m k first second room =
    let again : m.book ≡ reopened m.book = (made_fits x texts shelf bodies m first).again in
    let later : k.book ≡ reopened k.book = (made_fits x texts shelf (bodies ++ body ∷ []) k second).again in (
      record {
        format = newest;
        known = refl;
        bodies = bodies;
        flight = adds body;
        room = room;
        first = makes_now texts shelf bodies m.book (m.earlier, first ∙ ap (λ (y : Book). Some (record { book = y; earlier = m.earlier })) again);
        second = makes_now texts shelf (bodies ++ body ∷ []) k.book (k.earlier, second ∙ ap (λ (y : Book). Some (record { book = y; earlier = k.earlier })) later);
      },
      record { format = refl; bodies_are = refl; flight_is = refl },
    )

-- ---- facts of the records that a shelf is fed

-- a fact of records that asks nothing of one that a journal begins with, nor of one that promotes a shelf, and that does not look at the file
record IsFact (P : Made → Option Record → Type 0) : Type 0 where
  begun_so : (m : Made) (on : ℕ) (named : List (List ℕ × List ℕ)) → P m (Some (begins on named))
  promoted_so : (m : Made) → P m (Some promotes)
  led_so : (n : ℕ) (m : Made) (r : Option Record) → P m r → P (Led n m) r

own_is_fact : IsFact IsOwnRecord
own_is_fact = record { begun_so = λ m on named. tt; promoted_so = λ m. tt; led_so = led_own }
  where
    led_own : (n : ℕ) (m : Made) (r : Option Record) → IsOwnRecord m r → IsOwnRecord (Led n m) r
    led_own n m None own = tt
    led_own n m (Some (begins on named)) own = tt
    led_own n m (Some (renews named)) own = tt
    led_own n m (Some (draws number)) own = tt
    led_own n m (Some follows) own = tt
    led_own n m (Some promotes) own = tt
    led_own n m (Some (changes c state)) own =
        let b = (Led n m).book in
        let same : state_by b c ≡ state_by m.book c = state_bare b c ∙ sym (state_bare m.book c) in
        subst (IsOwnState b c) (sym (led_told n m c state)) (own_by b m.book c (told_in m.earlier m.book c state) same own)

landed_is_fact : IsFact IsLandedRecord
landed_is_fact = record { begun_so = λ m on named. tt; promoted_so = λ m. tt; led_so = led_landed }
  where
    by_told : (n : ℕ) (m : Made) (c : Change) (x : Told) → IsLanded m c x → IsLanded (Led n m) c x
    by_told n m c unread h = led_landing n m c [] ∙ h
    by_told n m c misread h = absurd h
    by_told n m c (told d) h = led_landing n m c (inside_of d.frames) ∙ h

    led_landed : (n : ℕ) (m : Made) (r : Option Record) → IsLandedRecord m r → IsLandedRecord (Led n m) r
    led_landed n m None h = tt
    led_landed n m (Some (begins on named)) h = tt
    led_landed n m (Some (renews named)) h = tt
    led_landed n m (Some (draws number)) h = tt
    led_landed n m (Some follows) h = tt
    led_landed n m (Some promotes) h = tt
    led_landed n m (Some (changes c state)) h =
        subst (IsLanded (Led n m) c) (sym (led_told n m c state)) (by_told n m c (told_in m.earlier m.book c state) h)

module _ (texts : Texts) (shelf : ℕ) where
  damaged_stays : (place : ℕ) (bodies : List (List ℕ)) (p : ℕ) → with_bodies texts shelf place bodies (damaged p) ≡ damaged p
  damaged_stays place [] p = refl
  damaged_stays place (body ∷ bodies) p = damaged_stays (place + 5 + length body) bodies p

  -- bodies after others
  behind : (place : ℕ) (front bodies : List (List ℕ)) (x : Making) → (later : ℕ) × (with_bodies texts shelf place (front ++ bodies) x ≡ with_bodies texts shelf later bodies (with_bodies texts shelf place front x))
  behind place [] bodies x = (place, refl)
  behind place (f ∷ front) bodies x = behind (place + 5 + length f) front bodies (with_body texts shelf place f x)

  all_ahead : (place : ℕ) (bodies : List (List ℕ)) (x : Making) → IsAhead texts shelf x → AreNoRoles bodies → IsAhead texts shelf (with_bodies texts shelf place bodies x)
  all_ahead place [] x ahead plain = ahead
  all_ahead place (body ∷ bodies) x ahead plain =
      all_ahead (place + 5 + length body) bodies (with_body texts shelf place body x) (one_fed texts shelf place body x ahead plain.0).1 plain.1

  -- those in front of others are none of a role
  plain_front : (front bodies : List (List ℕ)) → AreNoRoles (front ++ bodies) → AreNoRoles front × AreNoRoles bodies
  plain_front [] bodies plain = (tt, plain)
  plain_front (f ∷ front) bodies plain = let rest = plain_front front bodies plain.1 in ((plain.0, rest.0), rest.1)

  module _ (P : Made → Option Record → Type 0) (fact : IsFact P) (e : Made) where
    -- of a record with which a journal begins nothing is asked
    at_first : (later : ℕ) (body : List ℕ) (rest : List (List ℕ)) (m : Made) → IsNoRole (read_record body) → made_in (with_bodies texts shelf later (body ∷ rest) nothing) ≡ Some e → P m (read_record body)
    at_first later body rest m plain makes = by_record (read_record body) refl plain
      where
        no_book : (r : Option Record) → read_record body ≡ r → start_by texts shelf later (length body) r ≡ damaged later → P m r
        no_book r read damages =
            let none : None ≡ Some e =
            sym (ap made_in (damaged_stays (later + 5 + length body) rest later))
            ∙ (ap (λ (y : Making). made_in (with_bodies texts shelf (later + 5 + length body) rest y)) (sym (ap (start_by texts shelf later (length body)) read ∙ damages)) ∙ makes) in
            absurd (let no : ⊥ = cc in no)

        by_record : (r : Option Record) → read_record body ≡ r → IsNoRole r → P m r
        by_record None read plain = no_book None read refl
        by_record (Some (begins on named)) read plain = fact.begun_so m on named
        by_record (Some (changes c state)) read plain = no_book (Some (changes c state)) read refl
        by_record (Some (renews named)) read plain = no_book (Some (renews named)) read refl
        by_record (Some (draws number)) read plain = no_book (Some (draws number)) read refl
        by_record (Some follows) read plain = absurd plain
        by_record (Some promotes) read plain = absurd plain

    -- what holds of each record of a journal holds of each that a shelf is fed
    fed_each : AreRecordsExact → (feed : List (List ℕ)) → AreNoRoles feed → made_in (book_of texts shelf feed) ≡ Some e → OfEach P texts shelf feed → OfEach P texts shelf (body_of follows ∷ feed)
    fed_each x feed plain makes each [] rest body m is reach = absurd (let none : None ≡ Some m = reach in let no : ⊥ = cc in no)
    fed_each x feed plain makes each (f ∷ fs) rest body m is reach = by_making (book_of texts shelf fs) refl (all_ahead 8 fs nothing tt parts.0) (ap made_in (sym fed) ∙ here)
      where
        others : feed ≡ fs ++ body ∷ rest
        others = cc

        parts : AreNoRoles fs × AreNoRoles (body ∷ rest)
        parts = plain_front fs (body ∷ rest) (subst AreNoRoles others plain)

        here : made_in (book_of texts shelf (body_of follows ∷ fs)) ≡ Some m
        here = let same : body_of follows ≡ f = cc in ap (λ (b : List ℕ). made_in (book_of texts shelf (b ∷ fs))) same ∙ reach

        fed : book_of texts shelf (body_of follows ∷ fs) ≡ fed_with shelf (book_of texts shelf fs)
        fed = ap (λ (o : Option Record). with_bodies texts shelf 14 fs (start_by texts shelf 8 1 o)) (x.back follows tt) ∙ all_fed texts shelf 8 fs nothing tt parts.0

        by_making : (y : Making) → book_of texts shelf fs ≡ y → IsAhead texts shelf y → made_in (fed_with shelf y) ≡ Some m → P m (read_record body)
        by_making nothing at ahead made_so =
            let later = behind 8 fs (body ∷ rest) nothing in
            at_first later.0 body rest m parts.1.0
            (ap (λ (y : Making). made_in (with_bodies texts shelf later.0 (body ∷ rest) y)) (sym at) ∙ (ap made_in (sym later.1) ∙ (ap (λ (bs : List (List ℕ)). made_in (book_of texts shelf bs)) (sym others) ∙ makes)))
        by_making waited at ahead made_so = absurd ahead
        by_making (waits s) at ahead made_so = absurd ahead
        by_making (begun k) at ahead made_so =
            let same : Led (k.book.length + 6) k ≡ m = cc in
            subst (λ (y : Made). P y (read_record body)) same (fact.led_so (k.book.length + 6) k (read_record body) (each fs rest body k others (ap made_in at)))
        by_making (made k) at ahead made_so =
            let same : Led (k.book.length + 6) k ≡ m = cc in
            subst (λ (y : Made). P y (read_record body)) same (fact.led_so (k.book.length + 6) k (read_record body) (each fs rest body k others (ap made_in at)))
        by_making (damaged p) at ahead made_so = absurd (let none : None ≡ Some m = made_so in let no : ⊥ = cc in no)
        by_making (other p) at ahead made_so = absurd (let none : None ≡ Some m = made_so in let no : ⊥ = cc in no)

    promoted_each : AreRecordsExact → (more : List (List ℕ)) → OfEach P texts shelf more → OfEach P texts shelf (more ++ body_of promotes ∷ [])
    promoted_each x more each = each_more P texts shelf more (body_of promotes) each (λ m is. subst (P m) (sym (x.back promotes tt)) (fact.promoted_so m))

pub fed_own : AreRecordsExact → FedJournalsAreOwn
fed_own x texts shelf bodies m bytes makes =
    let plain = fed_bodies x bodies bytes in (
      λ own. fed_each texts shelf IsOwnRecord own_is_fact m x (feed_of bodies) plain makes own,
      λ landed. fed_each texts shelf IsLandedRecord landed_is_fact m x (feed_of bodies) plain makes landed,
      λ more. (
        λ own. promoted_each texts shelf IsOwnRecord own_is_fact m x more own,
        λ landed. promoted_each texts shelf IsLandedRecord landed_is_fact m x more landed,
      ),
    )
