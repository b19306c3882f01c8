-- What disks that stand between two books hold.
use Rattle.std.proofs.Common.{◌≡◌, ◌⊎◌, inl, inr, ℕ, true, List, [], ◌∷◌, ◌++◌, length, get_or, Option, Some, None, option_map, refl, sym, ◌∙◌, ap, subst, ⊎_elim}
use Rattle.std.proofs.lemmas.List.{append-nil}
use Rattle.script_nodes.specs.Setup.{Named}
use Rattle.page_journal.specs.Records.{newest, is_format, format_of, records, Intact}
use Rattle.page_journal.specs.Holding.{IsClosed, MayHold}
use Rattle.page_journal.proofs.Holds.{just_these, before_or_after}
use Rattle.replay_spec.specs.Book.{Change, Work, landing, compacting, Doubt, Book, reopened}
use Rattle.replay_spec.specs.Rules.{Journal, Rules}
use Rattle.replay_spec.specs.Change.{land}
use Rattle.replay_spec.specs.Compaction.{worked, reopened_with}
use Rattle.replay_spec.specs.Step.{crash, lost, kept, recovered, step}
use Rattle.replay_spec.specs.Runs.{doubted, lands}
use Rattle.replay_spec.specs.Recovery.{of_length}
use Rattle.replay_spec.proofs.Going.{Goes, stays, draws, spends, publishes, fails, goes_to, fails_at, rewrites, fails_to_rewrite, keeps, keeps_rewritten, loses, goes}
use Rattle.replay_spec.proofs.Barred.{recovered_setup}
use Rattle.replay_spec.proofs.Reopened.{reopened_same}
use Rattle.machine_states.specs.Machine.{Suspended}
use Rattle.journal_records.specs.Records.{changes, body_of, IsInGrammar}
use Rattle.journal_records.specs.Laws.{AreRecordsExact}
use Rattle.journal_spec.specs.Before.{Earlier}
use Rattle.journal_spec.specs.Lengths.{state_by, state_told, own_body}
use Rattle.journal_spec.specs.Making.{Texts, Making, made_in, book_of}
use Rattle.journal_spec.specs.Old.{book_of_format, format_of_now}
use Rattle.journal_spec.specs.Bytes.{by_log, book_in_bytes}
use Rattle.journal_spec.specs.Copying.{copies}
use Rattle.journal_spec.specs.Opening.{renewal_body, opened_book}
use Rattle.journal_spec.specs.Whole.{IsSpelledState, CanBeWritten}
use Rattle.journal_spec.specs.Standing.{IsBook, Makes, MakesOf, MakesIn, Flight, still, adds, puts, flight_of, with_flight, format_with, HasRoom, Between, Carries, Hold, HoldsOpening, if_kept, length_in}
use Rattle.journal_spec.specs.Owning.{IsOwnBefore}
use Rattle.journal_spec.specs.Keeping.{IsTakenDoubt, IsOwnWork, IsOwnDoubt, AreOver, KeepsDoubt, KeepsWith, body_by, landed_in, landed_bodies, IsWritable, at_stake}
use Rattle.journal_spec.specs.Laws.{ImagesMakeBooks, OpenedImagesMakeBooks, BooksStandAlike, ACrashIsLostOrKept, RenewalsStandBetween, LandingsStandBetween, EventsStandBetween, compacted_book, CompactionsStandBetween, MigrationsStandBetween}
use Rattle.journal_spec.proofs.Brief.{moved_state, moved_told}
use Rattle.journal_spec.proofs.Appending.{event_appends}
use Rattle.journal_spec.proofs.Taking.{land_own, moved_before, IsMoved, still_by}
use Rattle.journal_spec.proofs.Fitting.{any_fit, made_fits}
use Rattle.journal_spec.proofs.Rewriting.{copies_make, migrations_make}
use Rattle.journal_spec.proofs.Kept.{appended, event_kept_so, event_told, renewed_kept, landing_kept}

-- bytes that hold these bodies make what they make, by the format that the bytes tell
pub read_as : (texts : Texts) (shelf : ℕ) (bodies : List (List ℕ)) (bytes : List ℕ) → records bytes ≡ Intact bodies
    → book_in_bytes texts shelf bytes ≡ book_of_format (format_of bytes) texts shelf bodies
read_as texts shelf bodies [] is = absurd (let no : ⊥ = cc in no)
read_as texts shelf bodies (b ∷ bytes) is = ap (by_log (format_of (b ∷ bytes)) texts shelf) is

-- in the newest format bodies make what they make
pub makes_now : (texts : Texts) (shelf : ℕ) (bodies : List (List ℕ)) (b : Book) → Makes texts shelf bodies b → MakesOf texts shelf newest bodies b
makes_now texts shelf bodies b (earlier, is) = (earlier, ap made_in (format_of_now texts shelf bodies) ∙ is)

-- the format that the bytes of a journal tell
pub closed_format : (f : ℕ) (bodies : List (List ℕ)) (bytes : List ℕ) → IsClosed f bodies bytes → format_of bytes ≡ f
closed_format f bodies bytes closed = ap (λ (l : List ℕ). get_or l 7 0) closed.is

pub may_format : (f : ℕ) (bodies : List (List ℕ)) (body bytes : List ℕ) → MayHold f bodies body bytes → format_of bytes ≡ f
may_format f bodies body bytes (inl closed) = closed_format f bodies bytes closed
may_format f bodies body bytes (inr in_flight) = ap (λ (l : List ℕ). get_or l 7 0) in_flight.is

makes_in : (texts : Texts) (shelf f : ℕ) (bodies : List (List ℕ)) (bytes : List ℕ) (b : Book) → format_of bytes ≡ f → records bytes ≡ Intact bodies
    → MakesOf texts shelf f bodies b → MakesIn texts shelf bytes b
makes_in texts shelf f bodies bytes b format is (earlier, makes) =
    (earlier, ap made_in (read_as texts shelf bodies bytes is ∙ ap (λ (n : ℕ). book_of_format n texts shelf bodies) format) ∙ makes)

found_in : (texts : Texts) (shelf : ℕ) (before after : Book) (f : ℕ) → is_format f ≡ true → (bodies : List (List ℕ)) (t : Flight) → HasRoom bodies t
    → MakesOf texts shelf f bodies before → MakesOf texts shelf (format_with f t) (with_flight bodies t) after → (image : List ℕ) → Hold f bodies t image
    → MakesIn texts shelf image before ⊎ MakesIn texts shelf image after
found_in texts shelf before after f known bodies still room first second image closed =
    inl (makes_in texts shelf f bodies image before (closed_format f bodies image closed) (just_these f bodies image known room closed) first)
found_in texts shelf before after f known bodies (adds body) room first second image may =
    let format = may_format f bodies body image may in
    ⊎_elim
    (λ is. inl (makes_in texts shelf f bodies image before format is first))
    (λ is. inr (makes_in texts shelf f (bodies ++ body ∷ []) image after format is second))
    (before_or_after f bodies body image known room may)
found_in texts shelf before after f known bodies (puts e others) room first second image (inl closed) =
    inl (makes_in texts shelf f bodies image before (closed_format f bodies image closed) (just_these f bodies image known room.0 closed) first)
found_in texts shelf before after f known bodies (puts e others) room first second image (inr closed) =
    inr (makes_in texts shelf e others image after (closed_format e others image closed) (just_these e others image room.2 room.1 closed) second)

pub make_books : ImagesMakeBooks
make_books texts shelf before after k image held =
    found_in texts shelf before after k.format k.known k.bodies k.flight k.room k.first k.second image held

is_book_of : (m : Making) (b c : Book) → reopened c ≡ reopened b → IsBook m b → IsBook m c
is_book_of m b c same (earlier, is) = (earlier, is ∙ ap (λ (x : Book). Some (record { book = x; earlier = earlier })) (sym same))

-- a crash by which the setup stays
crash_so : (rules : Rules) (b : Book) (nonce : ℕ)
    → (reopened (step rules b nonce (crash b.scripts) lost).1 ≡ reopened b) × (reopened (step rules b nonce (crash b.scripts) kept).1 ≡ reopened (recovered rules kept b.down b))
unfolding step
crash_so rules b nonce =
    let y = recovered rules kept b.down b in (
      ap reopened (reopened_same rules.journal b),
      ap (λ (ss : List Named). reopened (reopened_with rules.journal ss y)) (sym (recovered_setup rules kept b.down b)) ∙ ap reopened (reopened_same rules.journal y),
    )

pub lost_or_kept : ACrashIsLostOrKept
lost_or_kept texts shelf rules b nonce n measures k image held =
    let both = crash_so rules b nonce in
    ⊎_elim
    (λ is. inl (is_book_of (book_in_bytes texts shelf image) b (step rules b nonce (crash b.scripts) lost).1 both.0 is))
    (λ is. inr (is_book_of (book_in_bytes texts shelf image) (if_kept n b) (step rules b nonce (crash b.scripts) kept).1 (both.1 ∙ measures) is))
    (make_books texts shelf b (if_kept n b) k image held)

-- an image in the middle of an opening
opening_makes : (texts : Texts) (shelf : ℕ) (scripts : List Named) (b : Book) (image : List ℕ) → HoldsOpening texts shelf scripts b image
    → MakesIn texts shelf image b ⊎ MakesIn texts shelf image (opened_book shelf scripts b)
opening_makes texts shelf scripts b image (l, held) = make_books texts shelf b (opened_book shelf scripts b) l image held

pub opened_make_books : OpenedImagesMakeBooks
opened_make_books texts shelf scripts before after k image held = ⊎_elim
    (λ here. inl (make_books texts shelf before after k image here))
    (λ opened. ⊎_elim
    (λ l. ⊎_elim (λ is. inl (inl is)) (λ is. inr (inl is)) (opening_makes texts shelf scripts before image l))
    (λ l. ⊎_elim (λ is. inl (inr is)) (λ is. inr (inr is)) (opening_makes texts shelf scripts after image l))
    opened)
    held

-- the bodies with what is at stake make the book where that is kept, which the rules measure so
abbrev StakeMakes : Texts → (shelf : ℕ) → List (List ℕ) → Rules → (b d : Book) → (stake : Option Change) → Option Doubt → Type 0
StakeMakes texts shelf bodies rules b d stake o =
    let more = option_map (own_body b) stake in
    let after = recovered (of_length (length_in more)) kept o d in
    Makes texts shelf (with_flight bodies (flight_of more)) after × (reopened (recovered rules kept o d) ≡ reopened after)

-- what was landed leaves nothing in doubt
landed_makes : (texts : Texts) (shelf : ℕ) (bodies : List (List ℕ)) (rules : Rules) (b d : Book) (c : Change) (o : Option Doubt) → o ≡ None
    → Makes texts shelf (bodies ++ own_body b c ∷ []) d → StakeMakes texts shelf bodies rules b d (Some c) o
landed_makes texts shelf bodies rules b d c None up makes = (makes, refl)
landed_makes texts shelf bodies rules b d c (Some doubt) up makes = absurd (let no : ⊥ = cc in no)

-- what is in doubt is spelled in the book after an event that landed nothing, as in the book before it
told_still : (b d : Book) (c : Change) → IsMoved b d → state_told d c ≡ state_told b c
told_still b d c moved = ap (λ (y : Book). state_told y c) moved ∙ moved_told b d.drawn d.out d.down c

spelled_still : (b d : Book) (c : Change) → IsMoved b d → CanBeWritten b c → CanBeWritten d c
spelled_still b d c moved can =
    let state : state_by d c ≡ state_by b c = ap (λ (y : Book). state_by y c) moved ∙ moved_state b d.drawn d.out d.down c in
    record {
      body = subst (λ (s : Option (List ℕ)). IsInGrammar (changes c s)) (sym (told_still b d c moved)) can.body;
      state = subst (λ (s : Option Suspended). IsSpelledState s) (sym state) can.state;
    }

before_still : (earlier : Earlier) (b d : Book) (c : Change) → IsMoved b d → IsOwnBefore earlier b (Some c) → IsOwnBefore earlier d (Some c)
before_still earlier b d c moved own =
    subst (λ (y : Book). IsOwnBefore earlier y (Some c)) (sym moved) (moved_before earlier b d.drawn d.out d.down c own)

-- bodies with the record of a landing in doubt make the book where it is kept
work_makes : AreRecordsExact → (texts : Texts) (shelf : ℕ) (bodies : List (List ℕ)) (rules : Rules) (b d : Book) (count : ℕ) (w : Work) → AreOver rules shelf
    → d.down ≡ Some (record { count = count; work = w }) → (k : KeepsDoubt texts shelf bodies d) → IsMoved b d
    → IsOwnBefore k.keeps.earlier b (doubted (Some (record { count = count; work = w }))) → IsWritable b (doubted (Some (record { count = count; work = w })))
    → StakeMakes texts shelf bodies rules b d (doubted (Some (record { count = count; work = w }))) (Some (record { count = count; work = w }))
work_makes x texts shelf bodies rules b d count compacting over down holds moved before spelled =
    absurd (subst (λ (z : Option Doubt). IsTakenDoubt d z holds.keeps.recoverable.doubted) down holds.keeps.recoverable.doubt)
work_makes x texts shelf bodies rules b d count (landing c inside) over down holds moved before spelled =
    let doubt : Doubt = record { count = count; work = landing c inside } in
    let own : IsOwnWork d (landing c inside) holds.keeps.recoverable.doubted = subst (λ (z : Option Doubt). IsOwnDoubt d z holds.keeps.recoverable.doubted) down holds.doubt in
    let same : own_body d c ≡ own_body b c = ap (λ (s : Option (List ℕ)). body_of (changes c s)) (told_still b d c moved) in
    let can : IsWritable d (lands rules d (crash d.scripts) kept) = subst (IsWritable d) (sym (ap doubted down)) (spelled_still b d c moved spelled) in
    let behind : IsOwnBefore holds.keeps.earlier d (lands rules d (crash d.scripts) kept) =
    subst (IsOwnBefore holds.keeps.earlier d) (sym (ap doubted down)) (before_still holds.keeps.earlier b d c moved before) in
    let then_it = event_kept_so x texts shelf bodies rules d 0 (crash d.scripts) kept over tt refl tt holds behind can in
    let after = land (of_length (length (own_body b c))) c inside d in
    let measures : reopened (land rules c inside d) ≡ reopened after =
    land_own rules shelf d c inside over own.1 ∙ ap (λ (bs : List ℕ). reopened (land (of_length (length bs)) c inside d)) same in
    let crashed : reopened after ≡ reopened (step rules d 0 (crash d.scripts) kept).1 =
    sym ((crash_so rules d 0).1 ∙ (ap (λ (z : Option Doubt). reopened (recovered rules kept z d)) down ∙ measures)) in
    let bodies_are : landed_bodies d (lands rules d (crash d.scripts) kept) ≡ own_body b c ∷ [] = ap (λ (z : Option Doubt). landed_bodies d (doubted z)) down ∙ ap (λ (bs : List ℕ). bs ∷ []) same in
    let made_so = is_book_of (book_of texts shelf (bodies ++ landed_bodies d (lands rules d (crash d.scripts) kept))) (step rules d 0 (crash d.scripts) kept).1 after crashed
    (then_it.keeps.keeps.earlier, then_it.keeps.keeps.makes) in
    (subst (λ (bs : List (List ℕ)). Makes texts shelf (bodies ++ bs) after) bodies_are made_so, measures)

doubt_makes : AreRecordsExact → (texts : Texts) (shelf : ℕ) (bodies : List (List ℕ)) (rules : Rules) (b d : Book) (o : Option Doubt) → AreOver rules shelf
    → d.down ≡ o → (k : KeepsDoubt texts shelf bodies d) → ((o ≡ None → ⊥) → IsMoved b d) → IsOwnBefore k.keeps.earlier b (doubted o) → IsWritable b (doubted o)
    → StakeMakes texts shelf bodies rules b d (doubted o) o
doubt_makes x texts shelf bodies rules b d None over down holds unmoved before spelled =
    ((holds.keeps.earlier, holds.keeps.makes), refl)
doubt_makes x texts shelf bodies rules b d (Some doubt) over down holds unmoved before spelled =
    work_makes x texts shelf bodies rules b d doubt.count doubt.work over down holds (unmoved (λ none. let no : ⊥ = cc in no)) before spelled

-- books that are the same after a crash
worked_reopened : (r : Rules) (w : Work) (b : Book) → reopened (worked r w b) ≡ reopened (worked r w (reopened b))
worked_reopened r w b = by_journal r.journal w
  where
    by_journal : (j : Option Journal) (w : Work) → reopened (worked (record r { journal = j }) w b) ≡ reopened (worked (record r { journal = j }) w (reopened b))
    by_journal None (landing c inside) = refl
    by_journal (Some j) (landing c inside) = refl
    by_journal None compacting = refl
    by_journal (Some j) compacting = refl

pub kept_alike : (r : Rules) (o : Option Doubt) (b c : Book) → reopened b ≡ reopened c → reopened (recovered r kept o b) ≡ reopened (recovered r kept o c)
kept_alike r None b c same = same
kept_alike r (Some doubt) b c same =
    worked_reopened r doubt.work b ∙ (ap (λ (y : Book). reopened (worked r doubt.work y)) same ∙ sym (worked_reopened r doubt.work c))

between_alike : (texts : Texts) (shelf : ℕ) (a b c d : Book) → reopened a ≡ reopened c → reopened b ≡ reopened d → (k : Between texts shelf a b)
    → (l : Between texts shelf c d) × Carries k.format k.bodies k.flight l
between_alike texts shelf a b c d first second k = (
  record {
    format = k.format;
    known = k.known;
    bodies = k.bodies;
    flight = k.flight;
    room = k.room;
    first = is_book_of (book_of_format k.format texts shelf k.bodies) a c (sym first) k.first;
    second = is_book_of (book_of_format (format_with k.format k.flight) texts shelf (with_flight k.bodies k.flight)) b d (sym second) k.second;
  },
  record { format = refl; bodies_are = refl; flight_is = refl },
)

pub stand_alike : BooksStandAlike
stand_alike texts shelf = (
  λ (n : ℕ) (b c : Book) (same : reopened b ≡ reopened c) (down : b.down ≡ c.down).
      kept_alike (of_length n) b.down b c same ∙ ap (λ (o : Option Doubt). reopened (recovered (of_length n) kept o c)) down,
  between_alike texts shelf,
)

-- where something landed, nothing is in doubt
up_by : {lawful : Type 0} (rules : Rules) (b d : Book) (o : Option Change) → Goes lawful rules b o d → (c : Change) → o ≡ Some c → d.down ≡ None
up_by rules b d o stays c e = absurd (let no : ⊥ = cc in no)
up_by rules b d o draws c e = absurd (let no : ⊥ = cc in no)
up_by rules b d o (spends n out) c e = absurd (let no : ⊥ = cc in no)
up_by rules b d o (publishes t x inside h) c e = h.up
up_by rules b d o (fails count t x inside h) c e = absurd (let no : ⊥ = cc in no)
up_by rules b d o (goes_to tick later up unfed) c e = up
up_by rules b d o (fails_at count tick later up unfed) c e = absurd (let no : ⊥ = cc in no)
up_by rules b d o (rewrites up unfed) c e = up
up_by rules b d o (fails_to_rewrite count up unfed) c e = absurd (let no : ⊥ = cc in no)
up_by rules b d o (keeps scripts count x inside down) c e = refl
up_by rules b d o (keeps_rewritten scripts count down) c e = refl
up_by rules b d o (loses scripts) c e = absurd (let no : ⊥ = cc in no)

-- what is at stake is spelled, so what lands is
landed_spelled : (b : Book) (o : Option Change) (d : Book) → IsWritable b (at_stake o d) → IsWritable b o
landed_spelled b None d h = tt
landed_spelled b (Some c) d h = h

-- bodies make the book, and tell this
abbrev KeepsTold : Texts → (shelf : ℕ) → Book → Earlier → List (List ℕ) → Type 0
KeepsTold texts shelf b earlier bodies = (k : KeepsDoubt texts shelf bodies b) × (k.keeps.earlier ≡ earlier)

landed_before : (earlier : Earlier) (b : Book) (o : Option Change) (d : Book) → IsOwnBefore earlier b (at_stake o d) → IsOwnBefore earlier b o
landed_before earlier b None d h = tt
landed_before earlier b (Some c) d h = h

stake_makes : AreRecordsExact → (texts : Texts) (shelf : ℕ) (bodies : List (List ℕ)) (rules : Rules) (b d : Book) (o : Option Change) → AreOver rules shelf
    → ((c : Change) → o ≡ Some c → d.down ≡ None) → (o ≡ None → (d.down ≡ None → ⊥) → IsMoved b d) → (earlier : Earlier)
    → (k : KeepsWith texts shelf bodies (landed_bodies b o) d) → (o ≡ None → k.keeps.keeps.earlier ≡ earlier) → IsOwnBefore earlier b (at_stake o d) → IsWritable b (at_stake o d)
    → StakeMakes texts shelf bodies rules b d (at_stake o d) d.down
stake_makes x texts shelf bodies rules b d (Some c) over up unmoved earlier holds same before spelled =
    landed_makes texts shelf bodies rules b d c d.down (up c refl) (holds.keeps.keeps.earlier, holds.keeps.keeps.makes)
stake_makes x texts shelf bodies rules b d None over up unmoved earlier holds same before spelled =
    let all : KeepsTold texts shelf d earlier bodies = subst (KeepsTold texts shelf d earlier) (append-nil bodies) (holds.keeps, same refl) in
    doubt_makes x texts shelf bodies rules b d d.down over refl all.0 (unmoved refl) (subst (λ (e : Earlier). IsOwnBefore e b (doubted d.down)) (sym all.1) before) spelled

-- bodies with one in flight, or none, make what they make in the newest format
now_with : (texts : Texts) (shelf : ℕ) (bodies : List (List ℕ)) (more : Option (List ℕ)) (b : Book) → Makes texts shelf (with_flight bodies (flight_of more)) b
    → MakesOf texts shelf (format_with newest (flight_of more)) (with_flight bodies (flight_of more)) b
now_with texts shelf bodies None b makes = makes_now texts shelf bodies b makes
now_with texts shelf bodies (Some body) b makes = makes_now texts shelf (bodies ++ body ∷ []) b makes

pub stand_between : AreRecordsExact → EventsStandBetween
stand_between x texts shelf bodies rules b nonce event fate over appends setup lawful holds before spelled room =
    let d = (step rules b nonce event fate).1 in
    let o = lands rules b event fate in
    let gone = goes rules b nonce event fate in
    let doubt = appended b b.down holds.keeps.recoverable.doubted holds.keeps.recoverable.doubt in
    let more = option_map (own_body b) (at_stake o d) in
    let here = landed_before holds.keeps.earlier b o d before in
    let can = landed_spelled b o d spelled in
    let then_it = event_kept_so x texts shelf bodies rules b nonce event fate over appends setup lawful holds here can in
    let told_so = event_told x texts shelf bodies rules b nonce event fate over appends setup lawful holds here can in
    let made_so = stake_makes x texts shelf bodies rules b d o over (up_by rules b d o gone) (still_by rules b d o gone (event_appends rules b nonce event fate appends setup doubt) doubt)
    holds.keeps.earlier then_it told_so before spelled in (
      record {
        format = newest;
        known = refl;
        bodies = bodies;
        flight = flight_of more;
        room = room;
        first = makes_now texts shelf bodies b (holds.keeps.earlier, holds.keeps.makes);
        second = now_with texts shelf bodies more (recovered (of_length (length_in more)) kept d.down d) made_so.0;
      },
      record { format = refl; bodies_are = refl; flight_is = refl },
      made_so.1,
    )

pub renewal_between : AreRecordsExact → RenewalsStandBetween
renewal_between x texts shelf bodies b scripts holds given unfed differs room =
    let then_it = (renewed_kept x texts shelf bodies b scripts holds given unfed differs).keeps.keeps in (
      record {
        format = newest;
        known = refl;
        bodies = bodies;
        flight = adds (renewal_body scripts);
        room = room;
        first = makes_now texts shelf bodies b (holds.earlier, holds.makes);
        second = makes_now texts shelf (bodies ++ renewal_body scripts ∷ []) (opened_book shelf scripts b) (then_it.earlier, then_it.makes);
      },
      record { format = refl; bodies_are = refl; flight_is = refl },
    )

pub landing_between : AreRecordsExact → LandingsStandBetween
landing_between x texts shelf bodies b c state inside holds up unfed fits taken out room =
    let then_it = landing_kept x texts shelf bodies b c state inside holds up unfed fits taken out in (
      record {
        format = newest;
        known = refl;
        bodies = bodies;
        flight = adds (body_by c state);
        room = room;
        first = makes_now texts shelf bodies b (holds.earlier, holds.makes);
        second = makes_now texts shelf (bodies ++ body_by c state ∷ []) (landed_in (length (body_by c state)) c inside b) (then_it.earlier, then_it.makes);
      },
      record { format = refl; bodies_are = refl; flight_is = refl },
    )

-- the copies that a compaction makes, in the place of the bodies that they were made of
pub compaction_between : AreRecordsExact → CompactionsStandBetween
compaction_between x texts shelf bodies m bytes makes unfed fits copies_fit =
    let others = copies newest texts shelf bodies m in
    let k = copies_make x texts shelf bodies m bytes makes unfed in
    let again : m.book ≡ reopened m.book = (made_fits x texts shelf bodies m makes).again in
    let after = compacted_book m.book in
    let same : k.0.book ≡ reopened after = k.2.book ∙ ap compacted_book again in (
      record {
        format = newest;
        known = refl;
        bodies = bodies;
        flight = puts newest others;
        room = (fits, copies_fit, refl);
        first = makes_now texts shelf bodies m.book (m.earlier, makes ∙ ap (λ (y : Book). Some (record { book = y; earlier = m.earlier })) again);
        second = makes_now texts shelf others after (k.0.earlier, k.1 ∙ ap (λ (y : Book). Some (record { book = y; earlier = k.0.earlier })) same);
      },
      record { format = refl; bodies_are = refl; flight_is = refl },
    )

-- what is written of a file of an older format, in its place
pub migration_between : AreRecordsExact → MigrationsStandBetween
migration_between x format texts shelf bodies m known anew bytes makes unfed fits copies_fit =
    let others = copies format texts shelf bodies m in
    let k = migrations_make x format texts shelf bodies m known anew bytes makes unfed copies_fit in
    let again : m.book ≡ reopened m.book = (any_fit x format texts shelf bodies m makes).again in
    let after : k.0.book ≡ reopened k.0.book = (made_fits x texts shelf others k.0 k.1).again in (
      k.0,
      k.1,
      k.2,
      (
        record {
          format = format;
          known = known;
          bodies = bodies;
          flight = puts newest others;
          room = (fits, copies_fit, refl);
          first = (m.earlier, makes ∙ ap (λ (y : Book). Some (record { book = y; earlier = m.earlier })) again);
          second = makes_now texts shelf others k.0.book (k.0.earlier, k.1 ∙ ap (λ (y : Book). Some (record { book = y; earlier = k.0.earlier })) after);
        },
        record { format = refl; bodies_are = refl; flight_is = refl },
      ),
    )
