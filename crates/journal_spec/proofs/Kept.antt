-- How a journal goes on beside its shelf.
use Rattle.std.proofs.Common.{◌≡◌, ◌⊎◌, ◌+◌, ℕ, List, [], ◌∷◌, ◌++◌, Option, Some, None, Bool, true, false, length, slice_get, refl, sym, ap, subst, ◌∙◌, inl, inr, ⊎_elim, append_assoc, if◌then◌else◌}
use Rattle.std.specs.Prelude.{Contains, nat_le, ⊤}
use Rattle.std.proofs.lemmas.List.{append-nil}
use Rattle.std.proofs.lemmas.Option.{same_Some}
use Rattle.script_value.specs.declared.outcome.TxName.{TxName}
use Rattle.script_nodes.specs.Setup.{Named}
use Rattle.page_journal.specs.Records.{frames}
use Rattle.replay_spec.specs.Book.{Instance, Change, sweeps, Work, Doubt, Book, spend, reopened, are_same}
use Rattle.replay_spec.specs.Book as spec
use Rattle.replay_spec.specs.Rules.{Journal, Rules, empty_book}
use Rattle.replay_spec.specs.Change.{instances_by, land}
use Rattle.replay_spec.specs.Compaction.{renewed_length, renewed_file, going_on_with}
use Rattle.replay_spec.specs.Step.{Event, take, publish, sweep, compact, crash, Fate, publish_comes, compact_comes, fate_of, recovered, step}
use Rattle.replay_spec.specs.Runs.{lands}
use Rattle.replay_spec.specs.Recovery.{of_length, number_in, resettled}
use Rattle.replay_spec.specs.Invariant.{Among, IsOf, IsOrderlyChange, IsOrderly}
use Rattle.replay_spec.specs.Laws.{IsLawful, Moment, then_book, book_after}
use Rattle.replay_spec.specs.Remade.{AreUsed}
use Rattle.replay_spec.proofs.Barred.{recovered_setup, some_setup, leader_opened}
use Rattle.replay_spec.proofs.Reopened.{follower_opened}
use Rattle.replay_spec.proofs.Stand.{Later, among_of}
use Rattle.replay_spec.proofs.Going.{goes, loses}
use Rattle.replay_spec.proofs.Orderly.{went, stepped, is_out, published, published_fewer, books_stay}
use Rattle.replay_spec.proofs.Orderly as orderly
use Rattle.replay_spec.proofs.Lands.{LandsAs, lands_as}
use Rattle.replay_spec.proofs.Numbers.{Uses, uses}
use Rattle.replay_spec.proofs.Events.{settled_setup, took_setup, swept_setup}
use Rattle.machine_states.specs.Machine.{Suspended, inside_of}
use Rattle.server_limits.specs.Limits.{most_fuel}
use Rattle.journal_records.specs.Records.{Record, changes, IsInGrammar, renewal_of, texts_of}
use Rattle.journal_records.specs.Reading.{read_record}
use Rattle.journal_records.specs.Laws.{AreRecordsExact}
use Rattle.journal_spec.specs.Before.{Earlier, nothing_told, Made, plain, made_of}
use Rattle.journal_spec.specs.Retaking.{Told, unread, misread, told, told_in, held, landing, IsLanded, then_told, retaken}
use Rattle.journal_spec.specs.Lengths.{state_by, state_told, told_own, own_told, own_body, journal_rules}
use Rattle.journal_spec.specs.Making.{Texts, made, told_next, made_in, book_of}
use Rattle.journal_spec.specs.Opening.{first_body, renewal_body, opening_bodies, opened_book}
use Rattle.journal_spec.specs.Whole.{AreWhole, HasWholeScripts}
use Rattle.journal_spec.specs.Events.{IsGiven}
use Rattle.journal_spec.specs.Owning.{OfEach, IsOwnState, IsOwnRecord, AreOwn, IsLandedRecord, AreLanded, IsOwnBefore}
use Rattle.journal_spec.specs.Keeping.{IsTakenAs, IsTakenWork, IsTakenDoubt, IsOut, landed_in, AreOver, Keeps, KeepsDoubt, KeepsWith, body_by, landed_bodies, left_bodies, bodies_left, IsAppending, KeepsSetup, IsWritable}
use Rattle.journal_spec.specs.Laws.{FreshJournalsAreKept, RenewalsAreKept, LandingsAreKept, EventsAreKept, RunsAreKept}
use Rattle.journal_spec.proofs.Brief.{moved_state}
use Rattle.journal_spec.proofs.Owned.{own_is_read}
use Rattle.journal_spec.proofs.Telling.{own_are_told, own_before_of}
use Rattle.journal_spec.proofs.Retaken.{held_fits, held_script}
use Rattle.journal_spec.proofs.Makings.{made_push, renewed_push, made_first}
use Rattle.journal_spec.proofs.Fitting.{WholeIn, whole_by}
use Rattle.journal_spec.proofs.Appending.{IsAppended, event_appends}
use Rattle.journal_spec.proofs.Setups.{same_setup, bodies_fed, bodies_unfed, crashed_book, crash_again}
use Rattle.journal_spec.proofs.Taking.{IsNew, moved_in, there, told_after, used_then, IsMadeOf, follow_by}

-- ---- the body of a change that would be taken makes the book after it

abbrev Makes : Texts → (shelf : ℕ) → List (List ℕ) → Book → Earlier → Type 0
Makes texts shelf bodies b earlier = made_in (book_of texts shelf bodies) ≡ Some (made_of b earlier)

told_here : (earlier : Earlier) (b : Book) (c : Change) (state : Option (List ℕ)) (x : Told) → told_in earlier b c state ≡ x → told_in earlier (reopened b) c state ≡ x
told_here earlier b c state x is = moved_in earlier b b.logged [] None c state ∙ is

lands_so : AreRecordsExact → (texts : Texts) (shelf : ℕ) (bodies : List (List ℕ)) (b : Book) (earlier : Earlier) (c : Change) (state : Option (List ℕ)) (inside : List TxName) (x : Told)
    → Makes texts shelf bodies b earlier → b.follows ≡ false → IsInGrammar (changes c state) → told_in earlier b c state ≡ x → IsTakenAs b c inside x → IsNew earlier.seen c
    → Makes texts shelf (bodies ++ body_by c state ∷ []) (land (of_length (length (body_by c state))) c inside b) (then_told c (Some inside) x earlier)
    × IsLanded (made_of b earlier) c x
lands_so exact texts shelf bodies b earlier c state inside unread makes unfed fits is taken new =
    let m = made_of b earlier in
    let n = length (body_by c state) in
    let lands = there b earlier c [] taken.0 new in
    let after = land (of_length n) c inside b in
    let then_it = then_told c (Some inside) unread earlier in
    let one : book_of texts shelf (bodies ++ body_by c state ∷ []) ≡ told_next (8 + length (frames bodies)) n m c unread =
    made_push exact texts shelf bodies m c state unread makes unfed fits (held_script b c [] [] taken.0) (told_here earlier b c state unread is) in
    let two : made (retaken n c (landing m c []) unread m) ≡ made (retaken n c (Some []) unread m) = ap (λ (o : Option (List TxName)). made (retaken n c o unread m)) lands in
    let three : made (retaken n c (Some []) unread m) ≡ made (made_of after then_it) =
    ap (λ (js : List Instance). made (record { book = record (reopened after) { instances = js }; earlier = then_it })) taken.1 in
    (ap made_in (one ∙ (two ∙ three)), lands)
lands_so exact texts shelf bodies b earlier c state inside misread makes unfed fits is taken new = absurd taken
lands_so exact texts shelf bodies b earlier c state inside (told d) makes unfed fits is taken new =
    let m = made_of b earlier in
    let n = length (body_by c state) in
    let names = inside_of d.frames in
    let can : held b c names ≡ Some names = subst (λ (ns : List TxName). held b c ns ≡ Some ns) (sym taken.1) taken.0 in
    let lands = there b earlier c names can new in
    let after = land (of_length n) c inside b in
    let one : book_of texts shelf (bodies ++ body_by c state ∷ []) ≡ told_next (8 + length (frames bodies)) n m c (told d) =
    made_push exact texts shelf bodies m c state (told d) makes unfed fits (held_script b c names names can) (told_here earlier b c state (told d) is) in
    let two : made (retaken n c (landing m c names) (told d) m) ≡ made (retaken n c (Some names) (told d) m) = ap (λ (o : Option (List TxName)). made (retaken n c o (told d) m)) lands in
    let three : made (retaken n c (Some names) (told d) m) ≡ made (made_of after (then_told c (Some inside) (told d) earlier)) =
    ap (λ (ns : List TxName). made (retaken n c (Some ns) (told d) m)) taken.1 in
    (ap made_in (one ∙ (two ∙ three)), lands)

-- ---- a fact of each body goes on to hold with one more

no_cut : {A : Type 0} (front : List A) (z : A) (rest : List A) → [] ≡ front ++ z ∷ rest → ⊥
no_cut [] z rest e = let no : ⊥ = cc in no
no_cut (f ∷ front) z rest e = let no : ⊥ = cc in no

tail_is : {A : Type 0} (x y : A) (xs ys : List A) → x ∷ xs ≡ y ∷ ys → (x ≡ y) × (xs ≡ ys)
tail_is x y xs ys e = (cc e, cc e)

abbrev Cut : {A : Type 0} → List A → A → List A → List A → A → Type 0
Cut {A} xs y front rest z = ((front ≡ xs) × (z ≡ y)) ⊎ ((more : List A) × (xs ≡ front ++ z ∷ more))

cut_last : {A : Type 0} (xs : List A) (y : A) (front rest : List A) (z : A) → xs ++ y ∷ [] ≡ front ++ z ∷ rest → Cut xs y front rest z
cut_last [] y [] rest z e = inl (refl, sym (tail_is y z [] rest e).0)
cut_last [] y (f ∷ front) rest z e = absurd (no_cut front z rest (tail_is y f [] (front ++ z ∷ rest) e).1)
cut_last (x ∷ xs) y [] rest z e = inr (xs, ap (λ w. w ∷ xs) (tail_is x z (xs ++ y ∷ []) rest e).0)
cut_last (x ∷ xs) y (f ∷ front) rest z e =
    let both = tail_is x f (xs ++ y ∷ []) (front ++ z ∷ rest) e in
    ⊎_elim
    (λ (same, last). inl ((λ i. sym both.0 i ∷ same i), last))
    (λ (more, cut). inr (more, λ i. both.0 i ∷ cut i))
    (cut_last xs y front rest z both.1)

pub each_more : (P : Made → Option Record → Type 0) (texts : Texts) (shelf : ℕ) (bodies : List (List ℕ)) (body : List ℕ) → OfEach P texts shelf bodies
    → ((m : Made) → made_in (book_of texts shelf bodies) ≡ Some m → P m (read_record body)) → OfEach P texts shelf (bodies ++ body ∷ [])
each_more P texts shelf bodies body old new front rest z m e is = ⊎_elim
    (λ (same, last). subst (λ (w : List ℕ). P m (read_record w)) (sym last) (new m (ap (λ (bs : List (List ℕ)). made_in (book_of texts shelf bs)) (sym same) ∙ is)))
    (λ (more, cut). old front more z m cut is)
    (cut_last bodies body front rest z e)

pub first_each : (P : Made → Option Record → Type 0) (texts : Texts) (shelf : ℕ) (body : List ℕ) → OfEach P texts shelf (body ∷ [])
first_each P texts shelf body =
    each_more P texts shelf [] body (λ front rest z m e is. absurd (no_cut front z rest e)) (λ m is. absurd (let e : None ≡ Some m = is in let no : ⊥ = cc in no))

-- of what the bodies make it holds where it holds of this
at_made : (P : Made → Option Record → Type 0) (texts : Texts) (shelf : ℕ) (bodies : List (List ℕ)) (m : Made) (body : List ℕ) (r : Option Record) → made_in (book_of texts shelf bodies) ≡ Some m
    → r ≡ read_record body → P m r → (n : Made) → made_in (book_of texts shelf bodies) ≡ Some n → P n (read_record body)
at_made P texts shelf bodies m body r makes back p n e = subst (λ (z : Made). P z (read_record body)) (same_Some m n (sym makes ∙ e)) (subst (P m) back p)

-- ---- an event

pub is_own : (b : Book) (c : Change) (o : Option Suspended) → state_by b c ≡ o → IsOwnState b c (told_own o)
is_own b c None e = tt
is_own b c (Some d) e = e

-- bodies with those that were landed: what they make, that their states are own ones, and that none is passed over
record Adds (texts : Texts) (shelf : ℕ) (bodies more : List (List ℕ)) (b : Book) (earlier : Earlier) : Type 0 where
  makes : Makes texts shelf (bodies ++ more) b earlier
  own : AreOwn texts shelf bodies → AreOwn texts shelf (bodies ++ more)
  landed : AreLanded texts shelf bodies → AreLanded texts shelf (bodies ++ more)

adds_none : (texts : Texts) (shelf : ℕ) (bodies : List (List ℕ)) (b : Book) (earlier : Earlier) → Makes texts shelf bodies b earlier → Adds texts shelf bodies [] b earlier
adds_none texts shelf bodies b earlier makes =
    let same = sym (append-nil bodies) in
    record {
      makes = subst (λ (bs : List (List ℕ)). Makes texts shelf bs b earlier) same makes;
      own = λ h. subst (AreOwn texts shelf) same h;
      landed = λ h. subst (AreLanded texts shelf) same h;
    }

made_then : AreRecordsExact → (texts : Texts) (shelf : ℕ) (bodies : List (List ℕ)) (b d : Book) (o : Option Change) (earlier : Earlier) → HasWholeScripts b
    → Makes texts shelf bodies b earlier → IsMadeOf b earlier.seen o d → IsOwnBefore earlier b o → IsWritable b o
    → Adds texts shelf bodies (landed_bodies b o) d (told_after b o earlier)
made_then x texts shelf bodies b d None earlier whole makes is before spelled =
    adds_none texts shelf bodies d earlier (makes ∙ ap (λ (y : Book). Some (record { book = y; earlier = earlier })) (sym is))
made_then x texts shelf bodies b d (Some c) earlier whole makes (inside, (taken, (new, (is, unfed)))) before spelled =
    let state = state_told b c in
    let m = made_of b earlier in
    let then_it = told_after b (Some c) earlier in
    let its = own_is_read earlier b c before whole spelled in
    let l = lands_so x texts shelf bodies b earlier c state inside (own_told b c) makes unfed spelled.body its taken new in
    let back : Some (changes c state) ≡ read_record (own_body b c) = sym (x.back (changes c state) spelled.body) in
    let here : own_told b c ≡ told_in earlier (reopened b) c state = sym (told_here earlier b c state (own_told b c) its) in
    let own : IsOwnRecord m (Some (changes c state)) = subst (IsOwnState (reopened b) c) here (is_own (reopened b) c (state_by b c) (moved_state b b.logged [] None c)) in
    let landed : IsLandedRecord m (Some (changes c state)) = subst (IsLanded m c) here l.1 in
    record {
      makes = l.0 ∙ ap (λ (y : Book). Some (record { book = y; earlier = then_it })) (sym is);
      own = λ h. each_more IsOwnRecord texts shelf bodies (own_body b c) h (at_made IsOwnRecord texts shelf bodies m (own_body b c) (Some (changes c state)) makes back own);
      landed = λ h. each_more IsLandedRecord texts shelf bodies (own_body b c) h (at_made IsLandedRecord texts shelf bodies m (own_body b c) (Some (changes c state)) makes back landed);
    }

-- scripts stay whole
whole_landed : (b d : Book) (o : Option Change) → IsOrderly b → HasWholeScripts b → LandsAs b o d → WholeIn d.instances
whole_landed b d None g h is = subst WholeIn (sym is) h.instances
whole_landed b d (Some c) g h (inside, (fits, is)) = subst WholeIn (sym is) (whole_by b.scripts b.instances c inside g.instances.apart h.setup h.instances)

whole_setup : (b d : Book) → HasWholeScripts b → d.scripts ≡ b.scripts → AreWhole d.scripts
whole_setup b d h same k s at = h.setup k s (ap (λ (ss : List Named). slice_get ss k) (sym same) ∙ at)

-- where nothing but a crash gives a setup, and that the one of before, the setup stays
setup_kept : (rules : Rules) (b : Book) (nonce : ℕ) (event : Event) (fate : Fate) → KeepsSetup event b → (step rules b nonce event fate).1.scripts ≡ b.scripts
unfolding step
setup_kept rules b nonce (take target answer) fate h = took_setup b target nonce fate
setup_kept rules b nonce (publish t) fate h = settled_setup rules (spend t.number b) (fate_of rules.journal fate) (publish_comes rules b t)
setup_kept rules b nonce (sweep tick) fate h = swept_setup rules b tick (fate_of rules.journal fate) (nat_le tick b.clock)
setup_kept rules b nonce compact fate h = settled_setup rules b (fate_of rules.journal fate) (compact_comes rules b)
setup_kept rules b nonce (crash scripts) fate h =
    let y = recovered rules fate b.down b in some_setup (λ (ss : List Named). ss ≡ b.scripts) y scripts (recovered_setup rules fate b.down b) h

-- what would be taken is no compaction
pub appended : (b : Book) (o : Option Doubt) (x : Told) → IsTakenDoubt b o x → IsAppended o
appended b None x h = tt
appended b (Some doubt) x h = by_work doubt.work h
  where
    by_work : (w : Work) → IsTakenWork b w x → IsAppended (Some (record { count = 0; work = w }))
    by_work (spec.landing c inside) h = tt
    by_work spec.compacting h = absurd h

-- an event by which the setup stays
pub event_kept_so : AreRecordsExact → (texts : Texts) (shelf : ℕ) (bodies : List (List ℕ)) (rules : Rules) (b : Book) (nonce : ℕ) (event : Event) (fate : Fate)
    → AreOver rules shelf → IsAppending event → KeepsSetup event b → IsLawful event b → (k : KeepsDoubt texts shelf bodies b)
    → IsOwnBefore k.keeps.earlier b (lands rules b event fate) → IsWritable b (lands rules b event fate)
    → KeepsWith texts shelf bodies (landed_bodies b (lands rules b event fate)) (step rules b nonce event fate).1
event_kept_so x texts shelf bodies rules b nonce event fate over appends setup lawful holds before spelled =
    let k = holds.keeps in
    let r = k.recoverable in
    let d = (step rules b nonce event fate).1 in
    let o = lands rules b event fate in
    let m : Moment = record { rules = rules; nonce = nonce; event = event; fate = fate } in
    let gone = goes rules b nonce event fate in
    let later = stepped m b r.orderly lawful in
    let same = setup_kept rules b nonce event fate setup in
    let appends_so = event_appends rules b nonce event fate appends setup (appended b b.down r.doubted r.doubt) in
    let follows = follow_by shelf rules over b r.orderly r.whole k.earlier.seen d o gone lawful appends_so same
    r.doubted r.doubt holds.doubt r.used in
    let adds = made_then x texts shelf bodies b d o k.earlier r.whole k.makes follows.made before spelled in
    record {
      keeps = record {
        keeps = record {
          earlier = told_after b o k.earlier;
          makes = adds.makes;
          recoverable = record {
            orderly = later.orderly;
            whole = record { setup = whole_setup b d r.whole same; instances = whole_landed b d o r.orderly r.whole (lands_as rules b d o gone r.orderly) };
            doubted = follows.doubted;
            doubt = follows.doubt;
            used = used_then b d o k.earlier (uses rules b d o gone lawful r.orderly) later.fewer r.used;
          };
          read = λ unfed. subst (λ (ss : List Named). texts (texts_of ss) ≡ Some ss) (sym same) (k.read (sym appends_so.role ∙ unfed));
        };
        doubt = follows.own;
      };
      own = adds.own;
      landed = adds.landed;
    }

-- where it leaves no record, the records tell what they told
pub event_told : (x : AreRecordsExact) (texts : Texts) (shelf : ℕ) (bodies : List (List ℕ)) (rules : Rules) (b : Book) (nonce : ℕ) (event : Event) (fate : Fate)
    (over : AreOver rules shelf) (appends : IsAppending event) (setup : KeepsSetup event b) (lawful : IsLawful event b) (k : KeepsDoubt texts shelf bodies b)
    (before : IsOwnBefore k.keeps.earlier b (lands rules b event fate)) (spelled : IsWritable b (lands rules b event fate))
    → lands rules b event fate ≡ None
    → (event_kept_so x texts shelf bodies rules b nonce event fate over appends setup lawful k before spelled).keeps.keeps.earlier ≡ k.keeps.earlier
unfolding event_kept_so
event_told x texts shelf bodies rules b nonce event fate over appends setup lawful k before spelled none = ap (λ (o : Option Change). told_after b o k.keeps.earlier) none

-- ---- another setup

-- what is opened again is orderly, and has fewer unused numbers
opened_later : (shelf : ℕ) (scripts : List Named) (b : Book) → IsOrderly b → Later b (opened_book shelf scripts b)
opened_later shelf scripts b g =
    let rules : Rules = record { fuel = most_fuel; life = 0; instances = 0; pages = 0; journal = Some (journal_rules shelf) } in
    went {lawful = ⊤} rules b (opened_book shelf scripts b) None (loses scripts) tt g

pub renewed_kept : AreRecordsExact → RenewalsAreKept
renewed_kept x texts shelf bodies b scripts k given unfed differs =
    let r = k.recoverable in
    let d = going_on_with (Some (journal_rules shelf)) scripts b in
    let here : opened_book shelf scripts b ≡ d = leader_opened (Some (journal_rules shelf)) scripts b unfed in
    let m = made_of b k.earlier in
    let n = length (renewal_body scripts) in
    let later = subst (Later b) here (opened_later shelf scripts b r.orderly) in
    let is : reopened d ≡ (resettled n scripts (plain m)).book = ap (λ (same : Bool). record (reopened b) {
      scripts = scripts;
      length = if same then b.length else renewed_length (Some (journal_rules shelf)) scripts b.length;
      file = if same then b.file else renewed_file (Some (journal_rules shelf)) scripts b.file;
    }) differs in
    let makes = ap made_in (renewed_push x texts shelf bodies m scripts k.makes unfed given.renews given.read) in
    let back : Some (renewal_of scripts) ≡ read_record (renewal_body scripts) = sym (x.back (renewal_of scripts) given.renews) in
    subst (KeepsWith texts shelf bodies (renewal_body scripts ∷ [])) (sym here) (record {
      keeps = record {
        keeps = record {
          earlier = k.earlier;
          makes = makes ∙ ap (λ (y : Book). Some (record { book = y; earlier = k.earlier })) (sym is);
          recoverable = record {
            orderly = later.orderly;
            whole = record { setup = given.whole; instances = r.whole.instances };
            doubted = unread;
            doubt = tt;
            used = λ i there u. r.used i there (later.fewer i u);
          };
          read = λ still. given.read;
        };
        doubt = tt;
      };
      own = λ h. each_more IsOwnRecord texts shelf bodies (renewal_body scripts) h (λ z is. subst (IsOwnRecord z) back tt);
      landed = λ h. each_more IsLandedRecord texts shelf bodies (renewal_body scripts) h (λ z is. subst (IsLandedRecord z) back tt);
    })

-- ---- more bodies, and then more

with_more : (texts : Texts) (shelf : ℕ) (bodies first more : List (List ℕ)) (b c : Book) → KeepsWith texts shelf bodies first b → KeepsWith texts shelf (bodies ++ first) more c
    → KeepsWith texts shelf bodies (first ++ more) c
with_more texts shelf bodies first more b c one two =
    let same = append_assoc bodies first more in
    record {
      keeps = subst (λ (bs : List (List ℕ)). KeepsDoubt texts shelf bs c) same two.keeps;
      own = λ h. subst (AreOwn texts shelf) same (two.own (one.own h));
      landed = λ h. subst (AreLanded texts shelf) same (two.landed (one.landed h));
    }

nothing_more : (texts : Texts) (shelf : ℕ) (bodies : List (List ℕ)) (b : Book) → KeepsDoubt texts shelf bodies b → KeepsWith texts shelf bodies [] b
nothing_more texts shelf bodies b keeps =
    let same = sym (append-nil bodies) in
    record {
      keeps = subst (λ (bs : List (List ℕ)). KeepsDoubt texts shelf bs b) same keeps;
      own = λ h. subst (AreOwn texts shelf) same h;
      landed = λ h. subst (AreLanded texts shelf) same h;
    }

quiet_more : (texts : Texts) (shelf : ℕ) (bodies more : List (List ℕ)) (b : Book) → KeepsWith texts shelf bodies more b → KeepsWith texts shelf bodies (more ++ []) b
quiet_more texts shelf bodies more b h = subst (λ (bs : List (List ℕ)). KeepsWith texts shelf bodies bs b) (sym (append-nil more)) h

-- a crash that gives a setup, after one by which the setup stays
crash_kept : AreRecordsExact → (texts : Texts) (shelf : ℕ) (bodies more : List (List ℕ)) (rules : Rules) (b : Book) (nonce : ℕ) (scripts : List Named) (fate : Fate) → AreOver rules shelf
    → IsGiven texts scripts → Keeps texts shelf bodies b → KeepsWith texts shelf bodies more (step rules b nonce (crash b.scripts) fate).1
    → (step rules b nonce (crash b.scripts) fate).1.follows ≡ b.follows
    → KeepsWith texts shelf bodies (more ++ opening_bodies scripts b) (step rules b nonce (crash scripts) fate).1
crash_kept x texts shelf bodies more rules b nonce scripts fate over given k first stays = by_role b.follows refl
  where
    d : Book
    d = (step rules b nonce (crash b.scripts) fate).1

    e : Book
    e = (step rules b nonce (crash scripts) fate).1

    opened : e ≡ opened_book shelf scripts d
    opened = crashed_book rules shelf b nonce scripts fate over

    -- a shelf that follows is told no setup
    fed_kept : b.follows ≡ true → KeepsWith texts shelf bodies (more ++ opening_bodies scripts b) e
    fed_kept fed =
        let same : e ≡ d = opened ∙ (follower_opened (Some (journal_rules shelf)) scripts d (stays ∙ fed) ∙ crash_again rules b nonce b.scripts fate) in
        subst (λ (bs : List (List ℕ)). KeepsWith texts shelf bodies (more ++ bs) e) (sym (bodies_fed scripts b fed))
        (quiet_more texts shelf bodies more e (subst (KeepsWith texts shelf bodies more) (sym same) first))

    by_test : b.follows ≡ false → (t : Bool) → are_same scripts b.scripts ≡ t → KeepsWith texts shelf bodies (more ++ (if t then [] else renewal_body scripts ∷ [])) e
    by_test unfed true same =
        quiet_more texts shelf bodies more e
        (subst (λ (ss : List Named). KeepsWith texts shelf bodies more (step rules b nonce (crash ss) fate).1) (sym (same_setup texts scripts b.scripts given.read (k.read unfed) same)) first)
    by_test unfed false differs =
        subst (KeepsWith texts shelf bodies (more ++ renewal_body scripts ∷ [])) (sym opened)
        (with_more texts shelf bodies more (renewal_body scripts ∷ []) d (opened_book shelf scripts d) first
        (renewed_kept x texts shelf (bodies ++ more) d scripts first.keeps.keeps given (stays ∙ unfed) (subst (λ (ss : List Named). are_same scripts ss ≡ false) (sym (setup_kept rules b nonce (crash b.scripts) fate refl)) differs)))

    by_role : (fed : Bool) → b.follows ≡ fed → KeepsWith texts shelf bodies (more ++ opening_bodies scripts b) e
    by_role true fed = fed_kept fed
    by_role false unfed =
        subst (λ (bs : List (List ℕ)). KeepsWith texts shelf bodies (more ++ bs) e) (sym (bodies_unfed scripts b unfed)) (by_test unfed (are_same scripts b.scripts) refl)

pub event_kept : AreRecordsExact → EventsAreKept
event_kept x texts shelf bodies rules b nonce (take target answer) fate over appends gives lawful k before spelled =
    quiet_more texts shelf bodies _ _ (event_kept_so x texts shelf bodies rules b nonce (take target answer) fate over appends tt lawful k before spelled)
event_kept x texts shelf bodies rules b nonce (publish t) fate over appends gives lawful k before spelled =
    quiet_more texts shelf bodies _ _ (event_kept_so x texts shelf bodies rules b nonce (publish t) fate over appends tt lawful k before spelled)
event_kept x texts shelf bodies rules b nonce (sweep tick) fate over appends gives lawful k before spelled =
    quiet_more texts shelf bodies _ _ (event_kept_so x texts shelf bodies rules b nonce (sweep tick) fate over appends tt lawful k before spelled)
event_kept x texts shelf bodies rules b nonce compact fate over appends gives lawful k before spelled = absurd appends
event_kept x texts shelf bodies rules b nonce (crash scripts) fate over appends gives lawful k before spelled =
    crash_kept x texts shelf bodies (landed_bodies b (lands rules b (crash scripts) fate)) rules b nonce scripts fate over gives k.keeps
    (event_kept_so x texts shelf bodies rules b nonce (crash b.scripts) fate over tt refl tt k before spelled)
    (event_appends rules b nonce (crash b.scripts) fate tt refl (appended b b.down k.keeps.recoverable.doubted k.keeps.recoverable.doubt)).role

-- ---- a run

pub run_kept : AreRecordsExact → RunsAreKept
run_kept x texts shelf bodies [] b lawful here keeps own = nothing_more texts shelf bodies b keeps
run_kept x texts shelf bodies (m ∷ ms) b lawful here keeps own =
    let d = then_book m b in
    let o = lands m.rules b m.event m.fate in
    let first = left_bodies m.rules b m.event m.fate in
    let told = own_are_told texts shelf bodies (made_of b keeps.keeps.earlier) keeps.keeps.makes own in
    let before = own_before_of keeps.keeps.earlier b o told in
    let one = event_kept x texts shelf bodies m.rules b m.nonce m.event m.fate here.0 here.1 here.2 lawful.0 keeps before here.3 in
    with_more texts shelf bodies first (bodies_left ms d) d (book_after ms d) one (run_kept x texts shelf (bodies ++ first) ms d lawful.1 here.4 one.keeps (one.own own))

pub fresh_kept : AreRecordsExact → FreshJournalsAreKept
fresh_kept x texts shelf rules scripts over given fits =
    let b = empty_book rules scripts shelf in
    let n = length (first_body scripts shelf) in
    let is : reopened (empty_book (record rules { journal = Some (journal_rules shelf) }) scripts shelf) ≡ b = ap (λ (j : Option Journal). empty_book (record rules { journal = j }) scripts shelf) (sym over) in
    let makes : made_in (book_of texts shelf (first_body scripts shelf ∷ [])) ≡ Some (made_of b nothing_told) =
    ap made_in (made_first x texts shelf scripts fits given.read)
    ∙ ap (λ (y : Book). Some (record { book = y; earlier = nothing_told })) is in (
      record {
        keeps = record {
          earlier = nothing_told;
          makes = makes;
          recoverable = record {
            orderly = books_stay.0 rules scripts shelf;
            whole = record { setup = given.whole; instances = λ k i found. absurd (let no : ⊥ = cc in no) };
            doubted = unread;
            doubt = tt;
            used = λ i there u. there;
          };
          read = λ unfed. given.read;
        };
        doubt = tt;
      },
      first_each IsOwnRecord texts shelf (first_body scripts shelf),
      first_each IsLandedRecord texts shelf (first_body scripts shelf),
    )

-- ---- a change that would be taken, whatever its page's state is

record LandsIn (b : Book) (c : Change) (inside : List TxName) (d : Book) : Type 0 where
  later : Later b d
  uses : Uses b (Some c) d
  setup : d.scripts ≡ b.scripts
  up : d.down ≡ None
  instances : d.instances ≡ instances_by b.scripts c inside b.instances

numbered_in : (n k : ℕ) (b : Book) (c : Change) (inside : List TxName) → IsOrderly b → b.down ≡ None → IsOrderlyChange b.clock b.instances c → IsOf k c → Contains b.out k
    → LandsIn b c inside (land (of_length n) c inside (spend k b))
numbered_in n k b c inside g up fits is out =
    let there = among_of b.out k out in
    record {
      later = published (of_length n) b k c inside g there up fits is;
      uses = λ m e. (is_out b k c there is m e, λ u. (published_fewer (of_length n) b k c inside up is m u).1 e);
      setup = refl;
      up = up;
      instances = refl;
    }

landing_in : (n : ℕ) (b : Book) (c : Change) (inside : List TxName) → IsOrderly b → b.down ≡ None → IsOrderlyChange b.clock b.instances c → IsOut b (number_in c)
    → LandsIn b c inside (landed_in n c inside b)
landing_in n b (spec.opens o) inside g up fits out = numbered_in n o.number b (spec.opens o) inside g up fits refl out
landing_in n b (spec.extends x) inside g up fits out = numbered_in n x.number b (spec.extends x) inside g up fits refl out
landing_in n b (spec.ends e) inside g up fits out = numbered_in n e.number b (spec.ends e) inside g up fits refl out
landing_in n b (spec.finishes f) inside g up fits out = numbered_in n f.number b (spec.finishes f) inside g up fits refl out
landing_in n b (sweeps tick) inside g up fits out = record {
  later = orderly.swept (of_length n) b tick g fits up;
  uses = λ m e. absurd e;
  setup = refl;
  up = up;
  instances = refl;
}

spent_alike : (n : ℕ) (b : Book) (c : Change) (inside : List TxName) → reopened (landed_in n c inside b) ≡ reopened (land (of_length n) c inside b)
spent_alike n b (spec.opens o) inside = refl
spent_alike n b (spec.extends x) inside = refl
spent_alike n b (spec.ends e) inside = refl
spent_alike n b (spec.finishes f) inside = refl
spent_alike n b (sweeps tick) inside = refl

new_if_out : (b : Book) (c : Change) (seen : List ℕ) → AreUsed seen b → IsOut b (number_in c) → IsNew seen c
new_if_out b (spec.opens o) seen used out m e there = used m there (inl (subst (λ (k : ℕ). Among k b.out) e (among_of b.out o.number out)))
new_if_out b (spec.extends x) seen used out m e there = used m there (inl (subst (λ (k : ℕ). Among k b.out) e (among_of b.out x.number out)))
new_if_out b (spec.ends x) seen used out m e there = used m there (inl (subst (λ (k : ℕ). Among k b.out) e (among_of b.out x.number out)))
new_if_out b (spec.finishes f) seen used out m e there = used m there (inl (subst (λ (k : ℕ). Among k b.out) e (among_of b.out f.number out)))
new_if_out b (sweeps tick) seen used out m e there = e

taken_fits : (b : Book) (c : Change) (inside : List TxName) (x : Told) → IsTakenAs b c inside x → IsOrderlyChange b.clock b.instances c
taken_fits b c inside unread h = held_fits b c [] [] h.0
taken_fits b c inside misread h = absurd h
taken_fits b c inside (told d) h = held_fits b c inside inside h.0

pub landing_kept : AreRecordsExact → LandingsAreKept
landing_kept x texts shelf bodies b c state inside keeps up unfed fits taken out =
    let r = keeps.recoverable in
    let n = length (body_by c state) in
    let d = landed_in n c inside b in
    let its = told_in keeps.earlier b c state in
    let then_it = then_told c (Some inside) its keeps.earlier in
    let l = lands_so x texts shelf bodies b keeps.earlier c state inside its keeps.makes unfed fits refl taken (new_if_out b c keeps.earlier.seen r.used out) in
    let into = landing_in n b c inside r.orderly up (taken_fits b c inside its taken) out in
    record {
      earlier = then_it;
      makes = l.0 ∙ ap (λ (y : Book). Some (record { book = y; earlier = then_it })) (sym (spent_alike n b c inside));
      recoverable = record {
        orderly = into.later.orderly;
        whole = record {
          setup = whole_setup b d r.whole into.setup;
          instances = subst WholeIn (sym into.instances) (whole_by b.scripts b.instances c inside r.orderly.instances.apart r.whole.setup r.whole.instances);
        };
        doubted = unread;
        doubt = subst (λ (o : Option Doubt). IsTakenDoubt d o unread) (sym into.up) tt;
        used = used_then b d (Some c) keeps.earlier into.uses into.later.fewer r.used;
      };
      read = λ still. subst (λ (ss : List Named). texts (texts_of ss) ≡ Some ss) (sym into.setup) (keeps.read unfed);
    }
