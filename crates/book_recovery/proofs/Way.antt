use Rattle.std.proofs.Common.{◌≡◌, ◌∙◌, ap, sym, subst, ℕ, ◌+◌, max, Bool, true, false, List, [], length, Option, Some, None, refl}
use Rattle.script_value.specs.declared.outcome.TxName.{TxName}
use Rattle.script_nodes.specs.Setup.{Named, Library}
use Rattle.script_nodes.specs.Views.{library_of}
use Rattle.script_nodes.specs.declared.library.Library as program
use Rattle.replay_spec.specs.Book.{Change, Instance, Book, reopened}
use Rattle.replay_spec.specs.Rules.{first_file}
use Rattle.replay_spec.specs.Change.{logged_by}
use Rattle.replay_spec.specs.Admission.{is_one}
use Rattle.replay_spec.specs.Recovery.{number_in, is_repeated, redone, of_length, nothing_made}
use Rattle.replay_spec.specs.Invariant.{Among, AreOrderly}
use Rattle.replay_spec.specs.Remade.{IsOrderlyMade}
use Rattle.replay_spec.proofs.Recovered.{made_orderly}
use Rattle.book_redo.specs.MachineStates.Machine.{inside_of}
use Rattle.book_redo.specs.InstanceBook.declared.in_order.InOrder.{InOrder}
use Rattle.book_redo.specs.InstanceBook.declared.book.Book as kept
use Rattle.book_redo.specs.InstanceBook.Places.{given, own}
use Rattle.book_redo.specs.InstanceBook.Makes.{HasPlaces, HasItsStates}
use Rattle.book_redo.specs.InstanceBook.Views.{Beside, no_journal, book_of, instances_of}
use Rattle.book_redo.specs.InstanceBook.Standing.{book_under}
use Rattle.book_redo.specs.InstanceBook.Swept.{begun as begun_beside}
use Rattle.book_redo.specs.Redo.{no_rules, told_of, HasToldStates, names_told, beside_with, IsRedone}
use Rattle.book_redo.specs.InstanceBook.Makes.{Reopens}
use Rattle.journal_records.specs.Records.{Record, begins, changes, renews, draws, follows, promotes, body_of}
use Rattle.value_bytes.specs.Laws.{AreBytes}
use Rattle.std.specs.Global.{Vec}
use Rattle.script_nodes.specs.declared.library.ScriptText.{ScriptText}
use Rattle.journal_records.specs.Old.{read_record_in}
use Rattle.journal_records.specs.Roles.{is_role}
use Rattle.journal_records.specs.Views.{logged_of}
use Rattle.journal_records.specs.declared.records.Logged.{Logged}
use Rattle.journal_records.specs.declared.records.Logged.TheVariants as logged
use Rattle.journal_records.specs.Laws.{AreRecordsExact}
use Rattle.setup_reader.specs.Texts.{setup_of_texts}
use Rattle.book_redo.specs.JournalSpec.Before.{state_at, Earlier, nothing_told, Made, plain}
use Rattle.book_redo.specs.JournalSpec.Retaking.{Told, unread, misread, told, landing, then_told, retaken}
use Rattle.book_redo.specs.JournalSpec.Opening.{IsRead, ReadsAsTold}
use Rattle.book_redo.specs.JournalSpec.Whole.{AreWhole}
use Rattle.book_redo.proofs.JournalSpec.Retaken.{retaken_orderly, passed_orderly}
use Rattle.book_redo.specs.JournalSpec.Making.{Making, damaged, other}
use Rattle.book_redo.specs.JournalSpec.Old.{with_body_at}
use Rattle.book_redo.specs.JournalSpec.Lengths.{state_by}
use Rattle.book_redo.specs.JournalSpec.Owning.{IsOwnState, IsOwnRecordIn}
use Rattle.book_redo.proofs.JournalSpec.Kept.{is_own}
use Rattle.book_redo.specs.declared.renew.Renewed.TheVariants as renewed
use Rattle.book_recovery.specs.declared.found.Found.{Found}
use Rattle.book_recovery.specs.declared.found.Found.TheVariants as found
use Rattle.book_recovery.specs.Found.{HasStates}
use Rattle.book_recovery.specs.Reading.{seen_by, made_under, IsUnderWay, SeesNumber, Sees, may_stand, turns, IsMadeOf, IsPassed, IsMadeIn, IsOwnBehind, IsOwnFor, IsRenewed, IsFirst, IsMadeAs, IsNothing, Gives, IsKept, Renews, Begins}
use Rattle.book_recovery.proofs.Longer.{instances_longer, places_longer, states_longer, whole_longer}
use Rattle.book_recovery.proofs.Made.{orderly_alike, untold, good_is, logged_is, as_it_is, tells_then, nothing_tells, renewed_made, renewed_damaged, first_made, first_other, first_damaged, IsNoBegin, IsNine}

-- A book that is made goes on to be under way.

-- it does not look at the journal
beside_alike : (library : Library) (x : Beside) (b : kept.Book) (seen : List ℕ) → x.down ≡ None → IsOrderlyMade (record { book = book_of library x b; seen = seen })
    → IsOrderlyMade (record { book = book_under library b; seen = seen })
beside_alike library x b seen none h = record {
  instances = h.instances;
  counted = h.counted;
  again = ap (λ (y : Book). record y { length = 0; file = first_file 0 []; down = None; follows = false }) h.again;
}

-- the names with which a record lands
landing_names : (library : Library) (before : InOrder (Unit {0})) (old : kept.Book) (earlier : Earlier) (c : Change) (x : Told) → (x ≡ misread → ⊥)
    → let m : Made = record { book = book_under library old; earlier = record { seen = seen_by before; states = [] } } in
    (inside : List TxName) × (names_told (is_repeated (number_in c) (seen_by before)) (book_under library old) c x ≡ landing m c inside)
landing_names library before old earlier c unread good = ([], refl)
landing_names library before old earlier c misread good = absurd (good refl)
landing_names library before old earlier c (told d) good = (inside_of d.frames, refl)

changed_way : (shelf : ℕ) (library : Library) (alone : Bool) (before after : InOrder (Unit {0})) (old new : kept.Book) (c : Change) (state : Option (List ℕ))
    → IsUnderWay shelf alone before old library → IsRedone library c state (is_repeated (number_in c) (seen_by before)) true old new → SeesNumber (number_in c) before after
    → HasPlaces library.all new → IsUnderWay shelf false after new library
changed_way shelf library alone before after old new c state way redo sees placed =
    let earlier = way.tells.0 in
    let tells = way.tells.1 in
    let h = redo earlier tells.states in
    let x = told_of library earlier old c state in
    let again = is_repeated (number_in c) (seen_by before) in
    let o = names_told again (book_under library old) c x in
    let m : Made = record { book = book_under library old; earlier = record { seen = seen_by before; states = [] } } in
    let names = landing_names library before old earlier c x (good_is x h.read_is) in
    let book : book_of library (beside_with 0 c o no_journal) new ≡ reopened (redone (of_length 0) c o (book_under library old)) = h.book refl 0 no_journal in
    let whole : IsOrderlyMade (plain (retaken 0 c o unread m)) =
    subst (λ (p : Option (List TxName)). IsOrderlyMade (plain (retaken 0 c p unread m))) (sym names.1) (retaken_orderly 0 c names.0 unread m way.orderly) in
    record {
      placed = placed;
      shelf_is = ap (λ (y : Book). y.shelf) book ∙ (redone_shelf o ∙ way.shelf_is);
      orderly =
          beside_alike library (beside_with 0 c o no_journal) new (seen_by after) refl
          (orderly_alike (record { book = book_of library (beside_with 0 c o no_journal) new; seen = seen_by after }) (plain (retaken 0 c o unread m)) book sees whole);
      tells =
          (then_told c o x earlier, tells_then library c o x before after old new earlier tells (h.told refl (λ fresh_is. untold library before old earlier (number_in c) tells fresh_is)) sees);
      scripts = way.scripts;
      fresh = λ yes. absurd (let no : ⊥ = cc in no);
    }
  where
    redone_shelf : (o : Option (List TxName)) → (reopened (redone (of_length 0) c o (book_under library old))).shelf ≡ old.shelf
    redone_shelf None = refl
    redone_shelf (Some inside) = refl

none_among : (n : ℕ) (ns : List ℕ) → ns ≡ [] → Among n ns → ⊥
none_among n ns e there = subst (λ (ms : List ℕ). Among n ms) e there

-- a number goes on
drawn_way : (shelf : ℕ) (library : Library) (alone : Bool) (before after : InOrder (Unit {0})) (old new : kept.Book) (number : ℕ) → IsUnderWay shelf alone before old library → alone ≡ true
    → Reopens (λ b. record b { logged = number }) old new → SeesNumber None before after → HasPlaces library.all new → IsUnderWay shelf false after new library
drawn_way shelf library alone before after old new number way single again sees placed =
    let book : book_under library new ≡ reopened (record (book_under library old) { logged = number }) = again.book library no_journal in
    let same : instances_of library.all old.instances ≡ instances_of library.all new.instances = sym (ap (λ (y : Book). y.instances) book) in
    let first : IsOrderlyMade (record { book = book_under library new; seen = seen_by before }) = record {
      instances = subst (λ (is : List Instance). AreOrderly (λ n. Among n (seen_by before) → ⊥) is) same way.orderly.instances;
      counted = λ n there. absurd (none_among n (seen_by before) (way.fresh single) there);
      again = book ∙ ap (λ (y : Book). reopened y) (sym book);
    } in
    record {
      placed = placed;
      shelf_is = ap (λ (y : Book). y.shelf) book ∙ way.shelf_is;
      orderly = orderly_alike (made_under library new after) (record { book = book_under library new; seen = seen_by before }) refl sees first;
      tells = (way.tells.0, record { numbers = λ k. way.tells.1.numbers k ∙ sym (sees k); known = way.tells.1.known; states = again.states (given (λ n. state_at n way.tells.0.states)) library.all way.tells.1.states });
      scripts = way.scripts;
      fresh = λ yes. absurd (let no : ⊥ = cc in no);
    }

-- a record that is passed over
passed_way : (shelf : ℕ) (library : Library) (alone : Bool) (before after : InOrder (Unit {0})) (old new : kept.Book) (c : Change) (state : Option (List ℕ)) → IsUnderWay shelf alone before old library
    → IsPassed (changes c state) old new → SeesNumber (number_in c) before after → HasPlaces library.all new → IsUnderWay shelf false after new library
passed_way shelf library alone before after old new c state way (k, (number, again)) sees placed =
    let m : Made = record { book = book_under library old; earlier = record { seen = seen_by before; states = [] } } in
    let r = retaken 0 c None unread m in
    let counts : logged_by c ≡ k + 1 = logged_is c k number in
    let book : book_of library (beside_with 0 c None no_journal) new ≡ r.book =
    ap (λ (y : Book). record y { length = 0 + (0 + 5) }) (again.book library no_journal)
    ∙ ap (λ (l : ℕ). reopened (record (book_under library old) { logged = max old.logged l; length = 0 + (0 + 5) })) (sym counts) in
    record {
      placed = placed;
      shelf_is = ap (λ (y : Book). y.shelf) book ∙ way.shelf_is;
      orderly =
          beside_alike library (beside_with 0 c None no_journal) new (seen_by after) refl
          (orderly_alike (record { book = book_of library (beside_with 0 c None no_journal) new; seen = seen_by after }) (plain r) book sees (passed_orderly 0 c unread m way.orderly));
      tells = (
        then_told c None unread way.tells.0,
        tells_then library c None unread before after old new way.tells.0 way.tells.1 (again.states (given (λ n. state_at n way.tells.0.states)) library.all way.tells.1.states) sees,
      );
      scripts = way.scripts;
      fresh = λ yes. absurd (let no : ⊥ = cc in no);
    }

pub later_way : (format shelf : ℕ) (library : Library) (alone : Bool) (before after : InOrder (Unit {0})) (old new : kept.Book) (r : Record) → IsUnderWay shelf alone before old library
    → may_stand alone (length library.setup) r ≡ true → IsMadeIn format library before r old (Some new) → Sees r before after → HasPlaces library.all new → IsUnderWay shelf false after new library
later_way format shelf library alone before after old new (begins s named) way stands redo sees placed = absurd (let not : ⊥ = cc in not)
later_way format shelf library alone before after old new (changes c state) way stands (renewed.Told l, (alike, made)) sees placed =
    changed_way shelf library alone before after old new c alike.0 way (subst (λ (q : Record). IsMadeOf library before q old (Some new)) alike.1.0 made) sees placed
later_way format shelf library alone before after old new (changes c state) way stands (renewed.Passed, (passes, made)) sees placed =
    passed_way shelf library alone before after old new c state way made sees placed
later_way format shelf library alone before after old new (changes c state) way stands (renewed.Misread, (outside, made)) sees placed = absurd (let not : ⊥ = cc in not)
later_way format shelf library alone before after old new (renews named) way stands redo sees placed = absurd (let not : ⊥ = cc in not)
later_way format shelf library alone before after old new follows way stands redo sees placed = absurd (let not : ⊥ = cc in not)
later_way format shelf library alone before after old new promotes way stands redo sees placed = absurd (let not : ⊥ = cc in not)
later_way format shelf library alone before after old new (draws number) way stands (x, (alike, made)) sees placed =
    drawn_way shelf library alone before after old new number way stands (as_it_is library before old (Some new) (draws number) x alike made).1 sees placed

-- each page goes on to have the state of its chain
pub later_owns : (format : ℕ) (library : Library) (before : InOrder (Unit {0})) (old new : kept.Book) (r : Record) → IsMadeIn format library before r old (Some new)
    → IsOwnBehind format library before old (Some r) → HasItsStates library.all old → HasItsStates library.all new
later_owns format library before old new (begins s named) (x, (alike, made)) left states =
    (as_it_is library before old (Some new) (begins s named) x alike made).1.states (own tt) library.all states
later_owns format library before old new (changes c state) (renewed.Told l, (alike, made)) left states =
    let redo = subst (λ (q : Record). IsMadeOf library before q old (Some new)) alike.1.0 made in
    let m : Made = record { book = book_under library old; earlier = left.0 } in
    let same = alike.1.1.tells m no_journal 0 0 refl left.1.0.states in
    (redo left.0 left.1.0.states).states (subst (IsOwnState (book_under library old) c) same left.1.1) states
later_owns format library before old new (changes c state) (renewed.Passed, (passes, made)) left states = made.1.1.states (own tt) library.all states
later_owns format library before old new (changes c state) (renewed.Misread, (outside, made)) left states = absurd (let not : ⊥ = cc in not)
later_owns format library before old new (renews named) (x, (alike, made)) left states =
    (as_it_is library before old (Some new) (renews named) x alike made).1.states (own tt) library.all states
later_owns format library before old new follows (x, (alike, made)) left states =
    (as_it_is library before old (Some new) follows x alike made).1.states (own tt) library.all states
later_owns format library before old new promotes (x, (alike, made)) left states =
    (as_it_is library before old (Some new) promotes x alike made).1.states (own tt) library.all states
later_owns format library before old new (draws number) (x, (alike, made)) left states =
    (as_it_is library before old (Some new) (draws number) x alike made).1.states (own tt) library.all states

-- in format 1 the state that is told of a page is the one that its script leaves
own_record : (m : Made) (o : Option Record) → IsOwnRecordIn 1 m o
own_record m None = tt
own_record m (Some (begins s named)) = tt
own_record m (Some (changes c state)) = is_own m.book c (state_by m.book c) refl
own_record m (Some (renews named)) = tt
own_record m (Some (draws number)) = tt
own_record m (Some follows) = tt
own_record m (Some promotes) = tt

pub own_in_first : (format shelf : ℕ) (alone : Bool) (seen : InOrder (Unit {0})) (b : kept.Book) (rust : program.Library) (body : List ℕ) → format ≡ 1 → IsUnderWay shelf alone seen b (library_of rust)
    → IsOwnFor format seen (found.Made b rust) body
own_in_first format shelf alone seen b rust body one way =
    let m : Made = record { book = book_under (library_of rust) b; earlier = way.tells.0 } in
    subst (λ (f : ℕ). IsOwnFor f seen (found.Made b rust) body) (sym one) (way.tells.0, (way.tells.1, own_record m (read_record_in 1 body)))

-- with another setup
texts_again : (named : List (List ℕ × List ℕ)) (scripts : List Named) → ReadsAsTold setup_of_texts → setup_of_texts named ≡ Some scripts → IsRead setup_of_texts scripts
texts_again named scripts law reads = ap setup_of_texts (law named scripts reads) ∙ reads

pub renewed_way : (shelf : ℕ) (library next : Library) (alone : Bool) (seen : InOrder (Unit {0})) (b : kept.Book) (named : List (List ℕ × List ℕ)) → ReadsAsTold setup_of_texts
    → IsUnderWay shelf alone seen b library → IsRenewed named library next → IsUnderWay shelf false seen b next
renewed_way shelf library next alone seen b named law way anew =
    let more = next.setup in
    let same : instances_of next.all b.instances ≡ instances_of library.all b.instances =
    ap (λ (all : List Named). instances_of all b.instances) anew.all ∙ instances_longer more library.all b way.placed in
    let book : book_under next b ≡ record (book_under library b) { scripts = next.setup } = ap (λ (is : List Instance). record (book_under next b) { instances = is }) same in
    record {
      placed = subst (λ (all : List Named). HasPlaces all b) (sym anew.all) (places_longer more library.all b way.placed);
      shelf_is = way.shelf_is;
      orderly =
          subst (λ (y : Book). IsOrderlyMade (record { book = y; seen = seen_by seen })) (sym book) (record {
            instances = way.orderly.instances;
            counted = way.orderly.counted;
            again = ap (λ (y : Book). record y { scripts = next.setup }) way.orderly.again;
          });
      tells = (
        way.tells.0,
        record {
          numbers = way.tells.1.numbers;
          known = way.tells.1.known;
          states =
              subst (λ (all : List Named). HasToldStates all way.tells.0.states b) (sym anew.all)
              (states_longer more library.all (given (λ n. state_at n way.tells.0.states)) b way.tells.1.states);
        },
      );
      scripts = record {
        whole = subst (λ (all : List Named). AreWhole all) (sym anew.all) (whole_longer more library.all way.scripts.whole anew.whole);
        present = anew.whole;
        read = texts_again named next.setup law anew.read;
      };
      fresh = λ yes. absurd (let no : ⊥ = cc in no);
    }

pub renewed_owns : (library next : Library) (b : kept.Book) (named : List (List ℕ × List ℕ)) → IsRenewed named library next → HasItsStates library.all b → HasItsStates next.all b
renewed_owns library next b named anew states =
    subst (λ (all : List Named). HasItsStates all b) (sym anew.all) (states_longer next.setup library.all (own tt) b states)

-- the first record
pub first_way : (shelf : ℕ) (library : Library) (seen : InOrder (Unit {0})) (b : kept.Book) (named : List (List ℕ × List ℕ)) → ReadsAsTold setup_of_texts → IsFirst shelf named b library
    → seen_by seen ≡ [] → IsUnderWay shelf true seen b library
first_way shelf library seen b named law first none =
    let f = first_file 0 library.setup in
    let empty = first.empty library no_rules in
    record {
      placed = first.placed library.all;
      shelf_is = ap (λ (y : Book). y.shelf) empty;
      orderly =
          beside_alike library (begun_beside None library.setup) b (seen_by seen) refl
          (orderly_alike (record { book = book_of library (begun_beside None library.setup) b; seen = seen_by seen }) (nothing_made no_rules library.setup shelf) empty (λ k. ap (is_one k) none)
          ((made_orderly no_rules).0 library.setup shelf));
      tells = (nothing_told, nothing_tells library b seen none (first.told (λ n. state_at n []) library.all));
      scripts = record { whole = subst (λ (all : List Named). AreWhole all) (sym first.all) first.whole; present = first.whole; read = texts_again named library.setup law first.read };
      fresh = λ _. none;
    }

-- ---- what was found

pub renewed_gives : (format : ℕ) (shelf place : ℕ) (body : List ℕ) (library : Library) (fed alone : Bool) (seen : InOrder (Unit {0})) (b : kept.Book) (named : List (List ℕ × List ℕ)) (f : Found)
    → read_record_in format body ≡ Some (renews named) → HasPlaces library.all b → Renews place b library named f
    → (m : Making) → IsMadeAs shelf (place + 1) fed alone b library seen m → Gives shelf (place + 5 + length body + 1) fed false f seen (with_body_at format setup_of_texts shelf place body m)
renewed_gives format shelf place body library fed alone seen b named found.Nothing reads placed h m is = absurd h
renewed_gives format shelf place body library fed alone seen b named (found.Made c next) reads placed h m is =
    subst (λ (x : kept.Book). IsMadeAs shelf (place + 5 + length body + 1) fed false x (library_of next) seen (with_body_at format setup_of_texts shelf place body m)) (sym h.0)
    (renewed_made format shelf place body library fed alone seen b m is named (library_of next) reads placed h.1)
renewed_gives format shelf place body library fed alone seen b named (found.Damaged p) reads placed h m is =
    renewed_damaged format shelf place body library fed alone seen b m is named reads h.1 ∙ ap damaged (sym h.0)
renewed_gives format shelf place body library fed alone seen b named (found.Other p) reads placed h m is = absurd h
renewed_gives format shelf place body library fed alone seen b named found.Memory reads placed h m is = tt

pub renewed_kept : (shelf place : ℕ) (library : Library) (alone : Bool) (seen : InOrder (Unit {0})) (b : kept.Book) (named : List (List ℕ × List ℕ)) (f : Found) → ReadsAsTold setup_of_texts
    → IsUnderWay shelf alone seen b library → Renews place b library named f → IsKept shelf false seen f
renewed_kept shelf place library alone seen b named found.Nothing law way h = absurd h
renewed_kept shelf place library alone seen b named (found.Made c next) law way h =
    subst (λ (x : kept.Book). IsUnderWay shelf false seen x (library_of next)) (sym h.0) (renewed_way shelf library (library_of next) alone seen b named law way h.1)
renewed_kept shelf place library alone seen b named (found.Damaged p) law way h = tt
renewed_kept shelf place library alone seen b named (found.Other p) law way h = tt
renewed_kept shelf place library alone seen b named found.Memory law way h = tt

pub renewed_states : (place : ℕ) (library : Library) (b : kept.Book) (named : List (List ℕ × List ℕ)) (f : Found) → Renews place b library named f → HasItsStates library.all b → HasStates f
renewed_states place library b named found.Nothing h states = tt
renewed_states place library b named (found.Made c next) h states =
    subst (λ (x : kept.Book). HasItsStates (library_of next).all x) (sym h.0) (renewed_owns library (library_of next) b named h.1 states)
renewed_states place library b named (found.Damaged p) h states = tt
renewed_states place library b named (found.Other p) h states = tt
renewed_states place library b named found.Memory h states = tt

pub first_gives : (format : ℕ) (shelf place : ℕ) (body : List ℕ) (number : ℕ) (named : List (List ℕ × List ℕ)) (fed : Bool) (seen : InOrder (Unit {0})) (f : Found) → read_record_in format body ≡ Some (begins number named)
    → Begins shelf place number named f
    → (m : Making) → IsNothing shelf (place + 1) fed seen m → Gives shelf (place + 5 + length body + 1) fed true f seen (with_body_at format setup_of_texts shelf place body m)
first_gives format shelf place body number named fed seen found.Nothing reads h m is = absurd h
first_gives format shelf place body number named fed seen (found.Made b library) reads h m is = first_made format shelf place body number named reads fed seen m is b (library_of library) h.0 h.1
first_gives format shelf place body number named fed seen (found.Damaged p) reads h m is = first_damaged format shelf place body number named reads fed seen m is h.1 ∙ ap damaged (sym h.0)
first_gives format shelf place body number named fed seen (found.Other p) reads h m is = first_other format shelf place body number named reads fed seen m is h.1.0 h.1.1.0 h.1.1.1 ∙ ap other (sym h.0)
first_gives format shelf place body number named fed seen found.Memory reads h m is = tt

pub first_kept : (shelf place number : ℕ) (named : List (List ℕ × List ℕ)) (seen : InOrder (Unit {0})) (f : Found) → ReadsAsTold setup_of_texts → Begins shelf place number named f → seen_by seen ≡ []
    → IsKept shelf true seen f
first_kept shelf place number named seen found.Nothing law h none = absurd h
first_kept shelf place number named seen (found.Made b library) law h none = first_way shelf (library_of library) seen b named law h.1 none
first_kept shelf place number named seen (found.Damaged p) law h none = tt
first_kept shelf place number named seen (found.Other p) law h none = tt
first_kept shelf place number named seen found.Memory law h none = tt

pub first_states : (shelf place number : ℕ) (named : List (List ℕ × List ℕ)) (f : Found) → Begins shelf place number named f → HasStates f
first_states shelf place number named found.Nothing h = tt
first_states shelf place number named (found.Made b library) h = h.1.states (library_of library).all
first_states shelf place number named (found.Damaged p) h = tt
first_states shelf place number named (found.Other p) h = tt
first_states shelf place number named found.Memory h = tt

-- the body of a record that tells a number is 9 bytes long, and one that tells whether the shelf follows has one
is_nine : (body : List ℕ) (r : Record) → body ≡ body_of r → IsNine body r
is_nine body (begins s named) is = tt
is_nine body (changes c state) is = tt
is_nine body (renews named) is = tt
is_nine body follows is = ap (λ (bs : List ℕ). length bs) is
is_nine body promotes is = ap (λ (bs : List ℕ). length bs) is
is_nine body (draws number) is = ap (λ (bs : List ℕ). length bs) is ∙ nine number
  where
    nine : (n : ℕ) → length (body_of (draws n)) ≡ 9
    nine n = refl

-- so it is in each format
pub is_nine_in : AreRecordsExact → (format : ℕ) (body : List ℕ) (r : Record) → AreBytes body → read_record_in format body ≡ Some r → IsNine body r
is_nine_in x format body (begins s named) small read = tt
is_nine_in x format body (changes c state) small read = tt
is_nine_in x format body (renews named) small read = tt
is_nine_in x format body follows small read = is_nine body follows (x.alike format body follows small read tt).spelled
is_nine_in x format body promotes small read = is_nine body promotes (x.alike format body promotes small read tt).spelled
is_nine_in x format body (draws number) small read = is_nine body (draws number) (x.alike format body (draws number) small read tt).spelled

-- a record that tells whether the shelf follows has a body of its kind
pub turned_role : AreRecordsExact → (format : ℕ) (body : List ℕ) (fed : Bool) (place : ℕ) (r : Record) → AreBytes body → read_record_in format body ≡ Some r → turns fed place r ≡ true → is_role body ≡ true
turned_role x format body fed place follows small read on = ap is_role (x.alike format body follows small read tt).spelled
turned_role x format body fed place promotes small read on = ap is_role (x.alike format body promotes small read tt).spelled
turned_role x format body true place (begins s named) small read on = absurd (let never : ⊥ = cc on in never)
turned_role x format body false place (begins s named) small read on = absurd (let never : ⊥ = cc on in never)
turned_role x format body true place (changes c state) small read on = absurd (let never : ⊥ = cc on in never)
turned_role x format body false place (changes c state) small read on = absurd (let never : ⊥ = cc on in never)
turned_role x format body true place (renews named) small read on = absurd (let never : ⊥ = cc on in never)
turned_role x format body false place (renews named) small read on = absurd (let never : ⊥ = cc on in never)
turned_role x format body true place (draws number) small read on = absurd (let never : ⊥ = cc on in never)
turned_role x format body false place (draws number) small read on = absurd (let never : ⊥ = cc on in never)

-- what is no first setup
pub not_begin : (l : Logged) → ((s : ℕ) (scripts : Vec ScriptText) → l ≡ logged.Begin s scripts → ⊥) → IsNoBegin (logged_of l)
not_begin (logged.Begin s scripts) apart = absurd (apart s scripts refl)
not_begin (logged.Page p state) apart = tt
not_begin (logged.Ended e) apart = tt
not_begin (logged.Finish f) apart = tt
not_begin (logged.Sweep clock) apart = tt
not_begin (logged.Texts scripts) apart = tt
not_begin (logged.Drawn number) apart = tt
not_begin logged.Follow apart = tt
not_begin logged.Promoted apart = tt
