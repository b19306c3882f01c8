use Rattle.std.proofs.Common.{◌≡◌, ◌∙◌, ap, sym, subst, ℕ, ◌+◌, ◌≤◌, ◌^◌, ◌==◌, max, Bool, true, false, not, List, [], ◌∷◌, length, Option, Some, None, if◌then◌else◌, refl, arith, inl, inr}
use Rattle.std.proofs.lemmas.Bool.Decides.{nat_tests}
use Rattle.script_value.specs.declared.outcome.TxName.{TxName}
use Rattle.script_nodes.specs.Setup.{Named, Library}
use Rattle.replay_spec.specs.Book.{Change, opens, extends, ends, finishes, sweeps, renewed as renewed_line, File, Instance, Book, reopened}
use Rattle.replay_spec.specs.Rules.{Rules, first_file}
use Rattle.replay_spec.specs.Change.{with_line, put_in_order, logged_by}
use Rattle.replay_spec.specs.Admission.{is_one}
use Rattle.replay_spec.specs.Recovery as recovery
use Rattle.replay_spec.specs.Recovery.{number_in, is_repeated, with_number, redone, of_length, resettled}
use Rattle.replay_spec.specs.Invariant.{Among}
use Rattle.replay_spec.specs.Remade.{IsOrderlyMade}
use Rattle.replay_spec.proofs.Stand.{orderly_less}
use Rattle.replay_spec.proofs.Recovered.{among_is}
use Rattle.replay_spec.proofs.Compacted.{one_among}
use Rattle.book_redo.specs.MachineStates.Machine.{Suspended, inside_of}
use Rattle.book_redo.specs.InstanceBook.declared.numbered.Numbered.{Numbered}
use Rattle.book_redo.specs.InstanceBook.declared.in_order.InOrder.{InOrder}
use Rattle.book_redo.specs.InstanceBook.declared.book.Book as kept
use Rattle.book_redo.specs.InstanceBook.Orders.{numbers_of}
use Rattle.book_redo.specs.InstanceBook.Places.{given}
use Rattle.book_redo.specs.InstanceBook.Makes.{HasPlaces}
use Rattle.book_redo.specs.InstanceBook.Views.{Beside, no_journal, book_of, instances_of}
use Rattle.book_redo.specs.InstanceBook.Standing.{book_under}
use Rattle.book_redo.specs.Redo.{told_of, HasToldStates, is_read, names_told, IsFree, IsUntold, file_with, beside_with, IsRedone}
use Rattle.book_redo.specs.InstanceBook.Makes.{Reopens}
use Rattle.journal_records.specs.Records.{Record, begins, changes, renews, draws, follows, promotes}
use Rattle.journal_records.specs.Old.{read_record_in}
use Rattle.setup_reader.specs.Texts.{setup_of_texts}
use Rattle.book_redo.specs.JournalSpec.Before.{States, state_at, Earlier, nothing_told, Made, plain}
use Rattle.book_redo.specs.JournalSpec.Retaking.{Told, unread, misread, told, told_in, held, states_with, then_told, retaken}
use Rattle.book_redo.specs.JournalSpec.Making.{Making, begun, made, damaged, other, began, beside, has_script, first_by, start_by, fed_by, first_setup, told_next, next_setup, with_drawn}
use Rattle.book_redo.specs.JournalSpec.Old.{change_next, next_at, second_at, with_body_at}
use Rattle.book_redo.specs.declared.renew.Renewed.{Renewed}
use Rattle.book_redo.specs.declared.renew.Renewed.TheVariants as renewed
use Rattle.book_redo.specs.Renewing.{IsAsNewest, IsPassedOver, IsOutside, IsToldAsIs}
use Rattle.book_recovery.specs.Found.{beside_file}
use Rattle.book_recovery.specs.Reading.{seen_by, TellsOf, IsUnderWay, SeesNumber, Sees, may_stand, IsMadeOf, IsPassed, IsMadeBy, IsMadeIn, turns, making_of, IsMadeAs, IsBefore, IsNothing, IsRenewed, IsFirst}
use Rattle.book_recovery.proofs.Longer.{instances_longer, states_longer}

-- What a reader of records makes.

-- ---- numbers that were seen

put_sees : {T : Type 0} (x : Numbered T) (xs : List (Numbered T)) (k : ℕ)
    → is_one k (numbers_of (put_in_order (λ t. t.number) x xs)) ≡ is_one k (x.number ∷ numbers_of xs)
put_sees x [] k = refl
put_sees x (y ∷ ys) k = grind (arith, nat_tests, put_sees x ys k)

pub sees_put : (n k : ℕ) (x : Numbered (Unit {0})) (old mid new : InOrder (Unit {0})) (o : Option ℕ) → x.number ≡ n → Some n ≡ o → mid.things.items ≡ old.things.items
    → new.things.items ≡ put_in_order (λ t. t.number) x mid.things.items → is_one k (seen_by new) ≡ is_one k (with_number o (seen_by old))
sees_put n k x old mid new o number some same put =
    ap (λ (ts : List (Numbered (Unit {0}))). is_one k (numbers_of ts)) put
    ∙ (put_sees x mid.things.items k
    ∙ (ap (λ (ts : List (Numbered (Unit {0}))). is_one k (x.number ∷ numbers_of ts)) same
    ∙ (ap (λ (m : ℕ). is_one k (m ∷ seen_by old)) number
    ∙ ap (λ (p : Option ℕ). is_one k (with_number p (seen_by old))) some)))

repeated_is : (o : Option ℕ) (n : ℕ) (seen : List ℕ) → o ≡ Some n → is_repeated o seen ≡ is_one n seen
repeated_is o n seen e = ap (λ (p : Option ℕ). is_repeated p seen) e

pub repeated_alike : (o : Option ℕ) (ms ns : List ℕ) → ((k : ℕ) → is_one k ms ≡ is_one k ns) → is_repeated o ms ≡ is_repeated o ns
repeated_alike None ms ns same = refl
repeated_alike (Some n) ms ns same = same n

with_alike : (o : Option ℕ) (ms ns : List ℕ) → ((k : ℕ) → is_one k ms ≡ is_one k ns) → (k : ℕ) → is_one k (with_number o ms) ≡ is_one k (with_number o ns)
with_alike None ms ns same k = same k
with_alike (Some n) ms ns same k = ap (λ (t : Bool). if n == k then true else t) (same k)

pub orderly_alike : (m n : recovery.Made) → m.book ≡ n.book → ((k : ℕ) → is_one k m.seen ≡ is_one k n.seen) → IsOrderlyMade n → IsOrderlyMade m
orderly_alike m n book seen h =
    subst (λ (b : Book). IsOrderlyMade (record { book = b; seen = m.seen })) (sym book) (record {
      instances = orderly_less (λ k. Among k n.seen → ⊥) (λ k. Among k m.seen → ⊥) n.book.instances (λ k free there. free (one_among k m.seen (seen k ∙ among_is k n.seen there))) h.instances;
      counted = λ k there. h.counted k (one_among k n.seen (sym (seen k) ∙ among_is k m.seen there));
      again = h.again;
    })

-- a number that was not seen names nothing that stands
pub free : (shelf : ℕ) (alone : Bool) (before : InOrder (Unit {0})) (b : kept.Book) (library : Library) (o : Option ℕ) → IsUnderWay shelf alone before b library
    → is_repeated o (seen_by before) ≡ false → IsFree library.all o b
free shelf alone before b library o h new =
    orderly_less (λ n. Among n (seen_by before) → ⊥) (λ n. o ≡ Some n) (instances_of library.all b.instances)
    (λ n e there. let yes = among_is n (seen_by before) there in let no_one = sym (repeated_is o n (seen_by before) e) ∙ new in let not : ⊥ = cc in not) h.orderly.instances

-- and of its page no state was told
some_or_none : (o : Option Suspended) → ((d : Suspended) → o ≡ Some d → ⊥) → o ≡ None
some_or_none None never = refl
some_or_none (Some d) never = absurd (never d refl)

pub untold : (library : Library) (before : InOrder (Unit {0})) (b : kept.Book) (earlier : Earlier) (o : Option ℕ) → TellsOf library before b earlier
    → is_repeated o (seen_by before) ≡ false → IsUntold o earlier.states
untold library before b earlier o tells new n e =
    some_or_none (state_at n earlier.states) (λ d there.
    let yes : true ≡ false = sym (tells.known n d there) ∙ (tells.numbers n ∙ (sym (repeated_is o n (seen_by before) e) ∙ new)) in let not : ⊥ = cc in not)

-- a number can be drawn again
pub low_of : (shelf : ℕ) (alone : Bool) (before : InOrder (Unit {0})) (b : kept.Book) (library : Library) → IsUnderWay shelf alone before b library → b.drawn ≤ 2 ^ 62 → b.logged ≤ 2 ^ 62
low_of shelf alone before b library h most = let drawn : b.drawn ≡ b.logged = ap (λ (x : Book). x.drawn) h.orderly.again in omega (arith, drawn, most)

-- ---- what is told of a record looks neither at a journal nor at a doubt

pub told_beside : (library : Library) (x y : Beside) (earlier : Earlier) (b : kept.Book) (c : Change) (state : Option (List ℕ))
    → told_in earlier (book_of library x b) c state ≡ told_in earlier (book_of library y b) c state
told_beside library x y earlier b (opens o) state = refl
told_beside library x y earlier b (extends e) state = refl
told_beside library x y earlier b (ends e) state = refl
told_beside library x y earlier b (finishes f) state = refl
told_beside library x y earlier b (sweeps tick) state = refl

pub held_beside : (library : Library) (x y : Beside) (b : kept.Book) (c : Change) (names : List TxName) → held (book_of library x b) c names ≡ held (book_of library y b) c names
held_beside library x y b (opens o) names = refl
held_beside library x y b (extends e) names = refl
held_beside library x y b (ends e) names = refl
held_beside library x y b (finishes f) names = refl
held_beside library x y b (sweeps tick) names = refl

names_beside : (library : Library) (x y : Beside) (b : kept.Book) (again : Bool) (c : Change) (t : Told) → names_told again (book_of library x b) c t ≡ names_told again (book_of library y b) c t
names_beside library x y b again c unread = ap (λ (o : Option (List TxName)). if again then None else o) (held_beside library x y b c [])
names_beside library x y b again c misread = refl
names_beside library x y b again c (told d) = ap (λ (o : Option (List TxName)). if again then None else o) (held_beside library x y b c (inside_of d.frames))

-- what records told goes on to be of numbers that were seen
among_with : (k : ℕ) (number : Option ℕ) (ns : List ℕ) → is_one k ns ≡ true → is_one k (with_number number ns) ≡ true
among_with k None ns h = h
among_with k (Some n) ns h = by_test (n == k)
  where
    by_test : (t : Bool) → (if t then true else is_one k ns) ≡ true
    by_test true = refl
    by_test false = h

known_then : (o : Option (List TxName)) (number : Option ℕ) (x : Told) (ss : States) (ns : List ℕ) → ((n : ℕ) (d : Suspended) → state_at n ss ≡ Some d → is_one n ns ≡ true)
    → (n : ℕ) (d : Suspended) → state_at n (states_with o number x ss) ≡ Some d → is_one n (with_number number ns) ≡ true
known_then None number x ss ns known n d e = among_with n number ns (known n d e)
known_then (Some names) None x ss ns known n d e = known n d e
known_then (Some names) (Some m) unread ss ns known n d e = among_with n (Some m) ns (known n d e)
known_then (Some names) (Some m) misread ss ns known n d e = among_with n (Some m) ns (known n d e)
known_then (Some names) (Some m) (told f) ss ns known n d e = by_test (m == n) e
  where
    by_test : (t : Bool) → (if t then Some f else state_at n ss) ≡ Some d → (if t then true else is_one n ns) ≡ true
    by_test true e = refl
    by_test false e = known n d e

pub tells_then : (library : Library) (c : Change) (o : Option (List TxName)) (x : Told) (before after : InOrder (Unit {0})) (old new : kept.Book) (earlier : Earlier)
    → TellsOf library before old earlier → HasToldStates library.all (states_with o (number_in c) x earlier.states) new → SeesNumber (number_in c) before after
    → TellsOf library after new (then_told c o x earlier)
tells_then library c o x before after old new earlier tells states sees = record {
  numbers = λ k. with_alike (number_in c) earlier.seen (seen_by before) tells.numbers k ∙ sym (sees k);
  known = known_then o (number_in c) x earlier.states earlier.seen tells.known;
  states = states;
}

-- ---- a record of a change

-- the file after it
file_after : (n : ℕ) (c : Change) (o : Option (List TxName)) (b : Book) → (reopened (redone (of_length n) c o b)).file ≡ file_with n c o b.file
file_after n c None b = refl
file_after n c (Some inside) b = refl

-- what the program's book is after it, beside a file
book_after : (library : Library) (fed : Bool) (place n : ℕ) (c : Change) (o : Option (List TxName)) (b : Book) (old new : kept.Book) → b ≡ book_of library (beside_file fed (place + 1) b.file) old
    → book_of library (beside_with n c o (beside_file fed (place + 1) b.file)) new ≡ reopened (redone (of_length n) c o (book_of library (beside_file fed (place + 1) b.file) old))
    → reopened (redone (of_length n) c o b) ≡ book_of library (beside_file fed (place + 5 + n + 1) (reopened (redone (of_length n) c o b)).file) new
book_after library fed place n c o b old new is h =
    let long : place + 1 + (n + 5) ≡ place + 5 + n + 1 = omega arith in
    ap (λ (y : Book). reopened (redone (of_length n) c o y)) is
    ∙ (sym h
    ∙ (ap (λ (l : ℕ). book_of library (beside_file fed l (file_with n c o b.file)) new) long
    ∙ ap (λ (f : File). book_of library (beside_file fed (place + 5 + n + 1) f) new) (sym (file_after n c o b))))

-- one more than the number of a change is counted
pub logged_is : (c : Change) (k : ℕ) → number_in c ≡ Some k → logged_by c ≡ k + 1
logged_is (opens o) k e = let same : o.number ≡ k = cc in ap (λ (n : ℕ). n + 1) same
logged_is (extends x) k e = let same : x.number ≡ k = cc in ap (λ (n : ℕ). n + 1) same
logged_is (ends x) k e = let same : x.number ≡ k = cc in ap (λ (n : ℕ). n + 1) same
logged_is (finishes f) k e = let same : f.number ≡ k = cc in ap (λ (n : ℕ). n + 1) same
logged_is (sweeps tick) k e = absurd (let no : ⊥ = cc in no)

-- what it makes of what was made
next_is : (format : ℕ) (place : ℕ) (shelf : ℕ) (body : List ℕ) (alone : Bool) (c : Change) (state : Option (List ℕ)) (w : Made) (m : Making) → read_record_in format body ≡ Some (changes c state)
    → m ≡ making_of alone w → with_body_at format setup_of_texts shelf place body m ≡ next_at format setup_of_texts place (length body) w (Some (changes c state))
next_is format place shelf body true c state w m read is =
    ap (with_body_at format setup_of_texts shelf place body) is ∙ ap (second_at format setup_of_texts place (length body) w) read
next_is format place shelf body false c state w m read is =
    ap (with_body_at format setup_of_texts shelf place body) is ∙ ap (next_at format setup_of_texts place (length body) w) read

-- a change that may stand there makes what its format says
stands_at : (format place n : ℕ) (w : Made) (c : Change) (state : Option (List ℕ)) (count : ℕ) → length w.book.scripts ≡ count → has_script count c ≡ true
    → next_at format setup_of_texts place n w (Some (changes c state)) ≡ change_next format place n w c state
stands_at format place n w c state count many has =
    ap (λ (t : Bool). if t then change_next format place n w c state else damaged place) (ap (λ (k : ℕ). has_script k c) many ∙ has)

-- what is read lands with these names
next_names : (place n : ℕ) (w : Made) (c : Change) (x : Told) (again : Bool) (b : Book) → (x ≡ misread → ⊥) → is_repeated (number_in c) w.earlier.seen ≡ again → w.book ≡ b
    → told_next place n w c x ≡ made (retaken n c (names_told again b c x) x w)
next_names place n w c unread again b good seen book =
    ap (λ (o : Option (List TxName)). made (retaken n c o unread w))
    (ap (λ (t : Bool). if t then None else held w.book c []) seen ∙ ap (λ (y : Book). if again then None else held y c []) book)
next_names place n w c misread again b good seen book = absurd (good refl)
next_names place n w c (told d) again b good seen book =
    ap (λ (o : Option (List TxName)). made (retaken n c o (told d) w))
    (ap (λ (t : Bool). if t then None else held w.book c (inside_of d.frames)) seen ∙ ap (λ (y : Book). if again then None else held y c (inside_of d.frames)) book)

misread_is : (x : Told) → false ≡ is_read x → x ≡ misread
misread_is unread e = absurd (let no : ⊥ = cc in no)
misread_is misread e = refl
misread_is (told d) e = absurd (let no : ⊥ = cc in no)

pub good_is : (x : Told) → true ≡ is_read x → x ≡ misread → ⊥
good_is x read bad = let yes : true ≡ false = read ∙ ap is_read bad in let no : ⊥ = cc in no

module _ (format shelf place : ℕ) (body : List ℕ) (library : Library) (fed alone : Bool) (before : InOrder (Unit {0})) (old : kept.Book) (m : Making)
    (is : IsMadeAs shelf (place + 1) fed alone old library before m) where
  abbrev w : Made
  w = is.whole

  many : length w.book.scripts ≡ length library.setup
  many = ap (λ (b : Book). length b.scripts) is.book

  module _ (c : Change) (state : Option (List ℕ)) (read : read_record_in format body ≡ Some (changes c state)) (stands : has_script (length library.setup) c ≡ true) where
    -- the body makes what its format says of the change
    pub comes_at : with_body_at format setup_of_texts shelf place body m ≡ change_next format place (length body) w c state
    comes_at = next_is format place shelf body alone c state w m read is.is ∙ stands_at format place (length body) w c state (length library.setup) many stands

    -- a change that is passed over in this format
    passed_made : (after : InOrder (Unit {0})) (new : kept.Book) → IsPassedOver format library old c state → IsPassed (changes c state) old new → SeesNumber (number_in c) before after
        → IsMadeAs shelf (place + 5 + length body + 1) fed false new library after (with_body_at format setup_of_texts shelf place body m)
    passed_made after new passes (k, (number, again)) sees =
        let n = length body in
        let x = beside_file fed (place + 1) w.book.file in
        let counts : logged_by c ≡ k + 1 = logged_is c k number in
        let h : book_of library (beside_with n c None x) new ≡ reopened (redone (of_length n) c None (book_of library x old)) =
        ap (λ (y : Book). record y { length = place + 1 + (n + 5) }) (again.book library x)
        ∙ ap (λ (l : ℕ). reopened (record (book_of library x old) { logged = max old.logged l; length = place + 1 + (n + 5) })) (sym counts) in
        record {
          whole = retaken n c None unread w;
          is = comes_at ∙ passes w x place n is.book is.tells.states;
          book = book_after library fed place n c None w.book old new is.book h;
          tells = tells_then library c None unread before after old new w.earlier is.tells (again.states (given (λ q. state_at q w.earlier.states)) library.all is.tells.states) sees;
          first = λ yes. absurd (let no : ⊥ = cc in no);
        }

    outside_damaged : IsOutside format library old c state → with_body_at format setup_of_texts shelf place body m ≡ damaged place
    outside_damaged outside = comes_at ∙ outside w (beside_file fed (place + 1) w.book.file) place (length body) is.book is.tells.states

  module _ (c : Change) (state now : Option (List ℕ)) (read : read_record_in format body ≡ Some (changes c state)) (stands : has_script (length library.setup) c ≡ true)
      (as_newest : IsAsNewest format library old c state now) where
    abbrev x : Told
    x = told_of library w.earlier old c now

    abbrev again : Bool
    again = is_repeated (number_in c) (seen_by before)

    abbrev b : Book
    b = book_of library (beside_file fed (place + 1) w.book.file) old

    its : told_in w.earlier w.book c now ≡ x
    its = ap (λ (y : Book). told_in w.earlier y c now) is.book ∙ told_beside library (beside_file fed (place + 1) w.book.file) no_journal w.earlier old c now

    comes : with_body_at format setup_of_texts shelf place body m ≡ told_next place (length body) w c x
    comes =
        comes_at c state read stands
        ∙ (as_newest.makes w (beside_file fed (place + 1) w.book.file) place (length body) is.book is.tells.states ∙ ap (told_next place (length body) w c) its)

    changed_made : (after : InOrder (Unit {0})) (new : kept.Book) → IsRedone library c now again true old new → SeesNumber (number_in c) before after
        → IsMadeAs shelf (place + 5 + length body + 1) fed false new library after (with_body_at format setup_of_texts shelf place body m)
    changed_made after new redo sees =
        let h = redo w.earlier is.tells.states in
        let good = good_is x h.read_is in
        let o = names_told again b c x in
        let first : names_told again (book_under library old) c x ≡ o = names_beside library no_journal (beside_file fed (place + 1) w.book.file) old again c x in
        let seen : is_repeated (number_in c) w.earlier.seen ≡ again = repeated_alike (number_in c) w.earlier.seen (seen_by before) is.tells.numbers in
        record {
          whole = retaken (length body) c o x w;
          is = comes ∙ next_names place (length body) w c x again b good seen is.book;
          book = book_after library fed place (length body) c o w.book old new is.book (h.book refl (length body) (beside_file fed (place + 1) w.book.file));
          tells =
              tells_then library c o x before after old new w.earlier is.tells
              (subst (λ (p : Option (List TxName)). HasToldStates library.all (states_with p (number_in c) x w.earlier.states) new) first
              (h.told refl (λ fresh_is. untold library before old w.earlier (number_in c) is.tells fresh_is))) sees;
          first = λ yes. absurd (let no : ⊥ = cc in no);
        }

    changed_damaged : (mid : kept.Book) → IsRedone library c now again false old mid → with_body_at format setup_of_texts shelf place body m ≡ damaged place
    changed_damaged mid redo = comes ∙ ap (told_next place (length body) w c) (misread_is x (redo w.earlier is.tells.states).read_is)

  -- ---- a record of another setup

  pub renewed_made : (named : List (List ℕ × List ℕ)) (next : Library) → read_record_in format body ≡ Some (renews named) → HasPlaces library.all old → IsRenewed named library next
      → IsMadeAs shelf (place + 5 + length body + 1) fed false old next before (with_body_at format setup_of_texts shelf place body m)
  renewed_made named next read placed anew =
      let n = length body in
      let long : place + 1 + (n + 5) ≡ place + 5 + n + 1 = omega arith in
      let f = with_line (renewed_line next.setup n) w.book.file in
      let alike : instances_of library.all old.instances ≡ instances_of next.all old.instances =
      sym (ap (λ (all : List Named). instances_of all old.instances) anew.all ∙ instances_longer next.setup library.all old placed) in
      record {
        whole = beside w.earlier (resettled n next.setup (plain w));
        is = by_alone alone is.is ∙ ap (next_setup place n w) anew.read;
        book =
            ap (λ (y : Book). record y { scripts = next.setup; length = y.length + (n + 5); file = with_line (renewed_line next.setup n) y.file }) is.book
            ∙ (ap (λ (is : List Instance). record (book_of next (beside_file fed (place + 1 + (n + 5)) f) old) { instances = is }) alike
            ∙ ap (λ (l : ℕ). book_of next (beside_file fed l f) old) long);
        tells = record {
          numbers = is.tells.numbers;
          known = is.tells.known;
          states =
              subst (λ (all : List Named). HasToldStates all w.earlier.states old) (sym anew.all)
              (states_longer next.setup library.all (given (λ n. state_at n w.earlier.states)) old is.tells.states);
        };
        first = λ yes. absurd (let no : ⊥ = cc in no);
      }
    where
      by_alone : (t : Bool) → m ≡ making_of t w → with_body_at format setup_of_texts shelf place body m ≡ next_setup place (length body) w (setup_of_texts named)
      by_alone true e = ap (with_body_at format setup_of_texts shelf place body) e ∙ ap (second_at format setup_of_texts place (length body) w) read
      by_alone false e = ap (with_body_at format setup_of_texts shelf place body) e ∙ ap (next_at format setup_of_texts place (length body) w) read

  pub renewed_damaged : (named : List (List ℕ × List ℕ)) → read_record_in format body ≡ Some (renews named) → setup_of_texts named ≡ None → with_body_at format setup_of_texts shelf place body m ≡ damaged place
  renewed_damaged named read none = by_alone alone is.is ∙ ap (next_setup place (length body) w) none
    where
      by_alone : (t : Bool) → m ≡ making_of t w → with_body_at format setup_of_texts shelf place body m ≡ next_setup place (length body) w (setup_of_texts named)
      by_alone true e = ap (with_body_at format setup_of_texts shelf place body) e ∙ ap (second_at format setup_of_texts place (length body) w) read
      by_alone false e = ap (with_body_at format setup_of_texts shelf place body) e ∙ ap (next_at format setup_of_texts place (length body) w) read

  -- ---- a record that can't stand there

  -- ---- a record that tells a number

  drawn_made : (number : ℕ) (new : kept.Book) → read_record_in format body ≡ Some (draws number) → length body ≡ 9 → alone ≡ true → Reopens (λ b. record b { logged = number }) old new
      → IsMadeAs shelf (place + 5 + length body + 1) fed false new library before (with_body_at format setup_of_texts shelf place body m)
  drawn_made number new read nine single reopens =
      let start = is.first single in
      let b = beside_file fed (place + 1) w.book.file in
      let drawn : Made → Book = λ y. (with_drawn number y).book in
      let told_by : Book → Book = λ y. record (reopened (record y { logged = number })) { length = y.length + 14; file = record y.file { drawn = Some number } } in
      let begins_so : drawn w ≡ told_by w.book = subst (λ (y : Made). drawn y ≡ told_by y.book) (sym start.2) refl in
      let then_is : record (told_by w.book) { length = place + 1 + 14 } ≡ book_of library (beside_file fed (place + 1 + 14) (record w.book.file { drawn = Some number })) new =
      ap (λ (y : Book). record (reopened (record y { logged = number })) { length = place + 1 + 14; file = record w.book.file { drawn = Some number } }) is.book
      ∙ sym (ap (λ (y : Book). record y { length = place + 1 + 14; file = record w.book.file { drawn = Some number } }) (reopens.book library b)) in
      let length_is : told_by w.book ≡ record (told_by w.book) { length = place + 1 + 14 } = ap (λ (l : ℕ). record (told_by w.book) { length = l + 14 }) (ap (λ (y : Book). y.length) is.book) in
      let long : place + 1 + 14 ≡ place + 5 + length body + 1 = omega (arith, nine) in
      let whole : Made = with_drawn number w in
      let file_is : whole.book.file ≡ record w.book.file { drawn = Some number } = ap (λ (y : Book). y.file) begins_so in
      record {
        whole = whole;
        is = by_alone alone is.is single;
        book =
            begins_so
            ∙ (length_is
            ∙ (then_is
            ∙ (ap (λ (l : ℕ). book_of library (beside_file fed l (record w.book.file { drawn = Some number })) new) long
            ∙ ap (λ (f : File). book_of library (beside_file fed (place + 5 + length body + 1) f) new) (sym file_is))));
        tells = record { numbers = is.tells.numbers; known = is.tells.known; states = reopens.states (given (λ n. state_at n w.earlier.states)) library.all is.tells.states };
        first = λ yes. absurd (let no : ⊥ = cc in no);
      }
    where
      by_alone : (t : Bool) → m ≡ making_of t w → t ≡ true → with_body_at format setup_of_texts shelf place body m ≡ made (with_drawn number w)
      by_alone true e single = ap (with_body_at format setup_of_texts shelf place body) e ∙ ap (second_at format setup_of_texts place (length body) w) read
      by_alone false e single = absurd (let never : ⊥ = cc in never)

-- ---- a later record that tells no setup

abbrev pub IsNine : List ℕ → Record → Type 0
IsNine body (draws number) = length body ≡ 9
IsNine body follows = length body ≡ 1
IsNine body promotes = length body ≡ 1
IsNine body _ = Unit {0}

-- what is told as it is makes what the record makes
pub as_it_is : (library : Library) (before : InOrder (Unit {0})) (old : kept.Book) (o : Option kept.Book) (r : Record) (x : Renewed) → IsToldAsIs r x → IsMadeBy library before r x old o
    → IsMadeOf library before r old o
as_it_is library before old o r (renewed.Told l) is makes = subst (λ (q : Record). IsMadeOf library before q old o) is makes
as_it_is library before old o r renewed.Passed is makes = absurd is
as_it_is library before old o r renewed.Misread is makes = absurd is

pub later_made : (format shelf place : ℕ) (body : List ℕ) (library : Library) (fed alone : Bool) (before after : InOrder (Unit {0})) (old new : kept.Book) (r : Record)
    → read_record_in format body ≡ Some r → IsNine body r → may_stand alone (length library.setup) r ≡ true → IsMadeIn format library before r old (Some new) → Sees r before after
    → (m : Making) → IsMadeAs shelf (place + 1) fed alone old library before m
    → IsMadeAs shelf (place + 5 + length body + 1) fed false new library after (with_body_at format setup_of_texts shelf place body m)
later_made format shelf place body library fed alone before after old new (begins s named) read nine stands redo sees m is = absurd (let not : ⊥ = cc in not)
later_made format shelf place body library fed alone before after old new (changes c state) read nine stands (renewed.Told l, (alike, makes)) sees m is =
    changed_made format shelf place body library fed alone before old m is c state alike.0 read stands alike.1.1 after new
    (subst (λ (q : Record). IsMadeOf library before q old (Some new)) alike.1.0 makes) sees
later_made format shelf place body library fed alone before after old new (changes c state) read nine stands (renewed.Passed, (passes, makes)) sees m is =
    passed_made format shelf place body library fed alone before old m is c state read stands after new passes.1 makes sees
later_made format shelf place body library fed alone before after old new (changes c state) read nine stands (renewed.Misread, (outside, makes)) sees m is = absurd (let not : ⊥ = cc in not)
later_made format shelf place body library fed alone before after old new (renews named) read nine stands redo sees m is = absurd (let not : ⊥ = cc in not)
later_made format shelf place body library fed alone before after old new follows read nine stands redo sees m is = absurd (let not : ⊥ = cc in not)
later_made format shelf place body library fed alone before after old new promotes read nine stands redo sees m is = absurd (let not : ⊥ = cc in not)
later_made format shelf place body library fed alone before after old new (draws number) read nine stands (x, (alike, makes)) sees m is =
    let redo = as_it_is library before old (Some new) (draws number) x alike makes in
    let made_so = drawn_made format shelf place body library fed alone before old m is number new read nine stands redo.1 in
    record {
      whole = made_so.whole;
      is = made_so.is;
      book = made_so.book;
      tells = record { numbers = λ k. made_so.tells.numbers k ∙ sym (sees k); known = made_so.tells.known; states = made_so.tells.states };
      first = made_so.first;
    }

pub later_damaged : (format shelf place : ℕ) (body : List ℕ) (library : Library) (fed alone : Bool) (before : InOrder (Unit {0})) (old : kept.Book) (r : Record)
    → read_record_in format body ≡ Some r → may_stand alone (length library.setup) r ≡ true → IsMadeIn format library before r old None
    → (m : Making) → IsMadeAs shelf (place + 1) fed alone old library before m → with_body_at format setup_of_texts shelf place body m ≡ damaged place
later_damaged format shelf place body library fed alone before old (begins s named) read stands redo m is = absurd (let not : ⊥ = cc in not)
later_damaged format shelf place body library fed alone before old (changes c state) read stands (renewed.Told l, (alike, makes)) m is =
    let redo = subst (λ (q : Record). IsMadeOf library before q old None) alike.1.0 makes in
    changed_damaged format shelf place body library fed alone before old m is c state alike.0 read stands alike.1.1 redo.0 redo.1
later_damaged format shelf place body library fed alone before old (changes c state) read stands (renewed.Passed, (passes, makes)) m is = absurd makes
later_damaged format shelf place body library fed alone before old (changes c state) read stands (renewed.Misread, (outside, makes)) m is =
    outside_damaged format shelf place body library fed alone before old m is c state read stands outside
later_damaged format shelf place body library fed alone before old (renews named) read stands redo m is = absurd (let not : ⊥ = cc in not)
later_damaged format shelf place body library fed alone before old follows read stands redo m is = absurd (let not : ⊥ = cc in not)
later_damaged format shelf place body library fed alone before old promotes read stands redo m is = absurd (let not : ⊥ = cc in not)
later_damaged format shelf place body library fed alone before old (draws number) read stands (x, (alike, makes)) m is =
    let redo = as_it_is library before old None (draws number) x alike makes in
    absurd (let yes : false ≡ true = redo.1.0 in let not : ⊥ = cc in not)

-- ---- the first record

pub nothing_tells : (library : Library) (b : kept.Book) (seen : InOrder (Unit {0})) → seen_by seen ≡ [] → HasToldStates library.all [] b → TellsOf library seen b nothing_told
nothing_tells library b seen none states = record {
  numbers = λ k. ap (is_one k) (sym none);
  known = λ n d e. absurd (let not : ⊥ = cc in not);
  states = states;
}

-- rules under which a file with its first record alone is so long
abbrev long_rules : (length : ℕ) → Rules
long_rules n = record {
  fuel = 0;
  life = 0;
  instances = 0;
  pages = 0;
  journal = Some (record { begun = λ scripts. n; renewed = λ scripts. 0; length_of = λ b c. 0 });
}

pub same_number : (n k : ℕ) → n ≡ k → (n == k) ≡ true
same_number n k e = grind (arith, nat_tests, e)

pub other_number : (n k : ℕ) → (n ≡ k → ⊥) → (n == k) ≡ false
other_number n k e = grind (arith, nat_tests, e)

module _ (format shelf place : ℕ) (body : List ℕ) (number : ℕ) (named : List (List ℕ × List ℕ)) (read : read_record_in format body ≡ Some (begins number named)) (fed : Bool) (seen : InOrder (Unit {0}))
    (m : Making) (is : IsNothing shelf (place + 1) fed seen m) where
  by_role : (t : Bool) → IsBefore t shelf (place + 1) m → with_body_at format setup_of_texts shelf place body m ≡ first_setup t shelf place (length body) number (setup_of_texts named)
  by_role true (e, long) = ap (with_body_at format setup_of_texts shelf place body) e ∙ ap (fed_by setup_of_texts shelf place (length body)) read
  by_role false (inl (e, long)) = ap (with_body_at format setup_of_texts shelf place body) e ∙ ap (start_by setup_of_texts shelf place (length body)) read
  by_role false (inr (e, long)) = ap (with_body_at format setup_of_texts shelf place body) e ∙ ap (first_by setup_of_texts false shelf place (length body)) read

  first_comes : (o : Option (List Named)) → setup_of_texts named ≡ o → with_body_at format setup_of_texts shelf place body m ≡ first_setup fed shelf place (length body) number o
  first_comes o reads = by_role fed is.before ∙ ap (first_setup fed shelf place (length body) number) reads

  pub begins_as : (scripts : List Named) → number ≡ shelf → setup_of_texts named ≡ Some scripts → with_body_at format setup_of_texts shelf place body m ≡ begun (began fed shelf place (length body) scripts)
  begins_as scripts same reads =
      first_comes (Some scripts) reads ∙ ap (λ (t : Bool). if t then begun (began fed shelf place (length body) scripts) else other place) (same_number number shelf same)

  pub first_made : (b : kept.Book) (library : Library) → number ≡ shelf → IsFirst shelf named b library
      → IsMadeAs shelf (place + 5 + length body + 1) fed true b library seen (with_body_at format setup_of_texts shelf place body m)
  first_made b library same first =
      let n = length body in
      let long : place + 6 + n ≡ place + 5 + n + 1 = omega arith in
      let f = first_file (14 + n) library.setup in
      record {
        whole = began fed shelf place n library.setup;
        is = begins_as library.setup same first.read;
        book =
            ap (λ (y : Book). record y { length = place + 6 + n; follows = fed }) (sym (first.empty library (long_rules (14 + n))))
            ∙ ap (λ (l : ℕ). book_of library (beside_file fed l f) b) long;
        tells = nothing_tells library b seen is.none (first.told (λ n. state_at n []) library.all);
        first = λ _. (place, n, refl);
      }

  pub first_other : (number ≡ shelf → ⊥) → (scripts : List Named) → setup_of_texts named ≡ Some scripts → with_body_at format setup_of_texts shelf place body m ≡ other place
  first_other differs scripts reads =
      first_comes (Some scripts) reads ∙ ap (λ (t : Bool). if t then begun (began fed shelf place (length body) scripts) else other place) (other_number number shelf differs)

  pub first_damaged : setup_of_texts named ≡ None → with_body_at format setup_of_texts shelf place body m ≡ damaged place
  first_damaged none = first_comes None none

abbrev pub IsNoBegin : Record → Type 0
IsNoBegin (begins s named) = ⊥
IsNoBegin _ = Unit {0}

at_eight : (place : ℕ) → (place == 8) ≡ true → place ≡ 8
at_eight place e = grind (arith, nat_tests, e)

not_eight : (place : ℕ) → place + 1 ≡ 9 → (place == 8) ≡ false → ⊥
not_eight place e off = let here : place ≡ 8 = omega (arith, e) in let yes : (place == 8) ≡ true = grind (arith, nat_tests, here) in let no : ⊥ = cc (yes, off) in no

module _ (format shelf place : ℕ) (body : List ℕ) (fed : Bool) (seen : InOrder (Unit {0})) (m : Making) (is : IsNothing shelf (place + 1) fed seen m) where
  -- what a record makes there
  front_by : (t : Bool) (o : Option Record) → read_record_in format body ≡ o → IsBefore t shelf (place + 1) m → ((fed_by setup_of_texts shelf place (length body) o ≡ damaged place) → t ≡ true → with_body_at format setup_of_texts shelf place body m ≡ damaged place)
      × ((start_by setup_of_texts shelf place (length body) o ≡ damaged place) → (first_by setup_of_texts false shelf place (length body) o ≡ damaged place) → t ≡ false → with_body_at format setup_of_texts shelf place body m ≡ damaged place)
  front_by true o read (e, long) = (
    λ bad _. ap (with_body_at format setup_of_texts shelf place body) e ∙ (ap (fed_by setup_of_texts shelf place (length body)) read ∙ bad),
    λ _ _ off. absurd (let no : ⊥ = cc off in no),
  )
  front_by false o read (inl (e, long)) = (
    λ _ on. absurd (let no : ⊥ = cc on in no),
    λ bad _ _. ap (with_body_at format setup_of_texts shelf place body) e ∙ (ap (start_by setup_of_texts shelf place (length body)) read ∙ bad),
  )
  front_by false o read (inr (e, long)) = (
    λ _ on. absurd (let no : ⊥ = cc on in no),
    λ _ bad _. ap (with_body_at format setup_of_texts shelf place body) e ∙ (ap (first_by setup_of_texts false shelf place (length body)) read ∙ bad),
  )

  front_damaged : (o : Option Record) → read_record_in format body ≡ o → fed_by setup_of_texts shelf place (length body) o ≡ damaged place → start_by setup_of_texts shelf place (length body) o ≡ damaged place
      → first_by setup_of_texts false shelf place (length body) o ≡ damaged place → with_body_at format setup_of_texts shelf place body m ≡ damaged place
  front_damaged o read one two three = by_fed fed is.before
    where
      by_fed : (t : Bool) → IsBefore t shelf (place + 1) m → with_body_at format setup_of_texts shelf place body m ≡ damaged place
      by_fed true before = (front_by true o read before).0 one refl
      by_fed false before = (front_by false o read before).1 two three refl

  pub first_no_begin : (r : Record) → read_record_in format body ≡ Some r → IsNoBegin r → turns fed place r ≡ false → with_body_at format setup_of_texts shelf place body m ≡ damaged place
  first_no_begin (begins s named) read h off = absurd h
  first_no_begin (changes c state) read h off = front_damaged (Some (changes c state)) read refl refl refl
  first_no_begin (renews named) read h off = front_damaged (Some (renews named)) read refl refl refl
  first_no_begin (draws number) read h off = front_damaged (Some (draws number)) read refl refl refl
  first_no_begin follows read h off = by_fed fed is.before off
    where
      by_fed : (t : Bool) → IsBefore t shelf (place + 1) m → turns t place follows ≡ false → with_body_at format setup_of_texts shelf place body m ≡ damaged place
      by_fed true before away = (front_by true (Some follows) read before).0 refl refl
      by_fed false (inl (e, long)) away = absurd (not_eight place long away)
      by_fed false (inr (e, long)) away = ap (with_body_at format setup_of_texts shelf place body) e ∙ ap (first_by setup_of_texts false shelf place (length body)) read
  first_no_begin promotes read h off = by_fed fed is.before off
    where
      by_fed : (t : Bool) → IsBefore t shelf (place + 1) m → turns t place promotes ≡ false → with_body_at format setup_of_texts shelf place body m ≡ damaged place
      by_fed true before away = absurd (let never : ⊥ = cc away in never)
      by_fed false before away = (front_by false (Some promotes) read before).1 refl refl refl

  -- a record that tells that the shelf follows, or follows no longer
  pub first_turned : (r : Record) → read_record_in format body ≡ Some r → IsNine body r → turns fed place r ≡ true → (t : Bool) → t ≡ not fed
      → IsNothing shelf (place + 5 + length body + 1) t seen (with_body_at format setup_of_texts shelf place body m)
  first_turned r read long on t turned = record { before = subst (λ (u : Bool). IsBefore u shelf (place + 5 + length body + 1) (with_body_at format setup_of_texts shelf place body m)) (sym turned) (by_record r read long fed is.before on); none = is.none }
    where
      by_record : (r : Record) → read_record_in format body ≡ Some r → IsNine body r → (u : Bool) → IsBefore u shelf (place + 1) m → turns u place r ≡ true → IsBefore (not u) shelf (place + 5 + length body + 1) (with_body_at format setup_of_texts shelf place body m)
      by_record follows read long false (inl (e, n)) on =
          (ap (with_body_at format setup_of_texts shelf place body) e ∙ ap (start_by setup_of_texts shelf place (length body)) read, omega (arith, n, long))
      by_record follows read long false (inr (e, n)) on = absurd (let here = at_eight place on in let no : ⊥ = omega (arith, n, here) in no)
      by_record follows read long true before on = absurd (let no : ⊥ = cc on in no)
      by_record promotes read long true (e, n) on =
          inr (ap (with_body_at format setup_of_texts shelf place body) e ∙ ap (fed_by setup_of_texts shelf place (length body)) read, omega (arith, n, long))
      by_record promotes read long false before on = absurd (let no : ⊥ = cc on in no)
      by_record (begins s named) read long true before on = absurd (let no : ⊥ = cc on in no)
      by_record (begins s named) read long false before on = absurd (let no : ⊥ = cc on in no)
      by_record (changes c state) read long true before on = absurd (let no : ⊥ = cc on in no)
      by_record (changes c state) read long false before on = absurd (let no : ⊥ = cc on in no)
      by_record (renews named) read long true before on = absurd (let no : ⊥ = cc on in no)
      by_record (renews named) read long false before on = absurd (let no : ⊥ = cc on in no)
      by_record (draws number) read long true before on = absurd (let no : ⊥ = cc on in no)
      by_record (draws number) read long false before on = absurd (let no : ⊥ = cc on in no)
