-- What any bodies make.
use Rattle.std.proofs.Common.{◌≡◌, ℕ, ◌+◌, ◌<◌, ◌≤◌, ◌==◌, List, [], ◌∷◌, length, Bool, true, false, not, if◌then◌else◌, Option, Some, None, refl, sym, ◌∙◌, ap, subst, ⊎_elim, arith, length-append, slice_get}
use Rattle.std.specs.Prelude.{⊤}
use Rattle.std.proofs.lemmas.Bool.Decides.{nat_tests}
use Rattle.std.proofs.lemmas.Option.{slice_get_within}
use Rattle.script_value.specs.declared.outcome.TxName.{TxName}
use Rattle.script_nodes.specs.Setup.{Named}
use Rattle.page_journal.specs.Records.{framed, frames}
use Rattle.page_journal.proofs.Frames.{length-framed, length-at_rest}
use Rattle.replay_spec.specs.Book.{Instance, Opening, Change, opens, extends, ends, finishes, sweeps, Doubt, changed, renewed, File, Book, instance_at, is_live, reopened, root_by, page_by}
use Rattle.replay_spec.specs.Rules.{Rules, first_file}
use Rattle.replay_spec.specs.Change.{mend, shown_by, ended_by, fresh, opened_by, instances_by, logged_by, clock_by, longer_by}
use Rattle.replay_spec.specs.Recovery.{redone, of_length, taken_in, first_of, used_up}
use Rattle.machine_states.specs.Machine.{inside_of}
use Rattle.replay_spec.specs.Invariant.{Among, Apart}
use Rattle.replay_spec.specs.Remade.{AreUsed, IsOrderlyMade}
use Rattle.replay_spec.proofs.Found.{KeepsNumber, keep_found}
use Rattle.replay_spec.proofs.Differ.{put_from, mend_from}
use Rattle.replay_spec.proofs.Recovered.{made_orderly}
use Rattle.replay_spec.proofs.Compacted.{line_orderly, first_orderly}
use Rattle.journal_records.specs.Fields.{numbers_end}
use Rattle.journal_records.specs.Records.{ChangeFits, Record, begins, changes, renews, draws, follows, promotes}
use Rattle.journal_records.specs.Old.{newest_format, read_record_in}
use Rattle.journal_records.specs.Laws.{AreRecordsExact}
use Rattle.value_bytes.specs.Laws.{AreBytes}
use Rattle.server_limits.specs.Limits.{most_fuel}
use Rattle.journal_spec.specs.Before.{nothing_told, Made, plain}
use Rattle.journal_spec.specs.Retaking.{Told, unread, misread, told, landing, retaken}
use Rattle.journal_spec.specs.Making.{Texts, Making, nothing, waits, waited, begun, made, damaged, other, has_script, beside, in_file, waiting, began, first_setup, first_by, start_by, fed_by, promoted_by, told_next, next_setup, with_drawn, made_in}
use Rattle.journal_spec.specs.Lengths.{own_told}
use Rattle.journal_spec.specs.Old.{told_at, change_next, next_at, second_at, with_body_at, with_bodies_at, book_of_format, format_of_now}
use Rattle.journal_spec.specs.Opening.{ReadsWhole}
use Rattle.journal_spec.specs.Whole.{IsWhole, AreWhole}
use Rattle.journal_spec.specs.Reading.{AreAllBytes}
use Rattle.journal_spec.specs.Keeping.{IsTakenDoubt}
use Rattle.journal_spec.specs.Spelling.{IsDoubtInRange}
use Rattle.journal_spec.specs.Laws.{IsNoBegin, OnlyItsBeginBegins, IsFitting, BodiesMakeFittingBooks, BodiesOfAnyFormatFit}
use Rattle.journal_spec.proofs.Retaken.{retaken_orderly, filed_orderly}

-- scripts of instances are whole
abbrev pub WholeIn : List Instance → Type 0
WholeIn is = (k : ℕ) (i : Instance) → instance_at k is ≡ Some i → IsWhole i.script

whole_mended : (n : ℕ) (f : Instance → Instance) (is : List Instance) → KeepsNumber f → ((i : Instance) → (f i).script ≡ i.script) → WholeIn is → WholeIn (mend n f is)
whole_mended n f is same script h k j found = ⊎_elim
    (λ old. h k j old)
    (λ (i, (there, is_it)). subst IsWhole (sym (script i) ∙ ap (λ (x : Instance). x.script) is_it) (h k i there))
    (mend_from k n f is j same found)

whole_opened : (s : Option Named) (o : Opening) (inside : List TxName) (is : List Instance) → ((a : Named) → s ≡ Some a → IsWhole a) → WholeIn is → WholeIn (opened_by s o inside is)
whole_opened None o inside is fits h k j found = h k j found
whole_opened (Some a) o inside is fits h k j found =
    let i = shown_by o.effects o.left o.kind [] (root_by o inside) (fresh a o.number) in
    ⊎_elim (λ same. subst (λ (x : Instance). IsWhole x.script) same (fits a refl)) (λ old. h k j old) (put_from (λ (x : Instance). x.number) k i j is found)

pub whole_by : (scripts : List Named) (is : List Instance) (c : Change) (inside : List TxName) → Apart is → AreWhole scripts → WholeIn is → WholeIn (instances_by scripts c inside is)
whole_by scripts is (opens o) inside apart setup h k j found = whole_opened (slice_get scripts o.script) o inside is (setup o.script) h k j found
whole_by scripts is (extends x) inside apart setup h k j found = whole_mended x.instance (shown_by x.effects x.left x.kind x.evicted (page_by x inside)) is (λ i. refl) (λ i. refl) h k j found
whole_by scripts is (ends e) inside apart setup h k j found = whole_mended e.instance (ended_by e) is (λ i. refl) (λ i. refl) h k j found
whole_by scripts is (finishes f) inside apart setup h k j found = h k j (keep_found (λ i. not (i.number == f.instance)) k is j apart found)
whole_by scripts is (sweeps tick) inside apart setup h k j found = h k j (keep_found (is_live tick) k is j apart found)

whole_redone : (rules : Rules) (c : Change) (o : Option (List TxName)) (b : Book) → Apart b.instances → AreWhole b.scripts → WholeIn b.instances → WholeIn (redone rules c o b).instances
whole_redone rules c None b apart setup h = h
whole_redone rules c (Some inside) b apart setup h = whole_by b.scripts b.instances c inside apart setup h

-- what a book under way has, whose journal's next gate is at this place
record Fits (all : Type 0) (texts : Texts) (shelf place : ℕ) (m : Made) : Type 0 where
  orderly : IsOrderlyMade (plain m)
  shelf_is : m.book.shelf ≡ shelf
  named : List (List ℕ × List ℕ)
  read : texts named ≡ Some m.book.scripts
  whole : ReadsWhole texts → WholeIn m.book.instances
  range : all → (m.book.logged ≤ numbers_end) × (m.book.clock < numbers_end)
  long : all → m.book.length ≡ place + 1

-- what the record makes that a journal begins with, where the journal's next gate is at this place
record Begins (texts : Texts) (shelf place : ℕ) (m : Made) : Type 0 where
  fed : Bool
  gate : ℕ
  body : ℕ
  scripts : List Named
  named : List (List ℕ × List ℕ)
  read : texts named ≡ Some scripts
  is : m ≡ began fed shelf gate body scripts
  at : place ≡ gate + 5 + body

abbrev FitsMaking : (all : Type 0) → Texts → (shelf place : ℕ) → Making → Type 0
FitsMaking all texts shelf place nothing = place ≡ 8
FitsMaking all texts shelf place (waits s) = (s ≡ shelf) × (all → place ≡ 14)
FitsMaking all texts shelf place waited = ⊤
FitsMaking all texts shelf place (begun m) = Begins texts shelf place m
FitsMaking all texts shelf place (made m) = Fits all texts shelf place m
FitsMaking all texts shelf place (damaged p) = ⊤
FitsMaking all texts shelf place (other p) = ⊤

pub only_begin : OnlyItsBeginBegins
only_begin texts fed shelf place n = (
  λ named scripts read. (here named scripts read, λ s differs. elsewhere s named scripts differs read),
  λ s named none. ap (first_setup fed shelf place n s) none,
  no_begin,
  at_start,
  behind_it,
)
  where
    here : (named : List (List ℕ × List ℕ)) (scripts : List Named) → texts named ≡ Some scripts → first_by texts fed shelf place n (Some (begins shelf named)) ≡ begun (began fed shelf place n scripts)
    here named scripts read =
        let same : (shelf == shelf) ≡ true = grind (arith, nat_tests) in
        ap (first_setup fed shelf place n shelf) read ∙ ap (λ (t : Bool). if t then begun (began fed shelf place n scripts) else other place) same

    elsewhere : (s : ℕ) (named : List (List ℕ × List ℕ)) (scripts : List Named) → (s ≡ shelf → ⊥) → texts named ≡ Some scripts
        → first_by texts fed shelf place n (Some (begins s named)) ≡ other place
    elsewhere s named scripts differs read =
        let apart : (s == shelf) ≡ false = grind (arith, nat_tests, differs) in
        ap (first_setup fed shelf place n s) read ∙ ap (λ (t : Bool). if t then begun (began fed shelf place n scripts) else other place) apart

    no_begin : (r : Option Record) → IsNoBegin r → first_by texts fed shelf place n r ≡ damaged place
    no_begin None h = refl
    no_begin (Some (begins s named)) h = absurd h
    no_begin (Some (changes c state)) h = refl
    no_begin (Some (renews named)) h = refl
    no_begin (Some (draws number)) h = refl
    no_begin (Some follows) h = refl
    no_begin (Some promotes) h = refl

    at_start : (r : Option Record) → (r ≡ Some follows → ⊥) → start_by texts shelf place n r ≡ first_by texts false shelf place n r
    at_start None h = refl
    at_start (Some (begins s named)) h = refl
    at_start (Some (changes c state)) h = refl
    at_start (Some (renews named)) h = refl
    at_start (Some (draws number)) h = refl
    at_start (Some follows) h = absurd (h refl)
    at_start (Some promotes) h = refl

    behind_it : (r : Option Record) → (r ≡ Some promotes → ⊥) → fed_by texts shelf place n r ≡ first_by texts true shelf place n r
    behind_it None h = refl
    behind_it (Some (begins s named)) h = refl
    behind_it (Some (changes c state)) h = refl
    behind_it (Some (renews named)) h = refl
    behind_it (Some (draws number)) h = refl
    behind_it (Some follows) h = refl
    behind_it (Some promotes) h = absurd (h refl)

-- what a file's first records make
first_file_fits : (fed : Bool) (size : ℕ) (all : Type 0) (texts : Texts) (shelf place : ℕ) (f : File) (named : List (List ℕ × List ℕ)) → texts named ≡ Some f.scripts
    → (all → used_up f.drawn ≤ numbers_end) → (all → size ≡ place + 1) → Fits all texts shelf place (in_file fed size (beside nothing_told (first_of shelf f)))
first_file_fits fed size all texts shelf place f named read low long = record {
  orderly = filed_orderly fed size (beside nothing_told (first_of shelf f)) (first_orderly shelf f);
  shelf_is = refl;
  named = named;
  read = read;
  whole = λ whole k i found. absurd (let no : ⊥ = cc in no);
  range = λ bytes. (low bytes, omega arith);
  long = long;
}

begins_fits : (all : Type 0) (texts : Texts) (shelf place : ℕ) (m : Made) → Begins texts shelf place m → Fits all texts shelf place m
begins_fits all texts shelf place m h =
    let at = h.at in
    subst (Fits all texts shelf place) (sym h.is)
    (first_file_fits h.fed (h.gate + 6 + h.body) all texts shelf place (first_file (14 + h.body) h.scripts) h.named h.read (λ bytes. omega arith) (λ bytes. omega (arith, at)))

first_fits : (fed : Bool) (all : Type 0) (texts : Texts) (shelf place : ℕ) (body : List ℕ) (o : Option Record) → FitsMaking all texts shelf (place + 5 + length body) (first_by texts fed shelf place (length body) o)
first_fits fed all texts shelf place body None = tt
first_fits fed all texts shelf place body (Some (changes c state)) = tt
first_fits fed all texts shelf place body (Some (renews named)) = tt
first_fits fed all texts shelf place body (Some (draws number)) = tt
first_fits fed all texts shelf place body (Some follows) = tt
first_fits fed all texts shelf place body (Some promotes) = tt
first_fits fed all texts shelf place body (Some (begins s named)) = by_setup (texts named) refl
  where
    by_test : (scripts : List Named) (t : Bool) → texts named ≡ Some scripts
        → FitsMaking all texts shelf (place + 5 + length body) (if t then begun (began fed shelf place (length body) scripts) else other place)
    by_test scripts true read = record { fed = fed; gate = place; body = length body; scripts = scripts; named = named; read = read; is = refl; at = refl }
    by_test scripts false read = tt

    by_setup : (o : Option (List Named)) → texts named ≡ o → FitsMaking all texts shelf (place + 5 + length body) (first_setup fed shelf place (length body) s o)
    by_setup None read = tt
    by_setup (Some scripts) read = by_test scripts (s == shelf) read

-- the first record of a file, which may tell that the shelf follows another one's journal
start_fits : AreRecordsExact → (format : ℕ) (all : Type 0) (texts : Texts) (shelf : ℕ) (body : List ℕ) (o : Option Record) → read_record_in format body ≡ o → (all → AreBytes body)
    → FitsMaking all texts shelf (8 + 5 + length body) (start_by texts shelf 8 (length body) o)
start_fits x format all texts shelf body None e are = tt
start_fits x format all texts shelf body (Some (begins s named)) e are = first_fits false all texts shelf 8 body (Some (begins s named))
start_fits x format all texts shelf body (Some (changes c state)) e are = tt
start_fits x format all texts shelf body (Some (renews named)) e are = tt
start_fits x format all texts shelf body (Some (draws number)) e are = tt
start_fits x format all texts shelf body (Some promotes) e are = tt
start_fits x format all texts shelf body (Some follows) e are =
    (refl, λ bytes. let long : length body ≡ 1 = ap length (x.alike format body follows (are bytes) e tt).spelled in omega (arith, long))

-- the record after that
fed_fits : (all : Type 0) (texts : Texts) (shelf place : ℕ) (body : List ℕ) (o : Option Record) → FitsMaking all texts shelf (place + 5 + length body) (fed_by texts shelf place (length body) o)
fed_fits all texts shelf place body None = tt
fed_fits all texts shelf place body (Some (begins s named)) = first_fits true all texts shelf place body (Some (begins s named))
fed_fits all texts shelf place body (Some (changes c state)) = tt
fed_fits all texts shelf place body (Some (renews named)) = tt
fed_fits all texts shelf place body (Some (draws number)) = tt
fed_fits all texts shelf place body (Some follows) = tt
fed_fits all texts shelf place body (Some promotes) = tt

redone_scripts : (rules : Rules) (c : Change) (o : Option (List TxName)) (b : Book)
    → ((redone rules c o b).scripts ≡ b.scripts) × ((redone rules c o b).shelf ≡ b.shelf) × ((redone rules c o b).length ≡ longer_by rules.journal b c)
redone_scripts rules c None b = (refl, refl, refl)
redone_scripts rules c (Some inside) b = (refl, refl, refl)

logged_range : (c : Change) (state : Option (List ℕ)) → ChangeFits c state → logged_by c ≤ numbers_end
logged_range (opens o) None h = absurd h
logged_range (opens o) (Some s) h = let n = h.ticket in omega (arith, n)
logged_range (extends x) None h = absurd h
logged_range (extends x) (Some s) h = let n = h.ticket in omega (arith, n)
logged_range (ends e) None h = let n = h.ticket in omega (arith, n)
logged_range (ends e) (Some s) h = absurd h
logged_range (finishes f) None h = let n = h.ticket in omega (arith, n)
logged_range (finishes f) (Some s) h = absurd h
logged_range (sweeps tick) state h = omega arith

clock_range : (c : Change) (state : Option (List ℕ)) (clock : ℕ) → ChangeFits c state → clock < numbers_end → clock_by c clock < numbers_end
clock_range (opens o) state clock h low = low
clock_range (extends x) state clock h low = low
clock_range (ends e) state clock h low = low
clock_range (finishes f) state clock h low = low
clock_range (sweeps tick) None clock h low = h
clock_range (sweeps tick) (Some s) clock h low = absurd h

redone_range : (rules : Rules) (c : Change) (state : Option (List ℕ)) (o : Option (List TxName)) (b : Book) → ChangeFits c state → b.logged ≤ numbers_end → b.clock < numbers_end
    → ((redone rules c o b).logged ≤ numbers_end) × ((redone rules c o b).clock < numbers_end)
redone_range rules c state None b h logged low = (let n = logged_range c state h in omega (arith, n, logged), low)
redone_range rules c state (Some inside) b h logged low = (let n = logged_range c state h in omega (arith, n, logged), clock_range c state b.clock h low)

-- a record that is read in this format, and lands with these names or is passed over
taken_fits : AreRecordsExact → (format : ℕ) (all : Type 0) (texts : Texts) (shelf place : ℕ) (body : List ℕ) (m : Made) (c : Change) (state : Option (List ℕ)) (o : Option (List TxName)) (t : Told)
    → read_record_in format body ≡ Some (changes c state) → (all → AreBytes body) → IsOrderlyMade (plain (retaken (length body) c o t m)) → Fits all texts shelf place m
    → Fits all texts shelf (place + 5 + length body) (retaken (length body) c o t m)
taken_fits x format all texts shelf place body m c state o t e are orderly h =
    let n = length body in
    let rules = redone_scripts (of_length n) c o m.book in
    record {
      orderly = orderly;
      shelf_is = rules.1 ∙ h.shelf_is;
      named = h.named;
      read = h.read ∙ ap (λ (ss : List Named). Some ss) (sym rules.0);
      whole = λ whole. whole_redone (of_length n) c o m.book h.orderly.instances.apart (whole h.named m.book.scripts h.read) (h.whole whole);
      range = λ bytes. redone_range (of_length n) c state o m.book (x.fits format body (changes c state) (are bytes) e) (h.range bytes).0 (h.range bytes).1;
      long = λ bytes.
          let before = h.long bytes in
          let now : longer_by (of_length n).journal m.book c ≡ m.book.length + (length body + 5) = refl in
          omega (arith, rules.2, now, before);
    }

told_fits : AreRecordsExact → (format : ℕ) (all : Type 0) (texts : Texts) (shelf place : ℕ) (body : List ℕ) (m : Made) (c : Change) (state : Option (List ℕ)) (t : Told)
    → read_record_in format body ≡ Some (changes c state) → (all → AreBytes body) → Fits all texts shelf place m
    → FitsMaking all texts shelf (place + 5 + length body) (told_next place (length body) m c t)
told_fits x format all texts shelf place body m c state unread e are h =
    taken_fits x format all texts shelf place body m c state (landing m c []) unread e are (retaken_orderly (length body) c [] unread m h.orderly) h
told_fits x format all texts shelf place body m c state misread e are h = tt
told_fits x format all texts shelf place body m c state (told d) e are h =
    taken_fits x format all texts shelf place body m c state (landing m c (inside_of d.frames)) (told d) e are (retaken_orderly (length body) c (inside_of d.frames) (told d) m h.orderly) h

-- a record of a change, by what its format says of its page's state
change_fits : AreRecordsExact → (format : ℕ) (all : Type 0) (texts : Texts) (shelf place : ℕ) (body : List ℕ) (m : Made) (c : Change) (state : Option (List ℕ))
    → read_record_in format body ≡ Some (changes c state) → (all → AreBytes body) → Fits all texts shelf place m
    → FitsMaking all texts shelf (place + 5 + length body) (change_next format place (length body) m c state)
change_fits x format all texts shelf place body m c state e are h = by_test (format == 1)
  where
    by_test : (t : Bool)
        → FitsMaking all texts shelf (place + 5 + length body)
        (if t then made (retaken (length body) c (taken_in (plain m) c) (own_told m.book c) m) else told_next place (length body) m c (told_at format m.earlier m.book c state))
    by_test true =
        taken_fits x format all texts shelf place body m c state (taken_in (plain m) c) (own_told m.book c) e are (line_orderly (changed c (length body)) (plain m) h.orderly) h
    by_test false = told_fits x format all texts shelf place body m c state (told_at format m.earlier m.book c state) e are h

-- a record of another setup
setup_fits : (all : Type 0) (texts : Texts) (shelf place : ℕ) (body : List ℕ) (m : Made) (named : List (List ℕ × List ℕ)) → Fits all texts shelf place m
    → FitsMaking all texts shelf (place + 5 + length body) (next_setup place (length body) m (texts named))
setup_fits all texts shelf place body m named h = by_setup (texts named) refl
  where
    by_setup : (o : Option (List Named)) → texts named ≡ o → FitsMaking all texts shelf (place + 5 + length body) (next_setup place (length body) m o)
    by_setup None read = tt
    by_setup (Some scripts) read = record {
      orderly = line_orderly (renewed scripts (length body)) (plain m) h.orderly;
      shelf_is = h.shelf_is;
      named = named;
      read = read;
      whole = h.whole;
      range = h.range;
      long = λ bytes. let before = h.long bytes in omega (arith, before);
    }

-- a record that the shelf follows no longer
promoted_fits : (all : Type 0) (texts : Texts) (shelf place : ℕ) (body : List ℕ) (m : Made) (fed : Bool) → Fits all texts shelf place m
    → FitsMaking all texts shelf (place + 5 + length body) (promoted_by place (length body) m fed)
promoted_fits all texts shelf place body m false h = tt
promoted_fits all texts shelf place body m true h = record {
  orderly = filed_orderly false (m.book.length + (length body + 5)) m h.orderly;
  shelf_is = h.shelf_is;
  named = h.named;
  read = h.read;
  whole = h.whole;
  range = h.range;
  long = λ bytes. let before = h.long bytes in omega (arith, before);
}

next_fits : AreRecordsExact → (format : ℕ) (all : Type 0) (texts : Texts) (shelf place : ℕ) (body : List ℕ) (m : Made) (o : Option Record) → read_record_in format body ≡ o → (all → AreBytes body)
    → Fits all texts shelf place m → FitsMaking all texts shelf (place + 5 + length body) (next_at format texts place (length body) m o)
next_fits x format all texts shelf place body m None e are h = tt
next_fits x format all texts shelf place body m (Some (begins s named)) e are h = tt
next_fits x format all texts shelf place body m (Some (draws number)) e are h = tt
next_fits x format all texts shelf place body m (Some follows) e are h = tt
next_fits x format all texts shelf place body m (Some promotes) e are h = promoted_fits all texts shelf place body m m.book.follows h
next_fits x format all texts shelf place body m (Some (renews named)) e are h = setup_fits all texts shelf place body m named h
next_fits x format all texts shelf place body m (Some (changes c state)) e are h = by_test (has_script (length m.book.scripts) c)
  where
    by_test : (t : Bool) → FitsMaking all texts shelf (place + 5 + length body) (if t then change_next format place (length body) m c state else damaged place)
    by_test false = tt
    by_test true = change_fits x format all texts shelf place body m c state e are h

-- a record that tells of a compaction
drawn_fits : AreRecordsExact → (format : ℕ) (all : Type 0) (texts : Texts) (shelf place : ℕ) (body : List ℕ) (m : Made) (number : ℕ) → read_record_in format body ≡ Some (draws number) → (all → AreBytes body)
    → Begins texts shelf place m → Fits all texts shelf (place + 5 + length body) (with_drawn number m)
drawn_fits x format all texts shelf place body m number e are h =
    subst (λ (k : Made). Fits all texts shelf (place + 5 + length body) (with_drawn number k)) (sym h.is)
    (first_file_fits h.fed (h.gate + 6 + h.body + 14) all texts shelf (place + 5 + length body) (record (first_file (14 + h.body) h.scripts) { drawn = Some number }) h.named h.read
    (λ bytes. let low = x.fits format body (draws number) (are bytes) e in omega (arith, low))
    (λ bytes.
    let long : length body ≡ 9 = ap length (x.alike format body (draws number) (are bytes) e tt).spelled in
    let at = h.at in
    omega (arith, long, at)))

second_fits : AreRecordsExact → (format : ℕ) (all : Type 0) (texts : Texts) (shelf place : ℕ) (body : List ℕ) (m : Made) (o : Option Record) → read_record_in format body ≡ o → (all → AreBytes body)
    → Begins texts shelf place m → FitsMaking all texts shelf (place + 5 + length body) (second_at format texts place (length body) m o)
second_fits x format all texts shelf place body m None e are h = tt
second_fits x format all texts shelf place body m (Some (begins s named)) e are h = tt
second_fits x format all texts shelf place body m (Some (draws number)) e are h = drawn_fits x format all texts shelf place body m number e are h
second_fits x format all texts shelf place body m (Some follows) e are h = tt
second_fits x format all texts shelf place body m (Some promotes) e are h = next_fits x format all texts shelf place body m (Some promotes) e are (begins_fits all texts shelf place m h)
second_fits x format all texts shelf place body m (Some (renews named)) e are h = next_fits x format all texts shelf place body m (Some (renews named)) e are (begins_fits all texts shelf place m h)
second_fits x format all texts shelf place body m (Some (changes c state)) e are h = next_fits x format all texts shelf place body m (Some (changes c state)) e are (begins_fits all texts shelf place m h)

one_fits : AreRecordsExact → (format : ℕ) (all : Type 0) (texts : Texts) (shelf place : ℕ) (body : List ℕ) (m : Making) → (all → AreBytes body) → FitsMaking all texts shelf place m
    → FitsMaking all texts shelf (place + 5 + length body) (with_body_at format texts shelf place body m)
one_fits x format all texts shelf place body nothing are h =
    subst (λ (p : ℕ). FitsMaking all texts shelf (p + 5 + length body) (with_body_at format texts shelf p body nothing)) (sym h) (start_fits x format all texts shelf body (read_record_in format body) refl are)
one_fits x format all texts shelf place body (waits s) are h = fed_fits all texts shelf place body (read_record_in format body)
one_fits x format all texts shelf place body waited are h = first_fits false all texts shelf place body (read_record_in format body)
one_fits x format all texts shelf place body (begun m) are h = second_fits x format all texts shelf place body m (read_record_in format body) refl are h
one_fits x format all texts shelf place body (made m) are h = next_fits x format all texts shelf place body m (read_record_in format body) refl are h
one_fits x format all texts shelf place body (damaged p) are h = tt
one_fits x format all texts shelf place body (other p) are h = tt

all_fit : AreRecordsExact → (format : ℕ) (all : Type 0) (texts : Texts) (shelf place : ℕ) (bodies : List (List ℕ)) (m : Making) → (all → AreAllBytes bodies) → FitsMaking all texts shelf place m
    → FitsMaking all texts shelf (place + length (frames bodies)) (with_bodies_at format texts shelf place bodies m)
all_fit x format all texts shelf place [] m are h = let same : place ≡ place + 0 = omega arith in subst (λ (p : ℕ). FitsMaking all texts shelf p m) same h
all_fit x format all texts shelf place (body ∷ bodies) m are h =
    let same : place + 5 + length body + length (frames bodies) ≡ place + length (frames (body ∷ bodies)) = omega (arith, length-append (framed body) (frames bodies), length-framed body) in
    let rest = with_bodies_at format texts shelf place (body ∷ bodies) m in
    subst (λ (p : ℕ). FitsMaking all texts shelf p rest) same
    (all_fit x format all texts shelf (place + 5 + length body) bodies (with_body_at format texts shelf place body m) (λ bytes. (are bytes).1)
    (one_fits x format all texts shelf place body m (λ bytes. (are bytes).0) h))

pub no_doubt : (b : Book) (o : Option Doubt) → o ≡ None → IsTakenDoubt b o unread
no_doubt b o e = subst (λ (x : Option Doubt). IsTakenDoubt b x unread) (sym e) tt

all_used : (b : Book) (seen : List ℕ) → ((n : ℕ) → Among n seen → n < b.logged) → AreUsed seen (reopened b)
all_used b seen counted n there x = let low = counted n there in ⊎_elim (λ no. no) (λ y. ⊎_elim (λ no. no) (λ high. omega (arith, low, high)) y) x

any_rules : Rules
any_rules = record { fuel = most_fuel; life = 0; instances = 0; pages = 0; journal = None }

-- what these bodies make
abbrev FitsWith : Texts → (shelf : ℕ) → List (List ℕ) → Made → Type 0
FitsWith texts shelf bodies m = Fits (AreAllBytes bodies) texts shelf (8 + length (frames bodies)) m

fitting : (texts : Texts) (shelf : ℕ) (bodies : List (List ℕ)) (m : Made) → FitsWith texts shelf bodies m → IsFitting texts shelf bodies m
fitting texts shelf bodies m h = record {
  again = h.orderly.again;
  shelf_is = h.shelf_is;
  read = λ as_told unfed. ap texts (as_told h.named m.book.scripts h.read) ∙ h.read;
  whole = λ whole. record { setup = whole h.named m.book.scripts h.read; instances = h.whole whole };
  recoverable = λ whole. record {
    orderly = (made_orderly any_rules).2 (plain m) h.orderly;
    whole = whole;
    doubted = unread;
    doubt = no_doubt m.book m.book.down (ap (λ (b : Book). b.down) h.orderly.again);
    used = subst (AreUsed m.earlier.seen) (sym h.orderly.again) (all_used m.book m.earlier.seen h.orderly.counted);
  };
  range = λ bytes. record {
    drawn = let again : m.book.drawn ≡ m.book.logged = ap (λ (b : Book). b.drawn) h.orderly.again in let low = (h.range bytes).0 in omega (arith, again, low);
    clock = (h.range bytes).1;
    doubt = subst IsDoubtInRange (sym (ap (λ (b : Book). b.down) h.orderly.again)) tt;
  };
  long = λ bytes fits. let size = length-at_rest bodies in let l = h.long bytes in omega (arith, l, size);
}

-- a shelf that follows another one's journal, and knows of no record of that
waiting_fits : (texts : Texts) (shelf : ℕ) (bodies : List (List ℕ)) → (AreAllBytes bodies → 8 + length (frames bodies) ≡ 14) → IsFitting texts shelf bodies (waiting shelf)
waiting_fits texts shelf bodies at =
    let orderly = filed_orderly true 15 (beside nothing_told (first_of shelf (first_file 0 []))) (first_orderly shelf (first_file 0 [])) in
    record {
      again = refl;
      shelf_is = refl;
      read = λ as_told unfed. absurd (let no : ⊥ = cc in no);
      whole = λ whole. record { setup = λ k s found. absurd (let low = slice_get_within (waiting shelf).book.scripts k s found in omega (arith, low)); instances = λ k i found. absurd (let no : ⊥ = cc in no) };
      recoverable = λ whole. record {
        orderly = (made_orderly any_rules).2 (plain (waiting shelf)) orderly;
        whole = whole;
        doubted = unread;
        doubt = tt;
        used = λ n there unused. there;
      };
      range = λ bytes. record { drawn = omega arith; clock = omega arith; doubt = tt };
      long = λ bytes fits. let size = length-at_rest bodies in let l = at bytes in omega (arith, l, size);
    }

made_so : (texts : Texts) (shelf : ℕ) (bodies : List (List ℕ)) (x : Making) (m : Made) → made_in x ≡ Some m → FitsMaking (AreAllBytes bodies) texts shelf (8 + length (frames bodies)) x
    → IsFitting texts shelf bodies m
made_so texts shelf bodies nothing m is h = absurd (let no : ⊥ = cc in no)
made_so texts shelf bodies waited m is h = absurd (let no : ⊥ = cc in no)
made_so texts shelf bodies (waits s) m is h =
    let at : waiting s ≡ m = cc in
    subst (IsFitting texts shelf bodies) (ap waiting (sym h.0) ∙ at) (waiting_fits texts shelf bodies h.1)
made_so texts shelf bodies (begun k) m is h =
    let at : k ≡ m = cc in
    subst (IsFitting texts shelf bodies) at (fitting texts shelf bodies k (begins_fits (AreAllBytes bodies) texts shelf (8 + length (frames bodies)) k h))
made_so texts shelf bodies (made k) m is h = let at : k ≡ m = cc in subst (IsFitting texts shelf bodies) at (fitting texts shelf bodies k h)
made_so texts shelf bodies (damaged p) m is h = absurd (let no : ⊥ = cc in no)
made_so texts shelf bodies (other p) m is h = absurd (let no : ⊥ = cc in no)

pub any_fit : AreRecordsExact → BodiesOfAnyFormatFit
any_fit x format texts shelf bodies m is =
    made_so texts shelf bodies (book_of_format format texts shelf bodies) m is (all_fit x format (AreAllBytes bodies) texts shelf 8 bodies nothing (λ bytes. bytes) refl)

pub made_fits : AreRecordsExact → BodiesMakeFittingBooks
made_fits x texts shelf bodies m is = any_fit x newest_format texts shelf bodies m (ap made_in (format_of_now texts shelf bodies) ∙ is)
