-- What an audited file makes: each record is lawful after others, and the book is sound.
use Rattle.std.proofs.Common.{◌≡◌, ◌==◌, ◌+◌, ℕ, Bool, true, false, List, [], ◌∷◌, ◌++◌, length, if◌then◌else◌, Option, Some, None, refl, sym, ap, subst, ◌∙◌, inl, inr, ⊎_elim, append_assoc, arith}
use Rattle.std.specs.Prelude.{nat_lt, ⊤}
use Rattle.std.proofs.lemmas.Bool.Decides.{nat_tests}
use Rattle.std.proofs.lemmas.List.{append-nil}
use Rattle.script_value.specs.Val.{list, no_vals}
use Rattle.script_value.specs.declared.outcome.TxName.{TxName}
use Rattle.script_nodes.specs.Setup.{Named}
use Rattle.replay_spec.specs.Book.{Instance, Change, opens, extends, ends, finishes, sweeps, Doubt, changed, renewed, File, Book, reopened}
use Rattle.replay_spec.specs.Rules.{first_file, empty_book}
use Rattle.replay_spec.specs.Change.{with_line, instances_by, land}
use Rattle.replay_spec.specs.Admission.{or_else, admit}
use Rattle.replay_spec.specs.Next.{Ticket}
use Rattle.replay_spec.specs.Step.{unless, down_by, decide, records}
use Rattle.replay_spec.specs.Recovery.{number_in, is_repeated, with_number, remade, of_length, taken_in, first_of}
use Rattle.replay_spec.specs.Invariant.{Among, AreDifferent, Unused, IsOrderly, AreSound, IsSoundChange, IsSoundDoubt, IsSound}
use Rattle.replay_spec.specs.Laws.{numbers_of}
use Rattle.replay_spec.specs.Remade.{NameTheirCells, IsRemade, IsOrderlyMade}
use Rattle.replay_spec.proofs.Stand.{sound_less, among_drawn, empty_sound}
use Rattle.replay_spec.proofs.Sound.{land_named}
use Rattle.replay_spec.proofs.Decided.{recorded_sound_of}
use Rattle.replay_spec.proofs.Filed.{remade_like}
use Rattle.replay_spec.proofs.Going.{Records}
use Rattle.replay_spec.proofs.Orderly.{different_more}
use Rattle.replay_spec.proofs.Again.{passes, recorded_remade, swept_remade}
use Rattle.replay_spec.proofs.Recovered.{Unseen, new_number, more_seen}
use Rattle.replay_spec.proofs.Compacted.{line_orderly, first_orderly}
use Rattle.machine_states.specs.Machine.{Suspended, inside_of}
use Rattle.journal_records.specs.Laws.{AreRecordsExact}
use Rattle.journal_records.specs.Records.{Record, begins, changes, renews, draws, follows, promotes}
use Rattle.journal_records.specs.Old.{read_record_in}
use Rattle.journal_spec.specs.Before.{nothing_told, Made, plain}
use Rattle.journal_spec.specs.Retaking.{Told, unread, misread, told, held, landing, retaken}
use Rattle.journal_spec.specs.Lengths.{state_by, told_own, own_told}
use Rattle.journal_spec.specs.Making.{Texts, Making, nothing, waited, waits, begun, made, damaged, other, has_script, beside, in_file, waiting, began, first_setup, first_by, start_by, fed_by, told_next, next_setup, promoted_by, with_drawn, made_in}
use Rattle.journal_spec.specs.Old.{told_at, change_next, next_at, second_at, with_body_at, with_bodies_at, book_of_format}
use Rattle.journal_spec.specs.Whole.{HasWholeScripts, HasOwnStates}
use Rattle.journal_spec.specs.Keeping.{IsTakenAs}
use Rattle.journal_spec.specs.Laws.{IsFitting}
use Rattle.journal_spec.proofs.Owned.{names_cells}
use Rattle.journal_spec.proofs.Telling.{IsQuiet, IsOwnMade, told_retaken, quiet_retaken}
use Rattle.journal_spec.proofs.Remaking.{Agrees, remade_agrees}
use Rattle.journal_spec.proofs.Files.{own_is_state}
use Rattle.journal_spec.proofs.Taking.{recorded_taken}
use Rattle.journal_spec.proofs.Retaken.{retaken_orderly}
use Rattle.journal_spec.proofs.Fitting.{any_fit}
use Rattle.audit_spec.specs.Tests.{tells_state}
use Rattle.audit_spec.specs.Findings.{fault_of, shelf_in}
use Rattle.audit_spec.specs.Meaning.{AreApart, ReadsSetups, IsTold, free_rules, unfed, IsPublished, IsDecided, IsLawfulRecord, OfEachIn, told_change, changes_in, AYesMeansPublished, AYesMakesSoundBooks}
use Rattle.audit_spec.proofs.Passing.{AllHold, all_hold, told_is, told_is_own}
use Rattle.audit_spec.proofs.Published.{decided_by}
use Rattle.audit_spec.proofs.Unfed.{orderly_unfed, whole_unfed, names_unfed, taken_unfed}
use Rattle.audit_spec.proofs.HonestFound.{IsClear}
use Rattle.audit_spec.proofs.Fronts.{front_makes}
use Rattle.audit_spec.proofs.Held.{IsHeld}
use Rattle.audit_spec.proofs.OwnImage.{is_yes, each_none}

-- ---- what was decided can be taken, and is sound

-- a change that was decided lands by what its record tells, and by its script, and is sound on a sound book
record IsFit (b : Book) (c : Change) (inside : List TxName) : Type 0 where
  taken : IsTakenAs b c inside (own_told b c)
  again : IsRemade b c inside
  sound : IsSound b → IsSoundChange b.scripts b.shelf b.instances c inside

published_fit : (b : Book) (c : Change) (inside : List TxName) → b.down ≡ None → IsOrderly b → HasWholeScripts b → NameTheirCells b → (p : IsPublished b c inside) → (t : Ticket)
    → t.target ≡ p.target → IsTold c t → IsFit b c inside
published_fit b c inside up orderly whole names p t at tells =
    let rules = free_rules p.life p.limit b in
    let d = p.decided t at tells in
    let q = unfed b in
    let decided : decide rules q t (admit q t.target) ≡ records d.0 c inside =
    sym (ap (λ (o : Option Doubt). unless (or_else (down_by o) None) (decide rules q t (admit q t.target))) up) ∙ d.1 in
    let r : Records ⊥ rules q t c inside = record { out = λ no. absurd no; up = up; unfed = refl; reply = d.0; decided = decided } in
    let again = recorded_remade rules q t c inside (omega arith) (orderly_unfed b orderly) (names_unfed b names) r in
    record {
      taken = taken_unfed b c inside (recorded_taken rules q t c inside (orderly_unfed b orderly) (whole_unfed b whole) r);
      again = (again.0, (remade_like b q c (record { shelf = refl; scripts = refl; clock = refl; instances = refl }) ∙ again.1.0, again.1.1));
      sound = λ g. recorded_sound_of rules q t c inside (record {
        orderly = orderly_unfed b g.orderly;
        instances = g.instances;
        doubt = g.doubt;
      }) r;
    }

decided_fit : (b : Book) (c : Change) (inside : List TxName) → b.down ≡ None → IsOrderly b → HasWholeScripts b → NameTheirCells b → IsDecided b c inside → IsFit b c inside
decided_fit b (opens o) inside up orderly whole names d =
    published_fit b (opens o) inside up orderly whole names d (record { target = d.target; answer = list no_vals; number = o.number; nonce = o.nonce }) refl (refl, refl)
decided_fit b (extends x) inside up orderly whole names d =
    published_fit b (extends x) inside up orderly whole names d (record { target = d.target; answer = x.answer; number = x.number; nonce = x.nonce }) refl (refl, refl, refl)
decided_fit b (ends e) inside up orderly whole names d =
    published_fit b (ends e) inside up orderly whole names d (record { target = d.target; answer = e.answer; number = e.number; nonce = 0 }) refl (refl, refl)
decided_fit b (finishes f) inside up orderly whole names d =
    published_fit b (finishes f) inside up orderly whole names d (record { target = d.target; answer = f.answer; number = f.number; nonce = 0 }) refl (refl, refl)
decided_fit b (sweeps tick) inside up orderly whole names d = record {
  taken = (passes (nat_lt b.clock tick) [] (grind (arith, nat_tests, d)), refl);
  again = swept_remade b tick d;
  sound = λ g. tt;
}

-- ---- what the record of such a change makes

-- records make this with one more, which lands as the change that was decided
record Carries (m : Made) (c : Change) (inside : List TxName) (size : ℕ) (y : Making) : Type 0 where
  names : List TxName
  says : Told
  own : says ≡ own_told m.book c
  holds : held m.book c names ≡ Some names
  is : y ≡ made (retaken size c (Some names) says m)
  same : instances_by m.book.scripts c names m.book.instances ≡ instances_by m.book.scripts c inside m.book.instances
  orderly : IsOrderlyMade (plain m) → IsOrderlyMade (plain (retaken size c (Some names) says m))

module _ (m : Made) (c : Change) (inside : List TxName) (fresh : is_repeated (number_in c) m.earlier.seen ≡ false) where
  landing_is : (names : List TxName) → held m.book c names ≡ Some names → landing m c names ≡ Some names
  landing_is names e = ap (λ (t : Bool). if t then None else held m.book c names) fresh ∙ e

  landed : (size : ℕ) (names : List TxName) (x : Told) → x ≡ own_told m.book c → held m.book c names ≡ Some names
      → instances_by m.book.scripts c names m.book.instances ≡ instances_by m.book.scripts c inside m.book.instances
      → Carries m c inside size (made (retaken size c (landing m c names) x m))
  landed size names x own e same =
      let lands = landing_is names e in
      record {
        names = names;
        says = x;
        own = own;
        holds = e;
        is = ap (λ (o : Option (List TxName)). made (retaken size c o x m)) lands;
        same = same;
        orderly = λ h. subst (λ (o : Option (List TxName)). IsOrderlyMade (plain (retaken size c o x m))) lands (retaken_orderly size c names x m h);
      }

  carries_told : (place size : ℕ) (x : Told) → x ≡ own_told m.book c → IsTakenAs m.book c inside x → Carries m c inside size (told_next place size m c x)
  carries_told place size unread own h = landed size [] unread own h.0 h.1
  carries_told place size misread own h = absurd h
  carries_told place size (told d) own h =
      landed size (inside_of d.frames) (told d) own (subst (λ (ns : List TxName). held m.book c ns ≡ Some ns) (sym h.1) h.0)
      (ap (λ (ns : List TxName). instances_by m.book.scripts c ns m.book.instances) h.1)

  carries_again : (size : ℕ) → (h : IsRemade m.book c inside) → held m.book c h.0 ≡ Some h.0 → Carries m c inside size (made (retaken size c (taken_in (plain m) c) (own_told m.book c) m))
  carries_again size h holds =
      let x = own_told m.book c in
      let takes : taken_in (plain m) c ≡ Some h.0 = ap (λ (t : Bool). if t then None else remade m.book c) fresh ∙ h.1.0 in
      record {
        names = h.0;
        says = x;
        own = refl;
        holds = holds;
        is = ap (λ (o : Option (List TxName)). made (retaken size c o x m)) takes;
        same = h.1.1;
        orderly = λ g. subst (λ (o : Option (List TxName)). IsOrderlyMade (plain (retaken size c o x m))) takes (line_orderly (changed c size) (plain m) g);
      }

  carries_by : (place size : ℕ) (x : Told) (one : Bool) → (if one then true else tells_state x (state_by m.book c)) ≡ true → IsTakenAs m.book c inside (own_told m.book c) → (h : IsRemade m.book c inside)
      → held m.book c h.0 ≡ Some h.0 → Carries m c inside size (if one then made (retaken size c (taken_in (plain m) c) (own_told m.book c) m) else told_next place size m c x)
  carries_by place size x true own taken again holds = carries_again size again holds
  carries_by place size x false own taken again holds =
      let is_own = told_is x (state_by m.book c) own in carries_told place size x is_own (subst (IsTakenAs m.book c inside) (sym is_own) taken)

-- after it stands the book that carried out what was decided
carried_book : (m : Made) (c : Change) (inside : List TxName) (size : ℕ) (y : Making) (k : Carries m c inside size y)
    → (retaken size c (Some k.names) k.says m).book ≡ reopened (land (of_length size) c inside m.book)
carried_book m c inside size y k = ap (λ (is : List Instance). reopened (record (land (of_length size) c inside m.book) { instances = is })) k.same

-- ---- the states of its pages

-- what is remade holds, and shows no page where nothing is told of one
agrees_holds : (b : Book) (c : Change) (names : List TxName) (x : Told) → Agrees b c names x → held b c names ≡ Some names
agrees_holds b c names unread h = subst (λ (ns : List TxName). held b c ns ≡ Some ns) (sym h.1) h.0
agrees_holds b c names misread h = absurd h
agrees_holds b c names (told d) h = h.0

agrees_quiet : (b : Book) (c : Change) (names : List TxName) (x : Told) → Agrees b c names x → x ≡ unread → IsQuiet c
agrees_quiet b c names unread h e = h.2
agrees_quiet b c names misread h e = absurd h
agrees_quiet b c names (told d) h e = absurd (let no : ⊥ = cc in no)

-- so does what is landed
quiet_kept : (size : ℕ) (m : Made) (c : Change) (names : List TxName) → IsOwnMade m → IsQuiet c
    → let r = retaken size c (landing m c names) unread m in HasOwnStates r.earlier r.book
quiet_kept size m (opens o) names h quiet = absurd quiet
quiet_kept size m (extends x) names h quiet = absurd quiet
quiet_kept size m (ends e) names h quiet = quiet_retaken size m (ends e) None names h refl
quiet_kept size m (finishes f) names h quiet = quiet_retaken size m (finishes f) None names h refl
quiet_kept size m (sweeps tick) names h quiet = quiet_retaken size m (sweeps tick) None names h refl

-- with the state that its script leaves a page has its own state
own_kept : (size : ℕ) (m : Made) (c : Change) (names : List TxName) (x : Told) → x ≡ own_told m.book c → (x ≡ unread → IsQuiet c) → IsOwnMade m
    → let r = retaken size c (landing m c names) x m in HasOwnStates r.earlier r.book
own_kept size m c names unread own quiet h = quiet_kept size m c names h (quiet refl)
own_kept size m c names misread own quiet h = absurd (own_is_told (state_by m.book c) (sym own))
  where
    own_is_told : (o : Option Suspended) → told_own o ≡ misread → ⊥
    own_is_told None e = let no : ⊥ = cc in no
    own_is_told (Some d) e = let no : ⊥ = cc in no
own_kept size m c names (told d) own quiet h = told_retaken size m c names d h (own_is_state m.book c d (sym own))

-- ---- numbers

-- the numbers that bodies tell
abbrev pub numbers : (format : ℕ) → List (List ℕ) → List ℕ
numbers format bodies = numbers_of (changes_in format bodies)

numbers_join : (cs ds : List Change) → numbers_of (cs ++ ds) ≡ numbers_of cs ++ numbers_of ds
numbers_join [] ds = refl
numbers_join (opens o ∷ cs) ds = ap (λ (ns : List ℕ). o.number ∷ ns) (numbers_join cs ds)
numbers_join (extends x ∷ cs) ds = ap (λ (ns : List ℕ). x.number ∷ ns) (numbers_join cs ds)
numbers_join (ends e ∷ cs) ds = ap (λ (ns : List ℕ). e.number ∷ ns) (numbers_join cs ds)
numbers_join (finishes f ∷ cs) ds = ap (λ (ns : List ℕ). f.number ∷ ns) (numbers_join cs ds)
numbers_join (sweeps tick ∷ cs) ds = numbers_join cs ds

changes_push : (format : ℕ) (front : List (List ℕ)) (body : List ℕ) → changes_in format (front ++ body ∷ []) ≡ changes_in format front ++ told_change (read_record_in format body)
changes_push format [] body = append-nil (told_change (read_record_in format body))
changes_push format (b ∷ front) body =
    ap (λ (cs : List Change). told_change (read_record_in format b) ++ cs) (changes_push format front body)
    ∙ sym (append_assoc (told_change (read_record_in format b)) (changes_in format front) (told_change (read_record_in format body)))

numbers_push : (format : ℕ) (front : List (List ℕ)) (body : List ℕ) (r : Option Record) → read_record_in format body ≡ r
    → numbers format (front ++ body ∷ []) ≡ numbers format front ++ numbers_of (told_change r)
numbers_push format front body r e =
    ap numbers_of (changes_push format front body)
    ∙ (numbers_join (changes_in format front) (told_change (read_record_in format body))
    ∙ ap (λ (x : Option Record). numbers format front ++ numbers_of (told_change x)) e)

-- these numbers are seen
abbrev pub AreSeen : List ℕ → (seen : List ℕ) → Type 0
AreSeen ns seen = (n : ℕ) → Among n ns → Among n seen

one_more_seen : (ns seen : List ℕ) (k : ℕ) → AreSeen ns seen → AreSeen (ns ++ k ∷ []) (k ∷ seen)
one_more_seen ns seen k h n there = ⊎_elim (λ old. inr (h n old)) (λ e. inl e) (among_drawn n k ns there)

none_more_seen : (ns seen : List ℕ) → AreSeen ns seen → AreSeen (ns ++ []) seen
none_more_seen ns seen h = subst (λ (ms : List ℕ). AreSeen ms seen) (sym (append-nil ns)) h

seen_more : (c : Change) (ns seen : List ℕ) → AreSeen ns seen → AreSeen (ns ++ numbers_of (c ∷ [])) (with_number (number_in c) seen)
seen_more (opens o) ns seen h = one_more_seen ns seen o.number h
seen_more (extends x) ns seen h = one_more_seen ns seen x.number h
seen_more (ends e) ns seen h = one_more_seen ns seen e.number h
seen_more (finishes f) ns seen h = one_more_seen ns seen f.number h
seen_more (sweeps tick) ns seen h = none_more_seen ns seen h

differ_more : (c : Change) (ns seen : List ℕ) → AreSeen ns seen → is_repeated (number_in c) seen ≡ false → AreDifferent ns → AreDifferent (ns ++ numbers_of (c ∷ []))
differ_more (opens o) ns seen h fresh d = different_more ns o.number d (λ there. new_number (opens o) seen fresh o.number refl (h o.number there))
differ_more (extends x) ns seen h fresh d = different_more ns x.number d (λ there. new_number (extends x) seen fresh x.number refl (h x.number there))
differ_more (ends e) ns seen h fresh d = different_more ns e.number d (λ there. new_number (ends e) seen fresh e.number refl (h e.number there))
differ_more (finishes f) ns seen h fresh d = different_more ns f.number d (λ there. new_number (finishes f) seen fresh f.number refl (h f.number there))
differ_more (sweeps tick) ns seen h fresh d = subst AreDifferent (sym (append-nil ns)) d

-- ---- what is kept, record by record

-- what records made of these bodies: sound instances with the states of their pages' chains, a setup in which no name stands twice, and
-- numbers that are seen and differ
pub record IsHeard (format : ℕ) (front : List (List ℕ)) (m : Made) : Type 0 where
  pub orderly : IsOrderlyMade (plain m)
  pub sound : AreSound (Unseen m.earlier.seen) m.book.shelf m.book.instances
  pub own : HasOwnStates m.earlier m.book
  pub apart : AreApart m.book.scripts
  pub told : AreSeen (numbers format front) m.earlier.seen
  pub different : AreDifferent (numbers format front)

-- what the record of the setup alone makes
pub record IsBegun (format : ℕ) (front : List (List ℕ)) (m : Made) : Type 0 where
  pub fed : Bool
  pub shelf : ℕ
  pub place : ℕ
  pub size : ℕ
  pub scripts : List Named
  pub is : m ≡ began fed shelf place size scripts
  pub apart : AreApart scripts
  pub quiet : numbers format front ≡ []

abbrev pub AreHeard : (format : ℕ) → (front : List (List ℕ)) → Making → Type 0
AreHeard format front nothing = numbers format front ≡ []
AreHeard format front (waits s) = numbers format front ≡ []
AreHeard format front waited = numbers format front ≡ []
AreHeard format front (begun m) = IsBegun format front m
AreHeard format front (made m) = IsHeard format front m
AreHeard format front (damaged p) = ⊤
AreHeard format front (other p) = ⊤

none_sound : (u : ℕ → Type 0) (shelf : ℕ) → AreSound u shelf []
none_sound u shelf =
    let rules = free_rules 0 0 (first_of shelf (first_file 0 [])).book in
    sound_less (Unused (empty_book rules [] shelf)) u shelf [] (λ n x. inr (inr (omega arith))) (empty_sound rules [] shelf).instances

none_told : (ns seen : List ℕ) → ns ≡ [] → AreSeen ns seen
none_told ns seen e = subst (λ (ms : List ℕ). AreSeen ms seen) (sym e) (λ n there. absurd there)

none_differ : (ns : List ℕ) → ns ≡ [] → AreDifferent ns
none_differ ns e = subst AreDifferent (sym e) tt

-- what a file of its first records makes, in whatever length and whether its shelf follows or not
first_heard : (format : ℕ) (front : List (List ℕ)) (fed : Bool) (shelf n : ℕ) (f : File) → AreApart f.scripts → numbers format front ≡ []
    → IsHeard format front (in_file fed n (beside nothing_told (first_of shelf f)))
first_heard format front fed shelf n f apart quiet =
    let g = first_orderly shelf f in
    record {
      orderly = record { instances = g.instances; counted = g.counted; again = refl };
      sound = none_sound (Unseen []) shelf;
      own = λ k n i p found shown. absurd (let no : ⊥ = cc in no);
      apart = apart;
      told = none_told (numbers format front) [] quiet;
      different = none_differ (numbers format front) quiet;
    }

begun_heard : (format : ℕ) (front : List (List ℕ)) (m : Made) → IsBegun format front m → IsHeard format front m
begun_heard format front m h =
    subst (IsHeard format front) (sym h.is) (first_heard format front h.fed h.shelf (h.place + 6 + h.size) (first_file (14 + h.size) h.scripts) h.apart h.quiet)

none_apart : AreApart []
none_apart k s at = absurd (let no : ⊥ = cc in no)

waiting_heard : (format : ℕ) (front : List (List ℕ)) (s : ℕ) → numbers format front ≡ [] → IsHeard format front (waiting s)
waiting_heard format front s quiet = first_heard format front true s 15 (first_file 0 []) none_apart quiet

pub made_heard : (format : ℕ) (front : List (List ℕ)) (y : Making) (m : Made) → made_in y ≡ Some m → AreHeard format front y → IsHeard format front m
made_heard format front nothing m is h = absurd (let no : ⊥ = cc in no)
made_heard format front waited m is h = absurd (let no : ⊥ = cc in no)
made_heard format front (waits s) m is h = let same : waiting s ≡ m = cc in subst (IsHeard format front) same (waiting_heard format front s h)
made_heard format front (begun k) m is h = let same : k ≡ m = cc in subst (IsHeard format front) same (begun_heard format front k h)
made_heard format front (made k) m is h = let same : k ≡ m = cc in subst (IsHeard format front) same h
made_heard format front (damaged p) m is h = absurd (let no : ⊥ = cc in no)
made_heard format front (other p) m is h = absurd (let no : ⊥ = cc in no)

-- a book is sound that records made so
sound_book : (format : ℕ) (texts : Texts) (shelf : ℕ) (front : List (List ℕ)) (m : Made) → IsFitting texts shelf front m → HasWholeScripts m.book → IsHeard format front m → IsSound m.book
sound_book format texts shelf front m fit whole h =
    let r = fit.recoverable whole in
    record {
      orderly = r.orderly;
      instances = sound_less (Unseen m.earlier.seen) (Unused m.book) m.book.shelf m.book.instances (λ n x there. r.used n there x) h.sound;
      doubt = subst (λ (o : Option Doubt). IsSoundDoubt m.book.scripts m.book.shelf m.book.instances o) (sym (ap (λ (b : Book). b.down) fit.again)) tt;
    }

pub book_names_cells : (b : Book) → HasWholeScripts b → NameTheirCells b
book_names_cells b whole = record { setup = λ k s at. names_cells s (whole.setup k s at); instances = λ k i at. names_cells i.script (whole.instances k i at) }

-- a change that has no word, on what records made
record HasPassed (format : ℕ) (m : Made) (c : Change) (state : Option (List ℕ)) : Type 0 where
  inside : List TxName
  decided : IsDecided m.book c inside
  sound : IsSoundChange m.book.scripts m.book.shelf m.book.instances c inside
  tests : AllHold format m c state
  quiet : own_told m.book c ≡ unread → IsQuiet c
  carries : (place size : ℕ) → Carries m c inside size (change_next format place size m c state)

module _ (x : AreRecordsExact) (format : ℕ) (texts : Texts) (setups : ReadsSetups texts) (shelf : ℕ) (all : List (List ℕ)) (none : OfEachIn (IsClear format) format texts shelf all) where
  fitting : (front : List (List ℕ)) (m : Made) → made_in (book_of_format format texts shelf front) ≡ Some m → IsFitting texts shelf front m
  fitting front m is = any_fit x format texts shelf front m is

  passed : (front : List (List ℕ)) (m : Made) (c : Change) (state : Option (List ℕ)) → made_in (book_of_format format texts shelf front) ≡ Some m → IsHeard format front m
      → fault_of format m (Some (changes c state)) ≡ None → HasPassed format m c state
  passed front m c state is h no_fault =
      let fit = fitting front m is in
      let whole = fit.whole setups.whole in
      let up = ap (λ (b : Book). b.down) fit.again in
      let tests = all_hold format m c state no_fault in
      let d = decided_by m.book c up whole h.apart tests.goes tests.admitted tests.runs tests.least tests.timely in
      let orderly = (fit.recoverable whole).orderly in
      let good = decided_fit m.book c d.0 up orderly whole (book_names_cells m.book whole) d.1 in
      let names = good.again.0 in
      let agrees = remade_agrees (Unused m.book) m.book c names whole orderly.instances good.again.1.0 in
      record {
        inside = d.0;
        decided = d.1;
        sound = good.sound (sound_book format texts shelf front m fit whole h);
        tests = tests;
        quiet = agrees_quiet m.book c names (own_told m.book c) agrees;
        carries = λ place size.
            carries_by m c d.0 tests.fresh place size (told_at format m.earlier m.book c state) (format == 1) tests.own good.taken good.again
            (agrees_holds m.book c names (own_told m.book c) agrees);
      }

  -- the record of a change
  heard_change : (front : List (List ℕ)) (body : List ℕ) (place : ℕ) (m : Made) (c : Change) (state : Option (List ℕ)) → read_record_in format body ≡ Some (changes c state)
      → IsHeard format front m → HasPassed format m c state → AreHeard format (front ++ body ∷ []) (change_next format place (length body) m c state)
  heard_change front body place m c state read h p =
      let k = p.carries place (length body) in
      let seen = m.earlier.seen in
      let b = m.book in
      let push = numbers_push format front body (Some (changes c state)) read in
      let sound = (land_named b.scripts (Unseen seen) (Unseen (with_number (number_in c) seen)) b.shelf b.instances c p.inside h.orderly.instances h.sound p.sound
      (new_number c seen p.tests.fresh) (more_seen c seen)).0 in
      subst (AreHeard format (front ++ body ∷ [])) (sym k.is) (record {
        orderly = k.orderly h.orderly;
        sound = subst (AreSound (Unseen (with_number (number_in c) seen)) b.shelf) (sym k.same) sound;
        own =
            subst (λ (o : Option (List TxName)). let r = retaken (length body) c o k.says m in HasOwnStates r.earlier r.book)
            (landing_is m c p.inside p.tests.fresh k.names k.holds)
            (own_kept (length body) m c k.names k.says k.own (λ e. p.quiet (sym k.own ∙ e)) (h.orderly, h.own));
        apart = h.apart;
        told = subst (λ (ns : List ℕ). AreSeen ns (with_number (number_in c) seen)) (sym push) (seen_more c (numbers format front) seen h.told);
        different = subst AreDifferent (sym push) (differ_more c (numbers format front) seen h.told p.tests.fresh h.different);
      })

  heard_next : (front : List (List ℕ)) (body : List ℕ) (place : ℕ) (m : Made) (r : Option Record) → read_record_in format body ≡ r → made_in (book_of_format format texts shelf front) ≡ Some m
      → fault_of format m r ≡ None → IsHeard format front m → AreHeard format (front ++ body ∷ []) (next_at format texts place (length body) m r)
  heard_next front body place m None read is no_fault h = tt
  heard_next front body place m (Some (begins s named)) read is no_fault h = tt
  heard_next front body place m (Some (draws number)) read is no_fault h = tt
  heard_next front body place m (Some follows) read is no_fault h = tt
  heard_next front body place m (Some promotes) read is no_fault h = by_fed m.book.follows
    where
      quiet : numbers format (front ++ body ∷ []) ≡ numbers format front
      quiet = numbers_push format front body (Some promotes) read ∙ append-nil (numbers format front)

      by_fed : (fed : Bool) → AreHeard format (front ++ body ∷ []) (promoted_by place (length body) m fed)
      by_fed false = tt
      by_fed true = record {
        orderly = record {
          instances = h.orderly.instances;
          counted = h.orderly.counted;
          again = λ i. record (h.orderly.again i) { length = m.book.length + (length body + 5); follows = false };
        };
        sound = h.sound;
        own = h.own;
        apart = h.apart;
        told = subst (λ (ns : List ℕ). AreSeen ns m.earlier.seen) (sym quiet) h.told;
        different = subst AreDifferent (sym quiet) h.different;
      }
  heard_next front body place m (Some (renews named)) read is no_fault h = by_setup (texts named) refl
    where
      quiet : numbers format (front ++ body ∷ []) ≡ numbers format front
      quiet = numbers_push format front body (Some (renews named)) read ∙ append-nil (numbers format front)

      by_setup : (o : Option (List Named)) → texts named ≡ o → AreHeard format (front ++ body ∷ []) (next_setup place (length body) m o)
      by_setup None e = tt
      by_setup (Some scripts) e = record {
        orderly = record {
          instances = h.orderly.instances;
          counted = h.orderly.counted;
          again = λ i. record (h.orderly.again i) { scripts = scripts; length = m.book.length + (length body + 5); file = with_line (renewed scripts (length body)) m.book.file };
        };
        sound = h.sound;
        own = h.own;
        apart = setups.apart named scripts e;
        told = subst (λ (ns : List ℕ). AreSeen ns m.earlier.seen) (sym quiet) h.told;
        different = subst AreDifferent (sym quiet) h.different;
      }
  heard_next front body place m (Some (changes c state)) read is no_fault h = by_script (has_script (length m.book.scripts) c)
    where
      by_script : (t : Bool) → AreHeard format (front ++ body ∷ []) (if t then change_next format place (length body) m c state else damaged place)
      by_script true = heard_change front body place m c state read h (passed front m c state is h no_fault)
      by_script false = tt

  heard_second : (front : List (List ℕ)) (body : List ℕ) (place : ℕ) (m : Made) (r : Option Record) → read_record_in format body ≡ r → made_in (book_of_format format texts shelf front) ≡ Some m
      → fault_of format m r ≡ None → IsBegun format front m → AreHeard format (front ++ body ∷ []) (second_at format texts place (length body) m r)
  heard_second front body place m None read is no_fault h = tt
  heard_second front body place m (Some (begins s named)) read is no_fault h = tt
  heard_second front body place m (Some follows) read is no_fault h = tt
  heard_second front body place m (Some promotes) read is no_fault h =
      heard_next front body place m (Some promotes) read is no_fault (begun_heard format front m h)
  heard_second front body place m (Some (renews named)) read is no_fault h =
      heard_next front body place m (Some (renews named)) read is no_fault (begun_heard format front m h)
  heard_second front body place m (Some (changes c state)) read is no_fault h =
      heard_next front body place m (Some (changes c state)) read is no_fault (begun_heard format front m h)
  heard_second front body place m (Some (draws number)) read is no_fault h =
      let quiet : numbers format (front ++ body ∷ []) ≡ [] = numbers_push format front body (Some (draws number)) read ∙ (append-nil (numbers format front) ∙ h.quiet) in
      subst (λ (k : Made). IsHeard format (front ++ body ∷ []) (with_drawn number k)) (sym h.is)
      (first_heard format (front ++ body ∷ []) h.fed h.shelf (h.place + 6 + h.size + 14) (record (first_file (14 + h.size) h.scripts) { drawn = Some number }) h.apart quiet)

  heard_first : (fed : Bool) (front : List (List ℕ)) (body : List ℕ) (place : ℕ) (r : Option Record) → read_record_in format body ≡ r → numbers format front ≡ []
      → AreHeard format (front ++ body ∷ []) (first_by texts fed shelf place (length body) r)
  heard_first fed front body place None read h = tt
  heard_first fed front body place (Some (changes c state)) read h = tt
  heard_first fed front body place (Some (renews named)) read h = tt
  heard_first fed front body place (Some (draws number)) read h = tt
  heard_first fed front body place (Some follows) read h = tt
  heard_first fed front body place (Some promotes) read h = tt
  heard_first fed front body place (Some (begins s named)) read h = by_setup (texts named) refl
    where
      quiet : numbers format (front ++ body ∷ []) ≡ []
      quiet = numbers_push format front body (Some (begins s named)) read ∙ (append-nil (numbers format front) ∙ h)

      by_test : (scripts : List Named) (t : Bool) → texts named ≡ Some scripts → AreHeard format (front ++ body ∷ []) (if t then begun (began fed shelf place (length body) scripts) else other place)
      by_test scripts true e = record { fed = fed; shelf = shelf; place = place; size = length body; scripts = scripts; is = refl; apart = setups.apart named scripts e; quiet = quiet }
      by_test scripts false e = tt

      by_setup : (o : Option (List Named)) → texts named ≡ o → AreHeard format (front ++ body ∷ []) (first_setup fed shelf place (length body) s o)
      by_setup None e = tt
      by_setup (Some scripts) e = by_test scripts (s == shelf) e

  -- the record of a role, which tells of no change
  quiet_role : (front : List (List ℕ)) (body : List ℕ) (r : Record) → read_record_in format body ≡ Some r → told_change (Some r) ≡ [] → numbers format front ≡ []
      → numbers format (front ++ body ∷ []) ≡ []
  quiet_role front body r read none_told h =
      numbers_push format front body (Some r) read
      ∙ (ap (λ (cs : List Change). numbers format front ++ numbers_of cs) none_told ∙ (append-nil (numbers format front) ∙ h))

  heard_start : (front : List (List ℕ)) (body : List ℕ) (place : ℕ) (r : Option Record) → read_record_in format body ≡ r → numbers format front ≡ []
      → AreHeard format (front ++ body ∷ []) (start_by texts shelf place (length body) r)
  heard_start front body place None read h = tt
  heard_start front body place (Some follows) read h = quiet_role front body follows read refl h
  heard_start front body place (Some promotes) read h = tt
  heard_start front body place (Some (changes c state)) read h = tt
  heard_start front body place (Some (renews named)) read h = tt
  heard_start front body place (Some (draws number)) read h = tt
  heard_start front body place (Some (begins s named)) read h = heard_first false front body place (Some (begins s named)) read h

  heard_fed : (front : List (List ℕ)) (body : List ℕ) (place : ℕ) (r : Option Record) → read_record_in format body ≡ r → numbers format front ≡ []
      → AreHeard format (front ++ body ∷ []) (fed_by texts shelf place (length body) r)
  heard_fed front body place None read h = tt
  heard_fed front body place (Some promotes) read h = quiet_role front body promotes read refl h
  heard_fed front body place (Some follows) read h = tt
  heard_fed front body place (Some (changes c state)) read h = tt
  heard_fed front body place (Some (renews named)) read h = tt
  heard_fed front body place (Some (draws number)) read h = tt
  heard_fed front body place (Some (begins s named)) read h = heard_first true front body place (Some (begins s named)) read h

  heard_body : (front rest : List (List ℕ)) (body : List ℕ) (place : ℕ) (y : Making) → all ≡ front ++ body ∷ rest → book_of_format format texts shelf front ≡ y → AreHeard format front y
      → AreHeard format (front ++ body ∷ []) (with_body_at format texts shelf place body y)
  heard_body front rest body place nothing is reach h = heard_start front body place (read_record_in format body) refl h
  heard_body front rest body place (waits s) is reach h = heard_fed front body place (read_record_in format body) refl h
  heard_body front rest body place waited is reach h = heard_first false front body place (read_record_in format body) refl h
  heard_body front rest body place (begun m) is reach h =
      heard_second front body place m (read_record_in format body) refl (ap made_in reach) (none front rest body m is (ap made_in reach)) h
  heard_body front rest body place (made m) is reach h =
      heard_next front body place m (read_record_in format body) refl (ap made_in reach) (none front rest body m is (ap made_in reach)) h
  heard_body front rest body place (damaged p) is reach h = tt
  heard_body front rest body place (other p) is reach h = tt

  heard_from : (done front rest : List (List ℕ)) (place : ℕ) (y : Making) → all ≡ done ++ (front ++ rest)
      → ((bs : List (List ℕ)) → with_bodies_at format texts shelf 8 (done ++ bs) nothing ≡ with_bodies_at format texts shelf place bs y) → AreHeard format done y
      → AreHeard format (done ++ front) (with_bodies_at format texts shelf place front y)
  heard_from done [] rest place y is reach h = subst (λ (d : List (List ℕ)). AreHeard format d y) (sym (append-nil done)) h
  heard_from done (body ∷ front) rest place y is reach h =
      let next = with_body_at format texts shelf place body y in
      let here = ap (λ (bs : List (List ℕ)). with_bodies_at format texts shelf 8 bs nothing) (sym (append-nil done)) ∙ reach [] in
      subst (λ (d : List (List ℕ)). AreHeard format d (with_bodies_at format texts shelf (place + 5 + length body) front next)) (append_assoc done (body ∷ []) front)
      (heard_from (done ++ body ∷ []) front rest (place + 5 + length body) next (is ∙ sym (append_assoc done (body ∷ []) (front ++ rest)))
      (λ bs. ap (λ (cs : List (List ℕ)). with_bodies_at format texts shelf 8 cs nothing) (append_assoc done (body ∷ []) bs) ∙ reach (body ∷ bs))
      (heard_body done (front ++ rest) body place y is here h))

  -- what any first bodies of the file make
  heard_at : (front rest : List (List ℕ)) → all ≡ front ++ rest → AreHeard format front (book_of_format format texts shelf front)
  heard_at front rest is = heard_from [] front rest 8 nothing is (λ bs. refl) refl

  heard_all : AreHeard format all (book_of_format format texts shelf all)
  heard_all = heard_at all [] (sym (append-nil all))

  lawful_by : (front : List (List ℕ)) (m : Made) (r : Option Record) → made_in (book_of_format format texts shelf front) ≡ Some m → IsHeard format front m → fault_of format m r ≡ None
      → IsLawfulRecord format m r
  lawful_by front m None is h no_fault = tt
  lawful_by front m (Some (begins s named)) is h no_fault = tt
  lawful_by front m (Some (renews named)) is h no_fault = tt
  lawful_by front m (Some (draws number)) is h no_fault = tt
  lawful_by front m (Some follows) is h no_fault = tt
  lawful_by front m (Some promotes) is h no_fault = tt
  lawful_by front m (Some (changes c state)) is h no_fault =
      let p = passed front m c state is h no_fault in
      record {
        inside = p.inside;
        decided = p.decided;
        carried = λ place size.
            let k = p.carries place size in
            (retaken size c (Some k.names) k.says m, (k.is, carried_book m c p.inside size (change_next format place size m c state) k));
        own = told_is_own format m c state p.tests.own;
      }

  lawful_each : OfEachIn (IsLawfulRecord format) format texts shelf all
  lawful_each front rest body m is made_so =
      lawful_by front m (read_record_in format body) made_so
      (made_heard format front (book_of_format format texts shelf front) m made_so (heard_at front (body ∷ rest) is)) (none front rest body m is made_so)

  differ_by : (y : Making) → IsHeld y → AreHeard format all y → AreDifferent (numbers format all)
  differ_by nothing held h = none_differ (numbers format all) h
  differ_by (waits s) held h = none_differ (numbers format all) h
  differ_by waited held h = none_differ (numbers format all) h
  differ_by (begun m) held h = none_differ (numbers format all) h.quiet
  differ_by (made m) held h = h.different
  differ_by (damaged p) held h = absurd held
  differ_by (other p) held h = absurd held

  sound_all : (m : Made) → made_in (book_of_format format texts shelf all) ≡ Some m → IsSound m.book × HasOwnStates m.earlier m.book
  sound_all m is =
      let fit = fitting all m is in
      let h = made_heard format all (book_of_format format texts shelf all) m is heard_all in
      (sound_book format texts shelf all m fit (fit.whole setups.whole) h, h.own)

pub yes_means : AreRecordsExact → AYesMeansPublished
yes_means x format texts bodies n setups h =
    let shelf = shelf_in format bodies in
    let none = each_none format texts bodies n h in
    let answer = is_yes format texts bodies n h in (
      record {
        makes = front_makes format texts shelf bodies answer.held;
        each = lawful_each x format texts setups shelf bodies none;
        different = differ_by x format texts setups shelf bodies none (book_of_format format texts shelf bodies) answer.held (heard_all x format texts setups shelf bodies none);
      },
      answer.counts,
    )

pub sound_books : AreRecordsExact → AYesMakesSoundBooks
sound_books x format texts bodies n m setups h is = sound_all x format texts setups (shelf_in format bodies) bodies (each_none format texts bodies n h) m is
