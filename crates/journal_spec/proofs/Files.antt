-- The bodies of a file make what the file makes.
use Rattle.std.proofs.Common.{◌≡◌, ℕ, ◌+◌, ◌==◌, List, [], ◌∷◌, ◌++◌, map, length, Option, Some, None, Bool, true, false, refl, sym, ap, subst, ◌∙◌, if◌then◌else◌, arith}
use Rattle.std.proofs.lemmas.Bool.Decides.{nat_tests}
use Rattle.script_value.specs.declared.outcome.TxName.{TxName}
use Rattle.script_nodes.specs.Setup.{Named}
use Rattle.replay_spec.specs.Book.{Change, Line, changed, renewed, File, Book, reopened}
use Rattle.replay_spec.specs.Rules.{first_file}
use Rattle.replay_spec.specs.Change.{land}
use Rattle.replay_spec.specs.Recovery as recovery
use Rattle.replay_spec.specs.Recovery.{number_in, with_number, taken_in, redo, of_length, resettled, lines_after, first_of, made_of_file}
use Rattle.replay_spec.specs.Remade.{AreTaken, IsOrderlyMade}
use Rattle.replay_spec.proofs.Filed.{taken_redo, taken_parts}
use Rattle.replay_spec.proofs.Compacted.{line_orderly, first_orderly}
use Rattle.machine_states.specs.Machine.{Suspended, inside_of}
use Rattle.journal_records.specs.Records.{Record, begins, changes, renews, draws, body_of, begin_of, renewal_of, texts_of, begun_length}
use Rattle.journal_records.specs.Reading.{read_record}
use Rattle.journal_records.proofs.Exact.{record_back}
use Rattle.journal_spec.specs.Before.{States, Earlier, Made, plain}
use Rattle.journal_spec.specs.Retaking.{Told, unread, misread, told, told_in, held, landing, retaken}
use Rattle.journal_spec.specs.Lengths.{state_by, state_told, told_own, own_told, own_body}
use Rattle.journal_spec.specs.Making.{Texts, Making, begun, made, damaged, other, has_script, began, first_setup, start_by, told_next, next_setup, next_by, second_by, with_bodies, book_of}
use Rattle.journal_spec.specs.Bodies.{with_spelled, drawn_bodies, bodies_of}
use Rattle.journal_spec.specs.Whole.{AreWhole, HasWholeScripts, CanBeWritten, HasOwnStates}
use Rattle.journal_spec.specs.Files.{AreWritten, IsDrawn, IsWritten, IsMade, FilesAreMade}
use Rattle.journal_spec.proofs.Fitting.{whole_by}
use Rattle.journal_spec.proofs.Owned.{own_is_read}
use Rattle.journal_spec.proofs.Retaken.{held_script}
use Rattle.journal_spec.proofs.Telling.{own_before_is, told_retaken, quiet_retaken}
use Rattle.journal_spec.proofs.Remaking.{Agrees, remade_agrees}

pub whole_redo : (c : Change) (n : ℕ) (m : recovery.Made) (inside : List TxName) → taken_in m c ≡ Some inside → IsOrderlyMade m → HasWholeScripts m.book → HasWholeScripts (redo (of_length n) c m).book
whole_redo c n m inside e g h =
    subst (λ (x : recovery.Made). HasWholeScripts x.book) (sym (taken_redo (of_length n) c m inside e))
    (record { setup = h.setup; instances = whole_by m.book.scripts m.book.instances c inside g.instances.apart h.setup h.instances })

-- ---- one record more

pub own_is_state : (b : Book) (c : Change) (d : Suspended) → own_told b c ≡ told d → state_by b c ≡ Some d
own_is_state b c d e = by_state (state_by b c) e
  where
    by_state : (o : Option Suspended) → told_own o ≡ told d → o ≡ Some d
    by_state None f = absurd (let no : ⊥ = cc in no)
    by_state (Some x) f = let same : x ≡ d = cc in ap (λ (y : Suspended). Some y) same

script_there : (b : Book) (c : Change) (inside : List TxName) (x : Told) → Agrees b c inside x → has_script (length b.scripts) c ≡ true
script_there b c inside unread h = held_script b c [] [] h.0
script_there b c inside misread h = absurd h
script_there b c inside (told d) h = held_script b c inside inside h.0

-- what was made, with the states that were told
abbrev with_states : States → recovery.Made → Made
with_states ss m = record { book = m.book; earlier = record { seen = m.seen; states = ss } }

-- what goes on from there, with own states
abbrev GoesOn : Making → recovery.Made → Type 0
GoesOn x k = (ss : States) × ((x ≡ made (with_states ss k)) × HasOwnStates (record { seen = k.seen; states = ss }) k.book)

told_goes : (place : ℕ) (c : Change) (state : Option (List ℕ)) (m : recovery.Made) (ss : States) (n : ℕ) (inside : List TxName) (x : Told) → taken_in m c ≡ Some inside → IsOrderlyMade m
    → HasOwnStates (record { seen = m.seen; states = ss }) m.book → own_told m.book c ≡ x → told_in (record { seen = m.seen; states = ss }) m.book c state ≡ x → Agrees m.book c inside x
    → GoesOn (told_next place n (with_states ss m) c x) (redo (of_length n) c m)
told_goes place c state m ss n inside unread e g own is at agrees =
    let k = with_states ss m in
    let parts = taken_parts m c inside e in
    let lands : landing k c [] ≡ Some [] = ap (λ (b : Bool). if b then None else held m.book c []) parts.0 ∙ agrees.0 in
    let r = retaken n c (Some []) unread k in
    let next : redo (of_length n) c m ≡ plain r =
    taken_redo (of_length n) c m inside e ∙ ap (λ (ns : List TxName). record { book = reopened (land (of_length n) c ns m.book); seen = with_number (number_in c) m.seen }) agrees.1 in
    let states : HasOwnStates r.earlier r.book =
    subst (λ (o : Option (List TxName)). let q = retaken n c o unread k in HasOwnStates q.earlier q.book) lands (quiet_retaken n k c state [] (g, own) at) in
    subst (λ (y : recovery.Made). GoesOn (told_next place n k c unread) y) (sym next)
    (r.earlier.states, (ap (λ (o : Option (List TxName)). made (retaken n c o unread k)) lands, states))
told_goes place c state m ss n inside misread e g own is at agrees = absurd agrees
told_goes place c state m ss n inside (told d) e g own is at agrees =
    let k = with_states ss m in
    let parts = taken_parts m c inside e in
    let names = inside_of d.frames in
    let lands : landing k c names ≡ Some names =
    ap (λ (b : Bool). if b then None else held m.book c names) parts.0
    ∙ subst (λ (ns : List TxName). held m.book c ns ≡ Some ns) (sym agrees.1) agrees.0 in
    let r = retaken n c (Some names) (told d) k in
    let next : redo (of_length n) c m ≡ plain r =
    taken_redo (of_length n) c m inside e ∙ ap (λ (ns : List TxName). record { book = reopened (land (of_length n) c ns m.book); seen = with_number (number_in c) m.seen }) (sym agrees.1) in
    let state_is = own_is_state m.book c d is in
    let states : HasOwnStates r.earlier r.book =
    subst (λ (o : Option (List TxName)). let q = retaken n c o (told d) k in HasOwnStates q.earlier q.book) lands (told_retaken n k c names d (g, own) state_is) in
    subst (λ (y : recovery.Made). GoesOn (told_next place n k c (told d)) y) (sym next)
    (r.earlier.states, (ap (λ (o : Option (List TxName)). made (retaken n c o (told d) k)) lands, states))

-- the record of a change that is taken
next_goes : (texts : Texts) (place : ℕ) (c : Change) (m : recovery.Made) (ss : States) (n : ℕ) (inside : List TxName) → taken_in m c ≡ Some inside → IsOrderlyMade m → HasWholeScripts m.book
    → HasOwnStates (record { seen = m.seen; states = ss }) m.book → CanBeWritten m.book c
    → GoesOn (next_by texts place n (with_states ss m) (Some (changes c (state_told m.book c)))) (redo (of_length n) c m)
next_goes texts place c m ss n inside e g whole own can =
    let k = with_states ss m in
    let earlier : Earlier = record { seen = m.seen; states = ss } in
    let agrees = remade_agrees _ m.book c inside whole g.instances (taken_parts m c inside e).1 in
    let at = own_is_read earlier m.book c (own_before_is earlier m.book c own) whole can in
    let has : has_script (length m.book.scripts) c ≡ true = script_there m.book c inside (own_told m.book c) agrees in
    let goes = told_goes place c (state_told m.book c) m ss n inside (own_told m.book c) e g own refl at agrees in
    subst (λ (x : Making). GoesOn x (redo (of_length n) c m))
    (sym (ap (λ (b : Bool). if b then told_next place n k c (told_in earlier m.book c (state_told m.book c)) else damaged place) has
    ∙ ap (λ (x : Told). told_next place n k c x) at)) goes

-- ---- all records

all_made : (texts : Texts) (shelf place : ℕ) (ls : List Line) (m : recovery.Made) (ss : States) → AreTaken ls m → AreWritten texts ls m → IsOrderlyMade m → HasWholeScripts m.book
    → HasOwnStates (record { seen = m.seen; states = ss }) m.book
    → IsMade (with_bodies texts shelf place (map (λ (x : Line × List ℕ). x.1) (with_spelled ls m)) (made (with_states ss m))) (lines_after ls m)
all_made texts shelf place [] m ss taken written g whole own = (refl, own)
all_made texts shelf place (changed c n ∷ ls) m ss ((inside, e), taken) written g whole own =
    let body = own_body m.book c in
    let read : read_record body ≡ Some (changes c (state_told m.book c)) = record_back (changes c (state_told m.book c)) written.0.body in
    let one = next_goes texts place c m ss n inside e g whole own written.0 in
    let same : next_by texts place (length body) (with_states ss m) (read_record body) ≡ made (with_states one.0 (redo (of_length n) c m)) =
    ap (λ (r : Option Record). next_by texts place (length body) (with_states ss m) r) read
    ∙ (ap (λ (i : ℕ). next_by texts place i (with_states ss m) (Some (changes c (state_told m.book c)))) (sym written.1) ∙ one.1.0) in
    let rest = all_made texts shelf (place + 5 + length body) ls (redo (of_length n) c m) one.0 taken written.2 (line_orderly (changed c n) m g) (whole_redo c n m inside e g whole) one.1.1 in
    subst (λ (x : Making). IsMade (with_bodies texts shelf (place + 5 + length body) (map (λ (y : Line × List ℕ). y.1) (with_spelled ls (redo (of_length n) c m))) x) (lines_after ls (redo (of_length n) c m)))
    (sym same) rest
all_made texts shelf place (renewed scripts n ∷ ls) m ss taken written g whole own =
    let body = body_of (renewal_of scripts) in
    let read : read_record body ≡ Some (renews (texts_of scripts)) = record_back (renewal_of scripts) written.0 in
    let next = resettled n scripts m in
    let same : next_by texts place (length body) (with_states ss m) (read_record body) ≡ made (with_states ss next) =
    ap (λ (r : Option Record). next_by texts place (length body) (with_states ss m) r) read
    ∙ (ap (λ (o : Option (List Named)). next_setup place (length body) (with_states ss m) o) written.2
    ∙ ap (λ (i : ℕ). made (with_states ss (resettled i scripts m))) (sym written.1)) in
    let rest = all_made texts shelf (place + 5 + length body) ls next ss taken.1 written.4 (line_orderly (renewed scripts n) m g) (record { setup = written.3; instances = whole.instances }) own in
    subst (λ (x : Making). IsMade (with_bodies texts shelf (place + 5 + length body) (map (λ (y : Line × List ℕ). y.1) (with_spelled ls next)) x) (lines_after ls next))
    (sym same) rest

-- after the first record alone
begun_made : (texts : Texts) (shelf place : ℕ) (ls : List Line) (m : recovery.Made) (ss : States) → AreTaken ls m → AreWritten texts ls m → IsOrderlyMade m → HasWholeScripts m.book
    → HasOwnStates (record { seen = m.seen; states = ss }) m.book
    → IsMade (with_bodies texts shelf place (map (λ (x : Line × List ℕ). x.1) (with_spelled ls m)) (begun (with_states ss m))) (lines_after ls m)
begun_made texts shelf place [] m ss taken written g whole own = (refl, own)
begun_made texts shelf place (changed c n ∷ ls) m ss taken written g whole own =
    let body = own_body m.book c in
    let k = with_states ss m in
    let read : read_record body ≡ Some (changes c (state_told m.book c)) = record_back (changes c (state_told m.book c)) written.0.body in
    let same : second_by texts place (length body) k (read_record body) ≡ next_by texts place (length body) k (read_record body) =
    ap (λ (r : Option Record). second_by texts place (length body) k r) read ∙ sym (ap (λ (r : Option Record). next_by texts place (length body) k r) read) in
    subst (λ (x : Making). IsMade (with_bodies texts shelf (place + 5 + length body) (map (λ (y : Line × List ℕ). y.1) (with_spelled ls (redo (of_length n) c m))) x) (lines_after ls (redo (of_length n) c m)))
    (sym same) (all_made texts shelf place (changed c n ∷ ls) m ss taken written g whole own)
begun_made texts shelf place (renewed scripts n ∷ ls) m ss taken written g whole own =
    let body = body_of (renewal_of scripts) in
    let k = with_states ss m in
    let read : read_record body ≡ Some (renews (texts_of scripts)) = record_back (renewal_of scripts) written.0 in
    let same : second_by texts place (length body) k (read_record body) ≡ next_by texts place (length body) k (read_record body) =
    ap (λ (r : Option Record). second_by texts place (length body) k r) read ∙ sym (ap (λ (r : Option Record). next_by texts place (length body) k r) read) in
    subst (λ (x : Making). IsMade (with_bodies texts shelf (place + 5 + length body) (map (λ (y : Line × List ℕ). y.1) (with_spelled ls (resettled n scripts m))) x) (lines_after ls (resettled n scripts m)))
    (sym same) (all_made texts shelf place (renewed scripts n ∷ ls) m ss taken written g whole own)

-- a file whose head is as long as its first record makes it
abbrev headed : ℕ → File → File
headed n f = record f { head = n }

no_instances : (shelf : ℕ) (f : File) (e : Earlier) → HasOwnStates e (first_of shelf f).book
no_instances shelf f e k n i p found shown = absurd (let no : ⊥ = cc in no)

by_drawn : (texts : Texts) (shelf place head : ℕ) (scripts : List Named) (o : Option ℕ) (ls : List Line) → IsDrawn o → AreWhole scripts
    → let f : File = record { scripts = scripts; head = head; drawn = o; lines = ls } in
    AreTaken ls (first_of shelf f) → AreWritten texts ls (first_of shelf f)
    → IsMade (with_bodies texts shelf place (drawn_bodies o ++ map (λ (x : Line × List ℕ). x.1) (with_spelled ls (first_of shelf f))) (begun (with_states [] (first_of shelf (first_file head scripts)))))
    (lines_after ls (first_of shelf f))
by_drawn texts shelf place head scripts None ls drawn whole taken written =
    let f : File = first_file head scripts in
    begun_made texts shelf place ls (first_of shelf f) [] taken written (first_orderly shelf f) (record { setup = whole; instances = λ k i found. absurd (let no : ⊥ = cc in no) })
    (no_instances shelf f (record { seen = []; states = [] }))
by_drawn texts shelf place head scripts (Some n) ls drawn whole taken written =
    let f : File = record { scripts = scripts; head = head; drawn = Some n; lines = ls } in
    let body = body_of (draws n) in
    let m = first_of shelf f in
    let k = with_states [] (first_of shelf (first_file head scripts)) in
    let read : read_record body ≡ Some (draws n) = record_back (draws n) drawn in
    let long : (head + 0) + 14 ≡ head + 14 = omega arith in
    let same : second_by texts place (length body) k (read_record body) ≡ made (with_states [] m) =
    ap (λ (r : Option Record). second_by texts place (length body) k r) read ∙ ap (λ (size : ℕ). made (with_states [] (record m { book = record m.book { length = size } }))) long in
    let rest = all_made texts shelf (place + 5 + length body) ls m [] taken written (first_orderly shelf f) (record { setup = whole; instances = λ k i found. absurd (let no : ⊥ = cc in no) })
    (no_instances shelf f (record { seen = []; states = [] })) in
    subst (λ (x : Making). IsMade (with_bodies texts shelf (place + 5 + length body) (map (λ (y : Line × List ℕ). y.1) (with_spelled ls m)) x) (lines_after ls m)) (sym same) rest

with_head : (texts : Texts) (shelf : ℕ) (f : File) → f.head ≡ begun_length shelf f.scripts → AreTaken f.lines (first_of shelf f) → IsWritten texts shelf f
    → let g = headed (begun_length shelf f.scripts) f in AreTaken g.lines (first_of shelf g) × (IsWritten texts shelf g × ((IsMade (book_of texts shelf (bodies_of shelf g)) (made_of_file shelf g)) → IsMade (book_of texts shelf (bodies_of shelf f)) (made_of_file shelf f)))
with_head texts shelf f e taken written =
    let g = headed (begun_length shelf f.scripts) f in
    let same : f ≡ g = ap (λ (n : ℕ). headed n f) e in (
      subst (λ (x : File). AreTaken x.lines (first_of shelf x)) same taken,
      (
        subst (IsWritten texts shelf) same written,
        λ h. subst (λ (x : File). IsMade (book_of texts shelf (bodies_of shelf x)) (made_of_file shelf x)) (sym same) h,
      ),
    )

pub files_made : FilesAreMade
files_made texts shelf f taken written =
    let w = with_head texts shelf f written.head taken written in
    w.1.1 (by_first w.0 w.1.0)
  where
    g : File
    g = headed (begun_length shelf f.scripts) f

    by_first : AreTaken g.lines (first_of shelf g) → IsWritten texts shelf g → IsMade (book_of texts shelf (bodies_of shelf g)) (made_of_file shelf g)
    by_first taken written =
        let body = body_of (begin_of shelf f.scripts) in
        let n = length body in
        let read : read_record body ≡ Some (begins shelf (texts_of f.scripts)) = record_back (begin_of shelf f.scripts) written.begins in
        let same_shelf : (shelf == shelf) ≡ true = grind (arith, nat_tests) in
        let m = first_of shelf (first_file (begun_length shelf f.scripts) f.scripts) in
        let long : 14 + n ≡ (14 + n) + 0 = omega arith in
        let start : start_by texts shelf 8 n (read_record body) ≡ begun (with_states [] m) =
        ap (λ (r : Option Record). start_by texts shelf 8 n r) read
        ∙ (ap (λ (o : Option (List Named)). first_setup false shelf 8 n shelf o) written.read
        ∙ (ap (λ (b : Bool). if b then begun (began false shelf 8 n f.scripts) else other 8) same_shelf
        ∙ ap (λ (size : ℕ). begun (with_states [] (record m { book = record m.book { length = size } }))) long)) in
        let rest = by_drawn texts shelf (8 + 5 + n) (begun_length shelf f.scripts) f.scripts f.drawn f.lines written.drawn written.whole taken written.lines in
        subst (λ (x : Making). IsMade (with_bodies texts shelf (8 + 5 + n) (drawn_bodies f.drawn ++ map (λ (y : Line × List ℕ). y.1) (with_spelled f.lines (first_of shelf g))) x) (lines_after f.lines (first_of shelf g)))
        (sym start) rest
