-- The bodies of a file whose records pass the tests of their books have no word.
use Rattle.std.proofs.Common.{◌≡◌, ℕ, ◌+◌, List, [], ◌∷◌, ◌++◌, map, length, Option, Some, None, Bool, true, false, refl, sym, ap, subst, ◌∙◌, append-nil, append_assoc, if◌then◌else◌}
use Rattle.std.specs.Prelude.{⊤, not}
use Rattle.replay_spec.specs.Book.{Change, Line, changed, renewed, File}
use Rattle.replay_spec.specs.Recovery as recovery
use Rattle.replay_spec.specs.Recovery.{number_in, is_repeated, then_line, lines_after, first_of}
use Rattle.replay_spec.specs.Remade.{IsTakenLine, AreTaken, IsOrderlyMade}
use Rattle.replay_spec.proofs.Filed.{taken_parts}
use Rattle.replay_spec.proofs.Filing.{after_more, taken_more}
use Rattle.replay_spec.proofs.Compacted.{line_orderly, first_orderly}
use Rattle.machine_states.specs.Machine.{Suspended}
use Rattle.journal_records.specs.Records.{changes, draws, body_of, begin_of, renewal_of}
use Rattle.journal_records.specs.Old.{read_record_in}
use Rattle.journal_records.proofs.Exact.{record_back}
use Rattle.journal_records.proofs.Older.{newest}
use Rattle.journal_spec.specs.Before.{Made, plain}
use Rattle.journal_spec.specs.Lengths.{state_by, state_told, told_own, own_body}
use Rattle.journal_spec.specs.Making.{Texts, Making, nothing, waits, waited, begun, made, damaged, other, made_in, book_of}
use Rattle.journal_spec.specs.Bodies.{spelled, with_spelled, drawn_bodies, bodies_of}
use Rattle.journal_spec.specs.Old.{with_body_at, with_bodies_at, book_of_format, format_of_now}
use Rattle.journal_spec.specs.Retaking.{Told}
use Rattle.journal_spec.specs.Whole.{HasWholeScripts, CanBeWritten, HasOwnStates}
use Rattle.journal_spec.specs.Files.{AreWritten, IsDrawn, IsWritten, IsMade}
use Rattle.journal_spec.proofs.Events.{grow, written_more}
use Rattle.journal_spec.proofs.Files.{whole_redo, files_made}
use Rattle.journal_spec.proofs.OwnStates.{HoldsAt}
use Rattle.journal_spec.proofs.Owned.{own_is_read}
use Rattle.journal_spec.proofs.Telling.{own_before_is}
use Rattle.journal_spec.proofs.Writing.{OneWritten}
use Rattle.audit_spec.specs.declared.word.Word.TheVariants as word
use Rattle.audit_spec.specs.Tests.{goes_on, is_admitted, runs_so, least_go, is_in_time, tells_state, tells_own}
use Rattle.audit_spec.specs.Findings.{fault_in, fault_of}
use Rattle.audit_spec.specs.Honest.{FindsNothing}
use Rattle.audit_spec.proofs.SameStates.{state_decides}
use Rattle.audit_spec.proofs.HonestTests.{IsFair}
use Rattle.audit_spec.proofs.HonestLines.{IsFairLine, AreFair}
use Rattle.audit_spec.proofs.HonestFound.{IsClear, AreClear, finds_nothing}

-- ---- one change

-- the word of the first of these tests that fails
first_word : (a b c d e f g : Bool) → a ≡ true → b ≡ false → c ≡ true → d ≡ true → e ≡ true → f ≡ true → g ≡ true
    → (if not a then Some word.Sweep
    else (if b then Some word.Number
    else (if not c then Some word.Target
    else (if not d then Some word.Run
    else (if not e then Some word.Evicted
    else (if not f then Some word.Deadline
    else (if not g then Some word.State else None)))))))
    ≡ None
first_word a b c d e f g ga gb gc gd ge gf gg = rw (ga, gb, gc, gd, ge, gf, gg) refl

-- a change has no word that passes, with a number that is new and a state that is its own
pub no_fault : (format : ℕ) (m : Made) (c : Change) (state : Option (List ℕ)) → IsFair m.book c → is_repeated (number_in c) m.earlier.seen ≡ false → tells_own format m c state ≡ true
    → fault_in format m c state ≡ None
no_fault format m c state fair new own =
    let goes : goes_on m.book c ≡ true = cc in
    let admitted : is_admitted m.book c ≡ true = cc in
    let runs : runs_so m.book c ≡ true = cc in
    let least : least_go m.book c ≡ true = cc in
    let timely : is_in_time m.book c ≡ true = cc in
    first_word (goes_on m.book c) (is_repeated (number_in c) m.earlier.seen) (is_admitted m.book c) (runs_so m.book c) (least_go m.book c) (is_in_time m.book c) (tells_own format m c state)
    goes new admitted runs least timely own

-- the state that a script leaves is told so
pub tells_itself : (o : Option Suspended) → tells_state (told_own o) o ≡ true
tells_itself None = refl
tells_itself (Some d) = (state_decides d d).1 refl

-- what is known of a change before it is written
pub record IsReady (m : recovery.Made) (c : Change) : Type 0 where
  pub fair : IsFair m.book c
  pub new : is_repeated (number_in c) m.seen ≡ false
  pub whole : HasWholeScripts m.book
  pub can : CanBeWritten m.book c

change_clear : (m : Made) (c : Change) → IsReady (plain m) c → HasOwnStates m.earlier m.book → fault_in 6 m c (state_told m.book c) ≡ None
change_clear m c h own =
    no_fault 6 m c (state_told m.book c) h.fair h.new
    (ap (λ (x : Told). tells_state x (state_by m.book c)) (own_is_read m.earlier m.book c (own_before_is m.earlier m.book c own) h.whole h.can) ∙ tells_itself (state_by m.book c))

pub own_clear : (m : Made) (c : Change) → IsReady (plain m) c → HasOwnStates m.earlier m.book → IsClear 6 m (read_record_in 6 (own_body m.book c))
own_clear m c h own =
    ap (fault_of 6 m) (newest (own_body m.book c) ∙ record_back (changes c (state_told m.book c)) h.can.body) ∙ change_clear m c h own

-- ---- one line

-- what is known of a line before it is written
abbrev IsReadyLine : recovery.Made → Line → Type 0
IsReadyLine end (changed c n) = IsReady end c
IsReadyLine end (renewed scripts n) = ⊤

ready : (texts : Texts) (end : recovery.Made) (l : Line) → IsTakenLine end l → IsFairLine end l → HasWholeScripts end.book → OneWritten texts l end → IsReadyLine end l
ready texts end (changed c n) (inside, e) fair whole one = record { fair = fair; new = (taken_parts end c inside e).0; whole = whole; can = one.0 }
ready texts end (renewed scripts n) taken fair whole one = tt

line_clear : (texts : Texts) (m : Made) (l : Line) → IsReadyLine (plain m) l → HasOwnStates m.earlier m.book → OneWritten texts l (plain m) → IsClear 6 m (read_record_in 6 (spelled m.book l))
line_clear texts m (changed c n) h own one = own_clear m c h own
line_clear texts m (renewed scripts n) h own one =
    ap (fault_of 6 m) (newest (body_of (renewal_of scripts)) ∙ record_back (renewal_of scripts) one.0)

made_clear : (texts : Texts) (end : recovery.Made) (l : Line) (m : Made) → plain m ≡ end → HasOwnStates m.earlier m.book → IsReadyLine end l → OneWritten texts l end
    → IsClear 6 m (read_record_in 6 (spelled end.book l))
made_clear texts end l m e own h one =
    subst (λ (k : recovery.Made). IsClear 6 m (read_record_in 6 (spelled k.book l))) e
    (line_clear texts m l (subst (λ (k : recovery.Made). IsReadyLine k l) (sym e) h) own (subst (OneWritten texts l) (sym e) one))

at_clear : (texts : Texts) (end : recovery.Made) (l : Line) (x : Making) → IsMade x end → IsReadyLine end l → OneWritten texts l end → HoldsAt (IsClear 6) 6 x (spelled end.book l)
at_clear texts end l nothing is h one = absurd is
at_clear texts end l (waits s) is h one = absurd is
at_clear texts end l waited is h one = absurd is
at_clear texts end l (begun m) is h one = made_clear texts end l m is.0 is.1 h one
at_clear texts end l (made m) is h one = made_clear texts end l m is.0 is.1 h one
at_clear texts end l (damaged p) is h one = absurd is
at_clear texts end l (other p) is h one = absurd is

-- ---- all lines

first_written : (texts : Texts) (l : Line) (ls : List Line) (m : recovery.Made) → AreWritten texts (l ∷ ls) m → OneWritten texts l m × AreWritten texts ls (then_line l m)
first_written texts (changed c n) ls m w = ((w.0, w.1, tt), w.2)
first_written texts (renewed scripts n) ls m w = ((w.0, w.1, w.2, w.3, tt), w.4)

whole_line : (texts : Texts) (l : Line) (m : recovery.Made) → IsTakenLine m l → OneWritten texts l m → IsOrderlyMade m → HasWholeScripts m.book → HasWholeScripts (then_line l m).book
whole_line texts (changed c n) m (inside, e) one g whole = whole_redo c n m inside e g whole
whole_line texts (renewed scripts n) m taken one g whole = record { setup = one.3; instances = whole.instances }

-- what lines make has scripts that can be run
pub whole_lines : (texts : Texts) (ls : List Line) (m : recovery.Made) → AreTaken ls m → AreWritten texts ls m → IsOrderlyMade m → HasWholeScripts m.book → HasWholeScripts (lines_after ls m).book
whole_lines texts [] m taken written g whole = whole
whole_lines texts (l ∷ ls) m taken written g whole =
    let w = first_written texts l ls m written in
    whole_lines texts ls (then_line l m) taken.1 w.1 (line_orderly l m g) (whole_line texts l m taken.0 w.0 g whole)

module _ (texts : Texts) (shelf : ℕ) (f : File) where
  -- the file with these lines in the place of its own
  abbrev lined : List Line → File
  lined ls = record f { lines = ls }

  abbrev first : recovery.Made
  first = first_of shelf f

  -- what is known of the file with these lines, which make this
  record IsFront (xs : List Line) (end : recovery.Made) : Type 0 where
    at : lines_after xs first ≡ end
    taken : AreTaken xs first
    written : IsWritten texts shelf (lined xs)
    orderly : IsOrderlyMade end
    whole : HasWholeScripts end.book

  then_front : (xs : List Line) (l : Line) (end : recovery.Made) → IsFront xs end → IsTakenLine end l → OneWritten texts l end → IsFront (xs ++ l ∷ []) (then_line l end)
  then_front xs l end h taken one = record {
    at = after_more xs l first ∙ ap (then_line l) h.at;
    taken = taken_more xs l first h.taken (subst (λ (m : recovery.Made). IsTakenLine m l) (sym h.at) taken);
    written = record {
      begins = h.written.begins;
      read = h.written.read;
      whole = h.written.whole;
      head = h.written.head;
      drawn = h.written.drawn;
      lines = written_more texts xs l first h.written.lines (subst (OneWritten texts l) (sym h.at) one);
    };
    orderly = line_orderly l end h.orderly;
    whole = whole_line texts l end taken one h.orderly h.whole;
  }

  front_made : (xs : List Line) (end : recovery.Made) (x : Making) → IsFront xs end → with_bodies_at 6 texts shelf 8 (bodies_of shelf (lined xs)) nothing ≡ x → IsMade x end
  front_made xs end x h reach =
      subst (λ (y : Making). IsMade y end) (sym (format_of_now texts shelf (bodies_of shelf (lined xs))) ∙ reach)
      (subst (IsMade (book_of texts shelf (bodies_of shelf (lined xs)))) h.at (files_made texts shelf (lined xs) h.taken h.written))

  -- what comes after the bodies of these lines is read after this
  abbrev Reach : List Line → (place : ℕ) → Making → Type 0
  Reach xs place x = (bs : List (List ℕ)) → with_bodies_at 6 texts shelf 8 (bodies_of shelf (lined xs) ++ bs) nothing ≡ with_bodies_at 6 texts shelf place bs x

  grown : (xs : List Line) (l : Line) (end : recovery.Made) → lines_after xs first ≡ end → bodies_of shelf (lined (xs ++ l ∷ [])) ≡ bodies_of shelf (lined xs) ++ spelled end.book l ∷ []
  grown xs l end at = grow.0 shelf l (lined xs) ∙ ap (λ (m : recovery.Made). bodies_of shelf (lined xs) ++ spelled m.book l ∷ []) at

  walk : (xs ys : List Line) (end : recovery.Made) (place : ℕ) (x : Making) → IsFront xs end → AreTaken ys end → AreWritten texts ys end → AreFair ys end → Reach xs place x
      → AreClear 6 texts shelf place (map (λ (y : Line × List ℕ). y.1) (with_spelled ys end)) x
  walk xs [] end place x h taken written fair reach = tt
  walk xs (l ∷ ys) end place x h taken written fair reach =
      let w = first_written texts l ys end written in
      let body = spelled end.book l in
      let all = bodies_of shelf (lined xs) in
      let is = front_made xs end x h (ap (λ (bs : List (List ℕ)). with_bodies_at 6 texts shelf 8 bs nothing) (sym (append-nil all)) ∙ reach []) in (
        at_clear texts end l x is (ready texts end l taken.0 fair.0 h.whole w.0) w.0,
        walk (xs ++ l ∷ []) ys (then_line l end) (place + 5 + length body) (with_body_at 6 texts shelf place body x) (then_front xs l end h taken.0 w.0) taken.1 w.1 fair.1
            (λ bs.
            ap (λ (cs : List (List ℕ)). with_bodies_at 6 texts shelf 8 cs nothing) (ap (λ (cs : List (List ℕ)). cs ++ bs) (grown xs l end h.at) ∙ append_assoc all (body ∷ []) bs)
            ∙ reach (body ∷ bs)),
      )

  -- ---- and the first ones

  draws_clear : (n : ℕ) (x : Making) → IsDrawn (Some n) → HoldsAt (IsClear 6) 6 x (body_of (draws n))
  draws_clear n nothing low = tt
  draws_clear n (waits s) low = tt
  draws_clear n waited low = tt
  draws_clear n (begun m) low = ap (fault_of 6 m) (newest (body_of (draws n)) ∙ record_back (draws n) low)
  draws_clear n (made m) low = ap (fault_of 6 m) (newest (body_of (draws n)) ∙ record_back (draws n) low)
  draws_clear n (damaged p) low = tt
  draws_clear n (other p) low = tt

  drawn_clear : (o : Option ℕ) (rest : List (List ℕ)) (place : ℕ) (x : Making) → IsDrawn o
      → ((later : ℕ) (y : Making) → ((bs : List (List ℕ)) → with_bodies_at 6 texts shelf place (drawn_bodies o ++ bs) x ≡ with_bodies_at 6 texts shelf later bs y) → AreClear 6 texts shelf later rest y)
      → AreClear 6 texts shelf place (drawn_bodies o ++ rest) x
  drawn_clear None rest place x low go = go place x (λ bs. refl)
  drawn_clear (Some n) rest place x low go =
      let body = body_of (draws n) in
      (draws_clear n x low, go (place + 5 + length body) (with_body_at 6 texts shelf place body x) (λ bs. refl))

  pub file_clear : AreTaken f.lines first → IsWritten texts shelf f → AreFair f.lines first → AreClear 6 texts shelf 8 (bodies_of shelf f) nothing
  file_clear taken written fair =
      let head = body_of (begin_of shelf f.scripts) in
      let place = 8 + 5 + length head in
      let x = with_body_at 6 texts shelf 8 head nothing in
      let none : IsFront [] first = record {
        at = refl;
        taken = tt;
        written = record {
          begins = written.begins;
          read = written.read;
          whole = written.whole;
          head = written.head;
          drawn = written.drawn;
          lines = tt;
        };
        orderly = first_orderly shelf f;
        whole = record { setup = written.whole; instances = λ k i found. absurd (let no : ⊥ = cc in no) };
      } in (
        tt,
        drawn_clear f.drawn (map (λ (y : Line × List ℕ). y.1) (with_spelled f.lines first)) place x written.drawn
            (λ later y go.
            walk [] f.lines first later y none taken written.lines fair
            (λ bs. ap (λ (cs : List (List ℕ)). with_bodies_at 6 texts shelf place (cs ++ bs) x) (append-nil (drawn_bodies f.drawn)) ∙ go bs)),
      )

  -- an audit finds nothing in such a file
  pub file_passes : AreTaken f.lines first → IsWritten texts shelf f → AreFair f.lines first → FindsNothing 6 texts (bodies_of shelf f)
  file_passes taken written fair =
      by_made (book_of_format 6 texts shelf (bodies_of shelf f)) refl
      (subst (λ (y : Making). IsMade y (lines_after f.lines first)) (sym (format_of_now texts shelf (bodies_of shelf f))) (files_made texts shelf f taken written))
    where
      rest : List (List ℕ)
      rest = drawn_bodies f.drawn ++ map (λ (y : Line × List ℕ). y.1) (with_spelled f.lines first)

      by_made : (x : Making) → book_of_format 6 texts shelf (bodies_of shelf f) ≡ x → IsMade x (lines_after f.lines first) → FindsNothing 6 texts (bodies_of shelf f)
      by_made nothing e is = absurd is
      by_made (waits s) e is = absurd is
      by_made waited e is = absurd is
      by_made (begun m) e is = finds_nothing 6 texts shelf (body_of (begin_of shelf f.scripts)) rest m (ap made_in e) (file_clear taken written fair)
      by_made (made m) e is = finds_nothing 6 texts shelf (body_of (begin_of shelf f.scripts)) rest m (ap made_in e) (file_clear taken written fair)
      by_made (damaged p) e is = absurd is
      by_made (other p) e is = absurd is
