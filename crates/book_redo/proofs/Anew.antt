-- What a page's record of an older format is in the newest.
use Rattle.std.proofs.Common.{◌≡◌, ℕ, zero, suc, ◌≤◌, ◌==◌, List, Option, Some, None, Bool, true, false, refl, sym, ap, subst, ◌∙◌, arith}
use Rattle.std.specs.Prelude.{if◌then◌else◌, nat_lt}
use Rattle.std.proofs.lemmas.Bool.Decides.{nat_tests}
use Rattle.script_nodes.specs.Arena.{Arena, IsScript}
use Rattle.script_nodes.specs.Setup.{Named, Library}
use Rattle.script_nodes.specs.Views.{named_of}
use Rattle.replay_spec.specs.Book as spec
use Rattle.replay_spec.specs.Book.{Change, opens, extends, ends, finishes, sweeps}
use Rattle.replay_spec.specs.Admission.{◌>>=◌, when}
use Rattle.replay_spec.specs.Recovery.{taken_in}
use Rattle.machine_states.specs.Machine.{Suspended}
use Rattle.machine_states.specs.Views.{origin_of}
use Rattle.frame_codec.specs.Stored.{IsStored}
use Rattle.frame_codec.specs.Reading.{read_state}
use Rattle.frame_codec.specs.Forms.{form_bytes, RisesBefore, BindsBefore, IsStoredBefore}
use Rattle.instance_book.specs.KeptStates.Links.{behind_at}
use Rattle.instance_book.specs.declared.book.Book.{Book}
use Rattle.instance_book.proofs.Behind.{arena_again}
use Rattle.instance_book.specs.Views.{Beside, book_of}
use Rattle.instance_book.specs.Standing.{book_under}
use Rattle.book_redo.specs.Redo.{HasToldStates}
use Rattle.journal_spec.specs.Before.{Earlier, Made, plain, before_told}
use Rattle.journal_spec.specs.Retaking.{arena_of, unread, misread, told, told_as, told_by, told_in, script_for, retaken}
use Rattle.journal_spec.specs.Lengths.{own_told}
use Rattle.journal_spec.specs.Making.{made, told_next}
use Rattle.journal_spec.specs.Old.{binds_before, told_alone, told_at, told_of}
use Rattle.journal_spec.specs.Copying.{bytes_now}
use Rattle.journal_spec.proofs.Anew.{binds_is, binds_are, form_told}
use Rattle.book_redo.specs.declared.behind.Behind.{Behind}
use Rattle.book_redo.specs.Behind.{IsBehind, TellsBehind}
use Rattle.book_redo.specs.Renewing.{IsAsNewest, IsOutside}

-- ---- from format 3 on a record is told as it is

told_late : (format : ℕ) (m : Made) (c : Change) (state : Option (List ℕ)) → 3 ≤ format → told_at format m.earlier m.book c state ≡ told_in m.earlier m.book c state
told_late format m c state low =
    let two : (format == 2) ≡ false = grind (arith, nat_tests, low) in
    ap (λ (t : Bool). if t then told_alone (before_told m.earlier m.book c) (script_for m.book c) state else told_in m.earlier m.book c state) two

pub late_is : (format : ℕ) → 3 ≤ format → (library : Library) (b : Book) (c : Change) (state : Option (List ℕ)) → IsAsNewest format library b c state state
late_is format low library b c state =
    let one : (format == 1) ≡ false = grind (arith, nat_tests, low) in
    let late : nat_lt format 3 ≡ false = grind (arith, nat_tests, low) in
    record {
      tells = λ m beside place n is states.
          ap (λ (t : Bool). if t then own_told m.book c else told_at format m.earlier m.book c state) one ∙ told_late format m c state low;
      makes = λ m beside place n is states.
          ap (λ (t : Bool). if t then made (retaken n c (taken_in (plain m) c) (own_told m.book c) m) else told_next place n m c (told_at format m.earlier m.book c state)) one
          ∙ ap (told_next place n m c) (told_late format m c state low);
      bytes = λ m beside place n is states.
          sym (ap (λ (t : Bool). if t then bytes_now (before_told m.earlier m.book c) state (told_of format m c state) else state) late);
    }

-- ---- what a page goes on from looks at no journal

pub script_beside : (library : Library) (x : Beside) (b : Book) (c : Change) → script_for (book_of library x b) c ≡ script_for (book_under library b) c
script_beside library x b (opens o) = refl
script_beside library x b (extends e) = refl
script_beside library x b (ends e) = refl
script_beside library x b (finishes f) = refl
script_beside library x b (sweeps tick) = refl

pub before_beside : (library : Library) (x : Beside) (earlier : Earlier) (b : Book) (c : Change) → before_told earlier (book_of library x b) c ≡ before_told earlier (book_under library b) c
before_beside library x earlier b (opens o) = refl
before_beside library x earlier b (extends e) = refl
before_beside library x earlier b (ends e) = refl
before_beside library x earlier b (finishes f) = refl
before_beside library x earlier b (sweeps tick) = refl

-- ---- in format 2 the bytes are the state's alone

-- what is told is told of the book without its journal
alone_under : (library : Library) (b : Book) (c : Change) (state : Option (List ℕ)) (m : Made) (beside : Beside) → m.book ≡ book_of library beside b
    → told_alone (before_told m.earlier m.book c) (script_for m.book c) state ≡ told_alone (before_told m.earlier (book_under library b) c) (script_for (book_under library b) c) state
alone_under library b c state m beside is =
    ap (λ (y : spec.Book). told_alone (before_told m.earlier y c) (script_for y c) state) is
    ∙ (ap (λ (o : Option Suspended). told_alone o (script_for (book_of library beside b) c) state) (before_beside library beside m.earlier b c)
    ∙ ap (λ (s : Option Named). told_alone (before_told m.earlier (book_under library b) c) s state) (script_beside library beside b c))

pub newest_under : (library : Library) (b : Book) (c : Change) (state : Option (List ℕ)) (m : Made) (beside : Beside) → m.book ≡ book_of library beside b
    → told_in m.earlier m.book c state ≡ told_in m.earlier (book_under library b) c state
newest_under library b c state m beside is = ap (λ (y : spec.Book). told_in m.earlier y c state) is ∙ alike c
  where
    alike : (x : Change) → told_in m.earlier (book_of library beside b) x state ≡ told_in m.earlier (book_under library b) x state
    alike (opens o) = refl
    alike (extends e) = refl
    alike (ends e) = refl
    alike (finishes f) = refl
    alike (sweeps tick) = refl

rises : (s : Named) (links : ℕ) (o : Option Suspended) → IsStoredBefore (arena_of s.script) o → RisesBefore (behind_at links o)
rises s zero o h = tt
rises s (suc n) None h = tt
rises s (suc n) (Some p) h = h.shadows.rise

-- a state that is written after what a page goes on from is told
pub form_behind : (library : Library) (earlier : Earlier) (b : Book) (c : Change) (x : Behind) (d : Suspended) → IsBehind library earlier b c x
    → IsStored (arena_of (named_of x.script.now).script) d → BindsBefore (behind_at x.links (origin_of x.from)) d
    → told_in earlier (book_under library b) c (Some (form_bytes (behind_at x.links (origin_of x.from)) d)) ≡ told d
form_behind library earlier b c x d h stored binds =
    let b0 = book_under library b in
    let s = named_of x.script.now in
    let rise : RisesBefore (behind_at x.links (origin_of x.from)) = rises s x.links (origin_of x.from) h.stored in
    subst (λ (o : Option Suspended). told_in earlier b0 c (Some (form_bytes o d)) ≡ told d) h.before
    (form_told (before_told earlier b0 c) (script_for b0 c) s d h.script (subst RisesBefore (sym h.before) rise) stored (subst (λ (o : Option Suspended). BindsBefore o d) (sym h.before) binds))

-- this state, which these bytes spell by themselves, is told by those that the newest format has of it
pub alone_is : (library : Library) (b : Book) (c : Change) (x : Behind) (bytes : List ℕ) (d : Suspended) → TellsBehind library b c (Some x)
    → read_state (arena_of (named_of x.script.now).script) bytes ≡ Some d → IsStored (arena_of (named_of x.script.now).script) d
    → let before = behind_at x.links (origin_of x.from) in BindsBefore before d → IsAsNewest 2 library b c (Some bytes) (Some (form_bytes before d))
alone_is library b c x bytes d behind read stored binds =
    record {
      tells = says;
      makes = λ m beside place n is states. ap (told_next place n m c) (says m beside place n is states);
      bytes = λ m beside place n is states.
          ap (λ (o : Option Suspended). Some (form_bytes o d)) (sym (before_is m beside is states))
          ∙ sym (ap (bytes_now (before_told m.earlier m.book c) (Some bytes)) (alone m beside is states));
    }
  where
    before : Option Suspended
    before = behind_at x.links (origin_of x.from)

    s : Named
    s = named_of x.script.now

    before_is : (m : Made) (beside : Beside) → m.book ≡ book_of library beside b → HasToldStates library.all m.earlier.states b → before_told m.earlier m.book c ≡ behind_at x.links (origin_of x.from)
    before_is m beside is states =
        ap (λ (y : spec.Book). before_told m.earlier y c) is ∙ (before_beside library beside m.earlier b c ∙ (behind m.earlier states).before)

    alone : (m : Made) (beside : Beside) → m.book ≡ book_of library beside b → HasToldStates library.all m.earlier.states b
        → told_alone (before_told m.earlier m.book c) (script_for m.book c) (Some bytes) ≡ told d
    alone m beside is states =
        let h = behind m.earlier states in
        let b0 = book_under library b in
        alone_under library b c (Some bytes) m beside is
        ∙ (ap (λ (o : Option Suspended). told_alone o (script_for b0 c) (Some bytes)) h.before
        ∙ (ap (λ (o : Option Named). told_alone before o (Some bytes)) h.script
        ∙ (ap (λ (o : Option Suspended). told_as (o >>= (λ y. when (binds_before before y) y))) read
        ∙ ap (λ (t : Bool). told_as (when t d)) (binds_are before d binds))))

    says : (m : Made) (beside : Beside) (place n : ℕ) → m.book ≡ book_of library beside b → HasToldStates library.all m.earlier.states b
        → told_alone (before_told m.earlier m.book c) (script_for m.book c) (Some bytes) ≡ told_in m.earlier m.book c (Some (form_bytes (behind_at x.links (origin_of x.from)) d))
    says m beside place n is states =
        let formed : told_in m.earlier (book_under library b) c (Some (form_bytes before d)) ≡ told d = form_behind library m.earlier b c x d (behind m.earlier states) stored binds in
        alone m beside is states ∙ sym (newest_under library b c (Some (form_bytes before d)) m beside is ∙ formed)

-- the script's nodes are its tree's
pub read_again : (x : Behind) (bytes : List ℕ) (o : Option Suspended) → IsScript x.script.now.script → read_state x.script.now.script bytes ≡ o
    → read_state (arena_of (named_of x.script.now).script) bytes ≡ o
read_again x bytes o script e = ap (λ (a : Arena). read_state a bytes) (arena_again x.script.now.script script) ∙ e

-- bytes that no state has, or one that leaves unbound what is bound before, are outside the grammar
pub alone_is_outside : (library : Library) (b : Book) (c : Change) (x : Behind) (bytes : List ℕ) → TellsBehind library b c (Some x)
    → ((d : Suspended) → read_state (arena_of (named_of x.script.now).script) bytes ≡ Some d → ¬ (BindsBefore (behind_at x.links (origin_of x.from)) d))
    → IsOutside 2 library b c (Some bytes)
alone_is_outside library b c x bytes behind never m beside place n is states =
    ap (told_next place n m c) (alone_under library b c (Some bytes) m beside is ∙ none)
  where
    before : Option Suspended
    before = behind_at x.links (origin_of x.from)

    b0 : spec.Book
    b0 = book_under library b

    by_test : (d : Suspended) → ¬ (BindsBefore before d) → (t : Bool) → binds_before before d ≡ t → told_as (when t d) ≡ misread
    by_test d not true e = absurd (not (binds_is before d e))
    by_test d not false e = refl

    by_state : (o : Option Suspended) → read_state (arena_of (named_of x.script.now).script) bytes ≡ o → told_as (o >>= (λ y. when (binds_before before y) y)) ≡ misread
    by_state None e = refl
    by_state (Some d) e = by_test d (never d e) (binds_before before d) refl

    none : told_alone (before_told m.earlier b0 c) (script_for b0 c) (Some bytes) ≡ misread
    none =
        let h = behind m.earlier states in
        ap (λ (o : Option Suspended). told_alone o (script_for b0 c) (Some bytes)) h.before
        ∙ (ap (λ (o : Option Named). told_alone before o (Some bytes)) h.script ∙ by_state (read_state (arena_of (named_of x.script.now).script) bytes) refl)

-- where a record is of no script, its bytes are not read in any format
pub unread_is : (library : Library) (b : Book) (c : Change) (state : Option (List ℕ)) → TellsBehind library b c None → IsAsNewest 2 library b c state state
unread_is library b c state none =
    record {
      tells = λ m beside place n is states. says m beside is;
      makes = λ m beside place n is states. ap (told_next place n m c) (says m beside is);
      bytes = λ m beside place n is states. sym (ap (bytes_now (before_told m.earlier m.book c) state) (nothing_told m (script m beside is)));
    }
  where
    script : (m : Made) (beside : Beside) → m.book ≡ book_of library beside b → script_for m.book c ≡ None
    script m beside is = ap (λ (y : spec.Book). script_for y c) is ∙ (script_beside library beside b c ∙ none)

    nothing_told : (m : Made) → script_for m.book c ≡ None → told_alone (before_told m.earlier m.book c) (script_for m.book c) state ≡ unread
    nothing_told m of_none = ap (λ (o : Option Named). told_alone (before_told m.earlier m.book c) o state) of_none

    says : (m : Made) (beside : Beside) → m.book ≡ book_of library beside b → told_alone (before_told m.earlier m.book c) (script_for m.book c) state ≡ told_in m.earlier m.book c state
    says m beside is =
        nothing_told m (script m beside is) ∙ sym (ap (λ (o : Option Named). told_by (before_told m.earlier m.book c) o state) (script m beside is))
