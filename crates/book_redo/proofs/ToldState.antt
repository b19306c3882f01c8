-- What the record of a page tells of the page's state, in each format.
use Rattle.std.proofs.Common.{◌≡◌, ◌∙◌, ap, sym, subst, ℕ, zero, suc, ◌==◌, Bool, true, false, List, Option, Some, None, is_some, option_map, Result, Ok, Err, refl}
use Rattle.std.specs.Prelude.{if◌then◌else◌, IfOk}
use Rattle.std.specs.Borrow.{Bor}
use Rattle.std.specs.declared.alloc.AllocError.{AllocError}
use Rattle.script_nodes.specs.Arena.{Arena, IsScript}
use Rattle.script_nodes.specs.Setup.{Named, Library}
use Rattle.script_nodes.specs.Views.{named_of}
use Rattle.replay_spec.specs.Book as spec
use Rattle.replay_spec.specs.Book.{Change}
use Rattle.replay_spec.specs.Admission.{◌>>=◌, when}
use Rattle.machine_states.specs.Machine.{Suspended}
use Rattle.machine_states.specs.Views.{origin_of, suspended_of}
use Rattle.machine_states.specs.declared.frame.Suspended as stored
use Rattle.frame_codec.specs.Stored.{IsStored}
use Rattle.frame_codec.specs.Reading.{read_state}
use Rattle.frame_codec.specs.Forms.{read_form, IsStoredBefore}
use Rattle.frame_codec.specs.FormViews as codec
use Rattle.frame_codec.specs.FormViews.{before_of}
use Rattle.instance_book.specs.KeptStates.Links.{behind_at}
use Rattle.instance_book.specs.declared.book.Book.{Book}
use Rattle.instance_book.proofs.Behind.{arena_again}
use Rattle.journal_spec.specs.Before.{before_told}
use Rattle.journal_spec.specs.Retaking.{arena_of, unread, told_as, told_by, script_for}
use Rattle.journal_spec.specs.Old.{binds_before, told_alone}
use Rattle.journal_spec.proofs.Anew.{binds_is, binds_are}
use Rattle.book_redo.specs.declared.behind.Behind.{Behind}
use Rattle.book_redo.specs.Behind.{TellsBehind, IsStoredFrom, IsSpelledBehind, IsWrittenBehind}
use Rattle.book_redo.specs.Redo.{is_read}
use Rattle.book_redo.specs.Told.{alone_behind, form_behind, ReadsForm, ReadsAt, told_for, IsToldAt, IsReadThere}
use Rattle.book_redo.proofs.Anew.{before_beside, script_beside, read_again}

-- ---- the bytes of a state by itself

-- bytes that no state has tell none
pub alone_none : (x : Behind) (bytes : List ℕ) → IsScript x.script.now.script → read_state x.script.now.script bytes ≡ None → None ≡ alone_behind x bytes
alone_none x bytes script none =
    sym (ap (λ (o : Option Suspended). o >>= (λ d. when (binds_before (behind_at x.links (origin_of x.from)) d) d)) (read_again x bytes None script none))

module _ (x : Behind) (bytes : List ℕ) (script : IsScript x.script.now.script) (d : stored.Suspended) (reads : read_state x.script.now.script bytes ≡ Some (suspended_of d)) where
  tested : alone_behind x bytes ≡ when (binds_before (behind_at x.links (origin_of x.from)) (suspended_of d)) (suspended_of d)
  tested =
      ap (λ (o : Option Suspended). o >>= (λ e. when (binds_before (behind_at x.links (origin_of x.from)) e) e))
      (read_again x bytes (Some (suspended_of d)) script reads)

  -- those of a state that a record can tell there tell it
  pub alone_some : (now : List ℕ) → IsSpelledBehind x d (Some now) → Some (suspended_of d) ≡ alone_behind x bytes
  alone_some now spelled =
      let before = behind_at x.links (origin_of x.from) in
      sym (tested ∙ ap (λ (t : Bool). when t (suspended_of d)) (binds_are before (suspended_of d) spelled.2))

  -- those of another one tell none
  pub alone_never : IsStored x.script.now.script (suspended_of d) → IsSpelledBehind x d None → None ≡ alone_behind x bytes
  alone_never stored never = sym (tested ∙ by_test (binds_before before (suspended_of d)) refl)
    where
      before : Option Suspended
      before = behind_at x.links (origin_of x.from)

      by_test : (t : Bool) → binds_before before (suspended_of d) ≡ t → when t (suspended_of d) ≡ None
      by_test true e = absurd (never (stored.bytes, binds_is before (suspended_of d) e))
      by_test false e = refl

-- ---- the bytes of the form that is due

stored_behind : (a : Arena) (links : ℕ) (o : Option Suspended) → IsStoredBefore a o → IsStoredBefore a (behind_at links o)
stored_behind a zero o h = tt
stored_behind a (suc n) o h = h

-- what the state is written after fits the script
pub form_fits : (x : Behind) (before : Option (Bor stored.Suspended)) → IsScript x.script.now.script → IsStoredFrom x → IsWrittenBehind x before
    → IsStoredBefore x.script.now.script (before_of before)
form_fits x before script stored is =
    subst (λ (o : Option Suspended). IsStoredBefore x.script.now.script o) (sym is)
    (subst (λ (a : Arena). IsStoredBefore a (behind_at x.links (origin_of x.from))) (arena_again x.script.now.script script)
    (stored_behind (arena_of (named_of x.script.now).script) x.links (origin_of x.from) stored))

form_read : (x : Behind) (before : Option Suspended) (bytes : List ℕ) (found : Option Suspended) → IsScript x.script.now.script → before ≡ behind_at x.links (origin_of x.from)
    → found ≡ read_form x.script.now.script before bytes → found ≡ form_behind x bytes
form_read x before bytes found script is reads =
    reads
    ∙ (ap (λ (o : Option Suspended). read_form x.script.now.script o bytes) is
    ∙ ap (λ (a : Arena). read_form a (behind_at x.links (origin_of x.from)) bytes) (sym (arena_again x.script.now.script script)))

pub form_read_if : (x : Behind) (before : Option (Bor stored.Suspended)) (bytes : List ℕ) (r : Result (Option stored.Suspended) AllocError) → IsScript x.script.now.script → IsWrittenBehind x before
    → IfOk r (codec.ReadsForm x.script.now.script before bytes) → IfOk r (ReadsForm x bytes)
form_read_if x before bytes (Ok d) script is reads = form_read x (before_of before) bytes (option_map suspended_of d) script is reads
form_read_if x before bytes (Err e) script is reads = tt

-- ---- what is told

-- of a page of no script nothing is read
unread_at : (t : Bool) (before : Option Suspended) (state : Option (List ℕ)) → (if t then told_alone before None state else told_by before None state) ≡ unread
unread_at true before state = refl
unread_at false before state = refl

pub told_none : (format : ℕ) (library : Library) (b : Book) (c : Change) (bytes : List ℕ) → TellsBehind library b c None → IsToldAt format library b c bytes None
told_none format library b c bytes none m beside place n is states =
    ap (λ (s : Option Named). if format == 2 then told_alone (before_told m.earlier m.book c) s (Some bytes) else told_by (before_told m.earlier m.book c) s (Some bytes)) script
    ∙ (unread_at (format == 2) (before_told m.earlier m.book c) (Some bytes) ∙ sym (ap (λ (s : Option Named). told_for s None) script))
  where
    script : script_for m.book c ≡ None
    script = ap (λ (y : spec.Book). script_for y c) is ∙ (script_beside library beside b c ∙ none)

-- what is told is what is read
read_at : (t : Bool) (alone form : Option Suspended) → (if t then told_as alone else told_as form) ≡ told_as (if t then alone else form)
read_at true alone form = refl
read_at false alone form = refl

pub told_some : (format : ℕ) (library : Library) (b : Book) (c : Change) (bytes : List ℕ) (x : Behind) (d : Option stored.Suspended) → TellsBehind library b c (Some x) → ReadsAt format x bytes d
    → IsToldAt format library b c bytes d
told_some format library b c bytes x d tells reads m beside place n is states =
    ap (λ (o : Option Suspended). if format == 2 then told_alone o (script_for m.book c) (Some bytes) else told_by o (script_for m.book c) (Some bytes)) before
    ∙ (ap (λ (o : Option Named). if format == 2 then told_alone its o (Some bytes) else told_by its o (Some bytes)) script
    ∙ (read_at (format == 2) (alone_behind x bytes) (form_behind x bytes)
    ∙ (ap told_as (sym reads) ∙ sym (ap (λ (s : Option Named). told_for s (option_map suspended_of d)) script))))
  where
    its : Option Suspended
    its = behind_at x.links (origin_of x.from)

    script : script_for m.book c ≡ Some (named_of x.script.now)
    script = ap (λ (y : spec.Book). script_for y c) is ∙ (script_beside library beside b c ∙ (tells m.earlier states).script)

    before : before_told m.earlier m.book c ≡ its
    before = ap (λ (y : spec.Book). before_told m.earlier y c) is ∙ (before_beside library beside m.earlier b c ∙ (tells m.earlier states).before)

pub told_if : (format : ℕ) (library : Library) (b : Book) (c : Change) (bytes : List ℕ) (x : Behind) (r : Result (Option stored.Suspended) AllocError) → TellsBehind library b c (Some x)
    → IfOk r (ReadsAt format x bytes) → IfOk r (IsToldAt format library b c bytes)
told_if format library b c bytes x (Ok d) tells reads = told_some format library b c bytes x d tells reads
told_if format library b c bytes x (Err e) tells reads = tt

-- ---- whether it is told

read_as : (d : Option stored.Suspended) → is_some d ≡ is_read (told_as (option_map suspended_of d))
read_as None = refl
read_as (Some d) = refl

pub read_there : (library : Library) (b : Book) (c : Change) (bytes : List ℕ) (x : Behind) (d : Option stored.Suspended) (t : Bool) → t ≡ is_some d → TellsBehind library b c (Some x) → ReadsForm x bytes d
    → IsReadThere library b c bytes t
read_there library b c bytes x d t there tells reads m beside place n is states =
    there
    ∙ (read_as d
    ∙ sym (ap is_read (told_some 3 library b c bytes x d tells reads m beside place n is states ∙ ap (λ (s : Option Named). told_for s (option_map suspended_of d)) script)))
  where
    script : script_for m.book c ≡ Some (named_of x.script.now)
    script = ap (λ (y : spec.Book). script_for y c) is ∙ (script_beside library beside b c ∙ (tells m.earlier states).script)

pub read_nowhere : (library : Library) (b : Book) (c : Change) (bytes : List ℕ) → TellsBehind library b c None → IsReadThere library b c bytes true
read_nowhere library b c bytes none m beside place n is states =
    sym (ap is_read (told_none 3 library b c bytes none m beside place n is states ∙ ap (λ (s : Option Named). told_for s None) script))
  where
    script : script_for m.book c ≡ None
    script = ap (λ (y : spec.Book). script_for y c) is ∙ (script_beside library beside b c ∙ none)
