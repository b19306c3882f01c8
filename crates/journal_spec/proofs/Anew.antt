-- What a page's record of format 1 or 2 tells, as the newest format tells it.
use Rattle.std.proofs.Common.{◌≡◌, ℕ, ◌≤◌, ◌^◌, List, [], ◌∷◌, length, Option, Some, None, Bool, true, false, refl, sym, ap, subst, ◌∙◌, arith}
use Rattle.std.specs.Prelude.{◌==◌, is_some, if◌then◌else◌}
use Rattle.std.specs.List.{list_all}
use Rattle.std.proofs.lemmas.Bool.{and_parts, and_from}
use Rattle.std.proofs.lemmas.Bool.Decides.{nat_tests}
use Rattle.script_value.specs.Val.{Val}
use Rattle.web_cells.specs.Shadows.{binding}
use Rattle.web_cells.specs.Own.{BindsAllOf}
use Rattle.script_nodes.specs.Setup.{Named}
use Rattle.replay_spec.specs.Book.{Change, opens, extends, ends, finishes, sweeps, Book}
use Rattle.replay_spec.specs.Admission.{when}
use Rattle.replay_spec.proofs.Admitted.{came_from, when_is}
use Rattle.machine_states.specs.Machine.{Suspended}
use Rattle.kept_states.specs.FrameCodec.Stored.{IsStored}
use Rattle.kept_states.specs.FrameCodec.Reading.{read_state}
use Rattle.kept_states.specs.FrameCodec.Forms.{form_bytes, RisesBefore, BindsBefore}
use Rattle.kept_states.proofs.FrameCodec.Formed.{forms_are_exact}
use Rattle.journal_records.specs.Records.{changes, ChangeFits, opening_page, extension_page, body_of}
use Rattle.journal_records.proofs.OtherStates.{change_with}
use Rattle.journal_spec.specs.Retaking.{arena_of, unread, told, told_as, told_by, script_for}
use Rattle.journal_spec.specs.Old.{binds_before, read_alone, told_alone}
use Rattle.journal_spec.proofs.Grammar.{page_long}

-- ---- a state that is told by itself

-- the bytes of a state are told of a page of a script, and the state binds what is bound before
pub record IsAlone (before : Option Suspended) (o : Option Named) (d : Suspended) : Type 0 where
  pub script : Named
  pub is : o ≡ Some script
  pub binds : binds_before before d ≡ true

told_some : (o : Option Suspended) (d : Suspended) → told_as o ≡ told d → o ≡ Some d
told_some None d e = absurd (let no : ⊥ = cc in no)
told_some (Some x) d e = let same : x ≡ d = cc in ap (λ (y : Suspended). Some y) same

pub alone : (before : Option Suspended) (o : Option Named) (state : Option (List ℕ)) (d : Suspended) → told_alone before o state ≡ told d → IsAlone before o d
alone before None state d e = absurd (let no : ⊥ = cc in no)
alone before (Some s) None d e = absurd (let no : ⊥ = cc in no)
alone before (Some s) (Some bytes) d e =
    let a = arena_of s.script in
    let at = came_from (read_state a bytes) (λ x. when (binds_before before x) x) d (told_some (read_alone a before bytes) d e) in
    let w = when_is (binds_before before at.0) at.0 d at.1.1 in
    record { script = s; is = refl; binds = subst (λ (x : Suspended). binds_before before x ≡ true) w.1 w.0 }

-- what is not read by itself is not read in a form
pub alone_unread : (before : Option Suspended) (o : Option Named) (state : Option (List ℕ)) → told_alone before o state ≡ unread → told_by before o state ≡ unread
alone_unread before None state e = refl
alone_unread before (Some s) None e = absurd (let no : ⊥ = cc in no)
alone_unread before (Some s) (Some bytes) e = absurd (some (read_alone (arena_of s.script) before bytes) e)
  where
    some : (o : Option Suspended) → told_as o ≡ unread → ⊥
    some None f = let no : ⊥ = cc in no
    some (Some d) f = let no : ⊥ = cc in no

-- ---- what a state binds that is written after another

all_bind : (ps ss : List (ℕ × Val)) → list_all (λ (s : ℕ × Val). is_some (binding s.0 ss)) ps ≡ true → BindsAllOf ps ss
all_bind [] ss h c none = refl
all_bind (p ∷ ps) ss h c none = by_cell (p.0 == c) refl (all_bind ps ss rest c none)
  where
    first : is_some (binding p.0 ss) ≡ true
    first = (and_parts (is_some (binding p.0 ss)) (list_all (λ (s : ℕ × Val). is_some (binding s.0 ss)) ps) h).0

    rest : list_all (λ (s : ℕ × Val). is_some (binding s.0 ss)) ps ≡ true
    rest = (and_parts (is_some (binding p.0 ss)) (list_all (λ (s : ℕ × Val). is_some (binding s.0 ss)) ps) h).1

    by_cell : (t : Bool) → (p.0 == c) ≡ t → binding c ps ≡ None → (if t then Some p.1 else binding c ps) ≡ None
    by_cell false e others = others
    by_cell true e others =
        let cell : p.0 ≡ c = grind (arith, nat_tests, e) in
        let unbound : is_some (binding p.0 ss) ≡ false = ap (λ (n : ℕ). is_some (binding n ss)) cell ∙ ap (λ (o : Option Val). is_some o) none in
        absurd (let no : ⊥ = cc in no)

pub binds_is : (before : Option Suspended) (d : Suspended) → binds_before before d ≡ true → BindsBefore before d
binds_is None d h = tt
binds_is (Some p) d h = all_bind p.shadows d.shadows h

-- and each cell that is bound before is then found bound
each_bound : (ps ss : List (ℕ × Val)) → BindsAllOf ps ss → list_all (λ (s : ℕ × Val). is_some (binding s.0 ss)) ps ≡ true
each_bound [] ss h = refl
each_bound (p ∷ ps) ss h =
    and_from (is_some (binding p.0 ss)) (list_all (λ (s : ℕ × Val). is_some (binding s.0 ss)) ps) (first_some) (each_bound ps ss rest)
  where
    at_first : (if p.0 == p.0 then Some p.1 else binding p.0 ps) ≡ Some p.1
    at_first = let same : (p.0 == p.0) ≡ true = grind (arith, nat_tests) in ap (λ (t : Bool). if t then Some p.1 else binding p.0 ps) same

    first : (o : Option Val) → binding p.0 ss ≡ o → is_some o ≡ true
    first None none = let bound : None ≡ Some p.1 = sym (h p.0 none) ∙ at_first in absurd (let no : ⊥ = cc in no)
    first (Some v) is = refl

    first_some : is_some (binding p.0 ss) ≡ true
    first_some = first (binding p.0 ss) refl

    rest : BindsAllOf ps ss
    rest c none = by_cell (p.0 == c) (h c none)
      where
        by_cell : (t : Bool) → (if t then Some p.1 else binding c ps) ≡ None → binding c ps ≡ None
        by_cell true e = absurd (let no : ⊥ = cc in no)
        by_cell false e = e

pub binds_are : (before : Option Suspended) (d : Suspended) → BindsBefore before d → binds_before before d ≡ true
binds_are None d h = refl
binds_are (Some p) d h = each_bound p.shadows d.shadows h

-- ---- what is written is told so

pub form_told : (before : Option Suspended) (o : Option Named) (s : Named) (d : Suspended) → o ≡ Some s → RisesBefore before → IsStored (arena_of s.script) d → BindsBefore before d
    → told_by before o (Some (form_bytes before d)) ≡ told d
form_told before o s d is rises stored binds =
    ap (λ (x : Option Named). told_by before x (Some (form_bytes before d))) is ∙ ap told_as (forms_are_exact.back (arena_of s.script) before d rises stored binds)

-- a record of a page can be written with other bytes of its state, where a journal has room for it
pub bytes_fit : (b : Book) (c : Change) (s : Named) (state : Option (List ℕ)) (bytes : List ℕ) → script_for b c ≡ Some s → ChangeFits c state → length (body_of (changes c (Some bytes))) ≤ 2 ^ 30
    → ChangeFits c (Some bytes)
bytes_fit b (opens o) s None bytes is fits short = absurd fits
bytes_fit b (opens o) s (Some old) bytes is fits short =
    let long = (page_long (opening_page o bytes)).state in change_with (opens o) old bytes fits (omega (arith, long, short))
bytes_fit b (extends x) s None bytes is fits short = absurd fits
bytes_fit b (extends x) s (Some old) bytes is fits short =
    let long = (page_long (extension_page x bytes)).state in change_with (extends x) old bytes fits (omega (arith, long, short))
bytes_fit b (ends e) s state bytes is fits short = absurd (let no : ⊥ = cc in no)
bytes_fit b (finishes f) s state bytes is fits short = absurd (let no : ⊥ = cc in no)
bytes_fit b (sweeps tick) s state bytes is fits short = absurd (let no : ⊥ = cc in no)
