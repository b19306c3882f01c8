-- A record of format 1 whose script comes to its page again tells the state that its script leaves.
use Rattle.std.proofs.Common.{◌≡◌, ◌∙◌, ap, sym, subst, ℕ, Bool, true, false, List, [], Option, Some, None, if◌then◌else◌, slice_get, refl}
use Rattle.script_value.specs.declared.outcome.TxName.{TxName}
use Rattle.script_nodes.specs.Setup.{Named, Library}
use Rattle.replay_spec.specs.Book as spec
use Rattle.replay_spec.specs.Book.{Opening, Extension, Change, opens, extends, ends, finishes, sweeps}
use Rattle.replay_spec.specs.Admission.{◌>>=◌, Place}
use Rattle.replay_spec.specs.Invariant.{AreOrderly}
use Rattle.replay_spec.specs.Next.{comes_to}
use Rattle.replay_spec.specs.Recovery.{can_go, if_can_go, is_repeated, number_in, page_of_numbers, opening_visit, extension_visit, again, remade, taken_in}
use Rattle.replay_spec.specs.Tape.{present}
use Rattle.server_limits.specs.Limits.{most_fuel}
use Rattle.machine_states.specs.Machine.{Suspended}
use Rattle.frame_codec.specs.Forms.{form_bytes}
use Rattle.instance_book.specs.declared.book.Book.{Book}
use Rattle.instance_book.specs.Views.{Beside, book_of}
use Rattle.instance_book.specs.Standing.{book_under}
use Rattle.book_redo.specs.Redo.{HasToldStates}
use Rattle.journal_spec.specs.Before.{Made, plain, before_told}
use Rattle.journal_spec.specs.Retaking.{Told, unread, misread, told, told_in, if_held, held, landing, retaken}
use Rattle.journal_spec.specs.Making.{made, told_next}
use Rattle.journal_spec.specs.Lengths.{state_by, told_own, own_told}
use Rattle.journal_spec.specs.Copying.{inside_told, bytes_now}
use Rattle.journal_spec.specs.Whole.{HasWholeScripts}
use Rattle.journal_spec.proofs.Remaking.{Agrees, remade_agrees}
use Rattle.book_redo.specs.Again.{comes_again, CanRunAgain, IsLeftBy}
use Rattle.book_redo.specs.Renewing.{IsAsNewest}
use Rattle.book_redo.proofs.Anew.{before_beside, newest_under}

-- ---- what it lands with

held_agrees : (b : spec.Book) (c : Change) (names : List TxName) (x : Told) → Agrees b c names x → held b c (inside_told x) ≡ Some names
held_agrees b c names unread a = a.0 ∙ ap (λ (ns : List TxName). Some ns) (sym a.1)
held_agrees b c names misread a = absurd a
held_agrees b c names (told d) a = subst (λ (ns : List TxName). held b c ns ≡ Some names) (sym a.1) a.0

-- where the pages can't go that it evicts, it lands with no names
cannot : (t : Bool) (inside : List TxName) (o : Option (List TxName)) → (if t then Some inside else None) ≡ None → (if t then o else None) ≡ None
cannot true inside o e = absurd (let no : ⊥ = cc in no)
cannot false inside o e = refl

opens_not : (b : spec.Book) (o : Opening) (inside ns : List TxName) → comes_again b (opens o) ≡ Some inside → remade b (opens o) ≡ None → held b (opens o) ns ≡ None
opens_not b o inside ns = by_script (slice_get b.scripts o.script)
  where
    names : Named → Option (List TxName)
    names s = again o.kind o.effects o.left (comes_to (opening_visit b o s) (present s.script.cells most_fuel))

    by_script : (x : Option Named) → (x >>= names) ≡ Some inside → (x >>= (λ s. if_can_go o.evicted [] (names s))) ≡ None
        → (x >>= (λ s. if_can_go o.evicted [] (if_held o.effects s.script.cells ns))) ≡ None
    by_script None comes none = refl
    by_script (Some s) comes none = cannot (can_go o.evicted []) inside (if_held o.effects s.script.cells ns) (sym (ap (if_can_go o.evicted []) comes) ∙ none)

extends_not : (b : spec.Book) (x : Extension) (inside ns : List TxName) → comes_again b (extends x) ≡ Some inside → remade b (extends x) ≡ None → held b (extends x) ns ≡ None
extends_not b x inside ns = by_place (page_of_numbers b x.instance x.page)
  where
    names : Place → Option (List TxName)
    names at = again x.kind x.effects x.left (comes_to (extension_visit b x at) (present at.instance.cells most_fuel))

    by_place : (p : Option Place) → (p >>= names) ≡ Some inside → (p >>= (λ at. if_can_go x.evicted at.instance.used (names at))) ≡ None
        → (p >>= (λ at. if_can_go x.evicted at.instance.used (if_held x.effects at.instance.cells ns))) ≡ None
    by_place None comes none = refl
    by_place (Some at) comes none =
        cannot (can_go x.evicted at.instance.used) inside (if_held x.effects at.instance.cells ns) (sym (ap (if_can_go x.evicted at.instance.used) comes) ∙ none)

not_held : (b : spec.Book) (c : Change) (inside ns : List TxName) → comes_again b c ≡ Some inside → remade b c ≡ None → held b c ns ≡ None
not_held b (opens o) inside ns comes none = opens_not b o inside ns comes none
not_held b (extends x) inside ns comes none = extends_not b x inside ns comes none
not_held b (ends e) inside ns comes none = absurd (let no : ⊥ = cc in no)
not_held b (finishes f) inside ns comes none = absurd (let no : ⊥ = cc in no)
not_held b (sweeps tick) inside ns comes none = absurd (let no : ⊥ = cc in no)

-- it would land with the names of the state that its script leaves
abbrev LandsAs : spec.Book → Change → Type 0
LandsAs b c = remade b c ≡ held b c (inside_told (own_told b c))

lands_as : (b : spec.Book) (c : Change) (inside : List TxName) → HasWholeScripts b → AreOrderly (λ (n : ℕ). ⊥) b.instances → comes_again b c ≡ Some inside → LandsAs b c
lands_as b c inside whole orderly comes = by_names (remade b c) refl
  where
    by_names : (o : Option (List TxName)) → remade b c ≡ o → o ≡ held b c (inside_told (own_told b c))
    by_names None e = sym (not_held b c inside (inside_told (own_told b c)) comes e)
    by_names (Some names) e = sym (held_agrees b c names (own_told b c) (remade_agrees (λ (n : ℕ). ⊥) b c names whole orderly e))

-- ---- neither a run nor its state looks at a journal

lands_beside : (library : Library) (beside : Beside) (b : Book) (c : Change) → LandsAs (book_under library b) c → LandsAs (book_of library beside b) c
lands_beside library beside b (opens o) h = h
lands_beside library beside b (extends x) h = h
lands_beside library beside b (ends e) h = h
lands_beside library beside b (finishes f) h = h
lands_beside library beside b (sweeps tick) h = h

pub own_beside : (library : Library) (beside : Beside) (b : Book) (c : Change) → own_told (book_of library beside b) c ≡ own_told (book_under library b) c
own_beside library beside b (opens o) = refl
own_beside library beside b (extends x) = refl
own_beside library beside b (ends e) = refl
own_beside library beside b (finishes f) = refl
own_beside library beside b (sweeps tick) = refl

-- ---- it makes what one of the newest format makes

next_own : (place n : ℕ) (m : Made) (c : Change) → LandsAs m.book c → made (retaken n c (taken_in (plain m) c) (own_told m.book c) m) ≡ told_next place n m c (own_told m.book c)
next_own place n m c lands =
    let taken : taken_in (plain m) c ≡ landing m c (inside_told (own_told m.book c)) =
    ap (λ (o : Option (List TxName)). if is_repeated (number_in c) m.earlier.seen then None else o) lands in
    ap (λ (o : Option (List TxName)). made (retaken n c o (own_told m.book c) m)) taken ∙ by_state (state_by m.book c)
  where
    by_state : (o : Option Suspended) → made (retaken n c (landing m c (inside_told (told_own o))) (told_own o) m) ≡ told_next place n m c (told_own o)
    by_state None = refl
    by_state (Some d) = refl

pub comes_is : (library : Library) (b : Book) (c : Change) (bytes : List ℕ) (state : Option (List ℕ)) → CanRunAgain library b → IsLeftBy library b c (Some bytes) → IsAsNewest 1 library b c state (Some bytes)
comes_is library b c bytes state runs left =
    record {
      tells = λ m beside place n is states. says m beside is states;
      makes = λ m beside place n is states.
          next_own place n m c
          (subst (λ (y : spec.Book). LandsAs y c) (sym is) (lands_beside library beside b c (lands_as (book_under library b) c left.0.0 runs.whole runs.orderly left.0.1)))
          ∙ ap (told_next place n m c) (says m beside is states);
      bytes = λ m beside place n is states.
          let l = left.1 m.earlier states in
          ap (λ (bs : List ℕ). Some bs) l.spelled
          ∙ (ap (λ (o : Option Suspended). Some (form_bytes o l.state)) (sym (ap (λ (y : spec.Book). before_told m.earlier y c) is ∙ before_beside library beside m.earlier b c))
          ∙ sym (ap (bytes_now (before_told m.earlier m.book c) state) (its m beside is states)));
    }
  where
    its : (m : Made) (beside : Beside) (is : m.book ≡ book_of library beside b) (states : HasToldStates library.all m.earlier.states b) → own_told m.book c ≡ told (left.1 m.earlier states).state
    its m beside is states = ap (λ (y : spec.Book). own_told y c) is ∙ (own_beside library beside b c ∙ (left.1 m.earlier states).left)

    says : (m : Made) (beside : Beside) → m.book ≡ book_of library beside b → HasToldStates library.all m.earlier.states b → own_told m.book c ≡ told_in m.earlier m.book c (Some bytes)
    says m beside is states = its m beside is states ∙ sym (newest_under library b c (Some bytes) m beside is ∙ (left.1 m.earlier states).tells)
