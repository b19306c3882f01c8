-- What a record tells of its page's state, and what the page's script leaves there.
use Rattle.std.proofs.Common.{◌≡◌, ◌∙◌, ap, sym, subst, ℕ, ◌==◌, List, Bool, true, false, Option, Some, None, slice_get, refl, if◌then◌else◌}
use Rattle.std.specs.Prelude.{◌↔◌, IsTrue}
use Rattle.std.specs.Bool.{Decides}
use Rattle.script_nodes.specs.Setup.{Named, Library}
use Rattle.replay_spec.specs.Book as spec
use Rattle.replay_spec.specs.Book.{Change, opens, extends, ends, finishes, sweeps}
use Rattle.replay_spec.specs.Admission.{◌>>=◌, Place}
use Rattle.replay_spec.specs.Recovery.{page_of_numbers}
use Rattle.book_redo.specs.MachineStates.Machine.{Suspended}
use Rattle.book_redo.specs.MachineStates.Views.{suspended_of}
use Rattle.book_redo.specs.MachineStates.declared.frame.Suspended as stored
use Rattle.book_redo.specs.JournalSpec.Before.{Made}
use Rattle.book_redo.specs.JournalSpec.Retaking.{Told, told, script_for}
use Rattle.book_redo.specs.JournalSpec.Lengths.{state_by, told_own}
use Rattle.book_redo.specs.JournalSpec.Old.{told_at}
use Rattle.book_redo.specs.InstanceBook.declared.book.Book.{Book}
use Rattle.book_redo.specs.InstanceBook.Views.{Beside, book_of}
use Rattle.book_redo.specs.InstanceBook.Standing.{book_under}
use Rattle.book_redo.specs.Again.{ComesAgain}
use Rattle.book_redo.specs.Told.{told_for}
use Rattle.audit_spec.specs.Tests.{holds_of, runs_so, same_state, tells_state, tells_own}
use Rattle.audit_spec.proofs.SameStates.{state_decides}
use Rattle.record_audit.proofs.Beside.{TestsAlike, beside_alike}
use Rattle.record_audit.proofs.Pages.{IsPage}

-- ---- a change whose script runs so comes to its page again, and has a script

held : {A : Type 0} (test : A → Bool) (o : Option A) → holds_of test o ≡ true → (x : A) × (o ≡ Some x)
held test None h = absurd (let never : ⊥ = cc in never)
held test (Some x) h = (x, refl)

pub script_there : (b : spec.Book) (c : Change) → IsPage c → runs_so b c ≡ true → (s : Named) × (script_for b c ≡ Some s)
script_there b (opens o) page so = held _ (slice_get b.scripts o.script) so
script_there b (extends x) page so =
    let at = held _ (page_of_numbers b x.instance x.page) so in (at.0.instance.script, ap (λ (o : Option Place). o >>= (λ y. Some y.instance.script)) at.1)
script_there b (ends e) page so = absurd page
script_there b (finishes f) page so = absurd page
script_there b (sweeps tick) page so = absurd page

-- ---- the state that is told is the one that is left

told_or : Suspended → Told → Suspended
told_or z (told d) = d
told_or z _ = z

state_is : (o : Option Suspended) (d : Suspended) → told_own o ≡ told d → o ≡ Some d
unfolding told_or
state_is None d h = absurd (let never : ⊥ = cc in never)
state_is (Some e) d h = ap (λ (x : Suspended). Some x) (ap (told_or d) h)

same_test : (P : Type 0) (r t : Bool) → (IsTrue r ↔ P) → Decides t P → r ≡ t
same_test P true t says decides = sym (decides.1 (says.0 refl))
same_test P false true says decides = says.1 (decides.0 refl)
same_test P false false says decides = refl

later_format : (format : ℕ) (t : Bool) → (format == 1) ≡ false → (if format == 1 then true else t) ≡ t
later_format format t h = rw h refl

module _ (format : ℕ) (library : Library) (b : Book) (c : Change) (page : IsPage c) (later : (format == 1) ≡ false) (so : runs_so (book_under library b) c ≡ true) (m : Made) (beside : Beside)
    (made : m.book ≡ book_of library beside b) (state : List ℕ) where
  like : TestsAlike m.book (book_under library b) c
  like = subst (λ (x : spec.Book). TestsAlike x (book_under library b) c) (sym made) (beside_alike library beside b c)

  named : (s : Named) × (script_for (book_under library b) c ≡ Some s)
  named = script_there (book_under library b) c page so

  script : script_for m.book c ≡ Some named.0
  unfolding like
  script = like.script ∙ named.1

  -- where the record tells no state it does not tell the one that is left
  pub none_told : told_at format m.earlier m.book c (Some state) ≡ told_for (script_for m.book c) None → tells_own format m c (Some state) ≡ false
  none_told is =
      later_format format (tells_state (told_at format m.earlier m.book c (Some state)) (state_by m.book c)) later
      ∙ ap (λ (x : Told). tells_state x (state_by m.book c)) (is ∙ ap (λ (o : Option Named). told_for o None) script)

  -- and else it does where the two are the same
  pub some_told : (d e : stored.Suspended) (r : Bool) → told_at format m.earlier m.book c (Some state) ≡ told_for (script_for m.book c) (Some (suspended_of d))
      → ComesAgain (book_under library b) c (suspended_of e) → (IsTrue r ↔ (suspended_of d ≡ suspended_of e)) → r ≡ tells_own format m c (Some state)
  unfolding like
  some_told d e r is left same =
      let its : told_at format m.earlier m.book c (Some state) ≡ told (suspended_of d) = is ∙ ap (λ (o : Option Named). told_for o (Some (suspended_of d))) script in
      let leaves : state_by m.book c ≡ Some (suspended_of e) = like.state ∙ state_is (state_by (book_under library b) c) (suspended_of e) left.state in
      let tests : tells_own format m c (Some state) ≡ same_state (suspended_of d) (suspended_of e) =
      later_format format (tells_state (told_at format m.earlier m.book c (Some state)) (state_by m.book c)) later
      ∙ (ap (λ (x : Told). tells_state x (state_by m.book c)) its ∙ ap (λ (o : Option Suspended). tells_state (told (suspended_of d)) o) leaves) in
      same_test (suspended_of d ≡ suspended_of e) r (same_state (suspended_of d) (suspended_of e)) same (state_decides (suspended_of d) (suspended_of e)) ∙ sym tests
