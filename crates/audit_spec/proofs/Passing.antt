-- What holds of a record that has no word: each test holds.
use Rattle.std.proofs.Common.{◌≡◌, ◌==◌, ℕ, Bool, true, false, List, Option, Some, None, refl, sym, ap, subst}
use Rattle.std.specs.Prelude.{not, if◌then◌else◌}
use Rattle.replay_spec.specs.Book.{Change}
use Rattle.replay_spec.specs.Recovery.{number_in, is_repeated}
use Rattle.machine_states.specs.Machine.{Suspended}
use Rattle.journal_records.specs.Records.{Record, begins, changes, renews, draws, follows, promotes}
use Rattle.journal_spec.specs.Before.{Made}
use Rattle.journal_spec.specs.Retaking.{Told, unread, misread, told}
use Rattle.journal_spec.specs.Lengths.{state_by, told_own, own_told}
use Rattle.journal_spec.specs.Old.{told_at, told_of}
use Rattle.journal_spec.specs.Owning.{IsOwnState, IsOwnRecordIn}
use Rattle.journal_spec.proofs.Kept.{is_own}
use Rattle.audit_spec.specs.declared.word.Word.{Word}
use Rattle.audit_spec.specs.declared.word.Word.TheVariants as word
use Rattle.audit_spec.specs.Tests.{goes_on, is_admitted, runs_so, least_go, is_in_time, tells_state, tells_own}
use Rattle.audit_spec.specs.Findings.{fault_in, fault_of}
use Rattle.audit_spec.proofs.SameStates.{state_decides}

-- each test of the record of a change holds
pub record AllHold (format : ℕ) (m : Made) (c : Change) (state : Option (List ℕ)) : Type 0 where
  pub goes : goes_on m.book c ≡ true
  pub fresh : is_repeated (number_in c) m.earlier.seen ≡ false
  pub admitted : is_admitted m.book c ≡ true
  pub runs : runs_so m.book c ≡ true
  pub least : least_go m.book c ≡ true
  pub timely : is_in_time m.book c ≡ true
  pub own : tells_own format m c state ≡ true

unless_told : (b : Bool) (w : Word) (o : Option Word) → (if not b then Some w else o) ≡ None → (b ≡ true) × (o ≡ None)
unless_told true w o h = (refl, h)
unless_told false w o h = absurd (let no : ⊥ = cc in no)

if_told : (b : Bool) (w : Word) (o : Option Word) → (if b then Some w else o) ≡ None → (b ≡ false) × (o ≡ None)
if_told true w o h = absurd (let no : ⊥ = cc in no)
if_told false w o h = (refl, h)

pub all_hold : (format : ℕ) (m : Made) (c : Change) (state : Option (List ℕ)) → fault_in format m c state ≡ None → AllHold format m c state
all_hold format m c state h =
    let goes = unless_told (goes_on m.book c) word.Sweep _ h in
    let fresh = if_told (is_repeated (number_in c) m.earlier.seen) word.Number _ goes.1 in
    let admitted = unless_told (is_admitted m.book c) word.Target _ fresh.1 in
    let runs = unless_told (runs_so m.book c) word.Run _ admitted.1 in
    let least = unless_told (least_go m.book c) word.Evicted _ runs.1 in
    let timely = unless_told (is_in_time m.book c) word.Deadline _ least.1 in
    let own = unless_told (tells_own format m c state) word.State None timely.1 in
    record { goes = goes.0; fresh = fresh.0; admitted = admitted.0; runs = runs.0; least = least.0; timely = timely.0; own = own.0 }

-- ---- states

-- what is told is the state, or nothing of a page that has none
pub told_is : (x : Told) (o : Option Suspended) → tells_state x o ≡ true → x ≡ told_own o
told_is unread None h = refl
told_is unread (Some e) h = absurd (let no : ⊥ = cc in no)
told_is misread None h = absurd (let no : ⊥ = cc in no)
told_is misread (Some e) h = absurd (let no : ⊥ = cc in no)
told_is (told d) None h = absurd (let no : ⊥ = cc in no)
told_is (told d) (Some e) h = ap told ((state_decides d e).0 h)

told_by_test : (one : Bool) (x : Told) (o : Option Suspended) → (if one then true else tells_state x o) ≡ true → (if one then told_own o else x) ≡ told_own o
told_by_test true x o h = refl
told_by_test false x o h = told_is x o h

-- what is told of a record's page is the state that its script leaves
pub told_is_own : (format : ℕ) (m : Made) (c : Change) (state : Option (List ℕ)) → tells_own format m c state ≡ true → told_of format m c state ≡ own_told m.book c
told_is_own format m c state h = told_by_test (format == 1) (told_at format m.earlier m.book c state) (state_by m.book c) h

pub own_of_passing : (format : ℕ) (m : Made) (c : Change) (state : Option (List ℕ)) → AllHold format m c state → IsOwnState m.book c (told_of format m c state)
own_of_passing format m c state p =
    subst (IsOwnState m.book c) (sym (told_is_own format m c state p.own)) (is_own m.book c (state_by m.book c) refl)

-- a record that has no word tells the state that its script leaves
pub own_of_none : (format : ℕ) (m : Made) (r : Option Record) → fault_of format m r ≡ None → IsOwnRecordIn format m r
own_of_none format m None h = tt
own_of_none format m (Some (begins s named)) h = tt
own_of_none format m (Some (changes c state)) h = own_of_passing format m c state (all_hold format m c state h)
own_of_none format m (Some (renews named)) h = tt
own_of_none format m (Some (draws number)) h = tt
own_of_none format m (Some follows) h = tt
own_of_none format m (Some promotes) h = tt
