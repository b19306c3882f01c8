-- What a publish records can be written.
use Rattle.std.proofs.Common.{◌≡◌, ℕ, ◌+◌, List, length, Bool, true, false, Option, Some, None, refl, subst, arith}
use Rattle.std.specs.Prelude.{if◌then◌else◌}
use Rattle.script_value.specs.declared.outcome.TxName.{TxName}
use Rattle.replay_spec.specs.Book.{Change, opens, extends, ends, finishes, sweeps, Book}
use Rattle.replay_spec.specs.Rules.{Rules}
use Rattle.replay_spec.specs.Admission.{◌>>=◌, admit}
use Rattle.replay_spec.specs.Next.{Ticket}
use Rattle.replay_spec.specs.Step.{publish, Reply, Decision, records, unless, barred, decide}
use Rattle.replay_spec.specs.Laws.{IsLawful}
use Rattle.replay_spec.proofs.Barred.{not_barred}
use Rattle.replay_spec.proofs.Stand.{among_of}
use Rattle.replay_spec.proofs.Going.{Records}
use Rattle.replay_spec.specs.Recovery.{remade}
use Rattle.replay_spec.proofs.Orderly.{recorded_orderly}
use Rattle.replay_spec.proofs.Again.{recorded_remade}
use Rattle.replay_spec.proofs.Admitted.{came_from}
use Rattle.machine_states.specs.Machine.{Suspended}
use Rattle.kept_states.specs.FrameCodec.Spelling.{StateHasBytes}
use Rattle.kept_states.specs.FrameCodec.Forms.{form_bytes}
use Rattle.journal_spec.specs.Lengths.{state_by, own_before, is_shallow_state, told_bytes, state_told}
use Rattle.journal_spec.specs.Making.{has_script}
use Rattle.journal_spec.specs.Whole.{IsSpelledState}
use Rattle.journal_spec.specs.Spelling.{IsInRange, AreLimits, IsTicket, StateFits, WhatIsRecordedIsSpelled}
use Rattle.std.specs.Prelude.{slice_get}
use Rattle.std.proofs.lemmas.Bool.Decides.{nat_tests}
use Rattle.std.proofs.lemmas.Option.{slice_get_within}
use Rattle.journal_spec.proofs.Brief.{Tells, Comes, published_comes, IsShort, short}
use Rattle.journal_spec.proofs.Grammar.{TellsInRange, IsToldWith, state_low, in_grammar}

-- what is recorded was decided on a shelf that is up, and does not follow
up_and_decided : (b : Book) (o : Option Reply) (d : Decision) (r : Reply) (c : Change) (inside : List TxName) → barred b ≡ o → unless o d ≡ records r c inside
    → (b.down ≡ None) × (b.follows ≡ false) × (d ≡ records r c inside)
up_and_decided b None d r c inside is e = let up = not_barred b is in (up.0, up.1, e)
up_and_decided b (Some x) d r c inside is e = absurd (let no : ⊥ = cc in no)

-- what a change tells on a book in range is such as records tell
tells_range : (rules : Rules) (b : Book) (t : Ticket) (c : Change) → IsInRange b → AreLimits rules b.scripts → IsTicket b t → Tells t (b.clock + rules.life) c → TellsInRange c
tells_range rules b t (opens o) range limits ticket tells = (let n = ticket.nonce in omega (arith, tells.0, n), omega (arith, tells.1, range.clock, limits.life), tells.2)
tells_range rules b t (extends x) range limits ticket tells = (let n = ticket.nonce in omega (arith, tells.0, n), omega (arith, tells.1, range.clock, limits.life))
tells_range rules b t (ends e) range limits ticket tells = tt
tells_range rules b t (finishes f) range limits ticket tells = tt
tells_range rules b t (sweeps tick) range limits ticket tells = absurd tells

-- just a change that shows a page has a state
told_with : (b : Book) (c : Change) → IsToldWith c (state_told b c)
told_with b (opens o) = tt
told_with b (extends x) = tt
told_with b (ends e) = tt
told_with b (finishes f) = tt
told_with b (sweeps tick) = tt

-- the state of a page whose record is short has a spelling
page_spelled : (c : Change) (before x : Option Suspended) → ((state : List ℕ) → IsToldWith c (Some state)) → (IsShort c None → ⊥) → IsShort c (x >>= told_bytes before) → StateFits before x
    → IsSpelledState x
page_spelled c before None with some brief fits = tt
page_spelled c before (Some d) with some brief fits = by_test (is_shallow_state d) refl brief
  where
    by_test : (t : Bool) → is_shallow_state d ≡ t → IsShort c (if t then Some (form_bytes before d) else None) → StateHasBytes d
    by_test true e brief = fits e (let low = state_low c (form_bytes before d) (with (form_bytes before d)) brief in omega (arith, low))
    by_test false e brief = absurd (some brief)

state_spelled : (b : Book) (c : Change) → IsShort c (state_told b c) → StateFits (own_before b c) (state_by b c) → IsSpelledState (state_by b c)
state_spelled b (opens o) brief fits =
    page_spelled (opens o) (own_before b (opens o)) (state_by b (opens o)) (λ state. tt) (λ none. let no = none.has in let not : ⊥ = cc in not) brief fits
state_spelled b (extends x) brief fits =
    page_spelled (extends x) (own_before b (extends x)) (state_by b (extends x)) (λ state. tt) (λ none. let no = none.has in let not : ⊥ = cc in not) brief fits
state_spelled b (ends e) brief fits = tt
state_spelled b (finishes f) brief fits = tt
state_spelled b (sweeps tick) brief fits = tt

-- what would be made again is of a script that is there
remade_script : (b : Book) (c : Change) (names : List TxName) → remade b c ≡ Some names → has_script (length b.scripts) c ≡ true
remade_script b (opens o) names e =
    let s = came_from (slice_get b.scripts o.script) _ names e in
    let within = slice_get_within b.scripts o.script s.0 s.1.0 in
    grind (arith, nat_tests, within)
remade_script b (extends x) names e = refl
remade_script b (ends x) names e = refl
remade_script b (finishes f) names e = refl
remade_script b (sweeps tick) names e = refl

pub recorded_spelled : WhatIsRecordedIsSpelled
recorded_spelled shelf rules b t r c inside journal less g whole range limits ticket is parts fits =
    let decided = up_and_decided b (barred b) (decide rules b t (admit b t.target)) r c inside refl is in
    let h : Records (IsLawful (publish t) b) rules b t c inside = record { out = among_of b.out t.number; up = decided.0; unfed = decided.1; reply = r; decided = decided.2 } in
    let taken = recorded_remade rules b t c inside less g whole h in
    let it = recorded_orderly rules b t c inside g h in
    let comes : Comes rules b t (records r c inside) = subst (Comes rules b t) is (published_comes rules b t) in
    let brief = short shelf rules.journal b c journal comes.1 in
    record {
      body =
          in_grammar b g range limits.few t.number ticket.out c (state_told b c) it.1 it.0 (remade_script b c taken.0 taken.1.0) (tells_range rules b t c range limits ticket comes.0)
          (told_with b c) brief parts;
      state = state_spelled b c brief fits;
    }
