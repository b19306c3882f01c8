-- What is copied of a file that passes, passes.
use Rattle.std.proofs.Common.{◌≡◌, ℕ, List, [], ◌∷◌, map, length, slice_get, Option, Some, None, true, false, refl, sym, ap, subst, ◌∙◌}
use Rattle.std.specs.Prelude.{⊤, nat_lt}
use Rattle.script_nodes.specs.Setup.{Named}
use Rattle.instance_cells.specs.Cells.{reads_of}
use Rattle.replay_spec.specs.Tape.{recorded}
use Rattle.replay_spec.specs.Book.{Instance, Change, opens, extends, ends, finishes, sweeps, Book}
use Rattle.replay_spec.specs.Admission.{◌>>=◌, Place}
use Rattle.replay_spec.specs.Next.{tape_for}
use Rattle.replay_spec.specs.Recovery.{number_in, is_repeated, page_of_numbers, opening_visit, extension_visit}
use Rattle.replay_spec.proofs.Admitted.{when_is}
use Rattle.machine_states.specs.Machine.{Suspended, inside_of}
use Rattle.journal_records.specs.Records.{Record, begins, changes, renews, draws, follows, promotes, body_of}
use Rattle.journal_records.specs.Reading.{read_record}
use Rattle.journal_records.specs.Old.{read_record_in}
use Rattle.journal_records.specs.Laws.{AreRecordsExact}
use Rattle.journal_spec.specs.Before.{Earlier, Made}
use Rattle.journal_spec.specs.Retaking.{Told, unread, misread, told, told_as, told_by, told_in, IsLanded}
use Rattle.journal_spec.specs.Lengths.{state_over, state_by}
use Rattle.journal_spec.specs.Making.{nothing, made_in}
use Rattle.journal_spec.specs.Old.{format_of_now, book_of_format}
use Rattle.journal_spec.specs.Owning.{IsOwnState, IsOwnRecord, AreOwnIn, IsLandedRecord}
use Rattle.journal_spec.specs.Copying.{inside_told, Entry, tells, settles, body_in, entries, entries_joined, copies, begin_in}
use Rattle.journal_spec.proofs.Retaken.{landing_is}
use Rattle.journal_spec.proofs.OwnStates.{HoldsEntry, HoldIn, held_from}
use Rattle.journal_spec.proofs.Copied.{IsCarried}
use Rattle.journal_spec.proofs.Joining.{Alike}
use Rattle.journal_spec.proofs.OwnEntries.{IsJoined}
use Rattle.journal_spec.proofs.Rewriting.{known_comes, copies_own}
use Rattle.audit_spec.specs.Tests.{tells_state}
use Rattle.audit_spec.specs.Honest.{CompactedJournalsPass}
use Rattle.audit_spec.proofs.Passing.{all_hold, own_of_none}
use Rattle.audit_spec.proofs.HonestTests.{IsFair, fair_like, fair_live}
use Rattle.audit_spec.proofs.HonestLines.{fair_sweep}
use Rattle.audit_spec.proofs.Held.{made_held}
use Rattle.audit_spec.proofs.HonestFound.{IsClear, each_clear, finds_nothing, yes_is_clear}
use Rattle.audit_spec.proofs.HonestFiles.{no_fault, tells_itself}

-- ---- the tests of the book are carried to copies

-- the record of a change passes the tests of the book that those before it make
abbrev IsFairRecord : Made → Option Record → Type 0
IsFairRecord m (Some (changes c state)) = IsFair m.book c
IsFairRecord m _ = ⊤

carried : (f : ℕ) (ls : List Instance) → IsCarried f ls IsFairRecord IsFairRecord
carried f ls = record {
  setups = λ k named. tt;
  stays = λ m k c state bytes h stay same fair. fair_live m.book k.book ls c h.shelf h.scripts h.clock h.instances stay fair;
}

fair_alike : (e : Entry) (m k : Made) → Alike m k → HoldsEntry IsFairRecord m e → HoldsEntry IsFairRecord k e
fair_alike (settles scripts body) m k h held = λ named. tt
fair_alike (tells c state body) m k h fair = fair_like m.book k.book c h.like fair

joined : IsJoined IsFairRecord
joined = record {
  alike = fair_alike;
  sweeps = λ m tick state body (names, (f, sure)).
      fair_sweep m.book tick (when_is (nat_lt m.book.clock tick) [] names (landing_is m (sweeps tick) (inside_told (told_in m.earlier m.book (sweeps tick) state)) names f).0).0;
  drawn = λ k number. tt;
}

fair_of : (format : ℕ) (m : Made) (r : Option Record) → IsClear format m r → IsFairRecord m r
fair_of format m None h = tt
fair_of format m (Some (begins s named)) h = tt
fair_of format m (Some (renews named)) h = tt
fair_of format m (Some (draws number)) h = tt
fair_of format m (Some follows) h = tt
fair_of format m (Some promotes) h = tt
fair_of format m (Some (changes c state)) h =
    let p = all_hold format m c state h in λ i. p.goes i ∷ (p.admitted i ∷ (p.runs i ∷ (p.least i ∷ (p.timely i ∷ []))))

-- ---- a record that lands with an own state has no word

-- bytes are read of a page whose script is there
no_script : (before : Option Suspended) (o : Option Named) (state : Option (List ℕ)) → told_by before o state ≡ unread → o ≡ None
no_script before None state e = refl
no_script before (Some s) None e = absurd (let never : ⊥ = cc in never)
no_script before (Some s) (Some bytes) e = absurd (by_state (_) e)
  where
    by_state : (d : Option Suspended) → told_as d ≡ unread → ⊥
    by_state None f = let never : ⊥ = cc in never
    by_state (Some d) f = let never : ⊥ = cc in never

no_place : (o : Option Place) → (o >>= (λ at. Some at.instance.script)) ≡ None → o ≡ None
no_place None e = refl
no_place (Some at) e = absurd (let never : ⊥ = cc in never)

-- where nothing is read of a change's page, it has no state
unread_none : (earlier : Earlier) (b : Book) (c : Change) (state : Option (List ℕ)) → told_in earlier b c state ≡ unread → state_by b c ≡ None
unread_none earlier b (opens o) state e =
    ap (λ (x : Option Named). x >>= (λ s. state_over s.script (tape_for (opening_visit b o s) (recorded (reads_of o.effects))))) (no_script None (slice_get b.scripts o.script) state e)
unread_none earlier b (extends x) state e =
    ap (λ (o : Option Place). o >>= (λ at. state_over at.instance.script.script (tape_for (extension_visit b x at) (recorded (reads_of x.effects)))))
    (no_place (page_of_numbers b x.instance x.page) (no_script _ (page_of_numbers b x.instance x.page >>= (λ at. Some at.instance.script)) state e))
unread_none earlier b (ends x) state e = refl
unread_none earlier b (finishes f) state e = refl
unread_none earlier b (sweeps tick) state e = refl

new_of : (k : Made) (c : Change) (x : Told) → IsLanded k c x → is_repeated (number_in c) k.earlier.seen ≡ false
new_of k c unread h = (landing_is k c [] [] h).1
new_of k c misread h = absurd h
new_of k c (told d) h = (landing_is k c (inside_of d.frames) (inside_of d.frames) h).1

tells_of : (k : Made) (c : Change) (state : Option (List ℕ)) (x : Told) → told_in k.earlier k.book c state ≡ x → IsOwnState k.book c x → IsLanded k c x → tells_state x (state_by k.book c) ≡ true
tells_of k c state unread e own landed = ap (tells_state unread) (unread_none k.earlier k.book c state e)
tells_of k c state misread e own landed = absurd landed
tells_of k c state (told d) e own landed = ap (tells_state (told d)) own ∙ tells_itself (Some d)

clear_of : (k : Made) (r : Option Record) → IsFairRecord k r → IsOwnRecord k r → IsLandedRecord k r → IsClear 6 k r
clear_of k None fair own landed = refl
clear_of k (Some (begins s named)) fair own landed = refl
clear_of k (Some (renews named)) fair own landed = refl
clear_of k (Some (draws number)) fair own landed = refl
clear_of k (Some follows) fair own landed = refl
clear_of k (Some promotes) fair own landed = refl
clear_of k (Some (changes c state)) fair own landed =
    let x = told_in k.earlier k.book c state in no_fault 6 k c state fair (new_of k c x landed) (tells_of k c state x refl own landed)

-- ---- all copies

pub copies_pass : AreRecordsExact → CompactedJournalsPass
copies_pass x format texts shelf [] m can bytes makes leads says = absurd (let never : ⊥ = cc in never)
copies_pass x format texts shelf (first ∷ bodies) m can bytes makes leads says =
    let all = first ∷ bodies in
    let clear = each_clear format texts shelf all (made_held (book_of_format format texts shelf all) m makes) (yes_is_clear format texts shelf first bodies m (length all) makes says) in
    let fair : HoldIn IsFairRecord format texts shelf all = λ front rest body k is made. fair_of format k (read_record_in format body) (clear front rest body k is made) in
    let own : AreOwnIn format texts shelf all = λ front rest body k is made. own_of_none format k (read_record_in format body) (clear front rest body k is made) in
    let r = known_comes x (λ f. IsFairRecord) IsFairRecord joined texts shelf all m (λ f. carried f m.book.instances) bytes leads format can.known can.anew makes can.room in
    let o = copies_own x format texts shelf all m r.k can bytes makes leads r.makes in
    let others = copies format texts shelf all m in
    let rest = body_of (draws m.book.logged) ∷ map body_in (entries_joined (entries format m.book.instances texts shelf 8 all nothing)) in
    let now : HoldIn (IsClear 6) 6 texts shelf others =
    λ front later body k is made.
    let here = ap made_in (sym (format_of_now texts shelf front)) ∙ made in
    subst (IsClear 6 k) (sym (x.newest body))
    (clear_of k (read_record body) (r.held fair front later body k is here) (o.own own front later body k is here) (r.landed front later body k is here)) in
    finds_nothing 6 texts shelf (begin_in all) rest r.k (ap made_in (format_of_now texts shelf others) ∙ r.makes) (held_from (IsClear 6) 6 texts shelf others now [] others 8 nothing refl (λ bs. refl))
