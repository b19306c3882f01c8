-- What the events of a run land can be written, and so can what is then in doubt.
use Rattle.std.proofs.Common.{◌≡◌, ◌<◌, ◌^◌, ℕ, List, [], length, Option, Some, None, Bool, true, false, refl, sym, subst, arith, if◌then◌else◌}
use Rattle.std.specs.Prelude.{nat_le, nat_lt, ⊤}
use Rattle.replay_spec.specs.Book.{Change, sweeps, landing, Doubt, Book, spend}
use Rattle.replay_spec.specs.Rules.{Rules}
use Rattle.replay_spec.specs.Change.{land}
use Rattle.replay_spec.specs.Compaction.{compacted_length, rewritten}
use Rattle.replay_spec.specs.Admission.{when, admit}
use Rattle.replay_spec.specs.Next.{Ticket}
use Rattle.replay_spec.specs.Step.{Event, take, publish, sweep, compact, crash, Fate, plain, no_memory, disk_fault, lost, kept, Reply, Decision, replies, records, compacts, unless, barred, full_journal, decide, decide_sweep, decide_compact, freed, most_of_journal, fate_of, carried_out, in_doubt, settle, publish_comes, sweep_comes, compact_comes, no_take, take_unless, take_by, swept, step}
use Rattle.replay_spec.specs.Runs.{doubted, recorded_under, kept_under, lands}
use Rattle.replay_spec.specs.Invariant.{IsOrderly}
use Rattle.replay_spec.specs.Laws.{IsLawful, Moment, then_book}
use Rattle.replay_spec.specs.Remade.{NameTheirCells}
use Rattle.journal_records.specs.Fields.{numbers_end}
use Rattle.journal_records.specs.Records.{changes, body_of, IsInGrammar}
use Rattle.journal_spec.specs.Making.{Texts}
use Rattle.journal_spec.specs.Whole.{IsSpelledState}
use Rattle.journal_spec.specs.Spelling.{IsInRange}
use Rattle.journal_spec.specs.Events.{CanLand, IsTypedDecision, IsMet}
use Rattle.journal_spec.proofs.Brief.{moved_state, moved_told, Comes, published_comes, short}
use Rattle.replay_spec.proofs.Barred.{not_barred}
use Rattle.journal_spec.proofs.Spelled.{recorded_spelled}

-- what can land on a book can land where other numbers are drawn and out, and whatever is in doubt
can_moved : (b : Book) (drawn : ℕ) (out : List ℕ) (down : Option Doubt) (o : Option Change) → CanLand b o → CanLand (record b { drawn = drawn; out = out; down = down }) o
can_moved b drawn out down None h = tt
can_moved b drawn out down (Some c) h =
    let told = sym (moved_told b drawn out down c) in (
      record {
        body = subst (λ (s : Option (List ℕ)). IsInGrammar (changes c s)) told h.0.body;
        state = subst IsSpelledState (sym (moved_state b drawn out down c)) h.0.state;
      },
      subst (λ (s : Option (List ℕ)). length (body_of (changes c s)) < 2 ^ 63) told h.1,
    )

-- what is in doubt on a book can land
abbrev pub CanLandDoubt : Book → Type 0
CanLandDoubt b = CanLand b (doubted b.down)

-- what is decided can land
abbrev CanDecide : Book → Decision → Type 0
CanDecide b (records r c inside) = CanLand b (Some c)
CanDecide b _ = ⊤

decided_lands : (b : Book) (fate : Fate) (d : Decision) → CanDecide b d → CanLand b (recorded_under fate d)
decided_lands b no_memory d h = tt
decided_lands b (disk_fault count) d h = tt
decided_lands b plain (replies r) h = tt
decided_lands b lost (replies r) h = tt
decided_lands b kept (replies r) h = tt
decided_lands b plain (records r c inside) h = h
decided_lands b lost (records r c inside) h = h
decided_lands b kept (records r c inside) h = h
decided_lands b plain (compacts r) h = tt
decided_lands b lost (compacts r) h = tt
decided_lands b kept (compacts r) h = tt

-- a publish decides what can land
published_can : (texts : Texts) (shelf : ℕ) (m : Moment) (b : Book) (t : Ticket) → IsMet texts shelf (record m { event = publish t }) b
    → IsLawful (publish t) b → IsOrderly b → NameTheirCells b → IsInRange b → CanDecide b (publish_comes m.rules b t)
published_can texts shelf m b t met lawful g whole range = by_decision (publish_comes m.rules b t) refl met.typed.1
  where
    by_decision : (d : Decision) → publish_comes m.rules b t ≡ d → IsTypedDecision b d → CanDecide b d
    by_decision (replies r) e typed = tt
    by_decision (compacts r) e typed = tt
    by_decision (records r c inside) e typed =
        let comes : Comes m.rules b t (records r c inside) = subst (Comes m.rules b t) e (published_comes m.rules b t) in
        let low = (short shelf m.rules.journal b c met.journal comes.1).low in (
          recorded_spelled shelf m.rules b t r c inside met.journal met.fuel g whole range met.limits (record { out = lawful; nonce = met.typed.0 }) e typed.0 typed.1,
          omega (arith, low),
        )

-- a tick can be told
tick_can : (b : Book) (tick : ℕ) → tick < numbers_end → CanLand b (Some (sweeps tick))
tick_can b tick below = (record { body = below; state = tt }, omega arith)

swept_can : (rules : Rules) (b : Book) (tick : ℕ) → tick < numbers_end → CanDecide b (sweep_comes rules b tick)
swept_can rules b tick below = by_tests (barred b) (full_journal rules.journal b (sweeps tick))
  where
    by_tests : (o p : Option Reply) → CanDecide b (unless o (unless p (records (swept (freed tick b)) (sweeps tick) [])))
    by_tests (Some r) p = tt
    by_tests None (Some r) = tt
    by_tests None None = tick_can b tick below

compacted_can : (rules : Rules) (b : Book) → CanDecide b (compact_comes rules b)
compacted_can rules b = by_tests (barred b) (when (nat_lt most_of_journal (compacted_length rules.journal b)) (Reply.journal_full (compacted_length rules.journal b)))
  where
    by_tests : (o p : Option Reply) → CanDecide b (unless o (unless p (compacts (Reply.compacted (compacted_length rules.journal b)))))
    by_tests (Some r) p = tt
    by_tests None (Some r) = tt
    by_tests None None = tt

-- what an event lands can be written, where what is in doubt could
pub lands_can : (texts : Texts) (shelf : ℕ) (m : Moment) (b : Book) → IsMet texts shelf m b → IsLawful m.event b → IsOrderly b → NameTheirCells b → IsInRange b
    → CanLandDoubt b → CanLand b (lands m.rules b m.event m.fate)
lands_can texts shelf m b met lawful g whole range doubt = by_event m.event met lawful
  where
    if_late : (tick : ℕ) (late : Bool) → CanLand b (recorded_under (fate_of m.rules.journal m.fate) (sweep_comes m.rules b tick))
        → CanLand b (if late then None else recorded_under (fate_of m.rules.journal m.fate) (sweep_comes m.rules b tick))
    if_late tick true h = tt
    if_late tick false h = h

    by_fate : (fate : Fate) → CanLand b (kept_under fate b.down)
    by_fate kept = doubt
    by_fate plain = tt
    by_fate no_memory = tt
    by_fate (disk_fault count) = tt
    by_fate lost = tt

    by_event : (event : Event) → IsMet texts shelf (record m { event = event }) b → IsLawful event b → CanLand b (lands m.rules b event m.fate)
    by_event (take target answer) met lawful = tt
    by_event (publish t) met lawful =
        decided_lands b (fate_of m.rules.journal m.fate) (publish_comes m.rules b t) (published_can texts shelf m b t met lawful g whole range)
    by_event (sweep tick) met lawful =
        if_late tick (nat_le tick b.clock)
        (decided_lands b (fate_of m.rules.journal m.fate) (sweep_comes m.rules b tick) (swept_can m.rules b tick met.tick))
    by_event compact met lawful = tt
    by_event (crash scripts) met lawful = by_fate m.fate

-- on a book that is up nothing is in doubt
up_can : (d : Book) → d.down ≡ None → CanLandDoubt d
up_can d e = subst (λ (o : Option Doubt). CanLand d (doubted o)) (sym e) tt

carried_can : (rules : Rules) (x : Book) (d : Decision) → x.down ≡ None → CanLandDoubt (carried_out rules x d).1
carried_can rules x (replies r) up = up_can x up
carried_can rules x (records r c inside) up = up_can (land rules c inside x) up
carried_can rules x (compacts r) up = up_can (rewritten rules x) up

doubted_can : (count : ℕ) (x : Book) (d : Decision) → x.down ≡ None → CanDecide x d → CanLandDoubt (in_doubt count x d).1
doubted_can count x (replies r) up h = up_can x up
doubted_can count x (records r c inside) up h = can_moved x x.drawn x.out (Some (record { count = count; work = landing c inside })) (Some c) h
doubted_can count x (compacts r) up h = tt

settled_up : (rules : Rules) (x : Book) (fate : Fate) (d : Decision) → x.down ≡ None → CanDecide x d → CanLandDoubt (settle rules x fate d).1
settled_up rules x no_memory d up h = up_can x up
settled_up rules x (disk_fault count) d up h = doubted_can count x d up h
settled_up rules x plain d up h = carried_can rules x d up
settled_up rules x lost d up h = carried_can rules x d up
settled_up rules x kept d up h = carried_can rules x d up

-- a reply alone leaves what is in doubt
replied_can : (rules : Rules) (x : Book) (fate : Fate) (r : Reply) → CanLandDoubt x → CanLandDoubt (settle rules x fate (replies r)).1
replied_can rules x no_memory r h = h
replied_can rules x (disk_fault count) r h = h
replied_can rules x plain r h = h
replied_can rules x lost r h = h
replied_can rules x kept r h = h

decide_moved : (b : Book) (out : List ℕ) (d : Decision) → CanDecide b d → CanDecide (record b { out = out }) d
decide_moved b out (replies r) h = tt
decide_moved b out (records r c inside) h = can_moved b b.drawn out b.down (Some c) h
decide_moved b out (compacts r) h = tt

-- a decision leaves in doubt what can land
settled_can : (rules : Rules) (b : Book) (out : List ℕ) (fate : Fate) (d : Decision) (o : Option Reply) → barred b ≡ o → CanDecide b (unless o d) → CanLandDoubt b
    → CanLandDoubt (settle rules (record b { out = out }) fate (unless o d)).1
settled_can rules b out fate d None is can h = settled_up rules (record b { out = out }) fate d (not_barred b is).0 (decide_moved b out d can)
settled_can rules b out fate d (Some r) is can h = replied_can rules (record b { out = out }) fate r (can_moved b b.drawn out b.down (doubted b.down) h)

took_can : (b : Book) (nonce : ℕ) (o : Option Reply) → CanLandDoubt b → CanLandDoubt (take_unless o b nonce).1
took_can b nonce None h = can_moved b _ _ b.down (doubted b.down) h
took_can b nonce (Some r) h = h

-- each event leaves in doubt what can land
pub doubt_can : (texts : Texts) (shelf : ℕ) (m : Moment) (b : Book) → IsMet texts shelf m b → IsLawful m.event b → IsOrderly b → NameTheirCells b → IsInRange b
    → CanLandDoubt b → CanLandDoubt (then_book m b)
unfolding step
doubt_can texts shelf m b met lawful g whole range h = by_event m.event met lawful
  where
    if_late : (tick : ℕ) (late : Bool) → CanLandDoubt (settle m.rules b (fate_of m.rules.journal m.fate) (sweep_comes m.rules b tick)).1
        → CanLandDoubt (if late then (swept 0, b) else settle m.rules b (fate_of m.rules.journal m.fate) (sweep_comes m.rules b tick)).1
    if_late tick true k = h
    if_late tick false k = k

    by_event : (event : Event) → IsMet texts shelf (record m { event = event }) b → IsLawful event b → CanLandDoubt (step m.rules b m.nonce event m.fate).1
    by_event (take target answer) met lawful = by_fate m.fate
      where
        by_fate : (fate : Fate) → CanLandDoubt (take_by b target m.nonce fate).1
        by_fate no_memory = h
        by_fate plain = took_can b m.nonce (no_take b target) h
        by_fate (disk_fault count) = took_can b m.nonce (no_take b target) h
        by_fate lost = took_can b m.nonce (no_take b target) h
        by_fate kept = took_can b m.nonce (no_take b target) h
    by_event (publish t) met lawful =
        settled_can m.rules b (spend t.number b).out (fate_of m.rules.journal m.fate) (decide m.rules b t (admit b t.target)) (barred b) refl
        (published_can texts shelf m b t met lawful g whole range) h
    by_event (sweep tick) met lawful =
        if_late tick (nat_le tick b.clock)
        (settled_can m.rules b b.out (fate_of m.rules.journal m.fate) (decide_sweep m.rules tick b) (barred b) refl (swept_can m.rules b tick met.tick) h)
    by_event compact met lawful =
        settled_can m.rules b b.out (fate_of m.rules.journal m.fate) (decide_compact m.rules b) (barred b) refl (compacted_can m.rules b) h
    by_event (crash scripts) met lawful = tt
