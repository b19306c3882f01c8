-- The fate of an event is read off its reply.
use Rattle.std.proofs.Common.{◌≡◌, ◌==◌, ◌^◌, ℕ, Bool, true, false, List, [], length, Option, Some, None, refl, sym, ◌∙◌, ap, arith, nat_le, if◌then◌else◌}
use Rattle.std.specs.Prelude.{⊤}
use Rattle.script_value.specs.declared.outcome.TxName.{TxName}
use Rattle.script_value.specs.declared.outcome.Refusal.{Refusal}
use Rattle.page_names.specs.Names.{Destination}
use Rattle.replay_spec.specs.Tape.{How, Outcome, paged, faulted}
use Rattle.replay_spec.specs.Tape as tape
use Rattle.replay_spec.specs.Eval.{Segment}
use Rattle.replay_spec.specs.Book.{Change, Doubt, Book, spend}
use Rattle.replay_spec.specs.Rules.{Journal, Rules}
use Rattle.replay_spec.specs.Admission.{when, or_else, Admission, begins, resumes, refused, refusal_of, admit}
use Rattle.replay_spec.specs.Next.{Ticket, Visit, url_for, comes_to, start_visit, page_visit}
use Rattle.replay_spec.specs.Step.{Event, take, publish, sweep, compact, crash, Fate, plain, no_memory, disk_fault, lost, kept, Reply, taken, disk_failed, worn, memory, swept, Decision, replies, records, compacts, gone_for, compact_comes, decide_compact, unless, barred, too_long, full_journal, refused_by, no_take, take_unless, change_by, reply_by, full, with_room, stopped, settles, decide, decide_sweep, publish_comes, sweep_comes, fate_of, settle, take_by, step}
use Rattle.replay_spec.specs.Runs.{Shelf, drawn_by, shelf_step}
use Rattle.replay_spec.proofs.Barred.{barred_by}
use Rattle.history_spec.specs.Histories.{Entry, fate_by, shelf_behind, MayCome}
use Rattle.history_spec.specs.Laws.{EachEventIsAnEntry}
use Rattle.history_spec.proofs.Going.{is_step}

-- a reply that no fate gives, and no take
abbrev pub IsPlain : Reply → Type 0
IsPlain memory = ⊥
IsPlain (disk_failed count) = ⊥
IsPlain (taken number nonce) = ⊥
IsPlain _ = ⊤

abbrev pub DecidesPlain : Decision → Type 0
DecidesPlain (replies r) = IsPlain r
DecidesPlain (records r c inside) = IsPlain r
DecidesPlain (compacts r) = IsPlain r

abbrev MayBePlain : Option Reply → Type 0
MayBePlain None = ⊤
MayBePlain (Some r) = IsPlain r

unless_plain : (o : Option Reply) (d : Decision) → MayBePlain o → DecidesPlain d → DecidesPlain (unless o d)
unless_plain None d h k = k
unless_plain (Some r) d h k = h

barred_plain : (o : Option Doubt) (follows : Bool) → MayBePlain (barred_by o follows)
barred_plain None false = tt
barred_plain None true = tt
barred_plain (Some doubt) follows = tt

no_room_plain : (journal : Option Journal) (b : Book) (c : Change) → MayBePlain (or_else (too_long journal b c) (full_journal journal b c))
no_room_plain journal b c = grind arith

room_plain : (rules : Rules) (b : Book) (r : Reply) (inside : List TxName) (o : Option Change) → IsPlain r → DecidesPlain (with_room rules b r inside o)
room_plain rules b r inside None h = h
room_plain rules b r inside (Some c) h =
    unless_plain (or_else (too_long rules.journal b c) (full_journal rules.journal b c)) (records r c inside) (no_room_plain rules.journal b c) h

page_plain : (how : How) (bytes url : List ℕ) → IsPlain (reply_by how bytes url)
page_plain how bytes url = grind arith

full_plain : (rules : Rules) (how : How) (v : Visit) (count : ℕ) → MayBePlain (full rules how v.origin count)
full_plain rules how v count = grind arith

stopped_plain : (rules : Rules) (b : Book) (gone : List ℕ) (v : Visit) (s : Segment) (o : Outcome) → DecidesPlain (stopped rules b gone v s o)
stopped_plain rules b gone v s (paged how bytes) =
    unless_plain (full rules how v.origin (length b.instances)) _ (full_plain rules how v (length b.instances))
    (room_plain rules b (reply_by how bytes (url_for v)) s.entered (change_by rules b gone v s v.origin how) (page_plain how bytes (url_for v)))
stopped_plain rules b gone v s (faulted f) = tt
stopped_plain rules b gone v s (tape.out_of_fuel cost) = tt

settles_plain : (rules : Rules) (b : Book) (gone : List ℕ) (v : Visit) (s : Segment) → DecidesPlain (settles rules b gone v s)
settles_plain rules b gone v s = stopped_plain rules b gone v s s.outcome

decide_plain : (rules : Rules) (b : Book) (t : Ticket) (a : Admission) → DecidesPlain (decide rules b t a)
decide_plain rules b t (begins k s) = settles_plain rules b [] (start_visit b t k s) (comes_to (start_visit b t k s) (tape.present s.script.cells rules.fuel))
decide_plain rules b t (resumes at) = settles_plain rules b (gone_for rules t at) (page_visit b t at) (comes_to (page_visit b t at) (tape.present at.instance.cells rules.fuel))
decide_plain rules b t (refused r) = tt

pub publish_plain : (rules : Rules) (b : Book) (t : Ticket) → DecidesPlain (publish_comes rules b t)
publish_plain rules b t = unless_plain (barred b) (decide rules b t (admit b t.target)) (barred_plain b.down b.follows) (decide_plain rules b t (admit b t.target))

pub sweep_plain : (rules : Rules) (b : Book) (tick : ℕ) → DecidesPlain (sweep_comes rules b tick)
sweep_plain rules b tick = unless_plain (barred b) (decide_sweep rules tick b) (barred_plain b.down b.follows) (grind arith)

pub compact_plain : (rules : Rules) (b : Book) → DecidesPlain (compact_comes rules b)
compact_plain rules b = unless_plain (barred b) (decide_compact rules b) (barred_plain b.down b.follows) (grind arith)

plain_fate : (r : Reply) → IsPlain r → fate_by r ≡ plain
plain_fate memory h = absurd h
plain_fate (disk_failed count) h = absurd h
plain_fate (taken number nonce) h = absurd h
plain_fate r h = refl

-- what is settled tells its fate
abbrev Tells : Rules → Book → Option Journal → Fate → Decision → Type 0
Tells rules b j fate d = settle rules b (fate_of j fate) d ≡ settle rules b (fate_of j (fate_by (settle rules b (fate_of j fate) d).0)) d

by_plain : (rules : Rules) (b : Book) (j : Option Journal) (r : Reply) (d : Decision) → IsPlain r → settle rules b (fate_of j plain) d ≡ settle rules b (fate_of j (fate_by r)) d
by_plain rules b j r d h = ap (λ (f : Fate). settle rules b (fate_of j f) d) (sym (plain_fate r h))

told : (rules : Rules) (b : Book) (j : Option Journal) (fate : Fate) (d : Decision) → DecidesPlain d → Tells rules b j fate d
told rules b None no_memory d h = refl
told rules b (Some j) no_memory d h = refl
told rules b (Some j) (disk_fault count) (records r c inside) h = refl
told rules b (Some j) (disk_fault count) (compacts r) h = refl
told rules b (Some j) (disk_fault count) (replies r) h = by_plain rules b (Some j) r (replies r) h
told rules b None (disk_fault count) (replies r) h = by_plain rules b None r (replies r) h
told rules b None (disk_fault count) (records r c inside) h = by_plain rules b None r (records r c inside) h
told rules b None (disk_fault count) (compacts r) h = by_plain rules b None r (compacts r) h
told rules b None plain (replies r) h = by_plain rules b None r (replies r) h
told rules b None plain (records r c inside) h = by_plain rules b None r (records r c inside) h
told rules b None plain (compacts r) h = by_plain rules b None r (compacts r) h
told rules b None lost (replies r) h = by_plain rules b None r (replies r) h
told rules b None lost (records r c inside) h = by_plain rules b None r (records r c inside) h
told rules b None lost (compacts r) h = by_plain rules b None r (compacts r) h
told rules b None kept (replies r) h = by_plain rules b None r (replies r) h
told rules b None kept (records r c inside) h = by_plain rules b None r (records r c inside) h
told rules b None kept (compacts r) h = by_plain rules b None r (compacts r) h
told rules b (Some j) plain (replies r) h = by_plain rules b (Some j) r (replies r) h
told rules b (Some j) plain (records r c inside) h = by_plain rules b (Some j) r (records r c inside) h
told rules b (Some j) plain (compacts r) h = by_plain rules b (Some j) r (compacts r) h
told rules b (Some j) lost (replies r) h = by_plain rules b (Some j) r (replies r) h
told rules b (Some j) lost (records r c inside) h = by_plain rules b (Some j) r (records r c inside) h
told rules b (Some j) lost (compacts r) h = by_plain rules b (Some j) r (compacts r) h
told rules b (Some j) kept (replies r) h = by_plain rules b (Some j) r (replies r) h
told rules b (Some j) kept (records r c inside) h = by_plain rules b (Some j) r (records r c inside) h
told rules b (Some j) kept (compacts r) h = by_plain rules b (Some j) r (compacts r) h

-- a take
abbrev IsNoWant : Reply → Type 0
IsNoWant memory = ⊥
IsNoWant r = ⊤

no_want : (b : Book) (nonce : ℕ) (o : Option Doubt) (follows is_worn : Bool) (a : Option Refusal) → IsNoWant (take_unless (or_else (barred_by o follows) (or_else (when is_worn worn) (refused_by a))) b nonce).0
no_want b nonce o follows is_worn a = grind arith

took_again : (b : Book) (target : Destination) (nonce : ℕ) (r : Reply) → IsNoWant r → take_by b target nonce (fate_by r) ≡ take_unless (no_take b target) b nonce
took_again b target nonce memory h = absurd h
took_again b target nonce (disk_failed count) h = refl
took_again b target nonce r h = refl

took : (b : Book) (target : Destination) (nonce : ℕ) (fate : Fate) → take_by b target nonce fate ≡ take_by b target nonce (fate_by (take_by b target nonce fate).0)
took b target nonce no_memory = refl
took b target nonce plain = sym (took_again b target nonce _ (no_want b nonce b.down b.follows (b.drawn == 2 ^ 62) (refusal_of (admit b target))))
took b target nonce (disk_fault count) = sym (took_again b target nonce _ (no_want b nonce b.down b.follows (b.drawn == 2 ^ 62) (refusal_of (admit b target))))
took b target nonce lost = sym (took_again b target nonce _ (no_want b nonce b.down b.follows (b.drawn == 2 ^ 62) (refusal_of (admit b target))))
took b target nonce kept = sym (took_again b target nonce _ (no_want b nonce b.down b.follows (b.drawn == 2 ^ 62) (refusal_of (admit b target))))

-- a sweep
swept_told : (rules : Rules) (b : Book) (tick : ℕ) (fate : Fate) (is_late : Bool)
    → (if is_late then (swept 0, b) else settle rules b (fate_of rules.journal fate) (sweep_comes rules b tick))
    ≡ (if is_late then (swept 0, b)
    else settle rules b (fate_of rules.journal (fate_by (if is_late then (swept 0, b) else settle rules b (fate_of rules.journal fate) (sweep_comes rules b tick)).0)) (sweep_comes rules b tick))
swept_told rules b tick fate true = refl
swept_told rules b tick fate false = told rules b rules.journal fate (sweep_comes rules b tick) (sweep_plain rules b tick)

pub step_told : (rules : Rules) (b : Book) (nonce : ℕ) (x : Event) (fate : Fate) (caller : ℕ) (es : List Entry) → MayCome caller x es
    → step rules b nonce x fate ≡ step rules b nonce x (fate_by (step rules b nonce x fate).0)
unfolding step
step_told rules b nonce (take target answer) fate caller es h = took b target nonce fate
step_told rules b nonce (publish t) fate caller es h =
    told rules (spend t.number b) rules.journal fate (publish_comes rules b t) (publish_plain rules b t)
step_told rules b nonce (sweep tick) fate caller es h = swept_told rules b tick fate (nat_le tick b.clock)
step_told rules b nonce compact fate caller es h = told rules b rules.journal fate (compact_comes rules b) (compact_plain rules b)
step_told rules b nonce (crash scripts) fate caller es h = absurd h

pub each_event : EachEventIsAnEntry
each_event source opened now s es caller x fate comes counted =
    let at : Shelf = shelf_behind source s es in
    let same = step_told at.rules at.book (source at.nonces) x fate caller es comes in
    let made : shelf_step source at x fate ≡ shelf_step source at x (fate_by (shelf_step source at x fate).0) =
    ap (λ (next : Reply × Book). (next.0, record at { book = next.1; nonces = drawn_by next.0 at.nonces })) same in (
      record { comes = comes; answered = sym (ap (λ (next : Reply × Shelf). next.0) made); counted = counted },
      is_step source s es (record { caller = caller; event = x; reply = (shelf_step source at x fate).0 }) ∙ sym (ap (λ (next : Reply × Shelf). next.1) made),
    )
