-- What a refusal leaves as it was.
use Rattle.std.proofs.Common.{◌≡◌, ◌≤◌, ◌<◌, ◌==◌, ◌^◌, ℕ, List, [], length, Option, Some, None, Bool, true, false, refl, arith}
use Rattle.std.specs.Prelude.{nat_le, nat_lt, if◌then◌else◌, ⊤}
use Rattle.std.proofs.lemmas.Bool.Decides.{nat_tests}
use Rattle.script_value.specs.Val.{Val}
use Rattle.script_value.specs.declared.outcome.TxName.{TxName}
use Rattle.script_value.specs.declared.outcome.Refusal.{Refusal}
use Rattle.script_nodes.specs.PageNames.Names.{Destination}
use Rattle.script_nodes.specs.Setup.{Named}
use Rattle.replay_spec.specs.Tape.{present, How, shows, finishes, ends, Outcome, paged}
use Rattle.replay_spec.specs.Tape as tape
use Rattle.replay_spec.specs.Eval.{Segment}
use Rattle.replay_spec.specs.Book as spec
use Rattle.replay_spec.specs.Book.{Change, sweeps, landing, compacting, Doubt, Book, spend}
use Rattle.replay_spec.specs.Compaction.{compacted_length, rewritten}
use Rattle.replay_spec.specs.Rules.{Journal, Rules}
use Rattle.replay_spec.specs.Change.{record_length, longer_by, land}
use Rattle.replay_spec.specs.Admission.{when, or_else, Admission, begins, resumes, refused, refusal_of, admit}
use Rattle.replay_spec.specs.Next.{Ticket, Origin, starts, answers, Visit, url_for, comes_to, start_visit, page_visit}
use Rattle.replay_spec.specs.Step.{Fate, plain, no_memory, disk_fault, lost, kept, Reply, worn, swept, shelf_full, oversize, journal_full, Decision, replies, records, compacts, compacted, most_of_journal, compact_comes, decide_compact, gone_for, unless, refused_by, opening, extension, ending, finish, change_by, reply_by, full, too_long, full_journal, with_room, stopped, decide, decide_sweep, publish_comes, sweep_comes, fate_of, settle, take_unless, take_by, step}
use Rattle.replay_spec.specs.Laws.{Takes, Lands, Spares, RefusedIsUnchanged, Opens, AStartOpensOrLeaves}
use Rattle.replay_spec.proofs.Barred.{barred_by}

takes_unless : (b : Book) (nonce : ℕ) (o : Option Doubt) (follows is_worn : Bool) (a : Option Refusal)
    → let r = or_else (barred_by o follows) (or_else (when is_worn worn) (refused_by a)) in
    Takes b nonce (take_unless r b nonce).0 (take_unless r b nonce).1
takes_unless b nonce o follows is_worn a = grind arith

takes_by : (b : Book) (target : Destination) (nonce : ℕ) (fate : Fate) → Takes b nonce (take_by b target nonce fate).0 (take_by b target nonce fate).1
takes_by b target nonce no_memory = refl
takes_by b target nonce plain = takes_unless b nonce b.down b.follows (b.drawn == 2 ^ 62) (refusal_of (admit b target))
takes_by b target nonce (disk_fault count) = takes_unless b nonce b.down b.follows (b.drawn == 2 ^ 62) (refusal_of (admit b target))
takes_by b target nonce lost = takes_unless b nonce b.down b.follows (b.drawn == 2 ^ 62) (refusal_of (admit b target))
takes_by b target nonce kept = takes_unless b nonce b.down b.follows (b.drawn == 2 ^ 62) (refusal_of (admit b target))

-- a reply alone that is told of a refusal, or of a start that ends or finishes
abbrev IsIdle : Reply → Type 0
IsIdle (Reply.shown bytes url) = ⊥
IsIdle (Reply.swept n) = ⊥
IsIdle (Reply.compacted n) = ⊥
IsIdle (Reply.disk_failed count) = ⊥
IsIdle r = ⊤

-- a reply that is told of a change
abbrev IsBusy : Reply → Type 0
IsBusy (Reply.shown bytes url) = ⊤
IsBusy (Reply.swept n) = ⊤
IsBusy (Reply.finished bytes) = ⊤
IsBusy (Reply.ended bytes) = ⊤
IsBusy r = ⊥

-- the reply to a compaction is none to a visit
abbrev IsCompacted : Reply → Type 0
IsCompacted (Reply.compacted n) = ⊤
IsCompacted r = ⊥

-- a decision's reply tells whether it changes the book
abbrev Tells : Decision → Type 0
Tells (replies r) = IsIdle r
Tells (records r c inside) = IsBusy r
Tells (compacts r) = IsCompacted r

idle_spares : (rules : Rules) (b : Book) (r : Reply) → IsIdle r → Spares rules b (replies r) r b
idle_spares rules b r h = grind arith

busy_spares : (rules : Rules) (b c : Book) (d : Decision) (r : Reply) → IsBusy r → Lands rules b d r c → Spares rules b d r c
busy_spares rules b c d r h l = grind (arith, l)

landed : (rules : Rules) (b : Book) (r : Reply) (c : Change) (inside : List TxName) → Lands rules b (records r c inside) r (land rules c inside b)
landed rules b r c inside = record { change = c; inside = inside; decided = refl; landed = refl }

file_spares : (rules : Rules) (b : Book) (r : Reply) → IsCompacted r → Spares rules b (compacts r) r (rewritten rules b)
file_spares rules b r h = grind arith

settled : (rules : Rules) (b : Book) (fate : Fate) (d : Decision) → Tells d → Spares rules b d (settle rules b fate d).0 (settle rules b fate d).1
settled rules b no_memory d h = refl
settled rules b (disk_fault count) (replies r) h = idle_spares rules b r h
settled rules b (disk_fault count) (records r c inside) h = record { work = landing c inside; decided = refl; left = refl }
settled rules b (disk_fault count) (compacts r) h = record { work = compacting; decided = refl; left = refl }
settled rules b plain (compacts r) h = file_spares rules b r h
settled rules b lost (compacts r) h = file_spares rules b r h
settled rules b kept (compacts r) h = file_spares rules b r h
settled rules b plain (replies r) h = idle_spares rules b r h
settled rules b plain (records r c inside) h = busy_spares rules b (land rules c inside b) (records r c inside) r h (landed rules b r c inside)
settled rules b lost (replies r) h = idle_spares rules b r h
settled rules b lost (records r c inside) h = busy_spares rules b (land rules c inside b) (records r c inside) r h (landed rules b r c inside)
settled rules b kept (replies r) h = idle_spares rules b r h
settled rules b kept (records r c inside) h = busy_spares rules b (land rules c inside b) (records r c inside) r h (landed rules b r c inside)

unless_tells : (o : Option Doubt) (follows : Bool) (d : Decision) → Tells d → Tells (unless (barred_by o follows) d)
unless_tells o follows d h = grind arith

limit_tells : (is_over : Bool) (r : Reply) (d : Decision) → IsIdle r → Tells d → Tells (unless (when is_over r) d)
limit_tells true r d idle h = idle
limit_tells false r d idle h = h

room_tells : (journal : Option Journal) (b : Book) (r : Reply) (inside : List TxName) (c : Change) → IsBusy r
    → Tells (unless (or_else (too_long journal b c) (full_journal journal b c)) (records r c inside))
room_tells None b r inside c h = h
room_tells (Some j) b r inside c h = by_tests (nat_lt 1048576 (record_length j b c)) (nat_lt (2 ^ 30) (longer_by (Some j) b c))
  where
    by_tests : (long full : Bool)
        → Tells (unless (or_else (when long (oversize (record_length j b c))) (when full (journal_full (longer_by (Some j) b c)))) (records r c inside))
    by_tests true full = tt
    by_tests false true = tt
    by_tests false false = h

full_tells : (rules : Rules) (how : How) (origin : Origin) (count : ℕ) (d : Decision) → Tells d → Tells (unless (full rules how origin count) d)
full_tells rules (shows kind) (starts k) count d h = limit_tells (nat_le rules.instances count) (shelf_full count) d tt h
full_tells rules (shows kind) (answers i p) count d h = h
full_tells rules finishes origin count d h = h
full_tells rules ends origin count d h = h

change_tells : (rules : Rules) (b : Book) (gone : List ℕ) (v : Visit) (s : Segment) (bytes : List ℕ) (origin : Origin) (how : How)
    → Tells (with_room rules b (reply_by how bytes (url_for v)) s.entered (change_by rules b gone v s origin how))
change_tells rules b gone v s bytes (starts k) (shows kind) = room_tells rules.journal b _ s.entered (spec.opens (opening rules b v s k kind)) tt
change_tells rules b gone v s bytes (starts k) finishes = tt
change_tells rules b gone v s bytes (starts k) ends = tt
change_tells rules b gone v s bytes (answers i p) (shows kind) = room_tells rules.journal b _ s.entered (spec.extends (extension rules b gone v s i p kind)) tt
change_tells rules b gone v s bytes (answers i p) finishes = room_tells rules.journal b _ s.entered (spec.finishes (finish v s i p)) tt
change_tells rules b gone v s bytes (answers i p) ends = room_tells rules.journal b _ s.entered (spec.ends (ending v s i p)) tt

stopped_tells : (rules : Rules) (b : Book) (gone : List ℕ) (v : Visit) (s : Segment) (o : Outcome) → Tells (stopped rules b gone v s o)
stopped_tells rules b gone v s (paged how bytes) = full_tells rules how v.origin (length b.instances) _ (change_tells rules b gone v s bytes v.origin how)
stopped_tells rules b gone v s (tape.faulted f) = tt
stopped_tells rules b gone v s (tape.out_of_fuel cost) = tt

decided_tells : (rules : Rules) (b : Book) (t : Ticket) (a : Admission) → Tells (decide rules b t a)
decided_tells rules b t (begins k s) =
    let v = start_visit b t k s in
    let o = comes_to v (present s.script.cells rules.fuel) in
    stopped_tells rules b [] v o o.outcome
decided_tells rules b t (resumes at) =
    let v = page_visit b t at in
    let o = comes_to v (present at.instance.cells rules.fuel) in
    stopped_tells rules b (gone_for rules t at) v o o.outcome
decided_tells rules b t (refused r) = tt

swept_tells : (journal : Option Journal) (b : Book) (tick n : ℕ) → Tells (unless (full_journal journal b (sweeps tick)) (records (swept n) (sweeps tick) []))
swept_tells None b tick n = tt
swept_tells (Some j) b tick n = limit_tells (nat_lt (2 ^ 30) (longer_by (Some j) b (sweeps tick))) (journal_full (longer_by (Some j) b (sweeps tick))) (records (swept n) (sweeps tick) []) tt tt

abbrev swept_or : Rules → Book → ℕ → Fate → Bool → Reply × Book
swept_or rules b tick fate is_late = if is_late then (swept 0, b) else settle rules b fate (sweep_comes rules b tick)

early : (rules : Rules) (b : Book) (tick : ℕ) (fate : Fate) → b.clock < tick → swept_or rules b tick fate (nat_le tick b.clock) ≡ settle rules b fate (sweep_comes rules b tick)
early rules b tick fate h = grind (arith, nat_tests)

late : (rules : Rules) (b : Book) (tick : ℕ) (fate : Fate) → tick ≤ b.clock → swept_or rules b tick fate (nat_le tick b.clock) ≡ (swept 0, b)
late rules b tick fate h = grind (arith, nat_tests)

sweeping : (rules : Rules) (b : Book) (tick : ℕ) (fate : Fate) → b.clock < tick
    → let r = swept_or rules b tick fate (nat_le tick b.clock) in Spares rules b (sweep_comes rules b tick) r.0 r.1
sweeping rules b tick fate h =
    rw (early rules b tick fate h) (settled rules b fate (sweep_comes rules b tick) (unless_tells b.down b.follows (decide_sweep rules tick b) (swept_tells rules.journal b tick _)))

pub unchanged : RefusedIsUnchanged
unfolding step
unchanged rules b nonce fate = (
  λ (target : Destination) (answer : Val). takes_by b target nonce fate,
  λ (t : Ticket). settled rules (spend t.number b) (fate_of rules.journal fate) (publish_comes rules b t)
      (unless_tells b.down b.follows (decide rules b t (admit b t.target)) (decided_tells rules b t (admit b t.target))),
  λ (tick : ℕ) (h : b.clock < tick). sweeping rules b tick (fate_of rules.journal fate) h,
  λ (tick : ℕ) (h : tick ≤ b.clock). late rules b tick (fate_of rules.journal fate) h,
  settled rules b (fate_of rules.journal fate) (compact_comes rules b) (unless_tells b.down b.follows (decide_compact rules b)
      (let n = compacted_length rules.journal b in limit_tells (nat_lt most_of_journal n) (journal_full n) (compacts (compacted n)) tt tt)),
)

limit_opens : (is_over : Bool) (r : Reply) (d : Decision) → Opens (replies r) → Opens d → Opens (unless (when is_over r) d)
limit_opens true r d idle h = idle
limit_opens false r d idle h = h

room_opens : (journal : Option Journal) (b : Book) (r : Reply) (inside : List TxName) (c : Change) → Opens (records r c inside)
    → Opens (unless (or_else (too_long journal b c) (full_journal journal b c)) (records r c inside))
room_opens None b r inside c h = h
room_opens (Some j) b r inside c h = by_tests (nat_lt 1048576 (record_length j b c)) (nat_lt (2 ^ 30) (longer_by (Some j) b c))
  where
    by_tests : (long full : Bool)
        → Opens (unless (or_else (when long (oversize (record_length j b c))) (when full (journal_full (longer_by (Some j) b c)))) (records r c inside))
    by_tests true full = tt
    by_tests false true = tt
    by_tests false false = h

start_opens : (rules : Rules) (b : Book) (t : Ticket) (k : ℕ) (s : Named) (o : Segment) (outcome : Outcome) → Opens (stopped rules b [] (start_visit b t k s) o outcome)
start_opens rules b t k s o (paged (shows kind) bytes) =
    let v = start_visit b t k s in
    limit_opens (nat_le rules.instances (length b.instances)) (shelf_full (length b.instances)) _ tt
    (room_opens rules.journal b (Reply.shown bytes (url_for v)) o.entered (spec.opens (opening rules b v o k kind)) tt)
start_opens rules b t k s o (paged finishes bytes) = tt
start_opens rules b t k s o (paged ends bytes) = tt
start_opens rules b t k s o (tape.faulted f) = tt
start_opens rules b t k s o (tape.out_of_fuel cost) = tt

pub opens_or_leaves : AStartOpensOrLeaves
opens_or_leaves rules b t k s =
    let o = comes_to (start_visit b t k s) (present s.script.cells rules.fuel) in start_opens rules b t k s o o.outcome
