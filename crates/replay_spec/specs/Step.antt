-- One event of a shelf, its reply and the book after it.
use Rattle.std.specs.Prelude.{ℕ, ◌+◌, ◌-◌, ◌^◌, ◌==◌, length, nat_le, nat_lt, if◌then◌else◌, List, [], filter, Option, Some, None}
use Rattle.script_value.specs.Val.{Val}
use Rattle.script_value.specs.declared.outcome.TxName.{TxName}
use Rattle.script_value.specs.declared.outcome.Fault.{Fault}
use Rattle.script_value.specs.declared.outcome.Refusal.{Refusal}
use Rattle.script_nodes.specs.PageNames.Names.{Destination}
use Rattle.script_nodes.specs.declared.script.SendKind.{SendKind}
use Rattle.script_nodes.specs.Setup.{Named}
use Rattle.replay_spec.specs.Tape.{present, How, shows, Outcome, paged, faulted}
use Rattle.replay_spec.specs.Tape as tape
use Rattle.replay_spec.specs.Eval.{Segment}
use Rattle.replay_spec.specs.Book.{Opening, Extension, Ending, Finish, Change, opens, extends, ends, finishes, sweeps, Work, landing, compacting, Doubt, Book, is_live, draw, spend}
use Rattle.replay_spec.specs.Rules.{Journal, Rules}
use Rattle.replay_spec.specs.Change.{record_length, longer_by, land}
use Rattle.replay_spec.specs.Eviction.{goes_for}
use Rattle.replay_spec.specs.Compaction.{compacted_length, rewritten, worked, reopened_with}
use Rattle.replay_spec.specs.Admission.{when, or_else, Place, Admission, begins, resumes, refused, refusal_of, admit}
use Rattle.replay_spec.specs.Next.{Ticket, Origin, starts, answers, Visit, url_for, comes_to, start_visit, page_visit}

-- a visit begins; its segment is published; time goes on to a tick; the journal's file is compacted; the program dies, and the
-- shelf is opened again with this setup
pub data Event : Type 0 where
  take : Destination → Val → Event
  publish : Ticket → Event
  sweep : (tick : ℕ) → Event
  compact : Event
  crash : (scripts : List Named) → Event

-- what the model leaves open at an event: whether memory was there, whether the disk failed, and at a crash whether what
-- was in doubt is kept
pub data Fate : Type 0 where
  plain no_memory : Fate
  disk_fault : (count : ℕ) → Fate
  lost kept : Fate

-- what an event is answered
pub data Reply : Type 0 where
  taken : (number nonce : ℕ) → Reply
  shown : (page url : List ℕ) → Reply
  finished ended : (page : List ℕ) → Reply
  refusal : Refusal → Reply
  fault : Fault → Reply
  out_of_fuel : (cost : ℕ) → Reply
  shelf_full disk_failed down : (count : ℕ) → Reply
  oversize journal_full compacted : (length : ℕ) → Reply
  following worn memory : Reply
  swept live : (instances : ℕ) → Reply

-- what an event comes to where memory is there: a reply alone; a change with its reply and with the names that a new page is inside; or a
-- compaction with its reply
pub data Decision : Type 0 where
  replies : Reply → Decision
  records : Reply → Change → (inside : List TxName) → Decision
  compacts : Reply → Decision

-- a refusal, if there is one, or else the decision
abbrev pub unless : Option Reply → Decision → Decision
unless None d = d
unless (Some r) d = replies r

-- what a shelf that is down answers
abbrev pub down_by : Option Doubt → Option Reply
down_by None = None
down_by (Some doubt) = Some (down doubt.count)

-- What every event but a crash is answered before all else, where the shelf is down or else follows another one's journal. A sweep that has
-- nothing to do is not asked.
abbrev pub barred : Book → Option Reply
barred b = or_else (down_by b.down) (when b.follows following)

-- what a visit is answered that is refused
abbrev pub refused_by : Option Refusal → Option Reply
refused_by None = None
refused_by (Some r) = Some (refusal r)

-- why there is no take: the shelf is down or follows, its numbers are worn, or the target is not admitted
abbrev pub no_take : Book → Destination → Option Reply
no_take b target =
    or_else (barred b) (or_else (when (b.drawn == 2 ^ 62) worn) (refused_by (refusal_of (admit b target))))

-- the reply and the book after a take that gets this reply, or else a ticket
abbrev pub take_unless : Option Reply → Book → (nonce : ℕ) → Reply × Book
take_unless (Some r) b nonce = (r, b)
take_unless None b nonce = (taken b.drawn nonce, draw b)

-- the opening by a start that showed a page, which can be answered for a life from now on
abbrev pub opening : Rules → Book → Visit → Segment → (script : ℕ) → SendKind → Opening
opening rules b v s script kind = record {
  number = v.ticket.number;
  nonce = v.ticket.nonce;
  script = script;
  effects = s.effects;
  left = s.left;
  kind = kind;
  deadline = b.clock + rules.life;
  evicted = [];
}

-- the extension by an answer that showed a page, for which these pages went, and which can be answered for a life from now on
abbrev pub extension : Rules → Book → (gone : List ℕ) → Visit → Segment → (instance page : ℕ) → SendKind → Extension
extension rules b gone v s instance page kind = record {
  number = v.ticket.number;
  nonce = v.ticket.nonce;
  instance = instance;
  page = page;
  answer = v.ticket.answer;
  effects = s.effects;
  left = s.left;
  kind = kind;
  deadline = b.clock + rules.life;
  evicted = gone;
}

-- the ending by an answer that ended with a last page
abbrev pub ending : Visit → Segment → (instance page : ℕ) → Ending
ending v s instance page = record {
  number = v.ticket.number;
  instance = instance;
  page = page;
  answer = v.ticket.answer;
  effects = s.effects;
  left = s.left;
}

-- the finish by an answer that freed the instance
abbrev pub finish : Visit → Segment → (instance page : ℕ) → Finish
finish v s instance page = record {
  number = v.ticket.number;
  instance = instance;
  page = page;
  answer = v.ticket.answer;
  effects = s.effects;
}

-- what a visit changes that stopped with a page, for which these pages went; a start changes nothing unless it shows one
abbrev pub change_by : Rules → Book → (gone : List ℕ) → Visit → Segment → Origin → How → Option Change
change_by rules b gone v s (starts k) (shows kind) = Some (opens (opening rules b v s k kind))
change_by rules b gone v s (starts k) _ = None
change_by rules b gone v s (answers i p) (shows kind) = Some (extends (extension rules b gone v s i p kind))
change_by rules b gone v s (answers i p) tape.ends = Some (ends (ending v s i p))
change_by rules b gone v s (answers i p) tape.finishes = Some (finishes (finish v s i p))

-- what a visit is answered that stopped with this page
abbrev pub reply_by : How → (page url : List ℕ) → Reply
reply_by (shows kind) page url = shown page url
reply_by tape.finishes page url = finished page
reply_by tape.ends page url = ended page

-- the refusal of a start that shows a page where there is no room for one more instance of the shelf
abbrev pub full : Rules → How → Origin → (count : ℕ) → Option Reply
full rules (shows kind) (starts k) count = when (nat_le rules.instances count) (shelf_full count)
full rules _ origin count = None

-- how long the body of a record may be
abbrev pub most_of_record : ℕ
most_of_record = 1048576

-- how long the journal may be
abbrev pub most_of_journal : ℕ
most_of_journal = 2 ^ 30

-- the refusal where the body of a record is too long
abbrev pub too_long : Option Journal → Book → Change → Option Reply
too_long None b c = None
too_long (Some j) b c = when (nat_lt most_of_record (record_length j b c)) (oversize (record_length j b c))

-- the refusal where the journal would be too long
abbrev pub full_journal : Option Journal → Book → Change → Option Reply
full_journal None b c = None
full_journal (Some j) b c = when (nat_lt most_of_journal (longer_by (Some j) b c)) (journal_full (longer_by (Some j) b c))

-- a change with its reply, where there is room for its record
abbrev pub with_room : Rules → Book → Reply → (inside : List TxName) → Option Change → Decision
with_room rules b r inside None = replies r
with_room rules b r inside (Some c) = unless (or_else (too_long rules.journal b c) (full_journal rules.journal b c)) (records r c inside)

-- what is decided of a visit that stopped with this outcome; where it shows a page, these pages go
abbrev pub stopped : Rules → Book → (gone : List ℕ) → Visit → Segment → Outcome → Decision
stopped rules b gone v s (paged how bytes) =
    unless (full rules how v.origin (length b.instances))
    (with_room rules b (reply_by how bytes (url_for v)) s.entered (change_by rules b gone v s v.origin how))
stopped rules b gone v s (faulted f) = replies (fault f)
stopped rules b gone v s (tape.out_of_fuel cost) = replies (out_of_fuel cost)

-- what is decided of a visit whose segment came to this; where it shows a page, these pages go
abbrev pub settles : Rules → Book → (gone : List ℕ) → Visit → Segment → Decision
settles rules b gone v s = stopped rules b gone v s s.outcome

-- the pages that go where a ticket's segment answers this page and shows one
abbrev pub gone_for : Rules → Ticket → Place → List ℕ
gone_for rules t at = goes_for rules.pages at.page.number t.number at.instance.used

-- a visit is decided by what it comes to over the cells of now
abbrev pub decide : Rules → Book → Ticket → Admission → Decision
decide rules b t (begins k s) =
    let v = start_visit b t k s in settles rules b [] v (comes_to v (present s.script.cells rules.fuel))
decide rules b t (resumes at) =
    let v = page_visit b t at in
    settles rules b (gone_for rules t at) v (comes_to v (present at.instance.cells rules.fuel))
decide rules b t (refused r) = replies (refusal r)

-- how many instances a tick frees
abbrev pub freed : (tick : ℕ) → Book → ℕ
freed tick b = length b.instances - length (filter (is_live tick) b.instances)

-- what is decided of a tick above the clock, by the room for its record
abbrev pub decide_sweep : Rules → (tick : ℕ) → Book → Decision
decide_sweep rules tick b =
    unless (full_journal rules.journal b (sweeps tick)) (records (swept (freed tick b)) (sweeps tick) [])

-- what is decided of a compaction, by the length of the new file
abbrev pub decide_compact : Rules → Book → Decision
decide_compact rules b =
    let n = compacted_length rules.journal b in unless (when (nat_lt most_of_journal n) (journal_full n)) (compacts (compacted n))

-- what a publish comes to on the book of now
abbrev pub publish_comes : Rules → Book → Ticket → Decision
publish_comes rules b t = unless (barred b) (decide rules b t (admit b t.target))

-- what a sweep comes to on the book of now
abbrev pub sweep_comes : Rules → Book → (tick : ℕ) → Decision
sweep_comes rules b tick = unless (barred b) (decide_sweep rules tick b)

-- what a compaction comes to on the book of now
abbrev pub compact_comes : Rules → Book → Decision
compact_comes rules b = unless (barred b) (decide_compact rules b)

-- a shelf without a journal has no disk that could fail
abbrev pub fate_of : Option Journal → Fate → Fate
fate_of None (disk_fault count) = plain
fate_of journal fate = fate

-- the reply and the book after a decision that is carried out
abbrev pub carried_out : Rules → Book → Decision → Reply × Book
carried_out rules b (replies r) = (r, b)
carried_out rules b (records r c inside) = (r, land rules c inside b)
carried_out rules b (compacts r) = (r, rewritten rules b)

-- the book with this work in doubt, at this count of faults
abbrev pub doubting : (count : ℕ) → Work → Book → Book
doubting count w b = record b { down = Some (record { count = count; work = w }) }

-- the reply and the book after a decision whose work is in doubt
abbrev pub in_doubt : (count : ℕ) → Book → Decision → Reply × Book
in_doubt count b (replies r) = (r, b)
in_doubt count b (records r c inside) = (disk_failed count, doubting count (landing c inside) b)
in_doubt count b (compacts r) = (disk_failed count, doubting count compacting b)

-- what a decision does, by its fate
abbrev pub settle : Rules → Book → Fate → Decision → Reply × Book
settle rules b no_memory d = (memory, b)
settle rules b (disk_fault count) d = in_doubt count b d
settle rules b _ d = carried_out rules b d

-- the book after what is in doubt is kept or lost
abbrev pub recovered : Rules → Fate → Option Doubt → Book → Book
recovered rules kept (Some doubt) b = worked rules doubt.work b
recovered rules _ _ b = b

-- the reply and the book after the shelf is opened again with this setup
abbrev pub opened : Option Journal → List Named → Book → Reply × Book
opened journal scripts b = (live (length b.instances), reopened_with journal scripts b)

-- the reply and the book after a take, by its fate
abbrev pub take_by : Book → Destination → (nonce : ℕ) → Fate → Reply × Book
take_by b target nonce no_memory = (memory, b)
take_by b target nonce _ = take_unless (no_take b target) b nonce

-- A take draws this nonce, which the shelf's source gives next. A publish spends its number, whatever its reply. A tick at or
-- below the clock does nothing. A crash keeps or loses what is in doubt, and then opens the shelf with the setup that it gives.
unfoldable pub step : Rules → Book → (nonce : ℕ) → Event → Fate → Reply × Book
step rules b nonce (take target answer) fate = take_by b target nonce fate
step rules b nonce (publish t) fate = settle rules (spend t.number b) (fate_of rules.journal fate) (publish_comes rules b t)
step rules b nonce (sweep tick) fate =
    if nat_le tick b.clock then (swept 0, b) else settle rules b (fate_of rules.journal fate) (sweep_comes rules b tick)
step rules b nonce compact fate = settle rules b (fate_of rules.journal fate) (compact_comes rules b)
step rules b nonce (crash scripts) fate = opened rules.journal scripts (recovered rules fate b.down b)
