-- What a publish records is not too long.
use Rattle.std.proofs.Common.{◌≡◌, ℕ, ◌+◌, ◌≤◌, ◌^◌, List, [], length, Bool, true, false, Option, Some, None, refl, sym, ap, subst, ◌∙◌, arith}
use Rattle.std.specs.Prelude.{◌&&◌, nat_lt, if◌then◌else◌, ⊤}
use Rattle.std.proofs.lemmas.Bool.{and_from, and_parts}
use Rattle.std.proofs.lemmas.Bool.Decides.{nat_tests}
use Rattle.script_value.specs.declared.outcome.TxName.{TxName}
use Rattle.replay_spec.specs.Tape.{present, How, shows, Outcome, paged, faulted}
use Rattle.replay_spec.specs.Tape as tape
use Rattle.replay_spec.specs.Eval.{Segment}
use Rattle.replay_spec.specs.Book.{Change, opens, extends, ends, finishes, sweeps, Doubt, Book, reopened}
use Rattle.replay_spec.specs.Rules.{Journal, Rules}
use Rattle.replay_spec.specs.Admission.{when, or_else, Admission, begins, resumes, refused, admit}
use Rattle.replay_spec.specs.Next.{Ticket, Origin, starts, answers, Visit, comes_to, start_visit, page_visit, url_for}
use Rattle.replay_spec.specs.Step.{Reply, Decision, replies, records, compacts, unless, barred, change_by, reply_by, full, too_long, full_journal, with_room, stopped, gone_for, decide, publish_comes}
use Rattle.replay_spec.proofs.Going.{Records}
use Rattle.journal_records.specs.Records.{changes, body_of, are_shallow, has_state, body_length, record_length}
use Rattle.journal_spec.specs.Lengths.{state_by, state_told, journal_rules}

abbrev pub body_by : Change → Option (List ℕ) → List ℕ
body_by c state = body_of (changes c state)

-- a page's record has the nonce of its ticket, and this deadline
abbrev pub Tells : Ticket → (deadline : ℕ) → Change → Type 0
Tells t deadline (opens o) = (o.nonce ≡ t.nonce) × (o.deadline ≡ deadline) × (o.evicted ≡ [])
Tells t deadline (extends x) = (x.nonce ≡ t.nonce) × (x.deadline ≡ deadline)
Tells t deadline (ends e) = ⊤
Tells t deadline (finishes f) = ⊤
Tells t deadline (sweeps tick) = ⊥

abbrev TellsIf : Ticket → (deadline : ℕ) → Option Change → Type 0
TellsIf t deadline None = ⊤
TellsIf t deadline (Some c) = Tells t deadline c

-- and what is recorded is not too long; no publish comes to a compaction
abbrev pub Comes : Rules → Book → Ticket → Decision → Type 0
Comes rules b t (replies r) = ⊤
Comes rules b t (compacts r) = ⊥
Comes rules b t (records r c inside) = Tells t (b.clock + rules.life) c × (too_long rules.journal b c ≡ None)

unless_comes : (rules : Rules) (b : Book) (t : Ticket) (o : Option Reply) (d : Decision) → Comes rules b t d → Comes rules b t (unless o d)
unless_comes rules b t None d h = h
unless_comes rules b t (Some r) d h = tt

told_by : (rules : Rules) (b : Book) (v : Visit) (s : Segment) (gone : List ℕ) (origin : Origin) (how : How) → TellsIf v.ticket (b.clock + rules.life) (change_by rules b gone v s origin how)
told_by rules b v s gone (starts k) (shows kind) = (refl, refl, refl)
told_by rules b v s gone (starts k) tape.ends = tt
told_by rules b v s gone (starts k) tape.finishes = tt
told_by rules b v s gone (answers i p) (shows kind) = (refl, refl)
told_by rules b v s gone (answers i p) tape.ends = tt
told_by rules b v s gone (answers i p) tape.finishes = tt

measured : (rules : Rules) (b : Book) (t : Ticket) (r : Reply) (c : Change) (inside : List TxName) (o p : Option Reply) → too_long rules.journal b c ≡ o → Tells t (b.clock + rules.life) c
    → Comes rules b t (unless (or_else o p) (records r c inside))
measured rules b t r c inside (Some x) p is h = tt
measured rules b t r c inside None (Some x) is h = tt
measured rules b t r c inside None None is h = (h, is)

room_comes : (rules : Rules) (b : Book) (t : Ticket) (r : Reply) (inside : List TxName) (o : Option Change) → TellsIf t (b.clock + rules.life) o → Comes rules b t (with_room rules b r inside o)
room_comes rules b t r inside None h = tt
room_comes rules b t r inside (Some c) h = measured rules b t r c inside (too_long rules.journal b c) (full_journal rules.journal b c) refl h

stopped_comes : (rules : Rules) (b : Book) (gone : List ℕ) (v : Visit) (s : Segment) (o : Outcome) → Comes rules b v.ticket (stopped rules b gone v s o)
stopped_comes rules b gone v s (paged how bytes) =
    unless_comes rules b v.ticket (full rules how v.origin (length b.instances)) _
    (room_comes rules b v.ticket (reply_by how bytes (url_for v)) s.entered (change_by rules b gone v s v.origin how) (told_by rules b v s gone v.origin how))
stopped_comes rules b gone v s (faulted f) = tt
stopped_comes rules b gone v s (tape.out_of_fuel cost) = tt

decided_comes : (rules : Rules) (b : Book) (t : Ticket) (a : Admission) → Comes rules b t (decide rules b t a)
decided_comes rules b t (begins k s) =
    let v = start_visit b t k s in let m = comes_to v (present s.script.cells rules.fuel) in stopped_comes rules b [] v m m.outcome
decided_comes rules b t (resumes at) =
    let v = page_visit b t at in let m = comes_to v (present at.instance.cells rules.fuel) in stopped_comes rules b (gone_for rules t at) v m m.outcome
decided_comes rules b t (refused r) = tt

pub published_comes : (rules : Rules) (b : Book) (t : Ticket) → Comes rules b t (publish_comes rules b t)
published_comes rules b t = unless_comes rules b t (barred b) (decide rules b t (admit b t.target)) (decided_comes rules b t (admit b t.target))

-- ---- what a record tells needs no more of a book than its shelf, setup and instances

pub moved_state : (b : Book) (drawn : ℕ) (out : List ℕ) (down : Option Doubt) (c : Change) → state_by (record b { drawn = drawn; out = out; down = down }) c ≡ state_by b c
moved_state b drawn out down (opens o) = refl
moved_state b drawn out down (extends x) = refl
moved_state b drawn out down (ends e) = refl
moved_state b drawn out down (finishes f) = refl
moved_state b drawn out down (sweeps tick) = refl

pub moved_told : (b : Book) (drawn : ℕ) (out : List ℕ) (down : Option Doubt) (c : Change) → state_told (record b { drawn = drawn; out = out; down = down }) c ≡ state_told b c
moved_told b drawn out down (opens o) = refl
moved_told b drawn out down (extends x) = refl
moved_told b drawn out down (ends e) = refl
moved_told b drawn out down (finishes f) = refl
moved_told b drawn out down (sweeps tick) = refl

pub reopened_told : (b : Book) (c : Change) → state_told (reopened b) c ≡ state_told b c
reopened_told b c = moved_told b b.logged [] None c

-- ---- no value of a change nests too deep, its page has a state, and its body is short

pub record IsShort (c : Change) (state : Option (List ℕ)) : Type 0 where
  pub shallow : are_shallow c ≡ true
  pub has : has_state c state ≡ true
  pub low : length (body_by c state) ≤ 1048576

pub length_short : (c : Change) (state : Option (List ℕ)) → record_length c state ≤ 1048576 → IsShort c state
length_short c state low = by_test (are_shallow c && has_state c state) refl low
  where
    by_test : (t : Bool) → (are_shallow c && has_state c state) ≡ t → (if t then body_length (changes c state) else 2 ^ 63) ≤ 1048576 → IsShort c state
    by_test true e low = let both = and_parts (are_shallow c) (has_state c state) e in record { shallow = both.0; has = both.1; low = omega (arith, low) }
    by_test false e low = absurd (omega (arith, low))

pub short_measured : (c : Change) (state : Option (List ℕ)) → IsShort c state → record_length c state ≡ length (body_by c state)
short_measured c state h =
    let low = h.low in
    let all : body_length (changes c state) ≡ length (body_by c state) = omega (arith, low) in
    ap (λ (t : Bool). if t then body_length (changes c state) else 2 ^ 63) (and_from (are_shallow c) (has_state c state) h.shallow h.has) ∙ all

-- what was not too long is so
pub short : (shelf : ℕ) (o : Option Journal) (b : Book) (c : Change) → o ≡ Some (journal_rules shelf) → too_long o b c ≡ None → IsShort c (state_told b c)
short shelf o b c is none =
    let n = record_length c (state_told (reopened b) c) in
    let here : too_long (Some (journal_rules shelf)) b c ≡ None = ap (λ (p : Option Journal). too_long p b c) (sym is) ∙ none in
    length_short c (state_told b c) (subst (λ (s : Option (List ℕ)). record_length c s ≤ 1048576) (reopened_told b c) (by_test (nat_lt 1048576 n) refl here))
  where
    by_test : (t : Bool) → nat_lt 1048576 (record_length c (state_told (reopened b) c)) ≡ t → when t (Reply.oversize (record_length c (state_told (reopened b) c))) ≡ None
        → record_length c (state_told (reopened b) c) ≤ 1048576
    by_test true e f = absurd (let no : ⊥ = cc in no)
    by_test false e f = grind (arith, nat_tests, e)

pub recorded_short : {lawful : Type 0} (shelf : ℕ) (rules : Rules) (b : Book) (t : Ticket) (c : Change) (inside : List TxName)
    → rules.journal ≡ Some (journal_rules shelf) → Records lawful rules b t c inside → IsShort c (state_told b c)
recorded_short shelf rules b t c inside journal h =
    let comes : Comes rules b t (records h.reply c inside) = subst (Comes rules b t) h.decided (decided_comes rules b t (admit b t.target)) in
    short shelf rules.journal b c journal comes.1
