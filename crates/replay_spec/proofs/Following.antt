-- What becomes of events on a shelf that follows another one's journal, and on one that does not.
use Rattle.std.proofs.Common.{◌≡◌, ◌<◌, ◌==◌, ◌^◌, ℕ, List, [], length, Option, Some, None, Bool, true, false, refl, sym, ap, subst, ◌∙◌, inl, inr, arith}
use Rattle.std.specs.Prelude.{nat_le, nat_lt, if◌then◌else◌, ⊤}
use Rattle.std.proofs.lemmas.Bool.Decides.{nat_tests}
use Rattle.script_value.specs.Val.{Val}
use Rattle.script_value.specs.declared.outcome.TxName.{TxName}
use Rattle.script_value.specs.declared.outcome.Refusal.{Refusal}
use Rattle.script_nodes.specs.PageNames.Names.{Destination}
use Rattle.script_nodes.specs.Setup.{Named}
use Rattle.replay_spec.specs.Tape.{present, How, Outcome, paged}
use Rattle.replay_spec.specs.Tape as tape
use Rattle.replay_spec.specs.Eval.{Segment}
use Rattle.replay_spec.specs.Book.{Change, sweeps, Doubt, Book, spend}
use Rattle.replay_spec.specs.Rules.{Journal, Rules}
use Rattle.replay_spec.specs.Change.{record_length, longer_by}
use Rattle.replay_spec.specs.Compaction.{compacted_length, reopened_with}
use Rattle.replay_spec.specs.Admission.{when, or_else, Admission, begins, resumes, refused, refusal_of, admit}
use Rattle.replay_spec.specs.Next.{Ticket, Visit, url_for, comes_to, start_visit, page_visit}
use Rattle.replay_spec.specs.Step.{Event, take, publish, sweep, compact, crash, Fate, plain, no_memory, disk_fault, lost, kept, Reply, following, worn, swept, compacted, journal_full, live, most_of_journal, Decision, replies, records, compacts, unless, down_by, barred, refused_by, no_take, full, full_journal, too_long, with_room, change_by, reply_by, stopped, gone_for, decide, decide_sweep, decide_compact, publish_comes, sweep_comes, compact_comes, fate_of, settle, recovered, take_unless, take_by, step}
use Rattle.replay_spec.specs.Runs.{lands}
use Rattle.replay_spec.specs.Laws.{then_book}
use Rattle.replay_spec.specs.Promises.{follower_reply, IsPutOff, AFollowerAnswersNoVisit, NoOtherFollows}
use Rattle.replay_spec.proofs.Barred.{barred_by, leader_barred, follower_barred}
use Rattle.replay_spec.proofs.Going.{Goes, stays, draws, spends, publishes, fails, goes_to, fails_at, rewrites, fails_to_rewrite, keeps, keeps_rewritten, loses, goes}
use Rattle.replay_spec.proofs.Reopened.{follower_opened}

-- a reply alone is given, or memory is wanting, and nothing else changes
replied : (b : Book) (rules : Rules) (c : Book) (journal : Option Journal) (fate : Fate) → IsPutOff b fate (settle rules c (fate_of journal fate) (replies (follower_reply b.down))) c
replied b rules c None no_memory = (inr (refl, refl), refl)
replied b rules c (Some j) no_memory = (inr (refl, refl), refl)
replied b rules c None (disk_fault count) = (inl refl, refl)
replied b rules c (Some j) (disk_fault count) = (inl refl, refl)
replied b rules c None plain = (inl refl, refl)
replied b rules c (Some j) plain = (inl refl, refl)
replied b rules c None lost = (inl refl, refl)
replied b rules c (Some j) lost = (inl refl, refl)
replied b rules c None kept = (inl refl, refl)
replied b rules c (Some j) kept = (inl refl, refl)

-- on a shelf that follows each decision is the same
put_off : (b : Book) (rules : Rules) (c : Book) (fate : Fate) (d : Decision) → b.follows ≡ true
    → IsPutOff b fate (settle rules c (fate_of rules.journal fate) (unless (barred b) d)) c
put_off b rules c fate d f =
    subst (λ (x : Option Reply). IsPutOff b fate (settle rules c (fate_of rules.journal fate) (unless x d)) c) (sym (follower_barred b f)) (replied b rules c rules.journal fate)

take_barred : (b : Book) (target : Destination) (nonce : ℕ) → b.follows ≡ true → take_unless (no_take b target) b nonce ≡ (follower_reply b.down, b)
take_barred b target nonce f =
    ap (λ (o : Option Reply). take_unless (or_else o (or_else (when (b.drawn == 2 ^ 62) worn) (refused_by (refusal_of (admit b target))))) b nonce) (follower_barred b f)

take_put_off : (b : Book) (target : Destination) (nonce : ℕ) (fate : Fate) → b.follows ≡ true → IsPutOff b fate (take_by b target nonce fate) b
take_put_off b target nonce no_memory f = (inr (refl, refl), refl)
take_put_off b target nonce plain f = let e = take_barred b target nonce f in (inl (ap (λ (x : Reply × Book). x.0) e), ap (λ (x : Reply × Book). x.1) e)
take_put_off b target nonce (disk_fault count) f = let e = take_barred b target nonce f in (inl (ap (λ (x : Reply × Book). x.0) e), ap (λ (x : Reply × Book). x.1) e)
take_put_off b target nonce lost f = let e = take_barred b target nonce f in (inl (ap (λ (x : Reply × Book). x.0) e), ap (λ (x : Reply × Book). x.1) e)
take_put_off b target nonce kept f = let e = take_barred b target nonce f in (inl (ap (λ (x : Reply × Book). x.0) e), ap (λ (x : Reply × Book). x.1) e)

early : (x y : Reply × Book) (tick clock : ℕ) → clock < tick → (if nat_le tick clock then x else y) ≡ y
early x y tick clock h = grind (arith, nat_tests)

-- nothing is recovered where nothing is in doubt
recovered_up : (rules : Rules) (fate : Fate) (o : Option Doubt) (b : Book) → o ≡ None → recovered rules fate o b ≡ b
recovered_up rules fate o b up = grind (arith, up)

pub answers_no_visit : AFollowerAnswersNoVisit
unfolding step
answers_no_visit rules b nonce fate f = (
  λ (target : Destination) (answer : Val). take_put_off b target nonce fate f,
  λ (t : Ticket). put_off b rules (spend t.number b) fate (decide rules b t (admit b t.target)) f,
  λ (tick : ℕ) (later : b.clock < tick).
      subst (λ (x : Reply × Book). IsPutOff b fate x b) (sym (early (swept 0, b) (settle rules b (fate_of rules.journal fate) (sweep_comes rules b tick)) tick b.clock later))
      (put_off b rules b fate (decide_sweep rules tick b) f),
  put_off b rules b fate (decide_compact rules b) f,
  λ (scripts : List Named) (up : b.down ≡ None).
      let same = recovered_up rules fate b.down b up in
      ap (λ (c : Book). (live (length c.instances), reopened_with rules.journal scripts c)) same
      ∙ ap (λ (c : Book). (live (length b.instances), c)) (follower_opened rules.journal scripts b f),
)

-- No event makes a shelf follow.
leads_on : {lawful : Type 0} (rules : Rules) (b d : Book) (o : Option Change) → Goes lawful rules b o d → b.follows ≡ false → d.follows ≡ false
leads_on rules b d o stays f = f
leads_on rules b d o draws f = f
leads_on rules b d o (spends n out) f = f
leads_on rules b d o (publishes t c inside h) f = f
leads_on rules b d o (fails count t c inside h) f = f
leads_on rules b d o (goes_to tick later up unfed) f = f
leads_on rules b d o (fails_at count tick later up unfed) f = f
leads_on rules b d o (rewrites up unfed) f = refl
leads_on rules b d o (fails_to_rewrite count up unfed) f = f
leads_on rules b d o (keeps scripts count c inside down) f = f
leads_on rules b d o (keeps_rewritten scripts count down) f = refl
leads_on rules b d o (loses scripts) f = f

-- a reply is none of a shelf that follows
abbrev IsLeaders : Reply → Type 0
IsLeaders following = ⊥
IsLeaders _ = ⊤

-- a decision is answered so
abbrev Leads : Decision → Type 0
Leads (replies r) = IsLeaders r
Leads (records r c inside) = IsLeaders r
Leads (compacts r) = IsLeaders r

no_following : (r : Reply) → IsLeaders r → r ≡ following → ⊥
no_following r h e = subst IsLeaders e h

down_leads : (o : Option Doubt) (d : Decision) → Leads d → Leads (unless (down_by o) d)
down_leads o d h = grind arith

when_leads : (is_over : Bool) (r : Reply) (d : Decision) → IsLeaders r → Leads d → Leads (unless (when is_over r) d)
when_leads true r d leads h = leads
when_leads false r d leads h = h

full_leads : (rules : Rules) (how : How) (v : Visit) (count : ℕ) (d : Decision) → Leads d → Leads (unless (full rules how v.origin count) d)
full_leads rules how v count d h = grind arith

reply_leads : (how : How) (page url : List ℕ) → IsLeaders (reply_by how page url)
reply_leads how page url = grind arith

room_leads : (rules : Rules) (b : Book) (r : Reply) (inside : List TxName) (o : Option Change) → IsLeaders r → Leads (with_room rules b r inside o)
room_leads rules b r inside None h = h
room_leads rules b r inside (Some c) h = by_journal rules.journal
  where
    by_journal : (journal : Option Journal) → Leads (unless (or_else (too_long journal b c) (full_journal journal b c)) (records r c inside))
    by_journal None = h
    by_journal (Some j) = by_tests (nat_lt 1048576 (record_length j b c)) (nat_lt (2 ^ 30) (longer_by (Some j) b c))
      where
        by_tests : (long over : Bool)
            → Leads (unless (or_else (when long (Reply.oversize (record_length j b c))) (when over (journal_full (longer_by (Some j) b c)))) (records r c inside))
        by_tests true over = tt
        by_tests false true = tt
        by_tests false false = h

stopped_leads : (rules : Rules) (b : Book) (gone : List ℕ) (v : Visit) (s : Segment) (o : Outcome) → Leads (stopped rules b gone v s o)
stopped_leads rules b gone v s (paged how bytes) =
    let c = change_by rules b gone v s v.origin how in
    let r = reply_by how bytes (url_for v) in
    full_leads rules how v (length b.instances) (with_room rules b r s.entered c) (room_leads rules b r s.entered c (reply_leads how bytes (url_for v)))
stopped_leads rules b gone v s (tape.faulted f) = tt
stopped_leads rules b gone v s (tape.out_of_fuel cost) = tt

decided_leads : (rules : Rules) (b : Book) (t : Ticket) (a : Admission) → Leads (decide rules b t a)
decided_leads rules b t (begins k s) =
    let v = start_visit b t k s in
    let m = comes_to v (present s.script.cells rules.fuel) in
    stopped_leads rules b [] v m m.outcome
decided_leads rules b t (resumes at) =
    let v = page_visit b t at in
    let m = comes_to v (present at.instance.cells rules.fuel) in
    stopped_leads rules b (gone_for rules t at) v m m.outcome
decided_leads rules b t (refused r) = tt

sweep_leads : (journal : Option Journal) (b : Book) (tick n : ℕ) → Leads (unless (full_journal journal b (sweeps tick)) (records (swept n) (sweeps tick) []))
sweep_leads None b tick n = tt
sweep_leads (Some j) b tick n =
    when_leads (nat_lt (2 ^ 30) (longer_by (Some j) b (sweeps tick))) (journal_full (longer_by (Some j) b (sweeps tick))) (records (swept n) (sweeps tick) []) tt tt

-- what bars a shelf that does not follow is that it is down
barred_leads : (b : Book) (d : Decision) → b.follows ≡ false → Leads d → Leads (unless (barred b) d)
barred_leads b d f h = subst (λ (o : Option Reply). Leads (unless o d)) (sym (leader_barred b f)) (down_leads b.down d h)

settled_leads : (rules : Rules) (b : Book) (fate : Fate) (d : Decision) → Leads d → IsLeaders (settle rules b fate d).0
settled_leads rules b fate d h = grind arith

swept_leads : (rules : Rules) (b : Book) (fate : Fate) (d : Decision) (is_late : Bool) → Leads d → IsLeaders (if is_late then (swept 0, b) else settle rules b fate d).0
swept_leads rules b fate d true h = tt
swept_leads rules b fate d false h = settled_leads rules b fate d h

took_leads : (b : Book) (nonce : ℕ) (o : Option Doubt) (is_worn : Bool) (a : Option Refusal)
    → IsLeaders (take_unless (or_else (barred_by o false) (or_else (when is_worn worn) (refused_by a))) b nonce).0
took_leads b nonce o is_worn a = grind arith

take_leads : (b : Book) (target : Destination) (nonce : ℕ) → b.follows ≡ false → IsLeaders (take_unless (no_take b target) b nonce).0
take_leads b target nonce f =
    subst (λ (x : Bool). IsLeaders (take_unless (or_else (barred_by b.down x) (or_else (when (b.drawn == 2 ^ 62) worn) (refused_by (refusal_of (admit b target))))) b nonce).0) (sym f)
    (took_leads b nonce b.down (b.drawn == 2 ^ 62) (refusal_of (admit b target)))

taken_leads : (b : Book) (target : Destination) (nonce : ℕ) (fate : Fate) → b.follows ≡ false → IsLeaders (take_by b target nonce fate).0
taken_leads b target nonce no_memory f = tt
taken_leads b target nonce plain f = take_leads b target nonce f
taken_leads b target nonce (disk_fault count) f = take_leads b target nonce f
taken_leads b target nonce lost f = take_leads b target nonce f
taken_leads b target nonce kept f = take_leads b target nonce f

leads : (rules : Rules) (b : Book) (nonce : ℕ) (x : Event) (fate : Fate) → b.follows ≡ false → IsLeaders (step rules b nonce x fate).0
unfolding step
leads rules b nonce (take target answer) fate f = taken_leads b target nonce fate f
leads rules b nonce (publish t) fate f =
    settled_leads rules (spend t.number b) (fate_of rules.journal fate) (publish_comes rules b t)
    (barred_leads b (decide rules b t (admit b t.target)) f (decided_leads rules b t (admit b t.target)))
leads rules b nonce (sweep tick) fate f =
    swept_leads rules b (fate_of rules.journal fate) (sweep_comes rules b tick) (nat_le tick b.clock)
    (barred_leads b (decide_sweep rules tick b) f (sweep_leads rules.journal b tick _))
leads rules b nonce compact fate f =
    settled_leads rules b (fate_of rules.journal fate) (compact_comes rules b)
    (barred_leads b (decide_compact rules b) f (let n = compacted_length rules.journal b in when_leads (nat_lt most_of_journal n) (journal_full n) (compacts (compacted n)) tt tt))
leads rules b nonce (crash scripts) fate f = tt

pub no_other : NoOtherFollows
no_other b m f = (
  leads_on m.rules b (then_book m b) (lands m.rules b m.event m.fate) (goes m.rules b m.nonce m.event m.fate) f,
  λ e. no_following (step m.rules b m.nonce m.event m.fate).0 (leads m.rules b m.nonce m.event m.fate f) e,
)
