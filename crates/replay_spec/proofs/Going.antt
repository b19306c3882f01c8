-- What an event makes of a book.
use Rattle.std.proofs.Common.{◌≡◌, ◌<◌, ℕ, List, [], Option, Some, None, Bool, true, false, refl, ap, subst, ◌∙◌, arith}
use Rattle.std.specs.Prelude.{nat_le, nat_lt, if◌then◌else◌, length, ⊤}
use Rattle.std.proofs.lemmas.Bool.Decides.{nat_tests}
use Rattle.script_value.specs.declared.outcome.TxName.{TxName}
use Rattle.script_nodes.specs.PageNames.Names.{Destination}
use Rattle.script_nodes.specs.Setup.{Named}
use Rattle.replay_spec.specs.Book.{Change, sweeps, Doubt, Book, Work, landing, compacting, draw, spend}
use Rattle.replay_spec.specs.Rules.{Rules}
use Rattle.replay_spec.specs.Change.{land}
use Rattle.replay_spec.specs.Compaction.{compacted_length, rewritten, worked, reopened_with}
use Rattle.replay_spec.specs.Tape.{present, Outcome, paged}
use Rattle.replay_spec.specs.Tape as tape
use Rattle.replay_spec.specs.Eval.{Segment}
use Rattle.replay_spec.specs.Admission.{when, or_else, Admission, begins, resumes, refused, admit}
use Rattle.replay_spec.specs.Next.{Ticket, Visit, url_for, comes_to, start_visit, page_visit}
use Rattle.replay_spec.specs.Step.{Event, take, publish, sweep, compact, crash, Fate, plain, no_memory, disk_fault, lost, kept, Reply, swept, Decision, replies, records, compacts, unless, barred, full_journal, full, too_long, with_room, change_by, reply_by, stopped, gone_for, doubting, decide, most_of_journal, journal_full, compacted, fate_of, settle, recovered, no_take, take_unless, take_by, step}
use Rattle.replay_spec.specs.Runs.{recorded_under, change_in, kept_under, lands}
use Rattle.replay_spec.specs.Invariant.{Among}
use Rattle.replay_spec.specs.Laws.{IsLawful}
use Rattle.replay_spec.proofs.Stand.{among_of}
use Rattle.replay_spec.proofs.Barred.{not_barred}

-- what a publish records of a ticket, which is out where it is lawful, on a shelf that is up and does not follow another one's journal
pub record Records (lawful : Type 0) (rules : Rules) (b : Book) (t : Ticket) (c : Change) (inside : List TxName) : Type 0 where
  pub out : lawful → Among t.number b.out
  pub up : b.down ≡ None
  pub unfed : b.follows ≡ false
  pub reply : Reply
  pub decided : decide rules b t (admit b t.target) ≡ records reply c inside

-- The change that an event lands, if it does, and the book after it.
pub data Goes (lawful : Type 0) (rules : Rules) (b : Book) : Option Change → Book → Type 0 where
  stays : Goes lawful rules b None b
  draws : Goes lawful rules b None (draw b)
  spends : (n : ℕ) → (lawful → Among n b.out) → Goes lawful rules b None (spend n b)
  publishes : (t : Ticket) (c : Change) (inside : List TxName) → Records lawful rules b t c inside → Goes lawful rules b (Some c) (land rules c inside (spend t.number b))
  fails : (count : ℕ) (t : Ticket) (c : Change) (inside : List TxName) → Records lawful rules b t c inside → Goes lawful rules b None (doubting count (landing c inside) (spend t.number b))
  goes_to : (tick : ℕ) → b.clock < tick → b.down ≡ None → b.follows ≡ false → Goes lawful rules b (Some (sweeps tick)) (land rules (sweeps tick) [] b)
  fails_at : (count tick : ℕ) → b.clock < tick → b.down ≡ None → b.follows ≡ false → Goes lawful rules b None (doubting count (landing (sweeps tick) []) b)
  rewrites : b.down ≡ None → b.follows ≡ false → Goes lawful rules b None (rewritten rules b)
  fails_to_rewrite : (count : ℕ) → b.down ≡ None → b.follows ≡ false → Goes lawful rules b None (doubting count compacting b)
  keeps : (scripts : List Named) (count : ℕ) (c : Change) (inside : List TxName) → b.down ≡ Some (record { count = count; work = landing c inside })
      → Goes lawful rules b (Some c) (reopened_with rules.journal scripts (land rules c inside b))
  keeps_rewritten : (scripts : List Named) (count : ℕ) → b.down ≡ Some (record { count = count; work = compacting })
      → Goes lawful rules b None (reopened_with rules.journal scripts (rewritten rules b))
  loses : (scripts : List Named) → Goes lawful rules b None (reopened_with rules.journal scripts b)

took_unless : {lawful : Type 0} (rules : Rules) (b : Book) (nonce : ℕ) (o : Option Reply) → Goes lawful rules b None (take_unless o b nonce).1
took_unless rules b nonce None = draws
took_unless rules b nonce (Some r) = stays

took : {lawful : Type 0} (rules : Rules) (b : Book) (target : Destination) (nonce : ℕ) (fate : Fate) → Goes lawful rules b None (take_by b target nonce fate).1
took rules b target nonce no_memory = stays
took rules b target nonce plain = took_unless rules b nonce (no_take b target)
took rules b target nonce (disk_fault count) = took_unless rules b nonce (no_take b target)
took rules b target nonce lost = took_unless rules b nonce (no_take b target)
took rules b target nonce kept = took_unless rules b nonce (no_take b target)

-- a reply alone spends the number
replied : {lawful : Type 0} (rules : Rules) (b : Book) (n : ℕ) (fate : Fate) (r : Reply) → (lawful → Among n b.out) → Goes lawful rules b (recorded_under fate (replies r)) (settle rules (spend n b) fate (replies r)).1
replied rules b n no_memory r out = spends n out
replied rules b n (disk_fault count) r out = spends n out
replied rules b n plain r out = spends n out
replied rules b n lost r out = spends n out
replied rules b n kept r out = spends n out

-- a publish compacts nothing
abbrev NoFile : Decision → Type 0
NoFile (compacts r) = ⊥
NoFile d = ⊤

unless_no_file : (o : Option Reply) (d : Decision) → NoFile d → NoFile (unless o d)
unless_no_file None d h = h
unless_no_file (Some r) d h = tt

room_no_file : (rules : Rules) (b : Book) (r : Reply) (inside : List TxName) (o : Option Change) → NoFile (with_room rules b r inside o)
room_no_file rules b r inside None = tt
room_no_file rules b r inside (Some c) = unless_no_file (or_else (too_long rules.journal b c) (full_journal rules.journal b c)) (records r c inside) tt

stopped_no_file : (rules : Rules) (b : Book) (gone : List ℕ) (v : Visit) (s : Segment) (o : Outcome) → NoFile (stopped rules b gone v s o)
stopped_no_file rules b gone v s (paged how bytes) =
    let c = change_by rules b gone v s v.origin how in
    unless_no_file (full rules how v.origin (length b.instances)) (with_room rules b (reply_by how bytes (url_for v)) s.entered c) (room_no_file rules b (reply_by how bytes (url_for v)) s.entered c)
stopped_no_file rules b gone v s (tape.faulted f) = tt
stopped_no_file rules b gone v s (tape.out_of_fuel cost) = tt

decided_no_file : (rules : Rules) (b : Book) (t : Ticket) (a : Admission) → NoFile (decide rules b t a)
decided_no_file rules b t (begins k s) =
    let v = start_visit b t k s in let m = comes_to v (present s.script.cells rules.fuel) in stopped_no_file rules b [] v m m.outcome
decided_no_file rules b t (resumes at) =
    let v = page_visit b t at in let m = comes_to v (present at.instance.cells rules.fuel) in stopped_no_file rules b (gone_for rules t at) v m m.outcome
decided_no_file rules b t (refused r) = tt

settled : {lawful : Type 0} (rules : Rules) (b : Book) (t : Ticket) (fate : Fate) (d : Decision) (o : Option Reply) → (lawful → Among t.number b.out) → barred b ≡ o
    → decide rules b t (admit b t.target) ≡ d
    → Goes lawful rules b (recorded_under fate (unless o d)) (settle rules (spend t.number b) fate (unless o d)).1
settled rules b t fate d (Some r) out is e = replied rules b t.number fate r out
settled rules b t fate (replies r) None out is e = replied rules b t.number fate r out
settled rules b t fate (compacts r) None out is e = absurd (subst NoFile e (decided_no_file rules b t (admit b t.target)))
settled rules b t no_memory (records r c inside) None out is e = spends t.number out
settled rules b t (disk_fault count) (records r c inside) None out is e = fails count t c inside (record { out = out; up = (not_barred b is).0; unfed = (not_barred b is).1; reply = r; decided = e })
settled rules b t plain (records r c inside) None out is e = publishes t c inside (record { out = out; up = (not_barred b is).0; unfed = (not_barred b is).1; reply = r; decided = e })
settled rules b t lost (records r c inside) None out is e = publishes t c inside (record { out = out; up = (not_barred b is).0; unfed = (not_barred b is).1; reply = r; decided = e })
settled rules b t kept (records r c inside) None out is e = publishes t c inside (record { out = out; up = (not_barred b is).0; unfed = (not_barred b is).1; reply = r; decided = e })

idle : {lawful : Type 0} (rules : Rules) (b : Book) (fate : Fate) (r : Reply) → Goes lawful rules b (recorded_under fate (replies r)) (settle rules b fate (replies r)).1
idle rules b no_memory r = stays
idle rules b (disk_fault count) r = stays
idle rules b plain r = stays
idle rules b lost r = stays
idle rules b kept r = stays

ticked : {lawful : Type 0} (rules : Rules) (b : Book) (tick : ℕ) (fate : Fate) (r : Reply) (full : Option Reply) → b.clock < tick → barred b ≡ None
    → Goes lawful rules b (recorded_under fate (unless full (records r (sweeps tick) []))) (settle rules b fate (unless full (records r (sweeps tick) []))).1
ticked rules b tick fate r (Some x) later up = idle rules b fate x
ticked rules b tick no_memory r None later up = stays
ticked rules b tick (disk_fault count) r None later is = let free = not_barred b is in fails_at count tick later free.0 free.1
ticked rules b tick plain r None later is = let free = not_barred b is in goes_to tick later free.0 free.1
ticked rules b tick lost r None later is = let free = not_barred b is in goes_to tick later free.0 free.1
ticked rules b tick kept r None later is = let free = not_barred b is in goes_to tick later free.0 free.1

swept_by : {lawful : Type 0} (rules : Rules) (b : Book) (tick : ℕ) (fate : Fate) (r : Reply) (full : Option Reply) (is_late : Bool) (o : Option Reply) → nat_le tick b.clock ≡ is_late → barred b ≡ o
    → let d = unless o (unless full (records r (sweeps tick) [])) in
    Goes lawful rules b (if is_late then None else recorded_under fate d) (if is_late then (swept 0, b) else settle rules b fate d).1
swept_by rules b tick fate r full true o late is = stays
swept_by rules b tick fate r full false (Some x) late is = idle rules b fate x
swept_by rules b tick fate r full false None late is = ticked rules b tick fate r full (grind (arith, nat_tests, late)) is

-- an event that compacts the file
renewing : {lawful : Type 0} (rules : Rules) (b : Book) (fate : Fate) (r : Reply) (full : Option Reply) → barred b ≡ None
    → Goes lawful rules b (recorded_under fate (unless full (compacts r))) (settle rules b fate (unless full (compacts r))).1
renewing rules b fate r (Some x) up = idle rules b fate x
renewing rules b no_memory r None up = stays
renewing rules b (disk_fault count) r None is = let free = not_barred b is in fails_to_rewrite count free.0 free.1
renewing rules b plain r None is = let free = not_barred b is in rewrites free.0 free.1
renewing rules b lost r None is = let free = not_barred b is in rewrites free.0 free.1
renewing rules b kept r None is = let free = not_barred b is in rewrites free.0 free.1

renewed_by : {lawful : Type 0} (rules : Rules) (b : Book) (fate : Fate) (r : Reply) (full : Option Reply) (o : Option Reply) → barred b ≡ o
    → Goes lawful rules b (recorded_under fate (unless o (unless full (compacts r)))) (settle rules b fate (unless o (unless full (compacts r)))).1
renewed_by rules b fate r full (Some x) is = idle rules b fate x
renewed_by rules b fate r full None is = renewing rules b fate r full is

-- a compaction lands no change
no_change : (fate : Fate) (o full : Option Reply) (r : Reply) → recorded_under fate (unless o (unless full (compacts r))) ≡ None
no_change fate o full r = grind arith

crashed : {lawful : Type 0} (rules : Rules) (b : Book) (scripts : List Named) (fate : Fate) (o : Option Doubt) → b.down ≡ o
    → Goes lawful rules b (kept_under fate o) (reopened_with rules.journal scripts (recovered rules fate o b))
crashed {lawful = lawful} rules b scripts kept (Some doubt) is = kept_work doubt.work refl
  where
    kept_work : (w : Work) → doubt.work ≡ w → Goes lawful rules b (change_in w) (reopened_with rules.journal scripts (worked rules w b))
    kept_work (landing c inside) e = keeps scripts doubt.count c inside (is ∙ ap (λ (x : Work). Some (record { count = doubt.count; work = x })) e)
    kept_work compacting e = keeps_rewritten scripts doubt.count (is ∙ ap (λ (x : Work). Some (record { count = doubt.count; work = x })) e)
crashed rules b scripts kept None is = loses scripts
crashed rules b scripts plain o is = loses scripts
crashed rules b scripts no_memory o is = loses scripts
crashed rules b scripts (disk_fault count) o is = loses scripts
crashed rules b scripts lost o is = loses scripts

pub goes : (rules : Rules) (b : Book) (nonce : ℕ) (x : Event) (fate : Fate) → Goes (IsLawful x b) rules b (lands rules b x fate) (step rules b nonce x fate).1
unfolding step
goes rules b nonce (take target answer) fate = took rules b target nonce fate
goes rules b nonce (publish t) fate =
    settled rules b t (fate_of rules.journal fate) (decide rules b t (admit b t.target)) (barred b) (among_of b.out t.number) refl refl
goes rules b nonce (sweep tick) fate =
    swept_by rules b tick (fate_of rules.journal fate) _ (full_journal rules.journal b (sweeps tick)) (nat_le tick b.clock) (barred b) refl refl
goes rules b nonce compact fate =
    let f = fate_of rules.journal fate in
    let n = compacted_length rules.journal b in
    let full = when (nat_lt most_of_journal n) (journal_full n) in
    subst (λ (o : Option Change). Goes (IsLawful compact b) rules b o (settle rules b f (unless (barred b) (unless full (compacts (compacted n))))).1)
    (no_change f (barred b) full (compacted n)) (renewed_by rules b f (compacted n) full (barred b) refl)
goes rules b nonce (crash scripts) fate = crashed rules b scripts fate b.down refl
