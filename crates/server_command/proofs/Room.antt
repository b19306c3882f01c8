-- A run of events that bring no other setup: each journal has room for what is in it, and for what is in doubt.
use Rattle.std.proofs.Common.{◌≡◌, ◌≤◌, ◌<◌, ◌^◌, ◌∙◌, ◌+◌, ◌%◌, ◌==◌, ◌++◌, ◌∷◌, ℕ, zero, suc, List, [], length, map, Bool, true, false, Option, Some, None, Result, Ok, Err, refl, sym, ap, subst, ⊎_elim, arith, slice_get}
use Rattle.std.specs.Prelude.{⊤, slice_set, nat_lt, nat_le, if◌then◌else◌}
use Rattle.std.proofs.lemmas.Bool.{ltb-false}
use Rattle.std.proofs.lemmas.List.{length-set}
use Rattle.page_names.specs.Names.{Destination, destination_of}
use Rattle.script_nodes.specs.Setup.{Named}
use Rattle.replay_spec.specs.Admission.{Admission, begins, resumes, refused, admit, or_else, when}
use Rattle.replay_spec.specs.Book.{Book, Change, Doubt, Work, landing, compacting, sweeps, are_same, draw, spend}
use Rattle.replay_spec.specs.Change.{longer_by, land}
use Rattle.replay_spec.specs.Compaction.{renewed_length, setup_for, reopened_with, worked}
use Rattle.replay_spec.specs.Eval.{Segment}
use Rattle.replay_spec.specs.Next.{Ticket, Visit, comes_to, page_visit, start_visit, url_for}
use Rattle.replay_spec.specs.Rules.{Rules, Journal}
use Rattle.replay_spec.specs.Step.{Event, take, publish, sweep, compact, crash, Fate, no_memory, disk_fault, lost, kept, plain, Reply, taken, swept, live, Decision, replies, records, compacts, unless, change_by, freed, full, gone_for, reply_by, carried_out, doubting, in_doubt, full_journal, with_room, stopped, decide, decide_sweep, publish_comes, sweep_comes, barred, fate_of, settle, recovered, take_by, no_take, take_unless, step}
use Rattle.replay_spec.specs.Runs.{Shelf, empty_shelf}
use Rattle.replay_spec.specs.Tape as tape
use Rattle.replay_spec.specs.Tape.{Outcome}
use Rattle.replay_spec.proofs.Events.{settled_setup, took_setup, swept_setup}
use Rattle.replay_spec.proofs.Reopened.{same_self}
use Rattle.replay_spec.proofs.Barred.{barred_by, recovered_setup, some_setup}
use Rattle.web_disk.specs.View.{RackView}
use Rattle.play_steps.specs.Rules.{Call, answered, event}
use Rattle.play_steps.specs.Step as steps
use Rattle.play_steps.specs.Step.{Step, lines_in}
use Rattle.play_steps.specs.Transcript as run
use Rattle.play_steps.specs.Transcript.{Run, End, done, bad_line, called, crashed, first_fate, fits, goes_on, got, later_fates, performed, published, stopped as halted, transcript, went}
use Rattle.play_steps.specs.Reports.{sweep_report, take_report}
use Rattle.play_steps.specs.declared.report.Report.TheVariants.{Replied, Reopened}
use Rattle.play_steps.specs.declared.stage.Reopen.TheVariants as reopen
use Rattle.measured_run.specs.Drawing.{drawn_over, run_drawn, source_past, step_over, steps_drawn}
use Rattle.measured_run.specs.Generator.{Source, choice_of, drawn, lot_of, next_step, step_of, visit_of, visit_target, worker_of}
use Rattle.measured_run.specs.Lines.{played}
use Rattle.measured_run.specs.declared.step.LoadStep.{LoadStep}
use Rattle.measured_run.specs.declared.step.LoadStep.TheVariants as load
use Rattle.play_desk.specs.Desk as desk
use Rattle.play_desk.specs.Desk.{Desk, counting, crash_on, crashed_by, desk_crash, desk_publish, desk_rules, desk_sweep, desk_take, first_desk, first_shelves, happening, publish_held, publish_on, sweep_on, swept_by, taken_by, ticket_of}
use Rattle.play_desk.specs.Opening.{IsLeft}
use Rattle.play_desk.specs.Target.{answer_to, path_and_query, shelf_for}
use Rattle.trio_rack.proofs.Each.{each_more}
use Rattle.play_desk.proofs.Held.{count_first}

-- the record of what is decided has room in the journal
abbrev Fits : Rules → Book → Decision → Type 0
Fits rules b (replies r) = ⊤
Fits rules b (records r c inside) = longer_by rules.journal b c ≤ 2 ^ 30
Fits rules b (compacts r) = ⊥

-- so has that of what is in doubt
abbrev WorkFits : Rules → Book → Work → Type 0
WorkFits rules b (landing c inside) = longer_by rules.journal b c ≤ 2 ^ 30
WorkFits rules b compacting = ⊥

abbrev DoubtFits : Rules → Book → Option Doubt → Type 0
DoubtFits rules b None = ⊤
DoubtFits rules b (Some doubt) = WorkFits rules b doubt.work

-- the journal has room for what is in it, and for what is in doubt
pub record HasRoom (rules : Rules) (b : Book) : Type 0 where
  pub short : b.length ≤ 2 ^ 30
  pub doubt : DoubtFits rules b b.down

unless_fits : (rules : Rules) (b : Book) (o : Option Reply) (d : Decision) → (o ≡ None → Fits rules b d) → Fits rules b (unless o d)
unless_fits rules b None d f = f refl
unless_fits rules b (Some r) d f = tt

when_none : (t : Bool) (r : Reply) → when t r ≡ None → t ≡ false
when_none true r e = absurd (let no : ⊥ = cc e in no)
when_none false r e = refl

else_none : (a b : Option Reply) → or_else a b ≡ None → b ≡ None
else_none None b e = e
else_none (Some r) b e = absurd (let no : ⊥ = cc e in no)

-- what is not refused has room
room_by : (j : Option Journal) (b : Book) (c : Change) → b.length ≤ 2 ^ 30 → full_journal j b c ≡ None → longer_by j b c ≤ 2 ^ 30
room_by None b c short e = short
room_by (Some j) b c short e = ltb-false (2 ^ 30) (longer_by (Some j) b c) (when_none (nat_lt (2 ^ 30) (longer_by (Some j) b c)) _ e)

room_fits : (rules : Rules) (b : Book) (r : Reply) (inside : _) (o : Option Change) → b.length ≤ 2 ^ 30 → Fits rules b (with_room rules b r inside o)
room_fits rules b r inside None short = tt
room_fits rules b r inside (Some c) short =
    unless_fits rules b _ (records r c inside) (λ e. room_by rules.journal b c short (else_none _ (full_journal rules.journal b c) e))

stopped_fits : (rules : Rules) (b : Book) (gone : List ℕ) (v : Visit) (s : Segment) (o : Outcome) → b.length ≤ 2 ^ 30 → Fits rules b (stopped rules b gone v s o)
stopped_fits rules b gone v s (tape.paged how bytes) short =
    let reply = reply_by how bytes (url_for v) in
    let change = change_by rules b gone v s v.origin how in
    unless_fits rules b (full rules how v.origin (length b.instances)) (with_room rules b reply s.entered change)
    (λ e. room_fits rules b reply s.entered change short)
stopped_fits rules b gone v s (tape.faulted f) short = tt
stopped_fits rules b gone v s (tape.out_of_fuel cost) short = tt

decide_fits : (rules : Rules) (b : Book) (t : Ticket) (a : Admission) → b.length ≤ 2 ^ 30 → Fits rules b (decide rules b t a)
decide_fits rules b t (begins k s) short =
    let v = start_visit b t k s in
    let x = comes_to v (tape.present s.script.cells rules.fuel) in
    stopped_fits rules b [] v x x.outcome short
decide_fits rules b t (resumes at) short =
    let v = page_visit b t at in
    let x = comes_to v (tape.present at.instance.cells rules.fuel) in
    stopped_fits rules b (gone_for rules t at) v x x.outcome short
decide_fits rules b t (refused r) short = tt

publish_fits : (rules : Rules) (b : Book) (t : Ticket) → b.length ≤ 2 ^ 30 → Fits rules b (publish_comes rules b t)
publish_fits rules b t short = unless_fits rules b (barred b) (decide rules b t (admit b t.target)) (λ e. decide_fits rules b t (admit b t.target) short)

sweep_fits : (rules : Rules) (b : Book) (tick : ℕ) → b.length ≤ 2 ^ 30 → Fits rules b (sweep_comes rules b tick)
sweep_fits rules b tick short =
    unless_fits rules b (barred b) (decide_sweep rules tick b)
    (λ e. unless_fits rules b (full_journal rules.journal b (sweeps tick)) (records (swept (freed tick b)) (sweeps tick) [])
    (λ f. room_by rules.journal b (sweeps tick) short f))

-- numbers that are drawn or spent, and what is in doubt, change no length
pub record IsAsLong (b d : Book) : Type 0 where
  pub length : d.length ≡ b.length
  pub longer : (j : Option Journal) (c : Change) → longer_by j d c ≡ longer_by j b c

work_as_long : (rules : Rules) (b d : Book) (w : Work) → IsAsLong b d → WorkFits rules b w → WorkFits rules d w
work_as_long rules b d (landing c inside) same h = subst (λ n. n ≤ 2 ^ 30) (sym (same.longer rules.journal c)) h
work_as_long rules b d compacting same h = h

doubt_as_long : (rules : Rules) (b d : Book) (o : Option Doubt) → IsAsLong b d → DoubtFits rules b o → DoubtFits rules d o
doubt_as_long rules b d None same h = tt
doubt_as_long rules b d (Some doubt) same h = work_as_long rules b d doubt.work same h

spend_longer : (b : Book) (n : ℕ) (j : Option Journal) (c : Change) → longer_by j (spend n b) c ≡ longer_by j b c
spend_longer b n None c = refl
spend_longer b n (Some j) c = refl

spent_room : (rules : Rules) (b : Book) (n : ℕ) → HasRoom rules b → HasRoom rules (spend n b)
spent_room rules b n h = record {
  short = h.short;
  doubt = doubt_as_long rules b (spend n b) b.down (record { length = refl; longer = spend_longer b n }) h.doubt;
}

draw_longer : (b : Book) (j : Option Journal) (c : Change) → longer_by j (draw b) c ≡ longer_by j b c
draw_longer b None c = refl
draw_longer b (Some j) c = refl

drawn_room : (rules : Rules) (b : Book) → HasRoom rules b → HasRoom rules (draw b)
drawn_room rules b h = record { short = h.short; doubt = doubt_as_long rules b (draw b) b.down (record { length = refl; longer = draw_longer b }) h.doubt }

fits_as_long : (rules : Rules) (b d : Book) (x : Decision) → IsAsLong b d → Fits rules b x → Fits rules d x
fits_as_long rules b d (replies r) same h = tt
fits_as_long rules b d (records r c inside) same h = subst (λ n. n ≤ 2 ^ 30) (sym (same.longer rules.journal c)) h
fits_as_long rules b d (compacts r) same h = h

-- nothing is in doubt where something is recorded
abbrev Still : Option Doubt → Decision → Type 0
Still o (replies r) = ⊤
Still o _ = o ≡ None

still_none : (o : Option Doubt) (d : Decision) → o ≡ None → Still o d
still_none o (replies r) e = tt
still_none o (records r c inside) e = e
still_none o (compacts r) e = e

still_unless : (o : Option Doubt) (follows : Bool) (d : Decision) → Still o (unless (barred_by o follows) d)
still_unless None false d = still_none None d refl
still_unless None true d = tt
still_unless (Some doubt) follows d = tt

carried_room : (rules : Rules) (b : Book) (d : Decision) → HasRoom rules b → Fits rules b d → Still b.down d → HasRoom rules (carried_out rules b d).1
carried_room rules b (replies r) h fits still = h
carried_room rules b (records r c inside) h fits still =
    record { short = fits; doubt = subst (DoubtFits rules (land rules c inside b)) (sym still) tt }
carried_room rules b (compacts r) h fits still = absurd fits

doubting_longer : (j : Option Journal) (count : ℕ) (w : Work) (b : Book) (c : Change) → longer_by j (doubting count w b) c ≡ longer_by j b c
doubting_longer None count w b c = refl
doubting_longer (Some j) count w b c = refl

in_doubt_room : (rules : Rules) (b : Book) (count : ℕ) (d : Decision) → HasRoom rules b → Fits rules b d → HasRoom rules (in_doubt count b d).1
in_doubt_room rules b count (replies r) h fits = h
in_doubt_room rules b count (records r c inside) h fits = record {
  short = h.short;
  doubt = subst (λ n. n ≤ 2 ^ 30) (sym (doubting_longer rules.journal count (landing c inside) b c)) fits;
}
in_doubt_room rules b count (compacts r) h fits = absurd fits

-- a decision that has room leaves room
settled_room : (rules : Rules) (b : Book) (fate : Fate) (d : Decision) → HasRoom rules b → Fits rules b d → Still b.down d
    → HasRoom rules (settle rules b fate d).1
settled_room rules b no_memory d h fits still = h
settled_room rules b (disk_fault count) d h fits still = in_doubt_room rules b count d h fits
settled_room rules b lost d h fits still = carried_room rules b d h fits still
settled_room rules b kept d h fits still = carried_room rules b d h fits still
settled_room rules b plain d h fits still = carried_room rules b d h fits still

took_room : (rules : Rules) (b : Book) (nonce : ℕ) (o : Option Reply) → HasRoom rules b → HasRoom rules (take_unless o b nonce).1
took_room rules b nonce None h = drawn_room rules b h
took_room rules b nonce (Some r) h = h

take_room : (rules : Rules) (b : Book) (target : Destination) (nonce : ℕ) (fate : Fate) → HasRoom rules b → HasRoom rules (take_by b target nonce fate).1
take_room rules b target nonce no_memory h = h
take_room rules b target nonce plain h = took_room rules b nonce (no_take b target) h
take_room rules b target nonce (disk_fault count) h = took_room rules b nonce (no_take b target) h
take_room rules b target nonce lost h = took_room rules b nonce (no_take b target) h
take_room rules b target nonce kept h = took_room rules b nonce (no_take b target) h

swept_room : (rules : Rules) (b : Book) (fate : Fate) (d : Decision) (late : Bool) → HasRoom rules b → HasRoom rules (settle rules b fate d).1
    → HasRoom rules (if late then (swept 0, b) else settle rules b fate d).1
swept_room rules b fate d true h then_it = h
swept_room rules b fate d false h then_it = then_it

-- what is recovered has room, and the setup as it was
pub record IsRecovered (b c : Book) : Type 0 where
  pub short : c.length ≤ 2 ^ 30
  pub setup : c.scripts ≡ b.scripts

recovered_room : (rules : Rules) (b : Book) (fate : Fate) (o : Option Doubt) → b.length ≤ 2 ^ 30 → DoubtFits rules b o → IsRecovered b (recovered rules fate o b)
recovered_room rules b kept (Some doubt) short fits = by_work doubt.work fits
  where
    by_work : (w : Work) → WorkFits rules b w → IsRecovered b (worked rules w b)
    by_work (landing c inside) x = record { short = x; setup = refl }
    by_work compacting x = absurd x
recovered_room rules b kept None short fits = record { short = short; setup = refl }
recovered_room rules b lost o short fits = record { short = short; setup = refl }
recovered_room rules b plain o short fits = record { short = short; setup = refl }
recovered_room rules b no_memory o short fits = record { short = short; setup = refl }
recovered_room rules b (disk_fault count) o short fits = record { short = short; setup = refl }

-- opened again with the same setup it is as long
same_length : (j : Option Journal) (scripts : List Named) (c : Book) → c.scripts ≡ scripts → c.length ≤ 2 ^ 30 → (reopened_with j scripts c).length ≤ 2 ^ 30
same_length j scripts c same short =
    let test : are_same (setup_for c scripts) c.scripts ≡ true =
    some_setup (λ ss. are_same ss c.scripts ≡ true) c scripts (same_self c.scripts) (ap (are_same scripts) same ∙ same_self scripts) in
    subst (λ t. (if t then c.length else renewed_length j (setup_for c scripts) c.length) ≤ 2 ^ 30) (sym test) short

-- the book after the event crash with the setup as it was
pub crashed_short : (rules : Rules) (b : Book) (nonce : ℕ) (scripts : List Named) (fate : Fate) → b.scripts ≡ scripts → HasRoom rules b
    → (step rules b nonce (crash scripts) fate).1.length ≤ 2 ^ 30
unfolding step
crashed_short rules b nonce scripts fate same h =
    let r = recovered_room rules b fate b.down h.short h.doubt in
    same_length rules.journal scripts (recovered rules fate b.down b) (r.setup ∙ same) r.short

-- an event that brings no other setup, and is no compaction
abbrev pub IsPlain : List Named → Event → Type 0
IsPlain scripts (crash ss) = ss ≡ scripts
IsPlain scripts compact = ⊥
IsPlain scripts _ = ⊤

event_room : (rules : Rules) (b : Book) (nonce : ℕ) (scripts : List Named) (event : Event) (fate : Fate) → b.scripts ≡ scripts → IsPlain scripts event
    → HasRoom rules b → HasRoom rules (step rules b nonce event fate).1
unfolding step
event_room rules b nonce scripts (take target answer) fate same is h = take_room rules b target nonce fate h
event_room rules b nonce scripts (publish t) fate same is h =
    settled_room rules (spend t.number b) (fate_of rules.journal fate) (publish_comes rules b t) (spent_room rules b t.number h)
    (fits_as_long rules b (spend t.number b) (publish_comes rules b t) (record { length = refl; longer = spend_longer b t.number }) (publish_fits rules b t h.short))
    (still_unless b.down b.follows (decide rules b t (admit b t.target)))
event_room rules b nonce scripts (sweep tick) fate same is h =
    swept_room rules b (fate_of rules.journal fate) (sweep_comes rules b tick) (nat_le tick b.clock) h
    (settled_room rules b (fate_of rules.journal fate) (sweep_comes rules b tick) h (sweep_fits rules b tick h.short) (still_unless b.down b.follows (decide_sweep rules tick b)))
event_room rules b nonce scripts compact fate same is h = absurd is
event_room rules b nonce scripts (crash ss) fate same is h =
    let r = recovered_room rules b fate b.down h.short h.doubt in
    record { short = same_length rules.journal ss (recovered rules fate b.down b) (r.setup ∙ (same ∙ sym is)) r.short; doubt = tt }

event_setup : (rules : Rules) (b : Book) (nonce : ℕ) (scripts : List Named) (event : Event) (fate : Fate) → b.scripts ≡ scripts → IsPlain scripts event
    → (step rules b nonce event fate).1.scripts ≡ scripts
unfolding step
event_setup rules b nonce scripts (take target answer) fate same is = took_setup b target nonce fate ∙ same
event_setup rules b nonce scripts (publish t) fate same is = settled_setup rules (spend t.number b) (fate_of rules.journal fate) (publish_comes rules b t) ∙ same
event_setup rules b nonce scripts (sweep tick) fate same is = swept_setup rules b tick (fate_of rules.journal fate) (nat_le tick b.clock) ∙ same
event_setup rules b nonce scripts compact fate same is = absurd is
event_setup rules b nonce scripts (crash ss) fate same is =
    let c = recovered rules fate b.down b in some_setup (λ names. names ≡ scripts) c ss (recovered_setup rules fate b.down b ∙ same) is

-- ---- of a desk

-- a shelf of this setup, whose journal has room
pub record Roomy (scripts : List Named) (s : Shelf) : Type 0 where
  pub setup : s.book.scripts ≡ scripts
  pub room : HasRoom s.rules s.book

roomy_then : (scripts : List Named) (s : Shelf) (what : Event) (fate : Fate) → IsPlain scripts what → Roomy scripts s → Roomy scripts (happening s what fate).1
roomy_then scripts s what fate is h = record {
  setup = event_setup s.rules s.book (counting s.nonces) scripts what fate h.setup is;
  room = event_room s.rules s.book (counting s.nonces) scripts what fate h.setup is h.room;
}

-- a desk of so many shelves and of this setup, whose shelves have it and have room
pub record IsRoomy (scripts : List Named) (count : ℕ) (d : Desk) : Type 0 where
  pub many : length d.shelves ≡ count
  pub setup : d.scripts ≡ scripts
  pub shelves : (k : ℕ) (s : Shelf) → slice_get d.shelves k ≡ Some s → Roomy scripts s

set_there : {A : Type 0} (P : A → Type 0) (xs : List A) (j : ℕ) (y : A) → ((k : ℕ) (x : A) → slice_get xs k ≡ Some x → P x) → P y
    → (k : ℕ) (x : A) → slice_get (slice_set xs j y) k ≡ Some x → P x
set_there P [] j y all new k x e = all k x e
set_there P (z ∷ xs) zero y all new zero x e = subst P (cc e) new
set_there P (z ∷ xs) zero y all new (suc k) x e = all (suc k) x e
set_there P (z ∷ xs) (suc j) y all new zero x e = all zero x e
set_there P (z ∷ xs) (suc j) y all new (suc k) x e = set_there P xs j y (λ i w f. all (suc i) w f) new k x e

with_roomy : (scripts : List Named) (count : ℕ) (d e : Desk) (k : ℕ) (s : Shelf) → IsRoomy scripts count d → Roomy scripts s → e.scripts ≡ d.scripts
    → e.shelves ≡ slice_set d.shelves k s → IsRoomy scripts count e
with_roomy scripts count d e k s h new same is = record {
  many = ap length is ∙ (length-set d.shelves k s ∙ h.many);
  setup = same ∙ h.setup;
  shelves = λ j x x_is. set_there (Roomy scripts) d.shelves k s h.shelves new j x (ap (λ xs. slice_get xs j) (sym is) ∙ x_is);
}

-- each way out of a call leaves what holds
abbrev KeepsCall : {A : Type 0} → (Desk → Type 0) → Call Desk Fate A → Type 0
KeepsCall P (answered a) = ⊤
KeepsCall P (event by) = (fate : Fate) → P (by fate).1

called_keeps : {A : Type 0} (P : Desk → Type 0) (call : Call Desk Fate A) (d : Desk) (fates : List Fate) (next : A → Desk → List Fate → Run desk_rules) → P d
    → KeepsCall P call → ((a : A) (e : Desk) (fs : List Fate) → P e → P (next a e fs).state) → P (called desk_rules call d fates next).state
called_keeps P (answered a) d fates next h keeps then_it = then_it a d fates h
called_keeps P (event by) d fates next h keeps then_it =
    let x = by (first_fate desk_rules fates) in then_it x.0 x.1 (later_fates desk_rules fates) (keeps (first_fate desk_rules fates))

one_of : (P : LoadStep → Type 0) (b : Bool) (x y : LoadStep) → P x → P y → P (if b then x else y)
one_of P true x y p q = p
one_of P false x y p q = q

-- a step that is a crash is one of a shelf below this number
abbrev CrashesBelow : (shelves : ℕ) → LoadStep → Type 0
CrashesBelow shelves (load.Crash shelf) = shelf < shelves
CrashesBelow shelves _ = ⊤

below_by : (shelves k : ℕ) (step : LoadStep) → CrashesBelow shelves step → played step ≡ steps.crash k → k < shelves
below_by shelves k (load.Crash shelf) low is = let same : shelf ≡ k = cc is in omega (arith, low, same)
below_by shelves k (load.Tick time) low is = absurd (let no : ⊥ = cc is in no)
below_by shelves k (load.Publish worker) low is = absurd (let no : ⊥ = cc is in no)
below_by shelves k (load.Take worker target) low is = absurd (let no : ⊥ = cc is in no)
below_by shelves k (load.Get worker target) low is = absurd (let no : ⊥ = cc is in no)

crash_below : (shelves : ℕ) (holds : ℕ → Bool) (source : Source) (r : ℕ) → 0 < shelves → CrashesBelow shelves (step_of shelves holds source r)
crash_below shelves holds source r some =
    let w = worker_of r in
    let target = visit_target source.targets r in
    let made = visit_of (lot_of r) w target in
    let spent : LoadStep = if holds w then load.Publish w else made in
    let ticked : LoadStep = if nat_lt (lot_of r) 21 then load.Tick (source.clock + choice_of r % 60) else spent in
    let low : choice_of r % shelves < shelves = omega (arith, some) in
    one_of (CrashesBelow shelves) (lot_of r == 0) (load.Crash (choice_of r % shelves)) ticked low
    (one_of (CrashesBelow shelves) (nat_lt (lot_of r) 21) (load.Tick (source.clock + choice_of r % 60)) spent tt
    (one_of (CrashesBelow shelves) (holds w) (load.Publish w) made tt
    (one_of (CrashesBelow shelves) (lot_of r % 2 == 0) (load.Take w target) (load.Get w target) tt tt)))

-- whether a step changes a setup or compacts a journal
abbrev rewrites : Step → Bool
rewrites (steps.edit name text) = true
rewrites (steps.compact shelf) = true
rewrites _ = false

-- no drawn step does
none_rewrites : (step : LoadStep) → rewrites (played step) ≡ false
none_rewrites (load.Crash shelf) = refl
none_rewrites (load.Tick time) = refl
none_rewrites (load.Publish worker) = refl
none_rewrites (load.Take worker target) = refl
none_rewrites (load.Get worker target) = refl

-- a drawn crash is one of a shelf of the desk
drawn_crash : (source : Source) (d : Desk) (shelf : ℕ) → 0 < length d.shelves → step_over desk_rules source d ≡ steps.crash shelf → shelf < length d.shelves
unfolding next_step
drawn_crash source d shelf some is =
    below_by (length d.shelves) shelf (step_of (length d.shelves) (desk_rules.holds d) source (drawn source.number))
    (crash_below (length d.shelves) (desk_rules.holds d) source (drawn source.number) some) is

same_head : {A : Type 0} (x y : A) (xs ys : List A) → x ∷ xs ≡ y ∷ ys → x ≡ y
same_head x y xs ys is = cc is

same_tail : {A : Type 0} (x y : A) (xs ys : List A) → x ∷ xs ≡ y ∷ ys → xs ≡ ys
same_tail x y xs ys is = cc is

module _ (scripts : List Named) (count : ℕ) where
  taken_roomy : (d : Desk) (k worker : ℕ) (target : Destination) (answer : _) (x : Reply × Shelf) → IsRoomy scripts count d → Roomy scripts x.1
      → IsRoomy scripts count (taken_by d k worker target answer x).1
  taken_roomy d k worker target answer (taken number nonce, s) h new = with_roomy scripts count d _ k s h new refl refl
  taken_roomy d k worker target answer (r, s) h new = with_roomy scripts count d _ k s h new refl refl

  take_on_roomy : (d : Desk) (k worker : ℕ) (target : Destination) (answer : _) (o : Option Shelf) → slice_get d.shelves k ≡ o → IsRoomy scripts count d
      → KeepsCall (IsRoomy scripts count) (desk.take_on d k worker target answer o)
  take_on_roomy d k worker target answer None e h = tt
  take_on_roomy d k worker target answer (Some s) e h = λ fate.
      taken_roomy d k worker target answer (happening s (take target answer) fate) h (roomy_then scripts s (take target answer) fate tt (h.shelves k s e))

  take_at_roomy : (d : Desk) (worker : ℕ) (answer : _) (o : Option Destination) → IsRoomy scripts count d → KeepsCall (IsRoomy scripts count) (desk.take_at d worker answer o)
  take_at_roomy d worker answer None h = tt
  take_at_roomy d worker answer (Some target) h =
      let k = shelf_for (length d.shelves) worker target in take_on_roomy d k worker target answer (slice_get d.shelves k) refl h

  desk_take_roomy : (d : Desk) (worker : ℕ) (target : List ℕ) → IsRoomy scripts count d → KeepsCall (IsRoomy scripts count) (desk_take d worker target)
  desk_take_roomy d worker target h = let parts = path_and_query target in take_at_roomy d worker (answer_to parts.1) (destination_of parts.0) h

  publish_on_roomy : (d : Desk) (k worker : ℕ) (t : Ticket) (o : Option Shelf) → slice_get d.shelves k ≡ o → IsRoomy scripts count d
      → KeepsCall (IsRoomy scripts count) (publish_on d k worker t o)
  publish_on_roomy d k worker t None e h = tt
  publish_on_roomy d k worker t (Some s) e h = λ fate.
      with_roomy scripts count d _ k (happening s (publish t) fate).1 h (roomy_then scripts s (publish t) fate tt (h.shelves k s e)) refl refl

  publish_roomy : (d : Desk) (worker : ℕ) (o : Option Ticket) → IsRoomy scripts count d → KeepsCall (IsRoomy scripts count) (publish_held d worker o)
  publish_roomy d worker None h = tt
  publish_roomy d worker (Some t) h =
      let k = shelf_for (length d.shelves) worker t.target in publish_on_roomy d k worker t (slice_get d.shelves k) refl h

  swept_roomy : (d : Desk) (k : ℕ) (x : Reply × Shelf) → IsRoomy scripts count d → Roomy scripts x.1 → IsRoomy scripts count (swept_by d k x).1
  swept_roomy d k (swept freed, s) h new = with_roomy scripts count d _ k s h new refl refl
  swept_roomy d k (r, s) h new = with_roomy scripts count d _ k s h new refl refl

  sweep_roomy : (d : Desk) (k tick : ℕ) (o : Option Shelf) → slice_get d.shelves k ≡ o → IsRoomy scripts count d → KeepsCall (IsRoomy scripts count) (sweep_on d k tick o)
  sweep_roomy d k tick None e h = tt
  sweep_roomy d k tick (Some s) e h = λ fate.
      swept_roomy d k (happening s (sweep tick) fate) h (roomy_then scripts s (sweep tick) fate tt (h.shelves k s e))

  crashed_roomy : (d : Desk) (k : ℕ) (x : Reply × Shelf) → IsRoomy scripts count d → Roomy scripts x.1 → IsRoomy scripts count (crashed_by d k x).1
  crashed_roomy d k (live lives, s) h new = with_roomy scripts count d _ k s h new refl refl
  crashed_roomy d k (r, s) h new = with_roomy scripts count d _ k s h new refl refl

  crash_roomy : (d : Desk) (k : ℕ) (o : Option Shelf) → slice_get d.shelves k ≡ o → IsRoomy scripts count d → KeepsCall (IsRoomy scripts count) (crash_on d k o)
  crash_roomy d k None e h = tt
  crash_roomy d k (Some s) e h = λ fate.
      crashed_roomy d k (happening s (crash d.scripts) fate) h (roomy_then scripts s (crash d.scripts) fate h.setup (h.shelves k s e))

  published_roomy : (worker : ℕ) (d : Desk) (fates : List Fate) → IsRoomy scripts count d → IsRoomy scripts count (published desk_rules worker d fates).state
  published_roomy worker d fates h =
      called_keeps (IsRoomy scripts count) (desk_publish d worker) d fates (λ reply. went desk_rules (Replied worker reply ∷ [])) h (publish_roomy d worker (ticket_of d worker) h) (λ a e fs x. x)

  got_roomy : (worker : ℕ) (a : Result ℕ _) (d : Desk) (fates : List Fate) → IsRoomy scripts count d → IsRoomy scripts count (got desk_rules worker a d fates).state
  got_roomy worker (Ok number) d fates h = published_roomy worker d fates h
  got_roomy worker (Err r) d fates h = h

  ticked_roomy : (time times shelf : ℕ) (d : Desk) (fates : List Fate) → IsRoomy scripts count d → IsRoomy scripts count (run.swept desk_rules time times shelf d fates).state
  ticked_roomy time zero shelf d fates h = h
  ticked_roomy time (suc times) shelf d fates h =
      called_keeps (IsRoomy scripts count) (desk_sweep d shelf time) d fates
      (λ x t later. run.behind desk_rules (sweep_report shelf x ∷ []) (run.swept desk_rules time times (shelf + 1) t later)) h
      (sweep_roomy d shelf time (slice_get d.shelves shelf) refl h)
      (λ a e fs x. ticked_roomy time times (shelf + 1) e fs x)

  crash_run_roomy : (shelf : ℕ) (d : Desk) (fates : List Fate) → IsRoomy scripts count d → IsRoomy scripts count (crashed desk_rules shelf d fates).state
  crash_run_roomy shelf d fates h =
      called_keeps (IsRoomy scripts count) (desk_crash d shelf) d fates (λ lives. went desk_rules (Reopened shelf lives ∷ [])) h
      (crash_roomy d shelf (slice_get d.shelves shelf) refl h) (λ a e fs x. x)

  performed_roomy : (step : Step) (d : Desk) (fates : List Fate) → rewrites step ≡ false → IsRoomy scripts count d → IsRoomy scripts count (performed desk_rules step d fates).state
  performed_roomy (steps.take worker target) d fates unedited h =
      called_keeps (IsRoomy scripts count) (desk_take d worker target) d fates (λ x. went desk_rules (take_report worker x ∷ [])) h
      (desk_take_roomy d worker target h) (λ a e fs x. x)
  performed_roomy (steps.publish worker) d fates unedited h = published_roomy worker d fates h
  performed_roomy (steps.get worker target) d fates unedited h =
      called_keeps (IsRoomy scripts count) (desk_take d worker target) d fates (got desk_rules worker) h (desk_take_roomy d worker target h)
      (λ a e fs x. got_roomy worker a e fs x)
  performed_roomy (steps.tick time) d fates unedited h = ticked_roomy time (length d.shelves) 0 d fates h
  performed_roomy (steps.crash shelf) d fates unedited h = crash_run_roomy shelf d fates h
  performed_roomy (steps.edit name text) d fates unedited h = absurd (let no : ⊥ = cc unedited in no)
  performed_roomy (steps.compact shelf) d fates unedited h = absurd (let no : ⊥ = cc unedited in no)
  performed_roomy (steps.crash_edited shelf) d fates unedited h = crash_run_roomy shelf d fates h

  goes_roomy : (end : End) (first second : Run desk_rules) → IsRoomy scripts count first.state → IsRoomy scripts count second.state
      → IsRoomy scripts count (goes_on desk_rules end first second).state
  goes_roomy done first second h k = k
  goes_roomy (bad_line number) first second h k = h

  -- none of the steps changes a setup or compacts a journal
  abbrev ArePlain : List (Option Step) → Type 0
  ArePlain [] = ⊤
  ArePlain (None ∷ steps) = ⊤
  ArePlain (Some step ∷ steps) = (rewrites step ≡ false) × ArePlain steps

  if_roomy : (t : Bool) (x y : Run desk_rules) → IsRoomy scripts count x.state → IsRoomy scripts count y.state → IsRoomy scripts count (if t then x else y).state
  if_roomy true x y h k = h
  if_roomy false x y h k = k

  transcript_roomy : (d : Desk) (number : ℕ) (lines : List (Option Step)) (fates : List Fate) → ArePlain lines → IsRoomy scripts count d
      → IsRoomy scripts count (transcript desk_rules d number lines fates).state
  unfolding transcript
  transcript_roomy d number [] fates unedited h = h
  transcript_roomy d number (None ∷ lines) fates unedited h = h
  transcript_roomy d number (Some line ∷ lines) fates unedited h =
      let x = performed desk_rules line d fates in
      let here = performed_roomy line d fates unedited.0 h in
      let rest = transcript desk_rules x.state (number + lines_in line) lines x.fates in
      if_roomy (fits desk_rules line d) (goes_on desk_rules x.end x rest) (halted desk_rules number d fates)
      (goes_roomy x.end x rest here (transcript_roomy x.state (number + lines_in line) lines x.fates unedited.1 here)) h

  drawn_plain : (times : ℕ) (source : Source) (d : Desk) (fates : List Fate) → ArePlain (map Some (steps_drawn desk_rules times source d fates))
  unfolding steps_drawn
  drawn_plain zero source d fates = tt
  drawn_plain (suc times) source d fates =
      let x = performed desk_rules (step_over desk_rules source d) d fates in
      (none_rewrites (drawn_over desk_rules source d).0, drawn_plain times (source_past desk_rules source d x.told) x.state x.fates)

  -- a measured run leaves room in its journals
  pub drawn_roomy : (times : ℕ) (source : Source) (d : Desk) (fates : List Fate) → IsRoomy scripts count d
      → IsRoomy scripts count (run_drawn desk_rules times source d fates).state
  drawn_roomy times source d fates h = transcript_roomy d 1 (map Some (steps_drawn desk_rules times source d fates)) fates (drawn_plain times source d fates) h

  -- the shelf that crashes at the last of some drawn steps is one of the desk's
  pub last_within : (times : ℕ) (source : Source) (d : Desk) (fates : List Fate) (shelf : ℕ) → 0 < count → IsRoomy scripts count d
      → steps_drawn desk_rules (suc times) source d fates ≡ steps_drawn desk_rules times source d fates ++ steps.crash shelf ∷ [] → shelf < count
  unfolding steps_drawn
  last_within zero source d fates shelf some h is =
      subst (λ n. shelf < n) h.many (drawn_crash source d shelf (subst (λ n. 0 < n) (sym h.many) some) (same_head _ _ _ _ is))
  last_within (suc times) source d fates shelf some h is =
      let x = performed desk_rules (step_over desk_rules source d) d fates in
      last_within times (source_past desk_rules source d x.told) x.state x.fates shelf some
      (performed_roomy (step_over desk_rules source d) d fates (none_rewrites (drawn_over desk_rules source d).0) h) (same_tail _ _ _ _ is)

  -- there was room for the setup that a shelf of such a desk was to be opened with
  pub no_overflow : (rack : RackView) (d : Desk) (shelf size : ℕ) (s : Shelf) → IsRoomy scripts count d → slice_get d.shelves shelf ≡ Some s
      → IsLeft rack d shelf (reopen.Full size) → ⊥
  no_overflow rack d shelf size s h there left =
      let n = left.room s there in
      let roomy = h.shelves shelf s there in
      let short : (fate : Fate) → (step s.rules s.book 0 (crash d.scripts) fate).1.length ≤ 2 ^ 30 = λ fate.
      crashed_short s.rules s.book 0 d.scripts fate (roomy.setup ∙ sym h.setup) roomy.room in
      let same = n.length in
      let long = n.long in
      ⊎_elim
      (λ is. let low = subst (λ (x : Reply × Book). x.1.length ≤ 2 ^ 30) is (short lost) in omega (arith, low, same, long))
      (λ is. let low = subst (λ (x : Reply × Book). x.1.length ≤ 2 ^ 30) is (short kept) in omega (arith, low, same, long))
      (n.crashed 0)

-- the shelves of a first desk have its setup, and nothing is in doubt
first_are : (rules : ℕ → Rules) (scripts : List Named) (n k : ℕ) (s : Shelf) → slice_get (first_shelves rules scripts n) k ≡ Some s
    → (s.book.scripts ≡ scripts) × (s.book.down ≡ None)
first_are rules scripts zero k s e = absurd (let no : ⊥ = cc e in no)
first_are rules scripts (suc n) k s e =
    each_more (λ j (x : Shelf). (x.book.scripts ≡ scripts) × (x.book.down ≡ None)) (first_shelves rules scripts n) (empty_shelf (rules n) scripts n)
    (λ j x f. first_are rules scripts n j x f) (refl, refl) k s e

-- the desk that a run begins with has room, where no journal is too long
pub first_roomy : (rules : ℕ → Rules) (scripts : List Named) (count : ℕ) (d : Desk) → d ≡ first_desk rules scripts count
    → ((k : ℕ) (s : Shelf) → slice_get d.shelves k ≡ Some s → s.book.length ≤ 2 ^ 30) → IsRoomy scripts count d
first_roomy rules scripts count d is short = record {
  many = ap (λ (x : Desk). length x.shelves) is ∙ count_first rules scripts count;
  setup = ap (λ (x : Desk). x.scripts) is;
  shelves = λ k s e.
      let are = first_are rules scripts count k s (ap (λ (x : Desk). slice_get x.shelves k) (sym is) ∙ e) in
      record { setup = are.0; room = record { short = short k s e; doubt = subst (DoubtFits s.rules s.book) (sym are.1) tt } };
}
