-- A run of steps, entered in a ledger.
use Rattle.std.proofs.Common.{◌≡◌, ◌∙◌, ap, sym, subst, refl, ℕ, ◌+◌, zero, suc, Bool, true, false, List, map, [], ◌∷◌, ◌++◌, length, append_assoc, append-nil, Option, Some, None, Result, Ok, Err, option_map, if◌then◌else◌}
use Rattle.std.specs.Prelude.{is_some, unwrap_or}
use Rattle.std.proofs.lemmas.List.{map-append}
use Rattle.script_nodes.specs.Setup.{Named}
use Rattle.script_value.specs.declared.outcome.Reply as outcome
use Rattle.replay_spec.specs.Step.{Fate, Reply}
use Rattle.play_steps.specs.Step.{Step, take, publish, get, tick, crash, compact, edit, crash_edited, lines_in}
use Rattle.play_steps.specs.Reports.{take_report, sweep_report, compact_report}
use Rattle.play_steps.specs.Rules.{Call, answered, event}
use Rattle.play_steps.specs.declared.report.Report.{Report}
use Rattle.play_steps.specs.declared.report.Report.TheVariants.{Replied, Reopened}
use Rattle.play_steps.specs.Transcript.{Run, End, done, bad_line, went, stopped, behind, goes_on, first_fate, later_fates, fits, called, published, got, swept, crashed, compacted, performed, text_of, transcript}
use Rattle.play_desk.specs.Edits.{edited}
use Rattle.play_desk.specs.Desk.{Desk, desk_rules, desk_take, desk_publish, desk_sweep, desk_compact, desk_crash}
use Rattle.play_desk.specs.Ledger.{Entry, Ledger, ledger_of, ledger_rules, ledger_take, ledger_publish, ledger_sweep, ledger_compact, ledger_crash}
use Rattle.play_desk.specs.Laws.{AreRuns, AreLawfulRuns, TranscriptsAreRuns}
use Rattle.play_desk.proofs.ShelfRuns.{no_runs, no_lawful, runs_then, lawful_then}
use Rattle.play_desk.proofs.Held.{AreOut, first_orderly}
use Rattle.play_desk.proofs.Entering.{Enters, EntersOne, take_enters, publish_enters, sweep_enters, compact_enters, crash_enters}

-- a desk's run, as a ledger has it
abbrev as_entered : Run desk_rules → List Reply → List Entry → Run ledger_rules
as_entered run later entries = record { told = run.told; end = run.end; state = ledger_of run.state later entries; fates = run.fates }

-- a desk's run is the ledger's, given these replies, which enters these events
record Follows (d : Desk) (run : Run desk_rules) (over : Ledger → Run ledger_rules) : Type 0 where
  replies : List Reply
  entries : List Entry
  is : (later : List Reply) (before : List Entry) → over (ledger_of d (replies ++ later) before) ≡ as_entered run later (before ++ entries)
  all : map (λ e. e.reply) entries ≡ replies
  runs : AreRuns entries d.shelves run.state.shelves
  lawful : (n : ℕ) → AreOut n d.shelves d.held → AreLawfulRuns entries d.shelves × AreOut n run.state.shelves run.state.held

-- the same, of what the ledger does over this desk
again : (d : Desk) (run : Run desk_rules) (over other : Ledger → Run ledger_rules) → Follows d run over
    → ((later : List Reply) (before : List Entry) → other (ledger_of d later before) ≡ over (ledger_of d later before)) → Follows d run other
again d run over other h same = record {
  replies = h.replies;
  entries = h.entries;
  is = λ later before. same (h.replies ++ later) before ∙ h.is later before;
  all = h.all;
  runs = h.runs;
  lawful = h.lawful;
}

-- no event
unmoved : (d : Desk) (run : Run desk_rules) (over : Ledger → Run ledger_rules) → run.state ≡ d
    → ((later : List Reply) (before : List Entry) → over (ledger_of d later before) ≡ as_entered run later before) → Follows d run over
unmoved d run over same h = record {
  replies = [];
  entries = [];
  is = λ later before. h later before ∙ ap (as_entered run later) (sym (append-nil before));
  all = refl;
  runs = subst (λ (e : Desk). AreRuns [] d.shelves e.shelves) (sym same) (no_runs d.shelves);
  lawful = λ n o. (no_lawful d.shelves, subst (λ (e : Desk). AreOut n e.shelves e.held) (sym same) o);
}

-- lawful runs on the shelves of a desk, and of the next
lawful_on : (d e : Desk) (a b : List Entry) (n : ℕ) (new : Desk) → AreRuns a d.shelves e.shelves
    → AreLawfulRuns a d.shelves × AreOut n e.shelves e.held
    → (AreOut n e.shelves e.held → AreLawfulRuns b e.shelves × AreOut n new.shelves new.held)
    → AreLawfulRuns (a ++ b) d.shelves × AreOut n new.shelves new.held
lawful_on d e a b n new ran one later = let two = later one.1 in (lawful_then a b d.shelves e.shelves ran one.0 two.0, two.1)

all_replies : (a b : List Entry) (r q : List Reply) → map (λ e. e.reply) a ≡ r → map (λ e. e.reply) b ≡ q → map (λ e. e.reply) (a ++ b) ≡ r ++ q
all_replies a b r q one two = map-append (λ e. e.reply) a b ∙ ap (λ rs. rs ++ map (λ e. e.reply) b) one ∙ ap (λ rs. r ++ rs) two

-- an event, and a run after it
after_event : {X : Type 0} (d : Desk) (x : X × Desk) (one : Ledger → X × Ledger) (run : Run desk_rules) (next : X → Ledger → Run ledger_rules)
    → EntersOne d x one → Follows x.1 run (next x.0) → Follows d run (λ l. let y = one l in next y.0 y.1)
after_event d x one run next h k = record {
  replies = h.replies ++ k.replies;
  entries = h.entries ++ k.entries;
  is = λ later before.
      ap (λ (rs : List Reply). next (one (ledger_of d rs before)).0 (one (ledger_of d rs before)).1) (append_assoc h.replies k.replies later)
      ∙ ap (λ y. next y.0 y.1) (h.is (k.replies ++ later) before)
      ∙ k.is later (before ++ h.entries)
      ∙ ap (as_entered run later) (append_assoc before h.entries k.entries);
  all = all_replies h.entries k.entries h.replies k.replies h.all k.all;
  runs = runs_then h.entries k.entries d.shelves x.1.shelves run.state.shelves h.runs k.runs;
  lawful = λ n o. lawful_on d x.1 h.entries k.entries n run.state h.runs (h.lawful n o) (k.lawful n);
}

-- a call, and a run after it
after_call : {X : Type 0} (d : Desk) (call : Call Desk Fate X) (over : Ledger → Call Ledger Fate X) (fates : List Fate)
    (next : X → Desk → List Fate → Run desk_rules) (after : X → Ledger → List Fate → Run ledger_rules)
    → Enters d call over → ((a : X) (e : Desk) (later : List Fate) → Follows e (next a e later) (λ l. after a l later))
    → Follows d (called desk_rules call d fates next) (λ l. called ledger_rules (over l) l fates after)
after_call d (answered a) over fates next after h k =
    again d (next a d fates) (λ l. after a l fates) (λ l. called ledger_rules (over l) l fates after) (k a d fates)
    (λ later before. ap (λ c. called ledger_rules c (ledger_of d later before) fates after) (h later before))
after_call d (event by) over fates next after h k =
    let fate = first_fate desk_rules fates in
    let more = later_fates desk_rules fates in
    let x = by fate in
    again d (next x.0 x.1 more) (λ l. let y = h.over_by l fate in after y.0 y.1 more) (λ l. called ledger_rules (over l) l fates after)
    (after_event d x (λ l. h.over_by l fate) (next x.0 x.1 more) (λ a l. after a l more) (h.one fate) (k x.0 x.1 more))
    (λ later before. ap (λ c. called ledger_rules c (ledger_of d later before) fates after) (h.same later before))

-- reports, and a run after them
behind_told : (d : Desk) (told : List Report) (run : Run desk_rules) (over : Ledger → Run ledger_rules) → Follows d run over
    → Follows d (behind desk_rules told run) (λ l. behind ledger_rules told (over l))
behind_told d told run over h = record {
  replies = h.replies;
  entries = h.entries;
  is = λ later before. ap (behind ledger_rules told) (h.is later before);
  all = h.all;
  runs = h.runs;
  lawful = h.lawful;
}

-- a run, and another after it where it goes on
both_follow : (d : Desk) (end : End) (first second : Run desk_rules) (over : Ledger → Run ledger_rules) (next : Ledger → List Fate → Run ledger_rules)
    → first.end ≡ end → Follows d first over → Follows first.state second (λ l. next l first.fates)
    → Follows d (goes_on desk_rules end first second) (λ l. let x = over l in goes_on ledger_rules x.end x (next x.state x.fates))
both_follow d done first second over next same h k = record {
  replies = h.replies ++ k.replies;
  entries = h.entries ++ k.entries;
  is = λ later before.
      let whole : Run ledger_rules → Run ledger_rules = λ x. goes_on ledger_rules x.end x (next x.state x.fates) in
      ap (λ (rs : List Reply). whole (over (ledger_of d rs before))) (append_assoc h.replies k.replies later)
      ∙ ap whole (h.is (k.replies ++ later) before)
      ∙ ap (λ (e : End). goes_on ledger_rules e (as_entered first (k.replies ++ later) (before ++ h.entries)) (next (ledger_of first.state (k.replies ++ later) (before ++ h.entries)) first.fates)) same
      ∙ ap (behind ledger_rules first.told) (k.is later (before ++ h.entries))
      ∙ ap (λ (es : List Entry). behind ledger_rules first.told (as_entered second later es)) (append_assoc before h.entries k.entries);
  all = all_replies h.entries k.entries h.replies k.replies h.all k.all;
  runs = runs_then h.entries k.entries d.shelves first.state.shelves second.state.shelves h.runs k.runs;
  lawful = λ n o. lawful_on d first.state h.entries k.entries n second.state h.runs (h.lawful n o) (k.lawful n);
}
both_follow d (bad_line number) first second over next same h k = record {
  replies = h.replies;
  entries = h.entries;
  is = λ later before.
      let whole : Run ledger_rules → Run ledger_rules = λ x. goes_on ledger_rules x.end x (next x.state x.fates) in
      ap whole (h.is later before)
      ∙ ap (λ (e : End). goes_on ledger_rules e (as_entered first later (before ++ h.entries)) (next (ledger_of first.state later (before ++ h.entries)) first.fates)) same;
  all = h.all;
  runs = h.runs;
  lawful = h.lawful;
}

-- ---- the steps

-- reports that come of no event
told_follows : (told : List Report) (d : Desk) (fates : List Fate) → Follows d (went desk_rules told d fates) (λ l. went ledger_rules told l fates)
told_follows told d fates = unmoved d (went desk_rules told d fates) (λ l. went ledger_rules told l fates) refl (λ later before. refl)

publish_follows : (worker : ℕ) (d : Desk) (fates : List Fate) → Follows d (published desk_rules worker d fates) (λ l. published ledger_rules worker l fates)
publish_follows worker d fates =
    after_call d (desk_publish d worker) (λ l. ledger_publish l worker) fates (λ reply. went desk_rules (Replied worker reply ∷ []))
    (λ reply. went ledger_rules (Replied worker reply ∷ [])) (publish_enters d worker) (λ reply. told_follows (Replied worker reply ∷ []))

got_follows : (worker : ℕ) (x : Result ℕ outcome.Reply) (d : Desk) (fates : List Fate)
    → Follows d (got desk_rules worker x d fates) (λ l. got ledger_rules worker x l fates)
got_follows worker (Ok number) d fates = publish_follows worker d fates
got_follows worker (Err refused) d fates = told_follows (Replied worker refused ∷ []) d fates

-- a shelf that is swept, and the others after it
swept_follows : (time count shelf : ℕ) (d : Desk) (fates : List Fate)
    → Follows d (swept desk_rules time count shelf d fates) (λ l. swept ledger_rules time count shelf l fates)
swept_follows time zero shelf d fates = told_follows [] d fates
swept_follows time (suc count) shelf d fates =
    after_call d (desk_sweep d shelf time) (λ l. ledger_sweep l shelf time) fates
    (λ x e later. behind desk_rules (sweep_report shelf x ∷ []) (swept desk_rules time count (shelf + 1) e later))
    (λ x l later. behind ledger_rules (sweep_report shelf x ∷ []) (swept ledger_rules time count (shelf + 1) l later))
    (sweep_enters d shelf time)
    (λ x e later. behind_told e (sweep_report shelf x ∷ []) (swept desk_rules time count (shelf + 1) e later)
    (λ l. swept ledger_rules time count (shelf + 1) l later) (swept_follows time count (shelf + 1) e later))

-- an edit, which enters nothing
edit_follows : (o : Option (List Named)) (d : Desk) (fates : List Fate)
    → Follows d (went desk_rules [] (unwrap_or (option_map (λ scripts. record d { scripts = scripts }) o) d) fates)
    (λ l. went ledger_rules [] (unwrap_or (option_map (λ scripts. record l { scripts = scripts }) o) l) fates)
edit_follows None d fates = told_follows [] d fates
edit_follows (Some scripts) d fates = record {
  replies = [];
  entries = [];
  is = λ later before.
      ap (as_entered (went desk_rules [] (let e : Desk = record d { scripts = scripts } in e) fates) later) (sym (append-nil before));
  all = refl;
  runs = no_runs d.shelves;
  lawful = λ n o. (no_lawful d.shelves, o);
}

crash_follows : (shelf : ℕ) (d : Desk) (fates : List Fate) → Follows d (crashed desk_rules shelf d fates) (λ l. crashed ledger_rules shelf l fates)
crash_follows shelf d fates =
    after_call d (desk_crash d shelf) (λ l. ledger_crash l shelf) fates (λ live. went desk_rules (Reopened shelf live ∷ []))
    (λ live. went ledger_rules (Reopened shelf live ∷ [])) (crash_enters d shelf) (λ live. told_follows (Reopened shelf live ∷ []))

compact_follows : (shelf : ℕ) (d : Desk) (fates : List Fate) → Follows d (compacted desk_rules shelf d fates) (λ l. compacted ledger_rules shelf l fates)
compact_follows shelf d fates =
    after_call d (desk_compact d shelf) (λ l. ledger_compact l shelf) fates (λ x. went desk_rules (compact_report shelf x ∷ []))
    (λ x. went ledger_rules (compact_report shelf x ∷ [])) (compact_enters d shelf) (λ x. told_follows (compact_report shelf x ∷ []))

step_follows : (step : Step) (d : Desk) (fates : List Fate) → Follows d (performed desk_rules step d fates) (λ l. performed ledger_rules step l fates)
step_follows (take worker target) d fates =
    after_call d (desk_take d worker target) (λ l. ledger_take l worker target) fates (λ x. went desk_rules (take_report worker x ∷ []))
    (λ x. went ledger_rules (take_report worker x ∷ [])) (take_enters d worker target) (λ x. told_follows (take_report worker x ∷ []))
step_follows (publish worker) d fates = publish_follows worker d fates
step_follows (get worker target) d fates =
    after_call d (desk_take d worker target) (λ l. ledger_take l worker target) fates (got desk_rules worker) (got ledger_rules worker)
    (take_enters d worker target) (got_follows worker)
step_follows (tick time) d fates =
    again d (swept desk_rules time (length d.shelves) 0 d fates) (λ l. swept ledger_rules time (length d.shelves) 0 l fates)
    (λ l. swept ledger_rules time l.count 0 l fates) (swept_follows time (length d.shelves) 0 d fates) (λ later before. refl)
step_follows (crash shelf) d fates = crash_follows shelf d fates
step_follows (compact shelf) d fates = compact_follows shelf d fates
step_follows (edit name text) d fates =
    again d (performed desk_rules (edit name text) d fates)
    (λ l. went ledger_rules [] (unwrap_or (option_map (λ scripts. record l { scripts = scripts }) (edited d.scripts name text)) l) fates)
    (λ l. performed ledger_rules (edit name text) l fates) (edit_follows (edited d.scripts name text) d fates) (λ later before. refl)
step_follows (crash_edited shelf) d fates = crash_follows shelf d fates

-- a value that is mapped is there, whatever it is mapped to
same_some : {A B C : Type 0} (f : A → B) (g : A → C) (o : Option A) → is_some (option_map f o) ≡ is_some (option_map g o)
same_some f g None = refl
same_some f g (Some x) = refl

-- a step fits the ledger where it fits the desk
same_fits : (step : Step) (d : Desk) (later : List Reply) (before : List Entry) → fits ledger_rules step (ledger_of d later before) ≡ fits desk_rules step d
same_fits (take worker target) d later before = refl
same_fits (publish worker) d later before = refl
same_fits (get worker target) d later before = refl
same_fits (tick time) d later before = refl
same_fits (crash shelf) d later before = refl
same_fits (compact shelf) d later before = refl
same_fits (edit name text) d later before =
    same_some (λ scripts. record (ledger_of d later before) { scripts = scripts }) (λ scripts. record d { scripts = scripts }) (edited d.scripts name text)
same_fits (crash_edited shelf) d later before = refl

run_follows : (steps : List (Option Step)) (d : Desk) (number : ℕ) (fates : List Fate)
    → Follows d (transcript desk_rules d number steps fates) (λ l. transcript ledger_rules l number steps fates)
unfolding transcript
run_follows [] d number fates = unmoved d (went desk_rules [] d fates) (λ l. went ledger_rules [] l fates) refl (λ later before. refl)
run_follows (None ∷ steps) d number fates =
    unmoved d (stopped desk_rules number d fates) (λ l. stopped ledger_rules number l fates) refl (λ later before. refl)
run_follows (Some step ∷ steps) d number fates =
    again d (if fits desk_rules step d then goes_on desk_rules first.end first second else stopped desk_rules number d fates)
    (λ l. if fits desk_rules step d then whole l else stopped ledger_rules number l fates)
    (λ l. if fits ledger_rules step l then whole l else stopped ledger_rules number l fates)
    (by_fit (fits desk_rules step d) (run_follows steps (performed desk_rules step d fates).state (number + lines_in step) (performed desk_rules step d fates).fates))
    (λ later before.
    ap (λ b. if b then whole (ledger_of d later before) else stopped ledger_rules number (ledger_of d later before) fates) (same_fits step d later before))
  where
    first : Run desk_rules
    first = performed desk_rules step d fates

    second : Run desk_rules
    second = transcript desk_rules first.state (number + lines_in step) steps first.fates

    whole : Ledger → Run ledger_rules
    whole l = let x = performed ledger_rules step l fates in goes_on ledger_rules x.end x (transcript ledger_rules x.state (number + lines_in step) steps x.fates)

    by_fit : (b : Bool) → Follows first.state second (λ l. transcript ledger_rules l (number + lines_in step) steps first.fates)
        → Follows d (if b then goes_on desk_rules first.end first second else stopped desk_rules number d fates)
        (λ l. if b then whole l else stopped ledger_rules number l fates)
    by_fit true later =
        both_follow d first.end first second (λ l. performed ledger_rules step l fates) (λ l more. transcript ledger_rules l (number + lines_in step) steps more) refl
        (step_follows step d fates) later
    by_fit false later =
        unmoved d (stopped desk_rules number d fates) (λ l. stopped ledger_rules number l fates) refl (λ later before. refl)

pub transcripts_are_runs : TranscriptsAreRuns
transcripts_are_runs d number steps fates =
    let h = run_follows steps d number fates in
    let is = ap (λ (rs : List Reply). transcript ledger_rules (ledger_of d rs []) number steps fates) (sym (append-nil h.replies)) ∙ h.is [] [] in (
      h.replies,
      record {
        text = sym (ap (λ (x : Run ledger_rules). text_of x) is);
        end = sym (ap (λ (x : Run ledger_rules). x.end) is);
        all = ap (λ (x : Run ledger_rules). map (λ e. e.reply) x.state.entries) is ∙ h.all;
        scripts = sym (ap (λ (x : Run ledger_rules). x.state.scripts) is);
        held = sym (ap (λ (x : Run ledger_rules). x.state.held) is);
        runs = subst (λ (es : List Entry). AreRuns es d.shelves (transcript desk_rules d number steps fates).state.shelves)
            (sym (ap (λ (x : Run ledger_rules). x.state.entries) is)) h.runs;
        lawful = λ rules scripts count from_first.
            subst (λ (es : List Entry). AreLawfulRuns es d.shelves) (sym (ap (λ (x : Run ledger_rules). x.state.entries) is))
            (h.lawful count (subst (λ (e : Desk). AreOut count e.shelves e.held) (sym from_first) (first_orderly rules scripts count))).0;
      },
    )
