-- From what a run of steps leaves to what a command answers.
use Rattle.std.proofs.Common.{◌≡◌, ◌≤◌, ◌<◌, ◌+◌, ◌++◌, ◌∷◌, ◌⊎◌, ◌∙◌, ℕ, zero, suc, List, [], length, Bool, true, false, IsTrue, Option, Some, None, Result, Ok, append-nil, append_assoc, sym, ap, refl, subst, inl, inr, arith, codes}
use Rattle.std.specs.Prelude.{count_by, replicate}
use Rattle.std.proofs.lemmas.List.{length-append, length-replicate}
use Rattle.std.specs.Fmt.{decimal}
use Rattle.std.specs.Io.KnownBytes.{Appends, Keeps}
use Rattle.web_disk.specs.View.{RackView}
use Rattle.trio_rack.specs.Trios.{MayBeBare, shelves_of}
use Rattle.web_outside.specs.Causes.{Rose}
use Rattle.web_outside.specs.Pieces.{AppendsUnlessFault}
use Rattle.web_outside.proofs.Writes.{appends_kept, appends_none}
use Rattle.command_words.specs.declared.Command.TheVariants.{Play}
use Rattle.command_words.specs.declared.Options.{Options}
use Rattle.setup_reader.specs.declared.setup.Ending.TheVariants.{Steps}
use Rattle.setup_reader.specs.Setup.{Parsed, Fault, setup_of}
use Rattle.script_nodes.specs.Setup.{Named}
use Rattle.replay_spec.specs.Step.{Fate}
use Rattle.play_steps.specs.Step.{Step, edit}
use Rattle.play_steps.specs.Transcript.{End, done, bad_line, Run, fits, text_of, transcript, went}
use Rattle.play_steps.specs.declared.report.Report.{Report}
use Rattle.play_steps.specs.declared.stage.Reopen.{Reopen}
use Rattle.play_steps.specs.declared.stage.Reopen.TheVariants as reopen
use Rattle.play_steps.proofs.Runs.{print_joined}
use Rattle.play_steps.specs.Texts.{print}
use Rattle.play_steps.specs.Played as played
use Rattle.play_steps.specs.Played.{Plays, Halts, HasRisen, RoseBy, Waits}
use Rattle.play_desk.specs.Desk.{Desk, desk_rules, is_fault}
use Rattle.play_desk.specs.Laws.{TranscriptsAreRuns}
use Rattle.play_desk.specs.Asking.{AsksForFirst, AsksUntil}
use Rattle.play_desk.specs.Opening.{AllStayKept, HoldTheBooks, IsClosedBy, IsLeft}
use Rattle.server_command.specs.Racks.{Racks, AreHeld, AreTaken, HaveBegun, ShelfFailed, full, not_empty, first_unfit, unfit_new, disk_line, unfit_line, held_anew}
use Rattle.server_command.specs.Output.{Chances, Output, output_of, desk_for, run_of, steps_for, finished, ended, sinks, Tells, BreaksOff, at_line, replies, at_first, at_crash, unless_shut}
use Rattle.server_command.specs.Remains.{AreAllKept, HaveFailed, IsAny, IsBehind, IsFailed, IsLostBehind, IsUnopened, Loses, Pauses, Remains, RemainsShut, RemainsUnwritten, TellsOutgrown, unopened, performed, lost}
use Rattle.server_command.specs.Command.{Gives, Known, LeavesShut, Outputs, PlaysEvents, Settles, StandFor, TakesDisks, TellsLine, with_setup}
use Rattle.server_command.specs.declared.program.Status.{Status}
use Rattle.server_command.specs.declared.program.Status.TheVariants as status
use Rattle.server_command.proofs.Endings.{IsWhole, early, no_chances, whole_text, tells, since}

-- what is there where this holds, and something else where not
pub decided : {X : Type 0} (b : Bool) (P : X → Type 0) → X → (IsTrue b → (x : X) × P x) → (x : X) × (IsTrue b → P x)
decided true P x f = let y = f refl in (y.0, λ t. y.1)
decided false P x f = (x, λ t. absurd (let no : ⊥ = cc in no))

-- disks of a run of steps tell their bytes, or nothing hangs on them
tells_of : (rack : Racks) (o : Options) (bytes : List ℕ) (setup : Parsed) → setup_of Steps bytes ≡ Ok setup
    → Settles rack (with_setup (Play o) (setup_of Steps bytes)) → IsTrue rack.tells
tells_of rack o bytes setup h settles = subst (λ r. Settles rack (with_setup (Play o) r)) h settles

by_tells : (rack : Racks) (o : Options) (bytes : List ℕ) (setup : Parsed) → setup_of Steps bytes ≡ Ok setup → (P : Chances → Type 0)
    → (IsTrue rack.tells → (chances : Chances) × P chances) → (chances : Chances) × Known rack (Play o) bytes (P chances)
by_tells rack o bytes setup h P f =
    let x = decided rack.tells P no_chances f in (x.0, λ settles. x.1 (tells_of rack o bytes setup h settles))

-- a run of steps begins on disks that were found empty, in order
pub record Begins (rack : Racks) (o : Options) (scripts : List Named) (d : Desk) : Type 0 where
  pub first : d ≡ desk_for o scripts
  pub began : HaveBegun rack o.shelves

-- its chances, by the fates of its events
abbrev pub chances_of : Options → List Fate → Chances
chances_of o fates = record { disks = replicate o.shelves []; fates = fates }

pub none_unfit : (n k : ℕ) → first_unfit unfit_new k (replicate n []) ≡ None
none_unfit zero k = refl
none_unfit (suc n) k = none_unfit n (k + 1)

all_held : (holds : ℕ → List ℕ → Type 0) (n k count : ℕ) → k + n ≡ count → ((j : ℕ) → j < count → holds j []) → AreHeld holds k (replicate n [])
all_held holds zero k count is each = tt
all_held holds (suc n) k count is each = (each k (omega (arith, is)), all_held holds n (k + 1) count (omega (arith, is)) each)

so_many : (n : ℕ) (x : List ℕ) → length (replicate n x) ≡ n
so_many zero x = refl
so_many (suc n) x = ap suc (so_many n x)

pub are_taken : (rack : Racks) (o : Options) (scripts : List Named) (d : Desk) → Begins rack o scripts d
    → AreTaken unfit_new (held_anew rack.before) o.shelves (replicate o.shelves [])
are_taken rack o scripts d b = record {
  held = all_held (held_anew rack.before) o.shelves 0 o.shelves (omega arith) b.began.empty;
  all = λ none. so_many o.shelves [];
}

takes : (rack : Racks) (o : Options) (bytes : List ℕ) (setup : Parsed) (d : Desk) (fates : List Fate) → setup_of Steps bytes ≡ Ok setup → Begins rack o setup.scripts d
    → TakesDisks rack (with_setup (Play o) (setup_of Steps bytes)) (chances_of o fates).disks
takes rack o bytes setup d fates h b =
    subst (λ (r : Result Parsed Fault). TakesDisks rack (with_setup (Play o) r) (replicate o.shelves [])) (sym h) (are_taken rack o setup.scripts d b)

-- the output of a run of these steps, by its transcript
output_is : (rack : Racks) (o : Options) (bytes : List ℕ) (setup : Parsed) (d : Desk) (fates : List Fate) (run : Run desk_rules) → setup_of Steps bytes ≡ Ok setup
    → d ≡ desk_for o setup.scripts → transcript desk_rules d 1 (steps_for o setup) fates ≡ run → output_of (Play o) bytes (chances_of o fates) ≡ finished run
output_is rack o bytes setup d fates run h first is =
    rw h (ap (λ f. unless_shut f (finished (run_of o setup.scripts (steps_for o setup) fates))) (none_unfit o.shelves 0)
    ∙ (ap (λ (x : Desk). finished (transcript desk_rules x 1 (steps_for o setup) fates)) (sym first) ∙ ap finished is))

text_is : (text : List ℕ) (end : End) → (ended text end).text ≡ text
text_is text done = refl
text_is text (bad_line n) = refl

-- the output of steps is that of a run of events
pub plays_events : TranscriptsAreRuns → (o : Options) (bytes : List ℕ) (setup : Parsed) (chances : Chances) → setup_of Steps bytes ≡ Ok setup
    → first_unfit unfit_new 0 chances.disks ≡ None → PlaysEvents o setup chances.fates (output_of (Play o) bytes chances)
plays_events law o bytes setup chances is none =
    let d = desk_for o setup.scripts in
    let run = transcript desk_rules d 1 (steps_for o setup) chances.fates in
    let events = law d 1 (steps_for o setup) chances.fates in
    let output : output_of (Play o) bytes chances ≡ finished run = rw is (ap (λ f. unless_shut f (finished run)) none) in
    record {
      replies = events.0;
      text = ap (λ (x : Output). x.text) output ∙ (text_is (text_of run) run.end ∙ events.1.text);
      run = events.1;
    }

stand_for : (rack : Racks) (o : Options) (bytes : List ℕ) (setup : Parsed) (d e : Desk) (fates : List Fate) (run : Run desk_rules) → setup_of Steps bytes ≡ Ok setup
    → d ≡ desk_for o setup.scripts → transcript desk_rules d 1 (steps_for o setup) fates ≡ run → run.state ≡ e → HoldTheBooks e (shelves_of rack.after).holds
    → HaveFailed rack fates 0 → HaveBegun rack o.shelves → StandFor rack (Play o) (setup_of Steps bytes) (chances_of o fates)
stand_for rack o bytes setup d e fates run h first is last l counted began =
    let same = ap (λ (x : Desk). (transcript desk_rules x 1 (steps_for o setup) fates).state) (sym first) ∙ (ap (λ (r : Run desk_rules). r.state) is ∙ last) in
    subst (λ (r : Result Parsed Fault). StandFor rack (Play o) r (chances_of o fates)) (sym h)
    (subst (λ (x : Desk). HoldTheBooks x (shelves_of rack.after).holds) (sym same) l, counted, began)

-- the count of a rack, by that of the stage before and after the events of these fates
pub have_failed : (rack : Racks) (fates : List Fate) (before after : ℕ) → rack.before.faults ≤ before → HasRisen desk_rules fates before after
    → after ≤ rack.after.faults → HaveFailed rack fates 0
have_failed rack fates before after from h to =
    let rose : RoseBy (count_by is_fault fates) before after = h.fails in omega (arith, rose, from, to)

-- and of one call more
pub have_failed_once : (rack : Racks) (fates : List Fate) (before middle after : ℕ) → rack.before.faults ≤ before → HasRisen desk_rules fates before middle
    → Rose middle after → after ≤ rack.after.faults → HaveFailed rack fates 1
have_failed_once rack fates before middle after from h once to =
    let rose : RoseBy (count_by is_fault fates) before middle = h.fails in omega (arith, rose, once, from, to)

-- all steps were performed, up to the end or to a line that is no step or does not fit
behind_all : (o : Options) (setup : Parsed) (d e : Desk) (fates : List Fate) (run : Run desk_rules) → d ≡ desk_for o setup.scripts
    → transcript desk_rules d 1 (steps_for o setup) fates ≡ run → run.state ≡ e → IsBehind o setup fates (text_of run) e
behind_all o setup d e fates run first is last =
    let same = ap (λ (x : Desk). transcript desk_rules x 1 (steps_for o setup) fates) (sym first) ∙ is in
    record {
      front = steps_for o setup;
      rest = [];
      cut = sym (append-nil (steps_for o setup));
      printed = ([], append-nil (text_of run) ∙ ap (λ (r : Run desk_rules). text_of r) (sym same));
      state = ap (λ (r : Run desk_rules). r.state) same ∙ last;
    }

-- some were, and one that was not told whole
behind_next : (o : Options) (setup : Parsed) (d e : Desk) (fates : List Fate) (front rest : List (Option Step)) (step : Step) (told last : List Report)
    (text more : List ℕ) → d ≡ desk_for o setup.scripts → steps_for o setup ≡ front ++ Some step ∷ rest
    → transcript desk_rules d 1 (front ++ Some step ∷ []) fates ≡ went desk_rules (told ++ last) e [] → print told ++ print last ≡ text ++ more
    → IsBehind o setup fates text e
behind_next o setup d e fates front rest step told last text more first cut is split =
    let same = ap (λ (x : Desk). transcript desk_rules x 1 (front ++ Some step ∷ []) fates) (sym first) ∙ is in
    record {
      front = front ++ Some step ∷ [];
      rest = rest;
      cut = cut ∙ sym (append_assoc front (Some step ∷ []) rest);
      printed = (more, sym split ∙ sym (print_joined told last) ∙ ap (λ (r : Run desk_rules). text_of r) (sym same));
      state = ap (λ (r : Run desk_rules). r.state) same;
    }

-- what a run left that came to its end, or to a line that is no step or does not fit
pub record Ran (rack : Racks) (o : Options) (scripts : List Named) (steps : List (Option Step)) (end : End) (old mid : Option (List ℕ)) : Type 0 where
  pub first : Desk
  pub last : Desk
  pub begins : Begins rack o scripts first
  pub before : ℕ
  pub after : ℕ
  pub plays : Plays desk_rules steps end (played.scene desk_rules old first before) (played.scene desk_rules mid last after)
  pub left : HoldTheBooks last (shelves_of rack.after).holds
  pub from : rack.before.faults ≤ before
  pub to : after ≤ rack.after.faults

ran_output : (rack : Racks) (o : Options) (bytes : List ℕ) (setup : Parsed) (end : End) (old mid : Option (List ℕ)) → setup_of Steps bytes ≡ Ok setup
    → (p : Ran rack o setup.scripts (steps_for o setup) end old mid)
    → output_of (Play o) bytes (chances_of o p.plays.fates) ≡ ended (print p.plays.told) end
ran_output rack o bytes setup end old mid h p =
    output_is rack o bytes setup p.first p.plays.fates _ h p.begins.first p.plays.is

pub done_outputs : (rack : Racks) (o : Options) (bytes : List ℕ) (setup : Parsed) (s : Status) (old mid new : Option (List ℕ)) (before between after : ℕ)
    → setup_of Steps bytes ≡ Ok setup → (IsTrue rack.tells → Ran rack o setup.scripts (steps_for o setup) done old mid) → Keeps mid new → before ≤ between
    → (s ≡ status.Done) ⊎ ((s ≡ status.Write) × Rose between after) → Outputs rack (Play o) bytes s (sinks old new before after)
done_outputs rack o bytes setup s old mid new before between after h ran kept le ends =
    let x = by_tells rack o bytes setup h (λ chances. IsWhole rack (Play o) bytes chances old new) (λ t. whole (ran t)) in
    whole_text rack (Play o) bytes x.0 s old new before between after x.1 le ends
  where
    whole : Ran rack o setup.scripts (steps_for o setup) done old mid → (chances : Chances) × IsWhole rack (Play o) bytes chances old new
    whole p =
        let is = ran_output rack o bytes setup done old mid h p in (
          chances_of o p.plays.fates,
          record {
            status = ap (λ (x : Output). x.status) is;
            error = ap (λ (x : Output). x.error) is;
            text = subst (Appends old new) (sym (ap (λ (x : Output). x.text) is)) (appends_kept old mid new (print p.plays.told) p.plays.written kept);
            taken = takes rack o bytes setup p.first p.plays.fates h p.begins;
            stand = stand_for rack o bytes setup p.first p.last p.plays.fates _ h p.begins.first p.plays.is refl p.left
                (have_failed rack p.plays.fates p.before p.after p.from p.plays.risen p.to) p.begins.began;
            unwritten = subst (λ (r : Result Parsed Fault). RemainsUnwritten rack (Play o) r (chances_of o p.plays.fates) old new) (sym h) (
              print p.plays.told,
              p.last,
              appends_kept old mid new (print p.plays.told) p.plays.written kept,
              behind_all o setup p.first p.last p.plays.fates _ p.begins.first p.plays.is refl,
              p.left,
              have_failed rack p.plays.fates p.before p.after p.from p.plays.risen p.to,
              p.begins.began,
            );
          },
        )

pub line_outputs : (rack : Racks) (o : Options) (bytes : List ℕ) (setup : Parsed) (n : ℕ) (s : Status) (old mid new : Option (List ℕ)) (before between after : ℕ)
    → setup_of Steps bytes ≡ Ok setup → (IsTrue rack.tells → Ran rack o setup.scripts (steps_for o setup) (bad_line n) old mid) → before ≤ between
    → TellsLine n s (sinks mid new between after) → Outputs rack (Play o) bytes s (sinks old new before after)
line_outputs rack o bytes setup n status.Line old mid new before between after h ran le told =
    by_tells rack o bytes setup h (λ chances. Gives rack (Play o) bytes chances 4 (sinks old new before after) × StandFor rack (Play o) (setup_of Steps bytes) chances)
    (λ t. line (ran t))
  where
    line : (p : Ran rack o setup.scripts (steps_for o setup) (bad_line n) old mid)
        → (chances : Chances) × (Gives rack (Play o) bytes chances 4 (sinks old new before after) × StandFor rack (Play o) (setup_of Steps bytes) chances)
    line p =
        let is = ran_output rack o bytes setup (bad_line n) old mid h p in
        let told_so = tells old mid new (print p.plays.told) (codes "error 4 " ++ (decimal n ++ 10 ∷ [])) before after p.plays.written (since mid new _ before between after le told) in (
          chances_of o p.plays.fates,
          (
            record {
              answered = subst (λ (x : Output). (x.status ≡ 4) × Tells x.text x.error (sinks old new before after)) (sym is) (refl, told_so);
              taken = takes rack o bytes setup p.first p.plays.fates h p.begins;
            },
            stand_for rack o bytes setup p.first p.last p.plays.fates _ h p.begins.first p.plays.is refl p.left
                (have_failed rack p.plays.fates p.before p.after p.from p.plays.risen p.to) p.begins.began,
          ),
        )
line_outputs rack o bytes setup n status.Memory old mid new before between after h ran le told =
    by_tells rack o bytes setup h _ (λ t. paused (ran t))
  where
    paused : (p : Ran rack o setup.scripts (steps_for o setup) (bad_line n) old mid)
        → (chances : Chances) × Pauses rack (Play o) bytes chances (codes "error 10 memory\n") (sinks old new before after)
    paused p =
        let is = ran_output rack o bytes setup (bad_line n) old mid h p in
        let text : (output_of (Play o) bytes (chances_of o p.plays.fates)).text ≡ print p.plays.told = ap (λ (x : Output). x.text) is in (
          chances_of o p.plays.fates,
          (
            (output_of (Play o) bytes (chances_of o p.plays.fates)).text,
            at_line (ap (λ (x : Output). x.status) is),
            tells old mid new _ (codes "error 10 memory\n") before after (subst (Appends old mid) (sym text) p.plays.written) (since mid new _ before between after le told),
            subst (λ (t : List ℕ). Remains rack (Play o) (setup_of Steps bytes) (chances_of o p.plays.fates) t IsAny 0) (sym text)
                (subst (λ (r : Result Parsed Fault). Remains rack (Play o) r (chances_of o p.plays.fates) (print p.plays.told) IsAny 0) (sym h) (
                  performed p.last (λ shelf why. tt) (behind_all o setup p.first p.last p.plays.fates _ p.begins.first p.plays.is refl) p.left p.begins.began,
                  have_failed rack p.plays.fates p.before p.after p.from p.plays.risen p.to,
                )),
          ),
        )
line_outputs rack o bytes setup n s old mid new before between after h ran le told = absurd told

-- what a run left that halted at a step which it performed
pub record Halted (rack : Racks) (o : Options) (scripts : List Named) (steps : List (Option Step)) (shown : List ℕ) (old mid : Option (List ℕ)) : Type 0 where
  pub first : Desk
  pub last : Desk
  pub begins : Begins rack o scripts first
  pub before : ℕ
  pub after : ℕ
  pub halts : Halts desk_rules steps shown (played.scene desk_rules old first before) (played.scene desk_rules mid last after)
  pub left : HoldTheBooks last (shelves_of rack.after).holds
  pub from : rack.before.faults ≤ before
  pub to : after ≤ rack.after.faults

pub write_outputs : (rack : Racks) (o : Options) (bytes : List ℕ) (setup : Parsed) (old new : Option (List ℕ)) (before after : ℕ) → setup_of Steps bytes ≡ Ok setup
    → (IsTrue rack.tells → (shown : List ℕ) × (p : Halted rack o setup.scripts (steps_for o setup) shown old new) × (0 < length p.halts.hidden))
    → Rose before after → Outputs rack (Play o) bytes status.Write (sinks old new before after)
write_outputs rack o bytes setup old new before after h halted rose =
    let x = by_tells rack o bytes setup h (λ chances. BreaksOff (output_of (Play o) bytes chances) (sinks old new before after)
    × RemainsUnwritten rack (Play o) (setup_of Steps bytes) chances old new) (λ t. broke (halted t)) in
    (x.0, (rose, x.1))
  where
    broke : (shown : List ℕ) × (p : Halted rack o setup.scripts (steps_for o setup) shown old new) × (0 < length p.halts.hidden)
        → (chances : Chances) × (BreaksOff (output_of (Play o) bytes chances) (sinks old new before after)
        × RemainsUnwritten rack (Play o) (setup_of Steps bytes) chances old new)
    broke (shown, p, some) =
        let q = p.halts in
        let fates = q.fates ++ q.came.fates in
        let run = transcript desk_rules p.first 1 (steps_for o setup) fates in
        let text : (output_of (Play o) bytes (chances_of o fates)).text ≡ (print q.told ++ shown) ++ (q.hidden ++ q.later) =
        ap (λ (x : Output). x.text) (output_is rack o bytes setup p.first fates run h p.begins.first refl) ∙ (text_is (text_of run) run.end ∙ q.all) in
        let split : print q.told ++ print q.last ≡ (print q.told ++ shown) ++ q.hidden =
        ap (λ w. print q.told ++ w) q.split ∙ sym (append_assoc (print q.told) shown q.hidden) in (
          chances_of o fates,
          (
            inl (record { front = print q.told ++ shown; rest = q.hidden ++ q.later; is = text; some = omega (arith, some, length-append q.hidden q.later); written = q.written }),
            subst (λ (r : Result Parsed Fault). RemainsUnwritten rack (Play o) r (chances_of o fates) old new) (sym h) (
              print q.told ++ shown,
              p.last,
              q.written,
              behind_next o setup p.first p.last fates q.front q.rest q.step q.told q.last (print q.told ++ shown) q.hidden p.begins.first q.cut q.reached split,
              p.left,
              have_failed rack fates p.before p.after p.from q.risen p.to,
              p.begins.began,
            ),
          ),
        )

-- what a run left that came to an edit, and there was no memory to see whether it fits
pub record Waiting (rack : Racks) (o : Options) (scripts : List Named) (steps : List (Option Step)) (old mid : Option (List ℕ)) : Type 0 where
  pub first : Desk
  pub last : Desk
  pub begins : Begins rack o scripts first
  pub before : ℕ
  pub after : ℕ
  pub waits : Waits desk_rules steps (played.scene desk_rules old first before) (played.scene desk_rules mid last after)
  pub left : HoldTheBooks last (shelves_of rack.after).holds
  pub from : rack.before.faults ≤ before
  pub to : after ≤ rack.after.faults

-- what a run left that came to a crash after which the shelf was not opened, for this
pub record Lost (rack : Racks) (o : Options) (scripts : List Named) (steps : List (Option Step)) (shelf : ℕ) (why : Reopen) (old mid : Option (List ℕ))
    : Type 0 where
  pub first : Desk
  pub last : Desk
  pub begins : Begins rack o scripts first
  pub before : ℕ
  pub after : ℕ
  pub loses : played.Loses desk_rules (IsLeft rack.after) steps shelf why (played.scene desk_rules old first before) (played.scene desk_rules mid last after)
  pub rose : why ≡ reopen.Disk → Rose loses.middle.faults after
  pub from : rack.before.faults ≤ before
  pub to : after ≤ rack.after.faults

-- whole replies to the steps before the crash
is_replied : (rack : Racks) (o : Options) (setup : Parsed) (shelf : ℕ) (why : Reopen) (old mid : Option (List ℕ))
    (p : Lost rack o setup.scripts (steps_for o setup) shelf why old mid)
    → IsLostBehind o setup p.loses.fates (print p.loses.told) shelf p.loses.middle.state
is_replied rack o setup shelf why old mid p =
    let q = p.loses in
    let run = ap (λ (x : Desk). transcript desk_rules x 1 q.front q.fates) (sym p.begins.first) ∙ q.is in (
      record {
        front = q.front;
        step = q.step;
        next = record {
          crashed = q.crashed;
          fitting = ap (λ (r : Run desk_rules). fits desk_rules q.step r.state) run ∙ q.fitting;
        };
        rest = q.rest;
        cut = q.cut;
        text_is = ap (λ (r : Run desk_rules). text_of r) run;
        goes_on = ap (λ (r : Run desk_rules). r.end) run;
      },
      ap (λ (r : Run desk_rules). r.state) run,
    )

-- what a run left that came to want of memory: it halted at a step; or a shelf was not opened again; or it came to an edit
abbrev pub RanOut : (rack : Racks) → Options → List Named → (steps : List (Option Step)) → (old mid : Option (List ℕ)) → Type 0
RanOut rack o scripts steps old mid =
    Halted rack o scripts steps [] old mid ⊎ (((shelf : ℕ) × (why : Reopen) × Lost rack o scripts steps shelf why old mid) ⊎ Waiting rack o scripts steps old mid)

pub memory_outputs : (rack : Racks) (o : Options) (bytes : List ℕ) (setup : Parsed) (s : Status) (old mid new : Option (List ℕ)) (before between after : ℕ)
    → setup_of Steps bytes ≡ Ok setup
    → (IsTrue rack.tells → RanOut rack o setup.scripts (steps_for o setup) old mid) → before ≤ between → s ≡ status.Memory → AppendsUnlessFault mid new (codes "error 10 memory\n") between after
    → Outputs rack (Play o) bytes s (sinks old new before after)
memory_outputs rack o bytes setup s old mid new before between after h halted le is told =
    subst (λ (x : Status). Outputs rack (Play o) bytes x (sinks old new before after)) (sym is) (by_tells rack o bytes setup h _ (λ t. paused (halted t)))
  where
    paused : RanOut rack o setup.scripts (steps_for o setup) old mid → (chances : Chances) × Pauses rack (Play o) bytes chances (codes "error 10 memory\n") (sinks old new before after)
    paused (inl p) =
        let q = p.halts in
        let fates = q.fates ++ q.came.fates in
        let run = ap (λ (x : Desk). transcript desk_rules x 1 q.front fates) (sym p.begins.first) ∙ q.is q.came.fates in (
          chances_of o fates,
          (
            print q.told,
            replies o setup (print q.told) refl h (record {
              front = q.front;
              step = q.step;
              next = tt;
              rest = q.rest;
              cut = q.cut;
              text_is = ap (λ (r : Run desk_rules). text_of r) run;
              goes_on = ap (λ (r : Run desk_rules). r.end) run;
            }),
            tells old mid new (print q.told) (codes "error 10 memory\n") before after (subst (Appends old mid) (append-nil (print q.told)) q.written) (since mid new _ before between after le told),
            subst (λ (r : Result Parsed Fault). Remains rack (Play o) r (chances_of o fates) (print q.told) IsAny 0) (sym h) (
              performed p.last (λ shelf why. tt)
                  (behind_next o setup p.first p.last fates q.front q.rest q.step q.told q.last (print q.told) (print q.last) p.begins.first q.cut q.reached refl) p.left p.begins.began,
              have_failed rack fates p.before p.after p.from q.risen p.to,
            ),
          ),
        )
    paused (inr (inl (shelf, why, p))) =
        let q = p.loses in
        let run = ap (λ (x : Desk). transcript desk_rules x 1 q.front q.fates) (sym p.begins.first) ∙ q.is in (
          chances_of o q.fates,
          (
            print q.told,
            replies o setup (print q.told) refl h (record {
              front = q.front;
              step = q.step;
              next = tt;
              rest = q.rest;
              cut = q.cut;
              text_is = ap (λ (r : Run desk_rules). text_of r) run;
              goes_on = ap (λ (r : Run desk_rules). r.end) run;
            }),
            tells old mid new (print q.told) (codes "error 10 memory\n") before after q.written (since mid new _ before between after le told),
            subst (λ (r : Result Parsed Fault). Remains rack (Play o) r (chances_of o q.fates) (print q.told) IsAny 0) (sym h) (
              lost shelf why q.middle.state tt (is_replied rack o setup shelf why old mid p) q.stands p.begins.began,
              have_failed rack q.fates p.before q.middle.faults p.from q.risen (let later = q.later in let to = p.to in omega (arith, later, to)),
            ),
          ),
        )
    paused (inr (inr p)) =
        let q = p.waits in
        let run = ap (λ (x : Desk). transcript desk_rules x 1 q.front q.fates) (sym p.begins.first) ∙ q.is in
        let text = ap (λ (r : Run desk_rules). text_of r) run in (
          chances_of o q.fates,
          (
            print q.told,
            replies o setup (print q.told) refl h (record {
              front = q.front;
              step = edit q.name q.text;
              next = tt;
              rest = q.rest;
              cut = q.cut;
              text_is = text;
              goes_on = ap (λ (r : Run desk_rules). r.end) run;
            }),
            tells old mid new (print q.told) (codes "error 10 memory\n") before after q.written (since mid new _ before between after le told),
            subst (λ (r : Result Parsed Fault). Remains rack (Play o) r (chances_of o q.fates) (print q.told) IsAny 0) (sym h) (
              performed p.last (λ shelf why. tt) (record {
                front = q.front;
                rest = Some (edit q.name q.text) ∷ q.rest;
                cut = q.cut;
                printed = ([], append-nil (print q.told) ∙ sym text);
                state = ap (λ (r : Run desk_rules). r.state) run;
              }) p.left p.begins.began,
              have_failed rack q.fates p.before p.after p.from q.risen p.to,
            ),
          ),
        )

pub lost_outputs : (rack : Racks) (o : Options) (bytes : List ℕ) (setup : Parsed) (shelf : ℕ) (old mid new : Option (List ℕ)) (before between after : ℕ)
    → setup_of Steps bytes ≡ Ok setup → (IsTrue rack.tells → Lost rack o setup.scripts (steps_for o setup) shelf reopen.Disk old mid) → before ≤ between
    → ShelfFailed rack shelf → AppendsUnlessFault mid new (disk_line shelf) between after → Outputs rack (Play o) bytes status.Disk (sinks old new before after)
lost_outputs rack o bytes setup shelf old mid new before between after h lost_so le failed told =
    let x = by_tells rack o bytes setup h (λ chances. Loses rack (Play o) bytes chances shelf (sinks old new before after)) (λ t. loses (lost_so t)) in
    (x.0, (shelf, failed, x.1))
  where
    loses : Lost rack o setup.scripts (steps_for o setup) shelf reopen.Disk old mid
        → (chances : Chances) × Loses rack (Play o) bytes chances shelf (sinks old new before after)
    loses p =
        let q = p.loses in
        let replied = is_replied rack o setup shelf reopen.Disk old mid p in (
          chances_of o q.fates,
          (
            print q.told,
            at_crash o setup (print q.told) refl h replied.0,
            tells old mid new (print q.told) (disk_line shelf) before after q.written (since mid new _ before between after le told),
            subst (λ (r : Result Parsed Fault). Remains rack (Play o) r (chances_of o q.fates) (print q.told) (IsFailed shelf) 1) (sym h)
                (lost shelf reopen.Disk q.middle.state (refl, refl) replied q.stands p.begins.began, have_failed_once rack q.fates p.before q.middle.faults p.after p.from q.risen (p.rose refl) p.to),
          ),
        )

-- an edit outgrew the journal of a shelf
pub outgrown_outputs : (rack : Racks) (o : Options) (bytes : List ℕ) (setup : Parsed) (shelf size : ℕ) (old mid new : Option (List ℕ)) (before between after : ℕ)
    → setup_of Steps bytes ≡ Ok setup → (IsTrue rack.tells → Lost rack o setup.scripts (steps_for o setup) shelf (reopen.Full size) old mid) → before ≤ between
    → AppendsUnlessFault mid new (unfit_line shelf (full size)) between after → Outputs rack (Play o) bytes status.Journal (sinks old new before after)
outgrown_outputs rack o bytes setup shelf size old mid new before between after h lost_so le told =
    by_tells rack o bytes setup h (λ chances. LeavesShut rack (Play o) bytes chances (sinks old new before after)) (λ t. outgrows (lost_so t))
  where
    outgrows : Lost rack o setup.scripts (steps_for o setup) shelf (reopen.Full size) old mid
        → (chances : Chances) × LeavesShut rack (Play o) bytes chances (sinks old new before after)
    outgrows p =
        let q = p.loses in (
          chances_of o q.fates,
          inr (subst (λ (r : Result Parsed Fault). TellsOutgrown rack (with_setup (Play o) r) (chances_of o q.fates) (sinks old new before after)) (sym h) (
            shelf,
            size,
            print q.told,
            record {
              last = q.middle.state;
              lost = is_replied rack o setup shelf (reopen.Full size) old mid p;
              left = q.stands;
              counted = have_failed rack q.fates p.before q.middle.faults p.from q.risen (let later = q.later in let to = p.to in omega (arith, later, to));
              began = p.begins.began;
            },
            tells old mid new (print q.told) (unfit_line shelf (full size)) before after q.written (since mid new _ before between after le told),
          )),
        )

-- ---- a run of steps that does not begin

pub unread_outputs : (rack : Racks) (o : Options) (bytes : List ℕ) (setup : Parsed) (shelf : ℕ) (old new : Option (List ℕ)) (before after : ℕ)
    → setup_of Steps bytes ≡ Ok setup → ShelfFailed rack shelf → (IsTrue rack.tells → IsUnopened rack setup.scripts shelf reopen.Disk)
    → AppendsUnlessFault old new (disk_line shelf) before after → Outputs rack (Play o) bytes status.Disk (sinks old new before after)
unread_outputs rack o bytes setup shelf old new before after h failed kept told = (
  no_chances,
  (
    shelf,
    failed,
    λ settles. (
      [],
      at_first o refl,
      tells old old new [] (disk_line shelf) before after (appends_none old) told,
      subst (λ (r : Result Parsed Fault). Remains rack (Play o) r no_chances [] (IsFailed shelf) 1) (sym h) (
        unopened shelf reopen.Disk (refl, refl) refl (kept (tells_of rack o bytes setup h settles)),
        (let none : count_by is_fault [] ≡ 0 = refl in let rose = failed.all in omega (arith, none, rose)),
      ),
    ),
  ),
)

-- the disks before the first that is not opened may hold nothing
pub closed_before : (rack : RackView) (count shelf : ℕ) (why : Reopen) → IsClosedBy rack count shelf why → (k : ℕ) → k < shelf → MayBeBare rack k
closed_before rack count shelf reopen.NotEmpty h = h.1.before
closed_before rack count shelf (reopen.Damaged place) h = absurd h
closed_before rack count shelf (reopen.Other place) h = absurd h
closed_before rack count shelf (reopen.Full length) h = absurd h
closed_before rack count shelf reopen.Disk h = h.1
closed_before rack count shelf reopen.Memory h = h.1

pub is_unopened : (rack : Racks) (scripts : List Named) (count shelf : ℕ) (why : Reopen) → IsClosedBy rack.before count shelf why
    → (why ≡ reopen.Disk → ShelfFailed rack shelf) → AllStayKept scripts (shelves_of rack.before).holds (shelves_of rack.after).holds shelf why
    → AsksUntil (shelf + 1) shelf rack.before rack.after → IsUnopened rack scripts shelf why
is_unopened rack scripts count shelf why closed failed kept asked =
    record { asked = inl asked; before = closed_before rack.before count shelf why closed; failed = failed; kept = kept }

-- memory ran out, or was not there to tell why a shelf was not opened
pub unopened_early : (rack : Racks) (o : Options) (bytes : List ℕ) (setup : Parsed) (shelf : ℕ) (why : Reopen) (s : Status) (old new : Option (List ℕ)) (before after : ℕ)
    → setup_of Steps bytes ≡ Ok setup → (IsTrue rack.tells → IsUnopened rack setup.scripts shelf why) → rack.before.faults ≤ rack.after.faults → s ≡ status.Memory
    → AppendsUnlessFault old new (codes "error 10 memory\n") before after → Outputs rack (Play o) bytes s (sinks old new before after)
unopened_early rack o bytes setup shelf why s old new before after h kept later is line =
    early rack (Play o) bytes s old new before after is line
    (λ settles. subst (λ (r : Result Parsed Fault). Remains rack (Play o) r no_chances [] IsAny 0) (sym h) (
      unopened shelf why tt refl (kept (tells_of rack o bytes setup h settles)),
      (let none : count_by is_fault [] ≡ 0 = refl in omega (arith, none, later)),
    ))

-- the disks before this one are empty, and this one holds something
pub record HoldsSome (rack : Racks) (o : Options) (shelf : ℕ) : Type 0 where
  pub within : shelf < o.shelves
  pub empty : (k : ℕ) → k < shelf → MayBeBare rack.before k
  pub byte : ℕ
  pub bytes : List ℕ
  pub held : held_anew rack.before shelf (byte ∷ bytes)

pub some_unfit : (n k : ℕ) (b : ℕ) (bs : List ℕ) (m : ℕ) → k + n ≡ m → first_unfit unfit_new k (replicate n [] ++ (b ∷ bs) ∷ []) ≡ Some (m, not_empty)
some_unfit zero k b bs m is = let same : k ≡ m = omega (arith, is) in ap (λ j. Some (j, not_empty)) same
some_unfit (suc n) k b bs m is = some_unfit n (k + 1) b bs m (omega (arith, is))

pub some_held : (holds : ℕ → List ℕ → Type 0) (n k : ℕ) (image : List ℕ) (m : ℕ) → k + n ≡ m → ((j : ℕ) → j < m → holds j []) → holds m image
    → AreHeld holds k (replicate n [] ++ image ∷ [])
some_held holds zero k image m is each here = (subst (λ j. holds j image) (sym (let same : k ≡ m = omega (arith, is) in same)) here, tt)
some_held holds (suc n) k image m is each here =
    (each k (omega (arith, is)), some_held holds n (k + 1) image m (omega (arith, is)) each here)

-- nothing was lost where one disk is not empty, and those after it were not taken
pub all_stay : (rack : Racks) (scripts : List Named) (shelf : ℕ) (image : List ℕ) → AllStayKept scripts (shelves_of rack.before).holds (shelves_of rack.after).holds shelf reopen.NotEmpty
    → AsksForFirst (shelf + 1) rack.before rack.after → AreAllKept rack scripts (length (replicate shelf [] ++ image ∷ []))
all_stay rack scripts shelf image stay asked = record {
  asked =
      let empties : List (List ℕ) = replicate shelf [] in
      let many : shelf + 1 ≡ length (empties ++ image ∷ []) = omega (arith, length-append empties (image ∷ []), length-replicate {A = List ℕ} shelf []) in
      subst (λ n. AsksForFirst n rack.before rack.after) many asked;
  kept = λ n. stay.kept n (λ e. let no : ⊥ = cc in absurd no);
  behind = λ n le.
      let empties : List (List ℕ) = replicate shelf [] in
      stay.behind n (omega (arith, le, length-append empties (image ∷ []), length-replicate {A = List ℕ} shelf []));
}

pub some_outputs : (rack : Racks) (o : Options) (bytes : List ℕ) (setup : Parsed) (shelf : ℕ) (old new : Option (List ℕ)) (before after : ℕ)
    → setup_of Steps bytes ≡ Ok setup → (IsTrue rack.tells → HoldsSome rack o shelf)
    → (IsTrue rack.tells → AllStayKept setup.scripts (shelves_of rack.before).holds (shelves_of rack.after).holds shelf reopen.NotEmpty)
    → AsksForFirst (shelf + 1) rack.before rack.after → AppendsUnlessFault old new (unfit_line shelf not_empty) before after → Outputs rack (Play o) bytes status.Journal (sinks old new before after)
some_outputs rack o bytes setup shelf old new before after h held kept asked told =
    by_tells rack o bytes setup h (λ chances. LeavesShut rack (Play o) bytes chances (sinks old new before after))
    (λ t. let x = shut (held t) (kept t) in (x.0, inl x.1))
  where
    shut : HoldsSome rack o shelf → AllStayKept setup.scripts (shelves_of rack.before).holds (shelves_of rack.after).holds shelf reopen.NotEmpty
        → (chances : Chances) × (Gives rack (Play o) bytes chances 8 (sinks old new before after) × RemainsShut rack (Play o) (setup_of Steps bytes) chances)
    shut p stay =
        let images : List (List ℕ) = replicate shelf [] ++ (p.byte ∷ p.bytes) ∷ [] in
        let chances : Chances = record { disks = images; fates = [] } in
        let unfit = some_unfit shelf 0 p.byte p.bytes shelf (omega arith) in
        let taken : AreTaken unfit_new (held_anew rack.before) o.shelves images = record {
          held = some_held (held_anew rack.before) shelf 0 (p.byte ∷ p.bytes) shelf (omega arith) p.empty p.held;
          all = λ none. absurd (let no : None ≡ Some (shelf, not_empty) = sym none ∙ unfit in cc);
        } in
        let is : output_of (Play o) bytes chances ≡ record { text = []; error = unfit_line shelf not_empty; status = 8 } =
        rw h (ap (λ f. unless_shut f (finished (run_of o setup.scripts (steps_for o setup) []))) unfit) in (
          chances,
          (
            record {
              answered = subst (λ (x : Output). (x.status ≡ 8) × Tells x.text x.error (sinks old new before after)) (sym is)
                  (refl, tells old old new [] (unfit_line shelf not_empty) before after (appends_none old) told);
              taken = subst (λ (r : Result Parsed Fault). TakesDisks rack (with_setup (Play o) r) images) (sym h) taken;
            },
            subst (λ (r : Result Parsed Fault). RemainsShut rack (Play o) r chances) (sym h) (all_stay rack setup.scripts shelf (p.byte ∷ p.bytes) stay asked),
          ),
        )

-- what no disk that tells its bytes does
pub never_outputs : (rack : Racks) (o : Options) (bytes : List ℕ) (setup : Parsed) (old new : Option (List ℕ)) (before after : ℕ)
    → setup_of Steps bytes ≡ Ok setup → (IsTrue rack.tells → ⊥) → Outputs rack (Play o) bytes status.Journal (sinks old new before after)
never_outputs rack o bytes setup old new before after h never =
    (no_chances, λ settles. absurd (never (tells_of rack o bytes setup h settles)))
