-- From what a measured run comes to, to what a command answers.
use Rattle.std.proofs.Common.{◌≡◌, ◌≤◌, ◌<◌, ◌^◌, ◌+◌, ◌++◌, ◌∷◌, ◌⊎◌, ◌∙◌, ℕ, suc, Bool, List, [], length, map, IsTrue, Option, Some, None, Result, Ok, Err, IsErrOf, sym, ap, refl, subst, inl, inr, arith, codes}
use Rattle.std.specs.Prelude.{count_by, replicate, slice_get}
use Rattle.std.specs.Io.KnownBytes.{Appends, Keeps}
use Rattle.std.proofs.lemmas.Option.{same_Some}
use Rattle.trio_rack.specs.Trios.{shelves_of}
use Rattle.web_outside.specs.Causes.{Rose}
use Rattle.web_outside.specs.Pieces.{AppendsUnlessFault}
use Rattle.web_outside.proofs.Writes.{appends_kept, appends_none}
use Rattle.replay_spec.specs.Step.{Fate}
use Rattle.play_steps.specs.Played.{Spot, spot}
use Rattle.play_steps.specs.Step.{crash}
use Rattle.play_steps.specs.Transcript.{Run, went}
use Rattle.play_steps.specs.declared.performing.Halt.{Halt}
use Rattle.play_steps.specs.declared.performing.Halt.TheVariants as halt
use Rattle.play_steps.specs.declared.report.Report.{Report}
use Rattle.play_steps.specs.declared.stage.Reopen.{Reopen}
use Rattle.play_steps.specs.declared.stage.Reopen.TheVariants as reopen
use Rattle.web_disk.specs.View.{RackView}
use Rattle.play_desk.specs.Desk.{Desk, desk_rules, is_fault}
use Rattle.play_desk.specs.Laws.{TranscriptsAreRuns}
use Rattle.play_desk.specs.Asking.{AsksForFirst, AsksUntil}
use Rattle.play_desk.specs.Opening.{AllStayKept, HoldTheBooks, IsClosedBy, IsLeft}
use Rattle.measured_run.specs.Generator.{Source, source_of}
use Rattle.measured_run.specs.Tallies.{summary_text}
use Rattle.measured_run.specs.declared.measuring.Measure.{Measure}
use Rattle.measured_run.specs.Drawing.{most_steps, run_drawn, steps_drawn}
use Rattle.measured_run.specs.Counting.{line_for, measure_of}
use Rattle.measured_run.specs.Course.{Loads, LosesShelf, Measures}
use Rattle.measured_run.specs.Setups.{load_scripts}
use Rattle.command_words.specs.declared.LoadOptions.{LoadOptions}
use Rattle.server_command.specs.declared.program.Status.{Status}
use Rattle.server_command.specs.declared.program.Status.TheVariants as status
use Rattle.server_command.specs.Racks.{Racks, racks_of, AreTaken, ShelfFailed, disk_line, not_empty, unfit_line, unfit_new, held_anew}
use Rattle.server_command.specs.Output.{Answers, BreaksOff, Chances, Output, Sinks, desk_for, loaded, rules_for, run_loaded, sinks, unless_shut}
use Rattle.server_command.specs.Loading.{GivesLoad, HasLeft, HasLoaded, IsLoaded, IsLost, IsLostBehind, LoadsEvents, RemainsLoaded, TellsMeasure, at_crash, at_first, told_measure}
use Rattle.server_command.specs.Remains.{AreAllKept, HaveFailed, IsAny, IsFailed, IsUnopened, lost, performed, unopened}
use Rattle.server_command.specs.Telling.{TellsUnopened, told, untold}
use Rattle.server_command.proofs.Endings.{no_chances, tells, tells_nothing}
use Rattle.server_command.proofs.Playing.{Begins, HoldsSome, all_stay, are_taken, chances_of, decided, some_held, some_unfit, have_failed, have_failed_once, is_unopened, none_unfit}
use Rattle.server_command.proofs.Opened.{holds_some}
use Rattle.server_command.proofs.Room.{IsRoomy, drawn_roomy, first_roomy, last_within, no_overflow}
use Rattle.lock_row.proofs.Places.{get_there}
use Rattle.replay_spec.specs.Runs.{Shelf}

-- the line of a run was written, and handed on or not
pub measure_told : (m : Measure) (text : List ℕ) (s : Status) (old mid new : Option (List ℕ)) (before between after : ℕ)
    → text ≡ summary_text m.tally m.hash → Appends old mid text → Keeps mid new → before ≤ between
    → (s ≡ status.Done) ⊎ ((s ≡ status.Write) × Rose between after) → TellsMeasure m s (sinks old new before after)
measure_told m text s old mid new before between after is p kept le (inl e) =
    let grown = subst (Appends old new) is (appends_kept old mid new text p kept) in
    subst (λ x. TellsMeasure m x (sinks old new before after)) (sym e) (refl, tells_nothing old new _ before after grown)
measure_told m text s old mid new before between after is p kept le (inr e) =
    let grown = subst (Appends old new) is (appends_kept old mid new text p kept) in
    let rose : Rose before after = omega (arith, e.1) in
    subst (λ x. TellsMeasure m x (sinks old new before after)) (sym e.0) (rose, inr (refl, grown))

-- a run that came to its end, on disks that were found empty
pub record Loaded (rack : Racks) (l : LoadOptions) (m : Measure) : Type 0 where
  pub start : Desk
  pub last : Desk
  pub begins : Begins rack l.options load_scripts start
  pub before : ℕ
  pub after : ℕ
  pub told : List Report
  pub loads : Loads desk_rules most_steps (source_of l.number) told (spot desk_rules start before) (spot desk_rules last after)
  pub is : m ≡ measure_of most_steps told
  pub left : HoldTheBooks last (shelves_of rack.after).holds
  pub from : rack.before.faults ≤ before
  pub to : after ≤ rack.after.faults

pub loaded_by : (rack : Racks) (l : LoadOptions) (lost_so : Desk → ℕ → Reopen → Type 0) (m : Measure) (start last : Desk) (before after : ℕ) → Begins rack l.options load_scripts start
    → Measures desk_rules lost_so most_steps (source_of l.number) (Ok m) (spot desk_rules start before) (spot desk_rules last after)
    → HoldTheBooks last (shelves_of rack.after).holds → rack.before.faults ≤ before → after ≤ rack.after.faults → Loaded rack l m
loaded_by rack l lost_so m start last before after b h left from to = record {
  start = start;
  last = last;
  begins = b;
  before = before;
  after = after;
  told = h.0;
  loads = h.1;
  is = h.2;
  left = left;
  from = from;
  to = to;
}

-- its transcript
run_is : (l : LoadOptions) (start : Desk) (fates : List Fate) (run : Run desk_rules) → start ≡ desk_for l.options load_scripts
    → run_drawn desk_rules most_steps (source_of l.number) start fates ≡ run → run_loaded l fates ≡ run
run_is l start fates run begun is =
    ap (λ (d : Desk). run_drawn desk_rules most_steps (source_of l.number) d fates) (sym begun) ∙ is

-- its output is its line
output_is : (rack : Racks) (l : LoadOptions) (m : Measure) (p : Loaded rack l m) → loaded l (chances_of l.options p.loads.fates) ≡ told_measure m
output_is rack l m p =
    let whole : List ℕ → Output = λ text. record { text = text; error = []; status = 0 } in
    let run = run_is l p.start p.loads.fates _ p.begins.first p.loads.is in
    ap (λ f. unless_shut f (whole (line_for most_steps (run_loaded l p.loads.fates).told))) (none_unfit l.options.shelves 0)
    ∙ ap (λ (r : Run desk_rules). whole (line_for most_steps r.told)) run
    ∙ ap (λ (x : Measure). whole (summary_text x.tally x.hash)) (sym p.is)

-- the shelves after so many of the steps
loaded_behind : (l : LoadOptions) (start last : Desk) (fates : List Fate) (count : ℕ) (reports : List Report) → count ≤ most_steps
    → start ≡ desk_for l.options load_scripts → run_drawn desk_rules count (source_of l.number) start fates ≡ went desk_rules reports last []
    → IsLoaded l fates last
loaded_behind l start last fates count reports few begun is =
    let run = ap (λ (d : Desk). run_drawn desk_rules count (source_of l.number) d fates) (sym begun) ∙ is in
    record { count = count; few = few; goes_on = ap (λ (r : Run desk_rules). r.end) run; state = ap (λ (r : Run desk_rules). r.state) run }

-- what all steps left
has_loaded : (rack : Racks) (l : LoadOptions) (m : Measure) (p : Loaded rack l m) → HasLoaded rack l (chances_of l.options p.loads.fates)
has_loaded rack l m p =
    let run = run_is l p.start p.loads.fates _ p.begins.first p.loads.is in
    record {
      whole = ap (λ (r : Run desk_rules). r.end) run;
      books = subst (λ (d : Desk). HoldTheBooks d (shelves_of rack.after).holds) (sym (ap (λ (r : Run desk_rules). r.state) run)) p.left;
      counted = have_failed rack p.loads.fates p.before p.after p.from p.loads.risen p.to;
      began = p.begins.began;
    }

pub measure_leaves : (rack : Racks) (l : LoadOptions) (m : Measure) (s : Status) (out : Sinks) → (IsTrue rack.tells → Loaded rack l m)
    → TellsMeasure m s out → HasLeft rack l s out
measure_leaves rack l m status.Done out ran h =
    decided rack.tells (λ chances. GivesLoad rack l chances 0 out × HasLoaded rack l chances) no_chances (λ t. gives (ran t))
  where
    gives : Loaded rack l m → (chances : Chances) × (GivesLoad rack l chances 0 out × HasLoaded rack l chances)
    gives p = (
      chances_of l.options p.loads.fates,
      (
        record {
          answered = subst (λ (o : Output). Answers o 0 out) (sym (output_is rack l m p)) h;
          taken = are_taken rack l.options load_scripts p.start p.begins;
        },
        has_loaded rack l m p,
      ),
    )
measure_leaves rack l m status.Write out ran h =
    let x = decided rack.tells (λ chances. BreaksOff (loaded l chances) out × HasLoaded rack l chances) no_chances (λ t. breaks (ran t)) in
    (x.0, (h.0, x.1))
  where
    breaks : Loaded rack l m → (chances : Chances) × (BreaksOff (loaded l chances) out × HasLoaded rack l chances)
    breaks p = (
      chances_of l.options p.loads.fates,
      (subst (λ (o : Output). BreaksOff o out) (sym (output_is rack l m p)) h.1, has_loaded rack l m p),
    )
measure_leaves rack l m status.Memory out ran h =
    let x = decided rack.tells (λ chances. RemainsLoaded rack l chances IsAny 0) no_chances (λ t. remains (ran t)) in (x.0, (h, x.1))
  where
    remains : Loaded rack l m → (chances : Chances) × RemainsLoaded rack l chances IsAny 0
    remains p = (
      chances_of l.options p.loads.fates,
      (
        performed p.last (λ shelf why. tt) (loaded_behind l p.start p.last p.loads.fates most_steps p.told (omega arith) p.begins.first p.loads.is) p.left p.begins.began,
        have_failed rack p.loads.fates p.before p.after p.from p.loads.risen p.to,
      ),
    )
measure_leaves rack l m s out ran h = absurd h

-- memory ran out
pub memory_leaves : (rack : Racks) (l : LoadOptions) (s : Status) (old new : Option (List ℕ)) (before after : ℕ) → s ≡ status.Memory
    → AppendsUnlessFault old new (codes "error 10 memory\n") before after → (IsTrue rack.tells → (chances : Chances) × RemainsLoaded rack l chances IsAny 0)
    → HasLeft rack l s (sinks old new before after)
memory_leaves rack l s old new before after is line remains =
    let x = decided rack.tells (λ chances. RemainsLoaded rack l chances IsAny 0) no_chances remains in
    subst (λ (x : Status). HasLeft rack l x (sinks old new before after)) (sym is) (x.0, (line, x.1))

-- no step was performed
pub none_loaded : (rack : Racks) (l : LoadOptions) (shelf : ℕ) (why : Reopen) → IsUnopened rack load_scripts shelf why
    → rack.before.faults ≤ rack.after.faults → (chances : Chances) × RemainsLoaded rack l chances IsAny 0
none_loaded rack l shelf why is later =
    (no_chances, (unopened shelf why tt refl is, (let none : count_by is_fault [] ≡ 0 = refl in omega (arith, none, later))))

-- nor was the rack touched
pub untouched : (known : Bool) (rack : RackView) (l : LoadOptions) → (chances : Chances) × RemainsLoaded (racks_of known rack rack) l chances IsAny 0
untouched known rack l =
    none_loaded (racks_of known rack rack) l 0 reopen.Memory
    (record { asked = inr (refl, refl); before = λ k low. absurd (omega (arith, low)); failed = λ e. let no : ⊥ = cc in absurd no; kept = record { kept = λ n but left is. inl is; behind = λ n above left is. is } }) (omega arith)

-- a disk holds something
some_leaves : (rack : Racks) (l : LoadOptions) (shelf : ℕ) (old new : Option (List ℕ)) (before after : ℕ) → (IsTrue rack.tells → HoldsSome rack l.options shelf)
    → (IsTrue rack.tells → AllStayKept load_scripts (shelves_of rack.before).holds (shelves_of rack.after).holds shelf reopen.NotEmpty)
    → AsksForFirst (shelf + 1) rack.before rack.after → AppendsUnlessFault old new (unfit_line shelf not_empty) before after → HasLeft rack l status.Journal (sinks old new before after)
some_leaves rack l shelf old new before after full kept asked line =
    decided rack.tells (λ chances. GivesLoad rack l chances 8 (sinks old new before after) × AreAllKept rack load_scripts (length chances.disks)) no_chances
    (λ t. shut (full t) (kept t))
  where
    shut : HoldsSome rack l.options shelf → AllStayKept load_scripts (shelves_of rack.before).holds (shelves_of rack.after).holds shelf reopen.NotEmpty
        → (chances : Chances) × (GivesLoad rack l chances 8 (sinks old new before after) × AreAllKept rack load_scripts (length chances.disks))
    shut p stay =
        let images : List (List ℕ) = replicate shelf [] ++ (p.byte ∷ p.bytes) ∷ [] in
        let chances : Chances = record { disks = images; fates = [] } in
        let unfit = some_unfit shelf 0 p.byte p.bytes shelf (omega arith) in
        let taken : AreTaken unfit_new (held_anew rack.before) l.options.shelves images = record {
          held = some_held (held_anew rack.before) shelf 0 (p.byte ∷ p.bytes) shelf (omega arith) p.empty p.held;
          all = λ none. absurd (let no : None ≡ Some (shelf, not_empty) = sym none ∙ unfit in cc);
        } in
        let is : loaded l chances ≡ record { text = []; error = unfit_line shelf not_empty; status = 8 } =
        ap (λ f. unless_shut f (record { text = line_for most_steps (run_loaded l []).told; error = []; status = 0 })) unfit in (
          chances,
          (
            record {
              answered = subst (λ (x : Output). Answers x 8 (sinks old new before after)) (sym is)
                  (refl, tells old old new [] (unfit_line shelf not_empty) before after (appends_none old) line);
              taken = taken;
            },
            all_stay rack load_scripts shelf (p.byte ∷ p.bytes) stay asked,
          ),
        )

-- the run did not begin
pub first_leaves : (rack : Racks) (l : LoadOptions) (shelf : ℕ) (why : Reopen) (s : Status) (old new : Option (List ℕ)) (before after : ℕ)
    → (IsTrue rack.tells → IsClosedBy rack.before l.options.shelves shelf why) → (why ≡ reopen.Disk → ShelfFailed rack shelf)
    → (IsTrue rack.tells → AllStayKept load_scripts (shelves_of rack.before).holds (shelves_of rack.after).holds shelf why) → AsksUntil (shelf + 1) shelf rack.before rack.after
    → (why ≡ reopen.NotEmpty → AsksForFirst (shelf + 1) rack.before rack.after) → rack.before.faults ≤ rack.after.faults
    → TellsUnopened shelf why s (sinks old new before after) → HasLeft rack l s (sinks old new before after)
first_leaves rack l shelf why s old new before after closed failed kept asked all later (untold is line) =
    memory_leaves rack l s old new before after is line (λ t. none_loaded rack l shelf why (is_unopened rack load_scripts l.options.shelves shelf why (closed t) failed (kept t) asked) later)
first_leaves rack l shelf reopen.Disk s old new before after closed failed kept asked all later (told line is same p) =
    subst (λ x. HasLeft rack l x (sinks old new before after)) (sym same) (
      no_chances,
      (
        shelf,
        failed refl,
        subst (λ w. AppendsUnlessFault old new w before after) (sym (same_Some _ _ is)) p,
        λ t. (
          at_first,
          (unopened shelf reopen.Disk (refl, refl) refl (is_unopened rack load_scripts l.options.shelves shelf reopen.Disk (closed t) failed (kept t) asked), (let rose = (failed refl).all in let none : count_by is_fault [] ≡ 0 = refl in omega (arith, none, rose))),
        ),
      ),
    )
first_leaves rack l shelf reopen.NotEmpty s old new before after closed failed kept asked all later (told line is same p) =
    subst (λ x. HasLeft rack l x (sinks old new before after)) (sym same)
    (some_leaves rack l shelf old new before after (λ t. holds_some rack l.options shelf (closed t)) kept (all refl) (subst (λ w. AppendsUnlessFault old new w before after) (sym (same_Some _ _ is)) p))
first_leaves rack l shelf (reopen.Damaged place) s old new before after closed failed kept asked all later (told line is same p) =
    subst (λ x. HasLeft rack l x (sinks old new before after)) (sym same) (no_chances, λ t. absurd (closed t))
first_leaves rack l shelf (reopen.Other place) s old new before after closed failed kept asked all later (told line is same p) =
    subst (λ x. HasLeft rack l x (sinks old new before after)) (sym same) (no_chances, λ t. absurd (closed t))
first_leaves rack l shelf (reopen.Full size) s old new before after closed failed kept asked all later (told line is same p) =
    subst (λ x. HasLeft rack l x (sinks old new before after)) (sym same) (no_chances, λ t. absurd (closed t))
first_leaves rack l shelf reopen.Memory s old new before after closed failed kept asked all later (told line is same p) = absurd (let no : None ≡ Some line = is in cc)

-- what was left by it is left after the closing too
unfoldable shelf_with : (left left' : Desk → ℕ → Reopen → Type 0) → ((d : Desk) (k : ℕ) (w : Reopen) → left d k w → left' d k w) → (count : ℕ) (source : Source)
    (shelf : ℕ) (why : Reopen) (s t : Spot desk_rules) → LosesShelf desk_rules left count source shelf why s t → LosesShelf desk_rules left' count source shelf why s t
shelf_with left left' f count source shelf why s t p = record {
  done = p.done;
  few = p.few;
  told = p.told;
  middle = p.middle;
  loads = p.loads;
  later = p.later;
  stands = f p.middle.state shelf why p.stands;
  next = p.next;
}

-- from this desk on a run came to a crash after which the shelf was not opened, for this
pub record LosesLoad (rack : Racks) (l : LoadOptions) (shelf : ℕ) (why : Reopen) (before : ℕ) (left : Spot desk_rules) (start : Desk) : Type 0 where
  pub loses : LosesShelf desk_rules (IsLeft rack.after) most_steps (source_of l.number) shelf why (spot desk_rules start before) left
  pub rose : why ≡ reopen.Disk → Rose loses.middle.faults left.faults

-- no journal of a desk is too long
abbrev pub AreShort : Desk → Type 0
AreShort d = (k : ℕ) (s : Shelf) → slice_get d.shelves k ≡ Some s → s.book.length ≤ 2 ^ 30

pub record LostLoad (rack : Racks) (l : LoadOptions) (shelf : ℕ) (why : Reopen) : Type 0 where
  pub start : Desk
  pub left : Spot desk_rules
  pub begins : Begins rack l.options load_scripts start
  pub short : AreShort start
  pub some : 0 < l.options.shelves
  pub before : ℕ
  pub loses : LosesLoad rack l shelf why before left start
  pub from : rack.before.faults ≤ before
  pub to : left.faults ≤ rack.after.faults

module _ (rack : Racks) (l : LoadOptions) (left : Desk → ℕ → Reopen → Type 0) (f : (d : Desk) (k : ℕ) (w : Reopen) → left d k w → IsLeft rack.after d k w) where
  -- it was lost for another cause than its disk
  lost_else : (shelf : ℕ) (why : Reopen) (start : Desk) (before : ℕ) (t : Spot desk_rules) → (why ≡ reopen.Disk → ⊥)
      → LosesShelf desk_rules left most_steps (source_of l.number) shelf why (spot desk_rules start before) t → LosesLoad rack l shelf why before t start
  unfolding shelf_with
  lost_else shelf why start before t not h = record {
    loses = shelf_with left (IsLeft rack.after) f most_steps (source_of l.number) shelf why (spot desk_rules start before) t h;
    rose = λ e. absurd (not e);
  }

  loses_by : (shelf : ℕ) (why : Reopen) (start : Desk) (before : ℕ) (t : Spot desk_rules)
      → Measures desk_rules left most_steps (source_of l.number) (Err (halt.Reopen shelf why)) (spot desk_rules start before) t
      → LosesLoad rack l shelf why before t start
  unfolding shelf_with
  loses_by shelf reopen.Disk start before t h =
      record { loses = shelf_with left (IsLeft rack.after) f most_steps (source_of l.number) shelf reopen.Disk (spot desk_rules start before) t h.loses; rose = λ e. h.rose }
  loses_by shelf reopen.NotEmpty start before t h = lost_else shelf reopen.NotEmpty start before t (λ e. let no : ⊥ = cc e in no) h
  loses_by shelf (reopen.Damaged place) start before t h = lost_else shelf (reopen.Damaged place) start before t (λ e. let no : ⊥ = cc e in no) h
  loses_by shelf (reopen.Other place) start before t h = lost_else shelf (reopen.Other place) start before t (λ e. let no : ⊥ = cc e in no) h
  loses_by shelf (reopen.Full size) start before t h = lost_else shelf (reopen.Full size) start before t (λ e. let no : ⊥ = cc e in no) h
  loses_by shelf reopen.Memory start before t h = absurd h

-- what remains after it
remains_lost : (rack : Racks) (l : LoadOptions) (shelf : ℕ) (why : Reopen) (q : LostLoad rack l shelf why) → (x : (fates : List Fate)
    × (last : Desk) × IsLostBehind rack l (chances_of l.options fates) shelf why last × IsLeft rack.after last shelf why)
    × (HaveFailed rack x.0 0 × (why ≡ reopen.Disk → HaveFailed rack x.0 1))
remains_lost rack l shelf why q =
    let p = subst (LosesLoad rack l shelf why q.before q.left) q.begins.first q.loses in
    let loads = p.loses.loads in
    let later = p.loses.later in
    let to = q.to in (
      (
        loads.fates,
        p.loses.middle.state,
        record { faults = q.before; left = q.left; lost = p.loses; fates = refl; state = refl },
        p.loses.stands,
      ),
      (
        have_failed rack loads.fates q.before p.loses.middle.faults q.from loads.risen (omega (arith, later, to)),
        λ e. have_failed_once rack loads.fates q.before p.loses.middle.faults q.left.faults q.from loads.risen (p.rose e) to,
      ),
    )

pub lost_by : (rack : Racks) (l : LoadOptions) (left : Desk → ℕ → Reopen → Type 0) → ((d : Desk) (k : ℕ) (w : Reopen) → left d k w → IsLeft rack.after d k w) → (shelf : ℕ) (why : Reopen) (start last : Desk) (before after : ℕ) → Begins rack l.options load_scripts start → AreShort start → 0 < l.options.shelves
    → Measures desk_rules left most_steps (source_of l.number) (Err (halt.Reopen shelf why)) (spot desk_rules start before) (spot desk_rules last after)
    → rack.before.faults ≤ before → after ≤ rack.after.faults → LostLoad rack l shelf why
lost_by rack l left f shelf why start last before after b short some h from to = record {
  start = start;
  left = spot desk_rules last after;
  begins = b;
  short = short;
  some = some;
  before = before;
  loses = loses_by rack l left f shelf why start before (spot desk_rules last after) h;
  from = from;
  to = to;
}

-- the same of a result that is this error
pub lost_if : (rack : Racks) (l : LoadOptions) (left : Desk → ℕ → Reopen → Type 0) → ((d : Desk) (k : ℕ) (w : Reopen) → left d k w → IsLeft rack.after d k w) → (shelf : ℕ) (why : Reopen) (result : Result Measure Halt) (start last : Desk) (before after : ℕ)
    → result ≡ Err (halt.Reopen shelf why) → Begins rack l.options load_scripts start → AreShort start → 0 < l.options.shelves
    → Measures desk_rules left most_steps (source_of l.number) result (spot desk_rules start before) (spot desk_rules last after)
    → rack.before.faults ≤ before → after ≤ rack.after.faults → LostLoad rack l shelf why
lost_if rack l left f shelf why result start last before after is b short some h from to =
    lost_by rack l left f shelf why start last before after b short some
    (subst (λ (r : Result Measure Halt). Measures desk_rules left most_steps (source_of l.number) r (spot desk_rules start before) (spot desk_rules last after)) is h)
    from to

-- memory ran out, after some of the steps
pub short_load : (rack : Racks) (l : LoadOptions) (left : Desk → ℕ → Reopen → Type 0) → ((d : Desk) (k : ℕ) (w : Reopen) → left d k w → IsLeft rack.after d k w) → (start last : Desk) (before after : ℕ) → Begins rack l.options load_scripts start → AreShort start → 0 < l.options.shelves
    → Measures desk_rules left most_steps (source_of l.number) (Err halt.Memory) (spot desk_rules start before) (spot desk_rules last after)
    → HoldTheBooks last (shelves_of rack.after).holds → rack.before.faults ≤ before → after ≤ rack.after.faults → (chances : Chances) × RemainsLoaded rack l chances IsAny 0
short_load rack l left f start last before after b short some (inl h) books from to = (
  chances_of l.options h.loads.fates,
  (
    performed last (λ shelf why. tt) (loaded_behind l start last h.loads.fates h.done h.told h.few b.first h.loads.is) books b.began,
    have_failed rack h.loads.fates before after from h.loads.risen to,
  ),
)
short_load rack l left f start last before after b short some (inr (shelf, h)) books from to =
    let q : LostLoad rack l shelf reopen.Memory = record {
      start = start;
      left = spot desk_rules last after;
      begins = b;
      short = short;
      some = some;
      before = before;
      loses = record {
        loses = shelf_with left (IsLeft rack.after) f most_steps (source_of l.number) shelf reopen.Memory (spot desk_rules start before) (spot desk_rules last after) h;
        rose = λ e. absurd (let no : ⊥ = cc e in no);
      };
      from = from;
      to = to;
    } in
    let x = remains_lost rack l shelf reopen.Memory q in (chances_of l.options x.0.0, (lost shelf reopen.Memory x.0.1 tt x.0.2 x.0.3 q.begins.began, x.1.0))

-- the same of a result that is that
pub short_if : (rack : Racks) (l : LoadOptions) (left : Desk → ℕ → Reopen → Type 0) → ((d : Desk) (k : ℕ) (w : Reopen) → left d k w → IsLeft rack.after d k w) → (result : Result Measure Halt) (start last : Desk) (before after : ℕ) → result ≡ Err halt.Memory
    → Begins rack l.options load_scripts start → AreShort start → 0 < l.options.shelves
    → Measures desk_rules left most_steps (source_of l.number) result (spot desk_rules start before) (spot desk_rules last after)
    → HoldTheBooks last (shelves_of rack.after).holds → rack.before.faults ≤ before → after ≤ rack.after.faults → (chances : Chances) × RemainsLoaded rack l chances IsAny 0
short_if rack l left f result start last before after is b short some h books from to =
    short_load rack l left f start last before after b short some
    (subst (λ (r : Result Measure Halt). Measures desk_rules left most_steps (source_of l.number) r (spot desk_rules start before) (spot desk_rules last after)) is h)
    books from to

-- its error
pub error_is : (result : Result Measure Halt) (shelf : ℕ) (why other : Reopen) → result ≡ Err (halt.Reopen shelf why) → why ≡ other
    → IsErrOf result (halt.Reopen shelf other)
error_is result shelf why other is e =
    let made : Reopen → Result Measure Halt = λ w. Err (halt.Reopen shelf w) in is ∙ ap made e

-- no shelf of a measured run is without room for its setup, which no step changes
never_full : (rack : Racks) (l : LoadOptions) (shelf size : ℕ) → LostLoad rack l shelf (reopen.Full size) → ⊥
never_full rack l shelf size q =
    let p = q.loses.loses in
    let first = first_roomy (rules_for l.options) load_scripts l.options.shelves q.start q.begins.first q.short in
    let last = subst (IsRoomy load_scripts l.options.shelves) (ap (λ (r : Run desk_rules). r.state) p.loads.is)
    (drawn_roomy load_scripts l.options.shelves p.done (source_of l.number) q.start p.loads.fates first) in
    let one : p.done + 1 ≡ suc p.done = omega arith in
    let next = subst (λ n. steps_drawn desk_rules n (source_of l.number) q.start p.loads.fates
    ≡ steps_drawn desk_rules p.done (source_of l.number) q.start p.loads.fates ++ crash shelf ∷ []) one p.next in
    let low = last_within load_scripts l.options.shelves p.done (source_of l.number) q.start p.loads.fates shelf q.some first next in
    let s = get_there p.middle.state.shelves shelf (let many = last.many in omega (arith, low, many)) in
    no_overflow load_scripts l.options.shelves rack.after p.middle.state shelf size s.0 last s.1 p.stands

-- what is told of that
abbrev LosesTold : (rack : Racks) (l : LoadOptions) (k : ℕ) → Chances → Type 0
LosesTold rack l k chances = IsLost rack l chances k × RemainsLoaded rack l chances (IsFailed k) 1

-- a shelf was not opened again
pub again_leaves : (rack : Racks) (l : LoadOptions) (shelf : ℕ) (why : Reopen) (s : Status) (old new : Option (List ℕ)) (before after : ℕ)
    → (IsTrue rack.tells → LostLoad rack l shelf why) → (why ≡ reopen.Disk → ShelfFailed rack shelf) → (why ≡ reopen.NotEmpty → ⊥)
    → (IsTrue rack.tells → (place : ℕ) → why ≡ reopen.Damaged place → ⊥)
    → (IsTrue rack.tells → (place : ℕ) → why ≡ reopen.Other place → ⊥) → TellsUnopened shelf why s (sinks old new before after)
    → HasLeft rack l s (sinks old new before after)
again_leaves rack l shelf why s old new before after lost_so failed bytes damaged other (untold is line) =
    memory_leaves rack l s old new before after is line
    (λ t.
    let q = lost_so t in
    let x = remains_lost rack l shelf why q in (chances_of l.options x.0.0, (lost shelf why x.0.1 tt x.0.2 x.0.3 q.begins.began, x.1.0)))
again_leaves rack l shelf reopen.Disk s old new before after lost_so failed bytes damaged other (told line is same p) =
    subst (λ x. HasLeft rack l x (sinks old new before after)) (sym same) (x.0, (shelf, failed refl, shown, x.1))
  where
    shown : AppendsUnlessFault old new (disk_line shelf) before after
    shown = subst (λ w. AppendsUnlessFault old new w before after) (sym (same_Some _ _ is)) p

    here : LostLoad rack l shelf reopen.Disk → (chances : Chances) × LosesTold rack l shelf chances
    here q =
        let x = remains_lost rack l shelf reopen.Disk q in
        (chances_of l.options x.0.0, (at_crash x.0.1 x.0.2, (lost shelf reopen.Disk x.0.1 (refl, refl) x.0.2 x.0.3 q.begins.began, x.1.1 refl)))

    x : (chances : Chances) × (IsTrue rack.tells → LosesTold rack l shelf chances)
    x = decided rack.tells (LosesTold rack l shelf) no_chances (λ t. here (lost_so t))
again_leaves rack l shelf reopen.NotEmpty s old new before after lost_so failed bytes damaged other (told line is same p) = absurd (bytes refl)
again_leaves rack l shelf (reopen.Damaged place) s old new before after lost_so failed bytes damaged other (told line is same p) =
    subst (λ x. HasLeft rack l x (sinks old new before after)) (sym same) (no_chances, λ t. absurd (damaged t place refl))
again_leaves rack l shelf (reopen.Other place) s old new before after lost_so failed bytes damaged other (told line is same p) =
    subst (λ x. HasLeft rack l x (sinks old new before after)) (sym same) (no_chances, λ t. absurd (other t place refl))
again_leaves rack l shelf (reopen.Full size) s old new before after lost_so failed bytes damaged other (told line is same p) =
    subst (λ x. HasLeft rack l x (sinks old new before after)) (sym same) (no_chances, λ t. absurd (never_full rack l shelf size (lost_so t)))
again_leaves rack l shelf reopen.Memory s old new before after lost_so failed bytes damaged other (told line is same p) =
    absurd (let no : None ≡ Some line = is in cc)

-- its steps are events
pub loads_events : TranscriptsAreRuns → (l : LoadOptions) (fates : List Fate) → LoadsEvents l fates
loads_events law l fates =
    let d = desk_for l.options load_scripts in
    let x = law d 1 (map Some (steps_drawn desk_rules most_steps (source_of l.number) d fates)) fates in
    record { replies = x.0; run = x.1 }
