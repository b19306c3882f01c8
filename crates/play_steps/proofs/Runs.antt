-- A run, step after step.
use Rattle.std.proofs.Common.{◌≡◌, ◌+◌, ◌++◌, ℕ, List, [], ◌∷◌, Option, Some, None, true, false, if◌then◌else◌, append_assoc, append-nil, Bool, ⊎_elim, inl, inr, sym, ap, ◌∙◌, refl, subst}
use Rattle.std.specs.Prelude.{is_some, unwrap_or}
use Rattle.std.specs.Io.KnownBytes.{Appends}
use Rattle.web_outside.specs.Pieces.{AppendsPart}
use Rattle.web_outside.proofs.Writes.{appends_none, appends_then, longer_part, whole_part}
use Rattle.play_steps.specs.Rules.{StageRules}
use Rattle.play_steps.specs.Step.{Step, take, publish, get, tick, crash, compact, edit, crash_edited, is_told, lines_in, with_crashes}
use Rattle.play_steps.specs.Texts.{report_text, print}
use Rattle.play_steps.specs.Transcript.{Run, went, stopped, behind, goes_on, done, bad_line, transcript, fits, performed, text_of}
use Rattle.play_steps.specs.Played.{Scene, Spot, HasRisen, Crashed, Goes, Plays, Halts, Loses, Waits, HaltsBy, IsUntried, Stops, Turns, TurnsEdit, Leaves, end_of}
use Rattle.play_steps.specs.declared.report.Report.{Report}
use Rattle.play_steps.specs.declared.stage.Reopen.{Reopen}
use Rattle.play_steps.specs.declared.stage.Reopen.TheVariants as reopen
use Rattle.play_steps.specs.declared.run.Turn.{Turn}
use Rattle.play_steps.specs.declared.run.Turn.TheVariants as turns
use Rattle.play_steps.specs.declared.performing.Halt.{Halt}
use Rattle.play_steps.specs.declared.performing.Halt.TheVariants as halt
use Rattle.play_steps.proofs.Risings.{stays_risen, rises_then}

-- reports, and then a run after others
pub joined : (r : StageRules) (told more : List Report) (run : Run r) → behind r told (behind r more run) ≡ behind r (told ++ more) run
joined r told more run =
    ap (λ w. record { told = w; end = run.end; state = run.state; fates = run.fates }) (sym (append_assoc told more run.told))

-- reports are printed one after another
pub print_joined : (told more : List Report) → print (told ++ more) ≡ print told ++ print more
print_joined [] more = refl
print_joined (x ∷ told) more =
    ap (λ w. report_text x ++ w) (print_joined told more) ∙ sym (append_assoc (report_text x) (print told) (print more))

-- the sink grew by what these reports print, and the run goes on from there
pub record Reached (r : StageRules) (all : List (Option Step)) (start here : Scene r) (number : ℕ) (left : List (Option Step)) : Type 0 where
  pub front : List (Option Step)
  pub cut : all ≡ front ++ left
  pub fates : List r.Fate
  pub told : List Report
  pub written : Appends start.written here.written (print told)
  pub is : (rest : List (Option Step)) (later : List r.Fate)
      → transcript r start.spot.state 1 (front ++ rest) (fates ++ later) ≡ behind r told (transcript r here.spot.state number rest later)
  pub risen : HasRisen r fates start.spot.faults here.spot.faults

pub begin : (r : StageRules) (all : List (Option Step)) (start : Scene r) → Reached r all start start 1 all
begin r all start =
    record {
      front = [];
      cut = refl;
      fates = [];
      told = [];
      written = appends_none start.written;
      is = λ rest later. refl;
      risen = stays_risen r start.spot.faults;
    }

-- one step of a run
pub one : (r : StageRules) (s t : Spot r) (number : ℕ) (step : Step) (rest : List (Option Step)) (told : List Report)
    (g : Goes r step told s t) (later : List r.Fate)
    → transcript r s.state number (Some step ∷ rest) (g.came.fates ++ later)
    ≡ behind r told (transcript r t.state (number + lines_in step) rest later)
unfolding transcript
one r s t number step rest told g later =
    let next : Run r → Run r = λ x. goes_on r x.end x (transcript r x.state (number + lines_in step) rest x.fates) in
    ap (λ b. if b then next (performed r step s.state (g.came.fates ++ later)) else stopped r number s.state (g.came.fates ++ later)) g.fitting
    ∙ ap next (g.came.is later)

-- the steps so far and one more
more : (r : StageRules) (all : List (Option Step)) (start here : Scene r) (t : Spot r) (number : ℕ) (step : Step)
    (left : List (Option Step)) (told : List Report) (g : Goes r step told here.spot t)
    (reached : Reached r all start here number (Some step ∷ left)) (rest : List (Option Step)) (later : List r.Fate)
    → transcript r start.spot.state 1 ((reached.front ++ Some step ∷ []) ++ rest) ((reached.fates ++ g.came.fates) ++ later)
    ≡ behind r (reached.told ++ told) (transcript r t.state (number + lines_in step) rest later)
more r all start here t number step left told g reached rest later =
    ap (λ steps. transcript r start.spot.state 1 steps ((reached.fates ++ g.came.fates) ++ later)) (append_assoc reached.front (Some step ∷ []) rest)
    ∙ ap (transcript r start.spot.state 1 (reached.front ++ Some step ∷ rest)) (append_assoc reached.fates g.came.fates later)
    ∙ reached.is (Some step ∷ rest) (g.came.fates ++ later)
    ∙ ap (behind r reached.told) (one r here.spot t number step rest told g later)
    ∙ joined r reached.told told (transcript r t.state (number + lines_in step) rest later)

-- what was written so far, and what is written after it
pub both_written : (r : StageRules) (start here there : Scene r) (told : List Report) (more : List ℕ)
    → Appends start.written here.written (print told) → Appends here.written there.written more
    → Appends start.written there.written (print told ++ more)
both_written r start here there told more one two =
    appends_then start.written here.written there.written (print told) more one two

pub one_more : (r : StageRules) (all : List (Option Step)) (start here there : Scene r) (number : ℕ) (step : Step)
    (left : List (Option Step)) (told : List Report) → Goes r step told here.spot there.spot
    → Reached r all start here number (Some step ∷ left) → Appends here.written there.written (print told)
    → Reached r all start there (number + lines_in step) left
one_more r all start here there number step left told g reached written = record {
  front = reached.front ++ Some step ∷ [];
  cut = reached.cut ∙ sym (append_assoc reached.front (Some step ∷ []) left);
  fates = reached.fates ++ g.came.fates;
  told = reached.told ++ told;
  written = subst (Appends start.written there.written) (sym (print_joined reached.told told))
      (both_written r start here there reached.told (print told) reached.written written);
  is = more r all start here there.spot number step left told g reached;
  risen = rises_then r reached.fates g.came.fates start.spot.faults here.spot.faults there.spot.faults reached.risen g.came.risen;
}

pub over : (r : StageRules) (s : r.State) (number : ℕ) (fates : List r.Fate) → transcript r s number [] fates ≡ went r [] s fates
unfolding transcript
over r s number fates = refl

no_step : (r : StageRules) (s : r.State) (number : ℕ) (left : List (Option Step)) (fates : List r.Fate)
    → transcript r s number (None ∷ left) fates ≡ stopped r number s fates
unfolding transcript
no_step r s number left fates = refl

no_fit : (r : StageRules) (s : r.State) (number : ℕ) (step : Step) (left : List (Option Step)) (fates : List r.Fate)
    → fits r step s ≡ false → transcript r s number (Some step ∷ left) fates ≡ stopped r number s fates
unfolding transcript
no_fit r s number step left fates h = rw h refl

-- fates to which none are added
none_more : (r : StageRules) (s : r.State) (steps : List (Option Step)) (fates : List r.Fate)
    → transcript r s 1 steps fates ≡ transcript r s 1 steps (fates ++ [])
none_more r s steps fates = ap (transcript r s 1 steps) (sym (append-nil fates))

-- reports, and then none
alone : (r : StageRules) (told : List Report) (run : Run r) → run.told ≡ []
    → behind r told run ≡ record { told = told; end = run.end; state = run.state; fates = run.fates }
alone r told run e =
    ap (λ w. record { told = w; end = run.end; state = run.state; fates = run.fates }) (ap (λ w. told ++ w) e ∙ append-nil told)

-- the whole run, where what is left gives a run that tells nothing
rest_is : (r : StageRules) (all : List (Option Step)) (start here : Scene r) (number : ℕ) (left : List (Option Step))
    (reached : Reached r all start here number left) (run : Run r) → run.told ≡ [] → transcript r here.spot.state number left [] ≡ run
    → transcript r start.spot.state 1 all reached.fates ≡ record { told = reached.told; end = run.end; state = run.state; fates = run.fates }
rest_is r all start here number left reached run silent e =
    none_more r start.spot.state all reached.fates
    ∙ ap (λ steps. transcript r start.spot.state 1 steps (reached.fates ++ [])) reached.cut
    ∙ reached.is left [] ∙ ap (behind r reached.told) e ∙ alone r reached.told run silent

pub at_end : (r : StageRules) (all : List (Option Step)) (start here : Scene r) (number : ℕ)
    → Reached r all start here number [] → Plays r all done start here
at_end r all start here number reached = record {
  fates = reached.fates;
  told = reached.told;
  is = rest_is r all start here number [] reached (went r [] here.spot.state []) refl (over r here.spot.state number []);
  written = reached.written;
  risen = reached.risen;
}

stands : (r : StageRules) (all : List (Option Step)) (start here : Scene r) (number : ℕ) (left : List (Option Step))
    → transcript r here.spot.state number left [] ≡ stopped r number here.spot.state []
    → Reached r all start here number left → Plays r all (bad_line number) start here
stands r all start here number left is reached = record {
  fates = reached.fates;
  told = reached.told;
  is = rest_is r all start here number left reached (stopped r number here.spot.state []) refl is;
  written = reached.written;
  risen = reached.risen;
}

pub at_line : (r : StageRules) (all : List (Option Step)) (start here : Scene r) (number : ℕ) (left : List (Option Step))
    → Reached r all start here number (None ∷ left) → Plays r all (bad_line number) start here
at_line r all start here number left = stands r all start here number (None ∷ left) (no_step r here.spot.state number left [])

pub at_step : (r : StageRules) (all : List (Option Step)) (start here : Scene r) (number : ℕ) (step : Step)
    (left : List (Option Step)) → fits r step here.spot.state ≡ false
    → Reached r all start here number (Some step ∷ left) → Plays r all (bad_line number) start here
at_step r all start here number step left h =
    stands r all start here number (Some step ∷ left) (no_fit r here.spot.state number step left [] h)

-- the steps so far, alone
pub so_far : (r : StageRules) (all : List (Option Step)) (start here : Scene r) (number : ℕ) (left : List (Option Step))
    (reached : Reached r all start here number left)
    → transcript r start.spot.state 1 reached.front reached.fates ≡ went r reached.told here.spot.state []
so_far r all start here number left reached =
    none_more r start.spot.state reached.front reached.fates
    ∙ ap (λ steps. transcript r start.spot.state 1 steps (reached.fates ++ [])) (sym (append-nil reached.front))
    ∙ reached.is [] [] ∙ ap (behind r reached.told) (over r here.spot.state number [])
    ∙ alone r reached.told (went r [] here.spot.state []) refl

-- the steps so far alone, whatever fates stand after theirs
pub front_only : (r : StageRules) (all : List (Option Step)) (start here : Scene r) (number : ℕ) (left : List (Option Step))
    (reached : Reached r all start here number left) (later : List r.Fate)
    → transcript r start.spot.state 1 reached.front (reached.fates ++ later) ≡ went r reached.told here.spot.state later
front_only r all start here number left reached later =
    ap (λ steps. transcript r start.spot.state 1 steps (reached.fates ++ later)) (sym (append-nil reached.front))
    ∙ reached.is [] later ∙ ap (behind r reached.told) (over r here.spot.state number later)
    ∙ alone r reached.told (went r [] here.spot.state later) refl

-- and with one more
pub with_next : (r : StageRules) (all : List (Option Step)) (start here : Scene r) (t : Spot r) (number : ℕ) (step : Step)
    (left : List (Option Step)) (told : List Report) (g : Goes r step told here.spot t)
    (reached : Reached r all start here number (Some step ∷ left))
    → transcript r start.spot.state 1 (reached.front ++ Some step ∷ []) (reached.fates ++ g.came.fates) ≡ went r (reached.told ++ told) t.state []
with_next r all start here t number step left told g reached =
    none_more r start.spot.state (reached.front ++ Some step ∷ []) (reached.fates ++ g.came.fates)
    ∙ ap (λ steps. transcript r start.spot.state 1 steps ((reached.fates ++ g.came.fates) ++ [])) (sym (append-nil (reached.front ++ Some step ∷ [])))
    ∙ more r all start here t number step left told g reached [] []
    ∙ ap (behind r (reached.told ++ told)) (over r t.state (number + lines_in step) [])
    ∙ alone r (reached.told ++ told) (went r [] t.state []) refl

-- the transcript of all begins with the text of the steps so far and of the next
pub begins : (r : StageRules) (all : List (Option Step)) (start here : Scene r) (t : Spot r) (number : ℕ) (step : Step)
    (left : List (Option Step)) (told : List Report) (g : Goes r step told here.spot t)
    (reached : Reached r all start here number (Some step ∷ left))
    → text_of (transcript r start.spot.state 1 all (reached.fates ++ g.came.fates))
    ≡ (print reached.told ++ print told) ++ text_of (transcript r t.state (number + lines_in step) left [])
begins r all start here t number step left told g reached =
    let later = transcript r t.state (number + lines_in step) left [] in
    ap (λ (x : Run r). print x.told)
    (none_more r start.spot.state all (reached.fates ++ g.came.fates)
    ∙ ap (λ steps. transcript r start.spot.state 1 steps ((reached.fates ++ g.came.fates) ++ []))
    (reached.cut ∙ sym (append_assoc reached.front (Some step ∷ []) left))
    ∙ more r all start here t number step left told g reached left [])
    ∙ print_joined (reached.told ++ told) later.told
    ∙ ap (λ w. w ++ print later.told) (print_joined reached.told told)

-- the run halted after this front of the text of the next step
unfoldable pub halted : (r : StageRules) (all : List (Option Step)) (start here there : Scene r) (number : ℕ) (step : Step)
    (left : List (Option Step)) (told : List Report) → Goes r step told here.spot there.spot
    → Reached r all start here number (Some step ∷ left)
    → (shown hidden : List ℕ) → print told ≡ shown ++ hidden → Appends here.written there.written shown
    → Halts r all shown start there
halted r all start here there number step left told g reached shown hidden split written =
    let whole = both_written r start here there reached.told shown reached.written written in
    let later = text_of (transcript r there.spot.state (number + lines_in step) left []) in
    let text = begins r all start here there.spot number step left told g reached
    ∙ ap (λ w. (print reached.told ++ w) ++ later) split
    ∙ ap (λ w. w ++ later) (sym (append_assoc (print reached.told) shown hidden)) in
    record {
      front = reached.front;
      step = step;
      rest = left;
      cut = reached.cut;
      fates = reached.fates;
      told = reached.told;
      middle = here.spot;
      is = front_only r all start here number (Some step ∷ left) reached;
      fitting = g.fitting;
      last = told;
      came = g.came;
      reached = with_next r all start here there.spot number step left told g reached;
      risen = rises_then r reached.fates g.came.fates start.spot.faults here.spot.faults there.spot.faults reached.risen g.came.risen;
      hidden = hidden;
      split = split;
      written = whole;
      part = subst (AppendsPart start.written there.written) (sym text)
          (longer_part start.written there.written ((print reached.told ++ shown) ++ hidden) later
          (longer_part start.written there.written (print reached.told ++ shown) hidden
          (whole_part start.written there.written (print reached.told ++ shown) whole)));
      later = later;
      all = text ∙ append_assoc (print reached.told ++ shown) hidden later;
    }

-- the run lost a shelf, which crashed
pub lost : (r : StageRules) (left_of : r.State → ℕ → Reopen → Type 0) (all : List (Option Step)) (start here there : Scene r) (number : ℕ) (step : Step)
    (shelf : ℕ) (why : Reopen) (left : List (Option Step)) → Crashed r left_of step shelf why here.spot there.spot → fits r step here.spot.state ≡ true
    → Reached r all start here number (Some step ∷ left) → there.written ≡ here.written → Loses r left_of all shelf why start there
lost r left_of all start here there number step shelf why left is fitting reached same = record {
  front = reached.front;
  step = step;
  rest = left;
  cut = reached.cut;
  crashed = is.0;
  fates = reached.fates;
  told = reached.told;
  middle = here.spot;
  is = so_far r all start here number (Some step ∷ left) reached;
  risen = reached.risen;
  later = is.1;
  fitting = fitting;
  stands = is.2;
  written = subst (λ w. Appends start.written w (print reached.told)) (sym same) reached.written;
}

-- the run halted at a step that fits, of which nothing was told
halts : (r : StageRules) (left_of : r.State → ℕ → Reopen → Type 0) (all : List (Option Step)) (start here there : Scene r) (number : ℕ) (step : Step)
    (left : List (Option Step)) (why : Halt) → fits r step here.spot.state ≡ true → HaltsBy r left_of step why here.spot there.spot
    → there.written ≡ here.written → Reached r all start here number (Some step ∷ left) → Leaves r left_of all (end_of why) start there
unfolding lost
halts r left_of all start here there number step left halt.Memory fitting by same reached =
    ⊎_elim
    (λ tells.
    let nothing = subst (λ w. Appends here.written w []) (sym same) (appends_none here.written) in
    inl (halted r all start here there number step left tells.0 (record { fitting = fitting; came = tells.1 }) reached [] (print tells.0) refl nothing))
    (λ crashes. inr (inl (crashes.0, lost r left_of all start here there number step crashes.0 reopen.Memory left crashes.1 fitting reached same))) by
halts r left_of all start here there number step left (halt.Reopen shelf reopen.Memory) fitting by same reached = absurd by
halts r left_of all start here there number step left (halt.Reopen shelf reopen.Disk) fitting by same reached =
    record { loses = lost r left_of all start here there number step shelf reopen.Disk left by.0 fitting reached same; rose = by.1 }
halts r left_of all start here there number step left (halt.Reopen shelf reopen.NotEmpty) fitting by same reached =
    lost r left_of all start here there number step shelf reopen.NotEmpty left by fitting reached same
halts r left_of all start here there number step left (halt.Reopen shelf (reopen.Damaged place)) fitting by same reached =
    lost r left_of all start here there number step shelf (reopen.Damaged place) left by fitting reached same
halts r left_of all start here there number step left (halt.Reopen shelf (reopen.Other place)) fitting by same reached =
    lost r left_of all start here there number step shelf (reopen.Other place) left by fitting reached same
halts r left_of all start here there number step left (halt.Reopen shelf (reopen.Full len)) fitting by same reached =
    lost r left_of all start here there number step shelf (reopen.Full len) left by fitting reached same

-- the run came to an edit that was not tried
waits : (r : StageRules) (all : List (Option Step)) (start here there : Scene r) (number : ℕ) (name text : List ℕ) (left : List (Option Step))
    → there.spot ≡ here.spot → there.written ≡ here.written → Reached r all start here number (Some (edit name text) ∷ left) → Waits r all start there
waits r all start here there number name text left still same reached = record {
  front = reached.front;
  name = name;
  text = text;
  rest = left;
  cut = reached.cut;
  fates = reached.fates;
  told = reached.told;
  is = so_far r all start here number (Some (edit name text) ∷ left) reached ∙ ap (λ (x : Spot r). went r reached.told x.state []) (sym still);
  risen = subst (λ (x : Spot r). HasRisen r reached.fates start.spot.faults x.faults) (sym still) reached.risen;
  written = subst (λ w. Appends start.written w (print reached.told)) (sym same) reached.written;
}

untried : (r : StageRules) (left_of : r.State → ℕ → Reopen → Type 0) (all : List (Option Step)) (start here there : Scene r) (number : ℕ) (step : Step)
    (left : List (Option Step)) (why : Halt) → IsUntried r step why here.spot there.spot
    → there.written ≡ here.written → Reached r all start here number (Some step ∷ left) → Leaves r left_of all (end_of why) start there
untried r left_of all start here there number (edit name text) left halt.Memory is same reached =
    inr (inr (waits r all start here there number name text left is same reached))
untried r left_of all start here there number (edit name text) left (halt.Reopen shelf why) is same reached = absurd is
untried r left_of all start here there number (take worker target) left why is same reached = absurd is
untried r left_of all start here there number (publish worker) left why is same reached = absurd is
untried r left_of all start here there number (get worker target) left why is same reached = absurd is
untried r left_of all start here there number (tick time) left why is same reached = absurd is
untried r left_of all start here there number (crash shelf) left why is same reached = absurd is
untried r left_of all start here there number (compact shelf) left why is same reached = absurd is
untried r left_of all start here there number (crash_edited shelf) left why is same reached = absurd is

-- the run stopped at a step, of which nothing was told
pub stops : (r : StageRules) (left_of : r.State → ℕ → Reopen → Type 0) (all : List (Option Step)) (start here there : Scene r) (number : ℕ) (step : Step)
    (left : List (Option Step)) (why : Halt) → Stops r left_of step why here.spot there.spot
    → there.written ≡ here.written → Reached r all start here number (Some step ∷ left) → Leaves r left_of all (end_of why) start there
stops r left_of all start here there number step left why (inl (fitting, by)) same reached =
    halts r left_of all start here there number step left why fitting by same reached
stops r left_of all start here there number step left why (inr is) same reached =
    untried r left_of all start here there number step left why is same reached

-- what an edit came to is what the step came to
pub edit_turns : (r : StageRules) (left_of : r.State → ℕ → Reopen → Type 0) (name text : List ℕ) (turn : Turn) (before after : Scene r)
    → TurnsEdit r name text turn before.spot after.spot → after.written ≡ before.written → Turns r left_of (edit name text) turn before after
edit_turns r left_of name text turns.Went before after is same =
    let fates : List r.Fate = [] in (
      [],
      record {
        fitting = ap is_some is.0;
        came = record {
          fates = fates;
          is = λ later. ap (λ (o : Option r.State). went r [] (unwrap_or o before.spot.state) later) is.0;
          risen = subst (λ n. HasRisen r fates before.spot.faults n) (sym is.1) (stays_risen r before.spot.faults);
        };
      },
      subst (λ w. Appends before.written w []) (sym same) (appends_none before.written),
    )
edit_turns r left_of name text turns.NoFit before after is same = (ap is_some is.0, λ at. record { written = same at; spot = is.1 at })
edit_turns r left_of name text turns.Write before after is same = absurd is
edit_turns r left_of name text (turns.Halted halt.Memory) before after is same = (inr is, same)
edit_turns r left_of name text (turns.Halted (halt.Reopen shelf why)) before after is same = absurd is

-- an edit writes nothing, and no shelf is lost by it
pub never_written : (r : StageRules) (name text : List ℕ) (turn : Turn) (s t : Spot r) → TurnsEdit r name text turn s t → turn ≡ turns.Write → ⊥
never_written r name text turns.Went s t is e = cc
never_written r name text turns.NoFit s t is e = cc
never_written r name text turns.Write s t is e = is
never_written r name text (turns.Halted why) s t is e = cc

pub never_lost : (r : StageRules) (name text : List ℕ) (turn : Turn) (s t : Spot r) (shelf : ℕ) (why : Reopen) → TurnsEdit r name text turn s t
    → turn ≡ turns.Halted (halt.Reopen shelf why) → ⊥
never_lost r name text turns.Went s t shelf why is e = cc
never_lost r name text turns.NoFit s t shelf why is e = cc
never_lost r name text turns.Write s t shelf why is e = is
never_lost r name text (turns.Halted halt.Memory) s t shelf why is e = cc
never_lost r name text (turns.Halted (halt.Reopen k cause)) s t shelf why is e = is

first_told : (step : Step) (left : List (Option Step)) → is_told false (Some step ∷ left) ≡ true → is_told false (Some step ∷ []) ≡ true
first_told (take worker target) left known = refl
first_told (publish worker) left known = refl
first_told (get worker target) left known = refl
first_told (tick time) left known = refl
first_told (compact shelf) left known = refl
first_told (crash shelf) left known = absurd (let no : ⊥ = cc in no)
first_told (edit name text) left known = absurd (let no : ⊥ = cc in no)
first_told (crash_edited shelf) left known = absurd (let no : ⊥ = cc in no)

rest_told : (step : Option Step) (left : List (Option Step)) → is_told false (step ∷ left) ≡ true → is_told false left ≡ true
rest_told None left known = known
rest_told (Some (take worker target)) left known = known
rest_told (Some (publish worker)) left known = known
rest_told (Some (get worker target)) left known = known
rest_told (Some (tick time)) left known = known
rest_told (Some (compact shelf)) left known = known
rest_told (Some (crash shelf)) left known = absurd (let no : ⊥ = cc in no)
rest_told (Some (edit name text)) left known = absurd (let no : ⊥ = cc in no)
rest_told (Some (crash_edited shelf)) left known = absurd (let no : ⊥ = cc in no)

-- what is known of the steps of a run is known of the next one
pub next_told : (disk_tells : Bool) (front left : List (Option Step)) (all : List (Option Step)) (step : Step) → all ≡ front ++ Some step ∷ left
    → is_told disk_tells all ≡ true → is_told disk_tells (Some step ∷ []) ≡ true
next_told true front left all step cut known = refl
next_told false [] left all step cut known =
    let whole = subst (λ (x : List (Option Step)). is_told false x ≡ true) cut known in first_told step left whole
next_told false (s ∷ front) left all step cut known =
    let whole = subst (λ (x : List (Option Step)). is_told false x ≡ true) cut known in
    next_told false front left (front ++ Some step ∷ left) step refl (rest_told s (front ++ Some step ∷ left) whole)

-- so is what is known of the steps that are given, with the crashes that edits bring
crashes_told : (disk_tells : Bool) (shelves : ℕ) (steps : List (Option Step)) → is_told disk_tells steps ≡ true
    → is_told disk_tells (with_crashes shelves steps) ≡ true
crashes_told true shelves steps known = refl
crashes_told false shelves [] known = refl
crashes_told false shelves (None ∷ steps) known = crashes_told false shelves steps known
crashes_told false shelves (Some (take worker target) ∷ steps) known = crashes_told false shelves steps known
crashes_told false shelves (Some (publish worker) ∷ steps) known = crashes_told false shelves steps known
crashes_told false shelves (Some (get worker target) ∷ steps) known = crashes_told false shelves steps known
crashes_told false shelves (Some (tick time) ∷ steps) known = crashes_told false shelves steps known
crashes_told false shelves (Some (compact shelf) ∷ steps) known = crashes_told false shelves steps known
crashes_told false shelves (Some (crash shelf) ∷ steps) known = absurd (let no : ⊥ = cc in no)
crashes_told false shelves (Some (edit name text) ∷ steps) known = absurd (let no : ⊥ = cc in no)
crashes_told false shelves (Some (crash_edited shelf) ∷ steps) known = absurd (let no : ⊥ = cc in no)

-- what is known of the steps that are given is known of the next one of a run
pub played_told : (tells : Bool) (shelves : ℕ) (steps front left : List (Option Step)) (step : Step)
    → with_crashes shelves steps ≡ front ++ Some step ∷ left → is_told tells steps ≡ true → is_told tells (Some step ∷ []) ≡ true
played_told tells shelves steps front left step cut known =
    next_told tells front left (with_crashes shelves steps) step cut (crashes_told tells shelves steps known)
