-- A measured run, step after step.
use Rattle.std.proofs.Common.{◌≡◌, ◌<◌, ◌≤◌, ◌+◌, ◌++◌, ℕ, suc, List, [], ◌∷◌, Some, map, count_by, Bool, cond, append_assoc, append-nil, zero-add, sym, ap, ◌∙◌, refl, arith}
use Rattle.std.proofs.lemmas.List.Sums.{sum_by-append, fold-append}
use Rattle.measured_run.specs.Fnv.{fnv1a, goes_on, mixed, offset}
use Rattle.play_steps.specs.Rules.{StageRules}
use Rattle.play_steps.specs.Step.{Step, crash, crashed_at, lines_in}
use Rattle.play_steps.specs.Texts.{print}
use Rattle.play_steps.specs.Transcript.{Run, went, behind, transcript}
use Rattle.play_steps.specs.Played.{Spot, Crashed, Goes, HasRisen}
use Rattle.play_steps.specs.declared.stage.Reopen.{Reopen}
use Rattle.play_steps.specs.declared.report.Report.{Report}
use Rattle.play_steps.proofs.Risings.{stays_risen, rises_then}
use Rattle.play_steps.proofs.Runs.{joined, one, over, print_joined}
use Rattle.measured_run.specs.declared.step.LoadStep.{LoadStep}
use Rattle.measured_run.specs.declared.step.LoadStep.TheVariants as steps
use Rattle.measured_run.specs.declared.tally.Tally.{Tally}
use Rattle.measured_run.specs.Generator.{Source}
use Rattle.measured_run.specs.Tallies.{counted, grown, tells_page, tells_refusal}
use Rattle.measured_run.specs.declared.measuring.Course.{Course}
use Rattle.measured_run.specs.Lines.{played}
use Rattle.measured_run.specs.Drawing.{drawn_over, step_over, source_past, steps_drawn}
use Rattle.measured_run.specs.Counting.{tally_of}
use Rattle.measured_run.specs.Course.{Loads, LoadsSome, LosesShelf, course_past}

-- after so many steps the course is here, and what follows goes on from there
pub record Reached (r : StageRules) (start : Spot r) (source : Source) (k : ℕ) (here : Spot r) (course : Course) : Type 0 where
  pub told : List Report
  pub fates : List r.Fate
  pub steps : List Step
  pub number : ℕ
  pub drawn : (n : ℕ) (later : List r.Fate)
      → steps_drawn r (k + n) source start.state (fates ++ later) ≡ steps ++ steps_drawn r n course.generator here.state later
  pub is : (rest : List Step) (later : List r.Fate)
      → transcript r start.state 1 (map Some (steps ++ rest)) (fates ++ later)
      ≡ behind r told (transcript r here.state number (map Some rest) later)
  pub tallied : course.tally ≡ tally_of k told
  pub hashed : course.hash ≡ fnv1a (print told)
  pub risen : HasRisen r fates start.faults here.faults

pub begun : (r : StageRules) (start : Spot r) (source : Source) (course : Course) → course.generator ≡ source
    → course.tally ≡ tally_of 0 [] → course.hash ≡ fnv1a [] → Reached r start source 0 start course
begun r start source course from none blank = record {
  told = [];
  fates = [];
  steps = [];
  number = 1;
  drawn = λ n later.
      ap (λ m. steps_drawn r m source start.state later) (zero-add n)
      ∙ ap (λ (x : Source). steps_drawn r n x start.state later) (sym from);
  is = λ rest later. refl;
  tallied = none;
  hashed = blank;
  risen = stays_risen r start.faults;
}

-- one step is drawn, and then the others after it
drawn_first : (r : StageRules) (s t : Spot r) (source : Source) (n : ℕ) (told : List Report) (g : Goes r (step_over r source s.state) told s t)
    (later : List r.Fate)
    → steps_drawn r (suc n) source s.state (g.came.fates ++ later)
    ≡ step_over r source s.state ∷ steps_drawn r n (source_past r source s.state told) t.state later
unfolding steps_drawn
drawn_first r s t source n told g later =
    ap (λ (run : Run r). step_over r source s.state ∷ steps_drawn r n (source_past r source s.state run.told) run.state run.fates) (g.came.is later)

grown_twice : (a b : ℕ) → grown (grown 0 a) b ≡ grown 0 (a + b)
grown_twice a b = omega arith

count_both : (p : Report → Bool) (xs ys : List Report) → count_by p (xs ++ ys) ≡ count_by p xs + count_by p ys
count_both p xs ys = sum_by-append (λ x. cond (p x) 1 0) xs ys

tally_same : (a b c d e f : ℕ) → a ≡ d → b ≡ e → c ≡ f
    → (let x : Tally = record { steps = a; pages = b; refused = c } in x) ≡ record { steps = d; pages = e; refused = f }
tally_same a b c d e f h k l =
    let made : ℕ → ℕ → ℕ → Tally = λ x y z. record { steps = x; pages = y; refused = z } in
    ap (λ x. made x b c) h ∙ ap (λ y. made d y c) k ∙ ap (made d e) l

-- a tally that goes on
tally_on : (k : ℕ) (told more : List Report) → counted (tally_of k told) more ≡ tally_of (k + 1) (told ++ more)
tally_on k told more =
    let a = grown_twice k 1 in
    let b = grown_twice (count_by tells_page told) (count_by tells_page more) ∙ ap (grown 0) (sym (count_both tells_page told more)) in
    let c = grown_twice (count_by tells_refusal told) (count_by tells_refusal more) ∙ ap (grown 0) (sym (count_both tells_refusal told more)) in
    tally_same _ _ _ _ _ _ a b c

-- a hash that goes on
hash_on : (told more : List Report) → goes_on (fnv1a (print told)) (print more) ≡ fnv1a (print (told ++ more))
hash_on told more = sym (ap fnv1a (print_joined told more) ∙ fold-append mixed offset (print told) (print more))

-- one step more
module _ (r : StageRules) (start here there : Spot r) (source : Source) (k : ℕ) (course : Course) (more : List Report)
    (g : Goes r (step_over r course.generator here.state) more here there) (reached : Reached r start source k here course) where
  abbrev next : Step
  next = step_over r course.generator here.state

  drawn_more : (n : ℕ) (later : List r.Fate)
      → steps_drawn r ((k + 1) + n) source start.state ((reached.fates ++ g.came.fates) ++ later)
      ≡ (reached.steps ++ next ∷ []) ++ steps_drawn r n (source_past r course.generator here.state more) there.state later
  drawn_more n later =
      let count : (k + 1) + n ≡ k + suc n = omega arith in
      ap (λ m. steps_drawn r m source start.state ((reached.fates ++ g.came.fates) ++ later)) count
      ∙ ap (steps_drawn r (k + suc n) source start.state) (append_assoc reached.fates g.came.fates later)
      ∙ reached.drawn (suc n) (g.came.fates ++ later)
      ∙ ap (λ steps. reached.steps ++ steps) (drawn_first r here there course.generator n more g later)
      ∙ sym (append_assoc reached.steps (next ∷ []) (steps_drawn r n (source_past r course.generator here.state more) there.state later))

  is_more : (rest : List Step) (later : List r.Fate)
      → transcript r start.state 1 (map Some ((reached.steps ++ next ∷ []) ++ rest)) ((reached.fates ++ g.came.fates) ++ later)
      ≡ behind r (reached.told ++ more) (transcript r there.state (reached.number + lines_in next) (map Some rest) later)
  is_more rest later =
      ap (λ steps. transcript r start.state 1 (map Some steps) ((reached.fates ++ g.came.fates) ++ later)) (append_assoc reached.steps (next ∷ []) rest)
      ∙ ap (transcript r start.state 1 (map Some (reached.steps ++ next ∷ rest))) (append_assoc reached.fates g.came.fates later)
      ∙ reached.is (next ∷ rest) (g.came.fates ++ later)
      ∙ ap (behind r reached.told) (one r here there reached.number next (map Some rest) more g later)
      ∙ joined r reached.told more (transcript r there.state (reached.number + lines_in next) (map Some rest) later)

  pub one_more : (past : Course) → past ≡ course_past r course here.state more → Reached r start source (k + 1) there past
  one_more past is = record {
    told = reached.told ++ more;
    fates = reached.fates ++ g.came.fates;
    steps = reached.steps ++ next ∷ [];
    number = reached.number + lines_in next;
    drawn = λ n later.
        drawn_more n later
        ∙ ap (λ (x : Source). (reached.steps ++ next ∷ []) ++ steps_drawn r n x there.state later) (sym (ap (λ (x : Course). x.generator) is));
    is = is_more;
    tallied = ap (λ (x : Course). x.tally) is ∙ ap (λ (x : Tally). counted x more) reached.tallied ∙ tally_on k reached.told more;
    hashed = ap (λ (x : Course). x.hash) is ∙ ap (λ h. goes_on h (print more)) reached.hashed ∙ hash_on reached.told more;
    risen = rises_then r reached.fates g.came.fates start.faults here.faults there.faults reached.risen g.came.risen;
  }

-- no step after these
none_drawn : (r : StageRules) (source : Source) (s : r.State) (fates : List r.Fate) → steps_drawn r 0 source s fates ≡ []
unfolding steps_drawn
none_drawn r source s fates = refl

-- the steps so far
pub so_far : (r : StageRules) (start here : Spot r) (source : Source) (k : ℕ) (course : Course) (reached : Reached r start source k here course)
    → steps_drawn r k source start.state reached.fates ≡ reached.steps
so_far r start here source k course reached =
    let count : k ≡ k + 0 = omega arith in
    ap (λ m. steps_drawn r m source start.state reached.fates) count
    ∙ ap (steps_drawn r (k + 0) source start.state) (sym (append-nil reached.fates))
    ∙ reached.drawn 0 []
    ∙ ap (λ steps. reached.steps ++ steps) (none_drawn r course.generator here.state [])
    ∙ append-nil reached.steps

one_drawn : (r : StageRules) (source : Source) (s : r.State) (fates : List r.Fate) → steps_drawn r 1 source s fates ≡ step_over r source s ∷ []
unfolding steps_drawn
one_drawn r source s fates = refl

-- and one more, whose fates do not matter
pub and_next : (r : StageRules) (start here : Spot r) (source : Source) (k : ℕ) (course : Course) (reached : Reached r start source k here course)
    → steps_drawn r (k + 1) source start.state reached.fates ≡ reached.steps ++ step_over r course.generator here.state ∷ []
and_next r start here source k course reached =
    ap (steps_drawn r (k + 1) source start.state) (sym (append-nil reached.fates))
    ∙ reached.drawn 1 []
    ∙ ap (λ steps. reached.steps ++ steps) (one_drawn r course.generator here.state [])

-- these steps are the whole run
unfoldable pub ended : (r : StageRules) (start here : Spot r) (source : Source) (k : ℕ) (course : Course)
    → (reached : Reached r start source k here course) → Loads r k source reached.told start here
ended r start here source k course reached = record {
  fates = reached.fates;
  is =
      ap (λ steps. transcript r start.state 1 (map Some steps) reached.fates) (so_far r start here source k course reached ∙ sym (append-nil reached.steps))
      ∙ ap (transcript r start.state 1 (map Some (reached.steps ++ []))) (sym (append-nil reached.fates))
      ∙ reached.is [] []
      ∙ ap (behind r reached.told) (over r here.state reached.number [])
      ∙ ap (λ told. went r told here.state []) (append-nil reached.told);
  risen = reached.risen;
}

-- so many steps went
pub some : (r : StageRules) (start here : Spot r) (source : Source) (k count : ℕ) (course : Course) → k ≤ count
    → Reached r start source k here course → LoadsSome r count source start here
some r start here source k count course few reached =
    record { done = k; few = few; told = reached.told; loads = ended r start here source k course reached }

-- and another one, after which memory ran out
pub one_past : (r : StageRules) (start here there : Spot r) (source : Source) (k count : ℕ) (course : Course) (told : List Report) → k < count
    → Goes r (step_over r course.generator here.state) told here there → Reached r start source k here course → LoadsSome r count source start there
one_past r start here there source k count course told few goes reached =
    let past = course_past r course here.state told in
    some r start there source (k + 1) count past (omega (arith, few)) (one_more r start here there source k course told goes reached past refl)

-- a step that crashes a shelf is the crash of it
pub crash_drawn : (step : LoadStep) (shelf : ℕ) → crashed_at (played step) ≡ Some shelf → played step ≡ crash shelf
crash_drawn (steps.Crash k) shelf e = cc
crash_drawn (steps.Tick time) shelf e = absurd (let no : ⊥ = cc in no)
crash_drawn (steps.Publish worker) shelf e = absurd (let no : ⊥ = cc in no)
crash_drawn (steps.Take worker target) shelf e = absurd (let no : ⊥ = cc in no)
crash_drawn (steps.Get worker target) shelf e = absurd (let no : ⊥ = cc in no)

-- the next step is the crash of a shelf that was not opened again
unfoldable pub lost : (r : StageRules) (left : r.State → ℕ → Reopen → Type 0) (start here there : Spot r) (source : Source) (k count shelf : ℕ) (why : Reopen) (course : Course) → k < count
    → Reached r start source k here course → Crashed r left (step_over r course.generator here.state) shelf why here there → LosesShelf r left count source shelf why start there
unfolding ended
lost r left start here there source k count shelf why course few reached (is, later, stands) = record {
  done = k;
  few = few;
  told = reached.told;
  middle = here;
  loads = ended r start here source k course reached;
  later = later;
  stands = stands;
  next =
      and_next r start here source k course reached
      ∙ ap (λ (step : Step). reached.steps ++ step ∷ []) (crash_drawn (drawn_over r course.generator here.state).0 shelf is)
      ∙ ap (λ steps. steps ++ crash shelf ∷ []) (sym (so_far r start here source k course reached));
}
