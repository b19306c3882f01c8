-- The steps of a worker, by their calls.
use Rattle.std.proofs.Common.{◌≡◌, ◌≤◌, ◌⊎◌, inl, inr, ℕ, List, [], ◌∷◌, ◌++◌, append_assoc, Bool, true, false, Result, Ok, Err, Vec, ap, sym, ◌∙◌, refl, subst, MatchResult, IfOk, IfErr, IsErrOf, IsTrue, Some, arith}
use Rattle.std.specs.declared.alloc.Global.{Global}
use Rattle.web_outside.specs.Causes.{Rose}
use Rattle.script_value.specs.declared.outcome.Reply.{Reply}
use Rattle.play_steps.specs.Reports.{take_report, compact_report}
use Rattle.play_steps.specs.Rules.{StageRules, Call, answered, event, Comes, Crashes}
use Rattle.play_steps.specs.Step.{Step, take, publish, get, crash, compact, crash_edited, is_crash, is_told, crashed_at}
use Rattle.play_steps.specs.Transcript.{Run, called, went, got}
use Rattle.play_steps.specs.Played.{Spot, HasRisen, Came, TellsCrash, Performs}
use Rattle.play_steps.specs.declared.report.Report.{Report}
use Rattle.play_steps.specs.declared.report.Report.TheVariants.{Replied, Reopened}
use Rattle.play_steps.specs.declared.stage.Reopen.{Reopen}
use Rattle.play_steps.specs.declared.stage.Reopen.TheVariants as reopen
use Rattle.play_steps.specs.declared.performing.Halt.{Halt}
use Rattle.play_steps.specs.declared.performing.Halt.TheVariants as halt
use Rattle.play_steps.proofs.Risings.{rises_once, rises_then}

-- the fates that a call uses, and what stands after it
pub record Called (r : StageRules) {A : Type 0} (call : Call r.State r.Fate A) (s : Spot r) (result : A) (t : Spot r) : Type 0 where
  pub fates : List r.Fate
  pub is : (next : A → r.State → List r.Fate → Run r) (later : List r.Fate)
      → called r call s.state (fates ++ later) next ≡ next result t.state later
  pub risen : HasRisen r fates s.faults t.faults

pub comes_called : (r : StageRules) {A : Type 0} (call : Call r.State r.Fate A) (s t : Spot r) (rose : Type 0) (result : A)
    → Comes r.fails rose call s.state result t.state → s.faults ≤ t.faults → (rose → Rose s.faults t.faults) → Called r call s result t
comes_called r (answered a) s t rose result h le up = record {
  fates = [];
  is = λ next later. ap (λ x. next x s.state later) h.0 ∙ ap (λ x. next result x later) (sym h.1);
  risen = record { later = le; fails = omega (arith, le) };
}
comes_called r {A = A} (event by) s t rose result h le up = record {
  fates = h.0 ∷ [];
  is = λ next later. ap (λ (x : A × r.State). next x.0 x.1 later) h.1;
  risen = rises_once r h.0 s.faults t.faults le (λ fails. up (h.2 fails));
}

pub took : (r : StageRules) (s t : Spot r) (worker : ℕ) (target : List ℕ) (result : Result ℕ Reply)
    → Called r (r.take s.state worker target) s result t → Came r s (take worker target) (take_report worker result ∷ []) t
took r s t worker target result call =
    record { fates = call.fates; is = call.is (λ x. went r (take_report worker x ∷ [])); risen = call.risen }

pub published : (r : StageRules) (s t : Spot r) (worker : ℕ) (reply : Reply)
    → Called r (r.publish s.state worker) s reply t → Came r s (publish worker) (Replied worker reply ∷ []) t
published r s t worker reply call =
    record { fates = call.fates; is = call.is (λ x. went r (Replied worker x ∷ [])); risen = call.risen }

-- a get whose take was given a number
pub got_number : (r : StageRules) (s mid t : Spot r) (worker : ℕ) (target : List ℕ) (number : ℕ) (reply : Reply)
    → Called r (r.take s.state worker target) s (Ok number) mid → Called r (r.publish mid.state worker) mid reply t
    → Came r s (get worker target) (Replied worker reply ∷ []) t
got_number r s mid t worker target number reply first second = record {
  fates = first.fates ++ second.fates;
  is = λ later.
      ap (λ fates. called r (r.take s.state worker target) s.state fates (got r worker)) (append_assoc first.fates second.fates later)
      ∙ first.is (got r worker) (second.fates ++ later)
      ∙ second.is (λ x. went r (Replied worker x ∷ [])) later;
  risen = rises_then r first.fates second.fates s.faults mid.faults t.faults first.risen second.risen;
}

-- a get whose take was refused
pub got_refusal : (r : StageRules) (s t : Spot r) (worker : ℕ) (target : List ℕ) (reply : Reply)
    → Called r (r.take s.state worker target) s (Err reply) t → Came r s (get worker target) (Replied worker reply ∷ []) t
got_refusal r s t worker target reply call =
    record { fates = call.fates; is = call.is (got r worker); risen = call.risen }

pub crashed : (r : StageRules) (s t : Spot r) (shelf live : ℕ)
    → Called r (r.crash s.state shelf) s live t → Came r s (crash shelf) (Reopened shelf live ∷ []) t
crashed r s t shelf live call =
    record { fates = call.fates; is = call.is (λ x. went r (Reopened shelf x ∷ [])); risen = call.risen }

pub compacted : (r : StageRules) (s t : Spot r) (shelf : ℕ) (result : Result ℕ Reply)
    → Called r (r.compact s.state shelf) s result t → Came r s (compact shelf) (compact_report shelf result ∷ []) t
compacted r s t shelf result call =
    record { fates = call.fates; is = call.is (λ x. went r (compact_report shelf x ∷ [])); risen = call.risen }

-- what a step told is told, or there was no memory for it
pub tells : (r : StageRules) (left : r.State → ℕ → Reopen → Type 0) (s t : Spot r) (step : Step) (told : List Report) (result : Result (Vec Report Global) Halt)
    → MatchResult result (λ reports. reports.items ≡ told) (λ why. why ≡ halt.Memory) → Came r s step told t → Performs r left step result s t
tells r left s t step told (Ok reports) is came = subst (λ (x : List Report). Came r s step x t) (sym is) came
tells r left s t step told (Err halt.Memory) is came = inl (told, came)
tells r left s t step told (Err (halt.Reopen shelf why)) is came = absurd (let no : ⊥ = cc in no)

-- what is known of a crash is known of a disk that tells
told_crash : (disk_tells : Bool) (step : Step) → is_crash (Some step) ≡ true → is_told disk_tells (Some step ∷ []) ≡ true → IsTrue disk_tells
told_crash true step is known = refl
told_crash false step is known = absurd (let no = rw is at known in let never : ⊥ = cc in never)

-- a shelf that crashed was opened again or not
crash_performs : (r : StageRules) (left : r.State → ℕ → Reopen → Type 0) (s t : Spot r) (step : Step) (shelf : ℕ) (opened : Result ℕ Reopen)
    (result : Result (Vec Report Global) Halt) → crashed_at step ≡ Some shelf
    → ((told : List Report) → Came r s (crash shelf) told t → Came r s step told t)
    → TellsCrash shelf opened result → IfOk opened (λ live. Crashes r (Rose s.faults t.faults) s.state shelf live t.state)
    → (IsErrOf opened reopen.Disk → Rose s.faults t.faults) → s.faults ≤ t.faults → IfErr opened (left s.state shelf)
    → Performs r left step result s t
crash_performs r left s t step shelf (Ok live) result at alike told comes rose le stands =
    tells r left s t step _ result told
    (alike _ (crashed r s t shelf live (comes_called r (r.crash s.state shelf) s t (Rose s.faults t.faults) live comes le (λ up. up))))
crash_performs r left s t step shelf (Err reopen.Memory) result at alike told comes rose le stands =
    subst (λ (x : Result (Vec Report Global) Halt). Performs r left step x s t) (sym told) (inr (shelf, (at, le, stands)))
crash_performs r left s t step shelf (Err reopen.Disk) result at alike told comes rose le stands =
    subst (λ (x : Result (Vec Report Global) Halt). Performs r left step x s t) (sym told) ((at, le, stands), rose refl)
crash_performs r left s t step shelf (Err reopen.NotEmpty) result at alike told comes rose le stands =
    subst (λ (x : Result (Vec Report Global) Halt). Performs r left step x s t) (sym told) (at, le, stands)
crash_performs r left s t step shelf (Err (reopen.Damaged place)) result at alike told comes rose le stands =
    subst (λ (x : Result (Vec Report Global) Halt). Performs r left step x s t) (sym told) (at, le, stands)
crash_performs r left s t step shelf (Err (reopen.Other place)) result at alike told comes rose le stands =
    subst (λ (x : Result (Vec Report Global) Halt). Performs r left step x s t) (sym told) (at, le, stands)
crash_performs r left s t step shelf (Err (reopen.Full len)) result at alike told comes rose le stands =
    subst (λ (x : Result (Vec Report Global) Halt). Performs r left step x s t) (sym told) (at, le, stands)

-- a crash that an edit brings tells what a crash tells
crash_again : (r : StageRules) (s t : Spot r) (shelf : ℕ) (told : List Report) → Came r s (crash shelf) told t → Came r s (crash_edited shelf) told t
crash_again r s t shelf told came = record { fates = came.fates; is = came.is; risen = came.risen }

-- the step is a crash of this shelf, or one that an edit brings
abbrev pub IsCrashOf : Step → (shelf : ℕ) → Type 0
IsCrashOf step shelf = (step ≡ crash shelf) ⊎ (step ≡ crash_edited shelf)

pub told_either : (disk_tells : Bool) (step : Step) (shelf : ℕ) → IsCrashOf step shelf → is_told disk_tells (Some step ∷ []) ≡ true → IsTrue disk_tells
told_either disk_tells step shelf (inl is) known = told_crash disk_tells step (ap (λ (s : Step). is_crash (Some s)) is) known
told_either disk_tells step shelf (inr is) known = told_crash disk_tells step (ap (λ (s : Step). is_crash (Some s)) is) known

pub either_performs : (r : StageRules) (left : r.State → ℕ → Reopen → Type 0) (s t : Spot r) (step : Step) (shelf : ℕ) (opened : Result ℕ Reopen)
    (result : Result (Vec Report Global) Halt) → IsCrashOf step shelf
    → TellsCrash shelf opened result → IfOk opened (λ live. Crashes r (Rose s.faults t.faults) s.state shelf live t.state)
    → (IsErrOf opened reopen.Disk → Rose s.faults t.faults) → s.faults ≤ t.faults → IfErr opened (left s.state shelf)
    → Performs r left step result s t
either_performs r left s t step shelf opened result (inl is) told comes rose le stands =
    subst (λ (x : Step). Performs r left x result s t) (sym is)
    (crash_performs r left s t (crash shelf) shelf opened result refl (λ told came. came) told comes rose le stands)
either_performs r left s t step shelf opened result (inr is) told comes rose le stands =
    subst (λ (x : Step). Performs r left x result s t) (sym is)
    (crash_performs r left s t (crash_edited shelf) shelf opened result refl (crash_again r s t shelf) told comes rose le stands)
