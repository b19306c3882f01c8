-- The sweeps of a tick, shelf after shelf.
use Rattle.std.proofs.Common.{◌≡◌, ℕ, suc, ◌+◌, ◌-◌, ◌<◌, ◌≤◌, List, [], ◌∷◌, ◌++◌, Result, Ok, Err, IfOk, Vec, append_assoc, append-nil, sym, ap, ◌∙◌, arith}
use Rattle.std.specs.declared.alloc.Global.{Global}
use Rattle.script_value.specs.declared.outcome.Reply.{Reply}
use Rattle.play_steps.specs.Reports.{sweep_report}
use Rattle.play_steps.specs.Rules.{StageRules}
use Rattle.play_steps.specs.Step.{tick}
use Rattle.play_steps.specs.Transcript.{went, behind, swept}
use Rattle.play_steps.specs.Played.{Spot, spot, HasRisen, Came, Lengthens}
use Rattle.play_steps.specs.declared.report.Report.{Report}
use Rattle.play_steps.proofs.Performed.{Called}
use Rattle.play_steps.proofs.Risings.{stays_risen, rises_then}
use Rattle.play_steps.proofs.Runs.{joined}

-- the first shelves are swept, told this and with this state, and the others are left
pub record Swept (r : StageRules) (old : Spot r) (time count shelf : ℕ) (told : List Report) (now : Spot r) : Type 0 where
  pub fates : List r.Fate
  pub is : (later : List r.Fate)
      → swept r time count 0 old.state (fates ++ later) ≡ behind r told (swept r time (count - shelf) shelf now.state later)
  pub risen : HasRisen r fates old.faults now.faults

-- the same over any devices, whatever was told, if there was memory for that
abbrev pub SweptOver : {D E : Type 0} → (r : StageRules) → r.State → (before : D → ℕ) → (time count shelf : ℕ) → Result (Vec Report Global) E
    → r.State → (after : D → ℕ) → Type 0
SweptOver {D = D} r old before time count shelf told now after =
    (devices : D) → (reports : List Report)
    × Swept r (spot r old (before devices)) time count shelf reports (spot r now (after devices))
    × IfOk told (λ t. t.items ≡ reports)

pub none_swept : (r : StageRules) (s : Spot r) (time count : ℕ) → Swept r s time count 0 [] s
none_swept r s time count =
    let all : count ≡ count - 0 = omega arith in
    record { fates = []; is = λ later. ap (λ n. swept r time n 0 s.state later) all; risen = stays_risen r s.faults }

pub one_swept : (r : StageRules) (old s t : Spot r) (time count shelf : ℕ) (told : List Report) (result : Result ℕ Reply) → shelf < count
    → Swept r old time count shelf told s → Called r (r.sweep s.state shelf time) s result t
    → Swept r old time count (shelf + 1) (told ++ sweep_report shelf result ∷ []) t
one_swept r old s t time count shelf told result lt h call =
    let left : count - shelf ≡ suc (count - (shelf + 1)) = omega arith in
    record {
      fates = h.fates ++ call.fates;
      is = λ later.
          ap (swept r time count 0 old.state) (append_assoc h.fates call.fates later)
          ∙ h.is (call.fates ++ later)
          ∙ ap (λ n. behind r told (swept r time n shelf s.state (call.fates ++ later))) left
          ∙ ap (behind r told)
          (call.is (λ x u fates. behind r (sweep_report shelf x ∷ []) (swept r time (count - (shelf + 1)) (shelf + 1) u fates)) later)
          ∙ joined r told (sweep_report shelf result ∷ []) (swept r time (count - (shelf + 1)) (shelf + 1) t.state later);
      risen = rises_then r h.fates call.fates old.faults s.faults t.faults h.risen call.risen;
    }

pub all_swept : (r : StageRules) (old now : Spot r) (time count shelf : ℕ) (told : List Report) → count ≡ r.shelves old.state → count ≤ shelf
    → Swept r old time count shelf told now → Came r old (tick time) told now
all_swept r old now time count shelf told e le h =
    let none : count - shelf ≡ 0 = omega arith in
    record {
      fates = h.fates;
      is = λ later.
          ap (λ n. swept r time n 0 old.state (h.fates ++ later)) (sym e)
          ∙ h.is later ∙ ap (λ n. behind r told (swept r time n shelf now.state later)) none
          ∙ ap (λ w. went r w now.state later) (append-nil told);
      risen = h.risen;
    }

-- a list that is there has grown
pub longer : {A E : Type 0} (list result : Result (Vec A Global) E) (front more : List A) → IfOk list (λ t. t.items ≡ front)
    → Lengthens list more result → IfOk result (λ w. w.items ≡ front ++ more)
longer list (Err e) front more h k = tt
longer (Err d) (Ok w) front more h k = absurd k
longer (Ok t) (Ok w) front more h k = k ∙ ap (λ x. x ++ more) h
