-- One turn of a body, as the program sees it.
use Rattle.std.proofs.Common.{◌≡◌, ℕ, zero, suc, ◌-◌, ◌<◌, ℤ, pos, negsuc, List, [], ◌∷◌, ◌++◌, length, Result, Ok, Err, refl, ap, arith}
use Rattle.script_value.specs.Val.{Val, number}
use Rattle.script_value.specs.declared.outcome.Fault.{Fault}
use Rattle.prim_spec.specs.Lists.{list_of}
use Rattle.segments.specs.ReplaySpec.Tape.{State, faulted, stop, answer}
use Rattle.segment_progress.specs.Counts.{count_of}
use Rattle.machine_states.specs.Machine.{Frame, inside_of, in_turn, visits, given, next_turn, first_turn}

pub more_turns : (n turns b left : ℕ) (done env : List Val) (fs : List Frame) (s : State) → 0 < left
    → next_turn n turns b left done env fs s ≡ visits b (env ++ number (pos (length done)) ∷ []) (in_turn n turns done ∷ fs) s
more_turns n turns b zero done env fs s h = absurd (omega arith)
more_turns n turns b (suc k) done env fs s h = refl

pub no_turns : (n turns b left : ℕ) (done env : List Val) (fs : List Frame) (s : State) → left ≡ 0
    → next_turn n turns b left done env fs s ≡ given (answer (inside_of fs) (list_of done)) env fs s
no_turns n turns b zero done env fs s h = refl
no_turns n turns b (suc k) done env fs s h = absurd (omega arith)

pub one_done : (n turns b : ℕ) (done env : List Val) (v : Val) (fs : List Frame) (s : State)
    → next_turn n turns b (turns - length (done ++ v ∷ [])) (done ++ v ∷ []) env fs s ≡ next_turn n turns b (turns - suc (length done)) (done ++ v ∷ []) env fs s
one_done n turns b done env v fs s = ap (λ (k : ℕ). next_turn n turns b (turns - k) (done ++ v ∷ []) env fs s) (more done)
  where
    more : (xs : List Val) → length (xs ++ v ∷ []) ≡ suc (length xs)
    more [] = refl
    more (x ∷ xs) = ap suc (more xs)

pub all_turns : (n b k : ℕ) (r : Result ℤ Fault) (env : List Val) (fs : List Frame) (s : State) → count_of r ≡ Ok k
    → first_turn n b r env fs s ≡ next_turn n k b (k - 0) [] env fs s
all_turns n b k (Ok (pos j)) env fs s e =
    let same : j ≡ k = cc in
    let whole : k ≡ k - 0 = omega arith in
    rw same (ap (λ (i : ℕ). next_turn n k b i [] env fs s) whole)
all_turns n b k (Ok (negsuc j)) env fs s e = absurd (cc)
all_turns n b k (Err j) env fs s e = absurd (cc)

pub no_count : (n b : ℕ) (k : Fault) (r : Result ℤ Fault) (env : List Val) (fs : List Frame) (s : State) → count_of r ≡ Err k
    → first_turn n b r env fs s ≡ stop (faulted k) (inside_of fs) s
no_count n b k (Ok (pos j)) env fs s e = absurd (cc)
no_count n b k (Ok (negsuc j)) env fs s e = cc
no_count n b k (Err j) env fs s e = cc
