-- The next step is in its ranges.
use Rattle.std.proofs.Common.{◌≡◌, ℕ, ◌+◌, ◌<◌, ◌==◌, ◌%◌, ◌/◌, not, Bool, true, false, List, [], ◌∷◌, ◌++◌, length, length-append, codes, cond, refl, arith, All, slice_index_or, drop, nat_lt}
use Rattle.std.specs.Fmt.{decimal}
use Rattle.std.specs.List.{list_all}
use Rattle.std.specs.Char.{is_ascii_digit}
use Rattle.std.proofs.lemmas.Bool.{and_parts}
use Rattle.std.proofs.lemmas.Bool.Decides.{nat_tests}
use Rattle.std.proofs.lemmas.List.Folds.{list_all-append}
use Rattle.std.proofs.lemmas.List.Elements.{All-append, All-cons, All-drop}
use Rattle.script_value.proofs.Numerals.{decimal_digits}
use Rattle.play_steps.specs.Step.{is_target, is_target_byte}
use Rattle.measured_run.specs.declared.script.LoadScript.{LoadScript}
use Rattle.measured_run.specs.declared.script.LoadScript.TheVariants.{Hotel, Shop, Pay}
use Rattle.measured_run.specs.declared.step.LoadStep.{LoadStep}
use Rattle.measured_run.specs.declared.step.LoadStep.TheVariants.{Crash, Tick, Publish, Take, Get}
use Rattle.measured_run.specs.Scripts.{script_of, start_of}
use Rattle.measured_run.specs.Generator.{most_targets, drawn, lot_of, worker_of, choice_of, page_target, start_target, visit_target, visit_of, next_step}
use Rattle.measured_run.specs.Lines.{IsLoadStep}
use Rattle.measured_run.specs.Laws.{NextIsStep, UrlsAreKept}

digits_are_bytes : (ds : List ℕ) → list_all is_ascii_digit ds ≡ true → list_all is_target_byte ds ≡ true
digits_are_bytes [] h = refl
digits_are_bytes (d ∷ ds) h =
    let parts = and_parts (is_ascii_digit d) (list_all is_ascii_digit ds) h in
    let rest = digits_are_bytes ds parts.1 in
    let first : is_target_byte d ≡ true = grind (arith, nat_tests, parts.0) in
    rw (first, rest) refl

longer : (t more : List ℕ) → is_target t ≡ true → list_all is_target_byte more ≡ true → is_target (t ++ more) ≡ true
longer t more is bytes =
    let parts = and_parts (not (length t == 0)) (list_all is_target_byte t) is in
    let some : not (length (t ++ more) == 0) ≡ true = grind (arith, nat_tests, length-append t more, parts.0) in
    rw (some, list_all-append is_target_byte t more, parts.1, bytes) refl

page_is : (targets : List (List ℕ)) (choice : ℕ) → All (λ url. is_target url ≡ true) targets → 0 < length targets
    → is_target (page_target targets choice) ≡ true
page_is targets choice all some =
    let url = slice_index_or targets (choice % length targets) [] in
    let is : is_target url ≡ true = all (choice % length targets) [] (omega arith) in
    let digit = digits_are_bytes (decimal (choice / 256 % 10)) (decimal_digits (choice / 256 % 10) (omega arith)) in
    longer (url ++ codes "?h=") (decimal (choice / 256 % 10)) (longer url (codes "?h=") is refl) digit

start_is : (script : LoadScript) → is_target (start_of script) ≡ true
start_is Hotel = refl
start_is Shop = refl
start_is Pay = refl

one_is : (b : Bool) (x y : List ℕ) → is_target x ≡ true → (b ≡ false → is_target y ≡ true) → is_target (cond b x y) ≡ true
one_is true x y p q = p
one_is false x y p q = q refl

visit_is : (targets : List (List ℕ)) (r : ℕ) → All (λ url. is_target url ≡ true) targets → is_target (visit_target targets r) ≡ true
visit_is targets r all =
    one_is _ (start_target (choice_of r)) (page_target targets (choice_of r)) (start_is (script_of (choice_of r % 3)))
    (λ none. page_is targets (choice_of r) all (grind (arith, nat_tests, none)))

one_fits : (P : LoadStep → Type 0) (b : Bool) (x y : LoadStep) → P x → P y → P (cond b x y)
one_fits P true x y p q = p
one_fits P false x y p q = q

pub next_fits : NextIsStep
unfolding next_step
next_fits shelves holds source some early all =
    let r = drawn source.number in
    let P = IsLoadStep shelves in
    let w = worker_of r in
    let target = visit_target source.targets r in
    let is = visit_is source.targets r all in
    let small : w < 16 = omega arith in
    let visit = one_fits P (lot_of r % 2 == 0) (Take w target) (Get w target) (small, is) (small, is) in
    let made = visit_of (lot_of r) w target in
    let spent = cond (holds w) (Publish w) made in
    let later = Tick (source.clock + choice_of r % 60) in
    let ticked = cond (nat_lt (lot_of r) 21) later spent in
    one_fits P (lot_of r == 0) (Crash (choice_of r % shelves)) ticked (omega arith)
    (one_fits P (nat_lt (lot_of r) 21) later spent (omega arith) (one_fits P (holds w) (Publish w) made small visit))

all_last : (P : List ℕ → Type 0) (b : Bool) (urls : List (List ℕ)) → All P urls → All P (cond b (drop 1 urls) urls)
all_last P true urls all = All-drop P 1 urls all
all_last P false urls all = all

pub urls_kept : UrlsAreKept
urls_kept url source is all =
    let P : List ℕ → Type 0 = λ u. is_target u ≡ true in
    let none : All P [] = λ k d below. absurd (omega arith) in
    let joined = All-append P source.targets (url ∷ []) all (All-cons P url [] is none) in
    all_last P (nat_lt most_targets (length (source.targets ++ url ∷ []))) (source.targets ++ url ∷ []) joined
