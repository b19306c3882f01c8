-- Lines are steps exactly where steps spell them.
use Rattle.std.proofs.Common.{◌≡◌, ◌^◌, ◌<◌, ◌+◌, ◌==◌, ⊎_elim, not, ℕ, suc, List, [], ◌∷◌, ◌++◌, length, map, true, false, Bool, Option, Some, None, ap, sym, ◌∙◌, refl, subst, arith, codes, if◌then◌else◌}
use Rattle.std.specs.Prelude.{IfSome, option_map}
use Rattle.std.specs.Borrow.{Bor}
use Rattle.std.specs.Fmt.{decimal}
use Rattle.std.specs.List.{list_all}
use Rattle.std.specs.Char.{is_ascii_digit}
use Rattle.std.proofs.lemmas.Bool.{and_parts}
use Rattle.std.proofs.lemmas.List.{append_assoc}
use Rattle.std.proofs.lemmas.List.Folds.{list_all-append}
use Rattle.script_value.specs.Pieces.{cut_at, behind, number_below}
use Rattle.script_value.specs.Texts.{lacks}
use Rattle.script_value.proofs.Options.{bound}
use Rattle.script_value.proofs.Cuts.{behind_spelled, cut_spelled, cut_found, lacking}
use Rattle.script_value.proofs.Numerals.{number_spelled, number_found, decimal_digits}
use Rattle.server_limits.specs.Counts.{most_workers}
use Rattle.play_steps.specs.Step.{Step, take, publish, get, tick, crash, compact, edit, crash_edited, is_target, is_target_byte, aim_of, take_of, publish_of, get_of, tick_of, crash_of, compact_of, step_of, edit_head, first_step, steps_of, line_of, lines_in, lines_of, newlines, IsStep, IsWithin, AreSteps}
use Rattle.play_steps.specs.declared.step.Step as code
use Rattle.play_steps.specs.Views.{meaning, step_found as read_as}
use Rattle.play_steps.specs.Laws.{LinesAreSteps, LinesAreCounted}
use Rattle.play_steps.proofs.Within.{step_within}
use Rattle.play_steps.proofs.Plain.{IsPlain, step_spelled}
use Rattle.play_steps.proofs.Lines.{FindsLine, FindsEdit, line_lacks, one_line, first_cut, cut_first, cut_edit, steps_first, steps_none, steps_nil}

-- what is read is spelled so

-- the head of an edit
record IsHead (line name : List ℕ) (size : ℕ) : Type 0 where
  pub spelled : line ≡ codes "edit " ++ (name ++ 32 ∷ decimal size)
  pub spaceless : lacks 32 name ≡ true
  pub short : size < 16777217

head_spelled : (line name : List ℕ) (size : ℕ) → edit_head line ≡ Some (name, size) → IsHead line name size
unfolding edit_head
head_spelled line name size e =
    let rest = bound (behind (codes "edit ") line) _ (name, size) e in
    let parts = bound (cut_at 32 rest.0) _ (name, size) rest.2 in
    let len = bound (number_below 16777217 parts.0.1) _ (name, size) parts.2 in
    let number = number_spelled 16777217 parts.0.1 len.0 (omega arith) len.1 in
    let same : (parts.0.0 ≡ name) × (len.0 ≡ size) = pairs_of (parts.0.0, len.0) (name, size) len.2 in
    let P : List ℕ → ℕ → Type 0 = λ n k. IsHead line n k in
    subst (λ n. P n size) same.0 (subst (P parts.0.0) same.1 (record {
      spelled = behind_spelled (codes "edit ") line rest.0 rest.1
          ∙ ap (λ xs. codes "edit " ++ xs) (cut_spelled 32 rest.0 parts.0.0 parts.0.1 parts.1 ∙ ap (λ ds. parts.0.0 ++ 32 ∷ ds) number.0);
      spaceless = line_lacks 32 rest.0 parts.0.0 parts.0.1 parts.1;
      short = number.1;
    }))
  where
    pairs_of : {A B : Type 0} (p q : A × B) → Some p ≡ Some q → (p.0 ≡ q.0) × (p.1 ≡ q.1)
    pairs_of p q h = let same : p ≡ q = cc in (ap (λ x. x.0) same, ap (λ x. x.1) same)

-- the line of an edit and its text, put together
joined_lines : (name count text rest : List ℕ)
    → (codes "edit " ++ (name ++ 32 ∷ count)) ++ 10 ∷ (text ++ 10 ∷ rest) ≡ (codes "edit " ++ (name ++ 32 ∷ (count ++ 10 ∷ text))) ++ 10 ∷ rest
joined_lines name count text rest =
    rw (append_assoc name (32 ∷ count) (10 ∷ (text ++ 10 ∷ rest)), append_assoc name (32 ∷ (count ++ 10 ∷ text)) (10 ∷ rest), append_assoc count (10 ∷ text) (10 ∷ rest)) refl

-- the step at the front is spelled there
record IsFront (bytes : List ℕ) (s : Step) (rest : List ℕ) : Type 0 where
  pub spelled : bytes ≡ line_of s ++ 10 ∷ rest
  pub step : IsStep s

-- a part of what lacks a byte lacks it
behind_lacks : (byte : ℕ) (xs ys : List ℕ) → lacks byte (xs ++ ys) ≡ true → (lacks byte xs ≡ true) × (lacks byte ys ≡ true)
behind_lacks byte xs ys e = and_parts (lacks byte xs) (lacks byte ys) (sym (list_all-append (λ b. not (b == byte)) xs ys) ∙ e)

line_front : (bytes : List ℕ) (s : Step) (rest : List ℕ) → FindsLine bytes s rest → IsFront bytes s rest
line_front bytes s rest found =
    let is = step_spelled found.line s found.is in
    record { spelled = cut_spelled 10 bytes found.line rest found.cut ∙ ap (λ xs. xs ++ 10 ∷ rest) is.spelled; step = is.step }

edit_front : (bytes : List ℕ) (s : Step) (rest : List ℕ) → FindsEdit bytes s rest → IsFront bytes s rest
edit_front bytes s rest found =
    let head = head_spelled found.line found.name (length found.text) found.head in
    let line = subst (λ xs. lacks 10 xs ≡ true) head.spelled (line_lacks 10 bytes found.line (found.text ++ 10 ∷ rest) found.cut) in
    let name = behind_lacks 10 found.name (32 ∷ decimal (length found.text)) (behind_lacks 10 (codes "edit ") (found.name ++ 32 ∷ decimal (length found.text)) line).1 in
    subst (λ (x : Step). IsFront bytes x rest) (sym found.is) (record {
      spelled = cut_spelled 10 bytes found.line (found.text ++ 10 ∷ rest) found.cut ∙ ap (λ xs. xs ++ 10 ∷ (found.text ++ 10 ∷ rest)) head.spelled
          ∙ joined_lines found.name (decimal (length found.text)) found.text rest;
      step = (head.spaceless, name.0, omega (arith, head.short));
    })

first_spelled : (bytes : List ℕ) (s : Step) (rest : List ℕ) → first_step bytes ≡ Some (s, rest) → IsFront bytes s rest
first_spelled bytes s rest e = ⊎_elim (line_front bytes s rest) (edit_front bytes s rest) (first_cut bytes s rest e)

-- a step that is read is in its ranges
pub read_range : (bytes : List ℕ) (o : Option (code.Step × Bor (List ℕ))) → option_map read_as o ≡ first_step bytes
    → IfSome o (λ found. IsStep (meaning found.0))
read_range bytes None e = tt
read_range bytes (Some found) e = (first_spelled bytes (meaning found.0) found.1.now (sym e)).step

pub read_within : (bytes : List ℕ) (o : Option (code.Step × Bor (List ℕ))) → option_map read_as o ≡ first_step bytes
    → IfSome o (λ found. IsWithin (meaning found.0))
read_within bytes None e = tt
read_within bytes (Some found) e = step_within (meaning found.0) (first_spelled bytes (meaning found.0) found.1.now (sym e)).step

-- what is spelled so is read

aim_found : (worker : ℕ) (target : List ℕ) → worker < most_workers → is_target target ≡ true
    → aim_of (decimal worker ++ 32 ∷ target) ≡ Some (worker, target)
unfolding aim_of
aim_found worker target small is =
    let parts = cut_found 32 (decimal worker) target (lacking is_ascii_digit 32 refl (decimal worker) (decimal_digits worker (omega arith))) in
    let number = number_found most_workers worker (omega arith) small in
    rw (parts, number, is) refl

step_found : (s : Step) → IsPlain s → IsStep s → step_of (line_of s) ≡ Some s
unfolding step_of take_of publish_of get_of tick_of crash_of compact_of
step_found (take worker target) plain is = let aim = aim_found worker target is.0 is.1 in rw aim refl
step_found (publish worker) plain is = let number = number_found most_workers worker (omega arith) is in rw number refl
step_found (get worker target) plain is = let aim = aim_found worker target is.0 is.1 in rw aim refl
step_found (tick time) plain is = let number = number_found (2 ^ 62) time (omega arith) is in rw number refl
step_found (crash shelf) plain is = let number = number_found (2 ^ 32) shelf (omega arith) is in rw number refl
step_found (compact shelf) plain is = let number = number_found (2 ^ 32) shelf (omega arith) is in rw number refl
step_found (edit name text) plain is = absurd plain
step_found (crash_edited shelf) plain is = absurd plain

-- no other step is the head of an edit
no_head : (s : Step) → IsPlain s → edit_head (line_of s) ≡ None
unfolding edit_head
no_head (take worker target) plain = refl
no_head (publish worker) plain = refl
no_head (get worker target) plain = refl
no_head (tick time) plain = refl
no_head (crash shelf) plain = refl
no_head (compact shelf) plain = refl
no_head (edit name text) plain = absurd plain
no_head (crash_edited shelf) plain = absurd plain

head_found : (name : List ℕ) (size : ℕ) → lacks 32 name ≡ true → size < 16777217
    → edit_head (codes "edit " ++ (name ++ 32 ∷ decimal size)) ≡ Some (name, size)
unfolding edit_head
head_found name size spaceless short =
    let parts = cut_found 32 name (decimal size) spaceless in
    let number = number_found 16777217 size (omega arith) short in
    rw (parts, number) refl

-- no newline stands in a line

digits_lack : (n : ℕ) → n < 2 ^ 64 → lacks 10 (decimal n) ≡ true
digits_lack n small = lacking is_ascii_digit 10 refl (decimal n) (decimal_digits n small)

aim_lacks : (worker : ℕ) (target : List ℕ) → worker < most_workers → is_target target ≡ true → lacks 10 (decimal worker ++ 32 ∷ target) ≡ true
aim_lacks worker target small is =
    let digits_have = digits_lack worker (omega arith) in
    let target_has = lacking is_target_byte 10 refl target (and_parts _ (list_all is_target_byte target) is).1 in
    rw (list_all-append (λ b. not (b == 10)) (decimal worker) (32 ∷ target), digits_have, target_has) refl

lineless : (s : Step) → IsPlain s → IsStep s → lacks 10 (line_of s) ≡ true
lineless (take worker target) plain is = aim_lacks worker target is.0 is.1
lineless (publish worker) plain is = digits_lack worker (omega arith)
lineless (get worker target) plain is = aim_lacks worker target is.0 is.1
lineless (tick time) plain is = digits_lack time (omega arith)
lineless (crash shelf) plain is = digits_lack shelf (omega arith)
lineless (compact shelf) plain is = digits_lack shelf (omega arith)
lineless (edit name text) plain is = absurd plain
lineless (crash_edited shelf) plain is = absurd plain

head_lacks : (name : List ℕ) (size : ℕ) → lacks 10 name ≡ true → size < 2 ^ 64 → lacks 10 (codes "edit " ++ (name ++ 32 ∷ decimal size)) ≡ true
head_lacks name size lineless small =
    let digits_have = digits_lack size small in
    rw (list_all-append (λ b. not (b == 10)) name (32 ∷ decimal size), lineless, digits_have) refl

not_true : (b : Bool) → not b ≡ true → b ≡ false
not_true false e = refl
not_true true e = absurd (let no : ⊥ = cc in no)

no_newline : (bytes : List ℕ) → lacks 10 bytes ≡ true → newlines bytes ≡ 0
no_newline [] e = refl
no_newline (b ∷ bytes) e =
    let parts = and_parts (not (b == 10)) (lacks 10 bytes) e in
    let other : (b == 10) ≡ false = not_true (b == 10) parts.0 in rw other (no_newline bytes parts.1)

newlines_joined : (xs ys : List ℕ) → newlines (xs ++ ys) ≡ newlines xs + newlines ys
newlines_joined [] ys = omega arith
newlines_joined (x ∷ xs) ys = by_test (x == 10) (newlines_joined xs ys)
  where
    by_test : (t : Bool) → newlines (xs ++ ys) ≡ newlines xs + newlines ys
        → (if t then suc (newlines (xs ++ ys)) else newlines (xs ++ ys)) ≡ (if t then suc (newlines xs) else newlines xs) + newlines ys
    by_test true h = omega (arith, h)
    by_test false h = h

plain_counted : (s : Step) → IsPlain s → IsStep s → lines_in s ≡ newlines (line_of s) + 1
plain_counted s plain is = let none = no_newline (line_of s) (lineless s plain is) in omega (arith, none, one_line s plain)

edit_counted : (name text : List ℕ) → IsStep (edit name text) → lines_in (edit name text) ≡ newlines (line_of (edit name text)) + 1
edit_counted name text is =
    let count = decimal (length text) in
    let front = codes "edit " ++ (name ++ 32 ∷ count) in
    let whole : line_of (edit name text) ≡ front ++ 10 ∷ text = ap (λ xs. codes "edit " ++ xs) (sym (append_assoc name (32 ∷ count) (10 ∷ text))) in
    let none = no_newline front (head_lacks name (length text) is.1 (omega (arith, is.2))) in
    omega (arith, ap newlines whole ∙ newlines_joined front (10 ∷ text), none)

pub lines_are_counted : LinesAreCounted
lines_are_counted (take worker target) is = plain_counted (take worker target) tt is
lines_are_counted (publish worker) is = plain_counted (publish worker) tt is
lines_are_counted (get worker target) is = plain_counted (get worker target) tt is
lines_are_counted (tick time) is = plain_counted (tick time) tt is
lines_are_counted (crash shelf) is = plain_counted (crash shelf) tt is
lines_are_counted (compact shelf) is = plain_counted (compact shelf) tt is
lines_are_counted (edit name text) is = edit_counted name text is
lines_are_counted (crash_edited shelf) is = absurd is

-- all lines

plain_first : (s : Step) (rest : List ℕ) → IsPlain s → IsStep s → first_step (line_of s ++ 10 ∷ rest) ≡ Some (s, rest)
plain_first s rest plain is =
    cut_first (line_of s ++ 10 ∷ rest) (line_of s) rest s (cut_found 10 (line_of s) rest (lineless s plain is)) (no_head s plain) (step_found s plain is)

edit_first : (name text rest : List ℕ) → IsStep (edit name text) → first_step (line_of (edit name text) ++ 10 ∷ rest) ≡ Some (edit name text, rest)
edit_first name text rest is =
    let line = codes "edit " ++ (name ++ 32 ∷ decimal (length text)) in
    let cut = cut_found 10 line (text ++ 10 ∷ rest) (head_lacks name (length text) is.1 (omega (arith, is.2))) in
    ap first_step (sym (joined_lines name (decimal (length text)) text rest))
    ∙ cut_edit (line ++ 10 ∷ (text ++ 10 ∷ rest)) line name text rest cut (head_found name (length text) is.0 (omega (arith, is.2)))

step_first : (s : Step) (rest : List ℕ) → IsStep s → first_step (line_of s ++ 10 ∷ rest) ≡ Some (s, rest)
step_first (take worker target) rest is = plain_first (take worker target) rest tt is
step_first (publish worker) rest is = plain_first (publish worker) rest tt is
step_first (get worker target) rest is = plain_first (get worker target) rest tt is
step_first (tick time) rest is = plain_first (tick time) rest tt is
step_first (crash shelf) rest is = plain_first (crash shelf) rest tt is
step_first (compact shelf) rest is = plain_first (compact shelf) rest tt is
step_first (edit name text) rest is = edit_first name text rest is
step_first (crash_edited shelf) rest is = absurd is

lines_read : (steps : List Step) → AreSteps steps → steps_of (lines_of steps) ≡ map Some steps
lines_read [] are = steps_nil
lines_read (s ∷ steps) are =
    steps_first (line_of s ++ 10 ∷ lines_of steps) s (lines_of steps) (step_first s (lines_of steps) are.0)
    ∙ ap (λ os. Some s ∷ os) (lines_read steps are.1)

heads : {A : Type 0} {x y : A} {xs ys : List A} → x ∷ xs ≡ y ∷ ys → (x ≡ y) × (xs ≡ ys)
heads e = (cc, cc)

lines_spelled : (steps : List Step) (bytes : List ℕ) → steps_of bytes ≡ map Some steps → (bytes ≡ lines_of steps) × AreSteps steps
lines_spelled [] [] e = (refl, tt)
lines_spelled [] (b ∷ bs) e = by_first (first_step (b ∷ bs)) refl
  where
    by_first : (o : Option (Step × List ℕ)) → first_step (b ∷ bs) ≡ o → (b ∷ bs ≡ []) × Unit {0}
    by_first None k = absurd (let h = sym (steps_none (b ∷ bs) k (omega arith)) ∙ e in let no : ⊥ = cc in no)
    by_first (Some p) k = absurd (let h = sym (steps_first (b ∷ bs) p.0 p.1 k) ∙ e in let no : ⊥ = cc in no)
lines_spelled (s ∷ steps) [] e = absurd (let h = sym steps_nil ∙ e in let no : ⊥ = cc in no)
lines_spelled (s ∷ steps) (b ∷ bs) e = by_first (first_step (b ∷ bs)) refl (lines_spelled steps)
  where
    by_first : (o : Option (Step × List ℕ)) → first_step (b ∷ bs) ≡ o
        → ((more : List ℕ) → steps_of more ≡ map Some steps → (more ≡ lines_of steps) × AreSteps steps)
        → (b ∷ bs ≡ line_of s ++ 10 ∷ lines_of steps) × (IsStep s × AreSteps steps)
    by_first None k go =
        absurd (let h = heads (sym (steps_none (b ∷ bs) k (omega arith)) ∙ e) in let f = h.0 in let no : ⊥ = cc in no)
    by_first (Some p) k go =
        let h = heads (sym (steps_first (b ∷ bs) p.0 p.1 k) ∙ e) in
        let same : p.0 ≡ s = let f = h.0 in cc in
        let front = subst (λ (x : Step). IsFront (b ∷ bs) x p.1) same (first_spelled (b ∷ bs) p.0 p.1 k) in
        let later = go p.1 h.1 in (front.spelled ∙ ap (λ xs. line_of s ++ 10 ∷ xs) later.0, (front.step, later.1))

pub lines_are_steps : LinesAreSteps
lines_are_steps steps = (lines_read steps, lines_spelled steps)
