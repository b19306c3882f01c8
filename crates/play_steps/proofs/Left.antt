-- What is left of a text, by what stands next.
use Rattle.std.proofs.Common.{◌≡◌, ◌≤◌, ◌<◌, ◌-◌, ◌++◌, ℕ, List, [], ◌∷◌, length, Some, None, ap, ◌∙◌, arith}
use Rattle.play_steps.specs.declared.course.Course.{Course}
use Rattle.play_steps.specs.Step.{Step, crashes_from, brought_by, with_crashes, first_step, steps_of}
use Rattle.play_steps.specs.Courses.{left_in}
use Rattle.play_steps.proofs.Lines.{steps_first, steps_none, steps_nil}

-- where no crash is brought still, the steps of the bytes are left
no_crash : (c : Course) → c.shelves ≤ c.shelf → left_in c ≡ with_crashes c.shelves (steps_of c.rest.now)
no_crash c past =
    let none : c.shelves - c.shelf ≡ 0 = omega arith in
    ap (λ n. crashes_from c.shelf n ++ with_crashes c.shelves (steps_of c.rest.now)) none

pub left_over : (c : Course) → c.shelves ≤ c.shelf → c.rest.now ≡ [] → left_in c ≡ []
left_over c past none = no_crash c past ∙ ap (λ bytes. with_crashes c.shelves (steps_of bytes)) none ∙ ap (with_crashes c.shelves) steps_nil

pub left_step : (c : Course) (s : Step) (rest : List ℕ) → c.shelves ≤ c.shelf → first_step c.rest.now ≡ Some (s, rest)
    → left_in c ≡ Some s ∷ (brought_by c.shelves s ++ with_crashes c.shelves (steps_of rest))
left_step c s rest past e = no_crash c past ∙ ap (with_crashes c.shelves) (steps_first c.rest.now s rest e)

pub left_none : (c : Course) → c.shelves ≤ c.shelf → first_step c.rest.now ≡ None → 0 < length c.rest.now → left_in c ≡ None ∷ []
left_none c past e some = no_crash c past ∙ ap (with_crashes c.shelves) (steps_none c.rest.now e some)
