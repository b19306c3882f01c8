-- Names that are defined further down, and tasks by their numbers.
use Rattle.std.proofs.Common.{◌≡◌, ℕ, zero, suc, List, [], ◌∷◌, map, Option, Some, None, refl, sym, ap, ◌∙◌}
use Rattle.std.specs.Prelude.{◌||◌, slice_get, unwrap_or}
use Rattle.script_value.specs.Val.{Val}
use Rattle.core_syntax.specs.declared.cell_names.TaskName.{TaskName}
use Rattle.core_syntax.specs.TaskNames.{task_name}
use Rattle.core_syntax.specs.Names.{Task, is_among}
use Rattle.core_syntax.specs.Headings.{has_defined, is_name, name_defined, names_defined, with_defined}

defined_step : (x : List ℕ) (o : Option (List ℕ)) (ys : List (List ℕ)) → is_among x (with_defined o ys) ≡ is_name x o || is_among x ys
defined_step x None ys = refl
defined_step x (Some y) ys = refl

pub defined_is : (x : List ℕ) (vs : List Val) → has_defined x vs ≡ is_among x (names_defined vs)
defined_is x [] = refl
defined_is x (v ∷ vs) = ap (λ b. is_name x (name_defined v) || b) (defined_is x vs) ∙ sym (defined_step x (name_defined v) (names_defined vs))

abbrev pub parameters_of : Task → ℕ
parameters_of t = t.parameters

pub task_at : (xs : List TaskName) (k : ℕ) (t : TaskName) → slice_get xs k ≡ Some t → unwrap_or (slice_get (map parameters_of (map task_name xs)) k) 0 ≡ t.parameters
task_at [] k t e = absurd (let no : ⊥ = cc in no)
task_at (x ∷ xs) zero t e = let f : x ≡ t = cc in rw f refl
task_at (x ∷ xs) (suc k) t e = task_at xs k t e

pub no_task_at : (xs : List TaskName) (k : ℕ) → slice_get xs k ≡ None → unwrap_or (slice_get (map parameters_of (map task_name xs)) k) 0 ≡ 0
no_task_at [] k e = refl
no_task_at (x ∷ xs) zero e = absurd (let no : ⊥ = cc in no)
no_task_at (x ∷ xs) (suc k) e = no_task_at xs k e
