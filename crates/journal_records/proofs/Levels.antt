-- Of values that nest no deeper than so many levels.
use Rattle.std.proofs.Common.{◌≡◌, ℕ, ◌≤◌, List}
use Rattle.std.specs.Prelude.{◌↔◌}
use Rattle.std.specs.List.{list_all, AllByRecursion}
use Rattle.script_value.specs.Val.{Vals, depth_all}
use Rattle.instance_cells.specs.Cells.{Effect}
use Rattle.journal_records.specs.Fields.{AreTyped, is_shallow_effect, IsTypedEffect}

-- where what is left of values is within the levels, and typed, so are all
pub record NestsAs (levels : ℕ) (left all : Vals) : Type 0 where
  pub within : (depth_all left ≤ levels) ↔ (depth_all all ≤ levels)
  pub typed : AreTyped left → AreTyped all

pub record NestAs (left all : List Effect) : Type 0 where
  pub shallow : list_all is_shallow_effect left ≡ list_all is_shallow_effect all
  pub typed : AllByRecursion IsTypedEffect left → AllByRecursion IsTypedEffect all
