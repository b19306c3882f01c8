use Rattle.std.proofs.Common.{map, drop}
use Rattle.std.specs.Prelude.{◌↔◌}
use Rattle.web_cells.specs.Own.{BindsAllOf}
use Rattle.web_cells.specs.Views.{pair_of}
use Rattle.kept_states.proofs.shades.binds_all_of.Given as goal

abbrev pub invariant-loop-shadow : goal.invariant-loop-shadow
invariant-loop-shadow l =
    BindsAllOf (map pair_of (drop l.shadow-index l.shadow-items)) l.child ↔ BindsAllOf (map pair_of l.shadow-items) l.child
