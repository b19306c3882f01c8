use Rattle.std.proofs.Common.{◌≡◌, ◌*◌, ◌+◌, drop, map}
use Rattle.script_value.specs.Val.{weight, weight_all, vals_of}
use Rattle.script_value.specs.Views.{meaning}
use Rattle.core_syntax.specs.Templates.{are_templates}
use Rattle.core_syntax.proofs.templates.+template.Given as goal

abbrev pub decreases-is_template : goal.decreases-is_template
decreases-is_template l = 4 * weight (meaning l.template.now) + 1

abbrev pub decreases-is_list_template : goal.decreases-is_list_template
decreases-is_list_template l = 4 * weight_all (vals_of (map meaning l.items.now)) + 4

abbrev pub decreases-are_templates : goal.decreases-are_templates
decreases-are_templates l = 4 * weight_all (vals_of (map meaning l.items.now)) + 3

abbrev pub decreases-is_item : goal.decreases-is_item
decreases-is_item l = 4 * weight (meaning l.item.now) + 2

abbrev pub invariant-are_templates-loop-item : goal.invariant-are_templates-loop-item
invariant-are_templates-loop-item l = are_templates (vals_of (map meaning l.items)) ≡ are_templates (vals_of (map meaning (drop l.item-index l.items)))
