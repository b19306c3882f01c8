-- Templates of a quasiquote.
use Rattle.std.specs.Prelude.{◌==◌, ◌&&◌, ◌||◌, not, Bool, true, false, codes, if◌then◌else◌}
use Rattle.script_value.specs.Val.{Val, Vals, list, no_vals, val}
use Rattle.core_syntax.specs.Shapes.{count_of, begins, is_headed}

-- whether an item is `(unquote-splicing ..)`
abbrev pub is_splice : Val → Bool
is_splice v = is_headed (codes "unquote-splicing") v

-- whether one of these items is an unquote-splicing
abbrev pub has_splice : Vals → Bool
has_splice no_vals = false
has_splice (val v vs) = is_splice v || has_splice vs

-- whether a list has one expression after its head, as `(unquote-splicing e)` has
abbrev pub is_mark_of_one : Val → Bool
is_mark_of_one (list vs) = count_of vs == 2
is_mark_of_one _ = false

-- A template has one expression in each unquote; an unquote-splicing stands only as an item, and a quasiquote not at all.
abbrev mutual
  pub is_template : Val → Bool
  is_template (list vs) =
      if begins (codes "quasiquote") vs || begins (codes "unquote-splicing") vs then false else
      if begins (codes "unquote") vs then count_of vs == 2 else are_templates vs
  is_template _ = true

  -- whether each of these items may stand in a template's list
  pub are_templates : Vals → Bool
  are_templates no_vals = true
  are_templates (val v vs) = (if is_splice v then is_mark_of_one v else is_template v) && are_templates vs

-- whether this may stand as an item of a template
abbrev pub is_item : Val → Bool
is_item v = if is_splice v then is_mark_of_one v else is_template v

-- whether a template has no unquote and no unquote-splicing in it
abbrev mutual
  pub is_plain : Val → Bool
  is_plain (list vs) = not (begins (codes "unquote") vs || begins (codes "unquote-splicing") vs) && are_plain vs
  is_plain _ = true

  -- whether no item has an unquote in it
  pub are_plain : Vals → Bool
  are_plain no_vals = true
  are_plain (val v vs) = is_plain v && are_plain vs
