-- What the program's values stand for: the data of forms.
use Rattle.script_value.specs.Val.{Val, Vals, no_vals, val}
use Rattle.script_value.specs.Views.{meaning}
use Rattle.script_value.specs.declared.value.Value.{Value}

-- the parts of a form of two, of which the first is given as it is read
abbrev pub two_parts : Val → Value → Vals
two_parts first second = val first (val (meaning second) no_vals)

-- the test of an `if`, and what it chooses between
abbrev pub if_parts : Value → Value → Value → Vals
if_parts first second third = val (meaning first) (two_parts (meaning second) third)
