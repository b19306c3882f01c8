-- What the forms stand for that values are kept in.
use Rattle.std.specs.Prelude.{ℕ, pos, List, [], unwrap_or}
use Rattle.script_value.specs.Val.{Val, number}
use Rattle.script_value.specs.Views.{meaning}
use Rattle.wire_bytes.specs.Reading.{value_of}
use Rattle.value_bytes.specs.Spelling.{value_bytes, values_bytes, HasBytes, HaveBytes}
use Rattle.value_bytes.specs.Reading.{Reader, read_value, read_values}
use Rattle.value_bytes.specs.Laws.{Spells}
use Rattle.kept_states.specs.declared.value.ValueForm.{ValueForm}
use Rattle.kept_states.specs.declared.value.ValueForm.TheVariants as one
use Rattle.kept_states.specs.declared.list.ListForm.{ListForm}
use Rattle.kept_states.specs.declared.list.ListForm.TheVariants as many

-- what is read of these bytes, or this where nothing is read
abbrev pub read_or : {A : Type 0} → A → Reader A → List ℕ → A
read_or otherwise read bytes = unwrap_or (value_of (read bytes)) otherwise

-- the value that these bytes spell; 0 where they spell none
abbrev pub value_spelled : List ℕ → Val
value_spelled bytes = read_or (number (pos 0)) read_value bytes

-- the values that these bytes spell; none where they spell no values
abbrev pub values_spelled : List ℕ → List Val
values_spelled bytes = read_or [] read_values bytes

-- the value that is kept in this form
abbrev pub value_in : ValueForm → Val
value_in (one.Spelled bytes) = value_spelled bytes
value_in (one.Whole v) = meaning v

-- the values that are kept in this form
abbrev pub list_in : ListForm → List Val
list_in (many.Spelled bytes) = values_spelled bytes
list_in (many.Whole vs) = vs

-- a value that has a spelling is kept in it, and in no other bytes; one that has none is kept itself
abbrev pub IsValueForm : ValueForm → Type 0
IsValueForm (one.Spelled bytes) = Spells value_bytes HasBytes bytes (value_spelled bytes) []
IsValueForm (one.Whole v) = ¬ HasBytes (meaning v)

-- values that have a spelling are kept in it, and in no other bytes; those that have none are kept themselves
abbrev pub IsListForm : ListForm → Type 0
IsListForm (many.Spelled bytes) = Spells values_bytes HaveBytes bytes (values_spelled bytes) []
IsListForm (many.Whole vs) = ¬ HaveBytes vs
