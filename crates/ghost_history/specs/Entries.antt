-- The entries of a history.
use Rattle.std.specs.Prelude.{List, [], ◌∷◌, ◌++◌}
use Rattle.ghost_history.specs.declared.past.Past.{Past, Nothing, Then'}

-- the entries of a history, the oldest first
abbrev pub entries : {E : Type 0} → Past E → List E
entries Nothing = []
entries (Then' m before entry) = entries before ++ entry ∷ []
