-- How large a setup may be.
use Rattle.std.specs.Prelude.{ℕ, ◌≤◌, List, [], ◌∷◌, length}
use Rattle.web_outside.specs.Limits.{most_of_input}
use Rattle.script_nodes.specs.Setup.{Named}
use Rattle.sexp_reader.specs.Limits.{most_bytes}

-- how many bytes the section of a script may have: as many as a whole input
abbrev pub most_script_bytes : ℕ
most_script_bytes = most_of_input

-- how many bytes the name of a script may have
abbrev pub most_name_bytes : ℕ
most_name_bytes = 32

-- each script has a name and a text that are not too long
abbrev pub AreShort : List Named → Type 0
AreShort [] = Unit {0}
AreShort (s ∷ ss) = (length s.name ≤ most_name_bytes) × (length s.text ≤ most_bytes) × AreShort ss
