-- What the program's values stand for: setups.
use Rattle.std.specs.Prelude.{◌≡◌, ℕ, List, map, drop, slice_get, Option, Some, None}
use Rattle.page_names.specs.Views.{name_of}
use Rattle.script_nodes.specs.declared.setup.NamedScript.{NamedScript}
use Rattle.script_nodes.specs.declared.setup.Setup.{Setup}
use Rattle.script_nodes.specs.declared.library.Library as kept
use Rattle.script_nodes.specs.Arena.{script_of}
use Rattle.script_nodes.specs.Setup.{Named, Library}

-- a script with its name and its text
abbrev pub named_of : NamedScript → Named
named_of s = record { name = name_of s.name; text = s.text; script = script_of s.script }

-- the scripts in their order
abbrev pub scripts_of : Setup → List Named
scripts_of s = map named_of s.scripts.items

-- all scripts of a journal, and those from the first present one on
abbrev pub library_of : kept.Library → Library
library_of l = let all = scripts_of l.scripts in record { all = all; setup = drop l.first all }

-- the script of this place in the present setup stands at that place among all, and there is none where the setup has no such place
abbrev pub IsStartAt : Library → (place : ℕ) → Option ℕ → Type 0
IsStartAt l k None = slice_get l.setup k ≡ None
IsStartAt l k (Some n) = slice_get l.all n ≡ slice_get l.setup k
