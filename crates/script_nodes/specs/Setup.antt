-- A setup: scripts with their names and texts.
use Rattle.std.specs.Prelude.{ℕ, List, Bool, map, Option, Some, None, option_map, position, slice_get}
use Rattle.std.specs.Str.{bytes_eq}
use Rattle.script_value.specs.Val.{Val}
use Rattle.script_nodes.specs.Core.{Core, Cores, core}

-- what a script means: what its web cells and its instance cells begin with, the bodies of its tasks, and its expression
pub record Script : Type 0 where
  pub web : List Val
  pub cells : List Val
  pub tasks : Cores
  pub body : Core

-- the trees of a script in the order of their nodes: the expression, and after it the bodies of tasks
abbrev pub trees_of : Script → Cores
trees_of s = core s.body s.tasks

-- a script's name, its text, and what the text means
pub record Named : Type 0 where
  pub name : List ℕ
  pub text : List ℕ
  pub script : Script

-- whether a script has this name
abbrev pub has_name : List ℕ → Named → Bool
has_name name s = bytes_eq s.name name

-- the place of the first script of a name
abbrev pub place_named : List ℕ → List Named → Option ℕ
place_named name scripts = position (has_name name) scripts

-- the script of a place
abbrev pub script_at : List Named → Option ℕ → Option Script
script_at scripts None = None
script_at scripts (Some k) = option_map (λ s. s.script) (slice_get scripts k)

-- the first script of a name
abbrev pub script_named : List ℕ → List Named → Option Script
script_named name scripts = script_at scripts (place_named name scripts)

-- the name and the text of a script
abbrev pub text_of : Named → List ℕ × List ℕ
text_of s = (s.name, s.text)

-- the names and the texts of scripts
abbrev pub texts_of : List Named → List (List ℕ × List ℕ)
texts_of scripts = map text_of scripts

-- the scripts that a journal told, setup by setup in its order, and those of the present setup, which it told last
pub record Library : Type 0 where
  pub all : List Named
  pub setup : List Named
