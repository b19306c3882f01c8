-- Which inputs spell a setup, apart from how it is read.
use Rattle.std.specs.Prelude.{◌≡◌, ℕ, ◌≤◌, List, [], ◌∷◌, ◌++◌, length, Ok, None, IsTrue, codes}
use Rattle.std.specs.Fmt.{decimal}
use Rattle.script_value.specs.Val.{Val}
use Rattle.page_names.specs.Names.{is_name}
use Rattle.sexp_reader.specs.Spells.{Spells}
use Rattle.core_syntax.specs.Definitions.{expanded}
use Rattle.script_nodes.specs.Setup.{Named, place_named}
use Rattle.setup_reader.specs.declared.setup.Ending.{Ending}
use Rattle.setup_reader.specs.declared.setup.Ending.TheVariants.{Steps, Input}
use Rattle.server_limits.specs.Counts.{most_scripts}
use Rattle.setup_reader.specs.Setup.{Parsed}

-- the section of a script: `script NAME LENGTH`, the script's bytes and a newline
abbrev pub section_text : List ℕ → List ℕ → List ℕ
section_text name text = codes "script " ++ (name ++ 32 ∷ (decimal (length text) ++ 10 ∷ (text ++ 10 ∷ [])))

-- the end of a setup, and what follows it
abbrev pub IsEnd : Ending → (rest steps : List ℕ) → Type 0
IsEnd Steps rest steps = rest ≡ codes "steps\n" ++ steps
IsEnd Input rest steps = (rest ≡ []) × (steps ≡ [])

-- the text of a setup: the sections of its scripts, one after the other, and then the rest
abbrev pub setup_text : List Named → (rest : List ℕ) → List ℕ
setup_text [] rest = rest
setup_text (s ∷ ss) rest = section_text s.name s.text ++ setup_text ss rest

-- a script has a name, and its text spells data that the table of forms takes
pub record IsScript (s : Named) : Type 0 where
  pub named : IsTrue (is_name s.name)
  pub data_of : List Val
  pub spelled : Spells s.text data_of
  pub means : expanded data_of ≡ Ok s.script

-- scripts, of which each has another name than those before it
abbrev pub AreScripts : List Named → List Named → Type 0
AreScripts before [] = Unit {0}
AreScripts before (s ∷ ss) = IsScript s × ((place_named s.name before ≡ None) × AreScripts (before ++ s ∷ []) ss)

-- An input spells a setup: scripts, each under a name of its own, and then what ends it.
pub record IsSetup (ending : Ending) (input : List ℕ) (setup : Parsed) : Type 0 where
  pub some : 1 ≤ length setup.scripts
  pub few : length setup.scripts ≤ most_scripts
  pub scripts : AreScripts [] setup.scripts
  pub rest : List ℕ
  pub spelled : input ≡ setup_text setup.scripts rest
  pub end : IsEnd ending rest setup.steps
