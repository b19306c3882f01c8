-- The setup that names and texts are, as a journal tells them.
use Rattle.std.specs.Prelude.{◌≡◌, ℕ, Bool, true, ◌&&◌, not, List, [], ◌∷◌, ◌++◌, length, Option, Some, None, Result, Ok, Err, nat_le, if◌then◌else◌}
use Rattle.std.specs.List.{list_any}
use Rattle.std.specs.Str.{bytes_eq}
use Rattle.page_names.specs.Names.{name_in}
use Rattle.script_value.specs.Pieces.{◌>>=◌}
use Rattle.script_nodes.specs.Setup.{Named, place_named, texts_of}
use Rattle.server_limits.specs.Counts.{most_scripts}
use Rattle.setup_reader.specs.Setup.{Fault, script_in}

-- a script that was read, where there was no fault
abbrev pub read_script : Result Named Fault → Option Named
read_script (Ok s) = Some s
read_script (Err e) = None

-- The script of a name and a text: none where the name is no script's name, or the text is outside the grammar.
abbrev pub script_of_text : List ℕ × List ℕ → Option Named
script_of_text t = do
  name ← name_in t.0
  read_script (script_in name t.1)

-- the scripts of names and texts, in their order: none where one of them is none
abbrev pub scripts_of_texts : List (List ℕ × List ℕ) → Option (List Named)
scripts_of_texts [] = Some []
scripts_of_texts (t ∷ ts) = do
  script ← script_of_text t
  scripts ← scripts_of_texts ts
  Some (script ∷ scripts)

-- one of these names is this one
abbrev pub is_among : List ℕ → List (List ℕ) → Bool
is_among name names = list_any (λ n. bytes_eq n name) names

-- each of these texts has another name than those before it
abbrev pub are_new : (before : List (List ℕ)) → List (List ℕ × List ℕ) → Bool
are_new before [] = true
are_new before (t ∷ ts) = not (is_among t.0 before) && are_new (before ++ t.0 ∷ []) ts

-- names and texts are as many as a setup may have scripts, and each name is another one
abbrev pub can_be_setup : List (List ℕ × List ℕ) → Bool
can_be_setup texts = nat_le 1 (length texts) && nat_le (length texts) most_scripts && are_new [] texts

-- The setup that names and texts are: none where they are none or more than a setup may have, where a name stands twice, where a name is
-- no script's name, or where a text is outside the grammar.
unfoldable pub setup_of_texts : List (List ℕ × List ℕ) → Option (List Named)
setup_of_texts texts = if can_be_setup texts then scripts_of_texts texts else None

-- A setup is what its names and texts are read as.
abbrev pub IsReadSetup : List Named → Type 0
IsReadSetup scripts = setup_of_texts (texts_of scripts) ≡ Some scripts

-- a script, where no earlier one stands at a place under its name
abbrev pub if_unnamed : Named → Option ℕ → Option Named
if_unnamed s None = Some s
if_unnamed s (Some twin) = None

-- a script, where its name is another one than those of these scripts
abbrev pub if_new : List Named → Option Named → Option Named
if_new scripts None = None
if_new scripts (Some s) = if_unnamed s (place_named s.name scripts)
