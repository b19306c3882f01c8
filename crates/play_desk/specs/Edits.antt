-- Edits of a setup.
use Rattle.std.specs.Prelude.{◌≡◌, ℕ, List, [], ◌∷◌, ◌++◌, length, nat_lt, slice_get, slice_set, option_map, Option, Some, None, if◌then◌else◌}
use Rattle.script_nodes.specs.Setup.{Named, place_named}
use Rattle.script_nodes.specs.Views.{named_of, scripts_of}
use Rattle.script_nodes.specs.declared.setup.NamedScript.{NamedScript}
use Rattle.script_nodes.specs.declared.setup.Setup.{Setup}
use Rattle.server_limits.specs.Counts.{most_scripts}
use Rattle.setup_reader.specs.Texts.{script_of_text}

-- A setup with this script at the place where one of its name stands, if one does, or else after the others: none where there would be too
-- many.
abbrev pub placed_at : List Named → Named → (place : Option ℕ) → Option (List Named)
placed_at scripts s (Some k) = Some (slice_set scripts k s)
placed_at scripts s None = if nat_lt (length scripts) most_scripts then Some (scripts ++ s ∷ []) else None

-- a setup with this script, if it is one
abbrev pub with_script : List Named → Option Named → Option (List Named)
with_script scripts None = None
with_script scripts (Some s) = placed_at scripts s (place_named s.name scripts)

-- A setup in which the script of this name has this text, or that has it after its other scripts: none where the name is no script's name,
-- where the text is outside the grammar, and where it would be a script too many.
abbrev pub edited : List Named → (name text : List ℕ) → Option (List Named)
edited scripts name text = with_script scripts (script_of_text (name, text))

-- the script is the one that stands at a place of a setup that has this one at another
abbrev pub IsAt : List Named → (place : ℕ) → Named → (other : ℕ) → NamedScript → Type 0
IsAt scripts k s j copy = slice_get (slice_set scripts k s) j ≡ Some (named_of copy)

-- The setup that is found, if one is, has this script after those of another one.
abbrev pub IsPlacedBehind : List Named → Named → (found : Option Setup) → Type 0
IsPlacedBehind scripts s found = option_map scripts_of found ≡ placed_at scripts s None
