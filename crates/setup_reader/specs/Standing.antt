-- What stands before the first fault of a setup, and there.
use Rattle.std.specs.Prelude.{IsUtf8, ◌≡◌, ◌≢◌, ℕ, ◌≤◌, ◌<◌, List, [], ◌++◌, length, Some, None, Err, IsTrue}
use Rattle.script_value.specs.Val.{Val}
use Rattle.page_names.specs.Names.{is_name}
use Rattle.sexp_reader.specs.Limits.{most_bytes}
use Rattle.sexp_reader.specs.Read.{read}
use Rattle.sexp_reader.specs.Spells.{Spells}
use Rattle.core_syntax.specs.Definitions.{expanded}
use Rattle.script_nodes.specs.Setup.{Named, place_named}
use Rattle.setup_reader.specs.declared.setup.Ending.{Ending}
use Rattle.setup_reader.specs.declared.fault.SetupKind.{SetupKind}
use Rattle.setup_reader.specs.declared.fault.SetupKind.TheVariants.{Section, Repeat, Many, Empty, End}
use Rattle.server_limits.specs.Counts.{most_scripts}
use Rattle.setup_reader.specs.Limits.{most_script_bytes}
use Rattle.setup_reader.specs.Setup.{Fault, at_section, at_text, at_form}
use Rattle.setup_reader.specs.Sections.{section_text, setup_text, IsEnd, AreScripts}

-- these bytes begin with the section of a script, and others follow it
pub record IsSection (bytes name text after : List ℕ) : Type 0 where
  pub named : IsTrue (is_name name)
  pub short : length text ≤ most_script_bytes
  pub spelled : bytes ≡ section_text name text ++ after

-- these bytes begin with no section
abbrev pub NoSection : List ℕ → Type 0
NoSection bytes = (name text after : List ℕ) → IsSection bytes name text after → ⊥

-- no setup ends where these bytes stand
abbrev pub NoEnd : Ending → List ℕ → Type 0
NoEnd ending bytes = (steps : List ℕ) → IsEnd ending bytes steps → ⊥

-- the section of one more script begins these bytes: there is room for it after those scripts, and none has its name
pub record IsNext (scripts : List Named) (bytes name text : List ℕ) : Type 0 where
  pub after : List ℕ
  pub section : IsSection bytes name text after
  pub new : place_named name scripts ≡ None
  pub room : length scripts < most_scripts

-- these bytes have a fault of this kind after these scripts
abbrev pub SectionFault : Ending → List Named → List ℕ → SetupKind → Type 0
SectionFault ending scripts bytes Section = (bytes ≢ []) × NoEnd ending bytes × NoSection bytes
SectionFault ending scripts bytes End = (bytes ≡ []) × NoEnd ending bytes
SectionFault ending scripts bytes Empty = (scripts ≡ []) × (steps : List ℕ) × IsEnd ending bytes steps
SectionFault ending scripts bytes Repeat =
    (name text after : List ℕ) × (twin : ℕ) × IsSection bytes name text after × (place_named name scripts ≡ Some twin)
SectionFault ending scripts bytes Many =
    (name text after : List ℕ) × IsSection bytes name text after × (place_named name scripts ≡ None) × (most_scripts ≤ length scripts)

-- these bytes have this fault after these scripts, at this place
abbrev pub Stands : Ending → List Named → ℕ → List ℕ → Fault → Type 0
Stands ending scripts place bytes (at_section at kind) = (at ≡ place) × SectionFault ending scripts bytes kind
Stands ending scripts place bytes (at_text name at kind) = (text : List ℕ) × IsNext scripts bytes name text × (read text ≡ Err (at, kind))
Stands ending scripts place bytes (at_form name form kind) =
    (text : List ℕ) × (vs : List Val) × IsNext scripts bytes name text × Spells text vs × (expanded vs ≡ Err (kind, form))

-- An input has a first fault: scripts, each under a name of its own, and what has the fault after them.
pub record HasFault (ending : Ending) (input : List ℕ) (fault : Fault) : Type 0 where
  pub scripts : List Named
  pub rest : List ℕ
  pub few : length scripts ≤ most_scripts
  pub good : AreScripts [] scripts
  pub spelled : input ≡ setup_text scripts rest
  pub stands : Stands ending scripts (length (setup_text scripts [])) rest fault

-- a text that is not too long, and UTF-8
abbrev pub IsReadable : List ℕ → Type 0
IsReadable text = (length text ≤ most_bytes) × IsUtf8 text

-- these bytes begin with the section of a script whose text is not too long, and UTF-8
pub record HasText (bytes : List ℕ) : Type 0 where
  pub name : List ℕ
  pub text : List ℕ
  pub after : List ℕ
  pub section : IsSection bytes name text after
  pub short : length text ≤ most_bytes
  pub utf8 : IsUtf8 text
