-- The setup: sections of scripts, each `script NAME LENGTH`, the script's bytes and a newline, and then what ends it.
use Rattle.std.specs.Prelude.{ℕ, zero, suc, ◌+◌, ◌-◌, List, [], ◌∷◌, ◌++◌, Option, Some, None, Result, Ok, Err, take, drop, length, nat_le, codes, if◌then◌else◌}
use Rattle.script_value.specs.Val.{Val}
use Rattle.page_names.specs.Names.{name_in}
use Rattle.script_value.specs.Pieces.{◌>>=◌, cut_at, behind, number_below}
use Rattle.sexp_reader.specs.declared.fault.ReadKind.{ReadKind}
use Rattle.sexp_reader.specs.Read.{read}
use Rattle.core_syntax.specs.declared.faults.SyntaxKind.{SyntaxKind}
use Rattle.core_syntax.specs.Definitions.{expanded}
use Rattle.script_nodes.specs.Setup.{Script, Named, place_named}
use Rattle.server_limits.specs.Counts.{most_scripts}
use Rattle.setup_reader.specs.Limits.{most_script_bytes}
use Rattle.setup_reader.specs.declared.setup.Ending.{Ending}
use Rattle.setup_reader.specs.declared.setup.Ending.TheVariants.{Steps, Input}
use Rattle.setup_reader.specs.declared.fault.SetupKind.{SetupKind}
use Rattle.setup_reader.specs.declared.fault.SetupKind.TheVariants.{Section, Repeat, Many, Empty, End}

-- why an input has no setup: a section at a place, a script's text at a place in it, or a form of a script
pub data Fault : Type 0 where
  at_section : ℕ → SetupKind → Fault
  at_text : List ℕ → ℕ → ReadKind → Fault
  at_form : List ℕ → ℕ → SyntaxKind → Fault

-- a script's name and text, and what follows its section
pub record Piece : Type 0 where
  pub name : List ℕ
  pub text : List ℕ
  pub rest : List ℕ

-- the section that the input begins with
unfoldable pub section_in : List ℕ → Option Piece
section_in input = do
  section ← behind (codes "script ") input
  named ← cut_at 32 section
  line ← cut_at 10 named.1
  len ← number_below (most_script_bytes + 1) line.0
  name ← name_in named.0
  if nat_le len (length line.1) then (do
    rest ← behind (10 ∷ []) (drop len line.1)
    Some (record { name = name; text = take len line.1; rest = rest })) else None

-- the script of a section, where its forms make one, or the fault with the number of its form
abbrev pub by_forms : List ℕ → List ℕ → Result Script (SyntaxKind × ℕ) → Result Named Fault
by_forms name text (Ok s) = Ok (record { name = name; text = text; script = s })
by_forms name text (Err e) = Err (at_form name e.1 e.0)

-- the script of a section, where its text is data, or the fault with its place
abbrev pub by_data : List ℕ → List ℕ → Result (List Val) (ℕ × ReadKind) → Result Named Fault
by_data name text (Ok vs) = by_forms name text (expanded vs)
by_data name text (Err e) = Err (at_text name e.0 e.1)

-- the script that a text is: its data by the grammar, and these by the table of forms
abbrev pub script_in : List ℕ → List ℕ → Result Named Fault
script_in name text = by_data name text (read text)

-- the script of a section at this place after these scripts: its name is new, there is room for it, and then its text is read
abbrev pub named_next : ℕ → List Named → Option ℕ → Piece → Result Named Fault
named_next place scripts (Some twin) piece = Err (at_section place Repeat)
named_next place scripts None piece =
    if nat_le most_scripts (length scripts) then Err (at_section place Many) else script_in piece.name piece.text

-- a script, and what follows its section
abbrev pub with_rest : List ℕ → Result Named Fault → Result (Named × List ℕ) Fault
with_rest rest (Ok script) = Ok (script, rest)
with_rest rest (Err e) = Err e

-- the script of the section that stands at this place, where one does
abbrev pub script_at : ℕ → List Named → Option Piece → Result (Named × List ℕ) Fault
script_at place scripts None = Err (at_section place Section)
script_at place scripts (Some piece) =
    with_rest piece.rest (named_next place scripts (place_named piece.name scripts) piece)

-- what an input has: the scripts, and the bytes after them, which are those of the steps
pub record Parsed : Type 0 where
  pub scripts : List Named
  pub steps : List ℕ

-- what ends a setup here, if it does: the line `steps`, with what follows it, or the end of the input
abbrev pub ending_at : Ending → List ℕ → Option (List ℕ)
ending_at Steps rest = behind (codes "steps\n") rest
ending_at Input [] = Some []
ending_at Input (b ∷ bs) = None

-- what a setup that ends at this place comes to: it has one script or more
abbrev pub ended : ℕ → List Named → List ℕ → Result Parsed Fault
ended place [] steps = Err (at_section place Empty)
ended place (s ∷ ss) steps = Ok (record { scripts = s ∷ ss; steps = steps })

-- what comes after an answer: a fault goes through
abbrev pub after : {A B : Type 0} → Result A Fault → (A → Result B Fault) → Result B Fault
after (Ok x) f = f x
after (Err e) f = Err e

-- what the end of a setup comes to where it stands, and else what stands there instead
abbrev pub unless_ended : Option (List ℕ) → (List ℕ → Result Parsed Fault) → Result Parsed Fault → Result Parsed Fault
unless_ended (Some steps) end other = end steps
unless_ended None end other = other

-- what the end of the input comes to at this place, after these scripts
abbrev pub at_end : Ending → ℕ → List Named → List ℕ → Result Parsed Fault
at_end ending place scripts rest = unless_ended (ending_at ending rest) (ended place scripts) (Err (at_section place End))

-- the setup after these scripts, of an input with so many bytes; the count is of the sections and ends that are read at most
abbrev pub setup_from : ℕ → Ending → ℕ → List Named → List ℕ → Result Parsed Fault
setup_from zero ending total scripts rest = Err (at_section (total - length rest) Many)
setup_from (suc n) ending total scripts [] = at_end ending total scripts []
setup_from (suc n) ending total scripts (b ∷ bs) =
    let place = total - length (b ∷ bs) in
    unless_ended (ending_at ending (b ∷ bs)) (ended place scripts)
    (after (script_at place scripts (section_in (b ∷ bs))) (λ found. setup_from n ending total (scripts ++ found.0 ∷ []) found.1))

-- the whole setup, or its first fault: the sections that may be, and the end after them
unfoldable pub setup_of : Ending → List ℕ → Result Parsed Fault
setup_of ending input = setup_from (most_scripts + 1) ending (length input) [] input
