-- What the program's setup stands for.
use Rattle.std.specs.Prelude.{◌≡◌, Option, Result, Ok, Err, ⊤, ℕ, List}
use Rattle.page_names.specs.Views.{name_of}
use Rattle.script_nodes.specs.Views.{scripts_of, named_of}
use Rattle.std.specs.Borrow.{Bor}
use Rattle.script_nodes.specs.declared.library.ScriptText.{ScriptText}
use Rattle.script_nodes.specs.declared.setup.NamedScript.{NamedScript}
use Rattle.script_nodes.specs.Setup.{Named}
use Rattle.setup_reader.specs.declared.fault.SetupError.{SetupError}
use Rattle.setup_reader.specs.declared.fault.SetupError.TheVariants as error
use Rattle.setup_reader.specs.declared.fault.SetupFault.{SetupFault}
use Rattle.setup_reader.specs.declared.fault.SetupFault.TheVariants.{Memory, At}
use Rattle.setup_reader.specs.declared.setup.Section.{Section}
use Rattle.setup_reader.specs.declared.setup.Parsed.{Parsed}
use Rattle.setup_reader.specs.Setup as spec
use Rattle.setup_reader.specs.Texts.{if_new, script_of_text}
use Rattle.setup_reader.specs.Faults.{fault_line}

-- a section of a setup: the name and the text of its script, and the bytes after it
abbrev pub piece_of : Section → spec.Piece
piece_of s = record { name = name_of s.name; text = s.text.now; rest = s.rest.now }

-- the scripts that a setup has, and the bytes of the steps after it
abbrev pub parsed_of : Parsed → spec.Parsed
parsed_of p = record { scripts = scripts_of p.setup; steps = p.steps.now }

-- the name and the text that a journal told
abbrev pub told_of : ScriptText → List ℕ × List ℕ
told_of t = (t.name, t.text)

-- the script that a journal told after these scripts: none where it is none, or one of them has its name
abbrev pub next_told : List Named → ScriptText → Option Named
next_told scripts t = if_new scripts (script_of_text (told_of t))

-- the fault of a setup that the program's error stands for
abbrev pub fault_of : SetupError → spec.Fault
fault_of (error.Setup place kind) = spec.at_section place kind
fault_of (error.Read name e) = spec.at_text (name_of name) e.place e.kind
fault_of (error.Syntax name e) = spec.at_form (name_of name) e.form e.kind

-- the line that tells a fault
abbrev pub line_of : SetupError → List ℕ
line_of e = fault_line (fault_of e)

-- an answer with a fault is that fault; want of memory is free
abbrev pub Fails : {Y : Type 0} → SetupFault → Result Y spec.Fault → Type 0
Fails Memory wanted = ⊤
Fails (At e) wanted = wanted ≡ Err (fault_of e)

-- an answer, seen by view, is what is wanted
abbrev pub Gives : {X Y : Type 0} → (X → Y) → Result X SetupFault → Result Y spec.Fault → Type 0
Gives view (Ok x) wanted = wanted ≡ Ok (view x)
Gives view (Err e) wanted = Fails e wanted

-- the script that is answered is the one that is wanted, and what follows its section
abbrev pub Finds : Result (NamedScript × Bor (List ℕ)) SetupFault → Result (Named × List ℕ) spec.Fault → Type 0
Finds result wanted = Gives (λ found. (named_of found.0, found.1.now)) result wanted

-- the script of the section that these bytes begin with was found, after these scripts and at this place
abbrev pub FindsNext : ℕ → List Named → List ℕ → Result (NamedScript × Bor (List ℕ)) SetupFault → Type 0
FindsNext place scripts bytes result = Finds result (spec.script_at place scripts (spec.section_in bytes))

-- a fault that is told has this property; want of memory is free
abbrev pub Tells : {X : Type 0} → (spec.Fault → Type 0) → Result X SetupFault → Type 0
Tells P (Ok x) = ⊤
Tells P (Err Memory) = ⊤
Tells P (Err (At e)) = P (fault_of e)
