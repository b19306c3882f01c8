-- What the expander answers for the table of forms.
use Rattle.std.specs.Prelude.{◌≡◌, ℕ, length, Result, Ok, Err, ⊤, []}
use Rattle.core_syntax.specs.declared.faults.SyntaxKind.{SyntaxKind}
use Rattle.core_syntax.specs.declared.faults.ExpandFault.{ExpandFault}
use Rattle.core_syntax.specs.declared.faults.ExpandFault.TheVariants.{Memory, At}
use Rattle.core_syntax.specs.declared.faults.ReadFault.{ReadFault}
use Rattle.core_syntax.specs.declared.faults.ReadFault.TheVariants.{Memory as ReadMemory, Syntax}
use Rattle.core_syntax.specs.Definitions.{Defined}
use Rattle.script_nodes.specs.Closed.{AreBodies}
use Rattle.script_nodes.specs.Core.{cores_of}
use Rattle.script_nodes.specs.Setup.{Script}
use Rattle.core_syntax.specs.Names.{parameters_in}
use Rattle.script_nodes.specs.Arena.{Arena, script_of}

-- the script stands for the table's, or the table's fault is answered; want of memory may come at any time
abbrev pub Expands : Result Arena ExpandFault → Result Script (SyntaxKind × ℕ) → Type 0
Expands (Ok a) e = e ≡ Ok (script_of a)
Expands (Err Memory) e = ⊤
Expands (Err (At x)) e = e ≡ Err (x.kind, x.form)

-- the fault that is answered is this one, of the form of this number, or want of memory
abbrev pub ExpandsFault : ExpandFault → ℕ → ReadFault → Type 0
ExpandsFault e number ReadMemory = e ≡ Memory
ExpandsFault e number (Syntax k) = e ≡ At (record { kind = k; form = number })

-- each cell has a name and a value, and each task a name and a body, which is closed
pub record IsLevel (d : Defined) : Type 0 where
  pub web : length d.web ≡ length d.names.web
  pub cells : length d.cells ≡ length d.names.instance
  pub tasks : AreBodies (length d.names.web) (length d.names.instance) [] (parameters_in d.names) (cores_of d.tasks)

-- no names are told that are defined later
abbrev pub IsOpen : Defined → Type 0
IsOpen d = d.names.later ≡ []
