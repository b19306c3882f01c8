-- What contracts see of the parts of a script on the way to it.
use Rattle.std.specs.Prelude.{◌≡◌, ℕ, Result, Ok, Err, []}
use Rattle.script_value.specs.Val.{Val}
use Rattle.script_value.specs.Views.{meaning}
use Rattle.core_syntax.specs.declared.faults.SyntaxKind.{SyntaxKind}
use Rattle.core_syntax.specs.declared.faults.ExpandFault.{ExpandFault}
use Rattle.core_syntax.specs.declared.forms.Last.{Last}
use Rattle.core_syntax.specs.declared.forms.Laid.{Laid}
use Rattle.core_syntax.specs.Definitions.{Defined, expression_at}
use Rattle.core_syntax.specs.Expands.{Expands}
use Rattle.script_nodes.specs.Arena.{Arena, script_of}
use Rattle.script_nodes.specs.Setup.{Script}

-- the script is that of this expression, after what is defined; or its fault is answered
abbrev pub ExpandsLast : Result Last ExpandFault → Defined → Result Script (SyntaxKind × ℕ) → Type 0
ExpandsLast (Ok x) d e = e ≡ expression_at x.number d (meaning x.form.now) []
ExpandsLast (Err k) d e = Expands (Err k) e

-- these nodes with what cells begin with
abbrev pub arena_in : Laid → Defined → Arena
arena_in laid d = record { nodes = laid.nodes; web = d.web; cells = d.cells; tasks = laid.starts }

-- these nodes with what cells begin with stand for the script of this expression, the form of this number; or its fault is answered
abbrev pub LaysOut : Result Laid ExpandFault → Defined → ℕ → Val → Type 0
LaysOut (Ok laid) d number v = expression_at number d v [] ≡ Ok (script_of (arena_in laid d))
LaysOut (Err k) d number v = Expands (Err k) (expression_at number d v [])
