-- The line that tells a fault of a setup.
use Rattle.std.specs.Prelude.{ℕ, List, [], ◌∷◌, ◌++◌, codes}
use Rattle.std.specs.Fmt.{decimal}
use Rattle.sexp_reader.specs.declared.fault.ReadKind.{ReadKind}
use Rattle.sexp_reader.specs.declared.fault.ReadKind.TheVariants as reading
use Rattle.core_syntax.specs.declared.faults.SyntaxKind.{SyntaxKind}
use Rattle.core_syntax.specs.declared.faults.SyntaxKind.TheVariants as syntax
use Rattle.setup_reader.specs.declared.fault.SetupKind.{SetupKind}
use Rattle.setup_reader.specs.declared.fault.SetupKind.TheVariants as setup
use Rattle.setup_reader.specs.Setup.{Fault, at_section, at_text, at_form}

-- the word that a fault line has for a fault of the sections
abbrev pub setup_word : SetupKind → List ℕ
setup_word setup.Section = codes "section"
setup_word setup.Repeat = codes "repeat"
setup_word setup.Many = codes "many"
setup_word setup.Empty = codes "empty"
setup_word setup.End = codes "end"

-- the word that a fault line has for a fault of a script's text
abbrev pub read_word : ReadKind → List ℕ
read_word reading.Long = codes "long"
read_word reading.Utf8 = codes "utf8"
read_word reading.Token = codes "token"
read_word reading.Unclosed = codes "unclosed"
read_word reading.Unopened = codes "unopened"
read_word reading.Mismatch = codes "mismatch"
read_word reading.Range = codes "range"
read_word reading.Deep = codes "deep"

-- the word that a fault line has for a fault of a script's forms
abbrev pub syntax_word : SyntaxKind → List ℕ
syntax_word syntax.Shape = codes "shape"
syntax_word syntax.Unbound = codes "unbound"
syntax_word syntax.Duplicate = codes "duplicate"
syntax_word syntax.Arity = codes "arity"
syntax_word syntax.NestedSend = codes "nestedsend"
syntax_word syntax.Effect = codes "effect"
syntax_word syntax.TooMany = codes "toomany"
syntax_word syntax.NoElse = codes "noelse"

-- the line of a fault: `error 3 setup PLACE WORD`, `error 3 NAME read PLACE KIND` or `error 3 NAME syntax FORM KIND`
abbrev pub fault_line : Fault → List ℕ
fault_line (at_section place kind) = codes "error 3 setup " ++ (decimal place ++ 32 ∷ (setup_word kind ++ 10 ∷ []))
fault_line (at_text name place kind) = codes "error 3 " ++ (name ++ (codes " read " ++ (decimal place ++ 32 ∷ (read_word kind ++ 10 ∷ []))))
fault_line (at_form name form kind) = codes "error 3 " ++ (name ++ (codes " syntax " ++ (decimal form ++ 32 ∷ (syntax_word kind ++ 10 ∷ []))))
