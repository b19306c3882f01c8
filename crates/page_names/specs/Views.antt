-- What the program's names and targets stand for.
use Rattle.std.specs.Prelude.{ℕ, List, take}
use Rattle.page_names.specs.Names.{Destination, start, page}
use Rattle.page_names.specs.declared.names.ScriptName.{ScriptName}
use Rattle.page_names.specs.declared.names.Target.{Target}
use Rattle.page_names.specs.declared.names.Target.TheVariants.{Start, Page}

-- the bytes of a name
abbrev pub name_of : ScriptName → List ℕ
name_of name = take name.len name.bytes

-- what a target means
abbrev pub target_of : Target → Destination
target_of (Start name) = start (name_of name)
target_of (Page name numbers) = page (name_of name) numbers
