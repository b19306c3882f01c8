-- What is told of a value that is no page.
use Rattle.std.specs.Prelude.{◌≡◌, ℕ, List, Option, is_some, true, Result, Ok, Err, ⊤}
use Rattle.xexpr_page.specs.declared.fault.RenderFault.{RenderFault}
use Rattle.xexpr_page.specs.declared.fault.RenderFault.TheVariants.{Memory, NotPage}

-- memory ran out for a page alone: that there is none is told whatever memory there is
abbrev pub TellsNoPage : Result (List ℕ) RenderFault → Option (List ℕ) → Type 0
TellsNoPage (Ok bytes) page = ⊤
TellsNoPage (Err NotPage) page = ⊤
TellsNoPage (Err Memory) page = is_some page ≡ true
