-- What the program answers where a value is a page or none.
use Rattle.std.specs.Prelude.{◌≡◌, ℕ, List, Option, Some, None, Result, Ok, Err, ⊤}
use Rattle.page_spec.specs.Page.{appended}
use Rattle.xexpr_page.specs.declared.fault.RenderFault.{RenderFault}
use Rattle.xexpr_page.specs.declared.fault.RenderFault.TheVariants.{Memory, NotPage}

-- the program's answer is the page, or that there is none, unless memory ran out
abbrev pub Gives : Result (List ℕ) RenderFault → Option (List ℕ) → Type 0
Gives (Ok bytes) page = page ≡ Some bytes
Gives (Err NotPage) page = page ≡ None
Gives (Err Memory) page = ⊤

-- the bytes grew by the page, or the answer is that there is none, unless memory ran out
abbrev pub Pushes : Result (Unit {0}) RenderFault → List ℕ → List ℕ → Option (List ℕ) → Type 0
Pushes (Ok u) old new page = appended old page ≡ Some new
Pushes (Err NotPage) old new page = page ≡ None
Pushes (Err Memory) old new page = ⊤
