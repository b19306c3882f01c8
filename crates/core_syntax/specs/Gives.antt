-- What a call that reads data answers for the table of forms.
use Rattle.std.specs.Prelude.{◌≡◌, List, Result, Ok, Err, Vec, ⊤}
use Rattle.std.specs.declared.alloc.Global.{Global}
use Rattle.core_syntax.specs.declared.faults.SyntaxKind.{SyntaxKind}
use Rattle.core_syntax.specs.declared.faults.ReadFault.{ReadFault}
use Rattle.core_syntax.specs.declared.faults.ReadFault.TheVariants.{Memory, Syntax}

-- the table's value as it is seen, or the table's fault; want of memory may come at any time
abbrev pub Gives : {A B : Type 0} → (A → B) → Result A ReadFault → Result B SyntaxKind → Type 0
Gives view (Ok x) r = r ≡ Ok (view x)
Gives view (Err Memory) r = ⊤
Gives view (Err (Syntax k)) r = r ≡ Err k

-- what is answered is the table's value itself
abbrev pub Reads : {A : Type 0} → Result A ReadFault → Result A SyntaxKind → Type 0
Reads result r = Gives (λ x. x) result r

-- the items of what is answered are the table's values
abbrev pub ReadsAll : {A : Type 0} → Result (Vec A Global) ReadFault → Result (List A) SyntaxKind → Type 0
ReadsAll result r = Gives (λ v. v.items) result r
