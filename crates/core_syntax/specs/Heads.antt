-- The names of forms, and of operations as heads of lists.
use Rattle.std.specs.Prelude.{ℕ, List, Option, Some, None, codes, if◌then◌else◌}
use Rattle.std.specs.Str.{bytes_eq}
use Rattle.std.specs.Option.{option_map, option_or}
use Rattle.prim_spec.specs.Table.{spelled}
use Rattle.script_nodes.specs.declared.script.SendKind.TheVariants.{Suspend, Forward}
use Rattle.core_syntax.specs.declared.heads.Head.{Head}
use Rattle.core_syntax.specs.declared.heads.Head.TheVariants as head
use Rattle.core_syntax.specs.declared.heads.CellKind.TheVariants.{Web, Instance}
use Rattle.core_syntax.specs.declared.heads.Store.TheVariants.{Shadow, Set, Add}
use Rattle.core_syntax.specs.declared.heads.LastPage.TheVariants.{Finish, Back}

-- the forms of the language
unfoldable pub syntax_of : List ℕ → Option Head
syntax_of s =
    if bytes_eq s (codes "quote") then Some head.Quote else
    if bytes_eq s (codes "quasiquote") then Some head.Quasiquote else
    if bytes_eq s (codes "let") then Some head.Let else
    if bytes_eq s (codes "let*") then Some head.LetInTurn else
    if bytes_eq s (codes "begin") then Some head.Begin else
    if bytes_eq s (codes "if") then Some head.If else
    if bytes_eq s (codes "cond") then Some head.Cond else
    if bytes_eq s (codes "and") then Some head.And else
    if bytes_eq s (codes "or") then Some head.Or else
    if bytes_eq s (codes "for/list") then Some head.For else
    if bytes_eq s (codes "define") then Some head.Define else
    if bytes_eq s (codes "define-task") then Some head.DefineTask else None

-- the forms that read or change cells, send pages, or call tasks
unfoldable pub page_form_of : List ℕ → Option Head
page_form_of s =
    if bytes_eq s (codes "web-cell-ref") then Some (head.Ref Web) else
    if bytes_eq s (codes "web-cell-shadow") then Some (head.Store Shadow) else
    if bytes_eq s (codes "instance-cell-ref") then Some (head.Ref Instance) else
    if bytes_eq s (codes "instance-cell-set!") then Some (head.Store Set) else
    if bytes_eq s (codes "instance-cell-add!") then Some (head.Store Add) else
    if bytes_eq s (codes "send/suspend") then Some (head.Send Suspend) else
    if bytes_eq s (codes "send/forward") then Some (head.Send Forward) else
    if bytes_eq s (codes "send/finish") then Some (head.Last Finish) else
    if bytes_eq s (codes "send/back") then Some (head.Last Back) else
    if bytes_eq s (codes "isolate") then Some head.Isolate else
    if bytes_eq s (codes "call") then Some head.Call else None

-- the operation of a name
abbrev pub operation_of : List ℕ → Option Head
operation_of s = option_map (λ o. head.Apply o) (spelled s)

-- the form or the operation of a name at the head of a list
abbrev pub head_of : List ℕ → Option Head
head_of s = option_or (option_or (syntax_of s) (page_form_of s)) (operation_of s)
