-- What the table gives for expressions, a form at a time, and the faults of each.
use Rattle.std.specs.Prelude.{◌≡◌, pos, negsuc, List, [], ◌∷◌, map, true, false, Option, Some, None, Result, Ok, Err, codes, refl}
use Rattle.script_value.specs.Val.{Val, number, truth, text, symbol, list, vals_of}
use Rattle.script_value.specs.declared.outcome.Op.TheVariants as op
use Rattle.core_syntax.specs.declared.faults.SyntaxKind.{SyntaxKind}
use Rattle.core_syntax.specs.declared.faults.SyntaxKind.TheVariants.{Shape, Unbound, Duplicate, Arity, NoElse, NestedSend, Effect}
use Rattle.script_nodes.specs.declared.script.SendKind.TheVariants.{Suspend, Forward}
use Rattle.script_nodes.specs.Core.{Core, lit, var, bind, branch, repeat, prim, seq, and_all, or_any, send, finish, back, isolate, cell_ref, cell_shadow, inst_ref, inst_set, inst_add, cores_of}
use Rattle.prim_spec.specs.Table.{number_operation_of, test_of, list_operation_of, text_operation_of}
use Rattle.core_syntax.specs.Heads.{syntax_of, page_form_of}
use Rattle.core_syntax.specs.Names.{CellNames}
use Rattle.core_syntax.specs.Forms.{core_of}

-- a list of data
abbrev pub form : List Val → Val
form vs = list (vals_of vs)

-- two web cells `w` and `v`, and an instance cell `i`
abbrev cells : CellNames
cells = record { web = codes "w" ∷ codes "v" ∷ []; instance = codes "i" ∷ []; tasks = []; later = [] }

-- an expression with these cells and no variables
abbrev tree : Val → Result Core SyntaxKind
tree v = core_of cells [] false v

-- the fault of an expression, if it has one
abbrev fault_in : Result Core SyntaxKind → Option SyntaxKind
fault_in (Ok c) = None
fault_in (Err k) = Some k

-- the fault of an expression outside all names, if it has one
abbrev fault : Val → Option SyntaxKind
fault v = fault_in (tree v)

-- heads: none, no symbol, no form; and what is no expression
--   ()  Shape
--   (1)  Shape
--   ((quote 1))  Shape
--   (x 1)  Shape
--   (lambda (u) u)  Shape
--   (define c (make-web-cell 1))  Shape
--   (unquote x)  Shape
--   (unquote-splicing x)  Shape
--   (else 1)  Shape
--   x  Unbound
--   list  Unbound
--   w  Unbound
pub faults_of_heads : map fault (
    (form []) ∷
    (form (number (pos 1) ∷ [])) ∷
    (form (form (symbol (codes "quote") ∷ number (pos 1) ∷ []) ∷ [])) ∷
    (form (symbol (codes "x") ∷ number (pos 1) ∷ [])) ∷
    (form (symbol (codes "lambda") ∷ form (symbol (codes "u") ∷ []) ∷ symbol (codes "u") ∷ [])) ∷
    (form (symbol (codes "define") ∷ symbol (codes "c") ∷ form (symbol (codes "make-web-cell") ∷ number (pos 1) ∷ []) ∷ [])) ∷
    (form (symbol (codes "unquote") ∷ symbol (codes "x") ∷ [])) ∷
    (form (symbol (codes "unquote-splicing") ∷ symbol (codes "x") ∷ [])) ∷
    (form (symbol (codes "else") ∷ number (pos 1) ∷ [])) ∷
    (symbol (codes "x")) ∷
    (symbol (codes "list")) ∷
    (symbol (codes "w")) ∷ [])
    ≡ Some Shape ∷ Some Shape ∷ Some Shape ∷ Some Shape ∷ Some Shape ∷ Some Shape ∷ Some Shape ∷ Some Shape ∷ Some Shape ∷ Some Unbound ∷ Some Unbound ∷ Some Unbound ∷ []
unfolding syntax_of page_form_of number_operation_of test_of list_operation_of text_operation_of
faults_of_heads = refl

-- quote: one datum
--   (quote)  Shape
--   (quote 1 2)  Shape
pub faults_of_quotes : map fault (
    (form (symbol (codes "quote") ∷ [])) ∷
    (form (symbol (codes "quote") ∷ number (pos 1) ∷ number (pos 2) ∷ [])) ∷ [])
    ≡ Some Shape ∷ Some Shape ∷ []
unfolding syntax_of page_form_of number_operation_of test_of list_operation_of text_operation_of
faults_of_quotes = refl

-- let: the shape of all its parts, then its names, then its parts from left to right
--   (let)  Shape
--   (let ((x 1)))  Shape
--   (let x 1)  Shape
--   (let (x) 1)  Shape
--   (let ((x)) 1)  Shape
--   (let ((x 1 2)) 1)  Shape
--   (let ((1 1)) 1)  Shape
--   (let (("x" 1)) 1)  Shape
--   (let ((let 1) (x)) 1)  Shape
--   (let ((let 1)))  Shape
--   (let ((x y) (x 1)) 1)  Duplicate
--   (let ((let 1)) y)  Duplicate
--   (let ((list 1)) 1)  Duplicate
--   (let ((define 1)) 1)  Duplicate
--   (let ((w 1)) 1)  Duplicate
--   (let ((i y)) 1)  Duplicate
--   (let ((x 1) (y x)) y)  Unbound
--   (let ((x (quote))) (list y))  Shape
--   (let ((x 1)) y (quote))  Unbound
pub faults_of_lets : map fault (
    (form (symbol (codes "let") ∷ [])) ∷
    (form (symbol (codes "let") ∷ form (form (symbol (codes "x") ∷ number (pos 1) ∷ []) ∷ []) ∷ [])) ∷
    (form (symbol (codes "let") ∷ symbol (codes "x") ∷ number (pos 1) ∷ [])) ∷
    (form (symbol (codes "let") ∷ form (symbol (codes "x") ∷ []) ∷ number (pos 1) ∷ [])) ∷
    (form (symbol (codes "let") ∷ form (form (symbol (codes "x") ∷ []) ∷ []) ∷ number (pos 1) ∷ [])) ∷
    (form (symbol (codes "let") ∷ form (form (symbol (codes "x") ∷ number (pos 1) ∷ number (pos 2) ∷ []) ∷ []) ∷ number (pos 1) ∷ [])) ∷
    (form (symbol (codes "let") ∷ form (form (number (pos 1) ∷ number (pos 1) ∷ []) ∷ []) ∷ number (pos 1) ∷ [])) ∷
    (form (symbol (codes "let") ∷ form (form (text (codes "x") ∷ number (pos 1) ∷ []) ∷ []) ∷ number (pos 1) ∷ [])) ∷
    (form (symbol (codes "let") ∷ form (form (symbol (codes "let") ∷ number (pos 1) ∷ []) ∷ form (symbol (codes "x") ∷ []) ∷ []) ∷ number (pos 1) ∷ [])) ∷
    (form (symbol (codes "let") ∷ form (form (symbol (codes "let") ∷ number (pos 1) ∷ []) ∷ []) ∷ [])) ∷
    (form (symbol (codes "let") ∷ form (form (symbol (codes "x") ∷ symbol (codes "y") ∷ []) ∷ form (symbol (codes "x") ∷ number (pos 1) ∷ []) ∷ []) ∷ number (pos 1) ∷ [])) ∷
    (form (symbol (codes "let") ∷ form (form (symbol (codes "let") ∷ number (pos 1) ∷ []) ∷ []) ∷ symbol (codes "y") ∷ [])) ∷
    (form (symbol (codes "let") ∷ form (form (symbol (codes "list") ∷ number (pos 1) ∷ []) ∷ []) ∷ number (pos 1) ∷ [])) ∷
    (form (symbol (codes "let") ∷ form (form (symbol (codes "define") ∷ number (pos 1) ∷ []) ∷ []) ∷ number (pos 1) ∷ [])) ∷
    (form (symbol (codes "let") ∷ form (form (symbol (codes "w") ∷ number (pos 1) ∷ []) ∷ []) ∷ number (pos 1) ∷ [])) ∷
    (form (symbol (codes "let") ∷ form (form (symbol (codes "i") ∷ symbol (codes "y") ∷ []) ∷ []) ∷ number (pos 1) ∷ [])) ∷
    (form (symbol (codes "let") ∷ form (form (symbol (codes "x") ∷ number (pos 1) ∷ []) ∷ form (symbol (codes "y") ∷ symbol (codes "x") ∷ []) ∷ []) ∷ symbol (codes "y") ∷ [])) ∷
    (form (symbol (codes "let") ∷ form (form (symbol (codes "x") ∷ form (symbol (codes "quote") ∷ []) ∷ []) ∷ []) ∷ form (symbol (codes "list") ∷ symbol (codes "y") ∷ []) ∷ [])) ∷
    (form (symbol (codes "let") ∷ form (form (symbol (codes "x") ∷ number (pos 1) ∷ []) ∷ []) ∷ symbol (codes "y") ∷ form (symbol (codes "quote") ∷ []) ∷ [])) ∷ [])
    ≡ Some Shape ∷ Some Shape ∷ Some Shape ∷ Some Shape ∷ Some Shape ∷ Some Shape ∷ Some Shape ∷ Some Shape ∷ Some Shape ∷ Some Shape ∷ Some Duplicate ∷ Some Duplicate ∷ Some Duplicate ∷ Some Duplicate ∷ Some Duplicate ∷ Some Duplicate ∷ Some Unbound ∷ Some Shape ∷ Some Unbound ∷ []
unfolding syntax_of page_form_of number_operation_of test_of list_operation_of text_operation_of
faults_of_lets = refl

-- let*: as let, but a name may stand twice, and what is bound sees the names before it, and not its own
--   (let*)  Shape
--   (let* ())  Shape
--   (let* x 1)  Shape
--   (let* ((x 1 2)) 1)  Shape
--   (let* ((let y)) 1)  Duplicate
--   (let* ((x y) (list 1)) 1)  Duplicate
--   (let* ((w 1)) 1)  Duplicate
--   (let* ((x x)) 1)  Unbound
--   (let* ((x 1) (y z)) (quote))  Unbound
--   (let* ((x 1)) y)  Unbound
pub faults_of_lets_in_turn : map fault (
    (form (symbol (codes "let*") ∷ [])) ∷
    (form (symbol (codes "let*") ∷ form [] ∷ [])) ∷
    (form (symbol (codes "let*") ∷ symbol (codes "x") ∷ number (pos 1) ∷ [])) ∷
    (form (symbol (codes "let*") ∷ form (form (symbol (codes "x") ∷ number (pos 1) ∷ number (pos 2) ∷ []) ∷ []) ∷ number (pos 1) ∷ [])) ∷
    (form (symbol (codes "let*") ∷ form (form (symbol (codes "let") ∷ symbol (codes "y") ∷ []) ∷ []) ∷ number (pos 1) ∷ [])) ∷
    (form (symbol (codes "let*") ∷ form (form (symbol (codes "x") ∷ symbol (codes "y") ∷ []) ∷ form (symbol (codes "list") ∷ number (pos 1) ∷ []) ∷ []) ∷ number (pos 1) ∷ [])) ∷
    (form (symbol (codes "let*") ∷ form (form (symbol (codes "w") ∷ number (pos 1) ∷ []) ∷ []) ∷ number (pos 1) ∷ [])) ∷
    (form (symbol (codes "let*") ∷ form (form (symbol (codes "x") ∷ symbol (codes "x") ∷ []) ∷ []) ∷ number (pos 1) ∷ [])) ∷
    (form (symbol (codes "let*") ∷ form (form (symbol (codes "x") ∷ number (pos 1) ∷ []) ∷ form (symbol (codes "y") ∷ symbol (codes "z") ∷ []) ∷ []) ∷ form (symbol (codes "quote") ∷ []) ∷ [])) ∷
    (form (symbol (codes "let*") ∷ form (form (symbol (codes "x") ∷ number (pos 1) ∷ []) ∷ []) ∷ symbol (codes "y") ∷ [])) ∷ [])
    ≡ Some Shape ∷ Some Shape ∷ Some Shape ∷ Some Shape ∷ Some Duplicate ∷ Some Duplicate ∷ Some Duplicate ∷ Some Unbound ∷ Some Unbound ∷ Some Unbound ∷ []
unfolding syntax_of page_form_of number_operation_of test_of list_operation_of text_operation_of
faults_of_lets_in_turn = refl

-- begin: one expression or more; if: three
--   (begin)  Shape
--   (begin 1 x (quote))  Unbound
--   (if)  Shape
--   (if 1 2)  Shape
--   (if 1 2 3 4)  Shape
--   (if x (quote) 1)  Unbound
--   (if 1 (quote) x)  Shape
pub faults_of_begins_and_ifs : map fault (
    (form (symbol (codes "begin") ∷ [])) ∷
    (form (symbol (codes "begin") ∷ number (pos 1) ∷ symbol (codes "x") ∷ form (symbol (codes "quote") ∷ []) ∷ [])) ∷
    (form (symbol (codes "if") ∷ [])) ∷
    (form (symbol (codes "if") ∷ number (pos 1) ∷ number (pos 2) ∷ [])) ∷
    (form (symbol (codes "if") ∷ number (pos 1) ∷ number (pos 2) ∷ number (pos 3) ∷ number (pos 4) ∷ [])) ∷
    (form (symbol (codes "if") ∷ symbol (codes "x") ∷ form (symbol (codes "quote") ∷ []) ∷ number (pos 1) ∷ [])) ∷
    (form (symbol (codes "if") ∷ number (pos 1) ∷ form (symbol (codes "quote") ∷ []) ∷ symbol (codes "x") ∷ [])) ∷ [])
    ≡ Some Shape ∷ Some Unbound ∷ Some Shape ∷ Some Shape ∷ Some Shape ∷ Some Unbound ∷ Some Shape ∷ []
unfolding syntax_of page_form_of number_operation_of test_of list_operation_of text_operation_of
faults_of_begins_and_ifs = refl

-- cond: the shape of each clause, then its else
--   (cond)  NoElse
--   (cond [1 2])  NoElse
--   (cond [1 2] 3)  Shape
--   (cond [1])  Shape
--   (cond [1] [else 1])  Shape
--   (cond [else])  Shape
--   (cond [else 1] [1 2])  NoElse
--   (cond [else 1] [else 2])  Unbound
--   (cond [x (quote)] [else 1])  Unbound
--   (cond [1 x] [else (quote)])  Unbound
--   (cond [1 2] [else x])  Unbound
pub faults_of_conds : map fault (
    (form (symbol (codes "cond") ∷ [])) ∷
    (form (symbol (codes "cond") ∷ form (number (pos 1) ∷ number (pos 2) ∷ []) ∷ [])) ∷
    (form (symbol (codes "cond") ∷ form (number (pos 1) ∷ number (pos 2) ∷ []) ∷ number (pos 3) ∷ [])) ∷
    (form (symbol (codes "cond") ∷ form (number (pos 1) ∷ []) ∷ [])) ∷
    (form (symbol (codes "cond") ∷ form (number (pos 1) ∷ []) ∷ form (symbol (codes "else") ∷ number (pos 1) ∷ []) ∷ [])) ∷
    (form (symbol (codes "cond") ∷ form (symbol (codes "else") ∷ []) ∷ [])) ∷
    (form (symbol (codes "cond") ∷ form (symbol (codes "else") ∷ number (pos 1) ∷ []) ∷ form (number (pos 1) ∷ number (pos 2) ∷ []) ∷ [])) ∷
    (form (symbol (codes "cond") ∷ form (symbol (codes "else") ∷ number (pos 1) ∷ []) ∷ form (symbol (codes "else") ∷ number (pos 2) ∷ []) ∷ [])) ∷
    (form (symbol (codes "cond") ∷ form (symbol (codes "x") ∷ form (symbol (codes "quote") ∷ []) ∷ []) ∷ form (symbol (codes "else") ∷ number (pos 1) ∷ []) ∷ [])) ∷
    (form (symbol (codes "cond") ∷ form (number (pos 1) ∷ symbol (codes "x") ∷ []) ∷ form (symbol (codes "else") ∷ form (symbol (codes "quote") ∷ []) ∷ []) ∷ [])) ∷
    (form (symbol (codes "cond") ∷ form (number (pos 1) ∷ number (pos 2) ∷ []) ∷ form (symbol (codes "else") ∷ symbol (codes "x") ∷ []) ∷ [])) ∷ [])
    ≡ Some NoElse ∷ Some NoElse ∷ Some Shape ∷ Some Shape ∷ Some Shape ∷ Some Shape ∷ Some NoElse ∷ Some Unbound ∷ Some Unbound ∷ Some Unbound ∷ Some Unbound ∷ []
unfolding syntax_of page_form_of number_operation_of test_of list_operation_of text_operation_of
faults_of_conds = refl

-- `and` and `or`: any number of parts
--   (and 1 x)  Unbound
--   (or (quote))  Shape
--   (or x (quote))  Unbound
pub faults_of_junctions : map fault (
    (form (symbol (codes "and") ∷ number (pos 1) ∷ symbol (codes "x") ∷ [])) ∷
    (form (symbol (codes "or") ∷ form (symbol (codes "quote") ∷ []) ∷ [])) ∷
    (form (symbol (codes "or") ∷ symbol (codes "x") ∷ form (symbol (codes "quote") ∷ []) ∷ [])) ∷ [])
    ≡ Some Unbound ∷ Some Shape ∷ Some Unbound ∷ []
unfolding syntax_of page_form_of number_operation_of test_of list_operation_of text_operation_of
faults_of_junctions = refl

-- for/list: one binding and a body
--   (for/list)  Shape
--   (for/list ((x 1)))  Shape
--   (for/list () 1)  Shape
--   (for/list ((x 1) (y 1)) 1)  Shape
--   (for/list ((x)) 1)  Shape
--   (for/list ((1 1)) 1)  Shape
--   (for/list ((if y)) 1)  Duplicate
--   (for/list ((w 1)) x)  Duplicate
--   (for/list ((x x)) 1)  Unbound
--   (for/list ((x 1)) y)  Unbound
pub faults_of_loops : map fault (
    (form (symbol (codes "for/list") ∷ [])) ∷
    (form (symbol (codes "for/list") ∷ form (form (symbol (codes "x") ∷ number (pos 1) ∷ []) ∷ []) ∷ [])) ∷
    (form (symbol (codes "for/list") ∷ form [] ∷ number (pos 1) ∷ [])) ∷
    (form (symbol (codes "for/list") ∷ form (form (symbol (codes "x") ∷ number (pos 1) ∷ []) ∷ form (symbol (codes "y") ∷ number (pos 1) ∷ []) ∷ []) ∷ number (pos 1) ∷ [])) ∷
    (form (symbol (codes "for/list") ∷ form (form (symbol (codes "x") ∷ []) ∷ []) ∷ number (pos 1) ∷ [])) ∷
    (form (symbol (codes "for/list") ∷ form (form (number (pos 1) ∷ number (pos 1) ∷ []) ∷ []) ∷ number (pos 1) ∷ [])) ∷
    (form (symbol (codes "for/list") ∷ form (form (symbol (codes "if") ∷ symbol (codes "y") ∷ []) ∷ []) ∷ number (pos 1) ∷ [])) ∷
    (form (symbol (codes "for/list") ∷ form (form (symbol (codes "w") ∷ number (pos 1) ∷ []) ∷ []) ∷ symbol (codes "x") ∷ [])) ∷
    (form (symbol (codes "for/list") ∷ form (form (symbol (codes "x") ∷ symbol (codes "x") ∷ []) ∷ []) ∷ number (pos 1) ∷ [])) ∷
    (form (symbol (codes "for/list") ∷ form (form (symbol (codes "x") ∷ number (pos 1) ∷ []) ∷ []) ∷ symbol (codes "y") ∷ [])) ∷ [])
    ≡ Some Shape ∷ Some Shape ∷ Some Shape ∷ Some Shape ∷ Some Shape ∷ Some Shape ∷ Some Duplicate ∷ Some Duplicate ∷ Some Unbound ∷ Some Unbound ∷ []
unfolding syntax_of page_form_of number_operation_of test_of list_operation_of text_operation_of
faults_of_loops = refl

-- cells: shape, then the cell, then what is written
--   (web-cell-ref)  Shape
--   (web-cell-ref 1)  Shape
--   (web-cell-ref w w)  Shape
--   (web-cell-ref i)  Unbound
--   (web-cell-ref x)  Unbound
--   (instance-cell-ref w)  Unbound
--   (web-cell-shadow w)  Shape
--   (web-cell-shadow "w" 1)  Shape
--   (web-cell-shadow i x)  Unbound
--   (web-cell-shadow w x)  Unbound
--   (instance-cell-set! i)  Shape
--   (instance-cell-set! w 1)  Unbound
--   (instance-cell-set! i x)  Unbound
--   (instance-cell-add! i 1 2)  Shape
--   (instance-cell-add! w 1)  Unbound
--   (instance-cell-add! i (quote))  Shape
pub faults_of_cells : map fault (
    (form (symbol (codes "web-cell-ref") ∷ [])) ∷
    (form (symbol (codes "web-cell-ref") ∷ number (pos 1) ∷ [])) ∷
    (form (symbol (codes "web-cell-ref") ∷ symbol (codes "w") ∷ symbol (codes "w") ∷ [])) ∷
    (form (symbol (codes "web-cell-ref") ∷ symbol (codes "i") ∷ [])) ∷
    (form (symbol (codes "web-cell-ref") ∷ symbol (codes "x") ∷ [])) ∷
    (form (symbol (codes "instance-cell-ref") ∷ symbol (codes "w") ∷ [])) ∷
    (form (symbol (codes "web-cell-shadow") ∷ symbol (codes "w") ∷ [])) ∷
    (form (symbol (codes "web-cell-shadow") ∷ text (codes "w") ∷ number (pos 1) ∷ [])) ∷
    (form (symbol (codes "web-cell-shadow") ∷ symbol (codes "i") ∷ symbol (codes "x") ∷ [])) ∷
    (form (symbol (codes "web-cell-shadow") ∷ symbol (codes "w") ∷ symbol (codes "x") ∷ [])) ∷
    (form (symbol (codes "instance-cell-set!") ∷ symbol (codes "i") ∷ [])) ∷
    (form (symbol (codes "instance-cell-set!") ∷ symbol (codes "w") ∷ number (pos 1) ∷ [])) ∷
    (form (symbol (codes "instance-cell-set!") ∷ symbol (codes "i") ∷ symbol (codes "x") ∷ [])) ∷
    (form (symbol (codes "instance-cell-add!") ∷ symbol (codes "i") ∷ number (pos 1) ∷ number (pos 2) ∷ [])) ∷
    (form (symbol (codes "instance-cell-add!") ∷ symbol (codes "w") ∷ number (pos 1) ∷ [])) ∷
    (form (symbol (codes "instance-cell-add!") ∷ symbol (codes "i") ∷ form (symbol (codes "quote") ∷ []) ∷ [])) ∷ [])
    ≡ Some Shape ∷ Some Shape ∷ Some Shape ∷ Some Unbound ∷ Some Unbound ∷ Some Unbound ∷ Some Shape ∷ Some Shape ∷ Some Unbound ∷ Some Unbound ∷ Some Shape ∷ Some Unbound ∷ Some Unbound ∷ Some Shape ∷ Some Unbound ∷ Some Shape ∷ []
unfolding syntax_of page_form_of number_operation_of test_of list_operation_of text_operation_of
faults_of_cells = refl

-- send/suspend and send/forward: one function of one name, and a body
--   (send/suspend)  Shape
--   (send/suspend 1)  Shape
--   (send/suspend (lambda (u)))  Shape
--   (send/suspend (lambda u 1))  Shape
--   (send/suspend (lambda (u v) 1))  Shape
--   (send/suspend (lambda (1) 1))  Shape
--   (send/suspend (lamda (u) 1))  Shape
--   (send/suspend (lambda (u) 1) 2)  Shape
--   (send/forward (lambda () 1))  Shape
--   (send/suspend (lambda (if) x))  Duplicate
--   (send/forward (lambda (i) 1))  Duplicate
--   (send/suspend (lambda (u) x))  Unbound
--   (send/suspend (lambda (u) u x))  Unbound
pub faults_of_sends : map fault (
    (form (symbol (codes "send/suspend") ∷ [])) ∷
    (form (symbol (codes "send/suspend") ∷ number (pos 1) ∷ [])) ∷
    (form (symbol (codes "send/suspend") ∷ form (symbol (codes "lambda") ∷ form (symbol (codes "u") ∷ []) ∷ []) ∷ [])) ∷
    (form (symbol (codes "send/suspend") ∷ form (symbol (codes "lambda") ∷ symbol (codes "u") ∷ number (pos 1) ∷ []) ∷ [])) ∷
    (form (symbol (codes "send/suspend") ∷ form (symbol (codes "lambda") ∷ form (symbol (codes "u") ∷ symbol (codes "v") ∷ []) ∷ number (pos 1) ∷ []) ∷ [])) ∷
    (form (symbol (codes "send/suspend") ∷ form (symbol (codes "lambda") ∷ form (number (pos 1) ∷ []) ∷ number (pos 1) ∷ []) ∷ [])) ∷
    (form (symbol (codes "send/suspend") ∷ form (symbol (codes "lamda") ∷ form (symbol (codes "u") ∷ []) ∷ number (pos 1) ∷ []) ∷ [])) ∷
    (form (symbol (codes "send/suspend") ∷ form (symbol (codes "lambda") ∷ form (symbol (codes "u") ∷ []) ∷ number (pos 1) ∷ []) ∷ number (pos 2) ∷ [])) ∷
    (form (symbol (codes "send/forward") ∷ form (symbol (codes "lambda") ∷ form [] ∷ number (pos 1) ∷ []) ∷ [])) ∷
    (form (symbol (codes "send/suspend") ∷ form (symbol (codes "lambda") ∷ form (symbol (codes "if") ∷ []) ∷ symbol (codes "x") ∷ []) ∷ [])) ∷
    (form (symbol (codes "send/forward") ∷ form (symbol (codes "lambda") ∷ form (symbol (codes "i") ∷ []) ∷ number (pos 1) ∷ []) ∷ [])) ∷
    (form (symbol (codes "send/suspend") ∷ form (symbol (codes "lambda") ∷ form (symbol (codes "u") ∷ []) ∷ symbol (codes "x") ∷ []) ∷ [])) ∷
    (form (symbol (codes "send/suspend") ∷ form (symbol (codes "lambda") ∷ form (symbol (codes "u") ∷ []) ∷ symbol (codes "u") ∷ symbol (codes "x") ∷ []) ∷ [])) ∷ [])
    ≡ Some Shape ∷ Some Shape ∷ Some Shape ∷ Some Shape ∷ Some Shape ∷ Some Shape ∷ Some Shape ∷ Some Shape ∷ Some Shape ∷ Some Duplicate ∷ Some Duplicate ∷ Some Unbound ∷ Some Unbound ∷ []
unfolding syntax_of page_form_of number_operation_of test_of list_operation_of text_operation_of
faults_of_sends = refl

-- send/finish, send/back and isolate: one expression
--   (send/finish)  Shape
--   (send/finish 1 2)  Shape
--   (send/finish x)  Unbound
--   (send/back)  Shape
--   (send/back x)  Unbound
--   (isolate)  Shape
--   (isolate 1 2)  Shape
--   (isolate x)  Unbound
pub faults_of_last_pages : map fault (
    (form (symbol (codes "send/finish") ∷ [])) ∷
    (form (symbol (codes "send/finish") ∷ number (pos 1) ∷ number (pos 2) ∷ [])) ∷
    (form (symbol (codes "send/finish") ∷ symbol (codes "x") ∷ [])) ∷
    (form (symbol (codes "send/back") ∷ [])) ∷
    (form (symbol (codes "send/back") ∷ symbol (codes "x") ∷ [])) ∷
    (form (symbol (codes "isolate") ∷ [])) ∷
    (form (symbol (codes "isolate") ∷ number (pos 1) ∷ number (pos 2) ∷ [])) ∷
    (form (symbol (codes "isolate") ∷ symbol (codes "x") ∷ [])) ∷ [])
    ≡ Some Shape ∷ Some Shape ∷ Some Unbound ∷ Some Shape ∷ Some Unbound ∷ Some Shape ∷ Some Shape ∷ Some Unbound ∷ []
unfolding syntax_of page_form_of number_operation_of test_of list_operation_of text_operation_of
faults_of_last_pages = refl

-- a page body sends nothing, enters no transaction and writes no cell; this is told before the shape
--   (send/suspend (lambda (u) (send/suspend)))  NestedSend
--   (send/suspend (lambda (u) (send/forward)))  NestedSend
--   (send/suspend (lambda (u) (list (send/finish))))  NestedSend
--   (send/suspend (lambda (u) 1 (send/back)))  NestedSend
--   (send/forward (lambda (u) (isolate)))  NestedSend
--   (send/finish (send/finish 1))  NestedSend
--   (send/back (isolate 1))  NestedSend
--   (send/suspend (lambda (u) (web-cell-shadow)))  Effect
--   (send/finish (instance-cell-set! x))  Effect
--   (send/back (instance-cell-add! i 1))  Effect
--   (isolate (send/finish (instance-cell-add! i 1)))  Effect
pub faults_of_page_bodies : map fault (
    (form (symbol (codes "send/suspend") ∷ form (symbol (codes "lambda") ∷ form (symbol (codes "u") ∷ []) ∷ form (symbol (codes "send/suspend") ∷ []) ∷ []) ∷ [])) ∷
    (form (symbol (codes "send/suspend") ∷ form (symbol (codes "lambda") ∷ form (symbol (codes "u") ∷ []) ∷ form (symbol (codes "send/forward") ∷ []) ∷ []) ∷ [])) ∷
    (form (symbol (codes "send/suspend") ∷ form (symbol (codes "lambda") ∷ form (symbol (codes "u") ∷ []) ∷ form (symbol (codes "list") ∷ form (symbol (codes "send/finish") ∷ []) ∷ []) ∷ []) ∷ [])) ∷
    (form (symbol (codes "send/suspend") ∷ form (symbol (codes "lambda") ∷ form (symbol (codes "u") ∷ []) ∷ number (pos 1) ∷ form (symbol (codes "send/back") ∷ []) ∷ []) ∷ [])) ∷
    (form (symbol (codes "send/forward") ∷ form (symbol (codes "lambda") ∷ form (symbol (codes "u") ∷ []) ∷ form (symbol (codes "isolate") ∷ []) ∷ []) ∷ [])) ∷
    (form (symbol (codes "send/finish") ∷ form (symbol (codes "send/finish") ∷ number (pos 1) ∷ []) ∷ [])) ∷
    (form (symbol (codes "send/back") ∷ form (symbol (codes "isolate") ∷ number (pos 1) ∷ []) ∷ [])) ∷
    (form (symbol (codes "send/suspend") ∷ form (symbol (codes "lambda") ∷ form (symbol (codes "u") ∷ []) ∷ form (symbol (codes "web-cell-shadow") ∷ []) ∷ []) ∷ [])) ∷
    (form (symbol (codes "send/finish") ∷ form (symbol (codes "instance-cell-set!") ∷ symbol (codes "x") ∷ []) ∷ [])) ∷
    (form (symbol (codes "send/back") ∷ form (symbol (codes "instance-cell-add!") ∷ symbol (codes "i") ∷ number (pos 1) ∷ []) ∷ [])) ∷
    (form (symbol (codes "isolate") ∷ form (symbol (codes "send/finish") ∷ form (symbol (codes "instance-cell-add!") ∷ symbol (codes "i") ∷ number (pos 1) ∷ []) ∷ []) ∷ [])) ∷ [])
    ≡ Some NestedSend ∷ Some NestedSend ∷ Some NestedSend ∷ Some NestedSend ∷ Some NestedSend ∷ Some NestedSend ∷ Some NestedSend ∷ Some Effect ∷ Some Effect ∷ Some Effect ∷ Some Effect ∷ []
unfolding syntax_of page_form_of number_operation_of test_of list_operation_of text_operation_of
faults_of_page_bodies = refl

-- operations: the number of their operands, then the operands
--   (number->string)  Arity
--   (number->string x y)  Arity
--   (cons 1)  Arity
--   (cons 1 2 3)  Arity
--   (-)  Arity
--   (+ x)  Unbound
--   (list (quote) x)  Shape
--   (append 1 x)  Unbound
pub faults_of_operations : map fault (
    (form (symbol (codes "number->string") ∷ [])) ∷
    (form (symbol (codes "number->string") ∷ symbol (codes "x") ∷ symbol (codes "y") ∷ [])) ∷
    (form (symbol (codes "cons") ∷ number (pos 1) ∷ [])) ∷
    (form (symbol (codes "cons") ∷ number (pos 1) ∷ number (pos 2) ∷ number (pos 3) ∷ [])) ∷
    (form (symbol (codes "-") ∷ [])) ∷
    (form (symbol (codes "+") ∷ symbol (codes "x") ∷ [])) ∷
    (form (symbol (codes "list") ∷ form (symbol (codes "quote") ∷ []) ∷ symbol (codes "x") ∷ [])) ∷
    (form (symbol (codes "append") ∷ number (pos 1) ∷ symbol (codes "x") ∷ [])) ∷ [])
    ≡ Some Arity ∷ Some Arity ∷ Some Arity ∷ Some Arity ∷ Some Arity ∷ Some Unbound ∷ Some Shape ∷ Some Unbound ∷ []
unfolding syntax_of page_form_of number_operation_of test_of list_operation_of text_operation_of
faults_of_operations = refl

-- quasiquote: the shape of its whole template, then its expressions
--   (quasiquote)  Shape
--   (quasiquote 1 2)  Shape
--   `(a `b)  Shape
--   `(a ,x `b)  Shape
--   ,x  Shape
--   `,@x  Shape
--   `(a (unquote))  Shape
--   `(a (unquote 1 2))  Shape
--   `(a (unquote-splicing))  Shape
--   `(a (unquote-splicing 1 2))  Shape
--   `(,x ,@(quote))  Unbound
--   `(,(quote) ,x)  Shape
--   `(,@x)  Unbound
--   `(a (b ,x))  Unbound
--   `(a ,`(b `c))  Shape
pub faults_of_quasiquotes : map fault (
    (form (symbol (codes "quasiquote") ∷ [])) ∷
    (form (symbol (codes "quasiquote") ∷ number (pos 1) ∷ number (pos 2) ∷ [])) ∷
    (form (symbol (codes "quasiquote") ∷ form (symbol (codes "a") ∷ form (symbol (codes "quasiquote") ∷ symbol (codes "b") ∷ []) ∷ []) ∷ [])) ∷
    (form (symbol (codes "quasiquote") ∷ form (symbol (codes "a") ∷ form (symbol (codes "unquote") ∷ symbol (codes "x") ∷ []) ∷ form (symbol (codes "quasiquote") ∷ symbol (codes "b") ∷ []) ∷ []) ∷ [])) ∷
    (form (symbol (codes "unquote") ∷ symbol (codes "x") ∷ [])) ∷
    (form (symbol (codes "quasiquote") ∷ form (symbol (codes "unquote-splicing") ∷ symbol (codes "x") ∷ []) ∷ [])) ∷
    (form (symbol (codes "quasiquote") ∷ form (symbol (codes "a") ∷ form (symbol (codes "unquote") ∷ []) ∷ []) ∷ [])) ∷
    (form (symbol (codes "quasiquote") ∷ form (symbol (codes "a") ∷ form (symbol (codes "unquote") ∷ number (pos 1) ∷ number (pos 2) ∷ []) ∷ []) ∷ [])) ∷
    (form (symbol (codes "quasiquote") ∷ form (symbol (codes "a") ∷ form (symbol (codes "unquote-splicing") ∷ []) ∷ []) ∷ [])) ∷
    (form (symbol (codes "quasiquote") ∷ form (symbol (codes "a") ∷ form (symbol (codes "unquote-splicing") ∷ number (pos 1) ∷ number (pos 2) ∷ []) ∷ []) ∷ [])) ∷
    (form (symbol (codes "quasiquote") ∷ form (form (symbol (codes "unquote") ∷ symbol (codes "x") ∷ []) ∷ form (symbol (codes "unquote-splicing") ∷ form (symbol (codes "quote") ∷ []) ∷ []) ∷ []) ∷ [])) ∷
    (form (symbol (codes "quasiquote") ∷ form (form (symbol (codes "unquote") ∷ form (symbol (codes "quote") ∷ []) ∷ []) ∷ form (symbol (codes "unquote") ∷ symbol (codes "x") ∷ []) ∷ []) ∷ [])) ∷
    (form (symbol (codes "quasiquote") ∷ form (form (symbol (codes "unquote-splicing") ∷ symbol (codes "x") ∷ []) ∷ []) ∷ [])) ∷
    (form (symbol (codes "quasiquote") ∷ form (symbol (codes "a") ∷ form (symbol (codes "b") ∷ form (symbol (codes "unquote") ∷ symbol (codes "x") ∷ []) ∷ []) ∷ []) ∷ [])) ∷
    (form (symbol (codes "quasiquote") ∷ form (symbol (codes "a") ∷ form (symbol (codes "unquote") ∷ form (symbol (codes "quasiquote") ∷ form (symbol (codes "b") ∷ form (symbol (codes "quasiquote") ∷ symbol (codes "c") ∷ []) ∷ []) ∷ []) ∷ []) ∷ []) ∷ [])) ∷ [])
    ≡ Some Shape ∷ Some Shape ∷ Some Shape ∷ Some Shape ∷ Some Shape ∷ Some Shape ∷ Some Shape ∷ Some Shape ∷ Some Shape ∷ Some Shape ∷ Some Unbound ∷ Some Shape ∷ Some Unbound ∷ Some Unbound ∷ Some Shape ∷ []
unfolding syntax_of page_form_of number_operation_of test_of list_operation_of text_operation_of
faults_of_quasiquotes = refl

-- literals and quotations
--   7
--   -7
--   #f
--   "a"
--   'a
--   '(a (1 "b") ())
--   '`(,a)
pub literals : map tree (
    (number (pos 7)) ∷
    (number (negsuc 6)) ∷
    (truth false) ∷
    (text (codes "a")) ∷
    (form (symbol (codes "quote") ∷ symbol (codes "a") ∷ [])) ∷
    (form (symbol (codes "quote") ∷ form (symbol (codes "a") ∷ form (number (pos 1) ∷ text (codes "b") ∷ []) ∷ form [] ∷ []) ∷ [])) ∷
    (form (symbol (codes "quote") ∷ form (symbol (codes "quasiquote") ∷ form (form (symbol (codes "unquote") ∷ symbol (codes "a") ∷ []) ∷ []) ∷ []) ∷ [])) ∷ [])
    ≡ Ok (lit (number (pos 7))) ∷
    Ok (lit (number (negsuc 6))) ∷
    Ok (lit (truth false)) ∷
    Ok (lit (text (codes "a"))) ∷
    Ok (lit (symbol (codes "a"))) ∷
    Ok (lit (form (symbol (codes "a") ∷ form (number (pos 1) ∷ text (codes "b") ∷ []) ∷ form [] ∷ []))) ∷
    Ok (lit (form (symbol (codes "quasiquote") ∷ form (form (symbol (codes "unquote") ∷ symbol (codes "a") ∷ []) ∷ []) ∷ []))) ∷ []
unfolding syntax_of page_form_of number_operation_of test_of list_operation_of text_operation_of
literals = refl

-- bindings at once, none of them too; the innermost of a name is meant
--   (let () 1)
--   (let ((x 1) (y 2)) (list x y))
--   (let ((x 1)) (let ((x x)) x))
--   (let ((lambda 1) (else 2)) 3 else)
pub bindings : map tree (
    (form (symbol (codes "let") ∷ form [] ∷ number (pos 1) ∷ [])) ∷
    (form (symbol (codes "let") ∷ form (form (symbol (codes "x") ∷ number (pos 1) ∷ []) ∷ form (symbol (codes "y") ∷ number (pos 2) ∷ []) ∷ []) ∷ form (symbol (codes "list") ∷ symbol (codes "x") ∷ symbol (codes "y") ∷ []) ∷ [])) ∷
    (form (symbol (codes "let") ∷ form (form (symbol (codes "x") ∷ number (pos 1) ∷ []) ∷ []) ∷ form (symbol (codes "let") ∷ form (form (symbol (codes "x") ∷ symbol (codes "x") ∷ []) ∷ []) ∷ symbol (codes "x") ∷ []) ∷ [])) ∷
    (form (symbol (codes "let") ∷ form (form (symbol (codes "lambda") ∷ number (pos 1) ∷ []) ∷ form (symbol (codes "else") ∷ number (pos 2) ∷ []) ∷ []) ∷ number (pos 3) ∷ symbol (codes "else") ∷ [])) ∷ [])
    ≡ Ok (bind (cores_of []) (lit (number (pos 1)))) ∷
    Ok (bind (cores_of (lit (number (pos 1)) ∷ lit (number (pos 2)) ∷ [])) (prim op.List (cores_of (var 0 ∷ var 1 ∷ [])))) ∷
    Ok (bind (cores_of (lit (number (pos 1)) ∷ [])) (bind (cores_of (var 0 ∷ [])) (var 1))) ∷
    Ok (bind (cores_of (lit (number (pos 1)) ∷ lit (number (pos 2)) ∷ [])) (seq (cores_of (lit (number (pos 3)) ∷ var 1 ∷ [])))) ∷ []
unfolding syntax_of page_form_of number_operation_of test_of list_operation_of text_operation_of
bindings = refl

-- bindings one inside the other; without one the body
--   (let* () 1)
--   (let* () 1 2)
--   (let* ((x 1) (y x)) (list x y))
--   (let* ((x 1) (x x) (x x)) x)
pub bindings_in_turn : map tree (
    (form (symbol (codes "let*") ∷ form [] ∷ number (pos 1) ∷ [])) ∷
    (form (symbol (codes "let*") ∷ form [] ∷ number (pos 1) ∷ number (pos 2) ∷ [])) ∷
    (form (symbol (codes "let*") ∷ form (form (symbol (codes "x") ∷ number (pos 1) ∷ []) ∷ form (symbol (codes "y") ∷ symbol (codes "x") ∷ []) ∷ []) ∷ form (symbol (codes "list") ∷ symbol (codes "x") ∷ symbol (codes "y") ∷ []) ∷ [])) ∷
    (form (symbol (codes "let*") ∷ form (form (symbol (codes "x") ∷ number (pos 1) ∷ []) ∷ form (symbol (codes "x") ∷ symbol (codes "x") ∷ []) ∷ form (symbol (codes "x") ∷ symbol (codes "x") ∷ []) ∷ []) ∷ symbol (codes "x") ∷ [])) ∷ [])
    ≡ Ok (lit (number (pos 1))) ∷
    Ok (seq (cores_of (lit (number (pos 1)) ∷ lit (number (pos 2)) ∷ []))) ∷
    Ok (bind (cores_of (lit (number (pos 1)) ∷ [])) (bind (cores_of (var 0 ∷ [])) (prim op.List (cores_of (var 0 ∷ var 1 ∷ []))))) ∷
    Ok (bind (cores_of (lit (number (pos 1)) ∷ [])) (bind (cores_of (var 0 ∷ [])) (bind (cores_of (var 1 ∷ [])) (var 2)))) ∷ []
unfolding syntax_of page_form_of number_operation_of test_of list_operation_of text_operation_of
bindings_in_turn = refl

-- bodies of one and of more
--   (begin 1)
--   (begin 1 2 3)
--   (begin (begin 1 2) 3)
pub bodies : map tree (
    (form (symbol (codes "begin") ∷ number (pos 1) ∷ [])) ∷
    (form (symbol (codes "begin") ∷ number (pos 1) ∷ number (pos 2) ∷ number (pos 3) ∷ [])) ∷
    (form (symbol (codes "begin") ∷ form (symbol (codes "begin") ∷ number (pos 1) ∷ number (pos 2) ∷ []) ∷ number (pos 3) ∷ [])) ∷ [])
    ≡ Ok (lit (number (pos 1))) ∷
    Ok (seq (cores_of (lit (number (pos 1)) ∷ lit (number (pos 2)) ∷ lit (number (pos 3)) ∷ []))) ∷
    Ok (seq (cores_of (seq (cores_of (lit (number (pos 1)) ∷ lit (number (pos 2)) ∷ [])) ∷ lit (number (pos 3)) ∷ []))) ∷ []
unfolding syntax_of page_form_of number_operation_of test_of list_operation_of text_operation_of
bodies = refl

-- if and cond; an else that is not the last is a variable
--   (if 1 2 3)
--   (cond [else 1])
--   (cond [else 1 2])
--   (cond [1 2] [3 4 5] [else 6])
--   (let ((else 1)) (cond [else 2] [else 3]))
pub choices : map tree (
    (form (symbol (codes "if") ∷ number (pos 1) ∷ number (pos 2) ∷ number (pos 3) ∷ [])) ∷
    (form (symbol (codes "cond") ∷ form (symbol (codes "else") ∷ number (pos 1) ∷ []) ∷ [])) ∷
    (form (symbol (codes "cond") ∷ form (symbol (codes "else") ∷ number (pos 1) ∷ number (pos 2) ∷ []) ∷ [])) ∷
    (form (symbol (codes "cond") ∷ form (number (pos 1) ∷ number (pos 2) ∷ []) ∷ form (number (pos 3) ∷ number (pos 4) ∷ number (pos 5) ∷ []) ∷ form (symbol (codes "else") ∷ number (pos 6) ∷ []) ∷ [])) ∷
    (form (symbol (codes "let") ∷ form (form (symbol (codes "else") ∷ number (pos 1) ∷ []) ∷ []) ∷ form (symbol (codes "cond") ∷ form (symbol (codes "else") ∷ number (pos 2) ∷ []) ∷ form (symbol (codes "else") ∷ number (pos 3) ∷ []) ∷ []) ∷ [])) ∷ [])
    ≡ Ok (branch (lit (number (pos 1))) (lit (number (pos 2))) (lit (number (pos 3)))) ∷
    Ok (lit (number (pos 1))) ∷
    Ok (seq (cores_of (lit (number (pos 1)) ∷ lit (number (pos 2)) ∷ []))) ∷
    Ok (branch (lit (number (pos 1))) (lit (number (pos 2))) (branch (lit (number (pos 3))) (seq (cores_of (lit (number (pos 4)) ∷ lit (number (pos 5)) ∷ []))) (lit (number (pos 6))))) ∷
    Ok (bind (cores_of (lit (number (pos 1)) ∷ [])) (branch (var 0) (lit (number (pos 2))) (lit (number (pos 3))))) ∷ []
unfolding syntax_of page_form_of number_operation_of test_of list_operation_of text_operation_of
choices = refl

-- `and` and `or`
--   (and)
--   (or)
--   (and 1)
--   (or 1)
--   (and 1 2)
--   (or 1 2 3)
pub junctions_of : map tree (
    (form (symbol (codes "and") ∷ [])) ∷
    (form (symbol (codes "or") ∷ [])) ∷
    (form (symbol (codes "and") ∷ number (pos 1) ∷ [])) ∷
    (form (symbol (codes "or") ∷ number (pos 1) ∷ [])) ∷
    (form (symbol (codes "and") ∷ number (pos 1) ∷ number (pos 2) ∷ [])) ∷
    (form (symbol (codes "or") ∷ number (pos 1) ∷ number (pos 2) ∷ number (pos 3) ∷ [])) ∷ [])
    ≡ Ok (lit (truth true)) ∷
    Ok (lit (truth false)) ∷
    Ok (lit (number (pos 1))) ∷
    Ok (lit (number (pos 1))) ∷
    Ok (and_all (cores_of (lit (number (pos 1)) ∷ lit (number (pos 2)) ∷ []))) ∷
    Ok (or_any (cores_of (lit (number (pos 1)) ∷ lit (number (pos 2)) ∷ lit (number (pos 3)) ∷ []))) ∷ []
unfolding syntax_of page_form_of number_operation_of test_of list_operation_of text_operation_of
junctions_of = refl

-- for/list
--   (for/list ((x 3)) x)
--   (let ((x 2)) (for/list ((x x)) 1 x))
pub turns : map tree (
    (form (symbol (codes "for/list") ∷ form (form (symbol (codes "x") ∷ number (pos 3) ∷ []) ∷ []) ∷ symbol (codes "x") ∷ [])) ∷
    (form (symbol (codes "let") ∷ form (form (symbol (codes "x") ∷ number (pos 2) ∷ []) ∷ []) ∷ form (symbol (codes "for/list") ∷ form (form (symbol (codes "x") ∷ symbol (codes "x") ∷ []) ∷ []) ∷ number (pos 1) ∷ symbol (codes "x") ∷ []) ∷ [])) ∷ [])
    ≡ Ok (repeat (lit (number (pos 3))) (var 0)) ∷
    Ok (bind (cores_of (lit (number (pos 2)) ∷ [])) (repeat (var 0) (seq (cores_of (lit (number (pos 1)) ∷ var 1 ∷ []))))) ∷ []
unfolding syntax_of page_form_of number_operation_of test_of list_operation_of text_operation_of
turns = refl

-- cells by their numbers among their kind
--   (list (web-cell-ref w) (web-cell-ref v) (instance-cell-ref i))
--   (web-cell-shadow v 1)
--   (instance-cell-set! i 2)
--   (instance-cell-add! i -1)
pub cells_read_and_written : map tree (
    (form (symbol (codes "list") ∷ form (symbol (codes "web-cell-ref") ∷ symbol (codes "w") ∷ []) ∷ form (symbol (codes "web-cell-ref") ∷ symbol (codes "v") ∷ []) ∷ form (symbol (codes "instance-cell-ref") ∷ symbol (codes "i") ∷ []) ∷ [])) ∷
    (form (symbol (codes "web-cell-shadow") ∷ symbol (codes "v") ∷ number (pos 1) ∷ [])) ∷
    (form (symbol (codes "instance-cell-set!") ∷ symbol (codes "i") ∷ number (pos 2) ∷ [])) ∷
    (form (symbol (codes "instance-cell-add!") ∷ symbol (codes "i") ∷ number (negsuc 0) ∷ [])) ∷ [])
    ≡ Ok (prim op.List (cores_of (cell_ref 0 ∷ cell_ref 1 ∷ inst_ref 0 ∷ []))) ∷
    Ok (cell_shadow 1 (lit (number (pos 1)))) ∷
    Ok (inst_set 0 (lit (number (pos 2)))) ∷
    Ok (inst_add 0 (lit (number (negsuc 0)))) ∷ []
unfolding syntax_of page_form_of number_operation_of test_of list_operation_of text_operation_of
cells_read_and_written = refl

-- pages: the name of a send is the innermost variable of its body; a page may read cells; a transaction may send
--   (let ((x 1)) (send/suspend (lambda (u) x u)))
--   (send/forward (lambda (u) (web-cell-ref w)))
--   (send/finish (instance-cell-ref i))
--   (send/back 1)
--   (isolate (list (send/back 1) (isolate (instance-cell-add! i 1))))
pub pages : map tree (
    (form (symbol (codes "let") ∷ form (form (symbol (codes "x") ∷ number (pos 1) ∷ []) ∷ []) ∷ form (symbol (codes "send/suspend") ∷ form (symbol (codes "lambda") ∷ form (symbol (codes "u") ∷ []) ∷ symbol (codes "x") ∷ symbol (codes "u") ∷ []) ∷ []) ∷ [])) ∷
    (form (symbol (codes "send/forward") ∷ form (symbol (codes "lambda") ∷ form (symbol (codes "u") ∷ []) ∷ form (symbol (codes "web-cell-ref") ∷ symbol (codes "w") ∷ []) ∷ []) ∷ [])) ∷
    (form (symbol (codes "send/finish") ∷ form (symbol (codes "instance-cell-ref") ∷ symbol (codes "i") ∷ []) ∷ [])) ∷
    (form (symbol (codes "send/back") ∷ number (pos 1) ∷ [])) ∷
    (form (symbol (codes "isolate") ∷ form (symbol (codes "list") ∷ form (symbol (codes "send/back") ∷ number (pos 1) ∷ []) ∷ form (symbol (codes "isolate") ∷ form (symbol (codes "instance-cell-add!") ∷ symbol (codes "i") ∷ number (pos 1) ∷ []) ∷ []) ∷ []) ∷ [])) ∷ [])
    ≡ Ok (bind (cores_of (lit (number (pos 1)) ∷ [])) (send Suspend (seq (cores_of (var 0 ∷ var 1 ∷ []))))) ∷
    Ok (send Forward (cell_ref 0)) ∷
    Ok (finish (inst_ref 0)) ∷
    Ok (back (lit (number (pos 1)))) ∷
    Ok (isolate (prim op.List (cores_of (back (lit (number (pos 1))) ∷ isolate (inst_add 0 (lit (number (pos 1)))) ∷ [])))) ∷ []
unfolding syntax_of page_form_of number_operation_of test_of list_operation_of text_operation_of
pages = refl

-- operations
--   (+)
--   (- 1)
--   (cons 1 '())
pub operations_of : map tree (
    (form (symbol (codes "+") ∷ [])) ∷
    (form (symbol (codes "-") ∷ number (pos 1) ∷ [])) ∷
    (form (symbol (codes "cons") ∷ number (pos 1) ∷ form (symbol (codes "quote") ∷ form [] ∷ []) ∷ [])) ∷ [])
    ≡ Ok (prim op.Add (cores_of [])) ∷
    Ok (prim op.Subtract (cores_of (lit (number (pos 1)) ∷ []))) ∷
    Ok (prim op.Cons (cores_of (lit (number (pos 1)) ∷ lit (form []) ∷ []))) ∷ []
unfolding syntax_of page_form_of number_operation_of test_of list_operation_of text_operation_of
operations_of = refl

-- templates: what has no expression in it is one literal; a list with a direct unquote-splicing is joined
--   `a
--   `(a (b 1))
--   `,1
--   `(a ,1)
--   `(a unquote b)
--   `((href ,1) (b) "t")
--   `(a ,@'(1) b)
--   `((,1) ,@'() (c (,2 ,@'(3))))
--   `(a ,`(b ,1))
pub templates : map tree (
    (form (symbol (codes "quasiquote") ∷ symbol (codes "a") ∷ [])) ∷
    (form (symbol (codes "quasiquote") ∷ form (symbol (codes "a") ∷ form (symbol (codes "b") ∷ number (pos 1) ∷ []) ∷ []) ∷ [])) ∷
    (form (symbol (codes "quasiquote") ∷ form (symbol (codes "unquote") ∷ number (pos 1) ∷ []) ∷ [])) ∷
    (form (symbol (codes "quasiquote") ∷ form (symbol (codes "a") ∷ form (symbol (codes "unquote") ∷ number (pos 1) ∷ []) ∷ []) ∷ [])) ∷
    (form (symbol (codes "quasiquote") ∷ form (symbol (codes "a") ∷ symbol (codes "unquote") ∷ symbol (codes "b") ∷ []) ∷ [])) ∷
    (form (symbol (codes "quasiquote") ∷ form (form (symbol (codes "href") ∷ form (symbol (codes "unquote") ∷ number (pos 1) ∷ []) ∷ []) ∷ form (symbol (codes "b") ∷ []) ∷ text (codes "t") ∷ []) ∷ [])) ∷
    (form (symbol (codes "quasiquote") ∷ form (symbol (codes "a") ∷ form (symbol (codes "unquote-splicing") ∷ form (symbol (codes "quote") ∷ form (number (pos 1) ∷ []) ∷ []) ∷ []) ∷ symbol (codes "b") ∷ []) ∷ [])) ∷
    (form (symbol (codes "quasiquote") ∷ form (form (form (symbol (codes "unquote") ∷ number (pos 1) ∷ []) ∷ []) ∷ form (symbol (codes "unquote-splicing") ∷ form (symbol (codes "quote") ∷ form [] ∷ []) ∷ []) ∷ form (symbol (codes "c") ∷ form (form (symbol (codes "unquote") ∷ number (pos 2) ∷ []) ∷ form (symbol (codes "unquote-splicing") ∷ form (symbol (codes "quote") ∷ form (number (pos 3) ∷ []) ∷ []) ∷ []) ∷ []) ∷ []) ∷ []) ∷ [])) ∷
    (form (symbol (codes "quasiquote") ∷ form (symbol (codes "a") ∷ form (symbol (codes "unquote") ∷ form (symbol (codes "quasiquote") ∷ form (symbol (codes "b") ∷ form (symbol (codes "unquote") ∷ number (pos 1) ∷ []) ∷ []) ∷ []) ∷ []) ∷ []) ∷ [])) ∷ [])
    ≡ Ok (lit (symbol (codes "a"))) ∷
    Ok (lit (form (symbol (codes "a") ∷ form (symbol (codes "b") ∷ number (pos 1) ∷ []) ∷ []))) ∷
    Ok (lit (number (pos 1))) ∷
    Ok (prim op.List (cores_of (lit (symbol (codes "a")) ∷ lit (number (pos 1)) ∷ []))) ∷
    Ok (lit (form (symbol (codes "a") ∷ symbol (codes "unquote") ∷ symbol (codes "b") ∷ []))) ∷
    Ok (prim op.List (cores_of (prim op.List (cores_of (lit (symbol (codes "href")) ∷ lit (number (pos 1)) ∷ [])) ∷ lit (form (symbol (codes "b") ∷ [])) ∷ lit (text (codes "t")) ∷ []))) ∷
    Ok (prim op.Append (cores_of (prim op.List (cores_of (lit (symbol (codes "a")) ∷ [])) ∷ lit (form (number (pos 1) ∷ [])) ∷ prim op.List (cores_of (lit (symbol (codes "b")) ∷ [])) ∷ []))) ∷
    Ok (prim op.Append (cores_of (prim op.List (cores_of (prim op.List (cores_of (lit (number (pos 1)) ∷ [])) ∷ [])) ∷ lit (form []) ∷ prim op.List (cores_of (prim op.List (cores_of (lit (symbol (codes "c")) ∷ prim op.Append (cores_of (prim op.List (cores_of (lit (number (pos 2)) ∷ [])) ∷ lit (form (number (pos 3) ∷ [])) ∷ [])) ∷ [])) ∷ [])) ∷ []))) ∷
    Ok (prim op.List (cores_of (lit (symbol (codes "a")) ∷ prim op.List (cores_of (lit (symbol (codes "b")) ∷ lit (number (pos 1)) ∷ [])) ∷ []))) ∷ []
unfolding syntax_of page_form_of number_operation_of test_of list_operation_of text_operation_of
templates = refl
