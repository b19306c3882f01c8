-- What whole scripts are: their cells and their trees, their faults, and the limits.
use Rattle.std.specs.Prelude.{◌≡◌, ℕ, zero, suc, pos, negsuc, List, [], ◌∷◌, map, true, false, Option, Some, None, Result, Ok, Err, codes, refl}
use Rattle.script_value.specs.Val.{Val, number, truth, text, symbol}
use Rattle.script_value.specs.declared.outcome.Op.TheVariants as op
use Rattle.core_syntax.specs.declared.faults.SyntaxKind.{SyntaxKind}
use Rattle.core_syntax.specs.declared.faults.SyntaxKind.TheVariants.{Shape, Unbound, Duplicate, TooMany}
use Rattle.script_nodes.specs.declared.script.SendKind.TheVariants.{Suspend}
use Rattle.script_nodes.specs.Core.{Core, lit, var, bind, branch, repeat, prim, seq, send, cell_ref, cell_shadow, inst_ref, inst_add, no_cores, cores_of}
use Rattle.script_nodes.specs.Setup.{Script}
use Rattle.prim_spec.specs.Table.{number_operation_of, test_of, list_operation_of, text_operation_of}
use Rattle.core_syntax.specs.Heads.{syntax_of, page_form_of}
use Rattle.core_syntax.specs.Definitions.{expanded, are_too_many}
use Rattle.core_syntax.specs.Vectors.{form}

-- the fault of a script, if it has one, with the number of its form
abbrev fault_in : Result Script (SyntaxKind × ℕ) → Option (SyntaxKind × ℕ)
fault_in (Ok s) = None
fault_in (Err k) = Some k

-- the fault of these forms as a script, if they have one, with its number
abbrev fault : List Val → Option (SyntaxKind × ℕ)
fault vs = fault_in (expanded vs)

-- no expression after the definitions: the fault has the number of forms
--     Shape 0
--   (define c (make-web-cell 1))  Shape 1
--   (define c (make-web-cell 1)) (define d (make-instance-cell 2))  Shape 2
pub faults_of_no_expression : map fault (
    [] ∷
    (form (symbol (codes "define") ∷ symbol (codes "c") ∷ form (symbol (codes "make-web-cell") ∷ number (pos 1) ∷ []) ∷ []) ∷ []) ∷
    (form (symbol (codes "define") ∷ symbol (codes "c") ∷ form (symbol (codes "make-web-cell") ∷ number (pos 1) ∷ []) ∷ []) ∷ form (symbol (codes "define") ∷ symbol (codes "d") ∷ form (symbol (codes "make-instance-cell") ∷ number (pos 2) ∷ []) ∷ []) ∷ []) ∷ [])
    ≡ Some (Shape, 0) ∷ Some (Shape, 1) ∷ Some (Shape, 2) ∷ []
unfolding expanded syntax_of page_form_of number_operation_of test_of list_operation_of text_operation_of
faults_of_no_expression = refl

-- a form before the last that is no definition
--   1 2  Shape 0
--   x 2  Shape 0
--   (define c (make-web-cell 1)) 1 2  Shape 1
--   1 (define c (make-web-cell 1))  Shape 0
pub faults_of_forms_before_the_last : map fault (
    (number (pos 1) ∷ number (pos 2) ∷ []) ∷
    (symbol (codes "x") ∷ number (pos 2) ∷ []) ∷
    (form (symbol (codes "define") ∷ symbol (codes "c") ∷ form (symbol (codes "make-web-cell") ∷ number (pos 1) ∷ []) ∷ []) ∷ number (pos 1) ∷ number (pos 2) ∷ []) ∷
    (number (pos 1) ∷ form (symbol (codes "define") ∷ symbol (codes "c") ∷ form (symbol (codes "make-web-cell") ∷ number (pos 1) ∷ []) ∷ []) ∷ []) ∷ [])
    ≡ Some (Shape, 0) ∷ Some (Shape, 0) ∷ Some (Shape, 1) ∷ Some (Shape, 0) ∷ []
unfolding expanded syntax_of page_form_of number_operation_of test_of list_operation_of text_operation_of
faults_of_forms_before_the_last = refl

-- definitions: their shape, and then their names
--   (define) 1  Shape 0
--   (define c) 1  Shape 0
--   (define c 1) 1  Shape 0
--   (define 1 (make-web-cell 1)) 1  Shape 0
--   (define c (make-cell 1)) 1  Shape 0
--   (define c (make-web-cell)) 1  Shape 0
--   (define c (make-web-cell 1 2)) 1  Shape 0
--   (define c (make-web-cell x)) 1  Shape 0
--   (define c (make-web-cell (list))) 1  Shape 0
--   (define c (make-web-cell (quote))) 1  Shape 0
--   (define c (make-web-cell `a)) 1  Shape 0
--   (define let (make-web-cell x)) 1  Shape 0
--   (define let (make-web-cell 1)) 1  Duplicate 0
--   (define list (make-web-cell 1)) 1  Duplicate 0
--   (define c (make-web-cell 1)) (define c (make-instance-cell 1)) 1  Duplicate 1
--   (define c (make-instance-cell 1)) (define c (make-instance-cell 1))  Duplicate 1
pub faults_of_definitions : map fault (
    (form (symbol (codes "define") ∷ []) ∷ number (pos 1) ∷ []) ∷
    (form (symbol (codes "define") ∷ symbol (codes "c") ∷ []) ∷ number (pos 1) ∷ []) ∷
    (form (symbol (codes "define") ∷ symbol (codes "c") ∷ number (pos 1) ∷ []) ∷ number (pos 1) ∷ []) ∷
    (form (symbol (codes "define") ∷ number (pos 1) ∷ form (symbol (codes "make-web-cell") ∷ number (pos 1) ∷ []) ∷ []) ∷ number (pos 1) ∷ []) ∷
    (form (symbol (codes "define") ∷ symbol (codes "c") ∷ form (symbol (codes "make-cell") ∷ number (pos 1) ∷ []) ∷ []) ∷ number (pos 1) ∷ []) ∷
    (form (symbol (codes "define") ∷ symbol (codes "c") ∷ form (symbol (codes "make-web-cell") ∷ []) ∷ []) ∷ number (pos 1) ∷ []) ∷
    (form (symbol (codes "define") ∷ symbol (codes "c") ∷ form (symbol (codes "make-web-cell") ∷ number (pos 1) ∷ number (pos 2) ∷ []) ∷ []) ∷ number (pos 1) ∷ []) ∷
    (form (symbol (codes "define") ∷ symbol (codes "c") ∷ form (symbol (codes "make-web-cell") ∷ symbol (codes "x") ∷ []) ∷ []) ∷ number (pos 1) ∷ []) ∷
    (form (symbol (codes "define") ∷ symbol (codes "c") ∷ form (symbol (codes "make-web-cell") ∷ form (symbol (codes "list") ∷ []) ∷ []) ∷ []) ∷ number (pos 1) ∷ []) ∷
    (form (symbol (codes "define") ∷ symbol (codes "c") ∷ form (symbol (codes "make-web-cell") ∷ form (symbol (codes "quote") ∷ []) ∷ []) ∷ []) ∷ number (pos 1) ∷ []) ∷
    (form (symbol (codes "define") ∷ symbol (codes "c") ∷ form (symbol (codes "make-web-cell") ∷ form (symbol (codes "quasiquote") ∷ symbol (codes "a") ∷ []) ∷ []) ∷ []) ∷ number (pos 1) ∷ []) ∷
    (form (symbol (codes "define") ∷ symbol (codes "let") ∷ form (symbol (codes "make-web-cell") ∷ symbol (codes "x") ∷ []) ∷ []) ∷ number (pos 1) ∷ []) ∷
    (form (symbol (codes "define") ∷ symbol (codes "let") ∷ form (symbol (codes "make-web-cell") ∷ number (pos 1) ∷ []) ∷ []) ∷ number (pos 1) ∷ []) ∷
    (form (symbol (codes "define") ∷ symbol (codes "list") ∷ form (symbol (codes "make-web-cell") ∷ number (pos 1) ∷ []) ∷ []) ∷ number (pos 1) ∷ []) ∷
    (form (symbol (codes "define") ∷ symbol (codes "c") ∷ form (symbol (codes "make-web-cell") ∷ number (pos 1) ∷ []) ∷ []) ∷ form (symbol (codes "define") ∷ symbol (codes "c") ∷ form (symbol (codes "make-instance-cell") ∷ number (pos 1) ∷ []) ∷ []) ∷ number (pos 1) ∷ []) ∷
    (form (symbol (codes "define") ∷ symbol (codes "c") ∷ form (symbol (codes "make-instance-cell") ∷ number (pos 1) ∷ []) ∷ []) ∷ form (symbol (codes "define") ∷ symbol (codes "c") ∷ form (symbol (codes "make-instance-cell") ∷ number (pos 1) ∷ []) ∷ []) ∷ []) ∷ [])
    ≡ Some (Shape, 0) ∷ Some (Shape, 0) ∷ Some (Shape, 0) ∷ Some (Shape, 0) ∷ Some (Shape, 0) ∷ Some (Shape, 0) ∷ Some (Shape, 0) ∷ Some (Shape, 0) ∷ Some (Shape, 0) ∷ Some (Shape, 0) ∷ Some (Shape, 0) ∷ Some (Shape, 0) ∷ Some (Duplicate, 0) ∷ Some (Duplicate, 0) ∷ Some (Duplicate, 1) ∷ Some (Duplicate, 1) ∷ []
unfolding expanded syntax_of page_form_of number_operation_of test_of list_operation_of text_operation_of
faults_of_definitions = refl

-- faults of the expression have its number; a cell is no variable, and no variable has its name
--   (define c (make-web-cell 1)) c  Unbound 1
--   (define c (make-web-cell 1)) (let ((c 1)) 1)  Duplicate 1
--   (define c (make-web-cell 1)) (instance-cell-ref c)  Unbound 1
--   (define c (make-web-cell 1)) (define d (make-web-cell 1)) (quote)  Shape 2
--   (web-cell-ref c)  Unbound 0
pub faults_of_expressions_behind : map fault (
    (form (symbol (codes "define") ∷ symbol (codes "c") ∷ form (symbol (codes "make-web-cell") ∷ number (pos 1) ∷ []) ∷ []) ∷ symbol (codes "c") ∷ []) ∷
    (form (symbol (codes "define") ∷ symbol (codes "c") ∷ form (symbol (codes "make-web-cell") ∷ number (pos 1) ∷ []) ∷ []) ∷ form (symbol (codes "let") ∷ form (form (symbol (codes "c") ∷ number (pos 1) ∷ []) ∷ []) ∷ number (pos 1) ∷ []) ∷ []) ∷
    (form (symbol (codes "define") ∷ symbol (codes "c") ∷ form (symbol (codes "make-web-cell") ∷ number (pos 1) ∷ []) ∷ []) ∷ form (symbol (codes "instance-cell-ref") ∷ symbol (codes "c") ∷ []) ∷ []) ∷
    (form (symbol (codes "define") ∷ symbol (codes "c") ∷ form (symbol (codes "make-web-cell") ∷ number (pos 1) ∷ []) ∷ []) ∷ form (symbol (codes "define") ∷ symbol (codes "d") ∷ form (symbol (codes "make-web-cell") ∷ number (pos 1) ∷ []) ∷ []) ∷ form (symbol (codes "quote") ∷ []) ∷ []) ∷
    (form (symbol (codes "web-cell-ref") ∷ symbol (codes "c") ∷ []) ∷ []) ∷ [])
    ≡ Some (Unbound, 1) ∷ Some (Duplicate, 1) ∷ Some (Unbound, 1) ∷ Some (Shape, 2) ∷ Some (Unbound, 0) ∷ []
unfolding expanded syntax_of page_form_of number_operation_of test_of list_operation_of text_operation_of
faults_of_expressions_behind = refl

-- cells are numbered by kind, and begin with what their definitions say
--   (define a (make-instance-cell 1)) (define b (make-web-cell "t")) (define c (make-web-cell '(x 2))) (define d (make-instance-cell #f)) (list (web-cell-ref b) (web-cell-ref c) (instance-cell-ref a) (instance-cell-ref d))
pub cells_of_each_kind : expanded (form (symbol (codes "define") ∷ symbol (codes "a") ∷ form (symbol (codes "make-instance-cell") ∷ number (pos 1) ∷ []) ∷ []) ∷ form (symbol (codes "define") ∷ symbol (codes "b") ∷ form (symbol (codes "make-web-cell") ∷ text (codes "t") ∷ []) ∷ []) ∷ form (symbol (codes "define") ∷ symbol (codes "c") ∷ form (symbol (codes "make-web-cell") ∷ form (symbol (codes "quote") ∷ form (symbol (codes "x") ∷ number (pos 2) ∷ []) ∷ []) ∷ []) ∷ []) ∷ form (symbol (codes "define") ∷ symbol (codes "d") ∷ form (symbol (codes "make-instance-cell") ∷ truth false ∷ []) ∷ []) ∷ form (symbol (codes "list") ∷ form (symbol (codes "web-cell-ref") ∷ symbol (codes "b") ∷ []) ∷ form (symbol (codes "web-cell-ref") ∷ symbol (codes "c") ∷ []) ∷ form (symbol (codes "instance-cell-ref") ∷ symbol (codes "a") ∷ []) ∷ form (symbol (codes "instance-cell-ref") ∷ symbol (codes "d") ∷ []) ∷ []) ∷ [])
    ≡ Ok (record { web = (text (codes "t") ∷ form (symbol (codes "x") ∷ number (pos 2) ∷ []) ∷ []); cells = (number (pos 1) ∷ truth false ∷ []); tasks = no_cores; body = prim op.List (cores_of (cell_ref 0 ∷ cell_ref 1 ∷ inst_ref 0 ∷ inst_ref 1 ∷ [])) })
unfolding expanded syntax_of page_form_of number_operation_of test_of list_operation_of text_operation_of
cells_of_each_kind = refl

-- a cell may have the name of what is no form
--   (define lambda (make-web-cell 1)) (web-cell-ref lambda)
pub names_that_are_free : expanded (form (symbol (codes "define") ∷ symbol (codes "lambda") ∷ form (symbol (codes "make-web-cell") ∷ number (pos 1) ∷ []) ∷ []) ∷ form (symbol (codes "web-cell-ref") ∷ symbol (codes "lambda") ∷ []) ∷ [])
    ≡ Ok (record { web = (number (pos 1) ∷ []); cells = []; tasks = no_cores; body = cell_ref 0 })
unfolding expanded syntax_of page_form_of number_operation_of test_of list_operation_of text_operation_of
names_that_are_free = refl

--   (let ((a (string->number (extract-binding/single 'n (send/suspend (lambda (u) (list 'a (list (list 'href u)) "1")))))) (b (string->number (extract-binding/single 'n (send/suspend (lambda (u) (list 'a (list (list 'href u)) "2"))))))) (list 'p (number->string (+ a b))))
pub sum : expanded (form (symbol (codes "let") ∷ form (form (symbol (codes "a") ∷ form (symbol (codes "string->number") ∷ form (symbol (codes "extract-binding/single") ∷ form (symbol (codes "quote") ∷ symbol (codes "n") ∷ []) ∷ form (symbol (codes "send/suspend") ∷ form (symbol (codes "lambda") ∷ form (symbol (codes "u") ∷ []) ∷ form (symbol (codes "list") ∷ form (symbol (codes "quote") ∷ symbol (codes "a") ∷ []) ∷ form (symbol (codes "list") ∷ form (symbol (codes "list") ∷ form (symbol (codes "quote") ∷ symbol (codes "href") ∷ []) ∷ symbol (codes "u") ∷ []) ∷ []) ∷ text (codes "1") ∷ []) ∷ []) ∷ []) ∷ []) ∷ []) ∷ []) ∷ form (symbol (codes "b") ∷ form (symbol (codes "string->number") ∷ form (symbol (codes "extract-binding/single") ∷ form (symbol (codes "quote") ∷ symbol (codes "n") ∷ []) ∷ form (symbol (codes "send/suspend") ∷ form (symbol (codes "lambda") ∷ form (symbol (codes "u") ∷ []) ∷ form (symbol (codes "list") ∷ form (symbol (codes "quote") ∷ symbol (codes "a") ∷ []) ∷ form (symbol (codes "list") ∷ form (symbol (codes "list") ∷ form (symbol (codes "quote") ∷ symbol (codes "href") ∷ []) ∷ symbol (codes "u") ∷ []) ∷ []) ∷ text (codes "2") ∷ []) ∷ []) ∷ []) ∷ []) ∷ []) ∷ []) ∷ []) ∷ form (symbol (codes "list") ∷ form (symbol (codes "quote") ∷ symbol (codes "p") ∷ []) ∷ form (symbol (codes "number->string") ∷ form (symbol (codes "+") ∷ symbol (codes "a") ∷ symbol (codes "b") ∷ []) ∷ []) ∷ []) ∷ []) ∷ [])
    ≡ Ok (record { web = []; cells = []; tasks = no_cores; body = bind (cores_of (prim op.StringToNumber (cores_of (prim op.ExtractBindingSingle (cores_of (lit (symbol (codes "n")) ∷ send Suspend (prim op.List (cores_of (lit (symbol (codes "a")) ∷ prim op.List (cores_of (prim op.List (cores_of (lit (symbol (codes "href")) ∷ var 0 ∷ [])) ∷ [])) ∷ lit (text (codes "1")) ∷ []))) ∷ [])) ∷ [])) ∷ prim op.StringToNumber (cores_of (prim op.ExtractBindingSingle (cores_of (lit (symbol (codes "n")) ∷ send Suspend (prim op.List (cores_of (lit (symbol (codes "a")) ∷ prim op.List (cores_of (prim op.List (cores_of (lit (symbol (codes "href")) ∷ var 0 ∷ [])) ∷ [])) ∷ lit (text (codes "2")) ∷ []))) ∷ [])) ∷ [])) ∷ [])) (prim op.List (cores_of (lit (symbol (codes "p")) ∷ prim op.NumberToString (cores_of (prim op.Add (cores_of (var 0 ∷ var 1 ∷ [])) ∷ [])) ∷ []))) })
unfolding expanded syntax_of page_form_of number_operation_of test_of list_operation_of text_operation_of
sum = refl

--   (define picked (make-web-cell "none"))
--   (let ((b (send/suspend (lambda (u) `(a ((href ,u)) "list")))))
--     (web-cell-shadow picked (extract-binding/single 'h b))
--     (send/suspend (lambda (u) `(a ((href ,u)) "confirm")))
--     `(p ,(web-cell-ref picked)))
pub hotel : expanded (form (symbol (codes "define") ∷ symbol (codes "picked") ∷ form (symbol (codes "make-web-cell") ∷ text (codes "none") ∷ []) ∷ []) ∷ form (symbol (codes "let") ∷ form (form (symbol (codes "b") ∷ form (symbol (codes "send/suspend") ∷ form (symbol (codes "lambda") ∷ form (symbol (codes "u") ∷ []) ∷ form (symbol (codes "quasiquote") ∷ form (symbol (codes "a") ∷ form (form (symbol (codes "href") ∷ form (symbol (codes "unquote") ∷ symbol (codes "u") ∷ []) ∷ []) ∷ []) ∷ text (codes "list") ∷ []) ∷ []) ∷ []) ∷ []) ∷ []) ∷ []) ∷ form (symbol (codes "web-cell-shadow") ∷ symbol (codes "picked") ∷ form (symbol (codes "extract-binding/single") ∷ form (symbol (codes "quote") ∷ symbol (codes "h") ∷ []) ∷ symbol (codes "b") ∷ []) ∷ []) ∷ form (symbol (codes "send/suspend") ∷ form (symbol (codes "lambda") ∷ form (symbol (codes "u") ∷ []) ∷ form (symbol (codes "quasiquote") ∷ form (symbol (codes "a") ∷ form (form (symbol (codes "href") ∷ form (symbol (codes "unquote") ∷ symbol (codes "u") ∷ []) ∷ []) ∷ []) ∷ text (codes "confirm") ∷ []) ∷ []) ∷ []) ∷ []) ∷ form (symbol (codes "quasiquote") ∷ form (symbol (codes "p") ∷ form (symbol (codes "unquote") ∷ form (symbol (codes "web-cell-ref") ∷ symbol (codes "picked") ∷ []) ∷ []) ∷ []) ∷ []) ∷ []) ∷ [])
    ≡ Ok (record { web = (text (codes "none") ∷ []); cells = []; tasks = no_cores; body = bind (cores_of (send Suspend (prim op.List (cores_of (lit (symbol (codes "a")) ∷ prim op.List (cores_of (prim op.List (cores_of (lit (symbol (codes "href")) ∷ var 0 ∷ [])) ∷ [])) ∷ lit (text (codes "list")) ∷ []))) ∷ [])) (seq (cores_of (cell_shadow 0 (prim op.ExtractBindingSingle (cores_of (lit (symbol (codes "h")) ∷ var 0 ∷ []))) ∷ send Suspend (prim op.List (cores_of (lit (symbol (codes "a")) ∷ prim op.List (cores_of (prim op.List (cores_of (lit (symbol (codes "href")) ∷ var 1 ∷ [])) ∷ [])) ∷ lit (text (codes "confirm")) ∷ []))) ∷ prim op.List (cores_of (lit (symbol (codes "p")) ∷ cell_ref 0 ∷ [])) ∷ []))) })
unfolding expanded syntax_of page_form_of number_operation_of test_of list_operation_of text_operation_of
hotel = refl

--   (define stock (make-instance-cell 1))
--   (begin
--     (send/suspend (lambda (u) `(a ((href ,u)) "buy")))
--     (if (< (instance-cell-ref stock) 1)
--         '(p "sold out")
--         (begin (instance-cell-add! stock -1) '(p "bought"))))
pub shop : expanded (form (symbol (codes "define") ∷ symbol (codes "stock") ∷ form (symbol (codes "make-instance-cell") ∷ number (pos 1) ∷ []) ∷ []) ∷ form (symbol (codes "begin") ∷ form (symbol (codes "send/suspend") ∷ form (symbol (codes "lambda") ∷ form (symbol (codes "u") ∷ []) ∷ form (symbol (codes "quasiquote") ∷ form (symbol (codes "a") ∷ form (form (symbol (codes "href") ∷ form (symbol (codes "unquote") ∷ symbol (codes "u") ∷ []) ∷ []) ∷ []) ∷ text (codes "buy") ∷ []) ∷ []) ∷ []) ∷ []) ∷ form (symbol (codes "if") ∷ form (symbol (codes "<") ∷ form (symbol (codes "instance-cell-ref") ∷ symbol (codes "stock") ∷ []) ∷ number (pos 1) ∷ []) ∷ form (symbol (codes "quote") ∷ form (symbol (codes "p") ∷ text (codes "sold out") ∷ []) ∷ []) ∷ form (symbol (codes "begin") ∷ form (symbol (codes "instance-cell-add!") ∷ symbol (codes "stock") ∷ number (negsuc 0) ∷ []) ∷ form (symbol (codes "quote") ∷ form (symbol (codes "p") ∷ text (codes "bought") ∷ []) ∷ []) ∷ []) ∷ []) ∷ []) ∷ [])
    ≡ Ok (record { web = []; cells = (number (pos 1) ∷ []); tasks = no_cores; body = seq (cores_of (send Suspend (prim op.List (cores_of (lit (symbol (codes "a")) ∷ prim op.List (cores_of (prim op.List (cores_of (lit (symbol (codes "href")) ∷ var 0 ∷ [])) ∷ [])) ∷ lit (text (codes "buy")) ∷ []))) ∷ branch (prim op.Less (cores_of (inst_ref 0 ∷ lit (number (pos 1)) ∷ []))) (lit (form (symbol (codes "p") ∷ text (codes "sold out") ∷ []))) (seq (cores_of (inst_add 0 (lit (number (negsuc 0))) ∷ lit (form (symbol (codes "p") ∷ text (codes "bought") ∷ [])) ∷ []))) ∷ [])) })
unfolding expanded syntax_of page_form_of number_operation_of test_of list_operation_of text_operation_of
shop = refl

--   (let ((b (send/suspend (lambda (u) `(a ((href ,u)) "k")))))
--     (cons 'p
--       (for/list ((i (string->number (extract-binding/single 'k b))))
--         (extract-binding/single 'a
--           (send/suspend (lambda (u) `(a ((href ,u)) ,(number->string i))))))))
pub quiz : expanded (form (symbol (codes "let") ∷ form (form (symbol (codes "b") ∷ form (symbol (codes "send/suspend") ∷ form (symbol (codes "lambda") ∷ form (symbol (codes "u") ∷ []) ∷ form (symbol (codes "quasiquote") ∷ form (symbol (codes "a") ∷ form (form (symbol (codes "href") ∷ form (symbol (codes "unquote") ∷ symbol (codes "u") ∷ []) ∷ []) ∷ []) ∷ text (codes "k") ∷ []) ∷ []) ∷ []) ∷ []) ∷ []) ∷ []) ∷ form (symbol (codes "cons") ∷ form (symbol (codes "quote") ∷ symbol (codes "p") ∷ []) ∷ form (symbol (codes "for/list") ∷ form (form (symbol (codes "i") ∷ form (symbol (codes "string->number") ∷ form (symbol (codes "extract-binding/single") ∷ form (symbol (codes "quote") ∷ symbol (codes "k") ∷ []) ∷ symbol (codes "b") ∷ []) ∷ []) ∷ []) ∷ []) ∷ form (symbol (codes "extract-binding/single") ∷ form (symbol (codes "quote") ∷ symbol (codes "a") ∷ []) ∷ form (symbol (codes "send/suspend") ∷ form (symbol (codes "lambda") ∷ form (symbol (codes "u") ∷ []) ∷ form (symbol (codes "quasiquote") ∷ form (symbol (codes "a") ∷ form (form (symbol (codes "href") ∷ form (symbol (codes "unquote") ∷ symbol (codes "u") ∷ []) ∷ []) ∷ []) ∷ form (symbol (codes "unquote") ∷ form (symbol (codes "number->string") ∷ symbol (codes "i") ∷ []) ∷ []) ∷ []) ∷ []) ∷ []) ∷ []) ∷ []) ∷ []) ∷ []) ∷ []) ∷ [])
    ≡ Ok (record { web = []; cells = []; tasks = no_cores; body = bind (cores_of (send Suspend (prim op.List (cores_of (lit (symbol (codes "a")) ∷ prim op.List (cores_of (prim op.List (cores_of (lit (symbol (codes "href")) ∷ var 0 ∷ [])) ∷ [])) ∷ lit (text (codes "k")) ∷ []))) ∷ [])) (prim op.Cons (cores_of (lit (symbol (codes "p")) ∷ repeat (prim op.StringToNumber (cores_of (prim op.ExtractBindingSingle (cores_of (lit (symbol (codes "k")) ∷ var 0 ∷ [])) ∷ []))) (prim op.ExtractBindingSingle (cores_of (lit (symbol (codes "a")) ∷ send Suspend (prim op.List (cores_of (lit (symbol (codes "a")) ∷ prim op.List (cores_of (prim op.List (cores_of (lit (symbol (codes "href")) ∷ var 2 ∷ [])) ∷ [])) ∷ prim op.NumberToString (cores_of (var 1 ∷ [])) ∷ []))) ∷ []))) ∷ []))) })
unfolding expanded syntax_of page_form_of number_operation_of test_of list_operation_of text_operation_of
quiz = refl

-- `(define NAME (make-web-cell 0))`
abbrev web_cell : List ℕ → Val
web_cell name = form (symbol (codes "define") ∷ symbol name ∷ form (symbol (codes "make-web-cell") ∷ number (pos 0) ∷ []) ∷ [])

-- `(define NAME (make-instance-cell 0))`
abbrev instance_cell : List ℕ → Val
instance_cell name = form (symbol (codes "define") ∷ symbol name ∷ form (symbol (codes "make-instance-cell") ∷ number (pos 0) ∷ []) ∷ [])

-- a name of so many letters `c`
abbrev name : ℕ → List ℕ
name zero = codes "c"
name (suc n) = 99 ∷ name n

-- twice so many cells, both kinds in turn, in front of forms
abbrev cells_before : ℕ → List Val → List Val
cells_before zero vs = vs
cells_before (suc n) vs = web_cell (name n) ∷ instance_cell (100 ∷ name n) ∷ cells_before n vs

-- 64 cells, and the 65th: it is too many after its shape and its name
pub cells_64 : fault (cells_before 32 (number (pos 1) ∷ [])) ≡ None
unfolding expanded syntax_of page_form_of number_operation_of test_of list_operation_of text_operation_of
cells_64 = refl

-- a 65th cell is one too many
pub cells_65 : fault (cells_before 32 (web_cell (codes "e") ∷ number (pos 1) ∷ [])) ≡ Some (TooMany, 64)
unfolding expanded syntax_of page_form_of number_operation_of test_of list_operation_of text_operation_of
cells_65 = refl

-- a 65th cell whose name is taken is refused for its name
pub cells_65_duplicate : fault (cells_before 32 (web_cell (codes "c") ∷ number (pos 1) ∷ [])) ≡ Some (Duplicate, 64)
unfolding expanded syntax_of page_form_of number_operation_of test_of list_operation_of text_operation_of
cells_65_duplicate = refl

-- `(+ (+ .. (+)))`
abbrev sums : ℕ → Val
sums zero = form (symbol (codes "+") ∷ [])
sums (suc n) = form (symbol (codes "+") ∷ sums n ∷ [])

-- nodes may nest 1024 deep
pub deepest : fault (sums 1023 ∷ []) ≡ None
unfolding expanded syntax_of page_form_of number_operation_of test_of list_operation_of text_operation_of
deepest = refl

-- nodes that nest 1025 deep are too many
pub too_deep : fault (sums 1024 ∷ []) ≡ Some (TooMany, 0)
unfolding expanded syntax_of page_form_of number_operation_of test_of list_operation_of text_operation_of
too_deep = refl

-- so many bindings `(x 1)`
abbrev bindings : ℕ → List Val
bindings zero = []
bindings (suc n) = form (symbol (codes "x") ∷ number (pos 1) ∷ []) ∷ bindings n

-- a `let*` of so many bindings, with this body
abbrev let_in_turn : ℕ → Val → Val
let_in_turn n body = form (symbol (codes "let*") ∷ form (bindings n) ∷ body ∷ [])

-- a `let*` may have 1023 bindings
pub bindings_1023 : fault (let_in_turn 1023 (symbol (codes "x")) ∷ []) ≡ None
unfolding expanded syntax_of page_form_of number_operation_of test_of list_operation_of text_operation_of
bindings_1023 = refl

-- a `let*` of 1024 bindings nests too deep
pub bindings_1024 : fault (let_in_turn 1024 (symbol (codes "x")) ∷ []) ≡ Some (TooMany, 0)
unfolding expanded syntax_of page_form_of number_operation_of test_of list_operation_of text_operation_of
bindings_1024 = refl

-- another fault is told in place of too many nodes
pub bindings_1024_unbound : fault (let_in_turn 1024 (symbol (codes "y")) ∷ []) ≡ Some (Unbound, 0)
unfolding expanded syntax_of page_form_of number_operation_of test_of list_operation_of text_operation_of
bindings_1024_unbound = refl

-- so many clauses `[1 2]`, and then `[else 3]`
abbrev clauses : ℕ → List Val
clauses zero = form (symbol (codes "else") ∷ number (pos 3) ∷ []) ∷ []
clauses (suc n) = form (number (pos 1) ∷ number (pos 2) ∷ []) ∷ clauses n

-- a `cond` may have 1024 clauses
pub clauses_1024 : fault (form (symbol (codes "cond") ∷ clauses 1023) ∷ []) ≡ None
unfolding expanded syntax_of page_form_of number_operation_of test_of list_operation_of text_operation_of
clauses_1024 = refl

-- a `cond` of 1025 clauses nests too deep
pub clauses_1025 : fault (form (symbol (codes "cond") ∷ clauses 1024) ∷ []) ≡ Some (TooMany, 0)
unfolding expanded syntax_of page_form_of number_operation_of test_of list_operation_of text_operation_of
clauses_1025 = refl

-- so many literals 1
abbrev ones : ℕ → List Core
ones zero = []
ones (suc n) = lit (number (pos 1)) ∷ ones n

-- a script may have 16384 nodes
pub nodes_16384 : are_too_many (cores_of ((prim op.List (cores_of (ones 16383))) ∷ [])) ≡ false
nodes_16384 = refl

-- a script of 16385 nodes has too many
pub nodes_16385 : are_too_many (cores_of ((prim op.List (cores_of (ones 16384))) ∷ [])) ≡ true
nodes_16385 = refl
