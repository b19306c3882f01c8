-- What tasks are: their faults, and the scripts that they make.
use Rattle.std.specs.Prelude.{◌≡◌, ℕ, zero, suc, pos, List, [], ◌∷◌, ◌++◌, map, Option, Some, None, Result, Ok, Err, codes, refl}
use Rattle.script_value.specs.Val.{Val, number, symbol}
use Rattle.script_value.specs.declared.outcome.Op.TheVariants as op
use Rattle.core_syntax.specs.declared.faults.SyntaxKind.{SyntaxKind}
use Rattle.core_syntax.specs.declared.faults.SyntaxKind.TheVariants.{Shape, Unbound, Arity, Duplicate, NestedSend, TooMany}
use Rattle.script_nodes.specs.Core.{lit, var, bind, prim, call, seq, cell_ref, no_cores, cores_of}
use Rattle.script_nodes.specs.Setup.{Script}
use Rattle.prim_spec.specs.Table.{number_operation_of, test_of, list_operation_of, text_operation_of}
use Rattle.core_syntax.specs.Heads.{syntax_of, page_form_of}
use Rattle.core_syntax.specs.Definitions.{expanded}
use Rattle.core_syntax.specs.Vectors.{form}

-- the fault of a script, if it has one, with the number of its form
abbrev fault_in : Result Script (SyntaxKind × ℕ) → Option (SyntaxKind × ℕ)
fault_in (Ok s) = None
fault_in (Err k) = Some k

-- the fault of these forms as a script, if they have one, with its number
abbrev fault : List Val → Option (SyntaxKind × ℕ)
fault vs = fault_in (expanded vs)

-- a symbol of these bytes
abbrev sym : List ℕ → Val
sym s = symbol s

-- the number 1, as a body
abbrev one : Val
one = number (pos 1)

-- `(define-task (HEADING ..) BODY ..)`
abbrev task : List Val → List Val → Val
task heading body = form (sym (codes "define-task") ∷ form heading ∷ body)

-- `(call F E ..)`
abbrev calls : List ℕ → List Val → Val
calls f es = form (sym (codes "call") ∷ sym f ∷ es)

-- `(define C (make-web-cell 1))`
abbrev cell : List ℕ → Val
cell c = form (sym (codes "define") ∷ sym c ∷ form (sym (codes "make-web-cell") ∷ one ∷ []) ∷ [])

-- the name of a task
abbrev f : List ℕ
f = codes "f"

-- the name of another task
abbrev g : List ℕ
g = codes "g"

-- the name of a parameter
abbrev x : List ℕ
x = codes "x"

-- `(send/suspend (lambda (u) BODY))`
abbrev sends : Val → Val
sends body = form (sym (codes "send/suspend") ∷ form (sym (codes "lambda") ∷ form (sym (codes "u") ∷ []) ∷ body ∷ []) ∷ [])

-- shapes: no heading, a heading that is no list, an empty one, a name or a parameter that is no symbol, no body; as an expression; a call
-- without a name, and of no symbol
--   (define-task)  (define-task f 1)  (define-task () 1)  (define-task (1) 1)  (define-task (f 1) 1)  (define-task (f))
--   (begin (define-task (f) 1))  (call)  (call 1)
pub faults_of_shape : map fault (
    (form (sym (codes "define-task") ∷ []) ∷ one ∷ []) ∷
    (form (sym (codes "define-task") ∷ sym f ∷ one ∷ []) ∷ one ∷ []) ∷
    (task [] (one ∷ []) ∷ one ∷ []) ∷
    (task (one ∷ []) (one ∷ []) ∷ one ∷ []) ∷
    (task (sym f ∷ one ∷ []) (one ∷ []) ∷ one ∷ []) ∷
    (task (sym f ∷ []) [] ∷ one ∷ []) ∷
    (form (sym (codes "begin") ∷ task (sym f ∷ []) (one ∷ []) ∷ []) ∷ []) ∷
    (form (sym (codes "call") ∷ []) ∷ []) ∷
    (form (sym (codes "call") ∷ one ∷ []) ∷ []) ∷
    (task (sym f ∷ []) (one ∷ []) ∷ []) ∷ [])
    ≡ Some (Shape, 0) ∷ Some (Shape, 0) ∷ Some (Shape, 0) ∷ Some (Shape, 0) ∷ Some (Shape, 0) ∷ Some (Shape, 0) ∷ Some (Shape, 0) ∷ Some (Shape, 0) ∷ Some (Shape, 0) ∷ Some (Shape, 1) ∷ []
unfolding expanded syntax_of page_form_of number_operation_of test_of list_operation_of text_operation_of
faults_of_shape = refl

-- tasks that are not defined, or further down, or the task itself; as a variable; too few and too many operands
--   (call f)  (define-task (f) (call g)) (define-task (g) 1) 1  (define-task (f) (call f)) 1  (define-task (f) 1) f
--   (define-task (f x) 1) (call f)  (define-task (f x) 1) (call f 1 1)  (define-task (f x) y) 1
--   (define-task (f) (web-cell-ref x)) (define x (make-web-cell 1)) 1
pub faults_of_calls : map fault (
    (calls f [] ∷ []) ∷
    (task (sym f ∷ []) (calls g [] ∷ []) ∷ task (sym g ∷ []) (one ∷ []) ∷ one ∷ []) ∷
    (task (sym f ∷ []) (calls f [] ∷ []) ∷ one ∷ []) ∷
    (task (sym f ∷ []) (one ∷ []) ∷ sym f ∷ []) ∷
    (task (sym f ∷ sym x ∷ []) (one ∷ []) ∷ calls f [] ∷ []) ∷
    (task (sym f ∷ sym x ∷ []) (one ∷ []) ∷ calls f (one ∷ one ∷ []) ∷ []) ∷
    (task (sym f ∷ sym x ∷ []) (sym (codes "y") ∷ []) ∷ one ∷ []) ∷
    (task (sym f ∷ []) (form (sym (codes "web-cell-ref") ∷ sym x ∷ []) ∷ []) ∷ cell x ∷ one ∷ []) ∷ [])
    ≡ Some (Unbound, 0) ∷ Some (Unbound, 0) ∷ Some (Unbound, 0) ∷ Some (Unbound, 1) ∷ Some (Arity, 1) ∷ Some (Arity, 1) ∷ Some (Unbound, 0) ∷ Some (Unbound, 0) ∷ []
unfolding expanded syntax_of page_form_of number_operation_of test_of list_operation_of text_operation_of
faults_of_calls = refl

-- names that stand twice, or are those of forms, operations, cells and tasks, further down too; a cell that has a task's name, and the other way
--   (define-task (f x x) 1)  (define-task (f f) 1)  (define-task (call) 1)  (define-task (f list) 1)  (define x ..) (define-task (x) 1)
--   (define-task (f) 1) (define-task (f) 1)  (define-task (f) 1) (define f ..)  (define-task (f x) 1) (define x ..)
--   (define-task (f) (let ((g 1)) 1)) (define-task (g) 1)  (define-task (f) 1) (let ((f 1)) 1)
pub faults_of_names : map fault (
    (task (sym f ∷ sym x ∷ sym x ∷ []) (one ∷ []) ∷ one ∷ []) ∷
    (task (sym f ∷ sym f ∷ []) (one ∷ []) ∷ one ∷ []) ∷
    (task (sym (codes "call") ∷ []) (one ∷ []) ∷ one ∷ []) ∷
    (task (sym f ∷ sym (codes "list") ∷ []) (one ∷ []) ∷ one ∷ []) ∷
    (cell x ∷ task (sym x ∷ []) (one ∷ []) ∷ one ∷ []) ∷
    (task (sym f ∷ []) (one ∷ []) ∷ task (sym f ∷ []) (one ∷ []) ∷ one ∷ []) ∷
    (task (sym f ∷ []) (one ∷ []) ∷ cell f ∷ one ∷ []) ∷
    (task (sym f ∷ sym x ∷ []) (one ∷ []) ∷ cell x ∷ one ∷ []) ∷
    (task (sym f ∷ []) (form (sym (codes "let") ∷ form (form (sym g ∷ one ∷ []) ∷ []) ∷ one ∷ []) ∷ []) ∷ task (sym g ∷ []) (one ∷ []) ∷ one ∷ []) ∷
    (task (sym f ∷ []) (one ∷ []) ∷ form (sym (codes "let") ∷ form (form (sym f ∷ one ∷ []) ∷ []) ∷ one ∷ []) ∷ []) ∷ [])
    ≡ Some (Duplicate, 0) ∷ Some (Duplicate, 0) ∷ Some (Duplicate, 0) ∷ Some (Duplicate, 0) ∷ Some (Duplicate, 1) ∷ Some (Duplicate, 1) ∷ Some (Duplicate, 1) ∷ Some (Duplicate, 0) ∷ Some (Duplicate, 0) ∷ Some (Duplicate, 1) ∷ []
unfolding expanded syntax_of page_form_of number_operation_of test_of list_operation_of text_operation_of
faults_of_names = refl

-- a call in a page body, before its shape; a task's body may send
--   (send/suspend (lambda (u) (call)))  (define-task (f) 1) (send/suspend (lambda (u) (call f)))  (define-task (f) (send/suspend (lambda (u) u))) (call f)
pub faults_of_pages : map fault (
    (sends (form (sym (codes "call") ∷ [])) ∷ []) ∷
    (task (sym f ∷ []) (one ∷ []) ∷ sends (calls f []) ∷ []) ∷
    (task (sym f ∷ []) (sends (sym (codes "u")) ∷ []) ∷ calls f [] ∷ []) ∷ [])
    ≡ Some (NestedSend, 0) ∷ Some (NestedSend, 1) ∷ None ∷ []
unfolding expanded syntax_of page_form_of number_operation_of test_of list_operation_of text_operation_of
faults_of_pages = refl

-- so many names a, aa, aaa, ..
abbrev names_of : ℕ → List ℕ → List Val
names_of zero s = []
names_of (suc n) s = sym s ∷ names_of n (s ++ codes "a")

-- so many tasks, each with the body 1, whose names are this one with one `a` more after the other
abbrev tasks_of : ℕ → List ℕ → List Val
tasks_of zero s = one ∷ []
tasks_of (suc n) s = task (sym s ∷ []) (one ∷ []) ∷ tasks_of n (s ++ codes "a")

-- 16 parameters and 16 tasks, and one more of each
pub faults_of_limits : map fault (
    (task (sym f ∷ names_of 16 (codes "a")) (one ∷ []) ∷ one ∷ []) ∷
    (task (sym f ∷ names_of 17 (codes "a")) (one ∷ []) ∷ one ∷ []) ∷
    tasks_of 16 (codes "a") ∷ tasks_of 17 (codes "a") ∷ [])
    ≡ None ∷ Some (TooMany, 0) ∷ None ∷ Some (TooMany, 16) ∷ []
unfolding expanded syntax_of page_form_of number_operation_of test_of list_operation_of text_operation_of
faults_of_limits = refl

-- of two faults the first in the order of the rules: a shape and a taken name; a name that stands twice and an 18th parameter; a 17th
-- parameter and a variable that is not there; a wrong number of operands and such a variable
--   (define-task (call 1) 1) 1  (define-task (f x x a ..) 1) 1  (define-task (f a ..) y) 1  (define-task (f) 1) (call f y)
pub first_faults : map fault (
    (task (sym (codes "call") ∷ one ∷ []) (one ∷ []) ∷ one ∷ []) ∷
    (task (sym f ∷ sym x ∷ sym x ∷ names_of 16 (codes "a")) (one ∷ []) ∷ one ∷ []) ∷
    (task (sym f ∷ names_of 17 (codes "a")) (sym (codes "y") ∷ []) ∷ one ∷ []) ∷
    (task (sym f ∷ []) (one ∷ []) ∷ calls f (sym (codes "y") ∷ []) ∷ []) ∷ [])
    ≡ Some (Shape, 0) ∷ Some (Duplicate, 0) ∷ Some (TooMany, 0) ∷ Some (Arity, 1) ∷ []
unfolding expanded syntax_of page_form_of number_operation_of test_of list_operation_of text_operation_of
first_faults = refl

-- what a task is: its first parameter is its outermost variable, and it calls tasks by their numbers
--   (define-task (f x y) (list y x)) (define c (make-web-cell 1)) (define-task (g) (call f 1 2) (web-cell-ref c)) (let ((z 1)) (call f z (call g)))
pub tasks_are : expanded (
    task (sym f ∷ sym x ∷ sym (codes "y") ∷ []) (form (sym (codes "list") ∷ sym (codes "y") ∷ sym x ∷ []) ∷ [])
    ∷ cell (codes "c") ∷ task (sym g ∷ []) (calls f (one ∷ number (pos 2) ∷ []) ∷ form (sym (codes "web-cell-ref") ∷ sym (codes "c") ∷ []) ∷ [])
    ∷ form (sym (codes "let") ∷ form (form (sym (codes "z") ∷ one ∷ []) ∷ []) ∷ calls f (sym (codes "z") ∷ calls g [] ∷ []) ∷ []) ∷ [])
    ≡ Ok (record {
      web = one ∷ [];
      cells = [];
      tasks = cores_of (prim op.List (cores_of (var 1 ∷ var 0 ∷ [])) ∷ seq (cores_of (call 0 (cores_of (lit one ∷ lit (number (pos 2)) ∷ [])) ∷ cell_ref 0 ∷ [])) ∷ []);
      body = bind (cores_of (lit one ∷ [])) (call 0 (cores_of (var 0 ∷ call 1 no_cores ∷ [])));
    })
unfolding expanded syntax_of page_form_of number_operation_of test_of list_operation_of text_operation_of
tasks_are = refl
