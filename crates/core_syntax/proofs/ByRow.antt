-- A form is what its row is.
use Rattle.std.proofs.Common.{◌≡◌, ℕ, ◌+◌, ◌≤◌, ◌||◌, ◌&&◌, Bool, true, false, not, List, [], ◌∷◌, ◌++◌, Option, Some, None, is_some, Result, Ok, Err, ◌<◌, length, refl, sym, ap, ◌∙◌, arith}
use Rattle.std.specs.Prelude.{codes, ⊤, if◌then◌else◌}
use Rattle.script_value.specs.Val.{Val, Vals, number, truth, text, symbol, list, no_vals, val, weight, weight_all}
use Rattle.prim_spec.specs.Table.{takes}
use Rattle.core_syntax.specs.declared.faults.SyntaxKind.{SyntaxKind}
use Rattle.core_syntax.specs.declared.faults.SyntaxKind.TheVariants.{Shape, Unbound, Duplicate, Arity, NoElse, NestedSend, Effect}
use Rattle.core_syntax.specs.declared.heads.CellKind.{CellKind}
use Rattle.core_syntax.specs.declared.heads.Store.{Store}
use Rattle.core_syntax.specs.declared.heads.Head.{Head}
use Rattle.core_syntax.specs.declared.heads.Head.TheVariants as head
use Rattle.script_nodes.specs.declared.script.SendKind.{SendKind}
use Rattle.script_nodes.specs.Core.{Core, var, send, isolate}
use Rattle.core_syntax.specs.Heads.{head_of}
use Rattle.core_syntax.specs.Names.{◌>>=◌, or_fault, place_of, CellNames, cell_number, is_taken, are_taken, repeats, free_at_once, called}
use Rattle.core_syntax.specs.Shapes.{on, count_of, is_empty, is_word, bound_name, symbol_in, names_of, parameter, names_before, are_clauses, ends_in_else}
use Rattle.core_syntax.specs.Templates.{is_template}
use Rattle.core_syntax.specs.declared.faults.ReadFault.{ReadFault}
use Rattle.core_syntax.specs.declared.faults.ReadFault.TheVariants.{Syntax}
use Rattle.core_syntax.specs.Gives.{Gives}
use Rattle.core_syntax.specs.Forms as spec
use Rattle.core_syntax.specs.Rows.{Row, row_of, row_in, row_by, row_weight}
use Rattle.core_syntax.specs.Rows as row
use Rattle.core_syntax.proofs.Holds.{Holds, then_holds, any_holds, if_holds, only_if}
use Rattle.core_syntax.specs.RowCores.{names_in, with_name, distinct, core_in_row}

-- what is read of a row
abbrev read_row : CellNames → List (List ℕ) → Bool → Result Row SyntaxKind → Result Core SyntaxKind
read_row cells scope p r = r >>= core_in_row cells scope p

if_then : {A B : Type 0} (b : Bool) (k : SyntaxKind) (x : A) (f : A → Result B SyntaxKind) → (if b then Ok x else Err k) >>= f ≡ (if b then f x else Err k)
if_then true k x f = refl
if_then false k x f = refl

unless_then : {A B : Type 0} (b : Bool) (k : SyntaxKind) (r : Result A SyntaxKind) (f : A → Result B SyntaxKind) → (if b then Err k else r) >>= f ≡ (if b then Err k else r >>= f)
unless_then true k r f = refl
unless_then false k r f = refl

page_then : {A : Type 0} (p : Bool) (k : SyntaxKind) (r : Result Row SyntaxKind) (q : Result A SyntaxKind) (f : Row → Result A SyntaxKind) → r >>= f ≡ q
    → (row.outside_page p k >>= (λ _. r)) >>= f ≡ (if p then Err k else q)
page_then true k r q f e = refl
page_then false k r q f e = e

-- names of bindings
abbrev NamesAre : Vals → List (List ℕ) → Type 0
NamesAre vs names = names_of vs names ≡ (if row.are_bindings vs then Some (names_in vs names) else None)

names_next : (o : Option (List ℕ)) (vs : Vals) (names : List (List ℕ)) → ((ns : List (List ℕ)) → NamesAre vs ns)
    → on o (λ x. names_of vs (x ∷ names)) ≡ (if is_some o && row.are_bindings vs then Some (names_in vs (with_name o names)) else None)
names_next None vs names h = refl
names_next (Some x) vs names h = h (x ∷ names)

names_or_none : (bs : Vals) (names : List (List ℕ)) → NamesAre bs names
names_or_none no_vals names = refl
names_or_none (val v vs) names = names_next (bound_name v) vs names (names_or_none vs)

or_turn : (a b c : Bool) → b || (a || c) ≡ (a || b) || c
or_turn true true c = refl
or_turn true false c = refl
or_turn false true c = refl
or_turn false false c = refl

or_no : (b : Bool) → b || false ≡ b
or_no true = refl
or_no false = refl

abbrev TakenAre : CellNames → Vals → List (List ℕ) → Type 0
TakenAre cells vs names = are_taken cells (names_in vs names) ≡ row.bind_taken cells vs || are_taken cells names

taken_next : (cells : CellNames) (o : Option (List ℕ)) (vs : Vals) (names : List (List ℕ)) → ((ns : List (List ℕ)) → TakenAre cells vs ns)
    → are_taken cells (names_in vs (with_name o names)) ≡ (row.is_taken_name cells o || row.bind_taken cells vs) || are_taken cells names
taken_next cells None vs names h = h names
taken_next cells (Some x) vs names h = h (x ∷ names) ∙ or_turn (is_taken cells x) (row.bind_taken cells vs) (are_taken cells names)

taken_or : (cells : CellNames) (bs : Vals) (names : List (List ℕ)) → TakenAre cells bs names
taken_or cells no_vals names = refl
taken_or cells (val v vs) names = taken_next cells (bound_name v) vs names (taken_or cells vs)

taken_same : (cells : CellNames) (bs : Vals) → are_taken cells (names_in bs []) ≡ row.bind_taken cells bs
taken_same cells bs = taken_or cells bs [] ∙ or_no (row.bind_taken cells bs)

tested : (t r : Bool) (names : List (List ℕ)) (f : List (List ℕ) → Result Core SyntaxKind)
    → (if t || r then Err Duplicate else Ok names) >>= (λ _. f names) ≡ (if t then Err Duplicate else (if r then Err Duplicate else Ok names) >>= f)
tested true r names f = refl
tested false true names f = refl
tested false false names f = refl

-- bindings at once
at_once : (a : Bool) (names : List (List ℕ)) (taken : List (List ℕ) → Bool) (t : Bool) (f : List (List ℕ) → Result Core SyntaxKind) → taken names ≡ t
    → or_fault Shape (if a then Some names else None) >>= (λ ns. (if taken ns || repeats ns then Err Duplicate else Ok ns) >>= (λ _. f ns))
    ≡ (if not a then Err Shape else if t then Err Duplicate else distinct names >>= f)
at_once true names taken t f e = rw e (tested t (repeats names) names f)
at_once false names taken t f e = refl

free : (t : Bool) (names : List (List ℕ)) (r : Result Core SyntaxKind) → (if t then Err Duplicate else Ok names) >>= (λ _. r) ≡ (if t then Err Duplicate else r)
free true names r = refl
free false names r = refl

in_turn : (a : Bool) (names : List (List ℕ)) (taken : List (List ℕ) → Bool) (t : Bool) (f : List (List ℕ) → Result Core SyntaxKind) → taken names ≡ t
    → or_fault Shape (if a then Some names else None) >>= (λ ns. (if taken ns then Err Duplicate else Ok ns) >>= (λ _. f ns))
    ≡ (if not a then Err Shape else if t then Err Duplicate else f names)
in_turn true names taken t f e = rw e (free t names (f names))
in_turn false names taken t f e = refl

bound_then : (a t : Bool) (q : Vals × Vals) (f : Vals × Vals → Row) (g : Row → Result Core SyntaxKind)
    → ((if not a then Err Shape else if t then Err Duplicate else Ok q) >>= (λ x. Ok (f x))) >>= g ≡ (if not a then Err Shape else if t then Err Duplicate else g (f q))
bound_then true true q f g = refl
bound_then true false q f g = refl
bound_then false t q f g = refl

let_row : (cells : CellNames) (scope : List (List ℕ)) (p : Bool) (vs : Vals)
    → spec.let_form cells scope p vs ≡ read_row cells scope p (row.bound_in cells vs >>= (λ q. Ok (row.bind q.0 q.1)))
let_row cells scope p (val (list bs) no_vals) = refl
let_row cells scope p (val (list bs) (val b body)) =
    rw (names_or_none bs [])
    (at_once (row.are_bindings bs) (names_in bs []) (are_taken cells) (row.bind_taken cells bs) _ (taken_same cells bs)
    ∙ sym (bound_then (row.are_bindings bs) (row.bind_taken cells bs) (bs, val b body) (λ q. row.bind q.0 q.1) (core_in_row cells scope p)))
let_row cells scope p _ = refl

let_in_turn_row : (cells : CellNames) (scope : List (List ℕ)) (p : Bool) (vs : Vals)
    → spec.let_in_turn_form cells scope p vs ≡ read_row cells scope p (row.bound_in cells vs >>= (λ q. Ok (row.bind_in_turn q.0 q.1)))
let_in_turn_row cells scope p (val (list bs) no_vals) = refl
let_in_turn_row cells scope p (val (list bs) (val b body)) =
    rw (names_or_none bs [])
    (in_turn (row.are_bindings bs) (names_in bs []) (are_taken cells) (row.bind_taken cells bs) _ (taken_same cells bs)
    ∙ sym (bound_then (row.are_bindings bs) (row.bind_taken cells bs) (bs, val b body) (λ q. row.bind_in_turn q.0 q.1) (core_in_row cells scope p)))
let_in_turn_row cells scope p _ = refl

quote_row : (cells : CellNames) (scope : List (List ℕ)) (p : Bool) (vs : Vals) → spec.quoted vs ≡ read_row cells scope p (row.only_part vs >>= (λ v. Ok (row.literal v)))
quote_row cells scope p (val v no_vals) = refl
quote_row cells scope p _ = refl

template_row : (cells : CellNames) (scope : List (List ℕ)) (p : Bool) (vs : Vals) → spec.quasiquote_form cells scope p vs ≡ read_row cells scope p (row.template_in vs)
template_row cells scope p (val t no_vals) = sym (if_then (is_template t) Shape (row.template t) (core_in_row cells scope p))
template_row cells scope p _ = refl

choice_row : (cells : CellNames) (scope : List (List ℕ)) (p : Bool) (vs : Vals) → spec.if_form cells scope p vs ≡ read_row cells scope p (row.choice_in vs)
choice_row cells scope p (val t (val a (val b no_vals))) = refl
choice_row cells scope p _ = refl

-- one name in front of a body
one_taken : (t : Bool) (x : List ℕ) (r : Result Core SyntaxKind) (f : List ℕ → Row) (g : Row → Result Core SyntaxKind) → r ≡ g (f x)
    → (if (t || false) || (false || false) then Err Duplicate else Ok (x ∷ [])) >>= (λ _. r) ≡ ((if t then Err Duplicate else Ok x) >>= (λ x. Ok (f x))) >>= g
one_taken true x r f g e = refl
one_taken false x r f g e = e

one_name : (cells : CellNames) (o : Option (List ℕ)) (body : Vals) (h : List (List ℕ) → Result Core SyntaxKind) (f : List ℕ → Row) (g : Row → Result Core SyntaxKind)
    → ((x : List ℕ) → h (x ∷ []) ≡ g (f x))
    → names_before body (on o (λ x. Some (x ∷ []))) >>= (λ ns. free_at_once cells ns >>= (λ _. h ns)) ≡ (row.named cells o body >>= (λ x. Ok (f x))) >>= g
one_name cells None no_vals h f g e = refl
one_name cells (Some x) no_vals h f g e = refl
one_name cells None (val b body) h f g e = refl
one_name cells (Some x) (val b body) h f g e = one_taken (is_taken cells x) x (h (x ∷ [])) f g (e x)

no_name : (body : Vals) (f : List (List ℕ) → Result Core SyntaxKind) → names_before body None >>= f ≡ Err Shape
no_name no_vals f = refl
no_name (val b body) f = refl

turns_row : (cells : CellNames) (scope : List (List ℕ)) (p : Bool) (vs : Vals) → spec.for_form cells scope p vs ≡ read_row cells scope p (row.turns_in cells vs)
turns_row cells scope p (val (list (val (list (val x (val e no_vals))) no_vals)) body) =
    one_name cells (symbol_in x) body _ (λ x. row.turns x e body) (core_in_row cells scope p) (λ x. refl)
turns_row cells scope p (val (list no_vals) body) = no_name body _
turns_row cells scope p (val (list (val v (val w vs))) body) = no_name body _
turns_row cells scope p (val (list (val (number n) no_vals)) body) = no_name body _
turns_row cells scope p (val (list (val (truth n) no_vals)) body) = no_name body _
turns_row cells scope p (val (list (val (text n) no_vals)) body) = no_name body _
turns_row cells scope p (val (list (val (symbol n) no_vals)) body) = no_name body _
turns_row cells scope p (val (list (val (list no_vals) no_vals)) body) = no_name body _
turns_row cells scope p (val (list (val (list (val x no_vals)) no_vals)) body) = no_name body _
turns_row cells scope p (val (list (val (list (val x (val e (val y ys)))) no_vals)) body) = no_name body _
turns_row cells scope p _ = refl

cell_then : (r : Result ℕ SyntaxKind) (f : ℕ → Row) (h : ℕ → Result Core SyntaxKind) (g : Row → Result Core SyntaxKind) → ((k : ℕ) → h k ≡ g (f k))
    → r >>= h ≡ (r >>= (λ k. Ok (f k))) >>= g
cell_then (Ok k) f h g e = e k
cell_then (Err k) f h g e = refl

ref_row : (cells : CellNames) (scope : List (List ℕ)) (p : Bool) (kind : CellKind) (vs : Vals) → spec.ref_form cells kind vs ≡ read_row cells scope p (row.ref_in cells kind vs)
ref_row cells scope p kind (val (symbol c) no_vals) =
    cell_then (cell_number kind cells c) (row.ref kind) (λ k. Ok (spec.ref kind k)) (core_in_row cells scope p) (λ k. refl)
ref_row cells scope p kind no_vals = refl
ref_row cells scope p kind (val (number n) no_vals) = refl
ref_row cells scope p kind (val (truth n) no_vals) = refl
ref_row cells scope p kind (val (text n) no_vals) = refl
ref_row cells scope p kind (val (list n) no_vals) = refl
ref_row cells scope p kind (val (number n) (val w vs)) = refl
ref_row cells scope p kind (val (truth n) (val w vs)) = refl
ref_row cells scope p kind (val (text n) (val w vs)) = refl
ref_row cells scope p kind (val (symbol n) (val w vs)) = refl
ref_row cells scope p kind (val (list n) (val w vs)) = refl

call_row : (cells : CellNames) (scope : List (List ℕ)) (p : Bool) (vs : Vals) → spec.call_form cells scope vs ≡ read_row cells scope p (row.call_in cells vs)
call_row cells scope p (val (symbol f) vs) =
    cell_then (called cells f (count_of vs)) (λ k. row.call k vs) (λ k. spec.cores_from cells scope false [] vs >>= (λ es. Ok (spec.of_task k es))) (core_in_row cells scope p) (λ k. refl)
call_row cells scope p no_vals = refl
call_row cells scope p (val (number n) vs) = refl
call_row cells scope p (val (truth n) vs) = refl
call_row cells scope p (val (text n) vs) = refl
call_row cells scope p (val (list n) vs) = refl

store_row : (cells : CellNames) (scope : List (List ℕ)) (p : Bool) (kind : Store) (vs : Vals) → spec.store_form cells scope kind vs ≡ read_row cells scope p (row.store_in cells kind vs)
store_row cells scope p kind (val (symbol c) (val e no_vals)) =
    cell_then (cell_number (spec.written kind) cells c) (λ k. row.store kind k e) (λ k. spec.core_of cells scope false e >>= (λ e. Ok (spec.store kind k e))) (core_in_row cells scope p) (λ k. refl)
store_row cells scope p kind no_vals = refl
store_row cells scope p kind (val (number n) no_vals) = refl
store_row cells scope p kind (val (truth n) no_vals) = refl
store_row cells scope p kind (val (text n) no_vals) = refl
store_row cells scope p kind (val (symbol n) no_vals) = refl
store_row cells scope p kind (val (list n) no_vals) = refl
store_row cells scope p kind (val (number n) (val e no_vals)) = refl
store_row cells scope p kind (val (truth n) (val e no_vals)) = refl
store_row cells scope p kind (val (text n) (val e no_vals)) = refl
store_row cells scope p kind (val (list n) (val e no_vals)) = refl
store_row cells scope p kind (val (number n) (val e (val w vs))) = refl
store_row cells scope p kind (val (truth n) (val e (val w vs))) = refl
store_row cells scope p kind (val (text n) (val e (val w vs))) = refl
store_row cells scope p kind (val (symbol n) (val e (val w vs))) = refl
store_row cells scope p kind (val (list n) (val e (val w vs))) = refl

word_then : {A : Type 0} (b : Bool) (k : SyntaxKind) (r : Result Core SyntaxKind) (q : Result A SyntaxKind) (g : A → Result Core SyntaxKind) → r ≡ q >>= g
    → (if b then r else Err k) ≡ (if not b then Err k else q) >>= g
word_then true k r q g e = e
word_then false k r q g e = refl

page_row : (cells : CellNames) (scope : List (List ℕ)) (p : Bool) (kind : SendKind) (v : Val) (body : Vals)
    → names_before body (parameter v) >>= (λ names. free_at_once cells names >>= (λ _. spec.made spec.sequence (spec.cores_from cells (names ++ scope) true [] body) >>= (λ b. Ok (send kind b))))
    ≡ read_row cells scope p (row.only_in v >>= (λ u. row.named cells (symbol_in u) body >>= (λ x. Ok (row.send kind x body))))
page_row cells scope p kind (list (val u no_vals)) body = one_name cells (symbol_in u) body _ (λ x. row.send kind x body) (core_in_row cells scope p) (λ x. refl)
page_row cells scope p kind (number n) body = no_name body _
page_row cells scope p kind (truth n) body = no_name body _
page_row cells scope p kind (text n) body = no_name body _
page_row cells scope p kind (symbol n) body = no_name body _
page_row cells scope p kind (list no_vals) body = no_name body _
page_row cells scope p kind (list (val u (val w vs))) body = no_name body _

send_row : (cells : CellNames) (scope : List (List ℕ)) (p : Bool) (kind : SendKind) (vs : Vals) → spec.send_form cells scope kind vs ≡ read_row cells scope p (row.send_in cells kind vs)
send_row cells scope p kind (val (list (val l (val v body))) no_vals) =
    word_then (is_word (codes "lambda") l) Shape _ _ (core_in_row cells scope p) (page_row cells scope p kind v body)
send_row cells scope p kind no_vals = refl
send_row cells scope p kind (val (number n) no_vals) = refl
send_row cells scope p kind (val (truth n) no_vals) = refl
send_row cells scope p kind (val (text n) no_vals) = refl
send_row cells scope p kind (val (symbol n) no_vals) = refl
send_row cells scope p kind (val (number n) (val w vs)) = refl
send_row cells scope p kind (val (truth n) (val w vs)) = refl
send_row cells scope p kind (val (text n) (val w vs)) = refl
send_row cells scope p kind (val (symbol n) (val w vs)) = refl
send_row cells scope p kind (val (list no_vals) no_vals) = refl
send_row cells scope p kind (val (list (val l no_vals)) no_vals) = refl
send_row cells scope p kind (val (list no_vals) (val w vs)) = refl
send_row cells scope p kind (val (list (val l no_vals)) (val w vs)) = refl
send_row cells scope p kind (val (list (val l (val v body))) (val w vs)) = refl

only_row : (cells : CellNames) (scope : List (List ℕ)) (p q : Bool) (f : Val → Row) (g : Core → Core) (vs : Vals)
    → ((e : Val) → core_in_row cells scope p (f e) ≡ spec.made g (spec.core_of cells scope q e))
    → spec.made g (spec.only cells scope q vs) ≡ read_row cells scope p (row.only_part vs >>= (λ e. Ok (f e)))
only_row cells scope p q f g (val e no_vals) h = sym (h e)
only_row cells scope p q f g no_vals h = refl
only_row cells scope p q f g (val e (val w vs)) h = refl

begin_row : (cells : CellNames) (scope : List (List ℕ)) (p : Bool) (vs : Vals)
    → (if is_empty vs then Err Shape else spec.made spec.sequence (spec.cores_from cells scope p [] vs)) ≡ read_row cells scope p (row.begin_in vs)
begin_row cells scope p vs = sym (unless_then (is_empty vs) Shape (Ok (row.begin vs)) (core_in_row cells scope p))

clauses_row : (cells : CellNames) (scope : List (List ℕ)) (p : Bool) (vs : Vals)
    → (if not (are_clauses vs) then Err Shape else if not (ends_in_else vs) then Err NoElse else spec.choices cells scope p [] vs) ≡ read_row cells scope p (row.clauses_in vs)
clauses_row cells scope p vs =
    sym (unless_then (not (are_clauses vs)) Shape _ (core_in_row cells scope p)
    ∙ ap (λ r. if not (are_clauses vs) then Err Shape else r) (unless_then (not (ends_in_else vs)) NoElse (Ok (row.clauses vs)) (core_in_row cells scope p)))

form_row : (cells : CellNames) (scope : List (List ℕ)) (p : Bool) (h : Option Head) (w : Val) (vs : Vals)
    → spec.form_of cells scope p h (val w vs) ≡ read_row cells scope p (row_by cells p h vs)
form_row cells scope p None w vs = refl
form_row cells scope p (Some head.Define) w vs = refl
form_row cells scope p (Some head.DefineTask) w vs = refl
form_row cells scope p (Some head.Quote) w vs = quote_row cells scope p vs
form_row cells scope p (Some head.Quasiquote) w vs = template_row cells scope p vs
form_row cells scope p (Some head.Let) w vs = let_row cells scope p vs
form_row cells scope p (Some head.LetInTurn) w vs = let_in_turn_row cells scope p vs
form_row cells scope p (Some head.Begin) w vs = begin_row cells scope p vs
form_row cells scope p (Some head.If) w vs = choice_row cells scope p vs
form_row cells scope p (Some head.Cond) w vs = clauses_row cells scope p vs
form_row cells scope p (Some head.And) w vs = refl
form_row cells scope p (Some head.Or) w vs = refl
form_row cells scope p (Some head.For) w vs = turns_row cells scope p vs
form_row cells scope p (Some (head.Ref kind)) w vs = ref_row cells scope p kind vs
form_row cells scope p (Some (head.Store kind)) w vs = sym (page_then p Effect (row.store_in cells kind vs) _ (core_in_row cells scope p) (sym (store_row cells scope p kind vs)))
form_row cells scope p (Some (head.Send kind)) w vs = sym (page_then p NestedSend (row.send_in cells kind vs) _ (core_in_row cells scope p) (sym (send_row cells scope p kind vs)))
form_row cells scope p (Some (head.Last kind)) w vs =
    sym (page_then p NestedSend (row.only_part vs >>= (λ e. Ok (row.last kind e))) _ (core_in_row cells scope p)
    (sym (only_row cells scope p true (row.last kind) (spec.last_page kind) vs (λ e. refl))))
form_row cells scope p (Some head.Isolate) w vs =
    sym (page_then p NestedSend (row.only_part vs >>= (λ e. Ok (row.isolate e))) _ (core_in_row cells scope p)
    (sym (only_row cells scope p false row.isolate isolate vs (λ e. refl))))
form_row cells scope p (Some head.Call) w vs = sym (page_then p NestedSend (row.call_in cells vs) _ (core_in_row cells scope p) (sym (call_row cells scope p vs)))
form_row cells scope p (Some (head.Apply o)) w vs = sym (if_then (takes o (count_of vs)) Arity (row.apply o vs) (core_in_row cells scope p))

variable_row : (cells : CellNames) (scope : List (List ℕ)) (p : Bool) (o : Option ℕ)
    → or_fault Unbound o >>= (λ k. Ok (var k)) ≡ read_row cells scope p (or_fault Unbound o >>= (λ k. Ok (row.variable k)))
variable_row cells scope p None = refl
variable_row cells scope p (Some k) = refl

-- what the table says of a form is what it says of its row
pub core_by_row : (cells : CellNames) (scope : List (List ℕ)) (p : Bool) (v : Val) → spec.core_of cells scope p v ≡ row_of cells scope p v >>= core_in_row cells scope p
core_by_row cells scope p (symbol x) = variable_row cells scope p (place_of x scope)
core_by_row cells scope p (list (val (symbol s) vs)) = form_row cells scope p (head_of s) (symbol s) vs
core_by_row cells scope p _ = refl

pub row_stops : (cells : CellNames) (scope : List (List ℕ)) (p : Bool) (v : Val) (x : Result Core ReadFault) (d : ReadFault) (k : SyntaxKind)
    → x ≡ Err d → d ≡ Syntax k → Err k ≡ row_of cells scope p v → Gives (λ c. c) x (spec.core_of cells scope p v)
row_stops cells scope p v x d k a b e = rw (a, b) (core_by_row cells scope p v ∙ ap (read_row cells scope p) (sym e))

pub row_goes_on : (cells : CellNames) (scope : List (List ℕ)) (p : Bool) (v : Val) (r : Row) → Ok r ≡ row_of cells scope p v
    → spec.core_of cells scope p v ≡ core_in_row cells scope p r
row_goes_on cells scope p v r e = core_by_row cells scope p v ∙ ap (read_row cells scope p) (sym e)

-- the parts of a row weigh less than its form
any_part : {A : Type 0} (P : Row → Type 0) (r : Result A SyntaxKind) (f : A → Row) → ((x : A) → P (f x)) → Holds P (r >>= (λ x. Ok (f x)))
any_part P (Ok x) f h = h x
any_part P (Err k) f h = tt

only_in_light : (v : Val) → Holds (λ u. weight u + 1 ≤ weight v) (row.only_in v)
only_in_light (list (val v no_vals)) = omega arith
only_in_light _ = tt

value_light : (v : Val) → Holds (λ u. weight u ≤ weight v) (row.value_in v)
value_light (list (val x (val e no_vals))) = omega arith
value_light _ = tt

abbrev Light : Vals → Row → Type 0
Light vs r = row_weight r ≤ weight_all vs

only_row_light : (vs : Vals) (f : Val → Row) → ((e : Val) → row_weight (f e) ≡ weight e) → Holds (Light vs) (row.only_part vs >>= (λ e. Ok (f e)))
only_row_light (val v no_vals) f h = let e = h v in omega arith
only_row_light no_vals f h = tt
only_row_light (val v (val w vs)) f h = tt

template_light : (vs : Vals) → Holds (Light vs) (row.template_in vs)
template_light (val t no_vals) = only_if (Light (val t no_vals)) (is_template t) Shape (Ok (row.template t)) (λ e. omega arith)
template_light no_vals = tt
template_light (val v (val w vs)) = tt

bound_light : (cells : CellNames) (vs : Vals) → Holds (λ q. weight_all q.0 + weight_all q.1 ≤ weight_all vs) (row.bound_in cells vs)
bound_light cells (val (list bs) body) =
    if_holds (λ q. weight_all q.0 + weight_all q.1 ≤ weight_all (val (list bs) body)) (is_empty body || not (row.are_bindings bs)) Shape
    (if row.bind_taken cells bs then Err Duplicate else Ok (bs, body))
    (λ e. if_holds (λ q. weight_all q.0 + weight_all q.1 ≤ weight_all (val (list bs) body)) (row.bind_taken cells bs) Duplicate (Ok (bs, body)) (λ f. omega arith))
bound_light cells _ = tt

let_light : (cells : CellNames) (vs : Vals) (f : Vals × Vals → Row) → ((q : Vals × Vals) → row_weight (f q) ≡ weight_all q.0 + weight_all q.1)
    → Holds (Light vs) (row.bound_in cells vs >>= (λ q. Ok (f q)))
let_light cells vs f h = then_holds _ (Light vs) (row.bound_in cells vs) (λ q. Ok (f q)) (bound_light cells vs) (λ q l. let e = h q in omega arith)

choice_light : (vs : Vals) → Holds (Light vs) (row.choice_in vs)
choice_light (val t (val a (val b no_vals))) = omega arith
choice_light _ = tt

turns_light : (cells : CellNames) (vs : Vals) → Holds (Light vs) (row.turns_in cells vs)
turns_light cells no_vals = tt
turns_light cells (val v body) =
    then_holds _ (Light (val v body)) (row.only_in v) _ (only_in_light v)
    (λ b l. then_holds (λ _. ⊤) (Light (val v body)) (row.named cells (bound_name b) body) _ (any_holds (row.named cells (bound_name b) body))
    (λ x _. then_holds _ (Light (val v body)) (row.value_in b) _ (value_light b) (λ e k. omega arith)))

ref_light : (cells : CellNames) (kind : CellKind) (vs : Vals) → Holds (Light vs) (row.ref_in cells kind vs)
ref_light cells kind vs =
    then_holds (λ _. ⊤) (Light vs) (row.only_part vs) _ (any_holds (row.only_part vs)) (λ c _. any_part (Light vs) (row.cell_in cells kind c) (row.ref kind) (λ k. omega arith))

store_light : (cells : CellNames) (kind : Store) (vs : Vals) → Holds (Light vs) (row.store_in cells kind vs)
store_light cells kind (val c (val e no_vals)) =
    any_part (Light (val c (val e no_vals))) (row.cell_in cells (spec.written kind) c) (λ k. row.store kind k e) (λ k. omega arith)
store_light cells kind _ = tt

function_light : (cells : CellNames) (kind : SendKind) (vs : Vals) → Holds (Light vs) (row.function_of cells kind vs)
function_light cells kind (val l (val u body)) =
    if_holds (Light (val l (val u body))) (not (is_word (codes "lambda") l)) Shape _
    (λ e. then_holds (λ _. ⊤) (Light (val l (val u body))) (row.only_in u) _ (any_holds (row.only_in u))
    (λ x _. any_part (Light (val l (val u body))) (row.named cells (symbol_in x) body) (λ x. row.send kind x body) (λ x. omega arith)))
function_light cells kind _ = tt

lighter : (a b : ℕ) (r : Result Row SyntaxKind) → a ≤ b → Holds (λ r. row_weight r ≤ a) r → Holds (λ r. row_weight r ≤ b) r
lighter a b (Ok r) l h = omega arith
lighter a b (Err k) l h = tt

send_light : (cells : CellNames) (kind : SendKind) (vs : Vals) → Holds (Light vs) (row.send_in cells kind vs)
send_light cells kind (val (list vs) no_vals) = lighter (weight_all vs) (weight_all (val (list vs) no_vals)) (row.function_of cells kind vs) (omega arith) (function_light cells kind vs)
send_light cells kind no_vals = tt
send_light cells kind (val v (val w vs)) = tt
send_light cells kind (val (number n) no_vals) = tt
send_light cells kind (val (truth n) no_vals) = tt
send_light cells kind (val (text n) no_vals) = tt
send_light cells kind (val (symbol n) no_vals) = tt

call_light : (cells : CellNames) (vs : Vals) → Holds (Light vs) (row.call_in cells vs)
call_light cells (val (symbol f) vs) = any_part (Light (val (symbol f) vs)) (called cells f (count_of vs)) (λ k. row.call k vs) (λ k. omega arith)
call_light cells no_vals = tt
call_light cells (val (number n) vs) = tt
call_light cells (val (truth n) vs) = tt
call_light cells (val (text n) vs) = tt
call_light cells (val (list n) vs) = tt

page_light : (P : Row → Type 0) (p : Bool) (k : SyntaxKind) (r : Result Row SyntaxKind) → Holds P r → Holds P (row.outside_page p k >>= (λ _. r))
page_light P true k r h = tt
page_light P false k r h = h

form_light : (cells : CellNames) (p : Bool) (h : Option Head) (vs : Vals) → Holds (Light vs) (row_by cells p h vs)
form_light cells p None vs = tt
form_light cells p (Some head.Define) vs = tt
form_light cells p (Some head.DefineTask) vs = tt
form_light cells p (Some head.Quote) vs = any_part (Light vs) (row.only_part vs) row.literal (λ v. omega arith)
form_light cells p (Some head.Quasiquote) vs = template_light vs
form_light cells p (Some head.Let) vs = let_light cells vs (λ q. row.bind q.0 q.1) (λ q. refl)
form_light cells p (Some head.LetInTurn) vs = let_light cells vs (λ q. row.bind_in_turn q.0 q.1) (λ q. refl)
form_light cells p (Some head.Begin) vs = if_holds (Light vs) (is_empty vs) Shape (Ok (row.begin vs)) (λ e. omega arith)
form_light cells p (Some head.If) vs = choice_light vs
form_light cells p (Some head.Cond) vs =
    if_holds (Light vs) (not (are_clauses vs)) Shape _ (λ e. if_holds (Light vs) (not (ends_in_else vs)) NoElse (Ok (row.clauses vs)) (λ f. omega arith))
form_light cells p (Some head.And) vs = omega arith
form_light cells p (Some head.Or) vs = omega arith
form_light cells p (Some head.For) vs = turns_light cells vs
form_light cells p (Some (head.Ref kind)) vs = ref_light cells kind vs
form_light cells p (Some (head.Store kind)) vs = page_light (Light vs) p Effect (row.store_in cells kind vs) (store_light cells kind vs)
form_light cells p (Some (head.Send kind)) vs = page_light (Light vs) p NestedSend (row.send_in cells kind vs) (send_light cells kind vs)
form_light cells p (Some (head.Last kind)) vs = page_light (Light vs) p NestedSend _ (only_row_light vs (row.last kind) (λ e. refl))
form_light cells p (Some head.Isolate) vs = page_light (Light vs) p NestedSend _ (only_row_light vs row.isolate (λ e. refl))
form_light cells p (Some head.Call) vs = page_light (Light vs) p NestedSend (row.call_in cells vs) (call_light cells vs)
form_light cells p (Some (head.Apply o)) vs = only_if (Light vs) (takes o (count_of vs)) Arity (Ok (row.apply o vs)) (λ e. omega arith)

in_light : (cells : CellNames) (p : Bool) (vs : Vals) → Holds (Light vs) (row_in cells p vs)
in_light cells p no_vals = tt
in_light cells p (val w vs) = lighter (weight_all vs) (weight_all (val w vs)) (row_by cells p (row.head_in w) vs) (omega arith) (form_light cells p (row.head_in w) vs)

within_form : (n : ℕ) (r : Result Row SyntaxKind) → Holds (λ r. row_weight r ≤ n) r → Holds (λ r. row_weight r < 1 + n) r
within_form n (Ok r) h = omega arith
within_form n (Err k) h = tt

row_light : (cells : CellNames) (scope : List (List ℕ)) (p : Bool) (v : Val) → Holds (λ r. row_weight r < weight v) (row_of cells scope p v)
row_light cells scope p (number n) = omega arith
row_light cells scope p (truth n) = omega arith
row_light cells scope p (text n) = omega arith
row_light cells scope p (symbol x) = any_part (λ r. row_weight r < 1 + length x) (or_fault Unbound (place_of x scope)) row.variable (λ k. omega arith)
row_light cells scope p (list vs) = within_form (weight_all vs) (row_in cells p vs) (in_light cells p vs)

pub part_of_form : (cells : CellNames) (scope : List (List ℕ)) (p : Bool) (v : Val) (r : Row) → Ok r ≡ row_of cells scope p v → row_weight r < weight v
part_of_form cells scope p v r e = rw (← e) at (row_light cells scope p v)
