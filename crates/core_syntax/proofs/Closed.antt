-- What the table of forms gives is closed.
use Rattle.std.proofs.Common.{◌≡◌, ℕ, zero, suc, ◌==◌, ◌+◌, ◌<◌, ◌≤◌, Bool, true, false, List, [], ◌∷◌, ◌++◌, length, Option, Some, None, Result, Ok, Err, refl, sym, ap, ◌∙◌, arith, length-append}
use Rattle.std.specs.Prelude.{codes, not, if◌then◌else◌, position, slice_get, unwrap_or, ⊤}
use Rattle.std.proofs.lemmas.Bool.Decides.{nat_tests}
use Rattle.std.specs.Str.{bytes_eq}
use Rattle.std.proofs.lemmas.List.Quantifiers.{position-Some}
use Rattle.std.proofs.lemmas.List.{length-map}
use Rattle.script_value.specs.Val.{Val, Vals, number, truth, text, symbol, list, no_vals, val}
use Rattle.script_value.specs.declared.outcome.Op.{Op}
use Rattle.script_value.specs.declared.outcome.Op.TheVariants as op
use Rattle.prim_spec.specs.Table.{takes}
use Rattle.core_syntax.specs.declared.faults.SyntaxKind.{SyntaxKind}
use Rattle.core_syntax.specs.declared.faults.SyntaxKind.TheVariants.{Shape, Unbound, Arity, NoElse, NestedSend, Effect}
use Rattle.core_syntax.specs.declared.heads.CellKind.{CellKind}
use Rattle.core_syntax.specs.declared.heads.CellKind.TheVariants.{Web, Instance}
use Rattle.core_syntax.specs.declared.heads.Store.{Store}
use Rattle.core_syntax.specs.declared.heads.Store.TheVariants.{Shadow, Set, Add}
use Rattle.core_syntax.specs.declared.heads.LastPage.{LastPage}
use Rattle.core_syntax.specs.declared.heads.LastPage.TheVariants.{Finish, Back}
use Rattle.core_syntax.specs.declared.heads.Head.{Head}
use Rattle.core_syntax.specs.declared.heads.Head.TheVariants as head
use Rattle.script_nodes.specs.declared.script.SendKind.{SendKind}
use Rattle.script_nodes.specs.Core.{Core, lit, var, bind, branch, repeat, send, isolate, cores_of}
use Rattle.core_syntax.specs.Heads.{head_of}
use Rattle.core_syntax.specs.Names.{◌>>=◌, or_fault, place_of, place_in, CellNames, of_kind, cell_number, Task, names_of_tasks, parameters_in, called, free_at_once, free_in_turn}
use Rattle.core_syntax.specs.Shapes.{count_of, is_empty, is_word, begins, on, symbol_in, bound_name, names_of, single_name, parameter, names_before, are_clauses, ends_in_else}
use Rattle.core_syntax.specs.Templates.{is_splice, has_splice, is_template, is_plain}
use Rattle.core_syntax.specs.Forms as spec
use Rattle.script_nodes.specs.Closed.{IsClosed, AreClosed, cores_length}
use Rattle.core_syntax.proofs.Holds.{Holds, then_holds, made_holds, any_holds, if_holds, only_if, either}

abbrev HoldsOf : {A : Type 0} → (A → Type 0) → Option A → Type 0
HoldsOf P (Some x) = P x
HoldsOf P None = ⊤

abbrev pub Closed : CellNames → List (List ℕ) → Bool → Core → Type 0
Closed cells scope p c = IsClosed (length cells.web) (length cells.instance) (parameters_in cells) (length scope) p c

abbrev AllClosed : CellNames → List (List ℕ) → Bool → List Core → Type 0
AllClosed cells scope p cs = AreClosed (length cells.web) (length cells.instance) (parameters_in cells) (length scope) p (cores_of cs)

-- so many closed trees
record Are (cells : CellNames) (scope : List (List ℕ)) (p : Bool) (n : ℕ) (cs : List Core) : Type 0 where
  closed : AllClosed cells scope p cs
  count : length cs ≡ n

last_closed : (w i : ℕ) (ks : List ℕ) (d : ℕ) (p : Bool) (cs : List Core) (c : Core) → AreClosed w i ks d p (cores_of cs) → IsClosed w i ks d p c → AreClosed w i ks d p (cores_of (cs ++ c ∷ []))
last_closed w i ks d p [] c h k = (k, tt)
last_closed w i ks d p (x ∷ cs) c h k = (h.0, last_closed w i ks d p cs c h.1 k)

length_cores : (cs : List Core) → cores_length (cores_of cs) ≡ length cs
length_cores [] = refl
length_cores (c ∷ cs) = omega (arith, length_cores cs)

length_last : (cs : List Core) (c : Core) → length (cs ++ c ∷ []) ≡ length cs + 1
length_last cs c = length-append cs (c ∷ [])

sequence_closed : (w i : ℕ) (ks : List ℕ) (d : ℕ) (p : Bool) (cs : List Core) → AreClosed w i ks d p (cores_of cs) → IsClosed w i ks d p (spec.sequence cs)
sequence_closed w i ks d p [] h = h
sequence_closed w i ks d p (c ∷ []) h = h.0
sequence_closed w i ks d p (c ∷ (e ∷ cs)) h = h

conjunction_closed : (w i : ℕ) (ks : List ℕ) (d : ℕ) (p : Bool) (cs : List Core) → AreClosed w i ks d p (cores_of cs) → IsClosed w i ks d p (spec.conjunction cs)
conjunction_closed w i ks d p [] h = tt
conjunction_closed w i ks d p (c ∷ []) h = h.0
conjunction_closed w i ks d p (c ∷ (e ∷ cs)) h = h

disjunction_closed : (w i : ℕ) (ks : List ℕ) (d : ℕ) (p : Bool) (cs : List Core) → AreClosed w i ks d p (cores_of cs) → IsClosed w i ks d p (spec.disjunction cs)
disjunction_closed w i ks d p [] h = tt
disjunction_closed w i ks d p (c ∷ []) h = h.0
disjunction_closed w i ks d p (c ∷ (e ∷ cs)) h = h

-- bindings one inside the other, within so many variables
abbrev Chain : (w i : ℕ) → List ℕ → (d : ℕ) → Bool → List Core → Type 0
Chain w i ks d p [] = ⊤
Chain w i ks d p (e ∷ es) = IsClosed w i ks d p e × Chain w i ks (1 + d) p es

chain_last : (w i : ℕ) (ks : List ℕ) (d : ℕ) (p : Bool) (es : List Core) (e : Core) (n : ℕ) → n ≡ length es + d → Chain w i ks d p es → IsClosed w i ks n p e → Chain w i ks d p (es ++ e ∷ [])
chain_last w i ks d p [] e n q h k = (let f : n ≡ d = omega arith in rw f at k, tt)
chain_last w i ks d p (x ∷ es) e n q h k = (h.0, chain_last w i ks (1 + d) p es e n (omega arith) h.1 k)

nest_closed : (w i : ℕ) (ks : List ℕ) (d : ℕ) (p : Bool) (es : List Core) (b : Core) (n : ℕ) → n ≡ length es + d → Chain w i ks d p es → IsClosed w i ks n p b → IsClosed w i ks d p (spec.nest es b)
nest_closed w i ks d p [] b n q h k = let f : n ≡ d = omega arith in rw f at k
nest_closed w i ks d p (e ∷ es) b n q h k = ((h.0, tt), nest_closed w i ks (1 + d) p es b n (omega arith) h.1 k)

record Chained (cells : CellNames) (d : ℕ) (p : Bool) (n : ℕ) (es : List Core) : Type 0 where
  chain : Chain (length cells.web) (length cells.instance) (parameters_in cells) d p es
  count : length es ≡ n

abbrev PairsClosed : (w i : ℕ) → List ℕ → (d : ℕ) → Bool → List (Core × Core) → Type 0
PairsClosed w i ks d p [] = ⊤
PairsClosed w i ks d p (c ∷ cs) = IsClosed w i ks d p c.0 × IsClosed w i ks d p c.1 × PairsClosed w i ks d p cs

pairs_last : (w i : ℕ) (ks : List ℕ) (d : ℕ) (p : Bool) (cs : List (Core × Core)) (c : Core × Core) → PairsClosed w i ks d p cs → IsClosed w i ks d p c.0 × IsClosed w i ks d p c.1 → PairsClosed w i ks d p (cs ++ c ∷ [])
pairs_last w i ks d p [] c h k = (k.0, k.1, tt)
pairs_last w i ks d p (x ∷ cs) c h k = (h.0, h.1, pairs_last w i ks d p cs c h.2 k)

choose_closed : (w i : ℕ) (ks : List ℕ) (d : ℕ) (p : Bool) (cs : List (Core × Core)) (o : Core) → PairsClosed w i ks d p cs → IsClosed w i ks d p o → IsClosed w i ks d p (spec.choose cs o)
choose_closed w i ks d p [] o h k = k
choose_closed w i ks d p (c ∷ cs) o h k = (h.0, h.1, choose_closed w i ks d p cs o h.2 k)

pair_holds : (P : Core → Type 0) (t b : Result Core SyntaxKind) → Holds P t → Holds P b → Holds (λ c. P c.0 × P c.1) (spec.pair t b)
pair_holds P (Ok t) (Ok b) h k = (h, k)
pair_holds P (Ok t) (Err k) h g = tt
pair_holds P (Err k) b h g = tt

-- a variable has a place
place_fits : (b : Bool) (n k : ℕ) (o : Option ℕ) → k < n → HoldsOf (λ j. j < n) o → HoldsOf (λ j. j < n) (if b then Some k else o)
place_fits true n k o h g = h
place_fits false n k o h g = g

place_within : (x : List ℕ) (scope : List (List ℕ)) (n : ℕ) → length scope ≤ n → HoldsOf (λ k. k < n) (place_of x scope)
place_within x [] n h = tt
place_within x (y ∷ ys) n h = place_fits (bytes_eq x y) n (length ys) (place_of x ys) (omega arith) (place_within x ys n (omega arith))

variable_closed : (w i : ℕ) (ks : List ℕ) (d : ℕ) (p : Bool) (o : Option ℕ) → HoldsOf (λ k. k < d) o → Holds (IsClosed w i ks d p) (or_fault Unbound o >>= (λ k. Ok (var k)))
variable_closed w i ks d p None h = tt
variable_closed w i ks d p (Some k) h = h

-- a cell is there
at_place : (names : List (List ℕ)) (test : List ℕ → Bool) (o : Option ℕ) → position test names ≡ o → Holds (λ k. k < length names) (or_fault Unbound o)
at_place names test None e = tt
at_place names test (Some k) e = (position-Some test names k [] e).0

cell_within : (kind : CellKind) (cells : CellNames) (x : List ℕ) → Holds (λ k. k < length (of_kind kind cells)) (cell_number kind cells x)
cell_within kind cells x = at_place (of_kind kind cells) (bytes_eq x) (place_in (of_kind kind cells) x) refl

ref_closed : (cells : CellNames) (scope : List (List ℕ)) (p : Bool) (kind : CellKind) (k : ℕ) → k < length (of_kind kind cells) → Closed cells scope p (spec.ref kind k)
ref_closed cells scope p Web k h = h
ref_closed cells scope p Instance k h = h

ref_form_closed : (cells : CellNames) (scope : List (List ℕ)) (p : Bool) (kind : CellKind) (vs : Vals) → Holds (Closed cells scope p) (spec.ref_form cells kind vs)
ref_form_closed cells scope p kind (val (symbol c) no_vals) =
    then_holds (λ k. k < length (of_kind kind cells)) (Closed cells scope p) (cell_number kind cells c) (λ k. Ok (spec.ref kind k)) (cell_within kind cells c) (λ k h. ref_closed cells scope p kind k h)
ref_form_closed cells scope p kind _ = tt

store_closed : (cells : CellNames) (scope : List (List ℕ)) (kind : Store) (k : ℕ) (e : Core)
    → k < length (of_kind (spec.written kind) cells) → Closed cells scope false e → Closed cells scope false (spec.store kind k e)
store_closed cells scope Shadow k e h g = (refl, h, g)
store_closed cells scope Set k e h g = (refl, h, g)
store_closed cells scope Add k e h g = (refl, h, g)

last_page_closed : (cells : CellNames) (scope : List (List ℕ)) (kind : LastPage) (b : Core) → Closed cells scope true b → Closed cells scope false (spec.last_page kind b)
last_page_closed cells scope Finish b h = (refl, h)
last_page_closed cells scope Back b h = (refl, h)

-- a task that is called is there, and has so many parameters
get_there : (ks : List ℕ) (k : ℕ) → k < length ks → slice_get ks k ≡ Some (unwrap_or (slice_get ks k) 0)
get_there [] k h = absurd (omega arith)
get_there (x ∷ ks) zero h = refl
get_there (x ∷ ks) (suc k) h = get_there ks k (omega arith)

abbrev Takes : CellNames → ℕ → ℕ → Type 0
Takes cells n k = slice_get (parameters_in cells) k ≡ Some n

called_by : (cells : CellNames) (f : List ℕ) (n : ℕ) (o : Option ℕ) → position (bytes_eq f) (names_of_tasks cells) ≡ o
    → Holds (Takes cells n) (or_fault Unbound o >>= (λ k. if n == unwrap_or (slice_get (parameters_in cells) k) 0 then Ok k else Err Arity))
called_by cells f n None e = tt
called_by cells f n (Some k) e =
    let within : k < length (names_of_tasks cells) = (position-Some (bytes_eq f) (names_of_tasks cells) k [] e).0 in
    let one : length (names_of_tasks cells) ≡ length cells.tasks = length-map cells.tasks (λ (t : Task). t.name) in
    let two : length (parameters_in cells) ≡ length cells.tasks = length-map cells.tasks (λ (t : Task). t.parameters) in
    let there = get_there (parameters_in cells) k (omega arith) in
    only_if (Takes cells n) (n == unwrap_or (slice_get (parameters_in cells) k) 0) Arity (Ok k)
    (λ t. there ∙ ap Some (sym (let same : n ≡ unwrap_or (slice_get (parameters_in cells) k) 0 = grind (arith, nat_tests, t) in same)))

called_within : (cells : CellNames) (f : List ℕ) (n : ℕ) → Holds (Takes cells n) (called cells f n)
called_within cells f n = called_by cells f n (position (bytes_eq f) (names_of_tasks cells)) refl

-- how many names there are
on_holds : {A B : Type 0} (P : B → Type 0) (o : Option A) (f : A → Option B) → ((x : A) → HoldsOf P (f x)) → HoldsOf P (on o f)
on_holds P None f h = tt
on_holds P (Some x) f h = h x

names_count : (vs : Vals) (names : List (List ℕ)) (n : ℕ) → count_of vs + length names ≡ n → HoldsOf (λ xs. length xs ≡ n) (names_of vs names)
names_count no_vals names n e = omega arith
names_count (val v vs) names n e =
    on_holds (λ xs. length xs ≡ n) (bound_name v) (λ x. names_of vs (x ∷ names)) (λ x. names_count vs (x ∷ names) n (omega arith))

single_count : (vs : Vals) → HoldsOf (λ xs. length xs ≡ 1) (single_name vs)
single_count (val v no_vals) = on_holds (λ xs. length xs ≡ 1) (bound_name v) (λ x. Some (x ∷ [])) (λ x. refl)
single_count _ = tt

parameter_count : (v : Val) → HoldsOf (λ xs. length xs ≡ 1) (parameter v)
parameter_count (list (val u no_vals)) = on_holds (λ xs. length xs ≡ 1) (symbol_in u) (λ x. Some (x ∷ [])) (λ x. refl)
parameter_count _ = tt

named_holds : (P : List (List ℕ) → Type 0) (o : Option (List (List ℕ))) → HoldsOf P o → Holds P (or_fault Shape o)
named_holds P None h = tt
named_holds P (Some x) h = h

before_holds : (P : List (List ℕ) → Type 0) (body : Vals) (o : Option (List (List ℕ))) → HoldsOf P o → Holds P (names_before body o)
before_holds P no_vals o h = tt
before_holds P (val b bs) o h = named_holds P o h

quoted_closed : (w i : ℕ) (ks : List ℕ) (d : ℕ) (p : Bool) (vs : Vals) → Holds (IsClosed w i ks d p) (spec.quoted vs)
quoted_closed w i ks d p no_vals = tt
quoted_closed w i ks d p (val v no_vals) = tt
quoted_closed w i ks d p (val v (val w2 vs)) = tt

-- a body within the names of a binding form
within : (cells : CellNames) (scope names : List (List ℕ)) (p : Bool) (n : ℕ) (b : Core) → n ≡ length names → Closed cells (names ++ scope) p b
    → IsClosed (length cells.web) (length cells.instance) (parameters_in cells) (n + length scope) p b
within cells scope names p n b e h = let l : n + length scope ≡ length (names ++ scope) = ap (λ k. k + length scope) e ∙ sym (length-append names scope) in rw l h

op_closed : (cells : CellNames) (scope : List (List ℕ)) (p : Bool) (o : Op) (n : ℕ) (cs : List Core) → takes o n ≡ true → Are cells scope p n cs → Closed cells scope p (spec.of_op o cs)
op_closed cells scope p o n cs e h = let l : cores_length (cores_of cs) ≡ n = length_cores cs ∙ h.count in (rw l e, h.closed)

body_closed : (cells : CellNames) (scope : List (List ℕ)) (p : Bool) (n : ℕ) (r : Result (List Core) SyntaxKind) → Holds (Are cells scope p n) r → Holds (Closed cells scope p) (spec.made spec.sequence r)
body_closed cells scope p n r h =
    made_holds (Are cells scope p n) (Closed cells scope p) r spec.sequence h (λ cs k. sequence_closed _ _ _ _ p cs k.closed)

-- within a page body the rest is not read
unless_page : (Q : Bool → Core → Type 0) (p : Bool) (k : SyntaxKind) (r : Result Core SyntaxKind) → Holds (Q false) r → Holds (Q p) (if p then Err k else r)
unless_page Q true k r h = tt
unless_page Q false k r h = h

send_closed : (cells : CellNames) (scope names : List (List ℕ)) (kind : SendKind) (b : Core) → length names ≡ 1 → Closed cells (names ++ scope) true b → Closed cells scope false (send kind b)
send_closed cells scope names kind b e h = (refl, within cells scope names true 1 b (sym e) h)

alone_closed : (cells : CellNames) (scope : List (List ℕ)) (p : Bool) (c : Core) → Closed cells scope p c → Closed cells scope p (spec.alone c)
alone_closed cells scope p c h = (refl, (h, tt))

mutual
  pub closed_core : (cells : CellNames) (scope : List (List ℕ)) (p : Bool) (v : Val) → Holds (Closed cells scope p) (spec.core_of cells scope p v)
  closed_core cells scope p (number n) = tt
  closed_core cells scope p (truth b) = tt
  closed_core cells scope p (text t) = tt
  closed_core cells scope p (symbol x) =
      variable_closed (length cells.web) (length cells.instance) (parameters_in cells) (length scope) p (place_of x scope) (place_within x scope (length scope) (omega arith))
  closed_core cells scope p (list no_vals) = tt
  closed_core cells scope p (list (val (symbol s) vs)) = closed_form cells scope p (head_of s) (val (symbol s) vs)
  closed_core cells scope p (list (val (number n) vs)) = tt
  closed_core cells scope p (list (val (truth n) vs)) = tt
  closed_core cells scope p (list (val (text n) vs)) = tt
  closed_core cells scope p (list (val (list n) vs)) = tt

  closed_cores : (cells : CellNames) (scope : List (List ℕ)) (p : Bool) (done : List Core) (n : ℕ) (vs : Vals)
      → AllClosed cells scope p done → length done + count_of vs ≡ n → Holds (Are cells scope p n) (spec.cores_from cells scope p done vs)
  closed_cores cells scope p done n no_vals h e = record { closed = h; count = omega arith }
  closed_cores cells scope p done n (val v vs) h e =
      then_holds (Closed cells scope p) (Are cells scope p n) (spec.core_of cells scope p v) (λ c. spec.cores_from cells scope p (done ++ c ∷ []) vs)
      (closed_core cells scope p v)
      (λ c k. closed_cores cells scope p (done ++ c ∷ []) n vs (last_closed _ _ _ _ p done c h k) (let l = length_last done c in omega arith))

  closed_form : (cells : CellNames) (scope : List (List ℕ)) (p : Bool) (h : Option Head) (vs : Vals) → Holds (Closed cells scope p) (spec.form_of cells scope p h vs)
  closed_form cells scope p h no_vals = tt
  closed_form cells scope p None (val w vs) = tt
  closed_form cells scope p (Some head.Define) (val w vs) = tt
  closed_form cells scope p (Some head.DefineTask) (val w vs) = tt
  closed_form cells scope p (Some head.Quote) (val w vs) = quoted_closed _ _ _ _ p vs
  closed_form cells scope p (Some head.Quasiquote) (val w vs) = closed_quasiquote cells scope p vs
  closed_form cells scope p (Some head.Let) (val w vs) = closed_let cells scope p vs
  closed_form cells scope p (Some head.LetInTurn) (val w vs) = closed_let_in_turn cells scope p vs
  closed_form cells scope p (Some head.Begin) (val w vs) =
      if_holds (Closed cells scope p) (is_empty vs) Shape (spec.made spec.sequence (spec.cores_from cells scope p [] vs))
      (λ e. body_closed cells scope p (count_of vs) (spec.cores_from cells scope p [] vs) (closed_cores cells scope p [] (count_of vs) vs tt (omega arith)))
  closed_form cells scope p (Some head.If) (val w vs) = closed_if cells scope p vs
  closed_form cells scope p (Some head.Cond) (val w vs) =
      if_holds (Closed cells scope p) (not (are_clauses vs)) Shape (if not (ends_in_else vs) then Err NoElse else spec.choices cells scope p [] vs)
      (λ e. if_holds (Closed cells scope p) (not (ends_in_else vs)) NoElse (spec.choices cells scope p [] vs) (λ f. closed_choices cells scope p [] vs tt))
  closed_form cells scope p (Some head.And) (val w vs) =
      made_holds (Are cells scope p (count_of vs)) (Closed cells scope p) (spec.cores_from cells scope p [] vs) spec.conjunction
      (closed_cores cells scope p [] (count_of vs) vs tt (omega arith)) (λ cs k. conjunction_closed _ _ _ _ p cs k.closed)
  closed_form cells scope p (Some head.Or) (val w vs) =
      made_holds (Are cells scope p (count_of vs)) (Closed cells scope p) (spec.cores_from cells scope p [] vs) spec.disjunction
      (closed_cores cells scope p [] (count_of vs) vs tt (omega arith)) (λ cs k. disjunction_closed _ _ _ _ p cs k.closed)
  closed_form cells scope p (Some head.For) (val w vs) = closed_for cells scope p vs
  closed_form cells scope p (Some (head.Ref kind)) (val w vs) = ref_form_closed cells scope p kind vs
  closed_form cells scope p (Some (head.Store kind)) (val w vs) =
      unless_page (Closed cells scope) p Effect (spec.store_form cells scope kind vs) (closed_store cells scope kind vs)
  closed_form cells scope p (Some (head.Send kind)) (val w vs) =
      unless_page (Closed cells scope) p NestedSend (spec.send_form cells scope kind vs) (closed_send cells scope kind vs)
  closed_form cells scope p (Some (head.Last kind)) (val w vs) =
      unless_page (Closed cells scope) p NestedSend (spec.made (spec.last_page kind) (spec.only cells scope true vs))
      (made_holds (Closed cells scope true) (Closed cells scope false) (spec.only cells scope true vs) (spec.last_page kind)
      (closed_only cells scope true vs) (λ b k. last_page_closed cells scope kind b k))
  closed_form cells scope p (Some head.Isolate) (val w vs) =
      unless_page (Closed cells scope) p NestedSend (spec.made isolate (spec.only cells scope false vs))
      (made_holds (Closed cells scope false) (Closed cells scope false) (spec.only cells scope false vs) isolate
      (closed_only cells scope false vs) (λ b k. (refl, k)))
  closed_form cells scope p (Some head.Call) (val w vs) = unless_page (Closed cells scope) p NestedSend (spec.call_form cells scope vs) (closed_call cells scope vs)
  closed_form cells scope p (Some (head.Apply o)) (val w vs) =
      only_if (Closed cells scope p) (takes o (count_of vs)) Arity (spec.made (spec.of_op o) (spec.cores_from cells scope p [] vs))
      (λ e. made_holds (Are cells scope p (count_of vs)) (Closed cells scope p) (spec.cores_from cells scope p [] vs) (spec.of_op o)
      (closed_cores cells scope p [] (count_of vs) vs tt (omega arith)) (λ cs k. op_closed cells scope p o (count_of vs) cs e k))

  closed_let : (cells : CellNames) (scope : List (List ℕ)) (p : Bool) (vs : Vals) → Holds (Closed cells scope p) (spec.let_form cells scope p vs)
  closed_let cells scope p (val (list bindings) body) =
      let n = count_of bindings in
      then_holds (λ xs. length xs ≡ n) (Closed cells scope p) (names_before body (names_of bindings []))
      (λ names. free_at_once cells names >>= (λ _. spec.bound_values cells scope p [] bindings >>= (λ es. spec.made spec.sequence (spec.cores_from cells (names ++ scope) p [] body) >>= (λ b. Ok (bind (cores_of es) b)))))
      (before_holds (λ xs. length xs ≡ n) body (names_of bindings []) (names_count bindings [] n (omega arith)))
      (λ names e. then_holds (λ _. ⊤) (Closed cells scope p) (free_at_once cells names)
      (λ _. spec.bound_values cells scope p [] bindings >>= (λ es. spec.made spec.sequence (spec.cores_from cells (names ++ scope) p [] body) >>= (λ b. Ok (bind (cores_of es) b))))
      (any_holds (free_at_once cells names))
      (λ _ _. then_holds (Are cells scope p n) (Closed cells scope p) (spec.bound_values cells scope p [] bindings)
      (λ es. spec.made spec.sequence (spec.cores_from cells (names ++ scope) p [] body) >>= (λ b. Ok (bind (cores_of es) b)))
      (closed_values cells scope p [] n bindings tt (omega arith))
      (λ es k. then_holds (Closed cells (names ++ scope) p) (Closed cells scope p) (spec.made spec.sequence (spec.cores_from cells (names ++ scope) p [] body))
      (λ b. Ok (bind (cores_of es) b))
      (body_closed cells (names ++ scope) p (count_of body) (spec.cores_from cells (names ++ scope) p [] body) (closed_cores cells (names ++ scope) p [] (count_of body) body tt (omega arith)))
      (λ b g. (k.closed, within cells scope names p (cores_length (cores_of es)) b (length_cores es ∙ (k.count ∙ sym e)) g)))))
  closed_let cells scope p _ = tt

  closed_values : (cells : CellNames) (scope : List (List ℕ)) (p : Bool) (done : List Core) (n : ℕ) (vs : Vals)
      → AllClosed cells scope p done → length done + count_of vs ≡ n → Holds (Are cells scope p n) (spec.bound_values cells scope p done vs)
  closed_values cells scope p done n no_vals h e = record { closed = h; count = omega arith }
  closed_values cells scope p done n (val v vs) h e =
      then_holds (Closed cells scope p) (Are cells scope p n) (spec.bound_value cells scope p v) (λ c. spec.bound_values cells scope p (done ++ c ∷ []) vs)
      (closed_value cells scope p v)
      (λ c k. closed_values cells scope p (done ++ c ∷ []) n vs (last_closed _ _ _ _ p done c h k) (let l = length_last done c in omega arith))

  closed_value : (cells : CellNames) (scope : List (List ℕ)) (p : Bool) (v : Val) → Holds (Closed cells scope p) (spec.bound_value cells scope p v)
  closed_value cells scope p (list (val x (val e no_vals))) = closed_core cells scope p e
  closed_value cells scope p _ = tt

  closed_let_in_turn : (cells : CellNames) (scope : List (List ℕ)) (p : Bool) (vs : Vals) → Holds (Closed cells scope p) (spec.let_in_turn_form cells scope p vs)
  closed_let_in_turn cells scope p (val (list bindings) body) =
      let n = count_of bindings in
      then_holds (λ xs. length xs ≡ n) (Closed cells scope p) (names_before body (names_of bindings []))
      (λ names. free_in_turn cells names >>= (λ _. spec.values_in_turn cells scope p [] bindings >>= (λ es. spec.made spec.sequence (spec.cores_from cells (names ++ scope) p [] body) >>= (λ b. Ok (spec.nest es b)))))
      (before_holds (λ xs. length xs ≡ n) body (names_of bindings []) (names_count bindings [] n (omega arith)))
      (λ names e. then_holds (λ _. ⊤) (Closed cells scope p) (free_in_turn cells names)
      (λ _. spec.values_in_turn cells scope p [] bindings >>= (λ es. spec.made spec.sequence (spec.cores_from cells (names ++ scope) p [] body) >>= (λ b. Ok (spec.nest es b))))
      (any_holds (free_in_turn cells names))
      (λ _ _. then_holds (Chained cells (length scope) p n) (Closed cells scope p) (spec.values_in_turn cells scope p [] bindings)
      (λ es. spec.made spec.sequence (spec.cores_from cells (names ++ scope) p [] body) >>= (λ b. Ok (spec.nest es b)))
      (closed_in_turn cells scope p [] (length scope) n bindings tt (omega arith) (omega arith))
      (λ es k. then_holds (Closed cells (names ++ scope) p) (Closed cells scope p) (spec.made spec.sequence (spec.cores_from cells (names ++ scope) p [] body))
      (λ b. Ok (spec.nest es b))
      (body_closed cells (names ++ scope) p (count_of body) (spec.cores_from cells (names ++ scope) p [] body) (closed_cores cells (names ++ scope) p [] (count_of body) body tt (omega arith)))
      (λ b g. nest_closed _ _ _ (length scope) p es b (length (names ++ scope)) (length-append names scope ∙ ap (λ m. m + length scope) (e ∙ sym k.count)) k.chain g))))
  closed_let_in_turn cells scope p _ = tt

  closed_in_turn : (cells : CellNames) (scope : List (List ℕ)) (p : Bool) (done : List Core) (d n : ℕ) (vs : Vals)
      → Chain (length cells.web) (length cells.instance) (parameters_in cells) d p done → length scope ≡ length done + d → length done + count_of vs ≡ n → Holds (Chained cells d p n) (spec.values_in_turn cells scope p done vs)
  closed_in_turn cells scope p done d n no_vals h q e = record { chain = h; count = omega arith }
  closed_in_turn cells scope p done d n (val v vs) h q e =
      then_holds (Closed cells scope p) (Chained cells d p n) (spec.bound_value cells scope p v)
      (λ c. or_fault Shape (bound_name v) >>= (λ x. spec.values_in_turn cells (x ∷ scope) p (done ++ c ∷ []) vs))
      (closed_value cells scope p v)
      (λ c k. then_holds (λ _. ⊤) (Chained cells d p n) (or_fault Shape (bound_name v)) (λ x. spec.values_in_turn cells (x ∷ scope) p (done ++ c ∷ []) vs)
      (any_holds (or_fault Shape (bound_name v)))
      (λ x _. let l = length_last done c in
      closed_in_turn cells (x ∷ scope) p (done ++ c ∷ []) d n vs (chain_last _ _ _ d p done c (length scope) q h k) (omega arith) (omega arith)))

  closed_if : (cells : CellNames) (scope : List (List ℕ)) (p : Bool) (vs : Vals) → Holds (Closed cells scope p) (spec.if_form cells scope p vs)
  closed_if cells scope p (val t (val a (val b no_vals))) =
      then_holds (Closed cells scope p) (Closed cells scope p) (spec.core_of cells scope p t)
      (λ t. spec.core_of cells scope p a >>= (λ a. spec.core_of cells scope p b >>= (λ b. Ok (branch t a b))))
      (closed_core cells scope p t)
      (λ c h. then_holds (Closed cells scope p) (Closed cells scope p) (spec.core_of cells scope p a)
      (λ a. spec.core_of cells scope p b >>= (λ b. Ok (branch c a b)))
      (closed_core cells scope p a)
      (λ e k. then_holds (Closed cells scope p) (Closed cells scope p) (spec.core_of cells scope p b) (λ b. Ok (branch c e b))
      (closed_core cells scope p b) (λ f g. (h, k, g))))
  closed_if cells scope p _ = tt

  closed_choices : (cells : CellNames) (scope : List (List ℕ)) (p : Bool) (done : List (Core × Core)) (vs : Vals)
      → PairsClosed (length cells.web) (length cells.instance) (parameters_in cells) (length scope) p done → Holds (Closed cells scope p) (spec.choices cells scope p done vs)
  closed_choices cells scope p done no_vals h = tt
  closed_choices cells scope p done (val c cs) h =
      either (Closed cells scope p) (is_empty cs) (spec.made (spec.choose done) (spec.choice_body cells scope p c))
      (spec.pair (spec.choice_test cells scope p c) (spec.choice_body cells scope p c) >>= (λ q. spec.choices cells scope p (done ++ q ∷ []) cs))
      (made_holds (Closed cells scope p) (Closed cells scope p) (spec.choice_body cells scope p c) (spec.choose done) (closed_choice_body cells scope p c)
      (λ o k. choose_closed _ _ _ _ p done o h k))
      (then_holds (λ q. Closed cells scope p q.0 × Closed cells scope p q.1) (Closed cells scope p) (spec.pair (spec.choice_test cells scope p c) (spec.choice_body cells scope p c))
      (λ q. spec.choices cells scope p (done ++ q ∷ []) cs)
      (pair_holds (Closed cells scope p) (spec.choice_test cells scope p c) (spec.choice_body cells scope p c) (closed_choice_test cells scope p c) (closed_choice_body cells scope p c))
      (λ q k. closed_choices cells scope p (done ++ q ∷ []) cs (pairs_last _ _ _ _ p done q h k)))

  closed_choice_test : (cells : CellNames) (scope : List (List ℕ)) (p : Bool) (v : Val) → Holds (Closed cells scope p) (spec.choice_test cells scope p v)
  closed_choice_test cells scope p (list (val t body)) = closed_core cells scope p t
  closed_choice_test cells scope p _ = tt

  closed_choice_body : (cells : CellNames) (scope : List (List ℕ)) (p : Bool) (v : Val) → Holds (Closed cells scope p) (spec.choice_body cells scope p v)
  closed_choice_body cells scope p (list (val t body)) =
      body_closed cells scope p (count_of body) (spec.cores_from cells scope p [] body) (closed_cores cells scope p [] (count_of body) body tt (omega arith))
  closed_choice_body cells scope p _ = tt

  closed_for : (cells : CellNames) (scope : List (List ℕ)) (p : Bool) (vs : Vals) → Holds (Closed cells scope p) (spec.for_form cells scope p vs)
  closed_for cells scope p (val (list bindings) body) =
      then_holds (λ xs. length xs ≡ 1) (Closed cells scope p) (names_before body (single_name bindings))
      (λ names. free_at_once cells names >>= (λ _. spec.single_value cells scope p bindings >>= (λ n. spec.made spec.sequence (spec.cores_from cells (names ++ scope) p [] body) >>= (λ b. Ok (repeat n b)))))
      (before_holds (λ xs. length xs ≡ 1) body (single_name bindings) (single_count bindings))
      (λ names e. then_holds (λ _. ⊤) (Closed cells scope p) (free_at_once cells names)
      (λ _. spec.single_value cells scope p bindings >>= (λ n. spec.made spec.sequence (spec.cores_from cells (names ++ scope) p [] body) >>= (λ b. Ok (repeat n b))))
      (any_holds (free_at_once cells names))
      (λ _ _. then_holds (Closed cells scope p) (Closed cells scope p) (spec.single_value cells scope p bindings)
      (λ n. spec.made spec.sequence (spec.cores_from cells (names ++ scope) p [] body) >>= (λ b. Ok (repeat n b)))
      (closed_single cells scope p bindings)
      (λ n k. then_holds (Closed cells (names ++ scope) p) (Closed cells scope p) (spec.made spec.sequence (spec.cores_from cells (names ++ scope) p [] body))
      (λ b. Ok (repeat n b))
      (body_closed cells (names ++ scope) p (count_of body) (spec.cores_from cells (names ++ scope) p [] body) (closed_cores cells (names ++ scope) p [] (count_of body) body tt (omega arith)))
      (λ b g. (k, within cells scope names p 1 b (sym e) g)))))
  closed_for cells scope p _ = tt

  closed_single : (cells : CellNames) (scope : List (List ℕ)) (p : Bool) (vs : Vals) → Holds (Closed cells scope p) (spec.single_value cells scope p vs)
  closed_single cells scope p (val v no_vals) = closed_value cells scope p v
  closed_single cells scope p _ = tt

  closed_send : (cells : CellNames) (scope : List (List ℕ)) (kind : SendKind) (vs : Vals) → Holds (Closed cells scope false) (spec.send_form cells scope kind vs)
  closed_send cells scope kind (val (list (val l (val q body))) no_vals) =
      only_if (Closed cells scope false) (is_word (codes "lambda") l) Shape
      (names_before body (parameter q) >>= (λ names. free_at_once cells names >>= (λ _. spec.made spec.sequence (spec.cores_from cells (names ++ scope) true [] body) >>= (λ b. Ok (send kind b)))))
      (λ _. then_holds (λ xs. length xs ≡ 1) (Closed cells scope false) (names_before body (parameter q))
      (λ names. free_at_once cells names >>= (λ _. spec.made spec.sequence (spec.cores_from cells (names ++ scope) true [] body) >>= (λ b. Ok (send kind b))))
      (before_holds (λ xs. length xs ≡ 1) body (parameter q) (parameter_count q))
      (λ names e. then_holds (λ _. ⊤) (Closed cells scope false) (free_at_once cells names)
      (λ _. spec.made spec.sequence (spec.cores_from cells (names ++ scope) true [] body) >>= (λ b. Ok (send kind b)))
      (any_holds (free_at_once cells names))
      (λ _ _. then_holds (Closed cells (names ++ scope) true) (Closed cells scope false) (spec.made spec.sequence (spec.cores_from cells (names ++ scope) true [] body))
      (λ b. Ok (send kind b))
      (body_closed cells (names ++ scope) true (count_of body) (spec.cores_from cells (names ++ scope) true [] body) (closed_cores cells (names ++ scope) true [] (count_of body) body tt (omega arith)))
      (λ b g. send_closed cells scope names kind b e g))))
  closed_send cells scope kind _ = tt

  closed_only : (cells : CellNames) (scope : List (List ℕ)) (p : Bool) (vs : Vals) → Holds (Closed cells scope p) (spec.only cells scope p vs)
  closed_only cells scope p (val e no_vals) = closed_core cells scope p e
  closed_only cells scope p _ = tt

  closed_store : (cells : CellNames) (scope : List (List ℕ)) (kind : Store) (vs : Vals) → Holds (Closed cells scope false) (spec.store_form cells scope kind vs)
  closed_store cells scope kind (val (symbol c) (val e no_vals)) =
      then_holds (λ k. k < length (of_kind (spec.written kind) cells)) (Closed cells scope false) (cell_number (spec.written kind) cells c)
      (λ k. spec.core_of cells scope false e >>= (λ e. Ok (spec.store kind k e)))
      (cell_within (spec.written kind) cells c)
      (λ k h. then_holds (Closed cells scope false) (Closed cells scope false) (spec.core_of cells scope false e) (λ e. Ok (spec.store kind k e))
      (closed_core cells scope false e) (λ f g. store_closed cells scope kind k f h g))
  closed_store cells scope kind _ = tt

  closed_call : (cells : CellNames) (scope : List (List ℕ)) (vs : Vals) → Holds (Closed cells scope false) (spec.call_form cells scope vs)
  closed_call cells scope (val (symbol f) vs) =
      then_holds (λ k. slice_get (parameters_in cells) k ≡ Some (count_of vs)) (Closed cells scope false) (called cells f (count_of vs))
      (λ k. spec.cores_from cells scope false [] vs >>= (λ es. Ok (spec.of_task k es)))
      (called_within cells f (count_of vs))
      (λ k e. then_holds (Are cells scope false (count_of vs)) (Closed cells scope false) (spec.cores_from cells scope false [] vs) (λ es. Ok (spec.of_task k es))
      (closed_cores cells scope false [] (count_of vs) vs tt (omega arith))
      (λ es h. (refl, e ∙ ap Some (sym (length_cores es ∙ h.count)), h.closed)))
  closed_call cells scope _ = tt

  closed_quasiquote : (cells : CellNames) (scope : List (List ℕ)) (p : Bool) (vs : Vals) → Holds (Closed cells scope p) (spec.quasiquote_form cells scope p vs)
  closed_quasiquote cells scope p (val t no_vals) =
      only_if (Closed cells scope p) (is_template t) Shape (spec.filled cells scope p t) (λ _. closed_filled cells scope p t)
  closed_quasiquote cells scope p _ = tt

  closed_filled : (cells : CellNames) (scope : List (List ℕ)) (p : Bool) (v : Val) → Holds (Closed cells scope p) (spec.filled cells scope p v)
  closed_filled cells scope p (list vs) =
      either (Closed cells scope p) (is_plain (list vs)) (Ok (lit (list vs)))
      (if begins (codes "unquote") vs then spec.unquoted cells scope p vs else
      if has_splice vs then spec.made (spec.of_op op.Append) (spec.spliced cells scope p [] vs) else spec.made (spec.of_op op.List) (spec.all_filled cells scope p [] vs))
      tt
      (either (Closed cells scope p) (begins (codes "unquote") vs) (spec.unquoted cells scope p vs)
      (if has_splice vs then spec.made (spec.of_op op.Append) (spec.spliced cells scope p [] vs) else spec.made (spec.of_op op.List) (spec.all_filled cells scope p [] vs))
      (closed_unquoted cells scope p vs)
      (either (Closed cells scope p) (has_splice vs) (spec.made (spec.of_op op.Append) (spec.spliced cells scope p [] vs)) (spec.made (spec.of_op op.List) (spec.all_filled cells scope p [] vs))
      (made_holds (Are cells scope p (count_of vs)) (Closed cells scope p) (spec.spliced cells scope p [] vs) (spec.of_op op.Append)
      (closed_spliced cells scope p [] (count_of vs) vs tt (omega arith)) (λ cs k. op_closed cells scope p op.Append (count_of vs) cs refl k))
      (made_holds (Are cells scope p (count_of vs)) (Closed cells scope p) (spec.all_filled cells scope p [] vs) (spec.of_op op.List)
      (closed_all_filled cells scope p [] (count_of vs) vs tt (omega arith)) (λ cs k. op_closed cells scope p op.List (count_of vs) cs refl k))))
  closed_filled cells scope p (number n) = tt
  closed_filled cells scope p (truth n) = tt
  closed_filled cells scope p (text n) = tt
  closed_filled cells scope p (symbol n) = tt

  closed_all_filled : (cells : CellNames) (scope : List (List ℕ)) (p : Bool) (done : List Core) (n : ℕ) (vs : Vals)
      → AllClosed cells scope p done → length done + count_of vs ≡ n → Holds (Are cells scope p n) (spec.all_filled cells scope p done vs)
  closed_all_filled cells scope p done n no_vals h e = record { closed = h; count = omega arith }
  closed_all_filled cells scope p done n (val v vs) h e =
      then_holds (Closed cells scope p) (Are cells scope p n) (spec.filled cells scope p v) (λ c. spec.all_filled cells scope p (done ++ c ∷ []) vs)
      (closed_filled cells scope p v)
      (λ c k. closed_all_filled cells scope p (done ++ c ∷ []) n vs (last_closed _ _ _ _ p done c h k) (let l = length_last done c in omega arith))

  closed_spliced : (cells : CellNames) (scope : List (List ℕ)) (p : Bool) (done : List Core) (n : ℕ) (vs : Vals)
      → AllClosed cells scope p done → length done + count_of vs ≡ n → Holds (Are cells scope p n) (spec.spliced cells scope p done vs)
  closed_spliced cells scope p done n no_vals h e = record { closed = h; count = omega arith }
  closed_spliced cells scope p done n (val v vs) h e =
      then_holds (Closed cells scope p) (Are cells scope p n) (if is_splice v then spec.expression_in cells scope p v else spec.made spec.alone (spec.filled cells scope p v))
      (λ c. spec.spliced cells scope p (done ++ c ∷ []) vs)
      (either (Closed cells scope p) (is_splice v) (spec.expression_in cells scope p v) (spec.made spec.alone (spec.filled cells scope p v))
      (closed_expression_in cells scope p v)
      (made_holds (Closed cells scope p) (Closed cells scope p) (spec.filled cells scope p v) spec.alone (closed_filled cells scope p v) (λ c k. alone_closed cells scope p c k)))
      (λ c k. closed_spliced cells scope p (done ++ c ∷ []) n vs (last_closed _ _ _ _ p done c h k) (let l = length_last done c in omega arith))

  closed_unquoted : (cells : CellNames) (scope : List (List ℕ)) (p : Bool) (vs : Vals) → Holds (Closed cells scope p) (spec.unquoted cells scope p vs)
  closed_unquoted cells scope p (val w (val e no_vals)) = closed_core cells scope p e
  closed_unquoted cells scope p _ = tt

  closed_expression_in : (cells : CellNames) (scope : List (List ℕ)) (p : Bool) (v : Val) → Holds (Closed cells scope p) (spec.expression_in cells scope p v)
  closed_expression_in cells scope p (list vs) = closed_unquoted cells scope p vs
  closed_expression_in cells scope p _ = tt

pub closed_body : (cells : CellNames) (scope : List (List ℕ)) (p : Bool) (vs : Vals) → Holds (Closed cells scope p) (spec.body_of cells scope p vs)
closed_body cells scope p vs =
    body_closed cells scope p (count_of vs) (spec.cores_from cells scope p [] vs) (closed_cores cells scope p [] (count_of vs) vs tt (omega arith))
