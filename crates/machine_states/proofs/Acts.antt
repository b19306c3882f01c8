-- What holds of each action, and of an action that goes on where it holds of both, holds of each step.
use Rattle.std.proofs.Common.{◌≡◌, ◌⊎◌, inl, inr, refl, ℕ, zero, suc, ◌+◌, ◌<◌, ◌-◌, ℤ, pos, negsuc, Bool, true, false, List, [], ◌∷◌, ◌++◌, length, Result, Ok, Err, arith}
use Rattle.std.specs.Prelude.{⊤}
use Rattle.script_value.specs.Val.{Val, truth, size_of}
use Rattle.script_value.specs.Views.{meaning}
use Rattle.script_value.specs.declared.outcome.Op.{Op}
use Rattle.script_value.specs.declared.outcome.Fault.{Fault}
use Rattle.script_value.specs.declared.outcome.Fault.TheVariants.{WrongType}
use Rattle.script_value.specs.declared.outcome.TxName.{TxName}
use Rattle.script_nodes.specs.PrimSpec.Table.{value_of, is_false}
use Rattle.script_nodes.specs.PrimSpec.Lists.{list_of}
use Rattle.script_nodes.specs.declared.script.Node.{Node}
use Rattle.script_nodes.specs.declared.script.Node.TheVariants as node
use Rattle.script_nodes.specs.declared.script.SendKind.{SendKind}
use Rattle.script_nodes.specs.Arena.{Arena}
use Rattle.replay_spec.specs.Tape.{finishes, ends, Run, ◌>>=◌, give, fail, answer, choose, charge, url, halt, send_page, named, enter, leave, lookup, shadow, read_cell, set_cell, add_cell, as_number}
use Rattle.replay_spec.specs.Eval.{value_at, copied, is_not_false}
use Rattle.machine_states.specs.Machine.{Frame, in_binding, in_operand, in_body, in_seq, in_and, in_or, in_if, in_count, in_store, in_turn, in_isolate, in_call, in_task, in_page, in_finish, in_back, Point, inside_of, visits, gives, given, node_at, parts_from, bindings_from, body_at, op_at, first_of, task_at, store_by, next_binding, next_part, next_operand, next_argument, next_turn, first_turn, visited, taken}

-- a law of actions inside transactions; `Paid`: of those that are charged
pub record IsActLaw (P Paid : List TxName → (A : Type 0) → Run A → Type 0) : Type 1 where
  pub gives : (inside : List TxName) (A : Type 0) (x : A) → P inside A (give x)
  pub goes_on : (inside : List TxName) (A B : Type 0) (r : Run A) (f : A → Run B) → P inside A r → ((x : A) → P inside B (f x)) → P inside B (r >>= f)
  pub paid_first : (inside : List TxName) (A B : Type 0) (r : Run A) (f : A → Run B) → Paid inside A r → ((x : A) → P inside B (f x)) → Paid inside B (r >>= f)
  pub paid_then : (inside : List TxName) (A B : Type 0) (r : Run A) (f : A → Run B) → P inside A r → ((x : A) → Paid inside B (f x)) → Paid inside B (r >>= f)
  pub charges : (inside : List TxName) (n : ℕ) → 0 < n → Paid inside (Unit {0}) (charge inside n)
  pub fails : (inside : List TxName) (k : Fault) → P inside Val (fail inside k)
  pub urls : (inside : List TxName) → P inside Val url
  pub finishes : (inside : List TxName) (page : Val) → P inside Val (halt inside finishes page)
  pub ends : (inside : List TxName) (page : Val) → P inside Val (halt inside ends page)
  pub names : (inside : List TxName) → P inside TxName named
  pub leaves : (inside : List TxName) (name : TxName) (v : Val) → P inside Val (leave name v)
  pub looks_up : (inside : List TxName) (c : ℕ) → P inside Val (lookup c)
  pub shadows : (inside : List TxName) (c : ℕ) (v : Val) → P inside Val (shadow c v)
  pub reads : (inside : List TxName) (c : ℕ) → P inside Val (read_cell c)
  pub sets : (inside : List TxName) (c : ℕ) (v : Val) → P inside Val (set_cell c v)
  pub adds : (inside : List TxName) (c : ℕ) (v : Val) → P inside Val (add_cell inside c v)

-- a frame that is not the body of a page that is sent
abbrev pub IsPlain : Frame → Type 0
IsPlain (in_page n kind) = ⊥
IsPlain _ = ⊤

module _ (P Paid : List TxName → (A : Type 0) → Run A → Type 0) (law : IsActLaw P Paid) where
  visit : (n : ℕ) (env : List Val) (inside : List TxName) (fs : List Frame) → P inside Point (visits n env fs)
  visit n env inside fs = law.gives inside Point _

  pub any_given : (inside : List TxName) (r : Run Val) (env : List Val) (fs : List Frame) → P inside Val r → P inside Point (given r env fs)
  any_given inside r env fs p = law.goes_on inside Val Point r (λ v. gives v env fs) p (λ v. law.gives inside Point _)

  paid_given : (inside : List TxName) (r : Run Val) (env : List Val) (fs : List Frame) → Paid inside Val r → Paid inside Point (given r env fs)
  paid_given inside r env fs p = law.paid_first inside Val Point r (λ v. gives v env fs) p (λ v. law.gives inside Point _)

  paid : (inside : List TxName) (r : Run Point) → P inside Point r → Paid inside Point (charge inside 1 >>= λ _. r)
  paid inside r p = law.paid_first inside (Unit {0}) Point (charge inside 1) (λ _. r) (law.charges inside 1 (omega arith)) (λ _. p)

  copies : (inside : List TxName) (v : Val) → Paid inside Val (copied inside v)
  copies inside v = law.paid_first inside (Unit {0}) Val (charge inside (1 + size_of v)) (λ _. give v) (law.charges inside (1 + size_of v) (omega arith)) (λ _. law.gives inside Val v)

  enters : (inside : List TxName) → Paid inside TxName (enter inside)
  enters inside = law.paid_first inside (Unit {0}) TxName (charge inside 1) (λ _. named) (law.charges inside 1 (omega arith)) (λ _. law.names inside)

  answers : (inside : List TxName) (r : Result Val Fault) → P inside Val (answer inside r)
  answers inside (Ok v) = law.gives inside Val v
  answers inside (Err k) = law.fails inside k

  chooses : (inside : List TxName) (b : Bool) (r s : Run Point) → P inside Point r → P inside Point s → P inside Point (choose b r s)
  chooses inside true r s p q = p
  chooses inside false r s p q = q

  binding : (n : ℕ) (ps : List ℕ) (b : ℕ) (done env : List Val) (inside : List TxName) (fs : List Frame) → P inside Point (next_binding n ps b done env fs)
  binding n [] b done env inside fs = visit b _ inside _
  binding n (p ∷ ps) b done env inside fs = visit p _ inside _

  part : (f : Frame) (ps : List ℕ) (v : Val) (env : List Val) (inside : List TxName) (fs : List Frame) → P inside Point (next_part f ps v env fs)
  part f [] v env inside fs = law.gives inside Point _
  part f (p ∷ ps) v env inside fs = visit p _ inside _

  operand : (n : ℕ) (o : Op) (ps : List ℕ) (done env : List Val) (fs : List Frame) → P (inside_of fs) Point (next_operand n o ps done env fs)
  operand n o [] done env fs = any_given (inside_of fs) _ env fs (answers (inside_of fs) (value_of o done))
  operand n o (p ∷ ps) done env fs = visit p _ (inside_of fs) _

  argument : (n b : ℕ) (ps : List ℕ) (done env : List Val) (inside : List TxName) (fs : List Frame) → P inside Point (next_argument n b ps done env fs)
  argument n b [] done env inside fs = visit b _ inside _
  argument n b (p ∷ ps) done env inside fs = visit p _ inside _

  turn : (n times b left : ℕ) (done env : List Val) (fs : List Frame) → P (inside_of fs) Point (next_turn n times b left done env fs)
  turn n times b zero done env fs = any_given (inside_of fs) _ env fs (answers (inside_of fs) (list_of done))
  turn n times b (suc k) done env fs = visit b _ (inside_of fs) _

  first : (n b : ℕ) (count : Result ℤ Fault) (env : List Val) (fs : List Frame) → P (inside_of fs) Point (first_turn n b count env fs)
  first n b (Ok (pos k)) env fs = turn n k b k [] env fs
  first n b (Ok (negsuc k)) env fs = any_given (inside_of fs) _ env fs (law.fails (inside_of fs) WrongType)
  first n b (Err k) env fs = any_given (inside_of fs) _ env fs (law.fails (inside_of fs) k)

  stores : (x : Node) (inside : List TxName) (v : Val) → P inside Val (store_by x inside v)
  stores (node.CellShadow c e) inside v = law.shadows inside c v
  stores (node.InstSet c e) inside v = law.sets inside c v
  stores (node.InstAdd c e) inside v = law.adds inside c v
  stores (node.Lit _) inside v = law.gives inside Val v
  stores (node.Var _) inside v = law.gives inside Val v
  stores (node.Let _ _) inside v = law.gives inside Val v
  stores (node.Seq _) inside v = law.gives inside Val v
  stores (node.If _ _ _) inside v = law.gives inside Val v
  stores (node.And _) inside v = law.gives inside Val v
  stores (node.Or _) inside v = law.gives inside Val v
  stores (node.For _ _) inside v = law.gives inside Val v
  stores (node.Prim _ _) inside v = law.gives inside Val v
  stores (node.Call _ _) inside v = law.gives inside Val v
  stores (node.Send _ _) inside v = law.gives inside Val v
  stores (node.Finish _) inside v = law.gives inside Val v
  stores (node.Back _) inside v = law.gives inside Val v
  stores (node.Isolate _) inside v = law.gives inside Val v
  stores (node.CellRef _) inside v = law.gives inside Val v
  stores (node.InstRef _) inside v = law.gives inside Val v

  pub visited_paid : (a : Arena) (n : ℕ) (x : Node) (env : List Val) (fs : List Frame) → Paid (inside_of fs) Point (visited a n x env fs)
  visited_paid a n (node.Lit v) env fs = paid_given (inside_of fs) _ env fs (copies (inside_of fs) (meaning v))
  visited_paid a n (node.Var k) env fs = paid_given (inside_of fs) _ env fs (copies (inside_of fs) (value_at env k))
  visited_paid a n (node.Let ps b) env fs = paid (inside_of fs) _ (binding n ps b [] env (inside_of fs) fs)
  visited_paid a n (node.Seq ps) env fs = paid (inside_of fs) _ (part (in_seq n 0) ps (truth false) env (inside_of fs) fs)
  visited_paid a n (node.If t x y) env fs = paid (inside_of fs) _ (visit t _ (inside_of fs) _)
  visited_paid a n (node.And ps) env fs = paid (inside_of fs) _ (part (in_and n 0) ps (truth true) env (inside_of fs) fs)
  visited_paid a n (node.Or ps) env fs = paid (inside_of fs) _ (part (in_or n 0) ps (truth false) env (inside_of fs) fs)
  visited_paid a n (node.For c b) env fs = paid (inside_of fs) _ (visit c _ (inside_of fs) _)
  visited_paid a n (node.Prim o ps) env fs = paid (inside_of fs) _ (operand n o ps [] env fs)
  visited_paid a n (node.Call k ps) env fs = paid (inside_of fs) _ (argument n (first_of a k) ps [] env (inside_of fs) fs)
  visited_paid a n (node.Send kind b) env fs =
      paid (inside_of fs) _ (law.goes_on (inside_of fs) Val Point url (λ u. visits b (env ++ u ∷ []) (in_page n kind ∷ fs)) (law.urls (inside_of fs)) (λ u. visit b _ (inside_of fs) _))
  visited_paid a n (node.Finish b) env fs = paid (inside_of fs) _ (visit b _ (inside_of fs) _)
  visited_paid a n (node.Back b) env fs = paid (inside_of fs) _ (visit b _ (inside_of fs) _)
  visited_paid a n (node.Isolate b) env fs =
      law.paid_first (inside_of fs) TxName Point (enter (inside_of fs)) (λ name. visits b env (in_isolate n name ∷ fs)) (enters (inside_of fs)) (λ name. visit b _ (inside_of fs) _)
  visited_paid a n (node.CellRef c) env fs =
      paid_given (inside_of fs) _ env fs (law.paid_then (inside_of fs) Val Val (lookup c) (copied (inside_of fs)) (law.looks_up (inside_of fs) c) (copies (inside_of fs)))
  visited_paid a n (node.CellShadow c e) env fs = paid (inside_of fs) _ (visit e _ (inside_of fs) _)
  visited_paid a n (node.InstRef c) env fs =
      paid_given (inside_of fs) _ env fs (law.paid_then (inside_of fs) Val Val (read_cell c) (copied (inside_of fs)) (law.reads (inside_of fs) c) (copies (inside_of fs)))
  visited_paid a n (node.InstSet c e) env fs = paid (inside_of fs) _ (visit e _ (inside_of fs) _)
  visited_paid a n (node.InstAdd c e) env fs = paid (inside_of fs) _ (visit e _ (inside_of fs) _)

  pub taken_any : (a : Arena) (f : Frame) → IsPlain f → (v : Val) (env : List Val) (fs : List Frame) → P (inside_of fs) Point (taken a f v env fs)
  taken_any a (in_binding n done) h v env fs = binding n (bindings_from a n (suc (length done))) (body_at a n) (done ++ v ∷ []) env (inside_of fs) fs
  taken_any a (in_operand n done) h v env fs = operand n (op_at a n) (parts_from a n (suc (length done))) (done ++ v ∷ []) env fs
  taken_any a (in_call n done) h v env fs = argument n (task_at a n) (parts_from a n (suc (length done))) (done ++ v ∷ []) env (inside_of fs) fs
  taken_any a (in_task n k outer) h v env fs = law.gives (inside_of fs) Point _
  taken_any a (in_body n bound) h v env fs = law.gives (inside_of fs) Point _
  taken_any a (in_seq n k) h v env fs = part _ _ v env (inside_of fs) fs
  taken_any a (in_and n k) h v env fs = chooses (inside_of fs) (is_not_false v) _ _ (part _ _ v env (inside_of fs) fs) (law.gives (inside_of fs) Point _)
  taken_any a (in_or n k) h v env fs = chooses (inside_of fs) (is_false v) _ _ (part _ _ v env (inside_of fs) fs) (law.gives (inside_of fs) Point _)
  taken_any a (in_if n zero) h v env fs = chooses (inside_of fs) (is_false v) _ _ (visit _ _ (inside_of fs) _) (visit _ _ (inside_of fs) _)
  taken_any a (in_if n (suc k)) h v env fs = law.gives (inside_of fs) Point _
  taken_any a (in_count n) h v env fs = first n (body_at a n) (as_number v) env fs
  taken_any a (in_turn n times done) h v env fs = turn n times (body_at a n) (times - suc (length done)) (done ++ v ∷ []) env fs
  taken_any a (in_store n) h v env fs = any_given (inside_of fs) _ env fs (stores (node_at a n) (inside_of fs) v)
  taken_any a (in_isolate n name) h v env fs = any_given (inside_of fs) _ env fs (law.leaves (inside_of fs) name v)
  taken_any a (in_page n kind) h v env fs = absurd h
  taken_any a (in_finish n) h v env fs = any_given (inside_of fs) _ env fs (law.finishes (inside_of fs) v)
  taken_any a (in_back n) h v env fs = any_given (inside_of fs) _ env fs (law.ends (inside_of fs) v)

  -- where it holds of pages too
  pub taken_all : ((inside : List TxName) (kind : SendKind) (page : Val) → P inside Val (send_page inside kind page))
      → (a : Arena) (f : Frame) (v : Val) (env : List Val) (fs : List Frame) → P (inside_of fs) Point (taken a f v env fs)
  taken_all sends a (in_page n kind) v env fs = any_given (inside_of fs) _ env fs (sends (inside_of fs) kind v)
  taken_all sends a (in_binding n done) v env fs = taken_any a (in_binding n done) tt v env fs
  taken_all sends a (in_operand n done) v env fs = taken_any a (in_operand n done) tt v env fs
  taken_all sends a (in_call n done) v env fs = taken_any a (in_call n done) tt v env fs
  taken_all sends a (in_task n k outer) v env fs = taken_any a (in_task n k outer) tt v env fs
  taken_all sends a (in_body n bound) v env fs = taken_any a (in_body n bound) tt v env fs
  taken_all sends a (in_seq n k) v env fs = taken_any a (in_seq n k) tt v env fs
  taken_all sends a (in_and n k) v env fs = taken_any a (in_and n k) tt v env fs
  taken_all sends a (in_or n k) v env fs = taken_any a (in_or n k) tt v env fs
  taken_all sends a (in_if n k) v env fs = taken_any a (in_if n k) tt v env fs
  taken_all sends a (in_count n) v env fs = taken_any a (in_count n) tt v env fs
  taken_all sends a (in_turn n times done) v env fs = taken_any a (in_turn n times done) tt v env fs
  taken_all sends a (in_store n) v env fs = taken_any a (in_store n) tt v env fs
  taken_all sends a (in_isolate n name) v env fs = taken_any a (in_isolate n name) tt v env fs
  taken_all sends a (in_finish n) v env fs = taken_any a (in_finish n) tt v env fs
  taken_all sends a (in_back n) v env fs = taken_any a (in_back n) tt v env fs

-- a frame is plain, or the body of a page
pub plain_or_page : (f : Frame) → IsPlain f ⊎ ((n : ℕ) × ((kind : SendKind) × (f ≡ in_page n kind)))
plain_or_page (in_page n kind) = inr (n, (kind, refl))
plain_or_page (in_binding n done) = inl tt
plain_or_page (in_operand n done) = inl tt
plain_or_page (in_call n done) = inl tt
plain_or_page (in_task n k outer) = inl tt
plain_or_page (in_body n bound) = inl tt
plain_or_page (in_seq n k) = inl tt
plain_or_page (in_and n k) = inl tt
plain_or_page (in_or n k) = inl tt
plain_or_page (in_if n k) = inl tt
plain_or_page (in_count n) = inl tt
plain_or_page (in_turn n times done) = inl tt
plain_or_page (in_store n) = inl tt
plain_or_page (in_isolate n name) = inl tt
plain_or_page (in_finish n) = inl tt
plain_or_page (in_back n) = inl tt
