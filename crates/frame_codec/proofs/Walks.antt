-- The walk over the frames of a state tells whether they fit the script.
use Rattle.std.proofs.Common.{◌≡◌, ℕ, zero, suc, ◌+◌, ◌<◌, ◌≤◌, ◌==◌, ◌&&◌, true, nat_le, nat_lt, List, [], ◌∷◌, ◌++◌, length, take, drop, reverse, Option, Some, None, refl, sym, ap, subst, ◌∙◌, arith, append_assoc, length-append, inl, inr}
use Rattle.std.specs.Prelude.{pos, negsuc, slice_get}
use mathlib.Core.List.{reverse_aux}
use Rattle.std.specs.List.{AllByRecursion}
use Rattle.std.proofs.lemmas.Bool.Decides.{nat_tests}
use Rattle.std.proofs.lemmas.List.{append-nil, take-append-drop, length-take, reverse-reverse}
use Rattle.std.proofs.lemmas.Option.{none-some, cond_some, slice_get_past, slice_get_within, same_Some}
use Rattle.std.proofs.lemmas.Bool.{and_parts, cond-true}
use Rattle.script_value.specs.Val.{Val, number, truth, text, symbol, list}
use Rattle.script_value.specs.Pieces.{◌>>=◌}
use Rattle.script_nodes.specs.declared.script.Node.{Node}
use Rattle.script_nodes.specs.declared.script.Node.TheVariants as node
use Rattle.script_nodes.specs.Arena.{Arena}
use Rattle.value_bytes.proofs.Numbers.{bind_some}
use Rattle.value_bytes.proofs.Trees.{chosen}
use Rattle.machine_states.specs.Machine.{Frame, in_binding, in_operand, in_body, in_seq, in_and, in_or, in_if, in_count, in_store, in_turn, in_isolate, in_call, in_task, in_page, in_finish, in_back, node_at, first_of, Suspended}
use Rattle.machine_states.specs.Fits.{node_of, IsKind, IsPart, Binds, Works, IsSend, Fits}
use Rattle.frame_codec.specs.Spelling.{FrameHasBytes}
use Rattle.frame_codec.specs.Walk.{part_worked, numbered, scope_in, env_before, env_of, Place, enters, walk, outermost, is_send, ends_well, frames_fit}
use Rattle.frame_codec.proofs.Frames.{LetFits}

-- ---- parts

among : (xs : List ℕ) (y i p : ℕ) → slice_get xs i ≡ Some p → slice_get (xs ++ y ∷ []) i ≡ Some p
among [] y i p e = absurd (none-some p e)
among (x ∷ xs) y zero p e = e
among (x ∷ xs) y (suc i) p e = among xs y i p e

not_last : (xs : List ℕ) (y i p : ℕ) → i < length xs → slice_get (xs ++ y ∷ []) i ≡ Some p → slice_get xs i ≡ Some p
not_last [] y i p h e = absurd (omega arith)
not_last (x ∷ xs) y zero p h e = e
not_last (x ∷ xs) y (suc i) p h e = not_last xs y i p (omega arith) e

seam : {A : Type 0} (xs : List A) (y : A) (ys : List A) → slice_get (xs ++ y ∷ ys) (length xs) ≡ Some y
seam [] y ys = refl
seam (x ∷ xs) y ys = seam xs y ys

-- what is worked on is a part of a node of this kind
worked_fits : (a : Arena) (f : Frame) (x : Node) (p : ℕ) → FrameHasBytes f → part_worked a x f ≡ Some p → IsKind f x × IsPart a f x p
worked_fits a (in_page n kind) x p h e = absurd h
worked_fits a (in_finish n) x p h e = absurd h
worked_fits a (in_back n) x p h e = absurd h
worked_fits a (in_binding n done) (node.Let bindings body) p h e = (slice_get_within bindings (length done) p e, among bindings body (length done) p e)
worked_fits a (in_body n bound) (node.Let bindings body) p h e =
    let g = cond_some (bound == length bindings) body p e in
    let same : bound ≡ length bindings = grind (arith, nat_tests, g.0) in
    (same, ap (λ (i : ℕ). slice_get (bindings ++ body ∷ []) i) same ∙ seam bindings body [] ∙ ap (λ (q : ℕ). Some q) g.1)
worked_fits a (in_seq n k) (node.Seq ps) p h e = (tt, e)
worked_fits a (in_if n k) (node.If test x y) p h e = (tt, e)
worked_fits a (in_and n k) (node.And ps) p h e = (tt, e)
worked_fits a (in_or n k) (node.Or ps) p h e = (tt, e)
worked_fits a (in_operand n done) (node.Prim o ps) p h e = (tt, e)
worked_fits a (in_call n done) (node.Call t ps) p h e = (slice_get_within ps (length done) p e, e)
worked_fits a (in_task n k outer) (node.Call t ps) p h e =
    let g = cond_some (k == length ps) (first_of a t) p e in
    (grind (arith, nat_tests, g.0), sym g.1)
worked_fits a (in_count n) (node.For count body) p h e = (tt, e)
worked_fits a (in_turn n turns done) (node.For count body) p h e =
    let g = cond_some (nat_lt (length done) turns) body p e in
    (grind (arith, nat_tests, g.0), ap (λ (q : ℕ). Some q) g.1)
worked_fits a (in_store n) (node.CellShadow c v) p h e = (tt, e)
worked_fits a (in_store n) (node.InstSet c v) p h e = (tt, e)
worked_fits a (in_store n) (node.InstAdd c v) p h e = (tt, e)
worked_fits a (in_isolate n name) (node.Isolate body) p h e = (tt, e)
worked_fits a f x p h e = absurd (none-some p e)

-- and the other way round
fits_worked : (a : Arena) (f : Frame) (x : Node) (p : ℕ) → FrameHasBytes f → IsKind f x → IsPart a f x p → part_worked a x f ≡ Some p
fits_worked a (in_page n kind) x p h k e = absurd h
fits_worked a (in_finish n) x p h k e = absurd h
fits_worked a (in_back n) x p h k e = absurd h
fits_worked a (in_binding n done) (node.Let bindings body) p h k e = not_last bindings body (length done) p k e
fits_worked a (in_body n bound) (node.Let bindings body) p h k e =
    let same : (bound == length bindings) ≡ true = grind (arith, nat_tests, k) in
    cond-true (bound == length bindings) _ _ same ∙ sym (seam bindings body []) ∙ ap (λ (i : ℕ). slice_get (bindings ++ body ∷ []) i) (sym k) ∙ e
fits_worked a (in_seq n i) (node.Seq ps) p h k e = e
fits_worked a (in_if n i) (node.If test x y) p h k e = e
fits_worked a (in_and n i) (node.And ps) p h k e = e
fits_worked a (in_or n i) (node.Or ps) p h k e = e
fits_worked a (in_operand n done) (node.Prim o ps) p h k e = e
fits_worked a (in_call n done) (node.Call t ps) p h k e = e
fits_worked a (in_task n i outer) (node.Call t ps) p h k e =
    let same : (i == length ps) ≡ true = grind (arith, nat_tests, k) in
    cond-true (i == length ps) _ _ same ∙ ap (λ (q : ℕ). Some q) (sym e)
fits_worked a (in_count n) (node.For count body) p h k e = e
fits_worked a (in_turn n turns done) (node.For count body) p h k e =
    let less : nat_lt (length done) turns ≡ true = grind (arith, nat_tests, k) in
    cond-true (nat_lt (length done) turns) _ _ less ∙ e
fits_worked a (in_store n) (node.CellShadow c v) p h k e = e
fits_worked a (in_store n) (node.InstSet c v) p h k e = e
fits_worked a (in_store n) (node.InstAdd c v) p h k e = e
fits_worked a (in_isolate n name) (node.Isolate body) p h k e = e
fits_worked a f x p h k e = absurd k

-- ---- variables

-- these variables are the first of all, and so many
record Scope (env : List Val) (count : ℕ) (inner : List Val) : Type 0 where
  rest : List Val
  whole : env ≡ inner ++ rest
  len : count ≡ length inner

all_of : (env inner rest : List Val) → env ≡ inner ++ rest → length inner ≡ length env → inner ≡ env
all_of env inner [] whole len = sym (whole ∙ append-nil inner)
all_of env inner (v ∷ rest) whole len = absurd (omega (arith, ap length whole, len, length-append inner (v ∷ rest)))

-- a frame's part has these variables
record Bound (f : Frame) (env outer : List Val) (count : ℕ) : Type 0 where
  inner : List Val
  scope : Scope env count inner
  binds : Binds f outer inner

-- the next variable is the number of the turn
is_turn : (n turns : ℕ) (done env outer rest : List Val) (v : Val) (k m : ℕ) → env ≡ outer ++ v ∷ rest → k ≡ length outer
    → numbered (length done) k (Some v) ≡ Some m → Bound (in_turn n turns done) env outer m
is_turn n turns done env outer rest (number (pos j)) k m whole len e =
    let g = cond_some (j == length done) (k + 1) m e in
    let same : j ≡ length done = grind (arith, nat_tests, g.0) in
    record {
      inner = outer ++ number (pos j) ∷ [];
      scope = record {
        rest = rest;
        whole = whole ∙ sym (append_assoc outer (number (pos j) ∷ []) rest);
        len = omega (arith, g.1, len, length-append outer (number (pos j) ∷ []));
      };
      binds = ap (λ (i : ℕ). outer ++ number (pos i) ∷ []) same;
    }
is_turn n turns done env outer rest (number (negsuc j)) k m whole len e = absurd (none-some m e)
is_turn n turns done env outer rest (truth b) k m whole len e = absurd (none-some m e)
is_turn n turns done env outer rest (text t) k m whole len e = absurd (none-some m e)
is_turn n turns done env outer rest (symbol t) k m whole len e = absurd (none-some m e)
is_turn n turns done env outer rest (list vs) k m whole len e = absurd (none-some m e)

turn_bound : (n turns : ℕ) (done env outer later : List Val) (k m : ℕ) → env ≡ outer ++ later → k ≡ length outer
    → numbered (length done) k (slice_get env k) ≡ Some m → Bound (in_turn n turns done) env outer m
turn_bound n turns done env outer [] k m whole len e =
    let past : slice_get env k ≡ None = slice_get_past env k (omega (arith, ap length whole, length-append outer [], len)) in
    absurd (none-some m (sym (ap (λ o. numbered (length done) k o) past) ∙ e))
turn_bound n turns done env outer (v ∷ rest) k m whole len e =
    let here : slice_get env k ≡ Some v = (λ i. slice_get (whole i) (len i)) ∙ seam outer v rest in
    is_turn n turns done env outer rest v k m whole len (sym (ap (λ o. numbered (length done) k o) here) ∙ e)

body_bound : (n bound : ℕ) (env outer later : List Val) (k m : ℕ) → env ≡ outer ++ later → k ≡ length outer
    → scope_in (in_body n bound) env k ≡ Some m → Bound (in_body n bound) env outer m
body_bound n bound env outer later k m whole len e =
    let g = cond_some (nat_le (k + bound) (length env)) (k + bound) m e in
    let long : k + bound ≤ length env = grind (arith, nat_tests, g.0) in
    let all = ap length whole in
    let counted : length (take bound later) ≡ bound = omega (arith, long, all, len, length-append outer later, length-take bound later) in
    record {
      inner = outer ++ take bound later;
      scope = record {
        rest = drop bound later;
        whole = whole ∙ ap (λ (vs : List Val). outer ++ vs) (sym (take-append-drop bound later)) ∙ sym (append_assoc outer (take bound later) (drop bound later));
        len = omega (arith, g.1, len, counted, length-append outer (take bound later));
      };
      binds = (take bound later, (counted, refl));
    }

same_bound : (f : Frame) (env outer : List Val) (k m : ℕ) → Scope env k outer → ◌≡◌ {A = Option ℕ} (Some k) (Some m) → Binds f outer outer → Bound f env outer m
same_bound f env outer k m s e b = record {
  inner = outer;
  scope = record { rest = s.rest; whole = s.whole; len = sym (same_Some k m e) ∙ s.len };
  binds = b;
}

-- a body has its parameters alone, and the caller as many variables as there are
task_bound : (n part : ℕ) (saved env outer : List Val) (k m : ℕ) → Scope saved k outer → scope_in (in_task n part saved) env k ≡ Some m → Bound (in_task n part saved) env outer m
task_bound n part saved env outer k m s e =
    let g = cond_some (k == length saved && nat_le part (length env)) part m e in
    let both = and_parts (k == length saved) (nat_le part (length env)) g.0 in
    let whole : k ≡ length saved = grind (arith, nat_tests, both.0) in
    let long : part ≤ length env = grind (arith, nat_tests, both.1) in
    let counted : length (take part env) ≡ part = omega (arith, long, length-take part env) in
    record {
      inner = take part env;
      scope = record { rest = drop part env; whole = sym (take-append-drop part env); len = sym g.1 ∙ sym counted };
      binds = (all_of saved outer s.rest s.whole (sym s.len ∙ whole), counted);
    }

scope_binds : (f : Frame) (env outer : List Val) (k m : ℕ) → FrameHasBytes f → Scope (env_before f env) k outer → scope_in f env k ≡ Some m → Bound f env outer m
scope_binds (in_page n kind) env outer k m h s e = absurd h
scope_binds (in_finish n) env outer k m h s e = absurd h
scope_binds (in_back n) env outer k m h s e = absurd h
scope_binds (in_body n bound) env outer k m h s e = body_bound n bound env outer s.rest k m s.whole s.len e
scope_binds (in_turn n turns done) env outer k m h s e = turn_bound n turns done env outer s.rest k m s.whole s.len e
scope_binds (in_binding n done) env outer k m h s e = same_bound (in_binding n done) env outer k m s e refl
scope_binds (in_operand n done) env outer k m h s e = same_bound (in_operand n done) env outer k m s e refl
scope_binds (in_call n done) env outer k m h s e = same_bound (in_call n done) env outer k m s e refl
scope_binds (in_task n part saved) env outer k m h s e = task_bound n part saved env outer k m s e
scope_binds (in_seq n i) env outer k m h s e = same_bound (in_seq n i) env outer k m s e refl
scope_binds (in_and n i) env outer k m h s e = same_bound (in_and n i) env outer k m s e refl
scope_binds (in_or n i) env outer k m h s e = same_bound (in_or n i) env outer k m s e refl
scope_binds (in_if n i) env outer k m h s e = same_bound (in_if n i) env outer k m s e refl
scope_binds (in_count n) env outer k m h s e = same_bound (in_count n) env outer k m s e refl
scope_binds (in_store n) env outer k m h s e = same_bound (in_store n) env outer k m s e refl
scope_binds (in_isolate n name) env outer k m h s e = same_bound (in_isolate n name) env outer k m s e refl

-- the variables outside a frame, where so many are in scope inside it
record Left (f : Frame) (env outer : List Val) (m : ℕ) : Type 0 where
  scope : Scope (env_before f env) (length outer) outer
  entered : scope_in f env (length outer) ≡ Some m

body_left : (n bound : ℕ) (env outer inner vs : List Val) (m : ℕ) → Scope env m inner → length vs ≡ bound → inner ≡ outer ++ vs → Left (in_body n bound) env outer m
body_left n bound env outer inner vs m s count whole =
    let all : env ≡ outer ++ (vs ++ s.rest) = s.whole ∙ ap (λ (l : List Val). l ++ s.rest) whole ∙ append_assoc outer vs s.rest in
    let sum : m ≡ length outer + bound = omega (arith, s.len, ap length whole, length-append outer vs, count) in
    let long : length outer + bound ≤ length env = omega (arith, ap length all, length-append outer (vs ++ s.rest), length-append vs s.rest, count) in
    let test : nat_le (length outer + bound) (length env) ≡ true = grind (arith, nat_tests, long) in
    record {
      scope = record { rest = vs ++ s.rest; whole = all; len = refl };
      entered = cond-true (nat_le (length outer + bound) (length env)) _ _ test ∙ ap (λ (i : ℕ). Some i) (sym sum);
    }

turn_left : (n turns : ℕ) (done env outer inner : List Val) (m : ℕ) → Scope env m inner → inner ≡ outer ++ number (pos (length done)) ∷ []
    → Left (in_turn n turns done) env outer m
turn_left n turns done env outer inner m s whole =
    let v = number (pos (length done)) in
    let all : env ≡ outer ++ v ∷ s.rest = s.whole ∙ ap (λ (l : List Val). l ++ s.rest) whole ∙ append_assoc outer (v ∷ []) s.rest in
    let sum : length outer + 1 ≡ m = omega (arith, s.len, ap length whole, length-append outer (v ∷ [])) in
    let here : slice_get env (length outer) ≡ Some v = ap (λ (l : List Val). slice_get l (length outer)) all ∙ seam outer v s.rest in
    let test : (length done == length done) ≡ true = grind (arith, nat_tests) in
    record {
      scope = record { rest = v ∷ s.rest; whole = all; len = refl };
      entered = ap (λ o. numbered (length done) (length outer) o) here ∙ cond-true (length done == length done) _ _ test ∙ ap (λ (i : ℕ). Some i) sum;
    }

task_left : (n part : ℕ) (saved env outer inner : List Val) (m : ℕ) → Scope env m inner → outer ≡ saved → length inner ≡ part → Left (in_task n part saved) env outer m
task_left n part saved env outer inner m s same count =
    let sum : m ≡ part = s.len ∙ count in
    let long : part ≤ length env = omega (arith, ap length s.whole, length-append inner s.rest, count) in
    let one : (length outer == length saved) ≡ true = (let l : length outer ≡ length saved = ap length same in grind (arith, nat_tests, l)) in
    let two : nat_le part (length env) ≡ true = grind (arith, nat_tests, long) in
    record {
      scope = record { rest = []; whole = sym same ∙ sym (append-nil outer); len = refl };
      entered = cond-true (length outer == length saved && nat_le part (length env)) _ _ (λ i. one i && two i) ∙ ap (λ (i : ℕ). Some i) (sym sum);
    }

same_left : (f : Frame) (env outer inner : List Val) (m : ℕ) → env_before f env ≡ env → Scope env m inner → inner ≡ outer → scope_in f env (length outer) ≡ Some (length outer)
    → Left f env outer m
same_left f env outer inner m own s same e = record {
  scope = record { rest = s.rest; whole = own ∙ (s.whole ∙ ap (λ (l : List Val). l ++ s.rest) same); len = refl };
  entered = e ∙ ap (λ (i : ℕ). Some i) (sym (s.len ∙ ap length same));
}

binds_scope : (f : Frame) (env outer inner : List Val) (m : ℕ) → FrameHasBytes f → Scope env m inner → Binds f outer inner → Left f env outer m
binds_scope (in_page n kind) env outer inner m h s b = absurd h
binds_scope (in_finish n) env outer inner m h s b = absurd h
binds_scope (in_back n) env outer inner m h s b = absurd h
binds_scope (in_body n bound) env outer inner m h s b = body_left n bound env outer inner b.0 m s b.1.0 b.1.1
binds_scope (in_turn n turns done) env outer inner m h s b = turn_left n turns done env outer inner m s b
binds_scope (in_binding n done) env outer inner m h s b = same_left (in_binding n done) env outer inner m refl s b refl
binds_scope (in_operand n done) env outer inner m h s b = same_left (in_operand n done) env outer inner m refl s b refl
binds_scope (in_call n done) env outer inner m h s b = same_left (in_call n done) env outer inner m refl s b refl
binds_scope (in_task n part saved) env outer inner m h s b = task_left n part saved env outer inner m s b.0 b.1
binds_scope (in_seq n i) env outer inner m h s b = same_left (in_seq n i) env outer inner m refl s b refl
binds_scope (in_and n i) env outer inner m h s b = same_left (in_and n i) env outer inner m refl s b refl
binds_scope (in_or n i) env outer inner m h s b = same_left (in_or n i) env outer inner m refl s b refl
binds_scope (in_if n i) env outer inner m h s b = same_left (in_if n i) env outer inner m refl s b refl
binds_scope (in_count n) env outer inner m h s b = same_left (in_count n) env outer inner m refl s b refl
binds_scope (in_store n) env outer inner m h s b = same_left (in_store n) env outer inner m refl s b refl
binds_scope (in_isolate n name) env outer inner m h s b = same_left (in_isolate n name) env outer inner m refl s b refl

-- ---- the walk

-- these frames, the innermost first, work on the node of a place with the variables in scope there
record Reached (a : Arena) (env : List Val) (gs : List Frame) (p : Place) : Type 0 where
  inner : List Val
  scope : Scope env p.scope inner
  works : Works a gs p.node inner

abbrev place : ℕ → ℕ → Place
place n k = record { node = n; scope = k }

entered : (a : Arena) (env : List Val) (gs : List Frame) (f : Frame) (p next : Place) → FrameHasBytes f → Reached a (env_before f env) gs p → enters a env p f ≡ Some next
    → Reached a env (f ∷ gs) next
entered a env gs f p next h r e =
    elim (chosen (p.node == node_of f) _ _ _ e) [
      | inl t ↦
          let same : p.node ≡ node_of f = grind (arith, nat_tests, t.0) in
          let b = bind_some (part_worked a (node_at a (node_of f)) f) (λ part. scope_in f env p.scope >>= λ scope. Some (place part scope)) next t.1 in
          let c = bind_some (scope_in f env p.scope) (λ scope. Some (place b.0 scope)) next b.2 in
          let w = worked_fits a f (node_at a (node_of f)) b.0 h b.1 in
          let s = scope_binds f env r.inner p.scope c.0 h r.scope c.1 in
          let outside : Works a gs (node_of f) r.inner = subst (λ (n : ℕ). Works a gs n r.inner) same r.works in
          subst (λ q. Reached a env (f ∷ gs) q) (same_Some (place b.0 c.0) next c.2) (record {
            inner = s.inner;
            scope = s.scope;
            works = (w.0, (w.1, (r.inner, (s.binds, outside))));
          })
      | inr t ↦ absurd (none-some next t.1)
    ]

walked : (a : Arena) (env : List Val) (fs gs : List Frame) (p q : Place) → AllByRecursion FrameHasBytes fs → Reached a (env_of env fs) gs p → walk a env p fs ≡ Some q
    → Reached a env (reverse_aux fs gs) q
walked a env [] gs p q h r e = subst (λ x. Reached a env gs x) (same_Some p q e) r
walked a env (f ∷ fs) gs p q h r e =
    let b = bind_some (enters a (env_of env fs) p f) (λ next. walk a env next fs) q e in
    walked a env fs (f ∷ gs) b.0 q h.1 (entered a (env_of env fs) gs f p b.0 h.0 r b.1) b.2

-- where a place was reached from, and the step to it
record CameFrom (a : Arena) (env : List Val) (gs : List Frame) (go : Place → Option Place) (q : Place) : Type 0 where
  from : Place
  reached : Reached a env gs from
  step : go from ≡ Some q

came : (a : Arena) (env : List Val) (gs : List Frame) (f : Frame) (q : Place) → FrameHasBytes f → Reached a env (f ∷ gs) q
    → CameFrom a (env_before f env) gs (λ p. enters a env p f) q
came a env gs f q h r =
    let part = fits_worked a f (node_at a (node_of f)) q.node h r.works.0 r.works.1.0 in
    let outer = r.works.1.1.0 in
    let left = binds_scope f env outer r.inner q.scope h r.scope r.works.1.1.1.0 in
    let test : (node_of f == node_of f) ≡ true = grind (arith, nat_tests) in
    record {
      from = place (node_of f) (length outer);
      reached = record { inner = outer; scope = left.scope; works = r.works.1.1.1.1 };
      step = cond-true (node_of f == node_of f) _ _ test
          ∙ ap (λ o. o >>= λ n. (scope_in f env (length outer) >>= λ k. Some (place n k))) part
          ∙ ap (λ o. o >>= λ k. Some (place q.node k)) left.entered;
    }

came_far : (a : Arena) (env : List Val) (fs gs : List Frame) (q : Place) → AllByRecursion FrameHasBytes fs → Reached a env (reverse_aux fs gs) q
    → CameFrom a (env_of env fs) gs (λ p. walk a env p fs) q
came_far a env [] gs q h r = record { from = q; reached = r; step = refl }
came_far a env (f ∷ fs) gs q h r =
    let more = came_far a env fs (f ∷ gs) q h.1 r in
    let one = came a (env_of env fs) gs f more.from h.0 more.reached in
    record {
      from = one.from;
      reached = one.reached;
      step = ap (λ o. o >>= λ next. walk a env next fs) one.step ∙ more.step;
    }

-- ---- from the outermost frame to a page

starts : (a : Arena) (env : List Val) → Reached a env [] outermost
starts a env = record {
  inner = [];
  scope = record { rest = env; whole = refl; len = refl };
  works = (refl, refl);
}

sends : (x : Node) → is_send x ≡ true → IsSend x
sends (node.Send kind body) e = tt
sends x e = absurd cc

is_sent : (x : Node) → IsSend x → is_send x ≡ true
is_sent (node.Send kind body) s = refl
is_sent x s = absurd s

ended : (a : Arena) (env : List Val) (o : Option Place) → ends_well a env o ≡ true
    → (q : Place) × ((o ≡ Some q) × ((q.scope ≡ length env) × IsSend (node_at a q.node)))
ended a env None e = absurd cc
ended a env (Some q) e =
    let b = and_parts (q.scope == length env) (is_send (node_at a q.node)) e in
    (q, (refl, (grind (arith, nat_tests, b.0), sends (node_at a q.node) b.1)))

abbrev kept : List Val → List Frame → List (ℕ × Val) → Suspended
kept env frames shadows = record { env = env; frames = frames; shadows = shadows }

pub walk_fits : (a : Arena) (env : List Val) (fs : List Frame) (ss : List (ℕ × Val)) → AllByRecursion FrameHasBytes fs → frames_fit a env fs ≡ true
    → Fits a (kept env (reverse fs) ss)
walk_fits a env fs ss h e =
    let w = ended a env (walk a env outermost fs) e in
    let r = walked a env fs [] outermost w.0 h (starts a (env_of env fs)) w.1.0 in
    let all = all_of env r.inner r.scope.rest r.scope.whole (sym r.scope.len ∙ w.1.1.0) in
    record {
      node = w.0.node;
      sends = w.1.1.1;
      works = subst (λ (vs : List Val). Works a (reverse fs) w.0.node vs) all r.works;
    }

from_outermost : (a : Arena) (env : List Val) (p : Place) → Reached a env [] p → p ≡ outermost
from_outermost a env p r =
    let none : p.scope ≡ 0 = r.scope.len ∙ ap length r.works.1 in
    λ i. record { node = r.works.0 i; scope = none i }

pub fits_walk : (a : Arena) (d : Suspended) → AllByRecursion FrameHasBytes (reverse d.frames) → Fits a d → frames_fit a d.env (reverse d.frames) ≡ true
fits_walk a d h fits =
    let works : Works a (reverse_aux (reverse d.frames) []) fits.node d.env =
    subst (λ fs. Works a fs fits.node d.env) (sym (reverse-reverse d.frames)) fits.works in
    let q = place fits.node (length d.env) in
    let r : Reached a d.env (reverse_aux (reverse d.frames) []) q = record {
      inner = d.env;
      scope = record { rest = []; whole = sym (append-nil d.env); len = refl };
      works = works;
    } in
    let came = came_far a d.env (reverse d.frames) [] q h r in
    let start = from_outermost a (env_of d.env (reverse d.frames)) came.from came.reached in
    let test : (length d.env == length d.env) ≡ true = grind (arith, nat_tests) in
    ap (λ p. ends_well a d.env (walk a d.env p (reverse d.frames))) (sym start)
    ∙ ap (λ o. ends_well a d.env o) came.step
    ∙ (λ i. test i && is_sent (node_at a fits.node) fits.sends i)

-- ---- which frames of a Let there are

let_fits : (f : Frame) (x : Node) → IsKind f x → LetFits f x
let_fits (in_binding n done) (node.Let bindings body) k = λ e. omega (arith, k, e)
let_fits (in_body n bound) (node.Let bindings body) k = k
let_fits (in_binding n done) x k = absurd k
let_fits (in_body n bound) x k = absurd k
let_fits (in_call n done) (node.Call t ps) k = λ e. omega (arith, k, e)
let_fits (in_task n i outer) (node.Call t ps) k = k
let_fits (in_call n done) x k = absurd k
let_fits (in_task n i outer) x k = absurd k
let_fits f x k = tt

pub lets_fit : (a : Arena) (fs : List Frame) (p : ℕ) (env : List Val) → Works a fs p env → AllByRecursion (λ f. LetFits f (node_at a (node_of f))) fs
lets_fit a [] p env w = tt
lets_fit a (f ∷ fs) p env w = (let_fits f (node_at a (node_of f)) w.0, lets_fit a fs (node_of f) w.1.1.0 w.1.1.1.1)
