-- What is over has not seen the URL of its segment: a page body sends nothing, and none but a page body sees a URL.
use Rattle.std.proofs.Common.{◌≡◌, ℕ, zero, suc, ◌+◌, ◌^◌, ◌==◌, min, ℤ, pos, negsuc, Bool, true, false, List, [], ◌∷◌, ◌++◌, map, length, Option, Some, None, Result, Ok, Err, refl, sym, ap, subst, ◌∙◌}
use Rattle.script_value.specs.Val.{Val, number, truth, text, size_of}
use Rattle.script_value.specs.declared.outcome.Fault.{Fault}
use Rattle.script_value.specs.declared.outcome.TxName.{TxName}
use Rattle.prim_spec.specs.Table.{value_of, is_false}
use Rattle.prim_spec.specs.Lists.{list_of}
use Rattle.page_spec.specs.Page.{page_of}
use Rattle.instance_cells.specs.Cells.{cell_at, sum, commit}
use Rattle.script_nodes.specs.declared.script.SendKind.{SendKind}
use Rattle.script_nodes.specs.Arena.{script_of, arena_of}
use Rattle.script_nodes.specs.Core.{Core, Cores, lit, var, bind, branch, repeat, prim, call, seq, and_all, or_any, send, finish, back, isolate, cell_ref, cell_shadow, inst_ref, inst_set, inst_add, no_cores, core}
use Rattle.script_nodes.specs.Closed.{IsClosed, AreClosed, AreBodies, cores_length}
use Rattle.script_nodes.specs.Setup.{Script}
use Rattle.replay_spec.specs.Tape.{Reads, recorded, present, bound, is_over, Answer, tape_behind, State, begin, How, shows, finishes, ends, End, got, stop, Run, after, ◌>>=◌, give, answer, choose, charged, charge, page_stop, halt, sent, send_page, enter, leave, lookup, shadow, read_from, read_cell, set_in, set_cell, as_number, added, add_to, add_in, add_cell}
use Rattle.replay_spec.specs.Eval.{Calls, with_task, calls_from, no_calls, calls_of, evaluated, eval, eval_into, eval_while, turns, for_each, copied, value_at, is_not_false, is_any, segment_at_end, run}
use Rattle.replay_spec.specs.Next.{answered, home_of, newest}
use Rattle.audit_spec.specs.Meaning.{IsOver, under_nonce, LastPagesHideTheirUrl}

-- ---- a page body sends nothing, and is over nowhere

-- an end at which nothing is over, with no answer left where it goes on
abbrev IsStill : {A : Type 0} → End A → Type 0
IsStill (got v t) = t.later ≡ []
IsStill (stop o names t) = IsOver o → ⊥

-- a run in the newest segment is over nowhere, and stays in it
abbrev Stays : (A : Type 0) → Run A → Type 0
Stays A r = (s : State) → s.later ≡ [] → IsStill (r s)

stays_on : {A B : Type 0} (e : End A) (f : A → Run B) → IsStill e → ((x : A) → Stays B (f x)) → IsStill (after e f)
stays_on (got x t) f h g = g x t h
stays_on (stop o names t) f h g = h

charged_stays : (inside : List TxName) (over : Bool) (cost : ℕ) (s : State) → s.later ≡ [] → IsStill (charged inside over cost s)
charged_stays inside true cost s h = λ over. over
charged_stays inside false cost s h = h

charge_stays : (inside : List TxName) (n : ℕ) → Stays (Unit {0}) (charge inside n)
charge_stays inside n s h =
    let cost = min (s.cost + n) (2 ^ 63) in charged_stays inside (is_over (bound s.segment.reads) cost) cost s h

paid_stays : {A : Type 0} (inside : List TxName) (r : Run A) → Stays A r → Stays A (charge inside 1 >>= (λ _. r))
paid_stays inside r p s h = stays_on (charge inside 1 s) (λ _. r) (charge_stays inside 1 s h) (λ _. p)

copied_stays : (inside : List TxName) (v : Val) → Stays Val (copied inside v)
copied_stays inside v s h = stays_on (charge inside (1 + size_of v) s) (λ _. give v) (charge_stays inside (1 + size_of v) s h) (λ _ t k. k)

answer_stays : (inside : List TxName) (r : Result Val Fault) → Stays Val (answer inside r)
answer_stays inside (Ok v) s h = h
answer_stays inside (Err k) s h = λ over. over

choose_stays : {A : Type 0} (b : Bool) (r q : Run A) → Stays A r → Stays A q → Stays A (choose b r q)
choose_stays true r q g h = g
choose_stays false r q g h = h

turns_stay : (n i : ℕ) (done : List Val) (body : List Val → Run Val) (env : List Val) → ((e : List Val) → Stays Val (body e)) → Stays (List Val) (turns n i done body env)
turns_stay zero i done body env p s h = h
turns_stay (suc n) i done body env p s h =
    stays_on (body (env ++ number (pos i) ∷ []) s) (λ v. turns n (suc i) (done ++ v ∷ []) body env) (p (env ++ number (pos i) ∷ []) s h)
    (λ v. turns_stay n (suc i) (done ++ v ∷ []) body env p)

each_stays : (inside : List TxName) (n : Result ℤ Fault) (body : List Val → Run Val) (env : List Val) → ((e : List Val) → Stays Val (body e)) → Stays Val (for_each inside n body env)
each_stays inside (Ok (pos n)) body env p s h =
    stays_on (turns n 0 [] body env s) (λ vs. answer inside (list_of vs)) (turns_stay n 0 [] body env p s h) (λ vs. answer_stays inside (list_of vs))
each_stays inside (Ok (negsuc n)) body env p s h = λ over. over
each_stays inside (Err k) body env p s h = λ over. over

read_stays : (c : ℕ) (r : Reads) (s : State) → s.later ≡ [] → IsStill (read_from r c s)
read_stays c (recorded []) s h = h
read_stays c (recorded (v ∷ vs)) s h = h
read_stays c (present cells fuel) s h = h

no_page : {A : Type 0} → true ≡ false → A
no_page e = absurd (let no : ⊥ = cc in no)

module _ (web cells : ℕ) (calls : Calls) where
  mutual
    page_stays : (ks : List ℕ) (d : ℕ) (c : Core) (env : List Val) (inside : List TxName) → IsClosed web cells ks d true c → Stays Val (eval calls c env inside)
    page_stays ks d (lit v) env inside h = copied_stays inside v
    page_stays ks d (var k) env inside h = copied_stays inside (value_at env k)
    page_stays ks d (bind es b) env inside h =
        paid_stays inside _ (λ s k. stays_on (eval_into calls [] es env inside s) (λ vs. eval calls b (env ++ vs) inside) (into_stays ks d [] es env inside h.0 s k)
        (λ vs. page_stays ks (cores_length es + d) b (env ++ vs) inside h.1))
    page_stays ks d (branch t a b) env inside h =
        paid_stays inside _ (λ s k. stays_on (eval calls t env inside s) (λ v. choose (is_false v) (eval calls b env inside) (eval calls a env inside)) (page_stays ks d t env inside h.0 s k)
        (λ v. choose_stays (is_false v) (eval calls b env inside) (eval calls a env inside) (page_stays ks d b env inside h.2) (page_stays ks d a env inside h.1)))
    page_stays ks d (repeat n b) env inside h =
        paid_stays inside _ (λ s k. stays_on (eval calls n env inside s) (λ v. for_each inside (as_number v) (λ e. eval calls b e inside) env) (page_stays ks d n env inside h.0 s k)
        (λ v. each_stays inside (as_number v) (λ e. eval calls b e inside) env (λ e. page_stays ks (1 + d) b e inside h.1)))
    page_stays ks d (prim o es) env inside h =
        paid_stays inside _ (λ s k. stays_on (eval_into calls [] es env inside s) (λ vs. answer inside (value_of o vs)) (into_stays ks d [] es env inside h.1 s k) (λ vs. answer_stays inside (value_of o vs)))
    page_stays ks d (call k es) env inside h = no_page h.0
    page_stays ks d (seq es) env inside h = paid_stays inside _ (while_stays ks d is_any (truth false) es env inside h)
    page_stays ks d (and_all es) env inside h = paid_stays inside _ (while_stays ks d is_not_false (truth true) es env inside h)
    page_stays ks d (or_any es) env inside h = paid_stays inside _ (while_stays ks d is_false (truth false) es env inside h)
    page_stays ks d (send kind b) env inside h = no_page h.0
    page_stays ks d (finish b) env inside h = no_page h.0
    page_stays ks d (back b) env inside h = no_page h.0
    page_stays ks d (isolate b) env inside h = no_page h.0
    page_stays ks d (cell_ref c) env inside h = λ s k. stays_on (lookup c s) (copied inside) k (copied_stays inside)
    page_stays ks d (cell_shadow c e) env inside h = no_page h.0
    page_stays ks d (inst_ref c) env inside h = λ s k. stays_on (read_cell c s) (copied inside) (read_stays c s.segment.reads s k) (copied_stays inside)
    page_stays ks d (inst_set c e) env inside h = no_page h.0
    page_stays ks d (inst_add c e) env inside h = no_page h.0

    into_stays : (ks : List ℕ) (d : ℕ) (done : List Val) (es : Cores) (env : List Val) (inside : List TxName) → AreClosed web cells ks d true es → Stays (List Val) (eval_into calls done es env inside)
    into_stays ks d done no_cores env inside h s k = k
    into_stays ks d done (core c cs) env inside h s k =
        stays_on (eval calls c env inside s) (λ v. eval_into calls (done ++ v ∷ []) cs env inside) (page_stays ks d c env inside h.0 s k) (λ v. into_stays ks d (done ++ v ∷ []) cs env inside h.1)

    while_stays : (ks : List ℕ) (d : ℕ) (goes_on : Val → Bool) (v : Val) (es : Cores) (env : List Val) (inside : List TxName) → AreClosed web cells ks d true es → Stays Val (eval_while calls goes_on v es env inside)
    while_stays ks d goes_on v no_cores env inside h s k = k
    while_stays ks d goes_on v (core c cs) env inside h s k =
        stays_on (eval calls c env inside s) (λ w. choose (goes_on w) (eval_while calls goes_on w cs env inside) (give w)) (page_stays ks d c env inside h.0 s k)
        (λ w. choose_stays (goes_on w) (eval_while calls goes_on w cs env inside) (give w) (while_stays ks d goes_on w cs env inside h.1) (λ t l. l))

-- ---- under another URL

module _ (other : List ℕ) where
  -- the URL of a segment before these answers: the newest one has the other
  abbrev url_by : List Answer → List ℕ → List ℕ
  url_by [] u = other
  url_by (a ∷ later) u = u

  -- the answers that are left, where the newest segment has the other URL
  abbrev later_by : List Answer → List Answer
  later_by [] = []
  later_by (a ∷ later) = record a { segment = record a.segment { url = url_by later a.segment.url } } ∷ later_by later

  -- the state, where the newest segment has the other URL
  abbrev image : State → State
  image s = record s { segment = record s.segment { url = url_by s.later s.segment.url }; later = later_by s.later }

  -- a run that is over ends as under the other URL, and so does one that goes on
  abbrev IsAlike : {A : Type 0} → End A → End A → Type 0
  IsAlike (got v t) d = d ≡ got v (image t)
  IsAlike (stop o names t) d = IsOver o → d ≡ stop o names (image t)

  abbrev Same : (A : Type 0) → Run A → Type 0
  Same A r = (s : State) → IsAlike (r s) (r (image s))

  alike_on : {A B : Type 0} (e d : End A) (f : A → Run B) → IsAlike e d → ((x : A) → Same B (f x)) → IsAlike (after e f) (after d f)
  alike_on {B = B} (got x t) d f h g = subst (λ (z : End _). IsAlike {A = B} (f x t) (after z f)) (sym h) (g x t)
  alike_on (stop o names t) d f h g = λ over. ap (λ (z : End _). after z f) (h over)

  charged_same : (inside : List TxName) (over : Bool) (cost : ℕ) (s : State) → IsAlike (charged inside over cost s) (charged inside over cost (image s))
  charged_same inside true cost s = λ over. absurd over
  charged_same inside false cost s = refl

  charge_same : (inside : List TxName) (n : ℕ) → Same (Unit {0}) (charge inside n)
  charge_same inside n s = let cost = min (s.cost + n) (2 ^ 63) in charged_same inside (is_over (bound s.segment.reads) cost) cost s

  paid_same : {A : Type 0} (inside : List TxName) (r : Run A) → Same A r → Same A (charge inside 1 >>= (λ _. r))
  paid_same inside r p s = alike_on (charge inside 1 s) (charge inside 1 (image s)) (λ _. r) (charge_same inside 1 s) (λ _. p)

  then_same : {A B : Type 0} (r : Run A) (f : A → Run B) → Same A r → ((x : A) → Same B (f x)) → Same B (r >>= f)
  then_same r f p g s = alike_on (r s) (r (image s)) f (p s) g

  copied_same : (inside : List TxName) (v : Val) → Same Val (copied inside v)
  copied_same inside v = then_same (charge inside (1 + size_of v)) (λ _. give v) (charge_same inside (1 + size_of v)) (λ _ s. refl)

  answer_same : (inside : List TxName) (r : Result Val Fault) → Same Val (answer inside r)
  answer_same inside (Ok v) s = refl
  answer_same inside (Err k) s = λ over. absurd over

  choose_same : {A : Type 0} (b : Bool) (r q : Run A) → Same A r → Same A q → Same A (choose b r q)
  choose_same true r q g h = g
  choose_same false r q g h = h

  turns_same : (n i : ℕ) (done : List Val) (body : List Val → Run Val) (env : List Val) → ((e : List Val) → Same Val (body e)) → Same (List Val) (turns n i done body env)
  turns_same zero i done body env p = λ s. refl
  turns_same (suc n) i done body env p =
      then_same (body (env ++ number (pos i) ∷ [])) (λ v. turns n (suc i) (done ++ v ∷ []) body env) (p (env ++ number (pos i) ∷ []))
      (λ v. turns_same n (suc i) (done ++ v ∷ []) body env p)

  each_same : (inside : List TxName) (n : Result ℤ Fault) (body : List Val → Run Val) (env : List Val) → ((e : List Val) → Same Val (body e)) → Same Val (for_each inside n body env)
  each_same inside (Ok (pos n)) body env p =
      then_same (turns n 0 [] body env) (λ vs. answer inside (list_of vs)) (turns_same n 0 [] body env p) (λ vs. answer_same inside (list_of vs))
  each_same inside (Ok (negsuc n)) body env p = λ s over. absurd over
  each_same inside (Err k) body env p = λ s over. absurd over

  read_same : (c : ℕ) (r : Reads) (s : State) → IsAlike (read_from r c s) (read_from r c (image s))
  read_same c (recorded []) s = refl
  read_same c (recorded (v ∷ vs)) s = refl
  read_same c (present cells fuel) s = refl

  set_same : (c : ℕ) (v : Val) (r : Reads) (s : State) → IsAlike (set_in r c v s) (set_in r c v (image s))
  set_same c v (recorded vs) s = refl
  set_same c v (present cells fuel) s = refl

  added_same : (inside : List TxName) (c : ℕ) (w : Val) (n : ℤ) (r : Result Val Fault) (s : State) → IsAlike (added inside c w n r s) (added inside c w n r (image s))
  added_same inside c w n (Ok v) s = refl
  added_same inside c w n (Err k) s = λ over. absurd over

  add_to_same : (inside : List TxName) (c : ℕ) (w : Val) (n : Result ℤ Fault) (s : State) → IsAlike (add_to inside c w n s) (add_to inside c w n (image s))
  add_to_same inside c w (Ok n) s = added_same inside c w n (sum w n) s
  add_to_same inside c w (Err k) s = λ over. absurd over

  add_same : (inside : List TxName) (c : ℕ) (v : Val) (r : Reads) (s : State) → IsAlike (add_in inside r c v s) (add_in inside r c v (image s))
  add_same inside c v (recorded vs) s = refl
  add_same inside c v (present cells fuel) s = add_to_same inside c (cell_at (commit s.effects cells) c) (as_number v) s

  halt_same : (inside : List TxName) (how : How) (page : Val) → Same Val (halt inside how page)
  halt_same inside how page s = λ over. refl

  sent_same : (inside : List TxName) (kind : SendKind) (page : Val) (later : List Answer) (s : State) → IsAlike (sent inside kind page later s) (sent inside kind page (later_by later) (image s))
  sent_same inside kind page [] s = λ over. refl
  sent_same inside kind page (a ∷ later) s = refl

  -- a page that waits is not over
  waits_still : (kind : SendKind) (o : Option (List ℕ)) → IsOver (page_stop (shows kind) o) → ⊥
  waits_still kind None over = over
  waits_still kind (Some bytes) over = over

  -- a page that is sent in the newest segment waits, or there is none
  sent_still : (inside : List TxName) (kind : SendKind) (e d : End Val) → IsStill e → IsAlike (after e (send_page inside kind)) d
  sent_still inside kind (got page t) d h =
      subst (λ (later : List Answer). IsAlike (sent inside kind page later t) d) (sym h) (λ over. absurd (waits_still kind (page_of page) over))
  sent_still inside kind (stop o names t) d h = λ over. absurd (h over)

  module _ (web cells : ℕ) (calls : Calls) (so : (k : ℕ) (vs : List Val) (inside : List TxName) → Same Val (calls k vs inside)) where
    -- a page that is sent, after these answers
    sends_same : (ks : List ℕ) (d : ℕ) (kind : SendKind) (b : Core) (env : List Val) (inside : List TxName) → IsClosed web cells ks d true b
        → ((u : Val) → Same Val (eval calls b (env ++ u ∷ []) inside)) → (later : List Answer) (s : State) → s.later ≡ later
        → IsAlike (after (eval calls b (env ++ text s.segment.url ∷ []) inside s) (send_page inside kind))
        (after (eval calls b (env ++ text (url_by later s.segment.url) ∷ []) inside (image s)) (send_page inside kind))
    sends_same ks d kind b env inside closed p [] s e =
        sent_still inside kind (eval calls b (env ++ text s.segment.url ∷ []) inside s) _ (page_stays web cells calls ks d b (env ++ text s.segment.url ∷ []) inside closed s e)
    sends_same ks d kind b env inside closed p (a ∷ later) s e =
        then_same (eval calls b (env ++ text s.segment.url ∷ []) inside) (send_page inside kind) (p (text s.segment.url)) (λ page t. sent_same inside kind page t.later t) s

    mutual
      same : (ks : List ℕ) (d : ℕ) (p : Bool) (c : Core) (env : List Val) (inside : List TxName) → IsClosed web cells ks d p c → Same Val (eval calls c env inside)
      same ks d p (lit v) env inside h = copied_same inside v
      same ks d p (var k) env inside h = copied_same inside (value_at env k)
      same ks d p (bind es b) env inside h =
          paid_same inside _ (then_same (eval_into calls [] es env inside) (λ vs. eval calls b (env ++ vs) inside) (same_into ks d p [] es env inside h.0)
          (λ vs. same ks (cores_length es + d) p b (env ++ vs) inside h.1))
      same ks d p (branch t a b) env inside h =
          paid_same inside _ (then_same (eval calls t env inside) (λ v. choose (is_false v) (eval calls b env inside) (eval calls a env inside)) (same ks d p t env inside h.0)
          (λ v. choose_same (is_false v) (eval calls b env inside) (eval calls a env inside) (same ks d p b env inside h.2) (same ks d p a env inside h.1)))
      same ks d p (repeat n b) env inside h =
          paid_same inside _ (then_same (eval calls n env inside) (λ v. for_each inside (as_number v) (λ e. eval calls b e inside) env) (same ks d p n env inside h.0)
          (λ v. each_same inside (as_number v) (λ e. eval calls b e inside) env (λ e. same ks (1 + d) p b e inside h.1)))
      same ks d p (prim o es) env inside h =
          paid_same inside _ (then_same (eval_into calls [] es env inside) (λ vs. answer inside (value_of o vs)) (same_into ks d p [] es env inside h.1) (λ vs. answer_same inside (value_of o vs)))
      same ks d p (call k es) env inside h =
          paid_same inside _ (then_same (eval_into calls [] es env inside) (λ vs. calls k vs inside) (same_into ks d false [] es env inside h.2) (λ vs. so k vs inside))
      same ks d p (seq es) env inside h = paid_same inside _ (same_while ks d p is_any (truth false) es env inside h)
      same ks d p (and_all es) env inside h = paid_same inside _ (same_while ks d p is_not_false (truth true) es env inside h)
      same ks d p (or_any es) env inside h = paid_same inside _ (same_while ks d p is_false (truth false) es env inside h)
      same ks d p (send kind b) env inside h =
          paid_same inside _ (λ s. sends_same ks (1 + d) kind b env inside h.1 (λ u. same ks (1 + d) true b (env ++ u ∷ []) inside h.1) s.later s refl)
      same ks d p (finish b) env inside h = paid_same inside _ (then_same (eval calls b env inside) (halt inside finishes) (same ks d true b env inside h.1) (halt_same inside finishes))
      same ks d p (back b) env inside h = paid_same inside _ (then_same (eval calls b env inside) (halt inside ends) (same ks d true b env inside h.1) (halt_same inside ends))
      same ks d p (isolate b) env inside h =
          then_same (enter inside) (λ name. eval calls b env (inside ++ name ∷ []) >>= leave name) (paid_same inside _ (λ s. refl))
          (λ name. then_same (eval calls b env (inside ++ name ∷ [])) (leave name) (same ks d false b env (inside ++ name ∷ []) h.1) (λ v s. refl))
      same ks d p (cell_ref c) env inside h = then_same (lookup c) (copied inside) (λ s. refl) (copied_same inside)
      same ks d p (cell_shadow c e) env inside h = paid_same inside _ (then_same (eval calls e env inside) (shadow c) (same ks d false e env inside h.2) (λ v s. refl))
      same ks d p (inst_ref c) env inside h = then_same (read_cell c) (copied inside) (λ s. read_same c s.segment.reads s) (copied_same inside)
      same ks d p (inst_set c e) env inside h = paid_same inside _ (then_same (eval calls e env inside) (set_cell c) (same ks d false e env inside h.2) (λ v s. set_same c v s.segment.reads s))
      same ks d p (inst_add c e) env inside h =
          paid_same inside _ (then_same (eval calls e env inside) (add_cell inside c) (same ks d false e env inside h.2) (λ v s. add_same inside c v s.segment.reads s))

      same_into : (ks : List ℕ) (d : ℕ) (p : Bool) (done : List Val) (es : Cores) (env : List Val) (inside : List TxName) → AreClosed web cells ks d p es → Same (List Val) (eval_into calls done es env inside)
      same_into ks d p done no_cores env inside h = λ s. refl
      same_into ks d p done (core c cs) env inside h =
          then_same (eval calls c env inside) (λ v. eval_into calls (done ++ v ∷ []) cs env inside) (same ks d p c env inside h.0) (λ v. same_into ks d p (done ++ v ∷ []) cs env inside h.1)

      same_while : (ks : List ℕ) (d : ℕ) (p : Bool) (goes_on : Val → Bool) (v : Val) (es : Cores) (env : List Val) (inside : List TxName) → AreClosed web cells ks d p es
          → Same Val (eval_while calls goes_on v es env inside)
      same_while ks d p goes_on v no_cores env inside h = λ s. refl
      same_while ks d p goes_on v (core c cs) env inside h =
          then_same (eval calls c env inside) (λ w. choose (goes_on w) (eval_while calls goes_on w cs env inside) (give w)) (same ks d p c env inside h.0)
          (λ w. choose_same (goes_on w) (eval_while calls goes_on w cs env inside) (give w) (same_while ks d p goes_on w cs env inside h.1) (λ s. refl))

  same_bodies : (web cells : ℕ) (calls : Calls) → ((k : ℕ) (vs : List Val) (inside : List TxName) → Same Val (calls k vs inside)) → (n : ℕ) (earlier ks : List ℕ) (cs : Cores)
      → AreBodies web cells earlier ks cs → (k : ℕ) (vs : List Val) (inside : List TxName) → Same Val (calls_from calls n cs k vs inside)
  same_bodies web cells calls so n earlier [] no_cores h = so
  same_bodies web cells calls so n earlier [] (core c cs) h = absurd h
  same_bodies web cells calls so n earlier (p ∷ ps) no_cores h = absurd h
  same_bodies web cells calls so n earlier (p ∷ ps) (core c cs) h =
      same_bodies web cells (with_task n (eval calls c) calls)
      (λ k vs inside. choose_same (k == n) (eval calls c vs inside) (calls k vs inside) (same web cells calls so earlier p false c vs inside h.0) (so k vs inside)) (suc n) (earlier ++ p ∷ []) ps cs h.1

  same_script : (web cells : ℕ) (ks : List ℕ) (s : Script) → IsClosed web cells ks 0 false s.body → AreBodies web cells [] ks s.tasks → Same Val (evaluated s)
  same_script web cells ks s closed bodies =
      same web cells (calls_of s.tasks) (same_bodies web cells no_calls (λ k vs inside t. refl) 0 [] ks s.tasks bodies) ks 0 false s.body [] [] closed

  -- an answer to which the newest segment ran, under the other URL
  abbrev retold : Answer → Answer
  retold a = record a { segment = record a.segment { url = other } }

  url_stays : (ps : List Answer) (a : Answer) (u : List ℕ) → url_by (ps ++ a ∷ []) u ≡ u
  url_stays [] a u = refl
  url_stays (p ∷ ps) a u = refl

  later_is : (ps : List Answer) (a : Answer) → later_by (ps ++ a ∷ []) ≡ ps ++ retold a ∷ []
  later_is [] a = refl
  later_is (p ∷ ps) a =
      ap (λ (u : List ℕ). record p { segment = record p.segment { url = u } } ∷ later_by (ps ++ a ∷ [])) (url_stays ps a p.segment.url)
      ∙ ap (λ (qs : List Answer). p ∷ qs) (later_is ps a)

  begins_so : (web : List Val) (past : List Answer) (a : Answer) → image (begin web (tape_behind past a)) ≡ begin web (tape_behind past (retold a))
  begins_so web [] a = refl
  begins_so web (p ∷ ps) a =
      let start = begin web (tape_behind (p ∷ ps) a) in
      ap (λ (u : List ℕ). record start { segment = record p.segment { url = u }; later = later_by (ps ++ a ∷ []) }) (url_stays ps a p.segment.url)
      ∙ ap (λ (qs : List Answer). record start { later = qs }) (later_is ps a)

  ended_so : (e d : End Val) → IsAlike e d → IsOver (segment_at_end e).outcome → segment_at_end d ≡ segment_at_end e
  ended_so (got v t) d h over = ap segment_at_end h
  ended_so (stop o names t) d h over = ap segment_at_end (h over)

  hidden : (web cells : ℕ) (ks : List ℕ) (s : Script) → IsClosed web cells ks 0 false s.body → AreBodies web cells [] ks s.tasks → (past : List Answer) (a : Answer)
      → IsOver (run s (tape_behind past a)).outcome → run s (tape_behind past (retold a)) ≡ run s (tape_behind past a)
  hidden web cells ks s closed bodies past a over =
      let start = begin s.web (tape_behind past a) in
      ap (λ (x : State). segment_at_end (evaluated s x)) (sym (begins_so s.web past a))
      ∙ ended_so (evaluated s start) (evaluated s (image start)) (same_script web cells ks s closed bodies start) over

-- the URL of what is over is hidden
pub hides_url : LastPagesHideTheirUrl
hides_url v nonce fuel cells w over =
    let a = arena_of v.script.script in
    let was = newest v (present cells fuel) in
    let now = newest (under_nonce nonce v) (present cells fuel) in
    let past = map (answered (home_of v)) v.pages in
    let same_script : script_of a ≡ v.script.script = sym w.means in
    let here : IsOver (run (script_of a) (tape_behind past was)).outcome = subst (λ (s : Script). IsOver (run s (tape_behind past was)).outcome) w.means over in
    subst (λ (s : Script). run s (tape_behind past now) ≡ run s (tape_behind past was)) same_script
    (hidden now.segment.url (length a.web) (length a.cells) w.script.parameters (script_of a) w.script.closed w.script.bodies past was here)
