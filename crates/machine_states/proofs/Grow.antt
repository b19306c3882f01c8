-- A tape with one more answer: the machine goes on where it showed the page.
use Rattle.std.proofs.Common.{◌≡◌, ◌⊎◌, inl, inr, ℕ, zero, suc, ◌+◌, ◌^◌, min, Bool, true, false, List, [], ◌∷◌, ◌++◌, Option, Some, None, refl, ap, ◌∙◌, arith}
use Rattle.script_value.specs.Val.{Val}
use Rattle.script_value.specs.declared.outcome.TxName.{TxName}
use Rattle.replay_spec.specs.PageSpec.Page.{page_of}
use Rattle.script_nodes.specs.declared.script.SendKind.{SendKind}
use Rattle.script_nodes.specs.Arena.{Arena}
use Rattle.replay_spec.specs.Tape.{finishes, ends, halt, Reads, recorded, present, bound, Answer, State, begins, How, page_stop, Outcome, End, got, stop, Run, after, charged, is_over, sent, read_from, set_in, add_in}
use Rattle.replay_spec.specs.Laws.{Waits}
use Rattle.replay_spec.proofs.Follows.{more}
use Rattle.machine_states.specs.Machine.{Frame, in_page, Control, visit, value, Point, inside_of, gives, given, node_at, cut, taken, Machine, Suspended, Step, goes, stopped, stepped, step_at, step, then, steps}
use Rattle.machine_states.proofs.Acts.{IsActLaw, IsPlain, visited_paid, taken_any, any_given, plain_or_page}

abbrev pub grown : Answer → Machine → Machine
grown x m = record m { state = more x m.state }

-- the same end with one more answer, and no page that waits
abbrev pub Grows : Answer → {A : Type 0} → End A → End A → Type 0
Grows x (got v s) e = e ≡ got v (more x s)
Grows x (stop o names s) e = Waits o → ⊥

abbrev pub Grown : Answer → (A : Type 0) → Run A → Type 0
Grown x A r = (s : State) → Grows x (r s) (r (more x s))

goes_on : (x : Answer) {A B : Type 0} (e d : End A) (f : A → Run B) → Grows x e d → ((v : A) → Grown x B (f v)) → Grows x (after e f) (after d f)
goes_on x (got v s) d f h g = rw h (g v s)
goes_on x (stop o names s) d f h g = h

charges : (x : Answer) (inside : List TxName) (over : Bool) (cost : ℕ) (s : State) → Grows x (charged inside over cost s) (charged inside over cost (more x s))
charges x inside true cost s = λ w. w
charges x inside false cost s = refl

halts : (x : Answer) (how : How) (page : Val) → ((bytes : List ℕ) → Waits (page_stop how (Some bytes)) → ⊥) → (o : Option (List ℕ)) → Waits (page_stop how o) → ⊥
halts x how page h None w = w
halts x how page h (Some bytes) w = h bytes w

reads : (x : Answer) (c : ℕ) (source : Reads) (s : State) → Grows x (read_from source c s) (read_from source c (more x s))
reads x c (recorded []) s = refl
reads x c (recorded (v ∷ vs)) s = refl
reads x c (present cells fuel) s = refl

sets : (x : Answer) (c : ℕ) (v : Val) (source : Reads) (s : State) → Grows x (set_in source c v s) (set_in source c v (more x s))
sets x c v (recorded vs) s = refl
sets x c v (present cells fuel) s = refl

adds : (x : Answer) (inside : List TxName) (c : ℕ) (v : Val) (source : Reads) (s : State) → Grows x (add_in inside source c v s) (add_in inside source c v (more x s))
adds x inside c v source s = grind arith

pub law : (x : Answer) → IsActLaw (λ inside A r. Grown x A r) (λ inside A r. Grown x A r)
law x = record {
  gives = λ inside A v s. refl;
  goes_on = λ inside A B r f h g s. goes_on x (r s) (r (more x s)) f (h s) g;
  paid_first = λ inside A B r f h g s. goes_on x (r s) (r (more x s)) f (h s) g;
  paid_then = λ inside A B r f h g s. goes_on x (r s) (r (more x s)) f (h s) g;
  charges = λ inside n pos s. charges x inside (is_over (bound s.segment.reads) (min (s.cost + n) (2 ^ 63))) (min (s.cost + n) (2 ^ 63)) s;
  fails = λ inside k s w. w;
  urls = λ inside s. refl;
  finishes = λ inside page s. halts x finishes page (λ bytes w. w) (page_of page);
  ends = λ inside page s. halts x ends page (λ bytes w. w) (page_of page);
  names = λ inside s. refl;
  leaves = λ inside name v s. refl;
  looks_up = λ inside c s. refl;
  shadows = λ inside c v s. refl;
  reads = λ inside c s. reads x c s.segment.reads s;
  sets = λ inside c v s. sets x c v s.segment.reads s;
  adds = λ inside c v s. adds x inside c v s.segment.reads s;
}

-- the answer is taken where the machine stopped, and its segment begins
abbrev pub restarted : Answer → Suspended → State → Machine
restarted x d s = record { point = record { control = value x.value; env = d.env; frames = d.frames }; state = begins x.segment [] d.shadows s.defaults }

abbrev GrowsStep : Answer → Step → Step → Type 0
GrowsStep x (goes m) y = y ≡ goes (grown x m)
GrowsStep x (stopped o names d s) y = Waits o → y ≡ goes (restarted x d s)

by_end : (x : Answer) (env : List Val) (fs : List Frame) (e d : End Point) → Grows x e d → GrowsStep x (stepped env fs e) (stepped env fs d)
by_end x env fs (got p s) d h = ap (stepped env fs) h
by_end x env fs (stop o names s) d h = λ w. absurd (h w)

-- the one place where an answer is taken
by_page : (x : Answer) (inside : List TxName) (kind : SendKind) (page : Val) (env : List Val) (fs : List Frame) (later : List Answer) (s : State)
    → GrowsStep x (stepped env fs (after (sent inside kind page later s) (λ v. gives v env fs))) (stepped env fs (after (sent inside kind page (later ++ x ∷ []) (more x s)) (λ v. gives v env fs)))
by_page x inside kind page env fs [] s = λ w. refl
by_page x inside kind page env fs (y ∷ later) s = refl

by_frame : (x : Answer) (a : Arena) (f : Frame) (v : Val) (env : List Val) (fs : List Frame) (s : State) → IsPlain f ⊎ ((n : ℕ) × ((kind : SendKind) × (f ≡ in_page n kind)))
    → GrowsStep x (stepped env fs (taken a f v env fs s)) (stepped env fs (taken a f v env fs (more x s)))
by_frame x a f v env fs s (inl h) = by_end x env fs _ _ (taken_any (λ inside A r. Grown x A r) (λ inside A r. Grown x A r) (law x) a f h v env fs s)
by_frame x a f v env fs s (inr h) = rw h.1.1 (by_page x (inside_of fs) h.1.0 v env fs s.later s)

step_grows : (x : Answer) (a : Arena) (c : Control) (env : List Val) (fs : List Frame) (s : State) → GrowsStep x (step_at a c env fs s) (step_at a c env fs (more x s))
step_grows x a (visit n) env fs s = by_end x env fs _ _ (visited_paid (λ inside A r. Grown x A r) (λ inside A r. Grown x A r) (law x) a n (node_at a n) env fs s)
step_grows x a (value v) env [] s = by_end x env [] (given (halt [] ends v) env [] s) (given (halt [] ends v) env [] (more x s)) (any_given (λ inside A r. Grown x A r) (λ inside A r. Grown x A r) (law x) [] (halt [] ends v) env [] ((law x).ends [] v) s)
step_grows x a (value v) env (f ∷ fs) s = by_frame x a f v (cut f env) fs s (plain_or_page f)

-- after some steps the page is answered
pub record Answered (x : Answer) (a : Arena) (m : Machine) (d : Suspended) (s : State) : Type 0 where
  pub count : ℕ
  pub are : steps a count (grown x m) ≡ goes (restarted x d s)

on_grows : (x : Answer) (a : Arena) (k : ℕ) (o : Outcome) (names : List TxName) (d : Suspended) (s : State) → Waits o
    → ((n : Machine) → steps a k n ≡ stopped o names d s → Answered x a n d s)
    → (m : Machine) (y : Step) → GrowsStep x y (step a (grown x m)) → then (steps a k) y ≡ stopped o names d s → Answered x a m d s
on_grows x a k o names d s w ih m (goes n) g e = let r = ih n e in record { count = suc r.count; are = ap (then (steps a r.count)) g ∙ r.are }
on_grows x a k o names d s w ih m (stopped p ms b t) g e =
    let same : p ≡ o = cc in
    let there : restarted x b t ≡ restarted x d s = cc in
    record { count = 1; are = ap (then (steps a 0)) (g (rw same w)) ∙ ap goes there }

pub steps_grow : (x : Answer) (a : Arena) (k : ℕ) (m : Machine) (o : Outcome) (names : List TxName) (d : Suspended) (s : State) → Waits o
    → steps a k m ≡ stopped o names d s → Answered x a m d s
steps_grow x a zero m o names d s w e = absurd (cc)
steps_grow x a (suc k) m o names d s w e =
    on_grows x a k o names d s w (λ n. steps_grow x a k n o names d s w) m (step a m) (step_grows x a m.point.control m.point.env m.point.frames m.state) e
