-- What the calls of a shelf are as steps of a desk.
use Rattle.std.proofs.Common.{◌≡◌, ◌∙◌, ap, sym, subst, refl, ℕ, ◌<◌, ◌==◌, ◌^◌, List, length, map, slice_get, slice_set, Bool, true, false, Option, Some, None, option_map, Result, Ok, Err, arith}
use Rattle.std.specs.Prelude.{is_some, option_and_then, IfSome}
use Rattle.std.proofs.lemmas.List.{length-map, map-set}
use Rattle.std.proofs.lemmas.Option.{slice_get-map}
use Rattle.script_value.specs.Val.{Val}
use Rattle.script_value.specs.declared.outcome.Reply.{Reply}
use Rattle.script_value.specs.declared.outcome.Reply.TheVariants.{Refused}
use Rattle.script_value.specs.declared.outcome.Refusal.{Refusal}
use Rattle.script_value.specs.declared.outcome.Refusal.TheVariants.{Unknown}
use Rattle.web_outside.specs.declared.nonces.Counting.{Counting}
use Rattle.script_nodes.specs.Setup.{Named}
use Rattle.web_disk.specs.View.{View}
use Rattle.page_names.specs.Names.{Destination, destination_of}
use Rattle.replay_spec.specs.Book.{Book, Doubt, draw}
use Rattle.replay_spec.specs.Admission.{or_else, when, admit, refusal_of}
use Rattle.replay_spec.specs.Next as next
use Rattle.replay_spec.specs.Step.{take, publish, sweep, compact, crash, Fate, plain}
use Rattle.replay_spec.specs.Step as spec
use Rattle.replay_spec.specs.Runs.{Shelf}
use Rattle.replay_spec.specs.Laws as laws
use Rattle.replay_spec.proofs.Admitted.{admit_drawn}
use Rattle.replay_spec.proofs.Barred.{barred_by}
use Rattle.shelf.specs.Visits.{ticket_of, reply_of, Ticket}
use Rattle.shelf.specs.declared.shelf.Shelf as code
use Rattle.shelf.specs.Views.{compacted_of, fate_by, swept_of}
use Rattle.play_steps.specs.Rules.{Call, Comes, answered, event}
use Rattle.play_desk.specs.Target.{answer_to, path_and_query, shelf_for}
use Rattle.play_desk.specs.Desk as desk
use Rattle.play_desk.specs.Desk.{Desk, told, take_on, take_at, happening, desk_take, desk_publish, desk_sweep, desk_compact, desk_crash, publish_held, publish_on, sweep_on, compact_on, crash_on, taken_by, published_by, swept_by, compacted_by, crashed_by, with_shelf, behind, is_fault}
use Rattle.play_desk.specs.Staff.{desk_with, numbers_in, shelf_at}
use Rattle.play_desk.proofs.Happening.{Happens}
use Rattle.play_desk.proofs.Places.{get_set}

-- a reply that is told is the program's own
told_is : (r : Reply) → told (reply_of r) ≡ r
told_is r = grind arith

-- ---- the calls of a desk

pub takes : (d : Desk) (worker : ℕ) (target : List ℕ) (at : Destination) (k : ℕ) (s : Shelf) → destination_of (path_and_query target).0 ≡ Some at
    → shelf_for (length d.shelves) worker at ≡ k → slice_get d.shelves k ≡ Some s
    → desk_take d worker target
    ≡ event (λ fate. taken_by d k worker at (answer_to (path_and_query target).1) (happening s (take at (answer_to (path_and_query target).1)) fate))
takes d worker target at k s names place here =
    let answer = answer_to (path_and_query target).1 in
    ap (take_at d worker answer) names
    ∙ ap (λ i. take_on d i worker at answer (slice_get d.shelves i)) place
    ∙ ap (take_on d k worker at answer) here

pub publishes : (d : Desk) (worker : ℕ) (t : next.Ticket) (k : ℕ) (s : Shelf) → slice_get d.held worker ≡ Some (Some t)
    → shelf_for (length d.shelves) worker t.target ≡ k → slice_get d.shelves k ≡ Some s
    → desk_publish d worker ≡ event (λ fate. published_by d k worker (happening s (publish t) fate))
publishes d worker t k s held place here =
    ap (publish_held d worker) (let it : desk.ticket_of d worker ≡ Some t = rw held refl in it)
    ∙ ap (λ i. publish_on d i worker t (slice_get d.shelves i)) place ∙ ap (publish_on d k worker t) here

pub nothing_held : (d : Desk) (worker : ℕ) → slice_get d.held worker ≡ Some None → desk_publish d worker ≡ answered (Refused Unknown)
nothing_held d worker held = ap (publish_held d worker) (let it : desk.ticket_of d worker ≡ None = rw held refl in it)

pub sweeps : (d : Desk) (k tick : ℕ) (s : Shelf) → slice_get d.shelves k ≡ Some s
    → desk_sweep d k tick ≡ event (λ fate. swept_by d k (happening s (sweep tick) fate))
sweeps d k tick s here = ap (sweep_on d k tick) here

pub compacts : (d : Desk) (k : ℕ) (s : Shelf) → slice_get d.shelves k ≡ Some s
    → desk_compact d k ≡ event (λ fate. compacted_by d k (happening s compact fate))
compacts d k s here = ap (compact_on d k) here

pub crashes : (d : Desk) (k : ℕ) (s : Shelf) → slice_get d.shelves k ≡ Some s
    → desk_crash d k ≡ event (λ fate. crashed_by d k (happening s (crash d.scripts) fate))
crashes d k s here = ap (crash_on d k) here

-- what is answered without an event
pub is_answered : {A : Type 0} (d e : Desk) (call : Call Desk Fate A) (a : A) (rose : Type 0) → call ≡ answered a → e ≡ d
    → Comes is_fault rose call d a e
is_answered d e call a rose is same = subst (λ c. Comes is_fault rose c d a e) (sym is) (refl, same)

-- what an event answers
pub is_event : {A : Type 0} (d e : Desk) (call : Call Desk Fate A) (by : Fate → A × Desk) (a : A) (rose : Type 0) (fate : Fate) → call ≡ event by
    → by fate ≡ (a, e) → (is_fault fate ≡ true → rose) → Comes is_fault rose call d a e
is_event d e call by a rose fate is comes fails = subst (λ c. Comes is_fault rose c d a e) (sym is) (fate, comes, fails)

-- what rose is told in another way
pub comes_over : {State Fate Answer : Type 0} (fails : Fate → Bool) (rose told : Type 0) (call : Call State Fate Answer) (old : State) (a : Answer)
    (new : State) → (rose → told) → Comes fails rose call old a new → Comes fails told call old a new
comes_over fails rose told (answered x) old a new so h = h
comes_over fails rose told (event by) old a new so h = (h.0, h.1, λ e. so (h.2 e))

-- ---- the desk after them

pub shelf_there : {D : Type 0} (view : D → View) (scripts : List Named) (xs : List (code.Shelf D Counting)) (ts : List (Option Ticket)) (k : ℕ) (x : code.Shelf D Counting)
    → slice_get xs k ≡ Some x → slice_get (desk_with view scripts xs ts).shelves k ≡ Some (shelf_at view x)
shelf_there view scripts xs ts k x here = slice_get-map (shelf_at view) xs k ∙ ap (option_map (shelf_at view)) here

pub count_is : {D : Type 0} (view : D → View) (scripts : List Named) (xs : List (code.Shelf D Counting)) (ts : List (Option Ticket))
    → length (desk_with view scripts xs ts).shelves ≡ length xs
count_is view scripts xs ts = length-map xs (shelf_at view)

-- as many shelves as there are numbers of them
pub counts_same : {D : Type 0} (view : D → View) (xs ys : List (code.Shelf D Counting)) → numbers_in ys ≡ numbers_in xs
    → length (map (shelf_at view) ys) ≡ length (map (shelf_at view) xs)
counts_same view xs ys same =
    length-map ys (shelf_at view)
    ∙ (sym (length-map ys (λ s. s.rules.number)) ∙ (ap length same ∙ (length-map xs (λ s. s.rules.number) ∙ sym (length-map xs (shelf_at view)))))

-- the ticket that is held, as the desk holds it
pub held_there : (tickets : List (Option Ticket)) (worker : ℕ) (o : Option Ticket) → slice_get tickets worker ≡ Some o
    → slice_get (map (option_map ticket_of) tickets) worker ≡ Some (option_map ticket_of o)
held_there tickets worker o found = slice_get-map (option_map ticket_of) tickets worker ∙ ap (option_map (option_map ticket_of)) found

pub with_is : {D : Type 0} (view : D → View) (scripts : List Named) (xs : List (code.Shelf D Counting)) (ts : List (Option Ticket)) (k : ℕ) (y : code.Shelf D Counting)
    → with_shelf (desk_with view scripts xs ts) k (shelf_at view y) ≡ desk_with view scripts (slice_set xs k y) ts
with_is view scripts xs ts k y =
    ap (λ (ss : List Shelf). (let d : Desk = record { scripts = scripts; shelves = ss; held = map (option_map ticket_of) ts } in d))
    (sym (map-set (shelf_at view) xs k y))

pub behind_is : {D : Type 0} (view : D → View) (scripts : List Named) (xs : List (code.Shelf D Counting)) (ts : List (Option Ticket)) (k worker : ℕ) (y : code.Shelf D Counting)
    (o : Option Ticket)
    → behind (desk_with view scripts xs ts) k (shelf_at view y) worker (option_map ticket_of o) ≡ desk_with view scripts (slice_set xs k y) (slice_set ts worker o)
behind_is view scripts xs ts k worker y o =
    ap (λ (hs : List (Option next.Ticket)). behind_with (slice_set (map (shelf_at view) xs) k (shelf_at view y)) hs)
    (sym (map-set (option_map ticket_of) ts worker o))
    ∙ ap (λ (ss : List Shelf). behind_with ss (map (option_map ticket_of) (slice_set ts worker o))) (sym (map-set (shelf_at view) xs k y))
  where
    behind_with : List Shelf → List (Option next.Ticket) → Desk
    behind_with ss hs = record { scripts = scripts; shelves = ss; held = hs }

-- ---- the calls of a shelf

swept_err : (d : Desk) (k : ℕ) (r : Reply) (s : Shelf) → swept_by d k (reply_of r, s) ≡ (Err r, with_shelf d k s)
swept_err d k r s = grind arith

taken_err : (d : Desk) (k worker : ℕ) (target : Destination) (answer : Val) (r : Reply) (s : Shelf) → taken_by d k worker target answer (reply_of r, s) ≡ (Err r, with_shelf d k s)
taken_err d k worker target answer r s = grind arith

swept_so : (d : Desk) (k : ℕ) (x : Result ℕ Reply) (s : Shelf) → swept_by d k (swept_of x, s) ≡ (x, with_shelf d k s)
swept_so d k (Ok n) s = refl
swept_so d k (Err e) s = swept_err d k e s

pub sweep_step : {D : Type 0} (view : D → View) (scripts : List Named) (xs : List (code.Shelf D Counting)) (ts : List (Option Ticket)) (k : ℕ) (x y : code.Shelf D Counting)
    (tick : ℕ) (r : Result ℕ Reply) → Happens view x y (sweep tick) (swept_of r)
    → swept_by (desk_with view scripts xs ts) k (happening (shelf_at view x) (sweep tick) (fate_by (swept_of r))) ≡ (r, desk_with view scripts (slice_set xs k y) ts)
sweep_step view scripts xs ts k x y tick r h =
    ap (swept_by (desk_with view scripts xs ts) k) h
    ∙ (swept_so (desk_with view scripts xs ts) k r (shelf_at view y) ∙ ap (λ (e : Desk). (r, e)) (with_is view scripts xs ts k y))

compacted_err : (d : Desk) (k : ℕ) (r : Reply) (s : Shelf) → compacted_by d k (reply_of r, s) ≡ (Err r, with_shelf d k s)
compacted_err d k r s = grind arith

compacted_so : (d : Desk) (k : ℕ) (x : Result ℕ Reply) (s : Shelf) → compacted_by d k (compacted_of x, s) ≡ (x, with_shelf d k s)
compacted_so d k (Ok n) s = refl
compacted_so d k (Err e) s = compacted_err d k e s

pub compact_step : {D : Type 0} (view : D → View) (scripts : List Named) (xs : List (code.Shelf D Counting)) (ts : List (Option Ticket)) (k : ℕ) (x y : code.Shelf D Counting)
    (r : Result ℕ Reply) → Happens view x y compact (compacted_of r)
    → compacted_by (desk_with view scripts xs ts) k (happening (shelf_at view x) compact (fate_by (compacted_of r))) ≡ (r, desk_with view scripts (slice_set xs k y) ts)
compact_step view scripts xs ts k x y r h =
    ap (compacted_by (desk_with view scripts xs ts) k) h
    ∙ (compacted_so (desk_with view scripts xs ts) k r (shelf_at view y) ∙ ap (λ (e : Desk). (r, e)) (with_is view scripts xs ts k y))

pub take_step : {D : Type 0} (view : D → View) (scripts : List Named) (xs : List (code.Shelf D Counting)) (ts : List (Option Ticket)) (k worker : ℕ) (x y : code.Shelf D Counting)
    (d : Destination) (a : Val) (t : Ticket) → Happens view x y (take d a) (spec.taken t.number t.nonce)
    → ticket_of t ≡ record { target = d; answer = a; number = t.number; nonce = t.nonce }
    → taken_by (desk_with view scripts xs ts) k worker d a (happening (shelf_at view x) (take d a) plain)
    ≡ (Ok t.number, desk_with view scripts (slice_set xs k y) (slice_set ts worker (Some t)))
take_step view scripts xs ts k worker x y d a t h ticket =
    ap (taken_by (desk_with view scripts xs ts) k worker d a) h
    ∙ (ap (λ (u : next.Ticket). (Ok t.number, behind (desk_with view scripts xs ts) k (shelf_at view y) worker (Some u))) (sym ticket)
    ∙ ap (λ (e : Desk). (Ok t.number, e)) (behind_is view scripts xs ts k worker y (Some t)))

pub refused_step : {D : Type 0} (view : D → View) (scripts : List Named) (xs : List (code.Shelf D Counting)) (ts : List (Option Ticket)) (k worker : ℕ) (x y : code.Shelf D Counting)
    (d : Destination) (a : Val) (e : Reply) → Happens view x y (take d a) (reply_of e)
    → taken_by (desk_with view scripts xs ts) k worker d a (happening (shelf_at view x) (take d a) (fate_by (reply_of e)))
    ≡ (Err e, desk_with view scripts (slice_set xs k y) ts)
refused_step view scripts xs ts k worker x y d a e h =
    ap (taken_by (desk_with view scripts xs ts) k worker d a) h
    ∙ (taken_err (desk_with view scripts xs ts) k worker d a e (shelf_at view y) ∙ ap (λ (z : Desk). (Err e, z)) (with_is view scripts xs ts k y))

pub publish_step : {D : Type 0} (view : D → View) (scripts : List Named) (xs : List (code.Shelf D Counting)) (ts : List (Option Ticket)) (k worker : ℕ) (x y : code.Shelf D Counting)
    (t : Ticket) (e : Reply) → Happens view x y (publish (ticket_of t)) (reply_of e)
    → published_by (desk_with view scripts xs ts) k worker (happening (shelf_at view x) (publish (ticket_of t)) (fate_by (reply_of e)))
    ≡ (e, desk_with view scripts (slice_set xs k y) (slice_set ts worker None))
publish_step view scripts xs ts k worker x y t e h =
    ap (published_by (desk_with view scripts xs ts) k worker) h
    ∙ (ap (λ (r : Reply). (r, behind (desk_with view scripts xs ts) k (shelf_at view y) worker None)) (told_is e)
    ∙ ap (λ (z : Desk). (e, z)) (behind_is view scripts xs ts k worker y None))

pub holds_it : (tickets : List (Option Ticket)) (worker : ℕ) (t : Ticket) → worker < length tickets
    → is_some (option_and_then (λ u. u) (slice_get (map (option_map ticket_of) (slice_set tickets worker (Some t))) worker)) ≡ true
holds_it tickets worker t low =
    let there : slice_get (map (option_map ticket_of) (slice_set tickets worker (Some t))) worker ≡ Some (Some (ticket_of t)) =
    held_there (slice_set tickets worker (Some t)) worker (Some t) (get_set tickets worker (Some t) low) in
    rw there refl

-- ---- what a take comes to

pub left_alone : (b c : Book) (nonce : ℕ) (e : Reply) → laws.Takes b nonce (reply_of e) c → c ≡ b
left_alone b c nonce e h = grind (arith, h)

-- what was taken was admitted
none_stands : (down : Option Doubt) (follows worn_out : Bool) (o : Option Refusal) (n k : ℕ) → IfSome (or_else (barred_by down follows) (or_else (when worn_out spec.worn) (spec.refused_by o))) (λ x. spec.taken n k ≡ x) → o ≡ None
none_stands (Some doubt) follows worn_out o n k h = absurd (cc)
none_stands None true worn_out o n k h = absurd (cc)
none_stands None false true o n k h = absurd (cc)
none_stands None false false None n k h = refl
none_stands None false false (Some r) n k h = absurd (cc)

pub was_admitted : (b c : Book) (d : Destination) (n k : ℕ) → IfSome (spec.no_take b d) (λ x. spec.taken n k ≡ x) → c ≡ draw b → refusal_of (admit c d) ≡ None
was_admitted b c d n k h drawn =
    ap (λ (x : Book). refusal_of (admit x d)) drawn ∙ (ap refusal_of (admit_drawn b d) ∙ none_stands b.down b.follows (b.drawn == 2 ^ 62) (refusal_of (admit b d)) n k h)
