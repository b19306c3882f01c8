-- What the run of a page's script leaves.
use Rattle.std.proofs.Common.{◌≡◌, ◌∙◌, ap, sym, subst, ℕ, List, map, Option, Some, None, option_map, Result, Ok, Err, refl}
use Rattle.std.specs.Prelude.{IfOk}
use Rattle.std.specs.declared.alloc.AllocError.{AllocError}
use Rattle.std.proofs.lemmas.Option.{same_Some}
use Rattle.script_value.specs.Val.{Val, list, no_vals}
use Rattle.script_nodes.specs.declared.script.SendKind.{SendKind}
use Rattle.script_nodes.specs.Arena.{Arena, IsScript, script_of}
use Rattle.script_nodes.specs.Setup.{Named, Library}
use Rattle.script_nodes.specs.Views.{named_of}
use Rattle.instance_cells.specs.Cells.{Effect, reads_of}
use Rattle.instance_cells.specs.Views.{effect_of}
use Rattle.replay_spec.specs.Tape.{Answer, Tape, present, recorded, shows, paged}
use Rattle.replay_spec.specs.Eval as eval
use Rattle.replay_spec.specs.Book as spec
use Rattle.replay_spec.specs.Book.{Change, opens, extends, Instance, instance_at}
use Rattle.replay_spec.specs.Admission.{◌>>=◌, Place}
use Rattle.replay_spec.specs.Next as next
use Rattle.replay_spec.specs.Next.{Visit, home, url_of, comes_to, tape_for}
use Rattle.replay_spec.specs.Recovery.{page_of_numbers, opening_visit, extension_visit, again}
use Rattle.replay_spec.proofs.Admitted.{came_from}
use Rattle.replay_spec.proofs.Numbered.{number_of}
use Rattle.server_limits.specs.Limits.{most_fuel}
use Rattle.machine_states.specs.Machine.{Suspended}
use Rattle.machine_states.specs.Laws.{IsStateOf}
use Rattle.machine_states.specs.Views.{origin_of, suspended_of, outcome_of, state_of, Keeps}
use Rattle.machine_states.specs.declared.frame.Suspended as stored
use Rattle.machine_states.specs.declared.segment.Origin.{Origin}
use Rattle.machine_states.specs.declared.segment.Origin.TheVariants as origin
use Rattle.machine_states.specs.declared.segment.Outcome.{Outcome}
use Rattle.machine_states.specs.declared.segment.Outcome.TheVariants.{Shown, Finished, Ended, Faulted, Fuel}
use Rattle.machine_states.specs.declared.segment.Segment.{Segment}
use Rattle.machine_states.proofs.Replay.{one_state}
use Rattle.visit_runs.specs.SendSuspend.Segments.{newest, FitsFrom, Replays}
use Rattle.frame_codec.specs.Stored.{IsStored}
use Rattle.frame_codec.specs.Forms.{form_bytes, IsStoredBefore}
use Rattle.frame_codec.proofs.Kept.{each_kept}
use Rattle.journal_records.specs.Fields as fields
use Rattle.journal_records.specs.Views as record_views
use Rattle.journal_records.specs.Views.{effects_in, page_change}
use Rattle.journal_records.specs.declared.records.PageRecord.{PageRecord}
use Rattle.instance_book.specs.declared.book.Book.{Book}
use Rattle.instance_book.specs.Views.{no_journal}
use Rattle.instance_book.specs.Standing.{book_under}
use Rattle.instance_book.specs.Swept.{cells_at}
use Rattle.instance_book.proofs.Behind.{arena_again}
use Rattle.instance_book.proofs.Seen.{cells_seen}
use Rattle.book_redo.proofs.Landed.{opening_in, opening_is, extension_in, extension_is}
use Rattle.instance_book.specs.Visits.{GoesOnFrom}
use Rattle.visit_runs.specs.Likes.{IsLike}
use Rattle.visit_runs.proofs.Visits.{runs_from}
use Rattle.journal_spec.specs.Retaking.{arena_of, told, told_in, script_for}
use Rattle.journal_spec.specs.Lengths.{state_over, told_own, own_told}
use Rattle.journal_spec.specs.Whole.{IsWhole}
use Rattle.journal_spec.proofs.Owned.{is_state_over, visit_state, instance_there}
use Rattle.book_redo.specs.declared.behind.Behind.{Behind}
use Rattle.book_redo.specs.Again.{comes_again, CanRunAgain, ComesAgain, ComesTo, IsLeftBy}
use Rattle.book_redo.specs.Behind.{TellsBehind, GoesOnOwn, IsSpelledBehind}
use Rattle.book_redo.specs.Runs.{kind_in, ShowsSo, Leaves, LeavesIf, IsVisitOf, RunsTo, RunsFrom}
use Rattle.book_redo.proofs.Anew.{form_behind}
use Rattle.book_redo.proofs.Shown.{comes_so, comes_not}

-- ---- one run

-- what can be written fits the script
stored_fits : (a : Arena) (o : Origin) → IsStoredBefore a (origin_of o) → FitsFrom a o
stored_fits a origin.Start h = tt
stored_fits a (origin.Page d) h = h.fits

-- what a page goes on from fits its script
pub fits_behind : (x : Behind) (o : Origin) → IsScript x.script.now.script → origin_of o ≡ origin_of x.from → IsStoredBefore (arena_of (named_of x.script.now).script) (origin_of x.from)
    → FitsFrom x.script.now.script o
fits_behind x o script same stored =
    stored_fits x.script.now.script o
    (subst (λ (a : Arena). IsStoredBefore a (origin_of o)) (arena_again x.script.now.script script)
    (subst (λ (d : Option Suspended). IsStoredBefore (arena_of (named_of x.script.now).script) d) (sym same) stored))

-- the newest answer of a record's visit
answer_is : (x : Behind) (p : PageRecord) (shelf instance : ℕ) (answer : Val) (v : Visit) → IsVisitOf x p shelf instance answer v
    → (url : List ℕ) → url ≡ url_of (home (named_of x.script.now) shelf instance) p.ticket p.nonce → (cells : List Val)
    → newest answer p.ticket url cells most_fuel ≡ next.newest v (present cells most_fuel)
answer_is x p shelf instance answer v is url spelled cells = rw (spelled, is.script, is.shelf_is, is.instance_is, is.number, is.nonce, is.answer_is) refl

-- a segment from what a record's page goes on from is that of each of the record's visits
pub like_visit : (x : Behind) (p : PageRecord) (shelf instance : ℕ) (answer : Val) (cells : List Val) (o : Origin) (url : List ℕ) (r : Segment) → IsScript x.script.now.script
    → origin_of o ≡ origin_of x.from → url ≡ url_of (home (named_of x.script.now) shelf instance) p.ticket p.nonce
    → Replays o x.script.now.script (newest answer p.ticket url cells most_fuel) r
    → (v : Visit) → IsVisitOf x p shelf instance answer v → IsLike v cells most_fuel r
like_visit x p shelf instance answer cells o url r script same spelled replays v is =
    let a = x.script.now.script in
    let means : v.script.script ≡ script_of a = ap (λ (s : Named). s.script) is.script in
    let its : a ≡ arena_of v.script.script = sym (arena_again a script) ∙ ap arena_of (sym means) in
    runs_from v a cells most_fuel r means its o (subst (λ (d : Option Suspended). GoesOnFrom v d) (sym same) is.from)
    (subst (λ (y : Answer). Replays o a y r) (answer_is x p shelf instance answer v is url spelled cells) replays)

-- it leaves nothing where it does not come to the page
pub leaves_not : (p : PageRecord) (cells : List Val) (v : Visit) (r : Segment) → IsLike v cells most_fuel r → ¬ (ShowsSo p r)
    → again p.kind (effects_in p.effects) p.left.items (comes_to v (present cells most_fuel)) ≡ None
leaves_not p cells v r like not =
    ap (again p.kind (effects_in p.effects) p.left.items) (sym like.comes) ∙ comes_not p r not

leaves_by : (p : PageRecord) (cells : List Val) (v : Visit) (r : Segment) → IsLike v cells most_fuel r → ShowsSo p r
    → (o : Outcome) → r.outcome ≡ o → (d : Option stored.Suspended) → option_map (λ x. suspended_of x) d ≡ state_of o → LeavesIf p cells v d
leaves_by p cells v r like so (Shown bytes kind state) e None is = absurd (let no : ⊥ = cc in no)
leaves_by p cells v r like so (Shown bytes kind state) e (Some d) is =
    let its : kind ≡ p.kind = same_Some kind p.kind (sym (ap (λ (o : Outcome). kind_in o) e) ∙ so.kind) in
    let same : suspended_of state ≡ suspended_of d = sym (same_Some (suspended_of d) (suspended_of state) is) in
    record {
      inside = r.entered.items;
      comes = ap (again p.kind (effects_in p.effects) p.left.items) (sym like.comes) ∙ comes_so p r so;
      bytes = bytes;
      outcome = ap (λ (m : eval.Segment). m.outcome) (sym like.comes) ∙ (ap (λ (o : Outcome). outcome_of o) e ∙ ap (λ (k : SendKind). paged (shows k) bytes) its);
      effects = ap (λ (m : eval.Segment). m.effects) (sym like.comes) ∙ so.effects;
      state = subst (λ (es : List Effect). IsStateOf (arena_of v.script.script) (tape_for v (recorded (reads_of es))) (suspended_of d)) so.effects
          (subst (λ (s : Suspended). IsStateOf (arena_of v.script.script) (tape_for v (recorded (reads_of (map effect_of r.effects.items)))) s) same
          (subst (λ (o : Outcome). Keeps o (λ s. IsStateOf (arena_of v.script.script) (tape_for v (recorded (reads_of (map effect_of r.effects.items)))) s)) e like.state));
    }
leaves_by p cells v r like so (Finished bytes) e d is = absurd (let k = sym (ap (λ (o : Outcome). kind_in o) e) ∙ so.kind in let no : ⊥ = cc in no)
leaves_by p cells v r like so (Ended bytes) e d is = absurd (let k = sym (ap (λ (o : Outcome). kind_in o) e) ∙ so.kind in let no : ⊥ = cc in no)
leaves_by p cells v r like so (Faulted f) e d is = absurd (let k = sym (ap (λ (o : Outcome). kind_in o) e) ∙ so.kind in let no : ⊥ = cc in no)
leaves_by p cells v r like so (Fuel cost) e d is = absurd (let k = sym (ap (λ (o : Outcome). kind_in o) e) ∙ so.kind in let no : ⊥ = cc in no)

-- and else its state
pub leaves : (p : PageRecord) (cells : List Val) (v : Visit) (r : Segment) → IsLike v cells most_fuel r → ShowsSo p r
    → (d : Option stored.Suspended) → option_map (λ x. suspended_of x) d ≡ state_of r.outcome → LeavesIf p cells v d
leaves p cells v r like so d is = leaves_by p cells v r like so r.outcome refl d is

-- ---- the run of a record's page

-- a state that a visit leaves is that of the page's chain
leaves_comes : (b : spec.Book) (c : Change) (p : PageRecord) (cells : List Val) (v : Visit) (d : Suspended) → IsWhole v.script → script_for b c ≡ Some v.script
    → comes_again b c ≡ again p.kind (effects_in p.effects) p.left.items (comes_to v (present cells most_fuel))
    → own_told b c ≡ told_own (state_over v.script.script (tape_for v (recorded (reads_of (effects_in p.effects))))) → Leaves p cells v d → ComesAgain b c d
leaves_comes b c p cells v d w script comes own l =
    record {
      inside = l.inside;
      comes = comes ∙ l.comes;
      state = own ∙ (ap told_own left ∙ ap (λ (y : Suspended). told y) one);
      stored = λ has s is.
          subst (λ (n : Named). IsStored (arena_of n.script) d) (same_Some v.script s (sym script ∙ is)) (each_kept (arena_of v.script.script) w.script t d l.state has);
    }
  where
    t : Tape
    t = tape_for v (recorded (reads_of (effects_in p.effects)))

    shown : (y : Suspended) × (state_over v.script.script t ≡ Some y)
    shown =
        let x = visit_state v most_fuel cells p.kind l.bytes w l.outcome in
        (x.0, ap (λ (es : List Effect). state_over v.script.script (tape_for v (recorded (reads_of es)))) (sym l.effects) ∙ x.1.0)

    left : state_over v.script.script t ≡ Some shown.0
    left = shown.1

    one : shown.0 ≡ d
    one = one_state (arena_of v.script.script) t shown.0 d (is_state_over v.script.script t shown.0 shown.1) l.state

start_comes : (library : Library) (b : Book) (p : PageRecord) (k : ℕ) (x : Behind) (d : Option stored.Suspended) → CanRunAgain library b
    → GoesOnOwn library b (opens (opening_in p k)) x → RunsFrom x b p (fields.start k) d → ComesTo library b (opens (opening_in p k)) d
start_comes library b p k x d can own runs = by_state d (runs v is)
  where
    b0 : spec.Book
    b0 = book_under library b

    s : Named
    s = named_of x.script.now

    v : Visit
    v = opening_visit b0 (opening_in p k) s

    is : IsVisitOf x p b.shelf p.ticket (list no_vals) v
    is = record {
      script = refl;
      shelf_is = refl;
      instance_is = refl;
      number = refl;
      nonce = refl;
      answer_is = refl;
      from = subst (λ (o : Option Suspended). GoesOnFrom v o) (sym own.from) refl;
    }

    comes : comes_again b0 (opens (opening_in p k)) ≡ again p.kind (effects_in p.effects) p.left.items (comes_to v (present s.script.cells most_fuel))
    comes =
        ap (λ (o : Option Named). o >>= (λ y. again p.kind (effects_in p.effects) p.left.items (comes_to (opening_visit b0 (opening_in p k) y) (present y.script.cells most_fuel))))
        own.script

    told_so : own_told b0 (opens (opening_in p k)) ≡ told_own (state_over s.script (tape_for v (recorded (reads_of (effects_in p.effects)))))
    told_so =
        ap told_own
        (ap (λ (o : Option Named). o >>= (λ y. state_over y.script (tape_for (opening_visit b0 (opening_in p k) y) (recorded (reads_of (effects_in p.effects)))))) own.script)

    by_state : (d : Option stored.Suspended) → LeavesIf p s.script.cells v d → ComesTo library b (opens (opening_in p k)) d
    by_state None none = comes ∙ none
    by_state (Some y) left =
        leaves_comes b0 (opens (opening_in p k)) p s.script.cells v (suspended_of y) (can.whole.setup k s own.script) own.script comes told_so left

answer_comes : (library : Library) (b : Book) (p : PageRecord) (k n : ℕ) (answer : Val) (x : Behind) (d : Option stored.Suspended) → CanRunAgain library b
    → GoesOnOwn library b (extends (extension_in p k n answer)) x → RunsFrom x b p (fields.answered k n answer) d → ComesTo library b (extends (extension_in p k n answer)) d
answer_comes library b p k n answer x d can own runs = by_state d (runs at.instance.cells there v is)
  where
    b0 : spec.Book
    b0 = book_under library b

    c : Change
    c = extends (extension_in p k n answer)

    from : (y : Place) × ((page_of_numbers b0 k n ≡ Some y) × (Some y.instance.script ≡ Some (named_of x.script.now)))
    from = came_from (page_of_numbers b0 k n) (λ y. Some y.instance.script) (named_of x.script.now) own.script

    at : Place
    at = from.0

    found : page_of_numbers b0 k n ≡ Some at
    found = from.1.0

    instance : instance_at k b0.instances ≡ Some at.instance
    instance = instance_there b0 k n at found

    there : cells_at k b ≡ Some at.instance.cells
    there = cells_seen library no_journal k b ∙ ap (λ (o : Option Instance). option_map (λ i. i.cells) o) instance

    v : Visit
    v = extension_visit b0 (extension_in p k n answer) at

    is : IsVisitOf x p b.shelf k answer v
    is = record {
      script = same_Some at.instance.script (named_of x.script.now) from.1.1;
      shelf_is = refl;
      instance_is = number_of (λ (i : Instance). i.number) k b0.instances at.instance instance;
      number = refl;
      nonce = refl;
      answer_is = refl;
      from = own.from at found v.ticket;
    }

    comes : comes_again b0 c ≡ again p.kind (effects_in p.effects) p.left.items (comes_to v (present at.instance.cells most_fuel))
    comes =
        ap (λ (o : Option Place). o >>= (λ y. again p.kind (effects_in p.effects) p.left.items (comes_to (extension_visit b0 (extension_in p k n answer) y) (present y.instance.cells most_fuel))))
        found

    told_so : own_told b0 c ≡ told_own (state_over v.script.script (tape_for v (recorded (reads_of (effects_in p.effects)))))
    told_so =
        ap told_own
        (ap (λ (o : Option Place). o >>= (λ y. state_over y.instance.script.script (tape_for (extension_visit b0 (extension_in p k n answer) y) (recorded (reads_of (effects_in p.effects)))))) found)

    script : script_for b0 c ≡ Some v.script
    script = ap (λ (o : Option Place). o >>= (λ y. Some y.instance.script)) found

    by_state : (d : Option stored.Suspended) → LeavesIf p at.instance.cells v d → ComesTo library b c d
    by_state None none = comes ∙ none
    by_state (Some y) left = leaves_comes b0 c p at.instance.cells v (suspended_of y) (can.whole.instances k at.instance instance) script comes told_so left

-- what a record's visits leave is what its script comes to
pub comes_of : (library : Library) (b : Book) (p : PageRecord) (o : fields.Origin) (x : Behind) (d : Option stored.Suspended) → record_views.origin_of p.origin ≡ o → CanRunAgain library b
    → GoesOnOwn library b (page_change p) x → RunsFrom x b p o d → ComesTo library b (page_change p) d
comes_of library b p (fields.start k) x d e can own runs =
    subst (λ (c : Change). ComesTo library b c d) (sym (opening_is p k e))
    (start_comes library b p k x d can (subst (λ (c : Change). GoesOnOwn library b c x) (opening_is p k e) own) runs)
comes_of library b p (fields.answered k n answer) x d e can own runs =
    subst (λ (c : Change). ComesTo library b c d) (sym (extension_is p k n answer e))
    (answer_comes library b p k n answer x d can (subst (λ (c : Change). GoesOnOwn library b c x) (extension_is p k n answer e) own) runs)

-- ---- its bytes

-- a page of no script comes to nothing
none_by : (b : spec.Book) (c : Change) → script_for b c ≡ None → comes_again b c ≡ None
none_by b (opens o) none =
    ap (λ (y : Option Named). y >>= (λ s. again o.kind o.effects o.left (comes_to (opening_visit b o s) (present s.script.cells most_fuel)))) none
none_by b (extends x) none = by_place (page_of_numbers b x.instance x.page) none
  where
    by_place : (y : Option Place) → (y >>= (λ at. Some at.instance.script)) ≡ None
        → (y >>= (λ at. again x.kind x.effects x.left (comes_to (extension_visit b x at) (present at.instance.cells most_fuel)))) ≡ None
    by_place None e = refl
    by_place (Some at) e = absurd (let no : ⊥ = cc in no)
none_by b (spec.ends e) none = refl
none_by b (spec.finishes f) none = refl
none_by b (spec.sweeps tick) none = refl

pub left_none : (library : Library) (b : Book) (c : Change) → TellsBehind library b c None → IsLeftBy library b c None
left_none library b c none = none_by (book_under library b) c none

pub left_told : (library : Library) (b : Book) (c : Change) (x : Behind) (d : stored.Suspended) (bytes : List ℕ) → TellsBehind library b c (Some x) → GoesOnOwn library b c x
    → ComesAgain (book_under library b) c (suspended_of d) → IsSpelledBehind x d (Some bytes) → IsLeftBy library b c (Some bytes)
left_told library b c x d bytes tells own comes spelled = (
  (comes.inside, comes.comes),
  λ earlier states.
      let h = tells earlier states in
      record {
        state = suspended_of d;
        left = comes.state;
        spelled = spelled.0 ∙ ap (λ (o : Option Suspended). form_bytes o (suspended_of d)) (sym h.before);
        tells =
            ap (λ (bs : List ℕ). told_in earlier (book_under library b) c (Some bs)) spelled.0
            ∙ form_behind library earlier b c x (suspended_of d) h (comes.stored spelled.1 (named_of x.script.now) own.script) spelled.2;
      },
)

-- ---- where a segment began

pub from_start : (x : Behind) (b : Book) (p : PageRecord) (k shelf : ℕ) (answer : Val) (cells : List Val) (r : Result (Option stored.Suspended) AllocError)
    → record_views.origin_of p.origin ≡ fields.start k → shelf ≡ b.shelf → answer ≡ list no_vals → cells ≡ (named_of x.script.now).script.cells
    → IfOk r (RunsTo x p shelf p.ticket answer cells) → IfOk r (RunsFrom x b p (record_views.origin_of p.origin))
from_start x b p k shelf answer cells (Err e) origin home empty defaults runs = tt
from_start x b p k shelf answer cells (Ok d) origin home empty defaults runs =
    subst (λ (o : fields.Origin). RunsFrom x b p o d) (sym origin)
    (subst (λ (n : ℕ). RunsTo x p n p.ticket (list no_vals) (named_of x.script.now).script.cells d) home
    (subst (λ (y : Val). RunsTo x p shelf p.ticket y (named_of x.script.now).script.cells d) empty
    (subst (λ (vs : List Val). RunsTo x p shelf p.ticket answer vs d) defaults runs)))

pub from_answer : (x : Behind) (b : Book) (p : PageRecord) (instance page shelf : ℕ) (answer : Val) (cells : List Val) (r : Result (Option stored.Suspended) AllocError)
    → record_views.origin_of p.origin ≡ fields.answered instance page answer → shelf ≡ b.shelf → Some cells ≡ cells_at instance b
    → IfOk r (RunsTo x p shelf instance answer cells) → IfOk r (RunsFrom x b p (record_views.origin_of p.origin))
from_answer x b p instance page shelf answer cells (Err e) origin home there runs = tt
from_answer x b p instance page shelf answer cells (Ok d) origin home there runs =
    subst (λ (o : fields.Origin). RunsFrom x b p o d) (sym origin)
    (λ vs is.
    subst (λ (ws : List Val). RunsTo x p b.shelf instance answer ws d) (same_Some cells vs (there ∙ is))
    (subst (λ (n : ℕ). RunsTo x p n instance answer cells d) home runs))

-- an answer in no instance is of no page
pub from_none : (x : Behind) (b : Book) (p : PageRecord) (instance page : ℕ) (answer : Val)
    → record_views.origin_of p.origin ≡ fields.answered instance page answer → None ≡ cells_at instance b → RunsFrom x b p (record_views.origin_of p.origin) None
from_none x b p instance page answer origin none =
    subst (λ (o : fields.Origin). RunsFrom x b p o None) (sym origin) (λ vs is. absurd (let both : None ≡ Some vs = none ∙ is in let no : ⊥ = cc in no))

pub comes_if : (library : Library) (b : Book) (p : PageRecord) (x : Behind) (r : Result (Option stored.Suspended) AllocError) → CanRunAgain library b → GoesOnOwn library b (page_change p) x
    → IfOk r (RunsFrom x b p (record_views.origin_of p.origin)) → IfOk r (ComesTo library b (page_change p))
comes_if library b p x (Ok d) can own runs = comes_of library b p (record_views.origin_of p.origin) x d refl can own runs
comes_if library b p x (Err e) can own runs = tt
