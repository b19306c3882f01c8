-- The state that a script leaves at a page is read back from the page's record.
use Rattle.std.proofs.Common.{◌≡◌, ℕ, zero, suc, ◌∷◌, ◌++◌, List, [], length, map, slice_get, Bool, true, false, Option, Some, None, refl, sym, ap, subst, ◌∙◌}
use Rattle.std.specs.Prelude.{if◌then◌else◌, ⊤}
use Rattle.std.proofs.lemmas.List.{append-nil}
use Rattle.std.proofs.lemmas.Option.{same_Some}
use Rattle.script_value.specs.Val.{Val}
use Rattle.instance_cells.specs.Cells.{reads_of}
use Rattle.script_nodes.specs.Arena.{Arena, IsScript, script_of}
use Rattle.script_nodes.specs.Core.{AllOnCells}
use Rattle.script_nodes.specs.Setup.{Script, Named, trees_of}
use Rattle.script_nodes.specs.declared.script.SendKind.{SendKind}
use Rattle.script_nodes.proofs.Scripts.{script_on_cells}
use Rattle.replay_spec.specs.Tape.{recorded, present, Answer, Tape, shows, finishes, ends, Outcome, paged, faulted, out_of_fuel}
use Rattle.replay_spec.specs.Eval.{Segment, run}
use Rattle.replay_spec.specs.Book.{Page, Opening, Extension, Change, opens, extends, Book, instance_at, page_at, chain}
use Rattle.replay_spec.specs.Book as spec
use Rattle.replay_spec.specs.Admission.{◌>>=◌, Place}
use Rattle.replay_spec.specs.Next.{Home, home, Visit, home_of, past, answered, newest, tape_of, tape_for, comes_to}
use Rattle.replay_spec.specs.Recovery.{page_of_numbers, opening_visit, extension_visit}
use Rattle.replay_spec.specs.Laws.{Waits, longer, Pages}
use Rattle.replay_spec.specs.Remade.{NamesItsCells}
use Rattle.replay_spec.proofs.Second.{pages_past}
use Rattle.replay_spec.proofs.Recorded.{recorded_is}
use Rattle.replay_spec.proofs.Admitted.{came_from}
use Rattle.machine_states.specs.Machine.{Suspended, inside_of}
use Rattle.machine_states.specs.Laws.{started, Stops, segment_of, IsStateOf}
use Rattle.machine_states.proofs.Halting.{stop_over, script_stop}
use Rattle.machine_states.proofs.Replay.{stops_as_run}
use Rattle.machine_states.proofs.Law.{page_is_inside}
use Rattle.machine_states.proofs.Unbound.{none_is_unbound}
use Rattle.kept_states.specs.FrameCodec.Spelling.{StateHasBytes}
use Rattle.kept_states.specs.FrameCodec.Forms.{form_bytes, read_form, RisesBefore, BindsBefore}
use Rattle.kept_states.proofs.FrameCodec.Formed.{forms_are_exact}
use Rattle.kept_states.proofs.FrameCodec.Kept.{kept_shadows, each_kept}
use Rattle.kept_states.specs.Links.{behind_at}
use Rattle.journal_records.specs.Records.{ChangeFits}
use Rattle.journal_spec.specs.Before.{Earlier, links_behind, before_told}
use Rattle.journal_spec.specs.Retaking.{arena_of, told, told_as, told_by, script_for, told_in}
use Rattle.journal_spec.specs.Lengths.{kept_at, kept_by, state_over, chain_tape, own_state, own_before, is_shallow_state, told_bytes, state_told, told_own, own_told}
use Rattle.journal_spec.specs.Whole.{IsWhole, HasWholeScripts, IsSpelledState, CanBeWritten}

-- ---- where a script shows a page, one state is kept

kept_is : (a : Arena) (t : Tape) (o : Outcome) (s : Stops a (started a t)) (d : Suspended) → s.outcome ≡ o → kept_at o s.kept ≡ Some d → IsStateOf a t d
kept_is a t (paged (shows kind) bytes) s d e is = record { stops = s; waits = subst Waits (sym e) tt; is = same_Some s.kept d is }
kept_is a t (paged finishes bytes) s d e is = absurd (let no : ⊥ = cc in no)
kept_is a t (paged ends bytes) s d e is = absurd (let no : ⊥ = cc in no)
kept_is a t (faulted f) s d e is = absurd (let no : ⊥ = cc in no)
kept_is a t (out_of_fuel cost) s d e is = absurd (let no : ⊥ = cc in no)

kept_there : (a : Arena) (t : Tape) (o : Option (Stops a (started a t))) (d : Suspended) → (o >>= kept_by) ≡ Some d → IsStateOf a t d
kept_there a t None d e = absurd (let no : ⊥ = cc in no)
kept_there a t (Some s) d e = kept_is a t s.outcome s d refl e

pub is_state_over : (s : Script) (t : Tape) (d : Suspended) → state_over s t ≡ Some d → IsStateOf (arena_of s) t d
unfolding state_over
is_state_over s t d e = kept_there (arena_of s) t (stop_over (arena_of s) t) d e

-- it is inside the transactions that the run is inside
abbrev pub HasStateOver : Script → Tape → Segment → Type 0
HasStateOver s t m = (d : Suspended) × ((state_over s t ≡ Some d) × (inside_of d.frames ≡ m.entered))

shown_state : (s : Script) (t : Tape) (kind : SendKind) (bytes : List ℕ) → IsScript (arena_of s) → s ≡ script_of (arena_of s) → (run s t).outcome ≡ paged (shows kind) bytes
    → HasStateOver s t (run s t)
unfolding state_over
shown_state s t kind bytes i means e =
    let a = arena_of s in
    let stop = script_stop a i t in
    let same : segment_of stop.0 ≡ run s t = stops_as_run a i t stop.0 ∙ ap (λ (z : Script). run z t) (sym means) in
    let outcome : stop.0.outcome ≡ paged (shows kind) bytes = ap (λ (m : Segment). m.outcome) same ∙ e in
    let is : IsStateOf a t stop.0.kept = record { stops = stop.0; waits = subst Waits (sym outcome) tt; is = refl } in (
      stop.0.kept,
      (
        ap (λ (o : Option (Stops a (started a t))). o >>= kept_by) stop.1 ∙ ap (λ (o : Outcome). kept_at o stop.0.kept) outcome,
        sym (page_is_inside a i t stop.0.kept is).1 ∙ ap (λ (z : Script). (run z t).entered) (sym means),
      ),
    )

-- a visit that shows a page leaves its state over what it read
pub visit_state : (v : Visit) (fuel : ℕ) (cs : List Val) (kind : SendKind) (bytes : List ℕ) → IsWhole v.script → (comes_to v (present cs fuel)).outcome ≡ paged (shows kind) bytes
    → let m = comes_to v (present cs fuel) in HasStateOver v.script.script (tape_for v (recorded (reads_of m.effects))) m
visit_state v fuel cs kind bytes w e =
    let s = v.script.script in
    let m = comes_to v (present cs fuel) in
    let past = map (answered (home_of v)) v.pages in
    let all = recorded_is s past (newest v (present cs fuel)) (pages_past (home_of v) v.pages) fuel cs [] in
    let again : run s (tape_for v (recorded (reads_of m.effects ++ []))) ≡ record m { effects = [] } = all.0 (subst Pages (sym e) tt) in
    let same : run s (tape_for v (recorded (reads_of m.effects))) ≡ record m { effects = [] } =
    ap (λ (vs : List Val). run s (tape_for v (recorded vs))) (sym (append-nil (reads_of m.effects))) ∙ again in
    let x = shown_state s (tape_for v (recorded (reads_of m.effects))) kind bytes w.script w.means (ap (λ (q : Segment). q.outcome) same ∙ e) in
    (x.0, (x.1.0, x.1.1 ∙ ap (λ (q : Segment). q.entered) same))

-- whole scripts name cells that they have
pub names_cells : (s : Named) → IsWhole s → NamesItsCells s
names_cells s w =
    let a = arena_of s.script in
    subst (λ (z : Script). AllOnCells (length s.script.web) (length s.script.cells) (trees_of z)) (sym w.means) (script_on_cells a w.script)

-- ---- what a page's state is written after

-- where each page has the state of its chain, its cells rise
before_rises : (s : Named) → IsWhole s → (links : ℕ) (h : Home) (qs : List Page) → RisesBefore (behind_at links (chain_tape h qs >>= state_over s.script))
before_rises s w zero h qs = tt
before_rises s w (suc n) h [] = tt
before_rises s w (suc n) h (q ∷ qs) = by_state (state_over s.script t) refl
  where
    t : Tape
    t = record { first = past h q; later = map (answered h) qs }

    by_state : (o : Option Suspended) → state_over s.script t ≡ o → RisesBefore o
    by_state None e = tt
    by_state (Some p) e = (kept_shadows (arena_of s.script) w.script t p (is_state_over s.script t p e)).rise

-- and each cell that it binds is bound after it
pub before_binds : (s : Named) → IsWhole s → (links : ℕ) (h : Home) (qs : List Page) (y : Answer) (d : Suspended) → state_over s.script (tape_of h qs y) ≡ Some d
    → BindsBefore (behind_at links (chain_tape h qs >>= state_over s.script)) d
before_binds s w zero h qs y d e = tt
before_binds s w (suc n) h [] y d e = tt
before_binds s w (suc n) h (q ∷ qs) y d e = by_state (state_over s.script t) refl
  where
    t : Tape
    t = record { first = past h q; later = map (answered h) qs }

    by_state : (o : Option Suspended) → state_over s.script t ≡ o → BindsBefore o d
    by_state None f = tt
    by_state (Some p) f =
        none_is_unbound.replayed (arena_of s.script) t p d y (is_state_over s.script t p f) (is_state_over s.script (longer y t) d e)

-- ---- its bytes are read back

state_back : (s : Named) → IsWhole s → (before : Option Suspended) (t : Tape) (d : Suspended) → state_over s.script t ≡ Some d → StateHasBytes d → RisesBefore before → BindsBefore before d
    → read_form (arena_of s.script) before (form_bytes before d) ≡ Some d
state_back s w before t d e bytes rises binds =
    forms_are_exact.back (arena_of s.script) before d rises (each_kept (arena_of s.script) w.script t d (is_state_over s.script t d e) bytes) binds

abbrev pub IsGiven : Option (List ℕ) → Type 0
IsGiven None = ⊥
IsGiven (Some bytes) = ⊤

read_by : (s : Named) → IsWhole s → (before : Option Suspended) (t : Tape) (o : Option Suspended) → state_over s.script t ≡ o → IsSpelledState o → RisesBefore before
    → ((d : Suspended) → o ≡ Some d → BindsBefore before d) → IsGiven (o >>= told_bytes before) → told_by before (Some s) (o >>= told_bytes before) ≡ told_own o
read_by s w before t None e bytes rises binds given = absurd given
read_by s w before t (Some d) e bytes rises binds given = by_test (is_shallow_state d) given
  where
    by_test : (b : Bool) → IsGiven (if b then Some (form_bytes before d) else None) → told_by before (Some s) (if b then Some (form_bytes before d) else None) ≡ told d
    by_test true given = ap told_as (state_back s w before t d e bytes rises (binds d refl))
    by_test false given = absurd given

read_start : (x : Option Named) (tape : Named → Tape) → ((s : Named) → x ≡ Some s → IsWhole s)
    → let o = x >>= (λ s. state_over s.script (tape s)) in
    IsSpelledState o → IsGiven (o >>= told_bytes None) → told_by None x (o >>= told_bytes None) ≡ told_own o
read_start None tape w bytes given = absurd given
read_start (Some s) tape w bytes given = read_by s (w s refl) None (tape s) (state_over s.script (tape s)) refl bytes tt (λ d e. tt) given

read_place : (shelf : ℕ) (x : Option Place) (y : Place → Answer) → ((at : Place) → x ≡ Some at → IsWhole at.instance.script)
    → let before = x >>= (λ at. behind_at (links_behind at) (own_state shelf at)) in
    let o = x >>= (λ at. state_over at.instance.script.script (tape_of (home at.instance.script shelf at.instance.number) (chain at.instance.pages at.page) (y at))) in
    IsSpelledState o → IsGiven (o >>= told_bytes before) → told_by before (x >>= (λ at. Some at.instance.script)) (o >>= told_bytes before) ≡ told_own o
read_place shelf None y w bytes given = absurd given
read_place shelf (Some at) y w bytes given =
    let s = at.instance.script in
    let h = home s shelf at.instance.number in
    let qs = chain at.instance.pages at.page in
    let t = tape_of h qs (y at) in
    read_by s (w at refl) (behind_at (links_behind at) (own_state shelf at)) t (state_over s.script t) refl bytes (before_rises s (w at refl) (links_behind at) h qs)
    (λ d e. before_binds s (w at refl) (links_behind at) h qs (y at) d e) given

pub instance_there : (b : Book) (k n : ℕ) (at : Place) → page_of_numbers b k n ≡ Some at → instance_at k b.instances ≡ Some at.instance
instance_there b k n at e =
    let i = came_from (instance_at k b.instances) _ at e in
    let p = came_from (page_at n i.0.pages) _ at i.1.1 in
    let place : Place = record { instance = i.0; page = p.0 } in
    let is : place ≡ at = same_Some place at p.1.1 in
    i.1.0 ∙ ap (λ (x : Place). Some x.instance) is

given_opening : (o : Opening) (state : Option (List ℕ)) → ChangeFits (opens o) state → IsGiven state
given_opening o None h = absurd h
given_opening o (Some bytes) h = tt

given_extension : (x : Extension) (state : Option (List ℕ)) → ChangeFits (extends x) state → IsGiven state
given_extension x None h = absurd h
given_extension x (Some bytes) h = tt

-- what is told of a change's page is the state that its script leaves, where it is written after such a state
own_read : (b : Book) (c : Change) → HasWholeScripts b → CanBeWritten b c → told_by (own_before b c) (script_for b c) (state_told b c) ≡ own_told b c
own_read b (opens o) whole can =
    read_start (slice_get b.scripts o.script) (λ s. tape_for (opening_visit b o s) (recorded (reads_of o.effects))) (λ s at. whole.setup o.script s at) can.state
    (given_opening o (state_told b (opens o)) can.body)
own_read b (extends x) whole can =
    read_place b.shelf (page_of_numbers b x.instance x.page) (λ at. newest (extension_visit b x at) (recorded (reads_of x.effects)))
    (λ at e. whole.instances x.instance at.instance (instance_there b x.instance x.page at e)) can.state
    (given_extension x (state_told b (extends x)) can.body)
own_read b (spec.ends e) whole can = refl
own_read b (spec.finishes f) whole can = refl
own_read b (spec.sweeps tick) whole can = refl

pub own_is_read : (earlier : Earlier) (b : Book) (c : Change) → before_told earlier b c ≡ own_before b c → HasWholeScripts b → CanBeWritten b c
    → told_in earlier b c (state_told b c) ≡ own_told b c
own_is_read earlier b c same whole can =
    ap (λ (before : Option Suspended). told_by before (script_for b c) (state_told b c)) same ∙ own_read b c whole can
