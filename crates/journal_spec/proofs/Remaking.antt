-- What is remade by running the script again is taken by the state that its record tells.
use Rattle.std.proofs.Common.{◌≡◌, ℕ, ◌==◌, ◌&&◌, List, [], ◌∷◌, map, length, Option, Some, None, Bool, true, refl, sym, ap, subst, ◌∙◌, slice_get, if◌then◌else◌, arith}
use Rattle.std.specs.Prelude.{nat_lt}
use Rattle.std.specs.Ordering.{int_eq}
use Rattle.std.specs.Cmp.{signed_Decides}
use Rattle.std.proofs.lemmas.Bool.{and_from, and_parts}
use Rattle.std.proofs.lemmas.Bool.Decides.{nat_tests}
use Rattle.script_value.specs.Val.{Val}
use Rattle.script_value.specs.declared.outcome.TxName.{TxName}
use Rattle.prim_spec.specs.Same.{same}
use Rattle.prim_spec.proofs.Tests.{same_decides}
use Rattle.instance_cells.specs.Cells.{Effect, read, set, add, AreOn, reads_of}
use Rattle.script_nodes.specs.Setup.{Named}
use Rattle.script_nodes.specs.declared.script.SendKind.{SendKind}
use Rattle.replay_spec.specs.Tape.{recorded, present, shows, finishes, ends, Outcome, paged, faulted, out_of_fuel}
use Rattle.replay_spec.specs.Eval.{Segment}
use Rattle.replay_spec.specs.Book.{Change, opens, extends, sweeps, Book}
use Rattle.replay_spec.specs.Book as spec
use Rattle.replay_spec.specs.Admission.{◌>>=◌, Place}
use Rattle.replay_spec.specs.Next.{Visit, home_of, answered, newest, tape_for, comes_to}
use Rattle.replay_spec.specs.Recovery.{is_effect, are_effects, are_names, is_kind, are_on, hold_over, page_of_numbers, opening_visit, extension_visit, shows_so, can_go, if_can_go, remade}
use Rattle.replay_spec.specs.Invariant.{AreOrderly}
use Rattle.replay_spec.proofs.Second.{pages_past}
use Rattle.replay_spec.proofs.OnCells.{on_cells}
use Rattle.replay_spec.proofs.Held.{hold}
use Rattle.replay_spec.proofs.Tests.{holds_is, on_is}
use Rattle.replay_spec.proofs.Admitted.{came_from, when_is}
use Rattle.replay_spec.proofs.Again.{passes}
use Rattle.replay_spec.proofs.Recovered.{if_can, place_is}
use Rattle.machine_states.specs.Machine.{inside_of}
use Rattle.server_limits.specs.Limits.{most_fuel}
use Rattle.journal_spec.specs.Retaking.{Told, unread, misread, told, if_held, held}
use Rattle.journal_spec.specs.Lengths.{state_over, told_own, own_told}
use Rattle.journal_spec.specs.Whole.{IsWhole, HasWholeScripts}
use Rattle.journal_spec.proofs.Owned.{visit_state, names_cells}
use Rattle.journal_spec.proofs.Telling.{IsQuiet}

effect_means : (d e : Effect) → is_effect d e ≡ true → d ≡ e
effect_means (read c v) (read d w) h =
    let p = and_parts (c == d) (same v w) h in let cell : c ≡ d = grind (arith, nat_tests, p.0) in let value = (same_decides v w).0 p.1 in cc
effect_means (set c v) (set d w) h =
    let p = and_parts (c == d) (same v w) h in let cell : c ≡ d = grind (arith, nat_tests, p.0) in let value = (same_decides v w).0 p.1 in cc
effect_means (add c m) (add d n) h =
    let p = and_parts (c == d) (int_eq m n) h in let cell : c ≡ d = grind (arith, nat_tests, p.0) in let value = (signed_Decides m n).0 p.1 in cc
effect_means (read c v) (set d w) h = absurd (let no : ⊥ = cc in no)
effect_means (read c v) (add d n) h = absurd (let no : ⊥ = cc in no)
effect_means (set c v) (read d w) h = absurd (let no : ⊥ = cc in no)
effect_means (set c v) (add d n) h = absurd (let no : ⊥ = cc in no)
effect_means (add c m) (read d w) h = absurd (let no : ⊥ = cc in no)
effect_means (add c m) (set d w) h = absurd (let no : ⊥ = cc in no)

pub effects_mean : (ds es : List Effect) → are_effects ds es ≡ true → ds ≡ es
effects_mean [] [] h = refl
effects_mean [] (e ∷ es) h = absurd (let no : ⊥ = cc in no)
effects_mean (d ∷ ds) [] h = absurd (let no : ⊥ = cc in no)
effects_mean (d ∷ ds) (e ∷ es) h =
    let p = and_parts (is_effect d e) (are_effects ds es) h in let first = effect_means d e p.0 in let rest = effects_mean ds es p.1 in cc

-- a run that shows a page so
record Shows (m : Segment) (effects : List Effect) (inside : List TxName) : Type 0 where
  kind : SendKind
  bytes : List ℕ
  outcome : m.outcome ≡ paged (shows kind) bytes
  effects_are : m.effects ≡ effects
  inside_is : m.entered ≡ inside

shown_parts : (m : Segment) (o : Outcome) (kind : SendKind) (effects : List Effect) (left inside : List TxName) → m.outcome ≡ o → shows_so o kind effects left m ≡ Some inside → Shows m effects inside
shown_parts m (paged (shows k) bytes) kind effects left inside e h =
    let w = when_is (is_kind k kind && are_effects m.effects effects && are_names m.left left) m.entered inside h in
    let p = and_parts (is_kind k kind && are_effects m.effects effects) (are_names m.left left) w.0 in
    let q = and_parts (is_kind k kind) (are_effects m.effects effects) p.0 in
    record { kind = k; bytes = bytes; outcome = e; effects_are = effects_mean m.effects effects q.1; inside_is = w.1 }
shown_parts m (paged finishes bytes) kind effects left inside e h = absurd (let no : ⊥ = cc in no)
shown_parts m (paged ends bytes) kind effects left inside e h = absurd (let no : ⊥ = cc in no)
shown_parts m (faulted f) kind effects left inside e h = absurd (let no : ⊥ = cc in no)
shown_parts m (out_of_fuel cost) kind effects left inside e h = absurd (let no : ⊥ = cc in no)

-- the effects of a visit are on the cells that it ran over, and hold over them
pub visit_held : (v : Visit) (fuel : ℕ) (cs : List Val) (inside : List TxName) → IsWhole v.script → length cs ≡ length v.script.script.cells
    → if_held (comes_to v (present cs fuel)).effects cs inside ≡ Some inside
visit_held v fuel cs inside w sized =
    let s = v.script.script in
    let es = (comes_to v (present cs fuel)).effects in
    let on : AreOn (length s.cells) es = on_cells s (tape_for v (present cs fuel)) (length s.web) (length s.cells) (names_cells v.script w) in
    let here : AreOn (length cs) es = subst (λ (n : ℕ). AreOn n es) (sym sized) on in
    let holds = hold s (map (answered (home_of v)) v.pages) (newest v (present cs fuel)) (pages_past (home_of v) v.pages) fuel cs in
    passes (are_on (length cs) es && hold_over es cs) inside (and_from (are_on (length cs) es) (hold_over es cs) (on_is (length cs) es here) (holds_is es cs holds))

-- what a record lands with by its state is what it lands with by its script
abbrev pub Agrees : Book → Change → (inside : List TxName) → Told → Type 0
Agrees b c inside unread = (held b c [] ≡ Some []) × (inside ≡ []) × IsQuiet c
Agrees b c inside misread = ⊥
Agrees b c inside (told d) = (held b c inside ≡ Some inside) × (inside_of d.frames ≡ inside)

pub remade_agrees : (u : ℕ → Type 0) (b : Book) (c : Change) (inside : List TxName) → HasWholeScripts b → AreOrderly u b.instances → remade b c ≡ Some inside → Agrees b c inside (own_told b c)
remade_agrees u b (opens o) inside whole g e =
    let s = came_from (slice_get b.scripts o.script) _ inside e in
    let can = if_can (can_go o.evicted []) _ inside s.1.1 in
    let v = opening_visit b o s.0 in
    let cs = s.0.script.cells in
    let m = comes_to v (present cs most_fuel) in
    let w = whole.setup o.script s.0 s.1.0 in
    let h = shown_parts m m.outcome o.kind o.effects o.left inside refl can.1 in
    let x = visit_state v most_fuel cs h.kind h.bytes w h.outcome in
    let state : state_over s.0.script (tape_for v (recorded (reads_of o.effects))) ≡ Some x.0 =
    ap (λ (es : List Effect). state_over s.0.script (tape_for v (recorded (reads_of es)))) (sym h.effects_are) ∙ x.1.0 in
    let own : own_told b (opens o) ≡ told x.0 =
    ap told_own (ap (λ (a : Option Named). a >>= (λ y. state_over y.script (tape_for (opening_visit b o y) (recorded (reads_of o.effects))))) s.1.0 ∙ state) in
    let holds : if_held o.effects cs inside ≡ Some inside =
    ap (λ (es : List Effect). if_held es cs inside) (sym h.effects_are) ∙ visit_held v most_fuel cs inside w refl in
    let lands : held b (opens o) inside ≡ Some inside =
    ap (λ (a : Option Named). a >>= (λ y. if_can_go o.evicted [] (if_held o.effects y.script.cells inside))) s.1.0
    ∙ (ap (λ (t : Bool). if t then if_held o.effects cs inside else None) can.0 ∙ holds) in
    subst (Agrees b (opens o) inside) (sym own) (lands, x.1.1 ∙ h.inside_is)
remade_agrees u b (extends x) inside whole g e =
    let at = came_from (page_of_numbers b x.instance x.page) _ inside e in
    let place = place_is b x.instance x.page at.0 at.1.0 in
    let can = if_can (can_go x.evicted at.0.instance.used) _ inside at.1.1 in
    let v = extension_visit b x at.0 in
    let cs = at.0.instance.cells in
    let m = comes_to v (present cs most_fuel) in
    let w = whole.instances x.instance at.0.instance place.0 in
    let sized = g.sized x.instance at.0.instance place.0 in
    let h = shown_parts m m.outcome x.kind x.effects x.left inside refl can.1 in
    let y = visit_state v most_fuel cs h.kind h.bytes w h.outcome in
    let state : state_over at.0.instance.script.script (tape_for v (recorded (reads_of x.effects))) ≡ Some y.0 =
    ap (λ (es : List Effect). state_over at.0.instance.script.script (tape_for v (recorded (reads_of es)))) (sym h.effects_are) ∙ y.1.0 in
    let own : own_told b (extends x) ≡ told y.0 =
    ap told_own (ap (λ (o : Option Place). o >>= (λ z. state_over z.instance.script.script (tape_for (extension_visit b x z) (recorded (reads_of x.effects))))) at.1.0 ∙ state) in
    let holds : if_held x.effects cs inside ≡ Some inside =
    ap (λ (es : List Effect). if_held es cs inside) (sym h.effects_are) ∙ visit_held v most_fuel cs inside w sized in
    let lands : held b (extends x) inside ≡ Some inside =
    ap (λ (o : Option Place). o >>= (λ z. if_can_go x.evicted z.instance.used (if_held x.effects z.instance.cells inside))) at.1.0
    ∙ (ap (λ (t : Bool). if t then if_held x.effects cs inside else None) can.0 ∙ holds) in
    subst (Agrees b (extends x) inside) (sym own) (lands, y.1.1 ∙ h.inside_is)
remade_agrees u b (spec.ends x) inside whole g e =
    let at = came_from (page_of_numbers b x.instance x.page) _ inside e in
    let w = when_is (are_on (length at.0.instance.cells) x.effects && hold_over x.effects at.0.instance.cells) [] inside at.1.1 in
    (ap (λ (o : Option Place). o >>= (λ z. if_held x.effects z.instance.cells [])) at.1.0 ∙ passes (are_on (length at.0.instance.cells) x.effects && hold_over x.effects at.0.instance.cells) [] w.0, sym w.1, tt)
remade_agrees u b (spec.finishes x) inside whole g e =
    let at = came_from (page_of_numbers b x.instance x.page) _ inside e in
    let w = when_is (are_on (length at.0.instance.cells) x.effects && hold_over x.effects at.0.instance.cells) [] inside at.1.1 in
    (ap (λ (o : Option Place). o >>= (λ z. if_held x.effects z.instance.cells [])) at.1.0 ∙ passes (are_on (length at.0.instance.cells) x.effects && hold_over x.effects at.0.instance.cells) [] w.0, sym w.1, tt)
remade_agrees u b (sweeps tick) inside whole g e =
    let w = when_is (nat_lt b.clock tick) [] inside e in (passes (nat_lt b.clock tick) [] w.0, sym w.1, tt)
