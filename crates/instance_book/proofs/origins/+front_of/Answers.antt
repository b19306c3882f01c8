use Rattle.std.proofs.Common.{◌≡◌, ◌∙◌, ap, sym, subst, suc, ◌-◌, Option, Some, option_map, refl, arith}
use Rattle.std.proofs.lemmas.Option.{same_Some, none-some}
use Rattle.script_nodes.specs.Views.{named_of}
use Rattle.kept_states.specs.MachineStates.Machine.{Suspended}
use Rattle.kept_states.specs.MachineStates.declared.frame.Suspended as stored
use Rattle.kept_states.specs.MachineStates.Views.{suspended_of}
use Rattle.kept_states.specs.FrameCodec.Deltas.{joined}
use Rattle.kept_states.specs.FrameCodec.DeltaViews.{delta_of}
use Rattle.kept_states.specs.FrameCodec.Fronts.{front, shared_need}
use Rattle.kept_states.specs.FrameCodec.declared.need.Need.{Need}
use Rattle.kept_states.specs.Given.{Makes}
use Rattle.kept_states.specs.declared.form.Found.{Found}
use Rattle.kept_states.specs.declared.form.Found.TheVariants as kept
use Rattle.kept_states.specs.FrameCodec.declared.difference.Delta.{Delta}
use Rattle.kept_states.proofs.Read.{rises, fits_script}
use Rattle.instance_book.proofs.Behind.{arena_again, is_of_script, is_alone, parent_has, links_before, is_behind}
use Rattle.instance_book.proofs.origins.+front_of.Goals as goal

-- what is found is the front
found : (o : Option stored.Suspended) (e : stored.Suspended) (d : Suspended) → o ≡ Some e → option_map suspended_of o ≡ Some d → d ≡ suspended_of e
found o e d is back = sym (same_Some (suspended_of e) d (ap (λ (x : Option stored.Suspended). option_map suspended_of x) (sym is) ∙ back))

module _ (n : Need) (p d : Suspended) (o : Option Found) where
  -- after a parent's state the front itself is found
  front_found : (e : stored.Suspended) → o ≡ Some (kept.Front e) → Makes n p d o → front n d ≡ suspended_of e
  front_found e is makes = sym (subst (λ (x : Option Found). Makes n p d x) is makes)

  -- or what it has after that of the parent's
  difference_found : (x : Delta) (shared : Need) (q e : Suspended) → o ≡ Some (kept.Difference x) → shared ≡ shared_need (delta_of x) → front shared p ≡ q
      → e ≡ joined q (delta_of x) → Makes n p d o → front n d ≡ e
  difference_found x shared q e is need read join makes =
      let whole : joined (front (shared_need (delta_of x)) p) (delta_of x) ≡ front n d = subst (λ (y : Option Found). Makes n p d y) is makes in
      sym whole ∙ ap (λ (r : Suspended). joined r (delta_of x)) (ap (λ (m : Need). front m p) (sym need) ∙ read) ∙ sym join

pub returns-then-links-eq0 : goal.returns-then-links-eq0
returns-then-links-eq0 t c =
    let law = c.each_page_has_one_state.ensures in
    let s = named_of c.args.script.now in
    let a = c.args.script.now.script in
    let script = c.root-root.ensures.script in
    let same = arena_again a script in
    let ps = c.args.pages.now in
    let p = c.args.page.now in
    let none : p.item.state.links ≡ 0 = c.requires.links ∙ c.if-links-eq0.true in
    λ are. found c.in_ok-front.field-0 c.in-Some.front (front c.args.need are.own.state) c.in-Some.is
    (c.in_ok-front.ensures are.own.state (fits_script a are.own.state (is_of_script law s a script same ps p are)) (is_alone law s a script same ps p are none))

-- a state that is kept by itself is found
pub unreachable-requires : goal.unreachable-requires
unreachable-requires t c =
    let law = c.each_page_has_one_state.ensures in
    let s = named_of c.args.script.now in
    let a = c.args.script.now.script in
    let script = c.root-root.ensures.script in
    let same = arena_again a script in
    let ps = c.args.pages.now in
    let p = c.args.page.now in
    let are = c.requires.states in
    let none : p.item.state.links ≡ 0 = c.requires.links ∙ c.if-links-eq0.true in
    none-some (front c.args.need are.own.state)
    (ap (λ (o : Option stored.Suspended). option_map suspended_of o) (sym c.in_default.is)
    ∙ c.in_ok-front.ensures are.own.state (fits_script a are.own.state (is_of_script law s a script same ps p are)) (is_alone law s a script same ps p are none))

pub front_of-requires : goal.front_of-requires
front_of-requires t c =
    let law = c.each_page_has_one_state.ensures in
    let s = named_of c.args.script.now in
    let a = c.args.script.now.script in
    let script = c.root-root.ensures.script in
    let same = arena_again a script in
    let ps = c.args.pages.now in
    let p = c.args.page.now in
    let n = c.args.links - 1 in
    let more : p.item.state.links ≡ suc n = omega (arith, c.requires.links, c.if-links-eq0.false) in
    let number = c.in-Some-parent.parent in
    let is = c.in-Some-parent.is in
    let x = c.in-Some-page.before.now in
    let page = c.in-Some-page.ensures.page in
    let shown = c.in-Some-page.ensures.shown in (
      omega (arith, c.decreases, c.if-links-eq0.false),
      (
        parent_has law s a script same ps p n more x number is page shown c.requires.states,
        links_before law s a script same ps p n more x number is page shown c.requires.states,
      ),
    )

-- and so is one that is kept after its parent's
pub unreachable-requires-in-None : goal.unreachable-requires-in-None
unreachable-requires-in-None t c =
    let law = c.each_page_has_one_state.ensures in
    let s = named_of c.args.script.now in
    let a = c.args.script.now.script in
    let script = c.root-root.ensures.script in
    let same = arena_again a script in
    let ps = c.args.pages.now in
    let p = c.args.page.now in
    let n = c.args.links - 1 in
    let more : p.item.state.links ≡ suc n = omega (arith, c.requires.links, c.if-links-eq0.false) in
    let number = c.in-Some-parent.parent in
    let is = c.in-Some-parent.is in
    let x = c.in-Some-page.before.now in
    let page = c.in-Some-page.ensures.page in
    let shown = c.in-Some-page.ensures.shown in
    let are = c.requires.states in
    let has = parent_has law s a script same ps p n more x number is page shown are in
    let before = has.own.state in
    subst (λ (o : Option Found). Makes c.args.need before are.own.state o) c.in-None.is
    (c.in_ok-front-2.ensures before are.own.state (rises a before (is_of_script law s a script same ps x has)) (fits_script a are.own.state (is_of_script law s a script same ps p are))
    (is_behind law s a script same ps p n more x number is page shown are before refl))

pub returns-in-Some-Front : goal.returns-in-Some-Front
returns-in-Some-Front t c =
    let law = c.each_page_has_one_state.ensures in
    let s = named_of c.args.script.now in
    let a = c.args.script.now.script in
    let script = c.root-root.ensures.script in
    let same = arena_again a script in
    let ps = c.args.pages.now in
    let p = c.args.page.now in
    let n = c.args.links - 1 in
    let more : p.item.state.links ≡ suc n = omega (arith, c.requires.links, c.if-links-eq0.false) in
    let number = c.in-Some-parent.parent in
    let is = c.in-Some-parent.is in
    let x = c.in-Some-page.before.now in
    let page = c.in-Some-page.ensures.page in
    let shown = c.in-Some-page.ensures.shown in
    let some = c.in-Some-Front.is ∙ ap Some c.in-Some-Front.field-0-is in
    λ are.
    let has = parent_has law s a script same ps p n more x number is page shown are in
    let before = has.own.state in
    let makes = c.in_ok-front-2.ensures before are.own.state (rises a before (is_of_script law s a script same ps x has))
    (fits_script a are.own.state (is_of_script law s a script same ps p are)) (is_behind law s a script same ps p n more x number is page shown are before refl) in
    front_found c.args.need before are.own.state c.in_ok-front-2.field-0 c.in-Some-Front.front some makes

pub returns-in_ok-join-in-Some-Difference : goal.returns-in_ok-join-in-Some-Difference
returns-in_ok-join-in-Some-Difference t c =
    let law = c.each_page_has_one_state.ensures in
    let s = named_of c.args.script.now in
    let a = c.args.script.now.script in
    let script = c.root-root.ensures.script in
    let same = arena_again a script in
    let ps = c.args.pages.now in
    let p = c.args.page.now in
    let n = c.args.links - 1 in
    let more : p.item.state.links ≡ suc n = omega (arith, c.requires.links, c.if-links-eq0.false) in
    let number = c.in-Some-parent.parent in
    let is = c.in-Some-parent.is in
    let x = c.in-Some-page.before.now in
    let page = c.in-Some-page.ensures.page in
    let shown = c.in-Some-page.ensures.shown in
    let some = c.in-Some-Difference.is ∙ ap Some c.in-Some-Difference.field-0-is in
    let shared = suspended_of c.in_ok-shared-in-Some-Difference.shared in
    let joined = suspended_of c.in_ok-join-in-Some-Difference.field-0 in
    λ are.
    let has = parent_has law s a script same ps p n more x number is page shown are in
    let before = has.own.state in
    let makes = c.in_ok-front-2.ensures before are.own.state (rises a before (is_of_script law s a script same ps x has))
    (fits_script a are.own.state (is_of_script law s a script same ps p are)) (is_behind law s a script same ps p n more x number is page shown are before refl) in
    difference_found c.args.need before are.own.state c.in_ok-front-2.field-0 c.in-Some-Difference.own c.shared.result shared joined some c.shared.ensures
    (c.in_ok-shared-in-Some-Difference.ensures has) c.in_ok-join-in-Some-Difference.ensures makes
