use Rattle.std.proofs.Common.{List, map, subst, sym, ap, refl, ◌∙◌, Vec, Global, ℕ}
use Rattle.std.proofs.lemmas.Bool.{false≢true}
use Rattle.script_value.specs.Val.{Val}
use Rattle.web_cells.specs.Own.{IsOwn}
use Rattle.web_cells.specs.Views.{pair_of}
use Rattle.web_cells.specs.declared.shades.Shadow.{Shadow}
use Rattle.web_cells.proofs.Owned.{passed, kept, all_found}
use Rattle.web_cells.proofs.shades.Shades.own.Goals as goal
use Rattle.web_cells.proofs.shades.Shades.own.Goals.{then-not-binds+in_ok-try_clone+in_ok-push, else-not-binds}

pub loop-shadow-preserved : goal.loop-shadow-preserved
loop-shadow-preserved c =
    let p = c.args.parent.now in
    let items = c.as_slice-shadow-items.result.now in
    let own = c.loop-shadow.own.items in
    let i = c.loop-shadow.shadow-index in
    let x = c.shadow-item.result in
    elim c.if-not-binds.branch [
      | then-not-binds+in_ok-try_clone+in_ok-push w ↦
          kept p (map pair_of items) items own c.if-not-binds.own.items i x w.in_ok-try_clone.field-0 c.loop-shadow-test.true c.shadow-item.is
          (λ b. false≢true (w.if-not-binds.ensures.1 b)) w.in_ok-try_clone.ensures
          (ap (λ (v : Vec Shadow Global). v.items) w.own-is ∙ w.in_ok-push.ensures.items) c.loop-shadow.invariant
      | else-not-binds w ↦
          passed p (map pair_of items) items own c.if-not-binds.own.items i x c.loop-shadow-test.true c.shadow-item.is (w.if-not-binds.ensures.0 refl)
          (ap (λ (v : Vec Shadow Global). v.items) w.own-is) c.loop-shadow.invariant
    ]

found : (c : goal.After-of) → IsOwn c.args.parent.now c.args.self.now (map pair_of c.loop-shadow.own.items)
found c =
    all_found c.args.parent.now c.args.self.now c.as_slice-shadow-items.result.now c.loop-shadow.own.items c.loop-shadow.shadow-index
    c.loop-shadow-test.false c.as_slice-shadow-items.ensures c.loop-shadow.invariant

pub returns : goal.returns
returns c = subst (λ (l : List (ℕ × Val)). IsOwn c.args.parent.now c.args.self.now l) (sym c.of.ensures) (found c)
