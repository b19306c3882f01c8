use Rattle.std.proofs.Common.{◌≡◌, ◌∙◌, ℕ, List, map, length, slice_get, Some, sym, ap, subst, arith, rules}
use Rattle.std.specs.Prelude.{reverse, vec_len}
use Rattle.std.proofs.lemmas.List.{reverse-reverse}
use Rattle.site_serving.specs.Workers.{Serves, passes_of, porches_of, tallies_of}
use Rattle.site_serving.specs.declared.worker.Worker.{Worker}
use Rattle.site_serving.proofs.Lists.{each_get, each_mapped, each_reverse, each_unmapped, front_of, get_each, zip_of, zip_reverse}
use Rattle.site_serving.proofs.workers.serve_all.Goals as goal

pub work_all-requires-clause-own : goal.work_all-requires-clause-own
work_all-requires-clause-own g c κs within =
    let W = Worker g.row.A-Pass.Denot g.row.P.Denot in
    let Own : g.row.A-Pass.Denot → Type 0 = λ p. (g.A.Answering.rules c.args.answering.now).IsOwn p in
    let hired : List W = c.hire_all.new.workers.items in
    let mapped : (k : ℕ) (p : g.row.A-Pass.Denot) → slice_get (map (λ (w : W). w.pass) (reverse hired)) k ≡ Some p → Own p =
    subst (λ l. (k : ℕ) (p : g.row.A-Pass.Denot) → slice_get l k ≡ Some p → Own p) (sym c.hire_all.ensures.passes) c.requires.own in
    let turned = each_unmapped (λ (w : W). w.pass) Own (reverse hired) mapped in
    let straight = subst (λ l. (k : ℕ) (w : W) → slice_get l k ≡ Some w → Own w.pass) (reverse-reverse hired) (each_reverse (λ (w : W). Own w.pass) (reverse hired) turned) in
    let was : c.deref_mut.result.now ≡ hired = c.deref_mut.ensures.value in
    get_each (λ (w : W). Own w.pass) c.deref_mut.result.now (subst (λ l. (k : ℕ) (w : W) → slice_get l k ≡ Some w → Own w.pass) (sym was) straight)

pub returns-clause-own : goal.returns-clause-own
returns-clause-own g c =
    let W = Worker g.row.A-Pass.Denot g.row.P.Denot in
    let Own : g.row.A-Pass.Denot → Type 0 = λ p. (g.A.Answering.rules c.args.answering.now).IsOwn p in
    let new : List W = c.work_all.new.workers in
    let kept : length new ≡ length c.deref_mut.result.now = search (rules, arith, c.work_all.auto.workers) in
    let each = each_get (λ (w : W). Own w.pass) new (λ k d lt. c.work_all.ensures.own k d (omega (arith, lt, kept))) in
    let size : vec_len c.hire_all.new.workers ≡ length new = (let len = ap length c.deref_mut.ensures.value in omega (arith, kept, len, c.hire_all.new.workers.ok.0)) in
    let is = c.dismiss_all.ensures.passes ∙ ap (λ (l : List W). passes_of (reverse l)) (front_of new _ _ size) in
    subst (λ l. (k : ℕ) (p : g.row.A-Pass.Denot) → slice_get l k ≡ Some p → Own p) (sym is)
    (each_mapped (λ (w : W). w.pass) Own (reverse new) (each_reverse (λ (w : W). Own w.pass) new each))

pub returns-clause-served : goal.returns-clause-served
returns-clause-served g c =
    let W = Worker g.row.A-Pass.Denot g.row.P.Denot in
    let R = Serves {S = g.row.A-Pass.Denot} {P = g.row.P.Denot} {L = g.row.P-Link.Denot} (g.A.Answering.rules c.args.answering.now) g.P.Link.Link.view g.P.Porch.view (g.C.Clock.shows c.args.clock.now) c.args.requests in
    let old : List W = c.deref_mut.result.now in
    let new : List W = c.work_all.new.workers in
    let kept : length new ≡ length old = search (rules, arith, c.work_all.auto.workers) in
    let was : old ≡ c.hire_all.new.workers.items = c.deref_mut.ensures.value in
    let size : vec_len c.hire_all.new.workers ≡ length new = (let len = ap length was in omega (arith, kept, len, c.hire_all.new.workers.ok.0)) in
    let has = front_of new _ _ size in
    record {
      before = reverse old;
      after = reverse new;
      had_passes = ap (λ (l : List W). passes_of (reverse l)) was ∙ c.hire_all.ensures.passes;
      had_porches = ap (λ (l : List W). porches_of (reverse l)) was ∙ c.hire_all.ensures.porches;
      has_passes = sym (c.dismiss_all.ensures.passes ∙ ap (λ (l : List W). passes_of (reverse l)) has);
      has_porches = sym (c.dismiss_all.ensures.porches ∙ ap (λ (l : List W). porches_of (reverse l)) has);
      counted = sym (c.dismiss_all.ensures.tallies ∙ ap (λ (l : List W). tallies_of (reverse l)) has);
      works = zip_reverse R old new (zip_of R old new kept c.work_all.ensures.works);
    }
