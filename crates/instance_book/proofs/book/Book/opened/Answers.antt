use Rattle.std.proofs.Common.{◌∙◌, ◌∷◌, [], ap, subst, refl, None}
use Rattle.script_value.specs.Val.{Val, list, no_vals}
use Rattle.journal_records.specs.ReplaySpec.Book as spec
use Rattle.journal_records.specs.ReplaySpec.Marks.{Mark, uses_of, evictions_of}
use Rattle.kept_states.specs.Kept.{kept_of}
use Rattle.instance_book.specs.Views.{page_of, mark_of, effects_in, new_in}
use Rattle.instance_book.specs.Changes.{begun_at}
use Rattle.instance_book.specs.Segments.{IsNewPage, BeginsBy}
use Rattle.instance_book.proofs.book.Book.opened.Goals as goal

pub returns-clause-opens : goal.returns-clause-opens
returns-clause-opens c =
    let r = c.args.told in
    let inside = c.args.page.inside.items in
    let cells = c.args.cells.now in
    let effects = effects_in r in
    let left = r.left.items in
    let begins : BeginsBy c.args.place cells r.effects.items left c.in_ok-instance.instance = rw (c.deref.ensures.value, c.deref-2.ensures.value) at c.in_ok-instance.ensures.instance in
    let p = c.in_ok-page.page in
    let next : spec.Page = new_in r None (list no_vals) inside in
    let new : IsNewPage next (kept_of c.args.page.kept) p =
    subst (λ (v : Val). IsNewPage (new_in r None v inside) (kept_of c.args.page.kept) p) c.in_ok-answer.ensures c.in_ok-page.ensures in
    record {
      told = refl;
      page = new;
      script = c.in_ok-instance.ensures.script;
      pages = c.in_ok-instance.ensures.pages;
      shown = c.in_ok-instance.ensures.shown;
      begun = λ scripts.
          let with : spec.Page → Mark → spec.Instance → spec.Instance = λ q m i. record i { used = uses_of (m ∷ []); evicted = evictions_of (m ∷ []); pages = q ∷ [] } in
          ap (with (page_of p) (mark_of p)) (begins scripts p.number)
          ∙ (ap (λ (q : spec.Page). with q (mark_of p) (begun_at scripts c.args.place cells q.number effects left)) new.page
          ∙ ap (λ (m : Mark). with next m (begun_at scripts c.args.place cells next.number effects left)) new.mark);
      state = refl;
    }
