use Rattle.std.proofs.Common.{◌∙◌, ap, refl, List, ℕ, Some, None}
use Rattle.journal_records.specs.ReplaySpec.Book.{Page, Instance}
use Rattle.journal_records.specs.ReplaySpec.Change.{put_page, put_use, unless_gone, used_in, evict, done, revoked_by}
use Rattle.journal_records.specs.ReplaySpec.Marks.{Mark, use_of}
use Rattle.instance_book.specs.Views.{page_of, mark_of, instance_with, effects_in, new_in}
use Rattle.instance_book.specs.Changes.{renewed_by}
use Rattle.instance_book.specs.Segments.{IsLeftBy, IsNewPage}
use Rattle.kept_states.specs.Kept.{kept_of}
use Rattle.instance_book.proofs.segment.Numbered+KeptInstance.extended.Goals as goal

pub returns : goal.returns
returns c =
    let r = c.args.told in
    let effects = effects_in r in
    let left = r.left.items in
    let gone = r.evicted.items in
    let next : Page = new_in r (Some c.args.answered) c.args.answer c.args.page.inside.items in
    let left_by : IsLeftBy r.effects.items left c.args.self.now.item c.in_ok-after.after = rw (c.deref.ensures.value, c.deref-2.ensures.value) at c.in_ok-after.ensures in
    let p = c.in_ok-page.page in
    let new : IsNewPage next (kept_of c.args.page.kept) p = c.in_ok-page.ensures in
    record {
      instance = refl;
      told = refl;
      page = new;
      goes = λ scripts n.
          let i = instance_with scripts n c.args.self.now.item in
          let with : List ℕ → Page → Mark → Instance → Instance = λ ns q m j. record j {
            revoked = ns;
            used = put_use (use_of m) (unless_gone gone (used_in q.parent q.number i.used));
            evicted = evict q.number gone i.evicted;
            pages = put_page q i.pages;
          } in
          ap (with (renewed_by i.revoked c.in_ok-revoked.revoked) (page_of p) (mark_of p)) (left_by scripts n)
          ∙ (ap (λ (ns : List ℕ). with ns (page_of p) (mark_of p) (done effects left i)) (c.in_ok-revoked.ensures i.revoked)
          ∙ (ap (λ (m : Mark). with (revoked_by r.kind i.pages i.revoked) (page_of p) m (done effects left i)) new.mark
          ∙ ap (λ (q : Page). with (revoked_by r.kind i.pages i.revoked) q (record { number = next.number; last = next.number; gone = None }) (done effects left i)) new.page));
      state = refl;
    }
