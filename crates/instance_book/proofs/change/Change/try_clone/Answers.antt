use Rattle.std.proofs.Common.{◌≡◌, ◌∙◌, ap, sym, subst, ℕ, List, true, Some, None}
use Rattle.kept_states.specs.Kept.{Kept}
use Rattle.journal_records.specs.ReplaySpec.Book as spec
use Rattle.journal_records.specs.ReplaySpec.Change.{mend}
use Rattle.journal_records.specs.ReplaySpec.Recovery.{can_go}
use Rattle.journal_records.specs.ReplaySpec.Marks.{Mark}
use Rattle.instance_book.specs.declared.numbered.Numbered.{Numbered}
use Rattle.instance_book.specs.declared.in_order.InOrder.{InOrder}
use Rattle.instance_book.specs.declared.page.KeptPage.{KeptPage}
use Rattle.instance_book.specs.declared.instance.KeptInstance.{KeptInstance}
use Rattle.instance_book.specs.declared.after.Show.{Show}
use Rattle.instance_book.specs.declared.change.Extension.{Extension}
use Rattle.instance_book.specs.declared.change.Change.TheVariants.{Extends}
use Rattle.instance_book.specs.Views.{page_of, pages_of, used_of}
use Rattle.instance_book.specs.Places.{Source, kept_at, CanTake, IsNextIn}
use Rattle.instance_book.specs.Changes.{gone_in, shown_with}
use Rattle.instance_book.specs.Copies.{IsSameShow, IsSameExtension, IsSameChange}
use Rattle.instance_book.proofs.change.Change.try_clone.Goals as goal

-- the same page is the next one
next_alike : (shelf : Source ℕ) (i : spec.Instance) (p q : spec.Page) (d e : Kept) → q ≡ p → e ≡ d → IsNextIn shelf i p d → IsNextIn shelf i q e
next_alike shelf i p q d e same state next =
    subst (λ (s : Kept). IsNextIn shelf i q s) (sym state) (subst (λ (r : spec.Page). IsNextIn shelf i r d) (sym same) next)

-- where the page can be shown, so can a copy
taken_alike : (s copy : Show) (gone more : List ℕ) (ps : InOrder KeptPage) → IsSameShow s copy → more ≡ gone → CanTake s.page gone ps → CanTake copy.page more ps
taken_alike s copy gone more ps same went can = record {
  room = can.room;
  next = record {
    unused = subst (λ (n : ℕ). spec.page_at n (pages_of ps) ≡ None) (sym (ap (λ (p : spec.Page). p.number) same.page)) can.next.unused;
    stays = ap (λ (m : Mark). m.gone) same.mark ∙ can.next.stays;
    goes = subst (λ (ns : List ℕ). can_go ns (used_of ps) ≡ true) (sym went) can.next.goes;
  };
}

extended : (x copy : Extension) → IsSameExtension x copy → IsSameChange (Extends x) (Extends copy)
extended x copy same =
    let number : copy.instance ≡ x.instance = same.instance in
    let made : shown_with copy.show (gone_in copy) ≡ shown_with x.show (gone_in x) =
    (λ j i. same.show.made (gone_in copy) i j) ∙ ap (shown_with x.show) same.record_is.gone in
    record {
      change = same.record_is.change;
      inside = ap (λ (p : spec.Page). p.inside) same.show.page;
      instances = λ scripts is j. mend (number j) (made j) is;
      room = λ b has i found.
          taken_alike x.show copy.show (gone_in x) (gone_in copy) i.item.pages same.show same.record_is.gone
          (has i (subst (λ (n : ℕ). spec.at_number (λ (y : Numbered KeptInstance). y.number) n b.instances.things.items ≡ Some i) number found));
      states = λ scripts shelf is next i found.
          next_alike shelf i (page_of x.show.page) (page_of copy.show.page) (kept_at x.show.page) (kept_at copy.show.page) same.show.page same.show.state
          (next i (subst (λ (n : ℕ). spec.instance_at n is ≡ Some i) number found));
    }

pub returns-in_ok-copy-in-Extends : goal.returns-in_ok-copy-in-Extends
returns-in_ok-copy-in-Extends c = rw c.in-Extends.is (extended _ _ c.in_ok-copy-in-Extends.ensures)
