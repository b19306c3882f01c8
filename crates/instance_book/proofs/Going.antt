-- What an answer to a page goes on from, where the page has its state.
use Rattle.std.proofs.Common.{◌≡◌, ◌∙◌, sym, subst, List, [], ◌∷◌, reverse, Option, Some, refl}
use Rattle.std.proofs.lemmas.List.{reverse-append}
use Rattle.script_nodes.specs.Setup.{Named}
use Rattle.journal_records.specs.ReplaySpec.Book.{Page, Book, chain}
use Rattle.journal_records.specs.ReplaySpec.Admission.{Place}
use Rattle.journal_records.specs.ReplaySpec.Next.{Visit, home, home_of, page_visit}
use Rattle.journal_records.specs.ReplaySpec.Next as next
use Rattle.journal_records.proofs.ReplaySpec.Ancestors.{chain_is}
use Rattle.kept_states.specs.MachineStates.Machine.{Suspended}
use Rattle.kept_states.specs.Kept.{Kept}
use Rattle.instance_book.specs.Places.{own, HasState}
use Rattle.instance_book.specs.Visits.{GoesOnFrom, IsStateBehind}

-- a visit whose pages are the chain of a page that has its state
pub goes_on_from : (v : Visit) (ps : List Page) (p : Page) (k : Kept) → v.pages ≡ chain ps p → (has : HasState v.script (own (home_of v)) ps p k) → IsStateBehind v has.state
goes_on_from v ps p k e has =
    let h = has.lineage in
    record {
      ancestors = reverse h.ancestors;
      page = p;
      chain = e ∙ (chain_is ps p h.ancestors h.are h.few ∙ reverse-append (p ∷ []) h.ancestors);
      state = has.its;
    }

-- and so is an answer to the page of a place, of which this is kept
pub origin_goes_on : (b : Book) (t : next.Ticket) (at : Place) (s : Named) (o : Option Suspended) (k : Kept) → at.instance.script ≡ s
    → (has : HasState s (own (home s b.shelf at.instance.number)) at.instance.pages at.page k) → o ≡ Some has.state → GoesOnFrom (page_visit b t at) o
origin_goes_on b t at s o k its has e =
    subst (λ (x : Named). (is : HasState x (own (home x b.shelf at.instance.number)) at.instance.pages at.page k) → o ≡ Some is.state → GoesOnFrom (page_visit b t at) o) its
    (λ is f. subst (λ (x : Option Suspended). GoesOnFrom (page_visit b t at) x) (sym f) (goes_on_from (page_visit b t at) at.instance.pages at.page k refl is)) has e
