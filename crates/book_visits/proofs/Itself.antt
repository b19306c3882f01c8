-- What is prepared for a ticket, whatever it is for.
use Rattle.std.proofs.Common.{◌≡◌, ◌∙◌, ap, sym, subst, ℕ, List, [], Some, Result, Ok, Err, IfOk, refl}
use Rattle.std.specs.declared.alloc.AllocError.{AllocError}
use Rattle.script_value.specs.declared.outcome.Reply.{Reply}
use Rattle.script_nodes.specs.Setup.{Named, Library}
use Rattle.page_names.specs.Names.{start, page}
use Rattle.page_names.specs.declared.names.PageName.{PageName}
use Rattle.replay_spec.specs.Eval.{Segment}
use Rattle.replay_spec.specs.Book as spec
use Rattle.replay_spec.specs.Book.{Instance, instance_at}
use Rattle.replay_spec.proofs.Numbered.{number_of}
use Rattle.replay_spec.specs.Change.{ended_by}
use Rattle.replay_spec.specs.Step.{Decision, records}
use Rattle.replay_spec.specs.Step as step
use Rattle.book_visits.specs.declared.prepared.Prepared.{Prepared}
use Rattle.book_visits.specs.declared.ticket.Ticket.{Ticket}
use Rattle.instance_book.specs.declared.book.Book.{Book}
use Rattle.instance_book.specs.Views.{Beside, book_of, instances_of}
use Rattle.book_visits.specs.Changes.{decision_of}
use Rattle.instance_book.specs.Makes.{rules_with}
use Rattle.book_visits.specs.Prepares.{IsCarriedOut, extension_by, ending_by, IsOpening, IsExtension, IsEnding, IsFinish, IsDecisionBy, AnswersWithPage, IsOfSegment, opening_by}
use Rattle.book_visits.proofs.Lands.{opening_itself, extension_itself, ending_itself, finish_itself}

module _ (book : Book) (t : Ticket) (s : Segment) where
  -- under each setup that the ticket asks for
  abbrev CarriedBy : Library → Beside → Decision → Prepared → Type 0
  CarriedBy library beside d p = IsCarriedOut library (rules_with 0 0 0 0) (book_of library beside book) d p

  -- a start showed a page
  pub opens_itself : (name bytes : List ℕ) (o : spec.Opening) (p : Prepared) → IsOpening p t bytes o s.entered → o ≡ opening_by t s.effects s.left o
      → IsOfSegment book t s (start name) p
  opens_itself name bytes o p h is = record {
    decision = subst (IsDecisionBy t s (start name)) (sym h.recorded.decision) (is, refl);
    reply = subst AnswersWithPage (sym h.recorded.decision) tt;
    lands = λ library beside has.
        let its : IsOpening p t bytes (opening_by t s.effects s.left o) s.entered = subst (λ (x : spec.Opening). IsOpening p t bytes x s.entered) is h in
        subst (λ (d : Decision). CarriedBy library beside d p) (sym its.recorded.decision)
        (opening_itself library 0 0 0 0 (book_of library beside book) t refl has bytes s.effects s.left s.entered o p its);
  }

  -- an answer to a page freed the instance
  pub finishes_itself : (name : List ℕ) (n : PageName) (bytes : List ℕ) (p : Prepared) → IsFinish p t n.instance n.page bytes s.effects s.entered
      → IsOfSegment book t s (page name n) p
  finishes_itself name n bytes p x = record {
    decision = subst (IsDecisionBy t s (page name n)) (sym x.decision) (refl, refl);
    reply = subst AnswersWithPage (sym x.decision) tt;
    lands = λ library beside has.
        subst (λ (d : Decision). CarriedBy library beside d p) (sym x.decision)
        (finish_itself library 0 0 0 0 (book_of library beside book) t n.instance n.page bytes s.effects s.entered p x);
  }

  -- an answer to a page of this instance
  module _ (name : List ℕ) (n : PageName) (i : List Named → Instance)
      (there : (scripts : List Named) → instance_at n.instance (instances_of scripts book.instances) ≡ Some (i scripts)) where
    number : (scripts : List Named) → (i scripts).number ≡ n.instance
    number scripts = number_of (λ (j : Instance). j.number) n.instance (instances_of scripts book.instances) (i scripts) (there scripts)

    here : (scripts : List Named) → instance_at (i scripts).number (instances_of scripts book.instances) ≡ Some (i scripts)
    here scripts = subst (λ (m : ℕ). instance_at m (instances_of scripts book.instances) ≡ Some (i scripts)) (sym (number scripts)) (there scripts)

    -- ended with a page
    pub ends_itself : (bytes : List ℕ) (p : Prepared)
        → ((scripts : List Named) → IsEnding p t (i scripts) n.page bytes s.effects s.entered s.left (ended_by (ending_by t (i scripts).number n.page s.effects s.left))) → IsOfSegment book t s (page name n) p
    ends_itself bytes p x =
        let decided : decision_of p ≡ records (step.ended bytes) (spec.ends (ending_by t n.instance n.page s.effects s.left)) s.entered =
        (x []).recorded.decision ∙ ap (λ (m : ℕ). records (step.ended bytes) (spec.ends (ending_by t m n.page s.effects s.left)) s.entered) (number []) in
        record {
          decision = subst (IsDecisionBy t s (page name n)) (sym decided) (refl, refl);
          reply = subst AnswersWithPage (sym decided) tt;
          lands = λ library beside has.
              subst (λ (d : Decision). CarriedBy library beside d p) (sym (x library.all).recorded.decision)
              (ending_itself library 0 0 0 0 (book_of library beside book) t (i library.all) n.page bytes s.effects s.entered s.left p (here library.all) (x library.all));
        }

    -- or showed one
    module _ (bytes : List ℕ) (x : spec.Extension) where
      abbrev Extends : Prepared → Type 0
      Extends p = (scripts : List Named) → IsExtension p t (i scripts) bytes x s.entered

      -- as the ticket's segment did
      abbrev IsIts : Type 0
      IsIts = (scripts : List Named) → x ≡ extension_by t (i scripts).number n.page s.effects s.left x

      extends_itself : (p : Prepared) → Extends p → IsIts → IsOfSegment book t s (page name n) p
      extends_itself p h is =
          let decided = (h []).recorded.decision in
          let said : x ≡ extension_by t n.instance n.page s.effects s.left x = is [] ∙ ap (λ (m : ℕ). extension_by t m n.page s.effects s.left x) (number []) in
          record {
            decision = subst (IsDecisionBy t s (page name n)) (sym decided) (said, refl);
            reply = subst AnswersWithPage (sym decided) tt;
            lands = λ library beside has.
                let j = i library.all in
                let its : IsExtension p t j bytes (extension_by t j.number n.page s.effects s.left x) s.entered =
                subst (λ (y : spec.Extension). IsExtension p t j bytes y s.entered) (is library.all) (h library.all) in
                subst (λ (d : Decision). CarriedBy library beside d p) (sym its.recorded.decision)
                (extension_itself library 0 0 0 0 (book_of library beside book) t j n.page bytes s.effects s.entered s.left p (here library.all) x its);
          }

      -- for which room was wanted too
      pub extended_itself : (made : Result Prepared AllocError) (r : Result Prepared Reply) → IfOk made Extends → IfOk r (λ p. made ≡ Ok p) → IsIts
          → IfOk r (IsOfSegment book t s (page name n))
      extended_itself made (Ok p) h made_so is = extends_itself p (subst (λ (m : Result Prepared AllocError). IfOk m Extends) made_so h) is
      extended_itself made (Err e) h made_so is = tt
