use Rattle.std.proofs.Common.{◌≡◌, ◌∙◌, ap, sym, ℕ, nat_le, Bool, true, false, Option, None, refl}
use Rattle.script_value.specs.declared.outcome.TxName.{TxName}
use Rattle.script_value.specs.declared.outcome.Refusal.{Refusal}
use Rattle.script_value.specs.declared.outcome.Refusal.TheVariants.{Revoked, Expired}
use Rattle.replay_spec.specs.Names.{first_closed}
use Rattle.replay_spec.specs.Book.{evictor}
use Rattle.replay_spec.specs.Admission.{◌>>=◌, when, or_else, is_one, closed_by, evicted_by}
use Rattle.replay_spec.specs.Marks.{Mark}
use Rattle.replay_spec.proofs.Marked.{marked}
use Rattle.instance_book.specs.declared.numbered.Numbered.{Numbered}
use Rattle.instance_book.specs.declared.instance.KeptInstance.{KeptInstance}
use Rattle.instance_book.specs.declared.page.KeptPage.{KeptPage}
use Rattle.instance_book.specs.Orders.{numbers_of}
use Rattle.instance_book.specs.Views.{marks_of, evicted_of}
use Rattle.instance_book.specs.Standing.{IsMarkedIn}
use Rattle.instance_book.proofs.Marking.{marks_rise}
use Rattle.book_visits.proofs.admission.why_not.Goals as goal

-- the page for which one went is the one of its mark
went_for : (i : Numbered KeptInstance) (p : Numbered KeptPage) → IsMarkedIn i p → evictor p.number (evicted_of i.item.pages) ≡ p.item.gone
went_for i p here =
    let ps = i.item.pages in
    (marked (marks_of ps) (marks_rise ps.things.items ps.rising)).evictor p.number ∙ ap (λ (o : Option Mark). o >>= λ m. m.gone) here

-- a page that is not revoked, and not inside a closed transaction
left_why : (b : Bool) (o : Option TxName) (g h : Option ℕ) (rest : Option Refusal) → b ≡ false → o ≡ None → g ≡ h
    → or_else (evicted_by h) rest ≡ or_else (when b Revoked) (or_else (closed_by o) (or_else (evicted_by g) rest))
left_why b o g h rest revoked closed gone = rw (revoked, closed, gone) refl

pub returns-in-Some-gone : goal.returns-in-Some-gone
returns-in-Some-gone c scripts =
    let i = c.args.instance.now in
    let p = c.args.page.now in
    let revoked : is_one p.number (numbers_of i.item.revoked.things.items) ≡ false = sym c.has.ensures ∙ c.if-has.false in
    let closed : first_closed i.item.closed p.item.inside.items ≡ None =
    ap (first_closed i.item.closed) (sym c.deref.ensures.value) ∙ (sym c.first_closed.ensures ∙ c.in_default.is) in
    left_why _ _ _ _ _ revoked closed (went_for i p c.requires ∙ c.in-Some-gone.is)

pub returns-then-expired : goal.returns-then-expired
returns-then-expired c scripts =
    let i = c.args.instance.now in
    let p = c.args.page.now in
    let revoked : is_one p.number (numbers_of i.item.revoked.things.items) ≡ false = sym c.has.ensures ∙ c.if-has.false in
    let closed : first_closed i.item.closed p.item.inside.items ≡ None =
    ap (first_closed i.item.closed) (sym c.deref.ensures.value) ∙ (sym c.first_closed.ensures ∙ c.in_default.is) in
    let past : nat_le p.item.deadline c.args.clock ≡ true = sym c.expired.ensures ∙ c.if-expired.true in
    ap (λ (b : Bool). when b (Expired p.item.deadline)) (sym past) ∙ left_why _ _ _ None _ revoked closed (went_for i p c.requires ∙ c.in_default-gone.is)

pub returns : goal.returns
returns c scripts =
    let i = c.args.instance.now in
    let p = c.args.page.now in
    let revoked : is_one p.number (numbers_of i.item.revoked.things.items) ≡ false = sym c.has.ensures ∙ c.if-has.false in
    let closed : first_closed i.item.closed p.item.inside.items ≡ None =
    ap (first_closed i.item.closed) (sym c.deref.ensures.value) ∙ (sym c.first_closed.ensures ∙ c.in_default.is) in
    let soon : nat_le p.item.deadline c.args.clock ≡ false = sym c.expired.ensures ∙ c.if-expired.false in
    ap (λ (b : Bool). when b (Expired p.item.deadline)) (sym soon) ∙ left_why _ _ _ None _ revoked closed (went_for i p c.requires ∙ c.in_default-gone.is)
