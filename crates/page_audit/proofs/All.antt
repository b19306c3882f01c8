-- What an auditor has made of all records.
use Rattle.std.proofs.Common.{◌≡◌, ◌∙◌, ap, sym, subst, ℕ, ◌+◌, List, [], ◌∷◌, length, Option, Some, None, Result, refl, arith, length-append}
use Rattle.page_journal.specs.Records.{framed, frames}
use Rattle.page_journal.specs.Taken.{TakesAll}
use Rattle.page_journal.proofs.Frames.{length-framed}
use Rattle.setup_reader.specs.Texts.{setup_of_texts}
use Rattle.book_recovery.specs.JournalSpec.Making.{Making, nothing, made_in}
use Rattle.book_recovery.specs.JournalSpec.Old.{with_body_at, with_bodies_at, book_of_format}
use Rattle.record_audit.specs.AuditSpec.Findings as spec
use Rattle.record_audit.specs.AuditSpec.Findings.{shelf_in, found_in, first_found, first_finding, answer_over, audited}
use Rattle.book_recovery.proofs.Took.{at_first}
use Rattle.page_audit.specs.declared.answer.Audited.{Audited}
use Rattle.page_audit.specs.declared.answer.AuditFault.{AuditFault}
use Rattle.page_audit.specs.declared.auditor.Auditor.{Auditor}
use Rattle.page_audit.specs.Audits.{IsAnswer}
use Rattle.page_audit.specs.Auditing.{found_by, HasAudited, IsAudited, IsStarted, Concludes}

first_of_three : (a b c : Option spec.Finding) → first_found (first_found a b) c ≡ first_found a (first_found b c)
first_of_three None b c = refl
first_of_three (Some f) b c = refl

first_alone : (a : Option spec.Finding) → first_found a None ≡ a
first_alone None = refl
first_alone (Some f) = refl

-- how many records there are then
counted : (place : ℕ) (bodies : List (List ℕ)) (old new : Auditor) → TakesAll IsAudited old place bodies new → new.records ≡ old.records + length bodies
counted place [] old new t = ap (λ (a : Auditor). a.records) t ∙ omega arith
counted place (body ∷ bodies) old new t = let more = counted (place + 5 + length body) bodies t.0 new t.2 in omega (arith, more, t.1.records)

all_audited : (format shelf place : ℕ) (bodies : List (List ℕ)) (old new : Auditor) → TakesAll IsAudited old place bodies new → old.format ≡ format
    → (m : Making) (f : Option spec.Finding) → HasAudited old shelf place bodies m f
    → HasAudited new shelf (place + length (frames bodies)) [] (with_bodies_at format setup_of_texts shelf place bodies m)
    (first_found f (first_finding format setup_of_texts shelf place bodies m))
all_audited format shelf place [] old new t its m f has =
    let here : place ≡ place + 0 = omega arith in
    subst (λ (a : Auditor). HasAudited a shelf (place + 0) [] m (first_found f None)) (sym t)
    (subst (λ (k : ℕ). HasAudited old shelf k [] m (first_found f None)) here (subst (HasAudited old shelf place [] m) (sym (first_alone f)) has))
all_audited format shelf place (body ∷ bodies) old new t its m f has =
    let mid = t.0 in
    let next = with_body_at format setup_of_texts shelf place body m in
    let one = found_in format place body (made_in m) in
    let rest = first_finding format setup_of_texts shelf (place + 5 + length body) bodies next in
    let goes : HasAudited mid shelf (place + 5 + length body) bodies next (first_found f one) =
    subst (λ (k : ℕ). HasAudited mid shelf (place + 5 + length body) bodies (with_body_at k setup_of_texts shelf place body m) (first_found f (found_in k place body (made_in m)))) its
    (t.1.goes shelf bodies m f has) in
    let there : place + 5 + length body + length (frames bodies) ≡ place + length (frames (body ∷ bodies)) = omega (arith, length-append (framed body) (frames bodies), length-framed body) in
    subst (λ (k : ℕ). HasAudited new shelf k [] (with_bodies_at format setup_of_texts shelf (place + 5 + length body) bodies next) (first_found f (first_found one rest))) there
    (subst (HasAudited new shelf (place + 5 + length body + length (frames bodies)) [] (with_bodies_at format setup_of_texts shelf (place + 5 + length body) bodies next)) (first_of_three f one rest)
    (all_audited format shelf (place + 5 + length body) bodies mid new t.2 (t.1.format ∙ its) next (first_found f one) goes))

-- from no record on, for the shelf that they name
started : (format : ℕ) (bodies : List (List ℕ)) (old : Auditor) → IsStarted format old → HasAudited old (shelf_in format bodies) 8 bodies nothing None
started format bodies old start had = record {
  shelf_is = ap (λ (k : ℕ). shelf_in k bodies) (sym start.format_is);
  gives = at_first (shelf_in format bodies) old.reader start.found start.follows start.seen;
  finds = λ whole. ap found_by start.finding;
}

-- the answer is that of an audit of the bodies
pub all_answered : (format : ℕ) (bodies : List (List ℕ)) (old new : Auditor) (result : Result Audited AuditFault) → IsStarted format old → TakesAll IsAudited old 8 bodies new
    → Concludes new result → IsAnswer (audited format setup_of_texts bodies) result
all_answered format bodies old new result start t concludes =
    let shelf = shelf_in format bodies in
    let f = first_finding format setup_of_texts shelf 8 bodies nothing in
    let m = book_of_format format setup_of_texts shelf bodies in
    let many : new.records ≡ length bodies = omega (arith, counted 8 bodies old new t, start.records) in
    subst (λ (n : ℕ). IsAnswer (answer_over m n f) result) many
    (concludes shelf (8 + length (frames bodies)) m f (all_audited format shelf 8 bodies old new t start.format_is nothing None (started format bodies old start)))
