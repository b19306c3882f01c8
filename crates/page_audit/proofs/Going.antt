-- What an auditor makes of one record.
use Rattle.std.proofs.Common.{◌≡◌, ◌∙◌, ap, sym, subst, ℕ, ◌+◌, ◌<◌, Bool, true, false, List, ◌∷◌, length, Option, refl, arith, inl, inr}
use Rattle.book_recovery.specs.InstanceBook.declared.in_order.InOrder.{InOrder}
use Rattle.setup_reader.specs.Texts.{setup_of_texts}
use Rattle.book_recovery.specs.JournalSpec.Before.{Made}
use Rattle.book_recovery.specs.JournalSpec.Making.{Making, damaged, made_in}
use Rattle.book_recovery.specs.JournalSpec.Old.{with_body_at}
use Rattle.record_audit.specs.AuditSpec.Findings as spec
use Rattle.record_audit.specs.AuditSpec.Findings.{found_in, first_found}
use Rattle.book_recovery.specs.declared.found.Found.{Found}
use Rattle.book_recovery.specs.declared.found.Found.TheVariants as found
use Rattle.book_recovery.specs.declared.reader.Reader.{Reader}
use Rattle.book_recovery.specs.Found.{HasStates}
use Rattle.book_recovery.specs.Reading.{Gives, GivesWith, IsBefore, HasFew, IsOwnFor, IsTaken, making_of, with_shelf}
use Rattle.page_audit.specs.declared.auditor.Auditor.{Auditor}
use Rattle.page_audit.specs.declared.auditor.Finding.{Finding}
use Rattle.page_audit.specs.declared.auditor.Finding.TheVariants as finding
use Rattle.page_audit.specs.Auditing.{Looks, Begins, HadMemory, found_by, IsShelfOf, IsUndamaged, IsUpTo, IsAudited, IsReady}
use Rattle.page_audit.proofs.Looking.{finds_next, knows_before, nothing_before, undamaged_before}
use Rattle.page_audit.proofs.Named.{one_more}

-- ---- a reader without memory stays so

damage_is : (alone : Bool) (w : Made) (place : ℕ) → damaged place ≡ making_of alone w → ⊥
damage_is true w place e = let no : ⊥ = cc in no
damage_is false w place e = let no : ⊥ = cc in no

never_before : (fed : Bool) (shelf n place : ℕ) → IsBefore fed shelf n (damaged place) → ⊥
never_before true shelf n place (e, long) = let no : ⊥ = cc in no
never_before false shelf n place (inl (e, long)) = let no : ⊥ = cc in no
never_before false shelf n place (inr (e, long)) = let no : ⊥ = cc in no

-- what is found whichever damage there was is nothing
memory_is : (shelf n : ℕ) (fed alone : Bool) (f : Found) (seen : InOrder (Unit {0})) → Gives shelf n fed alone f seen (damaged 0) → Gives shelf n fed alone f seen (damaged 1) → f ≡ found.Memory
memory_is shelf n fed alone found.Nothing seen one other = absurd (never_before fed shelf n 0 one.before)
memory_is shelf n fed alone (found.Made b library) seen one other = absurd (damage_is alone one.whole 0 one.is)
memory_is shelf n fed alone (found.Damaged place) seen one other = let e : damaged 0 ≡ damaged 1 = one ∙ sym other in let same : ◌≡◌ {A = ℕ} 0 1 = cc in absurd (omega (arith, same))
memory_is shelf n fed alone (found.Other place) seen one other = absurd (let no : ⊥ = cc in no)
memory_is shelf n fed alone found.Memory seen one other = refl

memory_stays : (r q : Reader) (place : ℕ) (body : List ℕ) → IsTaken r place body q → r.found ≡ found.Memory → q.found ≡ found.Memory
memory_stays r q place body t e =
    let gives : GivesWith r.format r.shelf place body r.follows r.alone found.Memory q.follows q.alone q.found r.seen q.seen =
    subst (λ (f : Found). GivesWith r.format r.shelf place body r.follows r.alone f q.follows q.alone q.found r.seen q.seen) e t.gives in
    memory_is r.shelf (place + 5 + length body + 1) q.follows q.alone q.found q.seen (gives (damaged 0) tt) (gives (damaged 1) tt)

-- ---- one record

module _ (old b l new : Auditor) (place : ℕ) (body : List ℕ) (ready : IsReady old place) (begins : Begins old body b) (looks : Looks b place body l)
    (taken : IsTaken l.reader place body new.reader) (found_so : new.finding ≡ l.finding) (format_so : new.format ≡ l.format) (records_so : new.records ≡ l.records + 1) where
  taken_so : IsTaken b.reader place body new.reader
  taken_so = subst (λ (r : Reader). IsTaken r place body new.reader) looks.reader taken

  -- the reader is as it was, but for its shelf
  renamed : b.reader ≡ with_shelf begins.same.0 old.reader
  renamed = begins.same.1

  begun_format : b.reader.format ≡ old.format
  begun_format = ap (λ (r : Reader). r.format) renamed ∙ ready.reads

  begun_found : b.reader.found ≡ old.reader.found
  begun_found = ap (λ (r : Reader). r.found) renamed

  looks_on : (new.finding ≡ finding.Memory → ⊥) → l.finding ≡ finding.Memory → ⊥
  looks_on knows e = knows (found_so ∙ e)

  begun_knows : HadMemory new → b.finding ≡ finding.Memory → ⊥
  begun_knows had = knows_before b.format place b.reader.seen b.reader.found body b.finding l.finding looks.finds (looks_on had.finding)

  begun_had : HadMemory new → b.reader.found ≡ found.Memory → ⊥
  begun_had had e = had.found (memory_stays b.reader new.reader place body taken_so e)

  same_finding : HadMemory new → b.finding ≡ old.finding
  same_finding had = begins.finding (begun_knows had)

  -- there was memory before
  had_before : HadMemory new → HadMemory old
  had_before had = record {
    finding = λ e. begun_knows had (same_finding had ∙ e);
    found = λ e. begun_had had (begun_found ∙ e);
  }

  module _ (shelf : ℕ) (behind : List (List ℕ)) (m : Making) (f : Option spec.Finding) (had : HadMemory new) (up : IsUpTo old shelf place (body ∷ behind) m f) where
    begun_gives : Gives shelf (place + 1) b.reader.follows b.reader.alone b.reader.found b.reader.seen m
    begun_gives = subst (λ (r : Reader). Gives shelf (place + 1) r.follows r.alone r.found r.seen m) (sym renamed) up.gives

    next_format : new.format ≡ old.format
    next_format = format_so ∙ (looks.format ∙ begins.format)

    one_up : IsUpTo new shelf (place + 5 + length body) behind (with_body_at old.format setup_of_texts shelf place body m) (first_found f (found_in old.format place body (made_in m)))
    one_up =
        let next =
        one_more old.format shelf place body behind old.reader new.reader m ready.reads
        (subst (λ (r : Reader). IsTaken r place body new.reader) (begins.reader (begun_knows had)) taken_so) (had_before had).found up.shelf_is up.gives in
        record {
          shelf_is = subst (λ (k : ℕ). IsShelfOf (with_body_at old.format setup_of_texts shelf place body m) k behind new.reader.shelf shelf) (sym next_format) next.shelf_is;
          gives = next.goes;
          finds = λ whole.
              let whole_as : IsUndamaged (with_body_at b.format setup_of_texts shelf place body m) =
              subst (λ (k : ℕ). IsUndamaged (with_body_at k setup_of_texts shelf place body m)) (sym begins.format) whole in
              ap found_by found_so
              ∙ (finds_next b.format place shelf (place + 1) b.reader.follows b.reader.alone b.reader.seen b.reader.found body b.finding l.finding m (begun_had had) (looks_on had.finding) looks.finds begun_gives whole_as
              ∙ (ap (λ (x : Finding). first_found (found_by x) (found_in b.format place body (made_in m))) (same_finding had)
              ∙ (ap (λ (k : ℕ). first_found (found_by old.finding) (found_in k place body (made_in m))) begins.format
              ∙ ap (λ (o : Option spec.Finding). first_found o (found_in old.format place body (made_in m))) (up.finds (undamaged_before old.format shelf place body m whole)))));
        }

  pub one_audited : IsAudited old place body new
  one_audited = record {
    format = format_so ∙ (looks.format ∙ begins.format);
    records = records_so ∙ ap (λ (n : ℕ). n + 1) (looks.records ∙ begins.records);
    goes = λ shelf behind m f had_old had. one_up shelf behind m f had (had_old (had_before had));
  }

  begun_states : new.finding ≡ finding.Nothing → HasStates b.reader.found
  begun_states e =
      let l_so : l.finding ≡ finding.Nothing = sym found_so ∙ e in
      let b_so = nothing_before b.format place b.reader.seen b.reader.found body b.finding l.finding looks.finds l_so in
      let old_so : old.finding ≡ finding.Nothing = sym (begins.finding (λ m. let no : ⊥ = cc in no)) ∙ b_so in
      subst HasStates (sym begun_found) (ready.states old_so)

  pub one_ready : HasFew (place + 5 + length body) new.reader.found → IsReady new (place + 5 + length body)
  one_ready few = record {
    known = subst (λ (n : ℕ). 0 < n) (sym (format_so ∙ (looks.format ∙ begins.format))) ready.known;
    reads = taken_so.format ∙ (begun_format ∙ sym (format_so ∙ (looks.format ∙ begins.format)));
    records = omega (arith, records_so, looks.records, begins.records, ready.records);
    few = few;
    states = λ e.
        let own = looks.owns (sym found_so ∙ e) in
        let here = subst (λ (k : ℕ). IsOwnFor k b.reader.seen b.reader.found body) (begins.format ∙ sym begun_format) own in
        taken_so.owns here (begun_states e);
  }
