-- What is left as it was where one record more is not taken.
use Rattle.std.proofs.Common.{◌≡◌, ◌∙◌, refl, sym, ap, subst, ℕ, ◌+◌, ◌==◌, Bool, true, false, List, [], length, Option, Some, None, Ok, if◌then◌else◌, inl, inr, arith}
use Rattle.std.proofs.lemmas.List.{append-nil}
use Rattle.script_nodes.specs.Setup.{Named, Library}
use Rattle.script_nodes.specs.Views.{library_of}
use Rattle.script_nodes.specs.declared.library.Library as told
use Rattle.page_journal.specs.Records.{newest}
use Rattle.replay_spec.specs.Admission.{is_one}
use Rattle.journal_records.specs.Records.{Record, begins, changes, renews, draws, follows, promotes}
use Rattle.journal_records.specs.Old.{read_record_in}
use Rattle.setup_reader.specs.Texts.{setup_of_texts}
use Rattle.book_redo.specs.JournalSpec.Before.{Earlier}
use Rattle.book_redo.specs.JournalSpec.Making.{Making, waits, begun, damaged, other, began, fed_by, first_setup}
use Rattle.book_redo.specs.InstanceBook.declared.in_order.InOrder.{InOrder}
use Rattle.book_redo.specs.InstanceBook.declared.book.Book.{Book}
use Rattle.file_notes.specs.declared.notes.FileNotes.{FileNotes}
use Rattle.file_notes.specs.Files.{marks_in}
use Rattle.book_recovery.specs.declared.found.Found.TheVariants as found
use Rattle.book_recovery.specs.Noting.{NotesWith}
use Rattle.book_recovery.specs.Adopting.{BeginsSo, BeginsNotes, begun_by}
use Rattle.book_recovery.specs.Reading.{seen_by, TellsOf, IsMadeAs, IsNothing, Gives, GivesWith}

-- ---- the first one

-- what was told is of numbers that were seen, if none was
tells_seen : (library : Library) (s t : InOrder (Unit {0})) (b : Book) (earlier : Earlier) → seen_by s ≡ [] → seen_by t ≡ [] → TellsOf library s b earlier → TellsOf library t b earlier
tells_seen library s t b earlier none also h = record { numbers = λ k. h.numbers k ∙ ap (is_one k) (none ∙ sym also); known = h.known; states = h.states }

made_seen : (shelf n : ℕ) (fed alone : Bool) (b : Book) (library : Library) (s t : InOrder (Unit {0})) (m : Making) → seen_by s ≡ [] → seen_by t ≡ [] → IsMadeAs shelf n fed alone b library s m → IsMadeAs shelf n fed alone b library t m
made_seen shelf n fed alone b library s t m none also h = record {
  whole = h.whole;
  is = h.is;
  book = h.book;
  tells = tells_seen library s t b h.whole.earlier none also h.tells;
  first = h.first;
}

at_first : (shelf : ℕ) (s : InOrder (Unit {0})) → seen_by s ≡ [] → IsNothing shelf 15 true s (waits shelf)
at_first shelf s none = record { before = (refl, refl); none = none }

module _ (shelf : ℕ) (body : List ℕ) (s : InOrder (Unit {0})) (t : Bool) (none : seen_by s ≡ []) where
  pub begins_so : (b : Book) (rust : told.Library) → t ≡ true → GivesWith newest shelf 14 body true true found.Nothing t true (found.Made b rust) s s → BeginsSo shelf body b (library_of rust) (Ok true)
  begins_so b rust fed gives other_seen also =
      let there : IsMadeAs shelf (14 + 5 + length body + 1) t true b (library_of rust) s (begun_by shelf body) = gives (waits shelf) (at_first shelf s none) in
      let long : 14 + 5 + length body + 1 ≡ 20 + length body = omega arith in
      made_seen shelf (20 + length body) true true b (library_of rust) s other_seen (begun_by shelf body) none also
      (subst (λ (n : ℕ). IsMadeAs shelf n true true b (library_of rust) s (begun_by shelf body)) long
      (subst (λ (u : Bool). IsMadeAs shelf (14 + 5 + length body + 1) u true b (library_of rust) s (begun_by shelf body)) fed there))

  pub notes_so : (b : Book) (rust : told.Library) (known then_known : FileNotes)
      → ((m : Making) → Gives shelf 15 true true found.Nothing s m → NotesWith newest shelf 14 body known then_known (found.Made b rust) m) → BeginsNotes shelf body known then_known (Ok true)
  notes_so b rust known then_known noted here =
      let its = noted (waits shelf) (at_first shelf s none) here in
      (its.0, its.1 ∙ append-nil (marks_in known))

  -- what may not stand there may not at its place
  damaged_there : (o : Option Record) (p : ℕ) → fed_by setup_of_texts shelf 14 (length body) o ≡ damaged p → fed_by setup_of_texts shelf 14 (length body) o ≡ damaged 14
  damaged_there None p e = refl
  damaged_there (Some (begins number named)) p e = by_setup (setup_of_texts named) e
    where
      by_test : (u : Bool) (scripts : List Named) → (if u then begun (began true shelf 14 (length body) scripts) else other 14) ≡ damaged p → (if u then begun (began true shelf 14 (length body) scripts) else other 14) ≡ damaged 14
      by_test true scripts e = absurd (let never : ⊥ = cc e in never)
      by_test false scripts e = absurd (let never : ⊥ = cc e in never)

      by_setup : (x : Option (List Named)) → first_setup true shelf 14 (length body) number x ≡ damaged p → first_setup true shelf 14 (length body) number x ≡ damaged 14
      by_setup None e = refl
      by_setup (Some scripts) e = by_test (number == shelf) scripts e
  damaged_there (Some (changes c state)) p e = refl
  damaged_there (Some (renews named)) p e = refl
  damaged_there (Some (draws number)) p e = refl
  damaged_there (Some follows) p e = refl
  damaged_there (Some promotes) p e = absurd (let never : ⊥ = cc e in never)

  other_there : (o : Option Record) (p : ℕ) → fed_by setup_of_texts shelf 14 (length body) o ≡ other p → fed_by setup_of_texts shelf 14 (length body) o ≡ other 14
  other_there None p e = absurd (let never : ⊥ = cc e in never)
  other_there (Some (begins number named)) p e = by_setup (setup_of_texts named) e
    where
      by_test : (u : Bool) (scripts : List Named) → (if u then begun (began true shelf 14 (length body) scripts) else other 14) ≡ other p → (if u then begun (began true shelf 14 (length body) scripts) else other 14) ≡ other 14
      by_test true scripts e = absurd (let never : ⊥ = cc e in never)
      by_test false scripts e = refl

      by_setup : (x : Option (List Named)) → first_setup true shelf 14 (length body) number x ≡ other p → first_setup true shelf 14 (length body) number x ≡ other 14
      by_setup None e = absurd (let never : ⊥ = cc e in never)
      by_setup (Some scripts) e = by_test (number == shelf) scripts e
  other_there (Some (changes c state)) p e = absurd (let never : ⊥ = cc e in never)
  other_there (Some (renews named)) p e = absurd (let never : ⊥ = cc e in never)
  other_there (Some (draws number)) p e = absurd (let never : ⊥ = cc e in never)
  other_there (Some follows) p e = absurd (let never : ⊥ = cc e in never)
  other_there (Some promotes) p e = absurd (let never : ⊥ = cc e in never)

  pub never_begun : (b : Book) (library : Library) (p : ℕ) → GivesWith newest shelf 14 body true true found.Nothing t true (found.Damaged p) s s → BeginsSo shelf body b library (Ok false)
  never_begun b library p gives = inl (damaged_there (read_record_in newest body) p (gives (waits shelf) (at_first shelf s none)))

  pub begun_of_another : (b : Book) (library : Library) (p : ℕ) → GivesWith newest shelf 14 body true true found.Nothing t true (found.Other p) s s → BeginsSo shelf body b library (Ok false)
  begun_of_another b library p gives = inr (other_there (read_record_in newest body) p (gives (waits shelf) (at_first shelf s none)))
