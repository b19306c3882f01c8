-- A journal of the newest format.
use Rattle.std.proofs.Common.{◌≡◌, ◌∙◌, ap, sym, subst, refl, ℕ, List, Option, Some, None}
use Rattle.book_recovery.specs.SetupReader.Texts.{setup_of_texts as texts}
use Rattle.web_disk.specs.View.{View}
use Rattle.page_journal.specs.Records.{newest}
use Rattle.page_journal.specs.Holding.{IsClosed}
use Rattle.page_journal.specs.Settled.{IsSettled, bodies_in}
use Rattle.page_journal.specs.declared.journal.Journal.{Journal}
use Rattle.page_journal.proofs.Holds.{settled_images}
use Rattle.replay_spec.specs.Book.{Book}
use Rattle.journal_records.specs.Records.{Record, changes}
use Rattle.journal_records.specs.Reading.{read_record}
use Rattle.journal_records.specs.Old.{read_record_in}
use Rattle.book_recovery.specs.JournalSpec.Before.{Made}
use Rattle.book_recovery.specs.JournalSpec.Making.{made_in}
use Rattle.book_recovery.specs.JournalSpec.Old.{format_of_now}
use Rattle.book_recovery.specs.JournalSpec.Owning.{AreOwn, AreOwnIn, IsOwnRecord, IsOwnRecordIn}
use Rattle.book_recovery.specs.JournalSpec.Standing.{Makes, MakesOf}
use Rattle.book_recovery.proofs.JournalSpec.Between.{makes_now}

pub newest_images : {D : Type 0} (view : D → View) (j : Journal D) → IsSettled view j → j.format ≡ newest → (image : List ℕ) → (view j.disk).images image → IsClosed newest (bodies_in view j) image
newest_images view j s now image left = subst (λ (f : ℕ). IsClosed f (bodies_in view j) image) now (settled_images view j s image left)

pub makes_so : {D : Type 0} (view : D → View) (shelf : ℕ) (j : Journal D) (b : Book) → j.format ≡ newest → Makes texts shelf (bodies_in view j) b → MakesOf texts shelf j.format (bodies_in view j) b
makes_so view shelf j b now makes = subst (λ (f : ℕ). MakesOf texts shelf f (bodies_in view j) b) (sym now) (makes_now texts shelf (bodies_in view j) b makes)

read_now : (body : List ℕ) → read_record body ≡ read_record_in newest body
unfolding read_record_in read_record
read_now body = refl

-- its own records are those of the newest format
pub own_now : (shelf : ℕ) (bodies : List (List ℕ)) → AreOwn texts shelf bodies → AreOwnIn newest texts shelf bodies
own_now shelf bodies own = λ front rest body m is makes.
    here front body m (subst (λ (r : Option Record). IsOwnRecord m r) (read_now body) (own front rest body m is (sym (ap made_in (format_of_now texts shelf front)) ∙ makes)))
  where
    here : (front : List (List ℕ)) (body : List ℕ) (m : Made) → IsOwnRecord m (read_record_in newest body) → IsOwnRecordIn newest m (read_record_in newest body)
    here front body m h = by_record (read_record_in newest body) h
      where
        by_record : (r : Option Record) → IsOwnRecord m r → IsOwnRecordIn newest m r
        by_record None h = h
        by_record (Some (changes c state)) h = h
        by_record (Some r) h = h

pub now_own : (shelf : ℕ) (bodies : List (List ℕ)) → AreOwnIn newest texts shelf bodies → AreOwn texts shelf bodies
now_own shelf bodies own = λ front rest body m is makes.
    subst (λ (r : Option Record). IsOwnRecord m r) (sym (read_now body)) (here front body m (own front rest body m is (ap made_in (format_of_now texts shelf front) ∙ makes)))
  where
    here : (front : List (List ℕ)) (body : List ℕ) (m : Made) → IsOwnRecordIn newest m (read_record_in newest body) → IsOwnRecord m (read_record_in newest body)
    here front body m h = by_record (read_record_in newest body) h
      where
        by_record : (r : Option Record) → IsOwnRecordIn newest m r → IsOwnRecord m r
        by_record None h = h
        by_record (Some (changes c state)) h = h
        by_record (Some r) h = h

pub own_in : {D : Type 0} (view : D → View) (shelf : ℕ) (j : Journal D) → j.format ≡ newest → AreOwn texts shelf (bodies_in view j) → AreOwnIn j.format texts shelf (bodies_in view j)
own_in view shelf j now own = subst (λ (f : ℕ). AreOwnIn f texts shelf (bodies_in view j)) (sym now) (own_now shelf (bodies_in view j) own)
