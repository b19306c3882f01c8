-- An opening finds and leaves own records.
use Rattle.std.proofs.Common.{◌≡◌, ℕ, Bool, List, [], ◌∷◌, None, IsTrue, refl, sym, ◌∙◌, ap, subst}
use Rattle.book_recovery.specs.SetupReader.Texts.{setup_of_texts as texts}
use Rattle.web_disk.specs.View.{View}
use Rattle.page_journal.specs.Records.{newest, format_of, stored}
use Rattle.page_journal.specs.Opened.{TellsFormat}
use Rattle.page_journal.specs.Scanned.{IsQuiet}
use Rattle.page_journal.specs.Settled.{IsSettled, view_of, bodies_in}
use Rattle.page_journal.specs.declared.journal.Journal.{Journal}
use Rattle.book_recovery.specs.JournalSpec.Owning.{AreOwnIn}
use Rattle.book_recovery.specs.JournalSpec.Disks.{IsFit}
use Rattle.shelf.specs.declared.shelf.Shelf.{Shelf}
use Rattle.shelf.specs.Views.{book_in, rules_of, IsOwnShelf}
use Rattle.shelf.specs.Opening.{HasOwnRecords, OpensOwn}
use Rattle.shelf.specs.Owning.{IsOwnImage, HasOwnImages, StaysOwnThroughout}
use Rattle.shelf.proofs.Owned.{none_own, images_own, stored_own, settled_own, quiet_own}
use Rattle.shelf.proofs.Newest.{own_in}
use Rattle.shelf.proofs.Recorded.{measured_up}

-- own records are read
pub read_moments : {D : Type 0} (view : D → View) (shelf : ℕ) (j0 j1 : Journal D) → j0.format ≡ newest → IsSettled view j0 → HasOwnRecords view shelf j0 → IsQuiet (view_of view j0) (view_of view j1)
    → StaysOwnThroughout shelf (view_of view j0) (view_of view j1)
read_moments view shelf j0 j1 now settled own quiet =
    quiet_own shelf (view_of view j0) (view_of view j1) quiet.moments (settled_own view shelf j0 settled (own_in view shelf j0 now own))

-- what an opened journal has are the records that the disk had, in their format; where there is none, the format is any
pub records_found : {D : Type 0} (view : D → View) (shelf : ℕ) (v : View) (j : Journal D) → bodies_in view j ≡ stored v.seen → TellsFormat v.seen j.format → IsOwnImage shelf v.seen → AreOwnIn j.format texts shelf (bodies_in view j)
records_found view shelf v j is tells own = by_bytes v.seen refl
  where
    by_bytes : (bytes : List ℕ) → v.seen ≡ bytes → AreOwnIn j.format texts shelf (bodies_in view j)
    by_bytes [] none = subst (AreOwnIn j.format texts shelf) (sym (is ∙ ap stored none)) (none_own j.format shelf)
    by_bytes (b ∷ bytes) some =
        let known : j.format ≡ format_of v.seen = tells (λ e. let no : b ∷ bytes ≡ [] = sym some ∙ e in cc no) in
        subst (λ (f : ℕ). AreOwnIn f texts shelf (bodies_in view j)) (sym known) (subst (AreOwnIn (format_of v.seen) texts shelf) (sym is) (stored_own shelf v.seen own))

pub records_left : {D : Type 0} (view : D → View) (shelf : ℕ) (v : View) (j : Journal D) → bodies_in view j ≡ stored v.seen → TellsFormat v.seen j.format → v.images v.seen → HasOwnImages shelf v → AreOwnIn j.format texts shelf (bodies_in view j)
records_left view shelf v j is tells reads own = records_found view shelf v j is tells (images_own shelf v v.seen own reads)

-- a shelf that is opened on own records
pub opened_own : {D N : Type 0} (view : D → View) (tells : Bool) (s : Shelf D N) → s.journal.format ≡ newest → (book_in view s).down ≡ None → (IsTrue tells → IsFit view texts s.rules.number s.journal (book_in view s))
    → OpensOwn view s.rules.number s.journal (s.book, s.library) → IsOwnShelf view tells s
opened_own view tells s now up fits own = record {
  states = own.states;
  own = λ told.
      let fit = fits told in
      let t = fit.stands in
      record {
        images = settled_own view s.rules.number s.journal (fit.settled up) (own_in view s.rules.number s.journal now own.records);
        stands = (t.0, (t.1.0, (t.1.1, measured_up (rules_of s.rules) t.0 (book_in view s) up)));
      };
}
