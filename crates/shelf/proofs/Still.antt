-- A shelf in order goes on to be, after a call that writes nothing and leaves its book as it was.
use Rattle.std.proofs.Common.{◌≡◌, ◌∙◌, ap, sym, subst, ℕ, Bool, List, map, Option, Some, None, option_map, IfSome, IsTrue}
use Rattle.book_recovery.specs.SetupReader.Texts.{setup_of_texts as texts}
use Rattle.web_disk.specs.View.{View, NoNewImage}
use Rattle.page_journal.specs.Records.{newest, stored}
use Rattle.page_journal.specs.Settled as journal
use Rattle.page_journal.specs.Settled.{IsSettled, view_of, bodies_in, length_of, is_broken}
use Rattle.page_journal.specs.declared.journal.Journal.{Journal}
use Rattle.replay_spec.specs.Book.{Book, File, reopened}
use Rattle.replay_spec.specs.Invariant.{IsOrderly}
use Rattle.book_recovery.specs.JournalSpec.Making.{nothing, book_of}
use Rattle.book_recovery.specs.JournalSpec.Reading.{AreAllBytes}
use Rattle.book_recovery.specs.JournalSpec.Making as make
use Rattle.book_recovery.specs.JournalSpec.Keeping.{Keeps}
use Rattle.book_recovery.specs.JournalSpec.Whole.{HasWholeScripts}
use Rattle.book_recovery.specs.JournalSpec.Spelling.{IsInRange}
use Rattle.book_recovery.specs.JournalSpec.Disks.{IsFit}
use Rattle.book_recovery.proofs.JournalSpec.Standings.{stands_then}
use Rattle.book_recovery.specs.InstanceBook.Views as views
use Rattle.file_copies.specs.OfFileNotes.declared.notes.FileNotes.{FileNotes}
use Rattle.file_copies.specs.OfFileNotes.Files.{file_in, IsNoted, StaysAsTold}
use Rattle.book_recovery.specs.Noting.{marks_of}
use Rattle.file_copies.specs.OfFileNotes.Notes.{is_told}
use Rattle.shelf.specs.declared.follower.Follower.{Follower}
use Rattle.shelf.specs.declared.shelf.Shelf.{Shelf}
use Rattle.shelf.specs.Fed.{IsFedBy}
use Rattle.shelf.specs.Views.{doubt_of, library_in, follows_in, book_in, IsFed, IsInOrder}

-- the journal has the same records, a crash leaves nothing new, and it can go on where it could
pub record StaysSo {D : Type 0} (view : D → View) (tells : Bool) (old new : Journal D) : Type 0 where
  pub settled : IsTrue tells → IsSettled view old → IsSettled view new
  pub format : new.format ≡ old.format
  pub seen : (view_of view new).seen ≡ (view_of view old).seen
  pub images : NoNewImage (view_of view old) (view_of view new)

module _ {D N : Type 0} (view : D → View) (tells : Bool) (s : Shelf D N) (new : Journal D) (after : FileNotes) (call : StaysSo view tells s.journal new) (long : length_of new ≡ length_of s.journal) (stays : StaysAsTold s.notes after) where
  -- the shelf with that journal, and what is known of it
  abbrev pub then : Shelf D N
  then = record s { journal = new; notes = after }

  pub book_still : book_in view then ≡ book_in view s
  book_still =
      let at : ℕ → File → Book = λ n f. views.book_of (library_in s) (record { length = n; file = f; down = option_map doubt_of s.down; follows = follows_in s }) s.book in
      ap (λ (n : ℕ). at n (file_in after)) long ∙ ap (at (length_of s.journal)) stays.file

  bodies_still : bodies_in view s.journal ≡ bodies_in view new
  bodies_still = ap stored (sym call.seen)

  module _ (order : IsInOrder view tells s) where
    fit_still : (told : IsTrue tells) → IsFit view texts s.rules.number new (book_in view s)
    fit_still told =
        let fit = order.fit told in
        record {
          settled = λ up. call.settled told (fit.settled up);
          holds = λ up. subst (λ (bs : List (List ℕ)). Keeps texts s.rules.number bs (book_in view s)) bodies_still (fit.holds up);
          stands = (stands_then texts s.rules.number (book_in view s) (view_of view s.journal) (view_of view new) fit.stands call.images).0;
        }

    fed_still : (o : Option Follower) → IfSome o (IsFed view tells s) → IfSome o (IsFed view tells then)
    fed_still None h = tt
    fed_still (Some f) h = record {
      standing = h.standing;
      up = h.up;
      again = book_still ∙ (h.again ∙ ap reopened (sym book_still));
      fed = h.fed;
      made = h.made;
      told = λ told. subst (λ (bs : List (List ℕ)). IsFedBy f.fed s.rules.number f.seen s.book (library_in s) (book_of texts s.rules.number bs)) bodies_still (h.told told);
    }

    pub order_still : journal.IsSound new → is_broken new ≡ is_broken s.journal → IsNoted after → IsInOrder view tells then
    order_still sound whole noted = record {
      placed = order.placed;
      kept = order.kept;
      orderly = subst IsOrderly (sym book_still) order.orderly;
      scripts_are = subst HasWholeScripts (sym book_still) order.scripts_are;
      read = order.read;
      range = subst IsInRange (sym book_still) order.range;
      number = order.number;
      limits = order.limits;
      few = order.few;
      sound = sound;
      whole = λ up. whole ∙ order.whole up;
      fit = λ told. subst (IsFit view texts s.rules.number new) (sym book_still) (fit_still told);
      told = λ told up m is. order.told told up m (ap (λ (bs : List (List ℕ)). make.made_in (book_of texts s.rules.number bs)) bodies_still ∙ is);
      knows = record {
        newest_is = call.format ∙ order.knows.newest_is;
        noted = noted;
        images = λ told image left. order.knows.images told image (call.images image left);
        records = λ told up.
            let r = order.knows.records told up in
            record {
              marks = ap (map is_told) stays.notes ∙ (r.marks ∙ ap (λ (bs : List (List ℕ)). marks_of newest texts s.rules.number 8 bs nothing) bodies_still);
              bytes = subst AreAllBytes bodies_still r.bytes;
            };
      };
      fed = fed_still s.follower order.fed;
    }
