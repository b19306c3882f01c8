-- A compaction that did nothing, by its reply.
use Rattle.std.proofs.Common.{◌≡◌, sym, subst, refl, ℕ, ◌<◌, ◌^◌, Bool, None}
use Rattle.std.specs.Prelude.{Err}
use Rattle.script_nodes.specs.Setup.{Library}
use Rattle.web_disk.specs.View.{View}
use Rattle.page_journal.specs.Settled as journal
use Rattle.page_journal.specs.Settled.{view_of}
use Rattle.page_journal.specs.declared.journal.Journal.{Journal}
use Rattle.replay_spec.specs.Compaction.{compaction, file_length}
use Rattle.replay_spec.specs.Runs.{drawn_by}
use Rattle.replay_spec.specs.Step as step
use Rattle.book_recovery.specs.InstanceBook.declared.book.Book as kept
use Rattle.book_recovery.proofs.JournalSpec.Standings.{OnlyNow}
use Rattle.file_copies.specs.OfFileNotes.declared.notes.FileNotes.{FileNotes}
use Rattle.shelf.specs.declared.shelf.Shelf.{Shelf}
use Rattle.shelf.specs.declared.compaction.CompactFault.TheVariants as fault
use Rattle.shelf.specs.Compacting.{Rewrites}
use Rattle.shelf.specs.Events.{IsLeftAlone}
use Rattle.shelf.specs.Views.{rules_of, library_in, book_in, fate_by, IsFree, IsInOrder}
use Rattle.shelf.proofs.Leads.{unfed, bars_none}
use Rattle.shelf.proofs.Quiet.{untouched}
use Rattle.shelf.proofs.Steps.{Comes, wanting_compact, full_compact}
use Rattle.shelf.proofs.Compacting.{Compacts, uncompacted, no_room}

-- no call was made
pub kept_back : {D N : Type 0} (view : D → View) (tells : Bool) (coming : N → ℕ → ℕ) (s : Shelf D N) → IsInOrder view tells s → OnlyNow (view s.journal.disk) → (x : step.Reply) → ((given : ℕ) → drawn_by x given ≡ given)
    → Comes (rules_of s.rules) (book_in view s) step.compact (fate_by x) x (book_in view s) None → Compacts view tells coming s s x
kept_back view tells coming s order only_now x none comes = uncompacted view tells coming s order s.journal order.sound (no_room view tells s.journal only_now) order.fed x none comes

module _ {D N : Type 0} (view : D → View) (tells : Bool) (coming : N → ℕ → ℕ) (s : Shelf D N) (order : IsInOrder view tells s) (free : IsFree s) (only_now : OnlyNow (view s.journal.disk)) (j : Journal D) (sound : journal.IsSound j) where
  none_bars : step.barred (book_in view s) ≡ None
  none_bars = bars_none view s free

  -- it would be too long
  pub too_long : (n : ℕ) → Rewrites view tells s.journal j s.notes s.book (library_in s) (Err (fault.TooLong n)) → Compacts view tells coming s (record s { journal = j }) (step.journal_full n)
  too_long n r =
      let full = r.becomes in
      let is : n ≡ file_length (compaction (book_in view s)) = full.0 in
      subst (λ (k : Journal D). Compacts view tells coming s (record s { journal = k }) (step.journal_full n)) (sym full.2)
      (kept_back view tells coming s order only_now (step.journal_full n) (λ given. refl)
      (subst (λ (k : ℕ). Comes (rules_of s.rules) (book_in view s) step.compact step.plain (step.journal_full k) (book_in view s) None) (sym is)
      (full_compact s.rules (book_in view s) none_bars (subst (λ (k : ℕ). 2 ^ 30 < k) is full.1))))

  -- there was no memory
  pub wanting : Rewrites view tells s.journal j s.notes s.book (library_in s) (Err fault.Memory) → Compacts view tells coming s (record s { journal = j }) step.memory
  wanting r = uncompacted view tells coming s order j sound r.becomes (unfed view tells (record s { journal = j }) free.leads) step.memory (λ given. refl) (wanting_compact s.rules (book_in view s))

-- and it leaves the disk alone
pub full_disk : {D : Type 0} (view : D → View) (tells : Bool) (old new : Journal D) (notes : FileNotes) (b : kept.Book) (library : Library) (n : ℕ) → Rewrites view tells old new notes b library (Err (fault.TooLong n)) → IsLeftAlone (view_of view old) (view_of view new)
full_disk {D} view tells old new notes b library n r =
    subst (λ (j : Journal D). IsLeftAlone (view_of view old) (view_of view j)) (sym r.becomes.2) (untouched (view_of view old))

pub wanting_disk : {D : Type 0} (view : D → View) (tells : Bool) (old new : Journal D) (notes : FileNotes) (b : kept.Book) (library : Library) → Rewrites view tells old new notes b library (Err fault.Memory) → IsLeftAlone (view_of view old) (view_of view new)
wanting_disk view tells old new notes b library r = let room = r.becomes in record { faults = room.faults; seen = room.seen; images = room.images }
