-- What becomes of a journal whose file is to be compacted.
use Rattle.std.proofs.Common.{◌≡◌, ◌∙◌, ap, subst, refl, ℕ, ◌≤◌, ◌^◌, Bool, IsTrue, List, [], length, Ok, Err, arith}
use Rattle.script_nodes.specs.Setup.{Library}
use Rattle.web_outside.specs.Causes.{Rose}
use Rattle.web_disk.specs.View.{View, LeavesOnly}
use Rattle.web_disk.proofs.Moments.{started}
use Rattle.page_journal.specs.Records.{newest, stored, bodies_of, at_rest}
use Rattle.page_journal.proofs.Frames.{closed_end}
use Rattle.page_journal.specs.Holding.{IsEither}
use Rattle.page_journal.specs.Scanned.{IsQuiet}
use Rattle.page_journal.specs.Settled.{IsSettled, view_of, bodies_in, length_of}
use Rattle.page_journal.specs.declared.journal.Journal.{Journal}
use Rattle.book_recovery.specs.InstanceBook.declared.book.Book.{Book}
use Rattle.book_recovery.proofs.JournalSpec.Standings.{OnlyNow}
use Rattle.file_copies.specs.OfFileNotes.declared.notes.FileNotes.{FileNotes}
use Rattle.file_copies.specs.declared.copying.CopyFault.TheVariants as copy
use Rattle.shelf.specs.declared.compaction.CompactFault.{CompactFault}
use Rattle.shelf.specs.declared.compaction.CompactFault.TheVariants as fault
use Rattle.shelf.specs.declared.compaction.Planned.{Planned}
use Rattle.shelf.specs.Compacting.{length_for, copies_for, IsPlannedFor, IsTooLongFor, IsRoomMade, HasFailedSo, Replaces, Rewrites}
use Rattle.page_journal.proofs.Mending.{leaves_then, leaves_map}
use Rattle.shelf.proofs.Replaced.{left_first, left_then}

-- bytes that are a file of these bodies hold them
pub at_rest_once : (others : List (List ℕ)) (file : List ℕ) → length file ≤ 2 ^ 30 → file ≡ at_rest others → stored file ≡ others
at_rest_once others file fits is = ap stored is ∙ ap bodies_of (closed_end newest others 0 [] refl (omega (arith, fits, ap length is)) (omega arith))

module _ {D : Type 0} (view : D → View) (tells : Bool) (old : Journal D) (notes : FileNotes) (b : Book) (library : Library) where
  abbrev v : View
  v = view_of view old

  still : OnlyNow v → LeavesOnly v v v.images
  still only_now = started v v.images only_now

  -- it was not begun
  pub refused : OnlyNow v → (x : CompactFault) → IsTooLongFor library b notes x → Rewrites view tells old old notes b library (Err x)
  refused only_now (fault.TooLong n) long = record { becomes = (long.0, long.1, refl); later = omega arith }
  refused only_now fault.DiskFault long = absurd long
  refused only_now fault.Memory long = record {
    becomes = record { settled = λ told x. x; seen = refl; images = λ image left. left; moments = still only_now; faults = refl; len = refl; whole = refl; format = refl };
    later = omega arith;
  }

  -- there was no memory to read it
  pub unread_for_memory : (new : Journal D) → IsRoomMade view tells old new → Rewrites view tells old new notes b library (Err fault.Memory)
  unread_for_memory new room = let faults = room.faults in record { becomes = room; later = omega (arith, faults) }

  module _ (planned : Planned) (its : IsPlannedFor library b notes planned) (settled : IsTrue tells → IsSettled view old) where
    abbrev others : List (List ℕ)
    others = copies_for planned.plan.items notes b (bodies_in view old)

    short : length_for library b notes ≤ 2 ^ 30
    short = let low = its.its.short in let long = its.length_is in omega (arith, low, long)

    -- it could not be read
    pub read_failed : (new : Journal D) → IsQuiet v (view_of view new) → HasFailedSo view old new → Rewrites view tells old new notes b library (Err fault.DiskFault)
    read_failed new quiet failed = let later = quiet.faults in record {
      becomes = (record { plan = planned.plan.items; planned = its.plan; moments = λ told. left_first view old newest others (view_of view new) (settled told) quiet.moments }, failed, short);
      later = later;
    }

    -- it was read, and this file is to take its place
    module _ (mid new : Journal D) (quiet : IsQuiet v (view_of view mid)) (format : mid.format ≡ old.format) (len : length_of mid ≡ length_of old) (file : List ℕ) (whole : IsTrue tells → stored file ≡ others) where
      run : IsTrue tells → LeavesOnly (view_of view mid) (view_of view new) (IsEither mid.format newest (bodies_in view mid) (stored file)) → LeavesOnly v (view_of view new) (IsEither old.format newest (bodies_in view old) others)
      run told here =
          left_then view old mid new others (settled told) quiet.moments format quiet.seen
          (subst (λ (bs : List (List ℕ)). LeavesOnly (view_of view mid) (view_of view new) (IsEither mid.format newest (bodies_in view mid) bs)) (whole told) here)

      pub took_place : length file ≡ planned.len → Replaces {T = Unit {0}} view tells mid new file (Ok tt) → Rewrites view tells old new notes b library (Ok planned.notes)
      took_place long done = let one = quiet.faults in let two = done.later in record {
        becomes = (
          record { plan = planned.plan.items; planned = its.plan; moments = λ told. run told (done.moments told) },
          record {
            file = its.file;
            picked = its.its.picked;
            noted = its.noted;
            len = done.becomes.len ∙ (long ∙ its.length_is);
            whole = done.becomes.whole;
            format = done.becomes.format;
            settled = λ told. let both = done.becomes.settled told in (both.0, both.1 ∙ whole told);
          },
          short,
        );
        later = omega (arith, one, two);
      }

      pub no_room_for : Replaces {T = Unit {0}} view tells mid new file (Err copy.Memory) → IsRoomMade view tells old mid → Rewrites view tells old new notes b library (Err fault.Memory)
      no_room_for done first =
          let room = done.becomes in
          let faults = room.faults ∙ first.faults in
          record {
            becomes = record {
              settled = λ told x. room.settled told (first.settled told x);
              seen = room.seen ∙ first.seen;
              images = λ image left. first.images image (room.images image left);
              moments = both_still mid first.moments first.images room.moments;
              faults = faults;
              len = room.len ∙ first.len;
              whole = room.whole ∙ first.whole;
              format = room.format ∙ first.format;
            };
            later = omega (arith, faults);
          }
        where
          both_still : (m : Journal D) → LeavesOnly v (view_of view m) v.images → ((image : List ℕ) → (view_of view m).images image → v.images image) → LeavesOnly (view_of view m) (view_of view new) (view_of view m).images
              → LeavesOnly v (view_of view new) v.images
          both_still m first less second = leaves_then v (view_of view m) (view_of view new) v.images first (leaves_map (view_of view m) (view_of view new) (view_of view m).images v.images less second)

      pub place_in_doubt : Replaces {T = Unit {0}} view tells mid new file (Err copy.DiskFault) → Rewrites view tells old new notes b library (Err fault.DiskFault)
      place_in_doubt done =
          let failed = done.becomes in
          let one = quiet.faults in
          let two = done.later in
          let rose = failed.cause in
          record {
            becomes = (
              record { plan = planned.plan.items; planned = its.plan; moments = λ told. run told (done.moments told) },
              record { cause = rose_since v.faults (view_of view mid).faults (view_of view new).faults one rose; len = failed.len ∙ len; format = failed.format ∙ format },
              short,
            );
            later = omega (arith, one, two);
          }
        where
          rose_since : (before mid_count now : ℕ) → before ≤ mid_count → Rose mid_count now → Rose before now
          rose_since before mid_count now le rose = omega (arith, le, rose)
