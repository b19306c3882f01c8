-- What reading leaves of a disk.
use Rattle.std.proofs.Common.{◌≡◌, inr, ⊎_elim, ℕ, List, IsTrue, Result, Ok, Err, OnOk, arith}
use Rattle.web_disk.specs.View.{View, NoNewImage, Elapses}
use Rattle.web_disk.specs.declared.disk.Disk.{Ghosts}
use Rattle.web_disk.proofs.Moments.{started, goes_on}
use Rattle.disk_trio.specs.Trio.{trio_view}
use Rattle.disk_trio.specs.Laws.{only_left}
use Rattle.disk_trio.specs.declared.trio.Disks.{Disks}
use Rattle.page_journal.specs.Stored.{IsUnwritten}
use Rattle.page_audit.specs.Audits.{IsOnlyRead}

-- nothing is written in two runs of calls, where nothing is in either
pub unwritten_then : (v0 v1 v2 : View) → IsUnwritten v0 v1 → IsUnwritten v1 v2 → IsUnwritten v0 v2
unwritten_then v0 v1 v2 a b = record {
  images = λ image left. a.images image (b.images image left);
  moments = record {
    later = omega (arith, a.moments.later, b.moments.later);
    each = λ image left. ⊎_elim (a.moments.each image) (a.images image) (b.moments.before v0.moment image a.moments.later left);
    before = λ t image le left. ⊎_elim (a.moments.before t image le) (λ now. inr (a.images image now)) (b.moments.before t image (omega (arith, le, a.moments.later)) left);
  };
  faults = omega (arith, a.faults, b.faults);
}

-- nor does a call after which a crash leaves nothing else
pub elapsed_unwritten : (v0 v1 : View) → ((image : List ℕ) → v0.since v0.moment image → v0.images image) → NoNewImage v0 v1 → Elapses v0 v1 → IsUnwritten v0 v1
elapsed_unwritten v0 v1 only_now images time = record { images = images; moments = goes_on v0 v0 v1 v0.images (started v0 v0.images only_now) time images; faults = time.faults }

module _ {D : Type 0} {G : Ghosts D} where
  pub trio_unwritten : (old new : Disks D G) → NoNewImage (trio_view old) (trio_view new) → Elapses (trio_view old) (trio_view new) → IsUnwritten (trio_view old) (trio_view new)
  trio_unwritten old new images time = elapsed_unwritten (trio_view old) (trio_view new) (only_left G old) images time

  -- three disks were only read, where the same bytes are read and nothing was written
  pub only_read : (old new : Disks D G) → (IsTrue G.tells → (trio_view new).seen ≡ (trio_view old).seen) → IsUnwritten (trio_view old) (trio_view new) → IsOnlyRead old new
  only_read old new seen h = record { seen = seen; images = h.images; moments = h.moments; faults = h.faults }

-- what follows from what holds where a call was Ok
pub on_ok : {T E : Type 0} {P Q : Type 0} (r : Result T E) → (P → Q) → OnOk r P → OnOk r Q
on_ok (Ok x) so h = so h
on_ok (Err e) so h = h
