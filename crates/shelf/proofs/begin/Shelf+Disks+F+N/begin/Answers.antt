use Rattle.std.proofs.Common.{◌≡◌, ◌∙◌, ap, refl, sym, subst, ⊎_elim, IsTrue, []}
use Rattle.std.specs.Prelude.{None, Err}
use Rattle.book_recovery.specs.SetupReader.Texts.{setup_of_texts}
use Rattle.script_nodes.specs.Views.{scripts_of}
use Rattle.disk_trio.specs.Trio.{trio_view}
use Rattle.disk_trio.specs.Laws.{counts_left, reads_left}
use Rattle.disk_trio.specs.declared.trio.Disks.{Disks}
use Rattle.page_journal.proofs.Mending.{leaves_then}
use Rattle.page_journal.specs.declared.journal.Journal.{Journal}
use Rattle.book_recovery.proofs.JournalSpec.Standings.{stays_by}
use Rattle.page_journal.specs.Settled.{bodies_in}
use Rattle.shelf.specs.Opening.{making_on, making_after, opening_bodies, HasAdded}
use Rattle.book_recovery.specs.JournalSpec.Making.{Making}
use Rattle.shelf.specs.Owning.{HoldsOwnRecords}
use Rattle.shelf.specs.Faults.{begin_fault}
use Rattle.shelf.specs.declared.begin.BeginFault.TheVariants.{DiskFault, Full}
use Rattle.shelf.proofs.Owned.{recovery_own}
use Rattle.shelf.proofs.OwnOpenings.{records_found, records_left}
use Rattle.shelf.proofs.Openings.{one_of_there, made_there}
use Rattle.shelf.proofs.Opened.{opened_makes, opened_again, opened_order, opened_is_own, opens_all, keeps_read, keeps_as_read, full_still, anew_still, never_full}
use Rattle.book_recovery.specs.JournalSpec.Standing.{StaysThroughout}
use Rattle.shelf.specs.Migrating.{IsMigrationFault}
use Rattle.shelf.proofs.Migrated.{bodies_there, fits_there, making_there, on_now, first_now, refused_there, refused_moving, bytes_make}
use Rattle.web_disk.specs.View.{LeavesOnly}
use Rattle.replay_spec.specs.Book.{Book}
use Rattle.book_recovery.specs.JournalSpec.Making.{book_of}
use Rattle.book_recovery.specs.JournalSpec.Standing.{Between, HoldIn, OpensThroughout}
use Rattle.shelf.specs.Opening.{IsOfNow}
use Rattle.shelf.proofs.Throughout.{HeldAnew, recovery_leaves, found_there, still_held, moving_held, opening_held, all_held}
use Rattle.shelf.specs.Views.{book_in}
use Rattle.shelf.specs.declared.shelf.Shelf.{Shelf}
use Rattle.shelf.proofs.begin.Shelf+Disks+F+N.begin.Goals as goal
use Rattle.shelf.proofs.begin.Shelf+Disks+F+N.begin.Goals.{In-Ok-open, After-open}

-- the shelf that is opened
abbrev opened : (g : _) → In-Ok-open g → Shelf (Disks g.row.F.Denot g.F.Disk) g.row.N.Denot
opened g c = record {
  journal = c.open.new.journal;
  book = c.in-Ok-open.book;
  library = c.in-Ok-open.library;
  down = None;
  nonces = c.args.nonces;
  rules = c.args.rules;
  notes = c.open.new.notes;
  follower = c.open.new.follower;
}

-- ---- the journal was not opened

pub returns-in-Err-clause-any_moment : goal.returns-in-Err-clause-any_moment
returns-in-Err-clause-any_moment g c = λ told now.
    let v = trio_view c.args.disks in
    let w = trio_view c.in-Err.disks in
    let e = c.in-Err.ensures in
    (c.openings_stay.ensures setup_of_texts c.args.rules.number (scripts_of c.args.setup.now) c.args.disks c.in-Err.disks (stays_by setup_of_texts c.args.rules.number v w (e.any_moment told) (e.closed_stays told) (e.either_stays told))).0

pub returns-in-Err-clause-own_moments : goal.returns-in-Err-clause-own_moments
returns-in-Err-clause-own_moments g c = λ told own.
    let e = c.in-Err.ensures in
    recovery_own c.args.rules.number (trio_view c.args.disks) (trio_view c.in-Err.disks) (e.any_moment told) (e.closed_stays told) (e.either_stays told) own

pub returns-in-Err-clause-full : goal.returns-in-Err-clause-full
returns-in-Err-clause-full g c = λ told len is.
    let no : begin_fault c.in-Err.fault ≡ Full len = cc (is, c.fault_by.ensures) in absurd (never_full c.in-Err.fault len no)

-- ---- the shelf was opened

pub returns-in-Ok-open-clause-book : goal.returns-in-Ok-open-clause-book
returns-in-Ok-open-clause-book g c = λ told.
    let v = trio_view c.args.disks in
    let first = c.in-Ok.ensures in
    let moved = c.in-Ok-migrated.ensures.migrates.moved told in
    opened_makes trio_view g.F.Disk.tells (opened g c) refl c.in-Ok-open.ensures.noted c.in-Ok-open.ensures.newest c.in-Ok-open.ensures.known told (scripts_of c.args.setup.now) v c.migrated.new.journal
    (making_there trio_view c.args.rules.number v c.in-Ok.journal c.migrated.new.journal (first.intact told) (first.records told) (first.format told) moved) (c.in-Ok-open.ensures.opened.begun told)

pub returns-in-Ok-open-clause-opened : goal.returns-in-Ok-open-clause-opened
returns-in-Ok-open-clause-opened g c = record {
  again = opened_again trio_view g.F.Disk.tells (opened g c) refl c.in-Ok-open.ensures.noted c.in-Ok-open.ensures.newest c.in-Ok-open.ensures.known c.in-Ok-open.ensures.opened.in_order;
  setup = c.in-Ok-open.ensures.opened.setup;
}

pub returns-in-Ok-open-clause-one_of : goal.returns-in-Ok-open-clause-one_of
returns-in-Ok-open-clause-one_of g c = λ told now.
    let v = trio_view c.args.disks in
    let ss = scripts_of c.args.setup.now in
    let n = c.args.rules.number in
    let first = c.in-Ok.ensures in
    let moved = c.in-Ok-migrated.ensures.migrates.moved told in
    let same = on_now n v (first.intact told) now in
    let makes = opened_makes trio_view g.F.Disk.tells (opened g c) refl c.in-Ok-open.ensures.noted c.in-Ok-open.ensures.newest c.in-Ok-open.ensures.known told ss v c.migrated.new.journal
    (making_there trio_view n v c.in-Ok.journal c.migrated.new.journal (first.intact told) (first.records told) (first.format told) moved) (c.in-Ok-open.ensures.opened.begun told) in
    one_of_there ss n v (making_on n v) (book_in trio_view (opened g c)) (λ m is. (c.recoveries_find_one.ensures told setup_of_texts n c.args.disks m).1 ss is)
    (opened_again trio_view g.F.Disk.tells (opened g c) refl c.in-Ok-open.ensures.noted c.in-Ok-open.ensures.newest c.in-Ok-open.ensures.known c.in-Ok-open.ensures.opened.in_order)
    (made_there ss n (making_on n v) (making_after n v) (book_in trio_view (opened g c)) (sym same) makes)

-- on bytes of the newest format the journal is left as it was opened
newer : (g : _) (c : After-open g) → IsTrue g.F.Disk.tells → IsOfNow (trio_view c.args.disks) → OpensThroughout setup_of_texts c.args.rules.number (scripts_of c.args.setup.now) (trio_view c.args.disks) (trio_view c.open.new.journal.disk)
newer g c told now =
    let v = trio_view c.args.disks in
    let ss = scripts_of c.args.setup.now in
    let n = c.args.rules.number in
    let first = c.in-Ok.ensures in
    let still = (c.migrated.ensures.migrates.still (first_now v c.in-Ok.journal now (first.format told) (first.fresh told))).0 in
    let stays = stays_by setup_of_texts n v (trio_view c.in-Ok.journal.disk) (first.any_moment told) (first.closed_stays told) (first.either_stays told) in
    let same = sym (on_now n v (first.intact told) now) ∙ making_there trio_view n v c.in-Ok.journal c.migrated.new.journal (first.intact told) (first.records told) (first.format told) (c.in-Ok-migrated.ensures.migrates.moved told) in
    opens_all trio_view ss n c.args.disks c.migrated.new.journal c.open.new.journal c.openings_stay.ensures (c.recoveries_find_one.ensures told) (reads_left g.F.Disk g.met.F.Disk.reads_image c.args.disks told)
    (counts_left g.F.Disk c.migrated.new.journal.disk) same (subst (λ (j : Journal _). StaysThroughout setup_of_texts n v (trio_view j.disk)) (sym still) stays) (c.open.ensures.opened.quiet told)

-- on any it is left between the two books, or their migrated ones
moving : (g : _) (c : After-open g) → IsTrue g.F.Disk.tells → (before after : Book) (k : Between setup_of_texts c.args.rules.number before after) → HoldIn k (trio_view c.args.disks).images
    → LeavesOnly (trio_view c.args.disks) (trio_view c.open.new.journal.disk) (HeldAnew c.args.rules.number (scripts_of c.args.setup.now) k)
moving g c told before after k held =
    let v = trio_view c.args.disks in
    let ss = scripts_of c.args.setup.now in
    let n = c.args.rules.number in
    let first = c.in-Ok.ensures in
    let j0 = c.in-Ok.journal in
    let j1 = c.migrated.new.journal in
    let recoveries = c.recoveries_find_one.ensures told in
    let reads = reads_left g.F.Disk g.met.F.Disk.reads_image c.args.disks told in
    let same = bytes_make trio_view n v j0 (first.intact told) (first.records told) (first.format told) in
    let stays = stays_by setup_of_texts n v (trio_view j0.disk) (first.any_moment told) (first.closed_stays told) (first.either_stays told) in
    let counts = counts_left g.F.Disk j0.disk in
    let moved = c.in-Ok-migrated.ensures.migrates in
    all_held trio_view ss n c.args.disks j0 j1 recoveries reads same stays counts before after k held c.open.new.journal
    (λ is. newer g c told (λ some. sym is ∙ first.format told some))
    (λ older.
    let w = found_there trio_view ss n c.args.disks j0 j1 recoveries reads same stays counts before after k held in
    opening_held trio_view ss n c.args.disks j0 j1 recoveries reads same stays counts before after k held w.0 w.1.1 (moved.done told older w.0 w.1.0) c.open.new.journal (counts_left g.F.Disk j1.disk)
    (ap (book_of setup_of_texts n) (moved.moved told).bodies) (c.open.ensures.opened.quiet told))

pub returns-in-Ok-open-clause-any_moment : goal.returns-in-Ok-open-clause-any_moment
returns-in-Ok-open-clause-any_moment g c = λ told now. newer g (goal.at.returns-in-Ok-open-clause-any_moment g c).After-open told now

pub returns-in-Ok-open-clause-migration : goal.returns-in-Ok-open-clause-migration
returns-in-Ok-open-clause-migration g c = λ told before after k held. moving g (goal.at.returns-in-Ok-open-clause-migration g c).After-open told before after k held

pub returns-in-Ok-open-clause-in_order : goal.returns-in-Ok-open-clause-in_order
returns-in-Ok-open-clause-in_order g c =
    let o = c.in-Ok-open.ensures.opened in
    opened_order trio_view g.F.Disk.tells (opened g c) refl c.in-Ok-open.ensures.noted c.in-Ok-open.ensures.newest c.in-Ok-open.ensures.known o.in_order c.requires.range c.open.ensures.sound c.in-Ok-open.ensures.whole o.fit o.told c.in-Ok-open.ensures.follows

pub returns-in-Ok-open-clause-own : goal.returns-in-Ok-open-clause-own
returns-in-Ok-open-clause-own g c = λ told own.
    let first = c.in-Ok.ensures in
    let found = records_found trio_view c.args.rules.number (trio_view c.args.disks) c.in-Ok.journal (first.records told) (first.format told) own in
    opened_is_own trio_view g.F.Disk.tells (opened g c) refl c.in-Ok-open.ensures.noted c.in-Ok-open.ensures.newest c.in-Ok-open.ensures.known c.in-Ok-open.ensures.opened.fit
    (c.in-Ok-open.ensures.own told (c.in-Ok-migrated.ensures.migrates.own told found))

pub returns-in-Ok-open-clause-own_moments : goal.returns-in-Ok-open-clause-own_moments
returns-in-Ok-open-clause-own_moments g c = λ told own.
    let n = c.args.rules.number in
    let v = trio_view c.args.disks in
    let first = c.in-Ok.ensures in
    let begun = recovery_own n v (trio_view c.in-Ok.journal.disk) (first.any_moment told) (first.closed_stays told) (first.either_stays told) own in
    let found = records_left trio_view n v c.in-Ok.journal (first.records told) (first.format told) (reads_left g.F.Disk g.met.F.Disk.reads_image c.args.disks told) own in
    let moving = leaves_then v (trio_view c.in-Ok.journal.disk) (trio_view c.migrated.new.journal.disk) (HoldsOwnRecords n) begun (c.in-Ok-migrated.ensures.migrates.own_moments told found) in
    leaves_then v (trio_view c.migrated.new.journal.disk) (trio_view c.open.new.journal.disk) (HoldsOwnRecords n) moving (c.open.ensures.opened.own_moments told (c.in-Ok-migrated.ensures.migrates.own told found))

pub returns-in-Ok-open-clause-keeps : goal.returns-in-Ok-open-clause-keeps
returns-in-Ok-open-clause-keeps g c = λ told no.
    let ss = scripts_of c.args.setup.now in
    let n = c.args.rules.number in
    let v = trio_view c.args.disks in
    let j = c.migrated.new.journal in
    let first = c.in-Ok.ensures in
    let moved = c.in-Ok-migrated.ensures.migrates.moved told in
    let same = making_there trio_view n v c.in-Ok.journal j (first.intact told) (first.records told) (first.format told) moved in
    let has = c.in-Ok-open.ensures.opened.keeps told (λ e. let none : ⊥ = cc e in none) in
    keeps_read trio_view n (opening_bodies ss n (making_after n v)) v j c.open.new.journal c.in-Ok-migrated.ensures.newest c.in-Ok-open.ensures.newest moved.settled
    (bodies_there trio_view n v c.in-Ok.journal j (first.intact told) (first.records told) (first.format told) moved) (first.intact told)
    (subst (λ (m : Making). HasAdded trio_view (opening_bodies ss n m) j c.open.new.journal) (sym same) has)

pub returns-in-Ok-open-clause-fits : goal.returns-in-Ok-open-clause-fits
returns-in-Ok-open-clause-fits g c = λ told.
    let first = c.in-Ok.ensures in
    fits_there trio_view c.args.rules.number (trio_view c.args.disks) c.in-Ok.journal c.migrated.new.journal (first.intact told) (first.records told) (first.format told) (c.in-Ok-migrated.ensures.migrates.moved told)

-- ---- it was not, after a journal that was

pub returns-in-Err-open-clause-any_moment : goal.returns-in-Err-open-clause-any_moment
returns-in-Err-open-clause-any_moment g c = λ told now. let whole = newer g (goal.at.returns-in-Err-open-clause-any_moment g c).After-open told now in rw c.close.ensures whole

pub returns-in-Err-open-clause-migration : goal.returns-in-Err-open-clause-migration
returns-in-Err-open-clause-migration g c = λ told before after k held.
    let whole = moving g (goal.at.returns-in-Err-open-clause-migration g c).After-open told before after k held in rw c.close.ensures whole

pub returns-in-Err-open-clause-own_moments : goal.returns-in-Err-open-clause-own_moments
returns-in-Err-open-clause-own_moments g c = λ told own.
    let n = c.args.rules.number in
    let v = trio_view c.args.disks in
    let first = c.in-Ok.ensures in
    let begun = recovery_own n v (trio_view c.in-Ok.journal.disk) (first.any_moment told) (first.closed_stays told) (first.either_stays told) own in
    let found = records_left trio_view n v c.in-Ok.journal (first.records told) (first.format told) (reads_left g.F.Disk g.met.F.Disk.reads_image c.args.disks told) own in
    let moving = leaves_then v (trio_view c.in-Ok.journal.disk) (trio_view c.migrated.new.journal.disk) (HoldsOwnRecords n) begun (c.in-Ok-migrated.ensures.migrates.own_moments told found) in
    let whole = leaves_then v (trio_view c.migrated.new.journal.disk) (trio_view c.open.new.journal.disk) (HoldsOwnRecords n) moving (c.open.ensures.opened.own_moments told (c.in-Ok-migrated.ensures.migrates.own told found)) in
    rw c.close.ensures whole

pub returns-in-Err-open-clause-keeps : goal.returns-in-Err-open-clause-keeps
returns-in-Err-open-clause-keeps g c = λ told no.
    let n = c.args.rules.number in
    let v = trio_view c.args.disks in
    let j = c.migrated.new.journal in
    let first = c.in-Ok.ensures in
    let moved = c.in-Ok-migrated.ensures.migrates.moved told in
    let has = c.in-Err-open.ensures.opened.keeps told (λ e. let is : c.in-Err-open.fault ≡ DiskFault = cc e in no (λ i. Err (is i))) in
    let kept = keeps_read trio_view n [] v j c.open.new.journal c.in-Ok-migrated.ensures.newest c.open.ensures.newest moved.settled
    (bodies_there trio_view n v c.in-Ok.journal j (first.intact told) (first.records told) (first.format told) moved) (first.intact told) has in
    rw c.close.ensures kept

pub returns-in-Err-open-clause-full : goal.returns-in-Err-open-clause-full
returns-in-Err-open-clause-full g c = λ told len is.
    let j = c.migrated.new.journal in
    let moved = c.in-Ok-migrated.ensures.migrates.moved told in
    let same : c.in-Err-open.fault ≡ Full len = cc is in
    let has = c.in-Err-open.ensures.opened.keeps told (λ e. let other : Full len ≡ DiskFault = cc (e, same) in let none : ⊥ = cc other in none) in
    let still = full_still trio_view (scripts_of c.args.setup.now) c.args.rules.number j c.open.new.journal c.in-Err-open.fault len same c.in-Ok-migrated.ensures.newest c.open.ensures.newest
    moved.settled has (c.in-Err-open.ensures.opened.refused told) in
    rw c.close.ensures still

-- ---- the file of an older format did not give place

pub returns-in-Err-migrated-clause-own_moments : goal.returns-in-Err-migrated-clause-own_moments
returns-in-Err-migrated-clause-own_moments g c = λ told own.
    let n = c.args.rules.number in
    let v = trio_view c.args.disks in
    let first = c.in-Ok.ensures in
    let begun = recovery_own n v (trio_view c.in-Ok.journal.disk) (first.any_moment told) (first.closed_stays told) (first.either_stays told) own in
    let found = records_left trio_view n v c.in-Ok.journal (first.records told) (first.format told) (reads_left g.F.Disk g.met.F.Disk.reads_image c.args.disks told) own in
    let whole = leaves_then v (trio_view c.in-Ok.journal.disk) (trio_view c.migrated.new.journal.disk) (HoldsOwnRecords n) begun (c.in-Err-migrated.ensures.migrates.own_moments told found) in
    rw c.close-in-Err-migrated.ensures whole

pub returns-in-Err-migrated-clause-any_moment : goal.returns-in-Err-migrated-clause-any_moment
returns-in-Err-migrated-clause-any_moment g c = λ told now.
    let first = c.in-Ok.ensures in
    let done = (c.in-Err-migrated.ensures.migrates.still (first_now (trio_view c.args.disks) c.in-Ok.journal now (first.format told) (first.fresh told))).1 in
    let never : ⊥ = cc done in absurd never

pub returns-in-Err-migrated-clause-keeps : goal.returns-in-Err-migrated-clause-keeps
returns-in-Err-migrated-clause-keeps g c = λ told no.
    let first = c.in-Ok.ensures in
    let quiet = c.in-Err-migrated.ensures.migrates.quiet c.in-Err-migrated.unmoved refl (λ is. no (λ i. Err (is i))) in
    let kept = keeps_as_read trio_view c.args.rules.number (trio_view c.args.disks) c.in-Ok.journal c.migrated.new.journal (first.settled told) (first.records told) (first.format told) (first.intact told) quiet in
    rw c.close-in-Err-migrated.ensures kept

pub returns-in-Err-migrated-clause-full : goal.returns-in-Err-migrated-clause-full
returns-in-Err-migrated-clause-full g c = λ told len is.
    let first = c.in-Ok.ensures in
    let j = c.in-Ok.journal in
    let same : c.in-Err-migrated.unmoved ≡ Full len = cc is in
    let quiet = c.in-Err-migrated.ensures.migrates.quiet c.in-Err-migrated.unmoved refl (λ e. let other : Full len ≡ DiskFault = sym same ∙ e in let none : ⊥ = cc other in none) in
    let long = subst (IsMigrationFault j.format c.args.rules.number (bodies_in trio_view j)) same (c.in-Err-migrated.ensures.migrates.refused told) in
    let still = anew_still trio_view (scripts_of c.args.setup.now) c.args.rules.number j c.migrated.new.journal len (first.settled told) quiet long in
    rw c.close-in-Err-migrated.ensures still

-- why it was not, after a journal that was opened

pub returns-in-Err-open-clause-refused : goal.returns-in-Err-open-clause-refused
returns-in-Err-open-clause-refused g c = λ told.
    let first = c.in-Ok.ensures in
    refused_there trio_view (scripts_of c.args.setup.now) c.args.rules.number (trio_view c.args.disks) c.in-Ok.journal c.migrated.new.journal (first.intact told) (first.records told) (first.format told) (c.in-Ok-migrated.ensures.migrates.moved told)
    c.in-Err-open.fault (c.in-Err-open.ensures.opened.refused told)

pub returns-in-Err-migrated-clause-refused : goal.returns-in-Err-migrated-clause-refused
returns-in-Err-migrated-clause-refused g c = λ told.
    let first = c.in-Ok.ensures in
    refused_moving trio_view (scripts_of c.args.setup.now) c.args.rules.number (trio_view c.args.disks) c.in-Ok.journal (first.intact told) (first.records told) (first.format told) c.in-Err-migrated.unmoved (c.in-Err-migrated.ensures.migrates.refused told)

pub returns-in-Err-clause-migration : goal.returns-in-Err-clause-migration
returns-in-Err-clause-migration g c = λ told.
    let v = trio_view c.args.disks in
    let w = trio_view c.in-Err.disks in
    let e = c.in-Err.ensures in
    recovery_leaves c.args.rules.number (scripts_of c.args.setup.now) v w (stays_by setup_of_texts c.args.rules.number v w (e.any_moment told) (e.closed_stays told) (e.either_stays told))

pub returns-in-Err-migrated-clause-migration : goal.returns-in-Err-migrated-clause-migration
returns-in-Err-migrated-clause-migration g c = λ told before after k held.
    let v = trio_view c.args.disks in
    let ss = scripts_of c.args.setup.now in
    let n = c.args.rules.number in
    let first = c.in-Ok.ensures in
    let j0 = c.in-Ok.journal in
    let j1 = c.migrated.new.journal in
    let recoveries = c.recoveries_find_one.ensures told in
    let reads = reads_left g.F.Disk g.met.F.Disk.reads_image c.args.disks told in
    let same = bytes_make trio_view n v j0 (first.intact told) (first.records told) (first.format told) in
    let stays = stays_by setup_of_texts n v (trio_view j0.disk) (first.any_moment told) (first.closed_stays told) (first.either_stays told) in
    let counts = counts_left g.F.Disk j0.disk in
    let tried = c.in-Err-migrated.ensures.migrates in
    let w = found_there trio_view ss n c.args.disks j0 j1 recoveries reads same stays counts before after k held in
    let whole = ⊎_elim (still_held trio_view ss n c.args.disks j0 j1 recoveries reads same stays counts before after k held)
    (moving_held trio_view ss n c.args.disks j0 j1 recoveries reads same stays counts before after k held w.0 w.1.1)
    (tried.moves told (λ now. let never : ⊥ = cc (tried.still now).1 in never) w.0 w.1.0) in
    rw c.close-in-Err-migrated.ensures whole
