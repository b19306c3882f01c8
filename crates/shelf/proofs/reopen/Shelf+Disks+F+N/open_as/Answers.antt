use Rattle.std.proofs.Common.{◌≡◌, ◌⊎◌, inl, ◌∙◌, true, ap, refl, sym, subst, ⊎_elim, List, IsTrue, [], ◌∷◌, ◌++◌}
use Rattle.std.specs.Prelude.{None, Err}
use Rattle.book_recovery.specs.SetupReader.Texts.{setup_of_texts}
use Rattle.disk_trio.specs.Trio.{trio_view}
use Rattle.disk_trio.specs.Laws.{counts_left, reads_left}
use Rattle.disk_trio.specs.declared.trio.Disks.{Disks}
use Rattle.web_disk.specs.View.{LeavesOnly}
use Rattle.page_journal.proofs.Mending.{leaves_then, leaves_map}
use Rattle.page_journal.specs.Holding.{MayHold, Holdable}
use Rattle.page_journal.specs.Records.{newest}
use Rattle.page_journal.specs.Settled.{bodies_in}
use Rattle.page_journal.specs.declared.journal.Journal.{Journal}
use Rattle.replay_spec.specs.Book.{Book}
use Rattle.journal_records.specs.Records.{follows, body_of}
use Rattle.book_recovery.specs.JournalSpec.Making.{Making, book_of}
use Rattle.book_recovery.specs.JournalSpec.Standing.{Between, HoldIn, StaysThroughout}
use Rattle.book_recovery.proofs.JournalSpec.Standings.{stays_by}
use Rattle.shelf.specs.Opening.{IsOfNow, HasAdded, making_after}
use Rattle.shelf.specs.Owning.{HoldsOwnRecords, HasOwnImages, StaysOwnThroughout}
use Rattle.shelf.specs.Reopening.{opened_bare, bare_bodies, IsOpenedBare}
use Rattle.shelf.specs.declared.begin.BeginFault.TheVariants.{DiskFault}
use Rattle.shelf.specs.declared.shelf.Shelf.{Shelf}
use Rattle.shelf.proofs.Migrated.{bodies_there, making_there, on_now, first_now, bytes_make}
use Rattle.shelf.proofs.Opened.{keeps_read, keeps_as_read}
use Rattle.shelf.proofs.Owned.{recovery_own}
use Rattle.shelf.proofs.OwnOpenings.{records_left}
use Rattle.shelf.proofs.Reopened.{opened_there, open_there, bare_fault, own_bare, holds_bare, stays_bare, HeldBare, still_bare, moving_bare, opening_bare, all_bare}
use Rattle.shelf.proofs.Throughout.{found_there}
use Rattle.shelf.proofs.reopen.Shelf+Disks+F+N.open_as.Goals as goal
use Rattle.shelf.proofs.reopen.Shelf+Disks+F+N.open_as.Goals.{In-Ok-open_bare, After-open_bare}

-- the shelf that is opened
abbrev opened : (g : _) → In-Ok-open_bare g → Shelf (Disks g.row.F.Denot g.F.Disk) g.row.N.Denot
opened g c = record {
  journal = c.open_bare.new.journal;
  book = c.in-Ok-open_bare.book;
  library = c.in-Ok-open_bare.library;
  down = None;
  nonces = c.args.nonces;
  rules = c.args.rules;
  notes = c.open_bare.new.notes;
  follower = c.open_bare.new.follower;
}

-- ---- at each moment

-- on bytes of the newest format it stays between two books
newer : (g : _) (c : After-open_bare g) → IsTrue g.F.Disk.tells → IsOfNow (trio_view c.args.disks) → StaysThroughout setup_of_texts c.args.rules.number (trio_view c.args.disks) (trio_view c.open_bare.new.journal.disk)
newer g c told now =
    let v = trio_view c.args.disks in
    let n = c.args.rules.number in
    let first = c.in-Ok.ensures in
    let still = (c.migrated.ensures.migrates.still (first_now v c.in-Ok.journal now (first.format told) (first.fresh told))).0 in
    let stays = stays_by setup_of_texts n v (trio_view c.in-Ok.journal.disk) (first.any_moment told) (first.closed_stays told) (first.either_stays told) in
    let same = sym (on_now n v (first.intact told) now) ∙ making_there trio_view n v c.in-Ok.journal c.migrated.new.journal (first.intact told) (first.records told) (first.format told) (c.in_default.ensures.migrates.moved told) in
    stays_bare trio_view c.args.fed n c.args.disks c.migrated.new.journal c.open_bare.new.journal c.openings_stay.ensures (c.recoveries_find_one.ensures told) (reads_left g.F.Disk g.met.F.Disk.reads_image c.args.disks told)
    (counts_left g.F.Disk c.migrated.new.journal.disk) same (subst (λ (j : Journal _). StaysThroughout setup_of_texts n v (trio_view j.disk)) (sym still) stays) (c.open_bare.ensures.opened.quiet told)

-- and has the records that it might have had
holding : (g : _) (c : After-open_bare g) → IsTrue g.F.Disk.tells → IsOfNow (trio_view c.args.disks) → (bodies : List (List _)) (body : List _) → Holdable bodies body → (c.args.fed ≡ true → bodies ≡ [] → body ≡ body_of follows)
    → ((image : List _) → (trio_view c.args.disks).images image → MayHold newest bodies body image) → LeavesOnly (trio_view c.args.disks) (trio_view c.open_bare.new.journal.disk) (MayHold newest bodies body)
holding g c told now bodies body room role held =
    let v = trio_view c.args.disks in
    let n = c.args.rules.number in
    let first = c.in-Ok.ensures in
    let still = (c.migrated.ensures.migrates.still (first_now v c.in-Ok.journal now (first.format told) (first.fresh told))).0 in
    let run = first.any_moment told newest bodies body refl room held in
    let one = first.before_or_with told newest bodies body refl room held in
    holds_bare trio_view c.args.fed n c.migrated.new.journal c.open_bare.new.journal (c.open_bare.ensures.opened.quiet told) (c.open_bare.ensures.opened.moments told) v (counts_left g.F.Disk c.migrated.new.journal.disk) bodies body role
    (subst (λ (j : Journal _). LeavesOnly v (trio_view j.disk) (MayHold newest bodies body)) (sym still) run)
    (subst (λ (j : Journal _). (bodies_in trio_view j ≡ bodies) ⊎ (bodies_in trio_view j ≡ bodies ++ body ∷ [])) (sym still) one)

-- on any it is left between the two books, or their migrated ones
moving : (g : _) (c : After-open_bare g) → IsTrue g.F.Disk.tells → (before after : Book) (k : Between setup_of_texts c.args.rules.number before after) → HoldIn k (trio_view c.args.disks).images
    → LeavesOnly (trio_view c.args.disks) (trio_view c.open_bare.new.journal.disk) (HeldBare c.args.rules.number k)
moving g c told before after k held =
    let v = trio_view c.args.disks in
    let n = c.args.rules.number in
    let first = c.in-Ok.ensures in
    let j0 = c.in-Ok.journal in
    let j1 = c.migrated.new.journal in
    let recoveries = c.recoveries_find_one.ensures told in
    let reads = reads_left g.F.Disk g.met.F.Disk.reads_image c.args.disks told in
    let same = bytes_make trio_view n v j0 (first.intact told) (first.records told) (first.format told) in
    let stays = stays_by setup_of_texts n v (trio_view j0.disk) (first.any_moment told) (first.closed_stays told) (first.either_stays told) in
    let counts = counts_left g.F.Disk j0.disk in
    let moved = c.in_default.ensures.migrates in
    all_bare trio_view c.args.fed n c.args.disks j0 j1 recoveries reads same stays counts before after k held c.open_bare.new.journal
    (λ is. newer g c told (λ some. sym is ∙ first.format told some))
    (λ older.
    let w = found_there trio_view [] n c.args.disks j0 j1 recoveries reads same stays counts before after k held in
    opening_bare trio_view c.args.fed n c.args.disks j0 j1 recoveries reads same stays counts before after k held w.0 w.1.1 (moved.done told older w.0 w.1.0) c.open_bare.new.journal (counts_left g.F.Disk j1.disk)
    (ap (book_of setup_of_texts n) (moved.moved told).bodies) (c.open_bare.ensures.opened.quiet told))

-- and own records stay
owning : (g : _) (c : After-open_bare g) → IsTrue g.F.Disk.tells → HasOwnImages c.args.rules.number (trio_view c.args.disks) → StaysOwnThroughout c.args.rules.number (trio_view c.args.disks) (trio_view c.open_bare.new.journal.disk)
owning g c told own =
    let n = c.args.rules.number in
    let v = trio_view c.args.disks in
    let first = c.in-Ok.ensures in
    let j1 = c.migrated.new.journal in
    let begun = recovery_own n v (trio_view c.in-Ok.journal.disk) (first.any_moment told) (first.closed_stays told) (first.either_stays told) own in
    let found = records_left trio_view n v c.in-Ok.journal (first.records told) (first.format told) (reads_left g.F.Disk g.met.F.Disk.reads_image c.args.disks told) own in
    let moving = leaves_then v (trio_view c.in-Ok.journal.disk) (trio_view j1.disk) (HoldsOwnRecords n) begun (c.in_default.ensures.migrates.own_moments told found) in
    leaves_then v (trio_view j1.disk) (trio_view c.open_bare.new.journal.disk) (HoldsOwnRecords n) moving
    (own_bare trio_view c.args.fed n j1 c.open_bare.new.journal (c.open_bare.ensures.opened.quiet told) (c.open_bare.ensures.opened.moments told) c.in_default.ensures.newest (c.in_default.ensures.migrates.moved told).settled (c.in_default.ensures.migrates.own told found))

pub returns-in-Err-clause-any_moment : goal.returns-in-Err-clause-any_moment
returns-in-Err-clause-any_moment g c = λ told now.
    let v = trio_view c.args.disks in
    let w = trio_view c.in-Err.disks in
    let e = c.in-Err.ensures in
    stays_by setup_of_texts c.args.rules.number v w (e.any_moment told) (e.closed_stays told) (e.either_stays told)

pub returns-in-Err-clause-records : goal.returns-in-Err-clause-records
returns-in-Err-clause-records g c = λ told now bodies body room role held. c.in-Err.ensures.any_moment told newest bodies body refl room held

pub returns-in-Err-clause-migration : goal.returns-in-Err-clause-migration
returns-in-Err-clause-migration g c = λ told before after k held.
    let v = trio_view c.args.disks in
    let w = trio_view c.in-Err.disks in
    let e = c.in-Err.ensures in
    leaves_map v w _ (HeldBare c.args.rules.number k) (λ image h. inl h) (stays_by setup_of_texts c.args.rules.number v w (e.any_moment told) (e.closed_stays told) (e.either_stays told) before after k held)

pub returns-in-Err-clause-own_moments : goal.returns-in-Err-clause-own_moments
returns-in-Err-clause-own_moments g c = λ told own.
    let e = c.in-Err.ensures in
    recovery_own c.args.rules.number (trio_view c.args.disks) (trio_view c.in-Err.disks) (e.any_moment told) (e.closed_stays told) (e.either_stays told) own

pub returns-in-Ok-open_bare-clause-opened : goal.returns-in-Ok-open_bare-clause-opened
returns-in-Ok-open_bare-clause-opened g c = λ told.
    let n = c.args.rules.number in
    let v = trio_view c.args.disks in
    let first = c.in-Ok.ensures in
    let parts = c.in-Ok-open_bare.ensures.opened in
    let there = making_there trio_view n v c.in-Ok.journal c.migrated.new.journal (first.intact told) (first.records told) (first.format told) (c.in_default.ensures.migrates.moved told) in
    let is = opened_there trio_view g.F.Disk.tells c.args.fed c.migrated.new.journal (opened g c) refl c.open_bare.ensures.noted c.open_bare.ensures.newest told parts.opened in
    subst (λ (m : Making). IsOpenedBare trio_view m (opened g c)) (parts.makes told ∙ ap (opened_bare c.args.fed n) (sym there)) is

pub returns-in-Ok-open_bare-clause-open : goal.returns-in-Ok-open_bare-clause-open
returns-in-Ok-open_bare-clause-open g c =
    let parts = c.in-Ok-open_bare.ensures.opened in
    open_there trio_view g.F.Disk.tells c.args.fed c.migrated.new.journal (opened g c) refl c.open_bare.ensures.noted c.open_bare.ensures.newest c.records_are_exact.ensures c.requires.range c.open_bare.ensures.sound c.in-Ok-open_bare.ensures.whole parts.settled parts.opened

pub returns-in-Ok-open_bare-clause-any_moment : goal.returns-in-Ok-open_bare-clause-any_moment
returns-in-Ok-open_bare-clause-any_moment g c = λ told now. newer g (goal.at.returns-in-Ok-open_bare-clause-any_moment g c).After-open_bare told now

pub returns-in-Ok-open_bare-clause-records : goal.returns-in-Ok-open_bare-clause-records
returns-in-Ok-open_bare-clause-records g c = λ told now. holding g (goal.at.returns-in-Ok-open_bare-clause-records g c).After-open_bare told now

pub returns-in-Ok-open_bare-clause-migration : goal.returns-in-Ok-open_bare-clause-migration
returns-in-Ok-open_bare-clause-migration g c = λ told before after k held. moving g (goal.at.returns-in-Ok-open_bare-clause-migration g c).After-open_bare told before after k held

pub returns-in-Ok-open_bare-clause-own_moments : goal.returns-in-Ok-open_bare-clause-own_moments
returns-in-Ok-open_bare-clause-own_moments g c = λ told own. owning g (goal.at.returns-in-Ok-open_bare-clause-own_moments g c).After-open_bare told own

pub returns-in-Ok-open_bare-clause-keeps : goal.returns-in-Ok-open_bare-clause-keeps
returns-in-Ok-open_bare-clause-keeps g c = λ told no.
    let n = c.args.rules.number in
    let v = trio_view c.args.disks in
    let j = c.migrated.new.journal in
    let first = c.in-Ok.ensures in
    let moved = c.in_default.ensures.migrates.moved told in
    let same = making_there trio_view n v c.in-Ok.journal j (first.intact told) (first.records told) (first.format told) moved in
    let has = c.in-Ok-open_bare.ensures.opened.keeps told (λ e. let none : ⊥ = cc e in none) in
    keeps_read trio_view n (bare_bodies c.args.fed (making_after n v)) v j c.open_bare.new.journal c.in_default.ensures.newest c.open_bare.ensures.newest moved.settled
    (bodies_there trio_view n v c.in-Ok.journal j (first.intact told) (first.records told) (first.format told) moved) (first.intact told)
    (subst (λ (m : Making). HasAdded trio_view (bare_bodies c.args.fed m) j c.open_bare.new.journal) (sym same) has)

pub returns-in-Err-open_bare-clause-keeps : goal.returns-in-Err-open_bare-clause-keeps
returns-in-Err-open_bare-clause-keeps g c = λ told no.
    let n = c.args.rules.number in
    let v = trio_view c.args.disks in
    let j = c.migrated.new.journal in
    let first = c.in-Ok.ensures in
    let moved = c.in_default.ensures.migrates.moved told in
    let has = c.in-Err-open_bare.ensures.opened.keeps told (λ e. let is : c.in-Err-open_bare.fault ≡ DiskFault = cc e in no (λ i. Err (is i))) in
    let kept = keeps_read trio_view n [] v j c.open_bare.new.journal c.in_default.ensures.newest c.open_bare.ensures.newest moved.settled
    (bodies_there trio_view n v c.in-Ok.journal j (first.intact told) (first.records told) (first.format told) moved) (first.intact told) has in
    rw c.close-in-Err-open_bare.ensures kept

pub returns-in-Err-open_bare-clause-any_moment : goal.returns-in-Err-open_bare-clause-any_moment
returns-in-Err-open_bare-clause-any_moment g c = λ told now. let whole = newer g (goal.at.returns-in-Err-open_bare-clause-any_moment g c).After-open_bare told now in rw c.close-in-Err-open_bare.ensures whole

pub returns-in-Err-open_bare-clause-records : goal.returns-in-Err-open_bare-clause-records
returns-in-Err-open_bare-clause-records g c = λ told now. let whole = holding g (goal.at.returns-in-Err-open_bare-clause-records g c).After-open_bare told now in rw c.close-in-Err-open_bare.ensures whole

pub returns-in-Err-open_bare-clause-own_moments : goal.returns-in-Err-open_bare-clause-own_moments
returns-in-Err-open_bare-clause-own_moments g c = λ told own. let whole = owning g (goal.at.returns-in-Err-open_bare-clause-own_moments g c).After-open_bare told own in rw c.close-in-Err-open_bare.ensures whole

pub returns-in-Err-open_bare-clause-migration : goal.returns-in-Err-open_bare-clause-migration
returns-in-Err-open_bare-clause-migration g c = λ told before after k held. let whole = moving g (goal.at.returns-in-Err-open_bare-clause-migration g c).After-open_bare told before after k held in rw c.close-in-Err-open_bare.ensures whole

pub returns-in-Err-open_bare-clause-refused : goal.returns-in-Err-open_bare-clause-refused
returns-in-Err-open_bare-clause-refused g c = λ told.
    let first = c.in-Ok.ensures in
    bare_fault trio_view c.args.rules.number (trio_view c.args.disks) c.in-Ok.journal c.migrated.new.journal (first.intact told) (first.records told) (first.format told) (c.in_default.ensures.migrates.moved told) c.in-Err-open_bare.fault (c.in-Err-open_bare.ensures.opened.refused told)

pub returns-in-Err-migrated-clause-own_moments : goal.returns-in-Err-migrated-clause-own_moments
returns-in-Err-migrated-clause-own_moments g c = λ told own.
    let n = c.args.rules.number in
    let v = trio_view c.args.disks in
    let first = c.in-Ok.ensures in
    let begun = recovery_own n v (trio_view c.in-Ok.journal.disk) (first.any_moment told) (first.closed_stays told) (first.either_stays told) own in
    let found = records_left trio_view n v c.in-Ok.journal (first.records told) (first.format told) (reads_left g.F.Disk g.met.F.Disk.reads_image c.args.disks told) own in
    let whole = leaves_then v (trio_view c.in-Ok.journal.disk) (trio_view c.migrated.new.journal.disk) (HoldsOwnRecords n) begun (c.in-Err-migrated.ensures.migrates.own_moments told found) in
    rw c.close.ensures whole

pub returns-in-Err-migrated-clause-keeps : goal.returns-in-Err-migrated-clause-keeps
returns-in-Err-migrated-clause-keeps g c = λ told no.
    let first = c.in-Ok.ensures in
    let quiet = c.in-Err-migrated.ensures.migrates.quiet c.in-Err-migrated.fault refl (λ is. no (λ i. Err (is i))) in
    let kept = keeps_as_read trio_view c.args.rules.number (trio_view c.args.disks) c.in-Ok.journal c.migrated.new.journal (first.settled told) (first.records told) (first.format told) (first.intact told) quiet in
    rw c.close.ensures kept

pub returns-in-Err-migrated-clause-migration : goal.returns-in-Err-migrated-clause-migration
returns-in-Err-migrated-clause-migration g c = λ told before after k held.
    let v = trio_view c.args.disks in
    let n = c.args.rules.number in
    let first = c.in-Ok.ensures in
    let j0 = c.in-Ok.journal in
    let j1 = c.migrated.new.journal in
    let recoveries = c.recoveries_find_one.ensures told in
    let reads = reads_left g.F.Disk g.met.F.Disk.reads_image c.args.disks told in
    let same = bytes_make trio_view n v j0 (first.intact told) (first.records told) (first.format told) in
    let stays = stays_by setup_of_texts n v (trio_view j0.disk) (first.any_moment told) (first.closed_stays told) (first.either_stays told) in
    let counts = counts_left g.F.Disk j0.disk in
    let tried = c.in-Err-migrated.ensures.migrates in
    let w = found_there trio_view [] n c.args.disks j0 j1 recoveries reads same stays counts before after k held in
    let whole = ⊎_elim (still_bare trio_view c.args.fed n c.args.disks j0 j1 recoveries reads same stays counts before after k held)
    (moving_bare trio_view c.args.fed n c.args.disks j0 j1 recoveries reads same stays counts before after k held w.0 w.1.1)
    (tried.moves told (λ now. let never : ⊥ = cc (tried.still now).1 in never) w.0 w.1.0) in
    rw c.close.ensures whole
