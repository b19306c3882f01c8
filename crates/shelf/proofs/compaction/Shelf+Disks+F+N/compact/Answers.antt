use Rattle.std.proofs.Common.{◌≡◌, ◌∙◌, ap, sym, subst, ℕ, Option, Some, option_map}
use Rattle.disk_trio.specs.Trio.{trio_view}
use Rattle.disk_trio.specs.Laws.{only_left, counts_left, reads_left}
use Rattle.page_journal.specs.Settled.{length_of}
use Rattle.replay_spec.specs.Step as step
use Rattle.script_value.specs.declared.outcome.Reply.{Reply}
use Rattle.book_visits.specs.Views.{reply_of}
use Rattle.shelf.specs.declared.compaction.CompactFault.{CompactFault}
use Rattle.shelf.specs.declared.compaction.CompactFault.TheVariants as fault
use Rattle.shelf.specs.Compacting.{Rewrites}
use Rattle.shelf.specs.Views.{library_in, book_in, IsEvent}
use Rattle.shelf.proofs.Order.{quiet}
use Rattle.shelf.proofs.Quiet.{untouched, alone}
use Rattle.shelf.proofs.Steps.{barred_by, barred_compact}
use Rattle.shelf.proofs.Publishing.{bar_count}
use Rattle.shelf.proofs.Compacting.{Compacts, Laws, landed_compacts, doubted_compacts}
use Rattle.std.specs.Prelude.{Err}
use Rattle.shelf.specs.declared.doubt.Work.TheVariants.{Compacts as DoubtedCompacts}
use Rattle.shelf.proofs.Compacted.{kept_back, too_long, wanting, full_disk, wanting_disk}
use Rattle.shelf.proofs.compaction.Shelf+Disks+F+N.compact.Goals as goal
use Rattle.shelf.proofs.compaction.Shelf+Disks+F+N.compact.Goals.{In-Some, In-Ok, In-Err-DiskFault, In-Err-TooLong, In-Err-Memory}

-- a shelf that is barred

bars : (g : _) (c : In-Some g) → step.barred (book_in trio_view c.args.self.now) ≡ Some (reply_of c.in-Some.reply)
bars g c = sym c.barred.ensures.barred ∙ ap (λ (o : Option Reply). option_map reply_of o) c.in-Some.is

turned : (g : _) (c : In-Some g) → Compacts trio_view g.F.Disk.tells g.N.Nonces.nonce c.args.self.now c.args.self.now (reply_of c.in-Some.reply)
turned g c =
    let s = c.args.self.now in
    let r = c.in-Some.reply in
    kept_back trio_view g.F.Disk.tells g.N.Nonces.nonce s c.requires.in_order (only_left g.F.Disk s.journal.disk) (reply_of r) (λ given. quiet r given) (barred_compact s.rules (book_in trio_view s) (reply_of r) (bars g c))

pub returns-in-Some-clause-event : goal.returns-in-Some-clause-event
returns-in-Some-clause-event g c = (turned g (goal.at.returns-in-Some-clause-event g c).In-Some).event

pub returns-in-Some-clause-tickets : goal.returns-in-Some-clause-tickets
returns-in-Some-clause-tickets g c = λ t h. h

pub returns-in-Some-clause-any_moment : goal.returns-in-Some-clause-any_moment
returns-in-Some-clause-any_moment g c = (turned g (goal.at.returns-in-Some-clause-any_moment g c).In-Some).any_moment

pub returns-in-Some-clause-own_moments : goal.returns-in-Some-clause-own_moments
returns-in-Some-clause-own_moments g c = (turned g (goal.at.returns-in-Some-clause-own_moments g c).In-Some).own_moments

pub returns-in-Some-clause-quiet : goal.returns-in-Some-clause-quiet
returns-in-Some-clause-quiet g c = alone c.in-Some.reply (untouched (trio_view c.args.self.now.journal.disk))

pub returns-in-Some-clause-cause : goal.returns-in-Some-clause-cause
returns-in-Some-clause-cause g c =
    let b = book_in trio_view c.args.self.now in
    bar_count c.in-Some.reply _ _ (barred_by b (reply_of c.in-Some.reply) (bars g (goal.at.returns-in-Some-clause-cause g c).In-Some))

-- the new file took the place of the old one

landed : (g : _) (c : In-Ok g) → Compacts trio_view g.F.Disk.tells g.N.Nonces.nonce c.args.self.now (record c.args.self.now { journal = c.rewritten.new.journal; notes = c.in-Ok.notes }) (step.compacted (length_of c.rewritten.new.journal))
landed g c =
    let s = c.args.self.now in
    let done = c.in-Ok.ensures.rewritten.becomes in
    let laws : Laws = record { books = c.copies_make_the_book.ensures; own = c.copies_are_own.ensures; between = c.compactions_stand_between.ensures } in
    landed_compacts trio_view g.F.Disk.tells g.N.Nonces.nonce s c.requires.in_order (c.barred.ensures.free c.in_default.is) laws done.0.plan done.0.planned c.rewritten.new.journal c.in-Ok.notes done.1 done.2 c.rewritten.ensures.sound done.0.moments
    (only_left g.F.Disk s.journal.disk) (λ told. reads_left g.F.Disk g.met.F.Disk.reads_image s.journal.disk told)

pub returns-in-Ok-clause-event : goal.returns-in-Ok-clause-event
returns-in-Ok-clause-event g c =
    let at = (goal.at.returns-in-Ok-clause-event g c).In-Ok in
    subst (λ (n : ℕ). IsEvent trio_view g.N.Nonces.nonce c.args.self.now (record c.args.self.now { journal = c.rewritten.new.journal; notes = c.in-Ok.notes }) step.compact (step.compacted n)) (sym c.len.ensures.len) (landed g at).event

pub returns-in-Ok-clause-in_order : goal.returns-in-Ok-clause-in_order
returns-in-Ok-clause-in_order g c = (landed g (goal.at.returns-in-Ok-clause-in_order g c).In-Ok).in_order

pub returns-in-Ok-clause-tickets : goal.returns-in-Ok-clause-tickets
returns-in-Ok-clause-tickets g c = (landed g (goal.at.returns-in-Ok-clause-tickets g c).In-Ok).tickets

pub returns-in-Ok-clause-own : goal.returns-in-Ok-clause-own
returns-in-Ok-clause-own g c = (landed g (goal.at.returns-in-Ok-clause-own g c).In-Ok).own

pub returns-in-Ok-clause-any_moment : goal.returns-in-Ok-clause-any_moment
returns-in-Ok-clause-any_moment g c = (landed g (goal.at.returns-in-Ok-clause-any_moment g c).In-Ok).any_moment

pub returns-in-Ok-clause-own_moments : goal.returns-in-Ok-clause-own_moments
returns-in-Ok-clause-own_moments g c = (landed g (goal.at.returns-in-Ok-clause-own_moments g c).In-Ok).own_moments

-- it is in doubt

faulted : (g : _) (c : In-Err-DiskFault g) → let s = c.args.self.now in Rewrites trio_view g.F.Disk.tells s.journal c.rewritten.new.journal s.notes s.book (library_in s) (Err fault.DiskFault)
faulted g c =
    let s = c.args.self.now in
    let P : CompactFault → Type 0 = λ y. Rewrites trio_view g.F.Disk.tells s.journal c.rewritten.new.journal s.notes s.book (library_in s) (Err y) in
    subst P c.in-Err-DiskFault.field-0-is c.in-Err-DiskFault.ensures.rewritten

doubted : (g : _) (c : In-Err-DiskFault g) (count : ℕ)
    → Compacts trio_view g.F.Disk.tells g.N.Nonces.nonce c.args.self.now (record c.args.self.now { journal = c.rewritten.new.journal; down = Some (record { count = count; work = DoubtedCompacts }) }) (step.disk_failed count)
doubted g c count =
    let s = c.args.self.now in
    let done = (faulted g c).becomes in
    let failed = done.1 in
    let laws : Laws = record { books = c.copies_make_the_book.ensures; own = c.copies_are_own.ensures; between = c.compactions_stand_between.ensures } in
    doubted_compacts trio_view g.F.Disk.tells g.N.Nonces.nonce s c.requires.in_order (c.barred.ensures.free c.in_default.is) laws done.0.plan done.0.planned c.rewritten.new.journal count failed.len (failed.format ∙ c.requires.in_order.knows.newest_is) done.2 c.rewritten.ensures.sound
    done.0.moments (only_left g.F.Disk s.journal.disk) (counts_left g.F.Disk c.rewritten.new.journal.disk) (λ told. reads_left g.F.Disk g.met.F.Disk.reads_image s.journal.disk told)

pub returns-in-Err-DiskFault-clause-event : goal.returns-in-Err-DiskFault-clause-event
returns-in-Err-DiskFault-clause-event g c = (doubted g (goal.at.returns-in-Err-DiskFault-clause-event g c).In-Err-DiskFault c.faults-count.result).event

pub returns-in-Err-DiskFault-clause-in_order : goal.returns-in-Err-DiskFault-clause-in_order
returns-in-Err-DiskFault-clause-in_order g c = (doubted g (goal.at.returns-in-Err-DiskFault-clause-in_order g c).In-Err-DiskFault c.faults-count.result).in_order

pub returns-in-Err-DiskFault-clause-tickets : goal.returns-in-Err-DiskFault-clause-tickets
returns-in-Err-DiskFault-clause-tickets g c = (doubted g (goal.at.returns-in-Err-DiskFault-clause-tickets g c).In-Err-DiskFault c.faults-count.result).tickets

pub returns-in-Err-DiskFault-clause-own : goal.returns-in-Err-DiskFault-clause-own
returns-in-Err-DiskFault-clause-own g c = (doubted g (goal.at.returns-in-Err-DiskFault-clause-own g c).In-Err-DiskFault c.faults-count.result).own

pub returns-in-Err-DiskFault-clause-any_moment : goal.returns-in-Err-DiskFault-clause-any_moment
returns-in-Err-DiskFault-clause-any_moment g c = (doubted g (goal.at.returns-in-Err-DiskFault-clause-any_moment g c).In-Err-DiskFault c.faults-count.result).any_moment

pub returns-in-Err-DiskFault-clause-own_moments : goal.returns-in-Err-DiskFault-clause-own_moments
returns-in-Err-DiskFault-clause-own_moments g c = (doubted g (goal.at.returns-in-Err-DiskFault-clause-own_moments g c).In-Err-DiskFault c.faults-count.result).own_moments

pub returns-in-Err-DiskFault-clause-cause : goal.returns-in-Err-DiskFault-clause-cause
returns-in-Err-DiskFault-clause-cause g c = (c.faults-count.ensures, (faulted g (goal.at.returns-in-Err-DiskFault-clause-cause g c).In-Err-DiskFault).becomes.1.cause)

-- it would be too long

too_long_there : (g : _) (c : In-Err-TooLong g) → let s = c.args.self.now in Rewrites trio_view g.F.Disk.tells s.journal c.rewritten.new.journal s.notes s.book (library_in s) (Err (fault.TooLong c.in-Err-TooLong.len))
too_long_there g c =
    let s = c.args.self.now in
    let P : CompactFault → Type 0 = λ y. Rewrites trio_view g.F.Disk.tells s.journal c.rewritten.new.journal s.notes s.book (library_in s) (Err y) in
    subst P c.in-Err-TooLong.field-0-is c.in-Err-TooLong.ensures.rewritten

too_long_so : (g : _) (c : In-Err-TooLong g) → Compacts trio_view g.F.Disk.tells g.N.Nonces.nonce c.args.self.now (record c.args.self.now { journal = c.rewritten.new.journal }) (step.journal_full c.in-Err-TooLong.len)
too_long_so g c =
    let s = c.args.self.now in
    too_long trio_view g.F.Disk.tells g.N.Nonces.nonce s c.requires.in_order (c.barred.ensures.free c.in_default.is) (only_left g.F.Disk s.journal.disk) c.rewritten.new.journal c.rewritten.ensures.sound c.in-Err-TooLong.len (too_long_there g c)

pub returns-in-Err-TooLong-clause-event : goal.returns-in-Err-TooLong-clause-event
returns-in-Err-TooLong-clause-event g c = (too_long_so g (goal.at.returns-in-Err-TooLong-clause-event g c).In-Err-TooLong).event

pub returns-in-Err-TooLong-clause-in_order : goal.returns-in-Err-TooLong-clause-in_order
returns-in-Err-TooLong-clause-in_order g c = (too_long_so g (goal.at.returns-in-Err-TooLong-clause-in_order g c).In-Err-TooLong).in_order

pub returns-in-Err-TooLong-clause-tickets : goal.returns-in-Err-TooLong-clause-tickets
returns-in-Err-TooLong-clause-tickets g c = (too_long_so g (goal.at.returns-in-Err-TooLong-clause-tickets g c).In-Err-TooLong).tickets

pub returns-in-Err-TooLong-clause-own : goal.returns-in-Err-TooLong-clause-own
returns-in-Err-TooLong-clause-own g c = (too_long_so g (goal.at.returns-in-Err-TooLong-clause-own g c).In-Err-TooLong).own

pub returns-in-Err-TooLong-clause-any_moment : goal.returns-in-Err-TooLong-clause-any_moment
returns-in-Err-TooLong-clause-any_moment g c = (too_long_so g (goal.at.returns-in-Err-TooLong-clause-any_moment g c).In-Err-TooLong).any_moment

pub returns-in-Err-TooLong-clause-own_moments : goal.returns-in-Err-TooLong-clause-own_moments
returns-in-Err-TooLong-clause-own_moments g c = (too_long_so g (goal.at.returns-in-Err-TooLong-clause-own_moments g c).In-Err-TooLong).own_moments

pub returns-in-Err-TooLong-clause-quiet : goal.returns-in-Err-TooLong-clause-quiet
returns-in-Err-TooLong-clause-quiet g c =
    let s = c.args.self.now in
    full_disk trio_view g.F.Disk.tells s.journal c.rewritten.new.journal s.notes s.book (library_in s) c.in-Err-TooLong.len (too_long_there g (goal.at.returns-in-Err-TooLong-clause-quiet g c).In-Err-TooLong)

-- there was no memory

wanting_there : (g : _) (c : In-Err-Memory g) → let s = c.args.self.now in Rewrites trio_view g.F.Disk.tells s.journal c.rewritten.new.journal s.notes s.book (library_in s) (Err fault.Memory)
wanting_there g c =
    let s = c.args.self.now in
    let P : CompactFault → Type 0 = λ y. Rewrites trio_view g.F.Disk.tells s.journal c.rewritten.new.journal s.notes s.book (library_in s) (Err y) in
    subst P c.in-Err-Memory.field-0-is c.in-Err-Memory.ensures.rewritten

wanting_so : (g : _) (c : In-Err-Memory g) → Compacts trio_view g.F.Disk.tells g.N.Nonces.nonce c.args.self.now (record c.args.self.now { journal = c.rewritten.new.journal }) step.memory
wanting_so g c =
    let s = c.args.self.now in
    wanting trio_view g.F.Disk.tells g.N.Nonces.nonce s c.requires.in_order (c.barred.ensures.free c.in_default.is) (only_left g.F.Disk s.journal.disk) c.rewritten.new.journal c.rewritten.ensures.sound (wanting_there g c)

pub returns-in-Err-Memory-clause-event : goal.returns-in-Err-Memory-clause-event
returns-in-Err-Memory-clause-event g c = (wanting_so g (goal.at.returns-in-Err-Memory-clause-event g c).In-Err-Memory).event

pub returns-in-Err-Memory-clause-in_order : goal.returns-in-Err-Memory-clause-in_order
returns-in-Err-Memory-clause-in_order g c = (wanting_so g (goal.at.returns-in-Err-Memory-clause-in_order g c).In-Err-Memory).in_order

pub returns-in-Err-Memory-clause-tickets : goal.returns-in-Err-Memory-clause-tickets
returns-in-Err-Memory-clause-tickets g c = (wanting_so g (goal.at.returns-in-Err-Memory-clause-tickets g c).In-Err-Memory).tickets

pub returns-in-Err-Memory-clause-own : goal.returns-in-Err-Memory-clause-own
returns-in-Err-Memory-clause-own g c = (wanting_so g (goal.at.returns-in-Err-Memory-clause-own g c).In-Err-Memory).own

pub returns-in-Err-Memory-clause-any_moment : goal.returns-in-Err-Memory-clause-any_moment
returns-in-Err-Memory-clause-any_moment g c = (wanting_so g (goal.at.returns-in-Err-Memory-clause-any_moment g c).In-Err-Memory).any_moment

pub returns-in-Err-Memory-clause-own_moments : goal.returns-in-Err-Memory-clause-own_moments
returns-in-Err-Memory-clause-own_moments g c = (wanting_so g (goal.at.returns-in-Err-Memory-clause-own_moments g c).In-Err-Memory).own_moments

pub returns-in-Err-Memory-clause-quiet : goal.returns-in-Err-Memory-clause-quiet
returns-in-Err-Memory-clause-quiet g c =
    let s = c.args.self.now in
    wanting_disk trio_view g.F.Disk.tells s.journal c.rewritten.new.journal s.notes s.book (library_in s) (wanting_there g (goal.at.returns-in-Err-Memory-clause-quiet g c).In-Err-Memory)
