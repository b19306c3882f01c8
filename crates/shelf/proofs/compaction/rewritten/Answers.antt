use Rattle.std.proofs.Common.{◌≡◌, ◌∙◌, ap, subst, ℕ, length, IsTrue, Err}
use Rattle.script_nodes.specs.Views.{library_of}
use Rattle.disk_trio.specs.Trio.{trio_view}
use Rattle.disk_trio.specs.Laws.{only_left}
use Rattle.page_journal.specs.Records.{stored}
use Rattle.page_journal.specs.Settled.{bodies_in}
use Rattle.file_copies.specs.declared.copying.CopyFault.{CopyFault}
use Rattle.file_copies.specs.declared.copying.CopyFault.TheVariants as copy
use Rattle.shelf.specs.Compacting.{IsRoomMade, IsCopyFor, copies_for}
use Rattle.shelf.proofs.Replaced.{replaces_as}
use Rattle.shelf.proofs.Rewritten.{at_rest_once, refused, unread_for_memory, read_failed, took_place, no_room_for, place_in_doubt}
use Rattle.shelf.proofs.compaction.rewritten.Goals as goal
use Rattle.shelf.proofs.compaction.rewritten.Goals.{In-Ok-copied}

-- it would be too long, or there was no memory to plan

pub returns-in-Err-clause-rewritten : goal.returns-in-Err-clause-rewritten
returns-in-Err-clause-rewritten g c =
    refused trio_view g.F.Disk.tells c.args.journal.now c.args.notes.now c.args.book.now (library_of c.args.library.now) (only_left g.F.Disk c.args.journal.now.disk) c.in-Err.fault c.in-Err.ensures.refused

-- the file could not be read

pub returns-in-Err-Memory-clause-rewritten : goal.returns-in-Err-Memory-clause-rewritten
returns-in-Err-Memory-clause-rewritten g c =
    let read = c.copied.ensures in
    unread_for_memory trio_view g.F.Disk.tells c.args.journal.now c.args.notes.now c.args.book.now (library_of c.args.library.now) c.copied.new.journal
    (record { settled = λ told _. read.settled told; seen = read.quiet.seen; images = read.quiet.images; moments = read.quiet.moments; faults = c.in-Err-Memory.ensures.memory (ap (λ (x : CopyFault). Err x) c.in-Err-Memory.field-0-is); len = read.len; whole = read.whole; format = read.format })

pub returns-in-Err-DiskFault-clause-rewritten : goal.returns-in-Err-DiskFault-clause-rewritten
returns-in-Err-DiskFault-clause-rewritten g c =
    let read = c.copied.ensures in
    read_failed trio_view g.F.Disk.tells c.args.journal.now c.args.notes.now c.args.book.now (library_of c.args.library.now) c.in-Ok.planned c.in-Ok.ensures.plan c.requires.settled c.copied.new.journal read.quiet
    (record { cause = c.in-Err-DiskFault.ensures.cause (ap (λ (x : CopyFault). Err x) c.in-Err-DiskFault.field-0-is); len = read.len; format = read.format })

-- it was read

-- the bytes are those of the copies
copies_there : (g : _) (c : In-Ok-copied g) → IsTrue g.F.Disk.tells → stored c.in-Ok-copied.file.items ≡ copies_for c.in-Ok.planned.plan.items c.args.notes.now c.args.book.now (bodies_in trio_view c.args.journal.now)
copies_there g c told =
    let others = copies_for c.in-Ok.planned.plan.items c.args.notes.now c.args.book.now (bodies_in trio_view c.args.journal.now) in
    at_rest_once others c.in-Ok-copied.file.items c.in-Ok-copied.ensures.file.whole.fits (subst (λ (n : ℕ). IsCopyFor c.args.notes.now c.in-Ok.planned n (bodies_in trio_view c.args.journal.now) c.in-Ok-copied.file) c.logged.ensures (c.in-Ok-copied.ensures.copy told))

room_there : (g : _) (c : In-Ok-copied g) → IsRoomMade trio_view g.F.Disk.tells c.args.journal.now c.copied.new.journal
room_there g c =
    let read = c.copied.ensures in
    record { settled = λ told _. read.settled told; seen = read.quiet.seen; images = read.quiet.images; moments = read.quiet.moments; faults = c.in-Ok-copied.ensures.faults; len = read.len; whole = read.whole; format = read.format }

pub returns-in-Ok-replaced-clause-rewritten : goal.returns-in-Ok-replaced-clause-rewritten
returns-in-Ok-replaced-clause-rewritten g c =
    let at = (goal.at.returns-in-Ok-replaced-clause-rewritten g c).In-Ok-copied in
    let read = c.copied.ensures in
    took_place trio_view g.F.Disk.tells c.args.journal.now c.args.notes.now c.args.book.now (library_of c.args.library.now) c.in-Ok.planned c.in-Ok.ensures.plan c.requires.settled c.copied.new.journal c.replaced.new.journal read.quiet read.format read.len
    c.deref.result.now (λ told. ap stored c.deref.ensures.value ∙ copies_there g at told) (ap length c.deref.ensures.value ∙ c.in-Ok-copied.ensures.file.len) c.in-Ok-replaced.ensures.replaces

pub returns-in-Err-Memory-replaced-clause-rewritten : goal.returns-in-Err-Memory-replaced-clause-rewritten
returns-in-Err-Memory-replaced-clause-rewritten g c =
    let at = (goal.at.returns-in-Err-Memory-replaced-clause-rewritten g c).In-Ok-copied in
    let read = c.copied.ensures in
    let j = c.copied.new.journal in
    no_room_for trio_view g.F.Disk.tells c.args.journal.now c.args.notes.now c.args.book.now (library_of c.args.library.now) c.in-Ok.planned c.in-Ok.ensures.plan c.requires.settled j c.replaced.new.journal read.quiet read.format read.len
    c.deref.result.now (λ told. ap stored c.deref.ensures.value ∙ copies_there g at told) (replaces_as trio_view g.F.Disk.tells j c.replaced.new.journal c.deref.result.now _ copy.Memory c.in-Err-Memory-replaced.field-0-is c.in-Err-Memory-replaced.ensures.replaces) (room_there g at)

pub returns-clause-rewritten : goal.returns-clause-rewritten
returns-clause-rewritten g c =
    let at = (goal.at.returns-clause-rewritten g c).In-Ok-copied in
    let read = c.copied.ensures in
    let j = c.copied.new.journal in
    place_in_doubt trio_view g.F.Disk.tells c.args.journal.now c.args.notes.now c.args.book.now (library_of c.args.library.now) c.in-Ok.planned c.in-Ok.ensures.plan c.requires.settled j c.replaced.new.journal read.quiet read.format read.len
    c.deref.result.now (λ told. ap stored c.deref.ensures.value ∙ copies_there g at told) (replaces_as trio_view g.F.Disk.tells j c.replaced.new.journal c.deref.result.now _ copy.DiskFault c.in-Err-DiskFault-replaced.field-0-is c.in-Err-DiskFault-replaced.ensures.replaces)
