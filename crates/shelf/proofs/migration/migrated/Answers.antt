use Rattle.std.proofs.Common.{◌∙◌, sym}
use Rattle.disk_trio.specs.Trio.{trio_view}
use Rattle.disk_trio.specs.Laws.{only_left}
use Rattle.web_disk.proofs.Moments.{started}
use Rattle.file_copies.specs.declared.copying.CopyFault.TheVariants as copy
use Rattle.shelf.specs.declared.begin.BeginFault.TheVariants as fault
use Rattle.shelf.proofs.Replaced.{replaces_as}
use Rattle.shelf.proofs.Moving.{MigrationLaws, low_number, left_newest, not_moved, no_file, moved_there, move_in_doubt, no_room_to_move}
use Rattle.shelf.proofs.migration.migrated.Goals as goal

pub returns-then-format-eq-NEWEST_FORMAT-clause-migrates : goal.returns-then-format-eq-NEWEST_FORMAT-clause-migrates
returns-then-format-eq-NEWEST_FORMAT-clause-migrates g c =
    let j = c.args.journal.now in
    let only_now = only_left g.F.Disk j.disk in
    left_newest trio_view g.F.Disk.tells c.args.shelf j c.requires.settled only_now (started (trio_view j.disk) (trio_view j.disk).images only_now) (sym c.format.ensures ∙ c.if-format-eq-NEWEST_FORMAT.true)

pub returns-in_default-clause-migrates : goal.returns-in_default-clause-migrates
returns-in_default-clause-migrates g c =
    not_moved trio_view g.F.Disk.tells c.args.shelf c.args.journal.now c.requires.settled (λ now. c.if-format-eq-NEWEST_FORMAT.false (c.format.ensures ∙ now)) c.read_book.new.journal c.read_book.ensures.quiet fault.DiskFault (λ told. tt) (λ is. c.in_default.ensures.cause)

pub returns-in-Err-clause-migrates : goal.returns-in-Err-clause-migrates
returns-in-Err-clause-migrates g c =
    let laws : MigrationLaws = record { books = c.migrations_make_the_book.ensures; own = c.copies_are_own.ensures; between = c.migrations_stand_between.ensures } in
    let read = c.in-Ok.ensures in
    no_file trio_view g.F.Disk.tells c.args.shelf c.args.journal.now c.requires.settled (λ now. c.if-format-eq-NEWEST_FORMAT.false (c.format.ensures ∙ now)) c.read_book.new.journal c.read_book.ensures.quiet c.read_book.ensures.format c.requires.known c.in-Ok.read read.noted read.in_order read.found read.notes read.anew laws
    c.in-Err.fault c.in-Err.ensures.none

pub returns-in-Ok-replaced-clause-migrates : goal.returns-in-Ok-replaced-clause-migrates
returns-in-Ok-replaced-clause-migrates g c =
    let laws : MigrationLaws = record { books = c.migrations_make_the_book.ensures; own = c.copies_are_own.ensures; between = c.migrations_stand_between.ensures } in
    let read = c.in-Ok.ensures in
    let done = c.in-Ok-replaced.ensures.replaces in
    moved_there trio_view g.F.Disk.tells c.args.shelf c.args.journal.now c.requires.settled (λ now. c.if-format-eq-NEWEST_FORMAT.false (c.format.ensures ∙ now)) c.read_book.new.journal c.read_book.ensures.quiet c.read_book.ensures.format c.requires.known c.in-Ok.read read.noted read.in_order read.found read.notes read.anew laws
    c.in-Ok-file_anew.file c.in-Ok-file_anew.ensures.file c.replaced.new.journal done.later (λ told. rw (← c.deref.ensures.value) (done.moments told)) (λ told. rw (← c.deref.ensures.value) (done.becomes.settled told))

pub returns-in-Err-Memory-clause-migrates : goal.returns-in-Err-Memory-clause-migrates
returns-in-Err-Memory-clause-migrates g c =
    let laws : MigrationLaws = record { books = c.migrations_make_the_book.ensures; own = c.copies_are_own.ensures; between = c.migrations_stand_between.ensures } in
    let read = c.in-Ok.ensures in
    let done = replaces_as trio_view g.F.Disk.tells c.read_book.new.journal c.replaced.new.journal c.deref.result.now _ copy.Memory c.in-Err-Memory.field-0-is c.in-Err-Memory.ensures.replaces in
    no_room_to_move trio_view g.F.Disk.tells c.args.shelf c.args.journal.now c.requires.settled (λ now. c.if-format-eq-NEWEST_FORMAT.false (c.format.ensures ∙ now)) c.read_book.new.journal c.read_book.ensures.quiet c.read_book.ensures.format c.requires.known c.in-Ok.read read.noted read.in_order read.found read.notes read.anew laws
    c.in-Ok-file_anew.file c.in-Ok-file_anew.ensures.file c.replaced.new.journal done.later (λ told. rw (← c.deref.ensures.value) (done.moments told)) done.becomes

pub returns-clause-migrates : goal.returns-clause-migrates
returns-clause-migrates g c =
    let laws : MigrationLaws = record { books = c.migrations_make_the_book.ensures; own = c.copies_are_own.ensures; between = c.migrations_stand_between.ensures } in
    let read = c.in-Ok.ensures in
    let done = replaces_as trio_view g.F.Disk.tells c.read_book.new.journal c.replaced.new.journal c.deref.result.now _ copy.DiskFault c.in-Err-DiskFault.field-0-is c.in-Err-DiskFault.ensures.replaces in
    move_in_doubt trio_view g.F.Disk.tells c.args.shelf c.args.journal.now c.requires.settled (λ now. c.if-format-eq-NEWEST_FORMAT.false (c.format.ensures ∙ now)) c.read_book.new.journal c.read_book.ensures.quiet c.read_book.ensures.format c.requires.known c.in-Ok.read read.noted read.in_order read.found read.notes read.anew laws
    c.in-Ok-file_anew.file c.in-Ok-file_anew.ensures.file c.replaced.new.journal done.later (λ told. rw (← c.deref.ensures.value) (done.moments told)) done.becomes.cause

pub file_anew-requires : goal.file_anew-requires
file_anew-requires g c = record { number = low_number c.args.shelf c.in-Ok.read.found c.in-Ok.ensures.in_order }
