use Rattle.std.proofs.Common.{sym}
use Rattle.script_nodes.specs.Views.{scripts_of}
use Rattle.shelf.proofs.Renewing.{same_opens, other_opens, other_own, other_known}
use Rattle.shelf.proofs.begin.go_on.Goals as goal

pub returns-then-is_present-clause-opened : goal.returns-then-is_present-clause-opened
returns-then-is_present-clause-opened g c =
    same_opens g.D.Disk.view g.D.Disk.tells (scripts_of c.args.setup.now) c.args.number c.args.journal.now c.args.book.now c.args.library.now c.requires.found c.requires.in_order c.requires.newest c.requires.settled
    (g.met.D.Disk.only_now c.args.journal.now.disk) c.records_are_exact.ensures c.requires.read c.requires.can_run c.requires.begins.1 c.a_setup_is_its_texts.ensures (sym c.if-is_present.ensures)

pub returns-else-is_present-clause-opened : goal.returns-else-is_present-clause-opened
returns-else-is_present-clause-opened g c =
    other_opens g.D.Disk.view g.D.Disk.tells (scripts_of c.args.setup.now) c.args.number c.args.journal.now c.args.book.now c.args.library.now c.requires.found c.requires.in_order c.requires.newest c.requires.settled
    (g.met.D.Disk.only_now c.args.journal.now.disk) c.records_are_exact.ensures c.requires.read c.requires.can_run c.requires.begins.1 (sym c.if-is_present.ensures) c.renewals_are_kept.ensures c.renewals_stand_between.ensures
    c.renew.new.journal c.renew.ensures.newest c.renew.new.library c.renew.result c.renew.ensures.told c.renew.ensures.full c.renew.ensures.library

pub returns-else-is_present-clause-own : goal.returns-else-is_present-clause-own
returns-else-is_present-clause-own g c told own states =
    other_own g.D.Disk.view g.D.Disk.tells (scripts_of c.args.setup.now) c.args.number c.args.journal.now c.args.book.now c.args.library.now c.requires.found c.requires.in_order c.requires.newest c.requires.settled
    (g.met.D.Disk.only_now c.args.journal.now.disk) c.records_are_exact.ensures c.requires.read c.requires.can_run c.requires.begins.1 (sym c.if-is_present.ensures) c.renewals_are_kept.ensures c.renewals_stand_between.ensures
    c.renew.new.journal c.renew.ensures.newest c.renew.new.library c.renew.result c.renew.ensures.told c.renew.ensures.full c.renew.ensures.library told own states

pub returns-else-is_present-clause-known : goal.returns-else-is_present-clause-known
returns-else-is_present-clause-known g c = λ told.
    other_known g.D.Disk.view g.D.Disk.tells (scripts_of c.args.setup.now) c.args.number c.args.journal.now c.args.book.now c.args.library.now c.requires.found c.requires.in_order c.requires.newest c.requires.settled
    (g.met.D.Disk.only_now c.args.journal.now.disk) c.records_are_exact.ensures c.requires.read c.requires.can_run c.requires.begins.1 (sym c.if-is_present.ensures) c.renewals_are_kept.ensures c.renewals_stand_between.ensures
    c.renew.new.journal c.renew.ensures.newest c.renew.new.library c.renew.result c.renew.ensures.told c.renew.ensures.full c.renew.ensures.library told c.args.notes.now c.renew.new.notes (c.requires.known told) c.renew.ensures.notes
