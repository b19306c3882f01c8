-- Which of the parts of a site may go to another thread.
use denote.RattleType.{RattleType}
use denote.Struct.Declared.{fields, shape}
use denote.Param.Send.{AllSend, AllSync, IsSend, IsSync, recorded_send, recorded_sync, sendable, struct_send, struct_sync, part_keyless}
use Rattle.std.proofs.Crossing.{crosses}
use Rattle.std.proofs.MapsCrossing as maps
use Rattle.script_value.proofs.value.Items.TheLaws.TheKnot as knot
use Rattle.instance_cells.specs.contracts.cells.Cells as Cells
use Rattle.transactions.specs.contracts.closed.Closed as Closed
use Rattle.shelf.specs.InstanceBook.KeptStates.MachineStates.contracts.frame.Frame as Frame
use Rattle.shelf.specs.InstanceBook.KeptStates.MachineStates.contracts.frame.Suspended as Suspended
use Rattle.web_cells.specs.contracts.shades.Shades as Shades
use Rattle.shelf.specs.InstanceBook.contracts.book.Book as Book
use Rattle.instance_cells.specs.contracts.effect.Effect as Effect
use Rattle.shelf.specs.JournalRecords.contracts.records.Origin as Origin
use Rattle.shelf.specs.JournalRecords.contracts.records.PageRecord as PageRecord
use Rattle.shelf.specs.JournalRecords.contracts.records.EndedRecord as EndedRecord
use Rattle.shelf.specs.JournalRecords.contracts.records.FinishRecord as FinishRecord
use Rattle.shelf.specs.InstanceBook.contracts.after.After as After
use Rattle.shelf.specs.InstanceBook.contracts.after.Show as Show
use Rattle.shelf.specs.InstanceBook.contracts.change.Opening as Opening
use Rattle.shelf.specs.InstanceBook.contracts.change.Extension as Extension
use Rattle.shelf.specs.InstanceBook.contracts.change.Ending as Ending
use Rattle.shelf.specs.InstanceBook.contracts.change.Finish as Finish
use Rattle.shelf.specs.InstanceBook.contracts.change.Change as Change
use Rattle.page_journal.specs.contracts.journal.Journal as Journal
use Rattle.page_journal.proofs.journal.Journal.TheSendSync as journals
use Rattle.shelf.proofs.rules.Rules.TheSendSync as rules
use Rattle.shelf.proofs.follower.Fed.TheSendSync as feds
use Rattle.shelf.specs.contracts.doubt.Work as Work
use Rattle.shelf.specs.contracts.doubt.Doubt as Doubt
use Rattle.shelf.specs.contracts.follower.Follower as Follower
use Rattle.disk_trio.specs.contracts.trio.Disks as Disks
use Rattle.disk_trio.proofs.side.Side.TheSendSync as sides
use Rattle.shelf.specs.OfFileNotes.contracts.note.Note as Note
use Rattle.shelf.specs.OfFileNotes.contracts.past.FilePast as FilePast
use Rattle.shelf.specs.OfFileNotes.contracts.notes.FileNotes as FileNotes
use Rattle.shelf_lock.proofs.pass.Pass.TheSendSync as passes
use Rattle.shelf_lock.proofs.lock.ShelfLock.TheSendSync as locks
use Rattle.shelf_lock.specs.declared.kept.Kept.{Ghosts}
use Rattle.ghost_history.specs.contracts.history.History as History
use Rattle.site.specs.contracts.opening.Opening as Opened
use Rattle.site.specs.contracts.entry.KeptEntry as KeptEntry
use Rattle.shelf.specs.contracts.shelf.Shelf as Shelf
use Rattle.site.specs.contracts.kept.KeptShelf as KeptShelf
use Rattle.shelf_lock.specs.contracts.pass.Pass as Pass
use Rattle.shelf_lock.specs.contracts.lock.ShelfLock as ShelfLock
use Rattle.site.specs.contracts.site.Site as Site
use Rattle.shelf.specs.InstanceBook.contracts.in_order.InOrder as InOrder
use Rattle.shelf.specs.InstanceBook.contracts.instance.KeptInstance as KeptInstance
use Rattle.shelf.specs.InstanceBook.contracts.page.KeptPage as KeptPage
use Rattle.lock_row.specs.contracts.seats.RowPass as RowPass
use Rattle.lock_row.specs.contracts.row.LockRow as LockRow
use Rattle.script_nodes.specs.contracts.library.Library as Library
use Rattle.script_nodes.specs.contracts.setup.Setup as Setup
use Rattle.script_nodes.specs.contracts.setup.NamedScript as NamedScript
use Rattle.script_nodes.specs.contracts.script.Script as Script
use Rattle.script_nodes.specs.contracts.script.Node as Node
use Rattle.script_nodes.proofs.script.SendKind.TheSendSync as kinds
use Rattle.script_value.proofs.outcome.Op.TheSendSync as op
use Rattle.script_value.proofs.value.Bytes.TheSendSync as bytes
use Rattle.page_names.proofs.names.ScriptName.TheSendSync as name
use Rattle.atomic_table.specs.contracts.shared.Seat as Seat
use Rattle.atomic_table.proofs.shared.Seat.TheSendSync as seats
use Rattle.web_disk.specs.declared.disk.Disk as disk
use Rattle.web_outside.specs.declared.nonces.Nonces as nonces

cells : IsSend Cells.the_field.row
cells = search (sendable, crosses, knot.crosses) depth 40 fits 100000

closed : IsSend Closed.the_field.row
closed = search (sendable, crosses, maps.crosses) depth 40 fits 100000

frame : IsSend Frame.the_field.row
frame = search (sendable, crosses, knot.crosses) depth 40 fits 100000

shades : IsSend Shades.the_field.row
shades = search (sendable, crosses, knot.crosses) depth 40 fits 100000

suspended : IsSend Suspended.the_field.row
suspended = search (sendable, crosses, knot.crosses, frame, shades) depth 40 fits 100000

page : IsSend KeptPage.the_field.row
page = search (sendable, crosses, knot.crosses, suspended) depth 40 fits 100000

in_order : (T : RattleType) → IsSend T → IsSend (InOrder.the_field T).row
in_order T s = search (sendable, crosses) depth 40 fits 100000

instance : IsSend KeptInstance.the_field.row
instance = search (sendable, cells, closed, in_order, page) depth 40 fits 100000

pub book : IsSend Book.the_field.row
book = search (sendable, crosses, in_order, instance) depth 40 fits 100000

effect : IsSend Effect.the_field.row
effect = search (sendable, crosses, knot.crosses) depth 40 fits 100000

after : IsSend After.the_field.row
after = search (sendable, closed, cells) depth 40 fits 100000

show : IsSend Show.the_field.row
show = search (sendable, in_order, page, after) depth 40 fits 100000

origin : IsSend Origin.the_field.row
origin = search (sendable, crosses, knot.crosses) depth 40 fits 100000

page_record : IsSend PageRecord.the_field.row
page_record = search (sendable, crosses, origin, effect, kinds.the_field_send) depth 40 fits 100000

ended_record : IsSend EndedRecord.the_field.row
ended_record = search (sendable, crosses, knot.crosses, effect) depth 40 fits 100000

finish_record : IsSend FinishRecord.the_field.row
finish_record = search (sendable, crosses, knot.crosses, effect) depth 40 fits 100000

opening : IsSend Opening.the_field.row
opening = search (sendable, crosses, page_record, instance, page, suspended) depth 40 fits 100000

extension : IsSend Extension.the_field.row
extension = search (sendable, crosses, page_record, show, suspended) depth 40 fits 100000

ending : IsSend Ending.the_field.row
ending = search (sendable, crosses, ended_record, after) depth 40 fits 100000

finish : IsSend Finish.the_field.row
finish = search (sendable, crosses, finish_record) depth 40 fits 100000

pub change : IsSend Change.the_field.row
change = search (sendable, opening, extension, ending, finish) depth 40 fits 100000

work : IsSend Work.the_field.row
work = search (sendable, change) depth 40 fits 100000

doubt : IsSend Doubt.the_field.row
doubt = search (sendable, work) depth 40 fits 100000

follower : IsSend Follower.the_field.row
follower = search (sendable, crosses, in_order, feds.the_field_send) depth 40 fits 100000

note : IsSend Note.the_field.row
note = search (sendable, crosses) depth 40 fits 100000

file_past : IsSend FilePast.the_field.row
file_past = search (sendable, crosses) depth 40 fits 100000

file : IsSend FileNotes.the_field.row
file = search (sendable, crosses, note, file_past) depth 40 fits 100000

node : IsSend Node.the_field.row
node = search (sendable, crosses, knot.crosses, op.the_field_send, kinds.the_field_send) depth 60 fits 100000

script : IsSend Script.the_field.row
script = search (sendable, crosses, knot.crosses, node) depth 60 fits 100000

named : IsSend NamedScript.the_field.row
named = search (sendable, crosses, script, name.the_field_send, bytes.the_send) depth 60 fits 100000

setup : IsSend Setup.the_field.row
setup = search (sendable, crosses, named) depth 60 fits 100000

library : IsSend Library.the_field.row
library = search (sendable, setup) depth 60 fits 100000

journal : (D : RattleType) → IsSend D → IsSend (Journal.the_field D).row
journal D d = search (sendable, crosses, journals.the_field_send) depth 40 fits 100000

pub shelf : (D N : RattleType) → IsSend D → IsSend N → IsSend (Shelf.the_field D N).row
shelf D N d n = search (sendable, journal, book, library, doubt, follower, rules.the_field_send, file) depth 40 fits 100000

opened : (D N : RattleType) → IsSend (Opened.the_field D N).row
opened D N = search (sendable, crosses) depth 40 fits 100000

history : (E : RattleType) → IsSend (History.the_field E).row
history E = search (sendable, crosses) depth 40 fits 100000

pub kept : (D N : RattleType) → IsSend D → IsSend N → IsSend (KeptShelf.the_field D N).row
kept D N d n =
    let all : AllSend (fields (KeptShelf.the_type D N)) = (shelf D N d n, (opened D N, (history KeptEntry.the_row, tt))) in
    struct_send (shape (KeptShelf.the_type D N)) all

cells_sync : IsSync Cells.the_field.row
cells_sync = search (sendable, crosses, knot.crosses) depth 40 fits 100000

closed_sync : IsSync Closed.the_field.row
closed_sync = search (sendable, crosses, maps.crosses) depth 40 fits 100000

frame_sync : IsSync Frame.the_field.row
frame_sync = search (sendable, crosses, knot.crosses) depth 40 fits 100000

shades_sync : IsSync Shades.the_field.row
shades_sync = search (sendable, crosses, knot.crosses) depth 40 fits 100000

suspended_sync : IsSync Suspended.the_field.row
suspended_sync = search (sendable, crosses, knot.crosses, frame_sync, shades_sync) depth 40 fits 100000

page_sync : IsSync KeptPage.the_field.row
page_sync = search (sendable, crosses, knot.crosses, suspended_sync) depth 40 fits 100000

in_order_sync : (T : RattleType) → IsSync T → IsSync (InOrder.the_field T).row
in_order_sync T s = search (sendable, crosses) depth 40 fits 100000

instance_sync : IsSync KeptInstance.the_field.row
instance_sync = search (sendable, cells_sync, closed_sync, in_order_sync, page_sync) depth 40 fits 100000

pub book_sync : IsSync Book.the_field.row
book_sync = search (sendable, crosses, in_order_sync, instance_sync) depth 40 fits 100000

effect_sync : IsSync Effect.the_field.row
effect_sync = search (sendable, crosses, knot.crosses) depth 40 fits 100000

after_sync : IsSync After.the_field.row
after_sync = search (sendable, closed_sync, cells_sync) depth 40 fits 100000

show_sync : IsSync Show.the_field.row
show_sync = search (sendable, in_order_sync, page_sync, after_sync) depth 40 fits 100000

origin_sync : IsSync Origin.the_field.row
origin_sync = search (sendable, crosses, knot.crosses) depth 40 fits 100000

page_record_sync : IsSync PageRecord.the_field.row
page_record_sync = search (sendable, crosses, origin_sync, effect_sync, kinds.the_field_sync) depth 40 fits 100000

ended_record_sync : IsSync EndedRecord.the_field.row
ended_record_sync = search (sendable, crosses, knot.crosses, effect_sync) depth 40 fits 100000

finish_record_sync : IsSync FinishRecord.the_field.row
finish_record_sync = search (sendable, crosses, knot.crosses, effect_sync) depth 40 fits 100000

opening_sync : IsSync Opening.the_field.row
opening_sync = search (sendable, crosses, page_record_sync, instance_sync, page_sync, suspended_sync) depth 40 fits 100000

extension_sync : IsSync Extension.the_field.row
extension_sync = search (sendable, crosses, page_record_sync, show_sync, suspended_sync) depth 40 fits 100000

ending_sync : IsSync Ending.the_field.row
ending_sync = search (sendable, crosses, ended_record_sync, after_sync) depth 40 fits 100000

finish_sync : IsSync Finish.the_field.row
finish_sync = search (sendable, crosses, finish_record_sync) depth 40 fits 100000

pub change_sync : IsSync Change.the_field.row
change_sync = search (sendable, opening_sync, extension_sync, ending_sync, finish_sync) depth 40 fits 100000

work_sync : IsSync Work.the_field.row
work_sync = search (sendable, change_sync) depth 40 fits 100000

doubt_sync : IsSync Doubt.the_field.row
doubt_sync = search (sendable, work_sync) depth 40 fits 100000

follower_sync : IsSync Follower.the_field.row
follower_sync = search (sendable, crosses, in_order_sync, feds.the_field_sync) depth 40 fits 100000

note_sync : IsSync Note.the_field.row
note_sync = search (sendable, crosses) depth 40 fits 100000

file_past_sync : IsSync FilePast.the_field.row
file_past_sync = search (sendable, crosses) depth 40 fits 100000

file_sync : IsSync FileNotes.the_field.row
file_sync = search (sendable, crosses, note_sync, file_past_sync) depth 40 fits 100000

node_sync : IsSync Node.the_field.row
node_sync = search (sendable, crosses, knot.crosses, op.the_field_sync, kinds.the_field_sync) depth 60 fits 100000

script_sync : IsSync Script.the_field.row
script_sync = search (sendable, crosses, knot.crosses, node_sync) depth 60 fits 100000

named_sync : IsSync NamedScript.the_field.row
named_sync = search (sendable, crosses, script_sync, name.the_field_sync, bytes.the_sync) depth 60 fits 100000

setup_sync : IsSync Setup.the_field.row
setup_sync = search (sendable, crosses, named_sync) depth 60 fits 100000

library_sync : IsSync Library.the_field.row
library_sync = search (sendable, setup_sync) depth 60 fits 100000

journal_sync : (D : RattleType) → IsSync D → IsSync (Journal.the_field D).row
journal_sync D d = search (sendable, crosses, journals.the_field_sync) depth 40 fits 100000

pub shelf_sync : (D N : RattleType) → IsSync D → IsSync N → IsSync (Shelf.the_field D N).row
shelf_sync D N d n = search (sendable, journal_sync, book_sync, library_sync, doubt_sync, follower_sync, rules.the_field_sync, file_sync) depth 40 fits 100000

opened_sync : (D N : RattleType) → IsSync (Opened.the_field D N).row
opened_sync D N = search (sendable, crosses) depth 40 fits 100000

history_sync : (E : RattleType) → IsSync (History.the_field E).row
history_sync E = search (sendable, crosses) depth 40 fits 100000

pub kept_sync : (D N : RattleType) → IsSync D → IsSync N → IsSync (KeptShelf.the_field D N).row
kept_sync D N d n =
    let all : AllSync (fields (KeptShelf.the_type D N)) = (shelf_sync D N d n, (opened_sync D N, (history_sync KeptEntry.the_row, tt))) in
    struct_sync (shape (KeptShelf.the_type D N)) all

pub pass : (T T' T'' : RattleType) (g : Ghosts T.Denot T'.Denot T''.Denot) → IsSend T → IsSend (Pass.the_field T T' T'' g).row
pass T T' T'' g t = search (sendable, passes.the_field_send) depth 40 fits 100000

pub lock : (T T' T'' : RattleType) (g : Ghosts T.Denot T'.Denot T''.Denot) → IsSend T → IsSync (ShelfLock.the_field T T' T'' g).row
lock T T' T'' g t = search (sendable, locks.the_field_sync) depth 40 fits 100000

pub row_pass : (T T' T'' : RattleType) (g : Ghosts T.Denot T'.Denot T''.Denot) → IsSend T → IsSend (RowPass.the_field T T' T'' g).row
row_pass T T' T'' g t = search (sendable, crosses, pass) depth 40 fits 100000

seat_sync : (S V : RattleType) → IsSend S → IsSync (Seat.the_row S V)
seat_sync S V s = record { shared = λ d b o ν q. part_keyless (Seat.the_row S V) (seats.the_send S V s) q d b o }

pass_sync : (T T' T'' : RattleType) (g : Ghosts T.Denot T'.Denot T''.Denot) → IsSend T → IsSync (Pass.the_field T T' T'' g).row
pass_sync T T' T'' g t = search (sendable, seat_sync) depth 40 fits 100000

row_pass_sync : (T T' T'' : RattleType) (g : Ghosts T.Denot T'.Denot T''.Denot) → IsSend T → IsSync (RowPass.the_field T T' T'' g).row
row_pass_sync T T' T'' g t = search (sendable, crosses, pass_sync) depth 40 fits 100000

row_sync : (T T' T'' : RattleType) (g : Ghosts T.Denot T'.Denot T''.Denot) → IsSend T → IsSync T → IsSync (LockRow.the_field T T' T'' g).row
row_sync T T' T'' g t y = search (sendable, crosses, lock, row_pass_sync) depth 40 fits 100000

pub site_sync : (D N : RattleType) (d : disk.Ghosts D.Denot) (n : nonces.Ghosts N.Denot) → IsSend D → IsSend N → IsSync D → IsSync N → IsSync (Site.the_field D N d n).row
site_sync D N d n ds ns dy ny = search (sendable, crosses, row_sync, library_sync, kept, kept_sync) depth 40 fits 100000

-- ---- the disks of a shelf

trio : (D : RattleType) (d : disk.Ghosts D.Denot) → IsSend D → IsSend (Disks.the_field D d).row
trio D d send = search (sendable, crosses, sides.the_field_send) depth 40 fits 100000

trio_sync : (D : RattleType) (d : disk.Ghosts D.Denot) → IsSync D → IsSync (Disks.the_field D d).row
trio_sync D d sync = search (sendable, crosses, sides.the_field_sync) depth 40 fits 100000

pub disks : (D : RattleType) (d : disk.Ghosts D.Denot) → IsSend D → IsSend (Disks.the_row D d)
disks D d send = recorded_send (Disks.the_field D d).row _ _ (Disks.the_type D d).to_one (trio D d send)

pub disks_sync : (D : RattleType) (d : disk.Ghosts D.Denot) → IsSync D → IsSync (Disks.the_row D d)
disks_sync D d sync = recorded_sync (Disks.the_field D d).row _ _ (Disks.the_type D d).to_one (trio_sync D d sync)
