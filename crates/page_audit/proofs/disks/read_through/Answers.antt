use Rattle.std.proofs.Common.{◌∙◌, sym, subst, List, ℕ, OnOk}
use Rattle.web_disk.specs.View.{Only}
use Rattle.disk_trio.specs.Trio.{trio_view}
use Rattle.page_audit.proofs.Unwritten.{unwritten_then, trio_unwritten, only_read}
use Rattle.page_audit.proofs.disks.read_through.Goals as goal

pub returns-in_err-room_to_open-clause-read : goal.returns-in_err-room_to_open-clause-read
returns-in_err-room_to_open-clause-read g c =
    let room = c.room_to_open.ensures.read in
    only_read c.args.disks.now c.room_to_open.new.self (λ told. room.seen) (trio_unwritten c.args.disks.now c.room_to_open.new.self room.images room.time)

pub returns-in_err-open-clause-read : goal.returns-in_err-open-clause-read
returns-in_err-open-clause-read g c =
    let room = c.room_to_open.ensures.read in
    only_read c.args.disks.now c.open.new.self (λ told. c.open.ensures.seen told ∙ room.seen)
    (unwritten_then (trio_view c.args.disks.now) (trio_view c.room_to_open.new.self) (trio_view c.open.new.self)
    (trio_unwritten c.args.disks.now c.room_to_open.new.self room.images room.time)
    (trio_unwritten c.room_to_open.new.self c.open.new.self c.open.ensures.images c.open.ensures.time))

pub returns-clause-read : goal.returns-clause-read
returns-clause-read g c =
    let room = c.room_to_open.ensures.read in
    only_read c.args.disks.now c.audit_file.new.disk (λ told. c.audit_file.ensures.seen ∙ (c.open.ensures.seen told ∙ room.seen))
    (unwritten_then (trio_view c.args.disks.now) (trio_view c.open.new.self) (trio_view c.audit_file.new.disk)
    (unwritten_then (trio_view c.args.disks.now) (trio_view c.room_to_open.new.self) (trio_view c.open.new.self)
    (trio_unwritten c.args.disks.now c.room_to_open.new.self room.images room.time)
    (trio_unwritten c.room_to_open.new.self c.open.new.self c.open.ensures.images c.open.ensures.time))
    c.audit_file.ensures.unwritten)

pub returns-clause-durable : goal.returns-clause-durable
returns-clause-durable g c told =
    subst (λ (bytes : List ℕ). OnOk c.audit_file.result (Only bytes (trio_view c.audit_file.new.disk))) (sym c.audit_file.ensures.seen) c.audit_file.ensures.durable
