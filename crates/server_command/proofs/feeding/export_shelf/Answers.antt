use Rattle.std.proofs.Common.{◌≡◌, Err, false, rules, subst}
use Rattle.std.specs.Prelude.{◌&&◌}
use Rattle.disk_trio.specs.Laws.{counts_left}
use Rattle.disk_trio.specs.Trio.{trio_view}
use Rattle.page_journal.specs.Settled.{bodies_in}
use Rattle.page_follower.specs.Causes.{IsExportCausedBy}
use Rattle.page_follower.specs.Exporting.{Exports}
use Rattle.page_follower.specs.declared.exporting.ExportFault.TheVariants as fault
use Rattle.server_command.specs.Feeding.{unopened}
use Rattle.server_command.proofs.Feeds.{export_cut, export_done, export_failed, rest}
use Rattle.server_command.proofs.Openings.{both_tell}
use Rattle.server_command.proofs.Promotes.{back_of}
use Rattle.server_command.proofs.feeding.export_shelf.Goals as goal

pub returns-in-Err-clause-leaves : goal.returns-in-Err-clause-leaves
returns-in-Err-clause-leaves g c = unopened c.in-Err.why c.in-Err.ensures c.tell_unopened.ensures.tells

pub returns-in-Err-clause-back : goal.returns-in-Err-clause-back
returns-in-Err-clause-back g c = back_of _ _ c.requires.home c.in-Err.ensures.rest.home c.in-Err.ensures.rest.later

pub returns-in-Ok-sent-clause-leaves : goal.returns-in-Ok-sent-clause-leaves
returns-in-Ok-sent-clause-leaves g c =
    let v = trio_view {G = g.D.Disk} in
    let told = g.R.Rack.tells && g.D.Disk.tells in
    let before = g.R.Rack.view c.args.rack.now in
    let mid = g.R.Rack.view c.open_shelf.new.rack in
    let after = g.R.Rack.view c.close_shelf.new.rack in
    export_done v g.D.Disk.tells told before mid after c.args.options.now.shelf c.in-Ok.shelf c.export-sent.new.shelf (λ t. (both_tell _ _ t).1) c.in-Ok.ensures
    c.close_shelf.ensures (λ d t image le now. counts_left g.D.Disk d t image le now) c.export-sent.ensures.quiet (g.O.Sink.view c.args.output.now)
    (g.O.Sink.view c.export-sent.new.sink) c.in-Ok-sent.ensures.exports

pub returns-in-Ok-sent-clause-back : goal.returns-in-Ok-sent-clause-back
returns-in-Ok-sent-clause-back g c =
    let v = trio_view {G = g.D.Disk} in
    let told = g.R.Rack.tells && g.D.Disk.tells in
    let before = g.R.Rack.view c.args.rack.now in
    let mid = g.R.Rack.view c.open_shelf.new.rack in
    let after = g.R.Rack.view c.close_shelf.new.rack in
    let r = rest v g.D.Disk.tells told false before mid after c.args.options.now.shelf c.in-Ok.shelf c.export-sent.new.shelf c.in-Ok.ensures c.close_shelf.ensures in
    back_of before after c.requires.home r.home r.later

pub returns-in-Err-Unwritten-clause-leaves : goal.returns-in-Err-Unwritten-clause-leaves
returns-in-Err-Unwritten-clause-leaves g c =
    let v = trio_view {G = g.D.Disk} in
    let told = g.R.Rack.tells && g.D.Disk.tells in
    let before = g.R.Rack.view c.args.rack.now in
    let mid = g.R.Rack.view c.open_shelf.new.rack in
    let after = g.R.Rack.view c.close_shelf.new.rack in
    let old = g.O.Sink.view c.args.output.now in
    let between = g.O.Sink.view c.export-sent.new.sink in
    let first = v c.in-Ok.shelf.journal.disk in
    let last = v c.export-sent.new.shelf.journal.disk in
    let is : c.export-sent.result ≡ Err fault.Unwritten = search rules in
    export_cut v g.D.Disk.tells told before mid after c.args.options.now.shelf c.in-Ok.shelf c.export-sent.new.shelf (λ t. (both_tell _ _ t).1) c.in-Ok.ensures
    c.close_shelf.ensures (λ d t image le now. counts_left g.D.Disk d t image le now) c.export-sent.ensures.quiet (g.O.Sink.view c.args.output.now)
    (g.O.Sink.view c.export-sent.new.sink) (subst (IsExportCausedBy old between first last) is c.export-sent.ensures.causes.caused) (λ t. subst (Exports old between (bodies_in v c.in-Ok.shelf.journal)) is (c.export-sent.ensures.exports t))

pub returns-in-Err-Unwritten-clause-back : goal.returns-in-Err-Unwritten-clause-back
returns-in-Err-Unwritten-clause-back g c =
    let v = trio_view {G = g.D.Disk} in
    let told = g.R.Rack.tells && g.D.Disk.tells in
    let before = g.R.Rack.view c.args.rack.now in
    let mid = g.R.Rack.view c.open_shelf.new.rack in
    let after = g.R.Rack.view c.close_shelf.new.rack in
    let r = rest v g.D.Disk.tells told false before mid after c.args.options.now.shelf c.in-Ok.shelf c.export-sent.new.shelf c.in-Ok.ensures c.close_shelf.ensures in
    back_of before after c.requires.home r.home r.later

pub returns-in-Err-DiskFault-clause-leaves : goal.returns-in-Err-DiskFault-clause-leaves
returns-in-Err-DiskFault-clause-leaves g c =
    let v = trio_view {G = g.D.Disk} in
    let told = g.R.Rack.tells && g.D.Disk.tells in
    let before = g.R.Rack.view c.args.rack.now in
    let mid = g.R.Rack.view c.open_shelf.new.rack in
    let after = g.R.Rack.view c.close_shelf.new.rack in
    let old = g.O.Sink.view c.args.output.now in
    let between = g.O.Sink.view c.export-sent.new.sink in
    let first = v c.in-Ok.shelf.journal.disk in
    let last = v c.export-sent.new.shelf.journal.disk in
    let is : c.export-sent.result ≡ Err fault.DiskFault = search rules in
    export_failed v g.D.Disk.tells told before mid after c.args.options.now.shelf c.in-Ok.shelf c.export-sent.new.shelf (λ t. (both_tell _ _ t).1) c.in-Ok.ensures
    c.close_shelf.ensures (λ d t image le now. counts_left g.D.Disk d t image le now) c.export-sent.ensures.quiet (g.O.Sink.view c.args.output.now)
    (g.O.Sink.view c.export-sent.new.sink) (g.O.Sink.view c.tell_unopened-in-Err-DiskFault.new.output)
    c.tell_unopened-in-Err-DiskFault.result (subst (IsExportCausedBy old between first last) is c.export-sent.ensures.causes.caused) c.export-sent.ensures.causes.later
    (λ t. subst (Exports old between (bodies_in v c.in-Ok.shelf.journal)) is (c.export-sent.ensures.exports t)) c.tell_unopened-in-Err-DiskFault.ensures.tells

pub returns-in-Err-DiskFault-clause-back : goal.returns-in-Err-DiskFault-clause-back
returns-in-Err-DiskFault-clause-back g c =
    let v = trio_view {G = g.D.Disk} in
    let told = g.R.Rack.tells && g.D.Disk.tells in
    let before = g.R.Rack.view c.args.rack.now in
    let mid = g.R.Rack.view c.open_shelf.new.rack in
    let after = g.R.Rack.view c.close_shelf.new.rack in
    let r = rest v g.D.Disk.tells told false before mid after c.args.options.now.shelf c.in-Ok.shelf c.export-sent.new.shelf c.in-Ok.ensures c.close_shelf.ensures in
    back_of before after c.requires.home r.home r.later
