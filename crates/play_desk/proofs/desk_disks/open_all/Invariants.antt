use Rattle.script_nodes.specs.Views.{scripts_of}
use Rattle.disk_trio.specs.Trio.{trio_view}
use Rattle.play_desk.specs.Opening.{AreOpened}
use Rattle.play_desk.proofs.desk_disks.open_all.Given as goal

abbrev pub invariant-loop-number : goal.invariant-loop-number
invariant-loop-number g l =
    AreOpened trio_view g.R.Rack.tells g.F.Disk.tells (scripts_of l.fn.setup) l.fn.rules (g.R.Rack.view l.fn.rack) l.number l.shelves.items
    (g.R.Rack.view l.rack)
