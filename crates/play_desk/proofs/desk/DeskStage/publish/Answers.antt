use Rattle.disk_trio.specs.Trio.{trio_view}
use Rattle.script_nodes.specs.Views.{scripts_of}
use Rattle.play_desk.specs.Desk.{is_fault}
use Rattle.play_desk.proofs.Stepping.{comes_over, counts_same}
use Rattle.play_desk.proofs.desk.DeskStage.publish.Goals as goal

pub returns-clause-step : goal.returns-clause-step
returns-clause-step g c own =
    comes_over is_fault _ _ _ _ _ _ (λ rose rack. rose (g.R.Rack.view rack).faults) (c.publish.ensures.step own (scripts_of c.args.self.now.setup))

pub returns-clause-shelves : goal.returns-clause-shelves
returns-clause-shelves g c =
    counts_same (trio_view {G = g.F.Disk}) c.args.self.now.staff.shelves.items c.publish.new.staff.shelves.items c.publish.ensures.there.numbers
