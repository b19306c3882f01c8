use Rattle.disk_trio.specs.Trio.{trio_view}
use Rattle.shelf.specs.Views.{compacted_of, fate_by}
use Rattle.play_desk.proofs.Places.{at_index}
use Rattle.play_desk.proofs.Stepping.{compact_step, compacts, is_event, shelf_there}
use Rattle.play_desk.proofs.Fitting.{fit_compact, numbers_set}
use Rattle.play_desk.proofs.Owning.{own_compact}
use Rattle.play_desk.proofs.Happening.{happens}
use Rattle.play_desk.proofs.Counting.{faults_later, faults_rise, told_rise}
use Rattle.play_desk.proofs.staff.compact.Goals as goal

pub compact-requires : goal.compact-requires
compact-requires g c =
    let here = at_index c.args.staff.now.shelves.items c.args.place c.index_mut.result.now c.index_mut.result.now c.requires.place c.index_mut.ensures.value in
    record { in_order = c.requires.fit.in_order c.args.place c.index_mut.result.now here }

pub returns-clause-step : goal.returns-clause-step
returns-clause-step g c scripts =
    let view = trio_view {G = g.F.Disk} in
    let xs = c.args.staff.now.shelves.items in
    let ts = c.args.staff.now.tickets in
    let k = c.args.place in
    let x = c.index_mut.result.now in
    let y = c.compact.new.self in
    let r = c.compact.result in
    let here = at_index xs k x x c.requires.place c.index_mut.ensures.value in
    let h = happens view x y _ (compacted_of r) c.compact.ensures.event in
    is_event _ _ _ _ r _ (fate_by (compacted_of r)) (compacts _ k _ (shelf_there view scripts xs ts k x here)) (compact_step view scripts xs ts k x y r h)
    (λ fails. faults_rise trio_view xs k x y here (told_rise _ _ (compacted_of r) c.compact.ensures.cause fails))

pub returns-clause-fit : goal.returns-clause-fit
returns-clause-fit g c =
    let view = trio_view {G = g.F.Disk} in
    let xs = c.args.staff.now.shelves.items in
    let k = c.args.place in
    let x = c.index_mut.result.now in
    let y = c.compact.new.self in
    let r = c.compact.result in
    let here = at_index xs k x x c.requires.place c.index_mut.ensures.value in
    let h = happens view x y _ (compacted_of r) c.compact.ensures.event in
    fit_compact view g.F.Disk.tells xs c.args.staff.now.tickets k x y r c.requires.fit here h
    c.compact.ensures.in_order c.compact.ensures.rules c.compact.ensures.library c.compact.ensures.tickets

pub returns-clause-own : goal.returns-clause-own
returns-clause-own g c own =
    let view = trio_view {G = g.F.Disk} in
    let xs = c.args.staff.now.shelves.items in
    let k = c.args.place in
    let x = c.index_mut.result.now in
    let y = c.compact.new.self in
    let r = c.compact.result in
    let here = at_index xs k x x c.requires.place c.index_mut.ensures.value in
    let h = happens view x y _ (compacted_of r) c.compact.ensures.event in
    own_compact view g.F.Disk.tells xs c.args.staff.now.tickets k x y r own here h
    c.compact.ensures.library (c.compact.ensures.own (own.own k x here))

pub returns-clause-there : goal.returns-clause-there
returns-clause-there g c =
    let xs = c.args.staff.now.shelves.items in
    let k = c.args.place in
    let x = c.index_mut.result.now in
    let y = c.compact.new.self in
    let here = at_index xs k x x c.requires.place c.index_mut.ensures.value in
    record {
      numbers = numbers_set xs k x y here c.compact.ensures.rules;
      later = faults_later trio_view xs k x y here c.compact.ensures.later;
    }
