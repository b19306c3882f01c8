use Rattle.shelf.specs.Views.{fate_by, swept_of}
use Rattle.play_desk.proofs.Places.{at_index}
use Rattle.play_desk.proofs.Stepping.{is_event, shelf_there, sweep_step, sweeps}
use Rattle.play_desk.proofs.Fitting.{fit_sweep, numbers_set}
use Rattle.play_desk.proofs.Owning.{own_sweep}
use Rattle.play_desk.proofs.Happening.{happens}
use Rattle.play_desk.proofs.Counting.{faults_later, faults_rise, told_rise}
use Rattle.play_desk.proofs.staff.sweep.Goals as goal

pub sweep-requires-clause-in_order : goal.sweep-requires-clause-in_order
sweep-requires-clause-in_order g c =
    let here = at_index c.args.staff.now.shelves.items c.args.place c.index_mut.result.now c.index_mut.result.now c.requires.place c.index_mut.ensures.value in
    c.requires.fit.in_order c.args.place c.index_mut.result.now here

pub returns-clause-step : goal.returns-clause-step
returns-clause-step g c scripts =
    let view = g.D.Disk.view in
    let xs = c.args.staff.now.shelves.items in
    let ts = c.args.staff.now.tickets in
    let k = c.args.place in
    let x = c.index_mut.result.now in
    let y = c.sweep.new.self in
    let r = c.sweep.result in
    let here = at_index xs k x x c.requires.place c.index_mut.ensures.value in
    let h = happens view x y _ (swept_of r) c.sweep.ensures.event in
    is_event _ _ _ _ r _ (fate_by (swept_of r)) (sweeps _ k c.args.tick _ (shelf_there view scripts xs ts k x here)) (sweep_step view scripts xs ts k x y c.args.tick r h)
    (λ fails. faults_rise g.D.Disk.view xs k x y here (told_rise _ _ (swept_of r) c.sweep.ensures.cause fails))

pub returns-clause-fit : goal.returns-clause-fit
returns-clause-fit g c =
    let view = g.D.Disk.view in
    let xs = c.args.staff.now.shelves.items in
    let k = c.args.place in
    let x = c.index_mut.result.now in
    let y = c.sweep.new.self in
    let r = c.sweep.result in
    let here = at_index xs k x x c.requires.place c.index_mut.ensures.value in
    let h = happens view x y _ (swept_of r) c.sweep.ensures.event in
    fit_sweep view g.D.Disk.tells xs c.args.staff.now.tickets k x y c.args.tick r c.requires.fit here h
    c.sweep.ensures.in_order c.sweep.ensures.rules c.sweep.ensures.library c.sweep.ensures.tickets

pub returns-clause-own : goal.returns-clause-own
returns-clause-own g c own =
    let view = g.D.Disk.view in
    let xs = c.args.staff.now.shelves.items in
    let k = c.args.place in
    let x = c.index_mut.result.now in
    let y = c.sweep.new.self in
    let r = c.sweep.result in
    let here = at_index xs k x x c.requires.place c.index_mut.ensures.value in
    let h = happens view x y _ (swept_of r) c.sweep.ensures.event in
    own_sweep view g.D.Disk.tells xs c.args.staff.now.tickets k x y c.args.tick r own here h
    c.sweep.ensures.library (c.sweep.ensures.own (own.own k x here))

pub returns-clause-there : goal.returns-clause-there
returns-clause-there g c =
    let xs = c.args.staff.now.shelves.items in
    let k = c.args.place in
    let x = c.index_mut.result.now in
    let y = c.sweep.new.self in
    let here = at_index xs k x x c.requires.place c.index_mut.ensures.value in
    record {
      numbers = numbers_set xs k x y here c.sweep.ensures.rules;
      later = faults_later g.D.Disk.view xs k x y here c.sweep.ensures.later;
    }
