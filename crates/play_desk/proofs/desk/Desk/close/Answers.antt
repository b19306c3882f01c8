use Rattle.script_nodes.specs.Views.{scripts_of}
use Rattle.disk_trio.specs.Trio.{trio_view}
use Rattle.trio_rack.specs.Trios.{shelves_of}
use Rattle.play_desk.proofs.Closing.{books_stand}
use Rattle.play_desk.proofs.Fitting.{low_numbers, own_numbers}
use Rattle.play_desk.proofs.desk.Desk.close.Goals as goal

pub returns-clause-books : goal.returns-clause-books
returns-clause-books g c rack_tells disk_tells own =
    let staff = c.args.self.staff in
    books_stand trio_view g.F.Disk.tells (scripts_of c.args.self.setup) staff.shelves.items staff.tickets
    (shelves_of (g.R.Rack.view c.put_all_back.new.rack)).holds disk_tells c.requires.sound.fit own (c.put_all_back.ensures.images rack_tells disk_tells)

pub put_all_back-requires-clause-numbers : goal.put_all_back-requires-clause-numbers
put_all_back-requires-clause-numbers g c = own_numbers c.args.self.staff.shelves.items c.requires.sound.fit.numbers

pub put_all_back-requires-clause-low : goal.put_all_back-requires-clause-low
put_all_back-requires-clause-low g c = low_numbers c.args.self.staff.shelves.items c.requires.sound.fit.numbers c.requires.sound.fit.few
