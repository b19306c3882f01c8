use Rattle.std.proofs.Common.{◌≡◌, ◌≤◌, ◌∙◌, ap, sym, subst, List, Err, arith}
use Rattle.script_nodes.specs.Views.{scripts_of}
use Rattle.web_outside.specs.declared.nonces.Counting.{Counting}
use Rattle.shelf.specs.declared.rules.Rules.{Rules}
use Rattle.shelf.specs.declared.shelf.Shelf.{Shelf}
use Rattle.disk_trio.specs.Trio.{trio_view}
use Rattle.disk_trio.specs.declared.trio.Disks.{Disks}
use Rattle.trio_rack.specs.Trios.{shelves_of}
use Rattle.play_steps.specs.declared.stage.Reopen.{Reopen}
use Rattle.play_desk.specs.Asking.{AsksForOne, AsksForSome}
use Rattle.play_desk.specs.Opening.{FailedFor, GivesOne, HoldImages, IsRefusedBy, KeepsClosed, LeaveOthers, AreOpened, OpensNext}
use Rattle.play_desk.specs.Staff.{AreLow, HaveOwnNumbers, IsHome, faults_in, total}
use Rattle.play_desk.proofs.Asking.{asked_one_more, asked_until}
use Rattle.play_desk.proofs.Beginning.{closed_by, failed_closed, given_later, kept_all, later_closed, next_home, opened_more, opened_none, own_opened, still_home}
use Rattle.play_desk.proofs.Fitting.{low_numbers}
use Rattle.play_desk.proofs.desk_disks.open_all.Goals as goal

pub loop-number-init : goal.loop-number-init
loop-number-init g c =
    let first = g.R.Rack.view c.args.rack.now in
    let scripts = scripts_of c.args.setup.now in
    subst (λ (ys : List (Shelf (Disks g.row.F.Denot g.F.Disk) Counting)). AreOpened trio_view g.R.Rack.tells g.F.Disk.tells scripts c.args.rules first 0 ys first)
    (sym c.new-shelves.ensures.items)
    (opened_none trio_view g.R.Rack.tells g.F.Disk.tells scripts c.args.rules first c.requires.home (omega (arith, c.faults-count.ensures, c.faults-count.type_inv)))

pub open_next-requires-clause-home : goal.open_next-requires-clause-home
open_next-requires-clause-home g c =
    ap (λ (r : Rules). (shelves_of (g.R.Rack.view c.loop-number.rack)).out r.number) c.numbered-next.ensures
    ∙ next_home _ _ _ _ _ _ _ _ _ c.loop-number.invariant

pub put_all_back-requires-clause-numbers : goal.put_all_back-requires-clause-numbers
put_all_back-requires-clause-numbers g c =
    subst (λ (ys : List (Shelf (Disks g.row.F.Denot g.F.Disk) Counting)). HaveOwnNumbers ys) (sym c.in-Err.ensures.same)
    (own_opened _ _ _ _ _ _ _ _ _ c.loop-number.invariant)

pub put_all_back-requires-clause-low : goal.put_all_back-requires-clause-low
put_all_back-requires-clause-low g c =
    let i = c.loop-number.invariant in
    subst (λ (ys : List (Shelf (Disks g.row.F.Denot g.F.Disk) Counting)). AreLow ys) (sym c.in-Err.ensures.same)
    (low_numbers c.loop-number.shelves.items i.numbers (omega (arith, i.size, c.requires.range.shelves)))

pub put_all_back-requires-clause-home : goal.put_all_back-requires-clause-home
put_all_back-requires-clause-home g c =
    let old = g.R.Rack.view c.loop-number.rack in
    let new = g.R.Rack.view c.open_next.new.rack in
    let given = subst (λ (r : Rules). GivesOne r.number old new) c.numbered-next.ensures c.in-Err.ensures.given in
    subst (λ (ys : List (Shelf (Disks g.row.F.Denot g.F.Disk) Counting)). IsHome ys (shelves_of new).out) (sym c.in-Err.ensures.same)
    (still_home _ _ _ _ _ _ _ _ _ new c.loop-number.invariant given)

pub returns-in-Err-clause-closed : goal.returns-in-Err-clause-closed
returns-in-Err-clause-closed g c rack_tells disk_tells =
    closed_by _ _ _ _ _ _ _ _ _ c.args.rules.shelves c.in-Err.why c.loop-number.invariant (omega arith) rack_tells disk_tells
    (subst (λ (r : Rules). IsRefusedBy (g.R.Rack.view c.loop-number.rack) r.number c.in-Err.why) c.numbered-next.ensures
    (c.in-Err.ensures.why rack_tells disk_tells)) c.requires.range.shelves.1

pub returns-in-Err-clause-keeps : goal.returns-in-Err-clause-keeps
returns-in-Err-clause-keeps g c rack_tells disk_tells =
    let scripts = scripts_of c.args.setup.now in
    let old = g.R.Rack.view c.loop-number.rack in
    let mid = g.R.Rack.view c.open_next.new.rack in
    let new = g.R.Rack.view c.put_all_back.new.rack in
    let same = c.in-Err.ensures.same in
    kept_all _ _ _ _ _ _ _ _ _ mid new c.in-Err.why c.loop-number.invariant rack_tells disk_tells
    (subst (λ (r : Rules). GivesOne r.number old mid) c.numbered-next.ensures c.in-Err.ensures.given)
    (subst (λ (r : Rules). KeepsClosed {T = Unit {0}} scripts r.number ((shelves_of old).holds r.number) ((shelves_of mid).holds r.number) (Err c.in-Err.why)) c.numbered-next.ensures
    (c.in-Err.ensures.keeps rack_tells disk_tells))
    (subst (λ (ys : List (Shelf (Disks g.row.F.Denot g.F.Disk) Counting)). HoldImages trio_view ys (shelves_of new).holds) same (c.put_all_back.ensures.images rack_tells disk_tells))
    (subst (λ (ys : List (Shelf (Disks g.row.F.Denot g.F.Disk) Counting)). LeaveOthers ys mid new) same c.put_all_back.ensures.others)

pub returns-in-Err-clause-later : goal.returns-in-Err-clause-later
returns-in-Err-clause-later g c =
    let mid = (g.R.Rack.view c.open_next.new.rack).faults in
    let new = (g.R.Rack.view c.put_all_back.new.rack).faults in
    later_closed _ _ _ _ _ _ _ _ _ mid new c.loop-number.invariant c.in-Err.ensures.later
    (subst (λ (ys : List (Shelf (Disks g.row.F.Denot g.F.Disk) Counting)). total mid (faults_in trio_view ys) ≤ new) c.in-Err.ensures.same c.put_all_back.ensures.later)

pub returns-in-Err-clause-failed_later : goal.returns-in-Err-clause-failed_later
returns-in-Err-clause-failed_later g c =
    let old = g.R.Rack.view c.loop-number.rack in
    let mid = g.R.Rack.view c.open_next.new.rack in
    given_later _ _ _ _ _ _ _ _ _ mid (g.R.Rack.view c.put_all_back.new.rack) c.loop-number.invariant
    (subst (λ (r : Rules). GivesOne r.number old mid) c.numbered-next.ensures c.in-Err.ensures.given) c.put_all_back.ensures.failed_later

pub returns-in-Err-clause-disk : goal.returns-in-Err-clause-disk
returns-in-Err-clause-disk g c is =
    let old = g.R.Rack.view c.loop-number.rack in
    let mid = g.R.Rack.view c.open_next.new.rack in
    let new = g.R.Rack.view c.put_all_back.new.rack in
    failed_closed _ _ _ _ _ _ _ _ _ mid new c.loop-number.invariant
    (subst (λ (r : Rules). FailedFor r.number old mid) c.numbered-next.ensures (c.in-Err.ensures.disk (ap (λ (w : Reopen). Err w) is)))
    c.in-Err.ensures.later
    (subst (λ (ys : List (Shelf (Disks g.row.F.Denot g.F.Disk) Counting)). total mid.faults (faults_in trio_view ys) ≤ new.faults) c.in-Err.ensures.same c.put_all_back.ensures.later)
    c.put_all_back.ensures.failed_later

pub returns-in-Err-clause-asked : goal.returns-in-Err-clause-asked
returns-in-Err-clause-asked g c =
    let old = g.R.Rack.view c.loop-number.rack in
    let mid = g.R.Rack.view c.open_next.new.rack in
    asked_until c.args.rules.shelves c.loop-number.number (g.R.Rack.view c.args.rack.now) old mid (g.R.Rack.view c.put_all_back.new.rack) (omega arith)
    c.loop-number.invariant.asked
    (subst (λ (r : Rules). AsksForSome r.number old mid) c.numbered-next.ensures c.in-Err.ensures.asked) c.put_all_back.ensures.asked

pub returns-in-Err-clause-asked_shut : goal.returns-in-Err-clause-asked_shut
returns-in-Err-clause-asked_shut g c is =
    let old = g.R.Rack.view c.loop-number.rack in
    let mid = g.R.Rack.view c.open_next.new.rack in
    asked_one_more c.loop-number.number (g.R.Rack.view c.args.rack.now) old mid (g.R.Rack.view c.put_all_back.new.rack) c.loop-number.invariant.asked
    (subst (λ (r : Rules). AsksForOne r.number old mid) c.numbered-next.ensures (c.in-Err.ensures.asked_shut (ap (λ (w : Reopen). Err w) is))) c.put_all_back.ensures.asked

pub loop-number-preserved : goal.loop-number-preserved
loop-number-preserved g c =
    let old = g.R.Rack.view c.loop-number.rack in
    let new = g.R.Rack.view c.open_next.new.rack in
    opened_more _ _ _ _ _ _ _ _ _ c.open_next.new.shelves.items new c.loop-number.invariant
    (subst (λ (r : Rules). OpensNext trio_view g.R.Rack.tells g.F.Disk.tells (scripts_of c.args.setup.now) r c.loop-number.shelves.items
    c.open_next.new.shelves.items old new) c.numbered-next.ensures c.in_default.ensures.opened)
    (omega (arith, c.requires.range.shelves))

pub returns-clause-opened : goal.returns-clause-opened
returns-clause-opened g c =
    let all : c.loop-number.number ≡ c.args.rules.shelves = omega arith in
    subst (λ n. AreOpened trio_view g.R.Rack.tells g.F.Disk.tells (scripts_of c.args.setup.now) c.args.rules (g.R.Rack.view c.args.rack.now) n
    c.loop-number.shelves.items (g.R.Rack.view c.loop-number.rack)) all c.loop-number.invariant
