use Rattle.std.proofs.Common.{◌≡◌, ◌≤◌, ◌∙◌, ap, sym, subst, List, slice_get, Some, None, true, false, Err, Vec, arith}
use Rattle.std.specs.declared.alloc.Global.{Global}
use Rattle.web_outside.specs.Causes.{Rose}
use Rattle.web_outside.specs.declared.nonces.Counting.{Counting}
use Rattle.script_nodes.specs.Views.{scripts_of}
use Rattle.shelf.specs.declared.shelf.Shelf.{Shelf}
use Rattle.play_steps.specs.declared.stage.Reopen.{Reopen}
use Rattle.play_steps.specs.declared.stage.Reopen.TheVariants.{Disk}
use Rattle.disk_trio.specs.Trio.{trio_view}
use Rattle.disk_trio.specs.declared.trio.Disks.{Disks}
use Rattle.trio_rack.specs.Trios.{shelves_of}
use Rattle.trio_rack.proofs.Each.{some_at}
use Rattle.play_desk.specs.Opening.{HoldImages, LeaveOthers}
use Rattle.play_desk.specs.Staff.{AreLow, HaveOwnNumbers, IsHome, faults_in, numbers_in, total}
use Rattle.play_desk.proofs.Asking.{first_rests}
use Rattle.play_desk.proofs.Closing.{left_behind}
use Rattle.play_desk.proofs.Fitting.{number_at}
use Rattle.play_desk.proofs.Outage.{fit_none}
use Rattle.play_desk.proofs.Owning.{own_alone}
use Rattle.play_desk.proofs.crashing.crash.Goals as goal

pub put_all_back-requires-clause-numbers : goal.put_all_back-requires-clause-numbers
put_all_back-requires-clause-numbers g c =
    subst (λ (v : Vec (Shelf (Disks g.row.F.Denot g.F.Disk) Counting) Global). HaveOwnNumbers v.items) (sym c.replace.ensures.value) c.in-Err.ensures.numbers

pub put_all_back-requires-clause-low : goal.put_all_back-requires-clause-low
put_all_back-requires-clause-low g c =
    subst (λ (v : Vec (Shelf (Disks g.row.F.Denot g.F.Disk) Counting) Global). AreLow v.items) (sym c.replace.ensures.value) c.in-Err.ensures.low

pub put_all_back-requires-clause-home : goal.put_all_back-requires-clause-home
put_all_back-requires-clause-home g c =
    subst (λ (v : Vec (Shelf (Disks g.row.F.Denot g.F.Disk) Counting) Global). IsHome v.items (shelves_of (g.R.Rack.view c.reopen_at.new.rack)).out) (sym c.replace.ensures.value)
    c.in-Err.ensures.home

pub returns-in-Err-clause-closed : goal.returns-in-Err-clause-closed
returns-in-Err-clause-closed g c = ap (λ (v : Vec (Shelf (Disks g.row.F.Denot g.F.Disk) Counting) Global). v.items) c.replace.ensures.after ∙ c.new.ensures.items

pub returns-in-Err-clause-fit : goal.returns-in-Err-clause-fit
returns-in-Err-clause-fit g c =
    let none = ap (λ (v : Vec (Shelf (Disks g.row.F.Denot g.F.Disk) Counting) Global). v.items) c.replace.ensures.after ∙ c.new.ensures.items in
    fit_none trio_view g.F.Disk.tells c.replace.new.dest.items c.no_tickets.result none c.no_tickets.ensures

pub returns-in-Err-clause-own : goal.returns-in-Err-clause-own
returns-in-Err-clause-own g c rack_tells disk_tells own =
    let none = ap (λ (v : Vec (Shelf (Disks g.row.F.Denot g.F.Disk) Counting) Global). v.items) c.replace.ensures.after ∙ c.new.ensures.items in
    own_alone trio_view g.F.Disk.tells c.replace.new.dest.items c.no_tickets.result
    (λ k x e. absurd (let no : None ≡ Some x = sym (ap (λ (ys : List (Shelf (Disks g.row.F.Denot g.F.Disk) Counting)). slice_get ys k) none) ∙ e in cc)) c.no_tickets.ensures

pub returns-in-Err-clause-home : goal.returns-in-Err-clause-home
returns-in-Err-clause-home g c =
    let none = ap (λ (v : Vec (Shelf (Disks g.row.F.Denot g.F.Disk) Counting) Global). v.items) c.replace.ensures.after ∙ c.new.ensures.items in
    record {
      ours = λ k n e. absurd (let no : None ≡ Some n = sym (ap (λ (ys : List (Shelf (Disks g.row.F.Denot g.F.Disk) Counting)). slice_get (numbers_in ys) k) none) ∙ e in cc);
      only = λ n out. absurd (let no : true ≡ false = sym out ∙ c.put_all_back.ensures.home n in cc);
    }

pub returns-in-Err-clause-disk : goal.returns-in-Err-clause-disk
returns-in-Err-clause-disk g c is =
    let none = ap (λ (v : Vec (Shelf (Disks g.row.F.Denot g.F.Disk) Counting) Global). v.items) c.replace.ensures.after ∙ c.new.ensures.items in
    let zero = ap (λ (ys : List (Shelf (Disks g.row.F.Denot g.F.Disk) Counting)). faults_in trio_view ys) none in
    let rose = c.in-Err.ensures.disk (let e : c.in-Err.why ≡ Disk = cc in ap (λ (w : Reopen). Err w) e) in
    let mid = (g.R.Rack.view c.reopen_at.new.rack).faults in
    let new = (g.R.Rack.view c.put_all_back.new.rack).faults in
    let up = subst (λ (v : Vec (Shelf (Disks g.row.F.Denot g.F.Disk) Counting) Global). total mid (faults_in trio_view v.items) ≤ new) c.replace.ensures.value c.put_all_back.ensures.later in
    omega (arith, zero, rose, up)

pub returns-in-Err-clause-later : goal.returns-in-Err-clause-later
returns-in-Err-clause-later g c =
    let none = ap (λ (v : Vec (Shelf (Disks g.row.F.Denot g.F.Disk) Counting) Global). v.items) c.replace.ensures.after ∙ c.new.ensures.items in
    let zero = ap (λ (ys : List (Shelf (Disks g.row.F.Denot g.F.Disk) Counting)). faults_in trio_view ys) none in
    let le = c.in-Err.ensures.later in
    let mid = (g.R.Rack.view c.reopen_at.new.rack).faults in
    let new = (g.R.Rack.view c.put_all_back.new.rack).faults in
    let up = subst (λ (v : Vec (Shelf (Disks g.row.F.Denot g.F.Disk) Counting) Global). total mid (faults_in trio_view v.items) ≤ new) c.replace.ensures.value c.put_all_back.ensures.later in
    omega (arith, zero, le, up)

pub returns-in-Err-clause-here : goal.returns-in-Err-clause-here
returns-in-Err-clause-here g c is s at =
    let rose = c.in-Err.ensures.here (let e : c.in-Err.why ≡ Disk = cc in ap (λ (w : Reopen). Err w) e) s at in
    let up = c.put_all_back.ensures.failed_later s.rules.number in
    omega (arith, rose, up)

-- the number of the shelf is its place
pub returns-in-Err-clause-failed : goal.returns-in-Err-clause-failed
returns-in-Err-clause-failed g c is =
    let xs = c.args.staff.now.shelves.items in
    let k = c.args.place in
    let x = some_at xs k c.requires.place in
    let number : x.0.rules.number ≡ k = c.requires.fit.numbers k x.0.rules.number (number_at xs k x.0 x.1) in
    let old = (shelves_of (g.R.Rack.view c.args.rack.now)).failed in
    let new = (shelves_of (g.R.Rack.view c.put_all_back.new.rack)).failed in
    let rose = c.in-Err.ensures.here (let e : c.in-Err.why ≡ Disk = cc in ap (λ (w : Reopen). Err w) e) x.0 x.1 in
    let up = c.put_all_back.ensures.failed_later x.0.rules.number in
    subst (λ n. Rose (old n) (new n)) number (omega (arith, rose, up))

pub returns-in-Err-clause-failed_later : goal.returns-in-Err-clause-failed_later
returns-in-Err-clause-failed_later g c n = (let a = c.in-Err.ensures.failed_later n in let b = c.put_all_back.ensures.failed_later n in omega (arith, a, b))

pub returns-in-Err-clause-left : goal.returns-in-Err-clause-left
returns-in-Err-clause-left g c rack_tells disk_tells own =
    let staff = c.args.staff.now in
    let ys = c.reopen_at.new.staff.shelves.items in
    let mid = g.R.Rack.view c.reopen_at.new.rack in
    let new = g.R.Rack.view c.put_all_back.new.rack in
    left_behind trio_view g.F.Disk.tells (scripts_of c.args.setup.now) staff.shelves.items ys staff.tickets c.args.place c.in-Err.why mid new disk_tells
    c.requires.fit own c.in-Err.ensures.others (c.in-Err.ensures.left rack_tells disk_tells own)
    (c.in-Err.ensures.room rack_tells disk_tells own) c.in-Err.ensures.gone c.in-Err.ensures.home
    (subst (λ (v : Vec (Shelf (Disks g.row.F.Denot g.F.Disk) Counting) Global). HoldImages trio_view v.items (shelves_of new).holds) c.replace.ensures.value (c.put_all_back.ensures.images rack_tells disk_tells))
    (subst (λ (v : Vec (Shelf (Disks g.row.F.Denot g.F.Disk) Counting) Global). LeaveOthers v.items mid new) c.replace.ensures.value c.put_all_back.ensures.others)
    c.put_all_back.ensures.home

pub returns-in-Err-clause-asked : goal.returns-in-Err-clause-asked
returns-in-Err-clause-asked g c front first =
    first_rests (g.R.Rack.view c.reopen_at.new.rack) (g.R.Rack.view c.put_all_back.new.rack) c.put_all_back.ensures.asked front
    (c.in-Err.ensures.asked front first)
