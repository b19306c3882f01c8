use Rattle.std.proofs.Common.{◌≡◌, inl, inr, ℕ, List, ap, sym, subst, arith}
use Rattle.std.specs.Prelude.{Err}
use Rattle.script_nodes.specs.Setup.{Named}
use Rattle.script_nodes.specs.Views.{scripts_of}
use Rattle.setup_reader.specs.Texts.{setup_of_texts}
use Rattle.shelf.proofs.JournalSpec.Standings.{one_of}
use Rattle.web_disk.specs.View.{View, AreAmong}
use Rattle.shelf.specs.Faults.{IsTooLong}
use Rattle.shelf.specs.Opening.{IsFaultOf, IsOfNow}
use Rattle.shelf.specs.declared.begin.BeginFault.{BeginFault}
use Rattle.shelf.specs.declared.begin.BeginFault.TheVariants as begin
use Rattle.play_steps.specs.declared.stage.Reopen.TheVariants as reopen
use Rattle.disk_trio.specs.Trio.{trio_view}
use Rattle.disk_trio.specs.declared.trio.Disks.{Disks}
use Rattle.disk_trio.specs.Laws.{counts_left, reads_left}
use Rattle.trio_rack.specs.Trios.{shelves_of}
use Rattle.play_desk.specs.Opening.{BeginsEmpty, Finds, HoldNoRoom, KeepsBegun, reopen_of}
use Rattle.play_desk.proofs.Firsts.{begins, begins_empty}
use Rattle.play_desk.proofs.Keeping.{is_kept, not_begun}
use Rattle.play_desk.proofs.Now.{bytes_now, never_anew}
use Rattle.play_desk.proofs.Reopening.{stays_lost}
use Rattle.play_desk.proofs.opening.begun.Goals as goal

pub returns-in-Ok-clause-found : goal.returns-in-Ok-clause-found
returns-in-Ok-clause-found g c told now = (c.args.disks, λ image here. here, c.in-Ok.ensures.one_of told now)

-- a disk of the newest format that makes no shelf
found_not : {D : Type 0} (view : D → View) (scripts : List Named) (number : ℕ) (disk : D) (e : BeginFault) → (view disk).images (view disk).seen
    → IsOfNow (view disk) → IsFaultOf scripts number (view disk) e → Finds view scripts number (view disk).images (Err (reopen_of e))
found_not view scripts number disk (begin.Damaged place) reads now is = ((view disk).seen, reads, is)
found_not view scripts number disk (begin.Other place) reads now is = ((view disk).seen, reads, is)
found_not view scripts number disk (begin.Full len) reads now (inl long) = absurd (never_anew number len (view disk).seen now long)
found_not view scripts number disk (begin.Full len) reads now (inr long) =
    let same = bytes_now number (view disk).seen now in
    let is = subst (λ m. IsTooLong scripts number m len) same long.setup in
    (is.made.book, (disk, (λ image here. here), one_of setup_of_texts number scripts (view disk) is.made reads is.opened), is.is, is.long, ((view disk).seen, reads, is.another))
found_not view scripts number disk begin.DiskFault reads now is = tt
found_not view scripts number disk begin.Memory reads now is = tt

pub returns-in-Err-clause-found : goal.returns-in-Err-clause-found
returns-in-Err-clause-found g c = λ told now.
    let ss = scripts_of c.args.setup.now in
    subst (λ r. Finds {D = Disks g.row.F.Denot g.F.Disk} trio_view ss c.args.rules.number (trio_view c.args.disks).images (Err r)) (sym c.why_not.ensures)
    (found_not trio_view ss c.args.rules.number c.args.disks c.in-Err.fault (reads_left g.F.Disk g.met.F.Disk.reads_image c.args.disks told) now (c.in-Err.ensures.refused told))

pub returns-in-Ok-clause-keeps : goal.returns-in-Ok-clause-keeps
returns-in-Ok-clause-keeps g c rack_tells tells =
    let v = trio_view {G = g.F.Disk} in
    is_kept (scripts_of c.args.setup.now) c.args.rules.number (v c.args.disks) (v c.in-Ok.shelf.journal.disk) (v c.args.disks).images
    (reads_left g.F.Disk g.met.F.Disk.reads_image c.args.disks tells) (λ image h. h)
    (c.in-Ok.ensures.keeps tells (λ e. let no : ⊥ = cc in no))

pub returns-in-Err-clause-keeps : goal.returns-in-Err-clause-keeps
returns-in-Err-clause-keeps g c rack_tells tells =
    let v = trio_view {G = g.F.Disk} in
    let ss = scripts_of c.args.setup.now in
    let holds = (shelves_of (g.R.Rack.view c.give_trio.new.rack)).holds in
    subst (λ r. KeepsBegun v ss c.args.rules.number (v c.args.disks) holds (Err r)) (sym c.why_not.ensures)
    (not_begun v ss c.args.rules.number (v c.args.disks) (v c.in-Err.disks) holds c.in-Err.fault (reads_left g.F.Disk g.met.F.Disk.reads_image c.args.disks tells) (λ other. c.in-Err.ensures.keeps tells (λ e. other cc))
    (c.give_trio.ensures.images rack_tells tells))

-- a disk that is given back, as its journal has no room for the setup, may hold what has none
no_room : (scripts : List Named) (number : ℕ) (new : View) (holds : List ℕ → Type 0) (e : BeginFault)
    → ((len : ℕ) → e ≡ begin.Full len → HoldNoRoom scripts number new.images len) → AreAmong holds new.images
    → (len : ℕ) → reopen_of e ≡ reopen.Full len → HoldNoRoom scripts number holds len
no_room scripts number new holds (begin.Full size) full among len is =
    let same : begin.Full size ≡ begin.Full len = cc is in λ image here. full len same image (among image here)
no_room scripts number new holds (begin.Damaged place) full among len is = let no : ⊥ = cc is in absurd no
no_room scripts number new holds (begin.Other place) full among len is = let no : ⊥ = cc is in absurd no
no_room scripts number new holds begin.DiskFault full among len is = let no : ⊥ = cc is in absurd no
no_room scripts number new holds begin.Memory full among len is = let no : ⊥ = cc is in absurd no

pub returns-in-Err-clause-full : goal.returns-in-Err-clause-full
returns-in-Err-clause-full g c rack_tells tells = λ len is.
    let v = trio_view {G = g.F.Disk} in
    let n = c.args.rules.number in
    let ss = scripts_of c.args.setup.now in
    let same : reopen_of c.in-Err.fault ≡ reopen.Full len = cc (is, c.why_not.ensures) in
    no_room ss n (v c.in-Err.disks) ((shelves_of (g.R.Rack.view c.give_trio.new.rack)).holds n) c.in-Err.fault
    (λ size e. c.in-Err.ensures.full tells size (ap (λ (f : BeginFault). Err f) e)) (c.give_trio.ensures.images rack_tells tells) len same

-- no fault of a shelf that is not begun is that its disks have bytes
none_has_bytes : (e : BeginFault) → reopen_of e ≡ reopen.NotEmpty → ⊥
none_has_bytes (begin.Damaged place) is = cc
none_has_bytes (begin.Other place) is = cc
none_has_bytes (begin.Full len) is = cc
none_has_bytes begin.DiskFault is = cc
none_has_bytes begin.Memory is = cc

pub returns-in-Err-clause-bytes : goal.returns-in-Err-clause-bytes
returns-in-Err-clause-bytes g c is = none_has_bytes c.in-Err.fault (cc (is, c.why_not.ensures))

-- an opening leaves the disk of an own shelf standing for its book, whatever came of it
pub returns-in-Ok-clause-left : goal.returns-in-Ok-clause-left
returns-in-Ok-clause-left g c rack_tells tells now_is =
    let v = trio_view {G = g.F.Disk} in
    let now = c.in-Ok.shelf.journal.disk in
    stays_lost (scripts_of c.args.setup.now) c.args.rules.number (v c.args.disks) (v now) (v now).images (λ t image. counts_left g.F.Disk now t image)
    (c.in-Ok.ensures.any_moment tells now_is) (c.in-Ok.ensures.own_moments tells) (λ image h. h)

pub returns-in-Err-clause-left : goal.returns-in-Err-clause-left
returns-in-Err-clause-left g c rack_tells tells now_is =
    let v = trio_view {G = g.F.Disk} in
    let now = c.in-Err.disks in
    stays_lost (scripts_of c.args.setup.now) c.args.rules.number (v c.args.disks) (v now) ((shelves_of (g.R.Rack.view c.give_trio.new.rack)).holds c.args.rules.number)
    (λ t image. counts_left g.F.Disk now t image)
    (c.in-Err.ensures.any_moment tells now_is) (c.in-Err.ensures.own_moments tells) (c.give_trio.ensures.images rack_tells tells)

pub begin-requires-clause-begins : goal.begin-requires-clause-begins
begin-requires-clause-begins g c =
    begins c.args.rules.number (scripts_of c.args.setup.now)
    (let low = c.requires.range.number in let most = c.requires.range.shelves in omega (arith, low, most)) c.requires.read

pub returns-in-Err-clause-empty : goal.returns-in-Err-clause-empty
returns-in-Err-clause-empty g c told none =
    let v = trio_view {G = g.F.Disk} in
    let ss = scripts_of c.args.setup.now in
    subst (λ r. BeginsEmpty v ss c.args.rules (Err r)) (sym c.why_not.ensures)
    (begins_empty v ss c.args.rules (v c.args.disks) c.in-Err.fault none c.requires.read (c.in-Err.ensures.refused told))
