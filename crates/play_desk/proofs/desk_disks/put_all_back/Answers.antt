use Rattle.std.proofs.Common.{◌≡◌, rules, ◌≤◌, ◌∷◌, ◌∙◌, [], List, Some, length, length-append, subst, sym, ap, refl, arith}
use mathlib.Core.List.{IsPrefix}
use Rattle.std.proofs.lemmas.List.{append-nil}
use Rattle.std.proofs.lemmas.Option.{slice_get_within}
use Rattle.web_outside.specs.declared.nonces.Counting.{Counting}
use Rattle.shelf.specs.declared.shelf.Shelf.{Shelf}
use Rattle.disk_trio.specs.Trio.{trio_view}
use Rattle.disk_trio.specs.declared.trio.Disks.{Disks}
use Rattle.trio_rack.specs.Trios.{shelves_of}
use Rattle.play_desk.specs.Staff.{IsHome, faults_in, total}
use Rattle.play_desk.proofs.Closing.{at_front, fell_with, front_less, home_last, images_last, none_out, stays_last}
use Rattle.play_desk.proofs.Fitting.{number_at}
use Rattle.play_desk.proofs.desk_disks.put_all_back.Goals as goal

pub loop-shelf-init : goal.loop-shelf-init
loop-shelf-init g c = (
  ([], append-nil c.args.shelves.items),
  c.requires.home,
  λ told disk_told k s le e. absurd (let within = slice_get_within c.args.shelves.items k s e in omega (arith, within, le)),
  omega arith,
  λ n other image h. h,
  λ n. omega arith,
  refl,
)

pub put_back-requires : goal.put_back-requires
put_back-requires g c =
    let all = c.args.shelves.items in
    let xs = c.pop.new.self.items in
    let x = c.in-Some.shelf in
    let front = subst (λ (ys : List (Shelf (Disks g.row.F.Denot g.F.Disk) Counting)). IsPrefix ys all) c.in-Some.ensures.items c.loop-shelf.invariant.0 in
    record { low = c.requires.low (length xs) x.rules.number (number_at all (length xs) x (at_front xs all x front)) }

pub loop-shelf-preserved : goal.loop-shelf-preserved
loop-shelf-preserved g c =
    let view = trio_view {G = g.F.Disk} in
    let all = c.args.shelves.items in
    let xs = c.pop.new.self.items in
    let x = c.in-Some.shelf in
    let old = g.R.Rack.view c.loop-shelf.rack in
    let new = g.R.Rack.view c.put_back.new.rack in
    let items = c.in-Some.ensures.items in
    let given = c.put_back.ensures.given in
    let i = c.loop-shelf.invariant in
    let front = subst (λ (ys : List (Shelf (Disks g.row.F.Denot g.F.Disk) Counting)). IsPrefix ys all) items i.0 in
    let home = subst (λ (ys : List (Shelf (Disks g.row.F.Denot g.F.Disk) Counting)). IsHome ys (shelves_of old).out) items i.1 in
    let sum = subst (λ (ys : List (Shelf (Disks g.row.F.Denot g.F.Disk) Counting)). total (g.R.Rack.view c.args.rack.now).faults (faults_in view all) ≤ total old.faults (faults_in view ys)) items i.3 in
    let stays = stays_last view xs x old.faults new.faults c.put_back.ensures.later in (
      front_less xs all x front,
      home_last xs all x old new front c.requires.numbers home given,
      λ told disk_told. images_last view xs all x old new front c.requires.numbers given (c.put_back.ensures.images told disk_told)
          (λ k s le e. i.2 told disk_told k s (let len = ap length items in omega (arith, len, length-append xs (x ∷ []), le)) e),
      omega (arith, sum, stays),
      λ n other image h. i.4 n other image
          (given.leaves.others n (λ is. other (length xs) (number_at all (length xs) x (at_front xs all x front) ∙ ap Some (sym is))) image h),
      fell_with (g.R.Rack.view c.args.rack.now) old new x.rules.number i.5 given,
      c.put_back.ensures.asked ∙ i.6,
    )

pub returns-clause-home : goal.returns-clause-home
returns-clause-home g c =
    let empty : c.loop-shelf.shelves.items ≡ [] = search rules in
    none_out c.loop-shelf.shelves.items (shelves_of (g.R.Rack.view c.loop-shelf.rack)).out empty c.loop-shelf.invariant.1

pub returns-clause-images : goal.returns-clause-images
returns-clause-images g c told disk_told k s e =
    let empty : c.loop-shelf.shelves.items ≡ [] = search rules in
    c.loop-shelf.invariant.2 told disk_told k s (omega (arith, ap length empty)) e
