use Rattle.std.proofs.Common.{rules, ◌≡◌, ap, sym, subst, arith, length, []}
use Rattle.disk_trio.specs.Trio.{trio_view}
use Rattle.disk_trio.specs.declared.trio.Disks.{Disks}
use Rattle.lock_row.specs.Spots.{At, home_of}
use Rattle.lock_row.proofs.Places.{map_length}
use Rattle.site.specs.Passes.{Ticked}
use Rattle.site.specs.Sites.{TicksSoFar}
use Rattle.site.proofs.Ticks.{ticks_first, ticks_on}
use Rattle.site.proofs.tick.Site+Disks+F+N.tick.Goals as goal

pub loop-shelf-init : goal.loop-shelf-init
loop-shelf-init g c = (
  c.requires.own,
  (let none : c.in_ok-answers.answers.items ≡ [] = search rules in
      subst (λ l. TicksSoFar {D = Disks g.row.F.Denot g.F.Disk} {N = g.row.N.Denot} trio_view g.F.Disk.tells g.N.Nonces.nonce c.args.pass.now c.args.tick l c.args.pass.now) (sym none)
      (ticks_first {D = Disks g.row.F.Denot g.F.Disk} {N = g.row.N.Denot} trio_view g.F.Disk.tells g.N.Nonces.nonce c.args.pass.now c.args.tick)),
  search (rules, arith),
  search (rules, arith),
  search (rules, arith),
)

pub loop-shelf-preserved : goal.loop-shelf-preserved
loop-shelf-preserved g c =
    let view = trio_view in
    let tells = g.F.Disk.tells in
    let coming = g.N.Nonces.nonce in
    let i = c.loop-shelf.invariant in
    let pushed = c.push_reserved.ensures.items in
    let at = subst (λ k. At k (λ v w. Ticked {D = Disks g.row.F.Denot g.F.Disk} {N = g.row.N.Denot} view tells coming v c.args.tick c.tick_at.result w) c.loop-shelf.pass c.tick_at.new.pass) (sym i.3) c.tick_at.ensures.ticked in
    let on = ticks_on {D = Disks g.row.F.Denot g.F.Disk} {N = g.row.N.Denot} view tells coming c.args.pass.now c.args.tick c.loop-shelf.answers.items c.loop-shelf.pass c.tick_at.new.pass c.tick_at.result i.1 at in (
      c.tick_at.ensures.own,
      subst (λ l. TicksSoFar {D = Disks g.row.F.Denot g.F.Disk} {N = g.row.N.Denot} view tells coming c.args.pass.now c.args.tick l c.tick_at.new.pass) (sym pushed) on,
      search (rules, arith),
      search (rules, arith),
      search (rules, arith),
    )

pub returns-clause-swept : goal.returns-clause-swept
returns-clause-swept g c =
    let i = c.loop-shelf.invariant in
    let l2 = map_length (λ s. home_of s) c.args.pass.now in
    let l3 = ap length c.requires.own.of in
    let l4 = i.3 in
    let l5 = c.shelves-shelves.ensures in
    let l6 = c.loop-shelf-test.false in
    let l7 = c.loop-shelf.auto.shelf-end in
    record { all = omega arith; so = i.1 }
