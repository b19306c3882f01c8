use Rattle.std.proofs.Common.{◌≡◌, true, false, refl, sym, ◌∙◌, subst}
use Rattle.disk_trio.specs.Trio.{trio_view}
use Rattle.disk_trio.specs.declared.trio.Disks.{Disks}
use Rattle.site.specs.Passes.{Swept, Compacted, Follows, Ticked, has_freed}
use Rattle.site.proofs.Ticks.{at_both, at_alone}
use Rattle.site.proofs.tick.Site+Disks+F+N.tick_at.Goals as goal

-- the sweep freed an instance, and the turn after it was made
pub returns-then-has_freed-clause-ticked : goal.returns-then-has_freed-clause-ticked
returns-then-has_freed-clause-ticked g c =
    let tells = g.F.Disk.tells in
    let coming = g.N.Nonces.nonce in
    let told = c.sweep_at-swept.result in
    let freed : has_freed told ≡ true = sym c.has_freed.ensures ∙ c.if-has_freed.true in
    at_both c.args.shelf
    (λ v w. Swept {D = Disks g.row.F.Denot g.F.Disk} {N = g.row.N.Denot} trio_view tells coming v c.args.tick told w)
    (λ v w. Compacted {D = Disks g.row.F.Denot g.F.Disk} {N = g.row.N.Denot} trio_view tells coming v w)
    (λ v w. Ticked {D = Disks g.row.F.Denot g.F.Disk} {N = g.row.N.Denot} trio_view tells coming v c.args.tick told w)
    c.args.pass.now c.sweep_at-swept.new.pass c.compact_at.new.pass
    (λ u v w swept then. record {
      middle = v;
      swept = swept;
      follows = subst (λ b. Follows {D = Disks g.row.F.Denot g.F.Disk} {N = g.row.N.Denot} trio_view tells coming b v w) (sym freed) then;
    })
    c.sweep_at-swept.ensures.swept c.compact_at.ensures.compacted

-- it freed none
pub returns-else-has_freed-clause-ticked : goal.returns-else-has_freed-clause-ticked
returns-else-has_freed-clause-ticked g c =
    let tells = g.F.Disk.tells in
    let coming = g.N.Nonces.nonce in
    let told = c.sweep_at-swept.result in
    let freed : has_freed told ≡ false = sym c.has_freed.ensures ∙ c.if-has_freed.false in
    at_alone c.args.shelf
    (λ v w. Swept {D = Disks g.row.F.Denot g.F.Disk} {N = g.row.N.Denot} trio_view tells coming v c.args.tick told w)
    (λ v w. Ticked {D = Disks g.row.F.Denot g.F.Disk} {N = g.row.N.Denot} trio_view tells coming v c.args.tick told w)
    c.args.pass.now c.sweep_at-swept.new.pass
    (λ u v swept. record {
      middle = v;
      swept = swept;
      follows = subst (λ b. Follows {D = Disks g.row.F.Denot g.F.Disk} {N = g.row.N.Denot} trio_view tells coming b v v) (sym freed) refl;
    })
    c.sweep_at-swept.ensures.swept
