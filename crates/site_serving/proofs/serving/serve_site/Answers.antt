use Rattle.std.proofs.Common.{◌≡◌, ◌∙◌, ap, arith, inr, length, refl, subst, sym}
use Rattle.std.specs.Prelude.{Err}
use Rattle.disk_trio.specs.Trio.{trio_view}
use Rattle.web_outside.specs.Causes.{Rose}
use Rattle.request_workers.specs.declared.tally.WorkEnd.TheVariants.{Done, Failed}
use Rattle.site_serving.specs.declared.serving.ServingFault.TheVariants as fault
use Rattle.site_serving.specs.Serving.{ComesTo, openings_in, pasts_of, views}
use Rattle.site_serving.proofs.Outcomes.{ends, failed_by, kept_by, unserved_by, untouched}
use Rattle.site_serving.proofs.serving.serve_site.Goals as goal

pub give_up-requires-in-Err-clause-given : goal.give_up-requires-in-Err-clause-given
give_up-requires-in-Err-clause-given g c = c.in-Ok.ensures.manned.given ∙ sym c.in-Ok.ensures.count

pub give_up-requires-in-Err-clause-first : goal.give_up-requires-in-Err-clause-first
give_up-requires-in-Err-clause-first g c = c.in-Ok.ensures.manned.first

-- there was no memory for the workers
pub returns-in_default-clause-comes : goal.returns-in_default-clause-comes
returns-in_default-clause-comes g c = (
  (refl, refl),
  untouched trio_view g.F.Disk.tells g.N.Nonces.nonce c.args.site c.gather.new.site c.give_up.result.items c.gather.ensures.homes c.give_up.ensures.untouched,
)

pub returns-in-Done-clause-comes : goal.returns-in-Done-clause-comes
returns-in-Done-clause-comes g c =
    let v = views trio_view g.F.Disk.tells g.A.Porch.Link.Link.view g.A.Porch.Porch.view g.N.Nonces.nonce (g.C.Clock.shows c.args.clock.now) in
    let past = pasts_of (g.P.Past.told c.args.past.now) (g.P.Past.told c.serve_porches-disks.new.past) in
    let many : length c.in-Ok-listen.porches.items ≡ c.in-Ok.crew.passes.len = sym c.in-Ok-listen.porches.ok.0 ∙ (c.in-Ok-listen.ensures.count ∙ sym c.in-Ok.ensures.count) in
    kept_by v (openings_in trio_view g.F.Disk.tells g.N.Nonces.nonce c.args.site) c.in-Ok-listen.porches.items (g.A.Door.view c.args.door.now) (g.A.Door.view c.serve_porches-disks.new.door) past
    c.args.watch.now _ c.serve_porches-disks.result.0.items c.serve_porches-disks.result.1 Done (ends trio_view g.F.Disk.tells g.N.Nonces.nonce c.args.site c.gather.new.site v _ _ _ past _ _ _ c.gather.ensures.homes c.serve_porches-disks.ensures.ends)
    c.in-Ok.ensures.count many c.in-Ok-listen.ensures.told c.in-Ok-listen.ensures.served c.in-Ok-listen.ensures.given c.in-Ok-listen.ensures.most
    c.in-Done.is

pub returns-in-Failed-clause-comes : goal.returns-in-Failed-clause-comes
returns-in-Failed-clause-comes g c =
    let v = views trio_view g.F.Disk.tells g.A.Porch.Link.Link.view g.A.Porch.Porch.view g.N.Nonces.nonce (g.C.Clock.shows c.args.clock.now) in
    let past = pasts_of (g.P.Past.told c.args.past.now) (g.P.Past.told c.serve_porches-disks.new.past) in
    let many : length c.in-Ok-listen.porches.items ≡ c.in-Ok.crew.passes.len = sym c.in-Ok-listen.porches.ok.0 ∙ (c.in-Ok-listen.ensures.count ∙ sym c.in-Ok.ensures.count) in
    let kept = kept_by v (openings_in trio_view g.F.Disk.tells g.N.Nonces.nonce c.args.site) c.in-Ok-listen.porches.items (g.A.Door.view c.args.door.now) (g.A.Door.view c.serve_porches-disks.new.door) past
    c.args.watch.now _ c.serve_porches-disks.result.0.items c.serve_porches-disks.result.1 Failed (ends trio_view g.F.Disk.tells g.N.Nonces.nonce c.args.site c.gather.new.site v _ _ _ past _ _ _ c.gather.ensures.homes c.serve_porches-disks.ensures.ends)
    c.in-Ok.ensures.count many c.in-Ok-listen.ensures.told c.in-Ok-listen.ensures.served c.in-Ok-listen.ensures.given c.in-Ok-listen.ensures.most
    c.in-Failed.is in
    inr (kept.0, kept.1)

pub returns-in-Err-clause-comes : goal.returns-in-Err-clause-comes
returns-in-Err-clause-comes g c =
    let v = views trio_view g.F.Disk.tells g.A.Porch.Link.Link.view g.A.Porch.Porch.view g.N.Nonces.nonce (g.C.Clock.shows c.args.clock.now) in
    let past = pasts_of (g.P.Past.told c.args.past.now) (g.P.Past.told c.args.past.now) in
    let openings = openings_in trio_view g.F.Disk.tells g.N.Nonces.nonce c.args.site in
    let disks = c.give_up-in-Err.result.items in
    subst (λ e. ComesTo v openings (g.A.Door.view c.args.door.now) (g.A.Door.view c.listen.new.self) past c.args.watch.now disks (Err e))
    (sym c.fault_of.ensures)
    (unserved_by v openings (g.A.Door.view c.args.door.now) (g.A.Door.view c.listen.new.self) past c.args.watch.now disks c.in-Err.why (
      (c.in-Err.ensures.closed, refl),
      untouched trio_view g.F.Disk.tells g.N.Nonces.nonce c.args.site c.gather.new.site disks c.gather.ensures.homes c.give_up-in-Err.ensures.untouched,
    ))

pub returns-in-Err-clause-door : goal.returns-in-Err-clause-door
returns-in-Err-clause-door g c = λ is.
    let same : c.fault_of.result ≡ fault.Door = cc is in
    failed_by (Rose (g.A.Door.view c.args.door.now).faults (g.A.Door.view c.listen.new.self).faults) c.in-Err.why
    (λ e. c.in-Err.ensures.failed (ap (λ x. Err x) e)) (sym c.fault_of.ensures ∙ same)

-- a porch failed, after a door that listened
pub returns-in-Failed-clause-door : goal.returns-in-Failed-clause-door
returns-in-Failed-clause-door g c = λ is.
    let rose = c.serve_porches-disks.ensures.failed c.in-Failed.is in
    let later = c.listen.ensures.later in
    omega (arith, rose, later)
