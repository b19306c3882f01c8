use Rattle.std.proofs.Common.{rules, ◌≡◌, ◌∙◌, IsTrue, Some, Err, ap, sym, subst, refl}
use Rattle.shelf.specs.PageJournal.Settled.{bodies_in}
use Rattle.shelf.specs.Following.{AddsThroughout, Adopts, AdoptsThroughout, HasAdopted}
use Rattle.page_follower.specs.Comparing.{Progress, progress}
use Rattle.page_follower.specs.Ends.{end_for}
use Rattle.page_follower.specs.Held.{AdoptsNext}
use Rattle.page_follower.proofs.Adoptions.{adopted_next, gained, stops_by}
use Rattle.page_follower.proofs.Records.{taken}
use Rattle.page_follower.proofs.comparer.Comparer.adopt_next.Goals as goal

pub returns-in-Ok-clause-adopts : goal.returns-in-Ok-clause-adopts
returns-in-Ok-clause-adopts g c = λ (told : IsTrue g.D.Disk.tells).
    let view = g.D.Disk.view in
    let old = c.args.shelf.now in
    let new = c.adopt.new.self in
    let body = c.in-Ok-Some.body.items in
    let mid : Progress = record {
      source = g.S.Source.view c.next.new.source;
      sink = g.O.Sink.view c.args.self.now.sink.now;
      place = c.next.new.self.place;
      acks = c.args.self.now.acks;
      ending = c.args.self.now.ending;
    } in
    let some : c.in-Ok-Some.field-0 ≡ Some c.in-Ok-Some.body = search (rules, c.in-Ok-Some.field-0-is) in
    let came = taken (g.S.Source.view c.args.self.now.source.now) (g.S.Source.view c.next.new.source) c.args.self.now.reader.place c.next.new.self.place
    c.in-Ok-Some.body c.in-Ok-Some.field-0 c.in-Ok-Some.ensures.takes some in
    let adopts = subst (HasAdopted view g.D.Disk.tells old new) c.deref.ensures.value c.in-Ok.ensures.adopts in
    let run = subst (AddsThroughout view old new) c.deref.ensures.value (c.in-Ok.ensures.any_moment told) in
    adopted_next view (progress g.S.Source.view g.O.Sink.view c.args.self.now) mid (progress g.S.Source.view g.O.Sink.view c.acknowledge.new.self)
    old.journal.disk new.journal.disk body (bodies_in view old.journal) (bodies_in view new.journal) c.acknowledge.new.self.ending
    came refl refl (adopts.bodies told) (gained view g.D.Disk.tells old new body told adopts c.adopt.ensures.in_order run)
    c.acknowledge.ensures.tells

pub returns-in-Ok-Some-clause-adopts : goal.returns-in-Ok-Some-clause-adopts
returns-in-Ok-Some-clause-adopts g c = λ (told : IsTrue g.D.Disk.tells).
    let view = g.D.Disk.view in
    let old = c.args.shelf.now in
    let new = c.adopt.new.self in
    let body = c.in-Ok-Some.body.items in
    let some : c.in-Ok-Some.field-0 ≡ Some c.in-Ok-Some.body = search (rules, c.in-Ok-Some.field-0-is) in
    let came = taken (g.S.Source.view c.args.self.now.source.now) (g.S.Source.view c.next.new.source) c.args.self.now.reader.place c.next.new.self.place
    c.in-Ok-Some.body c.in-Ok-Some.field-0 c.in-Ok-Some.ensures.takes some in
    let stopped : Progress = record {
      source = g.S.Source.view c.next.new.source;
      sink = g.O.Sink.view c.args.self.now.sink.now;
      place = c.next.new.self.place;
      acks = c.args.self.now.acks;
      ending = Some c.end_for.result;
    } in
    let fault = c.in-Err-adopt.fault in
    let adopts = subst (λ b. Adopts view g.D.Disk.tells old new b (Err fault)) c.deref.ensures.value c.in-Err-adopt.ensures.adopts in
    let run = subst (λ b. AdoptsThroughout view g.D.Disk.tells old new b (Err fault)) c.deref.ensures.value c.in-Err-adopt.ensures.any_moment in
    subst (λ e. AdoptsNext view (progress g.S.Source.view g.O.Sink.view c.args.self.now) stopped old.journal.disk new.journal.disk
    (bodies_in view old.journal) (bodies_in view new.journal) (Some e))
    (sym (c.end_for.ensures ∙ ap (end_for fault) c.place-place.ensures.place))
    (stops_by view g.D.Disk.tells (progress g.S.Source.view g.O.Sink.view c.args.self.now) stopped old new body told c.requires.can c.requires.in_order
    came (record { sink = refl; acks = refl }) fault adopts run)
