use Rattle.std.proofs.Common.{◌≡◌, ◌∙◌, IsTrue, None, Some, Option, ap, sym, subst, refl}
use Rattle.shelf.specs.PageJournal.Settled.{bodies_in, view_of}
use Rattle.page_follower.specs.Causes.{HasCauses, faults_at}
use Rattle.page_follower.specs.Comparing.{progress}
use Rattle.page_follower.specs.Held.{Adopting}
use Rattle.page_follower.specs.Keeping.{IsKept}
use Rattle.page_follower.specs.declared.fault.FollowEnd.{FollowEnd}
use Rattle.page_follower.specs.declared.fault.FollowEnd.TheVariants as end
use Rattle.page_follower.proofs.Adoptions.{adopting_more, adopting_none, less_to_read}
use Rattle.page_follower.proofs.Causes.{causes_none, causes_then}
use Rattle.page_follower.proofs.Kept.{kept_none, kept_then}
use Rattle.page_follower.proofs.comparer.Comparer.adopt_all.Goals as goal

pub records-init : goal.records-init
records-init g c = record {
  same = (refl, refl);
  room = c.requires.room;
  can = c.requires.can;
  in_order = c.requires.in_order;
  ended = λ h. (refl, refl);
  adopts = λ told start.
      subst (λ (o : Option FollowEnd). Adopting g.D.Disk.view (progress g.S.Source.view g.O.Sink.view c.args.self.now)
      (progress g.S.Source.view g.O.Sink.view c.args.self.now) c.args.shelf.now.journal.disk c.args.shelf.now.journal.disk
      (bodies_in g.D.Disk.view c.args.shelf.now.journal) (bodies_in g.D.Disk.view c.args.shelf.now.journal) o) (sym start)
      (adopting_none g.D.Disk.view (progress g.S.Source.view g.O.Sink.view c.args.self.now) c.args.shelf.now.journal.disk
      (bodies_in g.D.Disk.view c.args.shelf.now.journal));
  causes = λ start.
      let f = faults_at (progress g.S.Source.view g.O.Sink.view c.args.self.now) (view_of g.D.Disk.view c.args.shelf.now.journal) in
      subst (HasCauses f f) (sym start) (causes_none f);
  kept = λ start. subst (IsKept c.args.shelf.now c.args.shelf.now) (sym start) (kept_none c.args.shelf.now (c.requires.can start));
}

pub records-preserved : goal.records-preserved
records-preserved g c =
    let here = c.records.invariant in
    let next = c.adopt_next.ensures in
    let none : c.records.self.ending ≡ None = c.in-None.is in
    record {
      same = (next.same.0 ∙ here.same.0, next.same.1 ∙ here.same.1);
      room = next.room;
      can = λ going. next.kept.can (λ is. let no : None ≡ Some end.DiskFault = sym going ∙ is in cc no);
      in_order = next.in_order;
      ended = λ h. absurd (h (sym (ap (λ s. s.ending) (here.ended h).0) ∙ none));
      adopts = λ (told : IsTrue g.D.Disk.tells) start.
          adopting_more g.D.Disk.view _ _ _ _ _ _ _ _ _ c.adopt_next.new.self.ending
          (subst (λ (o : Option FollowEnd). Adopting g.D.Disk.view (progress g.S.Source.view g.O.Sink.view c.args.self.now)
          (progress g.S.Source.view g.O.Sink.view c.records.self) c.args.shelf.now.journal.disk c.records.shelf.journal.disk
          (bodies_in g.D.Disk.view c.args.shelf.now.journal) (bodies_in g.D.Disk.view c.records.shelf.journal) o) none (here.adopts told start))
          (next.adopts told);
      causes = λ start. causes_then _ _ _ c.adopt_next.new.self.ending (here.causes start).later next.causes;
      kept = λ start. kept_then c.args.shelf.now c.records.shelf c.adopt_next.new.shelf c.records.self.ending c.adopt_next.new.self.ending (here.kept start) next.kept;
    }

pub records-smaller : goal.records-smaller
records-smaller g c = less_to_read _ _ _ _ c.in-None.is c.adopt_next.ensures.nearer c.adopt_next.new.self.reader.within
