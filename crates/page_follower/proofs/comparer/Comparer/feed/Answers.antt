use Rattle.std.proofs.Common.{◌≡◌, ◌∙◌, IsTrue, None, Some, Option, List, ℕ, ap, sym, subst, refl, arith}
use Rattle.shelf.specs.PageJournal.Records.{stored}
use Rattle.shelf.specs.PageJournal.Settled.{bodies_in, view_of}
use Rattle.page_follower.specs.Causes.{faults_at}
use Rattle.page_follower.specs.Comparing.{ComparerTakes, progress}
use Rattle.page_follower.specs.Held.{Adopting, unread}
use Rattle.page_follower.specs.declared.fault.FollowEnd.{FollowEnd}
use Rattle.page_follower.specs.declared.fault.FollowEnd.TheVariants as end
use Rattle.page_follower.proofs.Adoptions.{can_still, compared_below, could_before, fed_all, quiet_rested}
use Rattle.page_follower.proofs.Causes.{all_causes, each_causes, failed_causes}
use Rattle.page_follower.proofs.Kept.{all_kept, kept_read}
use Rattle.page_follower.proofs.Names.{kept_by_all}
use Rattle.page_follower.proofs.Ordered.{of_newest}
use Rattle.page_follower.proofs.Taken.{compared_each}
use Rattle.page_follower.proofs.comparer.Comparer.feed.Goals as goal

pub adopt_all-requires : goal.adopt_all-requires
adopt_all-requires g c =
    let handed = c.for_each.ensures.handed in
    let compares = compared_each (progress g.S.Source.view g.O.Sink.view) (ComparerTakes g.S.Source.view g.O.Sink.view) (λ a b place body t. t.1) handed.0 8
    c.args.self.now c.for_each.new.taker c.requires.starts handed.1 in
    record {
      room = λ none. compared_below _ _ _ compares none (let z = c.requires.acks in omega arith);
      can = λ none. can_still c.args.shelf.now c.for_each.new.self c.for_each.ensures.same c.requires.can;
      in_order = λ can. c.for_each.ensures.in_order (c.requires.in_order (could_before c.args.shelf.now c.for_each.new.self c.for_each.ensures.same can));
    }

pub returns-in-Ok : goal.returns-in-Ok
returns-in-Ok g c =
    let handed = c.for_each.ensures.handed in
    let at = progress g.S.Source.view g.O.Sink.view in
    let takes = ComparerTakes g.S.Source.view g.O.Sink.view in
    let from = kept_by_all (λ s. s.source.ghost_name) takes (λ a b place body t. t.0.0) handed.0 8 c.args.self.now c.for_each.new.taker handed.1 in
    let to = kept_by_all (λ s. s.sink.ghost_name) takes (λ a b place body t. t.0.1) handed.0 8 c.args.self.now c.for_each.new.taker handed.1 in
    let last = c.adopt_all.ensures in
    let ended : (c.for_each.new.taker.ending ≡ None → ⊥) → c.for_each.new.taker.ending ≡ Some c.adopt_all.result =
    λ h. sym (ap (λ s. s.ending) (last.ended h).0) ∙ last.ending in
    record {
      same = (last.same.0 ∙ from, last.same.1 ∙ to);
      feeds = λ (told : IsTrue g.D.Disk.tells).
          let stays : bodies_in g.D.Disk.view c.for_each.new.self.journal ≡ bodies_in g.D.Disk.view c.args.shelf.now.journal =
          ap stored c.for_each.ensures.quiet.seen in
          let compares = compared_each at takes (λ a b place body t. t.1)
          (bodies_in g.D.Disk.view c.args.shelf.now.journal) 8 c.args.self.now c.for_each.new.taker c.requires.starts (c.in-Ok.ensures.taken told) in
          fed_all g.D.Disk.view _ _ _ c.args.shelf.now.journal.disk c.for_each.new.self.journal.disk c.adopt_all.new.shelf.journal.disk
          (bodies_in g.D.Disk.view c.args.shelf.now.journal) (bodies_in g.D.Disk.view c.adopt_all.new.shelf.journal)
          c.for_each.new.taker.ending c.adopt_all.result refl
          (quiet_rested g.D.Disk.view c.args.shelf.now.journal c.for_each.new.self.journal (c.requires.readable.settled told)
          (of_newest g.D.Disk.view g.D.Disk.tells c.args.shelf.now (c.requires.in_order c.requires.can)) c.for_each.ensures.quiet)
          compares last.ending
          (λ h. (ap at (last.ended h).0, ap (λ s. bodies_in g.D.Disk.view s.journal) (last.ended h).1 ∙ stays, ap (λ s. s.journal.disk) (last.ended h).1))
          (λ none. subst (λ (o : Option FollowEnd). Adopting g.D.Disk.view (at c.for_each.new.taker) (at c.adopt_all.new.self)
          c.for_each.new.self.journal.disk c.adopt_all.new.shelf.journal.disk (bodies_in g.D.Disk.view c.args.shelf.now.journal)
          (bodies_in g.D.Disk.view c.adopt_all.new.shelf.journal) o) last.ending
          (subst (λ (l : List (List ℕ)). Adopting g.D.Disk.view (at c.for_each.new.taker) (at c.adopt_all.new.self)
          c.for_each.new.self.journal.disk c.adopt_all.new.shelf.journal.disk l (bodies_in g.D.Disk.view c.adopt_all.new.shelf.journal)
          c.adopt_all.new.self.ending) stays (last.adopts told none)));
      causes = all_causes _ _ _ c.for_each.new.taker.ending c.adopt_all.result
          (each_causes at takes (view_of g.D.Disk.view c.args.shelf.now.journal) (view_of g.D.Disk.view c.for_each.new.self.journal)
          (λ a b place body t. t.1) c.for_each.ensures.quiet.faults handed.0 8 c.args.self.now c.for_each.new.taker c.requires.starts handed.1)
          last.causes
          (λ h. (ended h, λ i. faults_at (at ((last.ended h).0 i)) (view_of g.D.Disk.view ((last.ended h).1 i).journal)));
      kept = all_kept c.args.shelf.now c.for_each.new.self c.adopt_all.new.shelf c.for_each.new.taker.ending c.adopt_all.result
          (kept_read c.args.shelf.now c.for_each.new.self c.for_each.ensures.same c.requires.can) last.kept (λ h. (last.ended h).1);
      in_order = last.in_order;
    }

pub returns-in-Err : goal.returns-in-Err
returns-in-Err g c =
    let handed = c.for_each.ensures.handed in
    let at = progress g.S.Source.view g.O.Sink.view in
    let takes = ComparerTakes g.S.Source.view g.O.Sink.view in
    let from = kept_by_all (λ s. s.source.ghost_name) takes (λ a b place body t. t.0.0) handed.0 8 c.args.self.now c.for_each.new.taker handed.1 in
    let to = kept_by_all (λ s. s.sink.ghost_name) takes (λ a b place body t. t.0.1) handed.0 8 c.args.self.now c.for_each.new.taker handed.1 in
    record {
      same = (from, to);
      feeds = λ (told : IsTrue g.D.Disk.tells).
          let front = c.for_each.ensures.front told in
          let rested = quiet_rested g.D.Disk.view c.args.shelf.now.journal c.for_each.new.self.journal (c.requires.readable.settled told)
          (of_newest g.D.Disk.view g.D.Disk.tells c.args.shelf.now (c.requires.in_order c.requires.can)) c.for_each.ensures.quiet in
          unread front.done front.rest front.all
          (compared_each at takes (λ a b place body t. t.1) front.done 8 c.args.self.now c.for_each.new.taker c.requires.starts front.taken)
          refl (ap stored c.for_each.ensures.quiet.seen, (c.for_each.new.self.journal.disk, rested, (c.for_each.new.self.journal.disk, (refl, refl), refl)));
      causes = failed_causes (at c.args.self.now) (at c.for_each.new.taker) (view_of g.D.Disk.view c.args.shelf.now.journal)
          (view_of g.D.Disk.view c.for_each.new.self.journal) c.for_each.new.taker.ending
          (each_causes at takes (view_of g.D.Disk.view c.args.shelf.now.journal) (view_of g.D.Disk.view c.for_each.new.self.journal)
          (λ a b place body t. t.1) c.for_each.ensures.quiet.faults handed.0 8 c.args.self.now c.for_each.new.taker c.requires.starts handed.1)
          c.in-Err.ensures.cause;
      kept = all_kept c.args.shelf.now c.for_each.new.self c.for_each.new.self (Some end.DiskFault) end.DiskFault
          (kept_read c.args.shelf.now c.for_each.new.self c.for_each.ensures.same c.requires.can) (λ none. absurd (cc none)) (λ h. refl);
      in_order = λ can. c.for_each.ensures.in_order (c.requires.in_order (could_before c.args.shelf.now c.for_each.new.self c.for_each.ensures.same can));
    }
