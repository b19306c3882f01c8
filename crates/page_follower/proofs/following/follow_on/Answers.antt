use Rattle.std.proofs.Common.{rules, ◌∙◌, IsTrue, Some, ap, sym, subst, refl}
use Rattle.shelf.specs.PageJournal.Settled.{view_of}
use Rattle.shelf.proofs.PageJournal.Scans.{quiet_none}
use Rattle.page_follower.specs.Comparing.{progress}
use Rattle.page_follower.specs.Held.{Begins, fed_behind, headless}
use Rattle.page_follower.proofs.Adoptions.{quiet_rested}
use Rattle.page_follower.proofs.Causes.{begun_causes, causes_to, head_causes}
use Rattle.page_follower.proofs.Kept.{all_kept, kept_none}
use Rattle.page_follower.proofs.Ordered.{of_newest}
use Rattle.page_follower.proofs.following.follow_on.Goals as goal

pub returns-in-Some : goal.returns-in-Some
returns-in-Some g c =
    let begun = c.begin-comparer.ensures in
    let at = progress g.S.Source.view g.O.Sink.view c.begin-comparer.result in
    let begins = subst (Begins (g.S.Source.view c.args.source.now) (g.O.Sink.view c.args.sink.now) at) c.in-Some.is begun.begins in
    let disk = c.args.shelf.now.journal.disk in
    record {
      follows = λ (told : IsTrue g.D.Disk.tells).
          let rested = quiet_rested g.D.Disk.view c.args.shelf.now.journal c.args.shelf.now.journal (c.requires.readable.settled told)
          (of_newest g.D.Disk.view g.D.Disk.tells c.args.shelf.now (c.requires.in_order c.requires.can))
          (quiet_none (g.D.Disk.view disk) (g.met.D.Disk.only_now disk)) in
          record {
            new = at;
            source_is = ap g.S.Source.view (sym (search (rules, begun.source)));
            sink_is = ap g.O.Sink.view (sym (search (rules, begun.sink)));
            follows = headless begins (refl, (disk, rested, (disk, (refl, refl), refl)));
          };
      causes = causes_to g.S.Source.view g.O.Sink.view _ c.begin-comparer.result.source.now _ c.begin-comparer.result.sink.now _
          (view_of g.D.Disk.view c.args.shelf.now.journal) (Some c.in-Some.end)
          (head_causes _ _ at (view_of g.D.Disk.view c.args.shelf.now.journal) c.in-Some.end begins begun.later)
          (search (rules, begun.source)) (search (rules, begun.sink));
      kept = all_kept c.args.shelf.now c.args.shelf.now c.args.shelf.now (Some c.in-Some.end) c.in-Some.end
          (kept_none c.args.shelf.now c.requires.can) (λ none. absurd (cc none)) (λ h. refl);
      in_order = c.requires.in_order;
    }

pub returns-in-None : goal.returns-in-None
returns-in-None g c =
    let begun = c.begin-comparer.ensures in
    let at = progress g.S.Source.view g.O.Sink.view c.begin-comparer.result in
    let begins = subst (Begins (g.S.Source.view c.args.source.now) (g.O.Sink.view c.args.sink.now) at) c.in-None.is begun.begins in
    let fed = c.feed.ensures in
    let names = fed.same.0 ∙ begun.source in
    let sinks = fed.same.1 ∙ begun.sink in
    record {
      follows = λ (told : IsTrue g.D.Disk.tells). record {
        new = progress g.S.Source.view g.O.Sink.view c.feed.new.self;
        source_is = ap g.S.Source.view (sym (search (rules, names)));
        sink_is = ap g.O.Sink.view (sym (search (rules, sinks)));
        follows = fed_behind at begins (fed.feeds told);
      };
      causes = causes_to g.S.Source.view g.O.Sink.view _ c.feed.new.self.source.now _ c.feed.new.self.sink.now _
          (view_of g.D.Disk.view c.feed.new.shelf.journal) (Some c.feed.result)
          (begun_causes _ _ at (view_of g.D.Disk.view c.args.shelf.now.journal) _ c.feed.result begins fed.causes)
          (search (rules, names)) (search (rules, sinks));
      kept = fed.kept;
      in_order = fed.in_order;
    }
