use Rattle.std.specs.Prelude.{IfSome}
use Rattle.http_forms.specs.Passes.{MaySkip}
use Rattle.http_forms.specs.Reader.{kept}
use Rattle.request_workers.specs.Linking.{links_count}
use Rattle.request_workers.proofs.Chains.{Goes}
use Rattle.request_workers.proofs.link.serve_link.Given as goal

abbrev pub invariant-loop-end : goal.invariant-loop-end
invariant-loop-end g l = record {
  goes : Goes (g.A.Answering.rules l.answering) (g.C.Clock.shows l.clock) l.requests l.fn.pass l.pass (kept l.reader)
      (g.L.Link.view l.fn.link) (g.L.Link.view l.link) (links_count l.links) l.left;
  ticked : IfSome l.ticked (MaySkip (g.A.Answering.rules l.answering) l.pass);
}

abbrev pub decreases-loop-end : goal.decreases-loop-end
decreases-loop-end g l = l.left
