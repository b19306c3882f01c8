use Rattle.std.proofs.Common.{◌∙◌, ap, refl}
use Rattle.script_value.specs.declared.outcome.Reply.{Reply}
use Rattle.book_visits.specs.Views.{reply_of}
use Rattle.book_visits.specs.Changes.{decision_by}
use Rattle.book_visits.proofs.prepared.Prepared.try_clone.Goals as goal

pub returns : goal.returns
returns c =
    let same = c.in_ok-change.ensures in
    record {
      reply = c.in_ok-reply.ensures;
      logged = refl;
      decision = ap (λ (r : Reply). decision_by (reply_of r) c.in_ok-change.change) c.in_ok-reply.ensures ∙ same.decision (reply_of c.args.self.now.reply);
      instances = same.instances;
      room = same.room;
      states = same.states;
    }
