use Rattle.std.proofs.Common.{refl}
use Rattle.book_visits.proofs.prepared.clone_change.Goals as goal

pub returns : goal.returns
returns c =
    let same = c.in_ok-copy.ensures in
    rw c.in-Some.is (record {
      decision = λ r. rw (same.change, same.inside) refl;
      instances = same.instances;
      room = same.room;
      states = same.states;
    })
