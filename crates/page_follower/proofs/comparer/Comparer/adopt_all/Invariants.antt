use Rattle.std.proofs.Common.{◌≡◌, ◌≤◌, IsTrue, None}
use Rattle.shelf.specs.PageJournal.Settled.{bodies_in, view_of}
use Rattle.shelf.specs.Following.{CanBeFed, IsInOrderIfFed}
use Rattle.page_follower.specs.Causes.{HasCauses, faults_at}
use Rattle.page_follower.specs.Comparing.{HoldsTheSame, progress}
use Rattle.page_follower.specs.Held.{Adopting}
use Rattle.page_follower.specs.Keeping.{IsKept}
use Rattle.page_follower.proofs.Adoptions.{left_to_read}
use Rattle.page_follower.proofs.comparer.Comparer.adopt_all.Given as goal

abbrev pub invariant-records : goal.invariant-records
invariant-records g l = record {
  same : HoldsTheSame l.fn.self l.self;
  room : l.self.ending ≡ None → l.self.acks ≤ l.self.reader.place;
  can : l.self.ending ≡ None → CanBeFed l.shelf;
  in_order : IsInOrderIfFed g.D.Disk.view g.D.Disk.tells l.shelf;
  ended : (l.fn.self.ending ≡ None → ⊥) → (l.self ≡ l.fn.self) × (l.shelf ≡ l.fn.shelf);
  adopts : IsTrue g.D.Disk.tells → l.fn.self.ending ≡ None → Adopting g.D.Disk.view (progress g.S.Source.view g.O.Sink.view l.fn.self)
      (progress g.S.Source.view g.O.Sink.view l.self) l.fn.shelf.journal.disk l.shelf.journal.disk (bodies_in g.D.Disk.view l.fn.shelf.journal)
      (bodies_in g.D.Disk.view l.shelf.journal) l.self.ending;
  causes : l.fn.self.ending ≡ None → HasCauses (faults_at (progress g.S.Source.view g.O.Sink.view l.fn.self) (view_of g.D.Disk.view l.fn.shelf.journal))
      (faults_at (progress g.S.Source.view g.O.Sink.view l.self) (view_of g.D.Disk.view l.shelf.journal)) l.self.ending;
  kept : l.fn.self.ending ≡ None → IsKept l.fn.shelf l.shelf l.self.ending;
}

abbrev pub decreases-records : goal.decreases-records
decreases-records g l = left_to_read l.self.ending l.self.reader.place
