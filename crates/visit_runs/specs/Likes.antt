-- What the segment of a visit is like.
use Rattle.std.specs.Prelude.{◌≡◌, ℕ, List}
use Rattle.script_value.specs.Val.{Val}
use Rattle.send_suspend.specs.ReplaySpec.Tape.{present}
use Rattle.send_suspend.specs.ReplaySpec.Next.{Visit, comes_to}
use Rattle.send_suspend.specs.MachineStates.Machine.{inside_of}
use Rattle.send_suspend.specs.MachineStates.Views.{Keeps, segment_of}
use Rattle.send_suspend.specs.MachineStates.declared.segment.Segment.{Segment}
use Rattle.instance_book.specs.Visits.{KeepsStateOver}

-- A segment is that of a visit over these cells; a page that it shows has its state kept over the visit's tape, and is inside the
-- transactions of the state's frames.
pub record IsLike (v : Visit) (cells : List Val) (fuel : ℕ) (r : Segment) : Type 0 where
  pub comes : segment_of r ≡ comes_to v (present cells fuel)
  pub state : KeepsStateOver v r
  pub inside : Keeps r.outcome (λ d. inside_of d.frames ≡ r.entered.items)
