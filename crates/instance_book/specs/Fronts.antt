-- Fronts of the states of pages.
use Rattle.std.specs.Prelude.{◌≡◌}
use Rattle.script_nodes.specs.Setup.{Named}
use Rattle.kept_states.specs.MachineStates.Views.{suspended_of}
use Rattle.kept_states.specs.MachineStates.declared.frame.Suspended as stored
use Rattle.kept_states.specs.FrameCodec.Fronts.{front}
use Rattle.kept_states.specs.FrameCodec.declared.need.Need.{Need}
use Rattle.instance_book.specs.declared.numbered.Numbered.{Numbered}
use Rattle.instance_book.specs.declared.in_order.InOrder.{InOrder}
use Rattle.instance_book.specs.declared.page.KeptPage.{KeptPage}
use Rattle.instance_book.specs.Places.{AreStatesOf}

-- this is so much of the page's state as is needed
abbrev pub IsFrontIn : Named → InOrder KeptPage → Numbered KeptPage → Need → stored.Suspended → Type 0
IsFrontIn s ps p n d = (are : AreStatesOf s ps p) → front n are.own.state ≡ suspended_of d
